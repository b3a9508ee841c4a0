-- Laws of every run about the paths and refusals that clients get.
use Rattle.std.specs.Prelude.{◌≡◌, ◌≢◌, ◌⊎◌, ℕ, true, List, [], ◌∷◌, Some, None}
use Rattle.plant_model.specs.Types.{As, Reply, Path, Request, Wanted, NetworkParts, Outside}
use Rattle.plant_laws.specs.Ends.{End, goal_of}
use Rattle.pcep_codes.specs.declared.no_paths.TheConstants as no_paths
use Rattle.pcep_messages.specs.declared.message.Answer.TheVariants.{Paths, NoPath}
use Rattle.plant_model.specs.Wire.{Codec}
use Rattle.plant_model.specs.Branches.{path_of}
use Rattle.plant_model.specs.Element.{is_client}
use Rattle.plant_model.specs.BorderGraph.{Found}
use Rattle.plant_text.specs.Settings.{class_of}
use Rattle.plant_model.specs.Plant.{Plant, Entry, deeds_of}
use Rattle.plant_laws.specs.Transcript.{Transcript, Visit, domains}
use Rattle.plant_laws.specs.About.{Replies, IsAbout, IsViaParent, HasNoneAlong, IsLeastPath}
use Rattle.plant_text.specs.Names.{parent_as}
use Rattle.plant_laws.specs.Runs.{InShortRuns}

-- The path that a client gets was found by the parent over its border graph.
pub record IsOfParent (c : Codec) (n : NetworkParts) (older now : Transcript) (d : As) (i : ℕ) (r : Reply) (paths : List Path) : Type 0 where
  pub found : Found
  pub via : IsViaParent c n older now d (Outside i) r.id (Some found)
  pub one : paths ≡ path_of c via.asks.asked.query.metric found.cost found.hops ∷ []

-- The path that a client gets is least along the chain of its request, to the target; or over what the outside peer told at its end.
pub record IsOfChain (c : Codec) (n : NetworkParts) (older now : Transcript) (d : As) (i : ℕ) (r : Reply) (paths : List Path) : Type 0 where
  pub request : Request
  pub wanted : Wanted
  pub chain : List Visit
  pub end : End
  pub same : request.id ≡ r.id
  pub about : IsAbout c n older now d (Outside i) request wanted chain end
  pub path : Path
  pub one : paths ≡ path ∷ []
  pub least : IsLeastPath c n true (domains chain) chain end wanted wanted.source path

-- A client is answered by an element. Each path answered to a client is of least cost among all walks through the asked domains in order, each domain as it stood
-- when its element took the request; where an outside peer was asked for the domains behind them, among all walks that go on over what it told.
abbrev pub LeastAnswersIn : Codec → NetworkParts → List Entry → Plant → Type 0
LeastAnswersIn c n es s =
    (m older : Transcript) (d : As) (i : ℕ) (r : Reply) → is_client (class_of n (Outside i)) ≡ true → Replies (deeds_of c n es) m older d (Outside i) r →
    (paths : List Path) → r.answer ≡ Paths paths → (d ≢ parent_as) × (IsOfParent c n older m d i r paths ⊎ IsOfChain c n older m d i r paths)

abbrev pub LeastAnswers : Type 0
LeastAnswers = InShortRuns LeastAnswersIn

-- There is no walk along the chain of the client's request, to the target; or none over what the outside peer told at its end.
pub record HasNoneOfChain (c : Codec) (n : NetworkParts) (older now : Transcript) (d : As) (i : ℕ) (r : Reply) : Type 0 where
  pub request : Request
  pub wanted : Wanted
  pub chain : List Visit
  pub end : End
  pub same : request.id ≡ r.id
  pub about : IsAbout c n older now d (Outside i) request wanted chain end
  pub none : HasNoneAlong wanted.query (domains chain) wanted.source (goal_of end)

-- NO-PATH of nature 0 to a client says that there is none.
abbrev pub NoneAnswersIn : Codec → NetworkParts → List Entry → Plant → Type 0
NoneAnswersIn c n es s =
    (m older : Transcript) (d : As) (i : ℕ) (r : Reply) → is_client (class_of n (Outside i)) ≡ true → Replies (deeds_of c n es) m older d (Outside i) r →
    (vector : ℕ) → r.answer ≡ NoPath no_paths.NONE_FOUND vector → (d ≢ parent_as) × (IsViaParent c n older m d (Outside i) r.id None ⊎ HasNoneOfChain c n older m d i r)

abbrev pub NoneAnswers : Type 0
NoneAnswers = InShortRuns NoneAnswersIn
