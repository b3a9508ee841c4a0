-- The replies of elements to their neighbours and the parent: for each entry the least cost of the rest of the chain, and nothing where
-- there is no walk.
use Rattle.std.specs.Prelude.{◌≡◌, ◌≢◌, ◌⊎◌, ℕ, true, false, List, [], ◌∷◌, Contains}
use Rattle.plant_model.specs.Types.{As, Addr, Peer, Reply, Path, Request, Wanted, Class, NetworkParts, Issued}
use Rattle.pcep_codes.specs.declared.no_paths.TheConstants as no_paths
use Rattle.pcep_messages.specs.declared.message.Answer.TheVariants.{Paths, NoPath}
use Rattle.plant_model.specs.declared.output.Output.{Output}
use Rattle.plant_text.specs.Names.{parent_as}
use Rattle.plant_model.specs.Wire.{Codec}
use Rattle.plant_model.specs.Jobs.{entries_of}
use Rattle.plant_text.specs.Settings.{class_of}
use Rattle.plant_model.specs.State.{Solves}
use Rattle.plant_model.specs.Plant.{Plant, Entry, Run, deeds_of, Segment}
use Rattle.plant_model.specs.Blind.{is_closed}
use Rattle.plant_laws.specs.Transcript.{Transcript, Within, Visit, domains, pinned}
use Rattle.plant_laws.specs.Ends.{End, goal_of}
use Rattle.plant_laws.specs.About.{Replies, IsAbout, HasNoneAlong, IsLeastPath}
use Rattle.plant_laws.specs.Runs.{InShortRuns}

-- the nodes that an asker of this class is answered for, in the first domain of a chain as it stood
abbrev pub entries_along : Class → Wanted → List Visit → List Addr
entries_along class w [] = []
entries_along class w (leg ∷ legs) = entries_of class w.source (pinned leg.own leg.at)

-- each path is least from one of the entries, and an entry without a path has no walk
pub record AreRightful (c : Codec) (n : NetworkParts) (class : Class) (chain : List Visit) (end : End) (w : Wanted) (paths : List Path) : Type 0 where
  pub each : (path : Path) → Contains paths path → (e : Addr) × Contains (entries_along class w chain) e × IsLeastPath c n false (domains chain) chain end w e path
  pub every : (e : Addr) → Contains (entries_along class w chain) e →
      HasNoneAlong w.query (domains chain) e (goal_of end) ⊎ ((path : Path) × Contains paths path × IsLeastPath c n false (domains chain) chain end w e path)

-- what an element told a closed peer about a request
pub record IsRightful (c : Codec) (n : NetworkParts) (older now : Transcript) (d : As) (p : Peer) (r : Reply) (paths : List Path) : Type 0 where
  pub request : Request
  pub wanted : Wanted
  pub chain : List Visit
  pub end : End
  pub same : request.id ≡ r.id
  pub about : IsAbout c n older now d p request wanted chain end
  pub right : AreRightful c n (class_of n p) chain end wanted paths

-- Each reply of paths that an element sends a closed peer is rightful.
abbrev pub LeastRepliesIn : Codec → NetworkParts → List Entry → Plant → Type 0
LeastRepliesIn c n es s =
    (m older : Transcript) (d : As) (p : Peer) (r : Reply) → d ≢ parent_as → is_closed n p ≡ true → Replies (deeds_of c n es) m older d p r →
    (paths : List Path) → r.answer ≡ Paths paths → IsRightful c n older m d p r paths

abbrev pub LeastReplies : Type 0
LeastReplies = InShortRuns LeastRepliesIn

-- NO-PATH of nature 0 to a closed peer says that no entry has a walk.
abbrev pub NoneRepliesIn : Codec → NetworkParts → List Entry → Plant → Type 0
NoneRepliesIn c n es s =
    (m older : Transcript) (d : As) (p : Peer) (r : Reply) → d ≢ parent_as → is_closed n p ≡ true → Replies (deeds_of c n es) m older d p r →
    (vector : ℕ) → r.answer ≡ NoPath no_paths.NONE_FOUND vector → IsRightful c n older m d p r []

abbrev pub NoneReplies : Type 0
NoneReplies = InShortRuns NoneRepliesIn

-- Each solve sends one message.
abbrev pub SolvesSendOne : Type 0
SolvesSendOne = (c : Codec) (n : NetworkParts) (es : List Entry) (s : Plant) → Run c n es s →
    (d : As) (k : ℕ) (os : List Output) (keys : List (Issued Segment)) (older : Transcript) → Within (Solves d k os keys ∷ older) (deeds_of c n es) → (o : Output) × (os ≡ o ∷ [])
