-- Why a request was answered that the chain is not available (NO-PATH of another nature than 0): on its way an element denied the step
-- or had no open session with the next, or lost the one with it; or an outside peer that was asked said so, or refused it; or the parent
-- refused IPv6 addresses, or had no open session with a child, or lost one.
use Rattle.std.specs.Prelude.{◌≡◌, ◌≢◌, ◌⊎◌, ℕ, Bool, true, false, List, [], ◌∷◌, Contains, Some}
use Rattle.plant_model.specs.Types.{As, Addr, Peer, Outside, Inner, ErrorReport, Reply, Wanted, NetworkParts}
use Rattle.pcep_codes.specs.declared.errors.TheConstants as errors
use Rattle.pcep_codes.specs.declared.kinds.TheConstants as object_types
use Rattle.pcep_messages.specs.declared.message.Message.TheVariants as messages
use Rattle.plant_text.specs.Names.{parent_as}
use Rattle.plant_text.specs.Settings.{children}
use Rattle.plant_model.specs.declared.output.Output.{Output}
use Rattle.plant_model.specs.Names.{the_parent}
use Rattle.plant_model.specs.Wire.{Codec}
use Rattle.plant_model.specs.Writing.{request_message, error_message, ends_kind, vspt_flag}
use Rattle.plant_model.specs.Element.{way_to}
use Rattle.plant_model.specs.Parent.{is_up}
use Rattle.plant_model.specs.State.{Takes, Downs}
use Rattle.plant_model.specs.Plant.{Plant, PlantDeed, Entry, Run, deeds_of}
use Rattle.plant_laws.specs.Transcript.{Transcript, Within, opened, SentIn, outputs_at}
use Rattle.plant_laws.specs.Errors.{AsksForIpv6}
use Rattle.plant_laws.specs.Met.{RunOf, run_of, TakesPathRequest}
use Rattle.plant_laws.specs.Matched.{IsReplyTo}
use Rattle.plant_laws.specs.MessageCauses.{TellsOfPaths, IsError, IsOutOfProfile, GoesTo, Fails, failed}
use Rattle.plant_laws.specs.WentOn.{WentOn}
use Rattle.plant_laws.specs.Runs.{InShortRuns}

-- In this moment d took the path request x of p, and could send it nowhere: policy denies the step, or no session with the next is up.
pub record IsStopped (c : Codec) (n : NetworkParts) (this : RunOf c n) (d : As) (p : Peer) (x : ℕ) (deed : PlantDeed) (older : Transcript) : Type 0 where
  pub taking : TakesPathRequest c n this d p x deed older
  pub next : Peer
  pub rest : List As
  pub denied : Bool
  pub goes : GoesTo n d p taking.wanted next rest denied
  pub stops : (denied ≡ true) ⊎ (is_up (way_to next (taking.before.elements d).ways) ≡ false)

-- In this moment the parent took the path request x of p, and asked no child: the session of one is not up.
pub record IsStoppedAbove (c : Codec) (n : NetworkParts) (this : RunOf c n) (p : Peer) (x : ℕ) (deed : PlantDeed) (older : Transcript) : Type 0 where
  pub taking : TakesPathRequest c n this parent_as p x deed older
  pub child : As
  pub is_child : Contains (children n) child
  pub down : is_up (way_to (Inner child) taking.before.parent.ways) ≡ false

-- The request x of p is open at the parent, and in the moment that delivered it the parent asked a child under the id y. The child said
-- this reply.
pub record WentDown (c : Codec) (older : Transcript) (p : Peer) (x : ℕ) (child : As) (r : Reply) : Type 0 where
  pub at : Transcript
  pub is_open : opened c parent_as p x older ≡ Some at
  pub wanted : Wanted
  pub target : Addr
  pub sent : SentIn at parent_as (Inner child) (request_message r.id wanted target (child ∷ []))
  pub deed : PlantDeed
  pub before : Transcript
  pub within : Within (deed ∷ before) older
  pub said : SentIn (deed ∷ before) child the_parent (messages.PcRep (r ∷ []))

-- The parent, which serves IPv4 alone, refused the request id of d.
pub record IsRefusedAbove (older : Transcript) (d : As) (id : ℕ) (reports : List ErrorReport) : Type 0 where
  pub deed : PlantDeed
  pub before : Transcript
  pub within : Within (deed ∷ before) older
  pub asks : AsksForIpv6 d id deed
  pub said : Contains (outputs_at parent_as deed) (record { to = Inner d; message = messages.PcErr reports })
  pub names : messages.PcErr reports ≡ error_message (Some (vspt_flag, id)) errors.KIND_NOT_SERVED.0 errors.KIND_NOT_SERVED.1

-- why d told p in a moment that no chain is available for its request x
pub data Breaks (c : Codec) (n : NetworkParts) (this : RunOf c n) : As → Peer → ℕ → PlantDeed → Transcript → Type 0 where
  stopped : (d : As) (p : Peer) (x : ℕ) (deed : PlantDeed) (older : Transcript) → IsStopped c n this d p x deed older → Breaks c n this d p x deed older
  -- the session with the peer to which it went on, went down while the request was open
  lost : (d : As) (p : Peer) (x : ℕ) (older : Transcript) (on : Peer) (y : ℕ) (os : List Output) → p ≢ on → WentOn c older d p x on y → Breaks c n this d p x (Downs d on os) older
  -- the parent, to which it went on, refused it: its ends are IPv6 addresses
  refused : (d : As) (p : Peer) (x : ℕ) (older : Transcript) (id : ℕ) (reports : List ErrorReport) (os : List Output) → (went : WentOn c older d p x the_parent id) →
      ends_kind went.wanted.source went.wanted.target ≡ object_types.END_POINTS_IPV6 → IsRefusedAbove older d id reports →
      Breaks c n this d p x (Takes d the_parent (messages.PcErr reports) os) older
  -- the next domain, or the parent, to which it went on, said so of that request, for a reason of its own
  further : (d b : As) (p : Peer) (x : ℕ) (older : Transcript) (r : Reply) (os : List Output) → ¬ TellsOfPaths r.answer → (went : WentOn c older d p x (Inner b) r.id) (said : IsReplyTo c older d b r) → said.concerns.sending ≡ went.at →
      Breaks c n this b (Inner d) r.id said.deed said.older → Breaks c n this d p x (Takes d (Inner b) (messages.PcRep (r ∷ [])) os) older
  -- the outside peer to which it went on told of no paths, and not that there are none
  outside : (d : As) (i : ℕ) (p : Peer) (x : ℕ) (older : Transcript) (r : Reply) (os : List Output) → ¬ TellsOfPaths r.answer → WentOn c older d p x (Outside i) r.id → Breaks c n this d p x (Takes d (Outside i) (messages.PcRep (r ∷ [])) os) older
  -- or answered it by an error, which is none of a reply, and does not say that it is not served
  outside_error : (d : As) (i : ℕ) (p : Peer) (x : ℕ) (older : Transcript) (reports : List ErrorReport) (error rp : ℕ × ℕ) (os : List Output) → Contains (failed reports) (Fails error rp) →
      ¬ IsError error errors.UNKNOWN_REQUEST → ¬ IsOutOfProfile error → WentOn c older d p x (Outside i) rp.1 → Breaks c n this d p x (Takes d (Outside i) (messages.PcErr reports) os) older
  -- at the parent: the session of a child was not up
  stopped_above : (p : Peer) (x : ℕ) (deed : PlantDeed) (older : Transcript) → IsStoppedAbove c n this p x deed older → Breaks c n this parent_as p x deed older
  -- or went down while the request was open
  lost_above : (p : Peer) (x : ℕ) (older at : Transcript) (b : As) (os : List Output) → p ≢ Inner b → opened c parent_as p x older ≡ Some at → Breaks c n this parent_as p x (Downs parent_as (Inner b) os) older
  -- or a child said so, for a reason of its own
  of_child : (b : As) (p : Peer) (x : ℕ) (older : Transcript) (r : Reply) (os : List Output) → ¬ TellsOfPaths r.answer → (went : WentDown c older p x b r) → Breaks c n this b the_parent r.id went.deed went.before →
      Breaks c n this parent_as p x (Takes parent_as (Inner b) (messages.PcRep (r ∷ [])) os) older

-- In every run each such reply of an element, or the parent, has a reason.
abbrev pub BrokenForReasonsIn : Codec → NetworkParts → List Entry → Plant → Type 0
BrokenForReasonsIn c n es s =
    (run : Run c n es s) (d : As) (p : Peer) (r : Reply) (deed : PlantDeed) (older : Transcript) → Within (deed ∷ older) (deeds_of c n es) →
    Contains (outputs_at d deed) (record { to = p; message = messages.PcRep (r ∷ []) }) → ¬ TellsOfPaths r.answer → Breaks c n (run_of c n es s run) d p r.id deed older

abbrev pub BrokenForReasons : Type 0
BrokenForReasons = InShortRuns BrokenForReasonsIn
