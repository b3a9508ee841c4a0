-- A good request: an element accepted it, its peer does not give it up, and on its way policy allows each step, the session with the next
-- is up and stays so, tables have room and keys are free; an outside peer that is asked answers paths, or that there are none; and the
-- parent, where it is asked, is asked of IPv4 and hears of paths or none from its children. In the next quiet state it had its one answer:
-- paths, or that there are none.
use Rattle.std.specs.Prelude.{◌≡◌, ◌≢◌, ℕ, true, List, ◌∷◌, [], Contains, Some}
use Rattle.plant_model.specs.Types.{As, Addr, Peer, Outside, Inner, ErrorReport, Notice, Reply, Wanted, NetworkParts}
use Rattle.pcep_codes.specs.declared.errors.TheConstants as errors
use Rattle.pcep_codes.specs.declared.notices.TheConstants as notices
use Rattle.pcep_codes.specs.declared.kinds.TheConstants as object_types
use Rattle.pcep_messages.specs.declared.message.Message.TheVariants as messages
use Rattle.request_table.specs.Pending.{key_of}
use Rattle.plant_text.specs.Names.{parent_as}
use Rattle.plant_model.specs.declared.output.Output.{Output}
use Rattle.plant_model.specs.Names.{the_parent, has_pair}
use Rattle.plant_model.specs.Wire.{Codec}
use Rattle.plant_model.specs.RealWire.{wire}
use Rattle.plant_model.specs.Laws.{IsNetwork}
use Rattle.plant_model.specs.Writing.{request_message, busy, ends_kind}
use Rattle.plant_model.specs.State.{Takes, Downs}
use Rattle.plant_model.specs.Element.{Waits, Row}
use Rattle.plant_model.specs.Plant.{Pin, Plant, PlantDeed, Entry, Run, deeds_of}
use Rattle.plant_laws.specs.About.{IsShort}
use Rattle.plant_laws.specs.Transcript.{Transcript, Within, opened, Handed, SentIn, outputs_at}
use Rattle.plant_laws.specs.Chains.{IsQuiet}
use Rattle.plant_laws.specs.Answered.{IsEnd, DropsFor, answers_of}
use Rattle.plant_laws.specs.MessageCauses.{TellsOfPaths, IsError, Notes, Fails, noted, failed}
use Rattle.plant_laws.specs.Met.{RunOf, run_of}
use Rattle.plant_laws.specs.Broken.{IsStopped, IsStoppedAbove}
use Rattle.plant_laws.specs.Full.{IsCrowded, LacksKeys}
use Rattle.plant_laws.specs.Runs.{InShortRuns}

-- The way of the request x of p, which d accepted in a moment: who took it, from whom and under which id, and the moment of the run that
-- delivered it there.
pub data IsOnWay (now : Transcript) (d : As) (p : Peer) (x : ℕ) (at : Transcript) : As → Peer → ℕ → Transcript → Type 0 where
  first : IsOnWay now d p x at d p x at
  next : (a b : As) (q : Peer) (y z : ℕ) (sending taken : Transcript) (w : Wanted) (t : Addr) (rest : List As) → IsOnWay now d p x at a q y sending →
      SentIn sending a (Inner b) (request_message z w t rest) → Handed a b sending taken → Within taken now → IsOnWay now d p x at b (Inner a) z taken

-- What the outside peer says to b of the request z from this moment on: paths, or that there are none; no error, but one of another reply;
-- and not that there is no room.
pub record AnswersWell (now taken : Transcript) (b : As) (i z : ℕ) : Type 0 where
  pub replies : (r : Reply) (os : List Output) (older : Transcript) → r.id ≡ z → Within (Takes b (Outside i) (messages.PcRep (r ∷ [])) os ∷ older) now → Within taken older → TellsOfPaths r.answer
  pub serves : (reports : List ErrorReport) (error rp : ℕ × ℕ) (os : List Output) (older : Transcript) → Contains (failed reports) (Fails error rp) → rp.1 ≡ z → Within (Takes b (Outside i) (messages.PcErr reports) os ∷ older) now →
      Within taken older → IsError error errors.UNKNOWN_REQUEST
  pub room : (told : List Notice) (kinds : List (ℕ × ℕ)) (rp : ℕ × ℕ) (os : List Output) (older : Transcript) → Contains (noted told) (Notes kinds rp) → rp.1 ≡ z → has_pair notices.BUSY.0 notices.BUSY.1 kinds ≡ true →
      Within (Takes b (Outside i) (messages.PcNtf told) os ∷ older) now → ¬ Within taken older

-- b, which took the request y of q in a moment, may send it on, and can
pub record GoesWell (c : Codec) (n : NetworkParts) (this : RunOf c n) (now : Transcript) (b : As) (q : Peer) (y : ℕ) (taken : Transcript) : Type 0 where
  -- policy allows the step, and the session with the next is up
  pub allowed : (deed : PlantDeed) (older : Transcript) → taken ≡ deed ∷ older → ¬ IsStopped c n this b q y deed older
  -- at the parent the session with each child is up
  pub allowed_above : (deed : PlantDeed) (older : Transcript) → taken ≡ deed ∷ older → b ≡ parent_as → ¬ IsStoppedAbove c n this q y deed older
  -- where the parent is asked, it is asked of IPv4 addresses
  pub ipv4 : (z : ℕ) (w : Wanted) (rest : List As) → SentIn taken b the_parent (request_message z w w.target rest) → ends_kind w.source w.target ≡ object_types.FIRST
  -- and each child that it asks replies paths, or that there are none, and none says that there is no room
  pub children : (a : As) (w : Wanted) (t : Addr) (r : Reply) (os : List Output) (older : Transcript) → b ≡ parent_as → SentIn taken parent_as (Inner a) (request_message r.id w t (a ∷ [])) →
      Within (Takes parent_as (Inner a) (messages.PcRep (r ∷ [])) os ∷ older) now → TellsOfPaths r.answer
  pub children_room : (a : As) (w : Wanted) (t : Addr) (rest : List As) (flags id : ℕ) (os : List Output) (older : Transcript) → b ≡ parent_as → SentIn taken parent_as (Inner a) (request_message id w t rest) →
      ¬ Within (Takes parent_as (Inner a) (busy flags id) os ∷ older) now
  -- its table had room, and its solve finds keys enough
  pub room : (deed : PlantDeed) (older : Transcript) → taken ≡ deed ∷ older → ¬ IsCrowded c n this b q y deed older
  pub keys : (deed : PlantDeed) (older : Transcript) → Within (deed ∷ older) now → opened c b q y older ≡ Some taken → ¬ LacksKeys c n this b q y deed older
  -- the session with the next does not go down from then on; at the parent, none with a child
  pub stays : (on : Peer) (z : ℕ) (w : Wanted) (rest : List As) (os : List Output) (older : Transcript) → SentIn taken b on (request_message z w w.target rest) → q ≢ on → Within (Downs b on os ∷ older) now → ¬ Within taken older
  pub stays_above : (a : As) (os : List Output) (older : Transcript) → b ≡ parent_as → q ≢ Inner a → Within (Downs parent_as (Inner a) os ∷ older) now → ¬ Within taken older
  -- the outside peer that it asks, where it asks one, says no worse than that there are no paths, and has answered
  pub outside : (i z : ℕ) (w : Wanted) (rest : List As) → SentIn taken b (Outside i) (request_message z w w.target rest) → AnswersWell now taken b i z
  pub answered : (i z : ℕ) (w : Wanted) (rest : List As) (h : Row Pin) → SentIn taken b (Outside i) (request_message z w w.target rest) → Contains (this.state.elements b).pending.rows h → h.1.key ≡ key_of q y →
      h.1.item.stage ≢ Waits (Outside i) z

pub record IsGood (c : Codec) (n : NetworkParts) (this : RunOf c n) (now : Transcript) (d : As) (p : Peer) (x : ℕ) (at : Transcript) : Type 0 where
  -- its peer does not cancel it, and keeps its session
  pub kept : (deed : PlantDeed) (older : Transcript) → Within (deed ∷ older) now → Within at older → ¬ DropsFor d p x deed
  pub way : (b : As) (q : Peer) (y : ℕ) (taken : Transcript) → IsOnWay now d p x at b q y taken → GoesWell c n this now b q y taken

-- its one answer
pub record IsWellServed (c : Codec) (now : Transcript) (d : As) (p : Peer) (x : ℕ) (at : Transcript) : Type 0 where
  pub end : IsEnd c now d p x at
  pub once : answers_of d p x end.deed ≡ 1
  pub reply : Reply
  pub said : Contains (outputs_at d end.deed) (record { to = p; message = messages.PcRep (reply ∷ []) })
  pub id : reply.id ≡ x
  pub tells : TellsOfPaths reply.answer

abbrev pub GoodRequestsAreServedIn : Codec → NetworkParts → List Entry → Plant → Type 0
GoodRequestsAreServedIn c n es s =
    (run : Run c n es s) → IsQuiet s → (d : As) (p : Peer) (x : ℕ) (at : Transcript) → d ≢ parent_as → Within at (deeds_of c n es) → opened c d p x at ≡ Some at →
    IsGood c n (run_of c n es s run) (deeds_of c n es) d p x at → IsWellServed c (deeds_of c n es) d p x at

abbrev pub GoodRequestsAreServed : Type 0
GoodRequestsAreServed = InShortRuns GoodRequestsAreServedIn

-- There are good requests: a run over PCEP that ended quiet, in which a request of an outside peer is good that went on to a further
-- domain.
pub record HasGoodRequest : Type 0 where
  pub n : NetworkParts
  pub obeys : IsNetwork n
  pub this : RunOf wire n
  pub short : IsShort (deeds_of wire n this.entries)
  pub quiet : IsQuiet this.state
  pub d : As
  pub real : d ≢ parent_as
  pub i : ℕ
  pub x : ℕ
  pub at : Transcript
  pub within : Within at (deeds_of wire n this.entries)
  pub is_open : opened wire d (Outside i) x at ≡ Some at
  pub good : IsGood wire n this (deeds_of wire n this.entries) d (Outside i) x at
  pub b : As
  pub y : ℕ
  pub taken : Transcript
  pub further : IsOnWay (deeds_of wire n this.entries) d (Outside i) x at b (Inner d) y taken
