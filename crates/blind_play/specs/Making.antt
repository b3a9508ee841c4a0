-- An event that is done, as the parts that tell it see it.
use Rattle.std.specs.Prelude.{◌≡◌, ℕ, Bool, true, false, cond, List, [], ◌∷◌, ◌++◌, Option, Some, None, Ok, Err, OnOk}
use Rattle.std.specs.List.{flat_map}
use Rattle.plant_network.specs.plant_model.Types.{Sent, NetworkParts, Outside}
use Rattle.plant_network.specs.plant_model.declared.event.BlindEvent.{BlindEvent}
use Rattle.plant_network.specs.plant_model.declared.event.BlindEvent.TheVariants as blind
use Rattle.plant_network.specs.plant_model.declared.outcome.Refused.TheVariants as refused
use Rattle.plant_network.specs.plant_model.Blind.{BlindHappens, BlindState, IsBlindGiven, Nothing, heard_of, is_accepted, is_closed}
use Rattle.plant_network.specs.plant_model.Events.{Answered}
use Rattle.plant_network.specs.plant_model.RealWire.{wire}
use Rattle.plant_network.specs.plant_model.State.{Deed, said}
use Rattle.plant_network.specs.Blind.{Whole}
use Rattle.transcript.specs.Lines.{answer_line}
use Rattle.blind_play.specs.Due.{AreDue}
use Rattle.blind_play.specs.Turns.{IsTurn, Turn, heard_text, turn_text, turns_text}

-- an event is done, and memory did not run out
pub record Makes (old : Whole) (e : BlindEvent) (answer : Answered) (new : Whole) : Type 0 where
  pub network : new.network ≡ old.network
  pub deeds : List (Deed Nothing)
  pub happens : BlindHappens wire old.network old.state e (record { answer = answer; state = new.state; deeds = deeds })
  pub accepted : OnOk answer (new.said ≡ said wire deeds)

abbrev pub lacks_memory : Answered → Bool
lacks_memory (Ok o) = false
lacks_memory (Err refused.GenerationsFull) = false
lacks_memory (Err refused.NoSuchPeer) = false
lacks_memory (Err (refused.NotHolder n)) = false
lacks_memory (Err refused.NothingToCarry) = false
lacks_memory (Err refused.NoSuchJob) = false
lacks_memory (Err refused.NoMemory) = true

-- the event of a peer that a line names
abbrev pub IsGivenIfAny : Option BlindEvent → Type 0
IsGivenIfAny None = Unit {0}
IsGivenIfAny (Some e) = IsBlindGiven e

-- ---- its transcript

-- the outside peer that drains
abbrev pub drainer_of : BlindEvent → Option ℕ
drainer_of (blind.Drain i holder) = Some i
drainer_of e = None

-- messages to closed peers
abbrev pub closed_text : ℕ → NetworkParts → List Sent → List ℕ
closed_text line n sents = flat_map (heard_text line n.peers false) (heard_of n sents)

-- the answer to a drain of a closed peer
abbrev pub drain_text : ℕ → NetworkParts → Option ℕ → Answered → List ℕ
drain_text line n None answer = []
drain_text line n (Some i) answer = cond (is_closed n (Outside i)) (answer_line line answer) []

-- what is told of an accepted event; nothing of a refused one
abbrev pub told_of : ℕ → Whole → Option ℕ → Answered → List ℕ
told_of line w drainer (Ok o) = drain_text line w.network drainer (Ok o) ++ closed_text line w.network w.said
told_of line w drainer (Err why) = []

-- ---- events, one behind the other

-- an event is done and told
pub record MakesTurn (line : ℕ) (old : Whole) (e : BlindEvent) (accepted : Bool) (new : Whole) (before after : List ℕ) : Type 0 where
  pub network : new.network ≡ old.network
  pub turn : Turn
  pub event : turn.event ≡ e
  pub is_turn : IsTurn old.network old.state turn
  pub answers : is_accepted turn.answer ≡ accepted
  pub ends : new.state ≡ turn.after
  pub tells : after ≡ before ++ turn_text line old.network turn

-- events are done, and their text is appended
pub record Does (line : ℕ) (Line : NetworkParts → BlindState → List Turn → BlindState → Type 0) (old new : Whole) (before after : List ℕ) : Type 0 where
  pub network : new.network ≡ old.network
  pub turns : List Turn
  pub plays : Line old.network old.state turns new.state
  pub tells : after ≡ before ++ turns_text line old.network turns

-- events that were due, so far
abbrev pub DoesSome : ℕ → (NetworkParts → BlindState → Option BlindEvent → Type 0) → Whole → Whole → List ℕ → List ℕ → Type 0
DoesSome line Due old new before after = Does line (AreDue Due) old new before after

-- all events that are due are done
pub record DoesAll (line : ℕ) (Due : NetworkParts → BlindState → Option BlindEvent → Type 0) (old new : Whole) (before after : List ℕ) : Type 0 where
  pub some : DoesSome line Due old new before after
  pub over : Due old.network new.state None
