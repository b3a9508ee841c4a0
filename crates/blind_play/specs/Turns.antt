-- An event of a line that is played on a network without topologies: the event, its answer, and its transcript.
use Rattle.std.specs.Prelude.{ℕ, Bool, false, List, [], ◌∷◌, Ok}
use Rattle.std.specs.List.{flat_map}
use Rattle.plant_text.specs.Sents.{sent_line}
use Rattle.plant_network.specs.plant_model.Types.{NetworkParts, PeerRow}
use Rattle.plant_network.specs.plant_model.declared.event.BlindEvent.{BlindEvent}
use Rattle.plant_network.specs.plant_model.declared.outcome.Outcome.TheVariants as outcome
use Rattle.plant_network.specs.plant_model.Blind.{BlindHappened, BlindHappens, BlindState, Drained, Heard, Message, Nothing, heard}
use Rattle.plant_network.specs.plant_model.Events.{Answered}
use Rattle.plant_network.specs.plant_model.RealWire.{wire}
use Rattle.plant_network.specs.plant_model.State.{Deed}
use Rattle.transcript.specs.Lines.{answer_line, name_of}

-- an event, its answer, its deeds (the newest first), and the state that it leaves
pub record Turn : Type 0 where
  pub event : BlindEvent
  pub answer : Answered
  pub deeds : List (Deed Nothing)
  pub after : BlindState

abbrev pub happened_in : Turn → BlindHappened
happened_in t = record { answer = t.answer; state = t.after; deeds = t.deeds }

-- the event happens in this state
abbrev pub IsTurn : NetworkParts → BlindState → Turn → Type 0
IsTurn n s t = BlindHappens wire n s t.event (happened_in t)

-- the events, the newest first, in front of older ones
abbrev pub trace_of : List Turn → List BlindEvent → List BlindEvent
trace_of [] older = older
trace_of (t ∷ ts) older = trace_of ts (t.event ∷ older)

-- what closed peers hear of the events, in order
abbrev pub all_heard : NetworkParts → List Turn → List Heard
all_heard n ts = flat_map (λ t. heard wire n t.deeds) ts

-- ---- the transcript

-- whether the session of the peer that drains is over
abbrev pub is_ended : Answered → Bool
is_ended (Ok (outcome.Drained bytes ended)) = ended
is_ended answer = false

-- a message as `LINE FROM>TO HEX`; what a peer drains as the answer to its drain
abbrev pub heard_text : ℕ → List PeerRow → Bool → Heard → List ℕ
heard_text line peers ended (Message x) = sent_line line x.from (name_of peers x.to) x.bytes
heard_text line peers ended (Drained i bytes) = answer_line line (Ok (outcome.Drained bytes ended))

-- of an event what closed peers hear of it, and nothing else
abbrev pub turn_text : ℕ → NetworkParts → Turn → List ℕ
turn_text line n t = flat_map (heard_text line n.peers (is_ended t.answer)) (heard wire n t.deeds)

abbrev pub turns_text : ℕ → NetworkParts → List Turn → List ℕ
turns_text line n ts = flat_map (turn_text line n) ts
