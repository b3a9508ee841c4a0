-- Each message that an element takes from an outside peer was fed there by that peer.
use Rattle.std.specs.Prelude.{◌≡◌, ◌==◌, ℕ, cond, List, [], ◌∷◌, ◌++◌, Option, Contains}
use Rattle.plant_laws.specs.plant_model.Types.{As, Message, NetworkParts, Outside}
use Rattle.pcep_messages.specs.Messages.{Reads}
use Rattle.pcep_messages.specs.Splitting.{split_of}
use Rattle.plant_laws.specs.plant_model.declared.event.Event.{Event}
use Rattle.plant_laws.specs.plant_model.declared.event.Event.TheVariants as event
use Rattle.plant_laws.specs.plant_model.declared.output.Output.{Output}
use Rattle.plant_laws.specs.plant_model.Blind.{is_accepted}
use Rattle.plant_laws.specs.plant_model.Outside.{heeded_in}
use Rattle.plant_laws.specs.plant_model.Plant.{Entry, Plant, Run, deeds_of}
use Rattle.plant_laws.specs.plant_model.RealWire.{wire}
use Rattle.plant_laws.specs.plant_model.State.{Takes}
use Rattle.plant_laws.specs.plant_model.Wire.{Bytes}
use Rattle.run_laws.specs.Received.{framed}

-- ---- what a peer feeds

abbrev pub fed_to : Bytes → List Bytes → List Bytes
fed_to bytes [] = []
fed_to bytes (stream ∷ older) = (stream ++ bytes) ∷ older

-- an Open begins a stream, and a feed goes on with it
abbrev pub streams_with : ℕ → Event → List Bytes → List Bytes
streams_with i (event.Open j holder) streams = cond (j == i) ([] ∷ streams) streams
streams_with i (event.Feed j bytes) streams = cond (j == i) (fed_to bytes streams) streams
streams_with i _ streams = streams

-- what the peer fed in accepted events, a stream for each Open, the newest first
abbrev pub streams : ℕ → List Entry → List Bytes
streams i [] = []
streams i (e ∷ older) = cond (is_accepted e.answer) (streams_with i e.event (streams i older)) (streams i older)

-- ---- what is read of it

-- a part of a whole message of the stream: one of its requests or replies
pub record IsPart (stream part : Bytes) : Type 0 where
  pub frame : Bytes
  pub among : Contains (framed stream).frames frame
  pub of_frame : Contains (split_of frame) part

-- the peer fed this message
pub record WasFed (i : ℕ) (es : List Entry) (m : Message) : Type 0 where
  pub stream : Bytes
  pub fed : Contains (streams i es) stream
  pub part : Bytes
  pub is_part : IsPart stream part
  pub reads : Reads part m

-- A message that is taken is what is heeded of such a message.
abbrev pub TakenWasFed : Type 0
TakenWasFed =
    (n : NetworkParts) (es : List Entry) (s : Plant) → Run wire n es s →
    (at : As) (i : ℕ) (m : Message) (os : List Output) → Contains (deeds_of wire n es) (Takes at (Outside i) m os) →
    (raw : Message) × WasFed i es raw × ((sent : ℕ → Option ℕ) × (m ≡ heeded_in wire sent raw))
