-- One end of a session: its state, and the messages that it has sent and that are on their way.
use Rattle.std.specs.Prelude.{◌≡◌, ℕ, Bool, true, false, cond, List, [], ◌∷◌, ◌++◌, Option, Some, None}
use Rattle.plant_model.specs.Types.{Tick, Action, Own, Input, State as Session}
use Rattle.pcep_messages.specs.Spelling.{message_text}
use Rattle.pcep_session.specs.declared.actions.Action.TheVariants.{Send, Up, Down, Pass}
use Rattle.pcep_session.specs.declared.session.Input.TheVariants.{Begin}
use Rattle.pcep_session.specs.Table.{new_state, turn_of}
use Rattle.plant_queues.specs.Messages.{Spare}
use Rattle.plant_model.specs.Names.{is_empty}
use Rattle.plant_model.specs.Wire.{Bytes}
use Rattle.plant_model.specs.State.{Connection}
use Rattle.plant_model.specs.RealWire.{wire}
use Rattle.plant_model.specs.Deeds.{our_offer, own_message, is_due, is_fall}
use Rattle.plant_model.specs.Events.{fed, is_down}

-- what is kept, and how many more messages there is room for, of how many bytes together
pub record Roomy (X : Type 0) : Type 0 where
  pub kept : X
  pub spare : Spare

abbrev pub Connected : Type 0
Connected = Roomy Connection

abbrev pub with_kept : {X : Type 0} → X → Roomy X → Roomy X
with_kept x r = record { kept = x; spare = r.spare }

pub record Sender : Type 0 where
  pub session : Session
  pub out : List Bytes

abbrev pub sends : Bytes → Sender → Sender
sends message x = record x { out = x.out ++ message ∷ [] }

-- the text of a message of a session's own (RFC 5440, sections 6.2, 6.3, 6.7 and 6.8)
abbrev pub own_bytes : Own → Bytes
own_bytes o = message_text (own_message o)

-- what a step says in messages of the session's own
abbrev pub said_in : List Action → List Bytes
said_in [] = []
said_in (Send o ∷ as') = own_bytes o ∷ said_in as'
said_in (Up ∷ as') = said_in as'
said_in (Down why ∷ as') = said_in as'
said_in (Pass m ∷ as') = said_in as'

-- a session that is made anew and begun says its Open
abbrev pub begun : ℕ → Tick → Sender → Sender
begun sid now x =
    let r = turn_of (new_state (our_offer sid) now) Begin in
    record { session = r.next; out = x.out ++ said_in r.actions }

-- a Keepalive that is due at a tick is left out where bytes are on their way
abbrev pub is_left_out : Bool → Own → List Bytes → Bool
is_left_out ticks o out = cond ticks (cond (is_due o) (cond (is_empty out) false true) false) false

-- a connection right after it came to be, before its session begins
abbrev pub just_open : ℕ → ℕ → Tick → Connection
just_open holder sid now = record {
  holder = holder;
  session = new_state (our_offer sid) now;
  framing = record { held = []; bad = false };
  inbox = [];
  out = [];
}

-- a connection after a piece of the stream; it stays as it is once its session is over
abbrev pub fed_while_up : Bytes → Connection → Connection
fed_while_up piece x = cond (is_down x.session.phase) x (fed wire piece x)

-- an action by which a session goes down
abbrev pub falls_at : Option Action → Bool
falls_at None = false
falls_at (Some a) = is_fall a

-- A session keeps its number.
abbrev pub StepsKeepNumber : Type 0
StepsKeepNumber = (s : Session) (input : Input) → (turn_of s input).next.offer.sid ≡ s.offer.sid
