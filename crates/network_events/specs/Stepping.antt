-- A session is given the first item that waits for it: the actions that it then asks for, and its next state.
use Rattle.std.specs.Prelude.{◌≡◌, true, List, Option, Some, Result, Ok, Err}
use Rattle.pce_common.specs.plant_model.Types.{As, NoMemory, Peer, Hop, Action, State as Session}
use Rattle.pcep_session.specs.Table.{turn_of}
use Rattle.pce_common.specs.plant_model.declared.outcome.Outcome.TheVariants.{Done}
use Rattle.pce_common.specs.plant_model.declared.outcome.Refused.TheVariants as refused
use Rattle.pce_common.specs.plant_model.Deeds.{input_of}
use Rattle.pce_common.specs.plant_model.Events.{Answered}
use Rattle.pce_common.specs.plant_model.RealWire.{wire}
use Rattle.pce_common.specs.plant_model.Wire.{Bytes}
use Rattle.network_links.specs.Flow.{Flow, first_at, session_at}
use Rattle.network_events.specs.Moving.{Moves, OrLacks}
use Rattle.network_events.specs.Peers.{receive_at}
use Rattle.network_events.specs.Standing.{Here}

pub record Steps (at : As) (to : Peer) (as' : List Action) (next : Session) (f : Flow) : Type 0 where
  pub session : Session
  pub item : Option Bytes
  pub there : session_at at to f ≡ Some session
  pub first : first_at at to f ≡ Some item
  pub asks : as' ≡ (turn_of session (input_of wire item)).actions
  pub becomes : next ≡ (turn_of session (input_of wire item)).next

-- it is done, or memory ran out
abbrev pub answer_of : Result (Unit {0}) NoMemory → Answered
answer_of (Ok u) = Ok Done
answer_of (Err lacks) = Err refused.NoMemory

module _ {P : Type 0} {S : Type 0} where
  -- a member is given the first item that waits for it
  abbrev pub Receives : (S → List Hop) → As → Peer → Result (Unit {0}) NoMemory → Here P S → Here P S → Type 0
  Receives show at to r old new = Moves (OrLacks show (λ s. true) (λ n s. receive_at P S n show at to s)) old (answer_of r) new
