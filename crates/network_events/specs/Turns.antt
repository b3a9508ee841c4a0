-- The actions of a step of a session, at any input and at a tick.
use Rattle.std.specs.Prelude.{◌≡◌, ◌⊎◌, ◌≤◌, List, [], ◌∷◌, length}
use Rattle.pce_common.specs.plant_model.Types.{Tick, Message, Action, Own, Input, State as Session}
use Rattle.pcep_session.specs.declared.actions.Action.TheVariants.{Send, Down, Pass}
use Rattle.pcep_session.specs.declared.actions.Own.TheVariants.{Keepalive}
use Rattle.pcep_session.specs.declared.actions.Reason.{Reason}
use Rattle.pcep_session.specs.declared.session.Input.TheVariants.{Tick as Ticked}
use Rattle.pcep_session.specs.Table.{turn_of}
use Rattle.network_links.specs.declared.TheConstants.{OWN_LENGTH}
use Rattle.network_links.specs.Ends.{own_bytes}
use Rattle.network_events.specs.Acting.{IsOwnTurn}

-- a message is passed on, and nothing else is done
abbrev pub IsPass : List Action → Type 0
IsPass as' = (m : Message) × (as' ≡ Pass m ∷ [])

-- last messages, no longer than an error or a Close, and then the end
abbrev pub IsLast : List Action → Type 0
IsLast as' = (o : Own) × (why : Reason) × (length (own_bytes o) ≤ OWN_LENGTH) × (as' ≡ Send o ∷ Down why ∷ [])

-- nothing, a Keepalive, or the end
abbrev pub IsTickTurn : List Action → Type 0
IsTickTurn as' = (as' ≡ []) ⊎ (as' ≡ Send Keepalive ∷ []) ⊎ IsLast as'

-- A message that is passed on is passed alone; else nothing is. At a tick nothing is passed on.
abbrev pub StepsAreTurns : Type 0
StepsAreTurns = (s : Session) (input : Input) → IsOwnTurn (turn_of s input).actions ⊎ IsPass (turn_of s input).actions

abbrev pub TicksAreTurns : Type 0
TicksAreTurns = (s : Session) (now : Tick) → IsTickTurn (turn_of s (Ticked now)).actions
