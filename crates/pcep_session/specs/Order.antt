-- The order of a session's actions, over all lists of inputs.
use Rattle.std.specs.Prelude.{◌≡◌, ◌≤◌, ℕ, ◌+◌, List, [], ◌∷◌, ◌++◌}
use Rattle.dom_base.specs.declared.names.Tick.{Tick}
use Rattle.pcep_objects.specs.declared.offer.Offer.{Offer}
use Rattle.pcep_messages.specs.declared.message.Message.TheVariants.{Open as OpenMessage, Keepalive as KeepaliveMessage}
use Rattle.pcep_session.specs.declared.actions.Action.{Action}
use Rattle.pcep_session.specs.declared.actions.Action.TheVariants.{Up, Down, Pass}
use Rattle.pcep_session.specs.declared.session.Input.{Input}
use Rattle.pcep_session.specs.declared.session.Input.TheVariants.{Got}
use Rattle.pcep_session.specs.declared.state.State.{State}
use Rattle.pcep_session.specs.Table.{turn_of, new_state}

-- the state after the inputs, and all that was done on the way
abbrev pub after_inputs : State → List Input → State
after_inputs s [] = s
after_inputs s (input ∷ inputs) = after_inputs (turn_of s input).next inputs

abbrev pub done_over : State → List Input → List Action
done_over s [] = []
done_over s (input ∷ inputs) = (turn_of s input).actions ++ done_over (turn_of s input).next inputs

-- how often it said that it is up, and that it is down, and how often it passed a message on
abbrev pub ups : List Action → ℕ
ups [] = 0
ups (Up ∷ actions) = 1 + ups actions
ups (_ ∷ actions) = ups actions

abbrev pub downs : List Action → ℕ
downs [] = 0
downs (Down reason ∷ actions) = 1 + downs actions
downs (_ ∷ actions) = downs actions

abbrev pub passes : List Action → ℕ
passes [] = 0
passes (Pass message ∷ actions) = 1 + passes actions
passes (_ ∷ actions) = passes actions

-- how many Opens came from the peer
abbrev pub opens : List Input → ℕ
opens [] = 0
opens (Got (OpenMessage body) ∷ inputs) = 1 + opens inputs
opens (_ ∷ inputs) = opens inputs

-- the order of a session's actions from its start, over any inputs and the next one
pub record IsOrdered (start : State) (inputs : List Input) (input : Input) : Type 0 where
  pub up_once : ups (done_over start inputs) ≤ 1
  pub down_once : downs (done_over start inputs) ≤ 1
  pub silent_after_down : downs (done_over start inputs) ≡ 1 → (turn_of (after_inputs start inputs) input).actions ≡ []
  pub up_by_keepalive : ups (turn_of (after_inputs start inputs) input).actions ≡ 1 → input ≡ Got KeepaliveMessage
  pub up_after_open : ups (turn_of (after_inputs start inputs) input).actions ≡ 1 → 1 ≤ opens inputs
  pub pass_after_up : 1 ≤ passes (turn_of (after_inputs start inputs) input).actions → ups (done_over start inputs) ≡ 1
  pub pass_before_down : 1 ≤ passes (turn_of (after_inputs start inputs) input).actions → downs (done_over start inputs) ≡ 0

abbrev pub KeepsOrder : Type 0
KeepsOrder = (offer : Offer) (now : Tick) (inputs : List Input) (input : Input) → IsOrdered (new_state offer now) inputs input
