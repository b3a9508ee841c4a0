-- Each row of the table, as a move between the phases of a session.
use Rattle.std.proofs.Common.{◌≡◌, ◌≢◌, ◌==◌, ◌&&◌, not, inl, inr, ℕ, ◌≤◌, Option, Some, None, List, [], ◌∷◌, arith, refl}
use Rattle.std.proofs.lemmas.Bool.{cases_Bool}
use Rattle.pcep_objects.specs.declared.object.OpenBody.{OpenBody}
use Rattle.pcep_messages.specs.declared.message.Message.{Message}
use Rattle.pcep_messages.specs.declared.message.Message.TheVariants.{Open as OpenMessage, Keepalive as KeepaliveMessage, PcReq, PcRep, PcNtf, PcErr, Close as CloseMessage, Other}
use Rattle.pcep_session.specs.declared.actions.Action.{Action}
use Rattle.pcep_session.specs.declared.session.Input.{Input}
use Rattle.pcep_session.specs.declared.session.Input.TheVariants.{Begin, Got, Bad, Tick as Ticked}
use Rattle.pcep_session.specs.declared.state.Phase.{Phase}
use Rattle.pcep_session.specs.declared.state.Phase.TheVariants.{Idle, OpenWait, KeepWait, Up, Down}
use Rattle.pcep_session.specs.declared.state.State.{State}
use Rattle.pcep_session.specs.Reports.{first_error_of, first_opening_of}
use Rattle.pcep_session.specs.Table.{SessionStep, turn_in, turn_of, open_wait, refused, refused_terms, keep_wait, waits, in_up, unknown_type, up_tick, heard, at_tick, has_passed, is_recent}
use Rattle.pcep_session.specs.Order.{ups, downs, passes, opens}

-- it says neither that it is up nor that it is down, and passes nothing on
pub record IsMute (actions : List Action) : Type 0 where
  pub ups : ups actions ≡ 0
  pub downs : downs actions ≡ 0
  pub passes : passes actions ≡ 0

pub data Move (from : Phase) (input : Input) (turn : SessionStep) : Type 0 where
  stays : turn.next.phase ≡ from → IsMute turn.actions → Move from input turn
  hands_on : from ≡ Up → turn.next.phase ≡ from → ups turn.actions ≡ 0 → downs turn.actions ≡ 0 → Move from input turn
  begins : from ≡ Idle → turn.next.phase ≡ OpenWait → IsMute turn.actions → Move from input turn
  agrees : from ≡ OpenWait → turn.next.phase ≡ KeepWait → 1 ≤ opens (input ∷ []) → IsMute turn.actions → Move from input turn
  rises : from ≡ KeepWait → turn.next.phase ≡ Up → input ≡ Got KeepaliveMessage → ups turn.actions ≡ 1 → downs turn.actions ≡ 0 → passes turn.actions ≡ 0 → Move from input turn
  falls : from ≢ Down → turn.next.phase ≡ Down → ups turn.actions ≡ 0 → downs turn.actions ≡ 1 → passes turn.actions ≡ 0 → Move from input turn

open_not_down : OpenWait ≢ Down
open_not_down same = cc

keep_not_down : KeepWait ≢ Down
keep_not_down same = cc

up_not_down : Up ≢ Down
up_not_down same = cc

mute : IsMute []
mute = record { ups = refl; downs = refl; passes = refl }

wait_move : (from : Phase) (input : Input) (s : State) (error : ℕ) → from ≢ Down → s.phase ≡ from → Move from input (waits s error)
wait_move from input s error other is =
    elim (cases_Bool (has_passed s s.since 60)) [
      | inl late ↦ rw late (falls other refl refl refl refl)
      | inr early ↦ rw early (stays is mute)
    ]

open_move : (s : State) (message : Message) → Move OpenWait (Got message) (open_wait (heard s) message)
open_move s (OpenMessage body) =
    elim (cases_Bool (body.version == 1)) [
      | inl one ↦ rw one (agrees refl refl (omega arith) (record { ups = refl; downs = refl; passes = refl }))
      | inr other ↦ rw other (falls open_not_down refl refl refl refl)
    ]
open_move s KeepaliveMessage = falls open_not_down refl refl refl refl
open_move s (PcReq list) = falls open_not_down refl refl refl refl
open_move s (PcRep list) = falls open_not_down refl refl refl refl
open_move s (PcNtf list) = falls open_not_down refl refl refl refl
open_move s (PcErr list) = falls open_not_down refl refl refl refl
open_move s (CloseMessage reason) = falls open_not_down refl refl refl refl
open_move s (Other kind) = falls open_not_down refl refl refl refl

terms_move : (s : State) (input : Input) (opening : Option OpenBody) → s.phase ≡ KeepWait → Move KeepWait input (refused_terms s opening)
terms_move s input None is = falls keep_not_down refl refl refl refl
terms_move s input (Some body) is =
    elim (cases_Bool s.retried) [
      | inl twice ↦ rw twice (falls keep_not_down refl refl refl refl)
      | inr once ↦ rw once (stays is (record { ups = refl; downs = refl; passes = refl }))
    ]

refused_move : (s : State) (input : Input) (first : Option (ℕ × ℕ)) (opening : Option OpenBody) → s.phase ≡ KeepWait → Move KeepWait input (refused s first opening)
refused_move s input None opening is = falls keep_not_down refl refl refl refl
refused_move s input (Some error) opening is =
    elim (cases_Bool ((error.0 == 1) && (error.1 == 4))) [
      | inl terms ↦ rw terms (terms_move s input opening is)
      | inr other ↦ rw other (falls keep_not_down refl refl refl refl)
    ]

keep_move : (s : State) (message : Message) → s.phase ≡ KeepWait → Move KeepWait (Got message) (keep_wait (heard s) message)
keep_move s (OpenMessage body) is = falls keep_not_down refl refl refl refl
keep_move s KeepaliveMessage is = rises refl refl refl refl refl refl
keep_move s (PcReq list) is = falls keep_not_down refl refl refl refl
keep_move s (PcRep list) is = falls keep_not_down refl refl refl refl
keep_move s (PcNtf list) is = falls keep_not_down refl refl refl refl
keep_move s (PcErr list) is = refused_move (heard s) (Got (PcErr list)) (first_error_of list) (first_opening_of list) is
keep_move s (CloseMessage reason) is = falls keep_not_down refl refl refl refl
keep_move s (Other kind) is = falls keep_not_down refl refl refl refl

unknown_move : (s : State) (input : Input) → s.phase ≡ Up → Move Up input (unknown_type s)
unknown_move s input is =
    elim (cases_Bool (is_recent s s.unknown.oldest)) [
      | inl fifth ↦ rw fifth (falls up_not_down refl refl refl refl)
      | inr fewer ↦ rw fewer (stays is (record { ups = refl; downs = refl; passes = refl }))
    ]

up_move : (s : State) (message : Message) → s.phase ≡ Up → Move Up (Got message) (in_up (heard s) message)
up_move s (OpenMessage body) is = stays is (record { ups = refl; downs = refl; passes = refl })
up_move s KeepaliveMessage is = stays is mute
up_move s (PcReq list) is = hands_on refl is refl refl
up_move s (PcRep list) is = hands_on refl is refl refl
up_move s (PcNtf list) is = hands_on refl is refl refl
up_move s (PcErr list) is = hands_on refl is refl refl
up_move s (CloseMessage reason) is = falls up_not_down refl refl refl refl
up_move s (Other kind) is =
    elim (cases_Bool (kind == 10)) [
      | inl ten ↦ rw ten (falls up_not_down refl refl refl refl)
      | inr other ↦
          rw other (elim (cases_Bool (kind == 11)) [
            | inl eleven ↦ rw eleven (falls up_not_down refl refl refl refl)
            | inr unknown ↦ rw unknown (unknown_move (heard s) (Got (Other kind)) is)
          ])
    ]

tick_move : (s : State) (input : Input) → s.phase ≡ Up → Move Up input (up_tick s)
tick_move s input is =
    elim (cases_Bool (not (s.agreed.dead == 0) && has_passed s s.heard s.agreed.dead)) [
      | inl dead ↦ rw dead (falls up_not_down refl refl refl refl)
      | inr alive ↦
          rw alive (elim (cases_Bool (not (s.agreed.keepalive == 0) && has_passed s s.sent s.agreed.keepalive)) [
            | inl due ↦ rw due (stays is (record { ups = refl; downs = refl; passes = refl }))
            | inr early ↦ rw early (stays is mute)
          ])
    ]

move_in : (phase : Phase) (s : State) (input : Input) → s.phase ≡ phase → Move phase input (turn_in phase s input)
move_in Idle s Begin is = begins refl refl (record { ups = refl; downs = refl; passes = refl })
move_in Idle s (Got message) is = stays is mute
move_in Idle s Bad is = stays is mute
move_in Idle s (Ticked tick) is = stays is mute
move_in OpenWait s Begin is = stays is mute
move_in OpenWait s (Got message) is = open_move s message
move_in OpenWait s Bad is = falls open_not_down refl refl refl refl
move_in OpenWait s (Ticked tick) is = wait_move OpenWait (Ticked tick) (at_tick s tick) 2 open_not_down is
move_in KeepWait s Begin is = stays is mute
move_in KeepWait s (Got message) is = keep_move s message is
move_in KeepWait s Bad is = falls keep_not_down refl refl refl refl
move_in KeepWait s (Ticked tick) is = wait_move KeepWait (Ticked tick) (at_tick s tick) 7 keep_not_down is
move_in Up s Begin is = stays is mute
move_in Up s (Got message) is = up_move s message is
move_in Up s Bad is = falls up_not_down refl refl refl refl
move_in Up s (Ticked tick) is = tick_move (at_tick s tick) (Ticked tick) is
move_in Down s input is = stays is mute

pub moves : (s : State) (input : Input) → Move s.phase input (turn_of s input)
moves s input = move_in s.phase s input refl
