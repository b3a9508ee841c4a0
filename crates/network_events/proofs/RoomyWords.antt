-- What a session says at any input: it stays and says one word at most, or it says two at most and is over, or it passes a message on.
use Rattle.std.proofs.Common.{◌≡◌, ◌⊎◌, ◌≤◌, ℕ, ◌==◌, ◌&&◌, not, Bool, true, false, cond, List, [], ◌∷◌, length, Option, Some, None, refl, inl, inr, arith}
use Rattle.pce_common.specs.plant_model.Types.{OpenBody, Message, Action, Own, Input, Phase, State}
use Rattle.pcep_messages.specs.declared.message.Message.TheVariants as messages
use Rattle.pcep_session.specs.declared.actions.Action.TheVariants as action
use Rattle.pcep_session.specs.declared.actions.Own.TheVariants as saying
use Rattle.pcep_session.specs.declared.actions.Reason.{Reason}
use Rattle.pcep_session.specs.declared.actions.Reason.TheVariants as reason
use Rattle.pcep_session.specs.declared.session.Input.TheVariants.{Begin, Got, Bad, Tick as Ticked}
use Rattle.pcep_session.specs.declared.state.Phase.TheVariants.{Idle, OpenWait, KeepWait, Up, Down}
use Rattle.pcep_session.specs.Reports.{first_error_of, first_opening_of}
use Rattle.pcep_session.specs.Table.{SessionStep, turn_in, turn_of, open_wait, refused_terms, refused, keep_wait, in_up, up_tick, waits, heard, at_tick, has_passed, is_recent}
use Rattle.pce_common.specs.plant_model.Events.{is_down}
use Rattle.network_links.specs.Ends.{own_bytes}
use Rattle.network_events.specs.Turns.{IsPass}

-- a message of a session's own, and one that is an error or a Close
pub word_length : (o : Own) → length (own_bytes o) ≤ 20
word_length (saying.Open offer) = go offer.stateful
  where
    go : (b : Bool) → length (own_bytes (saying.Open (record offer { stateful = b }))) ≤ 20
    go true = omega arith
    go false = omega arith
word_length saying.Keepalive = omega arith
word_length (saying.Error kind value) = omega arith
word_length (saying.Close why) = omega arith

-- nothing, one word, or that it is up
abbrev pub StaysBy : List Action → Type 0
StaysBy as' = (as' ≡ []) ⊎ ((o : Own) × (as' ≡ action.Send o ∷ [])) ⊎ (as' ≡ action.Up ∷ [])

pub record Lives (was : Bool) (t : SessionStep) : Type 0 where
  pub says : StaysBy t.actions
  pub after : is_down t.next.phase ≡ was

abbrev pub IsShort : Own → Type 0
IsShort o = length (own_bytes o) ≤ 12

-- two short words at most, and the end
abbrev pub EndsBy : Reason → List Action → Type 0
EndsBy why as' = (as' ≡ action.Down why ∷ []) ⊎ ((o : Own) × IsShort o × (as' ≡ action.Send o ∷ action.Down why ∷ []))
    ⊎ ((o o' : Own) × IsShort o × IsShort o' × (as' ≡ action.Send o ∷ action.Send o' ∷ action.Down why ∷ []))

pub record Dies (t : SessionStep) : Type 0 where
  pub why : Reason
  pub says : EndsBy why t.actions
  pub over : is_down t.next.phase ≡ true

abbrev pub IsStep : Bool → SessionStep → Type 0
IsStep was t = Lives was t ⊎ Dies t ⊎ IsPass t.actions

either : (Q : SessionStep → Type 0) (b : Bool) (x y : SessionStep) → Q x → Q y → Q (cond b x y)
either Q true x y left right = left
either Q false x y left right = right

-- the rows of the table
still : (was : Bool) (t : SessionStep) → t.actions ≡ [] → is_down t.next.phase ≡ was → IsStep was t
still was t says is = inl (record { says = inl says; after = is })

says_one : (was : Bool) (o : Own) (t : SessionStep) → t.actions ≡ action.Send o ∷ [] → is_down t.next.phase ≡ was → IsStep was t
says_one was o t says is = inl (record { says = inr (inl (o, says)); after = is })

last_of : (was : Bool) (o : Own) (why : Reason) (t : SessionStep) → IsShort o → t.actions ≡ action.Send o ∷ action.Down why ∷ [] → is_down t.next.phase ≡ true → IsStep was t
last_of was o why t short says over = inr (inl (record { why = why; says = inr (inl (o, short, says)); over = over }))

ends_of : (was : Bool) (why : Reason) (t : SessionStep) → t.actions ≡ action.Down why ∷ [] → is_down t.next.phase ≡ true → IsStep was t
ends_of was why t says over = inr (inl (record { why = why; says = inl says; over = over }))

two_of : (was : Bool) (o o' : Own) (why : Reason) (t : SessionStep) → IsShort o → IsShort o' → t.actions ≡ action.Send o ∷ action.Send o' ∷ action.Down why ∷ [] → is_down t.next.phase ≡ true → IsStep was t
two_of was o o' why t short short' says over = inr (inl (record { why = why; says = inr (inr (o, o', short, short', says)); over = over }))

fails_as : (s : State) (value : ℕ) → IsStep false (record { actions = action.Send (saying.Error 1 value) ∷ action.Down (reason.Opening value) ∷ []; next = record s { phase = Down; since = s.clock } })
fails_as s value = last_of false (saying.Error 1 value) (reason.Opening value) _ (omega arith) refl refl

open_step : (s : State) (m : Message) → IsStep false (open_wait s m)
open_step s (messages.Open body) = either (IsStep false) (body.version == 1) _ _ (says_one false saying.Keepalive _ refl refl) (fails_as s _)
open_step s (messages.Close code) = ends_of false reason.Peer _ refl refl
open_step s messages.Keepalive = fails_as s _
open_step s (messages.PcReq x) = fails_as s _
open_step s (messages.PcRep x) = fails_as s _
open_step s (messages.PcNtf x) = fails_as s _
open_step s (messages.PcErr x) = fails_as s _
open_step s (messages.Other x) = fails_as s _

terms_step : (s : State) (opening : Option OpenBody) → is_down s.phase ≡ false → IsStep false (refused_terms s opening)
terms_step s None is = fails_as s _
terms_step s (Some body) is = either (IsStep false) s.retried _ _ (fails_as s _) (says_one false (saying.Open (record s.offer { keepalive = body.offer.keepalive; dead = body.offer.dead })) _ refl is)

refused_step : (s : State) (error : Option (ℕ × ℕ)) (opening : Option OpenBody) → is_down s.phase ≡ false → IsStep false (refused s error opening)
refused_step s None opening is = ends_of false reason.Peer _ refl refl
refused_step s (Some error) opening is = either (IsStep false) ((error.0 == 1) && (error.1 == 4)) _ _ (terms_step s opening is) (ends_of false reason.Peer _ refl refl)

keep_step : (s : State) (m : Message) → is_down s.phase ≡ false → IsStep false (keep_wait s m)
keep_step s (messages.Open body) is = fails_as s _
keep_step s (messages.Close code) is = ends_of false reason.Peer _ refl refl
keep_step s messages.Keepalive is = inl (record { says = inr (inr refl); after = refl })
keep_step s (messages.PcReq x) is = fails_as s _
keep_step s (messages.PcRep x) is = fails_as s _
keep_step s (messages.PcNtf x) is = fails_as s _
keep_step s (messages.PcErr x) is = refused_step s (first_error_of x) (first_opening_of x) is
keep_step s (messages.Other x) is = fails_as s _

up_step : (s : State) (m : Message) → is_down s.phase ≡ false → IsStep false (in_up s m)
up_step s (messages.Open body) is = inl (record { says = inr (inl (_, refl)); after = is })
up_step s (messages.Close code) is = ends_of false reason.Peer _ refl refl
up_step s messages.Keepalive is = still false _ refl is
up_step s (messages.PcReq x) is = inr (inr (messages.PcReq x, refl))
up_step s (messages.PcRep x) is = inr (inr (messages.PcRep x, refl))
up_step s (messages.PcNtf x) is = inr (inr (messages.PcNtf x, refl))
up_step s (messages.PcErr x) is = inr (inr (messages.PcErr x, refl))
up_step s (messages.Other x) is =
    either (IsStep false) (x == 10) _ _ (two_of false _ _ reason.Stateful _ (omega arith) (omega arith) refl refl)
    (either (IsStep false) (x == 11) _ _ (two_of false _ _ reason.Stateful _ (omega arith) (omega arith) refl refl)
    (either (IsStep false) (is_recent s s.unknown.oldest) _ _ (two_of false _ _ reason.Unknown _ (omega arith) (omega arith) refl refl) (says_one false _ _ refl is)))

waits_step : (s : State) (error : ℕ) → is_down s.phase ≡ false → IsStep false (waits s error)
waits_step s error is = either (IsStep false) (has_passed s s.since 60) _ _ (fails_as s error) (still false _ refl is)

tick_step : (s : State) → is_down s.phase ≡ false → IsStep false (up_tick s)
tick_step s is =
    either (IsStep false) (not (s.agreed.dead == 0) && has_passed s s.heard s.agreed.dead) _ _ (last_of false (saying.Close 2) reason.Dead _ (omega arith) refl refl)
    (either (IsStep false) (not (s.agreed.keepalive == 0) && has_passed s s.sent s.agreed.keepalive) _ _ (says_one false saying.Keepalive _ refl is) (still false _ refl is))

step_in : (p : Phase) (s : State) (x : Input) → is_down s.phase ≡ is_down p → IsStep (is_down p) (turn_in p s x)
step_in Idle s Begin is = says_one false (saying.Open s.offer) _ refl refl
step_in Idle s (Ticked tick) is = still false _ refl is
step_in Idle s (Got m) is = still false _ refl is
step_in Idle s Bad is = still false _ refl is
step_in OpenWait s Begin is = still false _ refl is
step_in OpenWait s (Got m) is = open_step (heard s) m
step_in OpenWait s Bad is = fails_as s _
step_in OpenWait s (Ticked tick) is = waits_step (at_tick s tick) 2 is
step_in KeepWait s Begin is = still false _ refl is
step_in KeepWait s (Got m) is = keep_step (heard s) m is
step_in KeepWait s Bad is = fails_as s _
step_in KeepWait s (Ticked tick) is = waits_step (at_tick s tick) 7 is
step_in Up s Begin is = still false _ refl is
step_in Up s (Got m) is = up_step (heard s) m is
step_in Up s Bad is = last_of false _ reason.Malformed _ (omega arith) refl refl
step_in Up s (Ticked tick) is = tick_step (at_tick s tick) is
step_in Down s x is = still true _ refl is

pub steps_live_or_die : (s : State) (x : Input) → IsStep (is_down s.phase) (turn_of s x)
steps_live_or_die s x = step_in s.phase s x refl
