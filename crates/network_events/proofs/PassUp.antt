-- A session that passes a message on is up, and stays so.
use Rattle.std.proofs.Common.{◌≡◌, ℕ, ◌==◌, ◌&&◌, not, Bool, true, false, cond, List, [], ◌∷◌, Option, Some, None, refl, ap, sym, ◌∙◌}
use Rattle.pce_common.specs.plant_model.Types.{OpenBody, Message, Action, Input, Phase, State}
use Rattle.pcep_messages.specs.declared.message.Message.TheVariants as messages
use Rattle.pcep_session.specs.declared.actions.Action.TheVariants.{Send, Up as SayUp, Down as SayDown, Pass}
use Rattle.pcep_session.specs.Reports.{first_error_of, first_opening_of}
use Rattle.pcep_session.specs.declared.session.Input.TheVariants.{Begin, Got, Bad, Tick as Ticked}
use Rattle.pcep_session.specs.declared.state.Phase.TheVariants.{Idle, OpenWait, KeepWait, Up, Down}
use Rattle.pcep_session.specs.Table.{SessionStep, turn_in, turn_of, open_wait, refused_terms, refused, keep_wait, in_up, up_tick, waits, heard, at_tick, has_passed, is_recent}
use Rattle.pce_common.specs.plant_model.Events.{is_down}

abbrev passes : List Action → Bool
passes [] = false
passes (Pass m ∷ as') = true
passes (Send o ∷ as') = false
passes (SayUp ∷ as') = false
passes (SayDown why ∷ as') = false

-- it passes nothing on, or its phase stays
abbrev Fine : Phase → SessionStep → Type 0
Fine p t = passes t.actions ≡ true → t.next.phase ≡ p

differ : (b : Bool) → b ≡ false → b ≡ true → ⊥
differ true x y = cc
differ false x y = cc

none : (p : Phase) (t : SessionStep) → passes t.actions ≡ false → Fine p t
none p t e is = absurd (differ (passes t.actions) e is)

either : (b : Bool) (x y : SessionStep) → passes x.actions ≡ false → passes y.actions ≡ false → passes (cond b x y).actions ≡ false
either true x y left right = left
either false x y left right = right

open_none : (s : State) (m : Message) → passes (open_wait s m).actions ≡ false
open_none s (messages.Open body) = either (body.version == 1) _ _ refl refl
open_none s (messages.Close reason) = refl
open_none s messages.Keepalive = refl
open_none s (messages.PcReq x) = refl
open_none s (messages.PcRep x) = refl
open_none s (messages.PcNtf x) = refl
open_none s (messages.PcErr x) = refl
open_none s (messages.Other x) = refl

terms_none : (s : State) (opening : Option OpenBody) → passes (refused_terms s opening).actions ≡ false
terms_none s None = refl
terms_none s (Some body) = either s.retried _ _ refl refl

refused_none : (s : State) (error : Option (ℕ × ℕ)) (opening : Option OpenBody) → passes (refused s error opening).actions ≡ false
refused_none s None opening = refl
refused_none s (Some error) opening = either ((error.0 == 1) && (error.1 == 4)) _ _ (terms_none s opening) refl

keep_none : (s : State) (m : Message) → passes (keep_wait s m).actions ≡ false
keep_none s (messages.Open body) = refl
keep_none s (messages.Close reason) = refl
keep_none s messages.Keepalive = refl
keep_none s (messages.PcReq x) = refl
keep_none s (messages.PcRep x) = refl
keep_none s (messages.PcNtf x) = refl
keep_none s (messages.PcErr x) = refused_none s (first_error_of x) (first_opening_of x)
keep_none s (messages.Other x) = refl

up_fine : (s : State) (m : Message) → Fine s.phase (in_up s m)
up_fine s (messages.Open body) = λ is. refl
up_fine s (messages.Close reason) = none s.phase (in_up s (messages.Close reason)) refl
up_fine s messages.Keepalive = λ is. refl
up_fine s (messages.PcReq x) = λ is. refl
up_fine s (messages.PcRep x) = λ is. refl
up_fine s (messages.PcNtf x) = λ is. refl
up_fine s (messages.PcErr x) = λ is. refl
up_fine s (messages.Other x) = none s.phase (in_up s (messages.Other x)) (either (x == 10) _ _ refl (either (x == 11) _ _ refl (either (is_recent s s.unknown.oldest) _ _ refl refl)))

waits_none : (s : State) (error : ℕ) → passes (waits s error).actions ≡ false
waits_none s error = either (has_passed s s.since 60) _ _ refl refl

tick_none : (s : State) → passes (up_tick s).actions ≡ false
tick_none s = either (not (s.agreed.dead == 0) && has_passed s s.heard s.agreed.dead) _ _ refl (either (not (s.agreed.keepalive == 0) && has_passed s s.sent s.agreed.keepalive) _ _ refl refl)

turn_fine : (p : Phase) (s : State) (input : Input) → passes (turn_in p s input).actions ≡ true → (p ≡ Up) × ((turn_in p s input).next.phase ≡ s.phase)
turn_fine Idle s Begin is = cc
turn_fine Idle s (Ticked tick) is = cc
turn_fine Idle s (Got m) is = cc
turn_fine Idle s Bad is = cc
turn_fine OpenWait s Begin is = cc
turn_fine OpenWait s (Got m) is = absurd (differ _ (open_none (heard s) m) is)
turn_fine OpenWait s Bad is = cc
turn_fine OpenWait s (Ticked tick) is = absurd (differ _ (waits_none (at_tick s tick) 2) is)
turn_fine KeepWait s Begin is = cc
turn_fine KeepWait s (Got m) is = absurd (differ _ (keep_none (heard s) m) is)
turn_fine KeepWait s Bad is = cc
turn_fine KeepWait s (Ticked tick) is = absurd (differ _ (waits_none (at_tick s tick) 7) is)
turn_fine Up s Begin is = cc
turn_fine Up s (Got m) is = (refl, up_fine (heard s) m is)
turn_fine Up s Bad is = cc
turn_fine Up s (Ticked tick) is = absurd (differ _ (tick_none (at_tick s tick)) is)
turn_fine Down s input is = cc

-- neither before nor after is the session over
pub pass_stays : (s next : State) (input : Input) (m : Message) → turn_of s input ≡ record { actions = Pass m ∷ []; next = next } → (is_down s.phase ≡ false) × (is_down next.phase ≡ false)
pass_stays s next input m e =
    let fine = turn_fine s.phase s input (ap (λ (t : SessionStep). passes t.actions) e) in
    let before : is_down s.phase ≡ false = ap is_down fine.0 in
    let same : next.phase ≡ s.phase = sym (ap (λ (t : SessionStep). t.next.phase) e) ∙ fine.1 in
    (before, ap is_down same ∙ before)
