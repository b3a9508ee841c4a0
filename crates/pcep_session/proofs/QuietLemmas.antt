-- At which ticks a session has nothing to say or to do, phase by phase, and what it is then.
use Rattle.std.proofs.Common.{◌≡◌, ◌==◌, ◌&&◌, not, ℕ, Bool, true, false, cond, refl, sym, ap, ◌∙◌}
use Rattle.dom_base.specs.declared.names.Tick.{Tick}
use Rattle.pcep_session.specs.declared.session.Input.TheVariants.{Tick as Ticked}
use Rattle.pcep_session.specs.declared.state.Phase.{Phase}
use Rattle.pcep_session.specs.declared.state.Phase.TheVariants.{Idle, OpenWait, KeepWait, Up, Down}
use Rattle.pcep_session.specs.declared.state.State.{State}
use Rattle.pcep_session.specs.Quiet.{is_nothing, is_quiet}
use Rattle.pcep_session.specs.Table.{SessionStep, turn_in, turn_of, waits, up_tick, at_tick, has_passed}

-- one of two turns, of which the first asks for something
nothing_in : (b : Bool) (x y : SessionStep) → is_nothing x.actions ≡ false → is_nothing y.actions ≡ true → is_nothing (cond b x y).actions ≡ not b
nothing_in true x y some none = some
nothing_in false x y some none = none

nothing_both : (b c : Bool) (x y z : SessionStep) → is_nothing x.actions ≡ false → is_nothing y.actions ≡ false → is_nothing z.actions ≡ true → is_nothing (cond b x (cond c y z)).actions ≡ (not b && not c)
nothing_both true c x y z some also none = some
nothing_both false c x y z some also none = nothing_in c y z also none

next_in : (b : Bool) (x y : SessionStep) (s : State) → is_nothing x.actions ≡ false → (is_nothing y.actions ≡ true → y.next ≡ s) → is_nothing (cond b x y).actions ≡ true → (cond b x y).next ≡ s
next_in true x y s some next calm = absurd (let clash : true ≡ false = sym calm ∙ some in cc)
next_in false x y s some next calm = next calm

quiet_wait : (s : State) (error : ℕ) → is_nothing (waits s error).actions ≡ not (has_passed s s.since 60)
quiet_wait s error = nothing_in (has_passed s s.since 60) _ _ refl refl

abbrev is_dead : State → Bool
is_dead s = not (s.agreed.dead == 0) && has_passed s s.heard s.agreed.dead

abbrev is_due : State → Bool
is_due s = not (s.agreed.keepalive == 0) && has_passed s s.sent s.agreed.keepalive

-- a session that is open
pub quiet_up : (s : State) → is_nothing (up_tick s).actions ≡ (not (is_dead s) && not (is_due s))
quiet_up s = nothing_both (is_dead s) (is_due s) _ _ _ refl refl refl

-- ---- each phase

pub quiet_idle : (s : State) (now : Tick) → s.phase ≡ Idle → is_quiet now s ≡ true
quiet_idle s now is = rw is refl

pub quiet_down : (s : State) (now : Tick) → s.phase ≡ Down → is_quiet now s ≡ true
quiet_down s now is = rw is refl

pub quiet_open_wait : (s : State) (now : Tick) → s.phase ≡ OpenWait → is_quiet now s ≡ not (has_passed (at_tick s now) s.since 60)
quiet_open_wait s now is = ap (λ (p : Phase). is_nothing (turn_in p s (Ticked now)).actions) is ∙ quiet_wait (at_tick s now) 2

pub quiet_keep_wait : (s : State) (now : Tick) → s.phase ≡ KeepWait → is_quiet now s ≡ not (has_passed (at_tick s now) s.since 60)
quiet_keep_wait s now is = ap (λ (p : Phase). is_nothing (turn_in p s (Ticked now)).actions) is ∙ quiet_wait (at_tick s now) 7

pub quiet_in_up : (s : State) (now : Tick) → s.phase ≡ Up → is_quiet now s ≡ is_nothing (up_tick (at_tick s now)).actions
quiet_in_up s now is = rw is refl

-- a session that is over takes no moment, any other takes it
abbrev pub taken : Phase → State → Tick → State
taken Down s now = s
taken Idle s now = at_tick s now
taken OpenWait s now = at_tick s now
taken KeepWait s now = at_tick s now
taken Up s now = at_tick s now

quiet_next_in : (p : Phase) (s : State) (now : Tick) → is_nothing (turn_in p s (Ticked now)).actions ≡ true → (turn_in p s (Ticked now)).next ≡ taken p s now
quiet_next_in Idle s now calm = refl
quiet_next_in Down s now calm = refl
quiet_next_in OpenWait s now calm = next_in (has_passed (at_tick s now) s.since 60) _ _ (at_tick s now) refl (λ e. refl) calm
quiet_next_in KeepWait s now calm = next_in (has_passed (at_tick s now) s.since 60) _ _ (at_tick s now) refl (λ e. refl) calm
quiet_next_in Up s now calm = next_in (is_dead (at_tick s now)) _ _ (at_tick s now) refl (next_in (is_due (at_tick s now)) _ _ (at_tick s now) refl (λ e. refl)) calm

pub quiet_next : (s : State) (now : Tick) → is_quiet now s ≡ true → (turn_of s (Ticked now)).next ≡ taken s.phase s now
quiet_next s now calm = quiet_next_in s.phase s now calm
