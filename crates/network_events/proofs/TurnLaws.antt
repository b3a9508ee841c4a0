-- What a step of a session asks for.
use Rattle.std.proofs.Common.{◌⊎◌, ℕ, ◌==◌, ◌&&◌, not, Bool, true, false, cond, List, refl, sym, subst, inl, inr, arith}
use Rattle.pce_common.specs.plant_model.Types.{Tick, Action, Phase, State}
use Rattle.pcep_session.specs.declared.actions.Own.TheVariants as own
use Rattle.pcep_session.specs.declared.actions.Reason.{Reason}
use Rattle.pcep_session.specs.declared.actions.Reason.TheVariants as reason
use Rattle.pcep_session.specs.declared.session.Input.TheVariants.{Tick as Ticked}
use Rattle.pcep_session.specs.declared.state.Phase.TheVariants.{Idle, OpenWait, KeepWait, Up, Down}
use Rattle.pcep_session.specs.Table.{SessionStep, turn_in, turn_of, up_tick, waits, at_tick, has_passed}
use Rattle.pce_common.specs.plant_model.Events.{is_down}
use Rattle.network_events.specs.Acting.{IsOwnTurn}
use Rattle.network_events.specs.Turns.{IsPass, IsTickTurn, StepsAreTurns, TicksAreTurns}
use Rattle.network_events.proofs.RoomyWords.{EndsBy, IsStep, StaysBy, steps_live_or_die}

either : (Q : List Action → Type 0) (b : Bool) (x y : SessionStep) → Q x.actions → Q y.actions → Q (cond b x y).actions
either Q true x y left right = left
either Q false x y left right = right

waits_turn : (s : State) (error : ℕ) → IsTickTurn (waits s error).actions
waits_turn s error = either IsTickTurn (has_passed s s.since 60) _ _ (inr (inr (own.Error 1 error, reason.Opening error, omega arith, refl))) (inl refl)

tick_turn : (s : State) → IsTickTurn (up_tick s).actions
tick_turn s =
    either IsTickTurn (not (s.agreed.dead == 0) && has_passed s s.heard s.agreed.dead) _ _ (inr (inr (own.Close 2, reason.Dead, omega arith, refl)))
    (either IsTickTurn (not (s.agreed.keepalive == 0) && has_passed s s.sent s.agreed.keepalive) _ _ (inr (inl refl)) (inl refl))

ticks_in : (p : Phase) (s : State) (now : Tick) → IsTickTurn (turn_in p s (Ticked now)).actions
ticks_in Idle s now = inl refl
ticks_in OpenWait s now = waits_turn (at_tick s now) 2
ticks_in KeepWait s now = waits_turn (at_tick s now) 7
ticks_in Up s now = tick_turn (at_tick s now)
ticks_in Down s now = inl refl

pub ticks_are_turns : TicksAreTurns
ticks_are_turns s now = ticks_in s.phase s now

-- by what it says
pub steps_are_turns : StepsAreTurns
steps_are_turns s input = go (turn_of s input) (steps_live_or_die s input)
  where
    stays : (as' : List Action) → StaysBy as' → IsOwnTurn as'
    stays as' (inl is) = subst IsOwnTurn (sym is) tt
    stays as' (inr (inl (o, is))) = subst IsOwnTurn (sym is) tt
    stays as' (inr (inr is)) = subst IsOwnTurn (sym is) refl

    ends : (why : Reason) (as' : List Action) → EndsBy why as' → IsOwnTurn as'
    ends why as' (inl is) = subst IsOwnTurn (sym is) refl
    ends why as' (inr (inl (o, short, is))) = subst IsOwnTurn (sym is) refl
    ends why as' (inr (inr (o, o', short, short', is))) = subst IsOwnTurn (sym is) refl

    go : (t : SessionStep) → IsStep (is_down s.phase) t → IsOwnTurn t.actions ⊎ IsPass t.actions
    go t (inl live) = inl (stays t.actions live.says)
    go t (inr (inl die)) = inl (ends die.why t.actions die.says)
    go t (inr (inr pass)) = inr pass
