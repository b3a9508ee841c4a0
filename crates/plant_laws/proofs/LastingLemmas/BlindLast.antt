-- In each step of the blind plant all jobs last, too.
use Rattle.std.proofs.Common.{true, inl, inr}
use Rattle.plant_model.specs.Types.{NetworkParts}
use Rattle.plant_model.specs.declared.event.BlindEvent.{BlindEvent}
use Rattle.plant_model.specs.declared.event.BlindEvent.TheVariants as blind
use Rattle.plant_model.specs.Wire.{Codec}
use Rattle.plant_model.specs.Blind.{Nothing, show_nothing, BlindState, BlindHappened, BlindHappens, BlindSteps}
use Rattle.plant_laws.specs.Lasting.{BlindBegins, BlindStepsLast}
use Rattle.plant_laws.proofs.LastingLemmas.DeedsLast.{stands, solve_lasts, solve_upper_lasts}
use Rattle.plant_laws.proofs.LastingLemmas.HappeningsLast.{Did, by_did, open_did, shut_did, feed_did, take_did, carry_did, break_did, tick_did, drain_did, in_order, last, opened_in_order, opened_in_time}

module _ (c : Codec) (n : NetworkParts) where
  happens_did : (s : BlindState) (e : BlindEvent) (h : BlindHappened) → BlindHappens c n s e h → Did s h
  happens_did s (blind.Open i holder) h is = by_did s _ h is (open_did Nothing Nothing c n show_nothing i holder s)
  happens_did s (blind.Shut i) h is = by_did s _ h is (shut_did Nothing Nothing c n show_nothing i s)
  happens_did s (blind.Feed i bytes) h is = by_did s _ h is (feed_did Nothing Nothing c n show_nothing i bytes s)
  happens_did s (blind.Take i) h is = by_did s _ h is (take_did Nothing Nothing c n show_nothing i s)
  happens_did s (blind.Carry a b) h is = by_did s _ h is (carry_did Nothing Nothing c n show_nothing a b s)
  happens_did s (blind.Break a b) h is = by_did s _ h is (break_did Nothing Nothing c n show_nothing a b s)
  happens_did s (blind.Tick t) h is = by_did s _ h is (tick_did Nothing Nothing c n show_nothing t.0 s)
  happens_did s (blind.Drain i holder) h is = by_did s _ h is (drain_did Nothing Nothing c n show_nothing i holder s)
  happens_did s (blind.Solve d k rows) h (inl none) = by_did s _ h none.1 (stands s)
  happens_did s (blind.Solve d k rows) h (inr (inl none)) = by_did s _ h none.2 (stands s)
  happens_did s (blind.Solve d k rows) h (inr (inr (inl solves))) =
      let x = solves.1 in by_did s _ h x.is (solve_lasts Nothing Nothing c n show_nothing d (k, x.held) x.down (λ b. tt) true true x.best s)
  happens_did s (blind.Solve d k rows) h (inr (inr (inr solves))) =
      let x = solves.2 in by_did s _ h x.is (solve_upper_lasts Nothing Nothing c n show_nothing (k, x.held) x.answer s)

  steps_did : (s : BlindState) (e : BlindEvent) (h : BlindHappened) → BlindSteps c n s e h → Did s h
  steps_did s e h (inl is) = happens_did s e h is
  steps_did s e h (inr none) = by_did s _ h none.1 (stands s)

pub blind_steps_last : BlindStepsLast
blind_steps_last c n s e h order keys steps =
    let did = steps_did c n s e h steps in
    record { order = in_order s h.state order did; jobs = last s h.state order did; keys = did.keys keys }

pub blind_begins : BlindBegins
blind_begins c n = (opened_in_order Nothing Nothing c n show_nothing (λ d. tt), opened_in_time Nothing Nothing c n show_nothing (λ d. tt))
