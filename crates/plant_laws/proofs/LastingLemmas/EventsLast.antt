-- In each step of a network all jobs last, so they do in every run.
use Rattle.std.proofs.Common.{List, [], ◌∷◌, sym, subst, inl, inr}
use Rattle.std.proofs.Math.Nat.{le_refl}
use Rattle.disclosure.specs.Shown.{open_of}
use Rattle.plant_model.specs.Types.{NetworkParts}
use Rattle.plant_text.specs.Settings.{is_element}
use Rattle.plant_model.specs.declared.event.Event.{Event}
use Rattle.plant_model.specs.declared.event.Event.TheVariants as event
use Rattle.plant_model.specs.Wire.{Codec}
use Rattle.plant_model.specs.Plant.{Pin, Segment, first_pin, Plant, Happened, Entry, Run, is_full, Happens, Steps}
use Rattle.plant_laws.specs.Lasting.{AreInOrder, KeysInTime, StepsLast, RunsAreInOrder, KeysAreBefore, RunsHaveKeysBefore}
use Rattle.plant_laws.proofs.LastingLemmas.DeedsLast.{stands, solve_lasts, solve_upper_lasts}
use Rattle.plant_laws.proofs.LastingLemmas.HappeningsLast.{Did, pick, by_did, open_did, shut_did, feed_did, take_did, carry_did, break_did, tick_did, drain_did, in_order, last, opened_in_order, opened_in_time}

module _ (c : Codec) (n : NetworkParts) where
  happens_did : (s : Plant) (e : Event) (h : Happened) → Happens c n s e h → Did s h
  happens_did s (event.Load d g) h is =
      by_did s _ h is
      (pick s (is_element n d) _ _ (pick s (is_full (s.current d).number (s.elements d).pending.rows) _ _ (stands s) (record { elements = (stands s).elements; parent = (stands s).parent; clock = le_refl s.clock; keys = λ before. before })) (stands s))
  happens_did s (event.Open i holder) h is = by_did s _ h is (open_did Pin Segment c n open_of i holder s)
  happens_did s (event.Shut i) h is = by_did s _ h is (shut_did Pin Segment c n open_of i s)
  happens_did s (event.Feed i bytes) h is = by_did s _ h is (feed_did Pin Segment c n open_of i bytes s)
  happens_did s (event.Take i) h is = by_did s _ h is (take_did Pin Segment c n open_of i s)
  happens_did s (event.Carry a b) h is = by_did s _ h is (carry_did Pin Segment c n open_of a b s)
  happens_did s (event.Break a b) h is = by_did s _ h is (break_did Pin Segment c n open_of a b s)
  happens_did s (event.Tick t) h is = by_did s _ h is (tick_did Pin Segment c n open_of t.0 s)
  happens_did s (event.Drain i holder) h is = by_did s _ h is (drain_did Pin Segment c n open_of i holder s)
  happens_did s (event.Solve d k) h (inl none) = by_did s _ h none.1 (stands s)
  happens_did s (event.Solve d k) h (inr (inl none)) = by_did s _ h none.2 (stands s)
  happens_did s (event.Solve d k) h (inr (inr (inl solves))) =
      let x = solves.1 in
      by_did s _ h x.is (solve_lasts Pin Segment c n open_of d (k, x.held) x.down (λ b. b.segment) x.rows.source_known x.rows.target_known x.rows.best s)
  happens_did s (event.Solve d k) h (inr (inr (inr solves))) =
      let x = solves.2 in
      by_did s _ h x.is (solve_upper_lasts Pin Segment c n open_of (k, x.held) x.answer s)

  steps_did : (s : Plant) (e : Event) (h : Happened) → Steps c n s e h → Did s h
  steps_did s e h (inl is) = happens_did s e h is
  steps_did s e h (inr none) = by_did s _ h none.1 (stands s)

  -- ---- runs

  run_in_order : (es : List Entry) (s : Plant) → Run c n es s → AreInOrder s
  run_in_order [] s is = subst AreInOrder (sym is) (opened_in_order Pin Segment c n open_of first_pin)
  run_in_order (e ∷ older) s run = in_order run.0 s (run_in_order older run.0 run.1) (steps_did run.0 e.event (record { answer = e.answer; state = s; deeds = e.deeds }) run.3)

  run_in_time : (es : List Entry) (s : Plant) → Run c n es s → KeysInTime s
  run_in_time [] s is = subst (λ (p : Plant). KeysInTime p) (sym is) (opened_in_time Pin Segment c n open_of first_pin)
  run_in_time (e ∷ older) s run = (steps_did run.0 e.event (record { answer = e.answer; state = s; deeds = e.deeds }) run.3).keys (run_in_time older run.0 run.1)

pub steps_last : StepsLast
steps_last c n s e h order steps = let did = steps_did c n s e h steps in (in_order s h.state order did, last s h.state order did)

pub runs_are_in_order : RunsAreInOrder
runs_are_in_order = run_in_order

pub keys_are_before : KeysAreBefore
keys_are_before c n s e h before steps = (steps_did c n s e h steps).keys before

pub runs_have_keys_before : RunsHaveKeysBefore
runs_have_keys_before = run_in_time
