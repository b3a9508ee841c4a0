-- What steps, loads and solves keep holds of every run.
use Rattle.std.proofs.Common.{◌≡◌, ℕ, Bool, true, false, cond, List, [], ◌∷◌, ◌++◌, sym, subst, inl, inr}
use Rattle.plant_model.specs.Types.{As, NetworkParts}
use Rattle.te_links.specs.Rows.{Rows}
use Rattle.disclosure.specs.Shown.{open_of}
use Rattle.plant_model.specs.declared.event.Event.{Event}
use Rattle.plant_model.specs.declared.event.Event.TheVariants as event
use Rattle.plant_model.specs.Wire.{Bytes, Codec}
use Rattle.plant_text.specs.Settings.{adjacencies, is_element}
use Rattle.plant_model.specs.Settings.{place}
use Rattle.plant_model.specs.State.{Loads}
use Rattle.plant_model.specs.Solving.{commit, job_found}
use Rattle.plant_model.specs.Parent as parent
use Rattle.plant_model.specs.Deeds.{with_element, with_parent}
use Rattle.plant_model.specs.Events as events
use Rattle.plant_model.specs.Events.{split_all}
use Rattle.plant_text.specs.Names.{parent_as}
use Rattle.plant_model.specs.Plant.{Pin, Segment, first_pin, Plant, Happened, Entry, Run, deeds_of, IsGiven, load_new, is_full, ElementSolves, ParentSolves, Happens}
use Rattle.plant_laws.specs.Transcript.{Transcript}
use Rattle.plant_laws.proofs.Runs.Decompose.{append_assoc, nil_right}
use Rattle.plant_laws.proofs.Runs.Trips.{at_start, AllIn, Safe, Step, Trip, stands, goes_on, Reached, puts_safe, open_did, shut_did, feed_did, take_did, carry_did, break_did, tick_did, drain_did, begun_trip, opening_safe}

module _ (c : Codec) (n : NetworkParts) (R : Bytes → Type 0) (items : (fs : List Bytes) → AllIn c n R (split_all c fs)) (I : Transcript → Plant → Type 0)
    (bare_holds : I [] (events.bare Pin Segment c n open_of first_pin))
    (step_holds : (ds : Transcript) (s t : Plant) (es : Transcript) → I ds s → Step c n R s es t → I (es ++ ds) t)
    (load_holds : (ds : Transcript) (s : Plant) (d : As) (g : Rows) → IsGiven (event.Load d g) → I ds s → I (Loads d g ∷ ds) (load_new c n d g s).state)
    (solve_holds : (ds : Transcript) (s : Plant) (d : As) (k : ℕ) (h : Happened) → I ds s → ElementSolves c n d k s h → I (h.deeds ++ ds) h.state)
    (upper_holds : (ds : Transcript) (s : Plant) (k : ℕ) (h : Happened) → I ds s → ParentSolves c n k s h → I (h.deeds ++ ds) h.state) where
  trip_holds : (ds : Transcript) (s t : Plant) (es : Transcript) → Trip c n R s es t → I ds s → I (es ++ ds) t
  trip_holds ds s t es (stands s') h = h
  trip_holds ds s u es (goes_on s' t u' fs gs r a) h =
      subst (λ (l : Transcript). I l u) (sym (append_assoc gs fs ds)) (step_holds (fs ++ ds) t u gs (trip_holds ds s t fs r h) a)

  abbrev Held : Transcript → Plant → Type 0
  Held ds s = I ds s × Safe c n R s

  opening_holds : (s : Plant) → Run c n [] s → Held (deeds_of c n []) s
  opening_holds s is =
      let b = events.bare Pin Segment c n open_of first_pin in
      let g = events.opening Pin Segment c n open_of first_pin in
      subst (λ (p : Plant). Held g.deeds p) (sym is)
      (subst (λ (l : Transcript). I l g.state) (nil_right g.deeds) (trip_holds [] b g.state g.deeds (begun_trip c n R items (adjacencies n) b (at_start b) (stands b)) bare_holds), opening_safe c n R items)

  abbrev Kept : Transcript → Happened → Type 0
  Kept ds h = Held (h.deeds ++ ds) h.state

  kept_pick : (ds : Transcript) (b : Bool) (h k : Happened) → Kept ds h → Kept ds k → Kept ds (cond b h k)
  kept_pick ds true h k x y = x
  kept_pick ds false h k x y = y

  by_did : (ds : Transcript) (s : Plant) (h k : Happened) → k ≡ h → Reached c n R s (record { state = h.state; deeds = h.deeds }) → Held ds s → Kept ds k
  by_did ds s h k is r held = subst (Kept ds) (sym is) (trip_holds ds s h.state h.deeds r.trip held.0, r.safe)

  happens_kept : (ds : Transcript) (s : Plant) (e : Event) (h : Happened) → IsGiven e → Happens c n s e h → Held ds s → Kept ds h
  happens_kept ds s (event.Load d g) h given is held =
      subst (Kept ds) (sym is)
      (kept_pick ds (is_element n d) _ _
      (kept_pick ds (is_full (s.current d).number (s.elements d).pending.rows) _ _ held (load_holds ds s d g given held.0, record { live = held.1.live; inboxes = held.1.inboxes })) held)
  happens_kept ds s (event.Open i holder) h given is held = by_did ds s (events.open_peer Pin Segment c n open_of i holder s) h is (open_did c n R items i holder s held.1) held
  happens_kept ds s (event.Shut i) h given is held = by_did ds s (events.shut Pin Segment c n open_of i s) h is (shut_did c n R items i s held.1) held
  happens_kept ds s (event.Feed i bytes) h given is held = by_did ds s (events.feed Pin Segment c n open_of i bytes s) h is (feed_did c n R items i bytes s held.1) held
  happens_kept ds s (event.Take i) h given is held = by_did ds s (events.take Pin Segment c n open_of i s) h is (take_did c n R items i s held.1) held
  happens_kept ds s (event.Carry a b) h given is held = by_did ds s (events.carry Pin Segment c n open_of a b s) h is (carry_did c n R items a b s held.1) held
  happens_kept ds s (event.Break a b) h given is held = by_did ds s (events.break Pin Segment c n open_of a b s) h is (break_did c n R items a b s held.1) held
  happens_kept ds s (event.Tick t) h given is held = by_did ds s (events.tick Pin Segment c n open_of t.0 s) h is (tick_did c n R items t.0 s held.1) held
  happens_kept ds s (event.Drain i holder) h given is held = by_did ds s (events.drain Pin Segment c n open_of i holder s) h is (drain_did c n R items i holder s held.1) held
  happens_kept ds s (event.Solve d k) h given (inl none) held = subst (Kept ds) (sym none.1) held
  happens_kept ds s (event.Solve d k) h given (inr (inl none)) held = subst (Kept ds) (sym none.2) held
  happens_kept ds s (event.Solve d k) h given (inr (inr (inl solves))) held =
      let x = solves.1 in
      let r = commit c (place n d) (k, x.held) x.down s.clock (λ b. b.segment) (job_found x.rows.source_known x.rows.target_known x.rows.best) (s.elements d) in (
        solve_holds ds s d k h held.0 x,
        subst (λ (h' : Happened). Safe c n R h'.state) (sym x.is)
            (puts_safe c n R d r.outputs (with_element Pin Segment c n open_of d r.element s) (record { live = held.1.live; inboxes = held.1.inboxes })),
      )
  happens_kept ds s (event.Solve d k) h given (inr (inr (inr solves))) held =
      let x = solves.2 in
      let r = parent.commit c (k, x.held) x.answer s.parent in (
        upper_holds ds s k h held.0 x,
        subst (λ (h' : Happened). Safe c n R h'.state) (sym x.is)
            (puts_safe c n R parent_as r.outputs (with_parent Pin Segment c n open_of r.parent s) (record { live = held.1.live; inboxes = held.1.inboxes })),
      )

  pub run_travels : (es : List Entry) (s : Plant) → Run c n es s → I (deeds_of c n es) s × Safe c n R s
  run_travels [] s is = opening_holds s is
  run_travels (e ∷ older) s run =
      let held = run_travels older run.0 run.1 in
      elim run.3 [
        | inl is ↦ happens_kept (deeds_of c n older) run.0 e.event (record { answer = e.answer; state = s; deeds = e.deeds }) run.2 is held
        | inr none ↦ subst (Kept (deeds_of c n older)) (sym none.1) held
      ]
