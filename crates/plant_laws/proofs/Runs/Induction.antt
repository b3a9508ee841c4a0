-- What the acts, loads and solves keep holds of every run.
use Rattle.std.proofs.Common.{◌≡◌, ℕ, Bool, true, false, cond, List, [], ◌∷◌, ◌++◌, sym, ap, subst, inl, inr, refl}
use Rattle.plant_model.specs.Types.{As, NetworkParts}
use Rattle.te_links.specs.Rows.{Rows}
use Rattle.plant_model.specs.declared.event.Event.{Event}
use Rattle.plant_model.specs.declared.event.Event.TheVariants as event
use Rattle.plant_model.specs.Wire.{Codec}
use Rattle.disclosure.specs.Shown.{open_of}
use Rattle.plant_text.specs.Settings.{Adjacency, adjacencies, is_element}
use Rattle.plant_model.specs.State.{Loads}
use Rattle.plant_model.specs.Deeds.{Going, begin_adjacency}
use Rattle.plant_model.specs.Events as events
use Rattle.plant_model.specs.Plant.{Pin, Segment, first_pin, Plant, Happened, Entry, Run, deeds_of, IsGiven, load_new, is_full, ElementSolves, ParentSolves, Happens}
use Rattle.plant_laws.specs.Transcript.{Transcript}
use Rattle.plant_laws.proofs.Runs.Acts.{Acts, Goes, stands, goes_on}
use Rattle.plant_laws.proofs.Runs.Decompose.{append_assoc, begin_adjacency_on, open_did, shut_did, feed_did, take_did, carry_did, break_did, tick_did, drain_did}

module _ (c : Codec) (n : NetworkParts) (I : Transcript → Plant → Type 0)
    (bare_holds : I [] (events.bare Pin Segment c n open_of first_pin))
    (act_holds : (ds : Transcript) (s t : Plant) (es : Transcript) → I ds s → Acts Pin Segment c n open_of s es t → I (es ++ ds) t)
    (load_holds : (ds : Transcript) (s : Plant) (d : As) (g : Rows) → IsGiven (event.Load d g) → I ds s → I (Loads d g ∷ ds) (load_new c n d g s).state)
    (solve_holds : (ds : Transcript) (s : Plant) (d : As) (k : ℕ) (h : Happened) → I ds s → ElementSolves c n d k s h → I (h.deeds ++ ds) h.state)
    (upper_holds : (ds : Transcript) (s : Plant) (k : ℕ) (h : Happened) → I ds s → ParentSolves c n k s h → I (h.deeds ++ ds) h.state) where
  goes_hold : (ds : Transcript) (s t : Plant) (es : Transcript) → Goes Pin Segment c n open_of s es t → I ds s → I (es ++ ds) t
  goes_hold ds s t es (stands s') h = h
  goes_hold ds s u es (goes_on s' t u' fs gs r a) h =
      subst (λ (l : Transcript). I l u) (sym (append_assoc gs fs ds)) (act_holds (fs ++ ds) t u gs (goes_hold ds s t fs r h) a)

  begun : (xs : List Adjacency) (s0 : Plant) (g : Going Pin Segment) → Goes Pin Segment c n open_of s0 g.deeds g.state →
      Goes Pin Segment c n open_of s0 (events.begin_adjacencies Pin Segment c n open_of xs g).deeds (events.begin_adjacencies Pin Segment c n open_of xs g).state
  begun [] s0 g r = r
  begun (x ∷ xs) s0 g r = begun xs s0 (begin_adjacency Pin Segment c n open_of 0 x g) (begin_adjacency_on Pin Segment c n open_of s0 0 x g r)

  opening_holds : (s : Plant) → Run c n [] s → I (deeds_of c n []) s
  opening_holds s is =
      let b = events.bare Pin Segment c n open_of first_pin in
      let g = events.opening Pin Segment c n open_of first_pin in
      subst (λ (p : Plant). I g.deeds p) (sym is)
      (subst (λ (l : Transcript). I l g.state) (nil g.deeds)
      (goes_hold [] b g.state g.deeds (begun (adjacencies n) b (record { state = b; deeds = [] }) (stands b)) bare_holds))
    where
      nil : (ds : Transcript) → ds ++ [] ≡ ds
      nil [] = refl
      nil (x ∷ xs) = ap (λ ys. x ∷ ys) (nil xs)

  abbrev Kept : Transcript → Happened → Type 0
  Kept ds h = I (h.deeds ++ ds) h.state

  kept_pick : (ds : Transcript) (b : Bool) (h k : Happened) → Kept ds h → Kept ds k → Kept ds (cond b h k)
  kept_pick ds true h k x y = x
  kept_pick ds false h k x y = y

  -- an event that is determined
  by_goes : (ds : Transcript) (s : Plant) (h k : Happened) → k ≡ h → Goes Pin Segment c n open_of s h.deeds h.state → I ds s → Kept ds k
  by_goes ds s h k is r held = subst (Kept ds) (sym is) (goes_hold ds s h.state h.deeds r held)

  happens_kept : (ds : Transcript) (s : Plant) (e : Event) (h : Happened) → IsGiven e → Happens c n s e h → I ds s → Kept ds h
  happens_kept ds s (event.Load d g) h given is held =
      subst (Kept ds) (sym is)
      (kept_pick ds (is_element n d) _ _
      (kept_pick ds (is_full (s.current d).number (s.elements d).pending.rows) _ _ held (load_holds ds s d g given held)) held)
  happens_kept ds s (event.Open i holder) h given is held = by_goes ds s (events.open_peer Pin Segment c n open_of i holder s) h is (open_did Pin Segment c n open_of i holder s) held
  happens_kept ds s (event.Shut i) h given is held = by_goes ds s (events.shut Pin Segment c n open_of i s) h is (shut_did Pin Segment c n open_of i s) held
  happens_kept ds s (event.Feed i bytes) h given is held = by_goes ds s (events.feed Pin Segment c n open_of i bytes s) h is (feed_did Pin Segment c n open_of i bytes s) held
  happens_kept ds s (event.Take i) h given is held = by_goes ds s (events.take Pin Segment c n open_of i s) h is (take_did Pin Segment c n open_of i s) held
  happens_kept ds s (event.Carry a b) h given is held = by_goes ds s (events.carry Pin Segment c n open_of a b s) h is (carry_did Pin Segment c n open_of a b s) held
  happens_kept ds s (event.Break a b) h given is held = by_goes ds s (events.break Pin Segment c n open_of a b s) h is (break_did Pin Segment c n open_of a b s) held
  happens_kept ds s (event.Tick t) h given is held = by_goes ds s (events.tick Pin Segment c n open_of t.0 s) h is (tick_did Pin Segment c n open_of t.0 s) held
  happens_kept ds s (event.Drain i holder) h given is held = by_goes ds s (events.drain Pin Segment c n open_of i holder s) h is (drain_did Pin Segment c n open_of i holder s) held
  happens_kept ds s (event.Solve d k) h given (inl none) held = subst (Kept ds) (sym none.1) held
  happens_kept ds s (event.Solve d k) h given (inr (inl none)) held = subst (Kept ds) (sym none.2) held
  happens_kept ds s (event.Solve d k) h given (inr (inr (inl solves))) held = solve_holds ds s d k h held solves.1
  happens_kept ds s (event.Solve d k) h given (inr (inr (inr solves))) held = upper_holds ds s k h held solves.2

  pub run_holds : (es : List Entry) (s : Plant) → Run c n es s → I (deeds_of c n es) s
  run_holds [] s is = opening_holds s is
  run_holds (e ∷ older) s run =
      let held = run_holds older run.0 run.1 in
      elim run.3 [
        | inl is ↦ happens_kept (deeds_of c n older) run.0 e.event (record { answer = e.answer; state = s; deeds = e.deeds }) run.2 is held
        | inr none ↦ subst (Kept (deeds_of c n older)) (sym none.1) held
      ]
