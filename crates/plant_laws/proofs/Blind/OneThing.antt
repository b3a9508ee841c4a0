-- The blind plant says one thing on a trace, so that two runs with one disclosed trace give closed peers the same bytes.
use Rattle.std.proofs.Common.{◌≡◌, ℕ, Bool, true, false, cond, nat_eq, List, [], ◌∷◌, ◌++◌, Option, Some, sym, ◌∙◌, ap, subst, inl, inr, refl, arith}
use Rattle.std.specs.Prelude.{AllPairs}
use Rattle.std.specs.Map.{lookup}
use Rattle.std.proofs.lemmas.Bool.{eq-eqb}
use Rattle.plant_model.specs.Types.{As, BorderRow, Held, Branch, NetworkParts}
use Rattle.border_costs.specs.Tables.{IsBorderTable, IsRowBefore}
use Rattle.plant_model.specs.declared.event.Event.{Event}
use Rattle.plant_model.specs.declared.event.Event.TheVariants as event
use Rattle.plant_model.specs.declared.event.BlindEvent.{BlindEvent}
use Rattle.plant_model.specs.declared.event.BlindEvent.TheVariants as blind
use Rattle.plant_text.specs.Names.{same_as, parent_as}
use Rattle.plant_model.specs.Wire.{Codec}
use Rattle.plant_model.specs.Branches.{downs}
use Rattle.plant_model.specs.Jobs.{target_along, IsJoinOf}
use Rattle.plant_model.specs.Element.{Item, Ready, Stage, Taken, is_client}
use Rattle.plant_model.specs.Element as element
use Rattle.plant_model.specs.Solving.{commit, job_found}
use Rattle.plant_model.specs.BorderGraph.{Found, SolvesBorder}
use Rattle.plant_model.specs.Parent as parent
use Rattle.plant_model.specs.Settings.{place, family}
use Rattle.plant_model.specs.State.{Solves}
use Rattle.plant_model.specs.Deeds as deeds
use Rattle.plant_model.specs.Deeds.{puts, with_element}
use Rattle.plant_model.specs.Events.{is_ready, is_ready_row, is_ready_asking, has_jobs}
use Rattle.plant_model.specs.Plant.{Plant, Happened, Steps, Entry, ask, deeds_of}
use Rattle.plant_model.specs.Blind.{BlindState, BlindHappened, BlindSolves, BlindUpperSolves, BlindHappens, BlindSays, AreBlindGiven, SolveHappens, Joined, Heard, heard, done, Discloses, blind_of, with_event, is_accepted}
use Rattle.plant_laws.specs.Worlds.{DisclosedRun, SaysOneThing, TwoWorlds}
use Rattle.plant_laws.proofs.Runs.Lists.{rising_of}
use Rattle.plant_laws.proofs.Blind.OneJoin.{AllOne, one_join}
use Rattle.plant_laws.proofs.Blind.OneReply.{one_commit}
use Rattle.plant_laws.proofs.Blind.OneBorder.{Apart, FarsDiffer, fars_of, one_answer}
use Rattle.plant_laws.proofs.Blind.SaysBlind.{says}

-- The rows of each solve stand in order, so that there is one for an entry and a way out.
abbrev pub IsOrdered : BlindEvent → Type 0
IsOrdered (blind.Solve d k rows) = AllPairs IsRowBefore rows
IsOrdered _ = Unit {0}

abbrev pub AreOrdered : List BlindEvent → Type 0
AreOrdered [] = Unit {0}
AreOrdered (x ∷ older) = IsOrdered x × AreOrdered older

abbrev P : Type 0
P = Unit {0}

held_one : {A : Type 0} (x y : A) (o : Option A) → o ≡ Some x → o ≡ Some y → x ≡ y
held_one {A = A} x y o e f = some_same x y (sym e ∙ f)
  where
    some_same : (x y : A) → Some x ≡ Some y → x ≡ y
    some_same x y e = cc

ready_one : (a b : List Branch) (s : Stage) → s ≡ Ready a → s ≡ Ready b → a ≡ b
ready_one a b s e f = let same : Ready a ≡ Ready b = sym e ∙ f in cc

not_both : {X : Type 0} (t : Bool) → t ≡ true → t ≡ false → X
not_both true e f = cc
not_both false e f = cc

module _ (c : Codec) (n : NetworkParts) (fars : FarsDiffer n) where
  one_solve : (d : As) (k : ℕ) (rows : List BorderRow) (s : BlindState) (h h' : BlindHappened) → AllPairs IsRowBefore rows → BlindSolves c n d k rows s h → BlindSolves c n d k rows s h' → h ≡ h'
  one_solve d k rows s h h' order x y =
      x.is ∙ ap (λ (r : Taken P P). made x.held r) commits
      ∙ ap (λ (z : Held (Item P)). made z (commit c (place n d) (k, z) y.down s.clock (λ b. tt) (job_found true true y.best) (s.elements d))) held ∙ sym y.is
    where
      made : Held (Item P) → Taken P P → BlindHappened
      made z r = done c n (record { state = puts P P c n (λ u. []) d r.outputs (with_element P P c n (λ u. []) d r.element s); deeds = Solves d k r.outputs r.element.keys.issued ∷ [] })

      held : x.held ≡ y.held
      held = held_one x.held y.held (lookup (nat_eq k) (s.elements d).pending.rows) x.is_held y.is_held

      down : x.down ≡ y.down
      down = ready_one x.down y.down x.held.item.stage x.ready (ap (λ (z : Held (Item P)). z.item.stage) held ∙ y.ready)

      bests : (t : Bool) → is_client x.held.item.class ≡ t → cond t (x.best ≡ y.best) (AllOne x.best y.best)
      bests true is =
          let one : x.best ≡ [] = subst (λ (u : Bool). cond u (x.best ≡ []) (IsJoinOf x.held.item.wanted.query.cap (target_along x.held.item.sequence x.held.item.wanted.target) rows (downs x.down) x.best)) is x.joined in
          let other0 = subst (λ (z : Held (Item P)). Joined c n z.item rows y.down y.best) (sym held) y.joined in
          let other : y.best ≡ [] = subst (λ (u : Bool). cond u (y.best ≡ []) (IsJoinOf x.held.item.wanted.query.cap (target_along x.held.item.sequence x.held.item.wanted.target) rows (downs y.down) y.best)) is other0 in
          one ∙ sym other
      bests false is =
          let one = subst (λ (u : Bool). cond u (x.best ≡ []) (IsJoinOf x.held.item.wanted.query.cap (target_along x.held.item.sequence x.held.item.wanted.target) rows (downs x.down) x.best)) is x.joined in
          let other0 = subst (λ (z : Held (Item P)). Joined c n z.item rows y.down y.best) (sym held) y.joined in
          let other1 = subst (λ (l : List Branch). Joined c n x.held.item rows l y.best) (sym down) other0 in
          let other = subst (λ (u : Bool). cond u (y.best ≡ []) (IsJoinOf x.held.item.wanted.query.cap (target_along x.held.item.sequence x.held.item.wanted.target) rows (downs x.down) y.best)) is other1 in
          one_join x.held.item.wanted.query.cap (target_along x.held.item.sequence x.held.item.wanted.target) rows (downs x.down) x.best y.best order one other

      commits : commit c (place n d) (k, x.held) x.down s.clock (λ b. tt) (job_found true true x.best) (s.elements d) ≡ commit c (place n d) (k, x.held) y.down s.clock (λ b. tt) (job_found true true y.best) (s.elements d)
      commits =
          one_commit P c (place n d) (k, x.held) x.down s.clock (s.elements d) x.best y.best (is_client x.held.item.class) refl (bests (is_client x.held.item.class) refl)
          ∙ ap (λ (l : List Branch). commit c (place n d) (k, x.held) l s.clock (λ b. tt) (job_found true true y.best) (s.elements d)) down

  one_upper : (k : ℕ) (s : BlindState) (h h' : BlindHappened) → BlindUpperSolves c n k s h → BlindUpperSolves c n k s h' → h ≡ h'
  one_upper k s h h' x y =
      let held : x.held ≡ y.held = held_one x.held y.held (lookup (nat_eq k) s.parent.pending.rows) x.is_held y.is_held in
      let answer : x.answer ≡ y.answer = one_answer (parent.job_of (family n) (k, x.held)) (rising_of Apart n.parent_links fars) x.answer y.answer x.solves
      (subst (λ (z : Held parent.Asking). SolvesBorder (parent.job_of (family n) (k, z)) y.answer) (sym held) y.solves) in
      x.is ∙ ap (λ (a : Option Found). done c n (deeds.solve_upper P P c n (λ u. []) (k, x.held) a s)) answer
      ∙ ap (λ (z : Held parent.Asking). done c n (deeds.solve_upper P P c n (λ u. []) (k, z) y.answer s)) held ∙ sym y.is

  -- what is solved is ready
  solves_ready : (d : As) (k : ℕ) (rows : List BorderRow) (s : BlindState) (h : BlindHappened) → BlindSolves c n d k rows s h → is_ready d k s ≡ true
  solves_ready d k rows s h x =
      ap (λ (t : Bool). cond t (is_ready_asking (lookup (nat_eq k) s.parent.pending.rows)) (is_ready_row (lookup (nat_eq k) (s.elements d).pending.rows))) x.upper
      ∙ ap (λ (o : Option (Held (Item P))). is_ready_row o) x.is_held ∙ ap (λ (z : Stage). element.is_ready z) x.ready

  upper_ready : (d : As) (k : ℕ) (s : BlindState) (h : BlindHappened) → d ≡ parent_as → BlindUpperSolves c n k s h → is_ready d k s ≡ true
  upper_ready d k s h is x =
      ap (λ (z : As). is_ready z k s) is ∙ ap (λ (o : Option (Held parent.Asking)). is_ready_asking o) x.is_held ∙ x.ready

  at_parent : {X : Type 0} (d : As) → same_as d parent_as ≡ false → d ≡ parent_as → X
  at_parent d upper is = not_both (same_as d parent_as) (eq-eqb d.0 parent_as.0 (ap (λ (z : As). z.0) is)) upper

  one_solving : (d : As) (k : ℕ) (rows : List BorderRow) (s : BlindState) (h h' : BlindHappened) → AllPairs IsRowBefore rows → SolveHappens c n d k rows s h → SolveHappens c n d k rows s h' → h ≡ h'
  one_solving d k rows s h h' order (inl x) (inl y) = x.1 ∙ sym y.1
  one_solving d k rows s h h' order (inl x) (inr (inl y)) = not_both (has_jobs n d) y.0 x.0
  one_solving d k rows s h h' order (inl x) (inr (inr (inl y))) = not_both (has_jobs n d) y.0 x.0
  one_solving d k rows s h h' order (inl x) (inr (inr (inr y))) = not_both (has_jobs n d) y.0 x.0
  one_solving d k rows s h h' order (inr (inl x)) (inl y) = not_both (has_jobs n d) x.0 y.0
  one_solving d k rows s h h' order (inr (inl x)) (inr (inl y)) = x.2 ∙ sym y.2
  one_solving d k rows s h h' order (inr (inl x)) (inr (inr (inl y))) = not_both (is_ready d k s) (solves_ready d k rows s h' y.1) x.1
  one_solving d k rows s h h' order (inr (inl x)) (inr (inr (inr y))) = not_both (is_ready d k s) (upper_ready d k s h' y.1 y.2) x.1
  one_solving d k rows s h h' order (inr (inr (inl x))) (inl y) = not_both (has_jobs n d) x.0 y.0
  one_solving d k rows s h h' order (inr (inr (inl x))) (inr (inl y)) = not_both (is_ready d k s) (solves_ready d k rows s h x.1) y.1
  one_solving d k rows s h h' order (inr (inr (inl x))) (inr (inr (inl y))) = one_solve d k rows s h h' order x.1 y.1
  one_solving d k rows s h h' order (inr (inr (inl x))) (inr (inr (inr y))) = at_parent d x.1.upper y.1
  one_solving d k rows s h h' order (inr (inr (inr x))) (inl y) = not_both (has_jobs n d) x.0 y.0
  one_solving d k rows s h h' order (inr (inr (inr x))) (inr (inl y)) = not_both (is_ready d k s) (upper_ready d k s h x.1 x.2) y.1
  one_solving d k rows s h h' order (inr (inr (inr x))) (inr (inr (inl y))) = at_parent d y.1.upper x.1
  one_solving d k rows s h h' order (inr (inr (inr x))) (inr (inr (inr y))) = one_upper k s h h' x.2 y.2

  one_happens : (s : BlindState) (x : BlindEvent) (h h' : BlindHappened) → IsOrdered x → BlindHappens c n s x h → BlindHappens c n s x h' → h ≡ h'
  one_happens s (blind.Solve d k rows) h h' order x y = one_solving d k rows s h h' order x y
  one_happens s _ h h' order x y = x ∙ sym y

  pub says_one : (trace : List BlindEvent) → AreOrdered trace → (xs ys : List Heard) (a b : BlindState) → BlindSays c n trace xs a → BlindSays c n trace ys b → (xs ≡ ys) × (a ≡ b)
  says_one [] order xs ys a b f g = (f.0 ∙ sym g.0, f.1 ∙ sym g.1)
  says_one (x ∷ older) order xs ys a b f g =
      let rec = says_one older order.1 f.1 g.1 f.0 g.0 f.3 g.3 in
      let one : f.2 ≡ g.2 = one_happens g.0 x f.2 g.2 order.0 (subst (λ (z : BlindState). BlindHappens c n z x f.2) rec.1 f.4) g.4 in (
        f.6 ∙ ap (λ (l : List Heard). l ++ heard c n f.2.deeds) rec.0 ∙ ap (λ (h : BlindHappened). g.1 ++ heard c n h.deeds) one ∙ sym g.6,
        f.5 ∙ ap (λ (h : BlindHappened). h.state) one ∙ sym g.5,
      )

ordered_of : (trace : List BlindEvent) → AreBlindGiven trace → AreOrdered trace
ordered_of [] given = tt
ordered_of (blind.Solve d k rows ∷ older) given = (given.0.order, ordered_of older given.1)
ordered_of (blind.Open i holder ∷ older) given = (tt, ordered_of older given.1)
ordered_of (blind.Shut i ∷ older) given = (tt, ordered_of older given.1)
ordered_of (blind.Feed i bytes ∷ older) given = (tt, ordered_of older given.1)
ordered_of (blind.Take i ∷ older) given = (tt, ordered_of older given.1)
ordered_of (blind.Carry a b ∷ older) given = (tt, ordered_of older given.1)
ordered_of (blind.Break a b ∷ older) given = (tt, ordered_of older given.1)
ordered_of (blind.Tick t ∷ older) given = (tt, ordered_of older given.1)
ordered_of (blind.Drain i holder ∷ older) given = (tt, ordered_of older given.1)

pub says_one_thing : SaysOneThing
says_one_thing c n network trace given xs ys a b f g = (says_one c n (fars_of n network) trace (ordered_of trace given) xs ys a b f g).0

-- The trace of a run is in order.
none_ordered : AllPairs IsRowBefore []
none_ordered i j d before below = absurd (omega (arith, below))

module _ (c : Codec) (n : NetworkParts) where
  solve_ordered : (d : As) (k : ℕ) (s : Plant) (h : Happened) (rows : List BorderRow) → Steps c n s (event.Solve d k) h → is_accepted h.answer ≡ true → Discloses c n s (event.Solve d k) rows → AllPairs IsRowBefore rows
  solve_ordered d k s h rows (inr none) ok disclosed = not_both (is_accepted h.answer) ok (ap (λ (g : Happened). is_accepted g.answer) none.1)
  solve_ordered d k s h rows (inl (inl none)) ok disclosed = not_both (is_accepted h.answer) ok (ap (λ (g : Happened). is_accepted g.answer) none.1)
  solve_ordered d k s h rows (inl (inr (inl none))) ok disclosed = not_both (is_accepted h.answer) ok (ap (λ (g : Happened). is_accepted g.answer) none.2)
  solve_ordered d k s h rows (inl (inr (inr (inl solves)))) ok (inl upper) = subst (λ (l : List BorderRow). AllPairs IsRowBefore l) (sym upper.1) none_ordered
  solve_ordered d k s h rows (inl (inr (inr (inl solves)))) ok (inr rest) =
      let x = solves.1 in
      go (is_client x.held.item.class) (rest.1 x.held x.down x.is_held x.ready)
    where
      go : (t : Bool) → cond t (rows ≡ []) (IsBorderTable solves.1.held.item.pin.topology (ask c n d (k, solves.1.held) solves.1.down) rows) → AllPairs IsRowBefore rows
      go true none = subst (λ (l : List BorderRow). AllPairs IsRowBefore l) (sym none) none_ordered
      go false table = table.order
  solve_ordered d k s h rows (inl (inr (inr (inr solves)))) ok (inl upper) = subst (λ (l : List BorderRow). AllPairs IsRowBefore l) (sym upper.1) none_ordered
  solve_ordered d k s h rows (inl (inr (inr (inr solves)))) ok (inr rest) = not_both (same_as d parent_as) (eq-eqb d.0 parent_as.0 (ap (λ (z : As). z.0) solves.1)) rest.0

  event_ordered : (e : Event) (s : Plant) (h : Happened) (rows : List BorderRow) (earlier : List BlindEvent) → Steps c n s e h → is_accepted h.answer ≡ true → Discloses c n s e rows → AreOrdered earlier → AreOrdered (with_event (blind_of e rows) earlier)
  event_ordered (event.Load d g) s h rows earlier steps ok disclosed are = are
  event_ordered (event.Solve d k) s h rows earlier steps ok disclosed are = (solve_ordered d k s h rows steps ok disclosed, are)
  event_ordered _ s h rows earlier steps ok disclosed are = (tt, are)

  step_ordered : (e : Entry) (s after : Plant) (trace earlier : List BlindEvent) → (t : Bool) → is_accepted e.answer ≡ t → Steps c n s e.event (record { answer = e.answer; state = after; deeds = e.deeds }) →
      cond t ((rows : List BorderRow) × Discloses c n s e.event rows × (trace ≡ with_event (blind_of e.event rows) earlier)) (trace ≡ earlier) → AreOrdered earlier → AreOrdered trace
  step_ordered e s after trace earlier true ok steps shown are =
      subst AreOrdered (sym shown.2) (event_ordered e.event s (record { answer = e.answer; state = after; deeds = e.deeds }) shown.0 earlier steps ok shown.1 are)
  step_ordered e s after trace earlier false none steps shown are = subst AreOrdered (sym shown) are

  pub trace_ordered : (es : List Entry) (trace : List BlindEvent) (s : Plant) → DisclosedRun c n es trace s → AreOrdered trace
  trace_ordered [] trace s run = subst AreOrdered (sym run.0) tt
  trace_ordered (e ∷ older) trace s run = step_ordered e run.0 s trace run.1 (is_accepted e.answer) refl run.4 run.5 (trace_ordered older run.1 run.0 run.2)

pub two_worlds : TwoWorlds
two_worlds c n network one other trace s t run run' =
    let x = says c n one trace s run in
    let y = says c n other trace t run' in
    (says_one c n (fars_of n network) trace (trace_ordered c n one trace s run) (heard c n (deeds_of c n one)) (heard c n (deeds_of c n other)) x.state y.state x.says y.says).0
