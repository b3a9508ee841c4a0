-- A step is one: the rows of a job over a topology in order are one, with their segments, and so is what the parent finds.
use Rattle.std.proofs.Common.{◌≡◌, ℕ, nat_eq, Bool, true, false, cond, List, [], ◌∷◌, map, Option, Some, None, inl, inr, sym, ◌∙◌, ap, subst, refl}
use Rattle.std.specs.Prelude.{Contains, ◌↔◌, IsTrue}
use Rattle.std.specs.Map.{lookup}
use Rattle.std.proofs.lemmas.Bool.{eq-eqb}
use Rattle.plant_model.specs.Types.{Addr, As, Link, Query, Seed, Label, Held, Best, Branch, Ask, Down, Target, NetworkParts}
use Rattle.te_links.specs.Rows.{Rows, IsInOrder}
use Rattle.walk_laws.specs.Labels.{Reaches, IsLabel, IsTight, IsChosen, IsSegment}
use Rattle.walk_laws.proofs.Segments.{one_segment}
use Rattle.disclosure.specs.Shown.{open_of}
use Rattle.border_costs.specs.declared.answer.Answer.{Answer}
use Rattle.border_costs.specs.declared.job.Target.TheVariants.{Node, Next}
use Rattle.border_costs.specs.Asks.{AreSeedsTo}
use Rattle.border_costs.specs.Solutions.{AreRows, AreBest, IsBest}
use Rattle.plant_text.specs.Names.{same_as, parent_as}
use Rattle.plant_model.specs.declared.event.Event.{Event}
use Rattle.plant_model.specs.declared.event.Event.TheVariants as event
use Rattle.plant_model.specs.Wire.{Codec}
use Rattle.plant_model.specs.Element.{Item, Ready, Stage}
use Rattle.plant_model.specs.Element as element
use Rattle.plant_model.specs.BorderGraph.{Found, SolvesBorder}
use Rattle.plant_model.specs.Parent as parent
use Rattle.plant_model.specs.Settings.{family}
use Rattle.plant_model.specs.Solving.{job_found}
use Rattle.plant_model.specs.Deeds as deeds
use Rattle.plant_model.specs.Events.{is_ready, is_ready_row, is_ready_asking, has_jobs}
use Rattle.plant_model.specs.Plant.{Pin, Segment, Plant, Happened, Happens, ask, done, ElementSolves, ParentSolves, SolveHappens}
use Rattle.plant_laws.specs.Steps.{StepsAreOne}
use Rattle.plant_laws.proofs.Runs.Lists.{rising_of}
use Rattle.plant_laws.proofs.Blind.OneJoin.{AreOne, AllOne}
use Rattle.plant_laws.proofs.Blind.OneBest.{not_none, one_best}
use Rattle.plant_laws.proofs.Blind.OneBorder.{Apart, FarsDiffer, fars_of, one_answer}
use Rattle.plant_laws.proofs.Runs.Sound.{Sound, run_sound}

-- ---- seeds with the same members

record Alike (seeds seeds' : List Seed) : Type 0 where
  pub to : (s : Seed) → Contains seeds s → Contains seeds' s
  pub back : (s : Seed) → Contains seeds' s → Contains seeds s

flip : (seeds seeds' : List Seed) → Alike seeds seeds' → Alike seeds' seeds
flip seeds seeds' alike = record { to = alike.back; back = alike.to }

seeds_alike : (g : Rows) (q : Query) (down : List Down) (target : Target) (seeds seeds' : List Seed) → AreSeedsTo g q down target seeds → AreSeedsTo g q down target seeds' → Alike seeds seeds'
seeds_alike g q down (Node t) seeds seeds' are are' = record {
  to = λ s i. subst (λ (l : List Seed). Contains l s) (are ∙ sym are') i;
  back = λ s i. subst (λ (l : List Seed). Contains l s) (are' ∙ sym are) i;
}
seeds_alike g q down (Next b) seeds seeds' are are' = record {
  to = λ s i. (let x = are.each s i in are'.every x.0 s x.1);
  back = λ s i. (let x = are'.each s i in are.every x.0 s x.1);
}

module _ (g : Rows) (q : Query) where
  reaches_alike : (seeds seeds' : List Seed) → Alike seeds seeds' → (u : Addr) (a : Label) → Reaches g q seeds u a → Reaches g q seeds' u a
  reaches_alike seeds seeds' alike u a r = record { seed = r.seed; is_seed = alike.to r.seed r.is_seed; links = r.links; walk = r.walk; sum = r.sum; exit = r.exit; within = r.within }

  label_alike : (seeds seeds' : List Seed) → Alike seeds seeds' → (u : Addr) (o : Option Label) → IsLabel g q seeds u o → IsLabel g q seeds' u o
  label_alike seeds seeds' alike u None is = λ a r. is a (reaches_alike seeds' seeds (flip seeds seeds' alike) u a r)
  label_alike seeds seeds' alike u (Some a) is = (reaches_alike seeds seeds' alike u a is.0, λ b r. is.1 b (reaches_alike seeds' seeds (flip seeds seeds' alike) u b r))

  tight_alike : (seeds seeds' : List Seed) → Alike seeds seeds' → (l : Link) (a rest : Label) → IsTight g q seeds l a rest → IsTight g q seeds' l a rest
  tight_alike seeds seeds' alike l a rest t = record { admitted = t.admitted; at_end = label_alike seeds seeds' alike l.to (Some rest) t.at_end; sum = t.sum; exit = t.exit }

  chosen_alike : (seeds seeds' : List Seed) → Alike seeds seeds' → (u : Addr) (a : Label) (l : Link) (rest : Label) → IsChosen g q seeds u a l rest → IsChosen g q seeds' u a l rest
  chosen_alike seeds seeds' alike u a l rest c = record {
    from = c.from;
    tight = tight_alike seeds seeds' alike l a rest c.tight;
    least = λ m r from t. c.least m r from (tight_alike seeds' seeds (flip seeds seeds' alike) m a r t);
  }

  segment_alike : (seeds seeds' : List Seed) → Alike seeds seeds' → (u : Addr) (a : Label) (ls : List Link) → IsSegment g q seeds u a ls → IsSegment g q seeds' u a ls
  segment_alike seeds seeds' alike u a [] is = alike.to (record { node = u; cost = a.cost; exit = a.exit }) is
  segment_alike seeds seeds' alike u a (l ∷ ls) is = (
    λ ends. is.0 (alike.back (record { node = u; cost = a.cost; exit = a.exit }) ends),
    (is.1.0, chosen_alike seeds seeds' alike u a l is.1.0 is.1.1, segment_alike seeds seeds' alike l.to is.1.0 ls is.1.2),
  )

-- ---- the rows of a job

module _ (g : Rows) (a : Ask) (order : IsInOrder g) (seeds seeds' : List Seed) (alike : Alike seeds seeds') where
  abbrev make : Addr → ℕ → Addr → Option Addr → List Addr → Best
  make entry cost exit head segment = record { entry = entry; cost = cost; exit = exit; head = head; segment = segment }

  abbrev pair : ℕ → Addr → Label
  pair cost exit = record { cost = cost; exit = exit }

  same_best : (e : Addr) (x y : Best) → IsBest g a seeds e x → IsBest g a seeds' e y → AreOne x y → x ≡ y
  same_best e x y f h one =
      let there = segment_alike g a.query seeds seeds' alike e (pair x.cost x.exit) f.links f.chosen in
      let labels : pair x.cost x.exit ≡ pair y.cost y.exit = ap (λ (k : ℕ). pair k x.exit) one.cost ∙ ap (λ (z : Addr). pair y.cost z) one.exit in
      let links : f.links ≡ h.links = one_segment g a.query seeds' e (pair y.cost y.exit) f.links h.links order (subst (λ (l : Label). IsSegment g a.query seeds' e l f.links) labels there) h.chosen in
      let segments : x.segment ≡ y.segment = f.shown ∙ ap (λ (ls : List Link). e ∷ map (λ (l : Link). l.far) ls) links ∙ sym h.shown in
      ap (λ (z : Addr). make z x.cost x.exit x.head x.segment) one.entry
      ∙ ap (λ (k : ℕ). make y.entry k x.exit x.head x.segment) one.cost
      ∙ ap (λ (z : Addr). make y.entry y.cost z x.head x.segment) one.exit
      ∙ ap (λ (o : Option Addr). make y.entry y.cost y.exit o x.segment) one.head
      ∙ ap (λ (l : List Addr). make y.entry y.cost y.exit y.head l) segments

  same_bests : (entries : List Addr) (xs ys : List Best) → AreBest g a seeds entries xs → AreBest g a seeds' entries ys → AllOne xs ys → xs ≡ ys
  same_bests [] xs ys f h all = f ∙ sym h
  same_bests (e ∷ es) xs ys (inl f) (inl h) all = same_bests es xs ys f.1 h.1 all
  same_bests (e ∷ es) xs ys (inl f) (inr h) all = absurd (not_none g a.query a.down order a.target e (pair h.0.cost h.0.exit) f.0 h.3.pair)
  same_bests (e ∷ es) xs ys (inr f) (inl h) all = absurd (not_none g a.query a.down order a.target e (pair f.0.cost f.0.exit) h.0 f.3.pair)
  same_bests (e ∷ es) xs ys (inr f) (inr h) all =
      let both : AllOne (f.0 ∷ f.1) (h.0 ∷ h.1) = subst (λ (l : List Best). AllOne l (h.0 ∷ h.1)) f.2 (subst (λ (l : List Best). AllOne xs l) h.2 all) in
      f.2 ∙ ap (λ (b : Best). b ∷ f.1) (same_best e f.0 h.0 f.3 h.3 both.0) ∙ ap (λ (l : List Best). h.0 ∷ l) (same_bests es f.1 h.1 f.4 h.4 both.1) ∙ sym h.2

known_same : {A : Type 0} (b b' : Bool) → (IsTrue b ↔ A) → (IsTrue b' ↔ A) → b ≡ b'
known_same true true f h = refl
known_same false false f h = refl
known_same true false f h = let no : false ≡ true = h.1 (f.0 refl) in cc
known_same false true f h = let no : false ≡ true = f.1 (h.0 refl) in cc

record SameRows (x y : Answer) : Type 0 where
  pub best : x.best ≡ y.best
  pub source_known : x.source_known ≡ y.source_known
  pub target_known : x.target_known ≡ y.target_known

same_rows : (g : Rows) (a : Ask) → IsInOrder g → (x y : Answer) → AreRows g a x → AreRows g a y → SameRows x y
same_rows g a order x y f h = record {
  best = same_bests g a order f.seeds h.seeds (seeds_alike g a.query a.down a.target f.seeds h.seeds f.are_seeds.are h.are_seeds.are) a.entries x.best y.best f.best h.best
      (one_best g a order f.seeds h.seeds a.entries x.best y.best f.best h.best);
  source_known = known_same x.source_known y.source_known f.source_known h.source_known;
  target_known = known_same x.target_known y.target_known f.target_known h.target_known;
}

-- ---- solves

held_one : {A : Type 0} (x y : A) (o : Option A) → o ≡ Some x → o ≡ Some y → x ≡ y
held_one {A = A} x y o e f = some_same x y (sym e ∙ f)
  where
    some_same : (x y : A) → Some x ≡ Some y → x ≡ y
    some_same x y e = cc

ready_one : (a b : List Branch) (s : Stage) → s ≡ Ready a → s ≡ Ready b → a ≡ b
ready_one a b s e f = let same : Ready a ≡ Ready b = sym e ∙ f in cc

not_both : {X : Type 0} (t : Bool) → t ≡ true → t ≡ false → X
not_both true e f = cc
not_both false e f = cc

module _ (c : Codec) (n : NetworkParts) (fars : FarsDiffer n) (s : Plant) (sound : Sound n s) where
  one_solve : (d : As) (k : ℕ) (h h' : Happened) → ElementSolves c n d k s h → ElementSolves c n d k s h' → h ≡ h'
  one_solve d k h h' x y =
      x.is
      ∙ ap (λ (l : List Best). made x.held x.down x.rows.source_known x.rows.target_known l) rows.best
      ∙ ap (λ (b : Bool). made x.held x.down b x.rows.target_known y.rows.best) rows.source_known
      ∙ ap (λ (b : Bool). made x.held x.down y.rows.source_known b y.rows.best) rows.target_known
      ∙ ap (λ (l : List Branch). made x.held l y.rows.source_known y.rows.target_known y.rows.best) down
      ∙ ap (λ (z : Held (Item Pin)). made z y.down y.rows.source_known y.rows.target_known y.rows.best) held
      ∙ sym y.is
    where
      made : Held (Item Pin) → List Branch → Bool → Bool → List Best → Happened
      made z l known known' best = done c n (deeds.solve Pin Segment c n open_of d (k, z) l (λ b. b.segment) (job_found known known' best) s)

      held : x.held ≡ y.held
      held = held_one x.held y.held (lookup (nat_eq k) (s.elements d).pending.rows) x.is_held y.is_held

      down : x.down ≡ y.down
      down = ready_one x.down y.down x.held.item.stage x.ready (ap (λ (z : Held (Item Pin)). z.item.stage) held ∙ y.ready)

      rows : SameRows x.rows y.rows
      rows =
          same_rows x.held.item.pin.topology (ask c n d (k, x.held) x.down) (sound d k x.held x.is_held).1 x.rows y.rows x.right
          (subst (λ (l : List Branch). AreRows x.held.item.pin.topology (ask c n d (k, x.held) l) y.rows) (sym down)
          (subst (λ (z : Held (Item Pin)). AreRows z.item.pin.topology (ask c n d (k, z) y.down) y.rows) (sym held) y.right))

  one_upper : (k : ℕ) (h h' : Happened) → ParentSolves c n k s h → ParentSolves c n k s h' → h ≡ h'
  one_upper k h h' x y =
      let held : x.held ≡ y.held = held_one x.held y.held (lookup (nat_eq k) s.parent.pending.rows) x.is_held y.is_held in
      let answer : x.answer ≡ y.answer = one_answer (parent.job_of (family n) (k, x.held)) (rising_of Apart n.parent_links fars) x.answer y.answer x.solves
      (subst (λ (z : Held parent.Asking). SolvesBorder (parent.job_of (family n) (k, z)) y.answer) (sym held) y.solves) in
      x.is ∙ ap (λ (a : Option Found). done c n (deeds.solve_upper Pin Segment c n open_of (k, x.held) a s)) answer
      ∙ ap (λ (z : Held parent.Asking). done c n (deeds.solve_upper Pin Segment c n open_of (k, z) y.answer s)) held ∙ sym y.is

  -- what is solved is ready
  solves_ready : (d : As) (k : ℕ) (h : Happened) → ElementSolves c n d k s h → is_ready d k s ≡ true
  solves_ready d k h x =
      ap (λ (t : Bool). cond t (is_ready_asking (lookup (nat_eq k) s.parent.pending.rows)) (is_ready_row (lookup (nat_eq k) (s.elements d).pending.rows))) x.upper
      ∙ ap (λ (o : Option (Held (Item Pin))). is_ready_row o) x.is_held ∙ ap (λ (z : Stage). element.is_ready z) x.ready

  upper_ready : (d : As) (k : ℕ) (h : Happened) → d ≡ parent_as → ParentSolves c n k s h → is_ready d k s ≡ true
  upper_ready d k h is x =
      ap (λ (z : As). is_ready z k s) is ∙ ap (λ (o : Option (Held parent.Asking)). is_ready_asking o) x.is_held ∙ x.ready

  at_parent : {X : Type 0} (d : As) → same_as d parent_as ≡ false → d ≡ parent_as → X
  at_parent d upper is = not_both (same_as d parent_as) (eq-eqb d.0 parent_as.0 (ap (λ (z : As). z.0) is)) upper

  one_solving : (d : As) (k : ℕ) (h h' : Happened) → SolveHappens c n d k s h → SolveHappens c n d k s h' → h ≡ h'
  one_solving d k h h' (inl x) (inl y) = x.1 ∙ sym y.1
  one_solving d k h h' (inl x) (inr (inl y)) = not_both (has_jobs n d) y.0 x.0
  one_solving d k h h' (inl x) (inr (inr (inl y))) = not_both (has_jobs n d) y.0 x.0
  one_solving d k h h' (inl x) (inr (inr (inr y))) = not_both (has_jobs n d) y.0 x.0
  one_solving d k h h' (inr (inl x)) (inl y) = not_both (has_jobs n d) x.0 y.0
  one_solving d k h h' (inr (inl x)) (inr (inl y)) = x.2 ∙ sym y.2
  one_solving d k h h' (inr (inl x)) (inr (inr (inl y))) = not_both (is_ready d k s) (solves_ready d k h' y.1) x.1
  one_solving d k h h' (inr (inl x)) (inr (inr (inr y))) = not_both (is_ready d k s) (upper_ready d k h' y.1 y.2) x.1
  one_solving d k h h' (inr (inr (inl x))) (inl y) = not_both (has_jobs n d) x.0 y.0
  one_solving d k h h' (inr (inr (inl x))) (inr (inl y)) = not_both (is_ready d k s) (solves_ready d k h x.1) y.1
  one_solving d k h h' (inr (inr (inl x))) (inr (inr (inl y))) = one_solve d k h h' x.1 y.1
  one_solving d k h h' (inr (inr (inl x))) (inr (inr (inr y))) = at_parent d x.1.upper y.1
  one_solving d k h h' (inr (inr (inr x))) (inl y) = not_both (has_jobs n d) x.0 y.0
  one_solving d k h h' (inr (inr (inr x))) (inr (inl y)) = not_both (is_ready d k s) (upper_ready d k h x.1 x.2) y.1
  one_solving d k h h' (inr (inr (inr x))) (inr (inr (inl y))) = at_parent d y.1.upper x.1
  one_solving d k h h' (inr (inr (inr x))) (inr (inr (inr y))) = one_upper k h h' x.2 y.2

  one_happens : (e : Event) (h h' : Happened) → Happens c n s e h → Happens c n s e h' → h ≡ h'
  one_happens (event.Solve d k) h h' x y = one_solving d k h h' x y
  one_happens _ h h' x y = x ∙ sym y

pub steps_are_one : StepsAreOne
steps_are_one c n network es s run e one other x y = one_happens c n (fars_of n network) s (run_sound c n es s run) e one other x y
