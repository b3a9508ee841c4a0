-- An ask has one answer: the seeds of an ask are one set, a label has one chosen segment, and an exit one head.
use Rattle.std.proofs.Common.{◌≡◌, ◌↔◌, inl, inr, Bool, true, false, ℕ, List, [], ◌∷◌, refl, sym, ◌∙◌, ap, subst, Some, None}
use Rattle.std.specs.Prelude.{Contains, IsTrue, map}
use Rattle.std.specs.declared.option.Option.{Option}
use Rattle.dom_base.specs.declared.addr.Addr.{Addr}
use Rattle.dom_base.specs.declared.link.Link.{Link}
use Rattle.dom_base.specs.declared.query.Query.{Query}
use Rattle.dom_base.specs.declared.query.Seed.{Seed}
use Rattle.dom_base.specs.declared.query.Label.{Label}
use Rattle.te_links.specs.declared.rows.OutLink.{OutLink}
use Rattle.te_links.specs.Rows.{Rows, IsInOrder}
use Rattle.walk_laws.specs.Labels.{Reaches, IsLabel, IsTight, IsChosen, IsSegment}
use Rattle.walk_laws.proofs.Tight.{label_unique}
use Rattle.walk_laws.proofs.Segments.{one_segment}
use Rattle.vspt_tree.specs.declared.branch.Best.{Best}
use Rattle.border_costs.specs.declared.answer.Answer.{Answer}
use Rattle.border_costs.specs.declared.job.Target.{Target}
use Rattle.border_costs.specs.declared.job.Target.TheVariants.{Node, Next}
use Rattle.border_costs.specs.declared.job.Down.{Down}
use Rattle.border_costs.specs.declared.job.Ask.{Ask}
use Rattle.border_costs.specs.Asks.{AreSeedsTo, IsPairTo}
use Rattle.border_costs.specs.Solutions.{IsHead, IsBest, AreBest}
use Rattle.border_costs.specs.OneAnswer.{OneAnswer}
use Rattle.border_costs.proofs.Pairs.{one_out}

-- the same seeds, in whatever order
abbrev Same : List Seed → List Seed → Type 0
Same s t = (x : Seed) → Contains s x ↔ Contains t x

same_seeds : (g : Rows) (q : Query) (down : List Down) (to : Target) (s t : List Seed) → AreSeedsTo g q down to s → AreSeedsTo g q down to t → Same s t
same_seeds g q down (Node n) s t one other = λ x. (subst (λ (l : List Seed). Contains l x) (one ∙ sym other), subst (λ (l : List Seed). Contains l x) (other ∙ sym one))
same_seeds g q down (Next b) s t one other = λ x. (
  (λ has. let found = one.each x has in other.every found.0 x found.1),
  (λ has. let found = other.each x has in one.every found.0 x found.1),
)

flipped : (s t : List Seed) → Same s t → Same t s
flipped s t same = λ x. ((same x).1, (same x).0)

module _ (g : Rows) (q : Query) where
  reaches : (s t : List Seed) → Same s t → (u : Addr) (a : Label) → Reaches g q s u a → Reaches g q t u a
  reaches s t same u a r = record { seed = r.seed; is_seed = (same r.seed).0 r.is_seed; links = r.links; walk = r.walk; sum = r.sum; exit = r.exit; within = r.within }

  label : (s t : List Seed) → Same s t → (u : Addr) (a : Label) → IsLabel g q s u (Some a) → IsLabel g q t u (Some a)
  label s t same u a is = (reaches s t same u a is.0, λ b r. is.1 b (reaches t s (flipped s t same) u b r))

  tight : (s t : List Seed) → Same s t → (l : Link) (a rest : Label) → IsTight g q s l a rest → IsTight g q t l a rest
  tight s t same l a rest is = record { admitted = is.admitted; at_end = label s t same l.to rest is.at_end; sum = is.sum; exit = is.exit }

  chosen : (s t : List Seed) → Same s t → (u : Addr) (a : Label) (l : Link) (rest : Label) → IsChosen g q s u a l rest → IsChosen g q t u a l rest
  chosen s t same u a l rest is = record {
    from = is.from;
    tight = tight s t same l a rest is.tight;
    least = λ m r from other. is.least m r from (tight t s (flipped s t same) m a r other);
  }

  segment : (s t : List Seed) → Same s t → (u : Addr) (a : Label) (ls : List Link) → IsSegment g q s u a ls → IsSegment g q t u a ls
  segment s t same u a [] is = (same (record { node = u; cost = a.cost; exit = a.exit })).0 is
  segment s t same u a (l ∷ ls) is = (
    (λ ends. is.0 ((same (record { node = u; cost = a.cost; exit = a.exit })).1 ends)),
    (is.1.0, chosen s t same u a l is.1.0 is.1.1, segment s t same l.to is.1.0 ls is.1.2),
  )

  one_head : (down : List Down) (to : Target) → IsInOrder g → (exit : Addr) (h k : Option Addr) → IsHead g q down to exit h → IsHead g q down to exit k → h ≡ k
  one_head down (Node n) order exit h k one other = one ∙ sym other
  one_head down (Next b) order exit h k one other =
      let same : one.out ≡ other.out = one_out g.outs order.outs one.out other.out one.least.out.is_out other.least.out.is_out (one.is_exit ∙ sym other.is_exit) in
      one.is_head ∙ ap (λ (o : OutLink). Some o.link.to) same ∙ sym other.is_head

-- a pair, or none
not_both : (g : Rows) (q : Query) (down : List Down) (entry : Addr) (to : Target) (a : Label) → IsPairTo g q down entry to (Some a) → IsPairTo g q down entry to None → ⊥
not_both g q down entry (Node n) a some none = none some.links some.least.feasible
not_both g q down entry (Next b) a some none = none a some.0

abbrev row : Addr → ℕ → Addr → Option Addr → List Addr → Best
row entry cost exit head shown = record { entry = entry; cost = cost; exit = exit; head = head; segment = shown }

module _ (g : Rows) (ask : Ask) (order : IsInOrder g) (s t : List Seed) (same : Same s t) where
  one_best : (entry : Addr) (x y : Best) → IsBest g ask s entry x → IsBest g ask t entry y → y ≡ x
  one_best entry x y one other =
      let a : Label = record { cost = x.cost; exit = x.exit } in
      let b : Label = record { cost = y.cost; exit = y.exit } in
      let both : Some b ≡ Some a = label_unique g ask.query s entry (Some b) a (label g ask.query t s (flipped s t same) entry b other.label) one.label in
      let labels : b ≡ a = cc in
      let exits : y.exit ≡ x.exit = ap (λ (l : Label). l.exit) labels in
      let heads : y.head ≡ x.head =
      one_head g ask.query ask.down ask.target order x.exit y.head x.head (subst (λ (e : Addr). IsHead g ask.query ask.down ask.target e y.head) exits other.is_head) one.is_head in
      let there : IsSegment g ask.query s entry a other.links =
      subst (λ (l : Label). IsSegment g ask.query s entry l other.links) labels (segment g ask.query t s (flipped s t same) entry b other.links other.chosen) in
      let links : other.links ≡ one.links = one_segment g ask.query s entry a other.links one.links order there one.chosen in
      let shown : y.segment ≡ x.segment = other.shown ∙ ap (λ (ls : List Link). entry ∷ map (λ l. l.far) ls) links ∙ sym one.shown in
      ap (λ (e : Addr). row e y.cost y.exit y.head y.segment) (other.is_entry ∙ sym one.is_entry)
      ∙ ap (λ (l : Label). row x.entry l.cost l.exit y.head y.segment) labels
      ∙ ap (λ (h : Option Addr). row x.entry x.cost x.exit h y.segment) heads
      ∙ ap (λ (hops : List Addr). row x.entry x.cost x.exit x.head hops) shown

  one_best_rows : (entries : List Addr) (xs ys : List Best) → AreBest g ask s entries xs → AreBest g ask t entries ys → ys ≡ xs
  one_best_rows [] xs ys one other = other ∙ sym one
  one_best_rows (entry ∷ entries) xs ys (inl one) (inl other) = one_best_rows entries xs ys one.1 other.1
  one_best_rows (entry ∷ entries) xs ys (inl one) (inr other) = absurd (not_both g ask.query ask.down entry ask.target (record { cost = other.0.cost; exit = other.0.exit }) other.3.pair one.0)
  one_best_rows (entry ∷ entries) xs ys (inr one) (inl other) = absurd (not_both g ask.query ask.down entry ask.target (record { cost = one.0.cost; exit = one.0.exit }) one.3.pair other.0)
  one_best_rows (entry ∷ entries) xs ys (inr one) (inr other) =
      let head = one_best entry one.0 other.0 one.3 other.3 in
      let tail = one_best_rows entries one.1 other.1 one.4 other.4 in
      other.2 ∙ ap (λ (b : Best). b ∷ other.1) head ∙ ap (λ (bs : List Best). one.0 ∷ bs) tail ∙ sym one.2

one_test : {P : Type 0} (a b : Bool) → IsTrue a ↔ P → IsTrue b ↔ P → b ≡ a
one_test true true one other = refl
one_test false false one other = refl
one_test true false one other = other.1 (one.0 refl)
one_test false true one other = sym (one.1 (other.0 refl))

abbrev answer : List Best → Bool → Bool → Answer
answer best source_known target_known = record { best = best; source_known = source_known; target_known = target_known }

pub one_answer : OneAnswer
one_answer g ask rows others order one other =
    let same = same_seeds g ask.query ask.down ask.target one.seeds other.seeds one.are_seeds.are other.are_seeds.are in
    let best : others.best ≡ rows.best = one_best_rows g ask order one.seeds other.seeds same ask.entries rows.best others.best one.best other.best in
    let source = one_test rows.source_known others.source_known one.source_known other.source_known in
    let target = one_test rows.target_known others.target_known one.target_known other.target_known in
    ap (λ (bs : List Best). answer bs others.source_known others.target_known) best
    ∙ ap (λ (b : Bool). answer rows.best b others.target_known) source
    ∙ ap (λ (b : Bool). answer rows.best rows.source_known b) target
