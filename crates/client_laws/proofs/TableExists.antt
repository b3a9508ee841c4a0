-- Each job has a border table.
use Rattle.std.proofs.Common.{◌≡◌, ◌⊎◌, ◌<◌, ℕ, zero, suc, List, [], ◌∷◌, ◌++◌, refl, sym, ap, subst, ◌∙◌, inl, inr, arith}
use Rattle.std.specs.Prelude.{All, AllPairs, Contains}
use Rattle.std.proofs.lemmas.List.Elements.{All-append, All-contains, All-contains_itself, All-weaker, Contains-append_cases, Contains-append_left, Contains-append_right}
use Rattle.std.proofs.lemmas.List.Kept.{AllPairs-cons}
use Rattle.dom_base.specs.AddrOrder.{rank}
use Rattle.plant_play.specs.plant_model.Types.{Addr, As, BorderRow, Query, OutLink, Ask, Target}
use Rattle.te_links.specs.Rows.{Rows, IsInOrder}
use Rattle.walk_laws.specs.Borders.{IsBorderRow}
use Rattle.walk_laws.proofs.Segments.{one_of}
use Rattle.border_costs.specs.declared.job.Target.TheVariants.{Node, Next}
use Rattle.border_costs.specs.Tables.{IsBorderTable, IsRowAt, IsRowBefore, IsRowOver, IsRowTo}

-- ---- what stands in a list

module _ {X : Type 0} where
  nothing_in : (x : X) → Contains [] x → ⊥
  nothing_in x (k, within, is) = omega (arith, within)

  first_in : (x : X) (xs : List X) → Contains (x ∷ xs) x
  first_in x xs = (0, omega arith, refl)

  later_in : (x : X) (xs : List X) (y : X) → Contains xs y → Contains (x ∷ xs) y
  later_in x xs y has = Contains-append_right (x ∷ []) xs y has

  in_both : (x : X) (xs : List X) (y : X) → Contains (x ∷ xs) y → (y ≡ x) ⊎ Contains xs y
  in_both x xs y (zero, within, is) = inl (sym is)
  in_both x xs y (suc k, within, is) = inr (k, omega (arith, within), is)

  all_of : (P : X → Type 0) (xs : List X) → ((x : X) → Contains xs x → P x) → All P xs
  all_of P xs each = All-weaker (Contains xs) P each xs (All-contains_itself xs)

  rises_head : (R : X → X → Type 0) (x : X) (xs : List X) → AllPairs R (x ∷ xs) → (y : X) → Contains xs y → R x y
  rises_head R x xs up y has = All-contains (R x) xs y (λ k d within. up 0 (suc k) d (omega arith) (omega (arith, within))) has

  rises_tail : (R : X → X → Type 0) (x : X) (xs : List X) → AllPairs R (x ∷ xs) → AllPairs R xs
  rises_tail R x xs up i j d less within = up (suc i) (suc j) d (omega (arith, less)) (omega (arith, within))

  rises_nil : (R : X → X → Type 0) → AllPairs R []
  rises_nil R i j d less within = absurd (omega (arith, within))

  rises_on : (R : X → X → Type 0) (xs ys : List X) → AllPairs R xs → AllPairs R ys → ((x y : X) → Contains xs x → Contains ys y → R x y) → AllPairs R (xs ++ ys)
  rises_on R [] ys up more across = more
  rises_on R (x ∷ xs) ys up more across =
      AllPairs-cons R x (xs ++ ys)
      (All-append (R x) xs ys (all_of (R x) xs (rises_head R x xs up)) (all_of (R x) ys (λ y has. across x y (first_in x xs) has)))
      (rises_on R xs ys (rises_tail R x xs up) more (λ a b in_a in_b. across a b (later_in x xs a in_a) in_b))

-- ---- rows that there are, of places that there may be

abbrev with_cost : BorderRow → ℕ → BorderRow
with_cost s c = record { entry = s.entry; far = s.far; head = s.head; cost = c }

module _ (Has : BorderRow → ℕ → Type 0) (one : (s : BorderRow) (a b : ℕ) → Has s a → Has s b → a ≡ b) where
  -- all rows that the places have, and no others
  record Fills (slots rows : List BorderRow) : Type 0 where
    pub each : (r : BorderRow) → Contains rows r → (s : BorderRow) × Contains slots s × ((c : ℕ) × Has s c × (r ≡ with_cost s c))
    pub every : (s : BorderRow) → Contains slots s → (c : ℕ) → Has s c → Contains rows (with_cost s c)
    pub order : AllPairs IsRowBefore rows

  no_slots : Fills [] []
  no_slots = record {
    each = λ r has. absurd (nothing_in r has);
    every = λ s has c is. absurd (nothing_in s has);
    order = rises_nil IsRowBefore;
  }

  module _ (s : BorderRow) (slots rows : List BorderRow) (up : AllPairs IsRowBefore (s ∷ slots)) (f : Fills slots rows) where
    further : (r : BorderRow) → Contains rows r → (t : BorderRow) × Contains (s ∷ slots) t × ((c : ℕ) × Has t c × (r ≡ with_cost t c))
    further r has = let x = f.each r has in (x.0, later_in s slots x.0 x.1, x.2)

    -- the first place has no row
    left_out : ((c : ℕ) → Has s c → ⊥) → Fills (s ∷ slots) rows
    left_out none = record {
      each = further;
      every = λ t has c is. elim (in_both s slots t has) [
        | inl same ↦ absurd (none c (subst (λ (x : BorderRow). Has x c) same is))
        | inr later ↦ f.every t later c is
      ];
      order = f.order;
    }

    -- it has one
    put_first : (c : ℕ) → Has s c → Fills (s ∷ slots) (with_cost s c ∷ rows)
    put_first c is = record {
      each = λ r has. elim (in_both (with_cost s c) rows r has) [
        | inl same ↦ (s, first_in s slots, (c, is, same))
        | inr later ↦ further r later
      ];
      every = λ t has d is'. elim (in_both s slots t has) [
        | inl same ↦
            let costs : c ≡ d = one s c d is (subst (λ (x : BorderRow). Has x d) same is') in
            let rows_same : with_cost s c ≡ with_cost t d = ap (λ (k : ℕ). with_cost s k) costs ∙ ap (λ (x : BorderRow). with_cost x d) (sym same) in
            subst (Contains (with_cost s c ∷ rows)) rows_same (first_in (with_cost s c) rows)
        | inr later ↦ later_in (with_cost s c) rows (with_cost t d) (f.every t later d is')
      ];
      order = AllPairs-cons IsRowBefore (with_cost s c) rows (all_of (IsRowBefore (with_cost s c)) rows before) f.order;
    }
      where
        before : (r : BorderRow) → Contains rows r → IsRowBefore (with_cost s c) r
        before r has =
            let x = f.each r has in
            let under : IsRowBefore s x.0 = rises_head IsRowBefore s slots up x.0 x.1 in
            subst (IsRowBefore (with_cost s c)) (sym x.2.2) (let same : IsRowBefore (with_cost s c) (with_cost x.0 x.2.0) = under in same)

  filled : (slots : List BorderRow) → AllPairs IsRowBefore slots → ((rows : List BorderRow) → Fills slots rows → ⊥) → ⊥
  filled [] up none = none [] no_slots
  filled (s ∷ slots) up none =
      filled slots (rises_tail IsRowBefore s slots up)
      (λ rows f. none rows (left_out s slots rows up f (λ c is. none (with_cost s c ∷ rows) (put_first s slots rows up f c is))))

-- ---- the places of a job: each of its entries with each way to its target

pub record Exit : Type 0 where
  pub far : Addr
  pub head : Addr

abbrev IsExitBefore : Exit → Exit → Type 0
IsExitBefore x y = rank x.far < rank y.far

abbrev place : Addr → Exit → BorderRow
place e x = record { entry = e; far = x.far; head = x.head; cost = 0 }

abbrev from_entry : Addr → List Exit → List BorderRow
from_entry e [] = []
from_entry e (x ∷ xs) = place e x ∷ from_entry e xs

abbrev places : List Addr → List Exit → List BorderRow
places [] xs = []
places (e ∷ es) xs = from_entry e xs ++ places es xs

in_from : (e : Addr) (xs : List Exit) (x : Exit) → Contains xs x → Contains (from_entry e xs) (place e x)
in_from e [] x has = absurd (nothing_in x has)
in_from e (y ∷ xs) x has = elim (in_both y xs x has) [
  | inl same ↦ subst (λ (z : Exit). Contains (from_entry e (y ∷ xs)) (place e z)) (sym same) (first_in (place e y) (from_entry e xs))
  | inr later ↦ later_in (place e y) (from_entry e xs) (place e x) (in_from e xs x later)
]

of_from : (e : Addr) (xs : List Exit) (s : BorderRow) → Contains (from_entry e xs) s → (x : Exit) × Contains xs x × (s ≡ place e x)
of_from e [] s has = absurd (nothing_in s has)
of_from e (x ∷ xs) s has = elim (in_both (place e x) (from_entry e xs) s has) [
  | inl same ↦ (x, first_in x xs, same)
  | inr later ↦ let found = of_from e xs s later in (found.0, later_in x xs found.0 found.1, found.2)
]

from_rises : (e : Addr) (xs : List Exit) → AllPairs IsExitBefore xs → AllPairs IsRowBefore (from_entry e xs)
from_rises e [] up = rises_nil IsRowBefore
from_rises e (x ∷ xs) up =
    AllPairs-cons IsRowBefore (place e x) (from_entry e xs)
    (all_of (IsRowBefore (place e x)) (from_entry e xs) (λ s has.
    let found = of_from e xs s has in
    subst (IsRowBefore (place e x)) (sym found.2) (inr (refl, rises_head IsExitBefore x xs up found.0 found.1))))
    (from_rises e xs (rises_tail IsExitBefore x xs up))

abbrev IsUnder : Addr → Addr → Type 0
IsUnder x y = rank x < rank y

in_places : (es : List Addr) (xs : List Exit) (e : Addr) (x : Exit) → Contains es e → Contains xs x → Contains (places es xs) (place e x)
in_places [] xs e x has has' = absurd (nothing_in e has)
in_places (d ∷ es) xs e x has has' = elim (in_both d es e has) [
  | inl same ↦
      Contains-append_left (from_entry d xs) (places es xs) (place e x)
      (subst (λ (a : Addr). Contains (from_entry a xs) (place e x)) same (in_from e xs x has'))
  | inr later ↦ Contains-append_right (from_entry d xs) (places es xs) (place e x) (in_places es xs e x later has')
]

of_places : (es : List Addr) (xs : List Exit) (s : BorderRow) → Contains (places es xs) s → (e : Addr) × Contains es e × ((x : Exit) × Contains xs x × (s ≡ place e x))
of_places [] xs s has = absurd (nothing_in s has)
of_places (d ∷ es) xs s has = elim (Contains-append_cases (from_entry d xs) (places es xs) s has) [
  | inl first ↦ (d, first_in d es, of_from d xs s first)
  | inr later ↦ let found = of_places es xs s later in (found.0, later_in d es found.0 found.1, found.2)
]

places_rise : (es : List Addr) (xs : List Exit) → AllPairs IsUnder es → AllPairs IsExitBefore xs → AllPairs IsRowBefore (places es xs)
places_rise [] xs up rises = rises_nil IsRowBefore
places_rise (d ∷ es) xs up rises =
    rises_on IsRowBefore (from_entry d xs) (places es xs) (from_rises d xs rises) (places_rise es xs (rises_tail IsUnder d es up) rises)
    (λ r s has has'.
    let a = of_from d xs r has in
    let b = of_places es xs s has' in
    let under : IsUnder d b.0 = rises_head IsUnder d es up b.0 b.1 in
    subst (λ (x : BorderRow). IsRowBefore x s) (sym a.2) (subst (IsRowBefore (place d a.0)) (sym b.2.2) (inl under)))

-- ---- the table of a job

abbrev exits_of : List OutLink → List Exit
exits_of [] = []
exits_of (o ∷ os) = record { far = o.link.far; head = o.link.to } ∷ exits_of os

abbrev exit_of : OutLink → Exit
exit_of o = record { far = o.link.far; head = o.link.to }

abbrev IsOutBefore : OutLink → OutLink → Type 0
IsOutBefore o p = rank o.link.far < rank p.link.far

in_exits : (os : List OutLink) (o : OutLink) → Contains os o → Contains (exits_of os) (exit_of o)
in_exits [] o has = absurd (nothing_in o has)
in_exits (p ∷ os) o has = elim (in_both p os o has) [
  | inl same ↦ subst (λ (x : OutLink). Contains (exits_of (p ∷ os)) (exit_of x)) (sym same) (first_in (exit_of p) (exits_of os))
  | inr later ↦ later_in (exit_of p) (exits_of os) (exit_of o) (in_exits os o later)
]

of_exits : (os : List OutLink) (x : Exit) → Contains (exits_of os) x → (o : OutLink) × Contains os o × (x ≡ exit_of o)
of_exits [] x has = absurd (nothing_in x has)
of_exits (o ∷ os) x has = elim (in_both (exit_of o) (exits_of os) x has) [
  | inl same ↦ (o, first_in o os, same)
  | inr later ↦ let found = of_exits os x later in (found.0, later_in o os found.0 found.1, found.2)
]

exits_rise : (os : List OutLink) → AllPairs IsOutBefore os → AllPairs IsExitBefore (exits_of os)
exits_rise [] up = rises_nil IsExitBefore
exits_rise (o ∷ os) up =
    AllPairs-cons IsExitBefore (exit_of o) (exits_of os)
    (all_of (IsExitBefore (exit_of o)) (exits_of os) (λ x has.
    let found = of_exits os x has in
    subst (IsExitBefore (exit_of o)) (sym found.2) (rises_head IsOutBefore o os up found.0 found.1)))
    (exits_rise os (rises_tail IsOutBefore o os up))

module _ (g : Rows) (q : Query) (order : IsInOrder g) where
  -- of one entry and one exit there is one cost
  one_over : (next : As) (s : BorderRow) (a b : ℕ) → IsRowOver g q next (with_cost s a) → IsRowOver g q next (with_cost s b) → a ≡ b
  one_over next s a b x y =
      let same : x.out ≡ y.out = one_of (λ (o : OutLink). rank o.link.far) g.outs order.outs x.out y.out x.row.out.is_out y.row.out.is_out (ap rank (sym x.far ∙ y.far)) in
      let row : IsBorderRow g q next s.entry y.out a = subst (λ (o : OutLink). IsBorderRow g q next s.entry o a) same x.row in
      omega (arith, row.sum, y.row.sum, row.least.least y.row.links y.row.least.feasible, y.row.least.least row.links row.least.feasible)

  one_at : (t : Addr) (s : BorderRow) (a b : ℕ) → IsRowAt g q t (with_cost s a) → IsRowAt g q t (with_cost s b) → a ≡ b
  one_at t s a b x y = omega (arith, x.sum, y.sum, x.least.least y.links y.least.feasible, y.least.least x.links x.least.feasible)

  abbrev exits_to : Target → List Exit
  exits_to (Node t) = record { far = t; head = t } ∷ []
  exits_to (Next b) = exits_of g.outs

  exits_to_rise : (target : Target) → AllPairs IsExitBefore (exits_to target)
  exits_to_rise (Node t) = AllPairs-cons IsExitBefore _ [] (all_of _ [] (λ x has. absurd (nothing_in x has))) (rises_nil IsExitBefore)
  exits_to_rise (Next b) = exits_rise g.outs order.outs

  one_to : (target : Target) (s : BorderRow) (a b : ℕ) → IsRowTo g q target (with_cost s a) → IsRowTo g q target (with_cost s b) → a ≡ b
  one_to (Node t) s a b x y = one_at t s a b x y
  one_to (Next next) s a b x y = one_over next s a b x y

  -- a row's exit is one of these
  exit_is : (target : Target) (r : BorderRow) → IsRowTo g q target r → Contains (exits_to target) (record { far = r.far; head = r.head })
  exit_is (Node t) r row =
      subst (λ (a : Addr). Contains (exits_to (Node t)) (record { far = a; head = r.head })) (sym row.far)
      (subst (λ (a : Addr). Contains (exits_to (Node t)) (record { far = t; head = a })) (sym row.head) (first_in (let x : Exit = record { far = t; head = t } in x) []))
  exit_is (Next b) r row =
      subst (λ (a : Addr). Contains (exits_of g.outs) (record { far = a; head = r.head })) (sym row.far)
      (subst (λ (a : Addr). Contains (exits_of g.outs) (record { far = row.out.link.far; head = a })) (sym row.head) (in_exits g.outs row.out row.row.out.is_out))

pub table_exists : (g : Rows) (a : Ask) → IsInOrder g → AllPairs IsUnder a.entries → ((rows : List BorderRow) → IsBorderTable g a rows → ⊥) → ⊥
table_exists g a order up none = filled Has one slots (places_rise a.entries exits up (exits_to_rise g a.query order a.target)) (λ rows f. none rows (table rows f))
  where
    exits : List Exit
    exits = exits_to g a.query order a.target

    slots : List BorderRow
    slots = places a.entries exits

    Has : BorderRow → ℕ → Type 0
    Has s c = IsRowTo g a.query a.target (with_cost s c)

    one : (s : BorderRow) (c d : ℕ) → Has s c → Has s d → c ≡ d
    one s c d x y = one_to g a.query order a.target s c d x y

    table : (rows : List BorderRow) → Fills Has one slots rows → IsBorderTable g a rows
    table rows f = record {
      each = λ r has.
          let x = f.each r has in
          let at = of_places a.entries exits x.0 x.1 in
          record {
            entry = subst (Contains a.entries) (sym (ap (λ (s : BorderRow). s.entry) x.2.2 ∙ ap (λ (s : BorderRow). s.entry) at.2.2)) at.1;
            row = subst (IsRowTo g a.query a.target) (sym x.2.2) x.2.1;
          };
      every = λ r is.
          f.every (place r.entry (record { far = r.far; head = r.head }))
          (in_places a.entries exits r.entry (record { far = r.far; head = r.head }) is.entry (exit_is g a.query order a.target r is.row)) r.cost is.row;
      order = f.order;
    }
