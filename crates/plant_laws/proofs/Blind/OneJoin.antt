-- A border table has one join, but for the segments.
use Rattle.std.proofs.Common.{◌≡◌, ◌⊎◌, ◌<◌, ◌≤◌, ℕ, List, [], ◌∷◌, Option, Some, None, inl, inr, refl, sym, ◌∙◌, ap, subst, arith}
use Rattle.std.specs.Prelude.{AllPairs}
use Rattle.plant_model.specs.Types.{Addr, BorderRow, Best, Target, Down}
use Rattle.border_costs.specs.declared.job.Target.TheVariants.{Node, Next}
use Rattle.border_costs.specs.Tables.{IsRowBefore}
use Rattle.plant_model.specs.Jobs.{JoinsBy, IsJoinOf}
use Rattle.plant_laws.proofs.Runs.Lists.{Stands, Rising, stands_of, contains_of, rising_of}
use Rattle.dom_base.specs.AddrOrder.{rank}
use Rattle.dom_base.proofs.Ranks.{same_addr as one_place}

-- all but the segment
pub record AreOne (x y : Best) : Type 0 where
  pub entry : x.entry ≡ y.entry
  pub cost : x.cost ≡ y.cost
  pub exit : x.exit ≡ y.exit
  pub head : x.head ≡ y.head

abbrev pub AllOne : List Best → List Best → Type 0
AllOne [] [] = Unit {0}
AllOne [] (y ∷ ys) = ⊥
AllOne (x ∷ xs) [] = ⊥
AllOne (x ∷ xs) (y ∷ ys) = AreOne x y × AllOne xs ys

pub all_one : (xs : List Best) → AllOne xs xs
all_one [] = tt
all_one (x ∷ xs) = (record { entry = refl; cost = refl; exit = refl; head = refl }, all_one xs)

abbrev Less : Best → Best → Type 0
Less x y = (rank x.entry) < (rank y.entry)

back : (x y : Best) → AreOne x y → AreOne y x
back x y h = record { entry = sym h.entry; cost = sym h.cost; exit = sym h.exit; head = sym h.head }

at_addr : (a b : Addr) → a ≡ b → rank a ≡ rank b
at_addr a b e = ap rank e

rising_one : (xs ys : List Best) → Rising Less xs → Rising Less ys → ((x : Best) → Stands x xs → (y : Best) × Stands y ys × AreOne x y) → ((y : Best) → Stands y ys → (x : Best) × Stands x xs × AreOne y x) → AllOne xs ys
rising_one [] [] rx ry f g = tt
rising_one [] (y ∷ ys) rx ry f g = absurd (g y (inl refl)).1
rising_one (x ∷ xs) [] rx ry f g = absurd (f x (inl refl)).1
rising_one (x ∷ xs) (y ∷ ys) rx ry f g = (
  one,
  rising_one xs ys rx.1 ry.1
      (λ r stands. later ys y r (f r (inr stands)) (λ is. (let less = rx.0 r stands in omega (arith, less, at_addr x.entry y.entry one.entry, at_addr r.entry y.entry is.entry))))
      (λ r stands. later xs x r (g r (inr stands)) (λ is. (let less = ry.0 r stands in omega (arith, less, at_addr x.entry y.entry one.entry, at_addr r.entry x.entry is.entry)))),
)
  where
    later : (zs : List Best) (z r : Best) → ((w : Best) × Stands w (z ∷ zs) × AreOne r w) → (AreOne r z → ⊥) → (w : Best) × Stands w zs × AreOne r w
    later zs z r (w, inl is, same) not = absurd (not (subst (λ (u : Best). AreOne r u) is same))
    later zs z r (w, inr there, same) not = (w, there, same)

    go : ((w : Best) × Stands w (y ∷ ys) × AreOne x w) → ((w : Best) × Stands w (x ∷ xs) × AreOne y w) → AreOne x y
    go (w, inl is, same) other = subst (λ (u : Best). AreOne x u) is same
    go (w, inr there, same) (v, inl is, same') = back y x (subst (λ (u : Best). AreOne y u) is same')
    go (w, inr there, same) (v, inr there', same') =
        absurd (omega (arith, ry.0 w there, rx.0 v there', at_addr x.entry w.entry same.entry, at_addr y.entry v.entry same'.entry))

    one : AreOne x y
    one = go (f x (inl refl)) (g y (inl refl))

-- one row for an entry and a way out
one_row : (rows : List BorderRow) → Rising IsRowBefore rows → (r s : BorderRow) → Stands r rows → Stands s rows → r.entry ≡ s.entry → r.far ≡ s.far → r ≡ s
one_row [] rising r s in-r in-s entry far = absurd in-r
one_row (x ∷ xs) rising r s (inl is-r) (inl is-s) entry far = is-r ∙ sym is-s
one_row (x ∷ xs) rising r s (inl is-r) (inr in-s) entry far = absurd (before r s (subst (λ (u : BorderRow). IsRowBefore u s) (sym is-r) (rising.0 s in-s)) entry far)
  where
    before : (r s : BorderRow) → IsRowBefore r s → r.entry ≡ s.entry → r.far ≡ s.far → ⊥
    before r s (inl less) entry far = omega (arith, less, at_addr r.entry s.entry entry)
    before r s (inr less) entry far = omega (arith, less.1, at_addr r.far s.far far)
one_row (x ∷ xs) rising r s (inr in-r) (inl is-s) entry far = absurd (before r s (subst (λ (u : BorderRow). IsRowBefore u r) (sym is-s) (rising.0 r in-r)) entry far)
  where
    before : (r s : BorderRow) → IsRowBefore s r → r.entry ≡ s.entry → r.far ≡ s.far → ⊥
    before r s (inl less) entry far = omega (arith, less, at_addr r.entry s.entry entry)
    before r s (inr less) entry far = omega (arith, less.1, at_addr r.far s.far far)
one_row (x ∷ xs) rising r s (inr in-r) (inr in-s) entry far = one_row xs rising.1 r s in-r in-s entry far

one_head : (cap : ℕ) (target : Target) (border : List BorderRow) (down : List Down) → AllPairs IsRowBefore border → (e exit : Addr) (c d : ℕ) (head other : Option Addr) →
    JoinsBy cap target border down e c exit head → JoinsBy cap target border down e d exit other → head ≡ other
one_head cap (Node t) border down order e exit c d None None j k = refl
one_head cap (Node t) border down order e exit c d None (Some h) j k = absurd k
one_head cap (Node t) border down order e exit c d (Some h) other j k = absurd j
one_head cap (Next b) border down order e exit c d None other j k = absurd j
one_head cap (Next b) border down order e exit c d (Some h) None j k = absurd k
one_head cap (Next b) border down order e exit c d (Some h) (Some h') j k =
    let r = j.0.row in
    let s = k.0.row in
    let rows : r ≡ s = one_row border (rising_of IsRowBefore border order) r s (stands_of border r j.0.is_row) (stands_of border s k.0.is_row) (j.0.at_entry ∙ sym k.0.at_entry) (sym j.0.exit ∙ k.0.exit) in
    let heads : h ≡ h' = sym j.1 ∙ ap (λ (x : BorderRow). x.head) rows ∙ k.1 in
    ap (λ (x : Addr). let o : Option Addr = Some x in o) heads

pub one_join : (cap : ℕ) (target : Target) (border : List BorderRow) (down : List Down) (best other : List Best) → AllPairs IsRowBefore border →
    IsJoinOf cap target border down best → IsJoinOf cap target border down other → AllOne best other
one_join cap target border down best other order j k =
    rising_one best other (rising_of Less best j.rising) (rising_of Less other k.rising) (there best other j k) (there other best k j)
  where
    there : (best other : List Best) → IsJoinOf cap target border down best → IsJoinOf cap target border down other → (x : Best) → Stands x best → (y : Best) × Stands y other × AreOne x y
    there best other j k x stands =
        let has = contains_of best x stands in
        let jx = j.each x has in
        let r = k.all x.entry x.cost x.exit x.head jx in
        let y = r.0 in
        let jy = subst (λ (n : Addr). JoinsBy cap target border down n y.cost y.exit y.head) r.2 (k.each y r.1) in
        let low = k.least y r.1 x.cost x.exit x.head (subst (λ (n : Addr). JoinsBy cap target border down n x.cost x.exit x.head) (sym r.2) jx) in
        let high = j.least x has y.cost y.exit y.head jy in
        let exit : x.exit ≡ y.exit = exits x y low high in (
          y,
          stands_of other y r.1,
          record {
            entry = sym r.2;
            cost = costs x y low high;
            exit = exit;
            head = one_head cap target border down order x.entry x.exit x.cost y.cost x.head y.head jx (subst (λ (n : Addr). JoinsBy cap target border down x.entry y.cost n y.head) (sym exit) jy);
          },
        )
      where
        costs : (x y : Best) → (y.cost < x.cost) ⊎ ((y.cost ≡ x.cost) × ((rank y.exit) ≤ (rank x.exit))) → (x.cost < y.cost) ⊎ ((x.cost ≡ y.cost) × ((rank x.exit) ≤ (rank y.exit))) → x.cost ≡ y.cost
        costs x y (inl a) (inl b) = omega (arith, a, b)
        costs x y (inl a) (inr b) = b.0
        costs x y (inr a) h = sym a.0

        exits : (x y : Best) → (y.cost < x.cost) ⊎ ((y.cost ≡ x.cost) × ((rank y.exit) ≤ (rank x.exit))) → (x.cost < y.cost) ⊎ ((x.cost ≡ y.cost) × ((rank x.exit) ≤ (rank y.exit))) → x.exit ≡ y.exit
        exits x y (inl a) (inl b) = absurd (omega (arith, a, b))
        exits x y (inl a) (inr b) = absurd (omega (arith, a, b.0))
        exits x y (inr a) (inl b) = absurd (omega (arith, a.0, b))
        exits x y (inr a) (inr b) = let same : (rank x.exit) ≡ (rank y.exit) = omega (arith, a.1, b.1) in one_place x.exit y.exit same
