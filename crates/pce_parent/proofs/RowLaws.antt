-- The first of the rows that are alike, and what stands where in a list.
use Rattle.std.proofs.Common.{◌≡◌, ◌&&◌, ◌⊎◌, inl, inr, ℕ, zero, suc, ◌+◌, ◌<◌, Bool, true, false, eqb, List, [], ◌∷◌, ◌++◌, length, arith, refl, sym, ◌∙◌, ap, Some, take, drop, get_or}
use Rattle.std.specs.Prelude.{Contains, slice_get}
use Rattle.std.proofs.lemmas.Bool.{eqb-true, eq-eqb}
use Rattle.std.proofs.lemmas.List.{take-append-drop, drop_more, length-take-le, get_or-take}
use Rattle.std.proofs.lemmas.Option.{slice_get_within, slice_get-get_or, get_or_from_slice_get}
use Rattle.pce_common.specs.plant_model.Types.{As}
use Rattle.dom_base.specs.AddrOrder.{rank}
use Rattle.dom_base.proofs.Ranks.{same_addr}
use Rattle.pce_common.specs.plant_model.declared.upper.ChildRow.{ChildRow}
use Rattle.pce_common.specs.plant_model.BorderGraph.{IsFirstRow}

-- ---- places in lists

pub index_of : {X : Type 0} (xs : List X) (x : X) → Contains xs x → (i : ℕ) × (slice_get xs i ≡ Some x)
index_of xs x (i, below, is) = (i, slice_get-get_or xs i x below ∙ ap (λ y. Some y) is)

pub contains_at : {X : Type 0} (xs : List X) (i : ℕ) (x : X) → slice_get xs i ≡ Some x → Contains xs x
contains_at xs i x is = (i, slice_get_within xs i x is, get_or_from_slice_get xs i x x is)

-- ---- rows that are alike

pub record AreAlike (r s : ChildRow) : Type 0 where
  pub same_at : r.at ≡ s.at
  pub same_entry : r.entry ≡ s.entry
  pub same_target : r.target ≡ s.target
  pub same_cost : r.cost ≡ s.cost

alike_back : (r s t : ChildRow) → AreAlike r t → AreAlike s t → AreAlike r s
alike_back r s t a b = record {
  same_at = a.same_at ∙ sym b.same_at;
  same_entry = a.same_entry ∙ sym b.same_entry;
  same_target = a.same_target ∙ sym b.same_target;
  same_cost = a.same_cost ∙ sym b.same_cost;
}

is_alike : ChildRow → ChildRow → Bool
is_alike r s = eqb r.at.0 s.at.0 && eqb (rank r.entry) (rank s.entry) && eqb (rank r.target) (rank s.target) && eqb r.cost s.cost

both_true : (a b : Bool) → a && b ≡ true → (a ≡ true) × (b ≡ true)
both_true true b h = (refl, h)
both_true false b h = absurd (let bad : false ≡ true = h in cc)

alike_by_test : (r s : ChildRow) → is_alike r s ≡ true → AreAlike r s
unfolding is_alike
alike_by_test r s h =
    let one = both_true (eqb r.at.0 s.at.0 && eqb (rank r.entry) (rank s.entry) && eqb (rank r.target) (rank s.target)) (eqb r.cost s.cost) h in
    let two = both_true (eqb r.at.0 s.at.0 && eqb (rank r.entry) (rank s.entry)) (eqb (rank r.target) (rank s.target)) one.0 in
    let three = both_true (eqb r.at.0 s.at.0) (eqb (rank r.entry) (rank s.entry)) two.0 in
    record {
      same_at = ap (λ (n : ℕ). let number : As = record { 0 = n } in number) (eqb-true r.at.0 s.at.0 three.0);
      same_entry = same_addr r.entry s.entry (eqb-true (rank r.entry) (rank s.entry) three.1);
      same_target = same_addr r.target s.target (eqb-true (rank r.target) (rank s.target) two.1);
      same_cost = eqb-true r.cost s.cost one.1;
    }

test_alike : (r s : ChildRow) → AreAlike r s → is_alike r s ≡ true
unfolding is_alike
test_alike r s h =
    rw (
      eq-eqb r.at.0 s.at.0 (ap (λ (a : As). a.0) h.same_at),
      eq-eqb (rank r.entry) (rank s.entry) (ap rank h.same_entry),
      eq-eqb (rank r.target) (rank s.target) (ap rank h.same_target),
      eq-eqb r.cost s.cost h.same_cost,
    ) refl

alike_or_not : (r s : ChildRow) → AreAlike r s ⊎ (AreAlike r s → ⊥)
alike_or_not r s = go (is_alike r s) refl
  where
    go : (b : Bool) → is_alike r s ≡ b → AreAlike r s ⊎ (AreAlike r s → ⊥)
    go true is = inl (alike_by_test r s is)
    go false is = inr (λ h. let bad : true ≡ false = sym (test_alike r s h) ∙ is in cc)

-- the first of those that are like a row
pub record FirstLike (rows : List ChildRow) (row : ChildRow) : Type 0 where
  pub found : ChildRow
  pub is_first : IsFirstRow rows found
  pub alike : AreAlike found row

cons_first : (r : ChildRow) (rows : List ChildRow) (row : ChildRow) → (AreAlike r row → ⊥) → FirstLike rows row → FirstLike (r ∷ rows) row
cons_first r rows row differs f = record {
  found = f.found;
  is_first = record {
    before = r ∷ f.is_first.before;
    after = f.is_first.after;
    is = ap (λ (rest : List ChildRow). r ∷ rest) f.is_first.is;
    first = λ x has same. by x has same;
  };
  alike = f.alike;
}
  where
    by : (x : ChildRow) → Contains (r ∷ f.is_first.before) x → (x.at ≡ f.found.at) × (x.entry ≡ f.found.entry) × (x.target ≡ f.found.target) × (x.cost ≡ f.found.cost) → ⊥
    by x (zero, below, is) same =
        differs (record {
          same_at = ap (λ (y : ChildRow). y.at) is ∙ same.0 ∙ f.alike.same_at;
          same_entry = ap (λ (y : ChildRow). y.entry) is ∙ same.1 ∙ f.alike.same_entry;
          same_target = ap (λ (y : ChildRow). y.target) is ∙ same.2 ∙ f.alike.same_target;
          same_cost = ap (λ (y : ChildRow). y.cost) is ∙ same.3 ∙ f.alike.same_cost;
        })
    by x (suc i, below, is) same = f.is_first.first x (i, omega (arith, below), is) same

pub first_like : (rows : List ChildRow) (row : ChildRow) → Contains rows row → FirstLike rows row
first_like [] row (i, below, is) = absurd (omega (arith, below))
first_like (r ∷ rows) row has =
    elim (alike_or_not r row) [
      | inl alike ↦ record {
        found = r;
        is_first = record { before = []; after = rows; is = refl; first = λ x has same. absurd (none x has) };
        alike = alike;
      }
      | inr differs ↦ cons_first r rows row differs (first_like rows row (behind has differs))
    ]
  where
    none : (x : ChildRow) → Contains [] x → ⊥
    none x (i, below, is) = omega (arith, below)

    behind : Contains (r ∷ rows) row → (AreAlike r row → ⊥) → Contains rows row
    behind (zero, below, is) differs =
        absurd (differs (record {
          same_at = ap (λ (y : ChildRow). y.at) is;
          same_entry = ap (λ (y : ChildRow). y.entry) is;
          same_target = ap (λ (y : ChildRow). y.target) is;
          same_cost = ap (λ (y : ChildRow). y.cost) is;
        }))
    behind (suc i, below, is) differs = (i, omega (arith, below), is)

-- a row before which none is alike is the first
pub is_first_row : (rows : List ChildRow) (i : ℕ) (row : ChildRow) → slice_get rows i ≡ Some row →
    ((k : ℕ) (r : ChildRow) → k < i → slice_get rows k ≡ Some r → AreAlike r row → ⊥) → IsFirstRow rows row
is_first_row rows i row is first =
    let below : i < length rows = slice_get_within rows i row is in
    let here : get_or rows i row ≡ row = get_or_from_slice_get rows i row row is in
    record {
      before = take i rows;
      after = drop (i + 1) rows;
      is = sym (take-append-drop i rows) ∙ ap (λ (rest : List ChildRow). take i rows ++ rest) (drop_more rows i row below ∙ ap (λ (r : ChildRow). r ∷ drop (i + 1) rows) here);
      first = λ r has same.
          let k : ℕ = has.0 in
          let long : length (take i rows) ≡ i = length-take-le i rows (omega arith) in
          let lt : k < i = omega (arith, has.1, long) in
          let at_k : get_or rows k r ≡ r = sym (get_or-take i rows k r lt) ∙ has.2 in
          first k r lt (slice_get-get_or rows k r (omega arith) ∙ ap (λ (x : ChildRow). Some x) at_k)
          (record { same_at = same.0; same_entry = same.1; same_target = same.2; same_cost = same.3 });
    }
