-- The rows of what was told are, in order, the first of the least of each entry and type.
use Rattle.std.proofs.Common.{◌≡◌, ◌∙◌, ◌<◌, ◌≤◌, ℕ, zero, suc, List, [], ◌∷◌, Option, Some, None, inl, inr, refl, sym, ap, subst, arith}
use Rattle.std.specs.Prelude.{AllPairs, slice_get}
use Rattle.std.specs.List.{AllByRecursion}
use Rattle.std.proofs.lemmas.Bool.{cases_order}
use Rattle.std.proofs.lemmas.List.Elements.{All-from_recursion}
use Rattle.std.proofs.lemmas.List.Kept.{AllPairs-cons}
use Rattle.pcep_messages.specs.declared.message.Path.{Path}
use Rattle.outside_part.specs.declared.reported.Reported.{Reported}
use Rattle.outside_part.specs.Sifting.{insert_row, add_row, row_of, rows_of}
use Rattle.outside_part.specs.Rows.{AreAlike, ComesBefore, IsKept, IsFirst, IsFirstLeast, IsSifted}
use Rattle.outside_part.proofs.Inserting.{apart, alike_on, alike_back, inserted, chosen, each_weaker, all_behind, all_further, Ascends, insert_ascends, HasAlike, insert_new, insert_old, none_alike}
use Rattle.outside_part.proofs.Kept.{none_is_some, same_some, kept, gives, one_row}

-- ---- places

pub at_place : {X : Type 0} (P : X → Type 0) (xs : List X) → AllByRecursion P xs → (k : ℕ) (x : X) → slice_get xs k ≡ Some x → P x
at_place P [] all k x at = absurd (none_is_some x at)
at_place P (y ∷ xs) all zero x at = subst P (same_some y x at) all.0
at_place P (y ∷ xs) all (suc k) x at = at_place P xs all.1 k x at

alike_at : (s : Reported) (rows : List Reported) → HasAlike s rows → (k : ℕ) × (r : Reported) × (slice_get rows k ≡ Some r) × AreAlike r s
alike_at s [] has = absurd has
alike_at s (y ∷ rows) (inl same) = (0, y, refl, same)
alike_at s (y ∷ rows) (inr more) = let r = alike_at s rows more in (suc r.0, r.1, r.2, r.3)

pub pairs : (rows : List Reported) → Ascends rows → AllPairs ComesBefore rows
pairs [] up = λ i j d less within. absurd (omega (arith, within))
pairs (y ∷ rows) up = AllPairs-cons ComesBefore y rows (All-from_recursion (ComesBefore y) rows up.0) (pairs rows up.1)

-- ---- the first of the least

further : (r s : Reported) (i j : ℕ) → IsFirst r i s j → IsFirst r (suc i) s (suc j)
further r s i j (inl less) = inl less
further r s i j (inr same) = inr (same.0, omega (arith, same.1))

no_dearer : (r s : Reported) (i j : ℕ) → IsFirst r i s j → r.cost ≤ s.cost
no_dearer r s i j (inl less) = omega (arith, less)
no_dearer r s i j (inr same) = omega (arith, same.0)

leads_all : (r s : Reported) (j : ℕ) → r.cost ≤ s.cost → IsFirst r 0 s j
leads_all r s j le = elim (cases_order r.cost s.cost) [
  | inl same ↦ inr (same, omega arith)
  | inr (inl less) ↦ inl less
  | inr (inr more) ↦ absurd (omega (arith, le, more))
]

module _ (units : ℕ → Option ℕ) (most : ℕ) where
  -- some path leads those of the row's entry and type
  abbrev Leads : List Path → Reported → Type 0
  Leads told r = (i : ℕ) × IsFirstLeast units most told i r

  -- one more path in front, of another entry or type or dearer
  later : (p : Path) (ps : List Path) (r : Reported) → ((s : Reported) → IsKept units most p s → AreAlike s r → r.cost < s.cost) → Leads ps r → Leads (p ∷ ps) r
  later p ps r dearer leads = (suc leads.0, record { path = leads.1.path; at = leads.1.at; kept = leads.1.kept; least = least })
    where
      least : (j : ℕ) (q : Path) (s : Reported) → slice_get (p ∷ ps) j ≡ Some q → IsKept units most q s → AreAlike s r → IsFirst r (suc leads.0) s j
      least zero q s at keeps same = inl (dearer s (subst (λ (x : Path). IsKept units most x s) (sym (same_some p q at)) keeps) same)
      least (suc j) q s at keeps same = further r s leads.0 j (leads.1.least j q s at keeps same)

  module _ (p : Path) (ps : List Path) (x : Reported) (this : IsKept units most p x) where
    -- the path in front leads where none behind it is cheaper
    here : ((j : ℕ) (q : Path) (s : Reported) → slice_get ps j ≡ Some q → IsKept units most q s → AreAlike s x → x.cost ≤ s.cost) → Leads (p ∷ ps) x
    here low = (0, record { path = p; at = refl; kept = this; least = least })
      where
        least : (j : ℕ) (q : Path) (s : Reported) → slice_get (p ∷ ps) j ≡ Some q → IsKept units most q s → AreAlike s x → IsFirst x 0 s j
        least zero q s at keeps same =
            let is : x ≡ s = one_row units most p x s this (subst (λ (y : Path). IsKept units most y s) (sym (same_some p q at)) keeps) in
            leads_all x s 0 (let e = ap (λ (r : Reported). r.cost) is in omega (arith, e))
        least (suc j) q s at keeps same = leads_all x s (suc j) (low j q s at keeps same)

    -- a row of another entry or type, or a cheaper one, stays
    stays_apart : (y : Reported) → (AreAlike x y → ⊥) → Leads ps y → Leads (p ∷ ps) y
    stays_apart y other leads = later p ps y (λ s keeps same. absurd (other (subst (λ (r : Reported). AreAlike r y) (sym (one_row units most p x s this keeps)) same))) leads

    stays_cheaper : (y : Reported) → y.cost < x.cost → Leads ps y → Leads (p ∷ ps) y
    stays_cheaper y less leads = later p ps y (λ s keeps same. subst (λ (r : Reported). y.cost < r.cost) (one_row units most p x s this keeps) less) leads

    stay : (ys : List Reported) → AllByRecursion (ComesBefore x) ys → AllByRecursion (Leads ps) ys → AllByRecursion (Leads (p ∷ ps)) ys
    stay [] up all = tt
    stay (y ∷ ys) up all = (stays_apart y (λ same. apart x y up.0 same) all.0, stay ys up.1 all.1)

    -- what is known of the rows: there is one for each kept path of the new one's entry and type
    abbrev Known : List Reported → Type 0
    Known rows = (j : ℕ) (q : Path) (s : Reported) → slice_get ps j ≡ Some q → IsKept units most q s → AreAlike s x → HasAlike s rows

    not_here : (y s : Reported) (ys : List Reported) → ComesBefore y x → AreAlike s x → HasAlike s (y ∷ ys) → HasAlike s ys
    not_here y s ys before same (inl beside) = absurd (apart y x before (alike_on y s x beside same))
    not_here y s ys before same (inr more) = more

    each_inserted : (rows : List Reported) → Ascends rows → AllByRecursion (Leads ps) rows → Known rows → AllByRecursion (Leads (p ∷ ps)) (insert_row x rows)
    each_inserted [] up all known = (here (λ j q s at keeps same. absurd (known j q s at keeps same)), tt)
    each_inserted (y ∷ ys) up all known =
        inserted (λ (rows : List Reported). AllByRecursion (Leads (p ∷ ps)) rows) x y ys
        (λ before. (
          stays_apart y (λ same. apart y x before (alike_back x y same)) all.0,
          each_inserted ys up.1 all.1 (λ j q s at keeps same. not_here y s ys before same (known j q s at keeps same)),
        ))
        (λ beside. (
          chosen (Leads (p ∷ ps)) x y (λ less. stays_cheaper y less all.0) (λ no_less. here (λ j q s at keeps same.
              let first = all.0.1.least j q s at keeps (alike_on s x y same (alike_back y x beside)) in
              let low = no_dearer y s all.0.0 j first in
              omega (arith, no_less, low))),
          stay ys (all_behind x y ys beside up.0) all.1,
        ))
        (λ behind. (
          here (λ j q s at keeps same. absurd (none_alike s x (y ∷ ys) (behind, all_further x y ys behind up.0) same (known j q s at keeps same))),
          stay (y ∷ ys) (behind, all_further x y ys behind up.0) all,
        ))

  -- ---- all paths

  with_ascends : (o : Option Reported) (rows : List Reported) → Ascends rows → Ascends (add_row o rows)
  with_ascends None rows up = up
  with_ascends (Some x) rows up = insert_ascends x rows up

  pub rows_ascend : (told : List Path) → Ascends (rows_of units most told)
  rows_ascend [] = tt
  rows_ascend (p ∷ told) = with_ascends (row_of units most p) (rows_of units most told) (rows_ascend told)

  with_old : (s : Reported) (o : Option Reported) (rows : List Reported) → HasAlike s rows → HasAlike s (add_row o rows)
  with_old s None rows has = has
  with_old s (Some x) rows has = insert_old s x rows has

  rows_every : (told : List Path) (j : ℕ) (q : Path) (s : Reported) → slice_get told j ≡ Some q → IsKept units most q s → HasAlike s (rows_of units most told)
  rows_every [] j q s at keeps = absurd (none_is_some q at)
  rows_every (p ∷ told) zero q s at keeps =
      let is : row_of units most p ≡ Some s = ap (λ (x : Path). row_of units most x) (same_some p q at) ∙ gives units most q s keeps in
      subst (λ (o : Option Reported). HasAlike s (add_row o (rows_of units most told))) (sym is) (insert_new s s (rows_of units most told) (refl, refl))
  rows_every (p ∷ told) (suc j) q s at keeps = with_old s (row_of units most p) (rows_of units most told) (rows_every told j q s at keeps)

  rows_each : (told : List Path) → AllByRecursion (Leads told) (rows_of units most told)
  rows_each [] = tt
  rows_each (p ∷ told) = go (row_of units most p) refl (rows_each told)
    where
      go : (o : Option Reported) → row_of units most p ≡ o → AllByRecursion (Leads told) (rows_of units most told) → AllByRecursion (Leads (p ∷ told)) (add_row o (rows_of units most told))
      go None is all =
          each_weaker (Leads told) (Leads (p ∷ told)) (λ r leads. later p told r (λ s keeps same. absurd (none_is_some s (sym is ∙ gives units most p s keeps))) leads) (rows_of units most told) all
      go (Some x) is all = each_inserted p told x (kept units most p x is) (rows_of units most told) (rows_ascend told) all (λ j q s at keeps same. rows_every told j q s at keeps)

  pub is_sifted : (told : List Path) → IsSifted units most told (rows_of units most told)
  is_sifted told = record {
    order = pairs (rows_of units most told) (rows_ascend told);
    each = λ k r at. at_place (Leads told) (rows_of units most told) (rows_each told) k r at;
    every = λ j q s at keeps. alike_at s (rows_of units most told) (rows_every told j q s at keeps);
  }
