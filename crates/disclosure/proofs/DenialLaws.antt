-- Whether a row denies a request: the test and the relation are one.
use Rattle.std.proofs.Common.{◌≡◌, ◌==◌, ℕ, Bool, true, false, List, [], ◌∷◌, get_or, refl, ap}
use Rattle.std.specs.Prelude.{◌&&◌, ◌||◌, All}
use Rattle.std.proofs.lemmas.Bool.{eqb-true, eq-eqb}
use Rattle.std.proofs.lemmas.List.Elements.{All-nil, All-cons}
use Rattle.std.proofs.lemmas.List.Folds.{list_any_none}
use Rattle.dom_base.specs.declared.names.As.{As}
use Rattle.disclosure.specs.declared.class.Class.TheVariants.{Client, Neighbour, Parent}
use Rattle.disclosure.specs.declared.class.Deny.{Deny}
use Rattle.disclosure.specs.Policy.{denies_from, DenialIsTested}

neither : (a b : Bool) → (a || b) ≡ false → (a ≡ false) × (b ≡ false)
neither true b e = absurd cc
neither false b e = (refl, e)

both : (a b : Bool) → a ≡ true → b ≡ true → (a && b) ≡ false → ⊥
both true true p q e = cc
both true false p q e = cc
both false b p q e = cc

same_as : (a b : As) → a.0 ≡ b.0 → a ≡ b
same_as a b e = ap (λ (n : ℕ). record { 0 = n }) e

-- a row that is not about two numbers
abbrev Spares : ℕ → ℕ → Deny → Type 0
Spares from next row = (row.from.0 ≡ from) × (row.next.0 ≡ next) → ⊥

spared : (from next : ℕ) (row : Deny) → ((row.from.0 == from) && (row.next.0 == next)) ≡ false → Spares from next row
spared from next row e p = both _ _ (eq-eqb row.from.0 from p.0) (eq-eqb row.next.0 next p.1) e

all_spare : (from next : ℕ) (rows : List Deny) → denies_from from next rows ≡ false → All (Spares from next) rows
all_spare from next [] e = All-nil (Spares from next)
all_spare from next (row ∷ rows) e =
    let p = neither ((row.from.0 == from) && (row.next.0 == next)) (denies_from from next rows) e in
    All-cons (Spares from next) row rows (spared from next row p.0) (all_spare from next rows p.1)

tested : (from next : ℕ) (row : Deny) → Spares from next row → ((row.from.0 == from) && (row.next.0 == next)) ≡ false
tested from next row s = go (row.from.0 == from) (row.next.0 == next) refl refl
  where
    go : (a b : Bool) → (row.from.0 == from) ≡ a → (row.next.0 == next) ≡ b → (a && b) ≡ false
    go true true p q = absurd (s (eqb-true row.from.0 from p, eqb-true row.next.0 next q))
    go true false p q = refl
    go false b p q = refl

none_denies : (from next : ℕ) (rows : List Deny) → All (Spares from next) rows → denies_from from next rows ≡ false
none_denies from next rows all =
    list_any_none (λ (row : Deny). (row.from.0 == from) && (row.next.0 == next)) rows (λ k d lt. tested from next (get_or rows k d) (all k d lt))

pub denial_is_tested : DenialIsTested
denial_is_tested deny (Client expand) next = (
  λ e k d lt h. all_spare 0 next.0 deny e k d lt (h.0, ap (λ (a : As). a.0) h.1),
  λ allowed. none_denies 0 next.0 deny (λ k d lt p. allowed k d lt (p.0, same_as (get_or deny k d).next next p.1)),
)
denial_is_tested deny (Neighbour number) next = (
  λ e k d lt h. all_spare number.0 next.0 deny e k d lt (ap (λ (a : As). a.0) h.0, ap (λ (a : As). a.0) h.1),
  λ allowed. none_denies number.0 next.0 deny (λ k d lt p. allowed k d lt (same_as (get_or deny k d).from number p.0, same_as (get_or deny k d).next next p.1)),
)
denial_is_tested deny Parent next = (λ e k d lt h. h, λ allowed. refl)
