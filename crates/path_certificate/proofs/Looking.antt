-- What a comparison of an address with the last one tells.
use Rattle.std.proofs.Common.{◌≡◌, inl, inr, leb, ℕ, ◌+◌, arith, refl}
use Rattle.std.specs.Ordering.{is_lt, nat_cmp}
use Rattle.std.proofs.lemmas.Bool.{cases_lt, lt-ltb, le-ltb, le-leb, lt-leb}
use Rattle.std.proofs.lemmas.Bool.Decides.{eqb_tells}

pub behind_told : (m n : ℕ) → is_lt (nat_cmp m n) ≡ leb (m + 1) n
behind_told m n =
    elim (cases_lt m n) [
      | inl lt ↦ rw (lt-ltb m n lt, le-leb (m + 1) n (omega arith)) refl
      | inr ge ↦ elim (eqb_tells m n) [
        | inl t ↦ rw (le-ltb m n ge, t.0, lt-leb (m + 1) n (omega arith)) refl
        | inr f ↦ rw (le-ltb m n ge, f.0, lt-leb (m + 1) n (omega arith)) refl
      ]
    ]
