-- A request whose item is written.
use Rattle.std.proofs.Common.{◌≡◌, ℕ, Some, None, List, [], ◌∷◌, length, nat_eq, inl, inr, arith, refl, sym, ◌∙◌, ap}
use Rattle.std.specs.Map.{lookup, set_value}
use Rattle.std.proofs.lemmas.Bool.{cases_Bool}
use Rattle.dom_base.specs.Room.{Room}
use Rattle.request_table.specs.declared.held.RequestKey.{RequestKey}
use Rattle.request_table.specs.declared.held.Held.{Held}
use Rattle.request_table.specs.Pending.{Pending, ArePending, same_key, number_among, NumbersRise, AreNamedOnce}
use Rattle.request_table.specs.Lends.{with_item}

pub with_item_is : {T : Type 0} (number : ℕ) (rows : List (ℕ × Held T)) (held : Held T) (item : T) → lookup (nat_eq number) rows ≡ Some held →
    set_value (nat_eq number) rows (record { key = held.key; item = item }) ≡ with_item number item rows
with_item_is number [] held item found = absurd (let no : None ≡ Some held = found in cc)
with_item_is {T} number (row ∷ rows) held item found =
    elim (cases_Bool (nat_eq number row.0)) [
      | inl hit ↦
          let same : Some row.1 ≡ Some held = rw hit at found in
          let is : row.1 ≡ held = cc in
          rw hit (ap (λ (h : Held T). let r : ℕ × Held T = (row.0, record { key = h.key; item = item }) in r ∷ rows) (sym is))
      | inr miss ↦ rw miss (ap (λ r. row ∷ r) (with_item_is number rows held item (rw miss at found)))
    ]

length-with_item : {T : Type 0} (number : ℕ) (item : T) (rows : List (ℕ × Held T)) → length (with_item number item rows) ≡ length rows
length-with_item number item [] = refl
length-with_item number item (row ∷ rows) =
    elim (cases_Bool (nat_eq number row.0)) [ inl hit ↦ rw hit refl | inr miss ↦ rw miss (omega (arith, length-with_item number item rows)) ]

pub number-with_item : {T : Type 0} (key : RequestKey) (number : ℕ) (item : T) (rows : List (ℕ × Held T)) → number_among key (with_item number item rows) ≡ number_among key rows
number-with_item key number item [] = refl
number-with_item key number item (row ∷ rows) =
    elim (cases_Bool (nat_eq number row.0)) [
      | inl hit ↦ rw hit refl
      | inr miss ↦
          rw miss (elim (cases_Bool (same_key key row.1.key)) [
            | inl own ↦ rw own refl
            | inr other ↦ rw other (number-with_item key number item rows)
          ])
    ]

NumbersRise-with_item : {T : Type 0} (low high number : ℕ) (item : T) (rows : List (ℕ × Held T)) → NumbersRise low rows high → NumbersRise low (with_item number item rows) high
NumbersRise-with_item low high number item [] rises = rises
NumbersRise-with_item low high number item (row ∷ rows) rises =
    elim (cases_Bool (nat_eq number row.0)) [
      | inl hit ↦ rw hit rises
      | inr miss ↦ rw miss (rises.0, NumbersRise-with_item row.0 high number item rows rises.1)
    ]

AreNamedOnce-with_item : {T : Type 0} (number : ℕ) (item : T) (rows : List (ℕ × Held T)) → AreNamedOnce rows → AreNamedOnce (with_item number item rows)
AreNamedOnce-with_item number item [] once = tt
AreNamedOnce-with_item number item (row ∷ rows) once =
    elim (cases_Bool (nat_eq number row.0)) [
      | inl hit ↦ rw hit once
      | inr miss ↦ rw miss (number-with_item row.1.key number item rows ∙ once.0, AreNamedOnce-with_item number item rows once.1)
    ]

pub written_pending : {T : Type 0} (limit given number : ℕ) (item : T) (rows after : List (ℕ × Held T)) → ArePending (record { limit = limit; given = given; rows = rows }) →
    after ≡ with_item number item rows → ArePending (record { limit = limit; given = given; rows = after })
written_pending limit given number item rows after are is = rw is (record {
  few = omega (arith, are.few, length-with_item number item rows);
  last = are.last;
  numbers = NumbersRise-with_item 0 given number item rows are.numbers;
  names = AreNamedOnce-with_item number item rows are.names;
})

abbrev pub room_at : {T : Type 0} → ℕ → ℕ → List (ℕ × Held T) → ℕ → Room (Pending T)
room_at limit given rows spare = record { kept = record { limit = limit; given = given; rows = rows }; spare = spare }
