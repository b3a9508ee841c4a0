-- Requests in the order of their numbers.
use Rattle.std.proofs.Common.{◌≡◌, inl, inr, ℕ, ◌+◌, ◌<◌, ◌≤◌, ◌^◌, Bool, true, false, cond, Option, Some, None, List, [], ◌∷◌, ◌++◌, length, nat_eq, arith, refl, sym, ◌∙◌, ap, subst}
use Rattle.std.specs.Map.{lookup, remove_entry}
use Rattle.std.specs.Option.{is_some}
use Rattle.std.proofs.lemmas.Bool.{cases_Bool}
use Rattle.std.proofs.lemmas.Grind.{common_steps}
use Rattle.indexmap.specs.IndexMap.{insert_entry}
use Rattle.request_table.specs.declared.held.RequestKey.{RequestKey}
use Rattle.request_table.specs.declared.held.Held.{Held}
use Rattle.request_table.specs.Pending.{ArePending, same_key, number_among, NumbersRise, AreNamedOnce}
use Rattle.request_table.specs.contracts.held.RequestKeyPartialEq.TheImpl as derived
use Rattle.request_table.proofs.KeyLemmas.{same_key_is, same_key_back, same_key_self, derived_is}

test_false : (a b : ℕ) → b < a → nat_eq a b ≡ false
test_false a b below = grind (arith, common_steps)

pub NumbersRise-last : {T : Type 0} (low high : ℕ) (rows : List (ℕ × Held T)) → NumbersRise low rows high → low ≤ high
NumbersRise-last low high [] rises = rises
NumbersRise-last low high (row ∷ rows) rises = omega (arith, rises.0, NumbersRise-last row.0 high rows rises.1)

-- a number above all the others goes last
pub insert_last : {T : Type 0} (low high number : ℕ) (rows : List (ℕ × Held T)) (held : Held T) → NumbersRise low rows high → high < number →
    insert_entry nat_eq rows number held ≡ rows ++ (number, held) ∷ []
insert_last low high number [] held rises above = refl
insert_last low high number (row ∷ rows) held rises above =
    rw (test_false number row.0 (omega (arith, NumbersRise-last row.0 high rows rises.1))) (ap (λ rest. row ∷ rest) (insert_last row.0 high number rows held rises.1 above))

pub NumbersRise-append : {T : Type 0} (low high number : ℕ) (rows : List (ℕ × Held T)) (held : Held T) → NumbersRise low rows high → high < number → NumbersRise low (rows ++ (number, held) ∷ []) number
NumbersRise-append low high number [] held rises above = (omega (arith, rises), omega arith)
NumbersRise-append low high number (row ∷ rows) held rises above = (rises.0, NumbersRise-append row.0 high number rows held rises.1 above)

NumbersRise-weaker : {T : Type 0} (low more high : ℕ) (rows : List (ℕ × Held T)) → low ≤ more → NumbersRise more rows high → NumbersRise low rows high
NumbersRise-weaker low more high [] le rises = omega arith
NumbersRise-weaker low more high (row ∷ rows) le rises = (omega (arith, rises.0), rises.1)

pub NumbersRise-remove : {T : Type 0} (test : ℕ → Bool) (low high : ℕ) (rows : List (ℕ × Held T)) → NumbersRise low rows high → NumbersRise low (remove_entry test rows) high
NumbersRise-remove test low high [] rises = rises
NumbersRise-remove test low high (row ∷ rows) rises =
    elim (cases_Bool (test row.0)) [
      | inl hit ↦ rw hit (NumbersRise-weaker low row.0 high rows (omega (arith, rises.0)) rises.1)
      | inr miss ↦ rw miss (rises.0, NumbersRise-remove test row.0 high rows rises.1)
    ]

pub length-remove : {T : Type 0} (test : ℕ → Bool) (rows : List (ℕ × Held T)) → length (remove_entry test rows) ≤ length rows
length-remove test [] = omega arith
length-remove test (row ∷ rows) =
    elim (cases_Bool (test row.0)) [
      | inl hit ↦ rw hit (omega arith)
      | inr miss ↦ rw miss (omega (arith, length-remove test rows))
    ]

none_removed : {T : Type 0} (key : RequestKey) (test : ℕ → Bool) (rows : List (ℕ × Held T)) → number_among key rows ≡ None → number_among key (remove_entry test rows) ≡ None
none_removed key test [] none = refl
none_removed key test (row ∷ rows) none =
    elim (cases_Bool (same_key key row.1.key)) [
      | inl hit ↦ absurd (let no : Some row.0 ≡ None = rw hit at none in cc)
      | inr miss ↦
          let rest : number_among key rows ≡ None = rw miss at none in
          elim (cases_Bool (test row.0)) [
            | inl gone ↦ rw gone rest
            | inr stays ↦ rw (stays, miss) (none_removed key test rows rest)
          ]
    ]

pub AreNamedOnce-remove : {T : Type 0} (test : ℕ → Bool) (rows : List (ℕ × Held T)) → AreNamedOnce rows → AreNamedOnce (remove_entry test rows)
AreNamedOnce-remove test [] once = tt
AreNamedOnce-remove test (row ∷ rows) once =
    elim (cases_Bool (test row.0)) [
      | inl hit ↦ rw hit once.1
      | inr miss ↦ rw miss (none_removed row.1.key test rows once.0, AreNamedOnce-remove test rows once.1)
    ]

-- another key is looked up as before
other_appended : {T : Type 0} (key : RequestKey) (number : ℕ) (rows : List (ℕ × Held T)) (held : Held T) → same_key key held.key ≡ false →
    number_among key (rows ++ (number, held) ∷ []) ≡ number_among key rows
other_appended key number [] held other = rw other refl
other_appended key number (row ∷ rows) held other =
    elim (cases_Bool (same_key key row.1.key)) [
      | inl hit ↦ rw hit refl
      | inr miss ↦ rw miss (other_appended key number rows held other)
    ]

-- a new one is found last
own_appended : {T : Type 0} (number : ℕ) (rows : List (ℕ × Held T)) (held : Held T) → number_among held.key rows ≡ None →
    number_among held.key (rows ++ (number, held) ∷ []) ≡ Some number
own_appended number [] held none = rw (same_key_self held.key) refl
own_appended number (row ∷ rows) held none =
    elim (cases_Bool (same_key held.key row.1.key)) [
      | inl hit ↦ absurd (let no : Some row.0 ≡ None = rw hit at none in cc)
      | inr miss ↦ rw miss (own_appended number rows held (rw miss at none))
    ]

pub AreNamedOnce-append : {T : Type 0} (number : ℕ) (rows : List (ℕ × Held T)) (held : Held T) → AreNamedOnce rows → number_among held.key rows ≡ None → AreNamedOnce (rows ++ (number, held) ∷ [])
AreNamedOnce-append number [] held once none = (refl, tt)
AreNamedOnce-append number (row ∷ rows) held once none =
    elim (cases_Bool (same_key held.key row.1.key)) [
      | inl hit ↦ absurd (let no : Some row.0 ≡ None = rw hit at none in cc)
      | inr miss ↦ (
        other_appended row.1.key number rows held (same_key_back row.1.key held.key ∙ miss) ∙ once.0,
        AreNamedOnce-append number rows held once.1 (rw miss at none),
      )
    ]

-- where each peer and id is looked up, with one more
pub opened_index : {T : Type 0} (number : ℕ) (rows : List (ℕ × Held T)) (held : Held T) → number_among held.key rows ≡ None → (key : RequestKey) →
    cond (same_key held.key key) (Some number) (number_among key rows) ≡ number_among key (rows ++ (number, held) ∷ [])
opened_index number rows held none key =
    elim (cases_Bool (same_key held.key key)) [
      | inl hit ↦
          let same : held.key ≡ key = same_key_is held.key key hit in
          rw hit (subst (λ k. Some number ≡ number_among k (rows ++ (number, held) ∷ [])) same (sym (own_appended number rows held none)))
      | inr miss ↦ rw miss (sym (other_appended key number rows held (same_key_back key held.key ∙ miss)))
    ]

-- a request that is there has its peer and id in the rows
pub named_there : {T : Type 0} (number : ℕ) (rows : List (ℕ × Held T)) (held : Held T) → lookup (nat_eq number) rows ≡ Some held → number_among held.key rows ≡ None → ⊥
named_there number [] held found none = let no : None ≡ Some held = found in cc
named_there number (row ∷ rows) held found none =
    elim (cases_Bool (same_key held.key row.1.key)) [
      | inl own ↦ let no : Some row.0 ≡ None = rw own at none in cc
      | inr other ↦
          elim (cases_Bool (nat_eq number row.0)) [
            | inl hit ↦
                let same : Some row.1 ≡ Some held = rw hit at found in
                let is : row.1 ≡ held = cc in
                let own : same_key held.key row.1.key ≡ true = subst (λ (h : Held _). same_key held.key h.key ≡ true) (sym is) (same_key_self held.key) in
                cc
            | inr miss ↦ named_there number rows held (rw miss at found) (rw other at none)
          ]
    ]

-- where each peer and id is looked up, without one
pub closed_index : {T : Type 0} (number : ℕ) (rows : List (ℕ × Held T)) (held : Held T) → AreNamedOnce rows → lookup (nat_eq number) rows ≡ Some held → (key : RequestKey) →
    cond (same_key held.key key) None (number_among key rows) ≡ number_among key (remove_entry (nat_eq number) rows)
closed_index number [] held once found key = absurd (let no : None ≡ Some held = found in cc)
closed_index number (row ∷ rows) held once found key =
    elim (cases_Bool (nat_eq number row.0)) [
      | inl hit ↦
          let same : Some row.1 ≡ Some held = rw hit at found in
          let is : row.1 ≡ held = cc in
          let none : number_among held.key rows ≡ None = subst (λ (h : Held _). number_among h.key rows ≡ None) is once.0 in
          elim (cases_Bool (same_key held.key key)) [
            | inl own ↦
                let at : held.key ≡ key = same_key_is held.key key own in
                rw (own, hit) (sym (subst (λ k. number_among k rows ≡ None) at none))
            | inr other ↦
                let apart : same_key key row.1.key ≡ false = subst (λ (h : Held _). same_key key h.key ≡ false) (sym is) (same_key_back key held.key ∙ other) in
                rw (other, hit, apart) refl
          ]
      | inr miss ↦
          let there : lookup (nat_eq number) rows ≡ Some held = rw miss at found in
          elim (cases_Bool (same_key key row.1.key)) [
            | inl own ↦
                elim (cases_Bool (same_key held.key key)) [
                  | inl wrong ↦
                      let one : held.key ≡ key = same_key_is held.key key wrong in
                      let two : key ≡ row.1.key = same_key_is key row.1.key own in
                      absurd (named_there number rows held there (subst (λ k. number_among k rows ≡ None) (sym (one ∙ two)) once.0))
                  | inr right ↦ rw (right, miss, own) refl
                ]
            | inr other ↦ rw (miss, other) (closed_index number rows held once.1 there key)
          ]
    ]

-- an entry that the map has by the comparison of its keys
abbrev pub Updates : (RequestKey → RequestKey → Bool) → RequestKey → Option ℕ → List (RequestKey × ℕ) → List (RequestKey × ℕ) → Type 0
Updates same key value before after = (other : RequestKey) → lookup (same other) after ≡ cond (same key other) value (lookup (same other) before)

pub closed_holds : {T : Type 0} (number : ℕ) (rows after : List (ℕ × Held T)) (held : Held T) (numbers left : List (RequestKey × ℕ)) → AreNamedOnce rows → lookup (nat_eq number) rows ≡ Some held →
    ((key : RequestKey) → lookup (same_key key) numbers ≡ number_among key rows) → Updates derived.eq-value.it held.key None numbers left → after ≡ remove_entry (nat_eq number) rows →
    (key : RequestKey) → lookup (same_key key) left ≡ number_among key after
closed_holds number rows after held numbers left once found index updates is key =
    subst (λ same. Updates same held.key None numbers left) derived_is updates key
    ∙ ap (cond (same_key held.key key) None) (index key)
    ∙ closed_index number rows held once found key
    ∙ ap (number_among key) (sym is)

pub opened_holds : {T : Type 0} (number : ℕ) (rows after : List (ℕ × Held T)) (held : Held T) (numbers kept more : List (RequestKey × ℕ)) → number_among held.key rows ≡ None →
    ((key : RequestKey) → lookup (same_key key) numbers ≡ number_among key rows) → kept ≡ numbers → Updates derived.eq-value.it held.key (Some number) kept more →
    after ≡ rows ++ (number, held) ∷ [] → (key : RequestKey) → lookup (same_key key) more ≡ number_among key after
opened_holds number rows after held numbers kept more none index same updates is key =
    subst (λ by. Updates by held.key (Some number) kept more) derived_is updates key
    ∙ ap (λ entries. cond (same_key held.key key) (Some number) (lookup (same_key key) entries)) same
    ∙ ap (cond (same_key held.key key) (Some number)) (index key)
    ∙ opened_index number rows held none key
    ∙ ap (number_among key) (sym is)

pub closed_pending : {T : Type 0} (limit given number : ℕ) (rows after : List (ℕ × Held T)) → ArePending (record { limit = limit; given = given; rows = rows }) →
    after ≡ remove_entry (nat_eq number) rows → ArePending (record { limit = limit; given = given; rows = after })
closed_pending limit given number rows after are is = rw is (record {
  few = omega (arith, are.few, length-remove (nat_eq number) rows);
  last = are.last;
  numbers = NumbersRise-remove (nat_eq number) 0 given rows are.numbers;
  names = AreNamedOnce-remove (nat_eq number) rows are.names;
})

length-push : {T : Type 0} (rows : List (ℕ × Held T)) (row : ℕ × Held T) → length (rows ++ row ∷ []) ≡ length rows + 1
length-push [] row = refl
length-push (one ∷ rows) row = grind (arith, length-push rows row)

pub opened_pending : {T : Type 0} (limit given : ℕ) (rows after : List (ℕ × Held T)) (held : Held T) → ArePending (record { limit = limit; given = given; rows = rows }) →
    length rows < limit → given + 1 < 2 ^ 64 → number_among held.key rows ≡ None → after ≡ rows ++ (given + 1, held) ∷ [] →
    ArePending (record { limit = limit; given = given + 1; rows = after })
opened_pending limit given rows after held are room last none pushed =
    rw pushed (record {
      few = omega (arith, length-push rows (given + 1, held));
      last = last;
      numbers = NumbersRise-append 0 given (given + 1) rows held are.numbers (omega arith);
      names = AreNamedOnce-append (given + 1) rows held are.names none;
    })

pub opened_is : {T : Type 0} (limit given : ℕ) (rows after : List (ℕ × Held T)) (held : Held T) → ArePending (record { limit = limit; given = given; rows = rows }) →
    after ≡ insert_entry nat_eq rows (given + 1) held → after ≡ rows ++ (given + 1, held) ∷ []
opened_is limit given rows after held are is = is ∙ insert_last 0 given (given + 1) rows held are.numbers (omega arith)

pub none_from : {X : Type 0} (o : Option X) → is_some o ≡ false → o ≡ None
none_from None none = refl
none_from (Some x) none = absurd (let no : true ≡ false = none in cc)
