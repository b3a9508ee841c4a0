-- What is found after a request is opened or closed.
use Rattle.std.proofs.Common.{◌≡◌, ◌≢◌, inl, inr, ℕ, zero, suc, ◌+◌, ◌-◌, ◌<◌, ◌≤◌, ◌^◌, ◌==◌, Bool, true, false, cond, Option, Some, None, List, [], ◌∷◌, ◌++◌, length, nat_eq, nat_le, slice_get, option_map, arith, refl, sym, ◌∙◌, ap, subst}
use Rattle.std.specs.Prelude.{IsTrue}
use Rattle.std.specs.Map.{lookup, remove_entry}
use Rattle.std.proofs.lemmas.Bool.{cases_Bool, leb-true, eqb-true, le-leb, eq-eqb, ne_eqb, or_cases, or_left, or_right}
use Rattle.request_table.specs.declared.held.RequestKey.{RequestKey}
use Rattle.request_table.specs.declared.held.Held.{Held}
use Rattle.request_table.specs.Pending.{IsFull, is_full, key_of, same_key, number_among, NumbersRise}
use Rattle.request_table.specs.Laws.{OpenLaw, CloseLaw, FullLaw}
use Rattle.request_table.proofs.KeyLemmas.{same_key_is, same_key_self}
use Rattle.request_table.proofs.PendingLemmas.{NumbersRise-last, opened_index, closed_index}

same_number : (n : ℕ) → nat_eq n n ≡ true
same_number n = eq-eqb n n refl

-- ---- by number

above_none : {T : Type 0} (number low high : ℕ) (rows : List (ℕ × Held T)) → NumbersRise low rows high → high < number → lookup (nat_eq number) rows ≡ None
above_none number low high [] rises above = refl
above_none number low high (row ∷ rows) rises above =
    rw (ne_eqb number row.0 (λ same. omega (arith, same, NumbersRise-last row.0 high rows rises.1))) (above_none number row.0 high rows rises.1 above)

below_none : {T : Type 0} (number low high : ℕ) (rows : List (ℕ × Held T)) → NumbersRise low rows high → number ≤ low → lookup (nat_eq number) rows ≡ None
below_none number low high [] rises below = refl
below_none number low high (row ∷ rows) rises below =
    rw (ne_eqb number row.0 (λ same. omega (arith, same, rises.0))) (below_none number row.0 high rows rises.1 (omega (arith, rises.0)))

last_found : {T : Type 0} (number low high : ℕ) (rows : List (ℕ × Held T)) (held : Held T) → NumbersRise low rows high → high < number → lookup (nat_eq number) (rows ++ (number, held) ∷ []) ≡ Some held
last_found number low high [] held rises above = rw (same_number number) refl
last_found number low high (row ∷ rows) held rises above =
    rw (ne_eqb number row.0 (λ same. omega (arith, same, NumbersRise-last row.0 high rows rises.1))) (last_found number row.0 high rows held rises.1 above)

others_found : {T : Type 0} (other number : ℕ) (rows : List (ℕ × Held T)) (held : Held T) → other ≢ number → lookup (nat_eq other) (rows ++ (number, held) ∷ []) ≡ lookup (nat_eq other) rows
others_found other number [] held differ = rw (ne_eqb other number differ) refl
others_found other number (row ∷ rows) held differ =
    elim (cases_Bool (nat_eq other row.0)) [
      | inl hit ↦ rw hit refl
      | inr miss ↦ rw miss (others_found other number rows held differ)
    ]

closed_none : {T : Type 0} (number low high : ℕ) (rows : List (ℕ × Held T)) → NumbersRise low rows high → lookup (nat_eq number) (remove_entry (nat_eq number) rows) ≡ None
closed_none number low high [] rises = refl
closed_none number low high (row ∷ rows) rises =
    elim (cases_Bool (nat_eq number row.0)) [
      | inl hit ↦ rw hit (below_none number row.0 high rows rises.1 (omega (arith, eqb-true number row.0 hit)))
      | inr miss ↦ rw miss (rw miss (closed_none number row.0 high rows rises.1))
    ]

others_left : {T : Type 0} (other number : ℕ) (rows : List (ℕ × Held T)) → other ≢ number → lookup (nat_eq other) (remove_entry (nat_eq number) rows) ≡ lookup (nat_eq other) rows
others_left other number [] differ = refl
others_left other number (row ∷ rows) differ =
    elim (cases_Bool (nat_eq number row.0)) [
      | inl hit ↦ rw (hit, ne_eqb other row.0 (λ same. differ (same ∙ sym (eqb-true number row.0 hit)))) refl
      | inr miss ↦
          rw miss (elim (cases_Bool (nat_eq other row.0)) [
            | inl own ↦ rw own refl
            | inr apart ↦ rw apart (others_left other number rows differ)
          ])
    ]

-- ---- by place

abbrev number_at : {T : Type 0} → List (ℕ × Held T) → ℕ → Option ℕ
number_at rows k = option_map (λ row. row.0) (slice_get rows k)

last_place : {T : Type 0} (rows : List (ℕ × Held T)) (row : ℕ × Held T) → number_at (rows ++ row ∷ []) (length rows) ≡ Some row.0
last_place [] row = refl
last_place (one ∷ rows) row = last_place rows row

earlier_place : {T : Type 0} (rows : List (ℕ × Held T)) (row : ℕ × Held T) (k : ℕ) → k < length rows → number_at (rows ++ row ∷ []) k ≡ number_at rows k
earlier_place [] row k within = absurd (omega (arith, within))
earlier_place (one ∷ rows) row zero within = refl
earlier_place (one ∷ rows) row (suc k) within = earlier_place rows row k (omega (arith, within))

above_at : {T : Type 0} (low high : ℕ) (rows : List (ℕ × Held T)) (k n : ℕ) → NumbersRise low rows high → number_at rows k ≡ Some n → low < n
above_at low high [] k n rises at = absurd (let no : None ≡ Some n = at in cc)
above_at low high (row ∷ rows) zero n rises at = let same : Some row.0 ≡ Some n = at in let is : row.0 ≡ n = cc in omega (arith, rises.0, is)
above_at low high (row ∷ rows) (suc k) n rises at = omega (arith, rises.0, above_at row.0 high rows k n rises.1 at)

before_closed : {T : Type 0} (number low high : ℕ) (rows : List (ℕ × Held T)) (k n : ℕ) → NumbersRise low rows high → number_at rows k ≡ Some n → n < number → number_at (remove_entry (nat_eq number) rows) k ≡ Some n
before_closed number low high [] k n rises at below = absurd (let no : None ≡ Some n = at in cc)
before_closed number low high (row ∷ rows) zero n rises at below =
    let same : Some row.0 ≡ Some n = at in
    let is : row.0 ≡ n = cc in
    rw (ne_eqb number row.0 (λ e. omega (arith, e, is))) at
before_closed number low high (row ∷ rows) (suc k) n rises at below =
    rw (ne_eqb number row.0 (λ e. omega (arith, e, above_at row.0 high rows k n rises.1 at))) (before_closed number row.0 high rows k n rises.1 at below)

first_above : {T : Type 0} (number low high n : ℕ) (rows : List (ℕ × Held T)) → NumbersRise low rows high → number_at rows 0 ≡ Some n → number < n → lookup (nat_eq number) rows ≡ None
first_above number low high n [] rises at above = refl
first_above number low high n (row ∷ rows) rises at above =
    let same : Some row.0 ≡ Some n = at in
    let is : row.0 ≡ n = cc in
    rw (ne_eqb number row.0 (λ e. omega (arith, e, is, above))) (below_none number row.0 high rows rises.1 (omega (arith, is, above)))

behind_closed : {T : Type 0} (number low high : ℕ) (rows : List (ℕ × Held T)) (held : Held T) (k n : ℕ) → NumbersRise low rows high → lookup (nat_eq number) rows ≡ Some held →
    number_at rows (suc k) ≡ Some n → number < n → number_at (remove_entry (nat_eq number) rows) k ≡ Some n
behind_closed number low high [] held k n rises there at above = absurd (let none : None ≡ Some n = at in cc)
behind_closed number low high (row ∷ rows) held zero n rises there at above =
    elim (cases_Bool (nat_eq number row.0)) [
      | inl hit ↦ rw hit at
      | inr miss ↦ absurd (let none : None ≡ Some held = sym (first_above number row.0 high n rows rises.1 at above) ∙ (rw miss at there) in cc)
    ]
behind_closed number low high (row ∷ rows) held (suc k) n rises there at above =
    elim (cases_Bool (nat_eq number row.0)) [
      | inl hit ↦ rw hit at
      | inr miss ↦ rw miss (behind_closed number row.0 high rows held k n rises.1 (rw miss at there) at above)
    ]

-- ---- the laws

other_key : (a b : RequestKey) → a ≢ b → same_key b a ≡ false
other_key a b differ =
    elim (cases_Bool (same_key b a)) [
      | inl hit ↦ absurd (differ (sym (same_key_is b a hit)))
      | inr miss ↦ miss
    ]

pub open_law : (T : Type 0) → OpenLaw T
open_law T table peer id item are none =
    let held : Held T = record { key = key_of peer id; item = item } in
    let number = table.given + 1 in
    let last : lookup (nat_eq number) (table.rows ++ (number, held) ∷ []) ≡ Some held = last_found number 0 table.given table.rows held are.numbers (omega arith) in
    record {
      own_item = ap (λ (o : Option (Held T)). option_map (λ (h : Held T). h.item) o) last;
      own_key = ap (λ (o : Option (Held T)). option_map (λ (h : Held T). h.key) o) last;
      own_number = sym (opened_index number table.rows held none (key_of peer id)) ∙ ap (λ (b : Bool). cond b (Some number) (number_among (key_of peer id) table.rows)) (same_key_self (key_of peer id));
      own_place = last_place table.rows (number, held);
      items = λ other differ. ap (λ (o : Option (Held T)). option_map (λ (h : Held T). h.item) o) (others_found other number table.rows held differ);
      keys = λ other differ. ap (λ (o : Option (Held T)). option_map (λ (h : Held T). h.key) o) (others_found other number table.rows held differ);
      numbers = λ other n differ.
          sym (opened_index number table.rows held none (key_of other n)) ∙ ap (λ (b : Bool). cond b (Some number) (number_among (key_of other n) table.rows)) (other_key (key_of other n) (key_of peer id) differ);
      places = λ k within. earlier_place table.rows (number, held) k within;
    }

abbrev IsHeld : {T : Type 0} → Option (Held T) → RequestKey → Type 0
IsHeld {T} o key = (held : Held T) × (o ≡ Some held) × (held.key ≡ key)

held_of : {T : Type 0} (o : Option (Held T)) (key : RequestKey) → option_map (λ h. h.key) o ≡ Some key → IsHeld o key
held_of None key is = absurd (let no : None ≡ Some key = is in cc)
held_of (Some held) key is = (held, refl, (let same : Some held.key ≡ Some key = is in cc))

pub close_law : (T : Type 0) → CloseLaw T
close_law T table number key are is =
    let there = held_of (lookup (nat_eq number) table.rows) key is in
    let held : Held T = there.0 in
    let index : (k : RequestKey) → cond (same_key key k) None (number_among k table.rows) ≡ number_among k (remove_entry (nat_eq number) table.rows) = λ k.
    subst (λ (own : RequestKey). cond (same_key own k) None (number_among k table.rows) ≡ number_among k (remove_entry (nat_eq number) table.rows)) there.2 (closed_index number table.rows held are.names there.1 k) in
    let gone = closed_none number 0 table.given table.rows are.numbers in
    record {
      own_item = ap (λ (o : Option (Held T)). option_map (λ (h : Held T). h.item) o) gone;
      own_key = ap (λ (o : Option (Held T)). option_map (λ (h : Held T). h.key) o) gone;
      own_number = sym (index key) ∙ ap (λ (b : Bool). cond b None (number_among key table.rows)) (same_key_self key);
      items = λ other differ. ap (λ (o : Option (Held T)). option_map (λ (h : Held T). h.item) o) (others_left other number table.rows differ);
      keys = λ other differ. ap (λ (o : Option (Held T)). option_map (λ (h : Held T). h.key) o) (others_left other number table.rows differ);
      numbers = λ peer id differ. sym (index (key_of peer id)) ∙ ap (λ (b : Bool). cond b None (number_among (key_of peer id) table.rows)) (other_key (key_of peer id) key differ);
      places_before = λ k n at below. before_closed number 0 table.given table.rows k n are.numbers at below;
      places_behind = λ k n at above.
          let next : number_at table.rows (suc k) ≡ Some n = subst (λ (j : ℕ). number_at table.rows j ≡ Some n) (let e : k + 1 ≡ suc k = omega arith in e) at in
          behind_closed number 0 table.given table.rows held k n are.numbers there.1 next above;
    }

pub full_law : (T : Type 0) → FullLaw T
full_law T t = (to, from)
  where
    to : IsTrue (is_full t) → IsFull t
    to e = elim (or_cases (nat_le t.limit (length t.rows)) (t.given == 2 ^ 64 - 1) e) [
      | inl most ↦ inl (leb-true t.limit (length t.rows) most)
      | inr last ↦ inr (eqb-true t.given (2 ^ 64 - 1) last)
    ]

    from : IsFull t → IsTrue (is_full t)
    from (inl most) = or_left (nat_le t.limit (length t.rows)) (t.given == 2 ^ 64 - 1) (le-leb t.limit (length t.rows) most)
    from (inr last) = or_right (nat_le t.limit (length t.rows)) (t.given == 2 ^ 64 - 1) (eq-eqb t.given (2 ^ 64 - 1) last)
