-- How often a peer and id are pending among rows: once at most, and an answer takes one away.
use Rattle.std.proofs.Common.{◌≡◌, ◌+◌, ◌≤◌, ◌<◌, ◌^◌, ℕ, Bool, true, false, nat_eq, List, [], ◌∷◌, ◌++◌, length, Some, None, sym, ap, subst, inl, inr, refl, arith}
use Rattle.std.specs.Map.{remove_entry}
use Rattle.std.proofs.lemmas.Bool.{cases_Bool, eqb-true, eq-eqb}
use Rattle.plant_model.specs.Types.{Peer, RequestKey, Held}
use Rattle.request_table.specs.Pending.{Pending, ArePending, NumbersRise, AreNamedOnce, number_among, same_key, key_of, opened_of, closed_of}
use Rattle.request_table.specs.Lends.{with_item, written_of}
use Rattle.request_table.proofs.KeyLemmas.{same_key_is, same_key_back}
use Rattle.request_table.proofs.PendingLemmas.{closed_pending, opened_pending}
use Rattle.request_table.proofs.LendLemmas.{written_pending}
use Rattle.plant_laws.specs.Transcript.{one_if}
use Rattle.plant_laws.proofs.Once.Handing.{In}

abbrev pub named : {T : Type 0} → Peer → ℕ → ℕ × Held T → ℕ
named p x h = one_if (same_key h.1.key (key_of p x))

abbrev pub count : {T : Type 0} → Peer → ℕ → List (ℕ × Held T) → ℕ
count p x [] = 0
count p x (h ∷ hs) = named p x h + count p x hs

pub one_if_le : (b : Bool) → one_if b ≤ 1
one_if_le true = omega arith
one_if_le false = omega arith

pub none_named : {T : Type 0} (key : RequestKey) (rows : List (ℕ × Held T)) → number_among key rows ≡ None → count key.peer key.id rows ≡ 0
none_named key [] none = refl
none_named key (row ∷ rows) none =
    elim (cases_Bool (same_key key row.1.key)) [
      | inl hit ↦ absurd (let other : Some row.0 ≡ None = rw hit at none in cc)
      | inr miss ↦
          let rest : number_among key rows ≡ None = rw miss at none in
          rw (same_key_back row.1.key key, miss) (omega (arith, none_named key rows rest))
    ]

pub count_once : {T : Type 0} (p : Peer) (x : ℕ) (rows : List (ℕ × Held T)) → AreNamedOnce rows → count p x rows ≤ 1
count_once p x [] once = omega arith
count_once {T} p x (row ∷ rows) once =
    elim (cases_Bool (same_key row.1.key (key_of p x))) [
      | inl hit ↦
          let is : row.1.key ≡ key_of p x = same_key_is row.1.key (key_of p x) hit in
          let none : count p x rows ≡ 0 = subst (λ (key : RequestKey). count key.peer key.id rows ≡ 0) is (none_named row.1.key rows once.0) in
          rw (hit, none) (omega arith)
      | inr miss ↦ rw miss (omega (arith, count_once p x rows once.1))
    ]

pub above : {T : Type 0} (low high : ℕ) (rows : List (ℕ × Held T)) (h : ℕ × Held T) → NumbersRise low rows high → In h rows → low < h.0
above low high [] h rises in' = absurd in'
above {T} low high (row ∷ rows) h rises (inl is) = subst (λ (r : ℕ × Held T). low < r.0) (sym is) rises.0
above low high (row ∷ rows) h rises (inr in') = omega (arith, rises.0, above row.0 high rows h rises.1 in')

not_equal : (a b : ℕ) → b < a → nat_eq a b ≡ false
not_equal a b below = elim (cases_Bool (nat_eq a b)) [ inl hit ↦ absurd (let is = eqb-true a b hit in omega arith) | inr miss ↦ miss ]

-- a request that is taken away
pub removed : {T : Type 0} (p : Peer) (x low high : ℕ) (rows : List (ℕ × Held T)) (h : ℕ × Held T) → NumbersRise low rows high → In h rows →
    named p x h + count p x (remove_entry (nat_eq h.0) rows) ≡ count p x rows
removed p x low high [] h rises in' = absurd in'
removed {T} p x low high (row ∷ rows) h rises (inl is) =
    let hit : nat_eq h.0 row.0 ≡ true = eq-eqb h.0 row.0 (ap (λ (r : ℕ × Held T). r.0) is) in
    rw hit (ap (λ (r : ℕ × Held T). named p x r + count p x rows) is)
removed p x low high (row ∷ rows) h rises (inr in') =
    let miss : nat_eq h.0 row.0 ≡ false = not_equal h.0 row.0 (above row.0 high rows h rises.1 in') in
    rw miss (omega (arith, removed p x row.0 high rows h rises.1 in'))

pub removed_less : {T : Type 0} (p : Peer) (x : ℕ) (test : ℕ → Bool) (rows : List (ℕ × Held T)) → count p x (remove_entry test rows) ≤ count p x rows
removed_less p x test [] = omega arith
removed_less p x test (row ∷ rows) =
    elim (cases_Bool (test row.0)) [
      | inl hit ↦ rw hit (omega arith)
      | inr miss ↦ rw miss (omega (arith, removed_less p x test rows))
    ]

pub rewritten : {T : Type 0} (p : Peer) (x number : ℕ) (item : T) (rows : List (ℕ × Held T)) → count p x (with_item number item rows) ≡ count p x rows
rewritten p x number item [] = refl
rewritten p x number item (row ∷ rows) =
    elim (cases_Bool (nat_eq number row.0)) [
      | inl hit ↦ rw hit refl
      | inr miss ↦ rw miss (ap (λ (m : ℕ). named p x row + m) (rewritten p x number item rows))
    ]

pub ended_pending : {T : Type 0} (number : ℕ) (t : Pending T) → ArePending t → ArePending (closed_of t number)
ended_pending number t are = closed_pending t.limit t.given number t.rows (remove_entry (nat_eq number) t.rows) are refl

pub item_pending : {T : Type 0} (number : ℕ) (item : T) (t : Pending T) → ArePending t → ArePending (written_of t number item)
item_pending number item t are = written_pending t.limit t.given number item t.rows (with_item number item t.rows) are refl

pub begun_pending : {T : Type 0} (p : Peer) (x : ℕ) (item : T) (t : Pending T) → ArePending t → length t.rows < t.limit → t.given + 1 < 2 ^ 64 → number_among (key_of p x) t.rows ≡ None →
    ArePending (opened_of t p x item)
begun_pending p x item t are room last none =
    opened_pending t.limit t.given t.rows (t.rows ++ (t.given + 1, record { key = key_of p x; item = item }) ∷ []) (record { key = key_of p x; item = item }) are room last none refl
