-- Rows of a table of requests: where they are found, and what falling of a peer leaves of them.
use Rattle.std.proofs.Common.{◌≡◌, ◌⊎◌, ◌&&◌, ◌≤◌, ◌<◌, ℕ, suc, zero, ◌+◌, Bool, true, false, not, cond, ◌==◌, nat_eq, Some, None, List, [], ◌∷◌, ◌++◌, length, get_or, map, Contains, inl, inr, sym, ◌∙◌, ap, subst, refl, arith, filter}
use Rattle.std.specs.Map.{lookup}
use Rattle.std.proofs.lemmas.Bool.{cases_Bool}
use Rattle.std.proofs.lemmas.Grind.{common_steps}
use Rattle.std.proofs.lemmas.Cmp.{nat_eq_equiv}
use Rattle.plant_model.specs.Types.{Peer, Outside, Inner, RequestKey, Held}
use Rattle.request_table.specs.Pending.{Pending, ArePending, same_peer, same_key, number_among, NumbersRise, AreNamedOnce}
use Rattle.request_table.proofs.KeyLemmas.{same_key_is, same_key_back, same_key_self}
use Rattle.plant_model.specs.declared.output.Output.{Output}
use Rattle.plant_model.specs.declared.output.Lost.{Lost}
use Rattle.plant_model.specs.Element.{lost_output}
use Rattle.plant_laws.specs.Transcript.{one_if, answers_to}
use Rattle.plant_laws.proofs.Runs.Seen.{seen, seen_none, ended_if}

pub same_peer_back : (a b : Peer) → same_peer a b ≡ same_peer b a
same_peer_back (Outside a) (Outside b) = nat_eq_equiv.symm a b
same_peer_back (Inner a) (Inner b) = nat_eq_equiv.symm a.0 b.0
same_peer_back (Outside a) (Inner b) = refl
same_peer_back (Inner a) (Outside b) = refl

-- membership by recursion
abbrev pub In : {A : Type 0} → A → List A → Type 0
In x [] = ⊥
In x (y ∷ ys) = (y ≡ x) ⊎ In x ys

in_at : {A : Type 0} (x : A) (ys : List A) (k : ℕ) → k < length ys → get_or ys k x ≡ x → In x ys
in_at x [] k lt e = absurd (let no : k < 0 = lt in omega arith)
in_at x (y ∷ ys) zero lt e = inl e
in_at x (y ∷ ys) (suc k) lt e = inr (in_at x ys k (omega (arith, lt)) e)

pub in_of : {A : Type 0} (x : A) (xs : List A) → Contains xs x → In x xs
in_of x xs c = in_at x xs c.0 c.1 c.2

pub in_append : {A : Type 0} (x : A) (xs ys : List A) → In x (xs ++ ys) → In x xs ⊎ In x ys
in_append x [] ys h = inr h
in_append x (z ∷ xs) ys (inl e) = inl (inl e)
in_append x (z ∷ xs) ys (inr h) = elim (in_append x xs ys h) [ inl l ↦ inl (inr l) | inr r ↦ inr r ]

-- a row is found under its number
other_number : (a b : ℕ) → a < b → nat_eq b a ≡ false
other_number a b lt = grind (arith, common_steps)

pub rises_above : {T : Type 0} (low high : ℕ) (rows : List (ℕ × Held T)) (h : ℕ × Held T) → NumbersRise low rows high → In h rows → low < h.0
rises_above low high [] h rises none = absurd none
rises_above low high (row ∷ rows) h rises (inl e) = subst (λ (r : ℕ × Held _). low < r.0) e rises.0
rises_above low high (row ∷ rows) h rises (inr more) = omega (arith, rises.0, rises_above row.0 high rows h rises.1 more)

pub found_in : {T : Type 0} (low high : ℕ) (rows : List (ℕ × Held T)) (h : ℕ × Held T) → NumbersRise low rows high → In h rows → lookup (nat_eq h.0) rows ≡ Some h.1
found_in low high [] h rises none = absurd none
found_in low high (row ∷ rows) h rises (inl e) =
    subst (λ (r : ℕ × Held _). lookup (nat_eq r.0) (row ∷ rows) ≡ Some r.1) e
    (let same : nat_eq row.0 row.0 ≡ true = grind (arith, common_steps) in rw same refl)
found_in low high (row ∷ rows) h rises (inr more) =
    rw (other_number row.0 h.0 (rises_above row.0 high rows h rises.1 more)) (found_in row.0 high rows h rises.1 more)

-- and under its name
pub seen_in : {T : Type 0} {U : Type 0} (f : T → U) (rows : List (ℕ × Held T)) (h : ℕ × Held T) → AreNamedOnce rows → In h rows → seen f h.1.key rows ≡ Some (f h.1.item)
seen_in f [] h once none = absurd none
seen_in f (row ∷ rows) h once (inl e) =
    subst (λ (r : ℕ × Held _). seen f r.1.key (row ∷ rows) ≡ Some (f r.1.item)) e (rw (same_key_self row.1.key) refl)
seen_in f (row ∷ rows) h once (inr more) =
    elim (cases_Bool (same_key h.1.key row.1.key)) [
      | inl hit ↦
          let none : number_among h.1.key rows ≡ None = subst (λ (k : RequestKey). number_among k rows ≡ None) (sym (same_key_is h.1.key row.1.key hit)) once.0 in
          let no : Some (f h.1.item) ≡ None = sym (seen_in f rows h once.1 more) ∙ seen_none f h.1.key rows none in
          absurd (let out : Some (f h.1.item) ≡ None = no in cc)
      | inr miss ↦ rw miss (seen_in f rows h once.1 more)
    ]

-- what has a number among the rows is one of them
pub numbered : {T : Type 0} (key : RequestKey) (rows : List (ℕ × Held T)) (number : ℕ) → number_among key rows ≡ Some number → (h : ℕ × Held T) × In h rows × (h.0 ≡ number) × (same_key key h.1.key ≡ true)
numbered key [] number some = absurd (let no : None ≡ Some number = some in cc)
numbered key (row ∷ rows) number some =
    elim (cases_Bool (same_key key row.1.key)) [
      | inl hit ↦ (row, inl refl, (let e : Some row.0 ≡ Some number = rw hit at some in cc), hit)
      | inr miss ↦ let r = numbered key rows number (rw miss at some) in (r.0, inr r.1, r.2, r.3)
    ]

-- A peer goes down: its own rows are dropped, and those that wait on it are answered.
module _ {T : Type 0} (p : Peer) (waits : T → Bool) (flags : T → ℕ) where
  abbrev pub stays : ℕ × Held T → Bool
  stays h = cond (same_peer h.1.key.peer p) false (not (waits h.1.item))

  abbrev pub is_lost : ℕ × Held T → Bool
  is_lost h = cond (same_peer h.1.key.peer p) false (waits h.1.item)

  abbrev pub lost_of : ℕ × Held T → Lost
  lost_of h = record { to = h.1.key.peer; flags = flags h.1.item; id = h.1.key.id }

  abbrev pub told : List (ℕ × Held T) → List Output
  told rows = map lost_output (map lost_of (filter is_lost rows))

  one_told : (key : RequestKey) (row : ℕ × Held T) (n : ℕ) → same_key key row.1.key ≡ false → cond (same_peer row.1.key.peer key.peer) (one_if (row.1.key.id == key.id) + 0) 0 + n ≡ n
  one_told key row n apart = go (same_peer row.1.key.peer key.peer) (row.1.key.id == key.id) (same_key_back row.1.key key ∙ apart)
    where
      go : (a b : Bool) → a && b ≡ false → cond a (one_if b + 0) 0 + n ≡ n
      go true true e = absurd (let no : true ≡ false = e in cc)
      go true false e = omega arith
      go false b e = omega arith

  told_none : (key : RequestKey) (rows : List (ℕ × Held T)) → number_among key rows ≡ None → answers_to key.peer key.id (told rows) ≡ 0
  told_none key [] none = refl
  told_none key (row ∷ rows) none =
      elim (cases_Bool (same_key key row.1.key)) [
        | inl hit ↦ absurd (let no : Some row.0 ≡ None = rw hit at none in cc)
        | inr miss ↦
            let rec = told_none key rows (rw miss at none) in
            elim (cases_Bool (is_lost row)) [
              | inl lost ↦ rw lost (one_told key row (answers_to key.peer key.id (told rows)) miss ∙ rec)
              | inr kept ↦ rw kept rec
            ]
      ]

  own_told : (key : RequestKey) (row : ℕ × Held T) (n : ℕ) → same_key key row.1.key ≡ true → (cond (same_peer row.1.key.peer key.peer) (one_if (row.1.key.id == key.id) + 0) 0 + n == 0) ≡ false
  own_told key row n same = go (same_peer row.1.key.peer key.peer) (row.1.key.id == key.id) (same_key_back row.1.key key ∙ same)
    where
      go : (a b : Bool) → a && b ≡ true → (cond a (one_if b + 0) 0 + n == 0) ≡ false
      go true true e = grind (arith, common_steps)
      go true false e = absurd (let no : false ≡ true = e in cc)
      go false b e = absurd (let no : false ≡ true = e in cc)

  kept_none : {U : Type 0} (f : T → U) (key : RequestKey) (rows : List (ℕ × Held T)) → number_among key rows ≡ None → seen f key (filter stays rows) ≡ None
  kept_none f key [] none = refl
  kept_none f key (row ∷ rows) none =
      elim (cases_Bool (same_key key row.1.key)) [
        | inl hit ↦ absurd (let no : Some row.0 ≡ None = rw hit at none in cc)
        | inr miss ↦
            let rec = kept_none f key rows (rw miss at none) in
            elim (cases_Bool (stays row)) [ inl here ↦ rw (here, miss) rec | inr gone ↦ rw gone rec ]
      ]

  pub seen_kept : {U : Type 0} (f : T → U) (key : RequestKey) (rows : List (ℕ × Held T)) → AreNamedOnce rows →
      seen f key (filter stays rows) ≡ ended_if (same_peer p key.peer) (answers_to key.peer key.id (told rows)) (seen f key rows)
  seen_kept f key [] once = elim (cases_Bool (same_peer p key.peer)) [ inl own ↦ rw own refl | inr other ↦ rw other refl ]
  seen_kept f key (row ∷ rows) once =
      elim (cases_Bool (same_key key row.1.key)) [
        | inr miss ↦
            let rec = seen_kept f key rows once.1 in
            let told_rec : answers_to key.peer key.id (told (row ∷ rows)) ≡ answers_to key.peer key.id (told rows) =
            elim (cases_Bool (is_lost row)) [
              | inl lost ↦ rw lost (one_told key row (answers_to key.peer key.id (told rows)) miss)
              | inr kept ↦ rw kept refl
            ] in
            rw (told_rec, miss) (elim (cases_Bool (stays row)) [ inl here ↦ rw (here, miss) rec | inr gone ↦ rw gone rec ])
        | inl hit ↦
            let is : key ≡ row.1.key = same_key_is key row.1.key hit in
            let none : number_among key rows ≡ None = subst (λ (k : RequestKey). number_among k rows ≡ None) (sym is) once.0 in
            let left = kept_none f key rows none in
            let quiet = told_none key rows none in
            let peers : same_peer p key.peer ≡ same_peer row.1.key.peer p = same_peer_back p key.peer ∙ ap (λ (k : RequestKey). same_peer k.peer p) is in
            rw (peers, hit) (elim (cases_Bool (same_peer row.1.key.peer p)) [
              | inl own ↦ rw own left
              | inr other ↦
                  elim (cases_Bool (waits row.1.item)) [
                    | inl lost ↦ rw (other, lost) (rw (own_told key row (answers_to key.peer key.id (told rows)) hit) left)
                    | inr kept ↦ rw (other, kept) (rw (hit, quiet) refl)
                  ]
            ])
      ]

-- the table without the rows that go
NumbersRise-weaker : {T : Type 0} (low more high : ℕ) (rows : List (ℕ × Held T)) → low ≤ more → NumbersRise more rows high → NumbersRise low rows high
NumbersRise-weaker low more high [] le rises = omega arith
NumbersRise-weaker low more high (row ∷ rows) le rises = (omega (arith, rises.0), rises.1)

pub NumbersRise-filter : {T : Type 0} (t : ℕ × Held T → Bool) (low high : ℕ) (rows : List (ℕ × Held T)) → NumbersRise low rows high → NumbersRise low (filter t rows) high
NumbersRise-filter t low high [] rises = rises
NumbersRise-filter t low high (row ∷ rows) rises =
    elim (cases_Bool (t row)) [
      | inl here ↦ rw here (rises.0, NumbersRise-filter t row.0 high rows rises.1)
      | inr gone ↦ rw gone (NumbersRise-weaker low row.0 high (filter t rows) (omega (arith, rises.0)) (NumbersRise-filter t row.0 high rows rises.1))
    ]

none_filtered : {T : Type 0} (t : ℕ × Held T → Bool) (key : RequestKey) (rows : List (ℕ × Held T)) → number_among key rows ≡ None → number_among key (filter t rows) ≡ None
none_filtered t key [] none = refl
none_filtered t key (row ∷ rows) none =
    elim (cases_Bool (same_key key row.1.key)) [
      | inl hit ↦ absurd (let no : Some row.0 ≡ None = rw hit at none in cc)
      | inr miss ↦
          let rec = none_filtered t key rows (rw miss at none) in
          elim (cases_Bool (t row)) [ inl here ↦ rw (here, miss) rec | inr gone ↦ rw gone rec ]
    ]

AreNamedOnce-filter : {T : Type 0} (t : ℕ × Held T → Bool) (rows : List (ℕ × Held T)) → AreNamedOnce rows → AreNamedOnce (filter t rows)
AreNamedOnce-filter t [] once = tt
AreNamedOnce-filter t (row ∷ rows) once =
    elim (cases_Bool (t row)) [
      | inl here ↦ rw here (none_filtered t row.1.key rows once.0, AreNamedOnce-filter t rows once.1)
      | inr gone ↦ rw gone (AreNamedOnce-filter t rows once.1)
    ]

length-filter : {T : Type 0} (t : ℕ × Held T → Bool) (rows : List (ℕ × Held T)) → length (filter t rows) ≤ length rows
length-filter t [] = omega arith
length-filter t (row ∷ rows) =
    elim (cases_Bool (t row)) [
      | inl here ↦ rw here (omega (arith, length-filter t rows))
      | inr gone ↦ rw gone (omega (arith, length-filter t rows))
    ]

pub filtered_pending : {T : Type 0} (t : ℕ × Held T → Bool) (pending : Pending T) → ArePending pending → ArePending (record pending { rows = filter t pending.rows })
filtered_pending t pending are = record {
  few = omega (arith, are.few, length-filter t pending.rows);
  last = are.last;
  numbers = NumbersRise-filter t 0 pending.given pending.rows are.numbers;
  names = AreNamedOnce-filter t pending.rows are.names;
}
