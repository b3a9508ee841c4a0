-- What a change of a table of requests leaves of those that can be solved.
use Rattle.std.proofs.Common.{◌≡◌, ◌≢◌, ◌+◌, ◌≤◌, ℕ, Bool, true, false, cond, Option, Some, None, List, [], ◌∷◌, ◌++◌, nat_eq, arith, inl, inr, refl, sym, ap, subst}
use Rattle.std.specs.Prelude.{filter}
use Rattle.std.specs.Map.{lookup, remove_entry}
use Rattle.std.proofs.lemmas.Bool.{cases_Bool, eqb-true, eq-eqb, ne_eqb}
use Rattle.plant_model.specs.Types.{Peer, Held}
use Rattle.request_table.specs.Pending.{Pending, NumbersRise, opened_of, closed_of, key_of}
use Rattle.request_table.specs.Lends.{with_item, written_of}
use Rattle.request_table.proofs.PendingLemmas.{NumbersRise-last, NumbersRise-append, NumbersRise-remove}
use Rattle.plant_laws.proofs.Runs.Rows.{In, NumbersRise-filter, rises_above}
use Rattle.plant_laws.proofs.Runs.TablesKept.{NumbersRise-with_item}
use Rattle.plant_laws.specs.Lasting.{IsInOrder, held_at, HasGiven, LastsAs, RequestsLast}
use Rattle.plant_laws.specs.Onward.{still_as, requests_still, requests_on}

-- ---- the request of a number

module _ {T : Type 0} (ready : T → Bool) where
  abbrev at : List (ℕ × Held T) → ℕ → Option (Held T)
  at rows n = lookup (nat_eq n) rows

  abbrev Lasting : Option (Held T) → Option (Held T) → Type 0
  Lasting o p = LastsAs ready o p

  none_lasts : (o : Option (Held T)) (p : Option (Held T)) → p ≡ None → Lasting o p
  none_lasts o p is = subst (λ (x : Option (Held T)). Lasting o x) (sym is) tt

  -- no request stands below the numbers of the rows
  none_below : (n low high : ℕ) (rows : List (ℕ × Held T)) → NumbersRise low rows high → n ≤ low → at rows n ≡ None
  none_below n low high [] rises below = refl
  none_below n low high (h ∷ rows) rises below =
      rw (ne_eqb n h.0 (λ same. omega (arith, same, rises.0, below))) (none_below n h.0 high rows rises.1 (omega (arith, rises.0, below)))

  pub found_below : (n low high : ℕ) (rows : List (ℕ × Held T)) (i : Held T) → NumbersRise low rows high → at rows n ≡ Some i → n ≤ high
  found_below n low high [] i rises found = absurd (let no : None ≡ Some i = found in cc)
  found_below n low high (h ∷ rows) i rises found =
      elim (cases_Bool (nat_eq n h.0)) [
        | inl hit ↦ omega (arith, eqb-true n h.0 hit, NumbersRise-last h.0 high rows rises.1)
        | inr miss ↦ found_below n h.0 high rows i rises.1 (rw miss at found)
      ]

  closed_lasts : (n m low high : ℕ) (rows : List (ℕ × Held T)) → NumbersRise low rows high → Lasting (at rows n) (at (remove_entry (nat_eq m) rows) n)
  closed_lasts n m low high [] rises = tt
  closed_lasts n m low high (h ∷ rows) rises =
      elim (cases_Bool (nat_eq m h.0)) [
        | inl hit ↦
            rw hit (elim (cases_Bool (nat_eq n h.0)) [
              | inl own ↦ none_lasts (at (h ∷ rows) n) (at rows n) (none_below n h.0 high rows rises.1 (omega (arith, eqb-true n h.0 own)))
              | inr other ↦ rw other (still_as ready (at rows n))
            ])
        | inr miss ↦
            rw miss (elim (cases_Bool (nat_eq n h.0)) [
              | inl own ↦ rw own (λ is. refl)
              | inr other ↦ rw other (closed_lasts n m h.0 high rows rises.1)
            ])
      ]

  -- a row that cannot be solved yet is the first of its number
  waits_first : (h x : ℕ × Held T) (high : ℕ) (xs : List (ℕ × Held T)) → NumbersRise x.0 xs high → In h (x ∷ xs) → nat_eq h.0 x.0 ≡ true → ready h.1.item ≡ false → ready x.1.item ≡ false
  waits_first h x high xs rises (inl same) hit waits = subst (λ (z : ℕ × Held T). ready z.1.item ≡ false) (sym same) waits
  waits_first h x high xs rises (inr is) hit waits = absurd (let more = rises_above x.0 high xs h rises is in omega (arith, more, eqb-true h.0 x.0 hit))

  in_rest : (h x : ℕ × Held T) (xs : List (ℕ × Held T)) → In h (x ∷ xs) → nat_eq h.0 x.0 ≡ false → In h xs
  in_rest h x xs (inl same) miss = absurd (let hit : nat_eq h.0 x.0 ≡ true = eq-eqb h.0 x.0 (ap (λ (z : ℕ × Held T). z.0) (sym same)) in never (nat_eq h.0 x.0) miss hit)
    where
      never : (b : Bool) → b ≡ false → b ≡ true → ⊥
      never b is other = cc
  in_rest h x xs (inr is) miss = is

  written_lasts : (n : ℕ) (h : ℕ × Held T) (i : T) (low high : ℕ) (rows : List (ℕ × Held T)) → NumbersRise low rows high → In h rows → ready h.1.item ≡ false → Lasting (at rows n) (at (with_item h.0 i rows) n)
  written_lasts n h i low high [] rises is waits = tt
  written_lasts n h i low high (x ∷ rows) rises is waits =
      elim (cases_Bool (nat_eq h.0 x.0)) [
        | inl hit ↦
            rw hit (elim (cases_Bool (nat_eq n x.0)) [
              | inl own ↦ rw own (λ can. absurd (never (ready x.1.item) (waits_first h x high rows rises.1 is hit waits) can))
              | inr other ↦ rw other (still_as ready (at rows n))
            ])
        | inr miss ↦
            rw miss (elim (cases_Bool (nat_eq n x.0)) [
              | inl own ↦ rw own (λ can. refl)
              | inr other ↦ rw other (written_lasts n h i x.0 high rows rises.1 (in_rest h x rows is miss) waits)
            ])
      ]
    where
      never : (b : Bool) → b ≡ false → b ≡ true → ⊥
      never b is' other = cc

  none_kept : (test : ℕ × Held T → Bool) (n low high : ℕ) (rows : List (ℕ × Held T)) → NumbersRise low rows high → n ≤ low → at (filter test rows) n ≡ None
  none_kept test n low high [] rises below = refl
  none_kept test n low high (h ∷ rows) rises below = go (test h) (none_kept test n h.0 high rows rises.1 (omega (arith, rises.0, below)))
    where
      go : (b : Bool) → at (filter test rows) n ≡ None → at (cond b (h ∷ filter test rows) (filter test rows)) n ≡ None
      go true rest = rw (ne_eqb n h.0 (λ same. omega (arith, same, rises.0, below))) rest
      go false rest = rest

  kept_lasts : (test : ℕ × Held T → Bool) (n low high : ℕ) (rows : List (ℕ × Held T)) → NumbersRise low rows high → Lasting (at rows n) (at (filter test rows) n)
  kept_lasts test n low high [] rises = tt
  kept_lasts test n low high (h ∷ rows) rises = go (test h) (kept_lasts test n h.0 high rows rises.1)
    where
      go : (b : Bool) → Lasting (at rows n) (at (filter test rows) n) → Lasting (at (h ∷ rows) n) (at (cond b (h ∷ filter test rows) (filter test rows)) n)
      go true rest = elim (cases_Bool (nat_eq n h.0)) [
        | inl own ↦ rw own (λ is. refl)
        | inr other ↦ rw other rest
      ]
      go false rest = elim (cases_Bool (nat_eq n h.0)) [
        | inl own ↦ none_lasts (at (h ∷ rows) n) (at (filter test rows) n) (none_kept test n h.0 high rows rises.1 (omega (arith, eqb-true n h.0 own)))
        | inr other ↦ rw other rest
      ]

  opened_lasts : (n : ℕ) (rows : List (ℕ × Held T)) (m : ℕ) (held : Held T) → n ≢ m → Lasting (at rows n) (at (rows ++ (m, held) ∷ []) n)
  opened_lasts n [] m held differ = rw (ne_eqb n m differ) tt
  opened_lasts n (h ∷ rows) m held differ = elim (cases_Bool (nat_eq n h.0)) [
    | inl own ↦ rw own (λ is. refl)
    | inr other ↦ rw other (opened_lasts n rows m held differ)
  ]

  -- ---- all requests of a table

  -- a table in order is again one, in which all requests last
  pub record Keeps (old new : Pending T) : Type 0 where
    pub order : IsInOrder new
    pub last : RequestsLast ready old new

  abbrev pub Becomes : Pending T → Pending T → Type 0
  Becomes old new = IsInOrder old → Keeps old new

  pub still : (p : Pending T) → Becomes p p
  still p order = record { order = order; last = requests_still ready p }

  pub and_then : (a b c : Pending T) → Becomes a b → Becomes b c → Becomes a c
  and_then a b c first second order =
      let one = first order in
      let two = second one.order in
      record { order = two.order; last = requests_on ready a b c one.last two.last }

  pub closed : (n : ℕ) (p : Pending T) → Becomes p (closed_of p n)
  closed n p order = record {
    order = NumbersRise-remove (nat_eq n) 0 p.given p.rows order;
    last = λ m below. (below, closed_lasts m n 0 p.given p.rows order);
  }

  pub opened : (peer : Peer) (id : ℕ) (i : T) (p : Pending T) → Becomes p (opened_of p peer id i)
  opened peer id i p order = record {
    order = NumbersRise-append 0 p.given (p.given + 1) p.rows (record { key = key_of peer id; item = i }) order (omega arith);
    last = λ n below. (omega (arith, below), opened_lasts n p.rows (p.given + 1) (record { key = key_of peer id; item = i }) (λ same. omega (arith, below, same)));
  }

  pub filtered : (test : ℕ × Held T → Bool) (p : Pending T) → Becomes p (record p { rows = filter test p.rows })
  filtered test p order = record {
    order = NumbersRise-filter test 0 p.given p.rows order;
    last = λ n below. (below, kept_lasts test n 0 p.given p.rows order);
  }

  pub written : (h : ℕ × Held T) (i : T) (p : Pending T) → In h p.rows → ready h.1.item ≡ false → Becomes p (written_of p h.0 i)
  written h i p is waits order = record {
    order = NumbersRise-with_item h.0 i 0 p.given p.rows order;
    last = λ n below. (below, written_lasts n h i 0 p.given p.rows order is waits);
  }

  pub has_given : (p : Pending T) → IsInOrder p → HasGiven p
  has_given p order = λ n h found. found_below n 0 p.given p.rows h order found

  -- a request that can be solved, found under its number again
  pub same_request : (k : ℕ) (old new : Pending T) (before after : Held T) → HasGiven old → RequestsLast ready old new → held_at k old ≡ Some before → ready before.item ≡ true → held_at k new ≡ Some after → after ≡ before
  same_request k old new before after given last found can now =
      go (subst (λ (o : Option (Held T)). Lasting o (Some after)) found (subst (λ (o : Option (Held T)). Lasting (held_at k old) o) now (last k (given k before found)).1)) can
    where
      go : Lasting (Some before) (Some after) → ready before.item ≡ true → after ≡ before
      go f is = f is
