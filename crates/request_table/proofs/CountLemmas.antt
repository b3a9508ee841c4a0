-- How many requests a peer has, as requests are opened, closed and written.
use Rattle.std.proofs.Common.{◌≡◌, ◌≤◌, ◌<◌, ◌+◌, ◌-◌, ◌∙◌, ◌∷◌, ◌++◌, [], ℕ, List, Option, Some, None, Bool, true, false, cond, length, nat_eq, arith, inl, inr, refl, sym, ap, subst}
use Rattle.std.specs.Prelude.{unwrap_or}
use Rattle.std.specs.Map.{lookup, remove_entry}
use Rattle.std.proofs.lemmas.Bool.{cases_Bool}
use Rattle.dom_base.specs.declared.names.Peer.{Peer}
use Rattle.dom_base.specs.declared.names.Peer.TheVariants.{Outside, Inner}
use Rattle.dom_base.specs.contracts.names.PeerPartialEq.TheImpl as derived
use Rattle.request_table.specs.declared.held.Held.{Held}
use Rattle.request_table.specs.Pending.{NumbersRise, asked_by, same_peer}
use Rattle.request_table.specs.Counts.{count_in}
use Rattle.request_table.specs.Lends.{with_item}
use Rattle.request_table.specs.Rows.{AreBelow}
use Rattle.request_table.proofs.KeyLemmas.{same_peer_is, same_peer_self}
use Rattle.request_table.proofs.PendingLemmas.{NumbersRise-last}

-- ---- the rows of a peer

abbrev one_of : Peer → Peer → ℕ
one_of own p = cond (same_peer own p) 1 0

one_more : (own p : Peer) (n : ℕ) → same_peer own p ≡ true → n + 1 ≡ n + one_of own p
one_more own p n hit = rw hit refl

none_more : (own p : Peer) (n : ℕ) → same_peer own p ≡ false → n ≡ n + one_of own p
none_more own p n miss = rw miss (omega arith)

module _ {T : Type 0} where
  count_row : (p : Peer) (row : ℕ × Held T) (rows : List (ℕ × Held T)) → asked_by p (row ∷ rows) ≡ asked_by p rows + one_of row.1.key.peer p
  count_row p row rows =
      elim (cases_Bool (same_peer row.1.key.peer p)) [
        | inl hit ↦ rw hit (omega arith)
        | inr miss ↦ rw miss (omega arith)
      ]

  pub opened_count : (p : Peer) (number : ℕ) (rows : List (ℕ × Held T)) (held : Held T) → asked_by p (rows ++ (number, held) ∷ []) ≡ asked_by p rows + one_of held.key.peer p
  opened_count p number [] held = count_row p (number, held) []
  opened_count p number (row ∷ rows) held =
      omega (arith, count_row p row (rows ++ (number, held) ∷ []), count_row p row rows, opened_count p number rows held)

  pub closed_count : (p : Peer) (number : ℕ) (rows : List (ℕ × Held T)) (held : Held T) → lookup (nat_eq number) rows ≡ Some held →
      asked_by p rows ≡ asked_by p (remove_entry (nat_eq number) rows) + one_of held.key.peer p
  closed_count p number [] held found = absurd (let none : None ≡ Some held = found in cc)
  closed_count p number (row ∷ rows) held found =
      elim (cases_Bool (nat_eq number row.0)) [
        | inl hit ↦
            let same : Some row.1 ≡ Some held = rw hit at found in
            let is : row.1 ≡ held = cc in
            rw hit (count_row p row rows ∙ ap (λ (h : Held T). asked_by p rows + one_of h.key.peer p) is)
        | inr miss ↦
            let rest = closed_count p number rows held (rw miss at found) in
            rw miss (omega (arith, count_row p row rows, count_row p row (remove_entry (nat_eq number) rows), rest))
      ]

  pub written_count : (p : Peer) (number : ℕ) (item : T) (rows : List (ℕ × Held T)) → asked_by p (with_item number item rows) ≡ asked_by p rows
  written_count p number item [] = refl
  written_count p number item (row ∷ rows) =
      elim (cases_Bool (nat_eq number row.0)) [
        | inl hit ↦ rw hit (count_row p (row.0, record row.1 { item = item }) rows ∙ sym (count_row p row rows))
        | inr miss ↦ rw miss (omega (arith, count_row p row (with_item number item rows), count_row p row rows, written_count p number item rows))
      ]

  pub count_few : (p : Peer) (rows : List (ℕ × Held T)) → asked_by p rows ≤ length rows
  count_few p [] = omega arith
  count_few p (row ∷ rows) =
      elim (cases_Bool (same_peer row.1.key.peer p)) [
        | inl hit ↦ rw hit (omega (arith, count_few p rows))
        | inr miss ↦ rw miss (omega (arith, count_few p rows))
      ]

  pub some_asked : (number : ℕ) (rows : List (ℕ × Held T)) (held : Held T) → lookup (nat_eq number) rows ≡ Some held → 1 ≤ asked_by held.key.peer rows
  some_asked number rows held found =
      omega (arith, closed_count held.key.peer number rows held found, one_more held.key.peer held.key.peer 0 (same_peer_self held.key.peer))

  -- the numbers are all below the next one
  pub all_below : (low high number : ℕ) (rows : List (ℕ × Held T)) → NumbersRise low rows high → high < number → AreBelow number rows
  all_below low high number [] rises above = tt
  all_below low high number (row ∷ rows) rises above = (omega (arith, NumbersRise-last row.0 high rows rises.1), all_below row.0 high number rows rises.1 above)

  -- nothing is taken out where nothing is found
  pub none_removed : (number : ℕ) (rows : List (ℕ × Held T)) → lookup (nat_eq number) rows ≡ None → remove_entry (nat_eq number) rows ≡ rows
  none_removed number [] none = refl
  none_removed number (row ∷ rows) none =
      elim (cases_Bool (nat_eq number row.0)) [
        | inl hit ↦ absurd (let some : Some row.1 ≡ None = rw hit at none in cc)
        | inr miss ↦ rw miss (ap (λ rest. row ∷ rest) (none_removed number rows (rw miss at none)))
      ]

-- ---- the counts

derived_at : (a b : Peer) → derived.eq-value.it a b ≡ same_peer a b
derived_at (Outside a) (Outside b) = refl
derived_at (Inner a) (Inner b) = refl
derived_at (Outside a) (Inner b) = refl
derived_at (Inner a) (Outside b) = refl

-- the derived comparison of peers is this one
pub derived_peer : derived.eq-value.it ≡ same_peer
derived_peer = λ i. λ a b. derived_at a b i

-- an entry that the map has by the comparison of its keys
abbrev pub UpdatesPeer : (Peer → Peer → Bool) → Peer → Option ℕ → List (Peer × ℕ) → List (Peer × ℕ) → Type 0
UpdatesPeer same peer value before after = (other : Peer) → lookup (same other) after ≡ cond (same peer other) value (lookup (same other) before)

count_after : (peer p : Peer) (count : ℕ) (before after : List (Peer × ℕ)) → UpdatesPeer derived.eq-value.it peer (Some count) before after →
    count_in after p ≡ cond (same_peer peer p) count (count_in before p)
count_after peer p count before after updates =
    let there : lookup (same_peer p) after ≡ cond (same_peer peer p) (Some count) (lookup (same_peer p) before) = subst (λ same. UpdatesPeer same peer (Some count) before after) derived_peer updates p in
    elim (cases_Bool (same_peer peer p)) [
      | inl hit ↦ rw hit (ap (λ (o : Option ℕ). unwrap_or o 0) (rw hit at there))
      | inr miss ↦ rw miss (ap (λ (o : Option ℕ). unwrap_or o 0) (rw miss at there))
    ]

pub added_count : (peer p : Peer) (count : ℕ) (before after : List (Peer × ℕ)) → count ≡ count_in before peer → UpdatesPeer derived.eq-value.it peer (Some (count + 1)) before after →
    count_in after p ≡ count_in before p + one_of peer p
added_count peer p count before after is updates =
    let now = count_after peer p (count + 1) before after updates in
    elim (cases_Bool (same_peer peer p)) [
      | inl hit ↦
          let same = ap (λ (q : Peer). count_in before q) (same_peer_is peer p hit) in
          let added : count_in after p ≡ count + 1 = rw hit at now in
          omega (arith, added, is, same, one_more peer p (count_in before p) hit)
      | inr miss ↦ (let kept : count_in after p ≡ count_in before p = rw miss at now in kept ∙ none_more peer p (count_in before p) miss)
    ]

pub count_of_some : (peer : Peer) (count : ℕ) (counts : List (Peer × ℕ)) → Some count ≡ lookup (derived.eq-value.it peer) counts → count_in counts peer ≡ count
count_of_some peer count counts is = ap (λ (o : Option ℕ). unwrap_or o 0) (sym (subst (λ (same : Peer → Peer → Bool). Some count ≡ lookup (same peer) counts) derived_peer is))

pub count_of_none : (peer : Peer) (counts : List (Peer × ℕ)) → None ≡ lookup (derived.eq-value.it peer) counts → count_in counts peer ≡ 0
count_of_none peer counts is = ap (λ (o : Option ℕ). unwrap_or o 0) (sym (subst (λ (same : Peer → Peer → Bool). ◌≡◌ {A = Option ℕ} None (lookup (same peer) counts)) derived_peer is))

pub taken_count : (peer p : Peer) (count : ℕ) (before after : List (Peer × ℕ)) → count_in before peer ≡ count → 1 ≤ count → UpdatesPeer derived.eq-value.it peer (Some (count - 1)) before after →
    count_in before p ≡ count_in after p + one_of peer p
taken_count peer p count before after is some updates =
    let now = count_after peer p (count - 1) before after updates in
    elim (cases_Bool (same_peer peer p)) [
      | inl hit ↦
          let same = ap (λ (q : Peer). count_in before q) (same_peer_is peer p hit) in
          let taken : count_in after p ≡ count - 1 = rw hit at now in
          omega (arith, taken, is, some, same, one_more peer p (count_in after p) hit)
      | inr miss ↦ (let kept : count_in after p ≡ count_in before p = rw miss at now in sym kept ∙ none_more peer p (count_in after p) miss)
    ]
