-- Requests that are looked for among those that have not ended.
use Rattle.std.proofs.Common.{◌≡◌, ◌∙◌, ◌<◌, ◌+◌, ℕ, Bool, true, false, not, cond, Option, Some, None, List, [], ◌∷◌, nat_eq, drop, length, arith, inl, inr, refl, sym, ap}
use Rattle.std.specs.Prelude.{filter, slice_get}
use Rattle.std.specs.Map.{remove_entry}
use Rattle.std.proofs.lemmas.Bool.{cases_Bool, eqb-true, eq-eqb, ne_eqb}
use Rattle.pce_common.specs.plant_model.Types.{Peer, RequestKey}
use Rattle.request_table.specs.Pending.{Pending, NumbersRise, AreNamedOnce, ArePending, same_key, key_of, number_among, number_of, closed_of}
use Rattle.request_table.proofs.KeyLemmas.{same_key_is}
use Rattle.request_table.proofs.PendingLemmas.{NumbersRise-remove}
use Rattle.pce_common.specs.plant_model.Element.{Item, Row, after_id, is_waiting, pass_over, waiting, waits_for}
use Rattle.pce_common.specs.plant_model.Plant.{has_number}
use Rattle.pce_element.specs.Changes.{all_closed}
use Rattle.pce_common.proofs.Scans.{dropped_next, there_is}

-- those that have not ended
abbrev pub left_of : {P : Type 0} → List ℕ → List (Row P) → List (Row P)
left_of {P} ended rows = filter (λ (h : Row P). not (has_number h.0 ended)) rows

-- ---- what is left when requests have ended

none_ended : {P : Type 0} → (rows : List (Row P)) → left_of [] rows ≡ rows
none_ended [] = refl
none_ended {P} (h ∷ rows) = ap (λ (rest : List (Row P)). h ∷ rest) (none_ended rows)

-- a number below all that are left ends none of them
below_all : {P : Type 0} → (n : ℕ) (ns : List ℕ) (low high : ℕ) (rows : List (Row P)) → NumbersRise low rows high → n ≡ low → left_of ns rows ≡ left_of (n ∷ ns) rows
below_all n ns low high [] rises is = refl
below_all {P} n ns low high (h ∷ rows) rises is =
    let differs : nat_eq h.0 n ≡ false = ne_eqb h.0 n (λ same. omega (arith, same, is, rises.0)) in
    let rest : left_of ns rows ≡ left_of (n ∷ ns) rows = above n ns h.0 high rows rises.1 (omega (arith, is, rises.0)) in
    rw differs (ap (λ (left : List (Row P)). cond (not (has_number h.0 ns)) (h ∷ left) left) rest)
  where
    above : (n : ℕ) (ns : List ℕ) (low high : ℕ) (rows : List (Row P)) → NumbersRise low rows high → n < low → left_of ns rows ≡ left_of (n ∷ ns) rows
    above n ns low high [] rises is = refl
    above n ns low high (h ∷ rows) rises is =
        let differs : nat_eq h.0 n ≡ false = ne_eqb h.0 n (λ same. omega (arith, same, is, rises.0)) in
        rw differs (ap (λ (left : List (Row P)). cond (not (has_number h.0 ns)) (h ∷ left) left) (above n ns h.0 high rows rises.1 (omega (arith, is, rises.0))))

one_ended : {P : Type 0} → (n : ℕ) (ns : List ℕ) (low high : ℕ) (rows : List (Row P)) → NumbersRise low rows high → left_of ns (remove_entry (nat_eq n) rows) ≡ left_of (n ∷ ns) rows
one_ended n ns low high [] rises = refl
one_ended {P} n ns low high (h ∷ rows) rises =
    elim (cases_Bool (nat_eq n h.0)) [
      | inl hit ↦
          let is : n ≡ h.0 = eqb-true n h.0 hit in
          rw (hit, eq-eqb h.0 n (sym is)) (below_all n ns h.0 high rows rises.1 is)
      | inr miss ↦
          let differs : nat_eq h.0 n ≡ false = ne_eqb h.0 n (λ same. differ miss (eq-eqb n h.0 (sym same))) in
          rw (miss, differs) (ap (λ (left : List (Row P)). cond (not (has_number h.0 ns)) (h ∷ left) left) (one_ended n ns h.0 high rows rises.1))
    ]
  where
    differ : {b : Bool} → b ≡ false → b ≡ true → ⊥
    differ miss' hit' = cc

pub closed_rows : {P : Type 0} → (ns : List ℕ) (p : Pending (Item P)) → NumbersRise 0 p.rows p.given → (all_closed ns p).rows ≡ left_of ns p.rows
closed_rows [] p rises = sym (none_ended p.rows)
closed_rows (n ∷ ns) p rises =
    closed_rows ns (closed_of p n) (NumbersRise-remove (nat_eq n) 0 p.given p.rows rises) ∙ one_ended n ns 0 p.given p.rows rises

-- ---- one that waits

pub waits_here : {P : Type 0} → (p : Peer) (y : ℕ) (ended : List ℕ) (rows : List (Row P)) (k : ℕ) (h : Row P) → slice_get rows k ≡ Some h → waits_for p y h.1.item.stage ≡ true → has_number h.0 ended ≡ false →
    waiting p y (left_of ended (drop k rows)) ≡ Some h
waits_here {P} p y ended rows k h at waits not_ended =
    ap (λ (rs : List (Row P)). waiting p y (left_of ended rs)) (dropped_next rows k h at)
    ∙ ap (λ (b : Bool). waiting p y (cond (not b) (h ∷ left_of ended (drop (k + 1) rows)) (left_of ended (drop (k + 1) rows)))) not_ended
    ∙ ap (λ (b : Bool). cond b (Some h) (waiting p y (left_of ended (drop (k + 1) rows)))) waits

pub waits_not : {P : Type 0} → (p : Peer) (y : ℕ) (ended : List ℕ) (rows : List (Row P)) (k : ℕ) (h : Row P) → slice_get rows k ≡ Some h → waits_for p y h.1.item.stage ≡ false →
    waiting p y (left_of ended (drop k rows)) ≡ waiting p y (left_of ended (drop (k + 1) rows))
waits_not {P} p y ended rows k h at waits =
    ap (λ (rs : List (Row P)). waiting p y (left_of ended rs)) (dropped_next rows k h at) ∙ go (has_number h.0 ended)
  where
    rest : List (Row P)
    rest = left_of ended (drop (k + 1) rows)

    go : (b : Bool) → waiting p y (cond (not b) (h ∷ rest) rest) ≡ waiting p y rest
    go true = refl
    go false = ap (λ (b : Bool). cond b (Some h) (waiting p y rest)) waits

pub has_ended : {P : Type 0} → (p : Peer) (y : ℕ) (ended : List ℕ) (rows : List (Row P)) (k : ℕ) (h : Row P) → slice_get rows k ≡ Some h → has_number h.0 ended ≡ true →
    waiting p y (left_of ended (drop k rows)) ≡ waiting p y (left_of ended (drop (k + 1) rows))
has_ended {P} p y ended rows k h at gone =
    ap (λ (rs : List (Row P)). waiting p y (left_of ended rs)) (dropped_next rows k h at)
    ∙ ap (λ (b : Bool). waiting p y (cond (not b) (h ∷ left_of ended (drop (k + 1) rows)) (left_of ended (drop (k + 1) rows)))) gone

-- ---- one that was asked

abbrev pub still : List ℕ → Option ℕ → Option ℕ
still ended None = None
still ended (Some n) = cond (has_number n ended) None (Some n)

left_named : {P : Type 0} → (ended : List ℕ) (key : RequestKey) (rows : List (Row P)) → AreNamedOnce rows → number_among key (left_of ended rows) ≡ still ended (number_among key rows)
left_named ended key [] once = refl
left_named {P} ended key (h ∷ rows) once =
    let more : number_among key (left_of ended rows) ≡ still ended (number_among key rows) = left_named ended key rows once.1 in
    go (has_number h.0 ended) refl (same_key key h.1.key) refl more
  where
    rest : List (Row P)
    rest = left_of ended rows

    go : (b : Bool) → has_number h.0 ended ≡ b → (s : Bool) → same_key key h.1.key ≡ s → number_among key rest ≡ still ended (number_among key rows) →
        number_among key (cond (not b) (h ∷ rest) rest) ≡ still ended (cond s (Some h.0) (number_among key rows))
    go true has true same more =
        let none : number_among key rows ≡ None = ap (λ (x : RequestKey). number_among x rows) (same_key_is key h.1.key same) ∙ once.0 in
        more ∙ ap (still ended) none ∙ sym (ap (λ (c : Bool). cond c None (Some h.0)) has)
    go true has false same more = more
    go false has true same more = ap (λ (c : Bool). cond c (Some h.0) (number_among key rest)) same ∙ sym (ap (λ (c : Bool). cond c None (Some h.0)) has)
    go false has false same more = ap (λ (c : Bool). cond c (Some h.0) (number_among key rest)) same ∙ more

pub asked_left : {P : Type 0} → (ended : List ℕ) (p : Pending (Item P)) (peer : Peer) (id : ℕ) → ArePending p → number_of (all_closed ended p) peer id ≡ still ended (number_of p peer id)
asked_left {P} ended p peer id are =
    ap (λ (rows : List (Row P)). number_among (key_of peer id) rows) (closed_rows ended p are.numbers) ∙ left_named ended (key_of peer id) p.rows are.names

pub nobody_asked : {P : Type 0} → (ended : List ℕ) (p : Pending (Item P)) (peer : Peer) (id : ℕ) → ArePending p → number_of p peer id ≡ None → number_of (all_closed ended p) peer id ≡ None
nobody_asked ended p peer id are none = asked_left ended p peer id are ∙ ap (still ended) none

pub asked_ended : {P : Type 0} → (ended : List ℕ) (p : Pending (Item P)) (peer : Peer) (id n : ℕ) → ArePending p → number_of p peer id ≡ Some n → has_number n ended ≡ true → number_of (all_closed ended p) peer id ≡ None
asked_ended ended p peer id n are asked gone = asked_left ended p peer id are ∙ ap (still ended) asked ∙ ap (λ (b : Bool). cond b None (Some n)) gone

pub asked_is_left : {P : Type 0} → (ended : List ℕ) (p : Pending (Item P)) (peer : Peer) (id n : ℕ) → ArePending p → number_of p peer id ≡ Some n → has_number n ended ≡ false → number_of (all_closed ended p) peer id ≡ Some n
asked_is_left ended p peer id n are asked there = asked_left ended p peer id are ∙ ap (still ended) asked ∙ ap (λ (b : Bool). cond b None (Some n)) there

-- ---- a fresh id

pub passed_over : {P : Type 0} → (rows : List (Row P)) (waits : ℕ → Bool) (k y : ℕ) → k < length rows → waits y ≡ true → pass_over (drop k rows) waits y ≡ pass_over (drop (k + 1) rows) waits (after_id y)
passed_over {P} rows waits k y within is =
    let there = there_is rows k within in
    ap (λ (rs : List (Row P)). pass_over rs waits y) (dropped_next rows k there.0 there.1) ∙ ap (λ (b : Bool). cond b (pass_over (drop (k + 1) rows) waits (after_id y)) y) is

pub not_passed : {P : Type 0} → (rows : List (Row P)) (waits : ℕ → Bool) (y : ℕ) → waits y ≡ false → pass_over rows waits y ≡ y
not_passed [] waits y is = refl
not_passed (h ∷ rows) waits y is = ap (λ (b : Bool). cond b (pass_over rows waits (after_id y)) y) is

pub is_waiting_here : {P : Type 0} → (p : Peer) (y : ℕ) (rows : List (Row P)) (k : ℕ) (h : Row P) → slice_get rows k ≡ Some h → waits_for p y h.1.item.stage ≡ true → is_waiting p (drop k rows) y ≡ true
is_waiting_here {P} p y rows k h at waits =
    ap (λ (rs : List (Row P)). is_waiting p rs y) (dropped_next rows k h at) ∙ ap (λ (b : Bool). cond b true (is_waiting p (drop (k + 1) rows) y)) waits

pub is_waiting_later : {P : Type 0} → (p : Peer) (y : ℕ) (rows : List (Row P)) (k : ℕ) (h : Row P) → slice_get rows k ≡ Some h → waits_for p y h.1.item.stage ≡ false → is_waiting p (drop k rows) y ≡ is_waiting p (drop (k + 1) rows) y
is_waiting_later {P} p y rows k h at waits =
    ap (λ (rs : List (Row P)). is_waiting p rs y) (dropped_next rows k h at) ∙ ap (λ (b : Bool). cond b true (is_waiting p (drop (k + 1) rows) y)) waits
