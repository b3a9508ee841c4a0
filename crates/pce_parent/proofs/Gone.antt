-- Requests that end one after the other, by their numbers.
use Rattle.std.proofs.Common.{◌≡◌, ◌<◌, ◌+◌, ◌==◌, ℕ, Bool, true, false, not, cond, Option, Some, List, [], ◌∷◌, ◌++◌, nat_eq, suc, take, drop, arith, refl, sym, ◌∙◌, ap, inl, inr}
use Rattle.std.specs.Prelude.{slice_get, filter}
use Rattle.std.specs.Map.{remove_entry}
use Rattle.std.specs.Option.{option_map}
use Rattle.std.proofs.lemmas.Bool.{cases_Bool, eqb-true, eq-eqb, ne_eqb}
use Rattle.pce_common.specs.plant_model.Types.{Peer}
use Rattle.request_table.specs.Pending.{Pending, ArePending, NumbersRise, closed_of, number_of, number_among, key_of, same_key}
use Rattle.pce_common.specs.plant_model.Parent.{Asking, AskingRow, among, waiting}
use Rattle.pce_parent.specs.declared.sought.Sought.TheVariants.{Asked, Awaited}
use Rattle.pce_parent.specs.declared.sought.Sought.{Sought}
use Rattle.pce_common.specs.plant_model.Plant.{has_number}
use Rattle.pce_parent.specs.Soughts.{is_sought, first_sought, without_these}
use Rattle.pce_parent.specs.Changes.{all_closed}
use Rattle.pce_parent.specs.Pendings.{with_rows}
use Rattle.pce_common.proofs.HeldPlaces.{taken_at}
use Rattle.pce_common.proofs.Scans.{dropped_next}

-- ---- what is sought

pub waiting_is : (p : Peer) (y : ℕ) (rows : List AskingRow) → waiting p y rows ≡ first_sought (Awaited p y) rows
waiting_is p y [] = refl
waiting_is p y (h ∷ hs) = ap (λ (o : Option AskingRow). cond (among p h.1.item.waits y) (Some h) o) (waiting_is p y hs)

pub asked_is : (p : Peer) (x : ℕ) (rows : List AskingRow) → number_among (key_of p x) rows ≡ option_map (λ (h : AskingRow). h.0) (first_sought (Asked p x) rows)
asked_is p x [] = refl
asked_is p x (h ∷ hs) = elim (cases_Bool (same_key (key_of p x) h.1.key)) [
  | inl yes' ↦ rw yes' refl
  | inr no' ↦ rw no' (asked_is p x hs)
]

-- ---- those that have not ended

all_there : (rows : List AskingRow) → without_these [] rows ≡ rows
all_there [] = refl
all_there (h ∷ hs) = ap (λ (rs : List AskingRow). h ∷ rs) (all_there hs)

filtered_rise : (f : AskingRow → Bool) (low high : ℕ) (rows : List AskingRow) → NumbersRise low rows high → NumbersRise low (filter f rows) high
filtered_rise f low high [] rises = rises
filtered_rise f low high (h ∷ hs) rises = elim (cases_Bool (f h)) [
  | inl yes' ↦ rw yes' (rises.0, filtered_rise f h.0 high hs rises.1)
  | inr no' ↦ rw no' (filtered_rise f low high hs (lowered low h.0 high hs (omega (arith, rises.0)) rises.1))
]
  where
    lowered : (a b c : ℕ) (rs : List AskingRow) → a < b + 1 → NumbersRise b rs c → NumbersRise a rs c
    lowered a b c [] less rs' = omega (arith, less, rs')
    lowered a b c (r ∷ rs) less rs' = (omega (arith, less, rs'.0), rs'.1)

above_stay : (n low high : ℕ) (rows : List AskingRow) → n < low + 1 → NumbersRise low rows high → filter (λ h. not (n == h.0)) rows ≡ rows
above_stay n low high [] less rises = refl
above_stay n low high (h ∷ hs) less rises =
    rw (ne_eqb n h.0 (λ same. omega (arith, same, less, rises.0)))
    (ap (λ (rs : List AskingRow). h ∷ rs) (above_stay n h.0 high hs (omega (arith, less, rises.0)) rises.1))

one_removed : (n low high : ℕ) (rows : List AskingRow) → NumbersRise low rows high → remove_entry (nat_eq n) rows ≡ filter (λ h. not (n == h.0)) rows
one_removed n low high [] rises = refl
one_removed n low high (h ∷ hs) rises = elim (cases_Bool (nat_eq n h.0)) [
  | inl yes' ↦ rw yes' (sym (above_stay n h.0 high hs (let e : n ≡ h.0 = eqb-true n h.0 yes' in omega (arith, e)) rises.1))
  | inr no' ↦ rw no' (ap (λ (rs : List AskingRow). h ∷ rs) (one_removed n h.0 high hs rises.1))
]

twice : (ns : List ℕ) (n : ℕ) (rows : List AskingRow) → without_these ns (filter (λ h. not (n == h.0)) rows) ≡ without_these (n ∷ ns) rows
twice ns n [] = refl
twice ns n (h ∷ hs) = elim (cases_Bool (n == h.0)) [
  | inl yes' ↦ rw (yes', eq-eqb h.0 n (sym (eqb-true n h.0 yes'))) (twice ns n hs)
  | inr no' ↦ rw (no', ne_eqb h.0 n (λ same. let bad : true ≡ false = sym (eq-eqb n h.0 (sym same)) ∙ no' in cc)) (elim (cases_Bool (has_number h.0 ns)) [
    | inl gone ↦ rw gone (twice ns n hs)
    | inr stays ↦ rw stays (ap (λ (rs : List AskingRow). h ∷ rs) (twice ns n hs))
  ])
]

closed_rows : (ns : List ℕ) (pending : Pending Asking) → NumbersRise 0 pending.rows pending.given → all_closed ns pending ≡ with_rows (without_these ns pending.rows) pending
closed_rows [] pending rises = ap (λ (rs : List AskingRow). with_rows rs pending) (sym (all_there pending.rows))
closed_rows (n ∷ ns) pending rises =
    let once : closed_of pending n ≡ with_rows (filter (λ h. not (n == h.0)) pending.rows) pending = ap (λ (rs : List AskingRow). with_rows rs pending) (one_removed n 0 pending.given pending.rows rises) in
    ap (all_closed ns) once
    ∙ closed_rows ns (with_rows (filter (λ h. not (n == h.0)) pending.rows) pending) (filtered_rise (λ h. not (n == h.0)) 0 pending.given pending.rows rises)
    ∙ ap (λ (rs : List AskingRow). with_rows rs pending) (twice ns n pending.rows)

-- ---- what is found

pub waiting_left : (p : Peer) (y : ℕ) (ns : List ℕ) (pending : Pending Asking) → ArePending pending → waiting p y (all_closed ns pending).rows ≡ first_sought (Awaited p y) (without_these ns pending.rows)
waiting_left p y ns pending are = waiting_is p y (all_closed ns pending).rows ∙ ap (λ (q : Pending Asking). first_sought (Awaited p y) q.rows) (closed_rows ns pending are.numbers)

pub asked_left : (p : Peer) (x : ℕ) (ns : List ℕ) (pending : Pending Asking) → ArePending pending →
    number_of (all_closed ns pending) p x ≡ option_map (λ (h : AskingRow). h.0) (first_sought (Asked p x) (without_these ns pending.rows))
asked_left p x ns pending are =
    asked_is p x (all_closed ns pending).rows ∙ ap (λ (q : Pending Asking). option_map (λ (h : AskingRow). h.0) (first_sought (Asked p x) q.rows)) (closed_rows ns pending are.numbers)

pub waiting_first : (p : Peer) (y : ℕ) (pending : Pending Asking) → waiting p y pending.rows ≡ first_sought (Awaited p y) (without_these [] pending.rows)
waiting_first p y pending = waiting_is p y pending.rows ∙ ap (first_sought (Awaited p y)) (sym (all_there pending.rows))

-- ---- gone through place by place

pub sought_here : (s : Sought) (ns : List ℕ) (k : ℕ) (rows : List AskingRow) (h : AskingRow) → slice_get rows k ≡ Some h → has_number h.0 ns ≡ false → is_sought s h ≡ true →
    first_sought s (without_these ns (drop k rows)) ≡ Some h
sought_here s ns k rows h at_k stays is =
    ap (λ (rs : List AskingRow). first_sought s (without_these ns rs)) (dropped_next rows k h at_k) ∙ rw (stays, is) refl

pub sought_gone : (s : Sought) (ns : List ℕ) (k : ℕ) (rows : List AskingRow) (h : AskingRow) → slice_get rows k ≡ Some h → has_number h.0 ns ≡ true →
    first_sought s (without_these ns (drop k rows)) ≡ first_sought s (without_these ns (drop (k + 1) rows))
sought_gone s ns k rows h at_k gone =
    ap (λ (rs : List AskingRow). first_sought s (without_these ns rs)) (dropped_next rows k h at_k) ∙ rw gone refl

pub sought_other : (s : Sought) (ns : List ℕ) (k : ℕ) (rows : List AskingRow) (h : AskingRow) → slice_get rows k ≡ Some h → is_sought s h ≡ false →
    first_sought s (without_these ns (drop k rows)) ≡ first_sought s (without_these ns (drop (k + 1) rows))
sought_other s ns k rows h at_k other =
    elim (cases_Bool (has_number h.0 ns)) [
      | inl gone ↦ sought_gone s ns k rows h at_k gone
      | inr stays ↦ ap (λ (rs : List AskingRow). first_sought s (without_these ns rs)) (dropped_next rows k h at_k) ∙ rw (stays, other) refl
    ]

-- ---- one more number

pub closed_more : (ns : List ℕ) (n : ℕ) (pending : Pending Asking) → all_closed (ns ++ n ∷ []) pending ≡ closed_of (all_closed ns pending) n
closed_more [] n pending = refl
closed_more (m ∷ ns) n pending = closed_more ns n (closed_of pending m)

pub closed_keeps : (ns : List ℕ) (pending : Pending Asking) → ((all_closed ns pending).limit ≡ pending.limit) × ((all_closed ns pending).given ≡ pending.given)
closed_keeps [] pending = (refl, refl)
closed_keeps (n ∷ ns) pending = closed_keeps ns (closed_of pending n)

pub closed_next : (ns : List ℕ) (i n : ℕ) (pending before after : Pending Asking) → slice_get ns i ≡ Some n → before ≡ all_closed (take i ns) pending → after ≡ closed_of before n → after ≡ all_closed (take (i + 1) ns) pending
closed_next ns i n pending before after at_i was is =
    is ∙ ap (λ (q : Pending Asking). closed_of q n) was ∙ sym (closed_more (take i ns) n pending)
    ∙ ap (λ (ms : List ℕ). all_closed ms pending) (sym (taken_at ns i n at_i) ∙ ap (λ (j : ℕ). take j ns) (let e : suc i ≡ i + 1 = omega arith in e))
