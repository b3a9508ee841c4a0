-- A request that leaves, or stays, when a session goes down.
use Rattle.std.proofs.Common.{◌≡◌, ◌∙◌, ◌<◌, ◌+◌, ℕ, suc, Bool, true, false, not, cond, Some, List, [], ◌∷◌, ◌++◌, take, drop, length, map, length-append, arith, refl, sym, ap}
use Rattle.std.specs.Prelude.{slice_get, filter}
use Rattle.std.proofs.lemmas.List.{append-nil, map-append}
use Rattle.std.proofs.lemmas.List.Elements.{filter-append}
use Rattle.std.proofs.Common.{append_assoc}
use Rattle.pce_common.specs.plant_model.Types.{Peer}
use Rattle.request_table.specs.Pending.{ArePending, same_peer, closed_of}
use Rattle.pce_common.specs.plant_model.declared.output.Lost.{Lost}
use Rattle.pce_common.specs.plant_model.Element.{Element, Row, handed_lost, stays, is_lost, lost_of, waits_on}
use Rattle.pce_element.specs.declared.pinned.Leaves.{Leaves}
use Rattle.pce_element.specs.declared.pinned.Leaves.TheVariants.{Stays, Drops, Loses}
use Rattle.pce_element.specs.Pinned.{Pinned}
use Rattle.pce_element.specs.Leaving.{leaves_of, with_rows, SameButSpare, LeavesAt}
use Rattle.pce_common.proofs.HeldPlaces.{split_at, taken_at, removed_at, kept_step, kept_length}
use Rattle.pce_common.proofs.Scans.{there_is}

abbrev left : {P : Type 0} → Peer → ℕ → List (Row P) → Row P → List (Row P)
left p k rows h = take k rows ++ cond (stays p h) (h ∷ []) [] ++ drop (suc k) rows

left_out : {P : Type 0} → (p : Peer) (k : ℕ) (rows : List (Row P)) (h : Row P) → stays p h ≡ false → take k rows ++ drop (suc k) rows ≡ left p k rows h
left_out {P} p k rows h gone = ap (λ (xs : List (Row P)). xs ++ drop (suc k) rows) (sym (append-nil (take k rows))) ∙ ap (λ (b : Bool). take k rows ++ cond b (h ∷ []) [] ++ drop (suc k) rows) (sym gone)

left_in : {P : Type 0} → (p : Peer) (k : ℕ) (rows : List (Row P)) (h : Row P) → slice_get rows k ≡ Some h → stays p h ≡ true → rows ≡ left p k rows h
left_in p k rows h at stay = split_at rows k h at ∙ sym (append_assoc (take k rows) (h ∷ []) (drop (suc k) rows)) ∙ ap (λ (b : Bool). take k rows ++ cond b (h ∷ []) [] ++ drop (suc k) rows) (sym stay)

gone_rows : {P : Type 0} → (p : Peer) (k : ℕ) (old new : Pinned P) (h : Row P) → ArePending old.pending → slice_get old.pending.rows k ≡ Some h → stays p h ≡ false → SameButSpare (record old { pending = closed_of old.pending h.0 }) new →
    SameButSpare (with_rows (left p k old.pending.rows h) old) new
gone_rows {P} p k old new h are at gone is =
    is ∙ ap (λ (rows : List (Row P)). let q : Pinned P = record (with_rows rows old) { spare = new.spare } in q) (removed_at 0 old.pending.given old.pending.rows k h are.numbers at ∙ left_out p k old.pending.rows h gone)

pub drops : {P : Type 0} → (p : Peer) (k : ℕ) (old new : Pinned P) (h : Row P) → ArePending old.pending → slice_get old.pending.rows k ≡ Some h → same_peer h.1.key.peer p ≡ true → SameButSpare (record old { pending = closed_of old.pending h.0 }) new →
    LeavesAt p k old new Drops
drops p k old new h are at same is =
    let gone : stays p h ≡ false = ap (λ (b : Bool). cond b false (not (waits_on p h.1.item.stage))) same in
    let not_lost : is_lost p h ≡ false = ap (λ (b : Bool). cond b false (waits_on p h.1.item.stage)) same in
    record {
      row = h;
      at = at;
      is = ap (λ (b : Bool). cond b (Loses (lost_of h)) Drops) (sym not_lost) ∙ ap (λ (b : Bool). cond b Stays (cond (is_lost p h) (Loses (lost_of h)) Drops)) (sym gone);
      rows = gone_rows p k old new h are at gone is;
    }

pub loses : {P : Type 0} → (p : Peer) (k : ℕ) (old new : Pinned P) (h : Row P) (l : Lost) → ArePending old.pending → slice_get old.pending.rows k ≡ Some h → same_peer h.1.key.peer p ≡ false → waits_on p h.1.item.stage ≡ true → l ≡ lost_of h →
    SameButSpare (record old { pending = closed_of old.pending h.0 }) new → LeavesAt p k old new (Loses l)
loses p k old new h l are at other waits told is =
    let gone : stays p h ≡ false = ap (λ (b : Bool). cond b false (not (waits_on p h.1.item.stage))) other ∙ ap not waits in
    let lost : is_lost p h ≡ true = ap (λ (b : Bool). cond b false (waits_on p h.1.item.stage)) other ∙ waits in
    record {
      row = h;
      at = at;
      is = ap Loses told ∙ ap (λ (b : Bool). cond b (Loses (lost_of h)) Drops) (sym lost) ∙ ap (λ (b : Bool). cond b Stays (cond (is_lost p h) (Loses (lost_of h)) Drops)) (sym gone);
      rows = gone_rows p k old new h are at gone is;
    }

pub stays_there : {P : Type 0} → (p : Peer) (k : ℕ) (old : Pinned P) (h : Row P) → slice_get old.pending.rows k ≡ Some h → same_peer h.1.key.peer p ≡ false → waits_on p h.1.item.stage ≡ false → LeavesAt p k old old Stays
stays_there {P} p k old h at other waits =
    let stay : stays p h ≡ true = ap (λ (b : Bool). cond b false (not (waits_on p h.1.item.stage))) other ∙ ap not waits in
    record {
      row = h;
      at = at;
      is = ap (λ (b : Bool). cond b Stays (cond (is_lost p h) (Loses (lost_of h)) Drops)) (sym stay);
      rows = ap (λ (rows : List (Row P)). with_rows rows old) (left_in p k old.pending.rows h at stay);
    }

-- ---- what was told of a request that was looked at

abbrev told_of : {P : Type 0} → Row P → Bool → Bool → Leaves
told_of h same waits = cond (cond same false (not waits)) Stays (cond (cond same false waits) (Loses (lost_of h)) Drops)

pub stays_told : {P : Type 0} → (p : Peer) (h : Row P) → Stays ≡ leaves_of p h → (stays p h ≡ true) × (is_lost p h ≡ false)
stays_told p h is = go (same_peer h.1.key.peer p) (waits_on p h.1.item.stage) is
  where
    go : (s w : Bool) → Stays ≡ told_of h s w → (cond s false (not w) ≡ true) × (cond s false w ≡ false)
    go true w e = absurd (let no : Stays ≡ Drops = e in cc)
    go false true e = absurd (let no : Stays ≡ Loses (lost_of h) = e in cc)
    go false false e = (refl, refl)

pub drops_told : {P : Type 0} → (p : Peer) (h : Row P) → Drops ≡ leaves_of p h → (stays p h ≡ false) × (is_lost p h ≡ false)
drops_told p h is = go (same_peer h.1.key.peer p) (waits_on p h.1.item.stage) is
  where
    go : (s w : Bool) → Drops ≡ told_of h s w → (cond s false (not w) ≡ false) × (cond s false w ≡ false)
    go true w e = (refl, refl)
    go false true e = absurd (let no : Drops ≡ Loses (lost_of h) = e in cc)
    go false false e = absurd (let no : Drops ≡ Stays = e in cc)

pub loses_told : {P : Type 0} → (p : Peer) (h : Row P) (l : Lost) → Loses l ≡ leaves_of p h → (stays p h ≡ false) × (is_lost p h ≡ true) × (l ≡ lost_of h)
loses_told p h l is = go (same_peer h.1.key.peer p) (waits_on p h.1.item.stage) is
  where
    go : (s w : Bool) → Loses l ≡ told_of h s w → (cond s false (not w) ≡ false) × (cond s false w ≡ true) × (l ≡ lost_of h)
    go true w e = absurd (let no : Loses l ≡ Drops = e in cc)
    go false true e = (refl, refl, (let same : Loses l ≡ Loses (lost_of h) = e in cc))
    go false false e = absurd (let no : Loses l ≡ Stays = e in cc)

-- ---- one turn

-- how many are left
length_left : {P : Type 0} → (p : Peer) (k : ℕ) (rows : List (Row P)) (h : Row P) → slice_get rows k ≡ Some h → length (left p k rows h) + 1 ≡ length rows + cond (stays p h) 1 0
length_left {P} p k rows h at = go (stays p h)
  where
    whole : length rows ≡ length (take k rows) + (length (drop (suc k) rows) + 1)
    whole = ap length (split_at rows k h at) ∙ length-append (take k rows) (h ∷ drop (suc k) rows) ∙ (let e : length (take k rows) + length (h ∷ drop (suc k) rows) ≡ length (take k rows) + (length (drop (suc k) rows) + 1) = omega arith in e)

    go : (b : Bool) → length (take k rows ++ cond b (h ∷ []) [] ++ drop (suc k) rows) + 1 ≡ length rows + cond b 1 0
    go true = omega (arith, whole, length-append (take k rows ++ h ∷ []) (drop (suc k) rows), length-append (take k rows) (h ∷ []))
    go false = omega (arith, whole, length-append (take k rows ++ []) (drop (suc k) rows), length-append {A = Row P} (take k rows) [])

-- The requests after a turn, and the row that was looked at: each before this place was kept or not, and those behind are there.
pub record Turned {P : Type 0} (p : Peer) (i k : ℕ) (old mid new : Pinned P) : Type 0 where
  pub row : Row P
  pub at : slice_get old.pending.rows i ≡ Some row
  pub rows : SameButSpare (with_rows (filter (stays p) (take (i + 1) old.pending.rows) ++ drop (i + 1) old.pending.rows) old) new
  pub place : length (filter (stays p) (take (i + 1) old.pending.rows)) ≡ k + cond (stays p row) 1 0
  pub lost : map lost_of (filter (is_lost p) (take (i + 1) old.pending.rows)) ≡ map lost_of (filter (is_lost p) (take i old.pending.rows)) ++ cond (is_lost p row) (lost_of row ∷ []) []
  pub length : length new.pending.rows + 1 ≡ length mid.pending.rows + cond (stays p row) 1 0

lost_more : {P : Type 0} → (p : Peer) (rows : List (Row P)) (i : ℕ) (h : Row P) → slice_get rows i ≡ Some h → map lost_of (filter (is_lost p) (take (i + 1) rows)) ≡ map lost_of (filter (is_lost p) (take i rows)) ++ cond (is_lost p h) (lost_of h ∷ []) []
lost_more {P} p rows i h at =
    let more : take (i + 1) rows ≡ take i rows ++ h ∷ [] = ap (λ (j : ℕ). take j rows) (let e : i + 1 ≡ suc i = omega arith in e) ∙ taken_at rows i h at in
    ap (λ (xs : List (Row P)). map lost_of (filter (is_lost p) xs)) more ∙ ap (map lost_of) (filter-append (is_lost p) (take i rows) (h ∷ []))
    ∙ map-append lost_of (filter (is_lost p) (take i rows)) (filter (is_lost p) (h ∷ [])) ∙ ap (λ (ls : List Lost). map lost_of (filter (is_lost p) (take i rows)) ++ ls) (go (is_lost p h))
  where
    go : (b : Bool) → map lost_of (cond b (h ∷ []) []) ≡ cond b (lost_of h ∷ []) []
    go true = refl
    go false = refl

pub turned : {P : Type 0} → (p : Peer) (i k : ℕ) (old mid new : Pinned P) (told : Leaves) → i < length old.pending.rows → SameButSpare (with_rows (filter (stays p) (take i old.pending.rows) ++ drop i old.pending.rows) old) mid →
    k ≡ length (filter (stays p) (take i old.pending.rows)) → LeavesAt p k mid new told → (t : Turned p i k old mid new) × (told ≡ leaves_of p t.row)
turned {P} p i k old mid new told within before place leaves = (
  record {
    row = leaves.row;
    at = at;
    rows = leaves.rows ∙ ap (λ (q : Pinned P). let r : Pinned P = record (with_rows (left p k mid.pending.rows leaves.row) q) { spare = new.spare } in r) before
        ∙ ap (λ (rows : List (Row P)). let r : Pinned P = record (with_rows rows old) { spare = new.spare } in r) (step.1 ∙ ap (λ (j : ℕ). filter (stays p) (take j rows0) ++ drop j rows0) next);
    place = ap (λ (j : ℕ). length (filter (stays p) (take j rows0))) (sym next) ∙ kept_length (stays p) rows0 i leaves.row at ∙ ap (λ (n : ℕ). n + cond (stays p leaves.row) 1 0) (sym place);
    lost = lost_more p rows0 i leaves.row at;
    length = ap (λ (q : Pinned P). length q.pending.rows + 1) leaves.rows ∙ length_left p k mid.pending.rows leaves.row leaves.at;
  },
  leaves.is,
)
  where
    rows0 : List (Row P)
    rows0 = old.pending.rows

    next : suc i ≡ i + 1
    next = omega arith

    first : (x : Row P) × (slice_get rows0 i ≡ Some x)
    first = there_is rows0 i within

    step : (first.0 ≡ leaves.row) × (left p k mid.pending.rows leaves.row ≡ filter (stays p) (take (suc i) rows0) ++ drop (suc i) rows0)
    step = kept_step (stays p) rows0 mid.pending.rows (left p k mid.pending.rows leaves.row) i k first.0 leaves.row (ap (λ (q : Pinned P). q.pending.rows) before) place first.1 leaves.at refl

    at : slice_get rows0 i ≡ Some leaves.row
    at = first.1 ∙ ap (λ (x : Row P). Some x) step.0

-- ---- lost requests that are handed out

pub lost_keeps : {P : Type 0} {S : Type 0} → (k : Element P S) (ls : List Lost) → (handed_lost k ls).1.element ≡ k
lost_keeps k [] = refl
lost_keeps k (l ∷ ls) = refl
