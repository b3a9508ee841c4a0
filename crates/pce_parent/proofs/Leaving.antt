-- Requests that are dropped or lost, one by one.
use Rattle.std.proofs.Common.{◌≡◌, ◌+◌, ◌<◌, ◌≤◌, ℕ, suc, Bool, true, false, not, cond, Some, List, [], ◌∷◌, ◌++◌, length, take, drop, map, arith, sym, ◌∙◌, ap, subst, append-nil, append_assoc, add-zero, get_or}
use Rattle.std.specs.Prelude.{slice_get, filter}
use Rattle.std.proofs.lemmas.List.{map-append, length-append, length-drop}
use Rattle.std.proofs.lemmas.Option.{slice_get-get_or}
use Rattle.std.proofs.lemmas.List.Elements.{filter-append}
use Rattle.pce_common.specs.plant_model.Types.{Peer}
use Rattle.request_table.specs.Pending.{Pending, ArePending, same_peer, closed_of}
use Rattle.pce_common.specs.plant_model.declared.output.Lost.{Lost}
use Rattle.pce_common.specs.plant_model.Parent.{Asking, AskingRow, any_on, stays, is_lost, lost_of}
use Rattle.pce_parent.specs.Pendings.{Leaves, with_rows}
use Rattle.pce_common.proofs.HeldPlaces.{removed_at, split_at, taken_at, all_taken, nothing_dropped, kept_step, kept_length}
use Rattle.pce_common.proofs.HeldRows.{length-removed, at_found}

-- ---- one request

gone_rows : (peer : Peer) (k : ℕ) (old : Pending Asking) (row : AskingRow) → ArePending old → slice_get old.rows k ≡ Some row → stays peer row ≡ false →
    closed_of old row.0 ≡ with_rows (take k old.rows ++ cond (stays peer row) (row ∷ []) [] ++ drop (suc k) old.rows) old
gone_rows peer k old row are here gone =
    ap (λ (rs : List AskingRow). with_rows rs old)
    (removed_at 0 old.given old.rows k row are.numbers here
    ∙ ap (λ (rs : List AskingRow). rs ++ drop (suc k) old.rows) (sym (append-nil (take k old.rows)))
    ∙ ap (λ (b : Bool). take k old.rows ++ cond b (row ∷ []) [] ++ drop (suc k) old.rows) (sym gone))

own_goes : (peer : Peer) (row : AskingRow) → same_peer row.1.key.peer peer ≡ true → (stays peer row ≡ false) × (is_lost peer row ≡ false)
own_goes peer row own = (
  ap (λ (b : Bool). cond b false (not (any_on peer row.1.item.waits))) own,
  ap (λ (b : Bool). cond b false (any_on peer row.1.item.waits)) own,
)

waiting_goes : (peer : Peer) (row : AskingRow) → same_peer row.1.key.peer peer ≡ false → any_on peer row.1.item.waits ≡ true → (stays peer row ≡ false) × (is_lost peer row ≡ true)
waiting_goes peer row other waits = (
  ap (λ (b : Bool). cond b false (not (any_on peer row.1.item.waits))) other ∙ ap not waits,
  ap (λ (b : Bool). cond b false (any_on peer row.1.item.waits)) other ∙ waits,
)

other_stays : (peer : Peer) (row : AskingRow) → same_peer row.1.key.peer peer ≡ false → any_on peer row.1.item.waits ≡ false → (stays peer row ≡ true) × (is_lost peer row ≡ false)
other_stays peer row other free = (
  ap (λ (b : Bool). cond b false (not (any_on peer row.1.item.waits))) other ∙ ap not free,
  ap (λ (b : Bool). cond b false (any_on peer row.1.item.waits)) other ∙ free,
)

pub one_fewer : (k : ℕ) (old : Pending Asking) (row : AskingRow) → ArePending old → slice_get old.rows k ≡ Some row → length (closed_of old row.0).rows + 1 ≡ length old.rows
one_fewer k old row are here = length-removed row.0 old.rows row.1 (at_found 0 old.given old.rows k row are.numbers here)

pub drops : (peer : Peer) (k : ℕ) (old new : Pending Asking) (noted : List Lost) (row : AskingRow) → ArePending old → slice_get old.rows k ≡ Some row → same_peer row.1.key.peer peer ≡ true → new ≡ closed_of old row.0 →
    Leaves peer k old new noted noted k
drops peer k old new noted row are here own is =
    let goes = own_goes peer row own in
    record {
      row = row;
      here = here;
      rows_are = is ∙ gone_rows peer k old row are here goes.0;
      lost_are = sym (append-nil noted) ∙ ap (λ (b : Bool). noted ++ map lost_of (cond b (row ∷ []) [])) (sym goes.1);
      next_is = sym (add-zero k) ∙ ap (λ (b : Bool). k + cond b 1 0) (sym goes.0);
    }

pub loses : (peer : Peer) (k : ℕ) (old new : Pending Asking) (noted noting : List Lost) (row : AskingRow) (lost : Lost) → ArePending old → slice_get old.rows k ≡ Some row → same_peer row.1.key.peer peer ≡ false →
    any_on peer row.1.item.waits ≡ true → lost ≡ lost_of row → new ≡ closed_of old row.0 → noting ≡ noted ++ lost ∷ [] → Leaves peer k old new noted noting k
loses peer k old new noted noting row lost are here other waits same is noting_is =
    let goes = waiting_goes peer row other waits in
    record {
      row = row;
      here = here;
      rows_are = is ∙ gone_rows peer k old row are here goes.0;
      lost_are = noting_is ∙ ap (λ (l : Lost). noted ++ l ∷ []) same ∙ ap (λ (b : Bool). noted ++ map lost_of (cond b (row ∷ []) [])) (sym goes.1);
      next_is = sym (add-zero k) ∙ ap (λ (b : Bool). k + cond b 1 0) (sym goes.0);
    }

pub stays_there : (peer : Peer) (k : ℕ) (old : Pending Asking) (noted : List Lost) (row : AskingRow) → slice_get old.rows k ≡ Some row → same_peer row.1.key.peer peer ≡ false → any_on peer row.1.item.waits ≡ false →
    Leaves peer k old old noted noted (k + 1)
stays_there peer k old noted row here other free =
    let kept = other_stays peer row other free in
    record {
      row = row;
      here = here;
      rows_are = ap (λ (rs : List AskingRow). with_rows rs old)
          (split_at old.rows k row here ∙ sym (append_assoc (take k old.rows) (row ∷ []) (drop (suc k) old.rows))
          ∙ ap (λ (b : Bool). take k old.rows ++ cond b (row ∷ []) [] ++ drop (suc k) old.rows) (sym kept.0));
      lost_are = sym (append-nil noted) ∙ ap (λ (b : Bool). noted ++ map lost_of (cond b (row ∷ []) [])) (sym kept.1);
      next_is = ap (λ (b : Bool). k + cond b 1 0) (sym kept.0);
    }

-- ---- and those that are lost, so far

pub lost_more : (peer : Peer) (rows : List AskingRow) (t : ℕ) (x : AskingRow) → slice_get rows t ≡ Some x →
    map lost_of (filter (is_lost peer) (take (suc t) rows)) ≡ map lost_of (filter (is_lost peer) (take t rows)) ++ map lost_of (cond (is_lost peer x) (x ∷ []) [])
lost_more peer rows t x here =
    ap (λ (rs : List AskingRow). map lost_of (filter (is_lost peer) rs)) (taken_at rows t x here)
    ∙ ap (map lost_of) (filter-append (is_lost peer) (take t rows) (x ∷ []))
    ∙ map-append lost_of (filter (is_lost peer) (take t rows)) (cond (is_lost peer x) (x ∷ []) [])

-- what is left when so many requests were gone through
pub record Left (peer : Peer) (old : Pending Asking) (noted : List Lost) (t k : ℕ) (now : Pending Asking) (noting : List Lost) : Type 0 where
  pub rows_are : now ≡ with_rows (filter (stays peer) (take t old.rows) ++ drop t old.rows) old
  pub place_is : k ≡ length (filter (stays peer) (take t old.rows))
  pub lost_are : noting ≡ noted ++ map lost_of (filter (is_lost peer) (take t old.rows))

module _ (peer : Peer) (old : Pending Asking) (noted : List Lost) (t k : ℕ) (now : Pending Asking) (noting : List Lost) (left : Left peer old noted t k now noting) where
  pub within_left : t < length old.rows → k < length now.rows
  within_left below =
      let whole : length now.rows ≡ length (filter (stays peer) (take t old.rows) ++ drop t old.rows) = ap (λ (p : Pending Asking). length p.rows) left.rows_are in
      omega (arith, whole, length-append (filter (stays peer) (take t old.rows)) (drop t old.rows), length-drop t old.rows, left.place_is, below)

  pub one_left : (new : Pending Asking) (more : List Lost) (next : ℕ) → t < length old.rows → Leaves peer k now new noting more next → Left peer old noted (t + 1) next new more
  one_left new more next below leaves =
      let x : AskingRow = get_or old.rows t leaves.row in
      let at_x : slice_get old.rows t ≡ Some x = slice_get-get_or old.rows t leaves.row below in
      let step = kept_step (stays peer) old.rows now.rows new.rows t k x leaves.row (ap (λ (p : Pending Asking). p.rows) left.rows_are) left.place_is at_x leaves.here
      (ap (λ (p : Pending Asking). p.rows) leaves.rows_are) in
      let same : x ≡ leaves.row = step.0 in
      let count = kept_length (stays peer) old.rows t x at_x in
      let one : ℕ = cond (stays peer leaves.row) 1 0 in
      let counted : cond (stays peer x) 1 0 ≡ one = ap (λ (r : AskingRow). cond (stays peer r) 1 0) same in
      let after : List AskingRow = filter (stays peer) (take (suc t) old.rows) ++ drop (suc t) old.rows in
      let rows : new ≡ with_rows after old =
      leaves.rows_are ∙ ap (λ (rs : List AskingRow). with_rows rs now) (sym (ap (λ (p : Pending Asking). p.rows) leaves.rows_are) ∙ step.1)
      ∙ ap (λ (p : Pending Asking). with_rows after p) left.rows_are in
      let lost : more ≡ noted ++ map lost_of (filter (is_lost peer) (take (suc t) old.rows)) =
      leaves.lost_are ∙ ap (λ (ls : List Lost). ls ++ map lost_of (cond (is_lost peer leaves.row) (leaves.row ∷ []) [])) left.lost_are
      ∙ append_assoc noted (map lost_of (filter (is_lost peer) (take t old.rows))) (map lost_of (cond (is_lost peer leaves.row) (leaves.row ∷ []) []))
      ∙ ap (λ (r : AskingRow). noted ++ (map lost_of (filter (is_lost peer) (take t old.rows)) ++ map lost_of (cond (is_lost peer r) (r ∷ []) []))) (sym same)
      ∙ ap (λ (ls : List Lost). noted ++ ls) (sym (lost_more peer old.rows t x at_x)) in
      let done : Left peer old noted (suc t) next new more = record {
        rows_are = rows;
        place_is = omega (arith, leaves.next_is, left.place_is, count, counted);
        lost_are = lost;
      } in
      let up : suc t ≡ t + 1 = omega arith in
      subst (λ (n : ℕ). Left peer old noted n next new more) up done

  pub all_left : length old.rows ≤ t → (now ≡ with_rows (filter (stays peer) old.rows) old) × (noting ≡ noted ++ map lost_of (filter (is_lost peer) old.rows))
  all_left past =
      let whole : take t old.rows ≡ old.rows = all_taken old.rows t past in
      let rest : drop t old.rows ≡ [] = nothing_dropped old.rows t past in (
        left.rows_are ∙ ap (λ (rs : List AskingRow). with_rows (filter (stays peer) rs ++ drop t old.rows) old) whole
            ∙ ap (λ (rs : List AskingRow). with_rows (filter (stays peer) old.rows ++ rs) old) rest
            ∙ ap (λ (rs : List AskingRow). with_rows rs old) (append-nil (filter (stays peer) old.rows)),
        left.lost_are ∙ ap (λ (rs : List AskingRow). noted ++ map lost_of (filter (is_lost peer) rs)) whole,
      )
