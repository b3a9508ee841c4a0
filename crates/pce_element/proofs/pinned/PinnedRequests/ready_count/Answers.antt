use Rattle.std.proofs.Common.{◌≡◌, ◌∙◌, ◌≤◌, ◌+◌, ◌∷◌, ℕ, suc, Bool, true, false, cond, List, length, map, filter, drop, sym, ap, arith}
use Rattle.std.specs.Prelude.{Some, slice_get}
use Rattle.std.proofs.lemmas.List.{drop_all}
use Rattle.pce_common.specs.plant_model.Element.{Row, is_ready, ready_numbers}
use Rattle.pce_element.specs.Rows.{row_of}
use Rattle.pce_common.proofs.Scans.{dropped_next}
use Rattle.pce_element.proofs.pinned.PinnedRequests.ready_count.Goals as goal
use Rattle.pce_element.proofs.pinned.PinnedRequests.ready_count.Goals.{then-is_ready, else-is_ready}

module _ {X : Type 0} (p : X → Bool) (name : X → ℕ) (k : ℕ) (xs : List X) (x : X) (at : slice_get xs k ≡ Some x) where
  abbrev behind : List X
  behind = filter p (drop (k + 1) xs)

  split : (b : Bool) → p x ≡ b → length (map name (filter p (drop k xs))) ≡ length (map name (cond b (x ∷ behind) behind))
  split b is =
      ap (λ (ys : List X). length (map name (filter p ys))) (dropped_next xs k x at)
      ∙ ap (λ (c : Bool). length (map name (cond c (x ∷ behind) behind))) is

  one_passes : p x ≡ true → length (map name (filter p (drop k xs))) ≡ suc (length (map name behind))
  one_passes is = split true is

  one_fails : p x ≡ false → length (map name (filter p (drop k xs))) ≡ length (map name behind)
  one_fails is = split false is

pub loop-i-init : goal.loop-i-init
loop-i-init g c = record {
  all = omega arith;
  few = omega arith;
}

pub loop-i-preserved : goal.loop-i-preserved
loop-i-preserved g c =
    let rows = c.args.self.now.pending.rows in
    let row = row_of c.in-Some.row in
    elim c.if-is_ready.branch [
      | then-is_ready w ↦
          let here : length (ready_numbers (drop c.loop-i.i rows)) ≡ suc (length (ready_numbers (drop (c.loop-i.i + 1) rows))) = one_passes (λ (r : Row _). is_ready r.1.item.stage) (λ (r : Row _). r.0) c.loop-i.i rows row c.in-Some.ensures.row (sym c.is_ready.ensures ∙ w.if-is_ready.true) in
          record { all = omega (arith, c.loop-i.invariant.all, here, w.count-is); few = omega (arith, c.loop-i.invariant.few, w.count-is) }
      | else-is_ready w ↦
          let here : length (ready_numbers (drop c.loop-i.i rows)) ≡ length (ready_numbers (drop (c.loop-i.i + 1) rows)) = one_fails (λ (r : Row _). is_ready r.1.item.stage) (λ (r : Row _). r.0) c.loop-i.i rows row c.in-Some.ensures.row (sym c.is_ready.ensures ∙ w.if-is_ready.false) in
          record { all = omega (arith, c.loop-i.invariant.all, here, w.count-is); few = omega (arith, c.loop-i.invariant.few, w.count-is) }
    ]

pub returns : goal.returns
returns g c =
    let rows = c.args.self.now.pending.rows in
    let none : length (ready_numbers (drop c.loop-i.i rows)) ≡ 0 = ap (λ (rs : List (Row _)). length (ready_numbers rs)) (drop_all c.loop-i.i rows (omega (arith, c.loop-i-test.false, c.len-i-end.ensures.count))) in
    omega (arith, c.loop-i.invariant.all, none)

pub overflow_add-count : goal.overflow_add-count
overflow_add-count g c = omega (arith, c.loop-i.invariant.few, c.loop-i-test.true)
