use Rattle.std.proofs.Common.{◌≡◌, List, Some, slice_get, length, refl, arith, subst}
use Rattle.std.proofs.lemmas.Option.{slice_get_read}
use Rattle.pce_common.specs.plant_model.declared.upper.ChildRow.{ChildRow}
use Rattle.pce_parent.proofs.Collecting.{row_pushed, row_skipped}
use Rattle.pce_parent.proofs.arcs.row_arcs.Goals as goal
use Rattle.pce_parent.proofs.arcs.row_arcs.Goals.{in-Some+in_ok-push, in_default}

pub loop-index-preserved : goal.loop-index-preserved
loop-index-preserved c =
    let j = c.args.job.now in
    let spots = c.args.spots.now.keys in
    let i = c.loop-index.index in
    let items = c.as_slice-row-items.result.now in
    let x : ChildRow = c.row-item.result in
    let here : slice_get j.rows i ≡ Some x =
    subst (λ (xs : List ChildRow). slice_get xs i ≡ Some x) c.as_slice-row-items.ensures (slice_get_read items (length items) i x refl (omega arith) c.row-item.is) in
    elim c.match-arc_of_row.branch [
      | in-Some+in_ok-push w ↦ rw (w.arcs-is, w.in_ok-push.ensures.items) (row_pushed j spots i c.loop-index.arcs.items x w.in-Some.arc here c.loop-index.invariant w.in-Some.ensures)
      | in_default w ↦ rw w.arcs-is (row_skipped j spots i c.loop-index.arcs.items x here c.loop-index.invariant w.in_default.ensures)
    ]
