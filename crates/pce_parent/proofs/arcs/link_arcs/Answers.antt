use Rattle.std.proofs.Common.{◌≡◌, List, Some, slice_get, length, refl, arith, subst}
use Rattle.std.proofs.lemmas.Option.{slice_get_read}
use Rattle.pce_common.specs.plant_model.Types.{ParentLink}
use Rattle.pce_parent.proofs.Collecting.{link_pushed, link_skipped}
use Rattle.pce_parent.proofs.arcs.link_arcs.Goals as goal
use Rattle.pce_parent.proofs.arcs.link_arcs.Goals.{in-Some+in_ok-push, in_default}

pub loop-index-preserved : goal.loop-index-preserved
loop-index-preserved c =
    let j = c.args.job.now in
    let spots = c.args.spots.now.keys in
    let i = c.loop-index.index in
    let items = c.as_slice-link-items.result.now in
    let x : ParentLink = c.link-item.result in
    let here : slice_get j.links i ≡ Some x =
    subst (λ (xs : List ParentLink). slice_get xs i ≡ Some x) c.as_slice-link-items.ensures (slice_get_read items (length items) i x refl (omega arith) c.link-item.is) in
    elim c.match-arc_of_link.branch [
      | in-Some+in_ok-push w ↦ rw (w.arcs-is, w.in_ok-push.ensures.items) (link_pushed j spots i c.loop-index.arcs.items x w.in-Some.arc here c.loop-index.invariant w.in-Some.ensures)
      | in_default w ↦ rw w.arcs-is (link_skipped j spots i c.loop-index.arcs.items x here c.loop-index.invariant w.in_default.ensures)
    ]
