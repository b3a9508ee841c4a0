use Rattle.std.proofs.Common.{◌≡◌, List, length, Some, refl, sym, ◌∙◌, ap, arith}
use Rattle.std.specs.Prelude.{slice_get}
use Rattle.std.proofs.lemmas.Option.{slice_get_read}
use Rattle.pce_common.specs.plant_model.Parent.{Wait, among}
use Rattle.pce_parent.proofs.ScanLaws.{for_here, for_more}
use Rattle.pce_common.proofs.HeldPlaces.{nothing_dropped}
use Rattle.pce_parent.proofs.wait.waits_for.Goals as goal

pub returns-then-is_for : goal.returns-then-is_for
returns-then-is_for c =
    let ws = c.args.waits.now in
    let w : Wait = c.wait-item.result in
    let here : slice_get ws c.loop-wait.wait-index ≡ Some w = slice_get_read ws (length ws) c.loop-wait.wait-index w refl (omega arith) c.wait-item.is in
    sym (c.loop-wait.invariant ∙ for_here c.args.peer c.args.id c.loop-wait.wait-index ws w here (sym c.is_for.ensures ∙ c.if-is_for.true))

pub loop-wait-preserved : goal.loop-wait-preserved
loop-wait-preserved c =
    let ws = c.args.waits.now in
    let w : Wait = c.wait-item.result in
    let here : slice_get ws c.loop-wait.wait-index ≡ Some w = slice_get_read ws (length ws) c.loop-wait.wait-index w refl (omega arith) c.wait-item.is in
    c.loop-wait.invariant ∙ for_more c.args.peer c.args.id c.loop-wait.wait-index ws w here (sym c.is_for.ensures ∙ c.if-is_for.false)

pub returns : goal.returns
returns c = sym (c.loop-wait.invariant ∙ ap (λ (xs : List Wait). among c.args.peer xs c.args.id) (nothing_dropped c.args.waits.now c.loop-wait.wait-index (omega arith)))
