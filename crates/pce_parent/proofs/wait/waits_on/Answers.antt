use Rattle.std.proofs.Common.{◌≡◌, List, length, Some, refl, sym, ◌∙◌, ap, arith}
use Rattle.std.specs.Prelude.{slice_get}
use Rattle.std.proofs.lemmas.Option.{slice_get_read}
use Rattle.pce_common.specs.plant_model.Parent.{Wait, any_on}
use Rattle.pce_parent.proofs.ScanLaws.{on_here, on_more}
use Rattle.pce_common.proofs.HeldPlaces.{nothing_dropped}
use Rattle.pce_parent.proofs.wait.waits_on.Goals as goal

pub returns-then-is_on : goal.returns-then-is_on
returns-then-is_on c =
    let ws = c.args.waits.now in
    let w : Wait = c.wait-item.result in
    let here : slice_get ws c.loop-wait.wait-index ≡ Some w = slice_get_read ws (length ws) c.loop-wait.wait-index w refl (omega arith) c.wait-item.is in
    sym (c.loop-wait.invariant ∙ on_here c.args.peer c.loop-wait.wait-index ws w here (sym c.is_on.ensures ∙ c.if-is_on.true))

pub loop-wait-preserved : goal.loop-wait-preserved
loop-wait-preserved c =
    let ws = c.args.waits.now in
    let w : Wait = c.wait-item.result in
    let here : slice_get ws c.loop-wait.wait-index ≡ Some w = slice_get_read ws (length ws) c.loop-wait.wait-index w refl (omega arith) c.wait-item.is in
    c.loop-wait.invariant ∙ on_more c.args.peer c.loop-wait.wait-index ws w here (sym c.is_on.ensures ∙ c.if-is_on.false)

pub returns : goal.returns
returns c = sym (c.loop-wait.invariant ∙ ap (λ (xs : List Wait). any_on c.args.peer xs) (nothing_dropped c.args.waits.now c.loop-wait.wait-index (omega arith)))
