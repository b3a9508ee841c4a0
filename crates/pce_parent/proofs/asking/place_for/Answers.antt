use Rattle.std.proofs.Common.{◌≡◌, ◌∙◌, Some, length, refl, sym, arith}
use Rattle.std.specs.Prelude.{slice_get}
use Rattle.std.proofs.lemmas.Option.{slice_get_read}
use Rattle.pce_common.specs.plant_model.Parent.{Wait}
use Rattle.pce_parent.proofs.Answering.{this_one}
use Rattle.pce_parent.proofs.asking.place_for.Goals as goal

pub returns-then-is_for : goal.returns-then-is_for
returns-then-is_for c =
    let ws = c.args.waits.now in
    let w : Wait = c.index-waits-i.result in
    let here : slice_get ws c.loop-i.i ≡ Some w = slice_get_read ws (length ws) c.loop-i.i w refl (omega arith) c.index-waits-i.is in
    this_one c.args.peer c.args.id c.loop-i.i ws w (omega arith) here (sym c.is_for.ensures ∙ c.if-is_for.true) c.loop-i.invariant
