use Rattle.std.proofs.Common.{◌≡◌, List, Some, length, refl, arith}
use Rattle.std.specs.Prelude.{slice_get}
use Rattle.std.proofs.lemmas.Option.{slice_get_read}
use Rattle.pce_common.specs.plant_model.declared.upper.ChildRow.{ChildRow}
use Rattle.pce_parent.proofs.Answering.{joined_next}
use Rattle.pce_parent.proofs.asking.copy_answers.Goals as goal

pub loop-answer-preserved : goal.loop-answer-preserved
loop-answer-preserved c =
    let at = c.loop-answer in
    let answers = c.args.answers.now in
    let one : List ChildRow = c.answer-item.result in
    let here : slice_get answers at.answer-index ≡ Some one = slice_get_read answers (length answers) at.answer-index one refl (omega arith) c.answer-item.is in
    joined_next answers at.answer-index one c.as_slice.result.now at.rows c.append_rows.new.rows here c.as_slice.ensures at.invariant c.in_ok-append_rows.ensures
