use Rattle.std.proofs.Common.{◌∙◌}
use Rattle.pce_common.specs.plant_model.Parent.{answered}
use Rattle.pce_parent.specs.Pendings.{row_of}
use Rattle.pce_parent.proofs.Drafts.{these_end}
use Rattle.pce_parent.proofs.Telling.{at_first}
use Rattle.pce_parent.proofs.parent.Parent.answers.Goals as goal

pub returns : goal.returns
returns c =
    let s = c.args.self.now in
    let k = s.losing.parent in
    let said = answered (row_of c.args.row) c.args.message in
    these_end s c.into_draft.result c.answer.new.self (said k) c.into_draft.ensures.change c.into_draft.ensures.outputs
    (c.in_ok-answer.ensures k ∙ at_first c.new-ending.result k said c.new-ending.ensures.numbers c.new-ending.ensures.outputs)
