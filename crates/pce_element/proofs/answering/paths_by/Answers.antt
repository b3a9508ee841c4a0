use Rattle.std.proofs.Common.{◌∙◌}
use Rattle.std.proofs.lemmas.Result.{IfOk-weaker}
use Rattle.pce_element.proofs.CommitLemmas.{joined_paths}
use Rattle.pce_element.proofs.answering.paths_by.Goals as goal

pub returns : goal.returns
returns c =
    IfOk-weaker c.each_path.result _ _ (λ paths is. is ∙ joined_paths c.args.metric c.args.down.now c.args.best.now c.args.own.now c.in_ok-branches.branches c.in_ok-branches.ensures.branches) c.each_path.ensures
