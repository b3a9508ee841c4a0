use Rattle.std.proofs.Common.{◌∙◌, List, ap, subst}
use Rattle.pce_common.specs.plant_model.Parent.{Wait}
use Rattle.pce_parent.specs.Answered.{IsAnsweredAt}
use Rattle.pce_parent.specs.Changes.{with_answer}
use Rattle.pce_parent.proofs.Answering.{answer_kept}
use Rattle.pce_parent.proofs.asking.Asking.gather.Goals as goal

pub returns : goal.returns
returns c =
    let a = c.self.inside in
    answer_kept c.args.peer c.args.id c.in-Some.place c.args.rows a.flags a.wanted a.waits.items c.remove-wait.new.self.items a.answers.items c.push.new.self.items
    (subst (λ (ws : List Wait). IsAnsweredAt c.args.peer c.args.id c.in-Some.place ws) c.deref.ensures.value c.in-Some.ensures) c.remove-wait.ensures.items c.in-Ok.ensures.items
    ∙ ap (with_answer c.args.peer c.args.id c.args.rows) c.self.view_is
