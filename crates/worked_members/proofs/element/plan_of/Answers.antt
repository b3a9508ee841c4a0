use Rattle.std.proofs.Common.{◌≡◌, ◌∙◌, Option, sym, ap, subst, option_map}
use Rattle.std.specs.Prelude.{IfSome}
use Rattle.border_costs.specs.declared.job.Job.{Job}
use Rattle.pce_element.specs.Jobs.{work_of}
use Rattle.pce_element.proofs.CommitLemmas.{own_of}
use Rattle.worked_members.proofs.element.plan_of.Goals as goal

pub commit-requires-clause-own : goal.commit-requires-clause-own
commit-requires-clause-own c =
    own_of c.args.element.now c.args.number (work_of c.in-Some.job) c.in_ok-solved.solved (ap (option_map work_of) (sym c.in-Some.is) ∙ c.in_ok-found.ensures.job) c.in_ok-solved.ensures.ask c.in_ok-solved.ensures.topology
    (subst (λ (o : Option Job). IfSome o (λ (j : Job). j.ask.number ≡ c.args.number)) c.in-Some.is c.in_ok-found.ensures.number)
