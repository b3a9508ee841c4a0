use Rattle.std.proofs.Common.{IfOk, subst}
use Rattle.plant_network.specs.Topologies.{Held, whole, held}
use Rattle.plant_network.specs.Jobs.{IsWork}
use Rattle.plant_network.proofs.JobLemmas.{works}
use Rattle.plant_network.proofs.topologies.Network+Topologies.job.Goals as goal

pub returns-clause-work : goal.returns-clause-work
returns-clause-work c =
    subst (λ (h : Held). IfOk c.job.result (IsWork (whole h) c.args.at c.args.number)) c.self.view_is
    (works (held c.self.inside.members c.self.inside.traffic) c.args.at c.args.number c.job.result c.job.ensures.below c.job.ensures.above)
