use Rattle.std.proofs.Common.{refl, subst}
use Rattle.network_events.specs.pce_common.Rounds.{IsNext, asked_jobs}
use Rattle.plant_network.specs.Topologies.{Held, whole, held}
use Rattle.plant_network.proofs.topologies.Network+Topologies.next_job.Goals as goal

pub returns : goal.returns
returns c =
    let h = held c.self.inside.members c.self.inside.traffic in
    subst (λ (x : Held). IsNext c.args.behind (asked_jobs c.args.at (whole x).state) c.next_job.result) c.self.view_is (c.next_job.ensures (whole h).state refl refl)
