use Rattle.std.proofs.Common.{refl, subst}
use Rattle.std.specs.Prelude.{IfSome}
use Rattle.plant_network.specs.Topologies.{Held, whole, held}
use Rattle.plant_network.specs.Jobs.{CanSolve}
use Rattle.plant_network.proofs.ReadyLemmas.{can_solve}
use Rattle.plant_network.proofs.topologies.Network+Topologies.ready.Goals as goal

pub returns-clause-can : goal.returns-clause-can
returns-clause-can c =
    let h = held c.self.inside.members c.self.inside.traffic in
    subst (λ (x : Held). IfSome c.ready.result (λ job. CanSolve (whole x) job.0 job.1)) c.self.view_is (can_solve h c.self.invariant c.args.k c.ready.result (c.ready.ensures (whole h).state refl refl))
