use Rattle.std.proofs.Common.{subst}
use Rattle.plant_laws.specs.Lasting.{JobsLast}
use Rattle.plant_network.specs.Topologies.{Held, held, whole}
use Rattle.plant_network.specs.Whole.{GoesOn}
use Rattle.plant_network.proofs.SoundLemmas.{goes_on, order_after, sound_after}
use Rattle.plant_network.proofs.topologies.Network+Topologies.step.Goals as goal

pub invariant_of-self : goal.invariant_of-self
invariant_of-self c = sound_after (held c.self.inside.members c.self.inside.traffic) (held c.act.new.members c.act.new.traffic) c.args.event c.act.result c.self.invariant c.act.ensures

pub returns-clause-goes : goal.returns-clause-goes
returns-clause-goes c =
    let new = held c.act.new.members c.act.new.traffic in
    subst (λ (h : Held). GoesOn (whole h) c.args.event c.act.result (whole new)) c.self.view_is (goes_on (held c.self.inside.members c.self.inside.traffic) new c.args.event c.act.result c.act.ensures.stepped)

pub returns-clause-lasts : goal.returns-clause-lasts
returns-clause-lasts c =
    let new = held c.act.new.members c.act.new.traffic in
    subst (λ (h : Held). JobsLast (whole h).state (whole new).state) c.self.view_is (order_after (held c.self.inside.members c.self.inside.traffic) new c.args.event c.act.result c.self.invariant c.act.ensures).1
