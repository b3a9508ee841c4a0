use Rattle.std.proofs.Common.{subst}
use Rattle.plant_laws.specs.Lasting.{JobsLast}
use Rattle.plant_network.specs.Blind.{Held, held, whole}
use Rattle.plant_network.proofs.BlindSound.{goes_after, sound_after}
use Rattle.plant_network.proofs.blind.Network+Blind.step.Goals as goal

pub invariant_of-self : goal.invariant_of-self
invariant_of-self c = sound_after (held c.self.inside.members c.self.inside.traffic) (held c.act.new.members c.act.new.traffic) c.args.event c.act.result c.self.invariant c.act.ensures

pub returns-clause-lasts : goal.returns-clause-lasts
returns-clause-lasts c =
    let new = held c.act.new.members c.act.new.traffic in
    subst (λ (h : Held). JobsLast (whole h).state (whole new).state) c.self.view_is (goes_after (held c.self.inside.members c.self.inside.traffic) new c.args.event c.act.result c.self.invariant c.act.ensures).jobs
