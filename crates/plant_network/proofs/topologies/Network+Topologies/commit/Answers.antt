use Rattle.std.proofs.Common.{sym, subst}
use Rattle.network_events.specs.plant_model.declared.event.Event.TheVariants.{Solve}
use Rattle.plant_laws.specs.Lasting.{JobsLast}
use Rattle.plant_network.specs.Jobs.{IsOwn, solved_at, solved_number, told}
use Rattle.plant_network.specs.Topologies.{Held, held, whole}
use Rattle.plant_network.specs.Whole.{GoesOn}
use Rattle.plant_network.proofs.SoundLemmas.{goes_on, order_after, sound_after}
use Rattle.plant_network.proofs.JobLemmas.{own_done}
use Rattle.plant_network.proofs.topologies.Network+Topologies.commit.Goals as goal

pub invariant_of-self : goal.invariant_of-self
invariant_of-self c = sound_after (held c.self.inside.members c.self.inside.traffic) (held c.commit.new.members c.commit.new.traffic) (Solve (solved_at c.args.done) (solved_number c.args.done)) (told c.commit.result) c.self.invariant c.commit.ensures.moves

pub returns-clause-goes : goal.returns-clause-goes
returns-clause-goes c =
    let new = held c.commit.new.members c.commit.new.traffic in
    subst (λ (h : Held). GoesOn (whole h) (Solve (solved_at c.args.done) (solved_number c.args.done)) (told c.commit.result) (whole new)) c.self.view_is (goes_on (held c.self.inside.members c.self.inside.traffic) new (Solve (solved_at c.args.done) (solved_number c.args.done)) (told c.commit.result) c.commit.ensures.moves.stepped)

pub returns-clause-lasts : goal.returns-clause-lasts
returns-clause-lasts c =
    let new = held c.commit.new.members c.commit.new.traffic in
    subst (λ (h : Held). JobsLast (whole h).state (whole new).state) c.self.view_is (order_after (held c.self.inside.members c.self.inside.traffic) new (Solve (solved_at c.args.done) (solved_number c.args.done)) (told c.commit.result) c.self.invariant c.commit.ensures.moves).1

pub commit-requires-clause-own : goal.commit-requires-clause-own
commit-requires-clause-own c = own_done (held c.self.inside.members c.self.inside.traffic) c.args.done (subst (λ (h : Held). IsOwn (whole h) c.args.done) (sym c.self.view_is) c.requires.own)
