use Rattle.plant_network.specs.Topologies.{whole}
use Rattle.plant_play.specs.Due.{IsDue}
use Rattle.plant_play.specs.Making.{DoesSome}
use Rattle.plant_play.proofs.going.make_all.Given as goal

abbrev pub invariant-loop : goal.invariant-loop
invariant-loop l = DoesSome l.line l.modes (IsDue l.until (whole l.initial.plant).network) (whole l.initial.plant) (whole l.plant) l.initial.into l.into l.counter
