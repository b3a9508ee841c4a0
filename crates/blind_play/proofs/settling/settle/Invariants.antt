use Rattle.plant_network.specs.Blind.{whole}
use Rattle.blind_play.specs.Due.{IsDueCarry}
use Rattle.blind_play.specs.Making.{DoesSome}
use Rattle.blind_play.proofs.settling.settle.Given as goal

abbrev pub invariant-loop : goal.invariant-loop
invariant-loop l = DoesSome l.line IsDueCarry (whole l.initial.plant) (whole l.plant) l.initial.into.items l.into.items
