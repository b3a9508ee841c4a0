use Rattle.std.proofs.Common.{◌≡◌, ℕ, [], false, suc, cond, length}
use Rattle.plant_network.specs.Topologies.{whole}
use Rattle.plant_network.specs.Due.{inbox_of}
use Rattle.plant_play.specs.Due.{IsDueTake}
use Rattle.plant_play.specs.Making.{DoesSome}
use Rattle.plant_play.proofs.feeding.take_all.Given as goal

abbrev pub invariant-loop-taken : goal.invariant-loop-taken
invariant-loop-taken l =
    ((k : ℕ) × DoesSome l.line l.modes (IsDueTake l.peer) (whole l.initial.plant) (whole l.plant) l.initial.into l.into k) × (l.taken ≡ false → inbox_of l.peer (whole l.plant).state ≡ [])

abbrev pub decreases-loop-taken : goal.decreases-loop-taken
decreases-loop-taken l = cond l.taken (suc (length (inbox_of l.peer (whole l.plant).state))) 0
