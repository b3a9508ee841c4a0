use Rattle.std.proofs.Common.{◌≡◌, None, take}
use Rattle.plant_network.specs.Topologies.{whole}
use Rattle.network_serving.specs.Records.{AreFirst}
use Rattle.network_serving.proofs.preparing.tape_of.Given as goal

abbrev pub invariant-loop-i : goal.invariant-loop-i
invariant-loop-i l = record {
  first : AreFirst (whole l.plant) (take l.i l.rows) l.tape.items;
  handed : l.tape.handed ≡ 0;
  open_still : l.tape.ended ≡ None;
}
