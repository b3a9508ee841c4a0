use Rattle.std.proofs.Common.{◌≡◌, drop}
use Rattle.pce_common.specs.plant_model.Parent.{all_up}
use Rattle.pce_parent.proofs.parent.Parent.all_up.Given as goal

abbrev pub invariant-loop-child : goal.invariant-loop-child
invariant-loop-child l = all_up l.self.family.children l.self.losing.parent.ways ≡ all_up (drop l.child-index l.self.family.children) l.self.losing.parent.ways
