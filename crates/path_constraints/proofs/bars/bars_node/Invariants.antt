use Rattle.std.proofs.Common.{◌≡◌, false, take}
use Rattle.std.specs.Prelude.{All}
use Rattle.dom_base.specs.Admission.{NamesNode}
use Rattle.path_constraints.proofs.bars.bars_node.Given as goal

abbrev pub invariant-loop-exclusion : goal.invariant-loop-exclusion
invariant-loop-exclusion l = All (λ e. e.avoid ≡ false → NamesNode e.what l.query.own l.node → ⊥) (take l.exclusion-index l.query.exclusions)
