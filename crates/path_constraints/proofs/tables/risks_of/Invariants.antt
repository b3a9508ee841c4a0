use Rattle.std.proofs.Common.{◌≡◌, ℕ, true, take}
use Rattle.std.specs.Prelude.{◌↔◌}
use Rattle.std.specs.BTreeSet.{contains}
use Rattle.std.specs.Ordering.{nat_cmp}
use Rattle.path_constraints.specs.Tables.{NamesRisk, SomeDemands}
use Rattle.path_constraints.proofs.tables.risks_of.Given as goal

abbrev pub invariant-loop-exclusion : goal.invariant-loop-exclusion
invariant-loop-exclusion l = (n : ℕ) → (contains nat_cmp l.risks n ≡ true) ↔ SomeDemands (NamesRisk n) (take l.exclusion-index l.list)
