use Rattle.std.proofs.Common.{ℕ, ◌<◌, get_or}
use Rattle.pce_common.specs.plant_model.Types.{Exclusion}
use Rattle.pce_parent.specs.Arcs.{NamesDomain}
use Rattle.pce_parent.proofs.arcs.excludes.Given as goal

abbrev pub invariant-loop-exclusion : goal.invariant-loop-exclusion
invariant-loop-exclusion l = (k : ℕ) (d : Exclusion) → k < l.exclusion-index → NamesDomain (get_or l.query.exclusions k d) l.own → ⊥
