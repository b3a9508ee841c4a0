use Rattle.std.proofs.Common.{take}
use Rattle.std.specs.Prelude.{All}
use Rattle.path_constraints.specs.Tables.{NamesDomain, Demands}
use Rattle.path_constraints.proofs.tables.excludes_domain.Given as goal

abbrev pub invariant-loop-exclusion : goal.invariant-loop-exclusion
invariant-loop-exclusion l = All (λ e. Demands (NamesDomain l.own) e → ⊥) (take l.exclusion-index l.list)
