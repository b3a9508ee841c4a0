use Rattle.std.proofs.Common.{take}
use Rattle.std.specs.Prelude.{◌↔◌}
use Rattle.dom_base.specs.declared.addr.Addr.{Addr}
use Rattle.path_constraints.specs.Spans.{Covers}
use Rattle.path_constraints.specs.Tables.{NamesAddr, SomeDemands}
use Rattle.path_constraints.proofs.tables.each_span.Given as goal

abbrev pub invariant-loop-exclusion : goal.invariant-loop-exclusion
invariant-loop-exclusion l = (a : Addr) → Covers l.spans.items a ↔ SomeDemands (NamesAddr l.kind a) (take l.exclusion-index l.list)
