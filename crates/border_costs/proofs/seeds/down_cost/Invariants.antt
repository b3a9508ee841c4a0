use Rattle.std.proofs.Common.{take, MatchOption}
use Rattle.walk_laws.specs.Borders.{IsDown}
use Rattle.border_costs.specs.Asks.{beyond, HasNoDown}
use Rattle.border_costs.proofs.seeds.down_cost.Given as goal

abbrev pub invariant-loop-row : goal.invariant-loop-row
invariant-loop-row l = MatchOption l.least (HasNoDown (beyond (take l.row-index l.down)) l.node) (IsDown (beyond (take l.row-index l.down)) l.node)
