use Rattle.std.proofs.Common.{take, MatchOption}
use Rattle.walk_laws.specs.Borders.{IsDown}
use Rattle.border_costs.specs.Asks.{beyond, HasNoDown}
use Rattle.pce_common.specs.plant_model.Branches.{downs}
use Rattle.pce_element.proofs.joining.cost_from.Given as goal

abbrev pub invariant-loop-branch : goal.invariant-loop-branch
invariant-loop-branch l =
    MatchOption l.least (HasNoDown (beyond (downs (take l.branch-index l.down))) l.node) (IsDown (beyond (downs (take l.branch-index l.down))) l.node)
