-- The limit of costs, as a number. The constant in the code is proved to be this number.
use Rattle.std.specs.Prelude.{◌≡◌}
use Rattle.dom_base.specs.declared.limits.TheConstants.{COST_MAX}

-- the greatest cost of a feasible path: 24 bits, so that its word of single precision is exact
pub record LimitsAreNumbers : Type 0 where
  pub cost : COST_MAX ≡ 16777215
