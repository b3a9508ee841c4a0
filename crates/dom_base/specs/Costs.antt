-- Comparisons of costs.
use Rattle.std.specs.Prelude.{◌<◌, ℕ, Option, Some, None}

-- strictly less than the cost, if there is one
abbrev pub IsLess : ℕ → Option ℕ → Type 0
IsLess cost None = Unit {0}
IsLess cost (Some least) = cost < least
