-- The counter: what an act makes of the sum.
use Rattle.std.specs.Prelude.{ℕ, ◌+◌, ◌^◌, if◌then◌else◌, ltb}
use Rattle.plant_lock.specs.declared.counter.Change.{Change}
use Rattle.plant_lock.specs.declared.counter.Change.TheVariants.{Add, Read}

-- the sum after the act, which is also the answer; it stays where the new one would not fit
abbrev pub sum_after : ℕ → Change → ℕ
sum_after sum (Add n) = if ltb (sum + n) (2 ^ 64) then sum + n else sum
sum_after sum Read = sum
