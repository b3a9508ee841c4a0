-- What the clock of the system counts.
use Rattle.std.specs.Prelude.{ℕ, ◌+◌, ◌-◌, ◌/◌, None, Some, if◌then◌else◌, nat_lt}
use Rattle.std.specs.declared.option.Option.{Option}
use Rattle.std.specs.Time.{instant_nanos}
use Rattle.dom_edge.specs.declared.clock.Stretch.{Stretch}

-- the seconds since the clock was made, by the system, and what the clock of ours counts
pub record WallState : Type 0 where
  pub passed : ℕ
  pub last : ℕ
  pub readings : ℕ

-- the whole seconds from the first reading of the system's clock to its greatest
abbrev pub whole_seconds : Option Stretch → ℕ
whole_seconds None = 0
whole_seconds (Some s) = (instant_nanos s.latest - instant_nanos s.start) / 1_000_000_000

-- the next tick, where more seconds have passed than were told, and else the one that was told last
abbrev pub next_tick : ℕ → ℕ → ℕ
next_tick passed last = if nat_lt last passed then last + 1 else last
