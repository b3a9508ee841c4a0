-- What the clock of a server counts: the time for which its machine was awake.
use Rattle.std.specs.Prelude.{ℕ, ◌+◌, ◌-◌, ◌/◌, ◌≤◌, min, None, Some}
use Rattle.std.specs.declared.option.Option.{Option}
use Rattle.std.specs.declared.time.Instant.{Instant}
use Rattle.std.specs.Duration.{max_nanos}
use Rattle.std.specs.Time.{instant_nanos}

-- the latest time that was seen on the system's clock, for how many nanoseconds the machine was awake, and how many readings were taken
pub record AwakeState : Type 0 where
  pub seen : Option Instant
  pub awake : ℕ
  pub readings : ℕ

-- the whole ticks in so many nanoseconds: a tick is a second
abbrev pub ticks_in : ℕ → ℕ
ticks_in nanos = nanos / 1_000_000_000

-- what is seen is never lost, and never falls
abbrev pub GoesOn : Option Instant → Option Instant → Type 0
GoesOn None now = Unit
GoesOn (Some before) None = ⊥
GoesOn (Some before) (Some now) = instant_nanos before ≤ instant_nanos now

-- the nanoseconds between two looks at the system's clock, none behind a first look
abbrev pub time_between : Option Instant → Option Instant → ℕ
time_between None now = 0
time_between (Some before) None = 0
time_between (Some before) (Some now) = instant_nanos now - instant_nanos before

-- the time awake goes on by the time between two looks, and by a tick where that is more: the machine stood still, and it counts as one tick.
-- At the end of its type it stands
abbrev pub awake_for : ℕ → ℕ → ℕ
awake_for awake nanos = min (awake + min nanos 1_000_000_000) max_nanos
