-- Moments of UTC, and their texts in the basic format of ISO 8601.
use Rattle.std.specs.Prelude.{◌≡◌, ℕ, ◌+◌, ◌/◌, ◌%◌, List, [], ◌∷◌, ◌++◌, pos, unsigned_abs, codes}
use Rattle.jiff_core.specs.declared.civil.date.Date.{Date}
use Rattle.jiff_core.specs.declared.civil.time.Time.{Time}
use Rattle.jiff_core.specs.declared.civil.datetime.DateTime.{DateTime}
use Rattle.jiff_core.specs.DateTime.{civil_seconds}

-- a number below 100 in two digits
abbrev pub two_digits : ℕ → List ℕ
two_digits n = (48 + n / 10) ∷ (48 + n % 10) ∷ []

-- a day, as 20261130
abbrev pub date_text : Date → List ℕ
date_text d = two_digits (unsigned_abs d.year / 100) ++ two_digits (unsigned_abs d.year % 100) ++ two_digits d.month ++ two_digits d.day

-- a time of the day, as 172800
abbrev pub time_text : Time → List ℕ
time_text t = two_digits t.hour ++ two_digits t.minute ++ two_digits t.second

-- the text of the second that is so many behind the beginning of 1970: its day, and its time of that day
pub record IsMomentText (seconds : ℕ) (text : List ℕ) : Type 0 where
  pub date_time : DateTime
  pub counted : civil_seconds date_time ≡ pos seconds
  pub written : text ≡ date_text date_time.date ++ codes "T" ++ time_text date_time.time ++ codes "Z"

-- the moments that a calendar has left, and the one that it told last
pub record CalendarState : Type 0 where
  pub later : List ℕ
  pub last : ℕ

-- the next moment, or the last one again where none is left
abbrev pub next_moment : List ℕ → ℕ → ℕ
next_moment [] last = last
next_moment (moment ∷ later) last = moment
