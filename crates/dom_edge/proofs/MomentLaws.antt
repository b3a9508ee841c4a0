-- The year of a date has at most four digits.
use Rattle.std.proofs.Common.{◌≤◌, arith, unsigned_abs}
use Rattle.jiff_core.specs.declared.civil.date.Date.{Date}
use Rattle.jiff_core.proofs.SignedLemmas.{signed_arith, one_part}

pub year_within : (d : Date) → unsigned_abs d.year ≤ 9999
year_within d = omega (arith, signed_arith, one_part d.year, d.year_in)
