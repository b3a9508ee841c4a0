use Rattle.std.proofs.Common.{arith, refl}
use Rattle.jiff_core.proofs.SignedLemmas.{signed_arith}
use Rattle.jiff_core.proofs.DateTimeLemmas.{civil_nanos-civil_seconds}
use Rattle.dom_edge.proofs.calendar.Moment.text.Goals as goal

pub returns : goal.returns
returns c = record {
  date_time = c.from_nanosecond_in_range-at.result;
  counted = omega (arith, signed_arith, civil_nanos-civil_seconds c.from_nanosecond_in_range-at.result);
  written = rw c.date_octets.ensures (rw c.time_octets.ensures refl);
}
