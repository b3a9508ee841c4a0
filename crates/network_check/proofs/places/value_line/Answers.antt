use Rattle.std.proofs.Common.{subst, sym}
use Rattle.network_check.specs.Places.{AreAbove}
use Rattle.network_check.proofs.Placing.{lines_above}
use Rattle.network_check.proofs.places.value_line.Goals as goal

pub seek-number-requires : goal.seek-number-requires
seek-number-requires c = record { rising = subst (AreAbove 0) (sym c.new-lines.ensures) (lines_above c.args.text.now) }
