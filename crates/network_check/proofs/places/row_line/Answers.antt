use Rattle.std.proofs.Common.{subst, sym}
use Rattle.network_check.specs.Places.{AreAbove}
use Rattle.network_check.proofs.Placing.{lines_above}
use Rattle.network_check.proofs.places.row_line.Goals as goal

pub seek-requires : goal.seek-requires
seek-requires c = record { rising = subst (AreAbove 0) (sym c.new.ensures) (lines_above c.args.text.now) }
