use Rattle.std.proofs.Common.{◌≡◌, ◌++◌, drop}
use Rattle.network_check.specs.Told.{pieces_text}
use Rattle.network_check.proofs.told.write_pieces.Given as goal

abbrev pub invariant-loop-piece : goal.invariant-loop-piece
invariant-loop-piece l = l.into.items ++ pieces_text (drop l.piece-index l.pieces) ≡ l.initial.into.items ++ pieces_text l.pieces
