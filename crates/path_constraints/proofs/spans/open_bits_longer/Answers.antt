use Rattle.std.proofs.Common.{arith}
use Rattle.std.proofs.lemmas.Nat.Bits.{ones_shr}
use Rattle.path_constraints.proofs.spans.open_bits_longer.Goals as goal

pub returns-then-length-lt128 : goal.returns-then-length-lt128
returns-then-length-lt128 c = ones_shr 128 c.args.length (omega (arith, c.if-length-lt128.true))
