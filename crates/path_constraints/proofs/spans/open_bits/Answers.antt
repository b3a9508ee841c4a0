use Rattle.std.proofs.Common.{arith}
use Rattle.std.proofs.lemmas.Nat.Bits.{ones_shr}
use Rattle.path_constraints.proofs.spans.open_bits.Goals as goal

pub returns-then-length-lt32 : goal.returns-then-length-lt32
returns-then-length-lt32 c = ones_shr 32 c.args.length (omega (arith, c.if-length-lt32.true))
