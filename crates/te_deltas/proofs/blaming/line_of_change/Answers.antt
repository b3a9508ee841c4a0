use Rattle.std.proofs.Common.{arith}
use Rattle.line_text.proofs.Counts.{lines_at_most}
use Rattle.te_deltas.proofs.blaming.line_of_change.Goals as goal

pub new-lines-requires : goal.new-lines-requires
new-lines-requires c = omega (arith, c.requires.short, lines_at_most c.args.file.now)
