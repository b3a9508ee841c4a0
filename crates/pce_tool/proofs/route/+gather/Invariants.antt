use Rattle.std.proofs.Common.{length}
use Rattle.pce_tool.proofs.route.+gather.Given as goal

abbrev pub decreases-gather : goal.decreases-gather
decreases-gather l = length l.words.now
