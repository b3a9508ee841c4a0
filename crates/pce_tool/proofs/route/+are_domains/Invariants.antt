use Rattle.std.proofs.Common.{length}
use Rattle.pce_tool.proofs.route.+are_domains.Given as goal

abbrev pub decreases-are_domains : goal.decreases-are_domains
decreases-are_domains l = length l.words.now
