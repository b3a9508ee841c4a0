use Rattle.pcep_framing.proofs.FeedLemmas.{feeds_as_said}
use Rattle.pcep_framing.proofs.law.feeds_as_said.Goals as goal

pub returns : goal.returns
returns c = feeds_as_said
