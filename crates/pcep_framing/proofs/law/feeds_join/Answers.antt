use Rattle.pcep_framing.proofs.FrameLemmas.{fed_more}
use Rattle.pcep_framing.proofs.law.feeds_join.Goals as goal

pub returns : goal.returns
returns c = fed_more
