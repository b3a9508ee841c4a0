use Rattle.pcep_messages.proofs.WholeLaws.{splits_whole}
use Rattle.pcep_messages.proofs.law.splits_are_whole.Goals as goal

pub returns : goal.returns
returns c = splits_whole
