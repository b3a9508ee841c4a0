use Rattle.record_laws.proofs.Handing as handing
use Rattle.record_laws.proofs.laws.hands_are_said.Goals as goal

pub returns : goal.returns
returns c = handing.hands_are_said
