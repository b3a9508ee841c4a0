use Rattle.plant_laws.proofs.Once.Answering as Answering
use Rattle.plant_laws.proofs.requests_are_answered_once.Goals as goal

pub returns : goal.returns
returns c = Answering.requests_are_answered_once
