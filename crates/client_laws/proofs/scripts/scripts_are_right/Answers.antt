use Rattle.client_laws.proofs.Rightly as Rightly
use Rattle.client_laws.proofs.scripts.scripts_are_right.Goals as goal

pub returns : goal.returns
returns c = Rightly.scripts_are_right
