use Rattle.client_laws.proofs.Givens as Givens
use Rattle.client_laws.proofs.Onward as Onward
use Rattle.client_laws.proofs.scripts.lines_go_on.Goals as goal

pub returns : goal.returns
returns c = record { given = Givens.lines_are_given; go_on = Onward.lines_go_on }
