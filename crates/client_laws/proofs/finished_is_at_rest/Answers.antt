use Rattle.client_laws.proofs.Resting as resting
use Rattle.client_laws.proofs.finished_is_at_rest.Goals as goal

pub returns : goal.returns
returns c = record { taken = resting.lines_take_all; rest = resting.finished_is_at_rest; asked = resting.asked_is_at_rest; quiet = resting.asked_is_quiet }
