use Rattle.plant_network.proofs.RoundLaws.{each_has_a_turn}
use Rattle.plant_network.proofs.rounds.each_has_a_turn.Goals as goal

pub returns : goal.returns
returns c = each_has_a_turn
