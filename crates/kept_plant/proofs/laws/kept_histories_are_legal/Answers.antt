use Rattle.kept_plant.specs.TurnLaws.{kept_legal}
use Rattle.kept_plant.proofs.laws.kept_histories_are_legal.Goals as goal

pub returns : goal.returns
returns c = kept_legal
