use Rattle.std.proofs.Common.{subst, sym}
use Rattle.plant_network.specs.Topologies.{whole}
use Rattle.plant_network.specs.Turns.{IsAnswer}
use Rattle.plant_network.specs.Whole.{Whole}
use Rattle.kept_plant.proofs.Folds.{folded}
use Rattle.kept_plant.proofs.folding.fold.Goals as goal

pub returns-clause-tape : goal.returns-clause-tape
returns-clause-tape c =
    let w : Whole = whole c.args.plant.now in
    let next : Whole = whole c.turn-answer.new.self in
    let acted = c.turn-answer.result.acted in
    let answer : IsAnswer w c.args.act acted next = subst (λ (v : Whole). IsAnswer w c.args.act acted v) (sym c.turn-answer.ensures.left) c.turn-answer.ensures.allowed.answer in
    folded w next c.args.act acted c.begin-begun.result c.args.tape.now c.keep.new.tape answer c.begin-begun.ensures c.keep.ensures
