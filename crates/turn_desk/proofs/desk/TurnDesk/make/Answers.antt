use Rattle.std.proofs.Common.{Ok}
use Rattle.plant_network.specs.declared.acts.Act.TheVariants.{Do}
use Rattle.turn_desk.specs.Desks.{IsTurn, stand_of}
use Rattle.turn_desk.proofs.Turning.{did_turn}
use Rattle.turn_desk.proofs.desk.TurnDesk.make.Goals as goal

pub did_in-answer-requires : goal.did_in-answer-requires
did_in-answer-requires g c =
    let old = stand_of c.args.self.now in
    let new = stand_of c.turn.new.self in
    let t : IsTurn (Do c.args.event) (Ok c.in-Ok.acted) old new = rw c.in-Ok.is at c.turn.ensures in
    did_turn old new c.in-Ok.acted c.args.event t
