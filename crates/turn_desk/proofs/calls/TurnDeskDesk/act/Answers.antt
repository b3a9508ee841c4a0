use Rattle.plant_network.specs.declared.acts.Act.TheVariants.{Do}
use Rattle.turn_desk.specs.Desks.{did_by, stand_of}
use Rattle.turn_desk.proofs.Turning.{desk_goes, turn_still}
use Rattle.turn_desk.proofs.calls.TurnDeskDesk.act.Goals as goal

pub returns-clause-goes : goal.returns-clause-goes
returns-clause-goes g c = desk_goes (stand_of c.args.self.now) (stand_of c.make.new.self) c.args.event c.make.result c.make.ensures

pub returns-clause-stays : goal.returns-clause-stays
returns-clause-stays g c = turn_still (stand_of c.args.self.now) (stand_of c.make.new.self) (Do c.args.event) (did_by c.make.result) c.make.ensures
