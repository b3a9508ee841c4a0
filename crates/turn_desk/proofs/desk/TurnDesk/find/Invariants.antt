use Rattle.turn_desk.specs.Desks.{stand_of}
use Rattle.turn_desk.specs.Works.{AreAsked}
use Rattle.turn_desk.proofs.desk.TurnDesk.find.Given as goal

abbrev pub invariant-loop-member : goal.invariant-loop-member
invariant-loop-member g l = AreAsked (stand_of l.fn.self) (stand_of l.self)
