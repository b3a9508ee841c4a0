use Rattle.turn_desk.specs.Desks.{stand_of}
use Rattle.turn_desk.specs.Works.{AreAsked}
use Rattle.turn_desk.proofs.desk.TurnDesk.find_at.Given as goal

abbrev pub invariant-loop-try : goal.invariant-loop-try
invariant-loop-try g l = AreAsked (stand_of l.fn.self) (stand_of l.self)
