use Rattle.turn_desk.specs.Desks.{stand_of}
use Rattle.turn_desk.proofs.Benching.{found_done}
use Rattle.turn_desk.proofs.working.WorkBenchBench.ready.Goals as goal

pub invariant_of-self : goal.invariant_of-self
invariant_of-self g c =
    let old = stand_of c.args.self.now.desk in
    let new = stand_of c.find-found.new.self in
    record { done = found_done old new c.args.self.now.noted.items c.note.new.noted.items c.args.k c.find-found.result c.note.ensures c.args.self.now.done c.find-found.ensures }
