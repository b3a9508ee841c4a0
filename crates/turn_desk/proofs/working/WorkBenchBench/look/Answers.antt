use Rattle.std.proofs.Common.{◌≡◌, ◌++◌, ◌∙◌, ap}
use Rattle.server_loops.specs.Benches as bench
use Rattle.turn_desk.specs.Desks.{stand_of}
use Rattle.turn_desk.specs.Works.{noted_calls}
use Rattle.turn_desk.proofs.Benching.{noted_done}
use Rattle.turn_desk.proofs.working.WorkBenchBench.look.Goals as goal

pub invariant_of-self : goal.invariant_of-self
invariant_of-self g c =
    let old = stand_of c.args.self.now.desk in
    let new = stand_of c.look-work.new.self in
    let notes = c.args.self.now.noted.items in
    let call : bench.Call = bench.Look c.args.at c.args.number c.look-work.result in
    let noted : noted_calls c.note.new.noted.items ≡ noted_calls notes ++ bench.made_by new.spent call = c.note.ensures ∙ ap (λ r. noted_calls notes ++ bench.made_by new.spent (bench.Look c.args.at c.args.number r)) c.of.ensures in
    record { done = noted_done old new notes c.note.new.noted.items call noted c.args.self.now.done c.look-work.ensures.goes }
