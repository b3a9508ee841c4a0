use Rattle.std.proofs.Common.{◌≡◌, ◌++◌, ◌∙◌, ap}
use Rattle.server_loops.specs.Benches as bench
use Rattle.turn_desk.specs.Desks.{stand_of}
use Rattle.turn_desk.specs.Works.{noted_calls}
use Rattle.turn_desk.proofs.Benching.{noted_done, was_given}
use Rattle.turn_desk.proofs.working.WorkBenchBench.finish.Goals as goal

pub finish-answer-requires : goal.finish-answer-requires
finish-answer-requires g c = was_given (stand_of c.args.self.now.desk) c.args.self.now.noted.items c.args.done c.args.self.now.done c.requires

pub invariant_of-self : goal.invariant_of-self
invariant_of-self g c =
    let old = stand_of c.args.self.now.desk in
    let new = stand_of c.finish-answer.new.self in
    let notes = c.args.self.now.noted.items in
    let call : bench.Call = bench.Finish c.args.done c.finish-answer.result in
    let noted : noted_calls c.note.new.noted.items ≡ noted_calls notes ++ bench.made_by new.spent call = c.note.ensures ∙ ap (λ x. noted_calls notes ++ bench.made_by new.spent (bench.Finish x c.finish-answer.result)) c.of-solved.ensures in
    record { done = noted_done old new notes c.note.new.noted.items call noted c.args.self.now.done c.finish-answer.ensures.goes }
