use Rattle.std.proofs.Common.{Option, subst}
use Rattle.plant_network.specs.pce_element.pce_common.declared.rounds.AskedJob.{AskedJob}
use Rattle.turn_desk.specs.Desks.{stand_of}
use Rattle.turn_desk.specs.Works.{Finds, job_at}
use Rattle.turn_desk.proofs.Benching.{asked_on, found_on}
use Rattle.turn_desk.proofs.desk.TurnDesk.find.Goals as goal

pub returns-in-Some-find_at : goal.returns-in-Some-find_at
returns-in-Some-find_at g c =
    let old = stand_of c.args.self.now in
    let mid = stand_of c.loop-member.self in
    let new = stand_of c.find_at.new.self in
    subst (λ (answer : Option AskedJob). Finds (job_at c.in-Some.member.at answer) old new) c.in-Some-find_at.is
    (found_on old mid new (job_at c.in-Some.member.at c.find_at.result) c.loop-member.invariant c.find_at.ensures)

pub loop-member-preserved : goal.loop-member-preserved
loop-member-preserved g c = asked_on (stand_of c.args.self.now) (stand_of c.loop-member.self) (stand_of c.find_at.new.self) c.loop-member.invariant c.find_at.ensures.asked
