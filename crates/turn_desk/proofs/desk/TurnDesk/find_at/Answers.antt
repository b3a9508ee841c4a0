use Rattle.std.proofs.Common.{Option, subst}
use Rattle.plant_network.specs.pce_element.pce_common.declared.rounds.AskedJob.{AskedJob}
use Rattle.turn_desk.specs.Desks.{stand_of}
use Rattle.turn_desk.specs.Works.{Finds, job_at}
use Rattle.turn_desk.proofs.Benching.{asked_on, found_on}
use Rattle.turn_desk.proofs.desk.TurnDesk.find_at.Goals as goal

pub returns-then-claim : goal.returns-then-claim
returns-then-claim g c =
    let old = stand_of c.args.self.now in
    let mid = stand_of c.loop-try.self in
    let new = stand_of c.next_job.new.self in
    subst (λ (answer : Option AskedJob). Finds (job_at c.args.member.at answer) old new) c.in-Some-next_job.is
    (found_on old mid new (job_at c.args.member.at c.next_job.result) c.loop-try.invariant c.next_job.ensures)

pub returns-then-is_round : goal.returns-then-is_round
returns-then-is_round g c =
    let old = stand_of c.args.self.now in
    let mid = stand_of c.loop-try.self in
    let new = stand_of c.next_job.new.self in
    subst (λ (answer : Option AskedJob). Finds (job_at c.args.member.at answer) old new) c.in-None-next_job.is
    (found_on old mid new (job_at c.args.member.at c.next_job.result) c.loop-try.invariant c.next_job.ensures)

pub loop-try-preserved : goal.loop-try-preserved
loop-try-preserved g c = asked_on (stand_of c.args.self.now) (stand_of c.loop-try.self) (stand_of c.next_job.new.self) c.loop-try.invariant c.next_job.ensures.asked
