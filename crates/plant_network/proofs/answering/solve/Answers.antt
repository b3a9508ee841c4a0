use Rattle.std.proofs.Common.{ℕ, Option, Some, Ok, Err, refl, subst}
use Rattle.network_events.specs.plant_model.Types.{As}
use Rattle.network_events.specs.plant_model.declared.event.Event.TheVariants.{Solve}
use Rattle.network_events.specs.plant_model.declared.outcome.Refused.TheVariants.{NoMemory}
use Rattle.network_events.specs.plant_model.Events.{Answered}
use Rattle.network_members.specs.pce_parent.declared.work.Work.{Work}
use Rattle.plant_network.specs.Topologies.{Moves, held, whole}
use Rattle.plant_network.specs.Jobs.{IsWork, solved_at}
use Rattle.plant_network.proofs.JobLemmas.{IsSolvedHere, is_work, own_done, solved_here}
use Rattle.plant_network.proofs.SolveLemmas.{moves_refused, stays}
use Rattle.plant_network.proofs.answering.solve.Goals as goal

pub returns-in_default-solve_work : goal.returns-in_default-solve_work
returns-in_default-solve_work c =
    let t = c.args.members.now in
    let x = c.args.traffic.now in
    moves_refused t t x x c.args.at c.args.number (stays t) refl c.requires.sound.kept NoMemory tt

pub commit-requires-clause-own : goal.commit-requires-clause-own
commit-requires-clause-own c =
    let h = held c.args.members.now c.args.traffic.now in
    let is : IsWork (whole h) c.args.at c.args.number (Some c.in-Some.work) =
    subst (λ (o : Option Work). IsWork (whole h) c.args.at c.args.number o) c.in-Some.is (is_work h c.args.at c.args.number c.in-Ok.found c.in-Ok.ensures.below c.in-Ok.ensures.above) in
    own_done h c.in-Ok-solve_work.done (solved_here (whole h) c.args.at c.args.number c.in-Some.work c.in-Ok-solve_work.done is c.in-Ok-solve_work.ensures).own

pub returns-in-Ok-commit : goal.returns-in-Ok-commit
returns-in-Ok-commit c =
    let h = held c.args.members.now c.args.traffic.now in
    let new = held c.commit.new.members c.commit.new.traffic in
    let is : IsWork (whole h) c.args.at c.args.number (Some c.in-Some.work) =
    subst (λ (o : Option Work). IsWork (whole h) c.args.at c.args.number o) c.in-Some.is (is_work h c.args.at c.args.number c.in-Ok.found c.in-Ok.ensures.below c.in-Ok.ensures.above) in
    let s : IsSolvedHere (whole h) c.args.at c.args.number c.in-Ok-solve_work.done = solved_here (whole h) c.args.at c.args.number c.in-Some.work c.in-Ok-solve_work.done is c.in-Ok-solve_work.ensures in
    subst (λ (d : As). Moves h (Solve d c.args.number) (Ok c.in-Ok-commit.outcome) new) s.at
    (subst (λ (k : ℕ). Moves h (Solve (solved_at c.in-Ok-solve_work.done) k) (Ok c.in-Ok-commit.outcome) new) s.number c.in-Ok-commit.ensures.moves)

pub returns : goal.returns
returns c =
    let h = held c.args.members.now c.args.traffic.now in
    let new = held c.commit.new.members c.commit.new.traffic in
    let is : IsWork (whole h) c.args.at c.args.number (Some c.in-Some.work) =
    subst (λ (o : Option Work). IsWork (whole h) c.args.at c.args.number o) c.in-Some.is (is_work h c.args.at c.args.number c.in-Ok.found c.in-Ok.ensures.below c.in-Ok.ensures.above) in
    let s : IsSolvedHere (whole h) c.args.at c.args.number c.in-Ok-solve_work.done = solved_here (whole h) c.args.at c.args.number c.in-Some.work c.in-Ok-solve_work.done is c.in-Ok-solve_work.ensures in
    subst (λ (d : As). Moves h (Solve d c.args.number) (Err c.in-Err.refusal.why) new) s.at
    (subst (λ (k : ℕ). Moves h (Solve (solved_at c.in-Ok-solve_work.done) k) (Err c.in-Err.refusal.why) new) s.number c.in-Err.ensures.moves)
