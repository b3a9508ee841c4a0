use Rattle.std.proofs.Common.{Ok, Err, Result, ap, subst}
use Rattle.std.proofs.lemmas.Result.{err_from_is_err_and}
use Rattle.network_events.specs.plant_model.Types.{Tick}
use Rattle.network_members.specs.Answering.{Commits}
use Rattle.network_members.specs.pce_element.pce_common.declared.refusal.Refusal.{Refusal}
use Rattle.network_members.specs.Topologies.{MemberPlan}
use Rattle.network_members.specs.pce_parent.declared.work.Done.{Done}
use Rattle.plant_network.proofs.SolveLemmas.{plan_answers, plan_done, plan_kept, plan_lacks, planned_err}
use Rattle.plant_network.proofs.answering.commit.Goals as goal

pub returns-in_err-plan-clause-moves : goal.returns-in_err-plan-clause-moves
returns-in_err-plan-clause-moves c =
    let p = err_from_is_err_and c.from_residual.result c.from_residual.ensures.1 in
    let m : Commits c.at_of-at.result c.clock.result.0 c.args.done c.args.members.now (Err c.in_err-plan.field-0.0) c.commit.new.self =
    subst (λ (r : Result MemberPlan (Refusal Done)). Commits c.at_of-at.result c.clock.result.0 c.args.done c.args.members.now r c.commit.new.self) c.in_err-plan.was c.commit.ensures in
    rw (p.1, p.2) (planned_err c.args.members.now c.commit.new.self c.args.traffic.now c.at_of-at.result c.clock.result.0 c.args.done c.at_of-at.ensures c.requires.sound c.in_err-plan.field-0.0 m)

pub answer-requires-clause-answers : goal.answer-requires-clause-answers
answer-requires-clause-answers c =
    plan_answers c.args.members.now c.commit.new.self c.args.traffic.now c.at_of-at.result c.clock.result.0 c.args.done c.at_of-at.ensures c.requires.sound c.in_ok-plan.plan
    (subst (λ (r : Result MemberPlan (Refusal Done)). Commits c.at_of-at.result c.clock.result.0 c.args.done c.args.members.now r c.commit.new.self) c.in_ok-plan.was c.commit.ensures)

pub answer-requires-clause-kept : goal.answer-requires-clause-kept
answer-requires-clause-kept c =
    plan_kept c.args.members.now c.commit.new.self c.args.traffic.now c.at_of-at.result c.clock.result.0 c.args.done c.at_of-at.ensures c.requires.sound c.in_ok-plan.plan
    (subst (λ (r : Result MemberPlan (Refusal Done)). Commits c.at_of-at.result c.clock.result.0 c.args.done c.args.members.now r c.commit.new.self) c.in_ok-plan.was c.commit.ensures)

pub returns-in-Ok-clause-moves : goal.returns-in-Ok-clause-moves
returns-in-Ok-clause-moves c =
    let m : Commits c.at_of-at.result c.clock.result.0 c.args.done c.args.members.now (Ok c.in_ok-plan.plan) c.commit.new.self =
    subst (λ (r : Result MemberPlan (Refusal Done)). Commits c.at_of-at.result c.clock.result.0 c.args.done c.args.members.now r c.commit.new.self) c.in_ok-plan.was c.commit.ensures in
    plan_done c.args.members.now c.commit.new.self c.args.traffic.now c.at_of-at.result c.clock.result.0 c.args.done c.at_of-at.ensures c.requires.sound c.in_ok-plan.plan m
    c.answer.new.members c.answer.new.traffic c.in-Ok.ensures.kept
    (ap (λ (t : Tick). t.0) c.clock.ensures) c.in-Ok.ensures.next c.in-Ok.ensures.sends

pub returns-in-Err-clause-moves : goal.returns-in-Err-clause-moves
returns-in-Err-clause-moves c =
    let m : Commits c.at_of-at.result c.clock.result.0 c.args.done c.args.members.now (Ok c.in_ok-plan.plan) c.commit.new.self =
    subst (λ (r : Result MemberPlan (Refusal Done)). Commits c.at_of-at.result c.clock.result.0 c.args.done c.args.members.now r c.commit.new.self) c.in_ok-plan.was c.commit.ensures in
    plan_lacks c.args.members.now c.commit.new.self c.args.traffic.now c.at_of-at.result c.clock.result.0 c.args.done c.at_of-at.ensures c.requires.sound c.in_ok-plan.plan m
    c.answer.new.members c.answer.new.traffic c.in-Err.ensures.kept c.in-Err.ensures.same c.in-Err.ensures.grows
