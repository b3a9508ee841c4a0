use Rattle.std.proofs.Common.{Ok, Err, Result, List, ap, subst}
use Rattle.std.proofs.lemmas.Result.{err_from_is_err_and}
use Rattle.network_events.specs.plant_model.Types.{Tick, BorderRow}
use Rattle.network_events.specs.plant_model.declared.event.BlindEvent.TheVariants.{Solve}
use Rattle.network_events.specs.plant_model.declared.outcome.Outcome.TheVariants.{Done}
use Rattle.network_events.specs.plant_model.declared.outcome.Refused.{Refused}
use Rattle.network_events.specs.plant_model.declared.outcome.Refused.TheVariants.{NoMemory}
use Rattle.network_members.specs.Blind.{Solves}
use Rattle.network_members.specs.declared.plan.MemberPlan.{MemberPlan}
use Rattle.plant_network.specs.Blind.{Moves, held}
use Rattle.plant_network.proofs.BlindSolves.{kept_still, plan_answers, plan_done, plan_lacks, plan_member, planned_err}
use Rattle.plant_network.proofs.blind.solve.Goals as goal

pub returns-in_err-plan : goal.returns-in_err-plan
returns-in_err-plan c =
    let p = err_from_is_err_and c.from_residual.result c.from_residual.ensures.1 in
    let old = held c.args.members.now c.args.traffic.now in
    let m : Solves c.args.at c.args.number c.as_slice.result.now c.clock-now.result.0 c.args.members.now (Err c.in_err-plan.field-0.0) c.solve.new.self =
    subst (λ (r : Result (MemberPlan _ _ _ _) Refused). Solves c.args.at c.args.number c.as_slice.result.now c.clock-now.result.0 c.args.members.now r c.solve.new.self) c.in_err-plan.was c.solve.ensures in
    rw (p.1, p.2)
    (subst (λ (rows : List BorderRow). Moves old (Solve c.args.at c.args.number rows) (Err c.in_err-plan.field-0.0) (held c.solve.new.self c.args.traffic.now)) c.as_slice.ensures
    (planned_err c.args.members.now c.solve.new.self c.args.traffic.now c.args.at c.args.number c.as_slice.result.now c.clock-now.result.0 c.requires.sound m.same c.in_err-plan.field-0.0 m.why))

pub answer-requires-clause-member : goal.answer-requires-clause-member
answer-requires-clause-member c =
    let m : Solves c.args.at c.args.number c.as_slice.result.now c.clock-now.result.0 c.args.members.now (Ok c.in_ok-plan.plan) c.solve.new.self =
    subst (λ (r : Result (MemberPlan _ _ _ _) Refused). Solves c.args.at c.args.number c.as_slice.result.now c.clock-now.result.0 c.args.members.now r c.solve.new.self) c.in_ok-plan.was c.solve.ensures in
    plan_member c.args.members.now c.solve.new.self c.args.traffic.now c.args.at c.args.number c.as_slice.result.now c.clock-now.result.0 c.requires.sound m.same c.in_ok-plan.plan m.there m.answers

pub answer-requires-clause-answers : goal.answer-requires-clause-answers
answer-requires-clause-answers c =
    let m : Solves c.args.at c.args.number c.as_slice.result.now c.clock-now.result.0 c.args.members.now (Ok c.in_ok-plan.plan) c.solve.new.self =
    subst (λ (r : Result (MemberPlan _ _ _ _) Refused). Solves c.args.at c.args.number c.as_slice.result.now c.clock-now.result.0 c.args.members.now r c.solve.new.self) c.in_ok-plan.was c.solve.ensures in
    plan_answers c.args.members.now c.solve.new.self c.args.traffic.now c.args.at c.args.number c.as_slice.result.now c.clock-now.result.0 c.requires.sound m.same c.in_ok-plan.plan m.there m.answers

pub answer-requires-clause-kept : goal.answer-requires-clause-kept
answer-requires-clause-kept c =
    let m : Solves c.args.at c.args.number c.as_slice.result.now c.clock-now.result.0 c.args.members.now (Ok c.in_ok-plan.plan) c.solve.new.self =
    subst (λ (r : Result (MemberPlan _ _ _ _) Refused). Solves c.args.at c.args.number c.as_slice.result.now c.clock-now.result.0 c.args.members.now r c.solve.new.self) c.in_ok-plan.was c.solve.ensures in
    kept_still c.args.members.now c.solve.new.self c.args.traffic.now c.args.at c.args.number c.as_slice.result.now c.clock-now.result.0 c.requires.sound m.same

pub returns-in-Ok : goal.returns-in-Ok
returns-in-Ok c =
    let old = held c.args.members.now c.args.traffic.now in
    let m : Solves c.args.at c.args.number c.as_slice.result.now c.clock-now.result.0 c.args.members.now (Ok c.in_ok-plan.plan) c.solve.new.self =
    subst (λ (r : Result (MemberPlan _ _ _ _) Refused). Solves c.args.at c.args.number c.as_slice.result.now c.clock-now.result.0 c.args.members.now r c.solve.new.self) c.in_ok-plan.was c.solve.ensures in
    subst (λ (rows : List BorderRow). Moves old (Solve c.args.at c.args.number rows) (Ok Done) (held c.answer.new.members c.answer.new.traffic)) c.as_slice.ensures
    (plan_done c.args.members.now c.solve.new.self c.args.traffic.now c.args.at c.args.number c.as_slice.result.now c.clock-now.result.0 c.requires.sound m.same c.in_ok-plan.plan m.there m.answers
    c.answer.new.members c.answer.new.traffic c.in-Ok.ensures.kept
    (ap (λ (t : Tick). t.0) c.clock-now.ensures) c.in-Ok.ensures.next c.in-Ok.ensures.sends)

pub returns : goal.returns
returns c =
    let old = held c.args.members.now c.args.traffic.now in
    let m : Solves c.args.at c.args.number c.as_slice.result.now c.clock-now.result.0 c.args.members.now (Ok c.in_ok-plan.plan) c.solve.new.self =
    subst (λ (r : Result (MemberPlan _ _ _ _) Refused). Solves c.args.at c.args.number c.as_slice.result.now c.clock-now.result.0 c.args.members.now r c.solve.new.self) c.in_ok-plan.was c.solve.ensures in
    subst (λ (rows : List BorderRow). Moves old (Solve c.args.at c.args.number rows) (Err NoMemory) (held c.answer.new.members c.answer.new.traffic)) c.as_slice.ensures
    (plan_lacks c.args.members.now c.solve.new.self c.args.traffic.now c.args.at c.args.number c.as_slice.result.now c.clock-now.result.0 c.requires.sound m.same c.in_ok-plan.plan m.there m.answers
    c.answer.new.members c.answer.new.traffic c.in-Err.ensures.kept c.in-Err.ensures.same c.in-Err.ensures.grows)
