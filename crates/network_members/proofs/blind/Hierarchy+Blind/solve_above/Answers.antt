use Rattle.std.proofs.Common.{◌≡◌, true, Result, Ok, Err, sym, subst}
use Rattle.std.specs.Prelude.{IfErr}
use Rattle.std.proofs.lemmas.Result.{err_from_is_err_and}
use Rattle.pce_common.specs.plant_model.declared.outcome.Refused.{Refused}
use Rattle.pce_common.specs.plant_model.Blind.{Nothing}
use Rattle.pce_common.specs.plant_model.Events.{has_jobs}
use Rattle.pce_parent.specs.Seen.{job_at}
use Rattle.pce_parent.specs.Solution.{BorderSolution}
use Rattle.network_members.specs.Blind.{IsUnsolved, Solves}
use Rattle.network_members.specs.Tiers.{Tiers}
use Rattle.network_members.specs.TierFields.{tiers_of}
use Rattle.network_members.specs.declared.plan.MemberPlan.TheVariants as plan
use Rattle.network_members.proofs.BlindLemmas.{refused_above, solved_at_parent, unsolved_above}
use Rattle.network_members.proofs.blind.Hierarchy+Blind.solve_above.Goals as goal

pub returns-in_err-solved : goal.returns-in_err-solved
returns-in_err-solved c =
    let p = err_from_is_err_and c.from_residual.result c.from_residual.ensures.1 in
    let t = tiers_of c.self.inside.network c.self.inside.clock.0 c.self.inside.elements c.self.inside.parent in
    let why : IsUnsolved (job_at t.parent c.args.number) c.in_err-solved.field-0.0 =
    subst (λ (r : Result BorderSolution Refused). IfErr r (IsUnsolved (job_at t.parent c.args.number))) c.in_err-solved.was c.solve_job.ensures.why in
    rw (p.1, p.2)
    (subst (λ (u : Tiers Nothing Nothing). Solves c.args.at c.args.number c.args._rows.now c.args.now.0 u (Err c.in_err-solved.field-0.0) u) c.self.view_is
    (unsolved_above c.args.at c.args.number c.args._rows.now c.args.now.0 t c.self.invariant c.requires.above (subst (λ (u : Tiers Nothing Nothing). has_jobs u.network c.args.at ≡ true) (sym c.self.view_is) c.requires.there)
    c.in_err-solved.field-0.0 why))

pub returns : goal.returns
returns c =
    let t = tiers_of c.self.inside.network c.self.inside.clock.0 c.self.inside.elements c.self.inside.parent in
    subst (λ (u : Tiers Nothing Nothing). Solves c.args.at c.args.number c.args._rows.now c.args.now.0 u (Ok (plan.Parent c.in-Ok.plan)) (record t { parent = c.commit.new.self })) c.self.view_is
    (solved_at_parent c.args.at c.args.number c.args._rows.now c.args.now.0 t c.self.invariant c.requires.above (subst (λ (u : Tiers Nothing Nothing). has_jobs u.network c.args.at ≡ true) (sym c.self.view_is) c.requires.there)
    c.in_ok-solved.solved c.commit.new.self c.in_ok-solved.ensures.job c.in_ok-solved.ensures.answer c.commit.ensures.same c.in-Ok.plan c.in-Ok.ensures.from c.in-Ok.ensures.given)

pub returns-in-Err : goal.returns-in-Err
returns-in-Err c =
    let t = tiers_of c.self.inside.network c.self.inside.clock.0 c.self.inside.elements c.self.inside.parent in
    subst (λ (u : Tiers Nothing Nothing). Solves c.args.at c.args.number c.args._rows.now c.args.now.0 u (Err c.in-Err.refusal.why) (record t { parent = c.commit.new.self })) c.self.view_is
    (refused_above c.args.at c.args.number c.args._rows.now c.args.now.0 t c.self.invariant c.requires.above (subst (λ (u : Tiers Nothing Nothing). has_jobs u.network c.args.at ≡ true) (sym c.self.view_is) c.requires.there)
    c.in_ok-solved.solved c.commit.new.self c.in_ok-solved.ensures.job c.in_ok-solved.ensures.answer c.commit.ensures.same c.in-Err.refusal.why c.in-Err.ensures.why)
