use Rattle.std.proofs.Common.{◌≡◌, true, Ok, Err, sym, subst}
use Rattle.std.specs.Prelude.{IfSome}
use Rattle.pce_common.specs.plant_model.Events.{has_jobs}
use Rattle.pce_parent.specs.declared.work.Done.TheVariants as done
use Rattle.network_members.specs.Answering.{Commits, border_job}
use Rattle.network_members.specs.Tiers.{Tiers}
use Rattle.network_members.specs.TierFields.{tiers_of}
use Rattle.network_members.specs.declared.plan.MemberPlan.TheVariants as plan
use Rattle.network_members.proofs.AnswerLemmas.{answered_at_parent, refused_above}
use Rattle.pce_common.specs.plant_model.Plant.{Pin, Segment}
use Rattle.network_members.proofs.answering.Hierarchy+Topologies.commit_above.Goals as goal

pub returns : goal.returns
returns c =
    let t = tiers_of c.self.inside.network c.self.inside.clock.0 c.self.inside.elements c.self.inside.parent in
    subst (λ (u : Tiers Pin Segment). Commits c.args.at c.args.now.0 (done.Border c.args.solved) u (Ok (plan.Parent c.in-Ok.plan)) (record t { parent = c.commit.new.self })) c.self.view_is
    (answered_at_parent c.args.at c.args.now.0 c.args.solved t c.commit.new.self c.self.invariant c.requires.above (subst (λ (u : Tiers Pin Segment). has_jobs u.network c.args.at ≡ true) (sym c.self.view_is) c.requires.there)
    c.number-number.ensures.right (subst (λ (u : Tiers Pin Segment). IfSome (border_job u c.args.solved.job.number) (λ j. c.args.solved.job ≡ j)) (sym c.self.view_is) c.requires.own) c.commit.ensures.same c.in-Ok.plan
    c.in-Ok.ensures.from c.in-Ok.ensures.given c.in-Ok.ensures.solved)

pub returns-in-Err : goal.returns-in-Err
returns-in-Err c =
    let t = tiers_of c.self.inside.network c.self.inside.clock.0 c.self.inside.elements c.self.inside.parent in
    subst (λ (u : Tiers Pin Segment). Commits c.args.at c.args.now.0 (done.Border c.args.solved) u (Err (record { why = c.in-Err.refusal.why; back = done.Border c.in-Err.refusal.back })) (record t { parent = c.commit.new.self })) c.self.view_is
    (refused_above c.args.at c.args.now.0 c.args.solved t c.commit.new.self c.self.invariant c.requires.above (subst (λ (u : Tiers Pin Segment). has_jobs u.network c.args.at ≡ true) (sym c.self.view_is) c.requires.there)
    c.number-number.ensures.right (subst (λ (u : Tiers Pin Segment). IfSome (border_job u c.args.solved.job.number) (λ j. c.args.solved.job ≡ j)) (sym c.self.view_is) c.requires.own) c.commit.ensures.same c.in-Err.refusal c.in-Err.ensures.why c.in-Err.ensures.back)
