use Rattle.std.proofs.Common.{◌≡◌, true, Ok, Err, sym, subst}
use Rattle.std.specs.Prelude.{IfSome}
use Rattle.plant_text.specs.Settings.{is_element}
use Rattle.pce_element.specs.Committing.{IsOwnJob}
use Rattle.pce_parent.specs.declared.work.Done.TheVariants as done
use Rattle.network_members.specs.Answering.{Commits}
use Rattle.network_members.specs.Becoming.{unchanged}
use Rattle.network_members.specs.Elements.{at_domain}
use Rattle.network_members.specs.Tiers.{Tiers}
use Rattle.network_members.specs.TierFields.{tiers_of}
use Rattle.network_members.specs.declared.plan.MemberPlan.TheVariants as plan
use Rattle.network_members.proofs.AnswerLemmas.{answered_below, refused_below}
use Rattle.network_members.proofs.TierLemmas.{set_below}
use Rattle.network_members.proofs.StepLemmas as step
use Rattle.disclosure.specs.Shown.{open_of}
use Rattle.pce_common.specs.plant_model.Plant.{Pin, Segment, first_pin}
use Rattle.network_members.proofs.answering.Hierarchy+Topologies.commit_below.Goals as goal

pub commit-requires-clause-there : goal.commit-requires-clause-there
commit-requires-clause-there c = step.has_element first_pin open_of (tiers_of c.self.inside.network c.self.inside.clock.0 c.self.inside.elements c.self.inside.parent) c.args.at c.self.invariant (subst (λ (t : Tiers Pin Segment). is_element t.network c.args.at ≡ true) (sym c.self.view_is) c.requires.there)

pub invariant_of-self-2 : goal.invariant_of-self-2
invariant_of-self-2 c = set_below c.args.at unchanged (tiers_of c.self.inside.network c.self.inside.clock.0 c.self.inside.elements c.self.inside.parent) c.commit.new.self c.commit.ensures.same c.self.invariant

pub invariant_of-self : goal.invariant_of-self
invariant_of-self c = set_below c.args.at unchanged (tiers_of c.self.inside.network c.self.inside.clock.0 c.self.inside.elements c.self.inside.parent) c.commit.new.self c.commit.ensures.same c.self.invariant

pub returns : goal.returns
returns c =
    let t = tiers_of c.self.inside.network c.self.inside.clock.0 c.self.inside.elements c.self.inside.parent in
    subst (λ (u : Tiers Pin Segment). Commits c.args.at c.args.now.0 (done.Domain c.args.solved) u (Ok (plan.Element c.args.at c.in-Ok.plan)) (record t { elements = c.commit.new.self })) c.self.view_is
    (answered_below c.args.at c.args.now.0 c.args.solved t c.commit.new.self c.self.invariant c.requires.below (subst (λ (u : Tiers Pin Segment). is_element u.network c.args.at ≡ true) (sym c.self.view_is) c.requires.there)
    c.at-at.ensures.right (subst (λ (u : Tiers Pin Segment). IfSome (at_domain c.args.at u.elements) (λ e. IsOwnJob e c.args.solved)) (sym c.self.view_is) c.requires.own) c.commit.ensures.same c.in-Ok.plan
    c.in-Ok.ensures.from c.in-Ok.ensures.taken c.in-Ok.ensures.one c.in-Ok.ensures.solved)

pub returns-in-Err : goal.returns-in-Err
returns-in-Err c =
    let t = tiers_of c.self.inside.network c.self.inside.clock.0 c.self.inside.elements c.self.inside.parent in
    subst (λ (u : Tiers Pin Segment). Commits c.args.at c.args.now.0 (done.Domain c.args.solved) u (Err (record { why = c.in-Err.refusal.why; back = done.Domain c.in-Err.refusal.back })) (record t { elements = c.commit.new.self })) c.self.view_is
    (refused_below c.args.at c.args.now.0 c.args.solved t c.commit.new.self c.self.invariant c.requires.below (subst (λ (u : Tiers Pin Segment). is_element u.network c.args.at ≡ true) (sym c.self.view_is) c.requires.there)
    c.at-at.ensures.right (subst (λ (u : Tiers Pin Segment). IfSome (at_domain c.args.at u.elements) (λ e. IsOwnJob e c.args.solved)) (sym c.self.view_is) c.requires.own) c.commit.ensures.same c.in-Err.refusal c.in-Err.ensures.back)
