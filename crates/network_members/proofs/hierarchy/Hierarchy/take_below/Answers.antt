use Rattle.std.proofs.Common.{◌≡◌, ◌∙◌, true, sym, ap, subst}
use Rattle.std.specs.Prelude.{IfOk, IfSome}
use Rattle.pce_common.specs.plant_model.Types.{Class, NetworkParts}
use Rattle.plant_text.specs.Settings.{class_of, is_element}
use Rattle.network_members.specs.Becoming.{taken_by, unchanged}
use Rattle.network_members.specs.Elements.{at_domain}
use Rattle.network_members.specs.Tiers.{Tiers}
use Rattle.network_members.specs.TierFields.{tiers_of}
use Rattle.network_members.proofs.TierLemmas.{set_below}
use Rattle.network_members.proofs.StepLemmas as step
use Rattle.network_members.proofs.hierarchy.Hierarchy.take_below.Goals as goal

pub take-requires-clause-there : goal.take-requires-clause-there
take-requires-clause-there g c = step.has_element g.W.World.first g.W.World.show (tiers_of c.self.inside.network c.self.inside.clock.0 c.self.inside.elements c.self.inside.parent) c.args.at c.self.invariant (subst (λ (t : Tiers _ _). is_element t.network c.args.at ≡ true) (sym c.self.view_is) c.requires.there)

pub invariant_of-self : goal.invariant_of-self
invariant_of-self g c = set_below c.args.at unchanged (tiers_of c.self.inside.network c.self.inside.clock.0 c.self.inside.elements c.self.inside.parent) c.take.new.self c.take.ensures.same c.self.invariant

pub returns : goal.returns
returns g c =
    let t = tiers_of c.self.inside.network c.self.inside.clock.0 c.self.inside.elements c.self.inside.parent in
    let class : c.class_of-class.result ≡ class_of t.network c.args.peer = c.class_of-class.ensures ∙ ap (λ (n : NetworkParts). class_of n c.args.peer) c.parts.ensures.parts in
    let taken = subst (λ (k : Class). IfOk c.take.result (λ x. IfSome (at_domain c.args.at t.elements) (λ e. x.taken ≡ taken_by g.W.World.show c.args.peer k c.args.now.0 c.args.message e))) class c.take.ensures.taken in
    step.planned_takes g.W.World.first g.W.World.show c.args.at c.args.peer c.args.now.0 c.args.message t c.args.self.now c.take.new.self c.take.result c.planned_below.result c.self.view_is c.planned_below.ensures c.self.invariant c.take.ensures.same c.requires.below c.take.ensures.from taken
