use Rattle.std.proofs.Common.{◌≡◌, true, sym, subst}
use Rattle.plant_text.specs.Settings.{is_element}
use Rattle.pce_common.specs.Membership.{HandsOut}
use Rattle.network_members.specs.Tiers.{Tiers, Become, members_of, lost_in}
use Rattle.network_members.specs.TierFields.{tiers_of}
use Rattle.network_members.proofs.TierLemmas.{set_below}
use Rattle.network_members.proofs.StepLemmas as step
use Rattle.network_members.proofs.hierarchy.Hierarchy.next_lost_below.Goals as goal

pub next_lost-requires : goal.next_lost-requires
next_lost-requires g c = step.has_element g.W.World.first g.W.World.show (tiers_of c.self.inside.network c.self.inside.clock.0 c.self.inside.elements c.self.inside.parent) c.args.at c.self.invariant (subst (λ (t : Tiers _ _). is_element t.network c.args.at ≡ true) (sym c.self.view_is) c.requires.there)

pub invariant_of-self : goal.invariant_of-self
invariant_of-self g c = set_below c.args.at _ (tiers_of c.self.inside.network c.self.inside.clock.0 c.self.inside.elements c.self.inside.parent) c.next_lost.new.self c.next_lost.ensures.rest c.self.invariant

pub returns-clause-rest : goal.returns-clause-rest
returns-clause-rest g c =
    let t = tiers_of c.self.inside.network c.self.inside.clock.0 c.self.inside.elements c.self.inside.parent in
    let u : Tiers _ _ = record t { elements = c.next_lost.new.self } in
    subst (λ (v : Tiers _ _). Become g.W.World.first v (members_of g.W.World.first v) (lost_in u) u) c.self.view_is (step.hands_below g.W.World.first g.W.World.show c.args.at t c.next_lost.result c.next_lost.new.self c.next_lost.ensures.rest c.requires.below c.next_lost.ensures.lost).0

pub returns-clause-lost : goal.returns-clause-lost
returns-clause-lost g c =
    let t = tiers_of c.self.inside.network c.self.inside.clock.0 c.self.inside.elements c.self.inside.parent in
    let u : Tiers _ _ = record t { elements = c.next_lost.new.self } in
    subst (λ (v : Tiers _ _). HandsOut c.args.at (lost_in v) c.next_lost.result (lost_in u)) c.self.view_is (step.hands_below g.W.World.first g.W.World.show c.args.at t c.next_lost.result c.next_lost.new.self c.next_lost.ensures.rest c.requires.below c.next_lost.ensures.lost).1
