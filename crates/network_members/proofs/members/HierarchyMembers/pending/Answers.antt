use Rattle.std.proofs.Common.{◌≡◌, ◌∙◌, ◌+◌, ℕ, length, map, arith, sym, ap}
use Rattle.plant_text.specs.Settings.{elements_of}
use Rattle.pce_common.specs.Owed.{pending_in}
use Rattle.network_members.specs.Elements.{own_of}
use Rattle.network_members.specs.Tiers.{Tiers, members_of}
use Rattle.network_members.specs.TierFields.{tiers_of}
use Rattle.network_members.proofs.NetworkLemmas.{few_elements}
use Rattle.network_members.proofs.TickLemmas.{length_owns, pending_is}
use Rattle.network_members.proofs.members.HierarchyMembers.pending.Goals as goal

pub pending-requires-2 : goal.pending-requires-2
pending-requires-2 g c =
    let t = tiers_of c.self.inside.network c.self.inside.clock.0 c.self.inside.elements c.self.inside.parent in
    let same : length (map own_of t.elements) ≡ length (elements_of t.network.elements) = ap length c.self.invariant.domains in
    omega (arith, same, length_owns g.W.World.first t.elements, few_elements t.network c.parts-settings.ensures.rules)

pub returns : goal.returns
returns g c =
    let t = tiers_of c.self.inside.network c.self.inside.clock.0 c.self.inside.elements c.self.inside.parent in
    let parent : c.pending.result ≡ length t.parent.losing.parent.pending.rows = c.pending.ensures.count in
    ap (λ (n : ℕ). n + c.pending-2.result) parent
    ∙ ap (λ (n : ℕ). length t.parent.losing.parent.pending.rows + n) (c.pending-2.ensures.count ∙ sym (pending_is g.W.World.first t c.self.invariant))
    ∙ ap (λ (u : Tiers _ _). pending_in (elements_of u.network.elements) (members_of g.W.World.first u)) c.self.view_is
