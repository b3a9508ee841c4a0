use Rattle.std.proofs.Common.{◌<◌, ◌^◌, All, length, sym, subst}
use Rattle.pce_common.specs.plant_model.Types.{NetworkParts}
use Rattle.plant_text.specs.Settings.{elements_of}
use Rattle.pce_common.specs.plant_model.Settings.{family}
use Rattle.pce_parent.specs.Seen.{IsNew}
use Rattle.pce_parent.specs.Solution.{IsWeighed}
use Rattle.network_members.specs.Fresh.{AreNew, LivesFit, parent_id}
use Rattle.network_members.proofs.NetworkLemmas.{lives_fit, weighed_links}
use Rattle.network_members.proofs.BegunLemmas.{set_new, begun_is, none_lost}
use Rattle.network_members.proofs.hierarchy.Hierarchy.new.Goals as goal

pub of-requires-clause-lives : goal.of-requires-clause-lives
of-requires-clause-lives g c = subst LivesFit (sym c.parts-parts.ensures.parts) (lives_fit c.args.network c.parts-parts.ensures.rules)

pub of-requires-clause-peers : goal.of-requires-clause-peers
of-requires-clause-peers g c = subst (λ (n : NetworkParts). length n.peers < 2 ^ 32) (sym c.parts-parts.ensures.parts) c.parts-parts.ensures.rules.few

pub parent_of-requires : goal.parent_of-requires
parent_of-requires g c = record { weighed = subst (λ (n : NetworkParts). All IsWeighed n.parent_links) (sym c.parts-parts.ensures.parts) (weighed_links c.args.network c.parts-parts.ensures.rules) }

pub invariant_of-result : goal.invariant_of-result
invariant_of-result g c =
    let n = c.args.network in
    set_new g.W.World.first n c.in_ok-elements.elements (parent_id n.parent) c.in_ok-parent.parent
    (subst (λ (m : NetworkParts). AreNew g.W.World.first m (elements_of m.elements) c.in_ok-elements.elements) c.parts-parts.ensures.parts c.in_ok-elements.ensures)
    (subst (λ (m : NetworkParts). IsNew (parent_id m.parent) (family m) c.in_ok-parent.parent) c.parts-parts.ensures.parts c.in_ok-parent.ensures)

pub returns-clause-begun : goal.returns-clause-begun
returns-clause-begun g c =
    let n = c.args.network in
    begun_is g.W.World.first g.W.World.show n c.in_ok-elements.elements (parent_id n.parent) c.in_ok-parent.parent c.parts-parts.ensures.rules
    (subst (λ (m : NetworkParts). AreNew g.W.World.first m (elements_of m.elements) c.in_ok-elements.elements) c.parts-parts.ensures.parts c.in_ok-elements.ensures)
    (subst (λ (m : NetworkParts). IsNew (parent_id m.parent) (family m) c.in_ok-parent.parent) c.parts-parts.ensures.parts c.in_ok-parent.ensures)

pub returns-clause-none : goal.returns-clause-none
returns-clause-none g c =
    let n = c.args.network in
    none_lost g.W.World.first n c.in_ok-elements.elements (parent_id n.parent) c.in_ok-parent.parent
    (subst (λ (m : NetworkParts). AreNew g.W.World.first m (elements_of m.elements) c.in_ok-elements.elements) c.parts-parts.ensures.parts c.in_ok-elements.ensures)
    (subst (λ (m : NetworkParts). IsNew (parent_id m.parent) (family m) c.in_ok-parent.parent) c.parts-parts.ensures.parts c.in_ok-parent.ensures)
