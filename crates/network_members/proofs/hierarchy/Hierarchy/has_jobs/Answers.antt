use Rattle.std.proofs.Common.{◌∙◌, Bool, cond, is_some, sym, ap}
use Rattle.plant_text.specs.Settings.{is_element}
use Rattle.pce_common.specs.plant_model.Events.{has_jobs}
use Rattle.network_members.specs.Tiers.{Tiers}
use Rattle.network_members.specs.TierFields.{tiers_of}
use Rattle.network_members.proofs.RisingDomains.{element_is}
use Rattle.network_members.proofs.hierarchy.Hierarchy.has_jobs.Goals as goal

pub returns-else-is_parent : goal.returns-else-is_parent
returns-else-is_parent g c =
    let t = tiers_of c.self.inside.network c.self.inside.clock.0 c.self.inside.elements c.self.inside.parent in
    c.has.ensures ∙ sym (element_is t.network c.args.at t.elements c.self.invariant.domains)
    ∙ sym (ap (λ (b : Bool). cond b (is_some t.network.parent) (is_element t.network c.args.at)) (sym c.is_parent.ensures ∙ c.if-is_parent.false))
    ∙ ap (λ (u : Tiers _ _). has_jobs u.network c.args.at) c.self.view_is
