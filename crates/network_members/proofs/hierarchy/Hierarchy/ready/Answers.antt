use Rattle.std.proofs.Common.{◌≡◌, ◌∙◌, ◌-◌, ℕ, List, sym, ap, subst}
use Rattle.std.specs.Prelude.{slice_get}
use Rattle.pce_common.specs.plant_model.Types.{As}
use Rattle.plant_text.specs.Names.{parent_as}
use Rattle.pce_common.specs.plant_model.Events.{ready_jobs}
use Rattle.pce_common.specs.plant_model.Parent.{ready_numbers}
use Rattle.pce_common.specs.plant_model.State.{State}
use Rattle.network_members.specs.Ready.{jobs_in}
use Rattle.network_members.specs.Tiers.{Tiers, members_of}
use Rattle.network_members.specs.TierFields.{tiers_of}
use Rattle.network_members.proofs.ReadyLemmas.{behind}
use Rattle.network_members.proofs.TierLoads.{all_ready}
use Rattle.network_members.proofs.hierarchy.Hierarchy.ready.Goals as goal

pub returns : goal.returns
returns g c =
    let t = tiers_of c.self.inside.network c.self.inside.clock.0 c.self.inside.elements c.self.inside.parent in
    let k = c.args.k in
    let numbers : List ℕ = ready_numbers t.parent.losing.parent.pending.rows in
    let none = sym c.ready.ensures ∙ c.in_default.is in
    subst (λ (u : Tiers _ _). (s : State _ _) → s.elements ≡ (members_of g.W.World.first u).elements → s.parent ≡ (members_of g.W.World.first u).parent → c.ready-2.result ≡ slice_get (ready_jobs u.network s) k) c.self.view_is
    (λ s es p.
    c.ready-2.ensures
    ∙ ap (λ (n : ℕ). slice_get (jobs_in t.elements) (k - n)) c.count_above.ensures
    ∙ sym (behind parent_as numbers (jobs_in t.elements) k none)
    ∙ ap (λ (js : List (As × ℕ)). slice_get js k) (sym (all_ready g.W.World.first t s c.self.invariant es p)))
