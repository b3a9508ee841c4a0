use Rattle.std.proofs.Common.{◌≡◌, ◌∙◌, ap, subst}
use Rattle.std.specs.Prelude.{IfOk}
use Rattle.pce_common.specs.plant_model.Types.{Message}
use Rattle.pce_common.specs.plant_model.RealWire.{wire}
use Rattle.pce_common.specs.Membership.{heard}
use Rattle.network_members.specs.Tiers.{Tiers, members_of}
use Rattle.network_members.specs.TierFields.{tiers_of}
use Rattle.network_members.proofs.HeedLemmas.{heard_below}
use Rattle.network_members.proofs.members.HierarchyMembers.heed.Goals as goal

pub returns : goal.returns
returns g c =
    let t = tiers_of c.self.inside.network c.self.inside.clock.0 c.self.inside.elements c.self.inside.parent in
    record {
      heard =
          subst (λ (m : Message). IfOk c.heed.result (λ heeded. heeded ≡ m))
          (heard_below g.W.World.first t c.args.at c.args.peer c.args.message ∙ ap (λ (u : Tiers _ _). heard wire c.args.at c.args.peer c.args.message (members_of g.W.World.first u)) c.self.view_is)
          c.heed.ensures;
    }
