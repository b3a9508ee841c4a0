use Rattle.std.proofs.Common.{◌≡◌, ◌∙◌, false, true, Err, ap, subst}
use Rattle.plant_play.specs.plant_model.Types.{NetworkParts}
use Rattle.plant_text.specs.Settings.{is_element}
use Rattle.plant_client.specs.Bulk.{first_domain}
use Rattle.plant_client.proofs.bulk.network.Goals as goal

pub unreachable-requires : goal.unreachable-requires
unreachable-requires c =
    let lacks = (c.with_client.ensures.refused c.in-Err-Fault.field-0-0 (c.in-Err-Fault.is ∙ ap Err c.in-Err-Fault.field-0-is)).1 in
    let never : true ≡ false = subst (λ (n : NetworkParts). is_element n first_domain ≡ false) c.in_ok-settings.ensures lacks in
    cc
