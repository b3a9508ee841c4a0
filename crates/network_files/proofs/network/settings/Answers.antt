use Rattle.std.proofs.Common.{◌∙◌, Err, ap, subst}
use Rattle.plant_text.specs.declared.settings.NetworkParts.{NetworkParts}
use Rattle.plant_text.specs.Faults.{IsFirst}
use Rattle.plant_text.specs.Rules.{rules_of}
use Rattle.network_files.proofs.DrawnSettingsLemmas.{no_fault}
use Rattle.network_files.proofs.network.settings.Goals as goal

pub unreachable-requires : goal.unreachable-requires
unreachable-requires c =
    let fault = c.in-Err-Fault.field-0-0 in
    no_fault fault (subst (λ (n : NetworkParts). IsFirst (rules_of n) fault) c.in_ok-parts.ensures (c.build.ensures.refused fault (c.in-Err-Fault.is ∙ ap Err c.in-Err-Fault.field-0-is)))
