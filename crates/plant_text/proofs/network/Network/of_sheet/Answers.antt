use Rattle.plant_text.proofs.SheetLaws.{settings_clear}
use Rattle.plant_text.proofs.NetworkLaws.{holds_new}
use Rattle.plant_text.proofs.network.Network.of_sheet.Goals as goal

pub invariant_of-result : goal.invariant_of-result
invariant_of-result c = rw c.len-given.ensures (holds_new c.args.sheet.parts (settings_clear c.args.sheet c.in_ok-check.ensures))
