use Rattle.std.proofs.Common.{◌∙◌}
use Rattle.plant_text.specs.SettingsText.{parent_key}
use Rattle.plant_text.proofs.TextLaws.{all_names}
use Rattle.plant_text.proofs.document.has_parent_keys.Goals as goal

pub returns : goal.returns
returns c = c.knows_parent_keys.ensures ∙ all_names parent_key c.args.table.now.entries
