use Rattle.std.proofs.Common.{◌∙◌}
use Rattle.plant_text.proofs.TextLaws.{all_names}
use Rattle.plant_text.proofs.rows.has_only.Goals as goal

pub returns : goal.returns
returns g c = c.knows_keys.ensures ∙ all_names (g.R.Formed.form.is_key) c.args.table.now.entries
