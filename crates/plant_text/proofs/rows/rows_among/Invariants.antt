use Rattle.std.proofs.Common.{◌≡◌, drop}
use Rattle.toml.specs.View.{items_view}
use Rattle.plant_text.specs.SettingsText.{rows_in}
use Rattle.plant_text.proofs.TextLaws.{ahead}
use Rattle.plant_text.proofs.rows.rows_among.Given as goal

-- the rows so far and those of the items that are left are those of all items
abbrev pub invariant-loop-item : goal.invariant-loop-item
invariant-loop-item g l = ahead l.rows (rows_in g.R.Formed.form (items_view (drop l.item-index l.items))) ≡ rows_in g.R.Formed.form (items_view l.items)
