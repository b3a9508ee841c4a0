use Rattle.std.proofs.Common.{◌≡◌, drop}
use Rattle.toml.specs.View.{items_view}
use Rattle.plant_text.specs.SettingsText.{numbers_in}
use Rattle.plant_text.proofs.TextLaws.{in_front}
use Rattle.plant_text.proofs.value.numbers_among.Given as goal

-- the numbers so far and those of the items that are left are those of all items
abbrev pub invariant-loop-item : goal.invariant-loop-item
invariant-loop-item l = in_front l.numbers (numbers_in (items_view (drop l.item-index l.items))) ≡ numbers_in (items_view l.items)
