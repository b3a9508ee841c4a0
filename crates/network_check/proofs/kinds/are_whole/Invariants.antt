use Rattle.std.proofs.Common.{◌≡◌, drop, is_some}
use Rattle.toml.specs.View.{items_view}
use Rattle.plant_text.specs.SettingsText.{numbers_in}
use Rattle.network_check.proofs.kinds.are_whole.Given as goal

abbrev pub invariant-loop-item : goal.invariant-loop-item
invariant-loop-item l = is_some (numbers_in (items_view (drop l.item-index l.items))) ≡ is_some (numbers_in (items_view l.items))
