use Rattle.std.proofs.Common.{◌≡◌, ◌++◌, drop}
use Rattle.toml.specs.View.{items_view}
use Rattle.network_check.specs.Columns.{items_text}
use Rattle.network_check.proofs.rows.tell_items.Given as goal

abbrev pub invariant-loop-i : goal.invariant-loop-i
invariant-loop-i l =
    l.into.items ++ items_text l.page.file.now l.page.text.now l.section l.i (items_view (drop l.i l.items)) ≡ l.initial.into.items ++ items_text l.page.file.now l.page.text.now l.section 0 (items_view l.items)
