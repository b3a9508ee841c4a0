-- Labels as contracts see them, by their fields.
use Rattle.std.specs.Prelude.{List}
use Rattle.std.specs.declared.option.Option.{Option}
use Rattle.dom_base.specs.declared.query.Label.{Label}
use Rattle.path_search.specs.declared.labels.Labels.TheInside.{Inside}
use Rattle.path_search.specs.Short.{AreShort, labels_by}

abbrev pub HoldsShort : Inside → Type 0
HoldsShort w = AreShort w.exits.items w.rows.items

abbrev pub labels_of : Inside → List (Option Label)
labels_of w = labels_by w.exits.items w.rows.items
