use Rattle.std.proofs.Common.{◌∙◌, List, length, sym, ap}
use Rattle.slab.specs.Slab.{get}
use Rattle.request_table.specs.declared.rows.Place.{Place}
use Rattle.request_table.proofs.RowLemmas.{length_rows}
use Rattle.request_table.proofs.rows.Rows.len.Goals as goal

pub returns : goal.returns
returns g c = rw (← c.self.view_is) (ap (λ (xs : List Place). length xs) c.as_slice.ensures.value ∙ sym (length_rows (get c.self.inside.values) c.self.inside.places.items c.self.invariant))
