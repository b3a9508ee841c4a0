use Rattle.std.proofs.Common.{◌∙◌, sym}
use Rattle.slab.specs.Slab.{get}
use Rattle.request_table.proofs.RowLemmas.{absent_in, found_in, rises_in}
use Rattle.request_table.proofs.rows.Rows.get.Goals as goal

pub place_of-requires : goal.place_of-requires
place_of-requires g c = rises_in (get c.self.inside.values) c.self.inside.places.items c.as_slice.result.now c.self.invariant c.as_slice.ensures.value

pub returns-in_default : goal.returns-in_default
returns-in_default g c =
    rw (← c.self.view_is) (absent_in (get c.self.inside.values) c.self.inside.places.items c.as_slice.result.now c.self.invariant c.as_slice.ensures.value c.args.number c.in_default.ensures)

pub returns : goal.returns
returns g c =
    rw (← c.self.view_is)
    (c.get.ensures
    ∙ sym (found_in (get c.self.inside.values) c.self.inside.places.items c.as_slice.result.now c.self.invariant c.as_slice.ensures.value c.args.number c.in-Some.k c.index.result.now c.in-Some.ensures c.index.ensures))
