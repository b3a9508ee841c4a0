use Rattle.slab.specs.Slab.{get}
use Rattle.request_table.proofs.RowLemmas.{none_at_in, past_in, row_in}
use Rattle.request_table.proofs.rows.Rows.at.Goals as goal

pub returns-in_default : goal.returns-in_default
returns-in_default g c =
    rw (← c.self.view_is) (past_in (get c.self.inside.values) c.self.inside.places.items c.deref.result.now c.self.invariant c.deref.ensures.value c.args.k c.in_default.ensures.lookup.3)

pub returns-in-Some-get : goal.returns-in-Some-get
returns-in-Some-get g c =
    let read = c.in-Some.ensures.lookup in
    rw (← c.self.view_is)
    (row_in (get c.self.inside.values) c.self.inside.places.items c.deref.result.now c.self.invariant c.deref.ensures.value c.args.k c.in-Some.place.now c.in-Some-get.value.now read.3.0 read.1
    c.in-Some-get.ensures)

pub returns-in-None : goal.returns-in-None
returns-in-None g c =
    let read = c.in-Some.ensures.lookup in
    absurd (none_at_in (get c.self.inside.values) c.self.inside.places.items c.deref.result.now c.self.invariant c.deref.ensures.value c.args.k c.in-Some.place.now read.3.0 read.1 c.in-None.ensures)
