use Rattle.std.proofs.Common.{ap}
use Rattle.slab.specs.Slab.{Slab}
use Rattle.request_table.proofs.RowLemmas.{same_places}
use Rattle.request_table.proofs.rows.Rows.reserve.Goals as goal

pub invariant_of-self-in_err-reserve-2 : goal.invariant_of-self-in_err-reserve-2
invariant_of-self-in_err-reserve-2 g c =
    same_places c.self.inside.values c.reserve-2.new.self c.self.inside.places.items c.reserve.new.self.items (ap (λ (s : Slab g.row.X.Denot). s.slots) c.reserve-2.ensures.rest_kept)
    c.reserve.ensures.items c.self.invariant

pub invariant_of-self-2 : goal.invariant_of-self-2
invariant_of-self-2 g c =
    same_places c.self.inside.values c.reserve-2.new.self c.self.inside.places.items c.reserve.new.self.items (ap (λ (s : Slab g.row.X.Denot). s.slots) c.reserve-2.ensures.rest_kept)
    c.reserve.ensures.items c.self.invariant
