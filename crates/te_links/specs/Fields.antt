-- What the fields of a topology mean, and what always holds of them.
use Rattle.std.specs.Prelude.{◌<◌, ◌^◌, length}
use Rattle.te_links.specs.declared.topology.Topology.TheInside.{Inside}
use Rattle.te_links.specs.Rows.{Rows, IsTopology, IsInOrder}
use Rattle.te_links.specs.Indexed.{IsIndex}

abbrev pub rows_of : Inside → Rows
rows_of t = record { own = t.own; nodes = t.nodes.items; links = t.links.items; outs = t.outs.items; entries = t.entries.items }

pub record HoldsRules (t : Inside) : Type 0 where
  pub rules : IsTopology (rows_of t)
  pub order : IsInOrder (rows_of t)
  pub short : length t.entries.items < 2 ^ 32
  pub index : IsIndex t.nodes.items t.links.items t.index
