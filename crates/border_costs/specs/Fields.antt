-- A solved job as contracts see it, by its fields.
use Rattle.std.specs.Prelude.{◌≡◌}
use Rattle.te_links.specs.Rows.{IsTopology, IsInOrder}
use Rattle.border_costs.specs.Solutions.{Solution, AreRows}
use Rattle.border_costs.specs.declared.solved.Solved.TheInside.{Inside}

abbrev pub solution_of : Inside → Solution
solution_of a = record { ask = a.ask.value; topology = a.topology.value; rows = a.rows }

pub record IsRight (a : Inside) : Type 0 where
  pub right : AreRows a.topology.value a.ask.value a.rows
  pub at : a.at ≡ a.ask.value.at
  pub number : a.number ≡ a.ask.value.number
  pub own : a.own ≡ a.topology.value.own
  pub rules : IsTopology a.topology.value
  pub order : IsInOrder a.topology.value
