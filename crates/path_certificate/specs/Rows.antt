-- The rows of a certificate, which say what is claimed of a node.
use Rattle.std.specs.Prelude.{◌<◌, List, None, All, AllPairs, Contains}
use Rattle.std.specs.declared.option.Option.{Option}
use Rattle.dom_base.specs.AddrOrder.{rank}
use Rattle.dom_base.specs.AddrRows.{said_of}
use Rattle.dom_base.specs.declared.addr.Addr.{Addr}
use Rattle.dom_base.specs.declared.query.Label.{Label}

-- the label of an address, which is none where no row names it
abbrev pub label_in : List (Addr × Option Label) → Addr → Option Label
label_in rows n = said_of None rows n

-- the rows stand in strictly rising order of address, each at a node
pub record AreLabelRows (nodes : List Addr) (rows : List (Addr × Option Label)) : Type 0 where
  pub rising : AllPairs (λ a b. rank a.0 < rank b.0) rows
  pub at_nodes : All (λ row. Contains nodes row.0) rows
