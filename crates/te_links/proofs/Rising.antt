-- Addresses in rising order.
use Rattle.std.proofs.Common.{◌<◌, List}
use Rattle.std.specs.Prelude.{AllPairs}
use Rattle.dom_base.specs.AddrOrder.{rank}
use Rattle.dom_base.specs.declared.addr.Addr.{Addr}

abbrev pub AreRising : List Addr → Type 0
AreRising = AllPairs (λ a b. rank a < rank b)
