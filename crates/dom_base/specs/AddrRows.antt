-- Values of addresses, in rows.
use Rattle.std.specs.Prelude.{◌==◌, List, [], ◌∷◌, if◌then◌else◌}
use Rattle.dom_base.specs.AddrOrder.{rank}
use Rattle.dom_base.specs.declared.addr.Addr.{Addr}

-- the value in the first row of an address, and the given value where no row has the address
abbrev pub said_of : {V : Type 0} → V → List (Addr × V) → Addr → V
said_of nothing [] n = nothing
said_of nothing (row ∷ rows) n = if rank row.0 == rank n then row.1 else said_of nothing rows n
