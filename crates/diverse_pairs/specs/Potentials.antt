-- Potentials: a number for each address.
use Rattle.std.specs.Prelude.{ℕ, ◌<◌, List, AllPairs, Contains}
use Rattle.dom_base.specs.AddrOrder.{rank}
use Rattle.dom_base.specs.AddrRows.{said_of}
use Rattle.dom_base.specs.declared.addr.Addr.{Addr}
use Rattle.diverse_pairs.specs.declared.certificate.PairForm.{PairForm}
use Rattle.diverse_pairs.specs.declared.certificate.PairForm.TheVariants.{Paths, Cut}

-- the potential of an address, which is 0 where no row names it
abbrev pub potential_in : List (Addr × ℕ) → Addr → ℕ
potential_in rows n = said_of 0 rows n

-- the rows stand in strictly rising order of address
abbrev pub AreRising : List (Addr × ℕ) → Type 0
AreRising = AllPairs (λ a b. rank a.0 < rank b.0)

abbrev pub HasRising : PairForm → Type 0
HasRising (Paths potentials first second) = AreRising potentials
HasRising (Cut nodes) = Unit {0}

-- Potentials are counted from 0: some node has no more.
abbrev pub StartsAtZero : PairForm → Type 0
StartsAtZero (Paths potentials first second) = (n : Addr) × Contains potentials (n, 0)
StartsAtZero (Cut nodes) = Unit {0}
