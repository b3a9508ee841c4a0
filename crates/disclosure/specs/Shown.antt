-- The hops that stand for a segment (RFC 5520, section 2.1; RFC 3209, section 4.3.3.2).
use Rattle.std.specs.Prelude.{false, List, ◌∷◌, map, ℕ, Option}
use Rattle.std.specs.Option.{option_to_list, option_map}
use Rattle.dom_base.specs.declared.addr.Addr.{Addr}
use Rattle.pcep_subobjects.specs.declared.hop.Hop.{Hop}
use Rattle.pcep_subobjects.specs.declared.hop.Hop.TheVariants.{Key}
use Rattle.pcep_subobjects.specs.Hops.{strict_hop}

abbrev pub open_of : List Addr → List Hop
open_of segment = map strict_hop segment

-- the entry, one key for all that lies between, and the end
abbrev pub closed_of : Addr → ℕ → Addr → Option Addr → List Hop
closed_of entry key pce end = strict_hop entry ∷ Key false key pce ∷ option_to_list (option_map strict_hop end)
