-- Which exclusions of a request can be kept (RFC 5521, section 2.1): those that are no mere wish, where each is of a kind
-- whose meaning is known.
use Rattle.std.specs.Prelude.{◌≡◌, ℕ, Bool, true, not, List, Option, Some, None, Result, Ok, Err, filter, position, nat_lt, nat_le, ◌==◌, ◌&&◌}
use Rattle.dom_base.specs.declared.addr.Addr.{Addr}
use Rattle.dom_base.specs.declared.addr.Addr.TheVariants.{V4, V6}
use Rattle.dom_base.specs.declared.query.Exclusion.{Exclusion}
use Rattle.dom_base.specs.declared.query.Excluded.{Excluded}
use Rattle.dom_base.specs.declared.query.Excluded.TheVariants.{Prefix, AsNumber, Srlg, Other}
use Rattle.path_constraints.specs.declared.support.ExclusionError.{ExclusionError}
use Rattle.path_constraints.specs.declared.support.ExclusionError.TheVariants.{Unsupported, NoMemory}

-- how many bits an address of the kind has
abbrev pub bits_of : Addr → ℕ
bits_of (V4 n) = 32
bits_of (V6 n) = 128

-- A prefix of no more bits than its kind has means an interface (attribute 0) or a node (attribute 1). An unnumbered
-- interface (type 4) matches nothing here and is kept without effect.
abbrev pub is_supported : Excluded → Bool
is_supported (Prefix addr length attribute) = nat_lt attribute 2 && nat_le length (bits_of addr)
is_supported (AsNumber number) = true
is_supported (Srlg number) = true
is_supported (Other kind body) = kind == 4

-- a demand, not a mere wish to avoid
abbrev pub is_demand : Exclusion → Bool
is_demand e = not e.avoid

-- the exclusions that are demands, in their order
abbrev pub demands : List Exclusion → List Exclusion
demands list = filter is_demand list

-- the place of the first demand that is not supported
abbrev pub first_unsupported : List Exclusion → Option ℕ
first_unsupported list = position (λ e. is_demand e && not (is_supported e.what)) list

-- What a call answered: the demands where each is supported, else the first that is not, unless memory ran out.
abbrev pub Supports : List Exclusion → Result (List Exclusion) ExclusionError → Type 0
Supports list (Ok kept) = (first_unsupported list ≡ None) × (kept ≡ demands list)
Supports list (Err (Unsupported place)) = first_unsupported list ≡ Some place
Supports list (Err NoMemory) = first_unsupported list ≡ None
