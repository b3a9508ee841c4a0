-- Labels as pairs of numbers: a cost, and the place of the exit among exits that rise.
use Rattle.std.specs.Prelude.{◌≡◌, ◌⊎◌, ◌<◌, ◌≤◌, ◌+◌, ℕ, List, length, All, AllPairs, Bool, true, false, None, Some, map, nat_lt, slice_index_or}
use Rattle.std.specs.declared.option.Option.{Option}
use Rattle.dom_base.specs.AddrOrder.{rank}
use Rattle.dom_base.specs.declared.addr.Addr.{Addr}
use Rattle.dom_base.specs.declared.addr.Addr.TheVariants.{V4}
use Rattle.dom_base.specs.declared.limits.TheConstants.{COST_MAX}
use Rattle.dom_base.specs.declared.query.Label.{Label}
use Rattle.path_search.specs.declared.blocks.TheConstants.{NOTHING}
use Rattle.path_search.specs.declared.short.Short.{Short}

-- the label that a pair is short for
abbrev pub long_of : List Addr → Short → Label
long_of exits s = record { cost = s.cost; exit = slice_index_or exits s.exit (V4 0) }

-- the greatest number stands for no cost, so for no label
abbrev pub label_if : Bool → List Addr → Short → Option Label
label_if true exits s = Some (long_of exits s)
label_if false exits s = None

abbrev pub label_by : List Addr → Short → Option Label
label_by exits s = label_if (nat_lt s.cost NOTHING) exits s

abbrev pub labels_by : List Addr → List Short → List (Option Label)
labels_by exits rows = map (label_by exits) rows

-- an arc of this weight put before
abbrev pub put_before : ℕ → Short → Short
put_before weight s = record { cost = weight + s.cost; exit = s.exit }

-- less by the cost, and then by the place of the exit
abbrev pub IsLess : Short → Short → Type 0
IsLess a b = (a.cost < b.cost) ⊎ ((a.cost ≡ b.cost) × (a.exit < b.exit))

-- what stands for a label has a cost, and the place of an exit
pub record IsShort (exits : List Addr) (s : Short) : Type 0 where
  pub cost : s.cost < NOTHING → s.cost ≤ COST_MAX
  pub exit : s.cost < NOTHING → s.exit < length exits

-- each address comes before those behind it
abbrev pub DoRise : List Addr → Type 0
DoRise exits = AllPairs (λ a b. rank a < rank b) exits

-- the exits rise, and each row is short for a label or for none
pub record AreShort (exits : List Addr) (rows : List Short) : Type 0 where
  pub rise : DoRise exits
  pub each : All (IsShort exits) rows

-- none in the place of a label that costs more
abbrev pub cut_short_if : Bool → Short → Short
cut_short_if true s = record { cost = NOTHING; exit = s.exit }
cut_short_if false s = s

abbrev pub cut_short : ℕ → Short → Short
cut_short c s = cut_short_if (nat_lt c s.cost) s

-- what stands where there is no label
abbrev pub no_label : Short
no_label = record { cost = NOTHING; exit = 0 }
