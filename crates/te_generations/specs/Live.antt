-- A live generation as contracts see it.
use Rattle.std.specs.Prelude.{◌≡◌, ◌≢◌, ℕ, zero, suc, List, [], ◌∷◌}
use Rattle.std.specs.Arc.{arc_value}
use Rattle.dom_base.specs.declared.names.As.{As}
use Rattle.te_links.specs.Rows.{Rows}
use Rattle.te_generations.specs.Shelf.{Generation}
use Rattle.te_generations.specs.declared.live.Live.{Live}

-- a topology without nodes
abbrev pub empty_rows : As → Rows
empty_rows own = record { own = own; nodes = []; links = []; outs = []; entries = [] }

abbrev pub generation_of : Live → Generation Rows
generation_of l = record { number = l.number; pins = l.pins; topology = arc_value l.topology }

-- no generation before this place has the number
abbrev pub Skips : ℕ → ℕ → List Live → Type 0
Skips number zero lives = Unit {0}
Skips number (suc i) [] = Unit {0}
Skips number (suc i) (l ∷ lives) = (l.number ≢ number) × Skips number i lives

-- the first generation of the number stands at this place
abbrev pub IsFirst : ℕ → ℕ → List Live → Type 0
IsFirst number i [] = ⊥
IsFirst number zero (l ∷ lives) = l.number ≡ number
IsFirst number (suc i) (l ∷ lives) = (l.number ≢ number) × IsFirst number i lives
