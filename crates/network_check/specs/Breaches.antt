-- The faults that a topology has, one after another: each is the first of the text in which the lines of those before it are comments.
use Rattle.std.specs.Prelude.{◌≡◌, ◌⊎◌, ◌≤◌, ◌+◌, ◌-◌, ◌==◌, ℕ, List, [], ◌∷◌, length, slice_set, Option, Some, None, Bool, true, false, if◌then◌else◌}
use Rattle.dom_base.specs.declared.names.As.{As}
use Rattle.te_links.specs.Rows.{Rows}
use Rattle.te_text.specs.Reads.{Reads}
use Rattle.plant_text.specs.declared.fault.NetFault.{NetFault}
use Rattle.plant_text.specs.declared.fault.NetFault.TheVariants as fault
use Rattle.network_files.specs.Reading.{IsTopologyFault}
use Rattle.network_check.specs.declared.breaches.Breach.{Breach}

-- the place behind so many line ends
abbrev pub place_behind : ℕ → List ℕ → ℕ
place_behind ends [] = 0
place_behind ends (c ∷ cs) = if ends == 0 then 0 else place_behind (if c == 10 then ends - 1 else ends) cs + 1

-- the text with a line, by its number from 1, as a comment: it begins with `#`
abbrev pub commented : ℕ → List ℕ → List ℕ
commented line text = slice_set text (place_behind (line - 1) text) 35

-- the text in which a fault is passed over; a topology of another domain breaks no rule of its own
abbrev pub left_by : ℕ → List ℕ → NetFault → List ℕ
left_by line text fault.OtherAs = text
left_by line text other = commented line text

abbrev pub passed_over : Breach → List ℕ → List ℕ
passed_over b text = left_by b.line text b.fault

abbrev pub passed_all : List ℕ → List Breach → List ℕ
passed_all text [] = text
passed_all text (b ∷ bs) = passed_all (passed_over b text) bs

-- each is the first fault of what is left of the text
abbrev pub AreBreaches : As → List ℕ → List Breach → Type 0
AreBreaches at text [] = Unit {0}
AreBreaches at text (b ∷ bs) = IsTopologyFault at text b.line b.fault × AreBreaches at (passed_over b text) bs

-- how many are told of a topology
abbrev pub breaches_max : ℕ
breaches_max = 100

-- the text breaks no rule, or this is the first that it breaks
abbrev pub IsNext : As → List ℕ → Option Breach → Type 0
IsNext at text None = (g : Rows) × Reads text g
IsNext at text (Some b) = IsTopologyFault at text b.line b.fault

-- no other fault is behind it
abbrev pub is_last : NetFault → Bool
is_last fault.OtherAs = true
is_last other = false

-- These are the faults of a text, of which there are some; they are all, or there are so many.
pub record IsRefused (at : As) (text : List ℕ) (bs : List Breach) : Type 0 where
  pub some : 1 ≤ length bs
  pub breaches : AreBreaches at text bs
  pub all : (length bs ≡ breaches_max) ⊎ ((g : Rows) × Reads (passed_all text bs) g)
