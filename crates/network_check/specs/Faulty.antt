-- What is told of settings that are at fault: the first rule that they break, and each key that lacks, is not known, or has a value that it may not have.
use Rattle.std.specs.Prelude.{ℕ, ◌==◌, List, [], ◌∷◌, ◌++◌, codes, Option, Some, None, if◌then◌else◌}
use Rattle.dom_base.specs.Steps.{◌>>=◌}
use Rattle.toml.specs.Data.{Data, Members, table, at, get_member}
use Rattle.plant_text.specs.declared.fault.NetFault.{NetFault}
use Rattle.plant_text.specs.declared.fault.NetFault.TheVariants as fault
use Rattle.network_check.specs.declared.sections.Section.TheVariants.{Elements, Links, Peers, Denials, Parent, ParentLinks, Top}
use Rattle.network_check.specs.Columns.{label_of, row_text, rows_text}
use Rattle.network_files.specs.Faults.{fault_text}
use Rattle.network_check.specs.Places.{line_of, top_line}
use Rattle.network_check.specs.Stands.{stand}
use Rattle.network_check.specs.Told.{joined, shown, told}

-- ---- the keys of the tables

abbrev pub parent_text : List ℕ → List ℕ → Members → List ℕ
parent_text file text parent = row_text (stand file text Parent 0 (codes "parent")) parent ++ rows_text file text ParentLinks (get_member (codes "link") parent)

abbrev pub parent_value_text : List ℕ → List ℕ → Option Data → List ℕ
parent_value_text file text None = []
parent_value_text file text (Some (table ms)) = parent_text file text ms
parent_value_text file text (Some d) = told file (top_line text (codes "parent")) (joined (codes "parent: is no table" ∷ []))

abbrev pub tables_text : List ℕ → List ℕ → Members → List ℕ
tables_text file text root =
    rows_text file text Elements (get_member (codes "element") root) ++ (rows_text file text Links (get_member (codes "link") root)
    ++ (rows_text file text Peers (get_member (codes "peer") root) ++ (rows_text file text Denials (get_member (codes "deny") root)
    ++ (parent_value_text file text (get_member (codes "parent") root) ++ row_text (stand file text Top 0 (codes "settings")) root))))

-- ---- the first rule that is broken

abbrev pub header : List ℕ → List ℕ → List ℕ → List ℕ
header front name back = joined (front ∷ name ∷ back ∷ [])

-- the first that is not 0
abbrev pub first_line : ℕ → ℕ → ℕ → ℕ
first_line one other last = if one == 0 then (if other == 0 then last else other) else one

-- the line of a row of a table, of a table by itself, or of a key beside the tables
abbrev pub line_at : List ℕ → List ℕ → ℕ → ℕ
line_at text name i = first_line (line_of text (header (codes "[[") name (codes "]]")) i) (line_of text (header (codes "[") name (codes "]")) 0) (top_line text name)

-- what the row of a table is called
abbrev pub label_or : List ℕ → Option Data → List ℕ
label_or name None = shown name
label_or name (Some d) = label_of (shown name) d

-- the row at a place of a table
abbrev pub row_at : Members → List ℕ → ℕ → Option Data
row_at root name i = get_member name root >>= λ d. at i d

abbrev pub label_at : Members → List ℕ → ℕ → List ℕ
label_at root name i = label_or name (row_at root name i)

abbrev pub row_fault : List ℕ → List ℕ → Members → List ℕ → List ℕ → ℕ → List ℕ
row_fault file text root why name i = told file (line_at text name i) (joined (why ∷ label_at root name i ∷ []))

abbrev pub too_many_text : List ℕ → List ℕ → List ℕ → List ℕ
too_many_text file text name = told file (line_at text name 0) (joined (codes "too many " ∷ shown name ∷ []))

abbrev pub settings_fault : List ℕ → List ℕ → Members → NetFault → List ℕ
settings_fault file text root (fault.Shape name i) = row_fault file text root (codes "shape ") name i
settings_fault file text root (fault.Duplicate name i) = row_fault file text root (codes "duplicate ") name i
settings_fault file text root (fault.Unknown name i) = row_fault file text root (codes "unknown ") name i
settings_fault file text root (fault.NoParent i) = row_fault file text root (codes "no parent for ") (codes "element") i
settings_fault file text root (fault.TooMany name) = too_many_text file text name
settings_fault file text root other = told file 0 (joined (fault_text other ∷ []))
