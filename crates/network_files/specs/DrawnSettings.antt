-- The settings: elements of four domains in a row, and links between neighbours.
use Rattle.std.specs.Prelude.{ℕ, ◌+◌, ◌==◌, false, List, [], ◌∷◌, Some, None, codes, if◌then◌else◌}
use Rattle.dom_base.specs.declared.names.As.{As}
use Rattle.dom_base.specs.declared.addr.Addr.TheVariants.{V4}
use Rattle.plant_text.specs.declared.settings.ElementRow.{ElementRow}
use Rattle.plant_text.specs.declared.settings.NetworkParts.{NetworkParts}

-- the name of the file of a domain's topology
abbrev pub file_name : ℕ → List ℕ
file_name d = if d == 1 then codes "f1.txt" else (if d == 2 then codes "f2.txt" else (if d == 3 then codes "f3.txt" else codes "f4.txt"))

-- the element of domain d, with the id 192.0.2.d
abbrev pub element : ℕ → ElementRow
element d = record { own = record { 0 = d }; id = V4 (3221225984 + d); topology = Some (file_name d); key_life = 600; parent = false }

-- between domain d and the next
abbrev pub link : ℕ → As × As
link d = (record { 0 = d }, record { 0 = d + 1 })

abbrev pub settings : NetworkParts
settings = record {
  elements = element 1 ∷ element 2 ∷ element 3 ∷ element 4 ∷ [];
  links = link 1 ∷ link 2 ∷ link 3 ∷ [];
  peers = [];
  deny = [];
  parent = None;
  parent_links = [];
  workers = 2;
  watch = None;
}
