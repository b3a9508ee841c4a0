-- The files of the topologies.
use Rattle.std.specs.Prelude.{◌≡◌, ℕ, List, [], ◌∷◌}
use Rattle.te_links.specs.declared.rows.Parts.{Parts}
use Rattle.te_links.specs.Built.{IsBuilt}
use Rattle.te_links.specs.Faults.{rows_of_parts}
use Rattle.te_links.specs.Rows.{IsInOrder, Rows}
use Rattle.te_text.specs.TopologyText.{topology_text}
use Rattle.network_files.specs.DrawnRows.{parts_of}
use Rattle.network_files.specs.DrawnSettings.{file_name}

-- the topology of these rows
pub record IsDrawn (parts : Parts) (t : Rows) : Type 0 where
  pub rows : IsBuilt (rows_of_parts parts) t
  pub order : IsInOrder t

-- The file of domain d, whose links take the draws from the k-th on: its name, and the text of its topology.
pub record IsFile (d k : ℕ) (file : List ℕ × List ℕ) : Type 0 where
  pub name : file.0 ≡ file_name d
  pub topology : Rows
  pub drawn : IsDrawn (parts_of d k) topology
  pub text : file.1 ≡ topology_text topology

-- how many draws the links of a domain take, and those of all domains
abbrev pub domain_draws : ℕ
domain_draws = 212

abbrev pub links_draws : ℕ
links_draws = 848

-- the domains one after the other, each with the number of its first draw
abbrev pub domains : List (ℕ × ℕ)
domains = (1, 0) ∷ (2, 212) ∷ (3, 424) ∷ (4, 636) ∷ []

abbrev pub AreFilesOf : List (ℕ × ℕ) → List (List ℕ × List ℕ) → Type 0
AreFilesOf [] [] = Unit {0}
AreFilesOf [] (f ∷ fs) = ⊥
AreFilesOf (d ∷ ds) [] = ⊥
AreFilesOf (d ∷ ds) (f ∷ fs) = IsFile d.0 d.1 f × AreFilesOf ds fs

abbrev pub AreFiles : List (List ℕ × List ℕ) → Type 0
AreFiles files = AreFilesOf domains files
