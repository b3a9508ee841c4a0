-- Which settings a file has.
use Rattle.std.specs.Prelude.{ℕ, List, Option}
use Rattle.dom_edge.specs.Stores.{Files}
use Rattle.plant_text.specs.declared.settings.NetworkParts.{NetworkParts}
use Rattle.plant_text.specs.Reads.{Reads}
use Rattle.network_files.specs.Loading.{FileSays}

-- how many bytes the file may have
abbrev pub settings_max : ℕ
settings_max = 1048576

-- the settings in the file of that name
abbrev pub HasNetwork : Option Files → List ℕ → NetworkParts → Type 0
HasNetwork files name n = FileSays Reads settings_max files name n
