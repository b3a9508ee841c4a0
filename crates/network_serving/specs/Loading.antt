-- The parts of what comes before a port is listened at: one load, and the opening of the lock.
use Rattle.std.specs.Prelude.{◌≡◌, ◌⊎◌, ℕ, List, [], ◌∷◌, ◌++◌, length, Option, Some, None, Ok}
use Rattle.dom_base.specs.declared.names.As.{As}
use Rattle.dom_edge.specs.Stores.{Files}
use Rattle.te_links.specs.Rows.{IsInOrder, IsTopology, Rows}
use Rattle.te_text.specs.Reads.{Reads}
use Rattle.network_files.specs.Loading.{FileSays}
use Rattle.plant_text.specs.declared.settings.NetworkParts.{NetworkParts}
use Rattle.plant_network.specs.plant_model.declared.event.Event.TheVariants as event
use Rattle.plant_network.specs.plant_model.declared.outcome.Outcome.TheVariants.{Loaded}
use Rattle.plant_network.specs.Topologies.{Held, whole}
use Rattle.plant_network.specs.Whole.{GoesOn, Stepped, Whole}
use Rattle.ted_watch.specs.declared.shown.Shown.{Shown}
use Rattle.turn_desk.specs.Desks.{IsOpened, Stand}
use Rattle.network_serving.specs.Files.{IsTopologyEnd, topology_max}
use Rattle.network_serving.specs.Loaded.{IsLoaded}
use Rattle.network_serving.specs.declared.served.Served.{Served}
use Rattle.network_serving.specs.declared.served.Served.TheVariants as served

-- a topology is loaded, accepted under some generation, and shown
pub record LoadsAt (at : As) (g : Rows) (w : Whole) (shown : List Shown) (v : Whole) (more : List Shown) : Type 0 where
  pub own : g.own ≡ at
  pub rules : IsTopology g
  pub order : IsInOrder g
  pub generation : ℕ
  pub stepped : Stepped w (event.Load at g) (Ok (Loaded generation)) v
  pub goes : GoesOn w (event.Load at g) (Ok (Loaded generation)) v
  pub shows : more ≡ shown ++ record { at = at; generation = generation; nodes = length g.nodes; links = length g.links } ∷ []

-- of the row of an element: the topology that it names, where it names one
abbrev pub LoadsNamed : Option Files → As → Option (List ℕ) → Whole → List Shown → Whole → List Shown → Type 0
LoadsNamed files at None w shown v more = (v ≡ w) × (more ≡ shown)
LoadsNamed files at (Some name) w shown v more = (g : Rows) × FileSays Reads topology_max files name g × LoadsAt at g w shown v more

-- the lock of that desk was opened round a network that was loaded so
abbrev pub IsBehind : Option Files → NetworkParts → Stand → List Shown → Type 0
IsBehind files n desk shown = (held : Held) × IsOpened held desk × IsLoaded files n n.elements shown (whole held)

-- a topology that the settings name is not to be had, or memory ran out
abbrev pub IsOpenEnd : Option Files → NetworkParts → ℕ × ℕ → List ℕ → Served → Type 0
IsOpenEnd files n counts failed_at s = (s ≡ served.NoMemory) ⊎ IsTopologyEnd files n counts failed_at s
