-- A network as it is when its lock is opened: of these settings, with the topologies that they name.
use Rattle.std.specs.Prelude.{◌≡◌, ℕ, List, [], ◌∷◌, ◌++◌, length, map, Option, Ok}
use Rattle.std.specs.List.{AllByRecursion, filter_map}
use Rattle.std.specs.Option.{option_map}
use Rattle.dom_base.specs.declared.names.As.{As}
use Rattle.dom_edge.specs.Stores.{Files}
use Rattle.te_links.specs.Rows.{Rows}
use Rattle.te_text.specs.Reads.{Reads}
use Rattle.network_files.specs.Loading.{FileSays}
use Rattle.plant_text.specs.declared.settings.ElementRow.{ElementRow}
use Rattle.plant_text.specs.declared.settings.NetworkParts.{NetworkParts}
use Rattle.plant_network.specs.plant_model.declared.event.Event.{Event}
use Rattle.plant_network.specs.plant_model.declared.event.Event.TheVariants as event
use Rattle.plant_network.specs.plant_model.declared.outcome.Outcome.TheVariants.{Loaded}
use Rattle.plant_network.specs.plant_model.Events.{Answered}
use Rattle.plant_network.specs.plant_model.Plant.{Entry, Run}
use Rattle.plant_network.specs.plant_model.RealWire.{wire}
use Rattle.plant_network.specs.Histories.{done_by}
use Rattle.plant_network.specs.Whole.{Whole}
use Rattle.ted_watch.specs.declared.shown.Shown.{Shown}
use Rattle.network_serving.specs.Files.{topology_max}

-- a load: of which element, the name of the file, the topology, and the generation that it was given
pub record Load : Type 0 where
  pub at : As
  pub file : List ℕ
  pub rows : Rows
  pub generation : ℕ

-- it was accepted
abbrev pub load_event : Load → Event × Answered
load_event l = (event.Load l.at l.rows, Ok (Loaded l.generation))

-- what is shown of it
abbrev pub entry_of : Load → Shown
entry_of l = record { at = l.at; generation = l.generation; nodes = length l.rows.nodes; links = length l.rows.links }

-- the file of that name says so
abbrev pub IsInFile : Option Files → Load → Type 0
IsInFile files l = FileSays Reads topology_max files l.file l.rows

-- the elements whose rows name a file, with its name, in their order
abbrev pub named_by : ElementRow → Option (As × List ℕ)
named_by row = option_map (λ (name : List ℕ). (row.own, name)) row.topology

abbrev pub named : List ElementRow → List (As × List ℕ)
named rows = filter_map named_by rows

abbrev pub place_of : Load → As × List ℕ
place_of l = (l.at, l.file)

-- the newest first
abbrev pub load_events : List Load → List (Event × Answered)
load_events [] = []
load_events (l ∷ ls) = load_events ls ++ load_event l ∷ []

-- In a run of these settings the topologies that these rows name were loaded, in their order, and nothing else happened. Each was
-- accepted, and shown.
pub record IsLoaded (files : Option Files) (n : NetworkParts) (rows : List ElementRow) (shown : List Shown) (w : Whole) : Type 0 where
  pub network : w.network ≡ n
  pub loads : List Load
  pub are_named : map place_of loads ≡ named rows
  pub are_read : AllByRecursion (IsInFile files) loads
  pub entries : List Entry
  pub run : Run wire n entries w.state
  pub are_loads : map done_by entries ≡ load_events loads
  pub are_shown : shown ≡ map entry_of loads
