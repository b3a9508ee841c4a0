-- What a history of turns tells of topologies.
use Rattle.std.specs.Prelude.{◌≡◌, ℕ, List, [], ◌∷◌, ◌++◌, Option, Some, None, length}
use Rattle.plant_network.specs.plant_model.Types.{As}
use Rattle.te_links.specs.Rows.{Rows}
use Rattle.plant_network.specs.Topologies.{Held, whole}
use Rattle.plant_network.specs.Histories.{event_of}
use Rattle.kept_plant.specs.declared.kept.KeptPlant.{KeptPlant}
use Rattle.plant_network.specs.declared.acts.Act.{Act}
use Rattle.plant_network.specs.declared.acts.ActAnswer.{ActAnswer}
use Rattle.plant_network.specs.plant_model.Plant.{Plant}
use Rattle.run_laws.specs.PinHistories.{Told, known_in}

-- the events of a history, the oldest first, with their answers
abbrev pub told_by : List (Act × ActAnswer) → List Told
told_by [] = []
told_by (e ∷ es) = event_of e.0 e.1.acted ++ told_by es

-- the topology of each element and number, as far as the history tells it from the opening on
abbrev pub known_by : Option Held → List (Act × ActAnswer) → As → ℕ → Option Rows
known_by (Some h) seen d n = known_in (whole h).state (told_by seen) d n
known_by None seen d n = None

-- the network with which a lock was opened
abbrev pub plant_at : Option KeptPlant → Option Held
plant_at (Some kept) = Some kept.plant
plant_at None = None

-- no request is pending
abbrev pub NoneIsPending : Plant → Type 0
NoneIsPending s = (d : As) → length (s.elements d).pending.rows ≡ 0

-- at the opening of the lock no request was pending
abbrev pub Begins : Option Held → Type 0
Begins start = (h : Held) → start ≡ Some h → NoneIsPending (whole h).state
