-- The day of a server that writes a record begins as it opens its lock: on its tape stand the loads that its settings name.
use Rattle.std.specs.Prelude.{◌≡◌, ℕ, true, List, Option, Some}
use Rattle.dom_edge.specs.Stores.{Files}
use Rattle.plant_text.specs.Reads.{Reads}
use Rattle.plant_text.specs.declared.settings.NetworkParts.{NetworkParts}
use Rattle.plant_lock.specs.Views.{LegalFrom}
use Rattle.plant_network.specs.Histories.{AreGiven}
use Rattle.kept_plant.specs.Histories.{turns_of}
use Rattle.kept_plant.specs.Turns.{KeptAdmits, KeptAllows, kept_after, kept_of}
use Rattle.kept_plant.specs.declared.kept.KeptPlant.{KeptPlant}
use Rattle.turn_desk.specs.Desks.{stand_on}
use Rattle.turn_desk.specs.Seats.{Seated}
use Rattle.network_serving.specs.Bases.{IsReady, Server}
use Rattle.network_serving.specs.Records.{IsTapedSo}
use Rattle.record_laws.specs.Days.{IsDay}

-- A server of these settings, where a record is asked for, is ready, and this is the first seat at its lock.
pub record IsOpening (files : Option Files) (n : NetworkParts) (x : Server) (first : Seated) : Type 0 where
  pub settings : List ℕ
  pub reads : Reads settings n
  pub ready : IsReady files n x
  pub at : x.desk ≡ stand_on first
  pub taped : IsTapedSo true n first

-- What a seat at that lock has seen, as behind each of its turns, is a day behind the loads, where what is given with each event is what
-- its type says.
abbrev pub ServersHaveDays : Type 0
ServersHaveDays =
    (files : Option Files) (n : NetworkParts) (x : Server) (first : Seated) → (opened : IsOpening files n x first) → (kept : KeptPlant) → first.start ≡ Some kept → (s : Seated) → s.start ≡ first.start →
    LegalFrom kept_of KeptAdmits KeptAllows kept_after s.start s.seen → AreGiven (turns_of s.seen) → IsDay n opened.ready.loaded.entries (kept_of kept) s.seen
