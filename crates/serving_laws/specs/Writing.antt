-- The record that a server leaves, played again.
use Rattle.std.specs.Prelude.{◌≡◌, ℕ, List, [], ◌++◌, Option, Some}
use Rattle.dom_edge.specs.Folders.{Contents}
use Rattle.dom_edge.specs.Stores.{Files}
use Rattle.plant_text.specs.declared.settings.NetworkParts.{NetworkParts}
use Rattle.event_tape.specs.Hands.{AreWhole, told_of}
use Rattle.event_tape.specs.declared.tape.Handed.{Handed}
use Rattle.plant_lock.specs.History.{entries_at}
use Rattle.plant_lock.specs.Views.{LegalFrom}
use Rattle.plant_record.specs.Parts.{Title}
use Rattle.plant_record.specs.Recording.{Leaves}
use Rattle.plant_record.specs.declared.recorded.Recorded.{Recorded}
use Rattle.plant_network.specs.Histories.{AreGiven}
use Rattle.kept_plant.specs.Handing.{hands_in}
use Rattle.kept_plant.specs.Histories.{turns_of}
use Rattle.kept_plant.specs.Turns.{KeptAdmits, KeptAllows, kept_after, kept_of}
use Rattle.kept_plant.specs.declared.kept.KeptPlant.{KeptPlant}
use Rattle.turn_desk.specs.Seats.{Seated}
use Rattle.network_serving.specs.Bases.{Server}
use Rattle.record_laws.specs.Records.{AreFirstLines, HoldsAll, IsTitle}
use Rattle.record_laws.specs.Replayed.{IsReplayed}
use Rattle.record_laws.specs.plant_play.Playing.{PlayedNetwork}
use Rattle.record_laws.specs.plant_play.Replays.{Replaying}
use Rattle.record_laws.specs.plant_play.Turns.{Turn, entries_of}
use Rattle.record_laws.specs.plant_play.declared.replaying.Span.{Span}
use Rattle.serving_laws.specs.Opening.{IsOpening}

-- What the seat of a recorder stands for behind its last turn: all that it has seen of the lock that was opened so, at which places it
-- stood itself; and the files of what it was handed, however that ended. One hand may come last that is not written.
pub record IsWriter (n : NetworkParts) (first s : Seated) (c : Contents) : Type 0 where
  pub start : s.start ≡ first.start
  pub legal : LegalFrom kept_of KeptAdmits KeptAllows kept_after s.start s.seen
  pub given : AreGiven (turns_of s.seen)
  pub places : List ℕ
  pub own : s.own ≡ entries_at s.seen places
  pub hands : List Handed
  pub stray : List Handed
  pub handed : hands_in s.own ≡ hands ++ stray
  pub are_whole : AreWhole 0 hands
  pub title : Title
  pub is_title : IsTitle n title
  pub end : Recorded
  pub left : Leaves n.peers title (told_of hands) end (Some c)

-- The lines of the record of a server, the first ones, however many, that are played beside its files on a new network of its settings.
abbrev pub ServedRecordsAreReplayed : Type 0
ServedRecordsAreReplayed =
    (files : Option Files) (n : NetworkParts) (x : Server) (first : Seated) → (opened : IsOpening files n x first) → (kept : KeptPlant) → first.start ≡ Some kept → (s : Seated) (c : Contents) → IsWriter n first s c →
    (held : Files) → HoldsAll held c.closed → (lines : List (List ℕ)) → AreFirstLines n c lines → (span : Option Span) (turns : List Turn) (text : List ℕ) (end : PlayedNetwork) → Replaying (Some held) span n lines turns text end →
    IsReplayed n opened.ready.loaded.entries (kept_of kept) s.seen (entries_of turns []) end.state
