-- Lines of a record that are played say what the day said of which they are the record.
use Rattle.std.specs.Prelude.{◌≡◌, ℕ, List, [], ◌++◌, map, Option, Some}
use Rattle.std.specs.List.{AllByRecursion}
use Rattle.dom_edge.specs.Folders.{Contents}
use Rattle.dom_edge.specs.Stores.{Files}
use Rattle.plant_text.specs.declared.settings.NetworkParts.{NetworkParts}
use Rattle.event_tape.specs.Hands.{told_of}
use Rattle.event_tape.specs.Tapes.{event_of}
use Rattle.event_tape.specs.declared.tape.Handed.{Handed}
use Rattle.event_tape.specs.declared.tape.TapeEnd.{TapeEnd}
use Rattle.plant_lock.specs.History.{replay}
use Rattle.plant_network.specs.Histories.{done_by, events_of}
use Rattle.plant_network.specs.plant_model.Plant.{Entry, Plant, Run}
use Rattle.plant_network.specs.plant_model.RealWire.{wire}
use Rattle.told_laws.specs.Playing.{AreAccepted, IsPlayAtMoment}
use Rattle.kept_plant.specs.Handing.{end_told}
use Rattle.kept_plant.specs.Histories.{EndsIn, turns_of}
use Rattle.kept_plant.specs.Tellings.{tellings}
use Rattle.kept_plant.specs.Turns.{Kept, kept_after}
use Rattle.kept_plant.specs.declared.acts.KeptAct.{KeptAct}
use Rattle.kept_plant.specs.declared.acts.KeptAnswer.{KeptAnswer}
use Rattle.client_laws.specs.Headline.{IsRight}
use Rattle.client_laws.specs.plant_play.Playing.{PlayedNetwork}
use Rattle.client_laws.specs.plant_play.Replays.{Replaying}
use Rattle.client_laws.specs.plant_play.Turns.{Turn, entries_of}
use Rattle.client_laws.specs.plant_play.declared.replaying.Span.{Span}
use Rattle.record_laws.specs.Days.{AreHandsOf, HasOctets, IsDay, events_by}
use Rattle.record_laws.specs.Records.{AreAllLines, AreFirstLines, HoldsAll, IsReadable, IsRecord, IsWholeRecord}

-- The turns of the day are those of a run behind the older one. The play `fs`, which ends in `t`, accepted each event. It is event by
-- event, with answers and deeds, what is told of that run at a moment of it, and said to everybody what the day had said by then. And all
-- that is proved of a script holds of it.
pub record IsReplayed (n : NetworkParts) (older : List Entry) (s : Kept) (es : List (KeptAct × KeptAnswer)) (fs : List Entry) (t : Plant) : Type 0 where
  pub newer : List Entry
  pub are_turns : map done_by newer ≡ events_of (turns_of es)
  pub run : Run wire n (newer ++ older) (replay kept_after s es).network.state
  pub accepted : AreAccepted fs
  pub plays : IsPlayAtMoment n (newer ++ older) fs t
  pub right : IsRight n fs t

-- The lines of a record are lines of a script, and the files that they name are there, where octets came with each receipt.
abbrev pub RecordsAreReadable : Type 0
RecordsAreReadable =
    (n : NetworkParts) (older : List Entry) (s : Kept) (es : List (KeptAct × KeptAnswer)) → IsDay n older s es → (own : List Handed) → AreHandsOf s es own → AllByRecursion HasOctets (told_of own) →
    (c : Contents) → IsRecord n (told_of own) c → (held : Files) → HoldsAll held c.closed → (lines : List (List ℕ)) → AreFirstLines n c lines → AllByRecursion (IsReadable n held) lines

-- Where the first lines of a record, however many, are played on a new network of its settings, beside the files that it has.
abbrev pub RecordsAreReplayed : Type 0
RecordsAreReplayed =
    (n : NetworkParts) (older : List Entry) (s : Kept) (es : List (KeptAct × KeptAnswer)) → IsDay n older s es → (own : List Handed) → AreHandsOf s es own →
    (c : Contents) → IsRecord n (told_of own) c → (held : Files) → HoldsAll held c.closed → (lines : List (List ℕ)) → AreFirstLines n c lines →
    (span : Option Span) (turns : List Turn) (text : List ℕ) (end : PlayedNetwork) → Replaying (Some held) span n lines turns text end →
    IsReplayed n older s es (entries_of turns []) end.state

-- the day up to where its tape ended, of which nothing is left out
pub record IsReplayedToEnd (older : List Entry) (s : Kept) (es : List (KeptAct × KeptAnswer)) (fs : List Entry) : Type 0 where
  pub before : List (KeptAct × KeptAnswer)
  pub later : List (KeptAct × KeptAnswer)
  pub is : es ≡ before ++ later
  pub ends : EndsIn (replay kept_after s es).tape.ended (replay kept_after s before).tape later
  pub events : events_by fs ≡ map event_of s.tape.items ++ tellings (turns_of before)

-- Where the last hand said that the tape had ended, and all lines of a record of all hands are played, they are all that was told of the
-- turns up to that end.
abbrev pub WholeRecordsAreReplayed : Type 0
WholeRecordsAreReplayed =
    (n : NetworkParts) (older : List Entry) (s : Kept) (es : List (KeptAct × KeptAnswer)) → IsDay n older s es → (own : List Handed) → AreHandsOf s es own →
    (why : TapeEnd) → end_told own ≡ Some why → (c : Contents) → IsWholeRecord n (told_of own) c → (held : Files) → HoldsAll held c.closed → (lines : List (List ℕ)) → AreAllLines n c lines →
    (span : Option Span) (turns : List Turn) (text : List ℕ) (end : PlayedNetwork) → Replaying (Some held) span n lines turns text end →
    IsReplayedToEnd older s es (entries_of turns [])
