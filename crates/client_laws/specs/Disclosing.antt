-- Each run has a disclosed trace, and where a script shows rows, what is shown is that trace.
use Rattle.std.specs.Prelude.{◌≡◌, ℕ, true, cond, List, [], ◌∷◌}
use Rattle.plant_text.specs.declared.line.LineEvent.TheVariants.{DiscloseOn}
use Rattle.plant_play.specs.plant_model.Types.{NetworkParts}
use Rattle.plant_play.specs.plant_model.declared.event.BlindEvent.{BlindEvent}
use Rattle.plant_play.specs.plant_model.Blind.{blind_of, is_accepted, with_event}
use Rattle.plant_play.specs.plant_model.Plant.{Entry, Plant, Run}
use Rattle.plant_play.specs.plant_model.RealWire.{wire}
use Rattle.run_laws.specs.plant_laws.Worlds.{DisclosedRun}
use Rattle.plant_play.specs.Playing.{Cue, IsNewNetwork, PlayedNetwork}
use Rattle.plant_play.specs.Scripts.{AllPlayed}
use Rattle.plant_play.specs.Turns.{Turn, entries_of}
use Rattle.client_laws.specs.Laws.{FeedOctets}

-- Each run has a disclosed trace: there can't be a run without one.
abbrev pub RunsDisclose : Type 0
RunsDisclose = (n : NetworkParts) (es : List Entry) (s : Plant) → Run wire n es s → ¬ ((trace : List BlindEvent) → ¬ DisclosedRun wire n es trace s)

-- The events as a network without topologies sees them, the newest first, in front of older ones: each solve has the rows that are
-- shown of it. Loads and refused events are not seen.
abbrev pub shown_trace : List Turn → List BlindEvent → List BlindEvent
shown_trace [] older = older
shown_trace (t ∷ ts) older = shown_trace ts (cond (is_accepted t.entry.answer) (with_event (blind_of t.entry.event t.rows) older) older)

-- While rows are shown, a run and its disclosed trace go on by the events of lines and what is shown of them.
abbrev pub ShownIsDisclosed : Type 0
ShownIsDisclosed =
    (old end : PlayedNetwork) (cues : List Cue) (turns : List Turn) (told : List ℕ) → FeedOctets cues → old.modes.disclose ≡ true → AllPlayed old cues turns told end
    → (older : List Entry) (trace : List BlindEvent) → DisclosedRun wire old.network older trace old.state
    → DisclosedRun wire old.network (entries_of turns older) (shown_trace turns trace) end.state

-- So where rows are shown from the first line on, what is shown is the disclosed trace of the whole run.
abbrev pub ShownFromTheFirst : Type 0
ShownFromTheFirst =
    (n : NetworkParts) (new end : PlayedNetwork) (first : Cue) (cues : List Cue) (turns : List Turn) (told : List ℕ) → IsNewNetwork n new → FeedOctets (first ∷ cues)
    → first.event ≡ DiscloseOn → AllPlayed new (first ∷ cues) turns told end
    → DisclosedRun wire n (entries_of turns []) (shown_trace turns []) end.state
