-- What holds for every script that is played: for those who ask for paths, and for the owners of domains.
use Rattle.std.specs.Prelude.{◌≡◌, ◌≤◌, ◌+◌, ℕ, List, [], ◌∷◌, length}
use Rattle.plant_play.specs.plant_model.Types.{LineEvent, NetworkParts}
use Rattle.plant_text.specs.declared.line.LineEvent.TheVariants as line
use Rattle.plant_play.specs.plant_model.declared.event.BlindEvent.{BlindEvent}
use Rattle.plant_play.specs.plant_model.Blind.{BlindSays, BlindState, heard}
use Rattle.plant_play.specs.plant_model.Laws.{IsNetwork}
use Rattle.plant_play.specs.plant_model.Plant.{Entry, Plant, Run, deeds_of}
use Rattle.plant_play.specs.plant_model.RealWire.{wire}
use Rattle.run_laws.specs.plant_laws.About.{IsShort}
use Rattle.run_laws.specs.plant_laws.Headline.{LeastAnswersIn, NoneAnswersIn}
use Rattle.run_laws.specs.plant_laws.Worlds.{DisclosedRun}
use Rattle.run_laws.specs.Counting.{HasNoParent}
use Rattle.plant_play.specs.Playing.{Cue, IsNewNetwork, PlayedNetwork}
use Rattle.plant_play.specs.Scripts.{AllPlayed}
use Rattle.plant_play.specs.Turns.{Turn, entries_of}
use Rattle.client_laws.specs.Laws.{FeedOctets}

-- the octets that a line feeds
abbrev pub fed_octets : LineEvent → ℕ
fed_octets (line.Feed peer bytes) = length bytes
fed_octets (line.Receive peer bytes) = length bytes
fed_octets e = 0

abbrev pub all_octets : List Cue → ℕ
all_octets [] = 0
all_octets (c ∷ cs) = fed_octets c.event + all_octets cs

-- The entries are those of a run. Each path that a client is answered in it is feasible and of least cost among all walks through the
-- asked domains in order, each domain as it stood when its element took the request, or over what an outside peer told that was asked
-- for the rest of them; where a client is answered NO-PATH of nature 0, none exists. And what closed peers hear is
-- what a network without topologies says on the disclosed trace, which there is: requests, policy and disclosed border costs are all
-- that it has.
pub record IsRight (n : NetworkParts) (es : List Entry) (s : Plant) : Type 0 where
  pub run : Run wire n es s
  pub least : IsShort (deeds_of wire n es) → LeastAnswersIn wire n es s
  pub none : IsShort (deeds_of wire n es) → NoneAnswersIn wire n es s
  pub traced : ¬ ((trace : List BlindEvent) → ¬ DisclosedRun wire n es trace s)
  pub closed : (trace : List BlindEvent) → DisclosedRun wire n es trace s → (b : BlindState) × BlindSays wire n trace (heard wire n (deeds_of wire n es)) b

-- no element sends a neighbour more requests than there are ids
abbrev pub HasIdsLeft : NetworkParts → List Entry → Type 0
HasIdsLeft n es = IsShort (deeds_of wire n es)

-- Every script is right; and without a parent no id wraps around in one that feeds no more octets than there are ids.
abbrev pub ScriptsAreRight : Type 0
ScriptsAreRight =
    (n : NetworkParts) → IsNetwork n → (new end : PlayedNetwork) (cues : List Cue) (turns : List Turn) (told : List ℕ) → IsNewNetwork n new → FeedOctets cues → AllPlayed new cues turns told end
    → IsRight n (entries_of turns []) end.state × (HasNoParent n → all_octets cues ≤ 4294967295 → HasIdsLeft n (entries_of turns []))
