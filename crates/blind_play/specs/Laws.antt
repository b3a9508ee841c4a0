-- The transcript of lines that are played is what the network without topologies says.
use Rattle.std.specs.Prelude.{◌≡◌, ℕ, Bool, List, [], ◌∷◌, ◌++◌, All}
use Rattle.plant_network.specs.plant_model.Types.{NetworkParts}
use Rattle.run_laws.specs.Given.{IsBlindLine}
use Rattle.plant_network.specs.plant_model.Blind.{AreBlindGiven, BlindSays, Heard, blind_opened, heard}
use Rattle.plant_network.specs.plant_model.RealWire.{wire}
use Rattle.blind_play.specs.Playing.{Cue, IsNewNetwork, PlayedNetwork}
use Rattle.blind_play.specs.Scripts.{AllPlayed}
use Rattle.blind_play.specs.Turns.{Turn, all_heard, heard_text, trace_of}

-- The text has one line for each thing that is heard, in order, and nothing else: each under the number of a line of the script, and
-- of what is drained whether the session is over.
abbrev pub Tells : NetworkParts → List Heard → List ℕ → Type 0
Tells n [] text = text ≡ []
Tells n (h ∷ hs) text = (line : ℕ) × (ended : Bool) × (rest : List ℕ) × (text ≡ heard_text line n.peers ended h ++ rest) × Tells n hs rest

-- What the network says on the trace of the events is what its links say at the beginning, and then what is told. All that the events
-- are given is what a caller may give.
pub record SaysSo (n : NetworkParts) (turns : List Turn) (told : List ℕ) (end : PlayedNetwork) : Type 0 where
  pub says : BlindSays wire n (trace_of turns []) (heard wire n (blind_opened wire n).deeds ++ all_heard n turns) end.state
  pub tells : Tells n (all_heard n turns) told
  pub given : AreBlindGiven (trace_of turns [])

-- So it is of lines that are played one after the other on a new network.
abbrev pub LinesSaySo : Type 0
LinesSaySo =
    (n : NetworkParts) (new end : PlayedNetwork) (cues : List Cue) (turns : List Turn) (told : List ℕ)
    → All (λ (c : Cue). IsBlindLine c.event) cues → IsNewNetwork n new → AllPlayed new cues turns told end → SaysSo n turns told end
