-- The runs that the laws are about.
use Rattle.std.specs.Prelude.{◌≡◌, List}
use Rattle.plant_model.specs.Types.{NetworkParts, Asked, Message}
use Rattle.plant_model.specs.Wire.{Codec}
use Rattle.plant_model.specs.RealWire.{wire}
use Rattle.plant_model.specs.Laws.{IsCodec, IsNetwork}
use Rattle.plant_model.specs.Plant.{Plant, Entry, Run, deeds_of}
use Rattle.pcep_messages.specs.declared.message.Message.TheVariants as messages
use Rattle.pcep_messages.specs.Spelling.{IsWritten}
use Rattle.plant_laws.specs.About.{IsShort}
use Rattle.plant_laws.specs.Sending.{AllSent}

-- Every run of a network that obeys the rules of settings, over any wire with the laws of a codec.
abbrev pub InRuns : (Codec → NetworkParts → List Entry → Plant → Type 0) → Type 0
InRuns Holds = (c : Codec) → IsCodec c → (n : NetworkParts) → IsNetwork n → (es : List Entry) (s : Plant) → Run c n es s → Holds c n es s

-- Those of them in which no element and no parent sends a neighbour more requests than there are ids.
abbrev pub InShortRuns : (Codec → NetworkParts → List Entry → Plant → Type 0) → Type 0
InShortRuns Holds = (c : Codec) → IsCodec c → (n : NetworkParts) → IsNetwork n → (es : List Entry) (s : Plant) → Run c n es s → IsShort (deeds_of c n es) → Holds c n es s

-- Both over the wire of PCEP.
abbrev pub InRunsOverPcep : (Codec → NetworkParts → List Entry → Plant → Type 0) → Type 0
InRunsOverPcep Holds = (n : NetworkParts) → IsNetwork n → (es : List Entry) (s : Plant) → Run wire n es s → Holds wire n es s

abbrev pub OverPcep : (Codec → NetworkParts → List Entry → Plant → Type 0) → Type 0
OverPcep Holds = (n : NetworkParts) → IsNetwork n → (es : List Entry) (s : Plant) → Run wire n es s → IsShort (deeds_of wire n es) → Holds wire n es s

-- all that was sent is in written form
abbrev pub AllIsWritten : Codec → NetworkParts → List Entry → Plant → Type 0
AllIsWritten c n es s = AllSent IsWritten (deeds_of c n es)

-- all requests that were sent are in written form
abbrev pub IsWrittenRequest : Message → Type 0
IsWrittenRequest m = (asks : List Asked) → m ≡ messages.PcReq asks → IsWritten m

abbrev pub RequestsAreWritten : Codec → NetworkParts → List Entry → Plant → Type 0
RequestsAreWritten c n es s = AllSent IsWrittenRequest (deeds_of c n es)
