-- Laws of runs in which all that was sent is in written form.
use Rattle.std.specs.Prelude.{List}
use Rattle.pcep_messages.specs.Spelling.{IsWritten}
use Rattle.plant_model.specs.Types.{NetworkParts}
use Rattle.plant_model.specs.Wire.{Codec}
use Rattle.plant_model.specs.Laws.{IsCodec, IsNetwork}
use Rattle.plant_model.specs.Plant.{Plant, Entry, Run, deeds_of}
use Rattle.plant_laws.specs.About.{IsShort}
use Rattle.plant_laws.specs.Sending.{AllSent}

abbrev pub OfRuns : Type 1
OfRuns = Codec → NetworkParts → List Entry → Plant → Type 0

abbrev pub Written : OfRuns → Type 0
Written Holds = (c : Codec) → IsCodec c → (n : NetworkParts) (es : List Entry) (s : Plant) → Run c n es s → AllSent IsWritten (deeds_of c n es) → Holds c n es s

abbrev pub WrittenIds : OfRuns → Type 0
WrittenIds Holds = (c : Codec) → IsCodec c → (n : NetworkParts) (es : List Entry) (s : Plant) → Run c n es s → AllSent IsWritten (deeds_of c n es) → IsShort (deeds_of c n es) → Holds c n es s

-- of a network that obeys the rules of settings
abbrev pub WrittenNet : OfRuns → Type 0
WrittenNet Holds = (c : Codec) → IsCodec c → (n : NetworkParts) → IsNetwork n → (es : List Entry) (s : Plant) → Run c n es s → AllSent IsWritten (deeds_of c n es) → Holds c n es s

abbrev pub WrittenNetIds : OfRuns → Type 0
WrittenNetIds Holds = (c : Codec) → IsCodec c → (n : NetworkParts) → IsNetwork n → (es : List Entry) (s : Plant) → Run c n es s → AllSent IsWritten (deeds_of c n es) → IsShort (deeds_of c n es) → Holds c n es s
