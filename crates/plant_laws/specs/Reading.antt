-- Every message that an outside peer's element takes is what the element heeds of one that was read from bytes and came from a peer of
-- the settings.
use Rattle.std.specs.Prelude.{◌≡◌, ℕ, true, is_some, List, [], ◌∷◌, Option, Some}
use Rattle.plant_model.specs.Types.{NetworkParts, Message, Outside}
use Rattle.plant_model.specs.Wire.{Bytes, Codec}
use Rattle.plant_model.specs.Outside.{heeded_in}
use Rattle.plant_model.specs.State.{Deed, Takes}
use Rattle.plant_model.specs.Plant.{Plant, Entry, Run, deeds_of}
use Rattle.plant_model.specs.Laws.{IsCodec}
use Rattle.pcep_subobjects.specs.Subobjects.{AreOctets}
use Rattle.plant_text.specs.Settings.{peer_row}
use Rattle.plant_model.specs.Deeds.{element_of}

abbrev pub IsRead : {S : Type 0} → Codec → NetworkParts → Deed S → Type 0
IsRead c n (Takes at (Outside i) m os) =
    (is_some (peer_row i n.peers) ≡ true) × (at ≡ element_of n i) × (bytes : Bytes) × AreOctets bytes × (raw : Message) × (c.read bytes ≡ Some raw) × (sent : ℕ → Option ℕ) × (m ≡ heeded_in c sent raw)
IsRead c n e = Unit {0}

abbrev pub AreRead : {S : Type 0} → Codec → NetworkParts → List (Deed S) → Type 0
AreRead c n [] = Unit {0}
AreRead c n (d ∷ ds) = IsRead c n d × AreRead c n ds

-- In every run.
abbrev pub OutsideIsRead : Type 0
OutsideIsRead = (c : Codec) → IsCodec c → (n : NetworkParts) (es : List Entry) (s : Plant) → Run c n es s → AreRead c n (deeds_of c n es)
