-- What heeding keeps of a message, and that its paths can be joined to those of the element.
use Rattle.std.specs.Prelude.{◌≡◌, ◌≢◌, ℕ, ◌*◌, List, [], map, Option, Some}
use Rattle.std.specs.List.{AllByRecursion}
use Rattle.pcep_subobjects.specs.Subobjects.{AreOctets}
use Rattle.pcep_messages.specs.Spelling.{kind_of}
use Rattle.plant_model.specs.Types.{Message, Reply}
use Rattle.pcep_messages.specs.declared.message.Message.TheVariants as messages
use Rattle.outside_part.specs.Ranges.{EachPath, CanBeJoined}
use Rattle.plant_model.specs.Wire.{Bytes, Codec}
use Rattle.plant_model.specs.Laws.{IsCodec}
use Rattle.plant_model.specs.Outside.{heeded_by, heeded_in}

-- the flags and the number of each reply
abbrev pub replied : Message → List (ℕ × ℕ)
replied (messages.PcRep replies) = map (λ (r : Reply). (r.flags, r.id)) replies
replied _ = []

-- the same message except for the answers of its replies
pub record KeepsReplies (old new : Message) : Type 0 where
  pub kind : kind_of new ≡ kind_of old
  pub replies : replied new ≡ replied old
  pub others : ((replies : List Reply) → old ≢ messages.PcRep replies) → new ≡ old

-- Heeding changes nothing but the answers of replies.
abbrev pub HeedingKeeps : Type 0
HeedingKeeps = (c : Codec) (sent : ℕ → Option ℕ) (m : Message) → KeepsReplies m (heeded_in c sent m)

-- Each path that is heeded of a reply that came as octets can be joined to those of the element.
abbrev pub HeededJoins : Type 0
HeededJoins = (c : Codec) (bytes : Bytes) (replies : List Reply) (domains : ℕ) → IsCodec c → AreOctets bytes → c.read bytes ≡ Some (messages.PcRep replies) →
    AllByRecursion (λ (r : Reply). EachPath (CanBeJoined (3 * domains)) (heeded_by c (Some domains) r).answer) replies
