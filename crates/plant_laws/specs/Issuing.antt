-- Where keys come from: the solve that issued a key chose the segment that it stands for, and told the key for that segment's entry.
use Rattle.std.specs.Prelude.{◌≡◌, ◌≢◌, ◌⊎◌, ◌+◌, ◌<◌, ℕ, false, List, [], ◌∷◌, ◌++◌, Contains}
use Rattle.plant_model.specs.Types.{As, Peer, Message, Path, Issued, Best, NetworkParts}
use Rattle.pcep_messages.specs.declared.message.Answer.TheVariants.{Paths}
use Rattle.path_keys.specs.Keys.{number_after}
use Rattle.plant_model.specs.declared.output.Output.{Output}
use Rattle.plant_text.specs.Names.{parent_as}
use Rattle.plant_model.specs.Wire.{Codec}
use Rattle.plant_model.specs.Writing.{reply_message}
use Rattle.plant_model.specs.Branches.{closed_branch, path_of}
use Rattle.plant_model.specs.Element.{is_client}
use Rattle.plant_model.specs.Solving.{closed_paths}
use Rattle.plant_text.specs.Settings.{life}
use Rattle.plant_model.specs.Settings.{place}
use Rattle.plant_model.specs.Laws.{IsNetwork}
use Rattle.plant_model.specs.State.{Takes, Pops, Solves}
use Rattle.plant_model.specs.Plant.{Plant, Entry, Run, Segment, deeds_of, ElementSolves}
use Rattle.plant_laws.specs.Transcript.{Transcript, Within}
use Rattle.plant_laws.specs.Keys.{clock_at, last_keys}

-- An earlier entry of the run solved a closed peer's job, and issued the key for one of its best ways.
pub record IsIssued (c : Codec) (n : NetworkParts) (es : List Entry) (d : As) (x : Issued Segment) : Type 0 where
  pub later : List Entry
  pub entry : Entry
  pub older : List Entry
  pub is_earlier : es ≡ later ++ entry ∷ older
  pub before : Plant
  pub run : Run c n older before
  pub after : Plant
  pub number : ℕ
  pub solves : ElementSolves c n d number before (record { answer = entry.answer; state = after; deeds = entry.deeds })
  pub closed : is_client solves.held.item.class ≡ false
  pub best : Best
  pub is_best : Contains solves.rows.best best
  pub stands : x.segment ≡ best.segment
  pub at : x.at.0 ≡ before.clock
  pub keys : List (Issued Segment)
  pub paths : List Path
  pub told : entry.deeds
      ≡ Solves d number (record { to = solves.held.key.peer; message = reply_message solves.held.item.flags solves.held.key.id (Paths paths) } ∷ []) keys ∷ []
  pub is_path : Contains paths
      (path_of c solves.held.item.wanted.query.metric best.cost (closed_branch x.number (place n d).id solves.held.item.wanted.target best solves.down))

-- Each key of an element.
abbrev pub KeysAreIssued : Type 0
KeysAreIssued = (c : Codec) (n : NetworkParts) (es : List Entry) (s : Plant) → Run c n es s → (d : As) → d ≢ parent_as → (x : Issued Segment) →
    Contains (last_keys d (deeds_of c n es)) x → IsIssued c n es d x

-- the keys of best ways, by their numbers
abbrev pub numbered : ℕ → List Best → List (ℕ × Best)
numbered number [] = []
numbered number (b ∷ bs) = (number, b) ∷ numbered (number_after number) bs

-- A solve told a closed peer a path for each best way, with keys from the element's next number on.
pub record TellsKeys (c : Codec) (n : NetworkParts) (d : As) (older : List Entry) (before : Plant) (entry : Entry) (best : List Best) : Type 0 where
  pub run : Run c n older before
  pub after : Plant
  pub number : ℕ
  pub solves : ElementSolves c n d number before (record { answer = entry.answer; state = after; deeds = entry.deeds })
  pub closed : is_client solves.held.item.class ≡ false
  pub is_best : solves.rows.best ≡ best
  pub keys : List (Issued Segment)
  pub told : entry.deeds
      ≡ Solves d number (record {
        to = solves.held.key.peer;
        message = reply_message solves.held.item.flags solves.held.key.id
            (Paths (closed_paths c (place n d).id solves.held.item.wanted.query.metric solves.held.item.wanted.target solves.down (before.elements d).keys.next best));
      } ∷ []) keys ∷ []

-- As long as such a key lives it is a key of the element, and stands for the segment that the solve chose.
abbrev pub ToldKeysLast : Type 0
ToldKeysLast = (c : Codec) (n : NetworkParts) → IsNetwork n → (later : List Entry) (entry : Entry) (older : List Entry) (s : Plant) → Run c n (later ++ entry ∷ older) s →
    (d : As) → d ≢ parent_as → (before : Plant) (best : List Best) → TellsKeys c n d older before entry best →
    (number : ℕ) (b : Best) → Contains (numbered (before.elements d).keys.next best) (number, b) → clock_at (deeds_of c n (later ++ entry ∷ older)) < before.clock + life n d →
    (x : Issued Segment) × Contains (last_keys d (deeds_of c n (later ++ entry ∷ older))) x × (x.number ≡ number) × (x.segment ≡ b.segment)

-- Each key that an element has when it takes a message was issued in an entry before: an expansion shows the segment that the solve
-- chose which issued the key.
abbrev pub ExpandedAreIssued : Type 0
ExpandedAreIssued = (c : Codec) (n : NetworkParts) (es : List Entry) (s : Plant) → Run c n es s → (d : As) → d ≢ parent_as → (p : Peer) (m : Message) (os : List Output) (older : Transcript) →
    Within (Takes d p m os ∷ older) (deeds_of c n es) → (x : Issued Segment) → Contains (last_keys d older) x →
    (before : List Entry) × IsIssued c n before d x × ((older ≡ deeds_of c n before) ⊎ ((a : As) × (b : As) × (older ≡ Pops a b ∷ deeds_of c n before)))
