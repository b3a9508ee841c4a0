-- In every state of a run the inner queues hold the texts of the messages that the transcript shows in them, and the current pin of an
-- element is of the topology last loaded.
use Rattle.std.specs.Prelude.{◌≡◌, List, [], ◌∷◌}
use Rattle.plant_model.specs.Types.{As, Message, NetworkParts}
use Rattle.plant_model.specs.Wire.{Bytes, Codec}
use Rattle.plant_model.specs.Plant.{Plant, Entry, Run, deeds_of}
use Rattle.plant_laws.specs.Transcript.{Standing, standing, loaded, loads}

abbrev pub messages : List Standing → List Message
messages [] = []
messages (x ∷ xs) = x.message ∷ messages xs

abbrev pub texts : Codec → List Message → List Bytes
texts c [] = []
texts c (m ∷ ms) = c.text m ∷ texts c ms

abbrev pub QueuesStand : Type 0
QueuesStand = (c : Codec) (n : NetworkParts) (es : List Entry) (s : Plant) → Run c n es s →
    (a b : As) → s.queues a b ≡ texts c (messages (standing a b (deeds_of c n es)))

pub record IsCurrent (c : Codec) (n : NetworkParts) (es : List Entry) (s : Plant) : Type 0 where
  pub number : (d : As) → (s.current d).number ≡ loads d (deeds_of c n es)
  pub topology : (d : As) → (s.current d).topology ≡ loaded d (deeds_of c n es)

abbrev pub PinsAreCurrent : Type 0
PinsAreCurrent = (c : Codec) (n : NetworkParts) (es : List Entry) (s : Plant) → Run c n es s → IsCurrent c n es s
