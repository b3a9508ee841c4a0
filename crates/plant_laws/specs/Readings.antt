-- A message is taken as it was meant, as long as all messages sent are in written form: from an inner queue the message that stood
-- there first, and requests one at a time.
use Rattle.std.specs.Prelude.{◌≡◌, List, ◌∷◌, length}
use Rattle.plant_model.specs.Types.{As, Peer, Inner, Asked, Message, NetworkParts}
use Rattle.pcep_messages.specs.declared.message.Message.TheVariants as messages
use Rattle.plant_model.specs.declared.output.Output.{Output}
use Rattle.plant_model.specs.Wire.{Codec}
use Rattle.plant_model.specs.State.{Takes, Pops}
use Rattle.plant_model.specs.Plant.{Plant, Entry, deeds_of}
use Rattle.plant_laws.specs.Transcript.{Transcript, Within, Standing, standing}
use Rattle.plant_laws.specs.Runs.{InRuns, InShortRuns}

pub record IsFromQueue (a b : As) (m : Message) (older : Transcript) : Type 0 where
  pub before : Transcript
  pub is_popped : older ≡ Pops a b ∷ before
  pub put : Transcript
  pub rest : List Standing
  pub stood : standing a b before ≡ record { message = m; put = put } ∷ rest

pub record AreReadings (c : Codec) (n : NetworkParts) (es : List Entry) : Type 0 where
  pub queues : (a b : As) (m : Message) (os : List Output) (older : Transcript) → Within (Takes b (Inner a) m os ∷ older) (deeds_of c n es) → IsFromQueue a b m older
  pub single : (at : As) (p : Peer) (asks : List Asked) (os : List Output) (older : Transcript) → Within (Takes at p (messages.PcReq asks) os ∷ older) (deeds_of c n es) → length asks ≡ 1

abbrev pub MessagesAreReadIn : Codec → NetworkParts → List Entry → Plant → Type 0
MessagesAreReadIn c n es s = AreReadings c n es

abbrev pub MessagesAreRead : Type 0
MessagesAreRead = InShortRuns MessagesAreReadIn

-- Of requests the same, also where ids wrap around: the content of replies does not matter for it.
pub record AreRequestReadings (c : Codec) (n : NetworkParts) (es : List Entry) : Type 0 where
  pub queues : (a b : As) (asks : List Asked) (os : List Output) (older : Transcript) → Within (Takes b (Inner a) (messages.PcReq asks) os ∷ older) (deeds_of c n es) → IsFromQueue a b (messages.PcReq asks) older
  pub single : (at : As) (p : Peer) (asks : List Asked) (os : List Output) (older : Transcript) → Within (Takes at p (messages.PcReq asks) os ∷ older) (deeds_of c n es) → length asks ≡ 1

abbrev pub RequestsAreReadIn : Codec → NetworkParts → List Entry → Plant → Type 0
RequestsAreReadIn c n es s = AreRequestReadings c n es

abbrev pub RequestsAreRead : Type 0
RequestsAreRead = InRuns RequestsAreReadIn
