-- A reply that a gets from b under an id answers the very request that a sent to b under that id.
use Rattle.std.specs.Prelude.{◌≡◌, ◌≢◌, ℕ, List, [], ◌∷◌, Contains, Some}
use Rattle.plant_model.specs.Types.{As, Addr, Asked, Reply, Wanted, NetworkParts, Inner}
use Rattle.pcep_messages.specs.declared.message.Message.TheVariants as messages
use Rattle.plant_model.specs.declared.output.Output.{Output}
use Rattle.plant_text.specs.Names.{parent_as}
use Rattle.plant_model.specs.Wire.{Codec}
use Rattle.plant_model.specs.Writing.{request_message}
use Rattle.plant_model.specs.Element.{Waits, Row}
use Rattle.plant_model.specs.State.{Takes}
use Rattle.plant_model.specs.Plant.{Pin, Plant, PlantDeed, Entry, deeds_of}
use Rattle.plant_laws.specs.Transcript.{Transcript, Within, opened, effect, Ends, standing, Handed, SentIn}
use Rattle.plant_laws.specs.Runs.{InShortRuns}

-- How the deed of b, with what was before it, is about the request y of a that a sent in the moment.
pub data Answering (c : Codec) (a b : As) (y : ℕ) (sending : Transcript) (deed : PlantDeed) (older : Transcript) : Type 0 where
  -- it ends the pending request, which was delivered by the very message that a sent then
  ends : (at : Transcript) → opened c b (Inner a) y older ≡ Some at → effect c b (Inner a) y deed ≡ Ends → Handed a b sending at → Answering c a b y sending deed older
  -- it takes the very message that a sent then, and answers it at once
  at_once : (asks : List Asked) (os : List Output) → deed ≡ Takes b (Inner a) (messages.PcReq asks) os → Handed a b sending (deed ∷ older) → Answering c a b y sending deed older

-- The reply that b put into its queue to a in a moment, and the row of a that waits for its id: the moment that opened the row
-- is the one in which a sent the request that the reply answers.
pub record IsMatched (c : Codec) (now : Transcript) (a b : As) (h : Row Pin) (y : ℕ) (put : Transcript) : Type 0 where
  pub deed : PlantDeed
  pub older : Transcript
  pub is_put : put ≡ deed ∷ older
  pub within : Within put now
  pub sending : Transcript
  pub is_open : opened c a h.1.key.peer h.1.key.id now ≡ Some sending
  pub answering : Answering c a b y sending deed older

-- In every state of a run in which no id wrapped around, of each reply that stands in an inner queue.
abbrev pub RepliesMatchIn : Codec → NetworkParts → List Entry → Plant → Type 0
RepliesMatchIn c n es s =
    (a b : As) → a ≢ parent_as → (r : Reply) (put : Transcript) → Contains (standing b a (deeds_of c n es)) (record { message = messages.PcRep (r ∷ []); put = put }) →
    (h : Row Pin) → Contains (s.elements a).pending.rows h → h.1.item.stage ≡ Waits (Inner b) r.id → IsMatched c (deeds_of c n es) a b h r.id put

abbrev pub RepliesMatch : Type 0
RepliesMatch = InShortRuns RepliesMatchIn

-- The same of a reply that a takes, which b said before, with the moment in which a sent the request under its id.
pub record Concerns (c : Codec) (a b : As) (y : ℕ) (deed : PlantDeed) (older : Transcript) : Type 0 where
  pub sending : Transcript
  pub wanted : Wanted
  pub target : Addr
  pub rest : List As
  pub sent : SentIn sending a (Inner b) (request_message y wanted target rest)
  pub answering : Answering c a b y sending deed older

pub record IsReplyTo (c : Codec) (now : Transcript) (a b : As) (r : Reply) : Type 0 where
  pub deed : PlantDeed
  pub older : Transcript
  pub within : Within (deed ∷ older) now
  pub said : SentIn (deed ∷ older) b (Inner a) (messages.PcRep (r ∷ []))
  pub concerns : Concerns c a b r.id deed older

abbrev pub RepliesAnswerIn : Codec → NetworkParts → List Entry → Plant → Type 0
RepliesAnswerIn c n es s = (a b : As) → a ≢ parent_as → (r : Reply) (os : List Output) (older : Transcript) → Within (Takes a (Inner b) (messages.PcRep (r ∷ [])) os ∷ older) (deeds_of c n es) → IsReplyTo c older a b r

abbrev pub RepliesAnswer : Type 0
RepliesAnswer = InShortRuns RepliesAnswerIn
