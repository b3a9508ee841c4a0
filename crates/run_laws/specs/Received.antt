-- The messages that an outside peer reads from the bytes that drains hand out over its connection.
use Rattle.std.specs.Prelude.{◌≡◌, ◌⊎◌, ℕ, true, false, List, [], map, Contains, Some, None}
use Rattle.std.specs.List.{AllByRecursion}
use Rattle.plant_laws.specs.plant_model.Types.{As, Message, Reply, Path, NetworkParts, Outside}
use Rattle.pcep_codes.specs.declared.no_paths.TheConstants as no_paths
use Rattle.pcep_messages.specs.declared.message.Message.TheVariants as messages
use Rattle.pcep_messages.specs.declared.message.Answer.TheVariants.{Paths, NoPath}
use Rattle.pcep_messages.specs.Messages.{Reads}
use Rattle.pcep_messages.specs.Spelling.{message_text}
use Rattle.pcep_framing.specs.Feeding.{Progress, feed_of}
use Rattle.plant_text.specs.Settings.{class_of}
use Rattle.plant_laws.specs.plant_model.Element.{is_client}
use Rattle.plant_laws.specs.plant_model.Laws.{IsNetwork}
use Rattle.plant_laws.specs.plant_model.Plant.{Entry, Plant, Run, deeds_of}
use Rattle.plant_laws.specs.plant_model.RealWire.{wire}
use Rattle.plant_laws.specs.plant_model.Wire.{Bytes}
use Rattle.plant_laws.specs.Transcript.{Transcript}
use Rattle.plant_laws.specs.About.{IsPathAnswer, IsShort, IsViaParent, Replies}
use Rattle.plant_laws.specs.Headline.{HasNoneOfChain, IsOfChain, IsOfParent}
use Rattle.run_laws.specs.Outlets.{Outlet, bytes_of, outlet}

-- the progress of a framer over a whole stream
abbrev pub framed : Bytes → Progress
framed stream = feed_of (record { held = []; bad = false }) stream

-- The frames of the stream are the texts of these messages, none is left over, and each is read as what was meant.
pub record IsStreamOf (ms : List Message) (stream : Bytes) : Type 0 where
  pub frames : (framed stream).frames ≡ map message_text ms
  pub whole : (framed stream).framing ≡ record { held = []; bad = false }
  pub each : AllByRecursion (λ (m : Message). Reads (message_text m) m) ms

abbrev pub HandedIsRead : Type 0
HandedIsRead =
    (n : NetworkParts) → IsNetwork n → (es : List Entry) (s : Plant) → Run wire n es s → IsShort (deeds_of wire n es) →
    (i : ℕ) (x : Outlet) → outlet i es ≡ Some x → IsStreamOf x.put (bytes_of wire x.put)

-- The reply was sent to the client in a moment of the run. A path that it has is the parent's, or least along the chain of the request
-- that was open under its id; where it says that none is found, none exists.
pub record IsRight (n : NetworkParts) (now : Transcript) (i : ℕ) (r : Reply) : Type 0 where
  pub at : As
  pub older : Transcript
  pub moment : Transcript
  pub sent : Replies now moment older at (Outside i) r
  pub paths : (paths : List Path) → r.answer ≡ Paths paths → IsOfParent wire n older moment at i r paths ⊎ IsOfChain wire n older moment at i r paths
  pub none : (vector : ℕ) → r.answer ≡ NoPath no_paths.NONE_FOUND vector → IsViaParent wire n older moment at (Outside i) r.id None ⊎ HasNoneOfChain wire n older moment at i r

abbrev pub AnswersAreRight : Type 0
AnswersAreRight =
    (n : NetworkParts) → IsNetwork n → (es : List Entry) (s : Plant) → Run wire n es s → IsShort (deeds_of wire n es) →
    (i : ℕ) → is_client (class_of n (Outside i)) ≡ true → (x : Outlet) → outlet i es ≡ Some x →
    (replies : List Reply) → Contains x.put (messages.PcRep replies) → (r : Reply) → Contains replies r → IsPathAnswer r → IsRight n (deeds_of wire n es) i r
