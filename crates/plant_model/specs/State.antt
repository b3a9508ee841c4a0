-- The state of a network, and the parts of its transcript.
use Rattle.std.specs.Prelude.{ℕ, List, [], ◌∷◌, ◌++◌, Option}
use Rattle.plant_model.specs.Types.{As, Peer, Message, Sent, Issued, State as Session}
use Rattle.te_links.specs.Rows.{Rows}
use Rattle.plant_model.specs.declared.output.Output.{Output}
use Rattle.plant_model.specs.Wire.{Bytes, Codec}
use Rattle.plant_model.specs.Element.{Element}
use Rattle.plant_model.specs.Parent.{Parent}
use Rattle.pcep_framing.specs.Frames.{Framing}

-- An open outside peer. An item of the inbox is a message, or the place of a bad header.
pub record Connection : Type 0 where
  pub holder : ℕ
  pub session : Session
  pub framing : Framing
  pub inbox : List (Option Bytes)
  pub out : List Bytes

-- an outside peer, and how often it was opened
pub record Access : Type 0 where
  pub opened : ℕ
  pub connection : Option Connection

-- P is what a pin is, and S what a key stands for. The current pin of an element is that of its newest topology. A queue and a
-- session are named by the end that sends.
pub record State (P : Type 0) (S : Type 0) : Type 0 where
  pub clock : ℕ
  pub elements : As → Element P S
  pub parent : Parent
  pub current : As → P
  pub accesses : ℕ → Access
  pub sessions : As → As → Session
  pub queues : As → As → List Bytes

-- One deed of an event. An event is done in deeds, one after the other.
pub data Deed (S : Type 0) : Type 0 where
  -- an element loads a topology
  Loads : (at : As) → Rows → Deed S
  -- the first message of a queue is taken
  Pops : (from to : As) → Deed S
  -- an element, or the parent, is given a message, and sends what it has to say
  Takes : (at : As) → (from : Peer) → Message → List Output → Deed S
  -- a session sends a message of its own
  Says : (at : As) → Output → Deed S
  -- a session comes up, or goes down: then the requests of the peer are dropped, and those that wait on it are answered
  Ups : (at : As) → Peer → Deed S
  Downs : (at : As) → Peer → List Output → Deed S
  -- both queues of a link are emptied
  Clears : (one other : As) → Deed S
  -- a job is answered; the keys are those of the element right after it
  Solves : (at : As) → (number : ℕ) → List Output → List (Issued S) → Deed S
  -- the clock has gone on, and keys expire
  Expires : (now : ℕ) → Deed S
  -- the bytes of an out queue are handed out
  Hands : (peer : ℕ) → Bytes → Deed S

-- the messages that a deed puts into queues
abbrev pub sent_by : Codec → As → List Output → List Sent
sent_by c at [] = []
sent_by c at (o ∷ os) = record { from = at; to = o.to; bytes = c.text o.message } ∷ sent_by c at os

abbrev pub sent_in : {S : Type 0} → Codec → Deed S → List Sent
sent_in c (Takes at from m outputs) = sent_by c at outputs
sent_in c (Says at o) = sent_by c at (o ∷ [])
sent_in c (Downs at p outputs) = sent_by c at outputs
sent_in c (Solves at number outputs keys) = sent_by c at outputs
sent_in c _ = []

-- the messages of an event, in order; its deeds have the newest first
abbrev pub said : {S : Type 0} → Codec → List (Deed S) → List Sent
said c [] = []
said c (d ∷ ds) = said c ds ++ sent_in c d
