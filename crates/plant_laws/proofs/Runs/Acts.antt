-- An event is done in acts, one after the other. Each act leaves the topologies, and is one of a few kinds.
use Rattle.std.specs.Prelude.{◌≡◌, ℕ, List, [], ◌∷◌, ◌++◌, Some}
use Rattle.plant_model.specs.Types.{As, Peer, Outside, Inner, Hop, Message, Own, NetworkParts}
use Rattle.plant_model.specs.Names.{set_pair}
use Rattle.plant_model.specs.Wire.{Bytes, Codec}
use Rattle.plant_text.specs.Settings.{Adjacency}
use Rattle.plant_model.specs.Outside.{heeded}
use Rattle.plant_model.specs.State.{State, Deed, Pops, Hands}
use Rattle.plant_model.specs.Deeds as deeds
use Rattle.plant_model.specs.Deeds.{Going, element_of}

-- elements, pins and inner queues are as before
pub record IsSameCore (P : Type 0) (S : Type 0) (s t : State P S) : Type 0 where
  pub elements : t.elements ≡ s.elements
  pub parent : t.parent ≡ s.parent
  pub current : t.current ≡ s.current
  pub queues : t.queues ≡ s.queues

module _ (P : Type 0) (S : Type 0) (c : Codec) (n : NetworkParts) (show : S → List Hop) where
  abbrev pub from : State P S → Going P S
  from s = record { state = s; deeds = [] }

  -- the first message of a queue is taken
  abbrev pub popped : As → As → List Bytes → State P S → State P S
  popped a b rest s = record s { queues = set_pair a b rest s.queues }

  abbrev pub with_pop : As → As → State P S → Going P S
  with_pop a b t = record { state = t; deeds = Pops a b ∷ [] }

  -- what the element of an outside peer heeds of a message that came as these bytes
  abbrev pub IsHeard : ℕ → State P S → Bytes → Message → Type 0
  IsHeard i s bytes m = (raw : Message) × (c.read bytes ≡ Some raw) × (m ≡ heeded c (Outside i) (s.elements (element_of n i)).pending.rows raw)

  -- One act: the state before it, its deeds, the newest first, and the state after it.
  pub data Acts : State P S → List (Deed S) → State P S → Type 0 where
    -- sessions, framers, inboxes and out queues change alone
    rests : (s t : State P S) → IsSameCore P S s t → Acts s [] t
    -- an outside peer's message is taken
    hears : (i : ℕ) (bytes : Bytes) (m : Message) (s : State P S) → IsHeard i s bytes m →
        Acts s (deeds.give P S c n show (element_of n i) (Outside i) m (from s)).deeds (deeds.give P S c n show (element_of n i) (Outside i) m (from s)).state
    -- a message of an inner queue is taken
    carries : (a b : As) (bytes : Bytes) (rest : List Bytes) (m : Message) (s t : State P S) → s.queues a b ≡ bytes ∷ rest → c.read bytes ≡ Some m →
        IsSameCore P S (popped a b rest s) t →
        Acts s (deeds.give P S c n show b (Inner a) m (with_pop a b t)).deeds (deeds.give P S c n show b (Inner a) m (with_pop a b t)).state
    -- one that the session keeps
    nods : (a b : As) (bytes : Bytes) (rest : List Bytes) (s : State P S) → s.queues a b ≡ bytes ∷ rest → Acts s (Pops a b ∷ []) (popped a b rest s)
    -- an out queue is handed out
    hands : (i : ℕ) (bytes : Bytes) (s t : State P S) → IsSameCore P S s t → Acts s (Hands i bytes ∷ []) t
    rises : (at : As) (p : Peer) (s : State P S) → Acts s (deeds.rise P S c n show at p (from s)).deeds (deeds.rise P S c n show at p (from s)).state
    falls : (at : As) (p : Peer) (s : State P S) → Acts s (deeds.fall P S c n show at p (from s)).deeds (deeds.fall P S c n show at p (from s)).state
    says : (at : As) (p : Peer) (o : Own) (s : State P S) → Acts s (deeds.say P S c n show at p o (from s)).deeds (deeds.say P S c n show at p o (from s)).state
    clears : (x : Adjacency) (s : State P S) → Acts s (deeds.clear P S c n show x (from s)).deeds (deeds.clear P S c n show x (from s)).state
    expires : (now : ℕ) (s : State P S) → Acts s (deeds.expire P S c n show now (from s)).deeds (deeds.expire P S c n show now (from s)).state

  -- several, the newest last
  pub data Goes : State P S → List (Deed S) → State P S → Type 0 where
    stands : (s : State P S) → Goes s [] s
    goes_on : (s t u : State P S) (ds es : List (Deed S)) → Goes s ds t → Acts t es u → Goes s (es ++ ds) u
