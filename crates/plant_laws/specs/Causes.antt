-- Each message of a run has its cause, and where the cause holds it is sent. HasCause says of a deed why it was done and what it
-- sent, SaysAll that each cause of a deed has its deed. MessageCauses has the answers to a message.
use Rattle.std.specs.Prelude.{◌≡◌, ◌≢◌, ◌⊎◌, ◌%◌, ℕ, true, false, cond, List, [], ◌∷◌, ◌++◌, Contains, Option, Some, Ok}
use Rattle.plant_model.specs.Types.{As, Tick, Peer, Outside, Inner, Message, Input, Action, Own, State as Session, NetworkParts}
use Rattle.pcep_session.specs.declared.session.Input.TheVariants as input
use Rattle.pcep_session.specs.declared.actions.Action.TheVariants as action
use Rattle.pcep_session.specs.declared.actions.Own.TheVariants as own
use Rattle.pcep_session.specs.Table.{new_state, turn_of}
use Rattle.plant_text.specs.Names.{same_as, parent_as}
use Rattle.plant_text.specs.Settings.{Adjacency, adjacencies, is_linked}
use Rattle.plant_model.specs.declared.event.Event.{Event}
use Rattle.plant_model.specs.declared.event.Event.TheVariants as event
use Rattle.plant_model.specs.declared.outcome.Outcome.{Outcome}
use Rattle.plant_model.specs.declared.output.Output.{Output}
use Rattle.plant_model.specs.Wire.{Bytes, Codec}
use Rattle.plant_model.specs.Element.{Waits, Row}
use Rattle.plant_model.specs.Element as element
use Rattle.plant_model.specs.Parent.{Wait, AskingRow}
use Rattle.plant_model.specs.Parent as parent
use Rattle.plant_model.specs.State.{Connection, Takes, Says, Downs, Clears, Solves}
use Rattle.plant_model.specs.Deeds.{our_offer, own_message, element_of, is_tick, any_fall, input_of}
use Rattle.plant_model.specs.Outside.{heeded}
use Rattle.plant_model.specs.Events.{later}
use Rattle.plant_model.specs.Plant.{Pin, Plant, PlantDeed, Happened, Entry, Run, Steps, opened}
use Rattle.plant_laws.specs.Transcript.{Transcript}
use Rattle.plant_laws.specs.Solves.{ElementTells, ParentTells}
use Rattle.plant_laws.specs.MessageCauses.{Asker, chain_broken, OnMessage, OnMessageAbove}

-- ---- a session that goes down

-- the pending requests that the deeds so far have left: those whose peer went down are dropped, and those that waited on it
abbrev pub left_rows : As → List (Row Pin) → Transcript → List (Row Pin)
left_rows d rows [] = rows
left_rows d rows (Downs at q os ∷ earlier) = cond (same_as at d) (element.kept q (left_rows d rows earlier)) (left_rows d rows earlier)
left_rows d rows (e ∷ earlier) = left_rows d rows earlier

abbrev pub left_above : List AskingRow → Transcript → List AskingRow
left_above rows [] = rows
left_above rows (Downs at q os ∷ earlier) = cond (same_as at parent_as) (parent.kept q (left_above rows earlier)) (left_above rows earlier)
left_above rows (e ∷ earlier) = left_above rows earlier

-- a request of another peer that waits on this one
abbrev pub IsLost : Peer → Row Pin → Type 0
IsLost p h = (h.1.key.peer ≢ p) × (y : ℕ) × (h.1.item.stage ≡ Waits p y)

abbrev pub IsLostAbove : Peer → AskingRow → Type 0
IsLostAbove p h = (h.1.key.peer ≢ p) × (w : Wait) × Contains h.1.item.waits w × (w.peer ≡ p)

-- for each of these that is lost, in order: the chain is not available
abbrev pub AnswersLost : {X : Type 0} → (X → Type 0) → (X → Asker) → List X → List Output → Type 0
AnswersLost Lost asker [] os = os ≡ []
AnswersLost Lost asker (h ∷ hs) os =
    (Lost h × (rest : List Output) × (os ≡ chain_broken (asker h) ++ rest) × AnswersLost Lost asker hs rest)
    ⊎ ((¬ Lost h) × AnswersLost Lost asker hs os)

abbrev pub asker_of : Row Pin → Asker
asker_of h = record { peer = h.1.key.peer; flags = h.1.item.flags; id = h.1.key.id }

abbrev pub asker_above : AskingRow → Asker
asker_above h = record { peer = h.1.key.peer; flags = h.1.item.flags; id = h.1.key.id }

-- ---- an event, in the state before it

module _ (c : Codec) (n : NetworkParts) (before : Plant) (e : Event) where
  -- A message came first, and the session that it came to passes it on to its element, or the parent: what is heeded of it,
  -- where it came from outside.
  pub data Passes (at : As) (p : Peer) (m : Message) : Type 0 where
    from_outside : (i : ℕ) (x : Connection) (bytes : Bytes) (rest : List (Option Bytes)) (raw : Message) → e ≡ event.Take i → (before.accesses i).connection ≡ Some x → x.inbox ≡ Some bytes ∷ rest →
        c.read bytes ≡ Some raw → (turn_of x.session (input.Got raw)).actions ≡ action.Pass raw ∷ [] →
        m ≡ heeded c (Outside i) (before.elements (element_of n i)).pending.rows raw → at ≡ element_of n i → p ≡ Outside i → Passes at p m
    from_inside : (a : As) (bytes : Bytes) (rest : List Bytes) → e ≡ event.Carry a at → is_linked n a at ≡ true → before.queues a at ≡ bytes ∷ rest →
        c.read bytes ≡ Some m → (turn_of (before.sessions at a) (input.Got m)).actions ≡ action.Pass m ∷ [] → p ≡ Inner a → Passes at p m

  -- the messages in answer to it
  pub data OnPassed (at : As) (p : Peer) (m : Message) (os : List Output) : Type 0 where
    by_element : same_as at parent_as ≡ false → OnMessage c n at (before.current at) p before.clock m (before.elements at) os → OnPassed at p m os
    by_parent : same_as at parent_as ≡ true → OnMessageAbove c n p m before.parent os → OnPassed at p m os

  -- What came to a session: that it begins, a message, one that can't be read, or a tick.
  pub data Comes (at : As) (p : Peer) (x : Session) (came : Input) : Type 0 where
    begins : (i holder : ℕ) → e ≡ event.Open i holder → at ≡ element_of n i → p ≡ Outside i → x ≡ new_state (our_offer ((before.accesses i).opened % 256)) (record { 0 = before.clock }) →
        came ≡ input.Begin → Comes at p x came
    came_first : (i : ℕ) (k : Connection) (item : Option Bytes) (rest : List (Option Bytes)) → e ≡ event.Take i → at ≡ element_of n i → p ≡ Outside i →
        (before.accesses i).connection ≡ Some k → k.inbox ≡ item ∷ rest → x ≡ k.session → came ≡ input_of c item → Comes at p x came
    came_along : (a : As) (bytes : Bytes) (rest : List Bytes) → e ≡ event.Carry a at → p ≡ Inner a → is_linked n a at ≡ true → before.queues a at ≡ bytes ∷ rest →
        x ≡ before.sessions at a → came ≡ input_of c (Some bytes) → Comes at p x came
    ticks : (t : Tick) → e ≡ event.Tick t → came ≡ input.Tick (record { 0 = later before.clock t.0 }) → Comes at p x came

  -- why a session says something of its own: by its table, or as a link that broke is begun anew
  pub data OfSession (earlier : Transcript) (at : As) (o : Output) : Type 0 where
    by_table : (x : Session) (came : Input) (o' : Own) → Comes at o.to x came → Contains (turn_of x came).actions (action.Send o') → o.message ≡ own_message o' → OfSession earlier at o
    anew : (a b : As) (sid : ℕ) → Contains earlier (Clears a b) → ((at ≡ a) × (o.to ≡ Inner b)) ⊎ ((at ≡ b) × (o.to ≡ Inner a)) → o.message ≡ own_message (own.Open (our_offer sid)) → OfSession earlier at o

  -- a job is solved
  pub data OfSolve (deed : PlantDeed) : Type 0 where
    of_element : (d : As) (k : ℕ) → e ≡ event.Solve d k → ElementTells c n before d k (deed ∷ []) → OfSolve deed
    of_parent : (k : ℕ) → e ≡ event.Solve parent_as k → ParentTells c n before k (deed ∷ []) → OfSolve deed

  -- Why a deed of the event was done that sends something, and what it sends. The other deeds send nothing.
  abbrev pub HasCause : Transcript → PlantDeed → Type 0
  HasCause earlier (Takes at p m os) = Passes at p m × OnPassed at p m os
  HasCause earlier (Downs at p os) =
      cond (same_as at parent_as)
      (AnswersLost (IsLostAbove p) asker_above (left_above before.parent.pending.rows earlier) os)
      (AnswersLost (IsLost p) asker_of (left_rows at (before.elements at).pending.rows earlier) os)
  HasCause earlier (Says at o) = OfSession earlier at o
  HasCause earlier (Solves at k os keys) = OfSolve (Solves at k os keys)
  HasCause earlier deed = Unit {0}

  abbrev pub HaveCauses : Transcript → Type 0
  HaveCauses [] = Unit {0}
  HaveCauses (deed ∷ earlier) = HasCause earlier deed × HaveCauses earlier

  -- a session goes down, at this end: it is shut, its link breaks, or it ends by what came to it
  pub data Falls (at : As) (p : Peer) : Type 0 where
    shut : (i : ℕ) → e ≡ event.Shut i → at ≡ element_of n i → p ≡ Outside i → Falls at p
    broken : (b : As) → (e ≡ event.Break at b) ⊎ (e ≡ event.Break b at) → p ≡ Inner b → Falls at p
    ended : (i : ℕ) (k : Connection) (item : Option Bytes) (rest : List (Option Bytes)) → e ≡ event.Take i → at ≡ element_of n i → p ≡ Outside i →
        (before.accesses i).connection ≡ Some k → k.inbox ≡ item ∷ rest → any_fall (turn_of k.session (input_of c item)).actions ≡ true → Falls at p
    ended_along : (a b : As) (bytes : Bytes) (rest : List Bytes) → e ≡ event.Carry a b → ((at ≡ a) × (p ≡ Inner b)) ⊎ ((at ≡ b) × (p ≡ Inner a)) → is_linked n a b ≡ true →
        before.queues a b ≡ bytes ∷ rest → any_fall (turn_of (before.sessions b a) (input_of c (Some bytes))).actions ≡ true → Falls at p

  -- the last messages of a session that breaks its link are not sent
  abbrev pub LinkStays : Peer → List Action → Type 0
  LinkStays (Outside i) actions = Unit {0}
  LinkStays (Inner a) actions = any_fall actions ≡ false

  -- A message that is passed on is taken, lost requests are answered where a session goes down, and except at a tick a session says what its
  -- table calls for.
  pub record SaysAll (deeds : Transcript) : Type 0 where
    pub passed : (at : As) (p : Peer) (m : Message) → Passes at p m → (os : List Output) × Contains deeds (Takes at p m os)
    pub fell : (at : As) (p : Peer) → Falls at p → (os : List Output) × Contains deeds (Downs at p os)
    pub spoke : (at : As) (p : Peer) (x : Session) (came : Input) (o : Own) → Comes at p x came → is_tick came ≡ false → LinkStays p (turn_of x came).actions → Contains (turn_of x came).actions (action.Send o) →
        Contains deeds (Says at (record { to = p; message = own_message o }))

-- In every run, of each event that is accepted.
abbrev pub MessagesHaveCauses : Type 0
MessagesHaveCauses = (c : Codec) (n : NetworkParts) (es : List Entry) (before : Plant) → Run c n es before → (e : Event) (h : Happened) → Steps c n before e h → (o : Outcome) → h.answer ≡ Ok o →
    HaveCauses c n before e h.deeds × SaysAll c n before e h.deeds

-- the deeds before the first event: an Open at each end of each link, one link after the other, the lower end first
abbrev pub an_open : As → As → PlantDeed
an_open at b = Says at (record { to = Inner b; message = own_message (own.Open (our_offer 0)) })

abbrev pub opens_of : List Adjacency → Transcript → Transcript
opens_of [] earlier = earlier
opens_of (x ∷ xs) earlier = opens_of xs (an_open x.upper x.lower ∷ an_open x.lower x.upper ∷ earlier)

abbrev pub NetworksBegin : Type 0
NetworksBegin = (c : Codec) (n : NetworkParts) → (opened c n).deeds ≡ opens_of (adjacencies n) []
