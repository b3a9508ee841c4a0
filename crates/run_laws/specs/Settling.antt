-- The links of a network are calm: no message that stands in an inner queue takes a session down. So carrying messages and solving
-- jobs ends: each reduces a weight.
use Rattle.std.specs.Prelude.{◌≡◌, ◌<◌, ◌≤◌, ◌+◌, ◌-◌, ◌*◌, ◌^◌, ℕ, Bool, true, false, cond, List, [], ◌∷◌, ◌++◌, length, Option, Some, None, Ok}
use Rattle.plant_laws.specs.plant_model.Types.{As, ParentLink, Peer, Outside, Inner, Offer, Asked, Message, Wish, Phase, Held, NetworkParts}
use Rattle.pcep_codes.specs.declared.TheConstants.{VERSION}
use Rattle.pcep_messages.specs.declared.message.Message.TheVariants as messages
use Rattle.pcep_messages.specs.declared.message.Wish.TheVariants.{Path, Expand}
use Rattle.pcep_session.specs.declared.state.Phase.TheVariants as phase
use Rattle.pcep_session.specs.Table.{turn_of}
use Rattle.plant_text.specs.Names.{same_as, parent_as}
use Rattle.plant_text.specs.Settings.{adjacencies, is_linked, children, elements_of}
use Rattle.plant_laws.specs.plant_model.declared.event.Event.{Event}
use Rattle.plant_laws.specs.plant_model.declared.event.Event.TheVariants as event
use Rattle.plant_laws.specs.plant_model.declared.outcome.Outcome.TheVariants.{Done}
use Rattle.plant_laws.specs.plant_model.Wire.{Bytes, Codec, Checked, Admitted, Wrong}
use Rattle.plant_laws.specs.plant_model.Laws.{IsCodec, IsNetwork}
use Rattle.plant_laws.specs.plant_model.Element.{Way, way_to}
use Rattle.plant_laws.specs.plant_model.Taking.{sequence_or}
use Rattle.plant_laws.specs.plant_model.Parent as parent
use Rattle.plant_laws.specs.plant_model.Parent.{tails}
use Rattle.plant_laws.specs.plant_model.State.{State}
use Rattle.plant_laws.specs.plant_model.Deeds.{any_fall, input_of}
use Rattle.plant_laws.specs.plant_model.Plant.{Plant, Happened, Entry, Run, Steps, deeds_of}
use Rattle.plant_laws.specs.Transcript.{asks}
use Rattle.plant_laws.specs.About.{IsShort}
use Rattle.plant_laws.specs.Runs.{InShortRuns}

-- ---- calm links

-- a message for an open session: a Keepalive, or one that it passes on
abbrev pub is_ordinary : Message → Bool
is_ordinary messages.Keepalive = true
is_ordinary (messages.PcReq asks) = true
is_ordinary (messages.PcRep replies) = true
is_ordinary (messages.PcNtf notices) = true
is_ordinary (messages.PcErr reports) = true
is_ordinary (messages.Open body) = false
is_ordinary (messages.Close why) = false
is_ordinary (messages.Other kind) = false

module _ (c : Codec) where
  abbrev pub IsOpen : Bytes → Type 0
  IsOpen bytes = (offer : Offer) × (c.read bytes ≡ Some (messages.Open (record { version = VERSION; offer = offer })))

  abbrev pub IsKeepalive : Bytes → Type 0
  IsKeepalive bytes = c.read bytes ≡ Some messages.Keepalive

  abbrev pub IsOrdinary : Bytes → Type 0
  IsOrdinary bytes = (m : Message) × (c.read bytes ≡ Some m) × (is_ordinary m ≡ true)

  -- one first, and then the rest
  abbrev pub Begins : (Bytes → Type 0) → (List Bytes → Type 0) → List Bytes → Type 0
  Begins First Rest [] = ⊥
  Begins First Rest (x ∷ xs) = First x × Rest xs

  abbrev pub IsNothing : List Bytes → Type 0
  IsNothing [] = Unit {0}
  IsNothing (x ∷ xs) = ⊥

  abbrev pub AreOrdinary : List Bytes → Type 0
  AreOrdinary [] = Unit {0}
  AreOrdinary (x ∷ xs) = IsOrdinary x × AreOrdinary xs

  -- What a queue holds, by the phase of the session that sends and of that which is to read (RFC 5440, section 4.2.1): each sends an
  -- Open, then a Keepalive, and then messages, and none is ahead of the other by more than one phase.
  abbrev pub Holds : Phase → Phase → List Bytes → Type 0
  Holds phase.OpenWait phase.OpenWait q = Begins IsOpen IsNothing q
  Holds phase.OpenWait phase.KeepWait q = IsNothing q
  Holds phase.KeepWait phase.OpenWait q = Begins IsOpen (Begins IsKeepalive IsNothing) q
  Holds phase.KeepWait phase.KeepWait q = Begins IsKeepalive IsNothing q
  Holds phase.KeepWait phase.Up q = IsNothing q
  Holds phase.Up phase.KeepWait q = Begins IsKeepalive AreOrdinary q
  Holds phase.Up phase.Up q = AreOrdinary q
  Holds sends reads q = ⊥

-- an inner peer that can be reached, and each outside one
abbrev pub Reaches : (As → Type 0) → Peer → Type 0
Reaches Up (Outside i) = Unit {0}
Reaches Up (Inner b) = Up b

-- the peer of each request can be reached
abbrev pub AllReach : {T : Type 0} → (As → Type 0) → List (ℕ × Held T) → Type 0
AllReach Up [] = Unit {0}
AllReach Up (h ∷ hs) = Reaches Up h.1.key.peer × AllReach Up hs

-- Whose requests are pending, and to whom requests may be sent, can be reached.
pub record KeepsTo {T : Type 0} (Up : As → Type 0) (rows : List (ℕ × Held T)) (ways : List Way) : Type 0 where
  pub asked : AllReach Up rows
  pub asks : (b : As) → parent.is_up (way_to (Inner b) ways) ≡ true → Up b

-- the elements, and the parent
pub record TablesReach {P : Type 0} {S : Type 0} (Up : As → As → Type 0) (s : State P S) : Type 0 where
  pub elements : (d : As) → same_as d parent_as ≡ false → KeepsTo (Up d) (s.elements d).pending.rows (s.elements d).ways
  pub parent : KeepsTo (Up parent_as) s.parent.pending.rows s.parent.ways

-- the session of one end with the other is open
abbrev pub IsUp : {P : Type 0} {S : Type 0} → State P S → As → As → Type 0
IsUp s a b = (s.sessions a b).phase ≡ phase.Up

pub record LinksAreCalm {P : Type 0} {S : Type 0} (c : Codec) (n : NetworkParts) (s : State P S) : Type 0 where
  pub queues : (a b : As) → is_linked n a b ≡ true → Holds c (s.sessions a b).phase (s.sessions b a).phase (s.queues a b)
  pub tables : TablesReach (IsUp s) s

-- Every link of every run is calm.
abbrev pub RunsAreCalmIn : Codec → NetworkParts → List Entry → Plant → Type 0
RunsAreCalmIn c n es s = LinksAreCalm c n s

abbrev pub RunsAreCalm : Type 0
RunsAreCalm = InShortRuns RunsAreCalmIn

-- The first message of a queue takes no session of a calm link down.
abbrev pub CarriesBreakNothing : Type 0
CarriesBreakNothing = (c : Codec) (n : NetworkParts) (s : Plant) → LinksAreCalm c n s → (a b : As) → is_linked n a b ≡ true → (x : Bytes) (rest : List Bytes) → s.queues a b ≡ x ∷ rest →
    any_fall (turn_of (s.sessions b a) (input_of c (Some x))).actions ≡ false

-- ---- weights

-- so many of each
abbrev pub total : {X : Type 0} → (X → ℕ) → List X → ℕ
total f [] = 0
total f (x ∷ xs) = f x + total f xs

-- how many requests the parent sends its children for one request, at most
abbrev pub errands_most : List ParentLink → List As → ℕ
errands_most links children = total (λ child. length (tails child links) + 1) children

-- the ends of inner links: the parent and the elements
abbrev pub ends : NetworkParts → List As
ends n = parent_as ∷ elements_of n.elements

module _ (c : Codec) (n : NetworkParts) where
  -- What a message at an end may bring about: a request to an element a request of one AS less and a pending request, one to the
  -- parent a request to each child for each end of interest.
  abbrev pub wish_weight : As → Wish → ℕ
  wish_weight b (Path w) = 10 * length (sequence_or b w.sequence)
  wish_weight b (Expand key pce) = 10

  abbrev pub checked_weight : As → Checked → ℕ
  checked_weight b (Wrong rp kind value) = 10
  checked_weight b (Admitted r) = wish_weight b r.wish

  abbrev pub above_weight : ℕ
  above_weight = 4 + 12 * errands_most n.parent_links (children n)

  abbrev pub asked_weight : As → Asked → ℕ
  asked_weight b a = cond (same_as b parent_as) above_weight (checked_weight b (c.check a b))

  abbrev pub cost : As → Message → ℕ
  cost b (messages.PcReq asks) = total (asked_weight b) asks
  cost b (messages.PcRep replies) = 2 * length replies
  cost b (messages.PcNtf notices) = 1
  cost b (messages.PcErr reports) = 1
  cost b (messages.Open body) = 2
  cost b messages.Keepalive = 0
  cost b (messages.Close why) = 0
  cost b (messages.Other kind) = 0

  -- in a queue a message counts one more than that
  abbrev pub read_weight : As → Option Message → ℕ
  read_weight b None = 1
  read_weight b (Some m) = 1 + cost b m

  abbrev pub queue_weight : As → List Bytes → ℕ
  queue_weight b q = total (λ bytes. read_weight b (c.read bytes)) q

  abbrev pub queues_weight : {P : Type 0} {S : Type 0} → State P S → ℕ
  queues_weight s = total (λ a. total (λ b. queue_weight b (s.queues a b)) (ends n)) (ends n)

  -- the pending requests
  abbrev pub pending_count : {P : Type 0} {S : Type 0} → State P S → ℕ
  pending_count s = length s.parent.pending.rows + total (λ d. length (s.elements d).pending.rows) (elements_of n.elements)

  abbrev pub weight : {P : Type 0} {S : Type 0} → State P S → ℕ
  weight s = queues_weight s + 4 * pending_count s

-- ---- what ends

-- a message is carried, or a job solved
abbrev pub IsWork : Event → Type 0
IsWork (event.Carry a b) = Unit {0}
IsWork (event.Solve d k) = Unit {0}
IsWork e = ⊥

abbrev pub IsAccepted : Happened → Type 0
IsAccepted h = h.answer ≡ Ok Done

-- Each carry and each solve that is accepted reduces the weight.
abbrev pub WorkWeighsLess : Type 0
WorkWeighsLess = (c : Codec) → IsCodec c → (n : NetworkParts) → IsNetwork n → (es : List Entry) (s : Plant) → Run c n es s →
    (e : Event) (h : Happened) → IsWork e → Steps c n s e h → IsAccepted h → IsShort (h.deeds ++ deeds_of c n es) → weight c n h.state < weight c n s

-- the entries, the newest first, are accepted carries and solves from one state to another
abbrev pub Works : Codec → NetworkParts → Plant → List Entry → Plant → Type 0
Works c n s [] t = t ≡ s
Works c n s (e ∷ more) t =
    (u : Plant) × Works c n s more u × IsWork e.event × Steps c n u e.event (record { answer = e.answer; state = t; deeds = e.deeds })
    × IsAccepted (record { answer = e.answer; state = t; deeds = e.deeds })

-- So no more of them follow one another than the weight is.
abbrev pub WorkEnds : Type 0
WorkEnds = (c : Codec) → IsCodec c → (n : NetworkParts) → IsNetwork n → (es more : List Entry) (s t : Plant) → Run c n es s → Works c n s more t →
    IsShort (deeds_of c n (more ++ es)) → length more + weight c n t ≤ weight c n s

-- No neighbour was sent more requests than there are ids, also if each that the weight still allows comes.
abbrev pub HasIds : Codec → NetworkParts → List Entry → Plant → Type 0
HasIds c n es s = (a b : As) → asks a b (deeds_of c n es) + weight c n s ≤ 4294967295

-- So where ids are left at the beginning, they are left at the end, and work ends.
abbrev pub WorkKeepsIds : Type 0
WorkKeepsIds = (c : Codec) → IsCodec c → (n : NetworkParts) → IsNetwork n → (es more : List Entry) (s t : Plant) → Run c n es s → HasIds c n es s → Works c n s more t →
    (length more + weight c n t ≤ weight c n s) × HasIds c n (more ++ es) t

-- A network that has just been made weighs six for each of its inner links, and sent no request.
abbrev pub NewNetworksWeigh : Type 0
NewNetworksWeigh = (c : Codec) → IsCodec c → (n : NetworkParts) → IsNetwork n → (s : Plant) → Run c n [] s →
    (weight c n s ≤ 6 * length (adjacencies n)) × ((a b : As) → asks a b (deeds_of c n []) ≡ 0)

-- ---- how much there can be

-- the messages in the queues of the ends
abbrev pub message_count : {P : Type 0} {S : Type 0} → NetworkParts → State P S → ℕ
message_count n s = total (λ a. total (λ b. length (s.queues a b)) (ends n)) (ends n)

-- more than any message weighs: a request has sixteen ASes at most, and one to the parent a weight of its own
abbrev pub message_most : NetworkParts → ℕ
message_most n = 165 + 12 * errands_most n.parent_links (children n)

-- In every run the weight is that of so many messages, and of the requests, of which the tables of elements and the parent have room
-- for few.
abbrev pub WeighsAtMostIn : Codec → NetworkParts → List Entry → Plant → Type 0
WeighsAtMostIn c n es s = (weight c n s ≤ message_most n * message_count n s + 4 * pending_count c n s) × (pending_count c n s ≤ 16448)

abbrev pub WeighsAtMost : Type 0
WeighsAtMost = InShortRuns WeighsAtMostIn

-- the settings bound what a message weighs
abbrev pub MessagesAreLight : Type 0
MessagesAreLight = (n : NetworkParts) → IsNetwork n → message_most n < 2 ^ 16

-- So carries and solves that follow one another are fewer than 2^64 - 1, where 2^47 messages stand in the queues at most.
abbrev pub FewFollowIn : Codec → NetworkParts → List Entry → Plant → Type 0
FewFollowIn c n es s = message_count n s ≤ 2 ^ 47 → weight c n s < 2 ^ 64 - 1

abbrev pub FewFollow : Type 0
FewFollow = InShortRuns FewFollowIn
