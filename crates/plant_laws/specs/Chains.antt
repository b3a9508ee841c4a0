-- Laws of every run: a request has one chain, and in a quiet state the chain of a pending request ends at an outside peer.
use Rattle.std.specs.Prelude.{◌≡◌, ◌≢◌, ℕ, Bool, false, cond, is_some, Contains, List, [], ◌∷◌, Option, Some, None}
use Rattle.plant_model.specs.Types.{As, Peer, Outside, Inner, NetworkParts}
use Rattle.plant_model.specs.Routes.{StaysInside}
use Rattle.request_table.specs.Pending.{key_of, number_of}
use Rattle.plant_text.specs.Names.{same_as, parent_as}
use Rattle.plant_model.specs.Wire.{Codec}
use Rattle.plant_model.specs.State.{Connection}
use Rattle.plant_model.specs.Events.{is_ready}
use Rattle.plant_model.specs.Element.{Waits, Row}
use Rattle.plant_model.specs.Plant.{Pin, Plant, Entry, deeds_of}
use Rattle.plant_laws.specs.Transcript.{Transcript, Handed, Visit, Chain, numbers, opened}
use Rattle.plant_laws.specs.Runs.{InRuns, InShortRuns}

-- A request has one chain: two that begin with the same moment and lead through the same domains have the same moments.
abbrev pub moments : List Visit → List Transcript
moments [] = []
moments (leg ∷ legs) = leg.at ∷ moments legs

-- none of them is the parent, which sends several requests for one
abbrev pub AreElements : List Visit → Type 0
AreElements [] = Unit {0}
AreElements (leg ∷ legs) = (leg.own ≢ parent_as) × AreElements legs

abbrev pub OneChainIn : Codec → NetworkParts → List Entry → Plant → Type 0
OneChainIn c n es s =
    (one other : Visit) (rest rest' : List Visit) → one.at ≡ other.at → AreElements (one ∷ rest) →
    Chain (deeds_of c n es) (one ∷ rest) → Chain (deeds_of c n es) (other ∷ rest') →
    numbers (one ∷ rest) ≡ numbers (other ∷ rest') → moments (one ∷ rest) ≡ moments (other ∷ rest')

abbrev pub OneChain : Type 0
OneChain = InRuns OneChainIn

-- every inbox and every inner queue is empty, and no job is ready
abbrev pub HasEmptyInbox : Option Connection → Type 0
HasEmptyInbox None = Unit {0}
HasEmptyInbox (Some x) = x.inbox ≡ []

pub record IsQuiet (s : Plant) : Type 0 where
  pub inboxes : (i : ℕ) → HasEmptyInbox (s.accesses i).connection
  pub queues : (a b : As) → s.queues a b ≡ []
  pub jobs : (d : As) (k : ℕ) → is_ready d k s ≡ false

-- Of a request that is pending at d, the very one that d sent on to b under an id is pending there.
pub record IsPassedOn (c : Codec) (s : Plant) (now : Transcript) (d : As) (h : Row Pin) (b : As) (y : ℕ) (g : Row Pin) : Type 0 where
  pub pending : Contains (s.elements b).pending.rows g
  pub key : g.1.key ≡ key_of (Inner d) y
  pub sent : Transcript
  pub is_sent : opened c d h.1.key.peer h.1.key.id now ≡ Some sent
  pub taken : Transcript
  pub is_taken : opened c b (Inner d) y now ≡ Some taken
  pub handed : Handed d b sent taken

-- The chain of a pending request ends at an outside peer: it waits on one, or on an element where it was passed on to, and whose own waits
-- so in turn.
pub data WaitsOutside (c : Codec) (s : Plant) (now : Transcript) : As → Row Pin → Type 0 where
  asks_outside : (d : As) (h : Row Pin) (i y : ℕ) → h.1.item.stage ≡ Waits (Outside i) y → WaitsOutside c s now d h
  through : (d b : As) (h g : Row Pin) (y : ℕ) → h.1.item.stage ≡ Waits (Inner b) y → IsPassedOn c s now d h b y g → WaitsOutside c s now b g → WaitsOutside c s now d h

-- Quiet means answered, or asked outside. At the parent it means answered.
abbrev pub QuietIsAnsweredIn : Codec → NetworkParts → List Entry → Plant → Type 0
QuietIsAnsweredIn c n es s = IsQuiet s → (s.parent.pending.rows ≡ []) × ((d : As) (h : Row Pin) → Contains (s.elements d).pending.rows h → WaitsOutside c s (deeds_of c n es) d h)

abbrev pub QuietIsAnswered : Type 0
QuietIsAnswered = InShortRuns QuietIsAnsweredIn

-- So where paths go on through no outside peer, nothing is pending.
abbrev pub QuietHasNonePendingIn : Codec → NetworkParts → List Entry → Plant → Type 0
QuietHasNonePendingIn c n es s = StaysInside n → IsQuiet s → (s.parent.pending.rows ≡ []) × ((d : As) → (s.elements d).pending.rows ≡ [])

abbrev pub QuietHasNonePending : Type 0
QuietHasNonePending = InShortRuns QuietHasNonePendingIn

-- is the request x of p pending at d
abbrev pub is_pending : Plant → As → Peer → ℕ → Bool
is_pending s d p x = cond (same_as d parent_as) (is_some (number_of s.parent.pending p x)) (is_some (number_of (s.elements d).pending p x))
