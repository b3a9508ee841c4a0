-- A request that waits is under way: it is in the queue of the next, pending there, or answered in the queue back; or an outside peer
-- was asked, about which only its own messages tell.
use Rattle.std.specs.Prelude.{◌≡◌, ◌≢◌, ◌≤◌, ℕ, List, [], ◌∷◌, Contains}
use Rattle.plant_model.specs.Types.{As, Addr, Peer, Outside, Inner, Message, Wanted, NetworkParts}
use Rattle.request_table.specs.Pending.{key_of}
use Rattle.plant_text.specs.Names.{parent_as}
use Rattle.plant_model.specs.Wire.{Codec}
use Rattle.plant_model.specs.Writing.{request_message}
use Rattle.plant_model.specs.Element.{Waits, Row}
use Rattle.plant_model.specs.Routes.{toward}
use Rattle.plant_model.specs.Settings.{place}
use Rattle.plant_model.specs.Parent.{Wait, AskingRow}
use Rattle.plant_model.specs.Plant.{Pin, Plant, Entry}
use Rattle.plant_laws.specs.Transcript.{count_answers}
use Rattle.plant_laws.specs.Runs.{InShortRuns}

-- The request that a sent on to b under an id, along a sequence, is on its way, is pending there, or is answered by what is on
-- its way back.
pub data IsUnderWay (c : Codec) (s : Plant) (a b : As) (id : ℕ) (sequence : List As) : Type 0 where
  coming : (w : Wanted) (t : Addr) → Contains (s.queues a b) (c.text (request_message id w t sequence)) → IsUnderWay c s a b id sequence
  taken : (h : Row Pin) → b ≢ parent_as → Contains (s.elements b).pending.rows h → h.1.key ≡ key_of (Inner a) id → h.1.item.sequence ≡ sequence → IsUnderWay c s a b id sequence
  taken_up : (h : AskingRow) → b ≡ parent_as → Contains s.parent.pending.rows h → h.1.key ≡ key_of (Inner a) id → IsUnderWay c s a b id sequence
  answered : (m : Message) → Contains (s.queues b a) (c.text m) → 1 ≤ count_answers id m → IsUnderWay c s a b id sequence

-- where a request went on to: along its sequence, to an element or to the outside peer that is asked for the next domain; or to the parent
pub data GoesOn (c : Codec) (n : NetworkParts) (s : Plant) (d : As) (h : Row Pin) (on : Peer) (id : ℕ) : Type 0 where
  along : (b : As) (rest : List As) → on ≡ Inner b → b ≢ parent_as → h.1.item.sequence ≡ d ∷ b ∷ rest → IsUnderWay c s d b id (b ∷ rest) → GoesOn c n s d h on id
  outside : (i : ℕ) (b : As) (rest : List As) → on ≡ Outside i → toward b (place n d).routes ≡ Outside i → h.1.item.sequence ≡ d ∷ b ∷ rest → GoesOn c n s d h on id
  upward : on ≡ Inner parent_as → h.1.item.sequence ≡ [] → IsUnderWay c s d parent_as id [] → GoesOn c n s d h on id

-- Each request that waits is under way.
pub record AreUnderWay (c : Codec) (n : NetworkParts) (s : Plant) : Type 0 where
  pub elements : (d : As) (h : Row Pin) (on : Peer) (id : ℕ) → Contains (s.elements d).pending.rows h → h.1.item.stage ≡ Waits on id → GoesOn c n s d h on id
  pub parent : (h : AskingRow) (w : Wait) → Contains s.parent.pending.rows h → Contains h.1.item.waits w → (w.child ≢ parent_as) × IsUnderWay c s parent_as w.child w.id (w.child ∷ [])

abbrev pub WaitsAreUnderWayIn : Codec → NetworkParts → List Entry → Plant → Type 0
WaitsAreUnderWayIn c n es s = AreUnderWay c n s

abbrev pub WaitsAreUnderWay : Type 0
WaitsAreUnderWay = InShortRuns WaitsAreUnderWayIn
