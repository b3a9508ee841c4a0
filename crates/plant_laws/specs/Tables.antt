-- The pending requests of elements and of the parent are those that the transcript shows open.
use Rattle.std.specs.Prelude.{◌≡◌, ℕ, true, List, Contains, Some}
use Rattle.plant_model.specs.Types.{As, Peer, Request, NetworkParts}
use Rattle.pcep_messages.specs.declared.message.Wish.TheVariants as wishes
use Rattle.request_table.specs.Pending.{ArePending, pending_most}
use Rattle.plant_text.specs.Names.{parent_as}
use Rattle.plant_model.specs.Wire.{Codec}
use Rattle.plant_model.specs.Element.{Row}
use Rattle.plant_model.specs.Parent.{AskingRow}
use Rattle.plant_model.specs.Parent as parent
use Rattle.plant_model.specs.Plant.{Pin, Plant, Entry, deeds_of}
use Rattle.plant_laws.specs.Transcript.{Transcript, loads, opened, Delivered}
use Rattle.plant_laws.specs.Pending.{IsTaken}
use Rattle.plant_laws.specs.Chains.{is_pending}
use Rattle.plant_laws.specs.Runs.{InRuns}

-- a request that is pending at the parent
pub record IsTakenAbove (c : Codec) (now : Transcript) (h : AskingRow) : Type 0 where
  pub at : Transcript
  pub is_open : opened c parent_as h.1.key.peer h.1.key.id now ≡ Some at
  pub request : Request
  pub delivered : Delivered c at parent_as h.1.key.peer request
  pub flags : request.flags ≡ h.1.item.flags
  pub id : request.id ≡ h.1.key.id
  pub wanted : request.wish ≡ wishes.Path h.1.item.wanted

pub record AreTables (c : Codec) (n : NetworkParts) (es : List Entry) (s : Plant) : Type 0 where
  -- each pair of peer and id once, and numbers rise
  pub tables : (d : As) → ArePending (s.elements d).pending
  pub above : ArePending s.parent.pending
  -- how many each may hold
  pub limits : (d : As) → (s.elements d).pending.limit ≡ pending_most
  pub limit_above : s.parent.pending.limit ≡ parent.pending_most
  -- a pending request is the one that was delivered, and its pin has the number of the topology loaded last before
  pub taken : (d : As) (h : Row Pin) → Contains (s.elements d).pending.rows h → IsTaken c n (deeds_of c n es) d h
  pub pinned : (d : As) (h : Row Pin) (i : Contains (s.elements d).pending.rows h) → h.1.item.pin.number ≡ loads d (taken d h i).at
  pub taken_above : (h : AskingRow) → Contains s.parent.pending.rows h → IsTakenAbove c (deeds_of c n es) h
  -- a request is pending exactly where it is open
  pub pending : (d : As) (p : Peer) (x : ℕ) (at : Transcript) → opened c d p x (deeds_of c n es) ≡ Some at → is_pending s d p x ≡ true
  pub «open» : (d : As) (p : Peer) (x : ℕ) → is_pending s d p x ≡ true → (at : Transcript) × (opened c d p x (deeds_of c n es) ≡ Some at)

abbrev pub OpenIsPendingIn : Codec → NetworkParts → List Entry → Plant → Type 0
OpenIsPendingIn c n es s = AreTables c n es s

abbrev pub OpenIsPending : Type 0
OpenIsPending = InRuns OpenIsPendingIn
