-- What the model has of the elements of a network and of their parent, and how they go on, whatever is on its way.
use Rattle.std.specs.Prelude.{◌≡◌, ◌<◌, ◌≤◌, ℕ, Bool, true, cond, is_some, List, [], ◌∷◌, length, Option, Some, None}
use Rattle.plant_model.specs.Types.{As, Peer, Outside, Hop, Message, NetworkParts}
use Rattle.plant_text.specs.Names.{same_as, parent_as}
use Rattle.plant_text.specs.Settings.{is_element, class_of, adjacencies, has_adjacency}
use Rattle.plant_model.specs.declared.output.Output.{Output}
use Rattle.plant_model.specs.declared.output.Lost.{Lost}
use Rattle.plant_model.specs.Names.{set_as}
use Rattle.plant_model.specs.Settings.{place, family}
use Rattle.plant_model.specs.Wire.{Codec}
use Rattle.plant_model.specs.Element.{Element, upped, downed, ticked, lost}
use Rattle.plant_model.specs.Taking.{take}
use Rattle.plant_model.specs.Outside.{heeded}
use Rattle.plant_model.specs.Parent as parent
use Rattle.plant_model.specs.Deeds.{element_of}

pub record Membership (P : Type 0) (S : Type 0) : Type 0 where
  pub elements : As → Element P S
  pub parent : parent.Parent
  pub current : As → P

-- where the members of a network stand: its settings, the members, and the requests that were lost at a member and are not yet
-- handed out
pub record Standing (P : Type 0) (S : Type 0) : Type 0 where
  pub network : NetworkParts
  pub seen : Membership P S
  pub lost : As → List Lost

-- what a member becomes by a message, and what it sends
pub record Replied (P : Type 0) (S : Type 0) : Type 0 where
  pub members : Membership P S
  pub outputs : List Output

-- an element, or the parent where there is one
abbrev pub is_member : NetworkParts → As → Bool
is_member n at = cond (same_as at parent_as) (is_some n.parent) (is_element n at)

-- Outside peers are those of elements, and links are between members.
pub record AreJoined (n : NetworkParts) : Type 0 where
  pub peers : (i : ℕ) → i < length n.peers → is_member n (element_of n i) ≡ true
  pub links : (a b : As) → has_adjacency a b (adjacencies n) ≡ true → is_member n a ≡ true

module _ {P : Type 0} {S : Type 0} where
  abbrev pub with_element : As → Element P S → Membership P S → Membership P S
  with_element at k ms = record ms { elements = set_as at k ms.elements }

  abbrev pub with_parent : parent.Parent → Membership P S → Membership P S
  with_parent k ms = record ms { parent = k }

  -- a member is given a message
  abbrev pub given : Codec → NetworkParts → (S → List Hop) → As → Peer → ℕ → Message → Membership P S → Replied P S
  given c n show at p now m ms =
      cond (same_as at parent_as)
      (let r = parent.take c (family n) p m ms.parent in record { members = with_parent r.parent ms; outputs = r.outputs })
      (let r = take c show (place n at) (ms.current at) p (class_of n p) now m (ms.elements at) in
      record { members = with_element at r.element ms; outputs = r.outputs })

  -- what an element is given of a message of an outside peer
  abbrev pub heard : Codec → As → ℕ → Message → Membership P S → Message
  heard c at peer m ms = heeded c (Outside peer) (ms.elements at).pending.rows m

  -- a session of a member comes up
  abbrev pub raised : As → Peer → Membership P S → Membership P S
  raised at p ms = cond (same_as at parent_as) (with_parent (parent.upped p ms.parent) ms) (with_element at (upped p (ms.elements at)) ms)

  -- it goes down, and these requests are lost
  abbrev pub fallen : As → Peer → Membership P S → Membership P S
  fallen at p ms =
      cond (same_as at parent_as) (with_parent (parent.downed p ms.parent).parent ms) (with_element at (downed p (ms.elements at)).element ms)

  abbrev pub lost_at : As → Peer → Membership P S → List Lost
  lost_at at p ms = cond (same_as at parent_as) (parent.lost p ms.parent.pending.rows) (lost p (ms.elements at).pending.rows)

  -- the clock has gone on, and keys expire
  abbrev pub expired : ℕ → Membership P S → Membership P S
  expired now ms = record ms { elements = λ d. ticked now (ms.elements d) }

  -- no key was issued after the moment
  abbrev pub KeysBefore : ℕ → NetworkParts → Membership P S → Type 0
  KeysBefore now n ms = (d : As) → is_element n d ≡ true → (ms.elements d).keys.clock ≤ now

-- the first of the lost requests of a member is handed out
abbrev pub HandsOut : As → (As → List Lost) → Option Lost → (As → List Lost) → Type 0
HandsOut at old None new = (old at ≡ []) × (new ≡ old)
HandsOut at old (Some l) new = (old at ≡ l ∷ new at) × (new ≡ set_as at (new at) old)
