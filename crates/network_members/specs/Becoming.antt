-- One element that becomes another: its settings and what it would pin stay, whatever memory there is.
use Rattle.std.specs.Prelude.{◌≡◌, ◌≤◌, ◌+◌, ℕ, zero, suc, true, is_some, List, [], ◌∷◌, filter, length, Some}
use Rattle.pce_common.specs.plant_model.Types.{As, Peer, Class, Hop, Message}
use Rattle.request_table.specs.Pending.{same_peer}
use Rattle.pce_common.specs.plant_model.Element.{Losing, Taken, ticked}
use Rattle.pce_common.specs.plant_model.RealWire.{wire}
use Rattle.pce_common.specs.plant_model.Taking.{take}
use Rattle.pce_element.specs.Seen.{Seen, SameButRoom, with_losing}
use Rattle.network_members.specs.Elements.{at_domain, with_seen}

-- what becomes of an element and its lost requests
abbrev pub Course : Type 0 → Type 0 → Type 0
Course P S = Losing P S → Losing P S

module _ {P : Type 0} {S : Type 0} where
  abbrev pub unchanged : Course P S
  unchanged l = l

  -- the element of a domain
  pub record Becomes (d : As) (f : Course P S) (old new : List (Seen P S)) : Type 0 where
    pub one : Seen P S
    pub found : at_domain d old ≡ Some one
    pub next : Seen P S
    pub same : SameButRoom (with_losing (f one.losing) one) next
    pub is : new ≡ with_seen next old

  -- there is an element of the domain
  abbrev pub HasElement : As → List (Seen P S) → Type 0
  HasElement d es = is_some (at_domain d es) ≡ true

  -- what an element does with a message
  abbrev pub taken_by : (S → List Hop) → Peer → Class → ℕ → Message → Seen P S → Taken P S
  taken_by show p class now m e = take wire show e.place e.current p class now m e.losing.element

  -- ---- all elements

  abbrev pub ticked_by : ℕ → Course P S
  ticked_by now l = record l { element = ticked now l.element }

  -- the first so many have come to the moment
  abbrev pub TickedTo : ℕ → ℕ → List (Seen P S) → List (Seen P S) → Type 0
  TickedTo now zero old new = new ≡ old
  TickedTo now (suc i) [] [] = Unit {0}
  TickedTo now (suc i) [] (y ∷ ys) = ⊥
  TickedTo now (suc i) (x ∷ xs) [] = ⊥
  TickedTo now (suc i) (x ∷ xs) (y ∷ ys) = SameButRoom (with_losing (ticked_by now x.losing) x) y × TickedTo now i xs ys

  abbrev pub AreTicked : ℕ → List (Seen P S) → List (Seen P S) → Type 0
  AreTicked now old new = TickedTo now (length old) old new

  -- no key was issued after the moment
  abbrev pub AreBefore : ℕ → List (Seen P S) → Type 0
  AreBefore now [] = Unit {0}
  AreBefore now (e ∷ es) = (e.losing.element.keys.clock ≤ now) × AreBefore now es

  -- how many requests are pending
  abbrev pub pending_of : Seen P S → ℕ
  pending_of e = length e.losing.element.pending.rows

  abbrev pub all_pending : List (Seen P S) → ℕ
  all_pending [] = 0
  all_pending (e ∷ es) = pending_of e + all_pending es

  -- those of one peer
  abbrev pub owed_by : Peer → Seen P S → ℕ
  owed_by p e = length (filter (λ h. same_peer h.1.key.peer p) e.losing.element.pending.rows)
