-- A request that can be solved keeps its job until it ends, its number is never given again, and no key is issued after the moment.
use Rattle.std.specs.Prelude.{◌≡◌, ◌≤◌, ℕ, nat_eq, Bool, true, List, Option, Some, None}
use Rattle.std.specs.Map.{lookup}
use Rattle.plant_model.specs.Types.{As, Held, NetworkParts}
use Rattle.request_table.specs.Pending.{Pending, NumbersRise}
use Rattle.plant_model.specs.declared.event.Event.{Event}
use Rattle.plant_model.specs.declared.event.BlindEvent.{BlindEvent}
use Rattle.plant_model.specs.Wire.{Codec}
use Rattle.plant_model.specs.Element.{Item, is_ready}
use Rattle.plant_model.specs.Parent as parent
use Rattle.plant_model.specs.State.{State}
use Rattle.plant_model.specs.Blind.{BlindState, BlindHappened, BlindSteps, blind_opened}
use Rattle.plant_model.specs.Plant.{Pin, Plant, Happened, Entry, Run, Steps}

-- ---- one table of requests

module _ {T : Type 0} where
  -- the numbers of the requests rise, and none is higher than the last that was given
  abbrev pub IsInOrder : Pending T → Type 0
  IsInOrder p = NumbersRise 0 p.rows p.given

  -- the request of a number
  abbrev pub held_at : ℕ → Pending T → Option (Held T)
  held_at n p = lookup (nat_eq n) p.rows

  -- one that ended does not come again, and one that can be solved stays as it is until it ends
  abbrev pub LastsAs : (T → Bool) → Option (Held T) → Option (Held T) → Type 0
  LastsAs ready old None = Unit {0}
  LastsAs ready None (Some new) = ⊥
  LastsAs ready (Some old) (Some new) = ready old.item ≡ true → new ≡ old

  -- each number that was given stays given, and its request lasts
  abbrev pub RequestsLast : (T → Bool) → Pending T → Pending T → Type 0
  RequestsLast ready old new = (n : ℕ) → n ≤ old.given → (n ≤ new.given) × LastsAs ready (held_at n old) (held_at n new)

  -- each request has a number that was given
  abbrev pub HasGiven : Pending T → Type 0
  HasGiven p = (n : ℕ) (h : Held T) → held_at n p ≡ Some h → n ≤ p.given

-- ---- the tables of a network

abbrev pub can_solve : {P : Type 0} → Item P → Bool
can_solve i = is_ready i.stage

pub record AreInOrder {P : Type 0} {S : Type 0} (s : State P S) : Type 0 where
  pub elements : (d : As) → IsInOrder (s.elements d).pending
  pub parent : IsInOrder s.parent.pending

pub record HaveGiven {P : Type 0} {S : Type 0} (s : State P S) : Type 0 where
  pub elements : (d : As) → HasGiven (s.elements d).pending
  pub parent : HasGiven s.parent.pending

pub record JobsLast {P : Type 0} {S : Type 0} (old new : State P S) : Type 0 where
  pub elements : (d : As) → RequestsLast can_solve (old.elements d).pending (new.elements d).pending
  pub parent : RequestsLast parent.is_ready old.parent.pending new.parent.pending

-- no key was issued after the moment
abbrev pub KeysInTime : {P : Type 0} {S : Type 0} → State P S → Type 0
KeysInTime s = (d : As) → (s.elements d).keys.clock ≤ s.clock

-- ---- the laws

-- each step keeps the order, and all jobs
abbrev pub StepsLast : Type 0
StepsLast = (c : Codec) (n : NetworkParts) (s : Plant) (e : Event) (h : Happened) → AreInOrder s → Steps c n s e h → AreInOrder h.state × JobsLast s h.state

-- the tables of a run are in order
abbrev pub RunsAreInOrder : Type 0
RunsAreInOrder = (c : Codec) (n : NetworkParts) (es : List Entry) (s : Plant) → Run c n es s → AreInOrder s

-- what lasts over one step and the next lasts over both
abbrev pub LastsOn : Type 0
LastsOn = (a b c : Plant) → JobsLast a b → JobsLast b c → JobsLast a c

abbrev pub LastsStill : Type 0
LastsStill = (s : Plant) → JobsLast s s

abbrev pub OrderGives : Type 0
OrderGives = (s : Plant) → AreInOrder s → HaveGiven s

-- a request of an element that can be solved is the same as long as there is one of its number
abbrev pub ElementsKeepJobs : Type 0
ElementsKeepJobs = (old new : Plant) → HaveGiven old → JobsLast old new →
    (d : As) (k : ℕ) (before after : Held (Item Pin)) → held_at k (old.elements d).pending ≡ Some before → can_solve before.item ≡ true →
    held_at k (new.elements d).pending ≡ Some after → after ≡ before

-- the same at the parent
abbrev pub ParentsKeepJobs : Type 0
ParentsKeepJobs = (old new : Plant) → HaveGiven old → JobsLast old new →
    (k : ℕ) (before after : Held parent.Asking) → held_at k old.parent.pending ≡ Some before → parent.is_ready before.item ≡ true →
    held_at k new.parent.pending ≡ Some after → after ≡ before

-- ---- keys

abbrev pub KeysAreBefore : Type 0
KeysAreBefore = (c : Codec) (n : NetworkParts) (s : Plant) (e : Event) (h : Happened) → KeysInTime s → Steps c n s e h → KeysInTime h.state

abbrev pub RunsHaveKeysBefore : Type 0
RunsHaveKeysBefore = (c : Codec) (n : NetworkParts) (es : List Entry) (s : Plant) → Run c n es s → KeysInTime s

-- ---- without topologies

-- what lasts in a step
pub record Goes {P : Type 0} {S : Type 0} (old new : State P S) : Type 0 where
  pub order : AreInOrder new
  pub jobs : JobsLast old new
  pub keys : KeysInTime new

-- the same in each step of the blind plant, and in its beginning
abbrev pub BlindStepsLast : Type 0
BlindStepsLast = (c : Codec) (n : NetworkParts) (s : BlindState) (e : BlindEvent) (h : BlindHappened) → AreInOrder s → KeysInTime s → BlindSteps c n s e h → Goes s h.state

abbrev pub BlindBegins : Type 0
BlindBegins = (c : Codec) (n : NetworkParts) → AreInOrder (blind_opened c n).state × KeysInTime (blind_opened c n).state
