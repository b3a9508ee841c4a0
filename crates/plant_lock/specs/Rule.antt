-- The rule of the ticket lock, which holds between any two steps.
-- Word 0 is the next ticket, word 1 the ticket that is served, which is the length of the history. Slot 0 has the value, except while a seat whose ticket is served has the slot.
use Rattle.std.specs.Prelude.{◌≡◌, ℕ, ◌+◌, ◌^◌, ◌<◌, ◌≤◌, List, [], ◌∷◌, length, Some}
use mathlib.Core.Option.{some}
use mathlib.Core.Option as maybe
use lib.ListN.{get_elem?}
use Rattle.atomic_table.specs.Table.{State}
use Rattle.plant_lock.specs.declared.view.View.{View}
use Rattle.plant_lock.specs.declared.view.Slot.{Slot}
use Rattle.plant_lock.specs.declared.view.Slot.TheVariants.{Value}
use Rattle.plant_lock.specs.declared.view.SeatStage.{SeatStage}
use Rattle.plant_lock.specs.declared.view.SeatStage.TheVariants.{Idle, Waits, Serves}
use Rattle.plant_lock.specs.History.{replay, Legal, StartsWith, times, once_below}

-- of each view, added up
abbrev pub total : {V : Type 0} → (V → ℕ) → List V → ℕ
total f [] = 0
total f (v ∷ vs) = f v + total f vs

abbrev pub HasTicket : SeatStage → ℕ → Type 0
HasTicket Idle t = ⊥
HasTicket (Waits n) t = n ≡ t
HasTicket (Serves n) t = n ≡ t

module _ {T A B : Type 0} where
  abbrev pub view_shares : View T A B → ℕ
  view_shares v = v.shares

  abbrev pub places_at : ℕ → View T A B → ℕ
  places_at x v = times x v.places

module _ {T S A B : Type 0} (plain : T → S) (admits : S → A → Type 0) (allows : S → A → B → Type 0) (after : S → A → B → S) where
  -- What a seat knows of its ticket is so. The history is h, the next ticket n, the seat of each ticket that is out is its owner, and the holder is the seat that has the slot, if one has.
  abbrev pub StageOk : List (A × B) → ℕ → (ℕ → ℕ) → maybe.Option ℕ → ℕ → List (A × B) → SeatStage → Type 0
  StageOk h n owner holder id seen Idle = Unit {0}
  StageOk h n owner holder id seen (Waits t) = (length h ≤ t) × (t < n) × (owner t ≡ id)
  StageOk h n owner holder id seen (Serves t) = (t ≡ length h) × (t < n) × (owner t ≡ id) × (seen ≡ h) × (holder ≡ some id)

  -- the slot is at home with a value of the state that the history leaves, or a seat whose ticket is served has it
  abbrev pub SlotOk : S → List (A × B) → List (maybe.Option (Slot T A B)) → List (View T A B) → maybe.Option ℕ → Type 0
  SlotOk s h homes views maybe.none = (x : T) × (get_elem? homes 0 ≡ some (some (Value x))) × (plain x ≡ replay after s h)
  SlotOk s h homes views (some id) = (v : View T A B) × (get_elem? views id ≡ some v) × (0 < v.shares) × (v.stage ≡ Serves (length h))

  -- what a seat that has shares knows is so
  pub record LiveOk (start : T) (h : List (A × B)) (n : ℕ) (owner : ℕ → ℕ) (holder : maybe.Option ℕ) (id : ℕ) (v : View T A B) : Type 0 where
    pub starts : v.start ≡ Some start
    pub seen : StartsWith h v.seen
    pub told : StartsWith h v.told
    pub met : v.met ≤ n
    pub stage : StageOk h n owner holder id v.seen v.stage

  -- The turnstile was opened with the value `start` for so many seats.
  pub record Ruled (start : T) (seats : ℕ) (s : State (Slot T A B) (View T A B)) : Type 0 where
    pub history : List (A × B)
    pub next : ℕ
    pub owner : ℕ → ℕ
    pub holder : maybe.Option ℕ
    pub words : s.words ≡ next ∷ length history ∷ []
    pub bound : next ≤ 2 ^ 63
    pub behind : length history ≤ next
    pub legal : Legal admits allows after (plain start) history
    -- each ticket from the served one to the next is out with one seat
    pub out : (t : ℕ) → length history ≤ t → t < next → (v : View T A B) × (get_elem? s.views (owner t) ≡ some v) × HasTicket v.stage t
    pub slot : SlotOk (plain start) history s.homes s.views holder
    pub live : (id : ℕ) (v : View T A B) → get_elem? s.views id ≡ some v → 0 < v.shares → LiveOk start history next owner holder id v
    pub whole : total view_shares s.views ≡ seats
    pub few : seats < 2 ^ 32
    -- each place of the history is in exactly one seat's list
    pub placed : (x : ℕ) → total (places_at x) s.views ≡ once_below x (length history)
    -- a seat that was joined to another has no places
    pub left : (id : ℕ) (v : View T A B) → get_elem? s.views id ≡ some v → v.shares ≡ 0 → v.places ≡ []
