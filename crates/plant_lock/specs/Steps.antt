-- What each kind of step tells the seat that makes it: of the seat before, the number found in the word, and the seat after.
use Rattle.std.specs.Prelude.{◌≡◌, ℕ, ◌^◌, ◌<◌, List, [], ◌∷◌, ◌++◌, length}
use mathlib.Core.Option.{some}
use mathlib.Core.Option as maybe
use Rattle.atomic_table.specs.Table.{Me, Step, rest}
use Rattle.plant_lock.specs.declared.view.View.{View}
use Rattle.plant_lock.specs.declared.view.Slot.{Slot}
use Rattle.plant_lock.specs.declared.view.Slot.TheVariants.{Value, Entry}
use Rattle.plant_lock.specs.declared.view.SeatStage.{SeatStage}
use Rattle.plant_lock.specs.declared.view.SeatStage.TheVariants.{Idle, Waits, Serves}
use Rattle.plant_lock.specs.History.{StartsWith, longer}
use Rattle.plant_lock.specs.Views.{LegalFrom, LeadsTo}

-- what is said of the entry that a step was told
abbrev pub of_entry : {T A B : Type 0} → maybe.Option (Slot T A B) → (A → B → Type 0) → Type 0
of_entry (some (Entry a b)) P = P a.value b.value
of_entry _ P = Unit {0}

module _ {T S A B : Type 0} (plain : T → S) (admits : S → A → Type 0) (allows : S → A → B → Type 0) (after : S → A → B → S) where
  abbrev Sat : Type 0
  Sat = Me (Slot T A B) (View T A B)

  -- the ticket word was met
  abbrev pub looked : Step (Slot T A B) → Sat → ℕ → Sat → Type 0
  looked st m n m' = m' ≡ (record m.0 { met = n }, m.1)

  -- the ticket was drawn, or another number met
  abbrev pub drew : Step (Slot T A B) → Sat → ℕ → Sat → Type 0
  drew st m n m' = (n ≡ st.first → m' ≡ (record m.0 { met = n; stage = Waits n }, m.1)) × (¬ (n ≡ st.first) → m' ≡ (record m.0 { met = n }, m.1))

  -- the slot was taken at the ticket t, with the value that the history so far leaves, and that history was seen
  abbrev pub Taken : Sat → ℕ → Sat → Type 0
  Taken m t m' = (x : T) × (h : List (A × B)) × (m' ≡ (record m.0 { seen = h; stage = Serves t }, (0, Value x) ∷ m.1)) × StartsWith h m.0.seen × (length h ≡ t)
      × LegalFrom plain admits allows after m.0.start h × LeadsTo plain admits allows after m.0.start h (plain x)

  abbrev pub took_at : SeatStage → Sat → ℕ → Sat → Type 0
  took_at (Waits t) m n m' = (n ≡ t → Taken m t m') × (¬ (n ≡ t) → m' ≡ m)
  took_at _ m n m' = Unit {0}

  -- the slot was taken where the seat's ticket is served, and else nothing changed
  abbrev pub took : Step (Slot T A B) → Sat → ℕ → Sat → Type 0
  took st m n m' = took_at m.0.stage m n m'

  -- the entry was added to the history, and the value put back
  abbrev pub advanced : Step (Slot T A B) → Sat → ℕ → Sat → Type 0
  advanced st m n m' = of_entry st.said (λ a b. m' ≡ (record m.0 { seen = m.0.seen ++ (a, b) ∷ []; places = m.0.places ++ st.first ∷ []; stage = Idle }, rest m.1))

  -- what the seat was told is among what it has seen
  abbrev pub learned : Step (Slot T A B) → Sat → ℕ → Sat → Type 0
  learned st m n m' = (m' ≡ (record m.0 { seen = longer m.0.seen m.0.told }, m.1)) × StartsWith m'.0.seen m.0.seen × StartsWith m'.0.seen m.0.told × LegalFrom plain admits allows after m.0.start m'.0.seen × (m.0.shares < 2 ^ 32)

  -- the seat has the slot, with a value of the state that what it has seen leads to
  abbrev pub Holds : Sat → (T → Type 0) → Type 0
  Holds m P = (x : T) × (m.1 ≡ (0, Value x) ∷ []) × LeadsTo plain admits allows after m.0.start m.0.seen (plain x) × P x
