-- Values under numbers that rise, each in a slot of its own.
use Rattle.std.specs.Prelude.{◌≡◌, ◌≢◌, ◌<◌, ◌-◌, ℕ, min, List, [], ◌∷◌, length, Option, Some, None, IsSome, slice_get, vec_len, vec_capacity}
use Rattle.slab.specs.Slab.{get, slab_len}
use Rattle.dom_base.specs.Room.{Room}
use Rattle.request_table.specs.declared.rows.Place.{Place}
use Rattle.request_table.specs.declared.rows.Rows.TheInside.{Inside}

-- a number stands at a place, or at none
pub record IsPlaceOf (places : List Place) (number k : ℕ) : Type 0 where
  pub within : k < length places
  pub place : Place
  pub at_place : slice_get places k ≡ Some place
  pub is : place.number ≡ number

abbrev pub HasNoPlace : List Place → ℕ → Type 0
HasNoPlace places number = (k : ℕ) (p : Place) → slice_get places k ≡ Some p → p.number ≢ number

-- all numbers are below this one
abbrev pub AreBelow : {X : Type 0} → ℕ → List (ℕ × X) → Type 0
AreBelow number [] = Unit {0}
AreBelow number (row ∷ rows) = (row.0 < number) × AreBelow number rows

-- all places have numbers above this one, and other slots than this one
abbrev pub AreAbove : ℕ → List Place → Type 0
AreAbove number [] = Unit {0}
AreAbove number (p ∷ places) = (number < p.number) × AreAbove number places

abbrev pub AreApart : ℕ → List Place → Type 0
AreApart slot [] = Unit {0}
AreApart slot (p ∷ places) = (p.slot ≢ slot) × AreApart slot places

module _ {X : Type 0} where
  abbrev pub with_row : ℕ → Option X → List (ℕ × X) → List (ℕ × X)
  with_row number None rows = rows
  with_row number (Some value) rows = (number, value) ∷ rows

  -- the numbers of places with the values of their slots
  abbrev pub rows_in : (ℕ → Option X) → List Place → List (ℕ × X)
  rows_in at [] = []
  rows_in at (p ∷ places) = with_row p.number (at p.slot) (rows_in at places)

  -- numbers rise, and each slot has a value and is no other's
  abbrev pub ArePlaces : (ℕ → Option X) → List Place → Type 0
  ArePlaces at [] = Unit {0}
  ArePlaces at (p ∷ places) = IsSome (at p.slot) × AreApart p.slot places × AreAbove p.number places × ArePlaces at places

  abbrev pub kept_of : Inside X → Room (List (ℕ × X))
  kept_of a = record {
    kept = rows_in (get a.values) a.places.items;
    spare = min (vec_capacity a.places - vec_len a.places) (a.values.capacity - slab_len a.values);
  }

  abbrev pub HoldsRows : Inside X → Type 0
  HoldsRows a = ArePlaces (get a.values) a.places.items
