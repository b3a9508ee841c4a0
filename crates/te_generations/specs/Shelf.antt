-- The generations that are live: the current one, and the older ones that are pinned.
use Rattle.std.specs.Prelude.{◌≡◌, ◌⊎◌, ◌≤◌, ◌==◌, ◌^◌, ℕ, ◌+◌, ◌-◌, List, [], ◌∷◌, ◌++◌, length, Option, Some, None, if◌then◌else◌}

-- how many generations may be live, and how many pins there may be
abbrev pub live_most : ℕ
live_most = 16

abbrev pub pins_most : ℕ
pins_most = 1024

pub record Generation (T : Type 0) : Type 0 where
  pub number : ℕ
  pub pins : ℕ
  pub topology : T

pub record Shelf (T : Type 0) : Type 0 where
  pub older : List (Generation T)
  pub current : Generation T

abbrev pub pins_among : {T : Type 0} → ℕ → List (Generation T) → ℕ
pins_among number [] = 0
pins_among number (g ∷ gs) = if g.number == number then g.pins else pins_among number gs

-- how many pins a generation has
abbrev pub pins_of : {T : Type 0} → Shelf T → ℕ → ℕ
pins_of s number = if s.current.number == number then s.current.pins else pins_among number s.older

abbrev pub topology_among : {T : Type 0} → ℕ → List (Generation T) → Option T
topology_among number [] = None
topology_among number (g ∷ gs) = if g.number == number then Some g.topology else topology_among number gs

-- the topology of a live generation
abbrev pub topology_of : {T : Type 0} → Shelf T → ℕ → Option T
topology_of s number = if s.current.number == number then Some s.current.topology else topology_among number s.older

abbrev pub pin_count : {T : Type 0} → List (Generation T) → ℕ
pin_count [] = 0
pin_count (g ∷ gs) = g.pins + pin_count gs

abbrev pub all_pins : {T : Type 0} → Shelf T → ℕ
all_pins s = s.current.pins + pin_count s.older

-- no more generations may be live, or there is no further number
abbrev pub IsFull : {T : Type 0} → Shelf T → Type 0
IsFull s = (length s.older + 1 ≡ live_most) ⊎ (s.current.number ≡ 2 ^ 64 - 1)

-- generation 0 alone
abbrev pub new_shelf : {T : Type 0} → T → Shelf T
new_shelf topology = record { older = []; current = record { number = 0; pins = 0; topology = topology } }

-- a current generation that has no pin is dead once the next is loaded
abbrev pub loaded_of : {T : Type 0} → Shelf T → T → Shelf T
loaded_of s topology = record {
  older = if s.current.pins == 0 then s.older else s.older ++ s.current ∷ [];
  current = record { number = s.current.number + 1; pins = 0; topology = topology };
}

abbrev pub pinned_of : {T : Type 0} → Shelf T → Shelf T
pinned_of s = record s { current = record s.current { pins = s.current.pins + 1 } }

-- an older generation is dead once its last pin is released
abbrev pub released_among : {T : Type 0} → ℕ → List (Generation T) → List (Generation T)
released_among number [] = []
released_among number (g ∷ gs) =
    if g.number == number
    then (if g.pins == 1 then gs else record g { pins = g.pins - 1 } ∷ gs)
    else g ∷ released_among number gs

abbrev pub released_of : {T : Type 0} → Shelf T → ℕ → Shelf T
released_of s number =
    if s.current.number == number
    then record s { current = record s.current { pins = s.current.pins - 1 } }
    else record s { older = released_among number s.older }

-- the numbers rise, below a bound, and each is pinned
abbrev pub ArePinned : {T : Type 0} → ℕ → List (Generation T) → ℕ → Type 0
ArePinned low [] high = low ≤ high
ArePinned low (g ∷ gs) high = (low ≤ g.number) × (1 ≤ g.pins) × ArePinned (g.number + 1) gs high

pub record IsShelf {T : Type 0} (s : Shelf T) : Type 0 where
  pub few : length s.older + 1 ≤ live_most
  pub pins : all_pins s ≤ pins_most
  pub older : ArePinned 0 s.older s.current.number
