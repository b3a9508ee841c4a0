-- What becomes of a pinned generation over any sequence of calls.
use Rattle.std.specs.Prelude.{◌≡◌, ◌≢◌, ◌⊎◌, ◌↔◌, ◌≤◌, ◌<◌, ◌-◌, ◌^◌, ℕ, List, [], ◌∷◌, Some, length, AllPairs, Contains}
use Rattle.te_generations.specs.Shelf.{Shelf, IsShelf, IsFull, live_most, pins_most, pins_of, topology_of, all_pins, loaded_of, pinned_of, released_of}

-- a call that changes the generations
pub data Call (T : Type 0) : Type 0 where
  load : T → Call T
  pin : Call T
  release : ℕ → Call T

abbrev pub after_call : {T : Type 0} → Shelf T → Call T → Shelf T
after_call s (load topology) = loaded_of s topology
after_call s pin = pinned_of s
after_call s (release number) = released_of s number

abbrev pub after_calls : {T : Type 0} → Shelf T → List (Call T) → Shelf T
after_calls s [] = s
after_calls s (call ∷ calls) = after_calls (after_call s call) calls

-- the call may be made, and is not refused
abbrev pub MayCall : {T : Type 0} → Shelf T → Call T → Type 0
MayCall s (load topology) = ¬ IsFull s
MayCall s pin = all_pins s < pins_most
MayCall s (release number) = 1 ≤ pins_of s number

-- each call may be made, and leaves the generation a pin
abbrev pub KeepAPin : {T : Type 0} → ℕ → Shelf T → List (Call T) → Type 0
KeepAPin number s [] = Unit {0}
KeepAPin number s (call ∷ calls) = MayCall s call × (1 ≤ pins_of (after_call s call) number) × KeepAPin number (after_call s call) calls

-- As long as a generation has a pin, its topology is the one that it had, whatever is loaded, pinned and released.
abbrev pub KeepsTopology : Type 0 → Type 0
KeepsTopology T = (s : Shelf T) (number : ℕ) (calls : List (Call T)) → IsShelf s → 1 ≤ pins_of s number → KeepAPin number s calls →
    topology_of (after_calls s calls) number ≡ topology_of s number

-- A pin gives the topology that was current when it was made, whatever comes after, until it is released.
abbrev pub PinGivesCurrent : Type 0 → Type 0
PinGivesCurrent T = (s : Shelf T) (calls : List (Call T)) → IsShelf s → MayCall s pin → KeepAPin s.current.number (pinned_of s) calls →
    topology_of (after_calls (pinned_of s) calls) s.current.number ≡ Some s.current.topology

-- the numbers of the current generation and of those that are pinned, each once
pub record AreLive {T : Type 0} (s : Shelf T) (numbers : List ℕ) : Type 0 where
  pub differ : AllPairs (λ m n. m ≢ n) numbers
  pub each : (n : ℕ) → Contains numbers n ↔ ((n ≡ s.current.number) ⊎ (1 ≤ pins_of s n))

-- A shelf is full where so many different generations are current or pinned, or there is no further number.
abbrev pub FullByNumbers : Type 0 → Type 0
FullByNumbers T = (s : Shelf T) (numbers : List ℕ) → IsShelf s → AreLive s numbers → IsFull s ↔ ((length numbers ≡ live_most) ⊎ (s.current.number ≡ 2 ^ 64 - 1))
