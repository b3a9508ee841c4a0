-- A pinned generation over any calls.
use Rattle.std.proofs.Common.{◌≡◌, ◌≢◌, ℕ, ◌+◌, ◌<◌, ◌≤◌, Some, List, [], ◌∷◌, ◌++◌, length, inl, inr, arith, refl, ◌∙◌, subst}
use Rattle.std.proofs.lemmas.Bool.{cases_eq}
use Rattle.te_generations.specs.Shelf.{Generation, Shelf, IsShelf, IsFull, pins_among, pins_of, topology_among, topology_of, all_pins, loaded_of, pinned_of, released_among, released_of, ArePinned}
use Rattle.te_generations.specs.Runs.{load, pin, release, KeepsTopology, PinGivesCurrent}
use Rattle.te_generations.proofs.ShelfLemmas.{test_false, test_true, shelf_push, shelf_next, shelf_released}

-- a number below all has no pin, and one at the bound neither
pub none_below : {T : Type 0} (number low high : ℕ) (gs : List (Generation T)) → ArePinned low gs high → number < low → pins_among number gs ≡ 0
none_below number low high [] pinned below = refl
none_below number low high (g ∷ gs) pinned below =
    rw (test_false g.number number (λ same. omega (arith, same, pinned.0))) (none_below number (g.number + 1) high gs pinned.2 (omega (arith, pinned.0)))

pub bound_of : {T : Type 0} (low high : ℕ) (gs : List (Generation T)) → ArePinned low gs high → low ≤ high
bound_of low high [] pinned = pinned
bound_of low high (g ∷ gs) pinned = omega (arith, pinned.0, bound_of (g.number + 1) high gs pinned.2)

pub below_bound : {T : Type 0} (number low high : ℕ) (gs : List (Generation T)) → ArePinned low gs high → 1 ≤ pins_among number gs → number < high
below_bound number low high [] pinned some = absurd (omega arith)
below_bound number low high (g ∷ gs) pinned some =
    elim (cases_eq g.number number) [
      | inl same ↦ omega (arith, same, bound_of (g.number + 1) high gs pinned.2)
      | inr other ↦ below_bound number (g.number + 1) high gs pinned.2 (rw (test_false g.number number other) at some)
    ]

pub topology_last : {T : Type 0} (low : ℕ) (gs : List (Generation T)) (g : Generation T) → ArePinned low gs g.number → topology_among g.number (gs ++ g ∷ []) ≡ Some g.topology
topology_last low [] g pinned = rw (test_true g.number g.number refl) refl
topology_last low (one ∷ gs) g pinned =
    rw (test_false one.number g.number (λ same. omega (arith, same, bound_of (one.number + 1) g.number gs pinned.2)))
    (topology_last (one.number + 1) gs g pinned.2)

pub topology_push : {T : Type 0} (number : ℕ) (gs : List (Generation T)) (g : Generation T) → 1 ≤ pins_among number gs → topology_among number (gs ++ g ∷ []) ≡ topology_among number gs
topology_push number [] g some = absurd (omega arith)
topology_push number (one ∷ gs) g some =
    elim (cases_eq one.number number) [
      | inl same ↦ rw (test_true one.number number same) refl
      | inr other ↦ rw (test_false one.number number other) (topology_push number gs g (rw (test_false one.number number other) at some))
    ]

pub load_keeps : {T : Type 0} (s : Shelf T) (number : ℕ) (topology : T) → IsShelf s → 1 ≤ pins_of s number → topology_of (loaded_of s topology) number ≡ topology_of s number
load_keeps s number topology is some =
    elim (cases_eq s.current.number number) [
      | inl same ↦
          let pins : 1 ≤ s.current.pins = rw (test_true s.current.number number same) at some in
          rw (test_false (s.current.number + 1) number (omega arith), test_false s.current.pins 0 (omega arith), test_true s.current.number number same)
          (subst (λ n. topology_among n (s.older ++ s.current ∷ []) ≡ Some s.current.topology) same (topology_last 0 s.older s.current is.older))
      | inr other ↦
          let pins : 1 ≤ pins_among number s.older = rw (test_false s.current.number number other) at some in
          let below : number < s.current.number = below_bound number 0 s.current.number s.older is.older pins in
          rw (test_false (s.current.number + 1) number (omega arith), test_false s.current.number number other)
          (elim (cases_eq s.current.pins 0) [
            | inl none ↦ rw (test_true s.current.pins 0 none) refl
            | inr more ↦ rw (test_false s.current.pins 0 more) (topology_push number s.older s.current pins)
          ])
    ]

pub released_keeps : {T : Type 0} (number gone low high : ℕ) (gs : List (Generation T)) → ArePinned low gs high → 1 ≤ pins_among number (released_among gone gs) →
    topology_among number (released_among gone gs) ≡ topology_among number gs
released_keeps number gone low high [] pinned some = refl
released_keeps number gone low high (g ∷ gs) pinned some =
    elim (cases_eq g.number gone) [
      | inl same ↦
          elim (cases_eq g.pins 1) [
            | inl one ↦
                let rest : 1 ≤ pins_among number gs = rw (test_true g.number gone same, test_true g.pins 1 one) at some in
                let differs : g.number ≢ number = λ is. omega (arith, rest, none_below number (g.number + 1) high gs pinned.2 (omega (arith, is))) in
                rw (test_true g.number gone same, test_true g.pins 1 one, test_false g.number number differs) refl
            | inr more ↦ rw (test_true g.number gone same, test_false g.pins 1 more) refl
          ]
      | inr other ↦
          elim (cases_eq g.number number) [
            | inl is ↦ rw (test_false g.number gone other, test_true g.number number is) refl
            | inr isnt ↦
                rw (test_false g.number gone other, test_false g.number number isnt)
                (released_keeps number gone (g.number + 1) high gs pinned.2 (rw (test_false g.number gone other, test_false g.number number isnt) at some))
          ]
    ]

pub release_keeps : {T : Type 0} (s : Shelf T) (number gone : ℕ) → IsShelf s → 1 ≤ pins_of (released_of s gone) number → topology_of (released_of s gone) number ≡ topology_of s number
release_keeps s number gone is some =
    elim (cases_eq s.current.number gone) [
      | inl same ↦ rw (test_true s.current.number gone same) refl
      | inr other ↦
          elim (cases_eq s.current.number number) [
            | inl here ↦ rw (test_false s.current.number gone other, test_true s.current.number number here) refl
            | inr there ↦
                rw (test_false s.current.number gone other, test_false s.current.number number there)
                (released_keeps number gone 0 s.current.number s.older is.older (rw (test_false s.current.number gone other, test_false s.current.number number there) at some))
          ]
    ]

-- each call leaves a shelf
pub load_shelf : {T : Type 0} (s : Shelf T) (topology : T) → IsShelf s → ¬ IsFull s → IsShelf (loaded_of s topology)
load_shelf s topology is room =
    let next : Generation _ = record { number = s.current.number + 1; pins = 0; topology = topology } in
    let few : length s.older + 1 ≢ 16 = λ full. room (inl full) in
    elim (cases_eq s.current.pins 0) [
      | inl none ↦ rw (test_true s.current.pins 0 none) (shelf_next s.older s.current next is refl refl)
      | inr more ↦ rw (test_false s.current.pins 0 more) (shelf_push s.older (s.older ++ s.current ∷ []) s.current next is (omega (arith, is.few)) (omega arith) refl refl refl)
    ]

pub pin_shelf : {T : Type 0} (s : Shelf T) → IsShelf s → all_pins s < 1024 → IsShelf (pinned_of s)
pin_shelf s is room = record { few = is.few; pins = omega arith; older = is.older }

pub release_shelf : {T : Type 0} (s : Shelf T) (gone : ℕ) → IsShelf s → IsShelf (released_of s gone)
release_shelf s gone is =
    elim (cases_eq s.current.number gone) [
      | inl same ↦ rw (test_true s.current.number gone same) (record { few = is.few; pins = omega (arith, is.pins); older = is.older })
      | inr other ↦ rw (test_false s.current.number gone other) (shelf_released gone s.older (released_among gone s.older) s.current is refl)
    ]

pub keeps : (T : Type 0) → KeepsTopology T
keeps T s number [] is some legal = refl
keeps T s number (load topology ∷ calls) is some legal =
    keeps T (loaded_of s topology) number calls (load_shelf s topology is legal.0) legal.1 legal.2 ∙ load_keeps s number topology is some
keeps T s number (pin ∷ calls) is some legal = keeps T (pinned_of s) number calls (pin_shelf s is legal.0) legal.1 legal.2
keeps T s number (release gone ∷ calls) is some legal =
    keeps T (released_of s gone) number calls (release_shelf s gone is) legal.1 legal.2 ∙ release_keeps s number gone is legal.1

pub pin_gives : (T : Type 0) → PinGivesCurrent T
pin_gives T s calls is may legal =
    let number = s.current.number in
    let own = test_true number number refl in
    let some : 1 ≤ pins_of (pinned_of s) number = rw own (omega arith) in
    let now : topology_of (pinned_of s) number ≡ Some s.current.topology = rw own refl in
    keeps T (pinned_of s) number calls (pin_shelf s is may) some legal ∙ now
