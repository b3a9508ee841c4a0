-- Generations by their numbers.
use Rattle.std.proofs.Common.{◌≡◌, ◌≢◌, ℕ, zero, suc, ◌+◌, ◌-◌, ◌<◌, ◌≤◌, true, false, Some, List, [], ◌∷◌, ◌++◌, length, map, take, drop, set, get_or, nat_eq, arith, inl, inr, refl, ◌∙◌, ap, subst}
use Rattle.std.specs.Arc.{arc_value}
use Rattle.std.proofs.lemmas.Bool.{cases_eq}
use Rattle.std.proofs.lemmas.List.{map-append, length-map}
use Rattle.std.proofs.lemmas.Grind.{common_steps}
use Rattle.te_generations.specs.declared.live.Live.{Live}
use Rattle.te_generations.specs.Shelf.{Generation, IsShelf, pins_among, topology_among, released_among, pin_count, ArePinned}
use Rattle.te_generations.specs.Live.{generation_of, Skips, IsFirst}

pub test_false : (a b : ℕ) → a ≢ b → nat_eq a b ≡ false
test_false a b differ = grind (arith, common_steps)

pub test_true : (a b : ℕ) → a ≡ b → nat_eq a b ≡ true
test_true a b same = grind (arith, common_steps)

pub skips_more : (number i : ℕ) (lives : List Live) (d : Live) → Skips number i lives → i < length lives → (get_or lives i d).number ≢ number → Skips number (suc i) lives
skips_more number i [] d skips within other = tt
skips_more number zero (l ∷ lives) d skips within other = (other, tt)
skips_more number (suc i) (l ∷ lives) d skips within other = (skips.0, skips_more number i lives d skips.1 (omega arith) other)

pub skips_here : (number i : ℕ) (lives : List Live) (d : Live) → Skips number i lives → i < length lives → (get_or lives i d).number ≡ number → IsFirst number i lives
skips_here number i [] d skips within same = omega arith
skips_here number zero (l ∷ lives) d skips within same = same
skips_here number (suc i) (l ∷ lives) d skips within same = (skips.0, skips_here number i lives d skips.1 (omega arith) same)

pub skips_all : (number i : ℕ) (lives : List Live) → Skips number i lives → length lives ≤ i → pins_among number (map generation_of lives) ≡ 0
skips_all number i [] skips past = refl
skips_all number zero (l ∷ lives) skips past = absurd (omega arith)
skips_all number (suc i) (l ∷ lives) skips past = rw (test_false l.number number skips.0) (skips_all number i lives skips.1 (omega arith))

pub pins_at : (number i : ℕ) (lives : List Live) (d : Live) → IsFirst number i lives → pins_among number (map generation_of lives) ≡ (get_or lives i d).pins
pins_at number i [] d first = absurd first
pins_at number zero (l ∷ lives) d first = rw (test_true l.number number first) refl
pins_at number (suc i) (l ∷ lives) d first = rw (test_false l.number number first.0) (pins_at number i lives d first.1)

pub topology_at : (number i : ℕ) (lives : List Live) (d : Live) → IsFirst number i lives → topology_among number (map generation_of lives) ≡ Some (arc_value (get_or lives i d).topology)
topology_at number i [] d first = absurd first
topology_at number zero (l ∷ lives) d first = rw (test_true l.number number first) refl
topology_at number (suc i) (l ∷ lives) d first = rw (test_false l.number number first.0) (topology_at number i lives d first.1)

pub released_last : (number i : ℕ) (lives : List Live) (d : Live) → IsFirst number i lives → (get_or lives i d).pins ≡ 1 →
    map generation_of (take i lives ++ drop (suc i) lives) ≡ released_among number (map generation_of lives)
released_last number i [] d first one = absurd first
released_last number zero (l ∷ lives) d first one = rw (test_true l.number number first, one) refl
released_last number (suc i) (l ∷ lives) d first one =
    rw (test_false l.number number first.0) (ap (λ r. generation_of l ∷ r) (released_last number i lives d first.1 one))

pub released_less : (number i : ℕ) (lives : List Live) (a b : Live) → IsFirst number i lives → a ≡ get_or lives i a → b ≡ get_or lives i b → a.pins ≢ 1 →
    map generation_of (set lives i (record { number = b.number; pins = a.pins - 1; topology = b.topology })) ≡ released_among number (map generation_of lives)
released_less number i [] a b first is_a is_b more = absurd first
released_less number zero (l ∷ lives) a b first is_a is_b more =
    rw (test_true l.number number first, test_false l.pins 1 (subst (λ (x : Live). x.pins ≢ 1) is_a more), is_a, is_b) refl
released_less number (suc i) (l ∷ lives) a b first is_a is_b more =
    rw (test_false l.number number first.0) (ap (λ r. generation_of l ∷ r) (released_less number i lives a b first.1 is_a is_b more))

length-push : {T : Type 0} (gs : List (Generation T)) (g : Generation T) → length (gs ++ g ∷ []) ≡ length gs + 1
length-push [] g = refl
length-push (one ∷ gs) g = grind (arith, length-push gs g)

pub pin_count-push : {T : Type 0} (gs : List (Generation T)) (g : Generation T) → pin_count (gs ++ g ∷ []) ≡ pin_count gs + g.pins
pin_count-push [] g = omega arith
pin_count-push (one ∷ gs) g = omega (arith, pin_count-push gs g)

ArePinned-push : {T : Type 0} (low : ℕ) (gs : List (Generation T)) (g : Generation T) → ArePinned low gs g.number → 1 ≤ g.pins → ArePinned low (gs ++ g ∷ []) (g.number + 1)
ArePinned-push low [] g pinned some = (pinned, some, omega arith)
ArePinned-push low (one ∷ gs) g pinned some = (pinned.0, pinned.1, ArePinned-push (one.number + 1) gs g pinned.2 some)

ArePinned-higher : {T : Type 0} (low : ℕ) (gs : List (Generation T)) (high more : ℕ) → high ≤ more → ArePinned low gs high → ArePinned low gs more
ArePinned-higher low [] high more le pinned = omega arith
ArePinned-higher low (g ∷ gs) high more le pinned = (pinned.0, pinned.1, ArePinned-higher (g.number + 1) gs high more le pinned.2)

-- a topology was loaded, over a generation that is pinned, and over one that is not
pub shelf_push : {T : Type 0} (older after : List (Generation T)) (current next : Generation T) → IsShelf (record { older = older; current = current }) → length older + 1 < 16 → 1 ≤ current.pins →
    after ≡ older ++ current ∷ [] → next.number ≡ current.number + 1 → next.pins ≡ 0 → IsShelf (record { older = after; current = next })
shelf_push older after current next is room some pushed number none = rw pushed (record {
  few = omega (arith, length-push older current);
  pins = omega (arith, pin_count-push older current, is.pins, none);
  older = rw number (ArePinned-push 0 older current is.older some);
})

pub shelf_next : {T : Type 0} (older : List (Generation T)) (current next : Generation T) → IsShelf (record { older = older; current = current }) → next.number ≡ current.number + 1 → next.pins ≡ 0 →
    IsShelf (record { older = older; current = next })
shelf_next older current next is number none = record {
  few = is.few;
  pins = omega (arith, is.pins, none);
  older = rw number (ArePinned-higher 0 older current.number (current.number + 1) (omega arith) is.older);
}

-- what a release leaves among the older generations
pub record IsLess {T : Type 0} (low high : ℕ) (gs after : List (Generation T)) : Type 0 where
  pub few : length after ≤ length gs
  pub pins : pin_count after ≤ pin_count gs
  pub pinned : ArePinned low after high

ArePinned-lower : {T : Type 0} (low more : ℕ) (gs : List (Generation T)) (high : ℕ) → low ≤ more → ArePinned more gs high → ArePinned low gs high
ArePinned-lower low more [] high le pinned = omega arith
ArePinned-lower low more (g ∷ gs) high le pinned = (omega (arith, pinned.0), pinned.1, pinned.2)

less_released : {T : Type 0} (number low high : ℕ) (gs : List (Generation T)) → ArePinned low gs high → IsLess low high gs (released_among number gs)
less_released number low high [] pinned = record { few = omega arith; pins = omega arith; pinned = pinned }
less_released number low high (g ∷ gs) pinned =
    elim (cases_eq g.number number) [
      | inl same ↦
          rw (test_true g.number number same)
          (elim (cases_eq g.pins 1) [
            | inl one ↦ rw (test_true g.pins 1 one) (record {
              few = omega arith;
              pins = omega arith;
              pinned = ArePinned-lower low (g.number + 1) gs high (omega (arith, pinned.0)) pinned.2;
            })
            | inr more ↦ rw (test_false g.pins 1 more) (record {
              few = omega arith;
              pins = omega arith;
              pinned = (pinned.0, omega (arith, pinned.1, more), pinned.2);
            })
          ])
      | inr other ↦
          let rest = less_released number (g.number + 1) high gs pinned.2 in
          rw (test_false g.number number other) (record {
            few = omega (arith, rest.few);
            pins = omega (arith, rest.pins);
            pinned = (pinned.0, pinned.1, rest.pinned);
          })
    ]

pub shelf_released : {T : Type 0} (number : ℕ) (older after : List (Generation T)) (current : Generation T) → IsShelf (record { older = older; current = current }) → after ≡ released_among number older →
    IsShelf (record { older = after; current = current })
shelf_released number older after current is released =
    let less = less_released number 0 current.number older is.older in
    rw released (record {
      few = omega (arith, is.few, less.few);
      pins = omega (arith, is.pins, less.pins);
      older = less.pinned;
    })

pub live_push : (older mid after : List Live) (current last next : Live) → IsShelf (record { older = map generation_of older; current = generation_of current }) → length older + 1 < 16 →
    mid ≡ older → last ≡ current → after ≡ mid ++ last ∷ [] → 1 ≤ last.pins → next.number ≡ current.number + 1 → next.pins ≡ 0 → IsShelf (record { older = map generation_of after; current = generation_of next })
live_push older mid after current last next is room is_mid is_last is_after some number none =
    let pushed : map generation_of after ≡ map generation_of older ++ generation_of current ∷ [] =
    ap (map generation_of) is_after ∙ map-append generation_of mid (last ∷ []) ∙ ap (λ (gs : List Live). map generation_of gs ++ generation_of last ∷ []) is_mid
    ∙ ap (λ (l : Live). map generation_of older ++ generation_of l ∷ []) is_last in
    shelf_push (map generation_of older) (map generation_of after) (generation_of current) (generation_of next) is
    (rw (length-map older generation_of) room) (subst (λ (l : Live). 1 ≤ l.pins) is_last some) pushed number none

pub live_next : (older mid : List Live) (current next : Live) → IsShelf (record { older = map generation_of older; current = generation_of current }) →
    mid ≡ older → next.number ≡ current.number + 1 → next.pins ≡ 0 → IsShelf (record { older = map generation_of mid; current = generation_of next })
live_next older mid current next is is_mid number none = rw is_mid (shelf_next (map generation_of older) (generation_of current) (generation_of next) is number none)
