-- How many pins there are, after a pin and after a load.
use Rattle.std.proofs.Common.{◌≡◌, ◌==◌, cond, Some, ℕ, ◌+◌, ◌-◌, ◌≤◌, List, [], ◌∷◌, ◌++◌, inl, inr, arith, refl, ◌∙◌, sym}
use Rattle.std.proofs.lemmas.Bool.{cases_eq}
use Rattle.te_generations.specs.Shelf.{topology_of, Generation, Shelf, IsShelf, pins_among, pins_of, all_pins, loaded_of, pinned_of, released_among, released_of, ArePinned}
use Rattle.te_generations.proofs.ShelfLemmas.{test_false, test_true, pin_count-push}
use Rattle.te_generations.proofs.RunLemmas.{bound_of, none_below}

pub all_pins-loaded : {T : Type 0} (s : Shelf T) (topology : T) → all_pins (loaded_of s topology) ≡ all_pins s
all_pins-loaded s topology =
    elim (cases_eq s.current.pins 0) [
      | inl none ↦ rw (test_true s.current.pins 0 none) (omega (arith, none))
      | inr some ↦ rw (test_false s.current.pins 0 some) (omega (arith, pin_count-push s.older s.current))
    ]

-- ---- each call, exactly

none_at : {T : Type 0} (number low high : ℕ) (gs : List (Generation T)) → ArePinned low gs high → high ≤ number → pins_among number gs ≡ 0
none_at number low high [] pinned above = refl
none_at number low high (g ∷ gs) pinned above =
    rw (test_false g.number number (λ same. omega (arith, same, bound_of (g.number + 1) high gs pinned.2))) (none_at number (g.number + 1) high gs pinned.2 above)

pins_snoc : {T : Type 0} (number low : ℕ) (gs : List (Generation T)) (g : Generation T) → ArePinned low gs g.number → pins_among number (gs ++ g ∷ []) ≡ cond (g.number == number) g.pins (pins_among number gs)
pins_snoc number low [] g pinned = refl
pins_snoc number low (one ∷ gs) g pinned =
    elim (cases_eq one.number number) [
      | inl same ↦
          rw (test_true one.number number same, test_false g.number number (λ e. omega (arith, e, same, bound_of (one.number + 1) g.number gs pinned.2))) refl
      | inr other ↦ rw (test_false one.number number other) (pins_snoc number (one.number + 1) gs g pinned.2)
    ]

-- the pins of each generation after a load, a pin and a release
pub pins_of-loaded : {T : Type 0} (s : Shelf T) (topology : T) (number : ℕ) → IsShelf s → pins_of (loaded_of s topology) number ≡ cond (s.current.number + 1 == number) 0 (pins_of s number)
pins_of-loaded s topology number is =
    elim (cases_eq (s.current.number + 1) number) [
      | inl new ↦ rw (test_true (s.current.number + 1) number new) refl
      | inr old ↦
          rw (test_false (s.current.number + 1) number old)
          (elim (cases_eq s.current.pins 0) [
            | inl none ↦
                rw (test_true s.current.pins 0 none)
                (elim (cases_eq s.current.number number) [
                  | inl here ↦ rw (test_true s.current.number number here) (none_at number 0 s.current.number s.older is.older (omega (arith, here)) ∙ sym none)
                  | inr there ↦ rw (test_false s.current.number number there) refl
                ])
            | inr some ↦ rw (test_false s.current.pins 0 some) (pins_snoc number 0 s.older s.current is.older)
          ])
    ]

pub pins_of-pinned : {T : Type 0} (s : Shelf T) (number : ℕ) → pins_of (pinned_of s) number ≡ pins_of s number + cond (s.current.number == number) 1 0
pins_of-pinned s number =
    elim (cases_eq s.current.number number) [
      | inl here ↦ rw (test_true s.current.number number here) refl
      | inr there ↦ rw (test_false s.current.number number there) (omega arith)
    ]

pins_among-released : {T : Type 0} (number gone low high : ℕ) (gs : List (Generation T)) → ArePinned low gs high → pins_among number (released_among gone gs) ≡ pins_among number gs - cond (gone == number) 1 0
pins_among-released number gone low high [] pinned = omega arith
pins_among-released number gone low high (g ∷ gs) pinned =
    elim (cases_eq g.number gone) [
      | inl same ↦
          elim (cases_eq g.pins 1) [
            | inl one ↦
                elim (cases_eq g.number number) [
                  | inl here ↦
                      let none = none_below number (g.number + 1) high gs pinned.2 (omega (arith, here)) in
                      rw (test_true g.number gone same, test_true g.pins 1 one, test_true g.number number here, test_true gone number (sym same ∙ here)) (omega (arith, none, one))
                  | inr there ↦
                      rw (test_true g.number gone same, test_true g.pins 1 one, test_false g.number number there, test_false gone number (λ e. there (same ∙ e))) (omega arith)
                ]
            | inr more ↦
                elim (cases_eq g.number number) [
                  | inl here ↦ rw (test_true g.number gone same, test_false g.pins 1 more, test_true g.number number here, test_true gone number (sym same ∙ here)) refl
                  | inr there ↦ rw (test_true g.number gone same, test_false g.pins 1 more, test_false g.number number there, test_false gone number (λ e. there (same ∙ e))) (omega arith)
                ]
          ]
      | inr other ↦
          elim (cases_eq g.number number) [
            | inl here ↦ rw (test_false g.number gone other, test_true g.number number here, test_false gone number (λ e. other (here ∙ sym e))) (omega arith)
            | inr there ↦ rw (test_false g.number gone other, test_false g.number number there) (pins_among-released number gone (g.number + 1) high gs pinned.2)
          ]
    ]

pub pins_of-released : {T : Type 0} (s : Shelf T) (number gone : ℕ) → IsShelf s → pins_of (released_of s gone) number ≡ pins_of s number - cond (gone == number) 1 0
pins_of-released s number gone is =
    elim (cases_eq s.current.number gone) [
      | inl same ↦
          elim (cases_eq s.current.number number) [
            | inl here ↦ rw (test_true s.current.number gone same, test_true s.current.number number here, test_true gone number (sym same ∙ here)) refl
            | inr there ↦ rw (test_true s.current.number gone same, test_false s.current.number number there, test_false gone number (λ e. there (same ∙ e))) (omega arith)
          ]
      | inr other ↦
          elim (cases_eq s.current.number number) [
            | inl here ↦ rw (test_false s.current.number gone other, test_true s.current.number number here, test_false gone number (λ e. other (here ∙ sym e))) (omega arith)
            | inr there ↦ rw (test_false s.current.number gone other, test_false s.current.number number there) (pins_among-released number gone 0 s.current.number s.older is.older)
          ]
    ]

-- the topology that was loaded is the new one's
pub topology_of-loaded : {T : Type 0} (s : Shelf T) (topology : T) → topology_of (loaded_of s topology) (s.current.number + 1) ≡ Some topology
topology_of-loaded s topology = rw (test_true (s.current.number + 1) (s.current.number + 1) refl) refl
