-- Distances over arcs each of which weighs a multiple of a scale and 1 more: the multiples add up to a cost, and the 1s to a number of arcs
-- that is below the number of nodes.
use Rattle.std.proofs.Common.{◌≡◌, inl, inr, ℕ, zero, suc, ◌+◌, ◌*◌, ◌<◌, ◌≤◌, List, [], ◌∷◌, length, arith, refl, ap, if◌then◌else◌, nat_lt}
use Rattle.std.specs.declared.option.Option.{Option}
use Rattle.std.proofs.lemmas.Bool.{cases_lt, lt-ltb, le-ltb}
use Rattle.diverse_pairs.specs.declared.arcs.Arc.{Arc}
use Rattle.diverse_pairs.specs.declared.arcs.TheConstants.{UNREACHED}
use Rattle.diverse_pairs.specs.Arcs.{IsArc, at, AreAmong}
use Rattle.diverse_pairs.specs.Distances.{AreDistances}

-- how many numbers are below x
pub below : ℕ → List ℕ → ℕ
below x [] = 0
below x (y ∷ ys) = (if nat_lt y x then 1 else 0) + below x ys

below_more : (x z : ℕ) → x ≤ z → (ys : List ℕ) → below x ys ≤ below z ys
unfolding below
below_more x z up [] = omega arith
below_more x z up (y ∷ ys) =
    let rest = below_more x z up ys in
    elim (cases_lt y x) [
      | inl lt ↦ let l : y < z = omega arith in rw (lt-ltb y x lt, lt-ltb y z l) (omega (arith, rest))
      | inr ge ↦ rw (le-ltb y x ge) (elim (cases_lt y z) [ inl l ↦ rw (lt-ltb y z l) (omega (arith, rest)) | inr g ↦ rw (le-ltb y z g) (omega (arith, rest)) ])
    ]

pub below_less : (x z i : ℕ) (ys : List ℕ) → x < z → i < length ys → at ys i ≡ x → below x ys < below z ys
unfolding below
below_less x z i [] up inside is = absurd (omega arith)
below_less x z zero (y ∷ ys) up inside is =
    let rest = below_more x z (omega arith) ys in
    let l : y < z = omega (arith, up, is) in
    let g : x ≤ y = omega (arith, is) in
    rw (le-ltb y x g, lt-ltb y z l) (omega (arith, rest))
below_less x z (suc i) (y ∷ ys) up inside is =
    let rest = below_less x z i ys up (omega arith) is in
    elim (cases_lt y x) [
      | inl lt ↦ let l : y < z = omega arith in rw (lt-ltb y x lt, lt-ltb y z l) (omega (arith, rest))
      | inr ge ↦ rw (le-ltb y x ge) (elim (cases_lt y z) [ inl l ↦ rw (lt-ltb y z l) (omega (arith, rest)) | inr g ↦ rw (le-ltb y z g) (omega (arith, rest)) ])
    ]

below_all : (x : ℕ) (ys : List ℕ) → below x ys ≤ length ys
unfolding below
below_all x [] = omega arith
below_all x (y ∷ ys) =
    let rest = below_all x ys in
    elim (cases_lt y x) [ inl lt ↦ rw (lt-ltb y x lt) (omega (arith, rest)) | inr ge ↦ rw (le-ltb y x ge) (omega (arith, rest)) ]

pub below_some : (x i : ℕ) (ys : List ℕ) → i < length ys → at ys i ≡ x → below x ys < length ys
below_some x i ys inside is = let one = below_less x (suc x) i ys (omega arith) inside is in let all = below_all (suc x) ys in omega (arith, one, all)

-- a distance is made up of so many arcs, no more than there are nodes at a smaller one
pub record IsMadeUp (scale most : ℕ) (distances : List ℕ) (n : ℕ) : Type 0 where
  pub cost : ℕ
  pub hops : ℕ
  pub sum : at distances n ≡ scale * cost + hops
  pub few : hops < length distances
  pub bound : cost ≤ most * hops

-- the weights of the arcs
abbrev pub AreScaled : ℕ → ℕ → List (Option Arc) → Type 0
AreScaled scale most arcs = (i : ℕ) (a : Arc) → IsArc arcs i a → (c : ℕ) × (a.weight ≡ scale * c + 1) × (c ≤ most)

record Chain (scale most : ℕ) (distances : List ℕ) (n : ℕ) : Type 0 where
  cost : ℕ
  hops : ℕ
  sum : at distances n ≡ scale * cost + hops
  few : hops ≤ below (at distances n) distances
  bound : cost ≤ most * hops

chain : (scale most : ℕ) (arcs : List (Option Arc)) (t : ℕ) (ds : List ℕ) → AreDistances arcs t ds → AreAmong (length ds) arcs → AreScaled scale most arcs →
    (k n : ℕ) → at ds n < k → n < length ds → at ds n < UNREACHED → Chain scale most ds n
chain scale most arcs t ds are among scaled zero n less inside reached = absurd (omega arith)
chain scale most arcs t ds are among scaled (suc k) n less inside reached =
    elim (are.made.each n inside reached) [
      | inl target ↦ record { cost = 0; hops = 0; sum = omega (arith, are.made.at_target, ap (at ds) target); few = omega arith; bound = omega arith }
      | inr m ↦
          let a = m.arc in
          let low : at ds a.tail ≤ a.weight + at ds a.head = are.low m.place a m.is_arc in
          let same : at ds a.tail ≡ at ds n = ap (at ds) m.tail in
          let good = among m.place a m.is_arc in
          let rest = chain scale most arcs t ds are among scaled k a.head (omega (arith, m.no_more, good.heavy)) good.head (omega (arith, m.no_more, reached)) in
          let w = scaled m.place a m.is_arc in
          let up = below_less (at ds a.head) (at ds n) a.head ds (omega (arith, m.no_more, good.heavy)) good.head refl in
          record {
            cost = w.0 + rest.cost;
            hops = rest.hops + 1;
            sum = omega (arith, m.no_more, low, same, w.1, rest.sum);
            few = omega (arith, rest.few, up);
            bound = omega (arith, rest.bound, w.2);
          }
    ]

pub made_up : (scale most : ℕ) (arcs : List (Option Arc)) (t : ℕ) (ds : List ℕ) → AreDistances arcs t ds → AreAmong (length ds) arcs → AreScaled scale most arcs →
    (n : ℕ) → n < length ds → at ds n < UNREACHED → IsMadeUp scale most ds n
made_up scale most arcs t ds are among scaled n inside reached =
    let c = chain scale most arcs t ds are among scaled (suc (at ds n)) n (omega arith) inside reached in
    record { cost = c.cost; hops = c.hops; sum = c.sum; few = omega (arith, c.few, below_some (at ds n) n ds inside refl); bound = c.bound }
