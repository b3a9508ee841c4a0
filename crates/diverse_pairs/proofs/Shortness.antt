-- A path over which heights fall has fewer arcs than there are nodes.
use Rattle.std.proofs.Common.{ℕ, ◌<◌, ◌≤◌, Bool, List, [], ◌∷◌, length, arith, refl, ap}
use Rattle.std.specs.declared.option.Option.{Option}
use Rattle.diverse_pairs.specs.declared.arcs.Arc.{Arc}
use Rattle.diverse_pairs.specs.Arcs.{at, AreAmong}
use Rattle.diverse_pairs.specs.Paths.{Goes, Falling}
use Rattle.diverse_pairs.proofs.Hops.{below, below_less, below_some}

path_short : (arcs : List (Option Arc)) (us : List Bool) (hs : List ℕ) (t : ℕ) → Falling arcs us hs → AreAmong (length hs) arcs → (is : List ℕ) (u : ℕ) → Goes arcs us u is t → length is ≤ below (at hs u) hs
path_short arcs us hs t falling among [] u goes = omega arith
path_short arcs us hs t falling among (i ∷ is) u goes =
    let step = goes.2 in
    let rest = path_short arcs us hs t falling among is goes.1 goes.3 in
    let down : at hs step.arc.head < at hs u = omega (arith, falling i step.arc step.is_arc step.used, ap (at hs) step.tail) in
    let up = below_less (at hs step.arc.head) (at hs u) step.arc.head hs down (among i step.arc step.is_arc).head refl in
    omega (arith, rest, up, ap (λ n. below (at hs n) hs) step.same_head)

pub path_few : (arcs : List (Option Arc)) (us : List Bool) (hs : List ℕ) (t : ℕ) → Falling arcs us hs → AreAmong (length hs) arcs → (is : List ℕ) (u : ℕ) → Goes arcs us u is t → u < length hs → length is < length hs
path_few arcs us hs t falling among is u goes inside = omega (arith, path_short arcs us hs t falling among is u goes, below_some (at hs u) u hs inside refl)
