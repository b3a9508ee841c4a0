-- The first way to a peer, and what changes there.
use Rattle.std.proofs.Common.{◌≡◌, ◌<◌, ◌≤◌, ℕ, zero, suc, Bool, true, false, Some, None, List, [], ◌∷◌, length, get_or, set, arith, refl, ap}
use Rattle.plant_model.specs.Types.{Peer}
use Rattle.request_table.specs.Pending.{same_peer}
use Rattle.plant_model.specs.Element.{Way, way_to, with_up, with_last}
use Rattle.pce_common.specs.Ways.{IsFirstTo, IsNowhere}

-- none of the ways before this place leads to the peer
abbrev pub Skips : Peer → ℕ → List Way → Type 0
Skips p zero ws = Unit {0}
Skips p (suc i) [] = Unit {0}
Skips p (suc i) (w ∷ ws) = (same_peer w.peer p ≡ false) × Skips p i ws

pub skips_more : (p : Peer) (i : ℕ) (ws : List Way) (d : Way) → Skips p i ws → i < length ws → same_peer (get_or ws i d).peer p ≡ false → Skips p (suc i) ws
skips_more p i [] d skips within other = tt
skips_more p zero (w ∷ ws) d skips within other = (other, tt)
skips_more p (suc i) (w ∷ ws) d skips within other = (skips.0, skips_more p i ws d skips.1 (omega arith) other)

pub skips_here : (p : Peer) (i : ℕ) (ws : List Way) (d : Way) → Skips p i ws → i < length ws → same_peer (get_or ws i d).peer p ≡ true → IsFirstTo p i ws
skips_here p i [] d skips within same = omega arith
skips_here p zero (w ∷ ws) d skips within same = same
skips_here p (suc i) (w ∷ ws) d skips within same = (skips.0, skips_here p i ws d skips.1 (omega arith) same)

pub skips_all : (p : Peer) (i : ℕ) (ws : List Way) → Skips p i ws → length ws ≤ i → IsNowhere p ws
skips_all p i [] skips past = tt
skips_all p zero (w ∷ ws) skips past = absurd (omega arith)
skips_all p (suc i) (w ∷ ws) skips past = (skips.0, skips_all p i ws skips.1 (omega arith))

pub first_within : (p : Peer) (i : ℕ) (ws : List Way) → IsFirstTo p i ws → i < length ws
first_within p i [] first = absurd first
first_within p zero (w ∷ ws) first = omega arith
first_within p (suc i) (w ∷ ws) first = omega (arith, first_within p i ws first.1)

pub way_nowhere : (p : Peer) (ws : List Way) → IsNowhere p ws → way_to p ws ≡ None
way_nowhere p [] none = refl
way_nowhere p (w ∷ ws) none = rw none.0 (way_nowhere p ws none.1)

pub way_first : (p : Peer) (i : ℕ) (ws : List Way) (d : Way) → IsFirstTo p i ws → way_to p ws ≡ Some (get_or ws i d)
way_first p i [] d first = absurd first
way_first p zero (w ∷ ws) d first = rw first refl
way_first p (suc i) (w ∷ ws) d first = rw first.0 (way_first p i ws d first.1)

pub up_nowhere : (p : Peer) (up : Bool) (ws : List Way) → IsNowhere p ws → with_up p up ws ≡ ws
up_nowhere p up [] none = refl
up_nowhere p up (w ∷ ws) none = rw none.0 (ap (λ (rest : List Way). w ∷ rest) (up_nowhere p up ws none.1))

pub up_first : (p : Peer) (up : Bool) (i : ℕ) (ws : List Way) (d : Way) → IsFirstTo p i ws → with_up p up ws ≡ set ws i (record (get_or ws i d) { up = up })
up_first p up i [] d first = absurd first
up_first p up zero (w ∷ ws) d first = rw first refl
up_first p up (suc i) (w ∷ ws) d first = rw first.0 (ap (λ (rest : List Way). w ∷ rest) (up_first p up i ws d first.1))

pub last_nowhere : (p : Peer) (y : ℕ) (ws : List Way) → IsNowhere p ws → with_last p y ws ≡ ws
last_nowhere p y [] none = refl
last_nowhere p y (w ∷ ws) none = rw none.0 (ap (λ (rest : List Way). w ∷ rest) (last_nowhere p y ws none.1))

pub last_first : (p : Peer) (y : ℕ) (i : ℕ) (ws : List Way) (d : Way) → IsFirstTo p i ws → with_last p y ws ≡ set ws i (record (get_or ws i d) { last_id = y })
last_first p y i [] d first = absurd first
last_first p y zero (w ∷ ws) d first = rw first refl
last_first p y (suc i) (w ∷ ws) d first = rw first.0 (ap (λ (rest : List Way). w ∷ rest) (last_first p y i ws d first.1))
