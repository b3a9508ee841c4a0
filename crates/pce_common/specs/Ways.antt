-- Ways found by their peers.
use Rattle.std.specs.Prelude.{◌≡◌, ℕ, zero, suc, true, false, List, [], ◌∷◌}
use Rattle.plant_model.specs.Types.{As, Peer, Inner}
use Rattle.request_table.specs.Pending.{same_peer}
use Rattle.plant_model.specs.Element.{Way}

-- nothing was sent, and its session is not up
abbrev pub way_of : As → Way
way_of b = record { peer = Inner b; up = false; last_id = 0 }

abbrev pub no_way : Way
no_way = way_of (record { 0 = 0 })

-- the first way to the peer stands at this place
abbrev pub IsFirstTo : Peer → ℕ → List Way → Type 0
IsFirstTo p i [] = ⊥
IsFirstTo p zero (w ∷ ws) = same_peer w.peer p ≡ true
IsFirstTo p (suc i) (w ∷ ws) = (same_peer w.peer p ≡ false) × IsFirstTo p i ws

-- there is no way to it
abbrev pub IsNowhere : Peer → List Way → Type 0
IsNowhere p [] = Unit {0}
IsNowhere p (w ∷ ws) = (same_peer w.peer p ≡ false) × IsNowhere p ws
