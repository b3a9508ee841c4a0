-- What opens and drains the connection of an outside peer in a history.
use Rattle.std.specs.Prelude.{◌≡◌, ◌&&◌, ℕ, Bool, true, false, List, filter}
use Rattle.plant_network.specs.plant_model.declared.event.Event.{Event}
use Rattle.plant_network.specs.plant_model.Blind.{is_accepted}
use Rattle.plant_network.specs.plant_model.Events.{Answered}
use Rattle.plant_network.specs.Histories.{events_of}
use Rattle.run_laws.specs.Outlets.{ConnectionChange, Drains, Opens, Shuts, Stays, turn_for}
use Rattle.turn_desk.specs.Desks.{Stand}

abbrev pub is_use : ConnectionChange → Bool
is_use (Opens holder) = true
is_use Drains = true
is_use Shuts = false
is_use Stays = false

-- an accepted event that opens or drains it
abbrev pub is_at : ℕ → Event × Answered → Bool
is_at i e = is_accepted e.1 && is_use (turn_for i e.0)

abbrev pub at_peer : ℕ → List (Event × Answered) → List (Event × Answered)
at_peer i es = filter (is_at i) es

-- whatever opens or drains it in the history that a desk has seen, that desk did; others may shut it
abbrev pub IsAlone : ℕ → Stand → Type 0
IsAlone i s = at_peer i (events_of s.seen) ≡ at_peer i (events_of s.own)
