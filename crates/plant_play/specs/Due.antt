-- The events that are due in a network with topologies when none comes from outside, one after the other.
use Rattle.std.specs.Prelude.{◌≡◌, ℕ, true, List, [], ◌∷◌, Option, Some, None, slice_get}
use Rattle.plant_network.specs.plant_model.Types.{As, NetworkParts}
use Rattle.plant_network.specs.plant_model.declared.event.Event.{Event}
use Rattle.plant_network.specs.plant_model.declared.event.Event.TheVariants as event
use Rattle.plant_network.specs.plant_model.Blind.{is_accepted}
use Rattle.plant_network.specs.plant_model.Events.{ready_jobs}
use Rattle.plant_network.specs.plant_model.Plant.{Plant}
use Rattle.plant_network.specs.Due.{IsLeast, IsSettled, inbox_of}
use Rattle.plant_play.specs.declared.going.Until.{Until}
use Rattle.plant_play.specs.declared.going.Until.TheVariants.{Settled, Finished}
use Rattle.plant_play.specs.declared.showing.Modes.{Modes}
use Rattle.plant_play.specs.Turns.{IsTurn, Turn}

-- ---- what is due

-- the jobs that are solved; none where a network only settles
abbrev pub jobs_due : Until → NetworkParts → Plant → List (As × ℕ)
jobs_due Settled n s = []
jobs_due Finished n s = ready_jobs n s

-- The message of the least pair is carried; where none is on its way, the least job is solved; where there is none, nothing is due.
abbrev pub IsDue : Until → NetworkParts → Plant → Option Event → Type 0
IsDue until n s None = IsSettled n s × (jobs_due until n s ≡ [])
IsDue until n s (Some (event.Carry a b)) = IsLeast n s (a, b)
IsDue until n s (Some (event.Solve d k)) = IsSettled n s × (slice_get (jobs_due until n s) 0 ≡ Some (d, k))
IsDue until n s (Some e) = ⊥

-- the first item of a peer's inbox is taken; where it is empty, nothing is due
abbrev pub IsDueTake : ℕ → Plant → Option Event → Type 0
IsDueTake i s None = inbox_of i s ≡ []
IsDueTake i s (Some e) = e ≡ event.Take i

-- ---- one after the other

module _ (Due : Plant → Option Event → Type 0) (m : Modes) (n : NetworkParts) where
  -- each event is due where it happens, and is accepted
  abbrev pub AreDue : Plant → List Turn → Plant → Type 0
  AreDue s [] end = end ≡ s
  AreDue s (t ∷ ts) end = Due s (Some t.entry.event) × IsTurn m n s t × (is_accepted t.entry.answer ≡ true) × AreDue t.after ts end

  -- and at the end none is due
  pub record AreAllDue (s : Plant) (ts : List Turn) (end : Plant) : Type 0 where
    pub due : AreDue s ts end
    pub over : Due end None
