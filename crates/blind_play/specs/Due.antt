-- The events that are due in a network without topologies when none comes from outside, one after the other.
use Rattle.std.specs.Prelude.{◌≡◌, ℕ, true, List, [], ◌∷◌, Option, Some, None}
use Rattle.plant_network.specs.plant_model.Types.{NetworkParts}
use Rattle.plant_network.specs.plant_model.declared.event.BlindEvent.{BlindEvent}
use Rattle.plant_network.specs.plant_model.declared.event.BlindEvent.TheVariants as blind
use Rattle.plant_network.specs.plant_model.Blind.{BlindState, is_accepted}
use Rattle.plant_network.specs.Due.{IsLeast, IsSettled, inbox_of}
use Rattle.blind_play.specs.Turns.{IsTurn, Turn}

-- the message of the least pair is carried, until none is on its way
abbrev pub IsDueCarry : NetworkParts → BlindState → Option BlindEvent → Type 0
IsDueCarry n s None = IsSettled n s
IsDueCarry n s (Some (blind.Carry a b)) = IsLeast n s (a, b)
IsDueCarry n s (Some e) = ⊥

-- the first item of a peer's inbox is taken, until it is empty
abbrev pub IsDueTake : ℕ → NetworkParts → BlindState → Option BlindEvent → Type 0
IsDueTake i n s None = inbox_of i s ≡ []
IsDueTake i n s (Some e) = e ≡ blind.Take i

-- ---- one after the other

module _ (Due : NetworkParts → BlindState → Option BlindEvent → Type 0) (n : NetworkParts) where
  -- each event is due where it happens, and is accepted
  abbrev pub AreDue : BlindState → List Turn → BlindState → Type 0
  AreDue s [] end = end ≡ s
  AreDue s (t ∷ ts) end = Due n s (Some t.event) × IsTurn n s t × (is_accepted t.answer ≡ true) × AreDue t.after ts end

  -- and at the end none is due
  pub record AreAllDue (s : BlindState) (ts : List Turn) (end : BlindState) : Type 0 where
    pub due : AreDue s ts end
    pub over : Due n end None
