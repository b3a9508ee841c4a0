-- An element, or the parent, may send a neighbour requests exactly where a link leads there and its session with it is open.
use Rattle.std.specs.Prelude.{◌≡◌, ◌↔◌, true, cond, List}
use Rattle.plant_laws.specs.plant_model.Types.{As, NetworkParts, Inner}
use Rattle.plant_text.specs.Names.{same_as, parent_as}
use Rattle.plant_text.specs.Settings.{is_linked}
use Rattle.plant_laws.specs.plant_model.Wire.{Codec}
use Rattle.plant_laws.specs.plant_model.Laws.{IsNetwork}
use Rattle.plant_laws.specs.plant_model.Element.{Way, way_to}
use Rattle.plant_laws.specs.plant_model.Parent.{is_up}
use Rattle.plant_laws.specs.plant_model.Plant.{Plant, Entry, Run}
use Rattle.run_laws.specs.Settling.{IsUp}

-- the ways of an element, and of the parent
abbrev pub ways_of : Plant → As → List Way
ways_of s d = cond (same_as d parent_as) s.parent.ways (s.elements d).ways

-- In every state of every run.
abbrev pub WaysFollowSessions : Type 0
WaysFollowSessions = (c : Codec) (n : NetworkParts) → IsNetwork n → (es : List Entry) (s : Plant) → Run c n es s → (d b : As) →
    (is_up (way_to (Inner b) (ways_of s d)) ≡ true) ↔ ((is_linked n d b ≡ true) × IsUp s d b)
