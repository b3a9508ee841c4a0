-- Every topology of a run, current or pinned, obeys the rules of a topology and is of the element's own domain.
use Rattle.std.specs.Prelude.{◌≡◌, List, Contains}
use Rattle.plant_model.specs.Types.{As, NetworkParts}
use Rattle.te_links.specs.Rows.{Rows, IsTopology, IsInOrder}
use Rattle.plant_model.specs.Wire.{Codec}
use Rattle.plant_model.specs.Element.{Row}
use Rattle.plant_model.specs.Plant.{Pin, Plant, Entry, Run, AreInRange}

pub record IsDomain (d : As) (g : Rows) : Type 0 where
  pub own : g.own ≡ d
  pub topology : IsTopology g
  pub order : IsInOrder g
  pub range : AreInRange g

pub record HasDomains (s : Plant) : Type 0 where
  pub current : (d : As) → IsDomain d (s.current d).topology
  pub pinned : (d : As) (h : Row Pin) → Contains (s.elements d).pending.rows h → IsDomain d h.1.item.pin.topology

abbrev pub PinsAreDomains : Type 0
PinsAreDomains = (c : Codec) (n : NetworkParts) (es : List Entry) (s : Plant) → Run c n es s → HasDomains s
