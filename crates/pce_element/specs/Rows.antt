-- A pending request that is looked at.
use Rattle.std.specs.Prelude.{ℕ}
use Rattle.te_links.specs.Rows.{Rows}
use Rattle.pce_common.specs.plant_model.Element as element
use Rattle.pce_common.specs.plant_model.Element.{Item}
use Rattle.pce_common.specs.plant_model.Plant.{Pin}
use Rattle.pce_element.specs.declared.pinned.Row.{Row}

abbrev pub row_of : {P : Type 0} → Row P → element.Row P
row_of r = (r.number, record { key = r.key; item = r.item.now })

-- the pin of a request
abbrev pub pin_in : Item Pin → Pin
pin_in i = i.pin

abbrev pub pin_with : ℕ → Rows → Pin
pin_with number topology = record { number = number; topology = topology }
