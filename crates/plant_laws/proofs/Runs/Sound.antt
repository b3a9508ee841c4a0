-- In every state of a run each pending request has the class of its peer, and pins a topology whose rows stand in order.
use Rattle.std.proofs.Common.{◌≡◌, ℕ, nat_eq, List, Some}
use Rattle.std.specs.Map.{lookup}
use Rattle.plant_model.specs.Types.{As, Held, NetworkParts}
use Rattle.te_links.specs.Rows.{IsInOrder}
use Rattle.plant_model.specs.Wire.{Codec}
use Rattle.plant_model.specs.Element.{Item}
use Rattle.plant_text.specs.Settings.{class_of}
use Rattle.plant_model.specs.Plant.{Pin, Plant, Entry, Run}
use Rattle.plant_laws.proofs.Runs.Topologies.{run_pinned, domain_under}
use Rattle.plant_laws.proofs.Runs.Classes.{run_classed, HasClass}
use Rattle.plant_laws.proofs.Runs.TablesKept.{found_under}

abbrev pub IsFit : NetworkParts → Held (Item Pin) → Type 0
IsFit n h = (h.item.class ≡ class_of n h.key.peer) × IsInOrder h.item.pin.topology

abbrev pub Sound : NetworkParts → Plant → Type 0
Sound n s = (d : As) (k : ℕ) (h : Held (Item Pin)) → lookup (nat_eq k) (s.elements d).pending.rows ≡ Some h → IsFit n h

pub run_sound : (c : Codec) (n : NetworkParts) (es : List Entry) (s : Plant) → Run c n es s → Sound n s
run_sound c n es s run d k h is = (
  found_under (HasClass n) k (s.elements d).pending.rows h (run_classed c n es s run d).rows is,
  (domain_under d k (s.elements d).pending.rows h ((run_pinned c n es s run).elements d) is).order,
)
