use Rattle.std.proofs.Common.{◌∙◌, ap}
use Rattle.te_links.specs.Rows.{Rows}
use Rattle.pce_common.specs.plant_model.Plant.{Pin}
use Rattle.pce_element.proofs.PinLemmas.{made_is, pinned_keeps}
use Rattle.pce_element.proofs.topologies.TopologiesWorld.pin.Goals as goal

pub returns-clause-more : goal.returns-clause-more
returns-clause-more c = λ pins keeps.
    let s = c.args.self.now.generations in
    let made = made_is s c.pin-pin.new.self c.pin-pin.result c.topology.result.now c.pin-pin.ensures.pin c.pin-pin.ensures.pinned c.topology.ensures.topology in
    pinned_keeps s c.pin-pin.new.self pins _ keeps c.pin-pin.ensures.pinned (ap (λ (t : Rows). let p : Pin = record { number = c.pin-pin.result; topology = t } in p) c.of-topology.ensures ∙ made)
