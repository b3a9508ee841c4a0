use Rattle.std.proofs.Common.{◌∙◌, ap}
use Rattle.te_generations.specs.Shelf.{released_of}
use Rattle.pce_common.specs.plant_model.Plant.{Pin}
use Rattle.pce_element.proofs.PinLemmas.{released_keeps}
use Rattle.pce_element.proofs.topologies.TopologiesWorld.release.Goals as goal

pub returns-clause-less : goal.returns-clause-less
returns-clause-less c = λ front back keeps.
    let s = c.args.self.now.generations in
    released_keeps s c.release.new.self front back c.args.pin c.current-last.ensures.rules keeps (c.release.ensures ∙ ap (released_of s) (ap (λ (p : Pin). p.number) c.pin.view_is))
