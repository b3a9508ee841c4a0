use Rattle.std.proofs.Common.{refl}
use Rattle.disclosure.specs.Shown.{open_of}
use Rattle.network_events.specs.plant_model.Blind.{Nothing, show_nothing}
use Rattle.network_events.specs.plant_model.Events.{take}
use Rattle.network_events.specs.plant_model.Plant.{Pin, Segment}
use Rattle.plant_network.proofs.InboxLemmas.{take_empty}
use Rattle.plant_network.proofs.due.refused_takes_find_nothing.Goals as goal

pub returns : goal.returns
returns c = record {
  with_topologies = λ c n i s. take_empty Pin Segment c n open_of i s (take Pin Segment c n open_of i s) refl;
  blind = λ c n i s. take_empty Nothing Nothing c n show_nothing i s (take Nothing Nothing c n show_nothing i s) refl;
}
