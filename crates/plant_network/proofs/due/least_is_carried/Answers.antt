use Rattle.std.proofs.Common.{refl}
use Rattle.disclosure.specs.Shown.{open_of}
use Rattle.network_events.specs.plant_model.Blind.{Nothing, show_nothing}
use Rattle.network_events.specs.plant_model.Events.{carry}
use Rattle.network_events.specs.plant_model.Plant.{Pin, Segment}
use Rattle.plant_network.proofs.CarryLemmas.{can_carry}
use Rattle.plant_network.proofs.due.least_is_carried.Goals as goal

pub returns : goal.returns
returns c = record {
  with_topologies = λ c n a b s least. can_carry Pin Segment c n open_of s a b least (carry Pin Segment c n open_of a b s) refl;
  blind = λ c n a b s least. can_carry Nothing Nothing c n show_nothing s a b least (carry Nothing Nothing c n show_nothing a b s) refl;
}
