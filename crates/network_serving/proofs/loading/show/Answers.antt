use Rattle.ted_watch.specs.Watch.{published}
use Rattle.network_serving.proofs.Loads.{may_be_first}
use Rattle.network_serving.proofs.loading.show.Goals as goal

pub show-requires : goal.show-requires
show-requires g c = record {
  next = may_be_first c.args.network.now (published c.args.publisher.now) c.args.shown c.parts-settings.ensures.rules c.requires.elements c.requires.element c.requires.first;
}
