use Rattle.std.proofs.Common.{◌∙◌, sym}
use Rattle.pce_common.proofs.plant_model.Live.{as_many}
use Rattle.pce_element.specs.Topologies.{current_of}
use Rattle.pce_element.proofs.PinLemmas.{are_shelves}
use Rattle.pce_element.proofs.topologies.PinnedRequests+Topologies.live.Goals as goal

pub returns : goal.returns
returns c =
    let a = c.self.inside in
    let many = as_many a.world.generations (current_of a.world.generations) a.requests.kept.rows c.live.ensures.rules (are_shelves a.world.generations a.requests.kept.rows c.self.invariant.pins) in
    rw (← c.self.view_is) (c.live.ensures.many ∙ sym many)
