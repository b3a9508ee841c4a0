use Rattle.pce_common.proofs.plant_model.Live.{live_meets}
use Rattle.pce_element.specs.Pinned.{pins_in}
use Rattle.pce_element.specs.Topologies.{current_of}
use Rattle.pce_element.proofs.PinLemmas.{are_shelves, load_holds}
use Rattle.pce_element.proofs.topologies.PinnedRequests+Topologies.load.Goals as goal

pub invariant_of-self : goal.invariant_of-self
invariant_of-self c =
    let a = c.self.inside in
    let r = c.load in
    record {
      pins = load_holds r.result a.world.generations r.new.self c.args.topology (pins_in a.requests.kept.rows) r.ensures.ok r.ensures.err c.current-last.ensures.rules c.self.invariant.pins;
      limit = c.self.invariant.limit;
      last = c.self.invariant.last;
    }

pub returns-clause-full : goal.returns-clause-full
returns-clause-full c =
    let a = c.self.inside in
    let meets = live_meets a.world.generations (current_of a.world.generations) a.requests.kept.rows c.current-last.ensures.rules (are_shelves a.world.generations a.requests.kept.rows c.self.invariant.pins) in
    rw (← c.self.view_is) (λ e. meets.1 (c.load.ensures.full.0 e), λ t. c.load.ensures.full.1 (meets.0 t))
