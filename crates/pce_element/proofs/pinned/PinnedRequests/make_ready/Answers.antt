use Rattle.std.proofs.Common.{◌∙◌, sym, subst}
use Rattle.pce_element.proofs.ReadyLemmas.{StaysPinned, readied_stays}
use Rattle.pce_element.proofs.pinned.PinnedRequests.make_ready.Goals as goal

pub invariant_of-self : goal.invariant_of-self
invariant_of-self g c =
    let a = c.self.inside in
    let stays : StaysPinned a.requests.kept c.set_ready.new.requests.kept = readied_stays c.args.number c.args.branches a.requests.kept c.set_ready.new.requests.kept c.set_ready.ensures.kept in
    record {
      pins = subst (g.W.World.Keeps a.world) (sym stays.pins) c.self.invariant.pins;
      limit = stays.limit ∙ c.self.invariant.limit;
      last = c.self.invariant.last ∙ sym stays.given;
    }

pub returns-clause-count : goal.returns-clause-count
returns-clause-count g c =
    let a = c.self.inside in
    rw (← c.self.view_is) (readied_stays c.args.number c.args.branches a.requests.kept c.set_ready.new.requests.kept c.set_ready.ensures.kept).length
