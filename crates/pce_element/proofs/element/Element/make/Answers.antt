use Rattle.std.proofs.Common.{subst}
use Rattle.request_table.specs.Pending.{ArePending}
use Rattle.pce_element.specs.Changes.{Fits}
use Rattle.pce_element.specs.Seen.{Seen}
use Rattle.pce_element.proofs.LastingLemmas.{made_last}
use Rattle.pce_element.proofs.element.Element.make.Goals as goal

pub returns-clause-ready : goal.returns-clause-ready
returns-clause-ready g c =
    let s : Seen _ _ = c.args.self.now in
    let are : ArePending s.losing.element.pending = subst ArePending c.requests.ensures.pending c.len-count.ensures.rules in
    let fits : Fits s c.into_change.result = subst (λ (x : Seen _ _). Fits x c.into_change.result) c.requires c.into_change.ensures.fits in
    made_last s c.change.new.self c.into_change.result are fits c.change.ensures
