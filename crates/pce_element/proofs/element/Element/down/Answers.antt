use Rattle.std.proofs.Common.{rules, subst}
use Rattle.request_table.specs.Pending.{ArePending}
use Rattle.pce_element.specs.Seen.{Seen}
use Rattle.pce_element.proofs.LastingLemmas.{down_last}
use Rattle.pce_element.proofs.element.Element.down.Goals as goal

pub returns-clause-ready : goal.returns-clause-ready
returns-clause-ready g c =
    let s : Seen _ _ = c.args.self.now in
    let are : ArePending s.losing.element.pending = subst (λ (x : Seen _ _). ArePending x.losing.element.pending) c.self.view_is c.len-count.ensures.rules in
    down_last s _ c.args.peer are (search rules)
