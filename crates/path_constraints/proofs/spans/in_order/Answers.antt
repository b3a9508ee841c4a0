use Rattle.std.proofs.Common.{List, subst}
use Rattle.std.specs.Prelude.{◌↔◌}
use Rattle.std.proofs.lemmas.Result.{IfOk-weaker}
use Rattle.dom_base.specs.declared.addr.Addr.{Addr}
use Rattle.path_constraints.specs.Spans.{Covers}
use Rattle.path_constraints.proofs.spans.in_order.Goals as goal

pub returns-clause-covers : goal.returns-clause-covers
returns-clause-covers c = IfOk-weaker c.thinned.result _ _
    (λ kept same a.
    let first = subst (λ (ss : List (Addr × Addr)). Covers kept.items a ↔ Covers ss a) c.as_slice.ensures.value (same a) in
    let second = c.sorted.ensures.covers a in
    (λ has. second.0 (first.0 has), λ has. first.1 (second.1 has)))
    c.thinned.ensures.covers
