use Rattle.std.proofs.lemmas.Result.{IfOk-weaker}
use Rattle.path_constraints.proofs.tables.spans_of.Goals as goal

pub returns-clause-covers : goal.returns-clause-covers
returns-clause-covers c = IfOk-weaker c.in_order.result _ _
    (λ kept same a.
    let told = c.in_ok-each_span.ensures a in
    (λ has. told.0 ((same a).0 has), λ some. (same a).1 (told.1 some)))
    c.in_order.ensures.covers
