use Rattle.std.proofs.Common.{◌∙◌, sym, ap, arith, List}
use Rattle.pce_common.specs.plant_model.Element.{Row, is_waiting}
use Rattle.pce_element.specs.Rows.{row_of}
use Rattle.pce_common.proofs.HeldPlaces.{nothing_dropped}
use Rattle.pce_element.proofs.SearchLemmas.{is_waiting_here, is_waiting_later}
use Rattle.pce_element.proofs.pinned.PinnedRequests.is_waiting.Goals as goal

pub returns-then-waits_for : goal.returns-then-waits_for
returns-then-waits_for g c =
    sym (is_waiting_here c.args.peer c.args.id c.args.self.now.pending.rows c.loop-k.k (row_of c.in-Some.row) c.in-Some.ensures.row (sym c.waits_for.ensures ∙ c.if-waits_for.true)) ∙ c.loop-k.invariant

pub loop-k-preserved : goal.loop-k-preserved
loop-k-preserved g c =
    sym (is_waiting_later c.args.peer c.args.id c.args.self.now.pending.rows c.loop-k.k (row_of c.in-Some.row) c.in-Some.ensures.row (sym c.waits_for.ensures ∙ c.if-waits_for.false)) ∙ c.loop-k.invariant

pub returns : goal.returns
returns g c =
    let rows : List (Row _) = c.args.self.now.pending.rows in
    sym (ap (λ (rs : List (Row _)). is_waiting c.args.peer rs c.args.id) (nothing_dropped rows c.loop-k.k (omega (arith, c.len-k-end.ensures.count, c.loop-k-test.false)))) ∙ c.loop-k.invariant
