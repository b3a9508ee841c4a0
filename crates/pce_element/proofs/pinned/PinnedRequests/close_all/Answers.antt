use Rattle.std.proofs.Common.{arith}
use Rattle.std.proofs.lemmas.Option.{slice_get-get_or}
use Rattle.pce_element.proofs.CloseLemmas.{closed_next}
use Rattle.pce_element.proofs.pinned.PinnedRequests.close_all.Goals as goal

pub loop-number-preserved : goal.loop-number-preserved
loop-number-preserved g c = record {
  closed = closed_next c.args.self.now c.loop-number.self c.close.new.self c.args.numbers.now c.loop-number.number-index _ (slice_get-get_or c.args.numbers.now c.loop-number.number-index 0 (omega arith)) c.loop-number.invariant.closed c.close.ensures.closed;
  fewer = omega (arith, c.close.ensures.fewer, c.loop-number.invariant.fewer);
}
