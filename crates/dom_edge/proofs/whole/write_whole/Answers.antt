use Rattle.std.proofs.Common.{arith, subst, sym, ◌∙◌}
use Rattle.std.proofs.lemmas.List.{take_rest}
use Rattle.dom_edge.proofs.Streaming.{IsWritten, written_more}
use Rattle.dom_edge.proofs.whole.write_whole.Goals as goal

pub loop-rest-preserved : goal.loop-rest-preserved
loop-rest-preserved g c =
    let rest = c.loop-rest.rest.now in
    let n = c.in-Bytes.count in
    let puts = c.in-Bytes.ensures.writes.puts in
    let old = (g.W.Wire.writing c.args.link.now).written in
    let new = (g.W.Wire.writing c.write.new.self).written in
    record {
      written = subst (IsWritten old new c.args.bytes.now) (sym (take_rest rest n))
          (written_more old (g.W.Wire.writing c.loop-rest.link).written new c.args.bytes.now rest n c.loop-rest.invariant.written puts.1 puts.2);
      later = omega (arith, c.in-Bytes.ensures.writes.failed.later, c.loop-rest.invariant.later);
      reading = c.in-Bytes.ensures.reading ∙ c.loop-rest.invariant.reading;
    }
