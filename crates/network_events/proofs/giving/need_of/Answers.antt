use Rattle.std.proofs.Common.{◌<◌, length, arith}
use Rattle.network_events.proofs.LetterLaws.{total_more}
use Rattle.network_events.proofs.giving.need_of.Goals as goal

pub loop-k-preserved : goal.loop-k-preserved
loop-k-preserved c =
    let within : c.loop-k.k < length c.args.letters.now.kept = omega (arith, c.loop-k-test.true, c.len-k-end.ensures) in
    let on = total_more c.args.letters.now.kept c.loop-k.k c.loop-k.bytes c.bytes.result.now within c.bytes.ensures c.loop-k.invariant in
    let more = c.in-Some.ensures in
    omega (arith, on, more)
