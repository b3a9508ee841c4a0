use Rattle.std.proofs.Common.{◌<◌, length, arith}
use Rattle.network_links.specs.Carried.{flow_of}
use Rattle.network_events.proofs.LetterLaws.{letter_is, puts_start, puts_need, puts_more, puts_end}
use Rattle.network_events.proofs.giving.put_all.Goals as goal

pub loop-k-init : goal.loop-k-init
loop-k-init c = puts_start c.args.letters.now.kept (flow_of c.args.traffic.now) c.requires

pub put-requires-clause-there : goal.put-requires-clause-there
put-requires-clause-there c =
    let letters = c.args.letters.now.kept in
    let within : c.loop-k.k < length letters = omega (arith, c.loop-k-test.true, c.len-k-end.ensures) in
    let next = letter_is letters c.loop-k.k c.way-to.result c.bytes.result.now within c.way-to.ensures c.bytes.ensures in
    (puts_need letters c.loop-k.k c.way-to.result.0 c.way-to.result.1 c.bytes.result.now (flow_of c.args.traffic.now) (flow_of c.loop-k.traffic) next c.loop-k.invariant).0

pub put-requires-clause-said : goal.put-requires-clause-said
put-requires-clause-said c =
    let letters = c.args.letters.now.kept in
    let within : c.loop-k.k < length letters = omega (arith, c.loop-k-test.true, c.len-k-end.ensures) in
    let next = letter_is letters c.loop-k.k c.way-to.result c.bytes.result.now within c.way-to.ensures c.bytes.ensures in
    (puts_need letters c.loop-k.k c.way-to.result.0 c.way-to.result.1 c.bytes.result.now (flow_of c.args.traffic.now) (flow_of c.loop-k.traffic) next c.loop-k.invariant).1

pub loop-k-preserved : goal.loop-k-preserved
loop-k-preserved c =
    let letters = c.args.letters.now.kept in
    let within : c.loop-k.k < length letters = omega (arith, c.loop-k-test.true, c.len-k-end.ensures) in
    let next = letter_is letters c.loop-k.k c.way-to.result c.bytes.result.now within c.way-to.ensures c.bytes.ensures in
    puts_more letters c.loop-k.k c.way-to.result.0 c.way-to.result.1 c.bytes.result.now (flow_of c.args.traffic.now) (flow_of c.loop-k.traffic) (flow_of c.put.new.self) next c.loop-k.invariant c.put.ensures

pub returns : goal.returns
returns c = puts_end c.args.letters.now.kept c.loop-k.k (flow_of c.args.traffic.now) (flow_of c.loop-k.traffic) (omega (arith, c.loop-k-test.false, c.len-k-end.ensures)) c.loop-k.invariant
