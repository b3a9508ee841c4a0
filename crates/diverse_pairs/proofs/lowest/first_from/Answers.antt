use Rattle.std.proofs.Common.{arith}
use Rattle.diverse_pairs.specs.Uses.{marks_of}
use Rattle.diverse_pairs.specs.Listed.{listed}
use Rattle.diverse_pairs.proofs.Along.{arc_inside, into_within, from_within}
use Rattle.diverse_pairs.proofs.FirstAmong.{lower_on, lower_back, only_on, only_back, one_of_both}
use Rattle.diverse_pairs.proofs.lowest.first_from.Goals as goal

pub overflow_cast-from : goal.overflow_cast-from
overflow_cast-from c =
    let some = c.requires.some in
    omega (arith, (arc_inside c.args.topology.now (listed c.args.arcs.now) c.requires.along some.place some.arc some.is_arc).tail, some.tail, c.own-own.ensures.rules.few_nodes)

pub links_from-requires : goal.links_from-requires
links_from-requires c =
    let some = c.requires.some in
    omega (arith, (arc_inside c.args.topology.now (listed c.args.arcs.now) c.requires.along some.place some.arc some.is_arc).tail, some.tail)

pub first_among-onward-requires-clause-places : goal.first_among-onward-requires-clause-places
first_among-onward-requires-clause-places c = from_within c.args.topology.now (listed c.args.arcs.now) c.requires.along c.args.from c.links_from.result.now c.links_from.ensures.places

pub overflow_cast-from-2 : goal.overflow_cast-from-2
overflow_cast-from-2 c =
    let some = c.requires.some in
    omega (arith, (arc_inside c.args.topology.now (listed c.args.arcs.now) c.requires.along some.place some.arc some.is_arc).tail, some.tail, c.own-own.ensures.rules.few_nodes)

pub links_into-requires : goal.links_into-requires
links_into-requires c =
    let some = c.requires.some in
    omega (arith, (arc_inside c.args.topology.now (listed c.args.arcs.now) c.requires.along some.place some.arc some.is_arc).tail, some.tail)

pub first_among-back-requires-clause-places : goal.first_among-back-requires-clause-places
first_among-back-requires-clause-places c = into_within c.args.topology.now (listed c.args.arcs.now) c.requires.along c.args.from c.links_into.result.now c.links_into.ensures

pub unreachable-requires : goal.unreachable-requires
unreachable-requires c =
    one_of_both c.args.topology.now (listed c.args.arcs.now) (marks_of c.args.uses.now (listed c.args.arcs.now)) c.args.from c.links_into.result.now c.links_from.result.now c.requires.along
    c.links_into.ensures c.links_from.ensures.places c.first_among-onward.result c.first_among-back.result c.first_among-onward.ensures c.first_among-back.ensures
    c.requires.some c.in-None-None.is-0 c.in-None-None.is-1

pub returns-then-other-one : goal.returns-then-other-one
returns-then-other-one c =
    lower_back c.args.topology.now (listed c.args.arcs.now) (marks_of c.args.uses.now (listed c.args.arcs.now)) c.args.from c.links_into.result.now c.links_from.result.now c.requires.along
    c.links_into.ensures c.links_from.ensures.places c.first_among-onward.result c.first_among-back.result c.first_among-onward.ensures c.first_among-back.ensures
    c.in-Some-Some.one c.in-Some-Some.other c.in-Some-Some.is-0 c.in-Some-Some.is-1 c.if-other-one.true

pub returns-else-other-one : goal.returns-else-other-one
returns-else-other-one c =
    lower_on c.args.topology.now (listed c.args.arcs.now) (marks_of c.args.uses.now (listed c.args.arcs.now)) c.args.from c.links_into.result.now c.links_from.result.now c.requires.along
    c.links_into.ensures c.links_from.ensures.places c.first_among-onward.result c.first_among-back.result c.first_among-onward.ensures c.first_among-back.ensures
    c.in-Some-Some.one c.in-Some-Some.other c.in-Some-Some.is-0 c.in-Some-Some.is-1 c.if-other-one.false

pub returns-in-Some-None : goal.returns-in-Some-None
returns-in-Some-None c =
    only_on c.args.topology.now (listed c.args.arcs.now) (marks_of c.args.uses.now (listed c.args.arcs.now)) c.args.from c.links_into.result.now c.links_from.result.now c.requires.along
    c.links_into.ensures c.links_from.ensures.places c.first_among-onward.result c.first_among-back.result c.first_among-onward.ensures c.first_among-back.ensures
    c.in-Some-None.one c.in-Some-None.is-0 c.in-Some-None.is-1

pub returns-in-None-Some : goal.returns-in-None-Some
returns-in-None-Some c =
    only_back c.args.topology.now (listed c.args.arcs.now) (marks_of c.args.uses.now (listed c.args.arcs.now)) c.args.from c.links_into.result.now c.links_from.result.now c.requires.along
    c.links_into.ensures c.links_from.ensures.places c.first_among-onward.result c.first_among-back.result c.first_among-onward.ensures c.first_among-back.ensures
    c.in-None-Some.other c.in-None-Some.is-0 c.in-None-Some.is-1
