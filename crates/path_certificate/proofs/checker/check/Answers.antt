use Rattle.std.proofs.Common.{None}
use Rattle.path_certificate.specs.declared.verdict.Place.TheVariants.{Path}
use Rattle.path_certificate.specs.declared.verdict.Verdict.TheVariants.{Fails}
use Rattle.path_certificate.specs.Claims.{claim_of}
use Rattle.path_certificate.proofs.Judging.{says, good, node_first, path_first}
use Rattle.path_certificate.proofs.checker.check.Goals as goal

pub returns-in-Some-false_node-clause-verdict : goal.returns-in-Some-false_node-clause-verdict
returns-in-Some-false_node-clause-verdict c =
    let claim = claim_of c.args.topology.now c.args.query.now c.args.seeds.now c.args.source c.args.certificate.now in
    let first = rw c.as_slice-rows.ensures at c.in-Some-false_node.ensures in
    node_first claim c.in-Some-false_node.field-0
    (rw c.as_slice-rows.ensures at c.in_default.ensures) (rw c.as_slice-rows.ensures at c.in_default-false_link.ensures.first) first

pub returns-in-None-clause-exact : goal.returns-in-None-clause-exact
returns-in-None-clause-exact c =
    (good c.args.topology.now c.args.query.now c.args.seeds.now c.args.source c.args.certificate.now c.as_slice-rows.result.now c.as_slice-rows.ensures
    c.in_default-false_link.ensures.rules c.requires.rows c.in_default.ensures c.in_default-false_link.ensures.first c.in_default-false_node.ensures c.in-None.ensures).exact

pub returns-in-None-clause-least : goal.returns-in-None-clause-least
returns-in-None-clause-least c =
    (good c.args.topology.now c.args.query.now c.args.seeds.now c.args.source c.args.certificate.now c.as_slice-rows.result.now c.as_slice-rows.ensures
    c.in_default-false_link.ensures.rules c.requires.rows c.in_default.ensures c.in_default-false_link.ensures.first c.in_default-false_node.ensures c.in-None.ensures).least

pub returns-in-None-clause-walk : goal.returns-in-None-clause-walk
returns-in-None-clause-walk c =
    (good c.args.topology.now c.args.query.now c.args.seeds.now c.args.source c.args.certificate.now c.as_slice-rows.result.now c.as_slice-rows.ensures
    c.in_default-false_link.ensures.rules c.requires.rows c.in_default.ensures c.in_default-false_link.ensures.first c.in_default-false_node.ensures c.in-None.ensures).walk

pub returns-in-Some-false_place-clause-exact : goal.returns-in-Some-false_place-clause-exact
returns-in-Some-false_place-clause-exact c =
    let claim = claim_of c.args.topology.now c.args.query.now c.args.seeds.now c.args.source c.args.certificate.now in
    let first = rw c.as_slice-rows.ensures at c.in-Some-false_place.ensures in
    (says c.args.topology.now c.args.query.now c.args.seeds.now c.args.source c.args.certificate.now (Fails (Path c.in-Some-false_place.index) None None)
    c.in_default-false_link.ensures.rules c.requires.rows
    (path_first claim c.in-Some-false_place.index (rw c.as_slice-rows.ensures at c.in_default.ensures) (rw c.as_slice-rows.ensures at c.in_default-false_link.ensures.first)
    (rw c.as_slice-rows.ensures at c.in_default-false_node.ensures) first.0 first.1)).exact
