use Rattle.std.proofs.Common.{◌≡◌, false, true, inr, refl}
use Rattle.diverse_pairs.specs.Conditions.{asked_of}
use Rattle.diverse_pairs.proofs.Judging.{crossing_first, cut_holds}
use Rattle.diverse_pairs.proofs.checker.check_cut.Goals as goal

pub returns-in-Some : goal.returns-in-Some
returns-in-Some c =
    crossing_first (asked_of c.args.topology.now c.args.query.now c.args.source c.args.target) c.args.nodes.now c.in-Some.index
    (c.if-not-admits_node.ensures.0 refl, c.if-not-admits_node-2.ensures.0 refl)
    (inr (c.if-not-has_source.ensures.0 refl, λ has. let bad : false ≡ true = c.if-has_target.ensures.1 has in cc)) c.in-Some.ensures

pub returns-in-None : goal.returns-in-None
returns-in-None c =
    cut_holds (asked_of c.args.topology.now c.args.query.now c.args.source c.args.target) c.args.nodes.now
    (inr (c.if-not-has_source.ensures.0 refl, λ has. let bad : false ≡ true = c.if-has_target.ensures.1 has in cc)) (λ both. c.in-None.ensures)
