use Rattle.std.proofs.Common.{rules}
use Rattle.diverse_pairs.specs.Conditions.{asked_of}
use Rattle.diverse_pairs.proofs.Judging.{verdict_shows}
use Rattle.diverse_pairs.proofs.checker.check_pair.Goals as goal

pub returns-in-Paths-clause-shows : goal.returns-in-Paths-clause-shows
returns-in-Paths-clause-shows c =
    verdict_shows (asked_of c.args.topology.now c.args.query.now c.args.source c.args.target) c.args.certificate.now.form c.check_paths.result c.own-own.ensures.order (search rules)

pub returns-in-Cut-clause-shows : goal.returns-in-Cut-clause-shows
returns-in-Cut-clause-shows c =
    verdict_shows (asked_of c.args.topology.now c.args.query.now c.args.source c.args.target) c.args.certificate.now.form c.check_cut.result c.own-own.ensures.order (search rules)
