use Rattle.diverse_pairs.proofs.CutShown.{no_source, no_target}
use Rattle.diverse_pairs.proofs.solve.solve_pair.Goals as goal

pub returns-in_default-clause-answer : goal.returns-in_default-clause-answer
returns-in_default-clause-answer c = (no_source c.args.topology.now c.args.query.now c.args.source c.args.target c.in_default.ensures).answer

pub returns-in_default-open_place-clause-answer : goal.returns-in_default-open_place-clause-answer
returns-in_default-open_place-clause-answer c = (no_target c.args.topology.now c.args.query.now c.args.source c.args.target c.in_default-open_place.ensures).answer
