use Rattle.one_domain.proofs.Shown.{chosen_is}
use Rattle.one_domain.proofs.domain.chosen_of.Goals as goal

pub returns : goal.returns
returns c = chosen_is c.args._topology.now c.args._wanted.now c.args.rows c.path_of.result c.requires c.path_of.ensures
