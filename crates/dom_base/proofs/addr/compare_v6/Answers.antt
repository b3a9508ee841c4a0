use Rattle.std.proofs.lemmas.Bool.Decides.{nat_tests}
use Rattle.dom_base.proofs.Ranks.{rank_of_v6}
use Rattle.dom_base.proofs.addr.compare_v6.Goals as goal
use Rattle.std.proofs.Common.{arith}

pub returns : goal.returns
returns c = rw (rank_of_v6 c.args.m (omega arith), rank_of_v6 c.args.n (omega arith)) (grind (arith, nat_tests))
