use Rattle.std.proofs.Common.{arith}
use Rattle.dom_base.proofs.Ranks.{rank_of_v4}
use Rattle.dom_base.proofs.addr.compare_v4.Goals as goal

pub returns : goal.returns
returns c = rw (rank_of_v4 c.args.m (omega arith), rank_of_v4 c.args.n (omega arith)) c.cmp.ensures
