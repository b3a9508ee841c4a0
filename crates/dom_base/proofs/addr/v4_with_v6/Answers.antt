use Rattle.std.proofs.Common.{arith, ◌+◌, ◌^◌, refl}
use Rattle.std.proofs.lemmas.Bool.{lt-ltb}
use Rattle.dom_base.proofs.Ranks.{rank_of_v4, rank_of_v6}
use Rattle.dom_base.proofs.addr.v4_with_v6.Goals as goal

pub returns : goal.returns
returns c =
    rw (rank_of_v4 c.args._m (omega arith), rank_of_v6 c.args._n (omega arith), lt-ltb c.args._m (2 ^ 32 + c.args._n) (omega arith)) refl
