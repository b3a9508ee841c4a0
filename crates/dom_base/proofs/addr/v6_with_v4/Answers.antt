use Rattle.std.proofs.Common.{arith, ◌+◌, ◌^◌, refl}
use Rattle.std.proofs.lemmas.Bool.{le-ltb, ne_eqb}
use Rattle.dom_base.proofs.Ranks.{rank_of_v4, rank_of_v6}
use Rattle.dom_base.proofs.addr.v6_with_v4.Goals as goal

pub returns : goal.returns
returns c =
    rw (rank_of_v4 c.args._n (omega arith), rank_of_v6 c.args._m (omega arith), le-ltb (2 ^ 32 + c.args._m) c.args._n (omega arith), ne_eqb (2 ^ 32 + c.args._m) c.args._n (λ is. omega (arith, is))) refl
