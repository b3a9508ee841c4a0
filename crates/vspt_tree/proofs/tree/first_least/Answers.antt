use Rattle.std.proofs.Common.{rules, tests, refl}
use Rattle.std.proofs.lemmas.Cmp.{ranked}
use Rattle.std.proofs.lemmas.Iterator.{YieldsList-from_slice}
use Rattle.std.proofs.lemmas.Iterator.Consumers.{YieldsList-from_filter}
use Rattle.vspt_tree.proofs.LeastLemmas.{least_from_min, is_at}
use Rattle.vspt_tree.proofs.tree.first_least.Goals as goal

pub returns : goal.returns
returns c =
    let n = c.args.node in
    let down = c.args.down.now in
    least_from_min _ _ n down c.min_by_key.result c.min_by_key.ensures.ran
    (YieldsList-from_filter _ (is_at n) (YieldsList-from_slice down cc) c.filter.ensures.closure (λ x r q k. search (rules, tests)))
    (λ x k q called. search (rules, tests)) (λ a b. ranked a b _ refl) c.requires
