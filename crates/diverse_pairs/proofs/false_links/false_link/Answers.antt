use Rattle.std.proofs.Common.{◌≡◌, false, true}
use Rattle.diverse_pairs.proofs.false_links.false_link.Goals as goal

pub returns-then-not-holds_at : goal.returns-then-not-holds_at
returns-then-not-holds_at c = record {
  fails = λ holds. let bad : false ≡ true = c.if-not-holds_at.ensures.1 holds in cc;
  earlier = c.loop-index.invariant;
}
