use Rattle.std.proofs.Common.{arith}
use Rattle.te_links.proofs.Nothing.{nothing_is, nothing_in_order}
use Rattle.te_links.proofs.topology.Topology.empty.Goals as goal

pub invariant_of-result : goal.invariant_of-result
invariant_of-result c = record {
  rules = rw (c.new.ensures.items, c.new-2.ensures.items, c.new-3.ensures.items, c.new-4.ensures.items) (nothing_is c.args.own);
  order = rw (c.new.ensures.items, c.new-2.ensures.items, c.new-3.ensures.items, c.new-4.ensures.items) (nothing_in_order c.args.own);
  short = rw c.new-4.ensures.items (omega arith);
  index = rw (c.new.ensures.items, c.new-2.ensures.items) c.none-2.ensures;
}
