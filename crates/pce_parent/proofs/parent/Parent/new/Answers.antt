use Rattle.std.proofs.Common.{length, sym, ap, arith}
use Rattle.request_table.specs.Pending.{Pending}
use Rattle.pce_common.specs.plant_model.Parent.{Asking}
use Rattle.pce_parent.proofs.parent.Parent.new.Goals as goal

pub invariant_of-result : goal.invariant_of-result
invariant_of-result c = record {
  lost_fit = omega (arith, c.new-2.ensures.len, ap (λ (p : Pending Asking). length p.rows) c.in_ok-with_limit.ensures);
  limit = ap (λ (p : Pending Asking). p.limit) c.in_ok-with_limit.ensures;
  last = sym (ap (λ (p : Pending Asking). p.given) c.in_ok-with_limit.ensures);
  rising = c.requires.rising;
  weighed = c.requires.weighed;
}
