use Rattle.std.proofs.Common.{◌∙◌, ap, sym, arith}
use Rattle.request_table.specs.Pending.{Pending}
use Rattle.pce_common.specs.plant_model.Parent.{Asking}
use Rattle.pce_parent.proofs.Gone.{closed_keeps}
use Rattle.pce_parent.proofs.parent.Parent.make.Goals as goal

pub invariant_of-self-in-Ends : goal.invariant_of-self-in-Ends
invariant_of-self-in-Ends c =
    let a = c.self-in-Ends.inside in
    let old = c.self-in-Ends.invariant in
    let keeps = closed_keeps c.as_slice.result.now a.requests.kept in
    record {
      lost_fit = omega (arith, c.close_all.ensures.fewer, old.lost_fit);
      limit = ap (λ (p : Pending Asking). p.limit) c.close_all.ensures.kept ∙ keeps.0 ∙ old.limit;
      last = old.last ∙ sym (ap (λ (p : Pending Asking). p.given) c.close_all.ensures.kept ∙ keeps.1);
      rising = old.rising;
      weighed = old.weighed;
    }
