use Rattle.std.proofs.Common.{◌≤◌, length, nat_eq, sym, subst}
use Rattle.request_table.specs.Pending.{Pending}
use Rattle.request_table.proofs.PendingLemmas.{length-remove}
use Rattle.pce_common.specs.plant_model.Parent.{Asking}
use Rattle.pce_parent.proofs.pending.close_one.Goals as goal

pub returns-clause-fewer : goal.returns-clause-fewer
returns-clause-fewer c =
    let rows = c.args.requests.now.kept.rows in
    subst (λ (p : Pending Asking). length p.rows ≤ length rows) (sym c.close.ensures.kept) (length-remove (nat_eq c.args.number) rows)
