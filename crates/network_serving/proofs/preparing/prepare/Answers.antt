use Rattle.std.proofs.Common.{rules}
use Rattle.network_serving.specs.Files.{IsLoadEnd}
use Rattle.network_serving.proofs.Causes.{open_end}
use Rattle.network_serving.proofs.preparing.prepare.Goals as goal

pub returns-in_err-desk-clause-err : goal.returns-in_err-desk-clause-err
returns-in_err-desk-clause-err g c =
    let old = c.args.store.now in
    let mid = c.load_settings.new.store in
    let new = c.open_loaded.new.store in
    let end : IsLoadEnd (g.T.Store.files old) c.args.name.now (g.T.Store.faults old, g.T.Store.faults new) (g.T.Store.failed_at new) c.in_err-desk.field-0.0 =
    open_end (g.T.Store.files old) (g.T.Store.files mid) c.args.name.now _ (g.T.Store.faults old) (g.T.Store.faults mid) (g.T.Store.faults new) (g.T.Store.failed_at new) c.in_err-desk.field-0.0
    c.in_ok-network.ensures.ok c.in_ok-network.ensures.files c.in_ok-network.ensures.later c.in_err-desk.ensures.err in
    let from = c.from_residual-in_err-desk.ensures in
    search (rules, end, from)
