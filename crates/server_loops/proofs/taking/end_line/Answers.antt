use Rattle.std.proofs.lemmas.Result.{err_from_is_err_and}
use Rattle.server_loops.proofs.Pieces.{cuts_of}
use Rattle.server_loops.proofs.taking.end_line.Goals as goal

pub returns-in_err-do_line-clause-lasts : goal.returns-in_err-do_line-clause-lasts
returns-in_err-do_line-clause-lasts g c =
    let p = err_from_is_err_and c.from_residual.result c.from_residual.ensures.1 in
    let end = c.in_err-do_line.field-0.0 in
    rw (p.1, p.2) (cuts_of end (g.D.Chart.charted c.do_line.new.desk).spent (rw c.in_err-do_line.was at c.do_line.ensures.ends))

pub returns-clause-lasts : goal.returns-clause-lasts
returns-clause-lasts g c = rw c.in_ok-do_line.was at c.do_line.ensures.ends
