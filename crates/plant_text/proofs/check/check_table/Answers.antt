use Rattle.std.proofs.Common.{[], length}
use Rattle.std.proofs.lemmas.Result.{err_from_is_err_and}
use Rattle.plant_text.specs.Rules.{rows_from, cut_rules}
use Rattle.plant_text.proofs.RuleLaws.{told_in_front, tells_behind}
use Rattle.plant_text.proofs.check.check_table.Goals as goal

pub returns-in_err-check_rows : goal.returns-in_err-check_rows
returns-in_err-check_rows g c =
    let p = err_from_is_err_and c.from_residual.result c.from_residual.ensures.1 in
    rw (p.1, p.2)
    (told_in_front (rows_from c.args.name.now c.args.limit (g.R.Row.rules c.args.sheet.now) 0 [] c.args.rows.now) (cut_rules c.args.name.now c.args.limit (length c.args.rows.now) c.args.cut) c.in_err-check_rows.field-0.0 (rw c.as_slice.ensures at c.in_err-check_rows.ensures))

pub returns : goal.returns
returns g c =
    tells_behind (rows_from c.args.name.now c.args.limit (g.R.Row.rules c.args.sheet.now) 0 [] c.args.rows.now) (cut_rules c.args.name.now c.args.limit (length c.args.rows.now) c.args.cut) c.check_cut.result (rw c.as_slice.ensures at c.in_ok-check_rows.ensures) (rw c.len.ensures at c.check_cut.ensures)
