use Rattle.std.proofs.Common.{◌++◌}
use Rattle.std.proofs.lemmas.Result.{err_from_is_err_and}
use Rattle.plant_text.specs.Rules.{table_rules, family_rules, top_rules}
use Rattle.plant_text.proofs.RuleLaws.{none_of_both, told_in_front, told_behind, tells_behind}
use Rattle.plant_text.proofs.check.check.Goals as goal

pub returns-in_err-check_tables : goal.returns-in_err-check_tables
returns-in_err-check_tables c =
    let s = c.args.sheet.now in
    let e = c.in_err-check_tables.field-0.0 in
    let p = err_from_is_err_and c.from_residual.result c.from_residual.ensures.1 in
    rw (p.1, p.2)
    (told_in_front (table_rules s ++ family_rules s) (top_rules s) e (told_in_front (table_rules s) (family_rules s) e c.in_err-check_tables.ensures))

pub returns-in_err-check_parent : goal.returns-in_err-check_parent
returns-in_err-check_parent c =
    let s = c.args.sheet.now in
    let e = c.in_err-check_parent.field-0.0 in
    let p = err_from_is_err_and c.from_residual-in_err-check_parent.result c.from_residual-in_err-check_parent.ensures.1 in
    rw (p.1, p.2)
    (told_in_front (table_rules s ++ family_rules s) (top_rules s) e (told_behind (table_rules s) (family_rules s) e c.in_ok-check_tables.ensures c.in_err-check_parent.ensures))

pub returns : goal.returns
returns c =
    let s = c.args.sheet.now in
    tells_behind (table_rules s ++ family_rules s) (top_rules s) c.check_top.result
    (none_of_both (table_rules s) (family_rules s) c.in_ok-check_tables.ensures c.in_ok-check_parent.ensures)
    c.check_top.ensures
