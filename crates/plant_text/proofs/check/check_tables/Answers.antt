use Rattle.std.proofs.Common.{◌++◌, codes}
use Rattle.std.proofs.lemmas.Result.{err_from_is_err_and}
use Rattle.plant_text.specs.declared.fault.NetFault.{NetFault}
use Rattle.plant_text.specs.declared.sheet.Sheet.{Sheet}
use Rattle.plant_text.specs.Rules.{Rules, table, element_rules, link_rules, peer_rules, deny_rules}
use Rattle.plant_text.proofs.RuleLaws.{none_of_both, told_in_front, told_behind, tells_behind}
use Rattle.plant_text.proofs.check.check_tables.Goals as goal

abbrev elements : Sheet → Rules NetFault
elements s = table (codes "element") 16 (element_rules s) s.parts.elements s.cuts.elements

abbrev links : Sheet → Rules NetFault
links s = table (codes "link") 120 (link_rules s) s.parts.links s.cuts.links

abbrev peers : Sheet → Rules NetFault
peers s = table (codes "peer") 256 (peer_rules s) s.parts.peers s.cuts.peers

abbrev deny : Sheet → Rules NetFault
deny s = table (codes "deny") 4096 (deny_rules s) s.parts.deny s.cuts.deny

pub returns-in_err-check_table : goal.returns-in_err-check_table
returns-in_err-check_table c =
    let s = c.args.sheet.now in
    let e = c.in_err-check_table.field-0.0 in
    let p = err_from_is_err_and c.from_residual.result c.from_residual.ensures.1 in
    rw (p.1, p.2)
    (told_in_front (elements s ++ links s ++ peers s) (deny s) e
    (told_in_front (elements s ++ links s) (peers s) e (told_in_front (elements s) (links s) e c.in_err-check_table.ensures)))

pub returns-in_err-check_table-2 : goal.returns-in_err-check_table-2
returns-in_err-check_table-2 c =
    let s = c.args.sheet.now in
    let e = c.in_err-check_table-2.field-0.0 in
    let p = err_from_is_err_and c.from_residual-in_err-check_table-2.result c.from_residual-in_err-check_table-2.ensures.1 in
    rw (p.1, p.2)
    (told_in_front (elements s ++ links s ++ peers s) (deny s) e
    (told_in_front (elements s ++ links s) (peers s) e (told_behind (elements s) (links s) e c.in_ok-check_table.ensures c.in_err-check_table-2.ensures)))

pub returns-in_err-check_table-3 : goal.returns-in_err-check_table-3
returns-in_err-check_table-3 c =
    let s = c.args.sheet.now in
    let e = c.in_err-check_table-3.field-0.0 in
    let p = err_from_is_err_and c.from_residual-in_err-check_table-3.result c.from_residual-in_err-check_table-3.ensures.1 in
    rw (p.1, p.2)
    (told_in_front (elements s ++ links s ++ peers s) (deny s) e
    (told_behind (elements s ++ links s) (peers s) e (none_of_both (elements s) (links s) c.in_ok-check_table.ensures c.in_ok-check_table-2.ensures) c.in_err-check_table-3.ensures))

pub returns : goal.returns
returns c =
    let s = c.args.sheet.now in
    tells_behind (elements s ++ links s ++ peers s) (deny s) c.check_table-4.result
    (none_of_both (elements s ++ links s) (peers s) (none_of_both (elements s) (links s) c.in_ok-check_table.ensures c.in_ok-check_table-2.ensures) c.in_ok-check_table-3.ensures)
    c.check_table-4.ensures
