use Rattle.std.proofs.lemmas.Result.{err_from_is_err_and}
use Rattle.te_links.specs.Faults.{rows_of_parts}
use Rattle.te_links.proofs.Listed.{first_of_nodes, first_of_links, first_of_outs, first_of_entries}
use Rattle.te_links.proofs.Sound.{sound}
use Rattle.te_links.proofs.checks.check.Goals as goal

pub returns-in_err-check_nodes : goal.returns-in_err-check_nodes
returns-in_err-check_nodes c =
    let p = err_from_is_err_and c.from_residual.result c.from_residual.ensures.1 in
    rw (p.1, p.2) (first_of_nodes (rows_of_parts c.args.parts.now) c.in_err-check_nodes.field-0.0 c.in_err-check_nodes.ensures)

pub returns-in_err-check_links : goal.returns-in_err-check_links
returns-in_err-check_links c =
    let p = err_from_is_err_and c.from_residual-in_err-check_links.result c.from_residual-in_err-check_links.ensures.1 in
    rw (p.1, p.2) (first_of_links (rows_of_parts c.args.parts.now) c.in_err-check_links.field-0.0 c.in_ok-check_nodes.ensures c.in_err-check_links.ensures)

pub returns-in_err-check_outs : goal.returns-in_err-check_outs
returns-in_err-check_outs c =
    let p = err_from_is_err_and c.from_residual-in_err-check_outs.result c.from_residual-in_err-check_outs.ensures.1 in
    rw (p.1, p.2) (first_of_outs (rows_of_parts c.args.parts.now) c.in_err-check_outs.field-0.0 c.in_ok-check_nodes.ensures c.in_ok-check_links.ensures c.in_err-check_outs.ensures)

pub returns-in_err-check_entries : goal.returns-in_err-check_entries
returns-in_err-check_entries c =
    let p = err_from_is_err_and c.from_residual-in_err-check_entries.result c.from_residual-in_err-check_entries.ensures.1 in
    rw (p.1, p.2)
    (first_of_entries (rows_of_parts c.args.parts.now) c.in_err-check_entries.field-0.0 c.in_ok-check_nodes.ensures c.in_ok-check_links.ensures c.in_ok-check_outs.ensures c.in_err-check_entries.ensures)

pub returns : goal.returns
returns c =
    (sound (rows_of_parts c.args.parts.now) c.in_ok-check_nodes.ensures c.in_ok-check_links.ensures c.in_ok-check_outs.ensures c.in_ok-check_entries.ensures.0, c.in_ok-check_entries.ensures.1)
