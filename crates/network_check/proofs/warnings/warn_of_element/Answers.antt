use Rattle.std.proofs.Common.{◌≡◌, ◌∙◌, ◌++◌, OnOk, ℕ, List, ap, append_assoc, subst}
use Rattle.network_check.specs.Warnings.{link_warning, topology_warning}
use Rattle.network_check.proofs.warnings.warn_of_element.Goals as goal

pub returns : goal.returns
returns c =
    let file = c.args.page.now.file.now in
    let line = c.row_line-line.result in
    let element = c.args.element.now in
    let first = topology_warning file line element in
    let second = link_warning file line c.args.parts.now element in
    let both = ap (λ (v : List ℕ). v ++ second) c.in_ok-warn_of_topology.ensures ∙ append_assoc c.args.into.now.items first second in
    rw c.row_line-line.ensures at (subst (λ (v : List ℕ). OnOk c.warn_of_link.result (c.warn_of_link.new.into.items ≡ v)) both c.warn_of_link.ensures)
