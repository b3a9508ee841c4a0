use Rattle.std.proofs.Common.{ap, ◌∙◌, sym}
use Rattle.dom_base.specs.AddrText.{addr_of_groups}
use Rattle.dom_base.proofs.AddrLaws.{other_groups}
use Rattle.dom_base.proofs.addr_text.read_groups.Goals as goal

pub returns-in_err-e : goal.returns-in_err-e
returns-in_err-e c =
    c.from_residual-in_err-e.ensures
    ∙ sym (ap addr_of_groups c.in_ok-a.ensures ∙ other_groups c.in_ok-a.a.now c.in_ok-a.b.now c.in_ok-a.c.now c.in_ok-a.d.now _ c.in_err-e.ensures)
