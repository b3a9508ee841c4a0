use Rattle.std.proofs.Common.{sym, ◌∙◌, arith}
use Rattle.dom_base.proofs.NumeralLaws.{group_none, group_some, group_length}
use Rattle.dom_base.proofs.addr_text.read_group.Goals as goal

pub returns-then-word-gt4 : goal.returns-then-word-gt4
returns-then-word-gt4 c = sym (group_length c.args.word.now c.if-word-gt4.true)

pub returns-in_err-number : goal.returns-in_err-number
returns-in_err-number c = c.from_residual.ensures ∙ sym (group_none c.args.word.now (omega arith) (sym c.in_err-number.ensures))

pub overflow_cast-result : goal.overflow_cast-result
overflow_cast-result c = omega (arith, (group_some c.in_ok-number.number c.args.word.now (omega arith) (sym c.in_ok-number.ensures)).0)

pub returns : goal.returns
returns c = sym (group_some c.in_ok-number.number c.args.word.now (omega arith) (sym c.in_ok-number.ensures)).1
