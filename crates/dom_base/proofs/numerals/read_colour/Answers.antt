use Rattle.std.proofs.Common.{sym, ◌∙◌, arith}
use Rattle.dom_base.proofs.NumeralLaws.{colour_none, colour_some, colour_length}
use Rattle.dom_base.proofs.numerals.read_colour.Goals as goal

pub returns-then-word-ne8 : goal.returns-then-word-ne8
returns-then-word-ne8 c = sym (colour_length c.args.word.now c.if-word-ne8.true)

pub returns-in_err-number : goal.returns-in_err-number
returns-in_err-number c = c.from_residual.ensures ∙ sym (colour_none c.args.word.now c.if-word-ne8.false (sym c.in_err-number.ensures))

pub overflow_cast-result : goal.overflow_cast-result
overflow_cast-result c = omega (arith, (colour_some c.in_ok-number.number c.args.word.now c.if-word-ne8.false (sym c.in_ok-number.ensures)).0)

pub returns : goal.returns
returns c = sym (colour_some c.in_ok-number.number c.args.word.now c.if-word-ne8.false (sym c.in_ok-number.ensures)).1
