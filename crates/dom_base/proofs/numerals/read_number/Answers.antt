use Rattle.std.proofs.Common.{sym, ◌∙◌, arith}
use Rattle.dom_base.proofs.NumeralLaws.{none_in, some_in, above_in}
use Rattle.dom_base.proofs.numerals.read_number.Goals as goal

pub returns-in_err-number-clause-value : goal.returns-in_err-number-clause-value
returns-in_err-number-clause-value c =
    c.from_residual.ensures ∙ sym (none_in c.args.most c.args.word.now (omega arith) (sym c.in_err-number.ensures))

pub returns-then-number-most-clause-value : goal.returns-then-number-most-clause-value
returns-then-number-most-clause-value c =
    sym (some_in c.args.most c.in_ok-number.number c.args.word.now (sym c.in_ok-number.ensures) c.if-number-most.true)

pub returns-else-number-most-clause-value : goal.returns-else-number-most-clause-value
returns-else-number-most-clause-value c =
    sym (above_in c.args.most c.in_ok-number.number c.args.word.now (sym c.in_ok-number.ensures) c.if-number-most.false)
