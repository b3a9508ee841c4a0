use Rattle.std.proofs.Common.{sym, ◌∙◌, ap, arith, drop, ◌+◌}
use Rattle.std.proofs.lemmas.List.{at_drop_all}
use Rattle.dom_base.proofs.ReadDigits.{onward, too_large_at, further_at, at_end, whole}
use Rattle.dom_base.proofs.numerals.number_of.Goals as goal

pub returns-in_err-number : goal.returns-in_err-number
returns-in_err-number c =
    let digit = c.in_ok-digit.ensures.value in
    c.from_residual-in_err-number.ensures
    ∙ sym (too_large_at c.args.base c.loop-c.number c.args.word.now c.loop-c.c-index c.from.result c.in_ok-digit.digit (omega arith) (omega arith)
    c.loop-c.invariant.so_far c.from.ensures digit.0 (sym digit.1) (omega (arith, c.in_err-number.ensures)))

pub loop-c-preserved : goal.loop-c-preserved
loop-c-preserved c =
    let digit = c.in_ok-digit.ensures.value in
    let next = c.in_ok-number.ensures in
    record {
      fits = omega (arith, next.0, next.1);
      some = c.loop-c.invariant.some;
      so_far = ap (λ n. onward c.args.base n (drop (c.loop-c.c-index + 1) c.args.word.now)) next.1
          ∙ further_at c.args.base c.loop-c.number c.args.word.now c.loop-c.c-index c.from.result c.in_ok-digit.digit (omega arith)
          c.loop-c.invariant.so_far c.from.ensures digit.0 (sym digit.1);
    }

pub returns : goal.returns
returns c =
    sym (at_end c.args.base c.loop-c.number c.loop-c.invariant.fits)
    ∙ sym (at_drop_all (onward c.args.base c.loop-c.number) c.args.word.now c.loop-c.c-index (omega arith))
    ∙ c.loop-c.invariant.so_far
    ∙ whole c.args.base c.args.word.now c.loop-c.invariant.some
