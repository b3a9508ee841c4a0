use Rattle.std.proofs.Common.{◌∙◌, sym}
use Rattle.line_text.specs.Lines.{NumberedLine}
use Rattle.network_check.proofs.Placing.{key_passed}
use Rattle.network_check.proofs.places.find_key.Goals as goal

pub loop-line-preserved : goal.loop-line-preserved
loop-line-preserved c =
    let line : NumberedLine = record { number = c.in-Some.line.number; text = c.in-Some.line.text.now } in
    sym (key_passed c.args.key.now c.loop-line.lines c.next_line.new.self line c.in-Some.ensures (sym c.opens.ensures ∙ c.if-opens.false) (sym c.names_key.ensures ∙ c.if-names_key.false))
    ∙ c.loop-line.invariant
