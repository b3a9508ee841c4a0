use Rattle.std.proofs.Common.{◌≡◌, ◌∙◌, ◌-◌, suc, ap, arith, refl, sym}
use Rattle.line_text.specs.Lines.{NumberedLine}
use Rattle.network_check.specs.Places.{left_behind}
use Rattle.network_check.proofs.Placing.{left_is, rest_left, row_counted, row_of_all, row_passed, whole_left}
use Rattle.network_check.proofs.places.seek.Goals as goal

pub loop-line-init : goal.loop-line-init
loop-line-init c = record { row = refl; rest = whole_left c.args.lines.now c.requires.rising }

pub returns-then-left-eq0-clause-left : goal.returns-then-left-eq0-clause-left
returns-then-left-eq0-clause-left c =
    let line : NumberedLine = record { number = c.in-Some.line.number; text = c.in-Some.line.text.now } in
    let so_far = c.loop-line.invariant in
    left_is c.args.lines.now c.loop-line.lines c.next_line.new.self line c.in-Some.ensures so_far.rest
    ∙ sym (ap (left_behind c.args.lines.now) (row_of_all c.args.header.now c.args.lines.now c.loop-line.lines c.next_line.new.self c.args.index c.loop-line.left line c.in-Some.ensures
    (sym c.heads.ensures ∙ c.if-heads.true) c.if-left-eq0.true so_far.row))

pub loop-line-preserved-then-heads : goal.loop-line-preserved-then-heads
loop-line-preserved-then-heads c =
    let line : NumberedLine = record { number = c.in-Some.line.number; text = c.in-Some.line.text.now } in
    let so_far = c.loop-line.invariant in
    let more : c.loop-line.left ≡ suc (c.loop-line.left - 1) = omega arith in
    record {
      row = sym (row_counted c.args.header.now c.loop-line.lines c.next_line.new.self line c.loop-line.left c.in-Some.ensures (sym c.heads.ensures ∙ c.if-heads.true) (c.loop-line.left - 1) more) ∙ so_far.row;
      rest = rest_left c.args.lines.now c.loop-line.lines c.next_line.new.self line c.in-Some.ensures so_far.rest;
    }

pub loop-line-preserved : goal.loop-line-preserved
loop-line-preserved c =
    let line : NumberedLine = record { number = c.in-Some.line.number; text = c.in-Some.line.text.now } in
    let so_far = c.loop-line.invariant in
    record {
      row = sym (row_passed c.args.header.now c.loop-line.lines c.next_line.new.self line c.loop-line.left c.in-Some.ensures (sym c.heads.ensures ∙ c.if-heads.false)) ∙ so_far.row;
      rest = rest_left c.args.lines.now c.loop-line.lines c.next_line.new.self line c.in-Some.ensures so_far.rest;
    }
