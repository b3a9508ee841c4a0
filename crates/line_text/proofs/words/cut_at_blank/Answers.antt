use Rattle.std.proofs.Common.{◌+◌, sym, arith}
use Rattle.std.proofs.lemmas.List.{take_rest, length-drop}
use Rattle.dom_base.proofs.Cuts.{uncut, cut_at}
use Rattle.line_text.specs.Words.{is_blank}
use Rattle.line_text.proofs.words.cut_at_blank.Goals as goal

pub returns-in_err-place : goal.returns-in_err-place
returns-in_err-place c = rw c.from_residual.ensures (uncut is_blank c.args.piece.now (sym c.in_err-place.ensures))

pub returns : goal.returns
returns c =
    let piece = c.args.piece.now in
    let k = c.in_ok-place.place in
    let cut = cut_at is_blank piece k 0 (sym c.in_ok-place.ensures) in
    rw (take_rest piece (k + 1)) (cut.parts, omega (arith, length-drop (k + 1) piece, cut.within))
