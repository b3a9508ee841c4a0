use Rattle.std.proofs.Common.{◌≡◌, ℕ, List, [], ◌+◌, ◌≤◌, ◌∷◌, length, drop, sym, ap, ◌∙◌, arith}
use Rattle.std.specs.Str.Lines.{lines}
use Rattle.std.proofs.lemmas.List.{take_rest, length-drop, drop_all}
use Rattle.std.proofs.lemmas.Bool.{eqb-false}
use Rattle.std.proofs.Math.Nat.{pos_of_ne-zero}
use Rattle.line_text.proofs.Cut.{is_line_feed, line_cut, last_line, cut_shorter}
use Rattle.line_text.proofs.lines.cut_line.Goals as goal

pub returns-in-Some : goal.returns-in-Some
returns-in-Some c =
    let text = c.args.text.now in
    let k = c.in-Some.place in
    let found = sym c.in-Some.ensures in
    rw (take_rest text (k + 1)) (
      line_cut text k found ∙ ap (λ (line : List ℕ). line ∷ lines (drop (k + 1) text)) (sym c.without_return.ensures),
      omega (arith, length-drop (k + 1) text, cut_shorter is_line_feed text k found),
    )

pub returns-in-None : goal.returns-in-None
returns-in-None c =
    let text = c.args.text.now in
    let none : drop (length text) text ≡ [] = drop_all (length text) text (omega arith) in
    let some : 1 ≤ length text = pos_of_ne-zero (eqb-false (length text) 0 (sym c.if-is_empty.ensures)) in
    rw (take_rest text (length text), none) (last_line text some (sym c.in-None.ensures), some)
