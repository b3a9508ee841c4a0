use Rattle.std.proofs.Common.{◌≡◌, ◌∙◌, List, length, ap, arith}
use Rattle.network_files.specs.declared.drawn_rows.Span.{Span}
use Rattle.network_files.proofs.DrawnRowLemmas.{spans_count}
use Rattle.network_files.proofs.drawn_rows.draw_rows.Goals as goal

pub draw_links-requires-clause-left : goal.draw_links-requires-clause-left
draw_links-requires-clause-left c =
    let count : length c.deref.result.now ≡ 106 = ap (λ (l : List Span). length l) (c.deref.ensures.value ∙ c.in_ok-spans.ensures) ∙ spans_count in
    omega (arith, count, c.requires.left)

pub returns-clause-drawn : goal.returns-clause-drawn
returns-clause-drawn c =
    let count : length c.deref.result.now ≡ 106 = ap (λ (l : List Span). length l) (c.deref.ensures.value ∙ c.in_ok-spans.ensures) ∙ spans_count in
    omega (arith, count, c.in_ok-links.ensures.drawn)
