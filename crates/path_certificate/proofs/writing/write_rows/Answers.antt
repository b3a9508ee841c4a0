use Rattle.std.proofs.Common.{◌≡◌, ℕ, ◌∷◌, ◌++◌, [], List, take, get_or, sym, ap, subst, ◌∙◌}
use Rattle.std.specs.declared.option.Option.{Option}
use Rattle.std.proofs.lemmas.List.{flat_map_more, take_more}
use Rattle.std.proofs.lemmas.List.Elements.{All-more}
use Rattle.dom_base.specs.declared.addr.Addr.{Addr}
use Rattle.dom_base.specs.declared.query.Label.{Label}
use Rattle.line_text.specs.Spelling.{line_text}
use Rattle.path_certificate.specs.declared.text_row.TextRow.TheVariants as rows
use Rattle.path_certificate.specs.CertificateText.{label_words, rows_text, IsWritten}
use Rattle.path_certificate.proofs.writing.write_rows.Goals as goal

pub loop-row-preserved : goal.loop-row-preserved
loop-row-preserved c =
    let all = c.args.rows.now in
    let start = c.args.into.now.items in
    let i = c.loop-row.row-index in
    let row : Addr × Option Label = c.row-item.result in
    let is : row ≡ get_or all i row = c.row-item.is in
    record {
      written = c.in_ok-write_row.ensures.ok
          ∙ ap (λ (v : List ℕ). v ++ line_text (label_words row)) c.loop-row.invariant.written
          ∙ flat_map_more (λ (r : Addr × Option Label). line_text (label_words r)) start (take i all) row
          ∙ ap (λ (r : Addr × Option Label). start ++ rows_text (take i all ++ r ∷ [])) is
          ∙ ap (λ (rs : List (Addr × Option Label)). start ++ rows_text rs) (sym (take_more all i row c.loop-row-test.true));
      again = All-more (λ r. IsWritten (rows.Label r.0 r.1)) all i row c.loop-row-test.true c.loop-row.invariant.again
          (subst (λ (r : Addr × Option Label). IsWritten (rows.Label r.0 r.1)) is c.in_ok-write_row.ensures.again);
    }
