use Rattle.std.proofs.Common.{List, ℕ, ◌++◌, ap, ◌∙◌}
use Rattle.line_text.specs.Spelling.{line_text}
use Rattle.path_certificate.specs.declared.text_row.TextRow.TheVariants as rows
use Rattle.path_certificate.specs.Text.{certificate_in}
use Rattle.path_certificate.specs.CertificateText.{header_words, row_words, rows_text}
use Rattle.path_certificate.proofs.ReadAgain.{read_again, text_joined}
use Rattle.path_certificate.proofs.writing.write_certificate.Goals as goal

pub returns-clause-text : goal.returns-clause-text
returns-clause-text c =
    let cert = c.args.certificate.now in
    let path = line_text (row_words (rows.Path cert.path)) in
    c.from_vec.ensures
    ∙ c.in_ok-write_path.ensures.ok
    ∙ ap (λ (v : List ℕ). v ++ path) (rw c.as_slice.ensures at c.in_ok-write_rows.ensures.ok
    ∙ ap (λ (v : List ℕ). v ++ rows_text cert.labels) (c.in_ok-write_header.ensures.ok
    ∙ ap (λ (v : List ℕ). v ++ line_text (header_words cert.own)) c.new-text.ensures.items))
    ∙ text_joined cert

pub returns-clause-again : goal.returns-clause-again
returns-clause-again c = λ g own are some.
    let cert = c.args.certificate.now in
    let path = line_text (row_words (rows.Path cert.path)) in
    let text =
    c.from_vec.ensures
    ∙ c.in_ok-write_path.ensures.ok
    ∙ ap (λ (v : List ℕ). v ++ path) (rw c.as_slice.ensures at c.in_ok-write_rows.ensures.ok
    ∙ ap (λ (v : List ℕ). v ++ rows_text cert.labels) (c.in_ok-write_header.ensures.ok
    ∙ ap (λ (v : List ℕ). v ++ line_text (header_words cert.own)) c.new-text.ensures.items))
    ∙ text_joined cert in
    ap (certificate_in g) text
    ∙ read_again cert g c.in_ok-write_header.ensures.again (rw c.as_slice.ensures at c.in_ok-write_rows.ensures.again) c.in_ok-write_path.ensures.again own are some
