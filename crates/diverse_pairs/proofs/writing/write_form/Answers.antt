use Rattle.std.proofs.Common.{List, ℕ, ◌++◌, sym, ap, ◌∙◌}
use Rattle.line_text.specs.Spelling.{line_text, text_of}
use Rattle.diverse_pairs.specs.declared.certificate.PairForm.{PairForm}
use Rattle.diverse_pairs.specs.declared.pair_row.PairRow.TheVariants as rows
use Rattle.diverse_pairs.specs.PairText.{form_lines, row_words}
use Rattle.diverse_pairs.proofs.ReadAgain.{paths_joined}
use Rattle.diverse_pairs.proofs.writing.write_form.Goals as goal

pub returns-in_ok-write_second-in-Paths-clause-ok : goal.returns-in_ok-write_second-in-Paths-clause-ok
returns-in_ok-write_second-in-Paths-clause-ok c =
    let old = c.args.into.now.items in
    let one = line_text (row_words (rows.First c.in-Paths.first)) in
    let other = line_text (row_words (rows.Second c.in-Paths.second)) in
    rw c.as_slice-in-Paths-2.ensures at c.in_ok-write_second-in-Paths.ensures.ok
    ∙ ap (λ (v : List ℕ). v ++ other) (rw c.as_slice-in-Paths.ensures at c.in_ok-write_first-in-Paths.ensures.ok
    ∙ ap (λ (v : List ℕ). v ++ one) (rw c.as_slice.ensures at c.in_ok-write_potentials-in-Paths.ensures.ok))
    ∙ paths_joined old c.in-Paths.potentials c.in-Paths.first c.in-Paths.second
    ∙ ap (λ (f : PairForm). old ++ text_of (form_lines f)) (sym c.in-Paths.is)
