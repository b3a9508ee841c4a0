use Rattle.std.proofs.Common.{◌≡◌, List, ℕ, [], ◌++◌, ap, ◌∙◌}
use Rattle.line_text.specs.Spelling.{line_text, text_of}
use Rattle.diverse_pairs.specs.declared.certificate.PairCertificate.{PairCertificate}
use Rattle.diverse_pairs.specs.Text.{pair_in}
use Rattle.diverse_pairs.specs.PairText.{form_lines, header_words, pair_text}
use Rattle.diverse_pairs.proofs.ReadAgain.{read_again}
use Rattle.diverse_pairs.proofs.writing.write_pair.Goals as goal

joined : (bytes start behind all : List ℕ) (c : PairCertificate) → bytes ≡ all → all ≡ behind ++ text_of (form_lines c.form) → behind ≡ start ++ line_text (header_words c.own) → start ≡ [] → bytes ≡ pair_text c
joined bytes start behind all c is whole header none =
    is ∙ whole ∙ ap (λ (v : List ℕ). v ++ text_of (form_lines c.form)) (header ∙ ap (λ (v : List ℕ). v ++ line_text (header_words c.own)) none)

pub returns-clause-text : goal.returns-clause-text
returns-clause-text c = joined _ _ _ _ c.args.certificate.now c.from_vec.ensures c.in_ok-write_form.ensures.ok c.in_ok-write_header.ensures.ok c.new-text.ensures.items

pub returns-clause-again : goal.returns-clause-again
returns-clause-again c = λ g own told.
    let cert = c.args.certificate.now in
    ap (pair_in g) (joined _ _ _ _ cert c.from_vec.ensures c.in_ok-write_form.ensures.ok c.in_ok-write_header.ensures.ok c.new-text.ensures.items)
    ∙ read_again cert g c.in_ok-write_header.ensures.again c.in_ok-write_form.ensures.again own told
