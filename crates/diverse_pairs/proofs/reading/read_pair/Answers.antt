use Rattle.std.proofs.Common.{◌+◌, [], ◌∷◌, sym, ap, ◌∙◌}
use Rattle.std.proofs.lemmas.Result.{err_from_is_err_and}
use Rattle.dom_base.specs.declared.names.As.{As}
use Rattle.line_text.specs.Lines.{NumberedLine}
use Rattle.path_certificate.specs.Text.{header_at}
use Rattle.diverse_pairs.specs.Text.{pair_word}
use Rattle.diverse_pairs.proofs.Told.{lines_told, told_rises}
use Rattle.diverse_pairs.proofs.Whole.{text_is, header_stays, body_stays, body_accepted}
use Rattle.diverse_pairs.proofs.reading.read_pair.Goals as goal

pub returns-in_default-clause-text : goal.returns-in_default-clause-text
returns-in_default-clause-text c =
    text_is c.args.topology.now c.args.bytes.now c.line_count.result [] (sym c.new-lines.ensures ∙ c.in_default.ensures.0) c.line_count.ensures.count

pub returns-in_err-own-clause-text : goal.returns-in_err-own-clause-text
returns-in_err-own-clause-text c =
    let g = c.args.topology.now in
    let line : NumberedLine = record { number = c.in-Some.line.number; text = c.in-Some.line.text.now } in
    let p = err_from_is_err_and c.from_residual.result c.from_residual.ensures.1 in
    rw (p.1, p.2)
    (header_stays g (c.line_count.result + 1) line c.next_line.new.self c.in_err-own.field-0.0 _
    (text_is g c.args.bytes.now c.line_count.result (line ∷ c.next_line.new.self) (sym c.new-lines.ensures ∙ c.in-Some.ensures) c.line_count.ensures.count)
    (c.in_err-own.ensures ∙ ap (λ (o : As). header_at pair_word o line) c.own.ensures.own))

pub returns-in_err-form-clause-text : goal.returns-in_err-form-clause-text
returns-in_err-form-clause-text c =
    let g = c.args.topology.now in
    let line : NumberedLine = record { number = c.in-Some.line.number; text = c.in-Some.line.text.now } in
    let p = err_from_is_err_and c.from_residual-in_err-form.result c.from_residual-in_err-form.ensures.1 in
    rw (p.1, p.2)
    (body_stays g (c.line_count.result + 1) line c.next_line.new.self c.in_ok-own.own c.in_err-form.field-0.0 _
    (text_is g c.args.bytes.now c.line_count.result (line ∷ c.next_line.new.self) (sym c.new-lines.ensures ∙ c.in-Some.ensures) c.line_count.ensures.count)
    (c.in_ok-own.ensures ∙ ap (λ (o : As). header_at pair_word o line) c.own.ensures.own) c.in_err-form.ensures)

pub returns-clause-text : goal.returns-clause-text
returns-clause-text c =
    let g = c.args.topology.now in
    let line : NumberedLine = record { number = c.in-Some.line.number; text = c.in-Some.line.text.now } in
    body_accepted g (c.line_count.result + 1) line c.next_line.new.self c.in_ok-own.own c.in_ok-form.form _
    (text_is g c.args.bytes.now c.line_count.result (line ∷ c.next_line.new.self) (sym c.new-lines.ensures ∙ c.in-Some.ensures) c.line_count.ensures.count)
    (c.in_ok-own.ensures ∙ ap (λ (o : As). header_at pair_word o line) c.own.ensures.own) c.in_ok-form.ensures

pub returns-clause-rising : goal.returns-clause-rising
returns-clause-rising c = told_rises c.in_ok-form.form (lines_told (c.line_count.result + 1) c.next_line.new.self c.in_ok-form.form c.in_ok-form.ensures)

pub returns-clause-told : goal.returns-clause-told
returns-clause-told c = lines_told (c.line_count.result + 1) c.next_line.new.self c.in_ok-form.form c.in_ok-form.ensures
