use Rattle.std.proofs.Common.{◌≡◌, ◌+◌, [], ◌∷◌, None, Some, sym, ap, ◌∙◌}
use Rattle.std.proofs.lemmas.Result.{err_from_is_err_and}
use Rattle.dom_base.specs.declared.names.As.{As}
use Rattle.line_text.specs.Lines.{NumberedLine}
use Rattle.path_certificate.specs.Text.{certificate_word, header_at, unless_stranger}
use Rattle.path_certificate.proofs.Whole.{text_is, header_stays, body_stays, body_accepted, rows_read}
use Rattle.path_certificate.proofs.reading.read_certificate.Goals as goal

pub returns-in_default-clause-text : goal.returns-in_default-clause-text
returns-in_default-clause-text c =
    text_is c.args.topology.now c.args.bytes.now c.line_count.result [] (sym c.new-lines.ensures ∙ c.in_default.ensures.0) c.line_count.ensures.count

pub returns-in_err-own-clause-text : goal.returns-in_err-own-clause-text
returns-in_err-own-clause-text c =
    let g = c.args.topology.now in
    let line : NumberedLine = record { number = c.in-Some.line.number; text = c.in-Some.line.text.now } in
    let p = err_from_is_err_and c.from_residual.result c.from_residual.ensures.1 in
    rw (p.1, p.2)
    (header_stays g (c.line_count.result + 1) line c.next_line.new.self c.in_err-own.field-0.0 _
    (text_is g c.args.bytes.now c.line_count.result (line ∷ c.next_line.new.self) (sym c.new-lines.ensures ∙ c.in-Some.ensures) c.line_count.ensures.count)
    (c.in_err-own.ensures ∙ ap (λ (o : As). header_at certificate_word o line) c.own.ensures.own))

pub returns-in_err-labels-clause-text : goal.returns-in_err-labels-clause-text
returns-in_err-labels-clause-text c =
    let g = c.args.topology.now in
    let line : NumberedLine = record { number = c.in-Some.line.number; text = c.in-Some.line.text.now } in
    let p = err_from_is_err_and c.from_residual-in_err-labels.result c.from_residual-in_err-labels.ensures.1 in
    rw (p.1, p.2)
    (body_stays g (c.line_count.result + 1) line c.next_line.new.self c.in_ok-own.own c.in_err-labels.field-0.0 _
    (text_is g c.args.bytes.now c.line_count.result (line ∷ c.next_line.new.self) (sym c.new-lines.ensures ∙ c.in-Some.ensures) c.line_count.ensures.count)
    (c.in_ok-own.ensures ∙ ap (λ (o : As). header_at certificate_word o line) c.own.ensures.own) c.in_err-labels.ensures)

pub returns-in-Some-stranger-clause-text : goal.returns-in-Some-stranger-clause-text
returns-in-Some-stranger-clause-text c =
    let g = c.args.topology.now in
    let line : NumberedLine = record { number = c.in-Some.line.number; text = c.in-Some.line.text.now } in
    let x = c.in_ok-labels.field-0 in
    let named : x.stranger ≡ Some c.in-Some-stranger.line = c.in-Some-stranger.is in
    body_accepted g (c.line_count.result + 1) line c.next_line.new.self c.in_ok-own.own x _
    (text_is g c.args.bytes.now c.line_count.result (line ∷ c.next_line.new.self) (sym c.new-lines.ensures ∙ c.in-Some.ensures) c.line_count.ensures.count)
    (c.in_ok-own.ensures ∙ ap (λ (o : As). header_at certificate_word o line) c.own.ensures.own) c.in_ok-labels.ensures
    ∙ ap (unless_stranger c.in_ok-own.own x) named

pub returns-in-None-clause-text : goal.returns-in-None-clause-text
returns-in-None-clause-text c =
    let g = c.args.topology.now in
    let line : NumberedLine = record { number = c.in-Some.line.number; text = c.in-Some.line.text.now } in
    let x = c.in_ok-labels.field-0 in
    let named : x.stranger ≡ None = c.in-None.is in
    body_accepted g (c.line_count.result + 1) line c.next_line.new.self c.in_ok-own.own x _
    (text_is g c.args.bytes.now c.line_count.result (line ∷ c.next_line.new.self) (sym c.new-lines.ensures ∙ c.in-Some.ensures) c.line_count.ensures.count)
    (c.in_ok-own.ensures ∙ ap (λ (o : As). header_at certificate_word o line) c.own.ensures.own) c.in_ok-labels.ensures
    ∙ ap (unless_stranger c.in_ok-own.own x) named

pub returns-in-None-clause-rows : goal.returns-in-None-clause-rows
returns-in-None-clause-rows c =
    let x = c.in_ok-labels.field-0 in
    let named : x.stranger ≡ None = c.in-None.is in
    rows_read c.args.topology.now.nodes (c.line_count.result + 1) c.next_line.new.self x c.in_ok-labels.ensures named
