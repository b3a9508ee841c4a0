use Rattle.std.proofs.Common.{List, ◌∷◌, Ok, refl, sym, ap, ◌∙◌}
use Rattle.std.proofs.lemmas.Result.{err_from_is_err_and}
use Rattle.dom_base.specs.AddrOrder.{rank}
use Rattle.line_text.specs.Lines.{NumberedLine}
use Rattle.path_certificate.specs.declared.text_row.TextRow.{TextRow}
use Rattle.path_certificate.specs.Text.{body_in, least_behind}
use Rattle.path_certificate.proofs.Gathering.{further, moved_on, out_of_order, ends, goes_past, missing, fault_stays}
use Rattle.path_certificate.proofs.reading.read_body.Goals as goal

pub returns-in_err-addr : goal.returns-in_err-addr
returns-in_err-addr c =
    let line : NumberedLine = record { number = c.in-Some.line.number; text = c.in-Some.line.text.now } in
    let p = err_from_is_err_and c.from_residual.result c.from_residual.ensures.1 in
    rw (p.1, p.2)
    (fault_stays c.args.topology.now.nodes c.loop-line.labels c.loop-line.stranger c.args.end (least_behind c.loop-line.last) c.loop-line.lines c.next_line.new.self line c.in_err-addr.field-0.0
    _ c.loop-line.invariant c.in-Some.ensures c.in_err-addr.ensures)

pub returns-then-not-is_behind : goal.returns-then-not-is_behind
returns-then-not-is_behind c =
    let line : NumberedLine = record { number = c.in-Some.line.number; text = c.in-Some.line.text.now } in
    let nodes = c.args.topology.now.nodes in
    sym c.loop-line.invariant
    ∙ ap (λ (ls : List NumberedLine). further nodes c.loop-line.labels c.loop-line.stranger (body_in c.args.end (least_behind c.loop-line.last) ls)) c.in-Some.ensures
    ∙ out_of_order nodes c.loop-line.labels c.loop-line.stranger c.args.end (least_behind c.loop-line.last) line c.next_line.new.self c.in-Label.addr c.in-Label.label
    (c.in_ok-addr.ensures ∙ ap (λ (r : TextRow). Ok r) c.in-Label.is) (sym c.if-not-is_behind.ensures)

pub loop-line-preserved : goal.loop-line-preserved
loop-line-preserved c =
    let line : NumberedLine = record { number = c.in-Some.line.number; text = c.in-Some.line.text.now } in
    moved_on c.args.topology.now.nodes c.loop-line.labels c.loop-line.stranger c.args.end (least_behind c.loop-line.last) c.loop-line.lines c.next_line.new.self line c.in_ok-addr.field-0
    c.in-Label.addr c.in-Label.label c.push.new.self c.first_stranger-stranger.result (rank c.in-Label.addr) _
    c.in_ok-addr.ensures c.in-Label.is (sym c.if-not-is_behind.ensures) c.in-Some.ensures
    c.in_ok-push-in-Label.ensures.ok c.first_stranger-stranger.ensures refl c.loop-line.invariant

pub returns-in-Some-next_line : goal.returns-in-Some-next_line
returns-in-Some-next_line c =
    let line : NumberedLine = record { number = c.in-Some.line.number; text = c.in-Some.line.text.now } in
    let other : NumberedLine = record { number = c.in-Some-next_line.other.number; text = c.in-Some-next_line.other.text.now } in
    let nodes = c.args.topology.now.nodes in
    sym c.loop-line.invariant
    ∙ ap (λ (ls : List NumberedLine). further nodes c.loop-line.labels c.loop-line.stranger (body_in c.args.end (least_behind c.loop-line.last) ls))
    (c.in-Some.ensures ∙ ap (λ (ls : List NumberedLine). line ∷ ls) c.in-Some-next_line.ensures)
    ∙ goes_past nodes c.loop-line.labels c.loop-line.stranger c.args.end (least_behind c.loop-line.last) line other c.next_line-in-Path.new.self c.in-Path.path
    (c.in_ok-addr.ensures ∙ ap (λ (r : TextRow). Ok r) c.in-Path.is)

pub returns-in-None : goal.returns-in-None
returns-in-None c =
    let line : NumberedLine = record { number = c.in-Some.line.number; text = c.in-Some.line.text.now } in
    let nodes = c.args.topology.now.nodes in
    sym c.loop-line.invariant
    ∙ ap (λ (ls : List NumberedLine). further nodes c.loop-line.labels c.loop-line.stranger (body_in c.args.end (least_behind c.loop-line.last) ls))
    (c.in-Some.ensures ∙ ap (λ (ls : List NumberedLine). line ∷ ls) c.in-None.ensures.0)
    ∙ ends nodes c.loop-line.labels c.loop-line.stranger c.args.end (least_behind c.loop-line.last) line c.in-Path.path
    (c.in_ok-addr.ensures ∙ ap (λ (r : TextRow). Ok r) c.in-Path.is)

pub returns : goal.returns
returns c =
    sym c.loop-line.invariant
    ∙ ap (λ (ls : List NumberedLine). further c.args.topology.now.nodes c.loop-line.labels c.loop-line.stranger (body_in c.args.end (least_behind c.loop-line.last) ls)) c.in_default.ensures.0
    ∙ missing c.args.topology.now.nodes c.loop-line.labels c.loop-line.stranger c.args.end (least_behind c.loop-line.last)
