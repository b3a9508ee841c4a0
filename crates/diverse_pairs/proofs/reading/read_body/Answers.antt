use Rattle.std.proofs.Common.{List, Ok, sym, ap, ◌∙◌}
use Rattle.std.proofs.lemmas.Result.{err_from_is_err_and}
use Rattle.line_text.specs.Lines.{NumberedLine}
use Rattle.diverse_pairs.specs.declared.pair_row.PairRow.{PairRow}
use Rattle.diverse_pairs.specs.Text.{body_in}
use Rattle.diverse_pairs.proofs.Gathering.{further, moved_on, out_of_order, first_stays, first_accepted, second_first, cut_gives, missing, fault_stays}
use Rattle.diverse_pairs.proofs.reading.read_body.Goals as goal

pub returns-in_err-addr : goal.returns-in_err-addr
returns-in_err-addr c =
    let line : NumberedLine = record { number = c.in-Some.line.number; text = c.in-Some.line.text.now } in
    let p = err_from_is_err_and c.from_residual.result c.from_residual.ensures.1 in
    rw (p.1, p.2)
    (fault_stays c.loop-line.potentials c.args.end c.loop-line.last c.loop-line.lines c.next_line.new.self line c.in_err-addr.field-0.0
    _ c.loop-line.invariant c.in-Some.ensures c.in_err-addr.ensures)

pub returns-then-not-is_behind : goal.returns-then-not-is_behind
returns-then-not-is_behind c =
    let line : NumberedLine = record { number = c.in-Some.line.number; text = c.in-Some.line.text.now } in
    sym c.loop-line.invariant
    ∙ ap (λ (ls : List NumberedLine). further c.loop-line.potentials (body_in c.args.end c.loop-line.last ls)) c.in-Some.ensures
    ∙ out_of_order c.loop-line.potentials c.args.end c.loop-line.last line c.next_line.new.self c.in-At.addr c.in-At.number
    (c.in_ok-addr.ensures ∙ ap (λ (r : PairRow). Ok r) c.in-At.is) (sym c.if-not-is_behind.ensures)

pub loop-line-preserved : goal.loop-line-preserved
loop-line-preserved c =
    let line : NumberedLine = record { number = c.in-Some.line.number; text = c.in-Some.line.text.now } in
    moved_on c.loop-line.potentials c.args.end c.loop-line.last c.loop-line.lines c.next_line.new.self line c.in_ok-addr.field-0
    c.in-At.addr c.in-At.number c.push.new.self _
    c.in_ok-addr.ensures c.in-At.is (sym c.if-not-is_behind.ensures) c.in-Some.ensures
    c.in_ok-push-in-At.ensures.ok c.loop-line.invariant

pub returns-in_err-second-in-First : goal.returns-in_err-second-in-First
returns-in_err-second-in-First c =
    let line : NumberedLine = record { number = c.in-Some.line.number; text = c.in-Some.line.text.now } in
    let p = err_from_is_err_and c.from_residual-in_err-second-in-First.result c.from_residual-in_err-second-in-First.ensures.1 in
    rw (p.1, p.2)
    (first_stays c.loop-line.potentials c.args.end c.loop-line.last c.loop-line.lines c.next_line.new.self line c.in-First.first c.in_err-second-in-First.field-0.0
    _ c.loop-line.invariant c.in-Some.ensures (c.in_ok-addr.ensures ∙ ap (λ (r : PairRow). Ok r) c.in-First.is) c.in_err-second-in-First.ensures)

pub returns-in-First : goal.returns-in-First
returns-in-First c =
    let line : NumberedLine = record { number = c.in-Some.line.number; text = c.in-Some.line.text.now } in
    first_accepted c.loop-line.potentials c.args.end c.loop-line.last c.loop-line.lines c.next_line.new.self line c.in-First.first c.in_ok-second-in-First.second
    _ c.loop-line.invariant c.in-Some.ensures (c.in_ok-addr.ensures ∙ ap (λ (r : PairRow). Ok r) c.in-First.is) c.in_ok-second-in-First.ensures

pub returns-in-Second : goal.returns-in-Second
returns-in-Second c =
    let line : NumberedLine = record { number = c.in-Some.line.number; text = c.in-Some.line.text.now } in
    sym c.loop-line.invariant
    ∙ ap (λ (ls : List NumberedLine). further c.loop-line.potentials (body_in c.args.end c.loop-line.last ls)) c.in-Some.ensures
    ∙ second_first c.loop-line.potentials c.args.end c.loop-line.last line c.next_line.new.self c.in-Second._second
    (c.in_ok-addr.ensures ∙ ap (λ (r : PairRow). Ok r) c.in-Second.is)

pub returns-in-Cut : goal.returns-in-Cut
returns-in-Cut c =
    let line : NumberedLine = record { number = c.in-Some.line.number; text = c.in-Some.line.text.now } in
    cut_gives c.loop-line.potentials c.args.end c.loop-line.last c.loop-line.lines c.next_line.new.self line c.in-Cut.nodes c.read_cut.result
    _ c.loop-line.invariant c.in-Some.ensures (c.in_ok-addr.ensures ∙ ap (λ (r : PairRow). Ok r) c.in-Cut.is) c.read_cut.ensures

pub returns : goal.returns
returns c =
    sym c.loop-line.invariant
    ∙ ap (λ (ls : List NumberedLine). further c.loop-line.potentials (body_in c.args.end c.loop-line.last ls)) c.in_default.ensures.0
    ∙ missing c.loop-line.potentials c.args.end c.loop-line.last
