use Rattle.std.proofs.Common.{◌∙◌, List, sym, ap, arith}
use Rattle.std.proofs.lemmas.Result.{err_from_is_err_and}
use Rattle.line_text.specs.Lines.{NumberedLine}
use Rattle.line_text.proofs.Counts.{lines_at_most}
use Rattle.te_deltas.specs.declared.changes.Change.{Change}
use Rattle.te_deltas.specs.ChangeText.{changes_in}
use Rattle.te_deltas.proofs.Listing.{further, none_further, goes_on, ends, stays}
use Rattle.te_deltas.proofs.reading.read_changes.Goals as goal

pub new-lines-requires : goal.new-lines-requires
new-lines-requires c = omega (arith, c.requires, lines_at_most c.args.bytes.now)

pub loop-line-init : goal.loop-line-init
loop-line-init c = rw c.new-changes.ensures (none_further (changes_in c.new-lines.result))

pub returns-in_err-change : goal.returns-in_err-change
returns-in_err-change c =
    let line : NumberedLine = record { number = c.in-Some.line.number; text = c.in-Some.line.text.now } in
    let p = err_from_is_err_and c.from_residual.result c.from_residual.ensures.1 in
    let whole = ap (λ (ls : List NumberedLine). further c.loop-line.changes (changes_in ls)) (sym c.in-Some.ensures) ∙ c.loop-line.invariant ∙ ap changes_in c.new-lines.ensures in
    rw (p.1, p.2) (rw whole at (stays c.loop-line.changes line c.next_line.new.self c.in_err-change.field-0.0 c.in_err-change.ensures))

pub loop-line-preserved : goal.loop-line-preserved
loop-line-preserved c =
    let line : NumberedLine = record { number = c.in-Some.line.number; text = c.in-Some.line.text.now } in
    let left = c.next_line.new.self in
    ap (λ (l : List Change). further l (changes_in left)) c.in_ok-push.ensures.ok
    ∙ sym (goes_on c.loop-line.changes line left c.in_ok-change.change c.in_ok-change.ensures)
    ∙ ap (λ (ls : List NumberedLine). further c.loop-line.changes (changes_in ls)) (sym c.in-Some.ensures)
    ∙ c.loop-line.invariant

pub returns : goal.returns
returns c =
    sym (ap changes_in c.new-lines.ensures) ∙ sym c.loop-line.invariant
    ∙ ap (λ (ls : List NumberedLine). further c.loop-line.changes (changes_in ls)) c.in_default.ensures.0 ∙ ends c.loop-line.changes
