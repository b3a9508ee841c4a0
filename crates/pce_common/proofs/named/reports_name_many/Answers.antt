use Rattle.std.proofs.Common.{◌≡◌, ◌≤◌, ◌+◌, ℕ, true, false, List, length, take, get_or, arith, refl, ap}
use Rattle.std.proofs.lemmas.List.Sums.{sum_by_more, sum_by_more_le}
use Rattle.std.specs.List.{sum_by}
use Rattle.pcep_messages.specs.declared.message.ErrorReport.{ErrorReport}
use Rattle.pce_common.proofs.HeldPlaces.{all_taken}
use Rattle.pce_common.proofs.named.reports_name_many.Goals as goal

pub returns-then-named-left : goal.returns-then-named-left
returns-then-named-left c =
    let named : ErrorReport → ℕ = λ x. length x.ids in
    let here : length c.report-item.result.ids ≡ named (get_or c.args.reports.now c.loop-report.report-index c.report-item.result) = ap named c.report-item.is in
    let most : sum_by named (take c.loop-report.report-index c.args.reports.now) + named (get_or c.args.reports.now c.loop-report.report-index c.report-item.result) ≤ sum_by named c.args.reports.now =
    sum_by_more_le named c.args.reports.now c.loop-report.report-index c.report-item.result (omega arith) in
    (λ yes'. omega (arith, here, most, c.loop-report.invariant, c.if-named-left.true, c.len-named.ensures), λ more. refl)

pub loop-report-preserved : goal.loop-report-preserved
loop-report-preserved c =
    let named : ErrorReport → ℕ = λ x. length x.ids in
    let here : length c.report-item.result.ids ≡ named (get_or c.args.reports.now c.loop-report.report-index c.report-item.result) = ap named c.report-item.is in
    let more : sum_by named (take (c.loop-report.report-index + 1) c.args.reports.now) ≡ sum_by named (take c.loop-report.report-index c.args.reports.now) + named (get_or c.args.reports.now c.loop-report.report-index c.report-item.result) =
    sum_by_more named c.args.reports.now c.loop-report.report-index c.report-item.result (omega arith) in
    omega (arith, here, more, c.loop-report.invariant, c.if-named-left.false, c.len-named.ensures)

pub returns : goal.returns
returns c =
    let named : ErrorReport → ℕ = λ x. length x.ids in
    let all : sum_by named (take c.loop-report.report-index c.args.reports.now) ≡ sum_by named c.args.reports.now = ap (λ (xs : List ErrorReport). sum_by named xs) (all_taken c.args.reports.now c.loop-report.report-index (omega arith)) in
    (λ no'. absurd (let no : false ≡ true = no' in cc), λ many. absurd (omega (arith, all, many, c.loop-report.invariant)))
