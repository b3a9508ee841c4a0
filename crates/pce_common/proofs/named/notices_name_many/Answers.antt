use Rattle.std.proofs.Common.{◌≡◌, ◌≤◌, ◌+◌, ℕ, true, false, List, length, take, get_or, arith, refl, ap}
use Rattle.std.proofs.lemmas.List.Sums.{sum_by_more, sum_by_more_le}
use Rattle.std.specs.List.{sum_by}
use Rattle.pcep_messages.specs.declared.message.Notice.{Notice}
use Rattle.pce_common.proofs.HeldPlaces.{all_taken}
use Rattle.pce_common.proofs.named.notices_name_many.Goals as goal

pub returns-then-named-left : goal.returns-then-named-left
returns-then-named-left c =
    let named : Notice → ℕ = λ x. length x.ids in
    let here : length c.notice-item.result.ids ≡ named (get_or c.args.notices.now c.loop-notice.notice-index c.notice-item.result) = ap named c.notice-item.is in
    let most : sum_by named (take c.loop-notice.notice-index c.args.notices.now) + named (get_or c.args.notices.now c.loop-notice.notice-index c.notice-item.result) ≤ sum_by named c.args.notices.now =
    sum_by_more_le named c.args.notices.now c.loop-notice.notice-index c.notice-item.result (omega arith) in
    (λ yes'. omega (arith, here, most, c.loop-notice.invariant, c.if-named-left.true, c.len-named.ensures), λ more. refl)

pub loop-notice-preserved : goal.loop-notice-preserved
loop-notice-preserved c =
    let named : Notice → ℕ = λ x. length x.ids in
    let here : length c.notice-item.result.ids ≡ named (get_or c.args.notices.now c.loop-notice.notice-index c.notice-item.result) = ap named c.notice-item.is in
    let more : sum_by named (take (c.loop-notice.notice-index + 1) c.args.notices.now) ≡ sum_by named (take c.loop-notice.notice-index c.args.notices.now) + named (get_or c.args.notices.now c.loop-notice.notice-index c.notice-item.result) =
    sum_by_more named c.args.notices.now c.loop-notice.notice-index c.notice-item.result (omega arith) in
    omega (arith, here, more, c.loop-notice.invariant, c.if-named-left.false, c.len-named.ensures)

pub returns : goal.returns
returns c =
    let named : Notice → ℕ = λ x. length x.ids in
    let all : sum_by named (take c.loop-notice.notice-index c.args.notices.now) ≡ sum_by named c.args.notices.now = ap (λ (xs : List Notice). sum_by named xs) (all_taken c.args.notices.now c.loop-notice.notice-index (omega arith)) in
    (λ no'. absurd (let no : false ≡ true = no' in cc), λ many. absurd (omega (arith, all, many, c.loop-notice.invariant)))
