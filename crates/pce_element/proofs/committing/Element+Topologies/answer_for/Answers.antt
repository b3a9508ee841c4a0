use Rattle.std.proofs.Common.{◌≡◌, ◌∙◌, ℕ, List, Some, nat_eq, sym, ap, subst}
use Rattle.std.specs.Prelude.{All, IfSome}
use Rattle.std.specs.Map.{lookup}
use Rattle.request_table.specs.Pending.{Pending}
use Rattle.vspt_tree.specs.Branches.{HasBranchAt}
use Rattle.pce_common.specs.plant_model.Types.{Branch}
use Rattle.pce_common.specs.plant_model.Element.{Item}
use Rattle.pce_common.specs.plant_model.Plant.{Pin}
use Rattle.pce_element.specs.Rows.{row_of}
use Rattle.pce_element.proofs.CommitLemmas.{answers_for, own_heads, ready_stage}
use Rattle.pce_element.proofs.committing.Element+Topologies.answer_for.Goals as goal

pub answer_to-requires : goal.answer_to-requires
answer_to-requires c =
    let s = c.args.self.now in
    let x = c.args.solved.now in
    let held = (row_of c.in-Some.row).1 in
    let found : lookup (nat_eq x.ask.number) s.losing.element.pending.rows ≡ Some held =
    ap (λ (n : ℕ). lookup (nat_eq n) s.losing.element.pending.rows) (sym c.number-number.ensures) ∙ ap (λ (p : Pending (Item Pin)). lookup (nat_eq c.number-number.result) p.rows) (sym c.requests.ensures.pending) ∙ c.in-Some.ensures.row in
    let ready = ready_stage held.item.stage c.in-Some-ready.down.now c.in-Some-ready.ensures in
    let heads : All (λ row. IfSome row.head (HasBranchAt c.as_slice.result.now)) x.rows.best =
    subst (λ (ds : List Branch). All (λ row. IfSome row.head (HasBranchAt ds)) x.rows.best) (sym c.as_slice.ensures) (own_heads s x held c.in-Some-ready.down.now found ready c.requires c.at-at.ensures.right) in
    record { goes_on = subst (All (λ row. IfSome row.head (HasBranchAt c.as_slice.result.now))) (sym c.best.ensures) heads }

pub returns-clause-answers : goal.returns-clause-answers
returns-clause-answers c =
    let s = c.args.self.now in
    let x = c.args.solved.now in
    let held = (row_of c.in-Some.row).1 in
    let found : lookup (nat_eq x.ask.number) s.losing.element.pending.rows ≡ Some held =
    ap (λ (n : ℕ). lookup (nat_eq n) s.losing.element.pending.rows) (sym c.number-number.ensures) ∙ ap (λ (p : Pending (Item Pin)). lookup (nat_eq c.number-number.result) p.rows) (sym c.requests.ensures.pending) ∙ c.in-Some.ensures.row in
    let ready = ready_stage held.item.stage c.in-Some-ready.down.now c.in-Some-ready.ensures in
    answers_for s x c.args.now.0 c.in-Some.row.number held c.in-Some-ready.down.now c.as_slice.result.now c.source_known.result c.target_known.result c.best.result.now c.in_ok-answer_to.field-0 (c.in-Some.ensures.number ∙ c.number-number.ensures) found ready c.as_slice.ensures
    c.source_known.ensures c.target_known.ensures c.best.ensures c.in_ok-answer_to.ensures.answers
