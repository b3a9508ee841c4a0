use Rattle.std.proofs.Common.{◌≡◌, ◌∙◌, List, Some, true, nat_eq, sym, ap, subst}
use Rattle.std.specs.Prelude.{All, IfSome}
use Rattle.std.specs.Map.{lookup}
use Rattle.request_table.specs.Pending.{Pending}
use Rattle.vspt_tree.specs.Branches.{HasBranchAt}
use Rattle.pce_common.specs.plant_model.Types.{Best}
use Rattle.pce_common.specs.plant_model.Blind.{Nothing}
use Rattle.pce_common.specs.plant_model.Element.{Item, Ready}
use Rattle.pce_element.specs.Answering.{Answers}
use Rattle.pce_element.specs.Blind.{stands_for_nothing}
use Rattle.pce_element.specs.Rows.{row_of}
use Rattle.pce_element.proofs.BlindLemmas.{blind_answers, no_request, not_ready}
use Rattle.pce_element.proofs.CommitLemmas.{ready_stage}
use Rattle.pce_element.proofs.solving.Element+Blind.answer_by.Goals as goal

pub answer_to-requires : goal.answer_to-requires
answer_to-requires c = record { goes_on = subst (All (λ row. IfSome row.head (HasBranchAt c.as_slice-down.result.now))) (sym c.as_slice.ensures) c.in_ok-best.ensures.goes_on }

pub returns-in_default-clause-answers : goal.returns-in_default-clause-answers
returns-in_default-clause-answers c =
    no_request c.args.self.now c.args.number (ap (λ (p : Pending (Item Nothing)). lookup (nat_eq c.args.number) p.rows) (sym c.requests.ensures.pending) ∙ c.in_default.ensures.row)

pub returns-in_default-ready-clause-answers : goal.returns-in_default-ready-clause-answers
returns-in_default-ready-clause-answers c =
    let held = (row_of c.in-Some.row).1 in
    let found : lookup (nat_eq c.args.number) c.args.self.now.losing.element.pending.rows ≡ Some held =
    ap (λ (p : Pending (Item Nothing)). lookup (nat_eq c.args.number) p.rows) (sym c.requests.ensures.pending) ∙ c.in-Some.ensures.row in
    not_ready c.args.self.now c.args.number held found c.in_default-ready.ensures

pub returns-clause-answers : goal.returns-clause-answers
returns-clause-answers c =
    let s = c.args.self.now in
    let held = (row_of c.in-Some.row).1 in
    let found : lookup (nat_eq c.args.number) s.losing.element.pending.rows ≡ Some held =
    ap (λ (p : Pending (Item Nothing)). lookup (nat_eq c.args.number) p.rows) (sym c.requests.ensures.pending) ∙ c.in-Some.ensures.row in
    let ready : held.item.stage ≡ Ready c.as_slice-down.result.now = ready_stage held.item.stage c.in-Some-ready.down.now c.in-Some-ready.ensures ∙ ap Ready (sym c.as_slice-down.ensures) in
    let answers = subst (λ (bs : List Best). Answers stands_for_nothing s true true bs c.args.now.0 (row_of c.in-Some.row) c.as_slice-down.result.now c.in_ok-answer_to.field-0) c.as_slice.ensures c.in_ok-answer_to.ensures.answers in
    blind_answers s c.args.number c.in-Some.row.number c.args.now.0 c.args.rows.now held c.as_slice-down.result.now c.in_ok-best.best c.in_ok-answer_to.field-0 c.in-Some.ensures.number found ready c.in_ok-best.ensures.joined answers
