use Rattle.std.proofs.Common.{◌≡◌, ◌∙◌, Option, Some, None, sym, subst}
use Rattle.std.specs.Prelude.{IfOk}
use Rattle.pce_common.specs.plant_model.RealWire.{wire}
use Rattle.pce_common.specs.plant_model.Parent.{AskingRow, take_found, waiting}
use Rattle.pce_parent.specs.Changes.{IsDraft}
use Rattle.pce_parent.specs.ParentFields.{parent_of}
use Rattle.pce_parent.specs.Pendings.{row_of}
use Rattle.pce_parent.specs.Seen.{Seen}
use Rattle.pce_parent.proofs.Gone.{waiting_first}
use Rattle.pce_parent.proofs.parent.Parent.take_reply.Goals as goal

pub take_answer-requires : goal.take_answer-requires
take_answer-requires c =
    let a = c.self.inside in
    let h : AskingRow = row_of c.in-Some.row in
    subst (λ (s : Seen). waiting c.args.peer c.args.reply.id s.losing.parent.pending.rows ≡ Some h) c.self.view_is (waiting_first c.args.peer c.args.reply.id (parent_of a).pending ∙ c.in-Some.ensures.row)

pub returns-in-Some : goal.returns-in-Some
returns-in-Some c =
    let a = c.self.inside in
    let s = c.args.self.now in
    let h : AskingRow = row_of c.in-Some.row in
    let found : waiting c.args.peer c.args.reply.id s.losing.parent.pending.rows ≡ Some h =
    subst (λ (t : Seen). waiting c.args.peer c.args.reply.id t.losing.parent.pending.rows ≡ Some h) c.self.view_is (waiting_first c.args.peer c.args.reply.id (parent_of a).pending ∙ c.in-Some.ensures.row) in
    subst (λ (o : Option AskingRow). IfOk c.take_answer.result (IsDraft s (take_found wire c.args.peer c.args.reply s.losing.parent o))) (sym found) c.take_answer.ensures

pub returns-in_ok-error_message-in-None : goal.returns-in_ok-error_message-in-None
returns-in_ok-error_message-in-None c =
    let a = c.self.inside in
    let s = c.args.self.now in
    let found : waiting c.args.peer c.args.reply.id s.losing.parent.pending.rows ≡ None =
    subst (λ (t : Seen). waiting c.args.peer c.args.reply.id t.losing.parent.pending.rows ≡ None) c.self.view_is (waiting_first c.args.peer c.args.reply.id (parent_of a).pending ∙ c.in-None.ensures.row) in
    subst (λ (o : Option AskingRow). IfOk c.says.result (IsDraft s (take_found wire c.args.peer c.args.reply s.losing.parent o))) (sym found) (rw (← c.in_ok-error_message-in-None.ensures) c.says.ensures)
