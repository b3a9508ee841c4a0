use Rattle.std.proofs.Common.{◌≡◌, ◌∙◌, true, false, refl, sym, ap, subst}
use Rattle.pce_common.specs.plant_model.Types.{Wanted}
use Rattle.pce_common.specs.plant_model.Branches.{branches_in}
use Rattle.pce_common.specs.plant_model.RealWire.{wire}
use Rattle.pce_common.specs.plant_model.Parent.{rows_at}
use Rattle.request_table.specs.Pending.{ArePending}
use Rattle.pce_parent.specs.declared.change.Draft.{Draft}
use Rattle.pce_parent.specs.declared.change.Change.TheVariants.{Gathers}
use Rattle.pce_parent.specs.Pendings.{row_of}
use Rattle.pce_parent.specs.Seen.{Seen}
use Rattle.pce_parent.proofs.Drafts.{these_rows, waiting_in}
use Rattle.pce_parent.proofs.parent.Parent.gather.Goals as goal

pub unreachable-requires : goal.unreachable-requires
unreachable-requires c =
    let waits = (waiting_in c.args.peer c.args.id c.args.self.now.losing.parent.pending.rows (row_of c.args.row) c.requires).1 in
    let no : false ≡ true = sym c.in_default.ensures ∙ waits in
    cc

pub returns : goal.returns
returns c =
    let draft : Draft = record { change = Gathers c.args.row.number c.args.peer c.args.id c.in_ok-rows.rows; outputs = c.new.result } in
    let metric = c.args.row.item.now.wanted.query.metric in
    let wait = c.in-Some.wait in
    these_rows c.args.self.now draft c.args.peer c.args.id (row_of c.args.row) wait (branches_in wire metric c.args.paths) c.in_ok-rows.rows
    (subst (λ (s : Seen). ArePending s.losing.parent.pending) c.self.view_is c.len-count.ensures.rules) c.requires c.in-Some.ensures
    (c.in_ok-rows.ensures ∙ ap (λ (w : Wanted). rows_at wait.child wait.target (branches_in wire w.query.metric c.args.paths)) c.wanted.ensures) refl c.new.ensures
