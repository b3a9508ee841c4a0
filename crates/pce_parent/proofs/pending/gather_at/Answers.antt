use Rattle.std.proofs.Common.{◌∙◌, length, ap}
use Rattle.dom_base.specs.Room.{Room}
use Rattle.request_table.specs.Pending.{Pending}
use Rattle.request_table.specs.Lends.{written_of}
use Rattle.pce_common.specs.plant_model.Parent.{Asking}
use Rattle.pce_parent.specs.Changes.{answered_item}
use Rattle.pce_common.proofs.HeldRows.{length-written}
use Rattle.pce_common.proofs.Scans.{on_some}
use Rattle.pce_parent.proofs.pending.gather_at.Goals as goal

pub returns-in-Some-clause-kept : goal.returns-in-Some-clause-kept
returns-in-Some-clause-kept c =
    let old = c.args.requests.now.kept in
    ap (λ (r : Room (Pending Asking)). r.kept) (on_some c.get_mut.result c.in-Some.item _ c.in-Some.is (c.get_mut.follows.holds c.gather.new.self))
    ∙ ap (λ (i : Asking). written_of old c.args.number i) c.gather.ensures
    ∙ ap (answered_item c.args.number c.args.peer c.args.id c.args.rows old) c.in-Some.ensures.value

pub returns-in-Some-clause-count : goal.returns-in-Some-clause-count
returns-in-Some-clause-count c =
    let old = c.args.requests.now.kept in
    ap (λ (r : Room (Pending Asking)). length r.kept.rows) (on_some c.get_mut.result c.in-Some.item _ c.in-Some.is (c.get_mut.follows.holds c.gather.new.self))
    ∙ length-written c.args.number c.gather.new.self old.rows
