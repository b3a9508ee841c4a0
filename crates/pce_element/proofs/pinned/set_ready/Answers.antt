use Rattle.std.proofs.Common.{◌∙◌, ap, sym}
use Rattle.dom_base.specs.Room.{Room}
use Rattle.request_table.specs.Pending.{Pending}
use Rattle.request_table.specs.Lends.{written_of}
use Rattle.pce_common.specs.plant_model.Element.{Item}
use Rattle.pce_element.proofs.ReadyLemmas.{readied_is}
use Rattle.pce_common.proofs.Scans.{on_some}
use Rattle.pce_element.proofs.pinned.set_ready.Goals as goal

pub returns-in-Some-clause-kept : goal.returns-in-Some-clause-kept
returns-in-Some-clause-kept g c =
    ap (λ (r : Room (Pending (Item _))). r.kept) (on_some c.get_mut.result c.in-Some.item _ c.in-Some.is (c.get_mut.follows.holds c.make_ready.new.self))
    ∙ ap (λ (i : Item _). written_of c.args.requests.now.kept c.args.number i) c.make_ready.ensures
    ∙ sym (readied_is c.args.number c.args.branches c.args.requests.now.kept c.in-Some.item.now (sym c.in-Some.ensures.value))

pub returns-in-Some-clause-spare : goal.returns-in-Some-clause-spare
returns-in-Some-clause-spare g c =
    ap (λ (r : Room (Pending (Item _))). r.spare) (on_some c.get_mut.result c.in-Some.item _ c.in-Some.is (c.get_mut.follows.holds c.make_ready.new.self))
