use Rattle.std.proofs.Common.{subst}
use Rattle.network_links.specs.declared.TheConstants.{OWN_LENGTH}
use Rattle.plant_queues.specs.Messages.{Covers}
use Rattle.network_links.specs.Sides.{Side, Begins}
use Rattle.network_links.proofs.RowLemmas.{changes_there, read_side}
use Rattle.network_links.proofs.links.Links.begin.Goals as goal

pub begin-requires : goal.begin-requires
begin-requires c =
    subst (λ (s : Side). Covers s.spare 1 OWN_LENGTH)
    (read_side c.args.at c.args.to c.in-Some.place.link c.in-Some.place.end c.deref.result.now c.self.inside.links.items c.args.self.now c.deref.ensures.value c.self.view_is c.in-Some.ensures c.index_mut.result.now c.index_mut.ensures.value) c.requires

pub returns : goal.returns
returns c =
    changes_there c.args.at c.args.to c.in-Some.place.link c.in-Some.place.end c.deref.result.now c.self.inside.links.items c.args.self.now c.deref.ensures.value c.self.view_is
    (Begins c.args.sid c.args.now) c.in-Some.ensures c.index_mut.result.now c.begin.new.self c.index_mut.ensures.value (record { rest = c.begin.ensures.rest; does = record { kept = c.begin.ensures.kept; room = c.begin.ensures.room } })
