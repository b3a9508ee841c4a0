use Rattle.std.proofs.Common.{length, subst}
use Rattle.plant_queues.specs.Messages.{Covers}
use Rattle.network_links.specs.Sides.{Side, Sends}
use Rattle.network_links.proofs.RowLemmas.{changes_there, read_side}
use Rattle.network_links.proofs.links.Links.put.Goals as goal

pub put-requires : goal.put-requires
put-requires c =
    subst (λ (s : Side). Covers s.spare 1 (length c.args.message.now))
    (read_side c.args.at c.args.to c.in-Some.place.link c.in-Some.place.end c.deref.result.now c.self.inside.links.items c.args.self.now c.deref.ensures.value c.self.view_is c.in-Some.ensures c.index_mut.result.now c.index_mut.ensures.value) c.requires

pub returns : goal.returns
returns c =
    changes_there c.args.at c.args.to c.in-Some.place.link c.in-Some.place.end c.deref.result.now c.self.inside.links.items c.args.self.now c.deref.ensures.value c.self.view_is
    (Sends c.args.message.now) c.in-Some.ensures c.index_mut.result.now c.put.new.self c.index_mut.ensures.value (record { rest = c.put.ensures.rest; does = record { kept = c.put.ensures.kept; room = c.put.ensures.room } })
