use Rattle.network_links.specs.Sides.{Reserves}
use Rattle.network_links.proofs.RowLemmas.{changes_there}
use Rattle.network_links.proofs.links.Links.reserve.Goals as goal

pub returns-in-Some : goal.returns-in-Some
returns-in-Some c =
    changes_there c.args.at c.args.to c.in-Some.place.link c.in-Some.place.end c.deref.result.now c.self.inside.links.items c.args.self.now c.deref.ensures.value c.self.view_is
    (Reserves c.args.messages c.args.bytes c.reserve.result) c.in-Some.ensures c.index_mut.result.now c.reserve.new.self c.index_mut.ensures.value (record { rest = c.reserve.ensures.rest; does = record { same = c.reserve.ensures.same; ok = c.reserve.ensures.ok; room = c.reserve.ensures.room } })
