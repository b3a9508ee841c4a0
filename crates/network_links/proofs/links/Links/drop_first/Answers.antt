use Rattle.network_links.specs.Sides.{DropsFirst}
use Rattle.network_links.proofs.RowLemmas.{changes_there}
use Rattle.network_links.proofs.links.Links.drop_first.Goals as goal

pub returns-in-Some : goal.returns-in-Some
returns-in-Some c =
    changes_there c.args.from c.args.to c.in-Some.place.link c.in-Some.place.end c.deref.result.now c.self.inside.links.items c.args.self.now c.deref.ensures.value c.self.view_is
    DropsFirst c.in-Some.ensures c.index_mut.result.now c.drop_first.new.self c.index_mut.ensures.value (record { rest = c.drop_first.ensures.rest; does = record { kept = c.drop_first.ensures.kept; room = c.drop_first.ensures.room } })
