use Rattle.network_links.proofs.RowLemmas.{adjacency_there, no_adjacency_there}
use Rattle.network_links.proofs.links.Links.is_linked.Goals as goal

pub returns-in-Some : goal.returns-in-Some
returns-in-Some c = adjacency_there c.args.a c.args.b c.in-Some.field-0.link c.in-Some.field-0.end c.deref.result.now c.self.inside.links.items c.args.self.now c.deref.ensures.value c.self.view_is c.in-Some.ensures

pub returns-in-None : goal.returns-in-None
returns-in-None c = no_adjacency_there c.args.a c.args.b c.deref.result.now c.self.inside.links.items c.args.self.now c.deref.ensures.value c.self.view_is c.in-None.ensures
