use Rattle.std.proofs.Common.{◌∙◌, ap}
use Rattle.std.proofs.lemmas.Bool.{false≢true}
use Rattle.network_links.specs.Sides.{Side, with_session}
use Rattle.network_links.proofs.RowLemmas.{sets_there, read_side, no_adjacency_there}
use Rattle.network_links.proofs.links.Links.set_session.Goals as goal

pub set_session-requires : goal.set_session-requires
set_session-requires c =
    c.requires.sid
    ∙ ap (λ (s : Side). s.kept.session.offer.sid) (read_side c.args.at c.args.to c.in-Some.place.link c.in-Some.place.end c.deref.result.now c.self.inside.links.items c.args.self.now c.deref.ensures.value c.self.view_is c.in-Some.ensures c.index_mut.result.now c.index_mut.ensures.value)

pub unreachable-requires : goal.unreachable-requires
unreachable-requires c = false≢true (no_adjacency_there c.args.at c.args.to c.deref.result.now c.self.inside.links.items c.args.self.now c.deref.ensures.value c.self.view_is c.in-None.ensures ∙ c.requires.linked)

pub returns : goal.returns
returns c =
    sets_there c.args.at c.args.to c.in-Some.place.link c.in-Some.place.end c.deref.result.now c.self.inside.links.items c.args.self.now c.deref.ensures.value c.self.view_is
    (with_session c.args.session) c.in-Some.ensures c.index_mut.result.now c.set_session.new.self c.index_mut.ensures.value c.set_session.ensures
