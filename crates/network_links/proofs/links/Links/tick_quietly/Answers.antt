use Rattle.std.proofs.Common.{◌∙◌, ap, sym}
use Rattle.std.proofs.lemmas.Bool.{false≢true}
use Rattle.pcep_session.specs.Quiet.{is_quiet}
use Rattle.network_links.specs.Quiet.{side_ticked}
use Rattle.network_links.specs.Sides.{Side}
use Rattle.network_links.proofs.RowLemmas.{sets_there, read_side, no_adjacency_there}
use Rattle.network_links.proofs.links.Links.tick_quietly.Goals as goal

pub unreachable-requires : goal.unreachable-requires
unreachable-requires c = false≢true (no_adjacency_there c.args.at c.args.to c.deref.result.now c.self.inside.links.items c.args.self.now c.deref.ensures.value c.self.view_is c.in-None.ensures ∙ c.requires)

pub returns-clause-quiet : goal.returns-clause-quiet
returns-clause-quiet c =
    c.tick_quietly.ensures.quiet
    ∙ sym (ap (λ (s : Side). is_quiet c.args.now s.kept.session) (read_side c.args.at c.args.to c.in-Some.place.link c.in-Some.place.end c.deref.result.now c.self.inside.links.items c.args.self.now c.deref.ensures.value c.self.view_is c.in-Some.ensures c.index_mut.result.now c.index_mut.ensures.value))

pub returns-clause-next : goal.returns-clause-next
returns-clause-next c =
    sets_there c.args.at c.args.to c.in-Some.place.link c.in-Some.place.end c.deref.result.now c.self.inside.links.items c.args.self.now c.deref.ensures.value c.self.view_is
    (side_ticked c.args.now) c.in-Some.ensures c.index_mut.result.now c.tick_quietly.new.self c.index_mut.ensures.value c.tick_quietly.ensures.next
