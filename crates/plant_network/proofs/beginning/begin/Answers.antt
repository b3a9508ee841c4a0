use Rattle.plant_text.specs.Settings.{elements_of}
use Rattle.network_events.specs.network_links.Carried.{flow_of}
use Rattle.network_events.specs.Standing.{here}
use Rattle.plant_network.proofs.BeginLemmas.{begins_if, owes_nothing, pends_nothing}
use Rattle.plant_network.proofs.beginning.begin.Goals as goal

pub begin_links-requires-clause-nothing : goal.begin_links-requires-clause-nothing
begin_links-requires-clause-nothing g c = owes_nothing (g.M.Members.stands c.args.members.now).network g.M.Members.show (g.M.Members.stands c.args.members.now).seen c.requires.new

pub begin_links-requires-clause-empty : goal.begin_links-requires-clause-empty
begin_links-requires-clause-empty g c =
    pends_nothing (g.M.Members.stands c.args.members.now).network g.M.Members.show (g.M.Members.stands c.args.members.now).seen c.requires.new (elements_of (g.M.Members.stands c.args.members.now).network.elements)

pub returns : goal.returns
returns g c =
    let m = g.M.Members in
    begins_if m.show (here (m.stands c.args.members.now) (flow_of c.begin_links.new.traffic)) (flow_of c.args.traffic.now) c.begin_links.result
    c.requires.rules c.requires.bare c.requires.new c.requires.none c.begin_links.ensures.of c.begin_links.ensures.room c.begin_links.ensures.said c.begin_links.ensures.state
