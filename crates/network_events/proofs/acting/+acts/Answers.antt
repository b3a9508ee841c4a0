use Rattle.std.proofs.Common.{List, sym, subst}
use Rattle.pce_common.specs.plant_model.Types.{Action}
use Rattle.pcep_session.specs.Listed.{listed}
use Rattle.network_links.specs.Carried.{flow_of}
use Rattle.network_events.specs.Acting.{Fits}
use Rattle.network_events.specs.Peers.{act_at, acts_at}
use Rattle.network_events.specs.Standing.{Goes, here}
use Rattle.network_events.proofs.GoLaws.{goes_then}
use Rattle.network_events.proofs.ActLaws.{room_for}
use Rattle.network_events.proofs.acting.+acts.Goals as goal

pub act-requires-clause-room : goal.act-requires-clause-room
act-requires-clause-room g t c =
    let ms = (g.M.Members.stands c.args.members.now).seen in
    let f = flow_of c.args.traffic.now in
    room_for c.args.at c.args.to c.in-Some.action (listed c.in-Some.rest) ms f (subst (λ (as' : List Action). Fits c.args.at c.args.to as' ms f) c.in-Some.ensures c.requires.fits)

pub returns : goal.returns
returns g t c =
    let m = g.M.Members in
    let before = here (m.stands c.args.members.now) (flow_of c.args.traffic.now) in
    let between = here (m.stands c.act.new.members) (flow_of c.act.new.traffic) in
    let after = here (m.stands c.acts.new.members) (flow_of c.acts.new.traffic) in
    subst (λ (as' : List Action). Goes (λ k. acts_at m.Pin m.Key k m.show c.args.at c.args.to c.args.ticks as') before after) (sym c.in-Some.ensures)
    (goes_then (λ k. act_at m.Pin m.Key k m.show c.args.at c.args.to c.args.ticks c.in-Some.action) (λ k. acts_at m.Pin m.Key k m.show c.args.at c.args.to c.args.ticks (listed c.in-Some.rest))
    before between after c.act.ensures.goes c.acts.ensures)
