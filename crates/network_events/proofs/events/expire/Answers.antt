use Rattle.std.proofs.Common.{ap}
use Rattle.network_links.specs.Carried.{flow_of}
use Rattle.pce_common.specs.Membership.{Standing}
use Rattle.network_events.proofs.EventLaws.{goes_expire}
use Rattle.network_events.proofs.events.expire.Goals as goal

pub returns : goal.returns
returns g c =
    let m = g.M.Members in
    let s = m.stands c.args.members.now in
    let t = m.stands c.tick.new.self in
    goes_expire m.show s.network c.args.now.0 t.network s.seen t.seen s.lost t.lost (flow_of c.args.traffic.now)
    (ap (λ (x : Standing _ _). x.network) c.tick.ensures) (ap (λ (x : Standing _ _). x.seen) c.tick.ensures) (ap (λ (x : Standing _ _). x.lost) c.tick.ensures)
