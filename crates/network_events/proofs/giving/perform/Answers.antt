use Rattle.std.proofs.Common.{ap}
use Rattle.network_links.specs.Carried.{flow_of}
use Rattle.pce_common.specs.Membership.{Standing}
use Rattle.network_events.proofs.GiveLaws.{goes_give}
use Rattle.network_events.proofs.giving.perform.Goals as goal

pub returns-clause-goes : goal.returns-clause-goes
returns-clause-goes g c = λ at peer message is.
    let m = g.M.Members in
    let s = m.stands c.args.members.now in
    let t = m.stands c.make.new.self in
    goes_give m.show s.network t.network s.seen (m.next c.args.members.now c.args.prepared.plan) t.seen s.lost t.lost at peer message c.args.prepared.letters.kept (flow_of c.args.traffic.now) (flow_of c.put_all.new.traffic)
    (ap (λ (x : Standing _ _). x.network) c.make.ensures) (ap (λ (x : Standing _ _). x.lost) c.make.ensures) (ap (λ (x : Standing _ _). x.seen) c.make.ensures) is c.put_all.ensures
