use Rattle.std.proofs.Common.{◌∙◌, ap}
use Rattle.network_links.specs.Carried.{flow_of}
use Rattle.pce_common.specs.Membership.{Standing}
use Rattle.network_events.proofs.TellLaws.{fall_goes, fall_tells}
use Rattle.network_events.proofs.deeds.fall.Goals as goal

pub returns-clause-seen : goal.returns-clause-seen
returns-clause-seen g c = ap (λ (x : Standing _ _). x.seen) c.tell_lost.ensures.same ∙ ap (λ (x : Standing _ _). x.seen) c.down.ensures

pub returns-clause-goes : goal.returns-clause-goes
returns-clause-goes g c =
    let m = g.M.Members in
    let s = m.stands c.args.members.now in
    let d = m.stands c.down.new.self in
    let t = m.stands c.tell_lost.new.members in
    fall_goes m.show s.network t.network s.seen t.seen s.lost d.lost t.lost c.args.at c.args.peer (flow_of c.args.traffic.now) (flow_of c.tell_lost.new.traffic)
    (ap (λ (x : Standing _ _). x.network) c.tell_lost.ensures.same ∙ ap (λ (x : Standing _ _). x.network) c.down.ensures)
    (ap (λ (x : Standing _ _). x.seen) c.tell_lost.ensures.same ∙ ap (λ (x : Standing _ _). x.seen) c.down.ensures)
    (ap (λ (x : Standing _ _). x.lost) c.down.ensures) c.tell_lost.ensures.lost c.tell_lost.ensures.tells

pub returns-clause-tells : goal.returns-clause-tells
returns-clause-tells g c =
    let m = g.M.Members in
    let s = m.stands c.args.members.now in
    fall_tells c.args.at c.args.peer s.seen s.lost (m.stands c.down.new.self).lost (flow_of c.args.traffic.now) (flow_of c.tell_lost.new.traffic) (ap (λ (x : Standing _ _). x.lost) c.down.ensures) c.tell_lost.ensures.tells
