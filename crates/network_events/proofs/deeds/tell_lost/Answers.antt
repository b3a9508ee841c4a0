use Rattle.std.proofs.Common.{length, sym, ap, subst, ◌∙◌, ℕ, List}
use Rattle.plant_queues.specs.Messages.{Covers}
use Rattle.pce_common.specs.plant_model.declared.output.Lost.{Lost}
use Rattle.network_links.specs.Flow.{Puts, room_at}
use Rattle.network_links.specs.Carried.{flow_of}
use Rattle.pce_common.specs.Membership.{Standing}
use Rattle.network_events.specs.Standing.{here}
use Rattle.network_events.specs.Telling.{RoomToTell}
use Rattle.network_events.proofs.TellLaws.{room_first, tells_start, tells_more}
use Rattle.network_events.proofs.deeds.tell_lost.Goals as goal

pub loop-lost-init : goal.loop-lost-init
loop-lost-init g c =
    tells_start c.args.at (here (g.M.Members.stands c.args.members.now) (flow_of c.args.traffic.now)) c.requires.room

pub put-requires-clause-there : goal.put-requires-clause-there
put-requires-clause-there g c =
    let l = c.in-Some.lost in
    let f = flow_of c.loop-lost.traffic in
    let rest = (g.M.Members.stands c.next_lost.new.self).lost c.args.at in
    let room = subst (λ (ls : List Lost). RoomToTell c.args.at ls f) c.in-Some.ensures.lost.0 c.loop-lost.invariant.left in
    subst (λ (k : ℕ). Covers (room_at c.args.at l.to f) 1 k) (sym (ap length c.as_slice.ensures ∙ c.lost_text.ensures.length)) (room_first c.args.at l rest f room).0

pub loop-lost-preserved : goal.loop-lost-preserved
loop-lost-preserved g c =
    let start = here (g.M.Members.stands c.args.members.now) (flow_of c.args.traffic.now) in
    let now = here (g.M.Members.stands c.loop-lost.members) (flow_of c.loop-lost.traffic) in
    tells_more c.args.at start now c.in-Some.lost (g.M.Members.stands c.next_lost.new.self).network (g.M.Members.stands c.next_lost.new.self).seen (g.M.Members.stands c.next_lost.new.self).lost (flow_of c.put.new.self)
    c.loop-lost.invariant (ap (λ (x : Standing _ _). x.network) c.next_lost.ensures.same) (ap (λ (x : Standing _ _). x.seen) c.next_lost.ensures.same) c.in-Some.ensures.lost
    (sym (ap length c.lost_text.ensures.text) ∙ c.lost_text.ensures.length)
    (subst (λ (m : List ℕ). Puts c.args.at c.in-Some.lost.to m (flow_of c.loop-lost.traffic) (flow_of c.put.new.self)) (c.as_slice.ensures ∙ c.lost_text.ensures.text) c.put.ensures)
