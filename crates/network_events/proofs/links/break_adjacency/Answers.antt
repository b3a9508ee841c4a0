use Rattle.std.proofs.Common.{◌≡◌, true, arith, subst, sym}
use Rattle.pce_common.specs.plant_model.Types.{NetworkParts}
use Rattle.pce_common.specs.Membership.{is_member}
use Rattle.network_links.specs.Carried.{flow_of}
use Rattle.network_events.proofs.BreakLaws.{break_room, break_can, begin_second, break_goes}
use Rattle.network_events.proofs.links.break_adjacency.Goals as goal

pub fall-requires-2-clause-member : goal.fall-requires-2-clause-member
fall-requires-2-clause-member g c = subst (λ (n : NetworkParts). is_member n c.args.upper ≡ true) (sym c.fall.ensures.goes.network) c.requires.upper

pub fall-requires-2-clause-room : goal.fall-requires-2-clause-room
fall-requires-2-clause-room g c = break_room g.M.Members.show c.args.lower c.args.upper (g.M.Members.stands c.args.members.now).seen (g.M.Members.stands c.fall.new.members).seen (flow_of c.args.traffic.now) (flow_of c.fall.new.traffic) c.requires.apart c.fall.ensures.seen c.requires.room c.fall.ensures.tells

pub begin_end-requires-clause-there : goal.begin_end-requires-clause-there
begin_end-requires-clause-there g c = (break_can g.M.Members.show c.args.lower c.args.upper (g.M.Members.stands c.args.members.now).seen (g.M.Members.stands c.fall.new.members).seen (flow_of c.args.traffic.now) (flow_of c.fall.new.traffic) (flow_of c.fall-2.new.traffic) (flow_of c.clear.new.self) c.fall.ensures.seen c.requires.room c.fall.ensures.tells c.fall-2.ensures.tells c.clear.ensures).lower

pub begin_end-requires-clause-said : goal.begin_end-requires-clause-said
begin_end-requires-clause-said g c =
    let can = break_can g.M.Members.show c.args.lower c.args.upper (g.M.Members.stands c.args.members.now).seen (g.M.Members.stands c.fall.new.members).seen (flow_of c.args.traffic.now) (flow_of c.fall.new.traffic) (flow_of c.fall-2.new.traffic) (flow_of c.clear.new.self) c.fall.ensures.seen c.requires.room c.fall.ensures.tells c.fall-2.ensures.tells c.clear.ensures in
    record { messages = omega (arith, can.said.messages); bytes = omega (arith, can.said.bytes) }

pub begin_end-requires-2-clause-there : goal.begin_end-requires-2-clause-there
begin_end-requires-2-clause-there g c =
    (begin_second c.args.lower c.args.upper c.next_sid-sid.result (flow_of c.clear.new.self) (flow_of c.begin_end.new.self) c.requires.apart (break_can g.M.Members.show c.args.lower c.args.upper (g.M.Members.stands c.args.members.now).seen (g.M.Members.stands c.fall.new.members).seen (flow_of c.args.traffic.now) (flow_of c.fall.new.traffic) (flow_of c.fall-2.new.traffic) (flow_of c.clear.new.self) c.fall.ensures.seen c.requires.room c.fall.ensures.tells c.fall-2.ensures.tells c.clear.ensures) c.begin_end.ensures).0

pub begin_end-requires-2-clause-said : goal.begin_end-requires-2-clause-said
begin_end-requires-2-clause-said g c =
    (begin_second c.args.lower c.args.upper c.next_sid-sid.result (flow_of c.clear.new.self) (flow_of c.begin_end.new.self) c.requires.apart (break_can g.M.Members.show c.args.lower c.args.upper (g.M.Members.stands c.args.members.now).seen (g.M.Members.stands c.fall.new.members).seen (flow_of c.args.traffic.now) (flow_of c.fall.new.traffic) (flow_of c.fall-2.new.traffic) (flow_of c.clear.new.self) c.fall.ensures.seen c.requires.room c.fall.ensures.tells c.fall-2.ensures.tells c.clear.ensures) c.begin_end.ensures).1

pub returns : goal.returns
returns g c =
    break_goes g.M.Members.show c.args.lower c.args.upper c.next_sid-sid.result
    (g.M.Members.stands c.args.members.now).network (g.M.Members.stands c.fall.new.members).network (g.M.Members.stands c.fall-2.new.members).network
    (g.M.Members.stands c.args.members.now).seen (g.M.Members.stands c.fall.new.members).seen (g.M.Members.stands c.fall-2.new.members).seen
    (g.M.Members.stands c.args.members.now).lost (g.M.Members.stands c.fall.new.members).lost (g.M.Members.stands c.fall-2.new.members).lost
    (flow_of c.args.traffic.now) (flow_of c.fall.new.traffic) (flow_of c.fall-2.new.traffic) (flow_of c.clear.new.self) (flow_of c.begin_end.new.self) (flow_of c.begin_end-2.new.self)
    c.next_sid-sid.ensures c.fall.ensures.goes c.fall-2.ensures.goes c.clear.ensures c.begin_end.ensures c.begin_end-2.ensures
