use Rattle.std.proofs.Common.{subst, sym}
use Rattle.pce_common.specs.plant_model.Types.{Peer}
use Rattle.network_links.specs.Carried.{flow_of}
use Rattle.network_events.specs.Acting.{RoomToBreakAt}
use Rattle.network_events.specs.Peers.{IsEnd, break_at}
use Rattle.network_events.specs.Standing.{Goes, here}
use Rattle.network_events.proofs.GoLaws.{goes_same}
use Rattle.network_events.proofs.acting.break_end.Goals as goal

pub break_between-requires-clause-here : goal.break_between-requires-clause-here
break_between-requires-clause-here g c = (subst (IsEnd (g.M.Members.stands c.args.members.now).network (flow_of c.args.traffic.now) c.args.at) c.in-Inner.is c.requires.there.end).other

pub break_between-requires-clause-there : goal.break_between-requires-clause-there
break_between-requires-clause-there g c = c.requires.there.member

pub break_between-requires-clause-none : goal.break_between-requires-clause-none
break_between-requires-clause-none g c = c.requires.there.none

pub break_between-requires-clause-apart : goal.break_between-requires-clause-apart
break_between-requires-clause-apart g c = (subst (IsEnd (g.M.Members.stands c.args.members.now).network (flow_of c.args.traffic.now) c.args.at) c.in-Inner.is c.requires.there.end).apart

pub break_between-requires-clause-room : goal.break_between-requires-clause-room
break_between-requires-clause-room g c =
    subst (λ (p : Peer). RoomToBreakAt c.args.at p (g.M.Members.stands c.args.members.now).seen (flow_of c.args.traffic.now)) c.in-Inner.is c.requires.room

pub returns-in-Outside : goal.returns-in-Outside
returns-in-Outside g c =
    let now = here (g.M.Members.stands c.args.members.now) (flow_of c.args.traffic.now) in
    subst (λ (p : Peer). Goes (λ k. break_at g.M.Members.Pin g.M.Members.Key k g.M.Members.show c.args.at p) now now) (sym c.in-Outside.is) (goes_same now)

pub returns-in-Inner : goal.returns-in-Inner
returns-in-Inner g c =
    let before = here (g.M.Members.stands c.args.members.now) (flow_of c.args.traffic.now) in
    let after = here (g.M.Members.stands c.break_between.new.members) (flow_of c.break_between.new.traffic) in
    subst (λ (p : Peer). Goes (λ k. break_at g.M.Members.Pin g.M.Members.Key k g.M.Members.show c.args.at p) before after) (sym c.in-Inner.is) c.break_between.ensures
