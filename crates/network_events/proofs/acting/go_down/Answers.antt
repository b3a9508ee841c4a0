use Rattle.std.proofs.Common.{[], subst, sym}
use Rattle.pce_common.specs.plant_model.Types.{Peer, Outside}
use Rattle.pce_common.specs.plant_model.RealWire.{wire}
use Rattle.pce_common.specs.plant_model.Deeds as deeds
use Rattle.pce_common.specs.plant_model.Deeds.{with_inbox}
use Rattle.network_links.specs.Flow.{Flow}
use Rattle.network_links.specs.Carried.{flow_of}
use Rattle.pce_common.specs.Membership.{lost_at}
use Rattle.network_events.specs.Peers.{down_at}
use Rattle.network_events.specs.Standing.{Goes, here, here_of}
use Rattle.network_events.specs.Telling.{RoomToTell}
use Rattle.network_events.proofs.ActLaws.{outside_falls, room_access}
use Rattle.network_events.proofs.GoLaws.{goes_same}
use Rattle.network_events.proofs.acting.go_down.Goals as goal

pub fall-requires-clause-room : goal.fall-requires-clause-room
fall-requires-clause-room g c =
    let f = flow_of c.args.traffic.now in
    let ms = (g.M.Members.stands c.args.members.now).seen in
    let ls = lost_at c.args.at (Outside c.in-Outside.peer) ms in
    subst (λ (y : Flow). RoomToTell c.args.at ls y) (sym c.empty_inbox.ensures)
    (room_access c.args.at ls c.in-Outside.peer (with_inbox []) f (subst (λ (p : Peer). RoomToTell c.args.at (lost_at c.args.at p ms) f) c.in-Outside.is c.requires.room))

pub returns-in-Outside : goal.returns-in-Outside
returns-in-Outside g c =
    let n = (g.M.Members.stands c.args.members.now).network in
    let ms = (g.M.Members.stands c.args.members.now).seen in
    let lost = (g.M.Members.stands c.args.members.now).lost in
    let before = here_of n ms lost (flow_of c.args.traffic.now) in
    let after = here (g.M.Members.stands c.fall.new.members) (flow_of c.fall.new.traffic) in
    subst (λ (p : Peer). Goes (λ k. down_at g.M.Members.Pin g.M.Members.Key k g.M.Members.show c.args.at p) before after) (sym c.in-Outside.is)
    (outside_falls g.M.Members.show n ms lost c.in-Outside.peer c.args.at (flow_of c.args.traffic.now) after
    (subst (λ (f : Flow). Goes (λ k. deeds.fall g.M.Members.Pin g.M.Members.Key wire k g.M.Members.show c.args.at (Outside c.in-Outside.peer)) (here_of n ms lost f) after) c.empty_inbox.ensures c.fall.ensures.goes))

pub returns-in-Inner : goal.returns-in-Inner
returns-in-Inner g c =
    let now = here (g.M.Members.stands c.args.members.now) (flow_of c.args.traffic.now) in
    subst (λ (p : Peer). Goes (λ k. down_at g.M.Members.Pin g.M.Members.Key k g.M.Members.show c.args.at p) now now) (sym c.in-Inner.is) (goes_same now)
