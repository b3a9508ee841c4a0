use Rattle.std.proofs.Common.{◌≡◌, true, false, subst, sym}
use Rattle.pce_common.specs.plant_model.Types.{As, Inner}
use Rattle.plant_text.specs.Names.{same_as}
use Rattle.plant_text.specs.Settings.{Adjacency}
use Rattle.pce_common.specs.plant_model.RealWire.{wire}
use Rattle.pce_common.specs.plant_model.Deeds as deeds
use Rattle.network_links.specs.Carried.{flow_of}
use Rattle.pce_common.specs.Membership.{fallen, is_member, lost_at}
use Rattle.network_events.specs.Breaking.{RoomToBreak}
use Rattle.network_events.specs.Standing.{Goes, here}
use Rattle.network_events.proofs.RoomyNeeds.{apart_back, adjacency_either, adjacency_is}
use Rattle.network_events.proofs.links.break_between.Goals as goal

pub break_adjacency-requires-clause-lower : goal.break_adjacency-requires-clause-lower
break_adjacency-requires-clause-lower g c =
    let n = (g.M.Members.stands c.args.members.now).network in
    subst (λ (d : As). is_member n d ≡ true) (sym c.adjacency_between.ensures.lower) (adjacency_either c.args.a c.args.b (λ x. is_member n x.lower ≡ true) c.requires.there c.requires.here)

pub break_adjacency-requires-clause-upper : goal.break_adjacency-requires-clause-upper
break_adjacency-requires-clause-upper g c =
    let n = (g.M.Members.stands c.args.members.now).network in
    subst (λ (d : As). is_member n d ≡ true) (sym c.adjacency_between.ensures.upper) (adjacency_either c.args.a c.args.b (λ x. is_member n x.upper ≡ true) c.requires.here c.requires.there)

pub break_adjacency-requires-clause-apart : goal.break_adjacency-requires-clause-apart
break_adjacency-requires-clause-apart g c =
    subst (λ (x : Adjacency). same_as x.lower x.upper ≡ false) (sym (adjacency_is c.args.a c.args.b c.adjacency_between.result.0 c.adjacency_between.result.1 c.adjacency_between.ensures.lower c.adjacency_between.ensures.upper))
    (adjacency_either c.args.a c.args.b (λ x. same_as x.lower x.upper ≡ false) (apart_back c.args.a c.args.b c.requires.apart) c.requires.apart)

pub break_adjacency-requires-clause-room : goal.break_adjacency-requires-clause-room
break_adjacency-requires-clause-room g c =
    let ms = (g.M.Members.stands c.args.members.now).seen in
    subst (λ (x : Adjacency). RoomToBreak x.lower x.upper (lost_at x.lower (Inner x.upper) ms) (lost_at x.upper (Inner x.lower) (fallen x.lower (Inner x.upper) ms)) (flow_of c.args.traffic.now))
    (sym (adjacency_is c.args.a c.args.b c.adjacency_between.result.0 c.adjacency_between.result.1 c.adjacency_between.ensures.lower c.adjacency_between.ensures.upper)) c.requires.room

pub returns : goal.returns
returns g c =
    subst (λ (x : Adjacency). Goes (λ k. deeds.break_adjacency g.M.Members.Pin g.M.Members.Key wire k g.M.Members.show x)
    (here (g.M.Members.stands c.args.members.now) (flow_of c.args.traffic.now))
    (here (g.M.Members.stands c.break_adjacency.new.members) (flow_of c.break_adjacency.new.traffic)))
    (adjacency_is c.args.a c.args.b c.adjacency_between.result.0 c.adjacency_between.result.1 c.adjacency_between.ensures.lower c.adjacency_between.ensures.upper) c.break_adjacency.ensures
