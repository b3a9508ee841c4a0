use Rattle.std.proofs.Common.{◌∙◌, false, ap, sym}
use Rattle.plant_text.specs.Settings.{has_adjacency, adjacency, adjacencies}
use Rattle.pce_common.specs.plant_model.declared.outcome.Outcome.TheVariants.{Done}
use Rattle.pce_common.specs.plant_model.declared.outcome.Refused.TheVariants.{NoSuchPeer}
use Rattle.pce_common.specs.plant_model.Events as events
use Rattle.pce_common.specs.plant_model.RealWire.{wire}
use Rattle.network_links.specs.Carried.{flow_of}
use Rattle.network_links.specs.Flow.{Flow}
use Rattle.network_events.specs.Standing.{here}
use Rattle.network_events.proofs.EventLaws.{break_done, break_none}
use Rattle.network_events.proofs.LossEvents.{break_roomy, ends_linked, room_to_break}
use Rattle.network_events.proofs.RoomyNeeds.{adjacency_back, linked_in}
use Rattle.network_events.proofs.StepLemmas.{done_moves, unmoved}
use Rattle.network_events.proofs.events.break_link.Goals as goal

pub returns-then-not-is_linked : goal.returns-then-not-is_linked
returns-then-not-is_linked g c =
    let m = g.M.Members in
    let s = m.stands c.args.members.now in
    let miss = ap (has_adjacency c.args.a c.args.b) (sym c.requires.sound.kept.of.adjacencies_are) ∙ sym c.is_linked.ensures ∙ c.if-not-is_linked.true in
    unmoved m.show (λ n st. events.break m.Pin m.Key wire n m.show c.args.a c.args.b st) (here s (flow_of c.args.traffic.now)) (λ st. false) NoSuchPeer c.requires.sound.kept (λ e. cc)
    (break_none m.show s.network c.args.a c.args.b s.seen (flow_of c.args.traffic.now) miss)

pub break_between-requires-clause-here : goal.break_between-requires-clause-here
break_between-requires-clause-here g c =
    let n = (g.M.Members.stands c.args.members.now).network in
    let hit = linked_in n (flow_of c.args.traffic.now) c.args.a c.args.b c.requires.sound.kept.of (sym c.is_linked.ensures ∙ c.if-not-is_linked.false) in
    c.requires.sound.joined.links c.args.a c.args.b hit

pub break_between-requires-clause-there : goal.break_between-requires-clause-there
break_between-requires-clause-there g c =
    let n = (g.M.Members.stands c.args.members.now).network in
    let hit = linked_in n (flow_of c.args.traffic.now) c.args.a c.args.b c.requires.sound.kept.of (sym c.is_linked.ensures ∙ c.if-not-is_linked.false) in
    c.requires.sound.joined.links c.args.b c.args.a (adjacency_back c.args.a c.args.b (adjacencies n) hit)

pub break_between-requires-clause-apart : goal.break_between-requires-clause-apart
break_between-requires-clause-apart g c =
    let n = (g.M.Members.stands c.args.members.now).network in
    let hit = linked_in n (flow_of c.args.traffic.now) c.args.a c.args.b c.requires.sound.kept.of (sym c.is_linked.ensures ∙ c.if-not-is_linked.false) in
    c.requires.sound.apart c.args.a c.args.b hit

pub break_between-requires-clause-none : goal.break_between-requires-clause-none
break_between-requires-clause-none g c = c.requires.sound.kept.none

pub break_between-requires-clause-room : goal.break_between-requires-clause-room
break_between-requires-clause-room g c =
    let s = g.M.Members.stands c.args.members.now in
    let sound = c.requires.sound in
    let hit = linked_in s.network (flow_of c.args.traffic.now) c.args.a c.args.b sound.kept.of (sym c.is_linked.ensures ∙ c.if-not-is_linked.false) in
    let x = adjacency c.args.a c.args.b in
    room_to_break s.network x.lower x.upper s.seen (flow_of c.args.traffic.now) (flow_of c.clear_said.new.self) sound.joined sound.apart (ends_linked c.args.a c.args.b (adjacencies s.network) hit) c.clear_said.ensures sound.kept.roomy

pub returns : goal.returns
returns g c =
    let m = g.M.Members in
    let s = m.stands c.args.members.now in
    let t = m.stands c.break_between.new.members in
    let start = flow_of c.args.traffic.now in
    let cleared = flow_of c.clear_said.new.self in
    let end = flow_of c.break_between.new.traffic in
    let sound = c.requires.sound in
    let hit = linked_in s.network start c.args.a c.args.b sound.kept.of (sym c.is_linked.ensures ∙ c.if-not-is_linked.false) in
    let x = adjacency c.args.a c.args.b in
    done_moves m.show (λ n st. events.break m.Pin m.Key wire n m.show c.args.a c.args.b st) (here s start) (here t end) c.break_between.ensures.network
    (record {
      adjacencies_are = c.break_between.ensures.adjacencies ∙ ap (λ (f : Flow). f.adjacencies) c.clear_said.ensures.kept ∙ sound.kept.of.adjacencies_are;
      peers_are = c.break_between.ensures.peers ∙ ap (λ (f : Flow). f.peers) c.clear_said.ensures.kept ∙ sound.kept.of.peers_are;
    })
    (c.break_between.ensures.lost sound.kept.none)
    (break_roomy s.network m.show x.lower x.upper t.network s.seen t.seen s.lost t.lost start cleared end sound.joined sound.apart (ends_linked c.args.a c.args.b (adjacencies s.network) hit) c.clear_said.ensures sound.kept.roomy c.break_between.ensures)
    (λ st. false) Done
    (break_done m.show s.network c.args.a c.args.b t.network s.seen t.seen s.lost t.lost start cleared end hit c.clear_said.ensures c.break_between.ensures)
