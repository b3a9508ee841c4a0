use Rattle.std.proofs.Common.{◌∙◌, true, ap, sym}
use Rattle.plant_text.specs.Settings.{has_adjacency}
use Rattle.pce_common.specs.plant_model.declared.outcome.Refused.TheVariants.{NoSuchPeer}
use Rattle.pce_common.specs.plant_model.Events as events
use Rattle.pce_common.specs.plant_model.RealWire.{wire}
use Rattle.network_links.specs.Carried.{flow_of}
use Rattle.network_events.specs.Standing.{here}
use Rattle.network_events.proofs.EventLaws.{carry_none}
use Rattle.network_events.proofs.RoomyNeeds.{linked_in}
use Rattle.network_events.proofs.StepLemmas.{unmoved}
use Rattle.network_events.proofs.receiving.carry.Goals as goal

pub returns-then-not-is_linked : goal.returns-then-not-is_linked
returns-then-not-is_linked g c =
    let m = g.M.Members in
    let s = m.stands c.args.members.now in
    let miss = ap (has_adjacency c.args.from c.args.to) (sym c.requires.sound.kept.of.adjacencies_are) ∙ sym c.is_linked.ensures ∙ c.if-not-is_linked.true in
    unmoved m.show (λ n st. events.carry m.Pin m.Key wire n m.show c.args.from c.args.to st) (here s (flow_of c.args.traffic.now)) (λ st. true) NoSuchPeer c.requires.sound.kept (λ e. cc)
    (carry_none m.show s.network c.args.from c.args.to s.seen (flow_of c.args.traffic.now) miss)

pub receive-requires-clause-placed : goal.receive-requires-clause-placed
receive-requires-clause-placed g c =
    let linked = linked_in (g.M.Members.stands c.args.members.now).network (flow_of c.args.traffic.now) c.args.from c.args.to c.requires.sound.kept.of (sym c.is_linked.ensures ∙ c.if-not-is_linked.false) in
    (linked, c.requires.sound.apart c.args.from c.args.to linked)

pub returns : goal.returns
returns g c = c.receive.ensures
