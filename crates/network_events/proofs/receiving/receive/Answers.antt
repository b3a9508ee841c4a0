use Rattle.std.proofs.Common.{◌∙◌, true, sym}
use Rattle.pcep_session.specs.Listed.{listed}
use Rattle.network_links.specs.Carried.{flow_of}
use Rattle.pce_common.specs.plant_model.declared.outcome.Refused.TheVariants.{NoSuchPeer, NothingToCarry}
use Rattle.network_events.specs.Peers.{receive_at}
use Rattle.network_events.specs.Standing.{here}
use Rattle.network_events.proofs.ReceivingLaws.{placed_end, receive_none, receive_nothing, steps_at}
use Rattle.network_events.proofs.StepLemmas.{unmoved}
use Rattle.network_events.proofs.receiving.receive.Goals as goal

pub receive_step-requires-clause-there : goal.receive_step-requires-clause-there
receive_step-requires-clause-there g c =
    let sound = c.requires.sound in
    let ends = placed_end (g.M.Members.stands c.args.members.now).network c.args.traffic.now c.args.at c.args.to c.in-Some.session sound.joined sound.kept.of c.requires.placed (sym c.in-Some.ensures) in
    record { end = ends.0; member = ends.1; none = sound.kept.none }

pub receive_step-requires-clause-steps : goal.receive_step-requires-clause-steps
receive_step-requires-clause-steps g c =
    steps_at c.args.at c.args.to (flow_of c.args.traffic.now) c.in-Some.session c.step-actions.new.self c.in-Some-first.input (listed c.step-actions.result)
    c.in-Some.ensures (sym c.in-Some-first.is ∙ c.in-Ok.ensures) c.step-actions.ensures.actions c.step-actions.ensures.next

pub receive_step-requires-clause-kept : goal.receive_step-requires-clause-kept
receive_step-requires-clause-kept g c = c.requires.sound.kept

pub returns-in_default : goal.returns-in_default
returns-in_default g c =
    let m = g.M.Members in
    let s = m.stands c.args.members.now in
    let f = flow_of c.args.traffic.now in
    unmoved m.show (λ k st. receive_at m.Pin m.Key k m.show c.args.at c.args.to st) (here s f) (λ st. true) NoSuchPeer c.requires.sound.kept (λ e. cc)
    (receive_none m.show s.network c.args.at c.args.to s.seen f (sym c.in_default.ensures))

pub returns-in_default-first : goal.returns-in_default-first
returns-in_default-first g c =
    let m = g.M.Members in
    let s = m.stands c.args.members.now in
    let f = flow_of c.args.traffic.now in
    unmoved m.show (λ k st. receive_at m.Pin m.Key k m.show c.args.at c.args.to st) (here s f) (λ st. true) NothingToCarry c.requires.sound.kept (λ e. cc)
    (receive_nothing m.show s.network c.args.at c.args.to c.in-Some.session s.seen f c.requires.placed (sym c.in-Some.ensures) (sym c.in-Ok.ensures ∙ c.in_default-first.is))
