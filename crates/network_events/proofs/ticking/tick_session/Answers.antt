use Rattle.std.proofs.Common.{◌∙◌, sym, subst}
use Rattle.pcep_session.specs.declared.session.Input.TheVariants as inputs
use Rattle.network_links.specs.Carried.{flow_of}
use Rattle.network_links.specs.Flow.{Flow, session_at}
use Rattle.network_events.specs.Acting.{FitsInput}
use Rattle.network_events.specs.Peers.{IsAtEnd, input_at}
use Rattle.network_events.specs.Standing.{Goes, here}
use Rattle.network_events.proofs.QuietLaws.{loud_at, quiet_at, reached}
use Rattle.network_events.proofs.ticking.tick_session.Goals as goal

pub tick_quietly-requires : goal.tick_quietly-requires
tick_quietly-requires g c = reached (g.M.Members.stands c.args.members.now).network (flow_of c.args.traffic.now) c.args.at c.args.to c.requires.there.end

pub returns-then-tick_quietly : goal.returns-then-tick_quietly
returns-then-tick_quietly g c =
    quiet_at c.args.now g.M.Members.show (g.M.Members.stands c.args.members.now).network (g.M.Members.stands c.args.members.now).seen (g.M.Members.stands c.args.members.now).lost c.args.at c.args.to
    (flow_of c.args.traffic.now) (flow_of c.tick_quietly.new.self) c.requires.there.end (sym c.tick_quietly.ensures.quiet ∙ c.if-tick_quietly.true) c.tick_quietly.ensures.next

pub give_input-requires-clause-there : goal.give_input-requires-clause-there
give_input-requires-clause-there g c =
    let same = loud_at c.args.now c.args.at c.args.to (flow_of c.args.traffic.now) (flow_of c.tick_quietly.new.self) (sym c.tick_quietly.ensures.quiet ∙ c.if-tick_quietly.false) c.tick_quietly.ensures.next in
    subst (λ (f : Flow). IsAtEnd c.args.at c.args.to (here (g.M.Members.stands c.args.members.now) f)) (sym same) c.requires.there

pub give_input-requires-clause-fits : goal.give_input-requires-clause-fits
give_input-requires-clause-fits g c =
    let same = loud_at c.args.now c.args.at c.args.to (flow_of c.args.traffic.now) (flow_of c.tick_quietly.new.self) (sym c.tick_quietly.ensures.quiet ∙ c.if-tick_quietly.false) c.tick_quietly.ensures.next in
    subst (λ (f : Flow). FitsInput c.args.at c.args.to (inputs.Tick c.args.now) (session_at c.args.at c.args.to f) (g.M.Members.stands c.args.members.now).seen f) (sym same) c.requires.fits

pub returns : goal.returns
returns g c =
    let same = loud_at c.args.now c.args.at c.args.to (flow_of c.args.traffic.now) (flow_of c.tick_quietly.new.self) (sym c.tick_quietly.ensures.quiet ∙ c.if-tick_quietly.false) c.tick_quietly.ensures.next in
    let after = here (g.M.Members.stands c.give_input.new.members) (flow_of c.give_input.new.traffic) in
    subst
    (λ (f : Flow). Goes (λ n. input_at g.M.Members.Pin g.M.Members.Key n g.M.Members.show c.args.at c.args.to (inputs.Tick c.args.now)) (here (g.M.Members.stands c.args.members.now) f) after)
    same c.give_input.ensures
