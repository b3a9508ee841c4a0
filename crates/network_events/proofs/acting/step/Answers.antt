use Rattle.std.proofs.Common.{sym, ◌∙◌, subst}
use Rattle.pcep_session.specs.Listed.{listed}
use Rattle.network_links.specs.Flow.{Flow}
use Rattle.network_links.specs.Carried.{flow_of}
use Rattle.network_events.specs.Acting.{Fits}
use Rattle.network_events.specs.Standing.{here}
use Rattle.network_events.proofs.InputLaws.{fits_session, input_breaks, input_stays}
use Rattle.network_events.proofs.acting.step.Goals as goal

pub break_end-requires-clause-room : goal.break_end-requires-clause-room
break_end-requires-clause-room g c = c.requires.fits.breaks (sym c.breaks.ensures ∙ c.if-breaks.true)

pub acts-requires-clause-member : goal.acts-requires-clause-member
acts-requires-clause-member g c = c.requires.there.member

pub acts-requires-clause-none : goal.acts-requires-clause-none
acts-requires-clause-none g c = c.requires.there.none

pub acts-requires-clause-fits : goal.acts-requires-clause-fits
acts-requires-clause-fits g c =
    subst (λ (f : Flow). Fits c.args.at c.args.to (listed c.args.actions) (g.M.Members.stands c.args.members.now).seen f) (sym c.set_session.ensures)
    (fits_session c.args.at c.args.to (listed c.args.actions) c.args.session (g.M.Members.stands c.args.members.now).seen (flow_of c.args.traffic.now) (c.requires.fits.stays (sym c.breaks.ensures ∙ c.if-breaks.false)))

pub returns-then-breaks : goal.returns-then-breaks
returns-then-breaks g c =
    λ s input there asks becomes ticks.
    input_breaks g.M.Members.show (g.M.Members.stands c.args.members.now).network (g.M.Members.stands c.args.members.now).seen (g.M.Members.stands c.args.members.now).lost input (flow_of c.args.traffic.now) c.args.at c.args.to s (listed c.args.actions)
    (here (g.M.Members.stands c.break_end.new.members) (flow_of c.break_end.new.traffic))
    there asks (sym c.breaks.ensures ∙ c.if-breaks.true) c.break_end.ensures

pub returns : goal.returns
returns g c =
    λ s input there asks becomes ticks.
    input_stays g.M.Members.show (g.M.Members.stands c.args.members.now).network (g.M.Members.stands c.args.members.now).seen (g.M.Members.stands c.args.members.now).lost input (flow_of c.args.traffic.now) c.args.at c.args.to s c.args.session c.args.ticks (listed c.args.actions)
    (flow_of c.set_session.new.self) (here (g.M.Members.stands c.acts.new.members) (flow_of c.acts.new.traffic))
    c.requires.there.end there asks becomes ticks (sym c.breaks.ensures ∙ c.if-breaks.false) c.set_session.ensures c.acts.ensures
