use Rattle.std.proofs.Common.{Option, List, sym, subst}
use Rattle.pce_common.specs.plant_model.Types.{Action, State as Session}
use Rattle.network_links.specs.Carried.{flow_of}
use Rattle.network_events.specs.Acting.{FitsInput, FitsTurn}
use Rattle.network_events.proofs.InputLaws.{may_set}
use Rattle.network_events.proofs.acting.give_input.Goals as goal

pub step-requires-clause-sets : goal.step-requires-clause-sets
step-requires-clause-sets g c =
    may_set (g.M.Members.stands c.args.members.now).network (flow_of c.args.traffic.now) c.args.at c.args.to c.args.input c.in-Some.session c.step-actions.new.self c.requires.there.end (sym c.in-Some.ensures) c.step-actions.ensures.next

pub step-requires-clause-fits : goal.step-requires-clause-fits
step-requires-clause-fits g c =
    let ms = (g.M.Members.stands c.args.members.now).seen in
    let f = flow_of c.args.traffic.now in
    subst (λ (as' : List Action). FitsTurn c.args.at c.args.to as' ms f) (sym c.step-actions.ensures.actions)
    (subst (λ (o : Option Session). FitsInput c.args.at c.args.to c.args.input o ms f) (sym c.in-Some.ensures) c.requires.fits)

pub returns : goal.returns
returns g c = c.step.ensures c.in-Some.session c.args.input (sym c.in-Some.ensures) c.step-actions.ensures.actions c.step-actions.ensures.next c.requires.ticks
