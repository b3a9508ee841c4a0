use Rattle.std.proofs.Common.{ℕ, subst, sym}
use Rattle.std.specs.declared.result.Result.{Result}
use Rattle.dom_base.specs.declared.names.As.{As}
use Rattle.server_loops.specs.Steps.{IsCarriedOf, carried_at}
use Rattle.server_loops.proofs.Guided.{carried_there}
use Rattle.server_loops.proofs.carrying.carry_next.Goals as goal

pub returns-clause-carried : goal.returns-clause-carried
returns-clause-carried g c =
    let old = g.D.Desk.desked c.args.desk.now in
    let new = g.D.Desk.desked c.act-answer.new.self in
    let links = c.args.links.now in
    let place = c.place_below-place.result in
    let none : As × As = (record { 0 = 0 }, record { 0 = 0 }) in
    let carried : IsCarriedOf links (carried_at place c.act-answer.result) old new = carried_there links place none c.act-answer.result old new c.place_below-place.ensures c.act-answer.ensures.goes in
    subst (λ (r : Result ℕ ℕ). IsCarriedOf links r old new) (sym c.carried_at.ensures) carried
