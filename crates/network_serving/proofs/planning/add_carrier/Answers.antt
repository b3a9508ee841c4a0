use Rattle.std.proofs.Common.{◌∷◌, [], List, refl, subst}
use Rattle.dom_base.specs.declared.names.As.{As}
use Rattle.turn_desk.specs.Desks.{stand_of}
use Rattle.network_serving.specs.Starting.{Adds}
use Rattle.network_serving.specs.declared.duties.Duty.TheVariants.{Carry}
use Rattle.network_serving.proofs.Plans.{beside, ok_so, one_added}
use Rattle.network_serving.proofs.planning.add_carrier.Goals as goal

pub returns-clause-ok : goal.returns-clause-ok
returns-clause-ok g c =
    let s = stand_of c.args.desk.now in
    let old = c.args.tasks.now.items in
    let new = c.push_task.new.tasks.items in
    ok_so c.push_task.result
    (λ is. subst (λ (ways : List (As × As)). Adds g.K.Listener.opened_at g.K.Listener.heeds g.K.Listener.dialled_to s old new (Carry ways ∷ [])) c.in_ok-links.ensures
    (one_added g.K.Listener.opened_at g.K.Listener.heeds g.K.Listener.dialled_to s old _ new (tt, beside (stand_of c.in_ok-desk.desk) s s c.in_ok-desk.ensures.ok refl c.requires.fresh) is))
    c.push_task.ensures.ok
