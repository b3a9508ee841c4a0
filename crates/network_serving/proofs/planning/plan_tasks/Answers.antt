use Rattle.std.proofs.Common.{◌≡◌, ◌∙◌, ◌∷◌, [], subst}
use Rattle.turn_desk.specs.Desks.{Stand, stand_of}
use Rattle.network_serving.specs.Duties.{ways_of, work_duties}
use Rattle.network_serving.specs.Starting.{Adds}
use Rattle.network_serving.specs.declared.duties.Duty.TheVariants.{Carry}
use Rattle.network_serving.proofs.Plans.{all_planned}
use Rattle.network_serving.proofs.planning.plan_tasks.Goals as goal

pub returns-clause-ok : goal.returns-clause-ok
returns-clause-ok g c =
    let s : Stand = stand_of c.args.desk.now in
    let parts = c.parts-parts.result.now in
    let ports = c.add_ports.new.tasks.items in
    let carrier = c.add_carrier.new.tasks.items in
    let workers = c.add_workers.new.tasks.items in
    let first : stand_of c.add_ports.new.desk ≡ s = c.in_ok-add_ports.ensures.stand in
    let second : stand_of c.add_carrier.new.desk ≡ s = c.in_ok-add_carrier.ensures.stand ∙ first in
    all_planned g.Q.Port.Listener.opened_at g.Q.Port.Listener.heeds g.Q.Port.Listener.dialled_to s c.args.network.now parts c.as_slice.result.now c.new-tasks.result.items ports carrier workers c.parts-parts.ensures.parts c.as_slice.ensures
    c.new-tasks.ensures.items c.in_ok-add_ports.ensures.ok
    (subst (λ (z : Stand). Adds g.Q.Port.Listener.opened_at g.Q.Port.Listener.heeds g.Q.Port.Listener.dialled_to z ports carrier (Carry (ways_of parts) ∷ [])) first c.in_ok-add_carrier.ensures.ok)
    (subst (λ (z : Stand). Adds g.Q.Port.Listener.opened_at g.Q.Port.Listener.heeds g.Q.Port.Listener.dialled_to z carrier workers (work_duties 0 parts.workers)) second c.in_ok-add_workers.ensures.ok)
