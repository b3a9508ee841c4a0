use Rattle.std.proofs.Common.{Ok, inl, refl, subst}
use Rattle.plant_network.specs.declared.acts.Act.TheVariants.{Next}
use Rattle.plant_network.specs.declared.acts.Acted.{Acted}
use Rattle.turn_desk.specs.Desks.{IsTurn, stand_of}
use Rattle.turn_desk.proofs.Benching.{none_told, one_told}
use Rattle.turn_desk.proofs.Turning.{told_turn}
use Rattle.turn_desk.proofs.desk.TurnDesk.next_job.Goals as goal

pub turn-requires : goal.turn-requires
turn-requires g c = inl (λ s. tt)

pub told_in-requires : goal.told_in-requires
told_in-requires g c =
    let old = stand_of c.args.self.now in
    let new = stand_of c.turn.new.self in
    let t : IsTurn (Next c.args.at c.args.behind) (Ok c.in-Ok.acted) old new = rw c.in-Ok.is at c.turn.ensures in
    told_turn old new c.in-Ok.acted c.args.at c.args.behind t

pub returns-in-Ok : goal.returns-in-Ok
returns-in-Ok g c =
    let old = stand_of c.args.self.now in
    let new = stand_of c.turn.new.self in
    let t : IsTurn (Next c.args.at c.args.behind) (Ok c.in-Ok.acted) old new = rw c.in-Ok.is at c.turn.ensures in
    one_told c.args.at c.args.behind c.told_in.result old new (subst (λ (a : Acted). IsTurn (Next c.args.at c.args.behind) (Ok a) old new) c.told_in.ensures t)
