use Rattle.std.proofs.Common.{Ok, inl, subst, sym}
use Rattle.std.specs.Prelude.{Result}
use Rattle.plant_network.specs.declared.acts.Act.TheVariants.{Do}
use Rattle.plant_network.specs.plant_model.declared.event.Event.TheVariants.{Take}
use Rattle.server_loops.specs.Desks as desk
use Rattle.turn_desk.specs.Desks.{IsOneTurn, IsTaken, IsTurnTelling, desked_of, stand_of}
use Rattle.plant_network.specs.network_links.declared.rest.Rest.{Rest}
use Rattle.server_loops.specs.declared.desks.DeskRefused.{DeskRefused}
use Rattle.turn_desk.proofs.Turning.{as_turn, did_turn, take_goes, take_turned, telling_still}
use Rattle.turn_desk.proofs.calls.TurnDeskDesk.take.Goals as goal

pub turn_telling-requires : goal.turn_telling-requires
turn_telling-requires g c = inl (λ s. tt)

pub did_in-requires : goal.did_in-requires
did_in-requires g c =
    let old = stand_of c.args.self.now in
    let new = stand_of c.turn_telling.new.self in
    let t : IsTurnTelling (Do (Take c.args.peer)) (Ok (c.in-Ok.acted, c.in-Ok.rest)) old new = rw c.in-Ok.is at c.turn_telling.ensures in
    did_turn old new c.in-Ok.acted (Take c.args.peer) (as_turn old new c.args.peer c.in-Ok.acted c.in-Ok.rest t)

pub returns-in-Ok-clause-takes : goal.returns-in-Ok-clause-takes
returns-in-Ok-clause-takes g c =
    let old = stand_of c.args.self.now in
    let new = stand_of c.turn_telling.new.self in
    let t : IsTurnTelling (Do (Take c.args.peer)) (Ok (c.in-Ok.acted, c.in-Ok.rest)) old new = rw c.in-Ok.is at c.turn_telling.ensures in
    subst (λ (r : Result Rest DeskRefused). desk.Takes (desked_of old) (desked_of new) c.args.peer r) (sym c.taken.ensures) (take_goes old new c.args.peer c.in-Ok.acted c.in-Ok.rest t c.did_in.result c.did_in.ensures)

pub returns-in-Ok-clause-turn : goal.returns-in-Ok-clause-turn
returns-in-Ok-clause-turn g c =
    let old = stand_of c.args.self.now in
    let new = stand_of c.turn_telling.new.self in
    let t : IsTurnTelling (Do (Take c.args.peer)) (Ok (c.in-Ok.acted, c.in-Ok.rest)) old new = rw c.in-Ok.is at c.turn_telling.ensures in
    subst (λ (r : Result Rest DeskRefused). IsOneTurn (Do (Take c.args.peer)) (IsTaken r) old new) (sym c.taken.ensures) (take_turned old new c.args.peer c.in-Ok.acted c.in-Ok.rest t c.did_in.result c.did_in.ensures)

pub returns-in-Ok-clause-stays : goal.returns-in-Ok-clause-stays
returns-in-Ok-clause-stays g c = telling_still (stand_of c.args.self.now) (stand_of c.turn_telling.new.self) (Do (Take c.args.peer)) c.turn_telling.result c.turn_telling.ensures

pub returns-in-Err-clause-stays : goal.returns-in-Err-clause-stays
returns-in-Err-clause-stays g c = telling_still (stand_of c.args.self.now) (stand_of c.turn_telling.new.self) (Do (Take c.args.peer)) c.turn_telling.result c.turn_telling.ensures
