use Rattle.std.proofs.Common.{Err, Ok, refl}
use Rattle.kept_plant.specs.declared.acts.KeptAct.TheVariants.{Turn}
use Rattle.turn_desk.specs.Seats.{IsEntry, seat_of}
use Rattle.turn_desk.proofs.Seating.{rested, turn_is_turned, turn_made}
use Rattle.turn_desk.proofs.desk.TurnDesk.turn_telling.Goals as goal

pub turned_in-turn-requires : goal.turned_in-turn-requires
turned_in-turn-requires g c =
    let old = seat_of c.args.self.now in
    let new = seat_of c.enter.new.self in
    let e : IsEntry (Turn c.args.act) (Ok c.in-Ok.answer) old new = rw c.in-Ok.is at c.enter.ensures in
    turn_is_turned old new c.args.act c.in-Ok.answer e

pub returns-in-Ok : goal.returns-in-Ok
returns-in-Ok g c =
    let old = seat_of c.args.self.now in
    let new = seat_of c.enter.new.self in
    let e : IsEntry (Turn c.args.act) (Ok c.in-Ok.answer) old new = rw c.in-Ok.is at c.enter.ensures in (
      c.turned_in-turn.result,
      refl,
      refl,
      turn_made old new c.args.act c.in-Ok.answer c.turned_in-turn.result c.turned_in-turn.ensures e,
    )

pub returns-in-Err : goal.returns-in-Err
returns-in-Err g c =
    let old = seat_of c.args.self.now in
    let new = seat_of c.enter.new.self in
    let e : IsEntry (Turn c.args.act) (Err c.in-Err.number) old new = rw c.in-Err.is at c.enter.ensures in
    rested old new c.in-Err.number e
