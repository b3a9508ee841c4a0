use Rattle.std.proofs.Common.{Ok, inl, refl}
use Rattle.kept_plant.specs.declared.acts.KeptAct.TheVariants.{Stop}
use Rattle.turn_desk.specs.Seats.{IsEntry, seat_of}
use Rattle.turn_desk.proofs.Seating.{entry_own, entry_still, stop_is_stopped}
use Rattle.turn_desk.proofs.desk.TurnDesk.stop.Goals as goal

pub enter-requires : goal.enter-requires
enter-requires g c = inl (λ s. tt)

pub returns-in-Ok-clause-stops : goal.returns-in-Ok-clause-stops
returns-in-Ok-clause-stops g c =
    let old = seat_of c.args.self.now in
    let new = seat_of c.enter.new.self in
    let e : IsEntry Stop (Ok c.in-Ok._answer) old new = rw c.in-Ok.is at c.enter.ensures in
    stop_is_stopped old new c.in-Ok._answer e

pub returns-in-Ok-clause-stays : goal.returns-in-Ok-clause-stays
returns-in-Ok-clause-stays g c = entry_still (seat_of c.args.self.now) (seat_of c.enter.new.self) Stop c.enter.result c.enter.ensures

pub returns-in-Ok-clause-own : goal.returns-in-Ok-clause-own
returns-in-Ok-clause-own g c = entry_own (seat_of c.args.self.now) (seat_of c.enter.new.self) Stop c.enter.result (λ answer. refl) c.enter.ensures

pub returns-in-Err-clause-stays : goal.returns-in-Err-clause-stays
returns-in-Err-clause-stays g c = entry_still (seat_of c.args.self.now) (seat_of c.enter.new.self) Stop c.enter.result c.enter.ensures

pub returns-in-Err-clause-own : goal.returns-in-Err-clause-own
returns-in-Err-clause-own g c = entry_own (seat_of c.args.self.now) (seat_of c.enter.new.self) Stop c.enter.result (λ answer. refl) c.enter.ensures
