use Rattle.std.proofs.Common.{Ok, inl, refl, subst}
use Rattle.kept_plant.specs.declared.acts.KeptAct.TheVariants.{Hand}
use Rattle.kept_plant.specs.declared.acts.KeptAnswer.{KeptAnswer}
use Rattle.turn_desk.specs.Seats.{Enters, IsEntry, seat_of}
use Rattle.turn_desk.proofs.Seating.{entry_own, entry_still, hand_is_handed}
use Rattle.turn_desk.proofs.desk.TurnDesk.hand.Goals as goal

pub enter-requires : goal.enter-requires
enter-requires g c = inl (λ s. tt)

pub handed_in-requires : goal.handed_in-requires
handed_in-requires g c =
    let old = seat_of c.args.self.now in
    let new = seat_of c.enter.new.self in
    let e : IsEntry (Hand c.args.empty) (Ok c.in-Ok.answer) old new = rw c.in-Ok.is at c.enter.ensures in
    hand_is_handed old new c.args.empty c.in-Ok.answer e

pub returns-in-Ok-clause-hands : goal.returns-in-Ok-clause-hands
returns-in-Ok-clause-hands g c =
    let old = seat_of c.args.self.now in
    let new = seat_of c.enter.new.self in
    let e : IsEntry (Hand c.args.empty) (Ok c.in-Ok.answer) old new = rw c.in-Ok.is at c.enter.ensures in
    subst (λ (r : KeptAnswer). Enters old new (Hand c.args.empty) r) c.handed_in.ensures e

pub returns-in-Ok-clause-stays : goal.returns-in-Ok-clause-stays
returns-in-Ok-clause-stays g c = entry_still (seat_of c.args.self.now) (seat_of c.enter.new.self) (Hand c.args.empty) c.enter.result c.enter.ensures

pub returns-in-Ok-clause-own : goal.returns-in-Ok-clause-own
returns-in-Ok-clause-own g c = entry_own (seat_of c.args.self.now) (seat_of c.enter.new.self) (Hand c.args.empty) c.enter.result (λ answer. refl) c.enter.ensures

pub returns-in-Err-clause-stays : goal.returns-in-Err-clause-stays
returns-in-Err-clause-stays g c = entry_still (seat_of c.args.self.now) (seat_of c.enter.new.self) (Hand c.args.empty) c.enter.result c.enter.ensures

pub returns-in-Err-clause-own : goal.returns-in-Err-clause-own
returns-in-Err-clause-own g c = entry_own (seat_of c.args.self.now) (seat_of c.enter.new.self) (Hand c.args.empty) c.enter.result (λ answer. refl) c.enter.ensures
