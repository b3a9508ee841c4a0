use Rattle.std.proofs.Common.{subst}
use Rattle.plant_record.specs.Hands.{Goes}
use Rattle.turn_desk.specs.Seats.{seat_of}
use Rattle.network_serving.specs.Records.{hands_at}
use Rattle.network_serving.proofs.RecordLaws.{hand_goes}
use Rattle.network_serving.proofs.recorder.TapeSeatTapeDesk.hand.Goals as goal

pub returns-in-Ok-clause-goes : goal.returns-in-Ok-clause-goes
returns-in-Ok-clause-goes g c =
    subst (Goes (hands_at (seat_of c.args.self.now.desk)) (hands_at (seat_of c.hand.new.self))) c.in-Ok.is
    (hand_goes (seat_of c.args.self.now.desk) (seat_of c.hand.new.self) c.args.room c.hand.result c.hand.ensures.hands)

pub returns-in-Err-clause-goes : goal.returns-in-Err-clause-goes
returns-in-Err-clause-goes g c =
    subst (Goes (hands_at (seat_of c.args.self.now.desk)) (hands_at (seat_of c.hand.new.self))) c.in-Err.is
    (hand_goes (seat_of c.args.self.now.desk) (seat_of c.hand.new.self) c.args.room c.hand.result c.hand.ensures.hands)
