use Rattle.std.proofs.Common.{refl}
use Rattle.turn_desk.specs.Seats.{seat_of}
use Rattle.turn_desk.proofs.Telling.{desk_tells}
use Rattle.turn_desk.proofs.desk.TurnDesk.hands_tell.Goals as goal

pub returns : goal.returns
returns g c = desk_tells (seat_of c.args.self.now) c.args.self.now.seat.seat.me.0.places refl
