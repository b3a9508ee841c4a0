use Rattle.std.proofs.Common.{◌≡◌, ◌∙◌, ap, sym}
use Rattle.std.specs.Arc.{arc_value}
use Rattle.plant_lock.specs.Seats.{own_entries, view_of}
use Rattle.turn_desk.proofs.Seating.{seat_enters}
use Rattle.turn_desk.proofs.desk.TurnDesk.enter.Goals as goal

pub returns-in-Ok : goal.returns-in-Ok
returns-in-Ok g c =
    let old = c.args.self.now.seat in
    let new = c.turn.new.seat in
    let same : c.deref.result.now.table.shared.table_id ≡ (arc_value c.args.self.now.lock).table.shared.table_id = ap (λ t. t.table.shared.table_id) c.deref.ensures in
    let here : new.seat.table_id ≡ old.seat.table_id = c.turn.ensures.here ∙ same ∙ sym c.args.self.now.here in
    seat_enters (view_of old) (view_of new) c.args.act c.in-Ok._place c.in-Ok.answer c.in-Ok.ensures.done old.seat.table_id new.seat.table_id (own_entries old) (own_entries new) c.args.self.now.spent_at here c.in_default.is c.in-Ok.ensures.own
