use Rattle.std.proofs.Common.{refl}
use Rattle.turn_desk.specs.Seats.{seat_of}
use Rattle.network_serving.proofs.RecordLaws.{stop_left, stop_stays}
use Rattle.network_serving.proofs.recorder.TapeSeat.leave.Goals as goal
use Rattle.network_serving.proofs.recorder.TapeSeat.leave.Goals.{then-not-matches, else-not-matches, in-Ended, in_default}

pub returns-clause-stays : goal.returns-clause-stays
returns-clause-stays g c = elim c.if-not-matches.branch [
  | then-not-matches w ↦ rw w.self-is w.stop-stopped.ensures.stays
  | else-not-matches w ↦ rw w.self-is (λ first at. at)
]

pub returns-clause-same : goal.returns-clause-same
returns-clause-same g c = elim c.if-not-matches.branch [
  | then-not-matches w ↦ rw w.self-is (stop_stays (seat_of c.args.self.now.desk) (seat_of w.stop-stopped.new.self) w.stop-stopped.result w.stop-stopped.ensures.stops)
  | else-not-matches w ↦ rw w.self-is refl
]

pub returns-clause-left : goal.returns-clause-left
returns-clause-left g c = elim c.if-not-matches.branch [
  | then-not-matches w ↦ rw w.self-is (stop_left (seat_of c.args.self.now.desk) (seat_of w.stop-stopped.new.self) w.stop-stopped.result c.args.end w.stop-stopped.ensures.stops)
  | else-not-matches w ↦ elim c.match-matches.branch [
    | in-Ended v ↦ rw v.in-Ended.is tt
    | in_default v ↦ let yes = w.if-not-matches.false in let no = v.matches-is in let never : ⊥ = cc in absurd never
  ]
]
