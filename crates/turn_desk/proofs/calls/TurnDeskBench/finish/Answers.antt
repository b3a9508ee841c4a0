use Rattle.std.proofs.Common.{Ok, Some, ap, refl, subst, sym}
use Rattle.plant_network.specs.declared.acts.Act.TheVariants.{Finish}
use Rattle.plant_network.specs.declared.acts.Acted.{Acted}
use Rattle.plant_network.specs.declared.acts.Acted.TheVariants.{Committed}
use Rattle.server_loops.specs.Benches as bench
use Rattle.turn_desk.specs.Desks.{IsTurn, stand_of}
use Rattle.turn_desk.specs.Seats.{seat_of}
use Rattle.turn_desk.proofs.Turning.{bench_done, committed_turn, may_finish, turn_still}
use Rattle.turn_desk.proofs.calls.TurnDeskBench.finish.Goals as goal

pub turn-requires : goal.turn-requires
turn-requires g c = may_finish (seat_of c.args.self.now) c.args.self.now.seat.seat.me.0.places c.args.done refl c.requires

pub committed_in-requires : goal.committed_in-requires
committed_in-requires g c =
    let old = stand_of c.args.self.now in
    let new = stand_of c.turn.new.self in
    let t : IsTurn (Finish c.args.done) (Ok c.in-Ok.acted) old new = rw c.in-Ok.is at c.turn.ensures in
    committed_turn old new c.in-Ok.acted c.args.done t

pub returns-in-Ok-clause-goes : goal.returns-in-Ok-clause-goes
returns-in-Ok-clause-goes g c =
    let old = stand_of c.args.self.now in
    let new = stand_of c.turn.new.self in
    let t : IsTurn (Finish c.args.done) (Ok c.in-Ok.acted) old new = rw c.in-Ok.is at c.turn.ensures in
    let u : IsTurn (Finish c.args.done) (Ok (Committed c.committed_in.result)) old new = subst (λ (a : Acted). IsTurn (Finish c.args.done) (Ok a) old new) c.committed_in.ensures t in
    bench_done old new (Finish c.args.done) (Committed c.committed_in.result) (bench.Finish c.args.done c.told.result) u (ap (λ f. Some (bench.Finish c.args.done f)) (sym c.told.ensures))

pub returns-in-Ok-clause-stays : goal.returns-in-Ok-clause-stays
returns-in-Ok-clause-stays g c = turn_still (stand_of c.args.self.now) (stand_of c.turn.new.self) (Finish c.args.done) c.turn.result c.turn.ensures

pub returns-in-Err-clause-stays : goal.returns-in-Err-clause-stays
returns-in-Err-clause-stays g c = turn_still (stand_of c.args.self.now) (stand_of c.turn.new.self) (Finish c.args.done) c.turn.result c.turn.ensures
