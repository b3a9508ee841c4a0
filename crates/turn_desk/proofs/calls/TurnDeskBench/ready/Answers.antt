use Rattle.std.proofs.Common.{Ok, inl, refl, subst}
use Rattle.plant_network.specs.declared.acts.Act.TheVariants.{Ready}
use Rattle.plant_network.specs.declared.acts.Acted.{Acted}
use Rattle.plant_network.specs.declared.acts.Acted.TheVariants.{Found}
use Rattle.server_loops.specs.Benches as bench
use Rattle.turn_desk.specs.Desks.{IsTurn, stand_of}
use Rattle.turn_desk.proofs.Turning.{bench_done, found_turn, turn_still}
use Rattle.turn_desk.proofs.calls.TurnDeskBench.ready.Goals as goal

pub turn-requires : goal.turn-requires
turn-requires g c = inl (λ s. tt)

pub found_in-requires : goal.found_in-requires
found_in-requires g c =
    let old = stand_of c.args.self.now in
    let new = stand_of c.turn.new.self in
    let t : IsTurn (Ready c.args.k) (Ok c.in-Ok.acted) old new = rw c.in-Ok.is at c.turn.ensures in
    found_turn old new c.in-Ok.acted c.args.k t

pub returns-in-Ok-clause-goes : goal.returns-in-Ok-clause-goes
returns-in-Ok-clause-goes g c =
    let old = stand_of c.args.self.now in
    let new = stand_of c.turn.new.self in
    let found = c.found_in.result in
    let t : IsTurn (Ready c.args.k) (Ok c.in-Ok.acted) old new = rw c.in-Ok.is at c.turn.ensures in
    let u : IsTurn (Ready c.args.k) (Ok (Found found)) old new = subst (λ (a : Acted). IsTurn (Ready c.args.k) (Ok a) old new) c.found_in.ensures t in
    bench_done old new (Ready c.args.k) (Found found) (bench.Ready c.args.k found) u refl

pub returns-in-Ok-clause-stays : goal.returns-in-Ok-clause-stays
returns-in-Ok-clause-stays g c = turn_still (stand_of c.args.self.now) (stand_of c.turn.new.self) (Ready c.args.k) c.turn.result c.turn.ensures

pub returns-in-Err-clause-stays : goal.returns-in-Err-clause-stays
returns-in-Err-clause-stays g c = turn_still (stand_of c.args.self.now) (stand_of c.turn.new.self) (Ready c.args.k) c.turn.result c.turn.ensures
