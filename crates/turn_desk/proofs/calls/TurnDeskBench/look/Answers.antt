use Rattle.std.proofs.Common.{Ok, inl, refl, subst}
use Rattle.plant_network.specs.declared.acts.Act.TheVariants.{Look}
use Rattle.plant_network.specs.declared.acts.Acted.{Acted}
use Rattle.plant_network.specs.declared.acts.Acted.TheVariants.{Looked}
use Rattle.server_loops.specs.Benches as bench
use Rattle.turn_desk.specs.Desks.{IsTurn, stand_of}
use Rattle.turn_desk.proofs.Turning.{bench_done, looked_turn, looks_given, turn_still}
use Rattle.turn_desk.proofs.calls.TurnDeskBench.look.Goals as goal

pub turn-requires : goal.turn-requires
turn-requires g c = inl (λ s. tt)

pub looked_in-requires : goal.looked_in-requires
looked_in-requires g c =
    let old = stand_of c.args.self.now in
    let new = stand_of c.turn.new.self in
    let t : IsTurn (Look c.args.at c.args.number) (Ok c.in-Ok.acted) old new = rw c.in-Ok.is at c.turn.ensures in
    looked_turn old new c.in-Ok.acted c.args.at c.args.number t

pub returns-in-Ok-clause-goes : goal.returns-in-Ok-clause-goes
returns-in-Ok-clause-goes g c =
    let old = stand_of c.args.self.now in
    let new = stand_of c.turn.new.self in
    let found = c.looked_in.result in
    let t : IsTurn (Look c.args.at c.args.number) (Ok c.in-Ok.acted) old new = rw c.in-Ok.is at c.turn.ensures in
    let u : IsTurn (Look c.args.at c.args.number) (Ok (Looked found)) old new = subst (λ (a : Acted). IsTurn (Look c.args.at c.args.number) (Ok a) old new) c.looked_in.ensures t in
    bench_done old new (Look c.args.at c.args.number) (Looked found) (bench.Look c.args.at c.args.number found) u refl

pub returns-in-Ok-clause-given : goal.returns-in-Ok-clause-given
returns-in-Ok-clause-given g c =
    let old = stand_of c.args.self.now in
    let new = stand_of c.turn.new.self in
    let found = c.looked_in.result in
    let t : IsTurn (Look c.args.at c.args.number) (Ok c.in-Ok.acted) old new = rw c.in-Ok.is at c.turn.ensures in
    let u : IsTurn (Look c.args.at c.args.number) (Ok (Looked found)) old new = subst (λ (a : Acted). IsTurn (Look c.args.at c.args.number) (Ok a) old new) c.looked_in.ensures t in
    looks_given old new c.args.at c.args.number found u c.args.self.now.begun

pub returns-in-Ok-clause-stays : goal.returns-in-Ok-clause-stays
returns-in-Ok-clause-stays g c = turn_still (stand_of c.args.self.now) (stand_of c.turn.new.self) (Look c.args.at c.args.number) c.turn.result c.turn.ensures

pub returns-in-Err-clause-stays : goal.returns-in-Err-clause-stays
returns-in-Err-clause-stays g c = turn_still (stand_of c.args.self.now) (stand_of c.turn.new.self) (Look c.args.at c.args.number) c.turn.result c.turn.ensures
