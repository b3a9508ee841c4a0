use Rattle.std.proofs.Common.{Ok, inl, refl, subst}
use Rattle.std.specs.Arc.{arc_value}
use Rattle.server_loops.specs.Charts.{current_of}
use Rattle.plant_network.specs.declared.acts.Act.TheVariants.{Map}
use Rattle.plant_network.specs.declared.acts.Acted.{Acted}
use Rattle.plant_network.specs.declared.acts.Acted.TheVariants.{Mapped}
use Rattle.turn_desk.specs.Desks.{IsTurn, stand_of}
use Rattle.turn_desk.proofs.Charting.{chart_told, mapped_turn}
use Rattle.turn_desk.proofs.Turning.{turn_still}
use Rattle.turn_desk.proofs.chart.TurnDeskChart.map.Goals as goal

pub turn-requires : goal.turn-requires
turn-requires g c = inl (λ s. tt)

pub mapped_in-requires : goal.mapped_in-requires
mapped_in-requires g c =
    let old = stand_of c.args.self.now in
    let new = stand_of c.turn.new.self in
    let t : IsTurn (Map c.args.at) (Ok c.in-Ok.acted) old new = rw c.in-Ok.is at c.turn.ensures in
    mapped_turn old new c.args.at c.in-Ok.acted t

pub returns-in-Ok-clause-asks : goal.returns-in-Ok-clause-asks
returns-in-Ok-clause-asks g c =
    let old = stand_of c.args.self.now in
    let new = stand_of c.turn.new.self in
    let found = c.mapped_in.result in
    let t : IsTurn (Map c.args.at) (Ok c.in-Ok.acted) old new = rw c.in-Ok.is at c.turn.ensures in
    let u : IsTurn (Map c.args.at) (Ok (Mapped found)) old new = subst (λ (a : Acted). IsTurn (Map c.args.at) (Ok a) old new) c.mapped_in.ensures t in
    chart_told old new c.args.at (Mapped found) (current_of arc_value found) u refl

pub returns-in-Ok-clause-stays : goal.returns-in-Ok-clause-stays
returns-in-Ok-clause-stays g c = turn_still (stand_of c.args.self.now) (stand_of c.turn.new.self) (Map c.args.at) c.turn.result c.turn.ensures

pub returns-in-Err-clause-stays : goal.returns-in-Err-clause-stays
returns-in-Err-clause-stays g c = turn_still (stand_of c.args.self.now) (stand_of c.turn.new.self) (Map c.args.at) c.turn.result c.turn.ensures
