use Rattle.plant_network.specs.Topologies.{whole}
use Rattle.plant_play.proofs.LineLemmas.{of_kind}
use Rattle.plant_play.proofs.lines.play_line.Goals as goal

pub returns-in-Load-clause-plays : goal.returns-in-Load-clause-plays
returns-in-Load-clause-plays c =
    of_kind c.args.line c.args.modes c.args.event _ c.args.file.now (whole c.args.plant.now) (whole c.load.new.plant) c.args.into.now c.load.new.into c.load.result c.in-Load.is c.load.ensures.plays

pub returns-in-Change-clause-plays : goal.returns-in-Change-clause-plays
returns-in-Change-clause-plays c =
    of_kind c.args.line c.args.modes c.args.event _ c.args.file.now (whole c.args.plant.now) (whole c.change.new.plant) c.args.into.now c.change.new.into c.change.result c.in-Change.is c.change.ensures.plays

pub returns-in-Carry-clause-plays : goal.returns-in-Carry-clause-plays
returns-in-Carry-clause-plays c =
    of_kind c.args.line c.args.modes c.args.event _ c.args.file.now (whole c.args.plant.now) (whole c.play_event.new.plant) c.args.into.now c.play_event.new.into c.play_event.result c.in-Carry.is c.play_event.ensures.plays

pub returns-in-Break-clause-plays : goal.returns-in-Break-clause-plays
returns-in-Break-clause-plays c =
    of_kind c.args.line c.args.modes c.args.event _ c.args.file.now (whole c.args.plant.now) (whole c.play_event-in-Break.new.plant) c.args.into.now c.play_event-in-Break.new.into c.play_event-in-Break.result c.in-Break.is c.play_event-in-Break.ensures.plays

pub returns-in-Solve-clause-plays : goal.returns-in-Solve-clause-plays
returns-in-Solve-clause-plays c =
    of_kind c.args.line c.args.modes c.args.event _ c.args.file.now (whole c.args.plant.now) (whole c.play_event-in-Solve.new.plant) c.args.into.now c.play_event-in-Solve.new.into c.play_event-in-Solve.result c.in-Solve.is c.play_event-in-Solve.ensures.plays

pub returns-in-Tick-clause-plays : goal.returns-in-Tick-clause-plays
returns-in-Tick-clause-plays c =
    of_kind c.args.line c.args.modes c.args.event _ c.args.file.now (whole c.args.plant.now) (whole c.play_event-in-Tick.new.plant) c.args.into.now c.play_event-in-Tick.new.into c.play_event-in-Tick.result c.in-Tick.is c.play_event-in-Tick.ensures.plays

pub returns-in-Settle-clause-plays : goal.returns-in-Settle-clause-plays
returns-in-Settle-clause-plays c =
    of_kind c.args.line c.args.modes c.args.event _ c.args.file.now (whole c.args.plant.now) (whole c.go_on.new.plant) c.args.into.now c.go_on.new.into c.go_on.result c.in-Settle.is c.go_on.ensures.plays

pub returns-in-Finish-clause-plays : goal.returns-in-Finish-clause-plays
returns-in-Finish-clause-plays c =
    of_kind c.args.line c.args.modes c.args.event _ c.args.file.now (whole c.args.plant.now) (whole c.go_on-in-Finish.new.plant) c.args.into.now c.go_on-in-Finish.new.into c.go_on-in-Finish.result c.in-Finish.is c.go_on-in-Finish.ensures.plays

pub returns-in-CertifyOn-clause-plays : goal.returns-in-CertifyOn-clause-plays
returns-in-CertifyOn-clause-plays c =
    of_kind c.args.line c.args.modes c.args.event _ c.args.file.now (whole c.args.plant.now) (whole c.args.plant.now) c.args.into.now c.play_none.new.into c.play_none.result c.in-CertifyOn.is c.play_none.ensures.plays

pub returns-in-DiscloseOn-clause-plays : goal.returns-in-DiscloseOn-clause-plays
returns-in-DiscloseOn-clause-plays c =
    of_kind c.args.line c.args.modes c.args.event _ c.args.file.now (whole c.args.plant.now) (whole c.args.plant.now) c.args.into.now c.play_none-in-DiscloseOn.new.into c.play_none-in-DiscloseOn.result c.in-DiscloseOn.is c.play_none-in-DiscloseOn.ensures.plays
