use Rattle.std.proofs.Common.{List, Result, Err, ap}
use Rattle.event_tape.specs.declared.told.Told.{Told}
use Rattle.plant_record.specs.declared.recorded.Recorded.{Recorded}
use Rattle.plant_record.proofs.HandLaws.{none_run, one_run, run_ends}
use Rattle.plant_record.proofs.recording.run.Goals as goal

pub loop-turn-init : goal.loop-turn-init
loop-turn-init g c = none_run g.F.File.Sink.written g.F.File.Sink.faults c.args.peers.now (g.F.Folder.faults c.args.folder.now) (g.D.TapeDesk.handed c.args.desk.now) c.args.script.now (g.F.Folder.contents c.args.folder.now)

pub loop-turn-preserved : goal.loop-turn-preserved
loop-turn-preserved g c =
    let faults = g.F.Folder.faults in
    let contents = g.F.Folder.contents in
    let handed = g.D.TapeDesk.handed in
    one_run g.F.File.Sink.written g.F.File.Sink.faults c.args.peers.now c.in-Ok.items (faults c.args.folder.now) (faults c.loop-turn.folder) (faults c.turn.new.folder) c.loop-turn._turn (handed c.args.desk.now) (handed c.loop-turn.desk) (handed c.turn.new.desk)
    c.args.script.now c.loop-turn.script c.turn.new.script (contents c.args.folder.now) (contents c.loop-turn.folder) (contents c.turn.new.folder) c.loop-turn.invariant c.in-Ok.ensures.turned

pub returns-in-Err : goal.returns-in-Err
returns-in-Err g c =
    let faults = g.F.Folder.faults in
    let contents = g.F.Folder.contents in
    let handed = g.D.TapeDesk.handed in
    let fail : Recorded → Result (List Told) Recorded = λ (e : Recorded). Err e in
    run_ends g.F.File.Sink.written g.F.File.Sink.faults c.args.peers.now (faults c.args.folder.now) (faults c.loop-turn.folder) (faults c.turn.new.folder) c.loop-turn._turn c.args.turns c.in-Err.end (handed c.args.desk.now) (handed c.loop-turn.desk) (handed c.turn.new.desk)
    c.args.script.now c.loop-turn.script c.turn.new.script (contents c.args.folder.now) (contents c.loop-turn.folder) (contents c.turn.new.folder) (λ same. c.in-Err.ensures.goes_on (ap fail same)) c.loop-turn.invariant c.in-Err.ensures.turned
