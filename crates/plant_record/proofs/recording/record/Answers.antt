use Rattle.plant_record.proofs.HandLaws.{recorded}
use Rattle.plant_record.proofs.recording.record.Goals as goal

pub returns : goal.returns
returns g c =
    let faults = g.F.Folder.faults in
    let handed = g.D.TapeDesk.handed in
    recorded g.F.File.Sink.written g.F.File.Sink.faults c.args.peers.now (faults c.args.folder.now) (faults c.run-end.new.folder) (faults c.finish.new.folder) c.args.turns c.args.script.now.events c.run-end.result c.finish.result (handed c.args.desk.now) (handed c.run-end.new.desk)
    _ _ c.run-end.ensures c.finish.ensures.judged (λ more on t before st. c.finish.ensures.leaves c.args.peers.now t _ (on t before st))
