use Rattle.plant_record.proofs.HandLaws.{hand_turn, spent_turn}
use Rattle.plant_record.proofs.recording.turn.Goals as goal

pub returns-in-Ok-clause-turned : goal.returns-in-Ok-clause-turned
returns-in-Ok-clause-turned g c =
    let faults = g.F.Folder.faults in
    let contents = g.F.Folder.contents in
    let handed = g.D.TapeDesk.handed in
    hand_turn g.F.File.Sink.written g.F.File.Sink.faults c.args.peers.now c.take_hand.result (faults c.args.folder.now) (faults c.take_hand.new.folder) (handed c.args.desk.now) (handed c.hand.new.self) c.args.script.now c.take_hand.new.script
    (contents c.args.folder.now) (contents c.take_hand.new.folder) c.in-Ok.handed c.in-Ok.ensures c.take_hand.ensures

pub returns-in-Err-clause-turned : goal.returns-in-Err-clause-turned
returns-in-Err-clause-turned g c =
    let handed = g.D.TapeDesk.handed in
    spent_turn g.F.File.Sink.written g.F.File.Sink.faults c.args.peers.now (g.F.Folder.faults c.args.folder.now) c.in-Err.number (handed c.args.desk.now) (handed c.hand.new.self) c.args.script.now (g.F.Folder.contents c.args.folder.now) c.in-Err.ensures
