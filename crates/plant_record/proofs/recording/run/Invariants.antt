use Rattle.plant_record.proofs.HandLaws.{IsRunning}
use Rattle.plant_record.proofs.recording.run.Given as goal

abbrev pub invariant-loop-turn : goal.invariant-loop-turn
invariant-loop-turn g l = IsRunning g.F.File.Sink.written g.F.File.Sink.faults l.peers (g.F.Folder.faults l.initial.folder) (g.F.Folder.faults l.folder) l._turn (g.D.TapeDesk.handed l.initial.desk) (g.D.TapeDesk.handed l.desk) l.initial.script l.script (g.F.Folder.contents l.initial.folder) (g.F.Folder.contents l.folder)
