use Rattle.plant_record.proofs.Writing.{IsWriting}
use Rattle.plant_record.proofs.hands.write_hand.Given as goal

abbrev pub invariant-loop-told : goal.invariant-loop-told
invariant-loop-told g l = IsWriting g.F.File.Sink.written l.peers l.items l.told-index (g.F.Folder.faults l.initial.folder) (g.F.Folder.faults l.folder) l.initial.script l.script (g.F.Folder.contents l.initial.folder) (g.F.Folder.contents l.folder)
