use Rattle.std.proofs.Common.{◌≡◌, ◌≤◌, All, length}
use Rattle.plant_play.specs.Playing.{played_network}
use Rattle.transcript.proofs.ScriptParts.{Tells}
use Rattle.plant_play.proofs.ScriptLemmas.{IsAt}
use Rattle.plant_play.proofs.script.play_lines.Given as goal

abbrev pub invariant-loop-line : goal.invariant-loop-line
invariant-loop-line g l = record {
  settings : (played_network l.player).network ≡ (played_network l.initial.player).network;
  reached : IsAt (g.S.Store.files l.initial.store) (played_network l.initial.player).network l.script (g.K.Sink.written l.initial.out) (g.K.Sink.written l.out) l.lines (played_network l.player);
  tell : All Tells l.lines;
  files : g.S.Store.files l.store ≡ g.S.Store.files l.initial.store;
  later : g.S.Store.faults l.initial.store ≤ g.S.Store.faults l.store;
  after : g.K.Sink.faults l.initial.out ≤ g.K.Sink.faults l.out;
}

abbrev pub decreases-loop-line : goal.decreases-loop-line
decreases-loop-line g l = length l.lines
