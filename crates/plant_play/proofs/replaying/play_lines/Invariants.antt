use Rattle.std.proofs.Common.{◌≡◌, ◌≤◌}
use Rattle.plant_play.specs.Playing.{played_network}
use Rattle.plant_play.specs.Reels.{ahead}
use Rattle.plant_play.proofs.ReplayLemmas.{IsAtLine}
use Rattle.plant_play.proofs.replaying.play_lines.Given as goal

abbrev pub invariant-loop-before : goal.invariant-loop-before
invariant-loop-before g l = record {
  settings : (played_network l.player).network ≡ (played_network l.initial.player).network;
  at : IsAtLine (g.S.Store.files l.initial.store) l.span (played_network l.initial.player).network (g.I.Source.left l.initial.input) (g.K.Sink.written l.initial.out) (g.K.Sink.written l.out) (ahead l.reel.read (g.I.Source.left l.input)) l.before (played_network l.player);
  files : g.S.Store.files l.store ≡ g.S.Store.files l.initial.store;
  later : g.S.Store.faults l.initial.store ≤ g.S.Store.faults l.store;
  after : g.K.Sink.faults l.initial.out ≤ g.K.Sink.faults l.out;
  read : g.I.Source.faults l.initial.input ≤ g.I.Source.faults l.input;
}
