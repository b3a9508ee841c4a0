use Rattle.std.proofs.Common.{◌≤◌}
use Rattle.plant_play.specs.Reels.{Gives, ahead}
use Rattle.plant_play.specs.Replays.{HasNoEnd}
use Rattle.plant_play.proofs.reel.Reel.next_line.Given as goal

abbrev pub invariant-loop-turn : goal.invariant-loop-turn
invariant-loop-turn g l = record {
  no_end : HasNoEnd l.self.line;
  gives : Gives (ahead l.fn.self.read (g.I.Source.left l.fn.input)) l.self.line (ahead l.self.read (g.I.Source.left l.input));
  later : g.I.Source.faults l.fn.input ≤ g.I.Source.faults l.input;
}
