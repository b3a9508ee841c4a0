use Rattle.std.proofs.Common.{◌≡◌, length, drop}
use Rattle.diverse_pairs.specs.Paths.{turned}
use Rattle.diverse_pairs.proofs.turning.turn.Given as goal

abbrev pub invariant-loop-arc : goal.invariant-loop-arc
invariant-loop-arc l = record {
  left : turned l.in_use.items (drop l.arc-index l.path) ≡ turned l.initial.in_use.items l.path;
  long : length l.in_use.items ≡ length l.initial.in_use.items;
}
