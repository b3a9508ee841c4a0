use Rattle.std.proofs.Common.{sym, length}
use Rattle.diverse_pairs.proofs.Beginning.{path_within}
use Rattle.diverse_pairs.proofs.turning.take_path.Goals as goal

pub turn-in_use-requires : goal.turn-in_use-requires
turn-in_use-requires c = record {
  within = rw c.as_slice-2.ensures.value (path_within c.args.arcs.now c.as_slice.result.now c.args.target c.in_ok-path.path.items c.args.source (length c.args.in_use.items) (sym c.requires.long) c.in_ok-path.ensures);
}
