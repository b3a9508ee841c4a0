use Rattle.std.proofs.Common.{take}
use Rattle.path_search.specs.Segments.{AreBy}
use Rattle.path_search.proofs.chosen.seeds_by.Given as goal

abbrev pub invariant-loop-seed : goal.invariant-loop-seed
invariant-loop-seed l = AreBy l.exit (take l.seed-index l.seeds) l.own.items
