use Rattle.std.proofs.Common.{◌≡◌, map, take}
use Rattle.dom_base.specs.declared.query.Seed.{Seed}
use Rattle.path_search.proofs.exits.each_exit.Given as goal

abbrev pub invariant-loop-seed : goal.invariant-loop-seed
invariant-loop-seed l = l.exits.items ≡ map (λ (s : Seed). s.exit) (take l.seed-index l.seeds)
