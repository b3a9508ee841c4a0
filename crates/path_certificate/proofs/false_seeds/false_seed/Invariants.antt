use Rattle.std.proofs.Common.{ℕ, ◌<◌}
use Rattle.path_certificate.specs.Rows.{label_in}
use Rattle.path_certificate.specs.Claims.{SeedHoldsAt}
use Rattle.path_certificate.proofs.false_seeds.false_seed.Given as goal

abbrev pub invariant-loop-index : goal.invariant-loop-index
invariant-loop-index l = (j : ℕ) → j < l.index → SeedHoldsAt l.topology l.query (label_in l.rows) l.seeds j
