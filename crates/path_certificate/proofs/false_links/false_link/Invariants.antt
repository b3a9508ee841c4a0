use Rattle.std.proofs.Common.{ℕ, ◌<◌}
use Rattle.path_certificate.specs.Rows.{label_in}
use Rattle.path_certificate.specs.Claims.{LinkHoldsAt}
use Rattle.path_certificate.proofs.false_links.false_link.Given as goal

abbrev pub invariant-loop-index : goal.invariant-loop-index
invariant-loop-index l = (j : ℕ) → j < l.index → LinkHoldsAt l.topology l.query (label_in l.rows) j
