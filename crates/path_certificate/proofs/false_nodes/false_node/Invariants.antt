use Rattle.std.proofs.Common.{ℕ, ◌<◌}
use Rattle.path_certificate.specs.Rows.{label_in}
use Rattle.path_certificate.specs.Claims.{NodeHoldsAt}
use Rattle.path_certificate.proofs.false_nodes.false_node.Given as goal

abbrev pub invariant-loop-index : goal.invariant-loop-index
invariant-loop-index l = (j : ℕ) → j < l.index → NodeHoldsAt l.topology l.query l.seeds (label_in l.rows) j
