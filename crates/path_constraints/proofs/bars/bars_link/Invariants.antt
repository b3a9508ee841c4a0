use Rattle.std.proofs.Common.{◌≡◌, false, take}
use Rattle.std.specs.Prelude.{All}
use Rattle.dom_base.specs.Admission.{NamesLink}
use Rattle.path_constraints.proofs.bars.bars_link.Given as goal

abbrev pub invariant-loop-exclusion : goal.invariant-loop-exclusion
invariant-loop-exclusion l = All (λ e. e.avoid ≡ false → NamesLink e.what l.link → ⊥) (take l.exclusion-index l.query.exclusions)
