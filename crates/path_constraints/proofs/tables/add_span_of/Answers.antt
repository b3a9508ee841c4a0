use Rattle.std.proofs.Common.{◌⊎◌, inl, inr}
use Rattle.path_constraints.specs.Spans.{Covers}
use Rattle.path_constraints.specs.Tables.{NamesAddr, Demands}
use Rattle.path_constraints.proofs.tables.add_span_of.Goals as goal

pub returns-in_default : goal.returns-in_default
returns-in_default c = λ a. (
  λ has. inl has,
  λ (either : Covers c.args.spans.now.items a ⊎ Demands (NamesAddr c.args.kind a) c.args.exclusion.now). elim either [
    | inl has ↦ has
    | inr demands ↦ absurd (c.in_default.ensures a demands.1)
  ],
)
