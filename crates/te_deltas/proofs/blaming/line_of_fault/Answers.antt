use Rattle.std.proofs.Common.{subst, inl, inr}
use Rattle.te_text.specs.TopologyText.{rows_in_order}
use Rattle.te_deltas.specs.declared.making.ChangeError.TheVariants.{Absent, Present}
use Rattle.te_deltas.specs.Answers.{IsWhy}
use Rattle.te_deltas.proofs.BlameLemmas.{first_there}
use Rattle.te_deltas.proofs.blaming.line_of_fault.Goals as goal

pub line_of_change-requires-clause-there : goal.line_of_change-requires-clause-there
line_of_change-requires-clause-there c =
    let g = c.args.topology.now in
    let changes = c.args.changes.now in
    let i = c.in-Absent.place in
    elim c.in-Absent.is [
      | inl is ↦ first_there c.args.file.now (rows_in_order g) changes i (Absent i) c.requires.says (subst (IsWhy g changes) is c.requires.met)
      | inr is ↦ first_there c.args.file.now (rows_in_order g) changes i (Present i) c.requires.says (subst (IsWhy g changes) is c.requires.met)
    ]
