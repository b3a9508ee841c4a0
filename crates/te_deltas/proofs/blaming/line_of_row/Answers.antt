use Rattle.std.proofs.Common.{◌≡◌, ◌∙◌, Some, sym, ap, subst, inl, inr, refl}
use Rattle.te_links.specs.Rows.{Rows}
use Rattle.te_links.specs.Faults.{rows_of_parts}
use Rattle.te_deltas.specs.declared.name.RowName.{RowName}
use Rattle.te_deltas.specs.Answers.{changed_rows}
use Rattle.te_deltas.specs.Blame.{IsLastOf, NoneFrom, row_at}
use Rattle.te_deltas.proofs.BlameLemmas.{added_by, line_there, named_row, was_there}
use Rattle.te_deltas.proofs.blaming.line_of_row.Goals as goal

pub line_of_change-requires-clause-there : goal.line_of_change-requires-clause-there
line_of_change-requires-clause-there c =
    let last = c.in-Some.ensures in
    line_there c.args.file.now c.args.changes.now c.in-Some.place last.0 c.requires.says last.1.at

pub returns-in-Some : goal.returns-in-Some
returns-in-Some c =
    let g = c.args.topology.now in
    let changes = c.args.changes.now in
    let at = c.args.row in
    let last = c.in-Some.ensures in
    let told = named_row (row_at (rows_of_parts c.in-Ok.parts) at.kind at.index) c.name_at.result c.name_at.ensures in
    let there : row_at (changed_rows g changes) at.kind at.index ≡ Some told.0 = ap (λ (h : Rows). row_at h at.kind at.index) (sym c.in-Ok.ensures.rows) ∙ told.1 in
    let own : IsLastOf changes _ c.in-Some.place last.0 = subst (λ (name : RowName). IsLastOf changes name c.in-Some.place last.0) told.2 last.1 in
    (told.0, there, inl (c.in-Some.place, added_by g changes at.kind at.index told.0 c.in-Some.place last.0 c.requires.made there own, c.line_of_change.ensures))

pub returns : goal.returns
returns c =
    let g = c.args.topology.now in
    let changes = c.args.changes.now in
    let at = c.args.row in
    let told = named_row (row_at (rows_of_parts c.in-Ok.parts) at.kind at.index) c.name_at.result c.name_at.ensures in
    let there : row_at (changed_rows g changes) at.kind at.index ≡ Some told.0 = ap (λ (h : Rows). row_at h at.kind at.index) (sym c.in-Ok.ensures.rows) ∙ told.1 in
    (told.0, there, inr (was_there g changes at.kind at.index told.0 there (subst (λ (name : RowName). NoneFrom 0 changes name) told.2 c.in-None.ensures), refl))
