use Rattle.std.proofs.Common.{◌∙◌, ap, inl}
use Rattle.plant_text.proofs.DocumentLaws.{no_document}
use Rattle.network_check.specs.Documents.{line_of_place}
use Rattle.network_check.proofs.documents.read_document.Goals as goal

pub returns-in-Err : goal.returns-in-Err
returns-in-Err c =
    let text = c.args.text.now in
    let failed = c.in-Err.ensures in
    (no_document text failed.cases.0, inl (failed.cases.0, c.line_of.ensures ∙ ap (line_of_place text) (c.valid_up_to.ensures ∙ failed.valid_len)))
