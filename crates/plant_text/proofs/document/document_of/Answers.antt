use Rattle.std.proofs.Common.{◌∙◌, refl}
use Rattle.plant_text.proofs.DocumentLaws.{document_is, no_document}
use Rattle.plant_text.proofs.document.document_of.Goals as goal

pub returns-in_default : goal.returns-in_default
returns-in_default c = (no_document c.args.bytes.now c.in_default.ensures.cases.0, refl)

pub returns-in-Ok-table_from_str : goal.returns-in-Ok-table_from_str
returns-in-Ok-table_from_str c = document_is c.args.bytes.now c.in-Ok.ensures.cases.1 ∙ (rw c.in-Ok.ensures.cases.0 at c.in-Ok-table_from_str.ensures.ok)
