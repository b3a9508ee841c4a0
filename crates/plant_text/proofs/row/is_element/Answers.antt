use Rattle.std.proofs.Common.{◌∙◌}
use Rattle.plant_text.proofs.RowLaws.{row_of_number}
use Rattle.plant_text.proofs.row.is_element.Goals as goal

pub returns : goal.returns
returns c = c.has_number.ensures ∙ row_of_number c.args.number c.args.elements.now
