use Rattle.std.proofs.Common.{◌∙◌, ap, List}
use Rattle.std.specs.Option.{is_some}
use Rattle.plant_text.specs.declared.settings.ElementRow.{ElementRow}
use Rattle.plant_text.specs.declared.settings.NetworkParts.{NetworkParts}
use Rattle.plant_text.specs.Settings.{row_of}
use Rattle.plant_text.proofs.RowLaws.{row_of_number}
use Rattle.server_loops.proofs.publishing.is_element.Goals as goal

pub returns : goal.returns
returns c =
    c.has_row.ensures ∙ row_of_number c.args.at c.as_slice.result.now
    ∙ ap (λ (rows : List ElementRow). is_some (row_of c.args.at rows)) (c.as_slice.ensures ∙ ap (λ (n : NetworkParts). n.elements) c.parts.ensures.parts)
