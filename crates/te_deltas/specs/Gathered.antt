-- Rows by their kinds, as further ones come.
use Rattle.std.specs.Prelude.{[], ◌∷◌, ◌++◌}
use Rattle.dom_base.specs.declared.names.As.{As}
use Rattle.te_links.specs.Rows.{Rows}
use Rattle.te_text.specs.declared.row.TextRow.{TextRow}
use Rattle.te_text.specs.declared.row.TextRow.TheVariants as rows

abbrev pub no_parts : As → Rows
no_parts own = record { own = own; nodes = []; links = []; outs = []; entries = [] }

abbrev pub with_last : Rows → TextRow → Rows
with_last g (rows.Node n) = record g { nodes = g.nodes ++ n ∷ [] }
with_last g (rows.Link l) = record g { links = g.links ++ l ∷ [] }
with_last g (rows.Out o) = record g { outs = g.outs ++ o ∷ [] }
with_last g (rows.Entry e) = record g { entries = g.entries ++ e ∷ [] }
