-- Readings of lines one after another.
use Rattle.std.specs.Prelude.{ℕ, [], ◌∷◌, ◌++◌}
use Rattle.te_text.specs.declared.row.TextRow.{TextRow}
use Rattle.te_text.specs.declared.row.TextRow.TheVariants as rows
use Rattle.te_text.specs.declared.reading.Reading.{Reading}

-- a further row at the end of its list
abbrev pub with_last : Reading → ℕ → TextRow → Reading
with_last r line (rows.Node n) = record r { parts = record r.parts { nodes = r.parts.nodes ++ n ∷ [] }; lines = record r.lines { nodes = r.lines.nodes ++ line ∷ [] } }
with_last r line (rows.Link l) = record r { parts = record r.parts { links = r.parts.links ++ l ∷ [] }; lines = record r.lines { links = r.lines.links ++ line ∷ [] } }
with_last r line (rows.Out o) = record r { parts = record r.parts { outs = r.parts.outs ++ o ∷ [] }; lines = record r.lines { outs = r.lines.outs ++ line ∷ [] } }
with_last r line (rows.Entry e) = record r { parts = record r.parts { entries = r.parts.entries ++ e ∷ [] }; lines = record r.lines { entries = r.lines.entries ++ line ∷ [] } }
