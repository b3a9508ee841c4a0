-- Each row that was read has its line.
use Rattle.std.proofs.Common.{◌≡◌, ℕ, suc, ◌<◌, List, [], ◌∷◌, length, Result, Ok, Err, refl, ap, subst, arith}
use Rattle.std.proofs.lemmas.Option.{slice_get_within}
use Rattle.dom_base.specs.declared.names.As.{As}
use Rattle.line_text.specs.Lines.{NumberedLine, told_lines}
use Rattle.te_links.specs.declared.fault.Row.{Row}
use Rattle.te_links.specs.declared.fault.RowKind.{RowKind}
use Rattle.te_links.specs.declared.fault.RowKind.TheVariants as kinds
use Rattle.te_links.specs.declared.fault.TopoFault.{TopoFault}
use Rattle.te_links.specs.Faults.{rows_of_parts, IsFirstBreach, Breaks}
use Rattle.te_text.specs.declared.row.TextRow.{TextRow}
use Rattle.te_text.specs.declared.row.TextRow.TheVariants as rows
use Rattle.te_text.specs.declared.reading.Reading.{Reading}
use Rattle.te_text.specs.declared.error.TextError.{TextError}
use Rattle.te_text.specs.Reading.{and_then, with_first, reading_of, header_at, rows_in, reading_in, text_in}
use Rattle.te_text.specs.Reads.{lines_of_kind}

pub record SameLengths (r : Reading) : Type 0 where
  pub nodes : length r.lines.nodes ≡ length r.parts.nodes
  pub links : length r.lines.links ≡ length r.parts.links
  pub outs : length r.lines.outs ≡ length r.parts.outs
  pub entries : length r.lines.entries ≡ length r.parts.entries

one_more : (line : ℕ) (row : TextRow) (r : Reading) → SameLengths r → SameLengths (with_first (line, row) r)
one_more line (rows.Node n) r h = record { nodes = ap suc h.nodes; links = h.links; outs = h.outs; entries = h.entries }
one_more line (rows.Link l) r h = record { nodes = h.nodes; links = ap suc h.links; outs = h.outs; entries = h.entries }
one_more line (rows.Out o) r h = record { nodes = h.nodes; links = h.links; outs = ap suc h.outs; entries = h.entries }
one_more line (rows.Entry e) r h = record { nodes = h.nodes; links = h.links; outs = h.outs; entries = ap suc h.entries }

all_rows : (own : As) (placed : List (ℕ × TextRow)) → SameLengths (reading_of own placed)
all_rows own [] = record { nodes = refl; links = refl; outs = refl; entries = refl }
all_rows own (p ∷ placed) = one_more p.0 p.1 (reading_of own placed) (all_rows own placed)

of_rows : (own : As) (placed : Result (List (ℕ × TextRow)) TextError) (r : Reading) → and_then placed (λ rows. Ok (reading_of own rows)) ≡ Ok r → SameLengths r
of_rows own (Ok placed) r e = let same : reading_of own placed ≡ r = cc in subst SameLengths same (all_rows own placed)
of_rows own (Err fault) r e = absurd (cc)

of_header : (own : Result As TextError) (placed : Result (List (ℕ × TextRow)) TextError) (r : Reading) → and_then own (λ own. and_then placed (λ rows. Ok (reading_of own rows))) ≡ Ok r → SameLengths r
of_header (Ok own) placed r e = of_rows own placed r e
of_header (Err fault) placed r e = absurd (cc)

of_lines : (lines : List NumberedLine) (r : Reading) → reading_in lines ≡ Ok r → SameLengths r
unfolding reading_in
of_lines [] r e = absurd (cc)
of_lines (line ∷ lines) r e = of_header (header_at line) (rows_in lines) r e

pub of_text : (bytes : List ℕ) (r : Reading) → text_in bytes ≡ Ok r → SameLengths r
of_text bytes r e = of_lines (told_lines bytes) r e

within : (r : Reading) (kind : RowKind) (i : ℕ) (fault : TopoFault) → SameLengths r → Breaks (rows_of_parts r.parts) kind i fault → i < length (lines_of_kind r.lines kind)
within r kinds.Node i fault h b = omega (arith, slice_get_within r.parts.nodes i b.0 b.1, h.nodes)
within r kinds.Link i fault h b = omega (arith, slice_get_within r.parts.links i b.0 b.1, h.links)
within r kinds.Out i fault h b = omega (arith, slice_get_within r.parts.outs i b.0 b.1, h.outs)
within r kinds.Entry i fault h b = omega (arith, slice_get_within r.parts.entries i b.0 b.1, h.entries)

pub row_within : (bytes : List ℕ) (r : Reading) (fault : TopoFault) (row : Row) → text_in bytes ≡ Ok r → IsFirstBreach (rows_of_parts r.parts) fault row → row.index < length (lines_of_kind r.lines row.kind)
row_within bytes r fault row e h = within r row.kind row.index fault (of_text bytes r e) h.breaks
