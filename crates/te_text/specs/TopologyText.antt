-- The text of a topology as it is written: its header, then nodes, links, out links and entries in its order.
use Rattle.std.specs.Prelude.{◌≡◌, ℕ, List, [], ◌∷◌, ◌++◌, Some, map, decimal}
use Rattle.dom_base.specs.declared.names.As.{As}
use Rattle.dom_base.specs.declared.link.Link.{Link}
use Rattle.dom_base.specs.Numerals.{colour_text}
use Rattle.dom_base.specs.AddrText.{addr_text}
use Rattle.line_text.specs.Spelling.{text_of, IsLine}
use Rattle.te_links.specs.declared.fault.RowKind.TheVariants as kinds
use Rattle.te_links.specs.Rows.{Rows}
use Rattle.te_text.specs.declared.row.TextRow.{TextRow}
use Rattle.te_text.specs.declared.row.TextRow.TheVariants as rows
use Rattle.te_text.specs.RowText.{kind_word, row_in}
use Rattle.te_text.specs.Reading.{topology_word, header_own}

abbrev pub ends_words : Link → List (List ℕ)
ends_words l = addr_text l.from ∷ addr_text l.to ∷ addr_text l.near ∷ addr_text l.far ∷ []

abbrev pub traits_words : Link → List (List ℕ)
traits_words l = decimal l.igp ∷ decimal l.te ∷ decimal l.bytes_per_second ∷ colour_text l.colour ∷ []

abbrev pub row_words : TextRow → List (List ℕ)
row_words (rows.Node n) = kind_word kinds.Node ∷ addr_text n ∷ []
row_words (rows.Link l) = kind_word kinds.Link ∷ (ends_words l ++ (traits_words l ++ map decimal l.srlgs))
row_words (rows.Out o) = kind_word kinds.Out ∷ (ends_words o.link ++ (decimal o.to_as.0 ∷ (traits_words o.link ++ map decimal o.link.srlgs)))
row_words (rows.Entry e) = kind_word kinds.Entry ∷ addr_text e.node ∷ decimal e.from_as.0 ∷ []

abbrev pub header_words : As → List (List ℕ)
header_words own = topology_word ∷ decimal own.0 ∷ []

-- the rows in the order in which they are written
abbrev pub rows_in_order : Rows → List TextRow
rows_in_order t = map rows.Node t.nodes ++ (map rows.Link t.links ++ (map rows.Out t.outs ++ map rows.Entry t.entries))

abbrev pub topology_text : Rows → List ℕ
topology_text t = text_of (header_words t.own ∷ map row_words (rows_in_order t))

-- the words of a row make a line, which says the row again
pub record IsWritten (row : TextRow) : Type 0 where
  pub line : IsLine (row_words row)
  pub again : row_in (row_words row) ≡ Some row

pub record IsWrittenHeader (own : As) : Type 0 where
  pub line : IsLine (header_words own)
  pub again : header_own (header_words own) ≡ Some own
