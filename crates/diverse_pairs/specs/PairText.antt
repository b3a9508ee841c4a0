-- The text of a pair's certificate as it is written: its header, then the potentials in their order and the two paths, or the cut.
use Rattle.std.specs.Prelude.{◌≡◌, ◌≢◌, ◌<◌, ℕ, List, [], ◌∷◌, ◌++◌, Some, map, decimal, All, AllPairs}
use Rattle.dom_base.specs.AddrOrder.{rank}
use Rattle.dom_base.specs.declared.addr.Addr.{Addr}
use Rattle.dom_base.specs.declared.names.As.{As}
use Rattle.dom_base.specs.AddrText.{addr_text}
use Rattle.line_text.specs.Spelling.{text_of, IsLine}
use Rattle.path_certificate.specs.RowText.{dash}
use Rattle.path_certificate.specs.CertificateText.{AreAddrs}
use Rattle.diverse_pairs.specs.declared.certificate.PairCertificate.{PairCertificate}
use Rattle.diverse_pairs.specs.declared.certificate.PairForm.{PairForm}
use Rattle.diverse_pairs.specs.declared.certificate.PairForm.TheVariants.{Paths, Cut}
use Rattle.diverse_pairs.specs.declared.pair_row.PairRow.{PairRow}
use Rattle.diverse_pairs.specs.declared.pair_row.PairRow.TheVariants as rows
use Rattle.diverse_pairs.specs.RowText.{at_word, first_word, second_word, cut_word, row_in}
use Rattle.path_certificate.specs.Text.{own_behind}
use Rattle.diverse_pairs.specs.Text.{pair_word}
use Rattle.diverse_pairs.specs.Potentials.{AreRising}

abbrev pub header_words : As → List (List ℕ)
header_words own = pair_word ∷ decimal own.0 ∷ []

abbrev pub nodes_words : List Addr → List (List ℕ)
nodes_words [] = dash ∷ []
nodes_words (node ∷ nodes) = map addr_text (node ∷ nodes)

abbrev pub row_words : PairRow → List (List ℕ)
row_words (rows.At addr number) = at_word ∷ addr_text addr ∷ decimal number ∷ []
row_words (rows.First one) = first_word ∷ map addr_text one
row_words (rows.Second other) = second_word ∷ map addr_text other
row_words (rows.Cut nodes) = cut_word ∷ nodes_words nodes

abbrev pub potential_words : Addr × ℕ → List (List ℕ)
potential_words row = row_words (rows.At row.0 row.1)

abbrev pub form_lines : PairForm → List (List (List ℕ))
form_lines (Paths potentials one other) = map potential_words potentials ++ row_words (rows.First one) ∷ row_words (rows.Second other) ∷ []
form_lines (Cut nodes) = row_words (rows.Cut nodes) ∷ []

abbrev pub pair_text : PairCertificate → List ℕ
pair_text c = text_of (header_words c.own ∷ form_lines c.form)

-- the words of a row make a line, which says the row again
pub record IsWritten (row : PairRow) : Type 0 where
  pub line : IsLine (row_words row)
  pub again : row_in (row_words row) ≡ Some row

pub record IsWrittenHeader (own : As) : Type 0 where
  pub line : IsLine (header_words own)
  pub again : own_behind pair_word (header_words own) ≡ Some own

-- potentials, and the nodes of a cut, stand in strictly rising order of address; each path has an address
abbrev pub CanBeTold : PairForm → Type 0
CanBeTold (Paths potentials one other) = AreRising potentials × (one ≢ []) × (other ≢ [])
CanBeTold (Cut nodes) = AllPairs (λ a b. rank a < rank b) nodes

-- its numbers and addresses are read again
abbrev pub IsFormWritten : PairForm → Type 0
IsFormWritten (Paths potentials one other) = All (λ row. IsWritten (rows.At row.0 row.1)) potentials × AreAddrs one × AreAddrs other
IsFormWritten (Cut nodes) = AreAddrs nodes
