-- What words say of a row of a topology: `node ADDR`, `link FROM TO NEAR FAR IGP TE BW COLOUR [SRLG ..]`,
-- `out FROM HEAD NEAR FAR AS IGP TE BW COLOUR [SRLG ..]`, `entry NODE AS`.
use Rattle.std.specs.Prelude.{ℕ, ◌-◌, ◌^◌, List, [], ◌∷◌, Option, Some, None, codes, if◌then◌else◌}
use Rattle.std.specs.Str.{bytes_eq}
use Rattle.dom_base.specs.declared.names.As.{As}
use Rattle.dom_base.specs.declared.link.Link.{Link}
use Rattle.dom_base.specs.Numerals.{number_in, colour_in}
use Rattle.dom_base.specs.AddrText.{addr_in}
use Rattle.dom_base.specs.Steps.{◌>>=◌}
use Rattle.te_links.specs.declared.fault.RowKind.{RowKind}
use Rattle.te_links.specs.declared.fault.RowKind.TheVariants as kinds
use Rattle.te_text.specs.declared.row.TextRow.{TextRow}
use Rattle.te_text.specs.declared.row.TextRow.TheVariants as rows
use Rattle.te_text.specs.declared.fields.Ends.{Ends}
use Rattle.te_text.specs.declared.fields.Traits.{Traits}

-- what the first word says, and the words behind it
abbrev pub first : {X : Type 0} → (List ℕ → Option X) → List (List ℕ) → Option (X × List (List ℕ))
first read [] = None
first read (word ∷ words) = read word >>= λ x. Some (x, words)

-- a value that no word follows
abbrev pub last : {X : Type 0} → X → List (List ℕ) → Option X
last x [] = Some x
last x (word ∷ words) = None

abbrev pub number_16 : List ℕ → Option ℕ
number_16 word = number_in (2 ^ 16 - 1) word

abbrev pub number_32 : List ℕ → Option ℕ
number_32 word = number_in (2 ^ 32 - 1) word

abbrev pub number_64 : List ℕ → Option ℕ
number_64 word = number_in (2 ^ 64 - 1) word

abbrev pub as_in : List ℕ → Option As
as_in word = number_16 word >>= λ n. Some (record { 0 = n })

-- FROM TO NEAR FAR
unfoldable pub ends_in : List (List ℕ) → Option (Ends × List (List ℕ))
ends_in words = do
  from ← first addr_in words
  to ← first addr_in from.1
  near ← first addr_in to.1
  far ← first addr_in near.1
  Some (record { from = from.0; to = to.0; near = near.0; far = far.0 }, far.1)

-- IGP TE BW COLOUR
unfoldable pub traits_in : List (List ℕ) → Option (Traits × List (List ℕ))
traits_in words = do
  igp ← first number_32 words
  te ← first number_32 igp.1
  bandwidth ← first number_64 te.1
  colour ← first colour_in bandwidth.1
  Some (record { igp = igp.0; te = te.0; bytes_per_second = bandwidth.0; colour = colour.0 }, colour.1)

-- SRLG .., as many as there are
abbrev pub srlgs_in : List (List ℕ) → Option (List ℕ)
srlgs_in [] = Some []
srlgs_in (word ∷ words) = do
  number ← number_32 word
  numbers ← srlgs_in words
  Some (number ∷ numbers)

abbrev pub link_of : Ends → Traits → List ℕ → Link
link_of ends traits srlgs = record {
  from = ends.from;
  to = ends.to;
  near = ends.near;
  far = ends.far;
  igp = traits.igp;
  te = traits.te;
  bytes_per_second = traits.bytes_per_second;
  colour = traits.colour;
  srlgs = srlgs;
}

-- the words behind the first one
unfoldable pub fields_in : RowKind → List (List ℕ) → Option TextRow
fields_in kinds.Node words = do
  addr ← first addr_in words
  last (rows.Node addr.0) addr.1
fields_in kinds.Link words = do
  ends ← ends_in words
  traits ← traits_in ends.1
  srlgs ← srlgs_in traits.1
  Some (rows.Link (link_of ends.0 traits.0 srlgs))
fields_in kinds.Out words = do
  ends ← ends_in words
  to_as ← first as_in ends.1
  traits ← traits_in to_as.1
  srlgs ← srlgs_in traits.1
  Some (rows.Out (record { link = link_of ends.0 traits.0 srlgs; to_as = to_as.0 }))
fields_in kinds.Entry words = do
  node ← first addr_in words
  from_as ← first as_in node.1
  last (rows.Entry (record { node = node.0; from_as = from_as.0 })) from_as.1

-- the first word of a row
abbrev pub kind_word : RowKind → List ℕ
kind_word kinds.Node = codes "node"
kind_word kinds.Link = codes "link"
kind_word kinds.Out = codes "out"
kind_word kinds.Entry = codes "entry"

abbrev pub kind_in : List ℕ → Option RowKind
kind_in word =
    if bytes_eq word (kind_word kinds.Node) then Some kinds.Node
    else (if bytes_eq word (kind_word kinds.Link) then Some kinds.Link
    else (if bytes_eq word (kind_word kinds.Out) then Some kinds.Out
    else (if bytes_eq word (kind_word kinds.Entry) then Some kinds.Entry else None)))

-- the row that words say, all of them
unfoldable pub row_in : List (List ℕ) → Option TextRow
row_in words = do
  kind ← first kind_in words
  fields_in kind.0 kind.1
