-- What the words of a line of a certificate say behind its header: `label ADDR COST EXIT`, `label ADDR -`, `path ADDR ..`, `path -`.
use Rattle.std.specs.Prelude.{ℕ, Bool, List, [], ◌∷◌, Option, Some, None, codes, if◌then◌else◌}
use Rattle.std.specs.Str.{bytes_eq}
use Rattle.dom_base.specs.declared.limits.TheConstants.{COST_MAX}
use Rattle.dom_base.specs.declared.addr.Addr.{Addr}
use Rattle.dom_base.specs.declared.query.Label.{Label}
use Rattle.dom_base.specs.Numerals.{number_in}
use Rattle.dom_base.specs.AddrText.{addr_in}
use Rattle.dom_base.specs.Steps.{◌>>=◌}
use Rattle.te_text.specs.RowText.{first, last}
use Rattle.path_certificate.specs.declared.text_row.TextRow.{TextRow}
use Rattle.path_certificate.specs.declared.text_row.TextRow.TheVariants as rows

abbrev pub label_word : List ℕ
label_word = codes "label"

abbrev pub path_word : List ℕ
path_word = codes "path"

abbrev pub dash : List ℕ
dash = codes "-"

abbrev pub is_dash : List ℕ → Bool
is_dash word = bytes_eq word dash

-- a cost is at most the greatest one
abbrev pub cost_in : List ℕ → Option ℕ
cost_in word = number_in COST_MAX word

-- COST EXIT, or `-` for no label
unfoldable pub label_behind : List (List ℕ) → Option (Option Label)
label_behind [] = None
label_behind (word ∷ words) =
    if is_dash word then last None words else (do
      cost ← cost_in word
      exit ← first addr_in words
      last (Some (record { cost = cost; exit = exit.0 })) exit.1)

-- ADDR .., as many as there are
abbrev pub addrs_in : List (List ℕ) → Option (List Addr)
addrs_in [] = Some []
addrs_in (word ∷ words) = do
  addr ← addr_in word
  others ← addrs_in words
  Some (addr ∷ others)

-- a first address, and those in further words
abbrev pub addrs_behind : Addr → List (List ℕ) → Option (List Addr)
addrs_behind start words = addrs_in words >>= λ others. Some (start ∷ others)

-- one ADDR or more, or `-` for no path
unfoldable pub path_behind : List (List ℕ) → Option (Option (List Addr))
path_behind [] = None
path_behind (word ∷ words) =
    if is_dash word then last None words else (do
      addr ← addr_in word
      addrs ← addrs_behind addr words
      Some (Some addrs))

abbrev pub label_row : List (List ℕ) → Option TextRow
label_row words = do
  addr ← first addr_in words
  label ← label_behind addr.1
  Some (rows.Label addr.0 label)

abbrev pub path_row : List (List ℕ) → Option TextRow
path_row words = path_behind words >>= λ path. Some (rows.Path path)

-- what words say, all of them
unfoldable pub row_in : List (List ℕ) → Option TextRow
row_in [] = None
row_in (name ∷ words) =
    if bytes_eq name label_word then label_row words
    else (if bytes_eq name path_word then path_row words else None)
