-- What the words of a line of a pair's certificate say behind its header: `at ADDR N`, `first ADDR ..`, `second ADDR ..`, `cut ADDR ..`, `cut -`.
use Rattle.std.specs.Prelude.{ℕ, ◌+◌, List, [], ◌∷◌, Option, Some, None, codes, nat_le, if◌then◌else◌}
use Rattle.std.specs.Str.{bytes_eq}
use Rattle.dom_base.specs.AddrOrder.{rank}
use Rattle.dom_base.specs.declared.addr.Addr.{Addr}
use Rattle.dom_base.specs.AddrText.{addr_in}
use Rattle.dom_base.specs.Steps.{◌>>=◌}
use Rattle.te_text.specs.RowText.{first, last, number_64}
use Rattle.path_certificate.specs.RowText.{addrs_behind, is_dash}
use Rattle.diverse_pairs.specs.declared.pair_row.PairRow.{PairRow}
use Rattle.diverse_pairs.specs.declared.pair_row.PairRow.TheVariants as rows

abbrev pub at_word : List ℕ
at_word = codes "at"

abbrev pub first_word : List ℕ
first_word = codes "first"

abbrev pub second_word : List ℕ
second_word = codes "second"

abbrev pub cut_word : List ℕ
cut_word = codes "cut"

-- ADDR N
abbrev pub potential_row : List (List ℕ) → Option PairRow
potential_row words = do
  addr ← first addr_in words
  number ← first number_64 addr.1
  last (rows.At addr.0 number.0) number.1

-- one ADDR or more
abbrev pub some_addrs : List (List ℕ) → Option (List Addr)
some_addrs words = first addr_in words >>= λ start. addrs_behind start.0 start.1

-- ADDR .., as many as there are, in strictly rising order from the place `least` on
abbrev pub rising_in : ℕ → List (List ℕ) → Option (List Addr)
rising_in least [] = Some []
rising_in least (word ∷ words) =
    addr_in word >>= λ addr. if nat_le least (rank addr) then (rising_in (rank addr + 1) words >>= λ others. Some (addr ∷ others)) else None

-- a first address, and those in further words
abbrev pub rising_behind : Addr → List (List ℕ) → Option (List Addr)
rising_behind start words = rising_in (rank start + 1) words >>= λ others. Some (start ∷ others)

-- one ADDR or more in strictly rising order, or `-` for none
unfoldable pub nodes_behind : List (List ℕ) → Option (List Addr)
nodes_behind [] = None
nodes_behind (word ∷ words) = if is_dash word then last [] words else (addr_in word >>= λ start. rising_behind start words)

-- what words say, all of them
unfoldable pub row_in : List (List ℕ) → Option PairRow
row_in [] = None
row_in (name ∷ words) =
    if bytes_eq name at_word then potential_row words
    else (if bytes_eq name first_word then (some_addrs words >>= λ addrs. Some (rows.First addrs))
    else (if bytes_eq name second_word then (some_addrs words >>= λ addrs. Some (rows.Second addrs))
    else (if bytes_eq name cut_word then (nodes_behind words >>= λ nodes. Some (rows.Cut nodes)) else None)))
