-- At which line of a settings text a row or a key of it stands, by the words that lines begin with.
use Rattle.std.specs.Prelude.{ℕ, ◌==◌, ◌<◌, ◌&&◌, ◌||◌, nat_le, nat_lt, Bool, false, not, List, [], ◌∷◌, length, filter, find, take, take_while, slice_get, slice_index, Option, Some, None}
use Rattle.std.specs.Str.{bytes_eq}
use Rattle.line_text.specs.Lines.{NumberedLine, told_lines}
use Rattle.line_text.specs.Words.{all_words}

-- ---- a line

-- this is the first of the words
abbrev pub is_first : List ℕ → List (List ℕ) → Bool
is_first header [] = false
is_first header (word ∷ words) = bytes_eq word header

abbrev pub heads : List ℕ → List ℕ → Bool
heads header line = is_first header (all_words line)

-- a line that begins with `[` begins a table
abbrev pub is_open : List (List ℕ) → Bool
is_open [] = false
is_open (word ∷ words) = slice_index word 0 == 91

abbrev pub opens : List ℕ → Bool
opens line = is_open (all_words line)

-- a key, or a key with `=` behind it
abbrev pub is_key : List ℕ → List ℕ → Bool
is_key key word = nat_le (length key) (length word) && bytes_eq (take (length key) word) key && ((length word == length key) || (slice_index word (length key) == 61))

abbrev pub is_named : List ℕ → List (List ℕ) → Bool
is_named key [] = false
is_named key (word ∷ words) = is_key key word

abbrev pub names_key : List ℕ → List ℕ → Bool
names_key key line = is_named key (all_words line)

-- ---- some lines of a text

-- each line has a greater number than the one before it, and the first than that
abbrev pub AreAbove : ℕ → List NumberedLine → Type 0
AreAbove n [] = Unit {0}
AreAbove n (l ∷ ls) = (n < l.number) × AreAbove l.number ls

abbrev pub number_or : ℕ → Option NumberedLine → ℕ
number_or default None = default
number_or default (Some l) = l.number

-- those with this header
abbrev pub headed : List ℕ → List NumberedLine → List NumberedLine
headed header ls = filter (λ l. heads header l.text) ls

-- those behind the line of that number
abbrev pub behind : ℕ → List NumberedLine → List NumberedLine
behind n ls = filter (λ l. nat_lt n l.number) ls

-- the first with that key, before one that begins a table
abbrev pub key_in : List ℕ → List NumberedLine → Option NumberedLine
key_in key ls = find (λ l. names_key key l.text) (take_while (λ l. not (opens l.text)) ls)

abbrev pub left_behind : List NumberedLine → Option NumberedLine → List NumberedLine
left_behind ls None = []
left_behind ls (Some l) = behind l.number ls

-- ---- lines by their numbers; 0 where there is none

-- the row with this header of which there are so many before
abbrev pub line_of : List ℕ → List ℕ → ℕ → ℕ
line_of text header i = number_or 0 (slice_get (headed header (told_lines text)) i)

-- a key of a row, whose line is this; where no line has it, the row
abbrev pub key_behind : List NumberedLine → List ℕ → Option NumberedLine → ℕ
key_behind ls key None = 0
key_behind ls key (Some row) = number_or row.number (key_in key (behind row.number ls))

abbrev pub value_line : List ℕ → List ℕ → ℕ → List ℕ → ℕ
value_line text header i key = key_behind (told_lines text) key (slice_get (headed header (told_lines text)) i)

-- a key that stands before all tables
abbrev pub top_line : List ℕ → List ℕ → ℕ
top_line text key = number_or 0 (key_in key (told_lines text))

-- a key of a row; without a header, a key before all tables
abbrev pub key_line : List ℕ → List ℕ → ℕ → List ℕ → ℕ
key_line text [] i key = top_line text key
key_line text (c ∷ header) i key = value_line text (c ∷ header) i key
