-- The text of lines of words as it is written: single blanks between words, LF at the end of each line.
use Rattle.std.specs.Prelude.{◌≢◌, ℕ, ◌+◌, ◌<◌, List, [], ◌∷◌, ◌++◌, length, slice_index}
use Rattle.std.specs.List.{AllByRecursion, join_with_byte, flat_map}
use Rattle.line_text.specs.Lines.{NumberedLine}

abbrev pub joined : List (List ℕ) → List ℕ
joined words = join_with_byte 32 words

abbrev pub line_text : List (List ℕ) → List ℕ
line_text words = joined words ++ 10 ∷ []

abbrev pub text_of : List (List (List ℕ)) → List ℕ
text_of lines = flat_map line_text lines

-- one byte or more, each greater than the blank
pub record IsWord (word : List ℕ) : Type 0 where
  pub some : 0 < length word
  pub bytes : AllByRecursion (λ c. 32 < c) word

-- words, the first of which begins no comment
pub record IsLine (words : List (List ℕ)) : Type 0 where
  pub some : 0 < length words
  pub each : AllByRecursion IsWord words
  pub first : slice_index (joined words) 0 ≢ 35

-- lines that follow some others, with their numbers
abbrev pub numbered_after : ℕ → List (List (List ℕ)) → List NumberedLine
numbered_after before [] = []
numbered_after before (words ∷ others) = record { number = before + 1; text = joined words } ∷ numbered_after (before + 1) others
