-- The words of a line: the bytes between its blanks, which are space and tab.
use Rattle.std.specs.Prelude.{ℕ, ◌-◌, ◌==◌, ◌||◌, ◌&&◌, Bool, not, List, Option, Some, None, length, filter, slice_index, if◌then◌else◌}
use Rattle.std.specs.List.{slice_split}

abbrev pub is_blank : ℕ → Bool
is_blank c = (c == 32) || (c == 9)

abbrev pub is_word : List ℕ → Bool
is_word piece = not (length piece == 0)

-- the words in order, however many blanks part them
abbrev pub all_words : List ℕ → List (List ℕ)
all_words line = filter is_word (slice_split is_blank line)

-- no blank stands before the first word or after the last
abbrev pub is_trimmed : List ℕ → Bool
is_trimmed line = not (is_blank (slice_index line 0)) && not (is_blank (slice_index line (length line - 1)))

-- the words of a line in the form that lines have
abbrev pub words_of : List ℕ → Option (List (List ℕ))
words_of line = if is_trimmed line then Some (all_words line) else None
