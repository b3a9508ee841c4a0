-- The lines of a text with their numbers. A line ends with LF; a CR before it is no part of the line, and the last line may lack its LF.
use Rattle.std.specs.Prelude.{ℕ, ◌+◌, ◌==◌, ◌||◌, Bool, List, [], ◌∷◌, slice_index, if◌then◌else◌}
use Rattle.std.specs.List.{list_all}
use Rattle.std.specs.Str.Lines.{lines}
use Rattle.line_text.specs.Words.{is_blank}

pub record NumberedLine : Type 0 where
  pub number : ℕ
  pub text : List ℕ

-- a line of blanks alone, or a comment, which begins with `#`
abbrev pub is_skipped : List ℕ → Bool
is_skipped line = list_all is_blank line || (slice_index line 0 == 35)

-- the lines that are not skipped, numbered behind so many earlier lines; skipped lines count too
abbrev pub told_after : ℕ → List (List ℕ) → List NumberedLine
told_after before [] = []
told_after before (line ∷ others) =
    if is_skipped line then told_after (before + 1) others else record { number = before + 1; text = line } ∷ told_after (before + 1) others

-- the lines of a text that are neither blank nor a comment, numbered from 1
abbrev pub told_lines : List ℕ → List NumberedLine
told_lines bytes = told_after 0 (lines bytes)
