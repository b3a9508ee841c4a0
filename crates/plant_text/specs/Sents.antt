-- Messages as lines of a transcript.
use Rattle.std.specs.Prelude.{ℕ, decimal, List, [], ◌∷◌, ◌++◌}
use Rattle.dom_base.specs.declared.names.As.{As}
use Rattle.line_text.specs.Hexadecimal.{hex_text}

-- `LINE FROM>TO HEX`: 62 is `>`
abbrev pub sent_line : ℕ → As → List ℕ → List ℕ → List ℕ
sent_line line from to bytes = decimal line ++ 32 ∷ [] ++ decimal from.0 ++ 62 ∷ [] ++ to ++ 32 ∷ [] ++ hex_text bytes ++ 10 ∷ []
