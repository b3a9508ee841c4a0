-- The transcript of events: as text, or none where nobody reads it.
use Rattle.std.specs.Prelude.{ℕ, Bool, cond, List, [], ◌++◌}

-- whether it is kept, and the text so far
pub record Told : Type 0 where
  pub is_kept : Bool
  pub text : List ℕ

-- a text is put behind what was told, where that is kept
abbrev pub behind : Told → List ℕ → Told
behind told more = record { is_kept = told.is_kept; text = cond told.is_kept (told.text ++ more) told.text }

-- nothing is told yet
abbrev pub untold : Bool → Told
untold is_kept = record { is_kept = is_kept; text = [] }
