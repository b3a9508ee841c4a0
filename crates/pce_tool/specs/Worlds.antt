-- What a run meets of the world outside: files, input and output.
use Rattle.std.specs.Prelude.{◌≡◌, ◌<◌, ℕ, List, codes, length, Option, IfSome}
use Rattle.std.specs.Io.KnownBytes.{Keeps}
use Rattle.dom_edge.specs.Causes.{Rose}
use Rattle.dom_edge.specs.Stores.{Files}
use Rattle.pce_tool.specs.Limits.{input_max}

-- What a run met: the files and the input, where they are known; what was written before it and after; how often the store, the
-- input and the output had failed before and after; and the name at which the store last failed.
pub record World : Type 0 where
  pub files : Option Files
  pub input : Option (List ℕ)
  pub before : Option (List ℕ)
  pub after : Option (List ℕ)
  pub store_faults : ℕ × ℕ
  pub input_faults : ℕ × ℕ
  pub output_faults : ℕ × ℕ
  pub failed_at : List ℕ

-- the same from its parts
abbrev pub world : Option Files → Option (List ℕ) → Option (List ℕ) × Option (List ℕ) → ℕ × ℕ → ℕ × ℕ → ℕ × ℕ → List ℕ → World
world files input written store_faults input_faults output_faults failed_at = record {
  files = files;
  input = input;
  before = written.0;
  after = written.1;
  store_faults = store_faults;
  input_faults = input_faults;
  output_faults = output_faults;
  failed_at = failed_at;
}

-- the input is these bytes, where that is known
abbrev pub HasInput : Option (List ℕ) → List ℕ → Type 0
HasInput input bytes = IfSome input (λ left. bytes ≡ left)

abbrev pub HasRisen : ℕ × ℕ → Type 0
HasRisen counts = Rose counts.0 counts.1

-- nothing was written
abbrev pub WroteNothing : World → Type 0
WroteNothing w = Keeps w.before w.after

-- more bytes stand in the input
abbrev pub IsLongInput : Option (List ℕ) → Type 0
IsLongInput input = IfSome input (λ left. input_max < length left)

abbrev pub input_name : List ℕ
input_name = codes "input"
