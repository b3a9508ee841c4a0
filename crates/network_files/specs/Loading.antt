-- Which value a file of a store gives, and why it gives none.
use Rattle.std.specs.Prelude.{◌≡◌, ◌≤◌, ℕ, List, length, Option}
use Rattle.dom_edge.specs.Causes.{Rose}
use Rattle.dom_edge.specs.Stores.{Files, HasFile, IfFile, IsLongFile}
use Rattle.dom_edge.specs.declared.store.StoreError.{StoreError}
use Rattle.dom_edge.specs.declared.store.StoreError.TheVariants as store
use Rattle.network_files.specs.declared.loading.LoadError.{LoadError}
use Rattle.network_files.specs.declared.loading.LoadError.TheVariants as errors

-- the file of that name has at most so many bytes, and this is what they say
pub record FileSays {V : Type 0} (Says : List ℕ → V → Type 0) (limit : ℕ) (files : Option Files) (name : List ℕ) (value : V) : Type 0 where
  pub bytes : List ℕ
  pub is_file : HasFile files name bytes
  pub within : length bytes ≤ limit
  pub is_text : Says bytes value

-- Why that file gives no value, where `IsFault` is what is wrong with bytes. `counts` are the store's faults before and after, and
-- `failed_at` the name at which it last failed.
abbrev pub IsWhyNot : {F : Type 0} → (List ℕ → F → Type 0) → ℕ → Option Files → List ℕ → ℕ × ℕ → List ℕ → LoadError F → Type 0
IsWhyNot {F} IsFault limit files name counts failed_at errors.Failed = Rose counts.0 counts.1 × (failed_at ≡ name)
IsWhyNot {F} IsFault limit files name counts failed_at errors.TooLong = IsLongFile files name limit
IsWhyNot {F} IsFault limit files name counts failed_at (errors.Fault fault) = IfFile files name (λ bytes. IsFault bytes fault)
IsWhyNot {F} IsFault limit files name counts failed_at errors.NoMemory = Unit {0}

-- the error for a file that was not read
abbrev pub unread : {F : Type 0} → StoreError → LoadError F
unread {F} store.TooLong = errors.TooLong
unread {F} store.Failed = errors.Failed
unread {F} store.NoMemory = errors.NoMemory
