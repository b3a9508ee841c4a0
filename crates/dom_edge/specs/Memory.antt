-- What the sources, sinks, stores and clocks in memory hold, and what the real ones count.
use Rattle.std.specs.Prelude.{◌≡◌, ◌<◌, ℕ, List, [], ◌∷◌, length, max, Contains, None, Some, ◌⊎◌}
use Rattle.dom_base.specs.declared.names.Tick.{Tick}
use Rattle.dom_edge.specs.Causes.{next_count, IsCounted}
use Rattle.dom_edge.specs.Stores.{file_named}

-- the calls of a value so far, those of them that are to fail, and how many failed
pub record Calls : Type 0 where
  pub made : ℕ
  pub fails : List ℕ
  pub faults : ℕ

-- no call was made yet
abbrev pub no_calls : List ℕ → Calls
no_calls fails = record { made = 0; fails = fails; faults = 0 }

-- this call is one that is to fail
abbrev pub IsPlanned : Calls → Type 0
IsPlanned calls = Contains calls.fails calls.made

-- one more call was made; a fault is counted exactly where it failed
pub record IsCalled (old new : Calls) (Fails : Type 0) : Type 0 where
  pub made : new.made ≡ next_count old.made
  pub fails : new.fails ≡ old.fails
  pub faults : IsCounted old.faults new.faults Fails

-- the bytes that a source has left
pub record SourceState : Type 0 where
  pub left : List ℕ
  pub calls : Calls

-- the bytes that were written to a sink
pub record SinkState : Type 0 where
  pub written : List ℕ
  pub calls : Calls

-- the files of a store with their names, and the name at which a read last failed
pub record StoreState : Type 0 where
  pub files : List (List ℕ × List ℕ)
  pub failed_at : List ℕ
  pub calls : Calls

-- the next read of that name is to fail, or there is no file of it
abbrev pub HasFault : StoreState → List ℕ → Type 0
HasFault store name = IsPlanned store.calls ⊎ (file_named store.files name ≡ None)

-- the file of that name has more bytes than the limit
abbrev pub IsLong : StoreState → List ℕ → ℕ → Type 0
IsLong store name limit = (bytes : List ℕ) × (file_named store.files name ≡ Some bytes) × (limit < length bytes)

-- a reader or a writer, and how often it failed
pub record Counted (Inner : Type 0) : Type 0 where
  pub inner : Inner
  pub faults : ℕ

-- how often a store failed, and the name at which it last did
pub record FileCounts : Type 0 where
  pub faults : ℕ
  pub failed_at : List ℕ

-- the readings that a clock has left, its last one, and how many were taken
pub record ClockState : Type 0 where
  pub later : List Tick
  pub last : ℕ
  pub readings : ℕ

-- the next reading, or the last one where none is left or the next would fall
abbrev pub next_reading : List Tick → ℕ → ℕ
next_reading [] last = last
next_reading (tick ∷ later) last = max last tick.0
