-- Spans of addresses, each from its first address to its last.
use Rattle.std.specs.Prelude.{◌<◌, ◌≤◌, ◌-◌, ℕ, List, length, Contains, slice_index_or}
use Rattle.std.specs.List.Sorted.{IsNonDecreasingBy}
use Rattle.dom_base.specs.AddrOrder.{rank}
use Rattle.dom_base.specs.declared.addr.Addr.{Addr}

abbrev pub IsWithin : Addr → Addr × Addr → Type 0
IsWithin a span = (rank span.0 ≤ rank a) × (rank a ≤ rank span.1)

-- some span has the address
pub record Covers (spans : List (Addr × Addr)) (a : Addr) : Type 0 where
  pub span : Addr × Addr
  pub is_one : Contains spans span
  pub within : IsWithin a span

-- no span begins before the one in front of it, or ends before it
pub record AreRising (spans : List (Addr × Addr)) : Type 0 where
  pub firsts : IsNonDecreasingBy (λ span. rank span.0) spans
  pub lasts : IsNonDecreasingBy (λ span. rank span.1) spans

-- a span begins no earlier than the last one
abbrev pub LeadsTo : List (Addr × Addr) → Addr × Addr → Type 0
LeadsTo spans span = 0 < length spans → rank (slice_index_or spans (length spans - 1) span).0 ≤ rank span.0

-- the span in front of the place begins at the address or before it, and the one there behind it
pub record IsPlaceOf (spans : List (Addr × Addr)) (a : Addr) (place : ℕ) : Type 0 where
  pub bound : place ≤ length spans
  pub before : (d : Addr × Addr) → 0 < place → rank (slice_index_or spans (place - 1) d).0 ≤ rank a
  pub behind : (d : Addr × Addr) → place < length spans → rank a < rank (slice_index_or spans place d).0
