-- What a walk leaves: the arcs beside it, and its own turned round. Each weighs by how much the way over it is dearer than the distance, and
-- then 1 for the arc itself.
use Rattle.std.specs.Prelude.{◌≡◌, ◌<◌, ◌+◌, ◌-◌, ◌*◌, ◌/◌, ◌==◌, ℕ, Bool, true, false, List, length, map, None, Some, slice_index_or, if◌then◌else◌}
use Rattle.std.specs.List.{range_with_len}
use Rattle.std.specs.declared.option.Option.{Option}
use Rattle.diverse_pairs.specs.declared.arcs.Arc.{Arc}
use Rattle.diverse_pairs.specs.declared.arcs.TheConstants.{UNREACHED}
use Rattle.diverse_pairs.specs.declared.residual.TheConstants.{SCALE}
use Rattle.diverse_pairs.specs.Arcs.{at, is_used}

-- how much dearer the way over an arc is than the distance
abbrev pub excess : List ℕ → Arc → ℕ
excess ds a = a.weight + at ds a.head - at ds a.tail

abbrev pub scaled : List ℕ → Arc → ℕ
scaled ds a = excess ds a * SCALE + 1

abbrev pub residual_arc : List ℕ → Bool → Arc → Arc
residual_arc ds false a = record { tail = a.tail; head = a.head; weight = scaled ds a }
residual_arc ds true a = record { tail = a.head; head = a.tail; weight = scaled ds a }

-- where an arc ends, or one that is turned round
abbrev pub end_with : Bool → Arc → ℕ
end_with false a = a.head
end_with true a = a.tail

-- none where no path leads on
abbrev pub residual_of : List ℕ → Bool → Option Arc → Option Arc
residual_of ds used None = None
residual_of ds used (Some a) = if at ds a.head == UNREACHED then None else Some (residual_arc ds used a)

-- the arcs that a walk leaves, by the places of those that they are of
abbrev pub left_arcs : List ℕ → List Bool → List (Option Arc) → List (Option Arc)
left_arcs ds us arcs = map (λ i. residual_of ds (is_used us i) (slice_index_or arcs i None)) (range_with_len 0 (length arcs))

pub record AreResidual (arcs : List (Option Arc)) (ds : List ℕ) (us : List Bool) (rs : List (Option Arc)) : Type 0 where
  pub long : length rs ≡ length arcs
  pub each : (i : ℕ) → slice_index_or rs i None ≡ residual_of ds (is_used us i) (slice_index_or arcs i None)

-- the distance over what a walk leaves: the cost of the dearer ways, and the distance itself
abbrev pub height_of : ℕ → ℕ → ℕ
height_of first second = if second == UNREACHED then UNREACHED else (second / SCALE + first)

pub record AreHeights (first second heights : List ℕ) : Type 0 where
  pub long : length heights ≡ length first
  pub each : (n : ℕ) → n < length first → at heights n ≡ height_of (at first n) (at second n)
