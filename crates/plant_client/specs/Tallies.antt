-- The tally of the answers to many requests.
use Rattle.std.specs.Prelude.{ℕ, ◌+◌, max, Bool, true, false, List, [], ◌∷◌, length, sum, count_by, Option, Some, None}
use Rattle.std.specs.List.{filter_map}
use Rattle.plant_client.specs.declared.hearing.Heard.{Heard}
use Rattle.plant_client.specs.declared.hearing.Heard.TheVariants as heard
use Rattle.plant_client.specs.Hearing.{heard_in}
use Rattle.plant_client.specs.declared.tally.Tally.{Tally}

-- the cost of the path that an answer has
abbrev pub cost_in : Heard → Option ℕ
cost_in (heard.Path cost) = Some cost
cost_in heard.NoPath = None
cost_in heard.Nothing = None

abbrev pub is_no_path : Heard → Bool
is_no_path (heard.Path cost) = false
is_no_path heard.NoPath = true
is_no_path heard.Nothing = false

-- the costs of the paths that the answers have
abbrev pub costs_in : List (List ℕ) → List ℕ
costs_in received = filter_map (λ r. cost_in (heard_in r)) received

-- the greatest; 0 where there is none
abbrev pub greatest : List ℕ → ℕ
greatest [] = 0
greatest (c ∷ cs) = max c (greatest cs)

-- of what was received for each request
abbrev pub tally_of : List (List ℕ) → Tally
tally_of received = record {
  paths = length (costs_in received);
  none = count_by (λ r. is_no_path (heard_in r)) received;
  sum = sum (costs_in received);
  greatest = greatest (costs_in received);
}

-- one answer more
abbrev pub with_heard : Tally → Heard → Tally
with_heard t (heard.Path cost) = record { paths = t.paths + 1; none = t.none; sum = t.sum + cost; greatest = max t.greatest cost }
with_heard t heard.NoPath = record { paths = t.paths; none = t.none + 1; sum = t.sum; greatest = t.greatest }
with_heard t heard.Nothing = t
