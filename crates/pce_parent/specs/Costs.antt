-- Costs by the places of vertices, and their relaxation over edges.
use Rattle.std.specs.Prelude.{◌≡◌, ◌<◌, ◌≤◌, ◌+◌, ◌^◌, ℕ, cond, List, length, Option, Some, None, slice_index_or, sum_by}
use Rattle.pce_common.specs.plant_model.Types.{Addr}
use Rattle.dom_base.specs.declared.limits.TheConstants.{COST_MAX}
use Rattle.pce_common.specs.plant_model.declared.upper.BorderJob.{BorderJob}
use Rattle.pce_common.specs.plant_model.BorderGraph.{Vertex, Leave, Edge, IsEdge, IsEnd, BorderWalk}
use Rattle.pce_parent.specs.declared.arcs.Arc.{Arc}
use Rattle.pce_parent.specs.declared.spot.Spot.{Spot}
use Rattle.pce_parent.specs.Places.{IsAt, same_spot, spot_of}

-- the cost at a place
abbrev pub cost_at : List (Option ℕ) → ℕ → Option ℕ
cost_at costs k = slice_index_or costs k None

-- the cost at first
abbrev pub start_cost : Addr → Spot → Option ℕ
start_cost target s = cond (same_spot s (spot_of (Leave s.own target))) (Some 0) None

-- some walk to an end has this cost
abbrev pub Reaches : BorderJob → Vertex → ℕ → Type 0
Reaches j v c = (us : List Vertex) × BorderWalk j us v c

-- an arc from a vertex, whichever stands at its tail, is an edge
pub record IsStep (j : BorderJob) (spots : List Spot) (a : Arc) : Type 0 where
  pub tail : a.from < length spots
  pub head : a.to < length spots
  pub light : a.cost ≤ COST_MAX
  pub edge : (v : Vertex) → IsAt spots v a.from → (u : Vertex) × (x : Edge) × IsAt spots u a.to × IsEdge j v u x × (x.cost ≡ a.cost)

-- each cost is that of a walk within the cap, and an end has none
pub record AreReached (j : BorderJob) (spots : List Spot) (costs : List (Option ℕ)) : Type 0 where
  pub same_length : length costs ≡ length spots
  pub within : (k c : ℕ) → cost_at costs k ≡ Some c → c ≤ j.query.cap
  pub walks : (k c : ℕ) (v : Vertex) → cost_at costs k ≡ Some c → IsAt spots v k → Reaches j v c
  pub ends : (k : ℕ) (v : Vertex) → IsAt spots v k → IsEnd j v → cost_at costs k ≡ Some 0

-- the cost at the tail is at most the sum
abbrev pub IsRelaxed : ℕ → List (Option ℕ) → Arc → Type 0
IsRelaxed cap costs a = (rest : ℕ) → cost_at costs a.to ≡ Some rest → a.cost + rest ≤ cap → (c : ℕ) × (cost_at costs a.from ≡ Some c) × (c ≤ a.cost + rest)

-- a number that falls with a cost
abbrev pub height : Option ℕ → ℕ
height None = 2 ^ 32
height (Some c) = c

abbrev pub potential : List (Option ℕ) → ℕ
potential costs = sum_by height costs

abbrev pub Falls : List (Option ℕ) → List (Option ℕ) → Type 0
Falls old new = potential new < potential old
