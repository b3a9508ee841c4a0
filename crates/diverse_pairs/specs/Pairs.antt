-- Pairs of walks that have no link in common (RFC 5440, section 7.13.2, link diversity), and which of them are least.
use Rattle.std.specs.Prelude.{◌≢◌, ◌+◌, ◌≤◌, ℕ, List, ◌++◌, AllPairs}
use Rattle.dom_base.specs.declared.limits.TheConstants.{COST_MAX}
use Rattle.dom_base.specs.declared.addr.Addr.{Addr}
use Rattle.dom_base.specs.declared.link.Link.{Link}
use Rattle.dom_base.specs.declared.query.Query.{Query}
use Rattle.te_links.specs.Rows.{Rows}
use Rattle.walk_laws.specs.Walks.{Walk, cost}

-- two walks from s to t; no link occurs twice in the two lists together
pub record IsPair (g : Rows) (q : Query) (s t : Addr) (first second : List Link) : Type 0 where
  pub first_walk : Walk g q s t first
  pub second_walk : Walk g q s t second
  pub diverse : AllPairs (λ l m. l ≢ m) (first ++ second)

-- the cost of both
abbrev pub pair_sum : Query → List Link → List Link → ℕ
pair_sum q first second = cost q first + cost q second

-- a pair within the greatest cost
pub record IsFeasiblePair (g : Rows) (q : Query) (s t : Addr) (first second : List Link) : Type 0 where
  pub pair : IsPair g q s t first second
  pub within : pair_sum q first second ≤ COST_MAX

-- no pair has a smaller sum
pub record IsLeastPair (g : Rows) (q : Query) (s t : Addr) (first second : List Link) : Type 0 where
  pub pair : IsPair g q s t first second
  pub least : (one other : List Link) → IsPair g q s t one other → pair_sum q first second ≤ pair_sum q one other

abbrev pub HasNoPair : Rows → Query → Addr → Addr → Type 0
HasNoPair g q s t = (one other : List Link) → ¬ IsPair g q s t one other
