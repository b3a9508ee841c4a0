-- Walks through several domains in order (RFC 5441: a path along a domain sequence), to a node of the last domain or over a row that
-- was told of the domain beyond it.
use Rattle.std.specs.Prelude.{◌≡◌, ◌+◌, ◌≤◌, ℕ, List, [], ◌∷◌, Contains}
use Rattle.dom_base.specs.declared.addr.Addr.{Addr}
use Rattle.dom_base.specs.declared.names.As.{As}
use Rattle.dom_base.specs.declared.link.Link.{Link}
use Rattle.dom_base.specs.declared.query.Query.{Query}
use Rattle.dom_base.specs.Admission.{weight, Allows}
use Rattle.te_links.specs.declared.rows.OutLink.{OutLink}
use Rattle.te_links.specs.Rows.{Rows}
use Rattle.walk_laws.specs.Walks.{Walk, cost}
use Rattle.walk_laws.specs.Borders.{Beyond, LeadsTo}

-- the query as it stands in a domain
abbrev pub query_in : Query → As → Query
query_in q own = record q { own = own }

-- an out link of the domain towards another one, admitted, whose head that one lists as an entry
pub record Crosses (g h : Rows) (q : Query) (o : OutLink) : Type 0 where
  pub is_out : Contains g.outs o
  pub towards : o.to_as ≡ h.own
  pub allowed : Allows (query_in q g.own) o.link
  pub entry : Contains h.entries (record { node = o.link.to; from_as = g.own })

-- the part of a walk in one domain, and the out link by which it leaves
pub record Leg : Type 0 where
  pub links : List Link
  pub out : OutLink

-- Where walks are to end: at a node of the last domain, or in a domain beyond it, of which rows were told.
pub data Goal : Type 0 where
  At : (node : Addr) → Goal
  Told : (next : As) → (rows : List Beyond) → Goal

-- How a walk ends: with links of the last domain, or with a leg out of it and the cost of a told row.
pub data Last : Type 0 where
  Links : List Link → Last
  Over : Leg → ℕ → Last

-- The end of a walk leads from s to the goal: by inner links to the node, or by inner links and an admitted out link to a head of which
-- a row of that cost was told.
abbrev pub Arrives : Rows → Query → Addr → Goal → Last → Type 0
Arrives g q s (At t) (Links last) = Walk g q s t last
Arrives g q s (Told next rows) (Over leg beyond) =
    Walk g q s leg.out.link.from leg.links × LeadsTo g q next leg.out × Contains rows (record { node = leg.out.link.to; cost = beyond })
Arrives g q s (At t) (Over leg beyond) = ⊥
Arrives g q s (Told next rows) (Links last) = ⊥

-- A walk from a node of the first domain to a goal: a leg in each domain but the last, and its end there.
abbrev pub CrossingWalk : Query → Rows → List Rows → Addr → Goal → List Leg → Last → Type 0
CrossingWalk q g [] s goal [] last = Arrives g (query_in q g.own) s goal last
CrossingWalk q g (h ∷ rest) s goal (leg ∷ legs) last =
    Walk g (query_in q g.own) s leg.out.link.from leg.links × Crosses g h q leg.out × CrossingWalk q h rest leg.out.link.to goal legs last
CrossingWalk q g [] s goal (leg ∷ legs) last = ⊥
CrossingWalk q g (h ∷ rest) s goal [] last = ⊥

-- the sum over all links, and the cost that was told
abbrev pub last_cost : Query → Last → ℕ
last_cost q (Links last) = cost q last
last_cost q (Over leg beyond) = cost q leg.links + weight q.metric leg.out.link + beyond

abbrev pub crossing_cost : Query → List Leg → Last → ℕ
crossing_cost q [] last = last_cost q last
crossing_cost q (leg ∷ legs) last = cost q leg.links + weight q.metric leg.out.link + crossing_cost q legs last

-- within the cap
pub record IsFeasibleCrossing (q : Query) (g : Rows) (rest : List Rows) (s : Addr) (goal : Goal) (legs : List Leg) (last : Last) : Type 0 where
  pub walk : CrossingWalk q g rest s goal legs last
  pub within : crossing_cost q legs last ≤ q.cap

-- and none within the cap costs less
pub record IsLeastCrossing (q : Query) (g : Rows) (rest : List Rows) (s : Addr) (goal : Goal) (legs : List Leg) (last : Last) : Type 0 where
  pub feasible : IsFeasibleCrossing q g rest s goal legs last
  pub least : (other : List Leg) (end : Last) → IsFeasibleCrossing q g rest s goal other end → crossing_cost q legs last ≤ crossing_cost q other end

-- c is the least cost of a feasible crossing walk
pub record IsLeastCost (q : Query) (g : Rows) (rest : List Rows) (s : Addr) (goal : Goal) (c : ℕ) : Type 0 where
  pub legs : List Leg
  pub last : Last
  pub least : IsLeastCrossing q g rest s goal legs last
  pub is : c ≡ crossing_cost q legs last

-- no crossing walk is feasible
abbrev pub HasNoCrossing : Query → Rows → List Rows → Addr → Goal → Type 0
HasNoCrossing q g rest s goal = (legs : List Leg) (last : Last) → ¬ IsFeasibleCrossing q g rest s goal legs last
