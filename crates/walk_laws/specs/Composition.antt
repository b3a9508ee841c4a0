-- Why least costs compose along a domain sequence (RFC 5441, section 4.2): walks split and join, and over the least costs beyond
-- its border a domain's join is the least cost of the whole.
use Rattle.std.specs.Prelude.{◌≡◌, ◌+◌, ℕ, List, [], ◌∷◌, ◌++◌, Contains, None, Some}
use Rattle.std.specs.declared.option.Option.{Option}
use Rattle.dom_base.specs.declared.addr.Addr.{Addr}
use Rattle.dom_base.specs.declared.names.As.{As}
use Rattle.dom_base.specs.declared.link.Link.{Link}
use Rattle.dom_base.specs.declared.query.Query.{Query}
use Rattle.dom_base.specs.declared.query.Seed.{Seed}
use Rattle.dom_base.specs.declared.query.Label.{Label}
use Rattle.te_links.specs.Rows.{Rows}
use Rattle.walk_laws.specs.Walks.{Walk, cost}
use Rattle.walk_laws.specs.Labels.{IsLabel}
use Rattle.walk_laws.specs.Crossing.{Goal, At, Told, query_in, IsLeastCost, HasNoCrossing}
use Rattle.walk_laws.specs.Borders.{Beyond, IsJoin, IsJoinAt, AreBorderSeeds}

-- walks that meet make one, and their costs add up
abbrev pub WalksJoin : Type 0
WalksJoin =
    (g : Rows) (q : Query) (u v w : Addr) (ls ms : List Link) → Walk g q u v ls → Walk g q v w ms →
    Walk g q u w (ls ++ ms) × (cost q (ls ++ ms) ≡ cost q ls + cost q ms)

-- a walk splits behind any of its links
abbrev pub WalksSplit : Type 0
WalksSplit =
    (g : Rows) (q : Query) (u w : Addr) (ls ms : List Link) → Walk g q u w (ls ++ ms) →
    (v : Addr) × Walk g q u v ls × Walk g q v w ms

-- the labels over a job's seeds are its join
abbrev pub LabelIsJoin : Type 0
LabelIsJoin =
    (g : Rows) (q : Query) (next : As) (down : List Beyond) (seeds : List Seed) → AreBorderSeeds g q next down seeds →
    (entry : Addr) (o : Option Label) → IsLabel g q seeds entry o → IsJoin g q next down entry o

-- the least cost to a node of the domain is the label over that node as the one seed
abbrev pub LabelIsJoinAt : Type 0
LabelIsJoinAt =
    (g : Rows) (q : Query) (t : Addr) (seed : Seed) → seed.node ≡ t → seed.cost ≡ 0 → seed.exit ≡ t →
    (entry : Addr) (o : Option Label) → IsLabel g q (seed ∷ []) entry o → IsJoinAt g q t entry o

-- the node is an entry of h from a domain
abbrev pub IsEntryFrom : Rows → As → Addr → Type 0
IsEntryFrom h from_as n = Contains h.entries (record { node = n; from_as = from_as })

-- The rows are right for the domains beyond: each is the least cost of a feasible crossing walk from an entry, and an entry without
-- a row has no such walk.
pub record AreBeyond (q : Query) (from_as : As) (h : Rows) (rest : List Rows) (goal : Goal) (down : List Beyond) : Type 0 where
  pub each : (n : Addr) (c : ℕ) → Contains down (record { node = n; cost = c }) → IsEntryFrom h from_as n × IsLeastCost q h rest n goal c
  pub absent : (n : Addr) → IsEntryFrom h from_as n → ((c : ℕ) → ¬ Contains down (record { node = n; cost = c })) → HasNoCrossing q h rest n goal

-- the cost in the pair is the least of a feasible crossing walk, and the pair is absent where there is none
abbrev pub IsLeastOf : Query → Rows → List Rows → Addr → Goal → Option Label → Type 0
IsLeastOf q g rest s goal None = HasNoCrossing q g rest s goal
IsLeastOf q g rest s goal (Some a) = IsLeastCost q g rest s goal a.cost

-- over right rows beyond, the join is the least of the whole list of domains
abbrev pub JoinComposes : Type 0
JoinComposes =
    (q : Query) (g h : Rows) (rest : List Rows) (goal : Goal) (down : List Beyond) → AreBeyond q g.own h rest goal down →
    (entry : Addr) (o : Option Label) → IsJoin g (query_in q g.own) h.own down entry o → IsLeastOf q g (h ∷ rest) entry goal o

-- and so it is in the last domain
abbrev pub JoinEnds : Type 0
JoinEnds =
    (q : Query) (g : Rows) (entry t : Addr) (o : Option Label) → IsJoinAt g (query_in q g.own) t entry o → IsLeastOf q g [] entry (At t) o

-- also over rows that were told of the domain beyond it, whatever they are
abbrev pub JoinReports : Type 0
JoinReports =
    (q : Query) (g : Rows) (next : As) (down : List Beyond) (entry : Addr) (o : Option Label) →
    IsJoin g (query_in q g.own) next down entry o → IsLeastOf q g [] entry (Told next down) o
