-- Border tables, and what they join with.
use Rattle.std.specs.Prelude.{◌≡◌, ◌+◌, ◌≤◌, ℕ, List, Contains, None, Some}
use Rattle.std.specs.declared.option.Option.{Option}
use Rattle.dom_base.specs.declared.addr.Addr.{Addr}
use Rattle.dom_base.specs.declared.names.As.{As}
use Rattle.dom_base.specs.declared.link.Link.{Link}
use Rattle.dom_base.specs.declared.query.Query.{Query}
use Rattle.dom_base.specs.declared.query.Label.{Label}
use Rattle.dom_base.specs.declared.query.Seed.{Seed}
use Rattle.dom_base.specs.Admission.{weight, Allows}
use Rattle.te_links.specs.declared.rows.OutLink.{OutLink}
use Rattle.te_links.specs.Rows.{Rows}
use Rattle.walk_laws.specs.Walks.{IsFeasible, IsLeast, cost}
use Rattle.walk_laws.specs.Labels.{◌≼◌}

-- an admitted out link towards a domain
pub record LeadsTo (g : Rows) (q : Query) (next : As) (o : OutLink) : Type 0 where
  pub is_out : Contains g.outs o
  pub towards : o.to_as ≡ next
  pub allowed : Allows q o.link

-- the row of an entry and an out link: the least cost to the link's tail and its weight, within the cap
pub record IsBorderRow (g : Rows) (q : Query) (next : As) (entry : Addr) (o : OutLink) (total : ℕ) : Type 0 where
  pub out : LeadsTo g q next o
  pub links : List Link
  pub least : IsLeast g q entry o.link.from links
  pub sum : total ≡ cost q links + weight q.metric o.link
  pub within : total ≤ q.cap

-- a node beyond the border, and a cost from there
pub record Beyond : Type 0 where
  pub node : Addr
  pub cost : ℕ

-- the least cost among the rows of a node
pub record IsDown (down : List Beyond) (n : Addr) (c : ℕ) : Type 0 where
  pub is_row : Contains down (record { node = n; cost = c })
  pub least : (d : ℕ) → Contains down (record { node = n; cost = d }) → c ≤ d

-- a row of the border table with what lies beyond it
pub record Joins (g : Rows) (q : Query) (next : As) (down : List Beyond) (entry : Addr) (a : Label) : Type 0 where
  pub out : OutLink
  pub total : ℕ
  pub row : IsBorderRow g q next entry out total
  pub beyond : ℕ
  pub is_down : IsDown down out.link.to beyond
  pub sum : a.cost ≡ total + beyond
  pub exit : a.exit ≡ out.link.far
  pub within : a.cost ≤ q.cap

-- the join of an entry: the least pair of a sum and a far address, or none
abbrev pub IsJoin : Rows → Query → As → List Beyond → Addr → Option Label → Type 0
IsJoin g q next down entry None = (a : Label) → ¬ Joins g q next down entry a
IsJoin g q next down entry (Some a) = Joins g q next down entry a × ((b : Label) → Joins g q next down entry b → a ≼ b)

-- the same for a node of the domain: the least cost of a walk to it, with the node itself as the exit
pub record JoinsAt (g : Rows) (q : Query) (t entry : Addr) (a : Label) : Type 0 where
  pub links : List Link
  pub least : IsLeast g q entry t links
  pub sum : a.cost ≡ cost q links
  pub exit : a.exit ≡ t

abbrev pub IsJoinAt : Rows → Query → Addr → Addr → Option Label → Type 0
IsJoinAt g q t entry None = (links : List Link) → ¬ IsFeasible g q entry t links
IsJoinAt g q t entry (Some a) = JoinsAt g q t entry a

-- the seed of an admitted out link whose head has a row beyond: the sum, within the cap, at the link's tail
pub record IsBorderSeed (g : Rows) (q : Query) (next : As) (down : List Beyond) (o : OutLink) (s : Seed) : Type 0 where
  pub out : LeadsTo g q next o
  pub beyond : ℕ
  pub is_down : IsDown down o.link.to beyond
  pub node : s.node ≡ o.link.from
  pub sum : s.cost ≡ weight q.metric o.link + beyond
  pub exit : s.exit ≡ o.link.far
  pub within : s.cost ≤ q.cap

-- the seeds of a job: each is that of an out link, and each out link that has a seed gives it
pub record AreBorderSeeds (g : Rows) (q : Query) (next : As) (down : List Beyond) (seeds : List Seed) : Type 0 where
  pub each : (s : Seed) → Contains seeds s → (o : OutLink) × IsBorderSeed g q next down o s
  pub every : (o : OutLink) (s : Seed) → IsBorderSeed g q next down o s → Contains seeds s
