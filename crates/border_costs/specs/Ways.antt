-- The ways out of a domain, each with the labels over it alone.
use Rattle.std.specs.Prelude.{◌≡◌, ◌<◌, ◌≤◌, ℕ, List, [], ◌∷◌, map, All, AllPairs, Contains, Some, slice_get, option_map}
use Rattle.std.specs.declared.option.Option.{Option}
use Rattle.dom_base.specs.AddrOrder.{rank}
use Rattle.dom_base.specs.declared.addr.Addr.{Addr}
use Rattle.dom_base.specs.declared.names.As.{As}
use Rattle.dom_base.specs.declared.border.BorderRow.{BorderRow}
use Rattle.dom_base.specs.declared.query.Query.{Query}
use Rattle.dom_base.specs.Admission.{weight}
use Rattle.te_links.specs.declared.rows.OutLink.{OutLink}
use Rattle.te_links.specs.Rows.{Rows}
use Rattle.walk_laws.specs.Borders.{LeadsTo}
use Rattle.path_search.specs.Arcs.{label_at}
use Rattle.path_search.specs.Search.{AreLabels}
use Rattle.border_costs.specs.declared.job.Target.{Target}
use Rattle.border_costs.specs.declared.job.Target.TheVariants.{Node, Next}
use Rattle.border_costs.specs.declared.ways.Way.{Way}
use Rattle.border_costs.specs.declared.table.Column.{Column}
use Rattle.border_costs.specs.Asks.{target_seed}

-- the way over an admitted out link: its weight at its tail, with its far address as the exit, and its head
pub record IsWayOver (g : Rows) (q : Query) (next : As) (o : OutLink) (w : Way) : Type 0 where
  pub out : LeadsTo g q next o
  pub node : w.seed.node ≡ o.link.from
  pub cost : w.seed.cost ≡ weight q.metric o.link
  pub exit : w.seed.exit ≡ o.link.far
  pub head : w.head ≡ o.link.to

-- the out link at a place gives this way
pub record IsWayAt (g : Rows) (q : Query) (next : As) (index : ℕ) (w : Way) : Type 0 where
  pub out : OutLink
  pub at : slice_get g.outs index ≡ Some out
  pub over : IsWayOver g q next out w

-- or none within the cap
abbrev pub IsNoWayAt : Rows → Query → As → ℕ → Type 0
IsNoWayAt g q next index = (w : Way) → IsWayAt g q next index w → ¬ (w.seed.cost ≤ q.cap)

-- the target of a walk in this domain, as a way out
abbrev pub target_way : Addr → Way
target_way t = record { seed = target_seed t; head = t }

abbrev pub IsWay : Rows → Query → Target → Way → Type 0
IsWay g q (Node t) w = w ≡ target_way t
IsWay g q (Next b) w = (o : OutLink) × IsWayOver g q b o w

-- all ways within the cap, in the order of their exits
pub record AreWays (g : Rows) (q : Query) (target : Target) (ways : List Way) : Type 0 where
  pub each : (w : Way) → Contains ways w → IsWay g q target w
  pub every : (w : Way) → IsWay g q target w → w.seed.cost ≤ q.cap → Contains ways w
  pub rising : AllPairs (λ v w. rank v.seed.exit < rank w.seed.exit) ways

-- each way with the labels over it
pub record AreColumns (g : Rows) (q : Query) (target : Target) (columns : List Column) : Type 0 where
  pub ways : AreWays g q target (map (λ c. c.way) columns)
  pub labels : All (λ c. AreLabels g q (c.way.seed ∷ []) c.labels) columns

-- the row of a node over a way, by the label at the node's place
abbrev pub row_at : ℕ → Addr → Column → Option BorderRow
row_at place entry c = option_map (λ a. record { entry = entry; far = c.way.seed.exit; head = c.way.head; cost = a.cost }) (label_at c.labels place)
