-- What a topology is: the rows of the traffic engineering database of one domain (RFC 4655, section 5.2).
use Rattle.std.specs.Prelude.{◌≡◌, ◌≢◌, ◌⊎◌, ◌≤◌, ◌<◌, ◌==◌, ℕ, List, ◌++◌, length, map, count_by, All, AllPairs, Contains}
use Rattle.dom_base.specs.AddrOrder.{rank}
use Rattle.dom_base.specs.declared.addr.Addr.{Addr}
use Rattle.dom_base.specs.declared.names.As.{As}
use Rattle.dom_base.specs.declared.link.Link.{Link}
use Rattle.te_links.specs.declared.rows.OutLink.{OutLink}
use Rattle.te_links.specs.declared.rows.Entry.{Entry}
use Rattle.te_links.specs.declared.limits.TheConstants.{NODES_MAX, LINKS_MAX, OUTS_MAX, TAILS_MAX, ENTRIES_MAX, ENTRY_NODES_MAX, SRLGS_MAX, METRIC_MAX}

-- the rows of a domain
pub record Rows : Type 0 where
  pub own : As
  pub nodes : List Addr
  pub links : List Link
  pub outs : List OutLink
  pub entries : List Entry

abbrev pub IsMetric : ℕ → Type 0
IsMetric value = (1 ≤ value) × (value ≤ METRIC_MAX)

-- what holds of each link, inner or out
pub record IsLink (nodes : List Addr) (l : Link) : Type 0 where
  pub few_srlgs : length l.srlgs ≤ SRLGS_MAX
  pub from : Contains nodes l.from
  pub igp : IsMetric l.igp
  pub te : IsMetric l.te

-- a link between nodes of the domain
pub record IsInnerLink (nodes : List Addr) (l : Link) : Type 0 where
  pub link : IsLink nodes l
  pub to : Contains nodes l.to

-- the number of another domain
abbrev pub IsForeign : As → As → Type 0
IsForeign own other = (other ≢ own) × (1 ≤ other.0)

pub record IsOutLink (own : As) (nodes : List Addr) (o : OutLink) : Type 0 where
  pub link : IsLink nodes o.link
  pub foreign : IsForeign own o.to_as

pub record IsEntry (own : As) (nodes : List Addr) (e : Entry) : Type 0 where
  pub node : Contains nodes e.node
  pub foreign : IsForeign own e.from_as

-- all links, inner and out
abbrev pub all_links : Rows → List Link
all_links g = g.links ++ map (λ o. o.link) g.outs

-- at most so many different addresses stand in a list
abbrev pub FewDifferent : ℕ → List Addr → Type 0
FewDifferent most list = (some : List Addr) → AllPairs (λ a b. a ≢ b) some → All (Contains list) some → length some ≤ most

-- the out links leave at few nodes
abbrev pub FewTails : List OutLink → Type 0
FewTails outs = FewDifferent TAILS_MAX (map (λ o. o.link.from) outs)

-- few entries are for one neighbouring domain
abbrev pub FewEntries : List Entry → Type 0
FewEntries entries = (other : As) → count_by (λ e. e.from_as.0 == other.0) entries ≤ ENTRIES_MAX

-- the entries stand at few nodes
abbrev pub FewEntryNodes : List Entry → Type 0
FewEntryNodes entries = FewDifferent ENTRY_NODES_MAX (map (λ e. e.node) entries)

-- the rows obey the rules of a topology
pub record IsTopology (g : Rows) : Type 0 where
  pub few_nodes : length g.nodes ≤ NODES_MAX
  pub nodes_differ : AllPairs (λ a b. a ≢ b) g.nodes
  pub few_links : length g.links ≤ LINKS_MAX
  pub links : All (IsInnerLink g.nodes) g.links
  pub few_outs : length g.outs ≤ OUTS_MAX
  pub few_tails : FewTails g.outs
  pub outs : All (IsOutLink g.own g.nodes) g.outs
  pub nears_differ : AllPairs (λ l m. l.near ≢ m.near) (all_links g)
  pub fars_differ : AllPairs (λ l m. l.far ≢ m.far) (all_links g)
  pub few_entries : FewEntries g.entries
  pub few_entry_nodes : FewEntryNodes g.entries
  pub entries : All (IsEntry g.own g.nodes) g.entries
  pub entries_differ : AllPairs (λ d e. d ≢ e) g.entries

-- entries go by their domain, then by their node
abbrev pub IsEntryBefore : Entry → Entry → Type 0
IsEntryBefore d e = (d.from_as.0 < e.from_as.0) ⊎ ((d.from_as.0 ≡ e.from_as.0) × (rank d.node < rank e.node))

-- nodes stand in the order of their addresses, links in that of their far addresses, entries in theirs
pub record IsInOrder (g : Rows) : Type 0 where
  pub nodes : AllPairs (λ a b. rank a < rank b) g.nodes
  pub links : AllPairs (λ l m. rank l.far < rank m.far) g.links
  pub outs : AllPairs (λ o p. rank o.link.far < rank p.link.far) g.outs
  pub entries : AllPairs IsEntryBefore g.entries
