-- Which rule of a topology a row breaks, and which breach is the first.
use Rattle.std.specs.Prelude.{◌≡◌, ◌⊎◌, ◌≤◌, ◌<◌, ◌+◌, ℕ, List, ◌++◌, Some, length, map, take, Contains, slice_get}
use Rattle.dom_base.specs.declared.addr.Addr.{Addr}
use Rattle.dom_base.specs.declared.link.Link.{Link}
use Rattle.te_links.specs.declared.rows.OutLink.{OutLink}
use Rattle.te_links.specs.declared.rows.Entry.{Entry}
use Rattle.te_links.specs.declared.rows.Parts.{Parts}
use Rattle.te_links.specs.declared.fault.TopoFault.{TopoFault}
use Rattle.te_links.specs.declared.fault.TopoFault.TheVariants.{TooMany, DuplicateNode, UnknownNode, OwnAs, BadMetric, DuplicateNear, DuplicateFar, DuplicateEntry, Syntax, NoHeader}
use Rattle.te_links.specs.declared.fault.Row.{Row}
use Rattle.te_links.specs.declared.fault.RowKind.{RowKind}
use Rattle.te_links.specs.declared.fault.RowKind.TheVariants.{Node, Link as InnerLink, Out, Entry as EntryRow}
use Rattle.te_links.specs.declared.fault.BuildError.{BuildError}
use Rattle.te_links.specs.declared.fault.BuildError.TheVariants.{Rule, NoMemory}
use Rattle.te_links.specs.declared.limits.TheConstants.{NODES_MAX, LINKS_MAX, OUTS_MAX, SRLGS_MAX}
use Rattle.te_links.specs.Rows.{Rows, IsMetric, IsForeign, FewTails, FewEntries, FewEntryNodes}

-- the rows that a topology is to be built from
abbrev pub rows_of_parts : Parts → Rows
rows_of_parts p = record { own = p.own; nodes = p.nodes; links = p.links; outs = p.outs; entries = p.entries }

-- the rules in their order at a row; the last two are of texts alone
abbrev pub fault_order : TopoFault → ℕ
fault_order TooMany = 0
fault_order DuplicateNode = 1
fault_order UnknownNode = 2
fault_order OwnAs = 3
fault_order BadMetric = 4
fault_order DuplicateNear = 5
fault_order DuplicateFar = 6
fault_order DuplicateEntry = 7
fault_order Syntax = 8
fault_order NoHeader = 9

-- what the node at place i breaks
abbrev pub NodeBreaks : Rows → ℕ → Addr → TopoFault → Type 0
NodeBreaks g i n TooMany = NODES_MAX ≤ i
NodeBreaks g i n DuplicateNode = Contains (take i g.nodes) n
NodeBreaks g i n _ = ⊥

-- a metric of a link is out of range
abbrev pub HasBadMetric : Link → Type 0
HasBadMetric l = (¬ IsMetric l.igp) ⊎ (¬ IsMetric l.te)

-- what the inner link at place i breaks
abbrev pub LinkBreaks : Rows → ℕ → Link → TopoFault → Type 0
LinkBreaks g i l TooMany = (LINKS_MAX ≤ i) ⊎ (SRLGS_MAX < length l.srlgs)
LinkBreaks g i l UnknownNode = (¬ Contains g.nodes l.from) ⊎ (¬ Contains g.nodes l.to)
LinkBreaks g i l BadMetric = HasBadMetric l
LinkBreaks g i l DuplicateNear = Contains (map (λ m. m.near) (take i g.links)) l.near
LinkBreaks g i l DuplicateFar = Contains (map (λ m. m.far) (take i g.links)) l.far
LinkBreaks g i l _ = ⊥

-- all inner links, and the out links before place i
abbrev pub links_before_out : Rows → ℕ → List Link
links_before_out g i = g.links ++ map (λ o. o.link) (take i g.outs)

-- what the out link at place i breaks
abbrev pub OutBreaks : Rows → ℕ → OutLink → TopoFault → Type 0
OutBreaks g i o TooMany = (OUTS_MAX ≤ i) ⊎ (SRLGS_MAX < length o.link.srlgs) ⊎ (¬ FewTails (take (i + 1) g.outs))
OutBreaks g i o UnknownNode = ¬ Contains g.nodes o.link.from
OutBreaks g i o OwnAs = ¬ IsForeign g.own o.to_as
OutBreaks g i o BadMetric = HasBadMetric o.link
OutBreaks g i o DuplicateNear = Contains (map (λ m. m.near) (links_before_out g i)) o.link.near
OutBreaks g i o DuplicateFar = Contains (map (λ m. m.far) (links_before_out g i)) o.link.far
OutBreaks g i o _ = ⊥

-- what the entry at place i breaks
abbrev pub EntryBreaks : Rows → ℕ → Entry → TopoFault → Type 0
EntryBreaks g i e TooMany = (¬ FewEntries (take (i + 1) g.entries)) ⊎ (¬ FewEntryNodes (take (i + 1) g.entries))
EntryBreaks g i e UnknownNode = ¬ Contains g.nodes e.node
EntryBreaks g i e OwnAs = ¬ IsForeign g.own e.from_as
EntryBreaks g i e DuplicateEntry = Contains (take i g.entries) e
EntryBreaks g i e _ = ⊥

-- the row of this kind at place i breaks the rule
abbrev pub Breaks : Rows → RowKind → ℕ → TopoFault → Type 0
Breaks g Node i fault = (n : Addr) × (slice_get g.nodes i ≡ Some n) × NodeBreaks g i n fault
Breaks g InnerLink i fault = (l : Link) × (slice_get g.links i ≡ Some l) × LinkBreaks g i l fault
Breaks g Out i fault = (o : OutLink) × (slice_get g.outs i ≡ Some o) × OutBreaks g i o fault
Breaks g EntryRow i fault = (e : Entry) × (slice_get g.entries i ≡ Some e) × EntryBreaks g i e fault

-- nodes stand before links, these before out links, and these before entries
abbrev pub kind_rank : RowKind → ℕ
kind_rank Node = 0
kind_rank InnerLink = 1
kind_rank Out = 2
kind_rank EntryRow = 3

abbrev pub IsBefore : RowKind → ℕ → Row → Type 0
IsBefore kind i row = (kind_rank kind < kind_rank row.kind) ⊎ ((kind ≡ row.kind) × (i < row.index))

-- the row breaks the rule, no rule before it, and no row before it breaks any
pub record IsFirstBreach (g : Rows) (fault : TopoFault) (row : Row) : Type 0 where
  pub breaks : Breaks g row.kind row.index fault
  pub first_rule : (other : TopoFault) → fault_order other < fault_order fault → ¬ Breaks g row.kind row.index other
  pub first_row : (kind : RowKind) (i : ℕ) (other : TopoFault) → IsBefore kind i row → ¬ Breaks g kind i other

-- why rows are refused; "out of memory" says nothing about them
abbrev pub IsReason : Rows → BuildError → Type 0
IsReason g (Rule fault row) = IsFirstBreach g fault row
IsReason g NoMemory = Unit {0}
