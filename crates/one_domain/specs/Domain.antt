-- What one domain answers: the chosen path of least cost from a source to a target, or that there is none (RFC 5440, section 6.5).
use Rattle.std.specs.Prelude.{◌≡◌, ◌⊎◌, ◌+◌, ℕ, List, [], ◌∷◌, map, Contains, Some, None}
use Rattle.std.specs.declared.option.Option.{Option}
use Rattle.dom_base.specs.declared.addr.Addr.{Addr}
use Rattle.dom_base.specs.declared.names.As.{As}
use Rattle.dom_base.specs.declared.link.Link.{Link}
use Rattle.dom_base.specs.declared.query.Query.{Query}
use Rattle.dom_base.specs.declared.query.Seed.{Seed}
use Rattle.dom_base.specs.declared.query.Label.{Label}
use Rattle.std.specs.List.{zip}
use Rattle.path_search.specs.Search.{AreLabels}
use Rattle.path_certificate.specs.declared.certificate.Certificate.{Certificate}
use Rattle.te_links.specs.Rows.{Rows}
use Rattle.walk_laws.specs.Walks.{IsFeasible, IsLeast, cost}
use Rattle.walk_laws.specs.Labels.{IsSegment}
use Rattle.pcep_messages.specs.declared.message.Wanted.{Wanted}
use Rattle.border_costs.specs.declared.job.Ask.{Ask}
use Rattle.border_costs.specs.declared.job.Target.TheVariants.{Node}
use Rattle.border_costs.specs.Asks.{target_seed}
use Rattle.pcep_codes.specs.declared.no_paths.TheConstants as no_paths
use Rattle.one_domain.specs.declared.domain.Chosen.{Chosen}

-- the seeds of a search for one target: the target itself
abbrev pub target_seeds : Addr → List Seed
target_seeds t = target_seed t ∷ []

-- what is asked of a domain for a path that stays in it: the one entry is the source, the target is a node
abbrev pub ask_of : As → Wanted → Ask
ask_of own w = record {
  at = own;
  number = 0;
  generation = 0;
  query = w.query;
  source = w.source;
  entries = w.source ∷ [];
  target = Node w.target;
  down = [];
}

-- The addresses show the chosen segment from the source, in its open form: the source, and the far address of each link. It is a
-- walk of least cost among all inner walks to the target within the cap, and this is its cost.
pub record ShowsLeast (g : Rows) (q : Query) (s t : Addr) (hops : List Addr) (total : ℕ) : Type 0 where
  pub links : List Link
  pub least : IsLeast g q s t links
  pub is_cost : total ≡ cost q links
  pub chosen : IsSegment g q (target_seeds t) s (record { cost = total; exit = t }) links
  pub shown : hops ≡ s ∷ map (λ l. l.far) links

-- no inner walk is within the cap
abbrev pub HasNone : Rows → Query → Addr → Addr → Type 0
HasNone g q s t = (links : List Link) → ¬ IsFeasible g q s t links

-- the number is the bit where the fact holds, and else 0
abbrev pub IsBitWhere : Type 0 → ℕ → ℕ → Type 0
IsBitWhere P bit n = (P × (n ≡ bit)) ⊎ ((¬ P) × (n ≡ 0))

-- The bits of a NO-PATH-VECTOR (RFC 5440, section 7.5): bit 29 where the source is no node, bit 30 where the target is none. Bit 31
-- is the lowest.
pub record IsUnknownVector (g : Rows) (s t : Addr) (vector : ℕ) : Type 0 where
  pub source : ℕ
  pub unknown_source : IsBitWhere (¬ Contains g.nodes s) no_paths.UNKNOWN_SOURCE source
  pub target : ℕ
  pub unknown_target : IsBitWhere (¬ Contains g.nodes t) no_paths.UNKNOWN_TARGET target
  pub sum : vector ≡ source + target

-- the chosen path, or none where there is no path within the cap
abbrev pub IsChosen : Rows → Wanted → Option Chosen → Type 0
IsChosen g w None = HasNone g w.query w.source w.target
IsChosen g w (Some chosen) = ShowsLeast g w.query w.source w.target chosen.hops chosen.cost

-- each node in order with its least label, and no path yet
pub record HasLabels (g : Rows) (w : Wanted) (c : Certificate) : Type 0 where
  pub own : c.own ≡ g.own
  pub labels : List (Option Label)
  pub are_labels : AreLabels g w.query (target_seeds w.target) labels
  pub rows : c.labels ≡ zip g.nodes labels
