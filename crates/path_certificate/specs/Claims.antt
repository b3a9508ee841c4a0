-- The conditions of a certificate in their order, each at a place of its own, and the first of them that is false.
use Rattle.std.specs.Prelude.{◌≡◌, ◌⊎◌, ◌<◌, ◌≤◌, ℕ, List, [], ◌∷◌, length, take, slice_get, None, Some, option_and_then}
use Rattle.std.specs.declared.option.Option.{Option}
use Rattle.std.specs.Option.{option_map}
use Rattle.dom_base.specs.declared.addr.Addr.{Addr}
use Rattle.dom_base.specs.declared.link.Link.{Link as TeLink}
use Rattle.dom_base.specs.declared.query.Query.{Query}
use Rattle.dom_base.specs.declared.query.Seed.{Seed as SeedRow}
use Rattle.dom_base.specs.declared.query.Label.{Label}
use Rattle.te_links.specs.Rows.{Rows}
use Rattle.walk_laws.specs.Labels.{EndsAt}
use Rattle.walk_laws.specs.Certificate.{Labelling, before, SeedHolds, LinkHolds, NodeHolds, IsMadeBy}
use Rattle.walk_laws.specs.Least.{IsWalkOf}
use Rattle.path_certificate.specs.declared.certificate.Certificate.{Certificate}
use Rattle.path_certificate.specs.declared.verdict.Place.{Place}
use Rattle.path_certificate.specs.declared.verdict.Place.TheVariants.{Seed, Link, Node, Path}
use Rattle.path_certificate.specs.declared.verdict.Verdict.{Verdict}
use Rattle.path_certificate.specs.declared.verdict.Verdict.TheVariants.{Holds, Fails}
use Rattle.path_certificate.specs.Rows.{label_in}

-- what is claimed of a topology: labels, and a path from a source
pub record Claim : Type 0 where
  pub topology : Rows
  pub query : Query
  pub seeds : List SeedRow
  pub label : Labelling
  pub source : Addr
  pub path : Option (List Addr)

abbrev pub claim_of : Rows → Query → List SeedRow → Addr → Certificate → Claim
claim_of g q seeds source c = record { topology = g; query = q; seeds = seeds; label = label_in c.labels; source = source; path = c.path }

abbrev pub SeedHoldsAt : Rows → Query → Labelling → List SeedRow → ℕ → Type 0
SeedHoldsAt g q label seeds i = (s : SeedRow) → slice_get seeds i ≡ Some s → SeedHolds g q label s

abbrev pub LinkHoldsAt : Rows → Query → Labelling → ℕ → Type 0
LinkHoldsAt g q label i = (l : TeLink) → slice_get g.links i ≡ Some l → LinkHolds g q label l

abbrev pub NodeHoldsAt : Rows → Query → List SeedRow → Labelling → ℕ → Type 0
NodeHoldsAt g q seeds label i = (n : Addr) (a : Label) → slice_get g.nodes i ≡ Some n → label n ≡ Some a → NodeHolds g q seeds label n a

-- The far addresses lead from a node with a label to another node and its label: each is that of a link that makes the
-- label of its beginning.
abbrev pub LeadsByLabels : Rows → Query → Labelling → Addr → Label → List Addr → Addr → Label → Type 0
LeadsByLabels g q label n a [] m b = (n ≡ m) × (a ≡ b)
LeadsByLabels g q label n a (far ∷ fars) m b =
    (l : TeLink) × (l.far ≡ far) × ((made : IsMadeBy g q label n a l) × LeadsByLabels g q label l.to made.rest fars m b)

-- The first k far addresses lead on from a node with a label. If these are all, a seed equals the label where they end.
pub record LeadsOver (g : Rows) (q : Query) (seeds : List SeedRow) (label : Labelling) (n : Addr) (a : Label) (fars : List Addr) (k : ℕ) : Type 0 where
  pub node : Addr
  pub rest : Label
  pub leads : LeadsByLabels g q label n a (take k fars) node rest
  pub ends : length fars ≤ k → EndsAt seeds node rest

-- The path holds up to the address at place k: it is absent where the source has no label, and else begins at the source and
-- leads on from there.
abbrev pub PathHoldsAt : Rows → Query → List SeedRow → Labelling → Addr → Option (List Addr) → ℕ → Type 0
PathHoldsAt g q seeds label source None k = label source ≡ None
PathHoldsAt g q seeds label source (Some []) k = ⊥
PathHoldsAt g q seeds label source (Some (first ∷ fars)) k =
    (a : Label) × (label source ≡ Some a) × (first ≡ source) × LeadsOver g q seeds label source a fars k

-- the condition at a place; where nothing stands there, it holds
abbrev pub HoldsAt : Claim → Place → Type 0
HoldsAt c (Seed i) = SeedHoldsAt c.topology c.query c.label c.seeds i
HoldsAt c (Link i) = LinkHoldsAt c.topology c.query c.label i
HoldsAt c (Node i) = NodeHoldsAt c.topology c.query c.seeds c.label i
HoldsAt c (Path k) = PathHoldsAt c.topology c.query c.seeds c.label c.source c.path k

-- seeds come first, then links, nodes and the path
abbrev pub kind_order : Place → ℕ
kind_order (Seed i) = 0
kind_order (Link i) = 1
kind_order (Node i) = 2
kind_order (Path k) = 3

abbrev pub index : Place → ℕ
index (Seed i) = i
index (Link i) = i
index (Node i) = i
index (Path k) = k

abbrev pub IsBefore : Place → Place → Type 0
IsBefore p r = (kind_order p < kind_order r) ⊎ ((kind_order p ≡ kind_order r) × (index p < index r))

-- the condition at the place is false, and each before it holds
pub record IsFirstFalse (c : Claim) (place : Place) : Type 0 where
  pub fails : ¬ HoldsAt c place
  pub earlier : (other : Place) → IsBefore other place → HoldsAt c other

-- the label of a seed
abbrev pub label_of_seed : SeedRow → Label
label_of_seed s = record { cost = s.cost; exit = s.exit }

abbrev pub seed_told : Labelling → List SeedRow → ℕ → Option Label
seed_told label seeds i = option_and_then (λ s. label s.node) (slice_get seeds i)

abbrev pub seed_bound : List SeedRow → ℕ → Option Label
seed_bound seeds i = option_map label_of_seed (slice_get seeds i)

abbrev pub link_told : Rows → Labelling → ℕ → Option Label
link_told g label i = option_and_then (λ l. label l.from) (slice_get g.links i)

abbrev pub link_bound : Rows → Query → Labelling → ℕ → Option Label
link_bound g q label i = option_and_then (λ l. option_map (before q l) (label l.to)) (slice_get g.links i)

abbrev pub node_told : Rows → Labelling → ℕ → Option Label
node_told g label i = option_and_then label (slice_get g.nodes i)

-- the label at the seed's node, of the link's beginning and of the node
abbrev pub told_at : Claim → Place → Option Label
told_at c (Seed i) = seed_told c.label c.seeds i
told_at c (Link i) = link_told c.topology c.label i
told_at c (Node i) = node_told c.topology c.label i
told_at c (Path k) = None

-- what bounds it: the label of the seed; the label of the link's end with the link put before it
abbrev pub bound_at : Claim → Place → Option Label
bound_at c (Seed i) = seed_bound c.seeds i
bound_at c (Link i) = link_bound c.topology c.query c.label i
bound_at c (Node i) = None
bound_at c (Path k) = None

-- the verdict of a check
abbrev pub IsVerdict : Claim → Verdict → Type 0
IsVerdict c Holds = (place : Place) → HoldsAt c place
IsVerdict c (Fails place told bound) = IsFirstFalse c place × (told ≡ told_at c place) × (bound ≡ bound_at c place)

-- the path is an admitted walk of the source's label; it is absent where the source has none
abbrev pub ShowsWalk : Rows → Query → List SeedRow → Labelling → Addr → Option (List Addr) → Type 0
ShowsWalk g q seeds label source None = label source ≡ None
ShowsWalk g q seeds label source (Some []) = ⊥
ShowsWalk g q seeds label source (Some (first ∷ fars)) =
    (a : Label) × (label source ≡ Some a) × (first ≡ source) × IsWalkOf g q seeds source a fars
