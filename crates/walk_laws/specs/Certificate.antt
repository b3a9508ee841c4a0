-- A certificate: labels that are least, and a path of the source's label, by comparisons at one seed, link, node or address each.
use Rattle.std.specs.Prelude.{◌≡◌, ◌⊎◌, ◌+◌, ◌≤◌, List, [], ◌∷◌, Contains, None, Some}
use Rattle.std.specs.declared.option.Option.{Option}
use Rattle.dom_base.specs.declared.addr.Addr.{Addr}
use Rattle.dom_base.specs.declared.link.Link.{Link}
use Rattle.dom_base.specs.declared.query.Query.{Query}
use Rattle.dom_base.specs.declared.query.Seed.{Seed}
use Rattle.dom_base.specs.declared.query.Label.{Label}
use Rattle.dom_base.specs.Admission.{weight}
use Rattle.te_links.specs.Rows.{Rows}
use Rattle.walk_laws.specs.Walks.{AdmitsNode, AdmitsLink}
use Rattle.walk_laws.specs.Labels.{◌≼◌, EndsAt}

-- what is claimed of each address
abbrev pub Labelling : Type 0
Labelling = Addr → Option Label

-- no label is the greatest
abbrev pub AtMost : Option Label → Label → Type 0
AtMost None b = ⊥
AtMost (Some a) b = a ≼ b

-- the label with a link put before it
abbrev pub before : Query → Link → Label → Label
before q l a = record { cost = weight q.metric l + a.cost; exit = a.exit }

-- at a seed, the label is at most the seed
abbrev pub SeedHolds : Rows → Query → Labelling → Seed → Type 0
SeedHolds g q label s = AdmitsNode g q s.node → s.cost ≤ q.cap → AtMost (label s.node) (record { cost = s.cost; exit = s.exit })

-- at a link, the label of its beginning is at most the sum
abbrev pub LinkHolds : Rows → Query → Labelling → Link → Type 0
LinkHolds g q label l =
    (a : Label) → AdmitsLink g q l → label l.to ≡ Some a → weight q.metric l + a.cost ≤ q.cap → AtMost (label l.from) (before q l a)

-- a link makes the label equal to the sum
pub record IsMadeBy (g : Rows) (q : Query) (label : Labelling) (n : Addr) (a : Label) (l : Link) : Type 0 where
  pub admitted : AdmitsLink g q l
  pub from : l.from ≡ n
  pub rest : Label
  pub at_end : label l.to ≡ Some rest
  pub sum : a ≡ before q l rest

-- at a node with a label, a seed equals it or a link makes it
pub record NodeHolds (g : Rows) (q : Query) (seeds : List Seed) (label : Labelling) (n : Addr) (a : Label) : Type 0 where
  pub admitted : AdmitsNode g q n
  pub within : a.cost ≤ q.cap
  pub made : EndsAt seeds n a ⊎ ((l : Link) × IsMadeBy g q label n a l)

pub record Certifies (g : Rows) (q : Query) (seeds : List Seed) (label : Labelling) : Type 0 where
  pub at_seeds : (s : Seed) → Contains seeds s → SeedHolds g q label s
  pub at_links : (l : Link) → LinkHolds g q label l
  pub at_nodes : (n : Addr) (a : Label) → label n ≡ Some a → NodeHolds g q seeds label n a

-- From a node with this label the far addresses lead on, each that of a link that makes the label of its beginning, to a node
-- where a seed equals the label.
abbrev pub Leads : Rows → Query → List Seed → Labelling → Addr → Label → List Addr → Type 0
Leads g q seeds label n a [] = EndsAt seeds n a
Leads g q seeds label n a (far ∷ fars) =
    (l : Link) × (l.far ≡ far) × ((made : IsMadeBy g q label n a l) × Leads g q seeds label l.to made.rest fars)

-- the path begins at the source and leads on from its label; it is absent where the source has none
abbrev pub PathHolds : Rows → Query → List Seed → Labelling → Addr → Option (List Addr) → Type 0
PathHolds g q seeds label source None = label source ≡ None
PathHolds g q seeds label source (Some []) = ⊥
PathHolds g q seeds label source (Some (first ∷ fars)) = (a : Label) × (label source ≡ Some a) × (first ≡ source) × Leads g q seeds label source a fars
