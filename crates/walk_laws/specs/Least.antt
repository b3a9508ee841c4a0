-- What a certificate shows: its conditions hold exactly for the least labels, and its path is a walk of the source's label.
use Rattle.std.specs.Prelude.{◌≡◌, ◌+◌, List, map, Contains, Some}
use Rattle.dom_base.specs.declared.addr.Addr.{Addr}
use Rattle.dom_base.specs.declared.link.Link.{Link}
use Rattle.dom_base.specs.declared.query.Query.{Query}
use Rattle.dom_base.specs.declared.query.Seed.{Seed}
use Rattle.dom_base.specs.declared.query.Label.{Label}
use Rattle.te_links.specs.Rows.{Rows, IsTopology}
use Rattle.walk_laws.specs.Walks.{Walk, cost}
use Rattle.walk_laws.specs.Labels.{IsLabel, IsSegment}
use Rattle.walk_laws.specs.Certificate.{Labelling, Certifies, Leads}

-- where the conditions hold, each label is the least
abbrev pub CertificateIsLeast : Type 0
CertificateIsLeast =
    (g : Rows) (q : Query) (seeds : List Seed) (label : Labelling) →
    IsTopology g → Certifies g q seeds label → (n : Addr) → IsLabel g q seeds n (label n)

-- the least labels meet the conditions
abbrev pub LeastIsCertified : Type 0
LeastIsCertified =
    (g : Rows) (q : Query) (seeds : List Seed) (label : Labelling) →
    ((n : Addr) → IsLabel g q seeds n (label n)) → Certifies g q seeds label

-- an admitted walk from u to a seed, over links with these far addresses, whose costs make up the label
pub record IsWalkOf (g : Rows) (q : Query) (seeds : List Seed) (u : Addr) (a : Label) (shown : List Addr) : Type 0 where
  pub links : List Link
  pub fars : map (λ l. l.far) links ≡ shown
  pub seed : Seed
  pub is_seed : Contains seeds seed
  pub walk : Walk g q u seed.node links
  pub sum : a.cost ≡ cost q links + seed.cost
  pub exit : a.exit ≡ seed.exit

-- a path that leads on from a label is a walk of that label
abbrev pub PathIsWalk : Type 0
PathIsWalk =
    (g : Rows) (q : Query) (seeds : List Seed) (label : Labelling) → Certifies g q seeds label →
    (u : Addr) (a : Label) (shown : List Addr) → label u ≡ Some a → Leads g q seeds label u a shown → IsWalkOf g q seeds u a shown

-- the chosen segment leads on from the least label
abbrev pub SegmentLeads : Type 0
SegmentLeads =
    (g : Rows) (q : Query) (seeds : List Seed) (label : Labelling) → ((n : Addr) → IsLabel g q seeds n (label n)) →
    (u : Addr) (a : Label) (links : List Link) → IsSegment g q seeds u a links → Leads g q seeds label u a (map (λ l. l.far) links)
