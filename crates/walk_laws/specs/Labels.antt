-- Labels: for each node the least pair of a cost and an exit, over all walks to a seed.
use Rattle.std.specs.Prelude.{◌≡◌, ◌⊎◌, ◌+◌, ◌≤◌, ◌<◌, List, [], ◌∷◌, Contains, None, Some}
use Rattle.std.specs.declared.option.Option.{Option}
use Rattle.dom_base.specs.AddrOrder.{rank}
use Rattle.dom_base.specs.declared.addr.Addr.{Addr}
use Rattle.dom_base.specs.declared.link.Link.{Link}
use Rattle.dom_base.specs.declared.query.Query.{Query}
use Rattle.dom_base.specs.declared.query.Seed.{Seed}
use Rattle.dom_base.specs.declared.query.Label.{Label}
use Rattle.dom_base.specs.Admission.{weight}
use Rattle.te_links.specs.Rows.{Rows}
use Rattle.walk_laws.specs.Walks.{AdmitsLink, Walk, cost}

-- by the cost, and then by the exit
infix 4 ◌≼◌
abbrev pub ◌≼◌ : Label → Label → Type 0
a ≼ b = (a.cost < b.cost) ⊎ ((a.cost ≡ b.cost) × (rank a.exit ≤ rank b.exit))

-- a walk from u to a seed, whose costs make up the label's, within the cap
pub record Reaches (g : Rows) (q : Query) (seeds : List Seed) (u : Addr) (a : Label) : Type 0 where
  pub seed : Seed
  pub is_seed : Contains seeds seed
  pub links : List Link
  pub walk : Walk g q u seed.node links
  pub sum : a.cost ≡ cost q links + seed.cost
  pub exit : a.exit ≡ seed.exit
  pub within : a.cost ≤ q.cap

-- the label of a node
abbrev pub IsLabel : Rows → Query → List Seed → Addr → Option Label → Type 0
IsLabel g q seeds u None = (a : Label) → Reaches g q seeds u a → ⊥
IsLabel g q seeds u (Some a) = Reaches g q seeds u a × ((b : Label) → Reaches g q seeds u b → a ≼ b)

-- the label at the beginning of a link is made up of its weight and the label at its end
pub record IsTight (g : Rows) (q : Query) (seeds : List Seed) (l : Link) (a rest : Label) : Type 0 where
  pub admitted : AdmitsLink g q l
  pub at_end : IsLabel g q seeds l.to (Some rest)
  pub sum : a.cost ≡ weight q.metric l + rest.cost
  pub exit : a.exit ≡ rest.exit

-- a seed at u equals the label
abbrev pub EndsAt : List Seed → Addr → Label → Type 0
EndsAt seeds u a = Contains seeds (record { node = u; cost = a.cost; exit = a.exit })

-- of the tight links from u, this has the least far address
pub record IsChosen (g : Rows) (q : Query) (seeds : List Seed) (u : Addr) (a : Label) (l : Link) (rest : Label) : Type 0 where
  pub from : l.from ≡ u
  pub tight : IsTight g q seeds l a rest
  pub least : (m : Link) (r : Label) → m.from ≡ u → IsTight g q seeds m a r → rank l.far ≤ rank m.far

-- The chosen segment from u, whose label is a: it ends where a seed equals the label,
-- and else goes on by the tight link with the least far address.
abbrev pub IsSegment : Rows → Query → List Seed → Addr → Label → List Link → Type 0
IsSegment g q seeds u a [] = EndsAt seeds u a
IsSegment g q seeds u a (l ∷ ls) = (¬ EndsAt seeds u a) × ((rest : Label) × IsChosen g q seeds u a l rest × IsSegment g q seeds l.to rest ls)
