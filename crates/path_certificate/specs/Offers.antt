-- What the links offer: each to its beginning the label of its end, with its weight.
use Rattle.std.specs.Prelude.{◌≡◌, ◌<◌, ℕ, List, Bool, true, false, slice_get, slice_index_or, Some}
use Rattle.std.specs.declared.option.Option.{Option}
use Rattle.dom_base.specs.declared.addr.Addr.{Addr}
use Rattle.dom_base.specs.declared.link.Link.{Link}
use Rattle.dom_base.specs.declared.query.Query.{Query}
use Rattle.dom_base.specs.declared.query.Label.{Label}
use Rattle.te_links.specs.Rows.{Rows}
use Rattle.walk_laws.specs.Walks.{AdmitsLink}
use Rattle.walk_laws.specs.Certificate.{Labelling, before, IsMadeBy}
use Rattle.path_certificate.specs.declared.offers.Offer.{Offer}
use Rattle.path_certificate.specs.declared.broken.Broken.{Broken}

-- an admitted link stands at place i
pub record IsAdmittedAt (g : Rows) (q : Query) (i : ℕ) (link : Link) : Type 0 where
  pub at_link : slice_get g.links i ≡ Some link
  pub admitted : AdmitsLink g q link

-- the label that is offered
abbrev pub offered : Offer → Label
offered offer = record { cost = offer.cost; exit = offer.rest.exit }

-- the admitted link at place i offers the label of its end, with its weight
pub record IsOffer (g : Rows) (q : Query) (label : Labelling) (i : ℕ) (offer : Offer) : Type 0 where
  pub link : Link
  pub at_place : IsAdmittedAt g q i link
  pub from : offer.from ≡ link.from
  pub to : offer.to ≡ link.to
  pub at_end : label link.to ≡ Some offer.rest
  pub sum : offered offer ≡ before q link offer.rest

-- no admitted link with a label at its end stands there
abbrev pub IsNoOffer : Rows → Query → Labelling → ℕ → Type 0
IsNoOffer g q label i = (l : Link) (a : Label) → IsAdmittedAt g q i l → label l.to ≡ Some a → ⊥

-- the link at place i makes the label of the node at a place
pub record MakesNode (g : Rows) (q : Query) (label : Labelling) (i place : ℕ) : Type 0 where
  pub link : Link
  pub at_link : slice_get g.links i ≡ Some link
  pub node : Addr
  pub at_node : slice_get g.nodes place ≡ Some node
  pub made : Label
  pub told : label node ≡ Some made
  pub by_link : IsMadeBy g q label node made link

-- the marks of the nodes whose label one of the first `count` links makes
pub record AreMarks (g : Rows) (q : Query) (label : Labelling) (count : ℕ) (marks : List Bool) : Type 0 where
  pub sound : (place : ℕ) → slice_index_or marks place false ≡ true → (i : ℕ) × MakesNode g q label i place
  pub whole : (i place : ℕ) → i < count → MakesNode g q label i place → slice_index_or marks place false ≡ true

-- the condition at place i is false, with the labels that are compared there
pub record IsBroken (Holds : ℕ → Type 0) (told bound : ℕ → Option Label) (i : ℕ) (b : Broken) : Type 0 where
  pub same_index : b.index ≡ i
  pub fails : ¬ Holds i
  pub same_told : b.told ≡ told i
  pub same_bound : b.bound ≡ bound i

-- and the conditions before it hold
pub record IsFirstBroken (Holds : ℕ → Type 0) (told bound : ℕ → Option Label) (b : Broken) : Type 0 where
  pub broken : IsBroken Holds told bound b.index b
  pub earlier : (j : ℕ) → j < b.index → Holds j
