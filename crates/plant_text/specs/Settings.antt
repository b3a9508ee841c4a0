-- What the settings say of elements, links and peers.
use Rattle.std.specs.Prelude.{ℕ, zero, suc, Bool, true, false, cond, nat_lt, is_some, List, [], ◌∷◌, ◌++◌, Option, Some, None}
use Rattle.dom_base.specs.declared.names.As.{As}
use Rattle.dom_base.specs.declared.names.Peer.{Peer}
use Rattle.dom_base.specs.declared.names.Peer.TheVariants.{Outside, Inner}
use Rattle.plant_text.specs.declared.settings.NetworkParts.{NetworkParts}
use Rattle.plant_text.specs.declared.settings.ElementRow.{ElementRow}
use Rattle.plant_text.specs.declared.settings.PeerRow.{PeerRow}
use Rattle.plant_text.specs.declared.settings.DenyRow.{DenyRow}
use Rattle.disclosure.specs.declared.class.Deny.{Deny}
use Rattle.disclosure.specs.declared.class.Class.{Class}
use Rattle.disclosure.specs.declared.class.Class.TheVariants.{Client, Neighbour, Parent}
use Rattle.plant_text.specs.Names.{same_as, same_link, parent_as, insert_as}

abbrev pub row_of : As → List ElementRow → Option ElementRow
row_of d [] = None
row_of d (r ∷ rs) = cond (same_as r.own d) (Some r) (row_of d rs)

abbrev pub is_element : NetworkParts → As → Bool
is_element n d = is_some (row_of d n.elements)

abbrev pub deny_at : As → List DenyRow → List Deny
deny_at d [] = []
deny_at d (r ∷ rs) = cond (same_as r.at d) (r.deny ∷ deny_at d rs) (deny_at d rs)

abbrev pub life_from : Option ElementRow → ℕ
life_from None = 600
life_from (Some r) = r.key_life

abbrev pub life : NetworkParts → As → ℕ
life n d = life_from (row_of d n.elements)

-- the children of the parent, rising
abbrev pub children_of : List ElementRow → List As
children_of [] = []
children_of (r ∷ rs) = cond r.parent (insert_as r.own (children_of rs)) (children_of rs)

abbrev pub children : NetworkParts → List As
children n = children_of n.elements

-- The inner links: each with its lower end first, in rising order; those of the parent are first.
pub record Adjacency : Type 0 where
  pub lower : As
  pub upper : As

abbrev pub adjacency : As → As → Adjacency
adjacency a b = cond (nat_lt b.0 a.0) (record { lower = b; upper = a }) (record { lower = a; upper = b })

abbrev pub before_adjacency : Adjacency → Adjacency → Bool
before_adjacency x y = cond (nat_lt x.lower.0 y.lower.0) true (cond (nat_lt y.lower.0 x.lower.0) false (nat_lt x.upper.0 y.upper.0))

abbrev pub insert_adjacency : Adjacency → List Adjacency → List Adjacency
insert_adjacency x [] = x ∷ []
insert_adjacency x (y ∷ ys) = cond (before_adjacency x y) (x ∷ y ∷ ys) (y ∷ insert_adjacency x ys)

abbrev pub sorted : List (As × As) → List Adjacency
sorted [] = []
sorted (p ∷ ps) = insert_adjacency (adjacency p.0 p.1) (sorted ps)

abbrev pub upward : List As → List Adjacency
upward [] = []
upward (a ∷ as') = record { lower = parent_as; upper = a } ∷ upward as'

abbrev pub adjacencies : NetworkParts → List Adjacency
adjacencies n = upward (children n) ++ sorted n.links

abbrev pub has_adjacency : As → As → List Adjacency → Bool
has_adjacency a b [] = false
has_adjacency a b (x ∷ xs) = cond (same_link x.lower x.upper a b) true (has_adjacency a b xs)

abbrev pub is_linked : NetworkParts → As → As → Bool
is_linked n a b = has_adjacency a b (adjacencies n)

-- outside peers are numbered from 0
abbrev pub peer_row : ℕ → List PeerRow → Option PeerRow
peer_row i [] = None
peer_row zero (r ∷ rs) = Some r
peer_row (suc i) (r ∷ rs) = peer_row i rs

-- the class of a peer: an inner element is a neighbour of its AS, and 0 a parent
abbrev pub class_from : Option PeerRow → Class
class_from None = Client false
class_from (Some r) = r.class

abbrev pub class_of : NetworkParts → Peer → Class
class_of n (Outside i) = class_from (peer_row i n.peers)
class_of n (Inner a) = cond (same_as a parent_as) Parent (Neighbour a)

-- the elements, rising
abbrev pub elements_of : List ElementRow → List As
elements_of [] = []
elements_of (r ∷ rs) = insert_as r.own (elements_of rs)
