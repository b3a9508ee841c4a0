-- Which links end at which node, where each begins and ends, and which has a far address.
use Rattle.std.specs.Prelude.{◌≡◌, ◌<◌, ℕ, List, length, All, AllPairs, Contains, Some, slice_get, slice_index_or}
use Rattle.dom_base.specs.declared.addr.Addr.{Addr}
use Rattle.dom_base.specs.declared.link.Link.{Link}

-- the link at place p ends at the node at place i
pub record LinkEndsAt (nodes : List Addr) (links : List Link) (i p : ℕ) : Type 0 where
  pub link : Link
  pub at_link : slice_get links p ≡ Some link
  pub at_node : slice_get nodes i ≡ Some link.to

-- The places of exactly the links that end at the node at place i, rising: the links stand in the order of their far
-- addresses, so these do.
pub record IsLinksInto (nodes : List Addr) (links : List Link) (i : ℕ) (places : List ℕ) : Type 0 where
  pub ends : All (LinkEndsAt nodes links i) places
  pub whole : (p : ℕ) → LinkEndsAt nodes links i p → Contains places p
  pub order : AllPairs (λ p q. p < q) places

-- the link at place p begins at the node at place i
pub record LinkBeginsAt (nodes : List Addr) (links : List Link) (i p : ℕ) : Type 0 where
  pub link : Link
  pub at_link : slice_get links p ≡ Some link
  pub at_node : slice_get nodes i ≡ Some link.from

-- the places of exactly the links that begin at the node at place i, rising
pub record IsLinksFrom (nodes : List Addr) (links : List Link) (i : ℕ) (places : List ℕ) : Type 0 where
  pub begins : All (LinkBeginsAt nodes links i) places
  pub whole : (p : ℕ) → LinkBeginsAt nodes links i p → Contains places p
  pub order : AllPairs (λ p q. p < q) places

-- for each link the place of the node that it begins at
pub record AreTails (nodes : List Addr) (links : List Link) (tails : List ℕ) : Type 0 where
  pub each : length tails ≡ length links
  pub at_link : (p d : ℕ) → p < length tails → LinkBeginsAt nodes links (slice_index_or tails p d) p

-- for each link the place of the node that it ends at
pub record AreHeads (nodes : List Addr) (links : List Link) (heads : List ℕ) : Type 0 where
  pub each : length heads ≡ length links
  pub at_link : (p d : ℕ) → p < length heads → LinkEndsAt nodes links (slice_index_or heads p d) p

-- a link with this far address stands at place i
pub record IsLinkAt (links : List Link) (far : Addr) (i : ℕ) : Type 0 where
  pub link : Link
  pub at_link : slice_get links i ≡ Some link
  pub same_far : link.far ≡ far
