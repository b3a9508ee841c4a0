-- What a certificate says of distances: potentials that rise as the heights fall, and the nodes that have no distance.
use Rattle.std.specs.Prelude.{◌≡◌, ◌<◌, ◌≤◌, ◌-◌, ◌⊎◌, ℕ, List, length, Contains, AllPairs, Some, slice_get}
use Rattle.dom_base.specs.AddrOrder.{rank}
use Rattle.dom_base.specs.declared.addr.Addr.{Addr}
use Rattle.te_links.specs.Rows.{Rows}
use Rattle.diverse_pairs.specs.declared.arcs.TheConstants.{UNREACHED}
use Rattle.diverse_pairs.specs.Arcs.{at}
use Rattle.diverse_pairs.specs.Potentials.{AreRising}

-- some node has this height
pub record HasHeight (heights : List ℕ) (height : ℕ) : Type 0 where
  pub place : ℕ
  pub there : place < length heights
  pub is : at heights place ≡ height
  pub reached : height < UNREACHED

-- the greatest height, or 0 where no node has one
pub record IsTop (heights : List ℕ) (top : ℕ) : Type 0 where
  pub above : (n : ℕ) → at heights n < UNREACHED → at heights n ≤ top
  pub met : (top ≡ 0) ⊎ HasHeight heights top

-- the node at place i has a height
pub record IsHigh (g : Rows) (heights : List ℕ) (i : ℕ) (n : Addr) : Type 0 where
  pub at_place : slice_get g.nodes i ≡ Some n
  pub reached : at heights i < UNREACHED

-- the nodes with a height, each with how far it is below the top
pub record ArePotentials (g : Rows) (heights : List ℕ) (top : ℕ) (rows : List (Addr × ℕ)) : Type 0 where
  pub is_top : IsTop heights top
  pub rising : AreRising rows
  pub whole : (i : ℕ) (n : Addr) → IsHigh g heights i n → Contains rows (n, top - at heights i)
  pub sound : (n : Addr) (p : ℕ) → Contains rows (n, p) → (i : ℕ) × IsHigh g heights i n

-- the node at place i has no distance
pub record IsCutOff (g : Rows) (distances : List ℕ) (i : ℕ) (n : Addr) : Type 0 where
  pub at_place : slice_get g.nodes i ≡ Some n
  pub lacks : at distances i ≡ UNREACHED

-- the nodes without a distance
pub record AreCutOff (g : Rows) (distances : List ℕ) (nodes : List Addr) : Type 0 where
  pub rising : AllPairs (λ a b. rank a < rank b) nodes
  pub whole : (i : ℕ) (n : Addr) → IsCutOff g distances i n → Contains nodes n
  pub sound : (n : Addr) → Contains nodes n → (i : ℕ) × IsCutOff g distances i n
