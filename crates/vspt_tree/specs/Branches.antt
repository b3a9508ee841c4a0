-- The branches of a virtual shortest path tree (RFC 5441, section 4.2), of one domain over those of the next.
use Rattle.std.specs.Prelude.{◌≡◌, ◌<◌, ◌≤◌, ◌==◌, cond, nat_lt, All, Any, List, [], ◌∷◌, ◌++◌, Option, Some, None}
use Rattle.std.specs.List.{AllZip, zip}
use Rattle.dom_base.specs.AddrOrder.{rank}
use Rattle.dom_base.specs.declared.addr.Addr.{Addr}
use Rattle.pcep_subobjects.specs.declared.hop.Hop.{Hop}
use Rattle.pcep_subobjects.specs.Hops.{strict_hop}
use Rattle.vspt_tree.specs.declared.branch.Best.{Best}
use Rattle.vspt_tree.specs.declared.branch.Branch.{Branch}

-- some branch begins at the node
abbrev pub HasBranchAt : List Branch → Addr → Type 0
HasBranchAt down n = Any (λ d. d.entry ≡ n) down

-- among the branches of a node, the first of least cost
pub record IsFirstLeast (down : List Branch) (n : Addr) (b : Branch) : Type 0 where
  pub before : List Branch
  pub after : List Branch
  pub is : down ≡ before ++ b ∷ after
  pub at_node : b.entry ≡ n
  pub above : All (λ d. d.entry ≡ n → b.cost < d.cost) before
  pub no_less : All (λ d. d.entry ≡ n → b.cost ≤ d.cost) after

-- the same as a function: with a branch in front, and of all
abbrev pub better : Branch → Option Branch → Option Branch
better b None = Some b
better b (Some other) = cond (nat_lt other.cost b.cost) (Some other) (Some b)

abbrev pub first_least : Addr → List Branch → Option Branch
first_least n [] = None
first_least n (b ∷ bs) = cond (rank b.entry == rank n) (better b (first_least n bs)) (first_least n bs)

-- behind a domain's own part: nothing where there is no node beyond; else the exit, and the hops of the node's branch
abbrev pub IsOnward : List Branch → Addr → Option Addr → List Hop → Type 0
IsOnward down exit None hops = hops ≡ []
IsOnward down exit (Some head) hops = (b : Branch) × IsFirstLeast down head b × (hops ≡ strict_hop exit ∷ b.hops)

-- the branch that a row and its own part make
pub record IsBranchOf (down : List Branch) (row : Best) (own : List Hop) (branch : Branch) : Type 0 where
  pub entry : branch.entry ≡ row.entry
  pub cost : branch.cost ≡ row.cost
  pub onward : List Hop
  pub goes_on : IsOnward down row.exit row.head onward
  pub hops : branch.hops ≡ own ++ onward

-- the branches that rows and their own parts make, one for each row, in order
abbrev pub AreBranchesOf : List Branch → List Best → List (List Hop) → List Branch → Type 0
AreBranchesOf down best own branches = AllZip (λ part branch. IsBranchOf down part.0 part.1 branch) (zip best own) branches

-- ---- a law

-- the branch that is found is the first of the least
abbrev pub FirstLeastIsFound : Type 0
FirstLeastIsFound = (down : List Branch) (n : Addr) (b : Branch) → IsFirstLeast down n b → first_least n down ≡ Some b
