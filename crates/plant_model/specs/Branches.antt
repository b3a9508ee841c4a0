-- The branches of a reply (RFC 5441, section 5; RFC 5520): how they are read, and how an element puts its own part before one.
use Rattle.std.specs.Prelude.{ℕ, cond, ◌==◌, nat_le, List, [], ◌∷◌, ◌++◌, map, Option, Some, None}
use Rattle.plant_model.specs.Types.{Addr, Metric, Hop, Path, Branch, Best, Down}
use Rattle.dom_base.specs.declared.limits.TheConstants.{COST_MAX}
use Rattle.pcep_subobjects.specs.declared.hop.Hop.TheVariants.{Prefix, AsNumber, Key, Other}
use Rattle.vspt_tree.specs.Branches.{first_least}
use Rattle.pcep_subobjects.specs.Hops.{strict_hop}
use Rattle.disclosure.specs.Shown.{open_of, closed_of}
use Rattle.plant_model.specs.Wire.{Codec}
use Rattle.pcep_messages.specs.Requests.{type_of_metric}

-- A path gives a branch where its first hop is an address, its metric is of the asked type and its cost is one.
abbrev pub branch_with : ℕ → List Hop → Addr → List Branch
branch_with cost hs entry = cond (nat_le cost COST_MAX) (record { entry = entry; cost = cost; hops = hs } ∷ []) []

abbrev pub branch_at : ℕ → List Hop → List Hop → List Branch
branch_at cost hs [] = []
branch_at cost hs (Prefix loose entry length ∷ rest) = branch_with cost hs entry
branch_at cost hs (AsNumber loose n ∷ rest) = []
branch_at cost hs (Key loose n pce ∷ rest) = []
branch_at cost hs (Other loose kind body ∷ rest) = []

abbrev pub branch_by : List Hop → Option ℕ → List Branch
branch_by hs None = []
branch_by hs (Some cost) = branch_at cost hs hs

abbrev pub branch_of : Codec → Metric → List Hop → Option (ℕ × ℕ) → List Branch
branch_of c m hs None = []
branch_of c m hs (Some metric) = cond (metric.0 == type_of_metric m) (branch_by hs (c.units metric.1)) []

abbrev pub branches_in : Codec → Metric → List Path → List Branch
branches_in c m [] = []
branches_in c m (p ∷ ps) = branch_of c m p.hops p.metric ++ branches_in c m ps

-- what is beyond the border, to a search
abbrev pub downs : List Branch → List Down
downs branches = map (λ b. record { node = b.entry; cost = b.cost }) branches

abbrev pub hops_of : Option Branch → List Hop
hops_of None = []
hops_of (Some b) = b.hops

-- what follows the own part: the exit and the branch beyond it, and nothing in the last domain
abbrev pub onward : Addr → Option Addr → List Branch → List Hop
onward exit None down = []
onward exit (Some head) down = strict_hop exit ∷ hops_of (first_least head down)

-- the branch to a client: the own segment is open
abbrev pub open_branch : Best → List Branch → List Hop
open_branch b down = open_of b.segment ++ onward b.exit b.head down

-- what the own part shows behind the key: the destination, in its own domain
abbrev pub end_of : Option Addr → Addr → Option Addr
end_of None target = Some target
end_of (Some head) target = None

-- the branch to a closed peer: the entry and one key
abbrev pub closed_branch : ℕ → Addr → Addr → Best → List Branch → List Hop
closed_branch key pce target b down = closed_of b.entry key pce (end_of b.head target) ++ onward b.exit b.head down

abbrev pub path_of : Codec → Metric → ℕ → List Hop → Path
path_of c m cost hs = record { hops = hs; metric = Some (type_of_metric m, c.word cost) }
