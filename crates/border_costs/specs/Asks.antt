-- What an ask means: its seeds, and for each entry the least pair of a cost and an exit (RFC 5441, section 4.2).
use Rattle.std.specs.Prelude.{◌≡◌, ◌≤◌, ℕ, List, [], ◌∷◌, length, map, Contains, None, Some, slice_get}
use Rattle.std.specs.declared.option.Option.{Option}
use Rattle.dom_base.specs.declared.addr.Addr.{Addr}
use Rattle.dom_base.specs.declared.names.As.{As}
use Rattle.dom_base.specs.declared.query.Query.{Query}
use Rattle.dom_base.specs.declared.query.Seed.{Seed}
use Rattle.dom_base.specs.declared.query.Label.{Label}
use Rattle.te_links.specs.declared.rows.OutLink.{OutLink}
use Rattle.te_links.specs.Rows.{Rows}
use Rattle.walk_laws.specs.Borders.{Beyond, IsJoin, IsJoinAt, IsBorderSeed, AreBorderSeeds}
use Rattle.path_certificate.specs.declared.limits.TheConstants.{SEEDS_MAX}
use Rattle.border_costs.specs.declared.job.Target.{Target}
use Rattle.border_costs.specs.declared.job.Target.TheVariants.{Node, Next}
use Rattle.border_costs.specs.declared.job.Down.{Down}
use Rattle.border_costs.specs.declared.job.Ask.{Ask}

-- what lies beyond the border, by the rows that the next domain told
abbrev pub beyond : List Down → List Beyond
beyond down = map (λ d. record { node = d.node; cost = d.cost }) down

-- no row is of this node
abbrev pub HasNoDown : List Beyond → Addr → Type 0
HasNoDown down n = (c : ℕ) → ¬ Contains down (record { node = n; cost = c })

-- a target in this domain, at no cost, with itself as the exit
abbrev pub target_seed : Addr → Seed
target_seed t = record { node = t; cost = 0; exit = t }

abbrev pub AreSeedsTo : Rows → Query → List Down → Target → List Seed → Type 0
AreSeedsTo g q down (Node t) seeds = seeds ≡ target_seed t ∷ []
AreSeedsTo g q down (Next b) seeds = AreBorderSeeds g q b (beyond down) seeds

-- the seeds of an ask, from which one search gives all its costs
pub record AreSeeds (g : Rows) (ask : Ask) (seeds : List Seed) : Type 0 where
  pub are : AreSeedsTo g ask.query ask.down ask.target seeds
  pub few : length seeds ≤ SEEDS_MAX

abbrev pub IsPairTo : Rows → Query → List Down → Addr → Target → Option Label → Type 0
IsPairTo g q down entry (Node t) o = IsJoinAt g q t entry o
IsPairTo g q down entry (Next b) o = IsJoin g q b (beyond down) entry o

-- the pair of an entry, by the join of the border table with what lies beyond, or none
abbrev pub IsPair : Rows → Ask → Addr → Option Label → Type 0
IsPair g ask entry o = IsPairTo g ask.query ask.down entry ask.target o

abbrev pub HasNoPair : Rows → Ask → Addr → Type 0
HasNoPair g ask entry = IsPair g ask entry None

-- the out link at a place has this seed
pub record IsSeedAt (g : Rows) (q : Query) (next : As) (down : List Down) (index : ℕ) (s : Seed) : Type 0 where
  pub out : OutLink
  pub at : slice_get g.outs index ≡ Some out
  pub is_seed : IsBorderSeed g q next (beyond down) out s

-- or none
abbrev pub IsNoSeedAt : Rows → Query → As → List Down → ℕ → Type 0
IsNoSeedAt g q next down index =
    (out : OutLink) (s : Seed) → slice_get g.outs index ≡ Some out → ¬ IsBorderSeed g q next (beyond down) out s
