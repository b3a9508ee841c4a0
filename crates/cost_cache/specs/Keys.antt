-- The key of an entry, when two keys are one, and which part of a key is hashed.
use Rattle.std.specs.Prelude.{◌==◌, ◌&&◌, ◌++◌, ℕ, Bool, true, false, List}
use Rattle.std.specs.Bool.{beq}
use Rattle.std.specs.Cmp.Lexicographic.{pointwise}
use Rattle.std.specs.List.{flat_map}
use Rattle.std.specs.Hash as fed
use Rattle.dom_base.specs.AddrOrder.{rank}
use Rattle.dom_base.specs.declared.addr.Addr.{Addr}
use Rattle.dom_base.specs.declared.addr.Addr.TheVariants.{V4, V6}
use Rattle.dom_base.specs.declared.query.Query.{Query}
use Rattle.dom_base.specs.declared.query.Metric.{Metric}
use Rattle.dom_base.specs.declared.query.Metric.TheVariants.{Igp, Te, Hops}
use Rattle.dom_base.specs.declared.query.Exclusion.{Exclusion}
use Rattle.dom_base.specs.declared.query.Excluded.{Excluded}
use Rattle.dom_base.specs.declared.query.Excluded.TheVariants.{Prefix, AsNumber, Srlg, Other}
use Rattle.border_costs.specs.declared.job.Target.{Target}
use Rattle.border_costs.specs.declared.job.Target.TheVariants.{Node, Next}
use Rattle.border_costs.specs.declared.job.Down.{Down}
use Rattle.border_costs.specs.declared.job.Ask.{Ask}
use Rattle.cost_cache.specs.declared.key.Key.{Key}

-- the element, generation, query, target and downstream rows of an ask
abbrev pub key_of : Ask → Key
key_of ask = record { at = ask.at; generation = ask.generation; query = ask.query; target = ask.target; down = ask.down }

abbrev pub same_metric : Metric → Metric → Bool
same_metric Igp Igp = true
same_metric Te Te = true
same_metric Hops Hops = true
same_metric _ _ = false

abbrev pub same_excluded : Excluded → Excluded → Bool
same_excluded (Prefix a l k) (Prefix b m j) = (rank a == rank b) && ((l == m) && (k == j))
same_excluded (AsNumber a) (AsNumber b) = a.0 == b.0
same_excluded (Srlg m) (Srlg n) = m == n
same_excluded (Other k a) (Other j b) = (k == j) && pointwise ◌==◌ a b
same_excluded _ _ = false

abbrev pub same_exclusion : Exclusion → Exclusion → Bool
same_exclusion a b = beq a.avoid b.avoid && same_excluded a.what b.what

abbrev pub same_numbers : Query → Query → Bool
same_numbers a b =
    (a.own.0 == b.own.0) && ((a.cap == b.cap) && ((a.bandwidth == b.bandwidth) && ((a.exclude_any == b.exclude_any) && ((a.include_any == b.include_any) && (a.include_all == b.include_all)))))

abbrev pub same_query : Query → Query → Bool
same_query a b = same_numbers a b && (same_metric a.metric b.metric && pointwise same_exclusion a.exclusions b.exclusions)

abbrev pub same_target : Target → Target → Bool
same_target (Node a) (Node b) = rank a == rank b
same_target (Next a) (Next b) = a.0 == b.0
same_target _ _ = false

abbrev pub same_down : Down → Down → Bool
same_down a b = (rank a.node == rank b.node) && (a.cost == b.cost)

-- whether two keys are one
abbrev pub same_key : Key → Key → Bool
same_key a b =
    (a.at.0 == b.at.0) && ((a.generation == b.generation) && (same_query a.query b.query && (same_target a.target b.target && pointwise same_down a.down b.down)))

abbrev pub addr_writes : Addr → List (List ℕ)
addr_writes (V4 n) = fed.u32 n
addr_writes (V6 n) = fed.u128 n

abbrev pub target_writes : Target → List (List ℕ)
target_writes (Node a) = addr_writes a
target_writes (Next b) = fed.u16 b.0

-- what is hashed of a key: all but its exclusions and the nodes beyond
abbrev pub key_writes : Key → List (List ℕ)
key_writes k = fed.u16 k.at.0 ++ (fed.u64 k.generation ++ (target_writes k.target ++ flat_map (λ d. fed.u32 d.cost) k.down))
