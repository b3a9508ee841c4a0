-- A comparison of keys tells whether they are one.
use Rattle.std.proofs.Common.{◌≡◌, ◌∙◌, ◌&&◌, Bool, true, false, ℕ, List, ap, refl}
use Rattle.std.specs.Prelude.{◌==◌}
use Rattle.std.specs.Bool.{Decides, beq}
use Rattle.std.specs.Cmp.{booleans_Decides}
use Rattle.std.specs.Cmp.Lexicographic.{pointwise, pointwise_decides}
use Rattle.std.proofs.lemmas.Bool.Decides.{Decides-eqb, Decides-and, Decides-like}
use Rattle.dom_base.specs.AddrOrder.{rank}
use Rattle.dom_base.specs.declared.addr.Addr.{Addr}
use Rattle.dom_base.specs.declared.names.As.{As}
use Rattle.dom_base.specs.declared.query.Query.{Query}
use Rattle.dom_base.specs.declared.query.Metric.{Metric}
use Rattle.dom_base.specs.declared.query.Metric.TheVariants.{Igp, Te, Hops}
use Rattle.dom_base.specs.declared.query.Exclusion.{Exclusion}
use Rattle.dom_base.specs.declared.query.Excluded.{Excluded}
use Rattle.dom_base.specs.declared.query.Excluded.TheVariants.{Prefix, AsNumber, Srlg, Other}
use Rattle.dom_base.proofs.Ranks.{Decides-rank}
use Rattle.border_costs.specs.declared.job.Target.{Target}
use Rattle.border_costs.specs.declared.job.Target.TheVariants.{Node, Next}
use Rattle.border_costs.specs.declared.job.Down.{Down}
use Rattle.cost_cache.specs.declared.key.Key.{Key}
use Rattle.cost_cache.specs.Keys.{same_metric, same_excluded, same_exclusion, same_numbers, same_query, same_target, same_down, same_key}

abbrev as_of : ℕ → As
as_of n = record { 0 = n }

as_tells : (a b : As) → Decides (a.0 == b.0) (a ≡ b)
as_tells a b = Decides-like (a.0 == b.0) (λ e. ap as_of e) (λ e. ap (λ (s : As). s.0) e) (Decides-eqb a.0 b.0)

metric_tells : (a b : Metric) → Decides (same_metric a b) (a ≡ b)
metric_tells Igp Igp = (λ is. refl, λ is. refl)
metric_tells Te Te = (λ is. refl, λ is. refl)
metric_tells Hops Hops = (λ is. refl, λ is. refl)
metric_tells a b = (λ is. absurd (let no : false ≡ true = is in cc), λ is. absurd (cc))

excluded_tells : (a b : Excluded) → Decides (same_excluded a b) (a ≡ b)
excluded_tells (Prefix a l k) (Prefix b m j) =
    Decides-like (same_excluded (Prefix a l k) (Prefix b m j))
    (λ p. ap (λ (x : Addr). Prefix x l k) p.0 ∙ ap (λ (x : ℕ). Prefix b x k) p.1.0 ∙ ap (λ (x : ℕ). Prefix b m x) p.1.1)
    (λ e. let addr : a ≡ b = cc in let length : l ≡ m = cc in let attribute : k ≡ j = cc in (addr, (length, attribute)))
    (Decides-and (rank a == rank b) ((l == m) && (k == j)) (Decides-rank a b) (Decides-and (l == m) (k == j) (Decides-eqb l m) (Decides-eqb k j)))
excluded_tells (AsNumber a) (AsNumber b) =
    Decides-like (a.0 == b.0) (λ (e : a ≡ b). ap AsNumber e) (λ e. let number : a ≡ b = cc in number) (as_tells a b)
excluded_tells (Srlg m) (Srlg n) =
    Decides-like (m == n) (λ (e : m ≡ n). ap Srlg e) (λ e. let number : m ≡ n = cc in number) (Decides-eqb m n)
excluded_tells (Other k a) (Other j b) =
    Decides-like ((k == j) && pointwise ◌==◌ a b)
    (λ p. ap (λ (x : ℕ). Other x a) p.0 ∙ ap (λ (x : List ℕ). Other j x) p.1)
    (λ e. let kind : k ≡ j = cc in let body : a ≡ b = cc in (kind, body))
    (Decides-and (k == j) (pointwise ◌==◌ a b) (Decides-eqb k j) (pointwise_decides Decides-eqb a b))
excluded_tells a b = (λ is. absurd (let no : false ≡ true = is in cc), λ is. absurd (cc))

abbrev exclusion_of : Bool → Excluded → Exclusion
exclusion_of avoid what = record { avoid = avoid; what = what }

exclusion_tells : (a b : Exclusion) → Decides (same_exclusion a b) (a ≡ b)
exclusion_tells a b =
    Decides-like (same_exclusion a b)
    (λ p. ap (λ (x : Bool). exclusion_of x a.what) p.0 ∙ ap (λ (x : Excluded). exclusion_of b.avoid x) p.1)
    (λ e. (ap (λ (x : Exclusion). x.avoid) e, ap (λ (x : Exclusion). x.what) e))
    (Decides-and (beq a.avoid b.avoid) (same_excluded a.what b.what) (booleans_Decides a.avoid b.avoid) (excluded_tells a.what b.what))

abbrev query_of : As → Metric → ℕ → ℕ → ℕ → ℕ → ℕ → List Exclusion → Query
query_of own metric cap bandwidth exclude_any include_any include_all exclusions = record {
  own = own;
  metric = metric;
  cap = cap;
  bandwidth = bandwidth;
  exclude_any = exclude_any;
  include_any = include_any;
  include_all = include_all;
  exclusions = exclusions;
}

query_tells : (a b : Query) → Decides (same_query a b) (a ≡ b)
query_tells a b =
    Decides-like (same_query a b)
    (λ p.
    ap (λ (x : As). query_of x a.metric a.cap a.bandwidth a.exclude_any a.include_any a.include_all a.exclusions) p.0.0
    ∙ ap (λ (x : ℕ). query_of b.own a.metric x a.bandwidth a.exclude_any a.include_any a.include_all a.exclusions) p.0.1.0
    ∙ ap (λ (x : ℕ). query_of b.own a.metric b.cap x a.exclude_any a.include_any a.include_all a.exclusions) p.0.1.1.0
    ∙ ap (λ (x : ℕ). query_of b.own a.metric b.cap b.bandwidth x a.include_any a.include_all a.exclusions) p.0.1.1.1.0
    ∙ ap (λ (x : ℕ). query_of b.own a.metric b.cap b.bandwidth b.exclude_any x a.include_all a.exclusions) p.0.1.1.1.1.0
    ∙ ap (λ (x : ℕ). query_of b.own a.metric b.cap b.bandwidth b.exclude_any b.include_any x a.exclusions) p.0.1.1.1.1.1
    ∙ ap (λ (x : Metric). query_of b.own x b.cap b.bandwidth b.exclude_any b.include_any b.include_all a.exclusions) p.1.0
    ∙ ap (λ (x : List Exclusion). query_of b.own b.metric b.cap b.bandwidth b.exclude_any b.include_any b.include_all x) p.1.1)
    (λ e. (
      (
        ap (λ (x : Query). x.own) e,
        (
          ap (λ (x : Query). x.cap) e,
          (ap (λ (x : Query). x.bandwidth) e, (ap (λ (x : Query). x.exclude_any) e, (ap (λ (x : Query). x.include_any) e, ap (λ (x : Query). x.include_all) e))),
        ),
      ),
      (ap (λ (x : Query). x.metric) e, ap (λ (x : Query). x.exclusions) e),
    ))
    (Decides-and (same_numbers a b) (same_metric a.metric b.metric && pointwise same_exclusion a.exclusions b.exclusions)
    (Decides-and (a.own.0 == b.own.0) ((a.cap == b.cap) && ((a.bandwidth == b.bandwidth) && ((a.exclude_any == b.exclude_any) && ((a.include_any == b.include_any) && (a.include_all == b.include_all))))) (as_tells a.own b.own)
    (Decides-and (a.cap == b.cap) ((a.bandwidth == b.bandwidth) && ((a.exclude_any == b.exclude_any) && ((a.include_any == b.include_any) && (a.include_all == b.include_all)))) (Decides-eqb a.cap b.cap)
    (Decides-and (a.bandwidth == b.bandwidth) ((a.exclude_any == b.exclude_any) && ((a.include_any == b.include_any) && (a.include_all == b.include_all))) (Decides-eqb a.bandwidth b.bandwidth)
    (Decides-and (a.exclude_any == b.exclude_any) ((a.include_any == b.include_any) && (a.include_all == b.include_all)) (Decides-eqb a.exclude_any b.exclude_any)
    (Decides-and (a.include_any == b.include_any) (a.include_all == b.include_all) (Decides-eqb a.include_any b.include_any) (Decides-eqb a.include_all b.include_all))))))
    (Decides-and (same_metric a.metric b.metric) (pointwise same_exclusion a.exclusions b.exclusions) (metric_tells a.metric b.metric)
    (pointwise_decides exclusion_tells a.exclusions b.exclusions)))

target_tells : (a b : Target) → Decides (same_target a b) (a ≡ b)
target_tells (Node a) (Node b) = Decides-like (rank a == rank b) (λ (e : a ≡ b). ap Node e) (λ e. let node : a ≡ b = cc in node) (Decides-rank a b)
target_tells (Next a) (Next b) = Decides-like (a.0 == b.0) (λ (e : a ≡ b). ap Next e) (λ e. let next : a ≡ b = cc in next) (as_tells a b)
target_tells a b = (λ is. absurd (let no : false ≡ true = is in cc), λ is. absurd (cc))

abbrev down_of : Addr → ℕ → Down
down_of node cost = record { node = node; cost = cost }

pub same_down-Decides : (a b : Down) → Decides (same_down a b) (a ≡ b)
same_down-Decides a b =
    Decides-like (same_down a b)
    (λ p. ap (λ (x : Addr). down_of x a.cost) p.0 ∙ ap (λ (x : ℕ). down_of b.node x) p.1)
    (λ e. (ap (λ (x : Down). x.node) e, ap (λ (x : Down). x.cost) e))
    (Decides-and (rank a.node == rank b.node) (a.cost == b.cost) (Decides-rank a.node b.node) (Decides-eqb a.cost b.cost))

abbrev key_with : As → ℕ → Query → Target → List Down → Key
key_with at generation query target down = record { at = at; generation = generation; query = query; target = target; down = down }

pub same_key-Decides : (a b : Key) → Decides (same_key a b) (a ≡ b)
same_key-Decides a b =
    Decides-like (same_key a b)
    (λ p.
    ap (λ (x : As). key_with x a.generation a.query a.target a.down) p.0
    ∙ ap (λ (x : ℕ). key_with b.at x a.query a.target a.down) p.1.0
    ∙ ap (λ (x : Query). key_with b.at b.generation x a.target a.down) p.1.1.0
    ∙ ap (λ (x : Target). key_with b.at b.generation b.query x a.down) p.1.1.1.0
    ∙ ap (λ (x : List Down). key_with b.at b.generation b.query b.target x) p.1.1.1.1)
    (λ e. (
      ap (λ (x : Key). x.at) e,
      (ap (λ (x : Key). x.generation) e, (ap (λ (x : Key). x.query) e, (ap (λ (x : Key). x.target) e, ap (λ (x : Key). x.down) e))),
    ))
    (Decides-and (a.at.0 == b.at.0) ((a.generation == b.generation) && (same_query a.query b.query && (same_target a.target b.target && pointwise same_down a.down b.down))) (as_tells a.at b.at)
    (Decides-and (a.generation == b.generation) (same_query a.query b.query && (same_target a.target b.target && pointwise same_down a.down b.down)) (Decides-eqb a.generation b.generation)
    (Decides-and (same_query a.query b.query) (same_target a.target b.target && pointwise same_down a.down b.down) (query_tells a.query b.query)
    (Decides-and (same_target a.target b.target) (pointwise same_down a.down b.down) (target_tells a.target b.target) (pointwise_decides same_down-Decides a.down b.down)))))
