-- The pair that is chosen among all (Suurballe): a walk, a walk over what it leaves or gives back, and two paths over the links in use then.
use Rattle.std.specs.Prelude.{◌≡◌, ◌≢◌, ◌⊎◌, ◌*◌, ◌<◌, ◌≤◌, ℤ, pos, ◌+ℤ◌, ◌-ℤ◌, ◌<ℤ◌, List, [], ◌∷◌, length, map, Contains, Some}
use Rattle.dom_base.specs.AddrOrder.{rank}
use Rattle.dom_base.specs.declared.addr.Addr.{Addr}
use Rattle.dom_base.specs.declared.link.Link.{Link}
use Rattle.dom_base.specs.declared.query.Query.{Query}
use Rattle.dom_base.specs.declared.query.Label.{Label}
use Rattle.dom_base.specs.declared.query.Seed.{Seed}
use Rattle.dom_base.specs.Admission.{weight}
use Rattle.te_links.specs.Rows.{Rows}
use Rattle.walk_laws.specs.Walks.{AdmitsNode, AdmitsLink}
use Rattle.walk_laws.specs.Labels.{IsLabel, IsSegment}

-- the query without a cap: no least walk costs more than this, since a topology has at most 1,024 nodes and a metric is at most 16,777,215
abbrev pub uncapped : Query → Query
uncapped q = record q { cap = 1024 * 16777215 }

-- the one seed: the target, at no cost
abbrev pub target_seed : Addr → Seed
target_seed t = record { node = t; cost = 0; exit = t }

-- the chosen segment from s to t
pub record IsChosenWalk (g : Rows) (q : Query) (s t : Addr) (links : List Link) : Type 0 where
  pub label : Label
  pub is_label : IsLabel g (uncapped q) (target_seed t ∷ []) s (Some label)
  pub segment : IsSegment g (uncapped q) (target_seed t ∷ []) s label links

-- a link as it may be taken beside a walk, with a weight that may be below 0
pub record Residual : Type 0 where
  pub from : Addr
  pub to : Addr
  pub far : Addr
  pub weight : ℤ

abbrev pub taken : Query → Link → Residual
taken q l = record { from = l.from; to = l.to; far = l.far; weight = pos (weight q.metric l) }

abbrev pub turned : Query → Link → Residual
turned q l = record { from = l.to; to = l.from; far = l.far; weight = pos 0 -ℤ pos (weight q.metric l) }

-- an admitted link outside the walk, or one of the walk turned round with its weight taken off
abbrev pub IsResidual : Rows → Query → List Link → Residual → Type 0
IsResidual g q walk r =
    (l : Link) × AdmitsLink g q l × (((¬ Contains walk l) × (r ≡ taken q l)) ⊎ (Contains walk l × (r ≡ turned q l)))

abbrev pub ResidualWalk : Rows → Query → List Link → Addr → Addr → List Residual → Type 0
ResidualWalk g q walk u v [] = (u ≡ v) × AdmitsNode g q u
ResidualWalk g q walk u v (r ∷ rs) = (r.from ≡ u) × IsResidual g q walk r × ResidualWalk g q walk r.to v rs

abbrev pub residual_cost : List Residual → ℤ
residual_cost [] = pos 0
residual_cost (r ∷ rs) = r.weight +ℤ residual_cost rs

-- lists of addresses in order, by the first that differs
abbrev pub ComesFirst : List Addr → List Addr → Type 0
ComesFirst [] bs = Unit {0}
ComesFirst (a ∷ as') [] = ⊥
ComesFirst (a ∷ as') (b ∷ bs) = (rank a < rank b) ⊎ ((rank a ≡ rank b) × ComesFirst as' bs)

abbrev pub residual_fars : List Residual → List Addr
residual_fars rs = map (λ r. r.far) rs

-- by cost, then by the number of links, then by the far addresses
abbrev pub IsAtMost : List Residual → List Residual → Type 0
IsAtMost rs others =
    (residual_cost rs <ℤ residual_cost others)
    ⊎ ((residual_cost rs ≡ residual_cost others)
    × ((length rs < length others) ⊎ ((length rs ≡ length others) × ComesFirst (residual_fars rs) (residual_fars others))))

-- the least residual walk from s to t
pub record IsSecondWalk (g : Rows) (q : Query) (s t : Addr) (walk : List Link) (rs : List Residual) : Type 0 where
  pub residual : ResidualWalk g q walk s t rs
  pub least : (others : List Residual) → ResidualWalk g q walk s t others → IsAtMost rs others

-- the links in use: those of the walk that aren't turned round, and those outside it that are taken
abbrev pub IsInUse : Rows → Query → List Link → List Residual → Link → Type 0
IsInUse g q walk rs l =
    AdmitsLink g q l × ((Contains walk l × ¬ Contains rs (turned q l)) ⊎ ((¬ Contains walk l) × Contains rs (taken q l)))

-- a path that takes at each node, of these links, the one with the least far address, up to t
abbrev pub IsLowest : (Link → Type 0) → Addr → Addr → List Link → Type 0
IsLowest Among u t [] = u ≡ t
IsLowest Among u t (l ∷ ls) =
    (u ≢ t) × (l.from ≡ u) × Among l × ((m : Link) → m.from ≡ u → Among m → rank l.far ≤ rank m.far) × IsLowest Among l.to t ls

-- the chosen pair: the lowest path over the links in use, and the lowest over those that are left
pub record IsChosenPair (g : Rows) (q : Query) (s t : Addr) (first second : List Link) : Type 0 where
  pub walk : List Link
  pub is_walk : IsChosenWalk g q s t walk
  pub rest : List Residual
  pub is_rest : IsSecondWalk g q s t walk rest
  pub lowest : IsLowest (IsInUse g q walk rest) s t first
  pub left : IsLowest (λ l. IsInUse g q walk rest l × ¬ Contains first l) s t second
