-- How far the solving of a pair has come: places of the ends, a first walk, what it leaves with a second one, and the paths.
use Rattle.std.specs.Prelude.{◌≡◌, ◌<◌, ℕ, Bool, false, List, ◌∷◌, length, map, replicate}
use Rattle.std.specs.declared.option.Option.{Option}
use Rattle.dom_base.specs.declared.addr.Addr.{Addr}
use Rattle.dom_base.specs.declared.link.Link.{Link}
use Rattle.dom_base.specs.declared.query.Query.{Query}
use Rattle.te_links.specs.Rows.{Rows, IsTopology, IsInOrder}
use Rattle.path_search.specs.Search.{IsOpenAt}
use Rattle.path_search.specs.Segments.{AreAt}
use Rattle.diverse_pairs.specs.declared.arcs.Arc.{Arc}
use Rattle.diverse_pairs.specs.declared.arcs.TheConstants.{UNREACHED}
use Rattle.diverse_pairs.specs.declared.certificate.PairForm.{PairForm}
use Rattle.diverse_pairs.specs.declared.certificate.PairForm.TheVariants.{Paths, Cut}
use Rattle.diverse_pairs.specs.Arcs.{at}
use Rattle.diverse_pairs.specs.Distances.{AreDistances}
use Rattle.diverse_pairs.specs.Network.{AreArcs}
use Rattle.diverse_pairs.specs.Paths.{Goes, LeadsOn, Falling, TurnsTight, turned}
use Rattle.diverse_pairs.specs.Residual.{AreResidual, AreHeights}
use Rattle.diverse_pairs.specs.Shown.{ArePotentials, AreCutOff}

-- what is asked, by the places of its ends
pub record IsPlaced (g : Rows) (q : Query) (s t : Addr) (from to : ℕ) : Type 0 where
  pub valid : IsTopology g
  pub order : IsInOrder g
  pub source : IsOpenAt g q s from
  pub target : IsOpenAt g q t to

-- the arcs of the links, and distances over them
pub record IsSearched (g : Rows) (q : Query) (to : ℕ) (arcs : List (Option Arc)) (ds : List ℕ) : Type 0 where
  pub are : AreArcs g q arcs
  pub long : length ds ≡ length g.nodes
  pub found : AreDistances arcs to ds

-- a first walk is in use, and distances over what it leaves are found
pub record IsWalked (from to : ℕ) (arcs : List (Option Arc)) (ds : List ℕ) (us : List Bool) (rs : List (Option Arc)) (ls : List ℕ) : Type 0 where
  pub reached : at ds from < UNREACHED
  pub turns : TurnsTight arcs ds from to (replicate (length arcs) false) us
  pub residual : AreResidual arcs ds us rs
  pub long : length ls ≡ length ds
  pub found : AreDistances rs to ls

-- a second one over what it leaves is turned
pub record IsTurned (from to : ℕ) (ds : List ℕ) (us : List Bool) (rs : List (Option Arc)) (ls : List ℕ) (both : List Bool) (hs : List ℕ) : Type 0 where
  pub reached : at ls from < UNREACHED
  pub turns : TurnsTight rs ls from to us both
  pub heights : AreHeights ds ls hs

-- arcs in use make two paths, one after the other
pub record MakePaths (arcs : List (Option Arc)) (from to : ℕ) (us : List Bool) (hs : List ℕ) : Type 0 where
  pub leads : LeadsOn arcs us from to
  pub falling : Falling arcs us hs
  pub leads_again : (path : List ℕ) → Goes arcs us from path to → LeadsOn arcs (turned us path) from to
  pub falling_again : (path : List ℕ) → Goes arcs us from path to → Falling arcs (turned us path) hs

-- and these are they, with potentials
pub record ArePaths (g : Rows) (s : Addr) (arcs : List (Option Arc)) (from to : ℕ) (us : List Bool) (hs : List ℕ) (rows : List (Addr × ℕ)) (first second : List Addr) : Type 0 where
  pub one : List ℕ
  pub other : List ℕ
  pub goes_one : Goes arcs us from one to
  pub goes_other : Goes arcs (turned us one) from other to
  pub shows_one : (ls : List Link) → AreAt g.links one ls → first ≡ s ∷ map (λ l. l.far) ls
  pub shows_other : (ls : List Link) → AreAt g.links other ls → second ≡ s ∷ map (λ l. l.far) ls
  pub top : ℕ
  pub potentials : ArePotentials g hs top rows

abbrev pub ArePathsIn : Rows → Addr → List (Option Arc) → ℕ → ℕ → List Bool → List ℕ → PairForm → Type 0
ArePathsIn g s arcs from to us hs (Paths rows first second) = ArePaths g s arcs from to us hs rows first second
ArePathsIn g s arcs from to us hs (Cut nodes) = ⊥

-- the cut at the nodes without a distance
abbrev pub IsCutForm : Rows → List ℕ → PairForm → Type 0
IsCutForm g ds (Paths rows first second) = ⊥
IsCutForm g ds (Cut nodes) = AreCutOff g ds nodes
