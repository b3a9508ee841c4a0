-- The edges of the border graph between the places of vertices.
use Rattle.std.specs.Prelude.{◌≡◌, ◌<◌, ◌≤◌, ℕ, false, List, All, Contains, Some, slice_get}
use Rattle.pce_common.specs.plant_model.Types.{As, ParentLink, Query, Exclusion}
use Rattle.dom_base.specs.declared.query.Excluded.TheVariants.{AsNumber}
use Rattle.dom_base.specs.declared.limits.TheConstants.{COST_MAX}
use Rattle.dom_base.specs.Admission.{weight, Allows}
use Rattle.pce_common.specs.plant_model.declared.upper.ChildRow.{ChildRow}
use Rattle.pce_common.specs.plant_model.declared.upper.BorderJob.{BorderJob}
use Rattle.pce_common.specs.plant_model.BorderGraph.{Enter, Leave, ExcludesAs}
use Rattle.pce_parent.specs.declared.arcs.Arc.{Arc}
use Rattle.pce_parent.specs.declared.spot.Spot.{Spot}
use Rattle.pce_parent.specs.Places.{IsAt}

-- the exclusion is that of a whole domain
abbrev pub NamesDomain : Exclusion → As → Type 0
NamesDomain x a = x ≡ record { avoid = false; what = AsNumber a }

-- the query admits a link between two domains
pub record IsOpenLink (q : Query) (l : ParentLink) : Type 0 where
  pub allowed : Allows q l.link
  pub from_open : ¬ ExcludesAs q l.from_as
  pub to_open : ¬ ExcludesAs q l.to_as

-- the edge of the row with this index
pub record IsRowArc (j : BorderJob) (spots : List Spot) (i : ℕ) (row : ChildRow) (a : Arc) : Type 0 where
  pub same_index : a.index ≡ i
  pub row_open : ¬ ExcludesAs j.query row.at
  pub tail : IsAt spots (Enter row.at row.entry) a.from
  pub head : IsAt spots (Leave row.at row.target) a.to
  pub same_cost : a.cost ≡ row.cost
  pub light : a.cost ≤ COST_MAX
  pub same_choice : a.choice ≡ row.target

-- the row has none: its domain is excluded, or a vertex has no place
abbrev pub IsNoRowArc : BorderJob → List Spot → ChildRow → Type 0
IsNoRowArc j spots row =
    ¬ ExcludesAs j.query row.at → (k m : ℕ) → IsAt spots (Enter row.at row.entry) k → IsAt spots (Leave row.at row.target) m → ⊥

pub record IsSomeRowArc (j : BorderJob) (spots : List Spot) (a : Arc) : Type 0 where
  pub row : ChildRow
  pub at_index : slice_get j.rows a.index ≡ Some row
  pub is_arc : IsRowArc j spots a.index row a

-- the edges of the first n rows
pub record AreRowArcs (j : BorderJob) (spots : List Spot) (n : ℕ) (arcs : List Arc) : Type 0 where
  pub each : All (IsSomeRowArc j spots) arcs
  pub every : (i : ℕ) (row : ChildRow) → i < n → slice_get j.rows i ≡ Some row → ¬ ExcludesAs j.query row.at →
      (k m : ℕ) → IsAt spots (Enter row.at row.entry) k → IsAt spots (Leave row.at row.target) m → (a : Arc) × Contains arcs a × IsRowArc j spots i row a

-- the edge of the link with this index
pub record IsLinkArc (j : BorderJob) (spots : List Spot) (i : ℕ) (l : ParentLink) (a : Arc) : Type 0 where
  pub same_index : a.index ≡ i
  pub link_open : IsOpenLink j.query l
  pub tail : IsAt spots (Leave l.from_as l.link.from) a.from
  pub head : IsAt spots (Enter l.to_as l.link.to) a.to
  pub same_cost : a.cost ≡ weight j.query.metric l.link
  pub light : a.cost ≤ COST_MAX
  pub heavy : 1 ≤ a.cost
  pub same_choice : a.choice ≡ l.link.far

abbrev pub IsNoLinkArc : BorderJob → List Spot → ParentLink → Type 0
IsNoLinkArc j spots l =
    IsOpenLink j.query l → (k m : ℕ) → IsAt spots (Leave l.from_as l.link.from) k → IsAt spots (Enter l.to_as l.link.to) m → ⊥

pub record IsSomeLinkArc (j : BorderJob) (spots : List Spot) (a : Arc) : Type 0 where
  pub link : ParentLink
  pub at_index : slice_get j.links a.index ≡ Some link
  pub is_arc : IsLinkArc j spots a.index link a

-- the edges of the first n links
pub record AreLinkArcs (j : BorderJob) (spots : List Spot) (n : ℕ) (arcs : List Arc) : Type 0 where
  pub each : All (IsSomeLinkArc j spots) arcs
  pub every : (i : ℕ) (l : ParentLink) → i < n → slice_get j.links i ≡ Some l → IsOpenLink j.query l →
      (k m : ℕ) → IsAt spots (Leave l.from_as l.link.from) k → IsAt spots (Enter l.to_as l.link.to) m → (a : Arc) × Contains arcs a × IsLinkArc j spots i l a
