-- Vertices of the border graph by their places in a list.
use Rattle.std.specs.Prelude.{◌≡◌, ◌&&◌, ◌==◌, ℕ, Bool, true, false, cond, List, Option, Some, Contains, All, position}
use Rattle.pce_common.specs.plant_model.Types.{As, Addr, ParentLink}
use Rattle.dom_base.specs.declared.addr.Addr.TheVariants.{V4, V6}
use Rattle.pce_common.specs.plant_model.declared.upper.ChildRow.{ChildRow}
use Rattle.pce_common.specs.plant_model.declared.upper.BorderJob.{BorderJob}
use Rattle.pce_common.specs.plant_model.BorderGraph.{Vertex, Enter, Leave}
use Rattle.pce_parent.specs.declared.spot.Spot.{Spot}

-- a vertex as it is looked up
abbrev pub spot_at : Bool → As → Addr → Spot
spot_at leaves own (V4 n) = record { leaves = leaves; own = own; wide = false; number = n }
spot_at leaves own (V6 n) = record { leaves = leaves; own = own; wide = true; number = n }

abbrev pub spot_of : Vertex → Spot
spot_of (Enter a n) = spot_at false a n
spot_of (Leave a n) = spot_at true a n

abbrev pub same_flag : Bool → Bool → Bool
same_flag true b = b
same_flag false b = cond b false true

abbrev pub same_spot : Spot → Spot → Bool
same_spot a b = same_flag a.leaves b.leaves && ((a.own.0 == b.own.0) && (same_flag a.wide b.wide && (a.number == b.number)))

-- the first place of a spot
abbrev pub place_of : List Spot → Spot → Option ℕ
place_of spots s = position (same_spot s) spots

-- a vertex stands at a place
abbrev pub IsAt : List Spot → Vertex → ℕ → Type 0
IsAt spots v k = place_of spots (spot_of v) ≡ Some k

-- what was there stays
abbrev pub Holds : List Spot → List Spot → Type 0
Holds old new = (s : Spot) → Contains old s → Contains new s

pub record Adds (old : List Spot) (s : Spot) (new : List Spot) : Type 0 where
  pub holds : Holds old new
  pub added : Contains new s

-- both ends of a link
pub record HasLink (spots : List Spot) (l : ParentLink) : Type 0 where
  pub tail : Contains spots (spot_of (Leave l.from_as l.link.from))
  pub head : Contains spots (spot_of (Enter l.to_as l.link.to))

-- where a row leads to the destination
abbrev pub HasEnd : BorderJob → List Spot → ChildRow → Type 0
HasEnd j spots r = r.target ≡ j.target → Contains spots (spot_of (Leave r.at r.target))

-- The start, and all that a walk to an end passes behind it.
pub record AreVertices (j : BorderJob) (spots : List Spot) : Type 0 where
  pub start : Contains spots (spot_of (Enter j.start j.source))
  pub links : All (HasLink spots) j.links
  pub ends : All (HasEnd j spots) j.rows
