-- The edges between places are those of the border graph.
use Rattle.std.proofs.Common.{◌≡◌, ◌∷◌, [], List, refl, sym, ◌∙◌, subst, arith}
use Rattle.std.specs.Prelude.{Contains, All}
use Rattle.std.proofs.lemmas.List.Elements.{All-weaker, Contains-append_right}
use Rattle.pce_common.specs.plant_model.Types.{ParentLink}
use Rattle.dom_base.specs.Admission.{weight}
use Rattle.pce_common.specs.plant_model.declared.upper.ChildRow.{ChildRow}
use Rattle.pce_common.specs.plant_model.declared.upper.BorderJob.{BorderJob}
use Rattle.pcep_subobjects.specs.Hops.{strict_hop}
use Rattle.pce_common.specs.plant_model.BorderGraph.{Vertex, Enter, Leave, Edge, IsEdge, IsFirstRow}
use Rattle.pce_parent.specs.declared.arcs.Arc.{Arc}
use Rattle.pce_parent.specs.declared.spot.Spot.{Spot}
use Rattle.pce_parent.specs.Places.{IsAt}
use Rattle.pce_parent.specs.Arcs.{IsSomeRowArc, IsSomeLinkArc}
use Rattle.pce_parent.specs.Costs.{IsStep}
use Rattle.pce_parent.proofs.PlaceLaws.{within, same_vertex}
use Rattle.pce_parent.proofs.RowLaws.{contains_at, FirstLike, first_like}

-- what stands at an end of an edge
abbrev pub LeadsOn : BorderJob → List Spot → Vertex → Arc → Type 0
LeadsOn j spots v a = (u : Vertex) × (x : Edge) × IsAt spots u a.to × IsEdge j v u x × (x.cost ≡ a.cost)

pub row_step : (j : BorderJob) (spots : List Spot) (a : Arc) → IsSomeRowArc j spots a → IsStep j spots a
row_step j spots a is =
    let row : ChildRow = is.row in
    let arc = is.is_arc in
    let f : FirstLike j.rows row = first_like j.rows row (contains_at j.rows a.index row is.at_index) in
    let x : Edge = record { cost = f.found.cost; choice = row.target; hops = f.found.hops } in
    let leads : LeadsOn j spots (Enter row.at row.entry) a = (
      Leave row.at row.target,
      x,
      arc.head,
      (f.found, f.is_first, f.alike.same_at, refl, f.alike.same_entry, f.alike.same_target, arc.row_open, refl),
      f.alike.same_cost ∙ sym arc.same_cost,
    ) in
    record {
      tail = within spots (Enter row.at row.entry) a.from arc.tail;
      head = within spots (Leave row.at row.target) a.to arc.head;
      light = arc.light;
      edge = λ v stands. subst (λ (w : Vertex). LeadsOn j spots w a) (same_vertex spots (Enter row.at row.entry) v a.from arc.tail stands) leads;
    }

pub link_step : (j : BorderJob) (spots : List Spot) (a : Arc) → IsSomeLinkArc j spots a → IsStep j spots a
link_step j spots a is =
    let l : ParentLink = is.link in
    let arc = is.is_arc in
    let x : Edge = record { cost = weight j.query.metric l.link; choice = l.link.far; hops = strict_hop l.link.far ∷ [] } in
    let leads : LeadsOn j spots (Leave l.from_as l.link.from) a = (
      Enter l.to_as l.link.to,
      x,
      arc.head,
      (l, contains_at j.links a.index l is.at_index, refl, refl, refl, refl, arc.link_open.allowed, arc.link_open.from_open, arc.link_open.to_open, refl),
      sym arc.same_cost,
    ) in
    record {
      tail = within spots (Leave l.from_as l.link.from) a.from arc.tail;
      head = within spots (Enter l.to_as l.link.to) a.to arc.head;
      light = arc.light;
      edge = λ v stands. subst (λ (w : Vertex). LeadsOn j spots w a) (same_vertex spots (Leave l.from_as l.link.from) v a.from arc.tail stands) leads;
    }

pub row_steps : (j : BorderJob) (spots : List Spot) (arcs : List Arc) → All (IsSomeRowArc j spots) arcs → All (IsStep j spots) arcs
row_steps j spots arcs each = All-weaker (IsSomeRowArc j spots) (IsStep j spots) (row_step j spots) arcs each

pub link_steps : (j : BorderJob) (spots : List Spot) (arcs : List Arc) → All (IsSomeLinkArc j spots) arcs → All (IsStep j spots) arcs
link_steps j spots arcs each = All-weaker (IsSomeLinkArc j spots) (IsStep j spots) (link_step j spots) arcs each

-- the first of alike rows is a row
pub first_is_row : (rows : List ChildRow) (row : ChildRow) → IsFirstRow rows row → Contains rows row
first_is_row rows row first =
    subst (λ (rs : List ChildRow). Contains rs row) (sym first.is)
    (Contains-append_right first.before (row ∷ first.after) row (0, omega arith, refl))
