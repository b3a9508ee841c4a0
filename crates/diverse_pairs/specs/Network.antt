-- The arcs of the admitted links of a topology.
use Rattle.std.specs.Prelude.{◌≡◌, ◌<◌, ℕ, List, length, None, Some, slice_get, slice_index_or, MatchOption}
use Rattle.std.specs.declared.option.Option.{Option}
use Rattle.dom_base.specs.declared.link.Link.{Link}
use Rattle.dom_base.specs.declared.query.Query.{Query}
use Rattle.dom_base.specs.Admission.{weight}
use Rattle.te_links.specs.Rows.{Rows}
use Rattle.path_certificate.specs.Offers.{IsAdmittedAt}
use Rattle.diverse_pairs.specs.declared.arcs.Arc.{Arc}

-- the arc of the admitted link at place i
pub record IsArcOf (g : Rows) (q : Query) (i : ℕ) (a : Arc) : Type 0 where
  pub link : Link
  pub at_place : IsAdmittedAt g q i link
  pub tail : slice_get g.nodes a.tail ≡ Some link.from
  pub head : slice_get g.nodes a.head ≡ Some link.to
  pub weight : a.weight ≡ weight q.metric link

-- each admitted link has its arc, at its place
pub record AreArcs (g : Rows) (q : Query) (arcs : List (Option Arc)) : Type 0 where
  pub long : length arcs ≡ length g.links
  pub each : (i : ℕ) → i < length g.links → MatchOption (slice_index_or arcs i None) ((l : Link) → ¬ IsAdmittedAt g q i l) (IsArcOf g q i)
