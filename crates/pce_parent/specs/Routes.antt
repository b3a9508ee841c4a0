-- Costs that are least, and the chosen walk over them.
use Rattle.std.specs.Prelude.{◌≡◌, ◌<◌, ◌≤◌, ℕ, List, ◌++◌, length, All, Option, Some}
use Rattle.pce_common.specs.plant_model.Types.{As, Addr, Hop}
use Rattle.dom_base.specs.AddrOrder.{rank}
use Rattle.pce_common.specs.plant_model.declared.upper.BorderJob.{BorderJob}
use Rattle.pce_common.specs.plant_model.BorderGraph.{Vertex, Enter, Leave, Edge, IsTightEdge, Shows}
use Rattle.pce_parent.specs.declared.arcs.Arc.{Arc}
use Rattle.pce_parent.specs.declared.spot.Spot.{Spot}
use Rattle.pce_parent.specs.declared.route.Stand.{Stand}
use Rattle.pce_parent.specs.Places.{IsAt, AreVertices}
use Rattle.pce_parent.specs.Arcs.{AreRowArcs, AreLinkArcs}
use Rattle.pce_parent.specs.Costs.{cost_at, AreReached, IsRelaxed}

-- costs over all edges that nothing lowers
pub record AreLeast (j : BorderJob) (spots : List Spot) (rows links : List Arc) (costs : List (Option ℕ)) : Type 0 where
  pub vertices : AreVertices j spots
  pub row_arcs : AreRowArcs j spots (length j.rows) rows
  pub link_arcs : AreLinkArcs j spots (length j.links) links
  pub reached : AreReached j spots costs
  pub rows_relaxed : All (IsRelaxed j.query.cap costs) rows
  pub links_relaxed : All (IsRelaxed j.query.cap costs) links

-- where a domain is entered, with the cost there
pub record StandsIn (spots : List Spot) (costs : List (Option ℕ)) (s : Stand) : Type 0 where
  pub own : As
  pub node : Addr
  pub is_at : IsAt spots (Enter own node) s.place
  pub is_cost : cost_at costs s.place ≡ Some s.rest

-- and where one is left
pub record StandsOut (spots : List Spot) (costs : List (Option ℕ)) (s : Stand) : Type 0 where
  pub own : As
  pub node : Addr
  pub is_at : IsAt spots (Leave own node) s.place
  pub is_cost : cost_at costs s.place ≡ Some s.rest

pub record StandsInHeavier (spots : List Spot) (costs : List (Option ℕ)) (from to : Stand) : Type 0 where
  pub stands : StandsIn spots costs to
  pub less : to.rest < from.rest

-- the tight edge of least choice between two vertices, with its hops
pub record GoesOn (j : BorderJob) (v u : Vertex) (c d : ℕ) (more : List Hop) : Type 0 where
  pub edge : Edge
  pub tight : IsTightEdge j v u c edge d
  pub least : (w : Vertex) (x : Edge) (e : ℕ) → IsTightEdge j v w c x e → rank edge.choice ≤ rank x.choice
  pub same_hops : more ≡ edge.hops

-- the same between places
pub record GoesOver (j : BorderJob) (spots : List Spot) (from to : Stand) (old new : List Hop) : Type 0 where
  pub more : List Hop
  pub appended : new ≡ old ++ more
  pub drops : to.rest ≤ from.rest
  pub goes : (v u : Vertex) → IsAt spots v from.place → IsAt spots u to.place → GoesOn j v u from.rest to.rest more

-- the hops of the chosen walk
pub record IsRoute (j : BorderJob) (spots : List Spot) (start : Stand) (hops : List Hop) : Type 0 where
  pub shows : (v : Vertex) → IsAt spots v start.place → (us : List Vertex) × Shows j us v start.rest hops
