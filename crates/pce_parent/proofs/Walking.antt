-- The chosen walk, edge by edge.
use Rattle.std.proofs.Common.{◌≡◌, ℕ, ◌≤◌, List, [], ◌∷◌, ◌++◌, append_assoc, append-nil, arith, refl, sym, ◌∙◌, ap, subst, None, Some}
use Rattle.std.specs.declared.option.Option.{Option}
use Rattle.std.proofs.lemmas.List.Elements.{All-contains}
use Rattle.pce_common.specs.plant_model.Types.{Hop}
use Rattle.pce_common.specs.plant_model.declared.upper.BorderJob.{BorderJob}
use Rattle.pce_common.specs.plant_model.BorderGraph.{Vertex, Enter, Leave, Edge, IsEdge, IsEnd, BorderWalk, IsLeastTo, Shows, SolvesBorder}
use Rattle.pce_parent.specs.declared.arcs.Arc.{Arc}
use Rattle.pce_parent.specs.declared.spot.Spot.{Spot}
use Rattle.pce_parent.specs.declared.route.Stand.{Stand}
use Rattle.pce_parent.specs.Places.{IsAt}
use Rattle.pce_parent.specs.Arcs.{IsSomeLinkArc}
use Rattle.pce_parent.specs.Costs.{cost_at}
use Rattle.pce_parent.specs.Routes.{AreLeast, StandsIn, StandsOut, StandsInHeavier, GoesOn, GoesOver, IsRoute}
use Rattle.pce_parent.proofs.PlaceLaws.{same_vertex}
use Rattle.pce_parent.proofs.Leasts.{Arrives, some_is, onward, lower, least_at}
use Rattle.pce_parent.proofs.Going.{link_arc}

-- what follows completes the walk from the start
pub record IsUnderway (j : BorderJob) (spots : List Spot) (costs : List (Option ℕ)) (start here : Stand) (hops : List Hop) : Type 0 where
  pub stands : StandsIn spots costs here
  pub completes : (v w : Vertex) → IsAt spots v start.place → IsAt spots w here.place → (us : List Vertex) (below : List Hop) → Shows j us w here.rest below →
      (vs : List Vertex) × Shows j vs v start.rest (hops ++ below)

pub set_out : (j : BorderJob) (spots : List Spot) (costs : List (Option ℕ)) (start : Stand) → StandsIn spots costs start → IsUnderway j spots costs start start []
set_out j spots costs start stands = record {
  stands = stands;
  completes = λ v w at_v at_w us below shows. (us, subst (λ (x : Vertex). Shows j us x start.rest below) (same_vertex spots w v start.place at_w at_v) shows);
}

-- one edge, and what follows behind it
one_edge : (j : BorderJob) (v u : Vertex) (c d : ℕ) (us : List Vertex) (more below : List Hop) → (IsEnd j v → ⊥) → GoesOn j v u c d more → Shows j us u d below → Shows j (u ∷ us) v c (more ++ below)
one_edge j v u c d us more below no_end goes shows = record {
  goes_on = no_end;
  edge = goes.edge;
  rest = d;
  tight = goes.tight;
  least = goes.least;
  below = below;
  shown = shows;
  is_hops = ap (λ (hs : List Hop). hs ++ below) goes.same_hops;
}

module _ (j : BorderJob) (spots : List Spot) (rows links : List Arc) (costs : List (Option ℕ)) (is : AreLeast j spots rows links costs) (start here left : Stand) (hops old : List Hop)
    (way : IsUnderway j spots costs start here old) (out : StandsOut spots costs left) (over : GoesOver j spots here left old hops) where
  -- a link has a cost
  heavy_edge : (w : Vertex) (x : Edge) (ws : List Vertex) (rest : ℕ) → IsEdge j (Leave out.own out.node) w x → BorderWalk j ws w rest → 1 ≤ x.cost
  heavy_edge w x ws rest edge walk =
      let place = onward j spots rows links costs is (Leave out.own out.node) w x ws rest edge walk in
      let has : Arrives links left.place place.0 x = link_arc j spots rows links costs is (Leave out.own out.node) w x left.place place.0 tt edge out.is_at place.1 in
      let some : IsSomeLinkArc j spots has.arc = All-contains (IsSomeLinkArc j spots) links has.arc is.link_arcs.each has.is_arc in
      omega (arith, some.is_arc.heavy, has.same_cost)

  at_end : (us : List Vertex) → BorderWalk j us (Leave out.own out.node) left.rest → left.rest ≡ 0 → IsEnd j (Leave out.own out.node)
  at_end [] walk zero = walk.0
  at_end (w ∷ ws) walk zero = absurd (omega (arith, heavy_edge w walk.0 ws walk.1 walk.2 walk.3, walk.4, zero))

  -- the walk ends here
  pub arrive : left.rest ≡ 0 → IsRoute j spots start hops
  arrive zero = record {
    shows = λ v at_v.
        let w : Vertex = Enter way.stands.own way.stands.node in
        let u : Vertex = Leave out.own out.node in
        let least : IsLeastTo j u left.rest = least_at j spots rows links costs is u left.place left.rest out.is_at out.is_cost in
        let ends : IsEnd j u = at_end least.walk least.is_walk zero in
        let goes : GoesOn j w u here.rest left.rest over.more = over.goes w u way.stands.is_at out.is_at in
        let shown : Shows j (u ∷ []) w here.rest (over.more ++ []) = one_edge j w u here.rest left.rest [] over.more [] (λ e. e) goes (ends, refl) in
        let whole = way.completes v w at_v way.stands.is_at (u ∷ []) (over.more ++ []) shown in
        (whole.0, subst (λ (hs : List Hop). Shows j whole.0 v start.rest hs) (ap (λ (hs : List Hop). old ++ hs) (append-nil over.more) ∙ sym over.appended) whole.1);
  }

  -- or goes on into the next domain
  pub go_on : (next : Stand) (new : List Hop) → 1 ≤ left.rest → GoesOver j spots left next hops new → StandsInHeavier spots costs left next → IsUnderway j spots costs start next new
  go_on next new more over' heavier = record {
    stands = heavier.stands;
    completes = λ v w at_v at_w us below shows.
        let p : Vertex = Enter way.stands.own way.stands.node in
        let u : Vertex = Leave out.own out.node in
        let no_end : IsEnd j u → ⊥ = λ ends. omega (arith, more, some_is left.rest 0 (sym out.is_cost ∙ is.reached.ends left.place u out.is_at ends)) in
        let behind : Shows j (w ∷ us) u left.rest (over'.more ++ below) = one_edge j u w left.rest next.rest us over'.more below no_end (over'.goes u w out.is_at at_w) shows in
        let before : Shows j (u ∷ w ∷ us) p here.rest (over.more ++ (over'.more ++ below)) =
        one_edge j p u here.rest left.rest (w ∷ us) over.more (over'.more ++ below) (λ e. e) (over.goes p u way.stands.is_at out.is_at) behind in
        let whole = way.completes v p at_v way.stands.is_at (u ∷ w ∷ us) (over.more ++ (over'.more ++ below)) before in
        let same : old ++ (over.more ++ (over'.more ++ below)) ≡ new ++ below =
        sym (append_assoc old over.more (over'.more ++ below)) ∙ sym (append_assoc (old ++ over.more) over'.more below)
        ∙ ap (λ (hs : List Hop). hs ++ over'.more ++ below) (sym over.appended) ∙ ap (λ (hs : List Hop). hs ++ below) (sym over'.appended) in
        (whole.0, subst (λ (hs : List Hop). Shows j whole.0 v start.rest hs) same whole.1);
  }

-- ---- the answer

pub no_walk : (j : BorderJob) (spots : List Spot) (rows links : List Arc) (costs : List (Option ℕ)) → AreLeast j spots rows links costs → (k : ℕ) → IsAt spots (Enter j.start j.source) k →
    cost_at costs k ≡ None → SolvesBorder j None
no_walk j spots rows links costs is k at_k none = λ walk c is_walk within.
    let low = lower j spots rows links costs is walk (Enter j.start j.source) k c at_k is_walk within in
    let bad : None ≡ Some low.0 = sym none ∙ low.1 in
    cc

pub some_walk : (j : BorderJob) (spots : List Spot) (rows links : List Arc) (costs : List (Option ℕ)) → AreLeast j spots rows links costs → (start : Stand) → IsAt spots (Enter j.start j.source) start.place →
    cost_at costs start.place ≡ Some start.rest → (hops : List Hop) → IsRoute j spots start hops → SolvesBorder j (Some (record { cost = start.rest; hops = hops }))
some_walk j spots rows links costs is start at_start is_rest hops route =
    let way = route.shows (Enter j.start j.source) at_start in (
      least_at j spots rows links costs is (Enter j.start j.source) start.place start.rest at_start is_rest,
      is.reached.within start.place start.rest is_rest,
      way.0,
      way.1,
    )
