-- The tight edge of least choice between two vertices, by the places where they stand.
use Rattle.std.proofs.Common.{◌≡◌, inl, inr, ℕ, ◌+◌, ◌<◌, ◌≤◌, List, [], ◌∷◌, length, arith, refl, sym, ◌∙◌, ap, subst, Some}
use Rattle.std.specs.Prelude.{Contains, All, slice_get}
use Rattle.std.specs.declared.option.Option.{Option}
use Rattle.std.proofs.lemmas.Bool.{cases_lt}
use Rattle.std.proofs.lemmas.List.Elements.{All-weaker}
use Rattle.std.proofs.lemmas.Option.{slice_get_within}
use Rattle.dom_base.specs.AddrOrder.{rank}
use Rattle.pce_common.specs.plant_model.Types.{As, Hop}
use Rattle.dom_base.specs.Admission.{weight}
use Rattle.pcep_subobjects.specs.Hops.{strict_hop}
use Rattle.pce_common.specs.plant_model.declared.upper.ChildRow.{ChildRow}
use Rattle.pce_common.specs.plant_model.declared.upper.BorderJob.{BorderJob}
use Rattle.pce_common.specs.plant_model.BorderGraph.{Vertex, Enter, Leave, Edge, IsEdge, IsEnd, BorderWalk, IsLeastTo, IsTightEdge, IsFirstRow, ExcludesAs}
use Rattle.pce_parent.specs.declared.arcs.Arc.{Arc}
use Rattle.pce_parent.specs.declared.spot.Spot.{Spot}
use Rattle.pce_parent.specs.declared.route.Stand.{Stand}
use Rattle.pce_parent.specs.Places.{IsAt}
use Rattle.pce_parent.specs.Arcs.{IsRowArc, IsSomeRowArc, IsSomeLinkArc}
use Rattle.pce_parent.specs.Costs.{cost_at, IsStep, Reaches}
use Rattle.pce_parent.specs.Tight.{HasEnds, IsTight, IsBefore, IsChosen}
use Rattle.pce_parent.specs.Routes.{AreLeast, StandsIn, StandsOut, GoesOn}
use Rattle.pce_parent.proofs.PlaceLaws.{same_vertex, same_place}
use Rattle.pce_parent.proofs.RowLaws.{AreAlike, contains_at, is_first_row}
use Rattle.pce_parent.proofs.Steps.{row_steps, link_steps}
use Rattle.pce_parent.proofs.Leasts.{Arrives, some_is, entering_is, leaving_is, onward, row_arrives, link_arrives, lower, least_at, is_cost}

module _ (j : BorderJob) (spots : List Spot) (rows links : List Arc) (costs : List (Option ℕ)) (is : AreLeast j spots rows links costs) where
  ends_within : (arcs : List Arc) → All (IsStep j spots) arcs → All (HasEnds costs) arcs
  ends_within arcs steps =
      All-weaker (IsStep j spots) (HasEnds costs)
      (λ a step. record { tail = omega (arith, step.tail, is.reached.same_length); head = omega (arith, step.head, is.reached.same_length) }) arcs steps

  pub row_ends : All (HasEnds costs) rows
  row_ends = ends_within rows (row_steps j spots rows is.row_arcs.each)

  pub link_ends : All (HasEnds costs) links
  link_ends = ends_within links (link_steps j spots links is.link_arcs.each)

  -- ---- some edge is tight

  -- a tight edge of the border graph stands among those between places
  tight_arc : (arcs : List Arc) (k m c d : ℕ) (x : Edge) (has : Arrives arcs k m x) → cost_at costs m ≡ Some d → c ≡ x.cost + d → IsTight costs k c has.arc
  tight_arc arcs k m c d x has at_m sum = record {
    here = has.from_place;
    rest = d;
    at_head = ap (cost_at costs) has.to_place ∙ at_m;
    sum = omega (arith, sum, has.same_cost);
  }

  -- the first edge of a least walk is tight
  pub record FirstOf (v : Vertex) (c : ℕ) : Type 0 where
    pub next : Vertex
    pub edge : Edge
    pub rest : ℕ
    pub place : ℕ
    pub is_edge : IsEdge j v next edge
    pub stands : IsAt spots next place
    pub at_place : cost_at costs place ≡ Some rest
    pub sum : c ≡ edge.cost + rest

  first_of : (v : Vertex) (k c : ℕ) → IsAt spots v k → cost_at costs k ≡ Some c → (us : List Vertex) → BorderWalk j us v c → (IsEnd j v → c ≡ 0 → ⊥) → FirstOf v c
  first_of v k c stands at_k [] walk no_end = absurd (no_end walk.0 walk.1)
  first_of v k c stands at_k (u ∷ us) walk no_end =
      let x : Edge = walk.0 in
      let rest : ℕ = walk.1 in
      let place = onward j spots rows links costs is v u x us rest walk.2 walk.3 in
      let within : c ≤ j.query.cap = is.reached.within k c at_k in
      let low = lower j spots rows links costs is us u place.0 rest place.1 walk.3 (omega (arith, within, walk.4)) in
      let way : Reaches j u low.0 = is.reached.walks place.0 low.0 u low.1 place.1 in
      let least : IsLeastTo j v c = least_at j spots rows links costs is v k c stands at_k in
      let no_less : c ≤ x.cost + low.0 = least.least (u ∷ way.0) (x.cost + low.0) (x, low.0, walk.2, way.1, refl) in
      record {
        next = u;
        edge = x;
        rest = low.0;
        place = place.0;
        is_edge = walk.2;
        stands = place.1;
        at_place = low.1;
        sum = omega (arith, no_less, low.2, walk.4);
      }

  -- ---- and it is least among all tight edges

  -- a tight edge of the graph to a vertex with a place
  tight_edge : (v : Vertex) (k c : ℕ) → IsAt spots v k → cost_at costs k ≡ Some c → (w : Vertex) (x : Edge) (e : ℕ) → IsTightEdge j v w c x e → (m : ℕ) × IsAt spots w m × (cost_at costs m ≡ Some e)
  tight_edge v k c stands at_k w x e tight =
      let least : IsLeastTo j w e = tight.1 in
      let place = onward j spots rows links costs is v w x least.walk e tight.0 least.is_walk in
      let within : c ≤ j.query.cap = is.reached.within k c at_k in
      (place.0, place.1, is_cost j spots rows links costs is w place.0 e place.1 least (omega (arith, within, tight.2)))

  no_before : (a b : Arc) (n : ℕ) → rank b.choice ≡ n → (IsBefore b a → ⊥) → rank a.choice ≤ n
  no_before a b n same none =
      elim (cases_lt (rank b.choice) (rank a.choice)) [
        | inl lt ↦ absurd (none (inl lt))
        | inr ge ↦ omega (arith, ge, same)
      ]

  -- ---- the edges from where a domain is entered are rows, the others links

  abbrev pub Enters : Vertex → Type 0
  Enters (Enter a n) = Unit {0}
  Enters (Leave a n) = ⊥

  abbrev pub Leaves : Vertex → Type 0
  Leaves (Enter a n) = ⊥
  Leaves (Leave a n) = Unit {0}

  pub row_arc : (v u : Vertex) (x : Edge) (k m : ℕ) → Enters v → IsEdge j v u x → IsAt spots v k → IsAt spots u m → Arrives rows k m x
  row_arc (Enter a e) (Enter b t) x k m enters edge at_k at_m = absurd edge
  row_arc (Enter a e) (Leave b t) x k m enters edge at_k at_m = row_arrives j spots rows links costs is a b e t x k m edge at_k at_m
  row_arc (Leave a e) u x k m enters edge at_k at_m = absurd enters

  pub link_arc : (v u : Vertex) (x : Edge) (k m : ℕ) → Leaves v → IsEdge j v u x → IsAt spots v k → IsAt spots u m → Arrives links k m x
  link_arc (Leave a e) (Leave b t) x k m leaves edge at_k at_m = absurd edge
  link_arc (Leave a e) (Enter b t) x k m leaves edge at_k at_m = link_arrives j spots rows links costs is a b e t x k m edge at_k at_m
  link_arc (Enter a e) u x k m leaves edge at_k at_m = absurd leaves

  -- ---- over a row

  module _ (here : Stand) (stands : StandsIn spots costs here) where
    pub some_row_tight : (a : Arc) × Contains rows a × IsTight costs here.place here.rest a
    some_row_tight =
        let v : Vertex = Enter stands.own stands.node in
        let least : IsLeastTo j v here.rest = least_at j spots rows links costs is v here.place here.rest stands.is_at stands.is_cost in
        let first : FirstOf v here.rest = first_of v here.place here.rest stands.is_at stands.is_cost least.walk least.is_walk (λ ends zero. ends) in
        let has : Arrives rows here.place first.place first.edge = row_arc v first.next first.edge here.place first.place tt first.is_edge stands.is_at first.stands in
        (has.arc, has.is_arc, tight_arc rows here.place first.place here.rest first.rest first.edge has first.at_place first.sum)

    module _ (a : Arc) (chosen : IsChosen rows costs here.place here.rest (Some a)) (some : IsSomeRowArc j spots a) (rest : ℕ) (at_head : cost_at costs a.to ≡ Some rest) where
      row_tail : IsAt spots (Enter some.row.at some.row.entry) here.place
      row_tail = subst (λ k. IsAt spots (Enter some.row.at some.row.entry) k) chosen.1.here some.is_arc.tail

      pub row_sum : here.rest ≡ a.cost + rest
      row_sum = omega (arith, chosen.1.sum, some_is chosen.1.rest rest (sym chosen.1.at_head ∙ at_head))

      before_none : (k : ℕ) (r : ChildRow) → k < a.index → slice_get j.rows k ≡ Some r → AreAlike r some.row → ⊥
      before_none k r lt at_k alike =
          let tail : IsAt spots (Enter r.at r.entry) here.place =
          subst (λ (v : Vertex). IsAt spots v here.place) (sym (entering_is r.at some.row.at r.entry some.row.entry alike.same_at alike.same_entry)) row_tail in
          let head : IsAt spots (Leave r.at r.target) a.to =
          subst (λ (v : Vertex). IsAt spots v a.to) (sym (leaving_is r.at some.row.at r.target some.row.target alike.same_at alike.same_target)) some.is_arc.head in
          let opened : ¬ ExcludesAs j.query r.at = subst (λ (d : As). ¬ ExcludesAs j.query d) (sym alike.same_at) some.is_arc.row_open in
          let has = is.row_arcs.every k r (slice_get_within j.rows k r at_k) at_k opened here.place a.to tail head in
          let b : Arc = has.0 in
          let arc : IsRowArc j spots k r b = has.2 in
          let to_place : b.to ≡ a.to = same_place spots (Leave r.at r.target) b.to a.to arc.head head in
          let tight : IsTight costs here.place here.rest b = record {
            here = same_place spots (Enter r.at r.entry) b.from here.place arc.tail tail;
            rest = rest;
            at_head = ap (cost_at costs) to_place ∙ at_head;
            sum = omega (arith, row_sum, arc.same_cost, some.is_arc.same_cost, alike.same_cost);
          } in
          chosen.2 b has.1 tight (inr (
            ap rank (arc.same_choice ∙ alike.same_target ∙ sym some.is_arc.same_choice),
            omega (arith, lt, arc.same_index),
          ))

      pub goes_by_row : GoesOn j (Enter some.row.at some.row.entry) (Leave some.row.at some.row.target) here.rest rest some.row.hops
      goes_by_row =
          let v : Vertex = Enter some.row.at some.row.entry in
          let u : Vertex = Leave some.row.at some.row.target in
          let first : IsFirstRow j.rows some.row = is_first_row j.rows a.index some.row some.at_index before_none in
          record {
            edge = record { cost = some.row.cost; choice = some.row.target; hops = some.row.hops };
            tight = (
              (some.row, first, refl, refl, refl, refl, some.is_arc.row_open, refl),
              least_at j spots rows links costs is u a.to rest some.is_arc.head at_head,
              omega (arith, row_sum, some.is_arc.same_cost),
            );
            least = λ w x e tight.
                let there = tight_edge v here.place here.rest row_tail stands.is_cost w x e tight in
                let has : Arrives rows here.place there.0 x = row_arc v w x here.place there.0 tt tight.0 row_tail there.1 in
                let other : IsTight costs here.place here.rest has.arc = tight_arc rows here.place there.0 here.rest e x has there.2 tight.2 in
                let low : rank a.choice ≤ rank x.choice = no_before a has.arc (rank x.choice) (ap rank has.same_choice) (λ before. chosen.2 has.arc has.is_arc other before) in
                omega (arith, low, ap rank some.is_arc.same_choice);
            same_hops = refl;
          }

  -- ---- over a link

  module _ (here : Stand) (stands : StandsOut spots costs here) (more : 1 ≤ here.rest) where
    pub some_link_tight : (a : Arc) × Contains links a × IsTight costs here.place here.rest a
    some_link_tight =
        let v : Vertex = Leave stands.own stands.node in
        let least : IsLeastTo j v here.rest = least_at j spots rows links costs is v here.place here.rest stands.is_at stands.is_cost in
        let first : FirstOf v here.rest = first_of v here.place here.rest stands.is_at stands.is_cost least.walk least.is_walk (λ ends zero. omega (arith, zero, more)) in
        let has : Arrives links here.place first.place first.edge = link_arc v first.next first.edge here.place first.place tt first.is_edge stands.is_at first.stands in
        (has.arc, has.is_arc, tight_arc links here.place first.place here.rest first.rest first.edge has first.at_place first.sum)

    module _ (a : Arc) (chosen : IsChosen links costs here.place here.rest (Some a)) (some : IsSomeLinkArc j spots a) (rest : ℕ) (at_head : cost_at costs a.to ≡ Some rest) where
      link_tail : IsAt spots (Leave some.link.from_as some.link.link.from) here.place
      link_tail = subst (λ k. IsAt spots (Leave some.link.from_as some.link.link.from) k) chosen.1.here some.is_arc.tail

      pub link_sum : here.rest ≡ a.cost + rest
      link_sum = omega (arith, chosen.1.sum, some_is chosen.1.rest rest (sym chosen.1.at_head ∙ at_head))

      pub goes_by_link : GoesOn j (Leave some.link.from_as some.link.link.from) (Enter some.link.to_as some.link.link.to) here.rest rest (strict_hop some.link.link.far ∷ [])
      goes_by_link =
          let v : Vertex = Leave some.link.from_as some.link.link.from in
          let u : Vertex = Enter some.link.to_as some.link.link.to in
          let opened = some.is_arc.link_open in
          record {
            edge = record { cost = weight j.query.metric some.link.link; choice = some.link.link.far; hops = strict_hop some.link.link.far ∷ [] };
            tight = (
              (some.link, contains_at j.links a.index some.link some.at_index, refl, refl, refl, refl, opened.allowed, opened.from_open, opened.to_open, refl),
              least_at j spots rows links costs is u a.to rest some.is_arc.head at_head,
              omega (arith, link_sum, some.is_arc.same_cost),
            );
            least = λ w x e tight.
                let there = tight_edge v here.place here.rest link_tail stands.is_cost w x e tight in
                let has : Arrives links here.place there.0 x = link_arc v w x here.place there.0 tt tight.0 link_tail there.1 in
                let other : IsTight costs here.place here.rest has.arc = tight_arc links here.place there.0 here.rest e x has there.2 tight.2 in
                let low : rank a.choice ≤ rank x.choice = no_before a has.arc (rank x.choice) (ap rank has.same_choice) (λ before. chosen.2 has.arc has.is_arc other before) in
                omega (arith, low, ap rank some.is_arc.same_choice);
            same_hops = refl;
          }

-- the same between whichever vertices stand there
pub goes_between : (j : BorderJob) (spots : List Spot) (v u v' u' : Vertex) (k m c d : ℕ) (more : List Hop) → IsAt spots v k → IsAt spots u m → IsAt spots v' k → IsAt spots u' m →
    GoesOn j v u c d more → GoesOn j v' u' c d more
goes_between j spots v u v' u' k m c d more at_v at_u at_v' at_u' goes =
    subst (λ (x : Vertex). GoesOn j x u' c d more) (same_vertex spots v v' k at_v at_v')
    (subst (λ (x : Vertex). GoesOn j v x c d more) (same_vertex spots u u' m at_u at_u') goes)
