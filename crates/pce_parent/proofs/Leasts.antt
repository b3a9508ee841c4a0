-- Costs that nothing lowers are the least costs of walks to an end.
use Rattle.std.proofs.Common.{◌≡◌, inl, inr, ℕ, ◌+◌, ◌≤◌, List, [], ◌∷◌, arith, sym, ◌∙◌, ap, subst, Some}
use Rattle.std.specs.Prelude.{Contains, All}
use Rattle.std.specs.declared.option.Option.{Option}
use Rattle.std.proofs.lemmas.Bool.{cases_lt}
use Rattle.std.proofs.lemmas.Option.{slice_get_within}
use Rattle.std.proofs.lemmas.List.Elements.{All-contains}
use Rattle.pce_common.specs.plant_model.Types.{As, Addr, ParentLink}
use Rattle.pce_common.specs.plant_model.declared.upper.ChildRow.{ChildRow}
use Rattle.pce_common.specs.plant_model.declared.upper.BorderJob.{BorderJob}
use Rattle.pce_common.specs.plant_model.BorderGraph.{Vertex, Enter, Leave, Edge, IsEdge, BorderWalk, IsLeastTo, ExcludesAs}
use Rattle.pce_parent.specs.declared.arcs.Arc.{Arc}
use Rattle.pce_parent.specs.declared.spot.Spot.{Spot}
use Rattle.pce_parent.specs.Places.{spot_of, IsAt, HasLink, HasEnd}
use Rattle.pce_parent.specs.Arcs.{IsOpenLink, IsRowArc, IsLinkArc}
use Rattle.pce_parent.specs.Costs.{cost_at, IsRelaxed, Reaches}
use Rattle.pce_parent.specs.Routes.{AreLeast}
use Rattle.pce_parent.proofs.PlaceLaws.{has_place, same_place}
use Rattle.pce_parent.proofs.RowLaws.{index_of}
use Rattle.pce_parent.proofs.Steps.{first_is_row}

pub entering_is : (a b : As) (n m : Addr) → a ≡ b → n ≡ m → Enter a n ≡ Enter b m
entering_is a b n m p q = ap (λ (x : As). Enter x n) p ∙ ap (λ (x : Addr). Enter b x) q

pub leaving_is : (a b : As) (n m : Addr) → a ≡ b → n ≡ m → Leave a n ≡ Leave b m
leaving_is a b n m p q = ap (λ (x : As). Leave x n) p ∙ ap (λ (x : Addr). Leave b x) q

-- an edge as it stands among those between places
pub record Arrives (arcs : List Arc) (k m : ℕ) (x : Edge) : Type 0 where
  pub arc : Arc
  pub is_arc : Contains arcs arc
  pub from_place : arc.from ≡ k
  pub to_place : arc.to ≡ m
  pub same_cost : arc.cost ≡ x.cost
  pub same_choice : arc.choice ≡ x.choice

pub some_is : (a b : ℕ) → Some a ≡ Some b → a ≡ b
some_is a b is = cc

module _ (j : BorderJob) (spots : List Spot) (rows links : List Arc) (costs : List (Option ℕ)) (is : AreLeast j spots rows links costs) where
  link_at : (l : ParentLink) → Contains j.links l → HasLink spots l
  link_at l is_link = All-contains (HasLink spots) j.links l is.vertices.links is_link

  -- ---- vertices have places

  tail_there : (b : As) (t : Addr) (w : Vertex) (x : Edge) → IsEdge j (Leave b t) w x → (k : ℕ) × IsAt spots (Leave b t) k
  tail_there b t (Leave c n) x edge = absurd edge
  tail_there b t (Enter c n) x edge =
      let l : ParentLink = edge.0 in
      let has = has_place spots (spot_of (Leave l.from_as l.link.from)) (link_at l edge.1).tail in
      (has.0, subst (λ (v : Vertex). IsAt spots v has.0) (leaving_is l.from_as b l.link.from t edge.2 edge.3) has.1)

  end_there : (a b : As) (e t : Addr) (x : Edge) → IsEdge j (Enter a e) (Leave b t) x → t ≡ j.target → (k : ℕ) × IsAt spots (Leave b t) k
  end_there a b e t x edge ends =
      let row : ChildRow = edge.0 in
      let is_row : Contains j.rows row = first_is_row j.rows row edge.1 in
      let has = has_place spots (spot_of (Leave row.at row.target)) (All-contains (HasEnd j spots) j.rows row is.vertices.ends is_row (edge.5 ∙ ends)) in
      (has.0, subst (λ (v : Vertex). IsAt spots v has.0) (leaving_is row.at b row.target t (edge.2 ∙ edge.3) edge.5) has.1)

  pub onward : (v u : Vertex) (x : Edge) (us : List Vertex) (rest : ℕ) → IsEdge j v u x → BorderWalk j us u rest → (k : ℕ) × IsAt spots u k
  onward (Enter a e) (Enter b m) x us rest edge walk = absurd edge
  onward (Leave a e) (Leave b m) x us rest edge walk = absurd edge
  onward (Leave a n) (Enter b m) x us rest edge walk =
      let l : ParentLink = edge.0 in
      let has = has_place spots (spot_of (Enter l.to_as l.link.to)) (link_at l edge.1).head in
      (has.0, subst (λ (v : Vertex). IsAt spots v has.0) (entering_is l.to_as b l.link.to m edge.4 edge.5) has.1)
  onward (Enter a e) (Leave b t) x [] rest edge walk = end_there a b e t x edge walk.0
  onward (Enter a e) (Leave b t) x (w ∷ ws) rest edge walk = tail_there b t w walk.0 walk.2

  -- ---- edges stand among those between places

  pub row_arrives : (a b : As) (e t : Addr) (x : Edge) (k m : ℕ) → IsEdge j (Enter a e) (Leave b t) x → IsAt spots (Enter a e) k → IsAt spots (Leave b t) m → Arrives rows k m x
  row_arrives a b e t x k m edge at_k at_m =
      let row : ChildRow = edge.0 in
      let place = index_of j.rows row (first_is_row j.rows row edge.1) in
      let here : IsAt spots (Enter row.at row.entry) k = subst (λ (v : Vertex). IsAt spots v k) (sym (entering_is row.at a row.entry e edge.2 edge.4)) at_k in
      let there : IsAt spots (Leave row.at row.target) m = subst (λ (v : Vertex). IsAt spots v m) (sym (leaving_is row.at b row.target t (edge.2 ∙ edge.3) edge.5)) at_m in
      let found = is.row_arcs.every place.0 row (slice_get_within j.rows place.0 row place.1) place.1 (subst (λ (d : As). ¬ ExcludesAs j.query d) (sym edge.2) edge.6) k m here there in
      let arc : IsRowArc j spots place.0 row found.0 = found.2 in
      record {
        arc = found.0;
        is_arc = found.1;
        from_place = same_place spots (Enter row.at row.entry) found.0.from k arc.tail here;
        to_place = same_place spots (Leave row.at row.target) found.0.to m arc.head there;
        same_cost = arc.same_cost ∙ sym (ap (λ (y : Edge). y.cost) edge.7);
        same_choice = arc.same_choice ∙ edge.5 ∙ sym (ap (λ (y : Edge). y.choice) edge.7);
      }

  pub link_arrives : (a b : As) (n t : Addr) (x : Edge) (k m : ℕ) → IsEdge j (Leave a n) (Enter b t) x → IsAt spots (Leave a n) k → IsAt spots (Enter b t) m → Arrives links k m x
  link_arrives a b n t x k m edge at_k at_m =
      let l : ParentLink = edge.0 in
      let place = index_of j.links l edge.1 in
      let here : IsAt spots (Leave l.from_as l.link.from) k = subst (λ (v : Vertex). IsAt spots v k) (sym (leaving_is l.from_as a l.link.from n edge.2 edge.3)) at_k in
      let there : IsAt spots (Enter l.to_as l.link.to) m = subst (λ (v : Vertex). IsAt spots v m) (sym (entering_is l.to_as b l.link.to t edge.4 edge.5)) at_m in
      let opened : IsOpenLink j.query l = record {
        allowed = edge.6;
        from_open = subst (λ (d : As). ¬ ExcludesAs j.query d) (sym edge.2) edge.7;
        to_open = subst (λ (d : As). ¬ ExcludesAs j.query d) (sym edge.4) edge.8;
      } in
      let found = is.link_arcs.every place.0 l (slice_get_within j.links place.0 l place.1) place.1 opened k m here there in
      let arc : IsLinkArc j spots place.0 l found.0 = found.2 in
      record {
        arc = found.0;
        is_arc = found.1;
        from_place = same_place spots (Leave l.from_as l.link.from) found.0.from k arc.tail here;
        to_place = same_place spots (Enter l.to_as l.link.to) found.0.to m arc.head there;
        same_cost = arc.same_cost ∙ sym (ap (λ (y : Edge). y.cost) edge.9);
        same_choice = arc.same_choice ∙ sym (ap (λ (y : Edge). y.choice) edge.9);
      }

  -- ---- the costs are least

  by_arc : (arcs : List Arc) (k m c rest d : ℕ) (x : Edge) → All (IsRelaxed j.query.cap costs) arcs → Arrives arcs k m x → cost_at costs m ≡ Some d → d ≤ rest → c ≡ x.cost + rest → c ≤ j.query.cap →
      (e : ℕ) × (cost_at costs k ≡ Some e) × (e ≤ c)
  by_arc arcs k m c rest d x relaxed has at_m less sum within =
      let a : Arc = has.arc in
      let at_head : cost_at costs a.to ≡ Some d = ap (cost_at costs) has.to_place ∙ at_m in
      let low = All-contains (IsRelaxed j.query.cap costs) arcs a relaxed has.is_arc d at_head (omega (arith, has.same_cost, sum, less, within)) in
      (low.0, ap (cost_at costs) (sym has.from_place) ∙ low.1, omega (arith, low.2, has.same_cost, sum, less))

  by_edge : (v u : Vertex) (x : Edge) (k m c rest d : ℕ) → IsEdge j v u x → IsAt spots v k → IsAt spots u m → cost_at costs m ≡ Some d → d ≤ rest → c ≡ x.cost + rest → c ≤ j.query.cap →
      (e : ℕ) × (cost_at costs k ≡ Some e) × (e ≤ c)
  by_edge (Enter a e) (Enter b t) x k m c rest d edge at_k at_m is_d less sum within = absurd edge
  by_edge (Leave a e) (Leave b t) x k m c rest d edge at_k at_m is_d less sum within = absurd edge
  by_edge (Enter a e) (Leave b t) x k m c rest d edge at_k at_m is_d less sum within =
      by_arc rows k m c rest d x is.rows_relaxed (row_arrives a b e t x k m edge at_k at_m) is_d less sum within
  by_edge (Leave a e) (Enter b t) x k m c rest d edge at_k at_m is_d less sum within =
      by_arc links k m c rest d x is.links_relaxed (link_arrives a b e t x k m edge at_k at_m) is_d less sum within

  pub lower : (us : List Vertex) (v : Vertex) (k c : ℕ) → IsAt spots v k → BorderWalk j us v c → c ≤ j.query.cap → (d : ℕ) × (cost_at costs k ≡ Some d) × (d ≤ c)
  lower [] v k c stands walk within = (0, is.reached.ends k v stands walk.0, omega arith)
  lower (u ∷ us) v k c stands walk within =
      let x : Edge = walk.0 in
      let rest : ℕ = walk.1 in
      let place = onward v u x us rest walk.2 walk.3 in
      let low = lower us u place.0 rest place.1 walk.3 (omega (arith, walk.4, within)) in
      by_edge v u x k place.0 c rest low.0 walk.2 stands place.1 low.1 low.2 walk.4 within

  pub least_at : (v : Vertex) (k c : ℕ) → IsAt spots v k → cost_at costs k ≡ Some c → IsLeastTo j v c
  least_at v k c stands at_k =
      let way : Reaches j v c = is.reached.walks k c v at_k stands in
      record {
        walk = way.0;
        is_walk = way.1;
        least = λ other d walk.
            elim (cases_lt j.query.cap d) [
              | inl far ↦ omega (arith, far, is.reached.within k c at_k)
              | inr near ↦
                  let low = lower other v k d stands walk near in
                  omega (arith, low.2, some_is c low.0 (sym at_k ∙ low.1))
            ];
      }

  pub is_cost : (v : Vertex) (k c : ℕ) → IsAt spots v k → IsLeastTo j v c → c ≤ j.query.cap → cost_at costs k ≡ Some c
  is_cost v k c stands least within =
      let low = lower least.walk v k c stands least.is_walk within in
      let way : Reaches j v low.0 = is.reached.walks k low.0 v low.1 stands in
      let no_less : c ≤ low.0 = least.least way.0 low.0 way.1 in
      let same : low.0 ≡ c = omega (arith, no_less, low.2) in
      low.1 ∙ ap (λ (n : ℕ). Some n) same
