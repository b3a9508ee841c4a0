-- The costs of walks without an edge.
use Rattle.std.proofs.Common.{◌≡◌, inl, inr, ℕ, ◌<◌, ◌≤◌, Bool, true, cond, List, [], length, map, arith, refl, sym, ◌∙◌, ap, subst, None, Some, get_or}
use Rattle.std.specs.declared.option.Option.{Option}
use Rattle.std.proofs.lemmas.Bool.{cases_lt}
use Rattle.std.proofs.lemmas.List.{get_or-map, get_or_past, length-map}
use Rattle.std.proofs.lemmas.Option.{get_or_from_slice_get, cond_some}
use Rattle.pce_common.specs.plant_model.Types.{As, Addr}
use Rattle.dom_base.specs.declared.addr.Addr.TheVariants.{V4, V6}
use Rattle.pce_common.specs.plant_model.declared.upper.BorderJob.{BorderJob}
use Rattle.pce_common.specs.plant_model.BorderGraph.{Vertex, Enter, Leave, IsEnd}
use Rattle.pce_parent.specs.declared.spot.Spot.{Spot}
use Rattle.pce_parent.specs.Places.{spot_of, same_spot, IsAt}
use Rattle.pce_parent.specs.Costs.{cost_at, start_cost, Reaches, AreReached}
use Rattle.pce_parent.proofs.SpotLaws.{same_spot_is, same_spot_self, one_vertex}
use Rattle.pce_parent.proofs.PlaceLaws.{stands_there, within}

end_there : (j : BorderJob) (v : Vertex) (c : ℕ) → start_cost j.target (spot_of v) ≡ Some c → (0 ≡ c) × Reaches j v c
end_there j v c is =
    let parts = cond_some (same_spot (spot_of v) (spot_of (Leave (spot_of v).own j.target))) 0 c is in
    let here : v ≡ Leave (spot_of v).own j.target = one_vertex v (Leave (spot_of v).own j.target) (same_spot_is (spot_of v) (spot_of (Leave (spot_of v).own j.target)) parts.0) in
    let ends : IsEnd j v = subst (IsEnd j) (sym here) refl in
    (parts.1, ([], (ends, sym parts.1)))

own_of : (a : As) (n : Addr) → (spot_of (Leave a n)).own ≡ a
own_of a (V4 n) = refl
own_of a (V6 n) = refl

at_end : (j : BorderJob) (v : Vertex) → IsEnd j v → start_cost j.target (spot_of v) ≡ Some 0
at_end j (Enter a n) ends = absurd ends
at_end j (Leave a n) ends =
    let s : Spot = spot_of (Leave a n) in
    let same : s ≡ spot_of (Leave s.own j.target) = ap (λ (m : Addr). spot_of (Leave a m)) ends ∙ ap (λ (x : As). spot_of (Leave x j.target)) (sym (own_of a n)) in
    let is : same_spot s (spot_of (Leave s.own j.target)) ≡ true = ap (same_spot s) (sym same) ∙ same_spot_self s in
    ap (λ (b : Bool). cond b (Some 0) None) is

module _ (j : BorderJob) (spots : List Spot) (costs : List (Option ℕ)) (is : costs ≡ map (start_cost j.target) spots) where
  here : (k : ℕ) (v : Vertex) → IsAt spots v k → cost_at costs k ≡ start_cost j.target (spot_of v)
  here k v at_k =
      let below : k < length spots = within spots v k at_k in
      ap (λ (cs : List (Option ℕ)). cost_at cs k) is ∙ get_or-map (start_cost j.target) spots k (spot_of v) None below
      ∙ ap (start_cost j.target) (get_or_from_slice_get spots k (spot_of v) (spot_of v) (stands_there spots (spot_of v) k at_k))

  small : (s : Spot) (c : ℕ) → start_cost j.target s ≡ Some c → 0 ≡ c
  small s c h = (cond_some (same_spot s (spot_of (Leave s.own j.target))) 0 c h).1

  some_spot : Spot
  some_spot = spot_of (Enter j.start j.source)

  nothing : (k c : ℕ) → cost_at costs k ≡ Some c → 0 ≡ c
  nothing k c at_k =
      elim (cases_lt k (length spots)) [
        | inl below ↦
            small (get_or spots k some_spot) c
            (sym (ap (λ (cs : List (Option ℕ)). cost_at cs k) is ∙ get_or-map (start_cost j.target) spots k some_spot None below) ∙ at_k)
        | inr past ↦
            let long : length costs ≤ k = omega (arith, ap length is, length-map spots (start_cost j.target)) in
            let none : None ≡ Some c = sym (get_or_past costs k None long) ∙ at_k in
            cc
      ]

  pub reached_at_first : AreReached j spots costs
  reached_at_first = record {
    same_length = ap length is ∙ length-map spots (start_cost j.target);
    within = λ k c at_k. omega (arith, nothing k c at_k);
    walks = λ k c v at_k stands. (end_there j v c (sym (here k v stands) ∙ at_k)).1;
    ends = λ k v stands ends. here k v stands ∙ at_end j v ends;
  }
