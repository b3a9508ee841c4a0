-- What distances over the arcs that a walk leaves tell: the heights that they make rise over each arc by no more than its weight, and over
-- each arc of the walk by no less.
use Rattle.std.proofs.Common.{◌≡◌, inl, inr, ℕ, ◌+◌, ◌-◌, ◌*◌, ◌/◌, ◌^◌, ◌<◌, ◌≤◌, Bool, true, false, not, List, length, arith, refl, sym, ◌∙◌, ap, subst, None, Some}
use Rattle.std.specs.Prelude.{slice_index_or}
use Rattle.std.specs.declared.option.Option.{Option}
use Rattle.std.proofs.lemmas.Bool.{cases_lt}
use Rattle.std.proofs.lemmas.Bool.Decides.{eqb_tells}
use Rattle.std.proofs.lemmas.List.{get_or_past}
use Rattle.diverse_pairs.specs.declared.arcs.Arc.{Arc}
use Rattle.diverse_pairs.specs.declared.arcs.TheConstants.{UNREACHED}
use Rattle.diverse_pairs.specs.Arcs.{IsArc, at, is_used, IsAmong, AreAmong, AreLight}
use Rattle.diverse_pairs.specs.Distances.{AreDistances, IsTight, AreNear}
use Rattle.diverse_pairs.specs.Residual.{excess, scaled, residual_arc, residual_of, AreResidual, AreHeights}
use Rattle.diverse_pairs.proofs.Flow.{RunsAlong}
use Rattle.diverse_pairs.proofs.Hops.{IsMadeUp, AreScaled, made_up}

-- distances over links are near
pub near : (arcs : List (Option Arc)) (t : ℕ) (ds : List ℕ) → AreDistances arcs t ds → AreAmong (length ds) arcs → AreLight arcs → length ds ≤ 1024 → AreNear ds
near arcs t ds are among light few n reached =
    elim (cases_lt n (length ds)) [
      | inl inside ↦
          let m : IsMadeUp 1 16777214 ds n =
          made_up 1 16777214 arcs t ds are among (λ i a is_arc. (a.weight - 1, omega (arith, (among i a is_arc).heavy), omega (arith, light i a is_arc))) n inside reached in
          omega (arith, m.sum, m.bound, m.few, few)
      | inr past ↦ omega (arith, get_or_past ds n 0 past)
    ]

weight_is : (ds : List ℕ) (v : Bool) (a : Arc) → (residual_arc ds v a).weight ≡ scaled ds a
weight_is ds false a = refl
weight_is ds true a = refl

pub ends_are : (n : ℕ) (ds : List ℕ) (v : Bool) (a : Arc) → IsAmong n a → IsAmong n (residual_arc ds v a)
ends_are n ds false a good = record { tail = good.tail; head = good.head; heavy = omega arith }
ends_are n ds true a good = record { tail = good.head; head = good.tail; heavy = omega arith }

quotient : (x c h : ℕ) → x ≡ 2048 * c + h → h < 1024 → x / 2048 ≡ c
quotient x c h is few = omega (arith, is, few)

-- what is known when the distances over the arcs that a walk leaves are found
pub record Left (arcs rs : List (Option Arc)) (t : ℕ) (ds ls : List ℕ) (us : List Bool) : Type 0 where
  pub few : length ds ≤ 1024
  pub long : length ls ≡ length ds
  pub among : AreAmong (length ds) arcs
  pub light : AreLight arcs
  pub first : AreDistances arcs t ds
  pub used_tight : (i : ℕ) (a : Arc) → IsArc arcs i a → is_used us i ≡ true → IsTight ds a
  pub residual : AreResidual arcs ds us rs
  pub second : AreDistances rs t ls

-- an arc that is left, and the arc that it is of
pub record IsLeft (arcs : List (Option Arc)) (ds : List ℕ) (us : List Bool) (i : ℕ) (r : Arc) : Type 0 where
  pub arc : Arc
  pub is_arc : IsArc arcs i arc
  pub reached : at ds arc.head < UNREACHED
  pub is : r ≡ residual_arc ds (is_used us i) arc

-- a distance over what is left, as a cost and a number of arcs, and the height that it makes
pub record IsReached (ds ls hs : List ℕ) (n : ℕ) : Type 0 where
  pub cost : ℕ
  pub hops : ℕ
  pub sum : at ls n ≡ 2048 * cost + hops
  pub few : hops < 1024
  pub height : at hs n ≡ cost + at ds n

module _ (arcs rs : List (Option Arc)) (t : ℕ) (ds ls : List ℕ) (us : List Bool) (l : Left arcs rs t ds ls us) where
  pub is_near : AreNear ds
  is_near = near arcs t ds l.first l.among l.light l.few

  pub left : (i : ℕ) (r : Arc) → IsArc rs i r → IsLeft arcs ds us i r
  left i r is_r = go (slice_index_or arcs i None) refl
    where
      go : (o : Option Arc) → slice_index_or arcs i None ≡ o → IsLeft arcs ds us i r
      go None is_o =
          let e : slice_index_or rs i None ≡ residual_of ds (is_used us i) None = l.residual.each i ∙ ap (residual_of ds (is_used us i)) is_o in
          let none : None ≡ Some r = sym e ∙ is_r in cc
      go (Some a) is_o =
          let e : slice_index_or rs i None ≡ residual_of ds (is_used us i) (Some a) = l.residual.each i ∙ ap (residual_of ds (is_used us i)) is_o in
          elim (eqb_tells (at ds a.head) UNREACHED) [
            | inl far ↦ let none : None ≡ Some r = sym (rw far.0 at e) ∙ is_r in cc
            | inr reached ↦
                let both : Some (residual_arc ds (is_used us i) a) ≡ Some r = sym (rw reached.0 at e) ∙ is_r in
                let same : r ≡ residual_arc ds (is_used us i) a = cc in
                record { arc = a; is_arc = is_o; reached = omega (arith, l.first.made.within a.head, reached.1); is = same }
          ]

  pub stays : (i : ℕ) (a : Arc) → IsArc arcs i a → at ds a.head < UNREACHED → IsArc rs i (residual_arc ds (is_used us i) a)
  stays i a is_a reached =
      l.residual.each i ∙ ap (residual_of ds (is_used us i)) is_a
      ∙ elim (eqb_tells (at ds a.head) UNREACHED) [ inl far ↦ absurd (omega (arith, reached, far.1)) | inr near ↦ rw near.0 refl ]

  pub straight_ends : (i : ℕ) (r : Arc) (is_r : IsArc rs i r) → is_used us i ≡ false → (r.tail ≡ (left i r is_r).arc.tail) × (r.head ≡ (left i r is_r).arc.head)
  straight_ends i r is_r u =
      let b = left i r is_r in
      let e : r ≡ residual_arc ds false b.arc = b.is ∙ ap (λ v. residual_arc ds v b.arc) u in
      (ap (λ (x : Arc). x.tail) e, ap (λ (x : Arc). x.head) e)

  pub back_ends : (i : ℕ) (r : Arc) (is_r : IsArc rs i r) → is_used us i ≡ true → (r.tail ≡ (left i r is_r).arc.head) × (r.head ≡ (left i r is_r).arc.tail)
  back_ends i r is_r u =
      let b = left i r is_r in
      let e : r ≡ residual_arc ds true b.arc = b.is ∙ ap (λ v. residual_arc ds v b.arc) u in
      (ap (λ (x : Arc). x.tail) e, ap (λ (x : Arc). x.head) e)

  pub runs_along : RunsAlong arcs us rs
  runs_along i r is_r = record { arc = (left i r is_r).arc; is_arc = (left i r is_r).is_arc; straight = straight_ends i r is_r; back = back_ends i r is_r }

  pub left_among : AreAmong (length ls) rs
  left_among i r is_r =
      let b = left i r is_r in
      subst (λ n. IsAmong n r) (sym l.long) (subst (IsAmong (length ds)) (sym b.is) (ends_are (length ds) ds (is_used us i) b.arc (l.among i b.arc b.is_arc)))

  weighs : (i : ℕ) (r : Arc) (is_r : IsArc rs i r) → r.weight ≡ excess ds (left i r is_r).arc * 2048 + 1
  weighs i r is_r = let b = left i r is_r in ap (λ (x : Arc). x.weight) b.is ∙ weight_is ds (is_used us i) b.arc

  not_far : (i : ℕ) (r : Arc) (is_r : IsArc rs i r) → excess ds (left i r is_r).arc ≤ 2 ^ 35
  not_far i r is_r = let b = left i r is_r in omega (arith, l.light i b.arc b.is_arc, is_near b.arc.head b.reached)

  left_scaled : AreScaled 2048 (2 ^ 35) rs
  left_scaled i r is_r = (excess ds (left i r is_r).arc, omega (arith, weighs i r is_r), not_far i r is_r)

  pub so_many : (n : ℕ) → n < length ds → at ls n < UNREACHED → IsMadeUp 2048 (2 ^ 35) ls n
  so_many n inside reached = made_up 2048 (2 ^ 35) rs t ls l.second left_among left_scaled n (omega (arith, inside, l.long)) reached

  -- ---- one arc

  pub back_reached : (i : ℕ) (r : Arc) → IsArc rs i r → at ls r.head < UNREACHED → at ls r.tail < UNREACHED
  back_reached i r is_r reached =
      let good = left_among i r is_r in
      let h = so_many r.head (omega (arith, good.head, l.long)) reached in
      omega (arith, l.second.low i r is_r, weighs i r is_r, not_far i r is_r, h.sum, h.bound, h.few, l.long, l.few)

  pub first_reached : (n : ℕ) → at ls n < UNREACHED → at ds n < UNREACHED
  first_reached n reached =
      elim (cases_lt n (length ds)) [
        | inl inside ↦ elim (l.second.made.each n (omega (arith, inside, l.long)) reached) [
          | inl target ↦ omega (arith, l.first.made.at_target, ap (at ds) target)
          | inr m ↦ go m.place m.arc m.is_arc m.tail (is_used us m.place) refl
        ]
        | inr past ↦ omega (arith, get_or_past ds n 0 past)
      ]
    where
      go : (i : ℕ) (r : Arc) → IsArc rs i r → r.tail ≡ n → (u : Bool) → is_used us i ≡ u → at ds n < UNREACHED
      go i r is_r tail false is =
          let b = left i r is_r in
          let ends = straight_ends i r is_r is in
          omega (arith, l.first.low i b.arc b.is_arc, is_near b.arc.head b.reached, l.light i b.arc b.is_arc, ap (at ds) tail, ap (at ds) ends.0)
      go i r is_r tail true is =
          let b = left i r is_r in
          let ends = back_ends i r is_r is in
          omega (arith, b.reached, ap (at ds) tail, ap (at ds) ends.0)

module _ (arcs rs : List (Option Arc)) (t : ℕ) (ds ls : List ℕ) (us : List Bool) (l : Left arcs rs t ds ls us) (hs : List ℕ) (heights : AreHeights ds ls hs) where
  pub reached_at : (n : ℕ) → n < length ds → at ls n < UNREACHED → IsReached ds ls hs n
  reached_at n inside reached =
      let m : IsMadeUp 2048 (2 ^ 35) ls n = so_many arcs rs t ds ls us l n inside reached in
      record {
        cost = m.cost;
        hops = m.hops;
        sum = m.sum;
        few = omega (arith, m.few, l.long, l.few);
        height = heights.each n inside ∙ elim (eqb_tells (at ls n) UNREACHED) [
          | inl far ↦ absurd (omega (arith, reached, far.1))
          | inr near ↦ rw near.0 (omega (arith, quotient (at ls n) m.cost m.hops m.sum (omega (arith, m.few, l.long, l.few))))
        ];
      }

  pub same_hops : (n : ℕ) (x y : IsReached ds ls hs n) → x.hops ≡ y.hops
  same_hops n x y = omega (arith, x.sum, x.few, y.sum, y.few)

  pub far_height : (n : ℕ) → n < length ds → at ls n ≡ UNREACHED → at hs n ≡ UNREACHED
  far_height n inside far = heights.each n inside ∙ elim (eqb_tells (at ls n) UNREACHED) [ inl is ↦ rw is.0 refl | inr not ↦ absurd (not.1 far) ]

  -- the costs at the ends of an arc, by its excess
  pub costs_low : (i : ℕ) (r : Arc) (is_r : IsArc rs i r) (x : IsReached ds ls hs r.tail) (y : IsReached ds ls hs r.head) →
      (x.cost ≤ excess ds (left arcs rs t ds ls us l i r is_r).arc + y.cost) × (x.cost ≡ excess ds (left arcs rs t ds ls us l i r is_r).arc + y.cost → x.hops ≤ y.hops + 1)
  costs_low i r is_r x y = (
    omega (arith, l.second.low i r is_r, weighs arcs rs t ds ls us l i r is_r, x.sum, x.few, y.sum, y.few),
    λ same. omega (arith, l.second.low i r is_r, weighs arcs rs t ds ls us l i r is_r, x.sum, x.few, y.sum, y.few, same),
  )

  pub costs_tight : (i : ℕ) (r : Arc) (is_r : IsArc rs i r) (x : IsReached ds ls hs r.tail) (y : IsReached ds ls hs r.head) → IsTight ls r →
      (x.cost ≡ excess ds (left arcs rs t ds ls us l i r is_r).arc + y.cost) × (x.hops ≡ y.hops + 1)
  costs_tight i r is_r x y tight =
      let cost : x.cost ≡ excess ds (left arcs rs t ds ls us l i r is_r).arc + y.cost = omega (arith, tight.sum, weighs arcs rs t ds ls us l i r is_r, x.sum, x.few, y.sum, y.few) in
      (cost, omega (arith, tight.sum, weighs arcs rs t ds ls us l i r is_r, x.sum, y.sum, cost))

  -- the distance falls over an arc by no more than its weight
  excess_sum : (i : ℕ) (r : Arc) (is_r : IsArc rs i r) → excess ds (left arcs rs t ds ls us l i r is_r).arc + at ds (left arcs rs t ds ls us l i r is_r).arc.tail ≡ (left arcs rs t ds ls us l i r is_r).arc.weight + at ds (left arcs rs t ds ls us l i r is_r).arc.head
  excess_sum i r is_r = let b = left arcs rs t ds ls us l i r is_r in omega (arith, l.first.low i b.arc b.is_arc)

  -- what an arc beside the walk tells of heights: the height of its tail is at most its weight more than that of its head
  pub straight_low : (i : ℕ) (r : Arc) (is_r : IsArc rs i r) (x : IsReached ds ls hs r.tail) (y : IsReached ds ls hs r.head) → is_used us i ≡ false →
      (at hs r.tail ≤ (left arcs rs t ds ls us l i r is_r).arc.weight + at hs r.head) × (at hs r.tail ≡ (left arcs rs t ds ls us l i r is_r).arc.weight + at hs r.head → x.hops ≤ y.hops + 1)
  straight_low i r is_r x y unused =
      let ends = straight_ends arcs rs t ds ls us l i r is_r unused in
      let low = costs_low i r is_r x y in
      let e = excess_sum i r is_r in
      let ft = ap (at ds) ends.0 in
      let fh = ap (at ds) ends.1 in
      (omega (arith, low.0, e, x.height, y.height, ft, fh), λ same. low.1 (omega (arith, same, e, x.height, y.height, ft, fh)))

  pub straight_tight : (i : ℕ) (r : Arc) (is_r : IsArc rs i r) (x : IsReached ds ls hs r.tail) (y : IsReached ds ls hs r.head) → is_used us i ≡ false → IsTight ls r →
      (at hs r.tail ≡ (left arcs rs t ds ls us l i r is_r).arc.weight + at hs r.head) × (x.hops ≡ y.hops + 1)
  straight_tight i r is_r x y unused tight =
      let ends = straight_ends arcs rs t ds ls us l i r is_r unused in
      let low = costs_tight i r is_r x y tight in
      (omega (arith, low.0, excess_sum i r is_r, x.height, y.height, ap (at ds) ends.0, ap (at ds) ends.1), low.1)

  -- an arc of the walk, turned round: the height of its tail and its weight are at most the height of its head
  pub back_low : (i : ℕ) (r : Arc) (is_r : IsArc rs i r) (x : IsReached ds ls hs r.tail) (y : IsReached ds ls hs r.head) → is_used us i ≡ true →
      (at hs r.tail + (left arcs rs t ds ls us l i r is_r).arc.weight ≤ at hs r.head) × (at hs r.tail + (left arcs rs t ds ls us l i r is_r).arc.weight ≡ at hs r.head → x.hops ≤ y.hops + 1)
  back_low i r is_r x y used =
      let b = left arcs rs t ds ls us l i r is_r in
      let ends = back_ends arcs rs t ds ls us l i r is_r used in
      let low = costs_low i r is_r x y in
      let e = excess_sum i r is_r in
      let t' = (l.used_tight i b.arc b.is_arc used).sum in
      let ft = ap (at ds) ends.0 in
      let fh = ap (at ds) ends.1 in
      (omega (arith, low.0, e, t', x.height, y.height, ft, fh), λ same. low.1 (omega (arith, same, e, t', x.height, y.height, ft, fh)))

  pub back_tight : (i : ℕ) (r : Arc) (is_r : IsArc rs i r) (x : IsReached ds ls hs r.tail) (y : IsReached ds ls hs r.head) → is_used us i ≡ true → IsTight ls r →
      (at hs r.tail + (left arcs rs t ds ls us l i r is_r).arc.weight ≡ at hs r.head) × (x.hops ≡ y.hops + 1)
  back_tight i r is_r x y used tight =
      let b = left arcs rs t ds ls us l i r is_r in
      let ends = back_ends arcs rs t ds ls us l i r is_r used in
      let low = costs_tight i r is_r x y tight in
      let t' = (l.used_tight i b.arc b.is_arc used).sum in
      (omega (arith, low.0, excess_sum i r is_r, t', x.height, y.height, ap (at ds) ends.0, ap (at ds) ends.1), low.1)

  -- ---- equal sums make an arc tight

  again : (i : ℕ) (r : Arc) (is_r : IsArc rs i r) (x : IsReached ds ls hs r.tail) (y : IsReached ds ls hs r.head) → at ls r.tail < UNREACHED →
      x.cost ≡ excess ds (left arcs rs t ds ls us l i r is_r).arc + y.cost → x.hops ≡ y.hops + 1 → IsTight ls r
  again i r is_r x y reached costs hops = record { reached = reached; sum = omega (arith, weighs arcs rs t ds ls us l i r is_r, x.sum, y.sum, costs, hops) }

  pub straight_again : (i : ℕ) (r : Arc) (is_r : IsArc rs i r) (x : IsReached ds ls hs r.tail) (y : IsReached ds ls hs r.head) → at ls r.tail < UNREACHED → is_used us i ≡ false →
      at hs r.tail ≡ (left arcs rs t ds ls us l i r is_r).arc.weight + at hs r.head → x.hops ≡ y.hops + 1 → IsTight ls r
  straight_again i r is_r x y reached unused sum hops =
      let ends = straight_ends arcs rs t ds ls us l i r is_r unused in
      again i r is_r x y reached (omega (arith, sum, excess_sum i r is_r, x.height, y.height, ap (at ds) ends.0, ap (at ds) ends.1)) hops

  pub back_again : (i : ℕ) (r : Arc) (is_r : IsArc rs i r) (x : IsReached ds ls hs r.tail) (y : IsReached ds ls hs r.head) → at ls r.tail < UNREACHED → is_used us i ≡ true →
      at hs r.tail + (left arcs rs t ds ls us l i r is_r).arc.weight ≡ at hs r.head → x.hops ≡ y.hops + 1 → IsTight ls r
  back_again i r is_r x y reached used sum hops =
      let b = left arcs rs t ds ls us l i r is_r in
      let ends = back_ends arcs rs t ds ls us l i r is_r used in
      let t' = (l.used_tight i b.arc b.is_arc used).sum in
      again i r is_r x y reached (omega (arith, sum, excess_sum i r is_r, t', x.height, y.height, ap (at ds) ends.0, ap (at ds) ends.1)) hops
