-- The path by the first tight arcs that a walk leaves is the least residual walk.
use Rattle.std.proofs.Common.{◌≡◌, inl, inr, ℕ, ◌+◌, ◌<◌, ◌≤◌, Bool, true, false, List, [], ◌∷◌, length, arith, refl, sym, ◌∙◌, ap, subst, None, Some}
use Rattle.std.specs.Prelude.{◌↔◌, Contains, slice_get, slice_index_or, pos, ◌+ℤ◌, ◌≤ℤ◌}
use Rattle.std.specs.List.{AllZip}
use Rattle.std.specs.declared.option.Option.{Option}
use Rattle.std.proofs.lemmas.Bool.{cases_lt}
use Rattle.std.proofs.lemmas.Int.{by_lt_z, ints}
use Rattle.std.proofs.lemmas.Option.{slice_get_within, get_or_from_slice_get}
use Rattle.dom_base.specs.AddrOrder.{rank}
use Rattle.dom_base.specs.declared.addr.Addr.{Addr}
use Rattle.dom_base.specs.declared.link.Link.{Link}
use Rattle.dom_base.specs.declared.query.Query.{Query}
use Rattle.dom_base.specs.Admission.{weight}
use Rattle.te_links.specs.Rows.{Rows, IsTopology, IsInOrder}
use Rattle.walk_laws.specs.Walks.{AdmitsNode, AdmitsLink}
use Rattle.path_search.proofs.Places.{same_place, place_of}
use Rattle.diverse_pairs.specs.declared.arcs.Arc.{Arc}
use Rattle.diverse_pairs.specs.declared.arcs.TheConstants.{UNREACHED}
use Rattle.diverse_pairs.specs.Arcs.{IsArc, at, is_used}
use Rattle.diverse_pairs.specs.Distances.{IsTight, AreTight}
use Rattle.diverse_pairs.specs.Residual.{residual_arc, AreHeights}
use Rattle.diverse_pairs.specs.Paths.{Goes, IsFirstFrom}
use Rattle.diverse_pairs.specs.Chosen.{Residual, taken, turned, IsResidual, ResidualWalk, residual_cost, residual_fars, ComesFirst, IsSecondWalk}
use Rattle.diverse_pairs.specs.Network.{AreArcs}
use Rattle.diverse_pairs.proofs.Beside.{Left, left, stays, first_reached, left_among, back_reached, IsReached, reached_at, same_hops, straight_low, straight_tight, back_low, back_tight, straight_again, back_again, straight_ends, back_ends}
use Rattle.diverse_pairs.proofs.Linked.{HasArc, admitted_arc, arc_link, one_node, one_link}

-- a link as it stands beside the walk, by whether it is in use
abbrev pub beside : Query → Bool → Link → Residual
beside q false l = taken q l
beside q true l = turned q l

far_is : (q : Query) (u : Bool) (l : Link) → (beside q u l).far ≡ l.far
far_is q false l = refl
far_is q true l = refl

-- links by their places, as they stand beside the walk
abbrev pub AreBeside : Rows → Query → List Bool → List ℕ → List Residual → Type 0
AreBeside g q us = AllZip (λ i r. (l : Link) × (slice_get g.links i ≡ Some l) × (r ≡ beside q (is_used us i) l))

-- what is known of the walk and of what it leaves
pub record AreLeft (g : Rows) (q : Query) (t : Addr) (walk : List Link) (arcs rs : List (Option Arc)) (place : ℕ) (ds ls : List ℕ) (us : List Bool) : Type 0 where
  pub valid : IsTopology g
  pub order : IsInOrder g
  pub are : AreArcs g q arcs
  pub at_target : slice_get g.nodes place ≡ Some t
  pub admits : AdmitsNode g q t
  pub long : length ds ≡ length g.nodes
  pub left : Left arcs rs place ds ls us
  pub marked : (i : ℕ) (l : Link) → slice_get g.links i ≡ Some l → (is_used us i ≡ true) ↔ Contains walk l

module _ (g : Rows) (q : Query) (t : Addr) (walk : List Link) (arcs rs : List (Option Arc)) (place : ℕ) (ds ls hs : List ℕ) (us : List Bool)
    (k : AreLeft g q t walk arcs rs place ds ls us) (heights : AreHeights ds ls hs) where
  inside : (u : ℕ) (n : Addr) → slice_get g.nodes u ≡ Some n → u < length ds
  inside u n is = omega (arith, k.long, slice_get_within g.nodes u n is)

  reach : (u : ℕ) (n : Addr) → slice_get g.nodes u ≡ Some n → at ls u < UNREACHED → IsReached ds ls hs u
  reach u n is reached = reached_at arcs rs place ds ls us k.left hs heights u (inside u n is) reached

  zero_there : at ls place ≡ 0
  zero_there = k.left.second.made.at_target

  at_end : (x : IsReached ds ls hs place) → (at hs place ≡ 0) × (x.hops ≡ 0)
  at_end x = (omega (arith, x.height, x.sum, zero_there, k.left.first.made.at_target), omega (arith, x.sum, zero_there))

  -- a residual link as an arc, into a node with a distance
  pub record Crossing (o : Residual) (v : ℕ) : Type 0 where
    pub index : ℕ
    pub arc : Arc
    pub is_arc : IsArc rs index arc
    pub link : Link
    pub at_link : slice_get g.links index ≡ Some link
    pub tail : slice_get g.nodes arc.tail ≡ Some o.from
    pub head : arc.head ≡ v
    pub same_weight : (left arcs rs place ds ls us k.left index arc is_arc).arc.weight ≡ weight q.metric link
    pub is : o ≡ beside q (is_used us index) link

  link_weight : (i : ℕ) (r : Arc) (is_r : IsArc rs i r) (l : Link) → slice_get g.links i ≡ Some l → (left arcs rs place ds ls us k.left i r is_r).arc.weight ≡ weight q.metric l
  link_weight i r is_r l at_l =
      let b = left arcs rs place ds ls us k.left i r is_r in
      let of = arc_link g q arcs k.are i b.arc b.is_arc in
      of.weight ∙ ap (weight q.metric) (one_link g.links i of.link l of.at_place.at_link at_l)

  not_used : (i : ℕ) (l : Link) → slice_get g.links i ≡ Some l → ¬ Contains walk l → is_used us i ≡ false
  not_used i l at_l lacks = go (is_used us i) refl
    where
      go : (b : Bool) → is_used us i ≡ b → is_used us i ≡ false
      go false is = is
      go true is = absurd (lacks ((k.marked i l at_l).0 is))

  -- the arc of an admitted link, turned round where it is in use
  across : (l : Link) (v : ℕ) (b : Bool) (h : HasArc g q arcs l) → is_used us h.place ≡ b → at ds h.arc.head < UNREACHED → slice_get g.nodes (residual_arc ds b h.arc).tail ≡ Some (beside q b l).from →
      (residual_arc ds b h.arc).head ≡ v → Crossing (beside q b l) v
  across l v b h is near tail here =
      let r = residual_arc ds b h.arc in
      let is_r : IsArc rs h.place r = stays arcs rs place ds ls us k.left h.place h.arc h.is_arc near ∙ ap (λ u. Some (residual_arc ds u h.arc)) is in
      record {
        index = h.place;
        arc = r;
        is_arc = is_r;
        link = l;
        at_link = h.at_link;
        tail = tail;
        head = here;
        same_weight = link_weight h.place r is_r l h.at_link;
        is = ap (λ u. beside q u l) (sym is);
      }

  straight_arc : (l : Link) (v : ℕ) → AdmitsLink g q l → ¬ Contains walk l → slice_get g.nodes v ≡ Some l.to → at ls v < UNREACHED → Crossing (taken q l) v
  straight_arc l v admitted lacks at_v reached =
      let h = admitted_arc g q arcs k.are l admitted in
      let here : h.arc.head ≡ v = same_place g.nodes k.valid.nodes_differ h.arc.head v l.to h.head at_v in
      across l v false h (not_used h.place l h.at_link lacks) (omega (arith, first_reached arcs rs place ds ls us k.left v reached, ap (at ds) here)) h.tail here

  turned_arc : (l : Link) (v : ℕ) → AdmitsLink g q l → Contains walk l → slice_get g.nodes v ≡ Some l.from → at ls v < UNREACHED → Crossing (turned q l) v
  turned_arc l v admitted has at_v reached =
      let h = admitted_arc g q arcs k.are l admitted in
      let used : is_used us h.place ≡ true = (k.marked h.place l h.at_link).1 has in
      let tight = k.left.used_tight h.place h.arc h.is_arc used in
      across l v true h used (omega (arith, tight.sum, tight.reached)) h.head (same_place g.nodes k.valid.nodes_differ h.arc.tail v l.from h.tail at_v)

  crossing : (o : Residual) (v : ℕ) → IsResidual g q walk o → slice_get g.nodes v ≡ Some o.to → at ls v < UNREACHED → Crossing o v
  crossing o v is at_v reached =
      let l : Link = is.0 in
      elim is.2 [
        | inl straight ↦
            let same : taken q l ≡ o = sym straight.1 in
            subst (λ (p : Residual). Crossing p v) same (straight_arc l v is.1 straight.0 (at_v ∙ ap (λ (p : Residual). Some p.to) (sym same)) reached)
        | inr back ↦
            let same : turned q l ≡ o = sym back.1 in
            subst (λ (p : Residual). Crossing p v) same (turned_arc l v is.1 back.0 (at_v ∙ ap (λ (p : Residual). Some p.to) (sym same)) reached)
      ]

  -- over an arc the height rises by at most the weight of the residual link, and where the sums are the same the arcs are no more than one more
  pub record Steps (o : Residual) (h h' n n' : ℕ) : Type 0 where
    pub low : pos h ≤ℤ (o.weight +ℤ pos h')
    pub few : pos h ≡ (o.weight +ℤ pos h') → n ≤ n' + 1

  steps : (i : ℕ) (r : Arc) (is_r : IsArc rs i r) (l : Link) → slice_get g.links i ≡ Some l → (x : IsReached ds ls hs r.tail) (y : IsReached ds ls hs r.head) →
      Steps (beside q (is_used us i) l) (at hs r.tail) (at hs r.head) x.hops y.hops
  steps i r is_r l at_l x y = go (is_used us i) refl
    where
      go : (b : Bool) → is_used us i ≡ b → Steps (beside q (is_used us i) l) (at hs r.tail) (at hs r.head) x.hops y.hops
      go false is =
          let low = straight_low arcs rs place ds ls us k.left hs heights i r is_r x y is in
          let w = link_weight i r is_r l at_l in
          let P : Bool → Type 0 = λ u. Steps (beside q u l) (at hs r.tail) (at hs r.head) x.hops y.hops in
          subst P (sym is) (record { low = omega (arith, ints, low.0, w); few = λ same. low.1 (omega (arith, ints, same, w)) })
      go true is =
          let low = back_low arcs rs place ds ls us k.left hs heights i r is_r x y is in
          let w = link_weight i r is_r l at_l in
          let P : Bool → Type 0 = λ u. Steps (beside q u l) (at hs r.tail) (at hs r.head) x.hops y.hops in
          subst P (sym is) (record { low = omega (arith, ints, low.0, w); few = λ same. low.1 (omega (arith, ints, same, w)) })

  tight_steps : (i : ℕ) (r : Arc) (is_r : IsArc rs i r) (l : Link) → slice_get g.links i ≡ Some l → (x : IsReached ds ls hs r.tail) (y : IsReached ds ls hs r.head) → IsTight ls r →
      (pos (at hs r.tail) ≡ ((beside q (is_used us i) l).weight +ℤ pos (at hs r.head))) × (x.hops ≡ y.hops + 1)
  tight_steps i r is_r l at_l x y tight = go (is_used us i) refl
    where
      P : Bool → Type 0
      P u = (pos (at hs r.tail) ≡ ((beside q u l).weight +ℤ pos (at hs r.head))) × (x.hops ≡ y.hops + 1)

      go : (b : Bool) → is_used us i ≡ b → P (is_used us i)
      go false is =
          let low = straight_tight arcs rs place ds ls us k.left hs heights i r is_r x y is tight in
          let w = link_weight i r is_r l at_l in
          subst P (sym is) (omega (arith, ints, low.0, w), low.1)
      go true is =
          let low = back_tight arcs rs place ds ls us k.left hs heights i r is_r x y is tight in
          let w = link_weight i r is_r l at_l in
          subst P (sym is) (omega (arith, ints, low.0, w), low.1)

  steps_tight : (i : ℕ) (r : Arc) (is_r : IsArc rs i r) (l : Link) → slice_get g.links i ≡ Some l → (x : IsReached ds ls hs r.tail) (y : IsReached ds ls hs r.head) → at ls r.tail < UNREACHED →
      pos (at hs r.tail) ≡ ((beside q (is_used us i) l).weight +ℤ pos (at hs r.head)) → x.hops ≡ y.hops + 1 → IsTight ls r
  steps_tight i r is_r l at_l x y reached = go (is_used us i) refl
    where
      go : (b : Bool) → is_used us i ≡ b → pos (at hs r.tail) ≡ ((beside q (is_used us i) l).weight +ℤ pos (at hs r.head)) → x.hops ≡ y.hops + 1 → IsTight ls r
      go false is sum hops =
          let w = link_weight i r is_r l at_l in
          let here : pos (at hs r.tail) ≡ ((beside q false l).weight +ℤ pos (at hs r.head)) = rw is at sum in
          straight_again arcs rs place ds ls us k.left hs heights i r is_r x y reached is (omega (arith, ints, here, w)) hops
      go true is sum hops =
          let w = link_weight i r is_r l at_l in
          let here : pos (at hs r.tail) ≡ ((beside q true l).weight +ℤ pos (at hs r.head)) = rw is at sum in
          back_again arcs rs place ds ls us k.left hs heights i r is_r x y reached is (omega (arith, ints, here, w)) hops

  -- ---- every residual walk costs at least the height

  pub record Bounded (u : ℕ) (os : List Residual) : Type 0 where
    pub reached : at ls u < UNREACHED
    pub low : pos (at hs u) ≤ℤ residual_cost os
    pub few : (x : IsReached ds ls hs u) → pos (at hs u) ≡ residual_cost os → x.hops ≤ length os

  -- a residual walk that begins with a link goes on from a place
  pub record Onward (u : ℕ) (o : Residual) (os : List Residual) : Type 0 where
    pub next : ℕ
    pub at_next : slice_get g.nodes next ≡ Some o.to
    pub bounded : Bounded next os
    pub crossing : Crossing o next
    pub here : crossing.arc.tail ≡ u

  to_node : (o : Residual) → IsResidual g q walk o → AdmitsNode g q o.to
  to_node o is =
      let l : Link = is.0 in
      elim is.2 [
        | inl straight ↦ subst (λ (p : Residual). AdmitsNode g q p.to) (sym straight.1) is.1.to
        | inr back ↦ subst (λ (p : Residual). AdmitsNode g q p.to) (sym back.1) is.1.from
      ]

  onward : (u : ℕ) (n : Addr) (o : Residual) (os : List Residual) (v : ℕ) → slice_get g.nodes u ≡ Some n → o.from ≡ n → IsResidual g q walk o → slice_get g.nodes v ≡ Some o.to → Bounded v os → Onward u o os
  onward u n o os v at_u from is at_v bounded =
      let c = crossing o v is at_v bounded.reached in
      record {
        next = v;
        at_next = at_v;
        bounded = bounded;
        crossing = c;
        here = same_place g.nodes k.valid.nodes_differ c.arc.tail u n (c.tail ∙ ap (λ (m : Addr). Some m) from) at_u;
      }

  arc_reached : (u : ℕ) (o : Residual) (os : List Residual) (w : Onward u o os) → (at ls w.crossing.arc.tail < UNREACHED) × (at ls w.crossing.arc.head < UNREACHED)
  arc_reached u o os w =
      let c = w.crossing in
      let head : at ls c.arc.head < UNREACHED = omega (arith, w.bounded.reached, ap (at ls) c.head) in
      (back_reached arcs rs place ds ls us k.left c.index c.arc c.is_arc head, head)

  ends_reached : (u : ℕ) (o : Residual) (os : List Residual) (w : Onward u o os) → IsReached ds ls hs w.crossing.arc.tail × IsReached ds ls hs w.crossing.arc.head
  ends_reached u o os w =
      let c = w.crossing in
      let both = arc_reached u o os w in
      let good = left_among arcs rs place ds ls us k.left c.index c.arc c.is_arc in
      (reached_at arcs rs place ds ls us k.left hs heights c.arc.tail (omega (arith, good.tail, k.left.long)) both.0, reached_at arcs rs place ds ls us k.left hs heights c.arc.head (omega (arith, good.head, k.left.long)) both.1)

  moved : (u v : ℕ) → u ≡ v → IsReached ds ls hs u → IsReached ds ls hs v
  moved u v same x = subst (IsReached ds ls hs) same x

  hops_moved : (a b : ℕ) (same : a ≡ b) (x : IsReached ds ls hs a) → (moved a b same x).hops ≡ x.hops
  hops_moved a b same x =
      let y = moved a b same x in
      omega (arith, y.sum, y.few, x.sum, x.few, ap (at ls) same)

  onward_bounds : (u : ℕ) (o : Residual) (os : List Residual) → Onward u o os → Bounded u (o ∷ os)
  onward_bounds u o os w =
      let c = w.crossing in
      let both = arc_reached u o os w in
      let ends = ends_reached u o os w in
      let s0 = steps c.index c.arc c.is_arc c.link c.at_link ends.0 ends.1 in
      let weighs : (beside q (is_used us c.index) c.link).weight ≡ o.weight = ap (λ (p : Residual). p.weight) (sym c.is) in
      let tail = ap (at hs) w.here in
      let head = ap (at hs) c.head in
      record {
        reached = omega (arith, both.0, ap (at ls) w.here);
        low = omega (arith, ints, s0.low, w.bounded.low, weighs, tail, head);
        few = λ x same.
            let hops' = same_hops arcs rs place ds ls us k.left hs heights u x (moved c.arc.tail u w.here ends.0) in
            let y = moved c.arc.head w.next c.head ends.1 in
            let sum : pos (at hs c.arc.tail) ≡ ((beside q (is_used us c.index) c.link).weight +ℤ pos (at hs c.arc.head)) = omega (arith, ints, same, s0.low, w.bounded.low, weighs, tail, head) in
            let rest : pos (at hs w.next) ≡ residual_cost os = omega (arith, ints, same, s0.low, w.bounded.low, weighs, tail, head) in
            let rest_few = w.bounded.few y rest in
            let one = s0.few sum in
            omega (arith, hops', rest_few, one, hops_moved c.arc.tail u w.here ends.0, hops_moved c.arc.head w.next c.head ends.1);
      }

  bounded : (os : List Residual) (u : ℕ) (n : Addr) → slice_get g.nodes u ≡ Some n → ResidualWalk g q walk n t os → Bounded u os
  bounded [] u n at_u way =
      let here : u ≡ place = same_place g.nodes k.valid.nodes_differ u place t (at_u ∙ ap (λ (m : Addr). Some m) way.0) k.at_target in
      let reached : at ls u < UNREACHED = omega (arith, zero_there, ap (at ls) here) in
      let x0 = reach u n at_u reached in
      let e = at_end (moved u place here x0) in
      record {
        reached = reached;
        low = omega (arith, ints, e.0, ap (at hs) here);
        few = λ x same. omega (arith, (at_end (moved u place here x)).1, hops_moved u place here x);
      }
  bounded (o ∷ os) u n at_u way =
      let v = place_of g.nodes o.to (to_node o way.1).is_node in
      onward_bounds u o os (onward u n o os v.0 at_u way.0 way.1 v.1 (bounded os v.0 o.to v.1 way.2))

  onward_of : (u : ℕ) (n : Addr) (o : Residual) (os : List Residual) → slice_get g.nodes u ≡ Some n → ResidualWalk g q walk n t (o ∷ os) → Onward u o os
  onward_of u n o os at_u way =
      let v = place_of g.nodes o.to (to_node o way.1).is_node in
      onward u n o os v.0 at_u way.0 way.1 v.1 (bounded os v.0 o.to v.1 way.2)

  -- ---- the path by the first tight arcs

  step_reached : (marks : List Bool) → AreTight rs ls marks → (u i v : ℕ) (step : IsFirstFrom rs marks u i v) → IsReached ds ls hs step.arc.tail × IsReached ds ls hs step.arc.head
  step_reached marks tight u i v step =
      let t' : IsTight ls step.arc = (tight i step.arc step.is_arc).0 step.used in
      let good = left_among arcs rs place ds ls us k.left i step.arc step.is_arc in (
        reached_at arcs rs place ds ls us k.left hs heights step.arc.tail (omega (arith, good.tail, k.left.long)) t'.reached,
        reached_at arcs rs place ds ls us k.left hs heights step.arc.head (omega (arith, good.head, k.left.long)) (omega (arith, t'.sum, t'.reached)),
      )

  measured : (marks : List Bool) → AreTight rs ls marks → (is : List ℕ) (u : ℕ) (rr : List Residual) → Goes rs marks u is place → AreBeside g q us is rr → (x : IsReached ds ls hs u) →
      (residual_cost rr ≡ pos (at hs u)) × (length rr ≡ x.hops)
  measured marks tight [] u [] goes beside' x =
      let e = at_end (moved u place goes x) in
      (omega (arith, ints, e.0, ap (at hs) goes), omega (arith, e.1, hops_moved u place goes x))
  measured marks tight [] u (r ∷ rr) goes beside' x = absurd beside'
  measured marks tight (i ∷ is) u [] goes beside' x = absurd beside'
  measured marks tight (i ∷ is) u (r ∷ rr) goes beside' x =
      let step = goes.2 in
      let t' : IsTight ls step.arc = (tight i step.arc step.is_arc).0 step.used in
      let ends = step_reached marks tight u i goes.1 step in
      let l : Link = beside'.0.0 in
      let ts = tight_steps i step.arc step.is_arc l beside'.0.1 ends.0 ends.1 t' in
      let y = moved step.arc.head goes.1 step.same_head ends.1 in
      let rest = measured marks tight is goes.1 rr goes.3 beside'.1 y in
      let weighs : r.weight ≡ (beside q (is_used us i) l).weight = ap (λ (p : Residual). p.weight) beside'.0.2 in (
        omega (arith, ints, ts.0, rest.0, weighs, ap (at hs) step.tail, ap (at hs) step.same_head),
        omega (arith, rest.1, ts.1, hops_moved step.arc.head goes.1 step.same_head ends.1, hops_moved step.arc.tail u step.tail ends.0, same_hops arcs rs place ds ls us k.left hs heights u x (moved step.arc.tail u step.tail ends.0)),
      )

  -- a link beside the walk is a residual link, between the places of its arc
  pub record Lays (i : ℕ) (r : Arc) (o : Residual) : Type 0 where
    pub tail : slice_get g.nodes r.tail ≡ Some o.from
    pub head : slice_get g.nodes r.head ≡ Some o.to
    pub residual : IsResidual g q walk o

  lays : (i : ℕ) (r : Arc) (is_r : IsArc rs i r) (l : Link) → slice_get g.links i ≡ Some l → Lays i r (beside q (is_used us i) l)
  lays i r is_r l at_l = go (is_used us i) refl
    where
      go : (b : Bool) → is_used us i ≡ b → Lays i r (beside q (is_used us i) l)
      go false is =
          let b = left arcs rs place ds ls us k.left i r is_r in
          let of = arc_link g q arcs k.are i b.arc b.is_arc in
          let same : of.link ≡ l = one_link g.links i of.link l of.at_place.at_link at_l in
          let ends = straight_ends arcs rs place ds ls us k.left i r is_r is in
          let P : Bool → Type 0 = λ u. Lays i r (beside q u l) in
          subst P (sym is) (record {
            tail = ap (slice_get g.nodes) ends.0 ∙ of.tail ∙ ap (λ (m : Link). Some m.from) same;
            head = ap (slice_get g.nodes) ends.1 ∙ of.head ∙ ap (λ (m : Link). Some m.to) same;
            residual = (l, subst (AdmitsLink g q) same of.at_place.admitted, inl (λ has. let bad : false ≡ true = sym is ∙ (k.marked i l at_l).1 has in absurd cc, refl));
          })
      go true is =
          let b = left arcs rs place ds ls us k.left i r is_r in
          let of = arc_link g q arcs k.are i b.arc b.is_arc in
          let same : of.link ≡ l = one_link g.links i of.link l of.at_place.at_link at_l in
          let ends = back_ends arcs rs place ds ls us k.left i r is_r is in
          let P : Bool → Type 0 = λ u. Lays i r (beside q u l) in
          subst P (sym is) (record {
            tail = ap (slice_get g.nodes) ends.0 ∙ of.head ∙ ap (λ (m : Link). Some m.to) same;
            head = ap (slice_get g.nodes) ends.1 ∙ of.tail ∙ ap (λ (m : Link). Some m.from) same;
            residual = (l, subst (AdmitsLink g q) same of.at_place.admitted, inr ((k.marked i l at_l).0 is, refl));
          })

  pub walks : (marks : List Bool) (is : List ℕ) (u : ℕ) (n : Addr) (rr : List Residual) → slice_get g.nodes u ≡ Some n → Goes rs marks u is place → AreBeside g q us is rr → ResidualWalk g q walk n t rr
  walks marks [] u n [] at_u goes beside' =
      let same : n ≡ t = one_node g.nodes place n t (ap (slice_get g.nodes) (sym goes) ∙ at_u) k.at_target in
      (same, subst (AdmitsNode g q) (sym same) k.admits)
  walks marks [] u n (r ∷ rr) at_u goes beside' = absurd beside'
  walks marks (i ∷ is) u n [] at_u goes beside' = absurd beside'
  walks marks (i ∷ is) u n (r ∷ rr) at_u goes beside' =
      let step = goes.2 in
      let l : Link = beside'.0.0 in
      let L = subst (Lays i step.arc) (sym beside'.0.2) (lays i step.arc step.is_arc l beside'.0.1) in (
        one_node g.nodes u r.from n (ap (slice_get g.nodes) (sym step.tail) ∙ L.tail) at_u,
        L.residual,
        walks marks is goes.1 r.to rr (ap (slice_get g.nodes) (sym step.same_head) ∙ L.head) goes.3 beside'.1,
      )

  -- ---- it comes first

  in_order : (marks : List Bool) → AreTight rs ls marks → (is : List ℕ) (u : ℕ) (n : Addr) (rr others : List Residual) → slice_get g.nodes u ≡ Some n → Goes rs marks u is place → AreBeside g q us is rr →
      (x : IsReached ds ls hs u) → ResidualWalk g q walk n t others → residual_cost others ≡ pos (at hs u) → length others ≡ x.hops → ComesFirst (residual_fars rr) (residual_fars others)
  in_order marks tight [] u n [] others at_u goes beside' x way cost' long = tt
  in_order marks tight [] u n (r ∷ rr) others at_u goes beside' x way cost' long = absurd beside'
  in_order marks tight (i ∷ is) u n [] others at_u goes beside' x way cost' long = absurd beside'
  in_order marks tight (i ∷ is) u n (r ∷ rr) [] at_u goes beside' x way cost' long =
      let m = measured marks tight (i ∷ is) u (r ∷ rr) goes beside' x in
      absurd (omega (arith, m.1, long))
  in_order marks tight (i ∷ is) u n (r ∷ rr) (o ∷ os) at_u goes beside' x way cost' long =
      let step = goes.2 in
      let w = onward_of u n o os at_u way in
      let c = w.crossing in
      let both = arc_reached u o os w in
      let ends = ends_reached u o os w in
      let s0 = steps c.index c.arc c.is_arc c.link c.at_link ends.0 ends.1 in
      let weighs : (beside q (is_used us c.index) c.link).weight ≡ o.weight = ap (λ (p : Residual). p.weight) (sym c.is) in
      let tail = ap (at hs) w.here in
      let head = ap (at hs) c.head in
      let sum : pos (at hs c.arc.tail) ≡ ((beside q (is_used us c.index) c.link).weight +ℤ pos (at hs c.arc.head)) = omega (arith, ints, cost', s0.low, w.bounded.low, weighs, tail, head) in
      let rest : pos (at hs w.next) ≡ residual_cost os = omega (arith, ints, cost', s0.low, w.bounded.low, weighs, tail, head) in
      let y = moved c.arc.head w.next c.head ends.1 in
      let rest_few = w.bounded.few y rest in
      let one = s0.few sum in
      let hx = same_hops arcs rs place ds ls us k.left hs heights u x (moved c.arc.tail u w.here ends.0) in
      let mx = hops_moved c.arc.tail u w.here ends.0 in
      let my = hops_moved c.arc.head w.next c.head ends.1 in
      let hops' : ends.0.hops ≡ ends.1.hops + 1 = omega (arith, rest_few, one, hx, mx, my, long) in
      let is_tight : IsTight ls c.arc = steps_tight c.index c.arc c.is_arc c.link c.at_link ends.0 ends.1 both.0 sum hops' in
      let up : i ≤ c.index = step.first c.index c.arc c.is_arc ((tight c.index c.arc c.is_arc).1 is_tight) w.here in
      let l : Link = beside'.0.0 in
      let far_r : r.far ≡ l.far = ap (λ (p : Residual). p.far) beside'.0.2 ∙ far_is q (is_used us i) l in
      let far_o : o.far ≡ c.link.far = ap (λ (p : Residual). p.far) c.is ∙ far_is q (is_used us c.index) c.link in
      elim (cases_lt i c.index) [
        | inl lt ↦
            let rises = k.order.links i c.index l lt (slice_get_within g.links c.index c.link c.at_link) in
            inl (omega (arith, rises, ap (λ (m : Link). rank m.far) (get_or_from_slice_get g.links i l l beside'.0.1), ap (λ (m : Link). rank m.far) (get_or_from_slice_get g.links c.index c.link l c.at_link), ap rank far_r, ap rank far_o))
        | inr ge ↦
            let same : c.index ≡ i = omega (arith, up, ge) in
            let arc' : Some c.arc ≡ Some step.arc = sym c.is_arc ∙ ap (λ j. slice_index_or rs j None) same ∙ step.is_arc in
            let one_arc : c.arc ≡ step.arc = cc in
            let links : c.link ≡ l = one_link g.links i c.link l (ap (slice_get g.links) (sym same) ∙ c.at_link) beside'.0.1 in
            let next : w.next ≡ goes.1 = sym c.head ∙ ap (λ (a : Arc). a.head) one_arc ∙ step.same_head in
            let z = moved w.next goes.1 next y in
            inr (
              omega (arith, ap rank far_r, ap rank far_o, ap (λ (m : Link). rank m.far) links),
              in_order marks tight is goes.1 o.to rr os (ap (slice_get g.nodes) (sym next) ∙ w.at_next) goes.3 beside'.1 z way.2 (sym rest ∙ ap (λ v. pos (at hs v)) next)
                  (omega (arith, rest_few, one, hx, mx, my, hops_moved w.next goes.1 next y, long)),
            )
      ]

  pub second : (marks : List Bool) → AreTight rs ls marks → (is : List ℕ) (u : ℕ) (n : Addr) (rr : List Residual) → slice_get g.nodes u ≡ Some n → at ls u < UNREACHED → Goes rs marks u is place → AreBeside g q us is rr →
      IsSecondWalk g q n t walk rr
  second marks tight is u n rr at_u reached goes beside' =
      let x = reach u n at_u reached in
      let m = measured marks tight is u rr goes beside' x in
      record {
        residual = walks marks is u n rr at_u goes beside';
        least = λ others way.
            let b = bounded others u n at_u way in
            by_lt_z (residual_cost rr) (residual_cost others) (λ lt. inl lt) (λ ge.
            let same : residual_cost rr ≡ residual_cost others = omega (arith, ints, ge, m.0, b.low) in
            let few = b.few x (sym m.0 ∙ same) in
            inr (
              same,
              elim (cases_lt (length rr) (length others)) [
                | inl lt ↦ inl lt
                | inr more ↦
                    let long : length rr ≡ length others = omega (arith, more, few, m.1) in
                    inr (long, in_order marks tight is u n rr others at_u goes beside' x way (sym same ∙ m.0) (sym long ∙ m.1))
              ],
            ));
      }
