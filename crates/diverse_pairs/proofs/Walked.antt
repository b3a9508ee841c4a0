-- A first walk, what it leaves, and a second one: which arcs are in use then, how many begin and end at each node, and how the heights fall.
use Rattle.std.proofs.Common.{◌≡◌, ◌⊎◌, inl, inr, ℕ, suc, ◌+◌, ◌<◌, ◌≤◌, Bool, true, false, not, List, [], ◌∷◌, length, replicate, arith, refl, sym, ◌∙◌, ap, subst, Some}
use Rattle.std.specs.Prelude.{◌↔◌, Contains, slice_get}
use Rattle.std.specs.declared.option.Option.{Option}
use Rattle.std.proofs.lemmas.Bool.{cases_lt}
use Rattle.std.proofs.lemmas.Bool.Decides.{eqb_tells}
use Rattle.std.proofs.lemmas.List.{get_or-replicate, get_or_past, length-replicate}
use Rattle.std.proofs.lemmas.Option.{slice_get_within, get_or_from_slice_get}
use Rattle.dom_base.specs.AddrOrder.{rank}
use Rattle.dom_base.specs.declared.addr.Addr.{Addr}
use Rattle.dom_base.specs.declared.link.Link.{Link}
use Rattle.dom_base.specs.declared.query.Query.{Query}
use Rattle.te_links.specs.Rows.{Rows, IsInOrder}
use Rattle.path_search.specs.Segments.{AreAt}
use Rattle.diverse_pairs.specs.declared.arcs.Arc.{Arc}
use Rattle.diverse_pairs.specs.declared.arcs.TheConstants.{UNREACHED}
use Rattle.diverse_pairs.specs.Arcs.{IsArc, at, is_used, IsAmong, AreAmong}
use Rattle.diverse_pairs.specs.Distances.{IsTight}
use Rattle.diverse_pairs.specs.Residual.{residual_arc}
use Rattle.diverse_pairs.specs.Paths.{Goes, Falling, turned}
use Rattle.diverse_pairs.specs.Chosen.{IsChosenWalk, uncapped}
use Rattle.diverse_pairs.specs.Solving.{IsPlaced, IsSearched, IsWalked, IsTurned, MakePaths}
use Rattle.diverse_pairs.proofs.Lowering.{one_arc, arc_within}
use Rattle.diverse_pairs.proofs.Flow.{Among, Fresh, Lies, lies, fresh, turned_at, turned_other, length_turned, Balances, plus, path_turned, path_taken, none_in_use, leads_on, none_left, RunsAlong, one_other}
use Rattle.diverse_pairs.proofs.Tightness.{tight_falls}
use Rattle.diverse_pairs.proofs.Beside.{Left, left, stays, first_reached, left_among, back_reached, runs_along, IsReached, reached_at, straight_low, straight_tight, back_low, back_tight, straight_ends, back_ends}
use Rattle.diverse_pairs.proofs.Linked.{arc_link, one_link, arcs_among, arcs_light, at_among, among_at}
use Rattle.diverse_pairs.proofs.Uncapped.{arcs_up, node_up}
use Rattle.diverse_pairs.proofs.FirstLabels.{made_label, AreFound, has_label, segment}
use Rattle.diverse_pairs.proofs.SecondWalk.{AreLeft}

pub decide : (is : List ℕ) (j : ℕ) → Among is j ⊎ ¬ Among is j
decide [] j = inr (λ bad. bad)
decide (i ∷ is) j = elim (eqb_tells i j) [
  | inl here ↦ inl (inl here.1)
  | inr other ↦ elim (decide is j) [
    | inl among ↦ inl (inr among)
    | inr lacks ↦ inr (λ m. elim m [ inl same ↦ other.1 same | inr among ↦ lacks among ])
  ]
]

pub unused_at : (n i : ℕ) → is_used (replicate n false) i ≡ false
unused_at n i = elim (cases_lt i n) [
  | inl lt ↦ get_or-replicate n i false false lt
  | inr ge ↦ get_or_past (replicate n false) i false (omega (arith, ge, length-replicate n false))
]

-- no link stands at two places
pub one_place : (g : Rows) → IsInOrder g → (i j : ℕ) (l : Link) → slice_get g.links i ≡ Some l → slice_get g.links j ≡ Some l → i ≡ j
one_place g order i j l at_i at_j = elim (cases_lt i j) [
  | inl lt ↦ absurd (falls i j lt at_i at_j)
  | inr ge ↦ elim (cases_lt j i) [ inl lt ↦ absurd (falls j i lt at_j at_i) | inr le ↦ omega arith ]
]
  where
    falls : (k m : ℕ) → k < m → slice_get g.links k ≡ Some l → slice_get g.links m ≡ Some l → ⊥
    falls k m lt at_k at_m =
        let up = order.links k m l lt (slice_get_within g.links m l at_m) in
        omega (arith, up, ap (λ (x : Link). rank x.far) (get_or_from_slice_get g.links k l l at_k), ap (λ (x : Link). rank x.far) (get_or_from_slice_get g.links m l l at_m))

-- the links at places
pub links_of : (links : List Link) (is : List ℕ) → ((j : ℕ) → Among is j → (l : Link) × (slice_get links j ≡ Some l)) → (ls : List Link) × AreAt links is ls
links_of links [] each = ([], tt)
links_of links (i ∷ is) each =
    let here = each i (inl refl) in
    let rest = links_of links is (λ j among. each j (inr among)) in
    (here.0 ∷ rest.0, (here.1, rest.1))

module _ (g : Rows) (q : Query) (s t : Addr) (from to : ℕ) (arcs : List (Option Arc)) (ds : List ℕ) (us : List Bool) (rs : List (Option Arc)) (ls : List ℕ)
    (p : IsPlaced g q s t from to) (f : IsSearched g q to arcs ds) (w : IsWalked from to arcs ds us rs ls) where
  pub among_ds : AreAmong (length ds) arcs
  among_ds i a is_arc = subst (λ n. IsAmong n a) (sym f.long) (arcs_among g q arcs p.valid f.are i a is_arc)

  falling_first : Falling arcs w.turns.marks ds
  falling_first = tight_falls arcs ds w.turns.marks among_ds w.turns.tight

  fresh_first : Fresh w.turns.path
  fresh_first = fresh arcs w.turns.marks ds to falling_first w.turns.path from w.turns.goes

  pub lies_first : (j : ℕ) → Among w.turns.path j → Lies arcs w.turns.marks ds from j
  lies_first j among = lies arcs w.turns.marks ds to falling_first w.turns.path from j w.turns.goes among

  inside_first : (j : ℕ) → Among w.turns.path j → j < length arcs
  inside_first j among = let l = lies_first j among in arc_within arcs j l.arc l.is_arc

  pub long_us : length us ≡ length arcs
  long_us = ap length w.turns.is ∙ length_turned w.turns.path (replicate (length arcs) false) ∙ length-replicate (length arcs) false

  pub walk_unused : (j : ℕ) → ¬ Among w.turns.path j → is_used us j ≡ false
  walk_unused j lacks = ap (λ (u : List Bool). is_used u j) w.turns.is ∙ turned_other w.turns.path (replicate (length arcs) false) j lacks ∙ unused_at (length arcs) j

  pub walk_used : (j : ℕ) → Among w.turns.path j → is_used us j ≡ true
  walk_used j among =
      ap (λ (u : List Bool). is_used u j) w.turns.is
      ∙ turned_at w.turns.path (replicate (length arcs) false) j fresh_first (omega (arith, inside_first j among, length-replicate (length arcs) false)) among
      ∙ ap not (unused_at (length arcs) j)

  pub used_walk : (j : ℕ) → is_used us j ≡ true → Among w.turns.path j
  used_walk j used = elim (decide w.turns.path j) [
    | inl among ↦ among
    | inr lacks ↦ let bad : false ≡ true = sym (walk_unused j lacks) ∙ used in absurd cc
  ]

  pub walk_tight : (i : ℕ) (a : Arc) → IsArc arcs i a → is_used us i ≡ true → IsTight ds a
  walk_tight i a is_arc used =
      let l = lies_first i (used_walk i used) in
      subst (IsTight ds) (one_arc arcs i l.arc a l.is_arc is_arc) ((w.turns.tight i l.arc l.is_arc).0 l.used)

  pub walk_links : (ls' : List Link) × AreAt g.links w.turns.path ls'
  walk_links = links_of g.links w.turns.path (λ j among.
      let l = lies_first j among in
      let of = arc_link g q arcs f.are j l.arc l.is_arc in
      (of.link, of.at_place.at_link))

  pub marked : (i : ℕ) (l : Link) → slice_get g.links i ≡ Some l → (is_used us i ≡ true) ↔ Contains walk_links.0 l
  marked i l at_l = (
    λ used.
        let m = at_among g.links w.turns.path walk_links.0 i walk_links.1 (used_walk i used) in
        subst (Contains walk_links.0) (one_link g.links i m.0 l m.1 at_l) m.2,
    λ has.
        let m = among_at g.links w.turns.path walk_links.0 l walk_links.1 has in
        walk_used i (subst (Among w.turns.path) (one_place g p.order m.0 i l m.2 at_l) m.1),
  )

  pub is_left : Left arcs rs to ds ls us
  is_left = record {
    few = omega (arith, f.long, p.valid.few_nodes);
    long = w.long;
    among = among_ds;
    light = arcs_light g q arcs p.valid f.are;
    first = f.found;
    used_tight = walk_tight;
    residual = w.residual;
    second = w.found;
  }

  pub are_left : AreLeft g q t walk_links.0 arcs rs to ds ls us
  are_left = record {
    valid = p.valid;
    order = p.order;
    are = f.are;
    at_target = p.target.at_place;
    admits = p.target.admitted;
    long = f.long;
    left = is_left;
    marked = marked;
  }

  pub is_walk : IsChosenWalk g q s t walk_links.0
  is_walk =
      let found : AreFound g (uncapped q) arcs ds to t = record {
        valid = p.valid;
        order = p.order;
        are = arcs_up g q arcs f.are;
        at_target = p.target.at_place;
        admits = node_up g q t p.target.admitted;
        long = f.long;
        found = f.found;
        wide = omega arith;
      } in
      record {
        label = made_label (at ds from) t;
        is_label = has_label g (uncapped q) arcs ds to t found from s p.source.at_place w.reached;
        segment = segment g (uncapped q) arcs ds to t found w.turns.marks w.turns.tight w.turns.path from s walk_links.0 p.source.at_place w.reached w.turns.goes walk_links.1;
      }

  straight_along : RunsAlong arcs (replicate (length arcs) false) arcs
  straight_along i a is_arc = record {
    arc = a;
    is_arc = is_arc;
    straight = λ unused. (refl, refl);
    back = λ used. let bad : false ≡ true = sym (unused_at (length arcs) i) ∙ used in absurd cc;
  }

  balanced_first : Balances arcs us (plus (λ n. 0) to) (plus (λ n. 0) from)
  balanced_first =
      subst (λ (u : List Bool). Balances arcs u (plus (λ n. 0) to) (plus (λ n. 0) from)) (sym w.turns.is)
      (path_turned arcs arcs (replicate (length arcs) false) w.turns.marks to straight_along w.turns.path from (replicate (length arcs) false) (λ n. 0) (λ n. 0) w.turns.goes fresh_first
      (λ j among. refl) (length-replicate (length arcs) false)
      (λ n. omega (arith, none_in_use (λ a. a.tail) arcs (replicate (length arcs) false) n (unused_at (length arcs)), none_in_use (λ a. a.head) arcs (replicate (length arcs) false) n (unused_at (length arcs)))))

  -- along the walk, what can be reached stays so
  pub stays_reached : (i : ℕ) (a : Arc) → IsArc arcs i a → is_used us i ≡ true → at ls a.tail < UNREACHED → at ls a.head < UNREACHED
  stays_reached i a is_arc used reached =
      let tight = walk_tight i a is_arc used in
      let r = residual_arc ds (is_used us i) a in
      let is_r : IsArc rs i r = stays arcs rs to ds ls us is_left i a is_arc (omega (arith, tight.sum, tight.reached)) in
      let b = left arcs rs to ds ls us is_left i r is_r in
      let same : b.arc ≡ a = one_arc arcs i b.arc a b.is_arc is_arc in
      let ends = back_ends arcs rs to ds ls us is_left i r is_r used in
      let head : at ls r.head < UNREACHED = omega (arith, reached, ap (at ls) ends.1, ap (λ (c : Arc). at ls c.tail) same) in
      omega (arith, back_reached arcs rs to ds ls us is_left i r is_r head, ap (at ls) ends.0, ap (λ (c : Arc). at ls c.head) same)

  pub later_reached : (is : List ℕ) (u : ℕ) → Goes arcs w.turns.marks u is to → ((j : ℕ) → Among is j → is_used us j ≡ true) → at ls u < UNREACHED →
      (j : ℕ) (a : Arc) → Among is j → IsArc arcs j a → at ls a.tail < UNREACHED
  later_reached [] u goes used reached j a among is_arc = absurd among
  later_reached (i ∷ is) u goes used reached j a (inl same) is_arc =
      let step = goes.2 in
      let one : step.arc ≡ a = one_arc arcs i step.arc a step.is_arc (subst (λ k. IsArc arcs k a) (sym same) is_arc) in
      omega (arith, reached, ap (at ls) step.tail, ap (λ (c : Arc). at ls c.tail) one)
  later_reached (i ∷ is) u goes used reached j a (inr among) is_arc =
      let step = goes.2 in
      let next : at ls goes.1 < UNREACHED = omega (arith, stays_reached i step.arc step.is_arc (used i (inl refl)) (omega (arith, reached, ap (at ls) step.tail)), ap (at ls) step.same_head) in
      later_reached is goes.1 goes.3 (λ k m. used k (inr m)) next j a among is_arc

  -- ---- the second one

  module _ (both : List Bool) (hs : List ℕ) (u : IsTurned from to ds us rs ls both hs) where
    falling_second : Falling rs u.turns.marks ls
    falling_second = tight_falls rs ls u.turns.marks (left_among arcs rs to ds ls us is_left) u.turns.tight

    fresh_second : Fresh u.turns.path
    fresh_second = fresh rs u.turns.marks ls to falling_second u.turns.path from u.turns.goes

    pub lies_second : (j : ℕ) → Among u.turns.path j → Lies rs u.turns.marks ls from j
    lies_second j among = lies rs u.turns.marks ls to falling_second u.turns.path from j u.turns.goes among

    pub long_both : length both ≡ length arcs
    long_both = ap length u.turns.is ∙ length_turned u.turns.path us ∙ long_us

    pub both_other : (j : ℕ) → ¬ Among u.turns.path j → is_used both j ≡ is_used us j
    both_other j lacks = ap (λ (v : List Bool). is_used v j) u.turns.is ∙ turned_other u.turns.path us j lacks

    pub both_at : (j : ℕ) → Among u.turns.path j → is_used both j ≡ not (is_used us j)
    both_at j among =
        let l = lies_second j among in
        let b = left arcs rs to ds ls us is_left j l.arc l.is_arc in
        ap (λ (v : List Bool). is_used v j) u.turns.is
        ∙ turned_at u.turns.path us j fresh_second (omega (arith, arc_within arcs j b.arc b.is_arc, long_us)) among

    balanced : Balances arcs both (plus (plus (λ n. 0) to) to) (plus (plus (λ n. 0) from) from)
    balanced =
        subst (λ (v : List Bool). Balances arcs v (plus (plus (λ n. 0) to) to) (plus (plus (λ n. 0) from) from)) (sym u.turns.is)
        (path_turned arcs rs us u.turns.marks to (runs_along arcs rs to ds ls us is_left) u.turns.path from us (plus (λ n. 0) to) (plus (λ n. 0) from) u.turns.goes fresh_second
        (λ j among. refl) long_us balanced_first)

    ends_at : (i : ℕ) (r : Arc) → IsArc rs i r → at ls r.head < UNREACHED → IsReached ds ls hs r.tail × IsReached ds ls hs r.head
    ends_at i r is_r reached =
        let good = left_among arcs rs to ds ls us is_left i r is_r in (
          reached_at arcs rs to ds ls us is_left hs u.heights r.tail (omega (arith, good.tail, w.long)) (back_reached arcs rs to ds ls us is_left i r is_r reached),
          reached_at arcs rs to ds ls us is_left hs u.heights r.head (omega (arith, good.head, w.long)) reached,
        )

    -- over an arc in use the height falls by at least its weight
    pub record Drops (a : Arc) : Type 0 where
      pub by : at hs a.head + a.weight ≤ at hs a.tail
      pub tail : at ls a.tail < UNREACHED
      pub head : at ls a.head < UNREACHED

    keeps : (i : ℕ) (a : Arc) → IsArc arcs i a → is_used us i ≡ true → Drops a
    keeps i a is_arc used =
        let tight = walk_tight i a is_arc used in
        let r = residual_arc ds (is_used us i) a in
        let is_r : IsArc rs i r = stays arcs rs to ds ls us is_left i a is_arc (omega (arith, tight.sum, tight.reached)) in
        let b = left arcs rs to ds ls us is_left i r is_r in
        let same : b.arc ≡ a = one_arc arcs i b.arc a b.is_arc is_arc in
        let ends = back_ends arcs rs to ds ls us is_left i r is_r used in
        let tail : at ls a.tail < UNREACHED = later_reached w.turns.path from w.turns.goes walk_used u.reached i a (used_walk i used) is_arc in
        let head : at ls r.head < UNREACHED = omega (arith, tail, ap (at ls) ends.1, ap (λ (c : Arc). at ls c.tail) same) in
        let xy = ends_at i r is_r head in
        let low = back_low arcs rs to ds ls us is_left hs u.heights i r is_r xy.0 xy.1 used in
        record {
          by = omega (arith, low.0, ap (at hs) ends.0, ap (at hs) ends.1, ap (λ (c : Arc). at hs c.tail) same, ap (λ (c : Arc). at hs c.head) same, ap (λ (c : Arc). c.weight) same);
          tail = tail;
          head = stays_reached i a is_arc used tail;
        }

    takes : (i : ℕ) (a : Arc) → IsArc arcs i a → is_used us i ≡ false → Among u.turns.path i → Drops a
    takes i a is_arc unused among =
        let l = lies_second i among in
        let r = l.arc in
        let t' : IsTight ls r = (u.turns.tight i r l.is_arc).0 l.used in
        let b = left arcs rs to ds ls us is_left i r l.is_arc in
        let same : b.arc ≡ a = one_arc arcs i b.arc a b.is_arc is_arc in
        let ends = straight_ends arcs rs to ds ls us is_left i r l.is_arc unused in
        let head : at ls r.head < UNREACHED = omega (arith, t'.sum, t'.reached) in
        let xy = ends_at i r l.is_arc head in
        let low = straight_tight arcs rs to ds ls us is_left hs u.heights i r l.is_arc xy.0 xy.1 unused t' in
        record {
          by = omega (arith, low.0, ap (at hs) ends.0, ap (at hs) ends.1, ap (λ (c : Arc). at hs c.tail) same, ap (λ (c : Arc). at hs c.head) same, ap (λ (c : Arc). c.weight) same);
          tail = omega (arith, t'.reached, ap (at ls) ends.0, ap (λ (c : Arc). at ls c.tail) same);
          head = omega (arith, head, ap (at ls) ends.1, ap (λ (c : Arc). at ls c.head) same);
        }

    pub drops : (i : ℕ) (a : Arc) → IsArc arcs i a → is_used both i ≡ true → Drops a
    drops i a is_arc used = go (is_used us i) refl
      where
        go : (b : Bool) → is_used us i ≡ b → Drops a
        go true is = keeps i a is_arc is
        go false is = elim (decide u.turns.path i) [
          | inl among ↦ takes i a is_arc is among
          | inr lacks ↦ let bad : false ≡ true = sym is ∙ sym (both_other i lacks) ∙ used in absurd cc
        ]

    -- and over another, by at most
    pub record Climbs (a : Arc) : Type 0 where
      pub by : at hs a.tail ≤ a.weight + at hs a.head
      pub tail : at ls a.tail < UNREACHED

    pub climbs : (i : ℕ) (a : Arc) → IsArc arcs i a → is_used both i ≡ false → at ls a.head < UNREACHED → Climbs a
    climbs i a is_arc unused reached = go (is_used us i) refl
      where
        go : (b : Bool) → is_used us i ≡ b → Climbs a
        go false is =
            let near : at ds a.head < UNREACHED = first_reached arcs rs to ds ls us is_left a.head reached in
            let r = residual_arc ds (is_used us i) a in
            let is_r : IsArc rs i r = stays arcs rs to ds ls us is_left i a is_arc near in
            let b = left arcs rs to ds ls us is_left i r is_r in
            let same : b.arc ≡ a = one_arc arcs i b.arc a b.is_arc is_arc in
            let ends = straight_ends arcs rs to ds ls us is_left i r is_r is in
            let head : at ls r.head < UNREACHED = omega (arith, reached, ap (at ls) ends.1, ap (λ (c : Arc). at ls c.head) same) in
            let xy = ends_at i r is_r head in
            let low = straight_low arcs rs to ds ls us is_left hs u.heights i r is_r xy.0 xy.1 is in
            record {
              by = omega (arith, low.0, ap (at hs) ends.0, ap (at hs) ends.1, ap (λ (c : Arc). at hs c.tail) same, ap (λ (c : Arc). at hs c.head) same, ap (λ (c : Arc). c.weight) same);
              tail = omega (arith, back_reached arcs rs to ds ls us is_left i r is_r head, ap (at ls) ends.0, ap (λ (c : Arc). at ls c.tail) same);
            }
        go true is = elim (decide u.turns.path i) [
          | inl among ↦
              let l = lies_second i among in
              let r = l.arc in
              let t' : IsTight ls r = (u.turns.tight i r l.is_arc).0 l.used in
              let b = left arcs rs to ds ls us is_left i r l.is_arc in
              let same : b.arc ≡ a = one_arc arcs i b.arc a b.is_arc is_arc in
              let ends = back_ends arcs rs to ds ls us is_left i r l.is_arc is in
              let head : at ls r.head < UNREACHED = omega (arith, t'.sum, t'.reached) in
              let xy = ends_at i r l.is_arc head in
              let low = back_tight arcs rs to ds ls us is_left hs u.heights i r l.is_arc xy.0 xy.1 is t' in
              record {
                by = omega (arith, low.0, ap (at hs) ends.0, ap (at hs) ends.1, ap (λ (c : Arc). at hs c.tail) same, ap (λ (c : Arc). at hs c.head) same, ap (λ (c : Arc). c.weight) same);
                tail = omega (arith, head, ap (at ls) ends.1, ap (λ (c : Arc). at ls c.tail) same);
              }
          | inr lacks ↦ let bad : true ≡ false = sym is ∙ sym (both_other i lacks) ∙ unused in absurd cc
        ]

    -- ---- the arcs in use make two paths

    pub falling_both : Falling arcs both hs
    falling_both i a is_arc used = let d = drops i a is_arc used in omega (arith, d.by, (among_ds i a is_arc).heavy)

    pub taken_other : (path : List ℕ) (j : ℕ) → ¬ Among path j → is_used (turned both path) j ≡ is_used both j
    taken_other path j lacks = turned_other path both j lacks

    pub fresh_path : (path : List ℕ) → Goes arcs both from path to → Fresh path
    fresh_path path goes = fresh arcs both hs to falling_both path from goes

    pub lies_path : (path : List ℕ) → Goes arcs both from path to → (j : ℕ) → Among path j → Lies arcs both hs from j
    lies_path path goes j among = lies arcs both hs to falling_both path from j goes among

    pub taken_at : (path : List ℕ) → Goes arcs both from path to → (j : ℕ) → Among path j → is_used (turned both path) j ≡ false
    taken_at path goes j among =
        let l = lies_path path goes j among in
        turned_at path both j (fresh_path path goes) (omega (arith, arc_within arcs j l.arc l.is_arc, long_both)) among ∙ ap not l.used

    pub taken_used : (path : List ℕ) → Goes arcs both from path to → (j : ℕ) → is_used (turned both path) j ≡ true → (is_used both j ≡ true) × (¬ Among path j)
    taken_used path goes j used = elim (decide path j) [
      | inl among ↦ let bad : false ≡ true = sym (taken_at path goes j among) ∙ used in absurd cc
      | inr lacks ↦ (sym (taken_other path j lacks) ∙ used, lacks)
    ]

    pub falling_taken : (path : List ℕ) → Goes arcs both from path to → Falling arcs (turned both path) hs
    falling_taken path goes i a is_arc used = falling_both i a is_arc (taken_used path goes i used).0

    balanced_taken : (path : List ℕ) → Goes arcs both from path to → Balances arcs (turned both path) (plus (plus (plus (λ n. 0) to) to) from) (plus (plus (plus (λ n. 0) from) from) to)
    balanced_taken path goes =
        path_taken arcs both to path from both (plus (plus (λ n. 0) to) to) (plus (plus (λ n. 0) from) from) goes (fresh_path path goes) (λ j among. refl) long_both balanced

    pub make_paths : MakePaths arcs from to both hs
    make_paths = record {
      leads = leads_on arcs both from to (λ n other. omega (arith, balanced n, one_other to n (λ same. other (sym same))));
      falling = falling_both;
      leads_again = λ path goes. leads_on arcs (turned both path) from to (λ n other. omega (arith, balanced_taken path goes n, one_other to n (λ same. other (sym same))));
      falling_again = falling_taken;
    }

    -- and no other
    pub all_taken : (one other : List ℕ) → Goes arcs both from one to → Goes arcs (turned both one) from other to → (i : ℕ) (a : Arc) → IsArc arcs i a → is_used both i ≡ true → Among one i ⊎ Among other i
    all_taken one other goes_one goes_other i a is_arc used =
        let mid : List Bool = turned both one in
        let fresh' = fresh arcs mid hs to (falling_taken one goes_one) other from goes_other in
        let long_mid : length mid ≡ length arcs = length_turned one both ∙ long_both in
        let even = path_taken arcs mid to other from mid (plus (plus (plus (λ n. 0) to) to) from) (plus (plus (plus (λ n. 0) from) from) to) goes_other fresh' (λ j among. refl) long_mid (balanced_taken one goes_one) in
        elim (decide one i) [
          | inl among ↦ inl among
          | inr lacks ↦ elim (decide other i) [
            | inl among ↦ inr among
            | inr lacks' ↦
                let left' : is_used (turned mid other) i ≡ true = turned_other other mid i lacks' ∙ taken_other one i lacks ∙ used in
                let falling_end : Falling arcs (turned mid other) hs = λ j b is_b in_use.
                falling_taken one goes_one j b is_b (elim (decide other j) [
                  | inl among ↦
                      let l = lies arcs mid hs to (falling_taken one goes_one) other from j goes_other among in
                      l.used
                  | inr apart ↦ sym (turned_other other mid j apart) ∙ in_use
                ]) in
                absurd (none_left arcs (turned mid other) hs falling_end (λ n. omega (arith, even n)) (suc (at hs a.tail)) i a (omega arith) is_arc left')
          ]
        ]
