-- The nodes without a distance make a cut that at most one link leaves.
use Rattle.std.proofs.Common.{◌≡◌, ◌≢◌, inl, inr, ℕ, ◌<◌, Bool, true, false, List, [], ◌∷◌, length, arith, refl, sym, ◌∙◌, ap, subst}
use Rattle.std.specs.Prelude.{AllPairs}
use Rattle.std.specs.declared.option.Option.{Option}
use Rattle.dom_base.specs.AddrOrder.{rank}
use Rattle.dom_base.specs.declared.addr.Addr.{Addr}
use Rattle.dom_base.specs.declared.query.Query.{Query}
use Rattle.te_links.specs.Rows.{Rows}
use Rattle.walk_laws.specs.Walks.{AdmitsNode}
use Rattle.path_search.proofs.Places.{same_place}
use Rattle.diverse_pairs.specs.declared.arcs.Arc.{Arc}
use Rattle.diverse_pairs.specs.declared.arcs.TheConstants.{UNREACHED}
use Rattle.diverse_pairs.specs.declared.certificate.PairForm.{PairForm}
use Rattle.diverse_pairs.specs.declared.certificate.PairForm.TheVariants.{Paths, Cut}
use Rattle.diverse_pairs.specs.Arcs.{IsArc, at, is_used, IsAmong}
use Rattle.diverse_pairs.specs.Paths.{Goes}
use Rattle.diverse_pairs.specs.Residual.{residual_arc}
use Rattle.diverse_pairs.specs.Conditions.{Asked, asked_of, HasEnds, EndsHold, Leaves, IsOnlyToLeave}
use Rattle.diverse_pairs.specs.Shown.{AreCutOff}
use Rattle.diverse_pairs.specs.Solution.{IsSolved}
use Rattle.diverse_pairs.specs.Solving.{IsPlaced, IsSearched, IsWalked, IsCutForm}
use Rattle.diverse_pairs.proofs.Cutting.{no_pair}
use Rattle.diverse_pairs.proofs.Judging.{cut_holds}
use Rattle.diverse_pairs.proofs.Lowering.{one_arc}
use Rattle.diverse_pairs.proofs.Flow.{Among}
use Rattle.diverse_pairs.proofs.Beside.{near, left, stays, first_reached, back_reached, straight_ends}
use Rattle.diverse_pairs.proofs.Linked.{admitted_arc, arcs_among, arcs_light}
use Rattle.diverse_pairs.proofs.Places.{one_far}
use Rattle.diverse_pairs.proofs.Walked.{is_left, used_walk, walk_used, later_reached}

pub cut_solved : (a : Asked) (nodes : List Addr) → AllPairs (λ x y. rank x < rank y) nodes → EndsHold a nodes →
    (HasEnds a → (i : ℕ) → IsOnlyToLeave a.topology a.query nodes i) → IsSolved a (Cut nodes)
cut_solved a nodes rising ends only = record { holds = cut_holds a nodes ends only; answer = no_pair a nodes ends only; rising = tt; least = tt; told = rising; short = tt }

-- an end that isn't admitted
pub no_source : (g : Rows) (q : Query) (s t : Addr) → (AdmitsNode g q s → ⊥) → IsSolved (asked_of g q s t) (Cut [])
no_source g q s t none = cut_solved (asked_of g q s t) [] (λ i j d before below. absurd (omega arith)) (inl (λ both. none both.0)) (λ both. absurd (none both.0))

pub no_target : (g : Rows) (q : Query) (s t : Addr) → (AdmitsNode g q t → ⊥) → IsSolved (asked_of g q s t) (Cut [])
no_target g q s t none = cut_solved (asked_of g q s t) [] (λ i j d before below. absurd (omega arith)) (inl (λ both. none both.1)) (λ both. absurd (none both.1))

-- the source has no distance, and the target has one
parted : (g : Rows) (q : Query) (s t : Addr) (from to : ℕ) (ds : List ℕ) (nodes : List Addr) → IsPlaced g q s t from to → AreCutOff g ds nodes → at ds from ≡ UNREACHED → at ds to ≡ 0 → EndsHold (asked_of g q s t) nodes
parted g q s t from to ds nodes p cut far zero_there = inr (
  cut.whole from s (record { at_place = p.source.at_place; lacks = far }),
  λ has.
      let c = cut.sound t has in
      let here : c.0 ≡ to = same_place g.nodes p.valid.nodes_differ c.0 to t c.1.at_place p.target.at_place in
      omega (arith, c.1.lacks, zero_there, ap (at ds) here),
)

-- a link that leaves, by the distances at its ends
record Crosses (g : Rows) (q : Query) (arcs : List (Option Arc)) (ds : List ℕ) (i : ℕ) : Type 0 where
  arc : Arc
  is_arc : IsArc arcs i arc
  tail : at ds arc.tail ≡ UNREACHED
  head : at ds arc.head ≢ UNREACHED

crosses : (g : Rows) (q : Query) (s t : Addr) (from to : ℕ) (arcs : List (Option Arc)) (ds es : List ℕ) (nodes : List Addr) → IsPlaced g q s t from to → IsSearched g q to arcs ds → AreCutOff g es nodes →
    (i : ℕ) → Leaves g q nodes i → Crosses g q arcs es i
crosses g q s t from to arcs ds es nodes p f cut i leaves =
    let l = leaves.link in
    let h = admitted_arc g q arcs f.are l leaves.admitted in
    let here : h.place ≡ i = one_far g p.order h.place i l l h.at_link leaves.at_link refl in
    let c = cut.sound l.from leaves.inside in
    let tail_is : c.0 ≡ h.arc.tail = same_place g.nodes p.valid.nodes_differ c.0 h.arc.tail l.from c.1.at_place h.tail in
    record {
      arc = h.arc;
      is_arc = subst (λ k. IsArc arcs k h.arc) here h.is_arc;
      tail = ap (at es) (sym tail_is) ∙ c.1.lacks;
      head = λ far. leaves.outside (cut.whole h.arc.head l.to (record { at_place = h.head; lacks = far }));
    }

-- where no path leads from the source, no link leaves
pub first_cut : (g : Rows) (q : Query) (s t : Addr) (from to : ℕ) (arcs : List (Option Arc)) (ds : List ℕ) (form : PairForm) → IsPlaced g q s t from to → IsSearched g q to arcs ds → at ds from ≡ UNREACHED →
    IsCutForm g ds form → IsSolved (asked_of g q s t) form
first_cut g q s t from to arcs ds (Paths rows first second) p f far cut = absurd cut
first_cut g q s t from to arcs ds (Cut nodes) p f far cut =
    cut_solved (asked_of g q s t) nodes cut.rising (parted g q s t from to ds nodes p cut far f.found.made.at_target) (λ both i j before earlier here.
    let c = crosses g q s t from to arcs ds ds nodes p f cut i here in
    let low = f.found.low i c.arc c.is_arc in
    let among : (k : ℕ) (b : Arc) → IsArc arcs k b → IsAmong (length ds) b =
    λ k b is_b. subst (λ n. IsAmong n b) (sym f.long) (arcs_among g q arcs p.valid f.are k b is_b) in
    let light = arcs_light g q arcs p.valid f.are in
    let reached : at ds c.arc.head < UNREACHED = omega (arith, f.found.made.within c.arc.head, c.head) in
    let close = near arcs to ds f.found among light (omega (arith, f.long, p.valid.few_nodes)) c.arc.head reached in
    omega (arith, low, close, light i c.arc c.is_arc, c.tail))

module _ (g : Rows) (q : Query) (s t : Addr) (from to : ℕ) (arcs : List (Option Arc)) (ds : List ℕ) (us : List Bool) (rs : List (Option Arc)) (ls : List ℕ)
    (p : IsPlaced g q s t from to) (f : IsSearched g q to arcs ds) (w : IsWalked from to arcs ds us rs ls) where
  reached_of : (n : ℕ) → at ls n ≢ UNREACHED → at ls n < UNREACHED
  reached_of n has = omega (arith, w.found.made.within n, has)

  -- a link that leaves is one of the first walk
  in_walk : (i : ℕ) (c : Crosses g q arcs ls i) → is_used us i ≡ true
  in_walk i c = go (is_used us i) refl
    where
      go : (b : Bool) → is_used us i ≡ b → is_used us i ≡ true
      go true is = is
      go false is =
          let left' = is_left g q s t from to arcs ds us rs ls p f w in
          let head = reached_of c.arc.head c.head in
          let r = residual_arc ds (is_used us i) c.arc in
          let is_r : IsArc rs i r = stays arcs rs to ds ls us left' i c.arc c.is_arc (first_reached arcs rs to ds ls us left' c.arc.head head) in
          let b = left arcs rs to ds ls us left' i r is_r in
          let same : b.arc ≡ c.arc = one_arc arcs i b.arc c.arc b.is_arc c.is_arc in
          let ends = straight_ends arcs rs to ds ls us left' i r is_r is in
          let r_head : at ls r.head < UNREACHED = omega (arith, head, ap (at ls) ends.1, ap (λ (x : Arc). at ls x.head) same) in
          absurd (omega (arith, back_reached arcs rs to ds ls us left' i r is_r r_head, c.tail, ap (at ls) ends.0, ap (λ (x : Arc). at ls x.tail) same))

  -- behind it, all can be reached
  after : (k : ℕ) (is : List ℕ) (v : ℕ) → Goes arcs w.turns.marks v (k ∷ is) to → ((j : ℕ) → Among (k ∷ is) j → is_used us j ≡ true) → (j : ℕ) → Crosses g q arcs ls k → (b : Arc) → Among is j → IsArc arcs j b → at ls b.tail < UNREACHED
  after k is v goes used j c b among is_b =
      let step = goes.2 in
      let one : step.arc ≡ c.arc = one_arc arcs k step.arc c.arc step.is_arc c.is_arc in
      let next : at ls goes.1 < UNREACHED = omega (arith, reached_of c.arc.head c.head, ap (at ls) step.same_head, ap (λ (x : Arc). at ls x.head) one) in
      later_reached g q s t from to arcs ds us rs ls p f w is goes.1 goes.3 (λ m in_m. used m (inr in_m)) next j b among is_b

  -- and only one of it does
  only_one : (is : List ℕ) (v : ℕ) → Goes arcs w.turns.marks v is to → ((j : ℕ) → Among is j → is_used us j ≡ true) → (i j : ℕ) → Among is i → Among is j → Crosses g q arcs ls i → Crosses g q arcs ls j → i ≡ j
  only_one [] v goes used i j in_i in_j ci cj = absurd in_i
  only_one (k ∷ is) v goes used i j (inl at_i) (inl at_j) ci cj = sym at_i ∙ at_j
  only_one (k ∷ is) v goes used i j (inl at_i) (inr in_j) ci cj = absurd (omega (arith, after k is v goes used j (subst (Crosses g q arcs ls) (sym at_i) ci) cj.arc in_j cj.is_arc, cj.tail))
  only_one (k ∷ is) v goes used i j (inr in_i) (inl at_j) ci cj = absurd (omega (arith, after k is v goes used i (subst (Crosses g q arcs ls) (sym at_j) cj) ci.arc in_i ci.is_arc, ci.tail))
  only_one (k ∷ is) v goes used i j (inr in_i) (inr in_j) ci cj = only_one is goes.1 goes.3 (λ m among. used m (inr among)) i j in_i in_j ci cj

  -- where no second one leads from the source, at most one link leaves
  pub second_cut : (form : PairForm) → at ls from ≡ UNREACHED → IsCutForm g ls form → IsSolved (asked_of g q s t) form
  second_cut (Paths rows first second) far cut = absurd cut
  second_cut (Cut nodes) far cut =
      cut_solved (asked_of g q s t) nodes cut.rising (parted g q s t from to ls nodes p cut far w.found.made.at_target) (λ both i j before earlier here.
      let ci = crosses g q s t from to arcs ds ls nodes p f cut i here in
      let cj = crosses g q s t from to arcs ds ls nodes p f cut j earlier in
      let in_i = used_walk g q s t from to arcs ds us rs ls p f w i (in_walk i ci) in
      let in_j = used_walk g q s t from to arcs ds us rs ls p f w j (in_walk j cj) in
      omega (arith, before, only_one w.turns.path from w.turns.goes (walk_used g q s t from to arcs ds us rs ls p f w) i j in_i in_j ci cj))
