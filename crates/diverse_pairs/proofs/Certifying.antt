-- The two paths with the potentials meet the conditions of a certificate.
use Rattle.std.proofs.Common.{◌≡◌, ◌≢◌, inl, inr, ℕ, ◌-◌, ◌<◌, ◌≤◌, Bool, true, false, List, [], ◌∷◌, ◌++◌, length, get_or, take, map, arith, refl, sym, ◌∙◌, ap, subst, Some}
use Rattle.std.specs.Prelude.{AllPairs, Contains, slice_get, slice_index_or}
use Rattle.std.specs.declared.option.Option.{Option}
use Rattle.std.proofs.lemmas.Bool.{cases_lt}
use Rattle.std.proofs.lemmas.List.{take_all, get_or_default, length-map}
use Rattle.std.proofs.lemmas.List.Elements.{Contains-append_cases, Contains-append_left, Contains-append_right}
use Rattle.std.proofs.lemmas.Option.{slice_get_within, slice_get-get_or}
use Rattle.dom_base.specs.AddrOrder.{rank}
use Rattle.dom_base.proofs.Ranks.{same_addr}
use Rattle.dom_base.specs.declared.addr.Addr.{Addr}
use Rattle.dom_base.specs.declared.link.Link.{Link as TeLink}
use Rattle.dom_base.specs.declared.query.Query.{Query}
use Rattle.te_links.specs.Rows.{Rows, IsTopology}
use Rattle.path_search.specs.Segments.{AreAt}
use Rattle.path_search.proofs.Places.{same_place}
use Rattle.path_search.proofs.OpenForm.{same_length}
use Rattle.diverse_pairs.specs.declared.arcs.Arc.{Arc}
use Rattle.diverse_pairs.specs.declared.arcs.TheConstants.{UNREACHED}
use Rattle.diverse_pairs.specs.declared.certificate.PairForm.TheVariants.{Paths, Cut}
use Rattle.diverse_pairs.specs.declared.certificate.PairForm.{PairForm}
use Rattle.diverse_pairs.specs.Arcs.{IsArc, at, is_used, IsAmong, AreAmong}
use Rattle.diverse_pairs.specs.Paths.{turned}
use Rattle.diverse_pairs.specs.Potentials.{potential_in}
use Rattle.diverse_pairs.specs.Conditions.{asked_of, LeadsAlong, Traces, ListHolds, PathHolds, LinkHoldsAt, LinkHolds, fars_of}
use Rattle.diverse_pairs.specs.Pairs.{IsPair, IsLeastPair}
use Rattle.diverse_pairs.specs.Shown.{ArePotentials}
use Rattle.diverse_pairs.specs.Solution.{IsSolved}
use Rattle.diverse_pairs.specs.Solving.{IsPlaced, IsSearched, IsWalked, IsTurned, ArePaths, ArePathsIn}
use Rattle.diverse_pairs.proofs.Best.{link_of, far_among, least_pair}
use Rattle.diverse_pairs.proofs.Counting.{both_hold}
use Rattle.diverse_pairs.proofs.Flow.{Among, Fresh, fresh, lies}
use Rattle.diverse_pairs.proofs.Beside.{is_near, first_reached, reached_at, far_height}
use Rattle.diverse_pairs.proofs.Judging.{paths_hold, links_differ}
use Rattle.diverse_pairs.proofs.Linked.{admitted_arc, one_link, at_among, among_at}
use Rattle.diverse_pairs.proofs.Shortness.{path_few}
use Rattle.diverse_pairs.proofs.Places.{one_far, fars_differ, at_append, fresh_append}
use Rattle.dom_base.proofs.Said.{said_present, said_absent}
use Rattle.diverse_pairs.proofs.Tracing.{ended, front_differs}
use Rattle.diverse_pairs.proofs.Walked.{is_left, among_ds, drops, climbs, falling_both, falling_taken, fresh_path, lies_path, taken_used, all_taken}
use Rattle.diverse_pairs.proofs.InUse.{leads, walked, path_links, chosen_pair}

-- a list of the source and of far addresses that lead on, each new, holds
pub list_holds : (g : Rows) (q : Query) (used : List Addr) (s t : Addr) (fars : List Addr) → AllPairs (λ a b. a ≢ b) (used ++ fars) → LeadsAlong g q s fars t → (k : ℕ) → ListHolds g q used s t (s ∷ fars) k
list_holds g q used s t fars new leads' k =
    let full : fars ≡ take (length fars) fars = sym (take_all (length fars) fars (omega arith)) in
    let traces : Traces g q used s (take (length fars) fars) t = record {
      leads = subst (λ xs. LeadsAlong g q s xs t) full leads';
      new = subst (λ xs. AllPairs (λ a b. a ≢ b) (used ++ xs)) full new;
    } in
    (refl, ended g q used s t fars (length fars) t (omega arith) traces refl k)

map_append : (ls ms : List TeLink) → map (λ (l : TeLink). l.far) (ls ++ ms) ≡ map (λ (l : TeLink). l.far) ls ++ map (λ (l : TeLink). l.far) ms
map_append [] ms = refl
map_append (l ∷ ls) ms = ap (λ xs. l.far ∷ xs) (map_append ls ms)

-- the potential of a node
pub record IsPotential (g : Rows) (heights : List ℕ) (top : ℕ) (rows : List (Addr × ℕ)) (i : ℕ) (n : Addr) : Type 0 where
  pub high : at heights i < UNREACHED → potential_in rows n ≡ top - at heights i
  pub none : at heights i ≡ UNREACHED → potential_in rows n ≡ 0

pub potential_is : (g : Rows) (heights : List ℕ) (top : ℕ) (rows : List (Addr × ℕ)) (i : ℕ) (n : Addr) → IsTopology g → ArePotentials g heights top rows → slice_get g.nodes i ≡ Some n → IsPotential g heights top rows i n
potential_is g heights top rows i n valid are at_i = record {
  high = λ reached.
      let row : Addr × ℕ = (n, top - at heights i) in
      let has = are.whole i n (record { at_place = at_i; reached = reached }) in
      said_present 0 rows n has.0 row are.rising has.1 (ap (λ (r : Addr × ℕ). rank r.0) has.2) ∙ ap (λ (r : Addr × ℕ). r.1) has.2;
  none = λ far. said_absent 0 rows n (λ k d below same.
      let r = slice_index_or rows k d in
      let stands = are.sound r.0 r.1 (k, below, get_or_default rows k r d below) in
      let node : r.0 ≡ n = same_addr r.0 n same in
      let here : stands.0 ≡ i = same_place g.nodes valid.nodes_differ stands.0 i n (stands.1.at_place ∙ ap (λ (a : Addr). Some a) node) at_i in
      omega (arith, stands.1.reached, far, ap (at heights) here));
}

module _ (g : Rows) (q : Query) (s t : Addr) (from to : ℕ) (arcs : List (Option Arc)) (ds : List ℕ) (us : List Bool) (rs : List (Option Arc)) (ls : List ℕ)
    (p : IsPlaced g q s t from to) (f : IsSearched g q to arcs ds) (w : IsWalked from to arcs ds us rs ls) (both : List Bool) (hs : List ℕ) (u : IsTurned from to ds us rs ls both hs)
    (rows : List (Addr × ℕ)) (first second : List Addr) (a : ArePaths g s arcs from to both hs rows first second) where
  one_links : (ms : List TeLink) × AreAt g.links a.one ms
  one_links = path_links g q s t from to arcs ds us rs ls p f w both hs u both a.one from a.goes_one

  other_links : (ms : List TeLink) × AreAt g.links a.other ms
  other_links = path_links g q s t from to arcs ds us rs ls p f w both hs u (turned both a.one) a.other from a.goes_other

  fresh_both : Fresh (a.one ++ a.other)
  fresh_both =
      fresh_append a.one a.other (fresh_path g q s t from to arcs ds us rs ls p f w both hs u a.one a.goes_one)
      (fresh arcs (turned both a.one) hs to (falling_taken g q s t from to arcs ds us rs ls p f w both hs u a.one a.goes_one) a.other from a.goes_other)
      (λ k left right.
      let l = lies arcs (turned both a.one) hs to (falling_taken g q s t from to arcs ds us rs ls p f w both hs u a.one a.goes_one) a.other from k a.goes_other right in
      (taken_used g q s t from to arcs ds us rs ls p f w both hs u a.one a.goes_one k l.used).1 left)

  differ : AllPairs (λ x y. x ≢ y) (map (λ (l : TeLink). l.far) one_links.0 ++ map (λ (l : TeLink). l.far) other_links.0)
  differ =
      subst (AllPairs (λ x y. x ≢ y)) (map_append one_links.0 other_links.0)
      (fars_differ g (a.one ++ a.other) (one_links.0 ++ other_links.0) p.order (at_append g.links a.one a.other one_links.0 other_links.0 one_links.1 other_links.1) fresh_both)

  first_is : first ≡ s ∷ map (λ (l : TeLink). l.far) one_links.0
  first_is = a.shows_one one_links.0 one_links.1

  second_is : second ≡ s ∷ map (λ (l : TeLink). l.far) other_links.0
  second_is = a.shows_other other_links.0 other_links.1

  first_fars : fars_of first ≡ map (λ (l : TeLink). l.far) one_links.0
  first_fars = ap (λ (xs : List Addr). fars_of xs) first_is

  second_fars : fars_of second ≡ map (λ (l : TeLink). l.far) other_links.0
  second_fars = ap (λ (xs : List Addr). fars_of xs) second_is

  pub paths : (k : ℕ) → PathHolds g q s t first second k
  paths k =
      both_hold g q s t first second
      (λ j. subst (λ xs. ListHolds g q [] s t xs j) (sym first_is)
      (list_holds g q [] s t (map (λ (l : TeLink). l.far) one_links.0) (front_differs (map (λ (l : TeLink). l.far) one_links.0) (map (λ (l : TeLink). l.far) other_links.0) differ)
      (leads g q s t from to arcs ds us rs ls p f w both hs u both a.one from s one_links.0 p.source.at_place a.goes_one one_links.1) j))
      (λ j. subst (λ xs. ListHolds g q xs s t second j) (sym first_fars)
      (subst (λ xs. ListHolds g q (map (λ (l : TeLink). l.far) one_links.0) s t xs j) (sym second_is)
      (list_holds g q (map (λ (l : TeLink). l.far) one_links.0) s t (map (λ (l : TeLink). l.far) other_links.0) differ
      (leads g q s t from to arcs ds us rs ls p f w both hs u (turned both a.one) a.other from s other_links.0 p.source.at_place a.goes_other other_links.1) j)))
      k

  -- a far address is used where its arc is in use
  used_far : (i : ℕ) (l : TeLink) → slice_get g.links i ≡ Some l → Contains (fars_of first ++ fars_of second) l.far → is_used both i ≡ true
  used_far i l at_l has = elim (Contains-append_cases (fars_of first) (fars_of second) l.far has) [
    | inl in_first ↦
        let m = link_of l.far one_links.0 (subst (λ xs. Contains xs l.far) first_fars in_first) in
        let j = among_at g.links a.one one_links.0 m.0 one_links.1 m.1 in
        let here : j.0 ≡ i = one_far g p.order j.0 i m.0 l j.2 at_l (ap rank m.2) in
        (lies_path g q s t from to arcs ds us rs ls p f w both hs u a.one a.goes_one i (subst (Among a.one) here j.1)).used
    | inr in_second ↦
        let m = link_of l.far other_links.0 (subst (λ xs. Contains xs l.far) second_fars in_second) in
        let j = among_at g.links a.other other_links.0 m.0 other_links.1 m.1 in
        let here : j.0 ≡ i = one_far g p.order j.0 i m.0 l j.2 at_l (ap rank m.2) in
        let falls = falling_taken g q s t from to arcs ds us rs ls p f w both hs u a.one a.goes_one in
        let l' = lies arcs (turned both a.one) hs to falls a.other from i a.goes_other (subst (Among a.other) here j.1) in
        (taken_used g q s t from to arcs ds us rs ls p f w both hs u a.one a.goes_one i l'.used).0
  ]

  far_used : (i : ℕ) (l : TeLink) (b : Arc) → slice_get g.links i ≡ Some l → IsArc arcs i b → is_used both i ≡ true → Contains (fars_of first ++ fars_of second) l.far
  far_used i l b at_l is_b used = elim (all_taken g q s t from to arcs ds us rs ls p f w both hs u a.one a.other a.goes_one a.goes_other i b is_b used) [
    | inl among ↦
        let m = at_among g.links a.one one_links.0 i one_links.1 among in
        let same : m.0 ≡ l = one_link g.links i m.0 l m.1 at_l in
        Contains-append_left (fars_of first) (fars_of second) l.far
        (subst (λ xs. Contains xs l.far) (sym first_fars) (subst (λ (k : TeLink). Contains (map (λ (x : TeLink). x.far) one_links.0) k.far) same (far_among m.0 one_links.0 m.2)))
    | inr among ↦
        let m = at_among g.links a.other other_links.0 i other_links.1 among in
        let same : m.0 ≡ l = one_link g.links i m.0 l m.1 at_l in
        Contains-append_right (fars_of first) (fars_of second) l.far
        (subst (λ xs. Contains xs l.far) (sym second_fars) (subst (λ (k : TeLink). Contains (map (λ (x : TeLink). x.far) other_links.0) k.far) same (far_among m.0 other_links.0 m.2)))
  ]

  -- a node with a distance has a height
  high : (n : ℕ) → n < length ds → at ls n < UNREACHED → at hs n < UNREACHED
  high n inside reached =
      let left' = is_left g q s t from to arcs ds us rs ls p f w in
      let x = reached_at arcs rs to ds ls us left' hs u.heights n inside reached in
      omega (arith, x.height, x.sum, reached, is_near arcs rs to ds ls us left' n (first_reached arcs rs to ds ls us left' n reached))

  pub links_hold : (i : ℕ) → LinkHoldsAt g q (potential_in rows) (fars_of first ++ fars_of second) i
  links_hold i l at_l admitted =
      let h = admitted_arc g q arcs f.are l admitted in
      let here : h.place ≡ i = one_far g p.order h.place i l l h.at_link at_l refl in
      let b = h.arc in
      let is_b : IsArc arcs i b = subst (λ k. IsArc arcs k b) here h.is_arc in
      let tail_in : b.tail < length ds = omega (arith, f.long, slice_get_within g.nodes b.tail l.from h.tail) in
      let head_in : b.head < length ds = omega (arith, f.long, slice_get_within g.nodes b.head l.to h.head) in
      let pf = potential_is g hs a.top rows b.tail l.from p.valid a.potentials h.tail in
      let pt = potential_is g hs a.top rows b.head l.to p.valid a.potentials h.head in (
        λ unused. elim (cases_lt (at ls b.head) UNREACHED) [
          | inl reached ↦
              let c = climbs g q s t from to arcs ds us rs ls p f w both hs u i b is_b (not_in_use i l b at_l is_b unused) reached in
              let high_head = high b.head head_in reached in
              let high_tail = high b.tail tail_in c.tail in
              omega (arith, c.by, pf.high high_tail, pt.high high_head, h.weight)
          | inr far ↦
              let left' = is_left g q s t from to arcs ds us rs ls p f w in
              let most = left'.second.made.within b.head in
              let none = far_height arcs rs to ds ls us left' hs u.heights b.head head_in (omega (arith, far, most)) in
              omega (arith, pt.none none)
        ],
        λ used.
            let d = drops g q s t from to arcs ds us rs ls p f w both hs u i b is_b (used_far i l at_l used) in
            let high_head = high b.head head_in d.head in
            let high_tail = high b.tail tail_in d.tail in
            omega (arith, d.by, pf.high high_tail, pt.high high_head, h.weight, a.potentials.is_top.above b.tail high_tail),
      )
    where
      not_in_use : (i : ℕ) (l : TeLink) (b : Arc) → slice_get g.links i ≡ Some l → IsArc arcs i b → ¬ Contains (fars_of first ++ fars_of second) l.far → is_used both i ≡ false
      not_in_use i l b at_l is_b unused = go (is_used both i) refl
        where
          go : (v : Bool) → is_used both i ≡ v → is_used both i ≡ false
          go false is = is
          go true is = absurd (unused (far_used i l b at_l is_b is))

  is_pair : IsPair g q s t one_links.0 other_links.0
  is_pair = record {
    first_walk = walked g q s t from to arcs ds us rs ls p f w both hs u both a.one from s one_links.0 p.source.at_place a.goes_one one_links.1;
    second_walk = walked g q s t from to arcs ds us rs ls p f w both hs u (turned both a.one) a.other from s other_links.0 p.source.at_place a.goes_other other_links.1;
    diverse = links_differ (one_links.0 ++ other_links.0) (subst (AllPairs (λ x y. x ≢ y)) (sym (map_append one_links.0 other_links.0)) differ);
  }

  is_least : IsLeastPair g q s t one_links.0 other_links.0
  is_least = least_pair g q (potential_in rows) s t one_links.0 other_links.0 p.order is_pair (λ l admitted.
      let h = admitted_arc g q arcs f.are l admitted in
      let used : fars_of first ++ fars_of second ≡ map (λ (k : TeLink). k.far) (one_links.0 ++ other_links.0) =
      ap (λ xs. xs ++ fars_of second) first_fars ∙ ap (λ xs. map (λ (k : TeLink). k.far) one_links.0 ++ xs) second_fars ∙ sym (map_append one_links.0 other_links.0) in
      subst (λ xs. LinkHolds q (potential_in rows) xs l) used (links_hold h.place l h.at_link admitted))

  long_hs : length hs ≡ length g.nodes
  long_hs = u.heights.long ∙ f.long

  among_hs : AreAmong (length hs) arcs
  among_hs i b is_b = subst (λ n. IsAmong n b) (sym u.heights.long) (among_ds g q s t from to arcs ds us rs ls p f w i b is_b)

  from_in : from < length hs
  from_in = omega (arith, long_hs, slice_get_within g.nodes from s p.source.at_place)

  -- a path with fewer links than there are nodes shows no more addresses
  few_shown : (shown : List Addr) (is : List ℕ) (ms : List TeLink) → shown ≡ s ∷ map (λ (l : TeLink). l.far) ms → AreAt g.links is ms → length is < length hs → length shown ≤ length g.nodes
  few_shown shown is ms shows at_links few =
      omega (arith, few, long_hs, ap length shows, length-map {A = TeLink} {B = Addr} ms (λ l. l.far), same_length g.links is ms at_links)

  -- the source, where the top is 0, or the node of the greatest height
  from_zero : (n : Addr) × Contains rows (n, 0)
  from_zero = elim a.potentials.is_top.met [
    | inl none ↦ here from s p.source.at_place (high from (omega (arith, from_in, u.heights.long)) u.reached) (omega (arith, none))
    | inr met ↦
        here met.place (get_or g.nodes met.place s) (slice_get-get_or g.nodes met.place s (omega (arith, met.there, long_hs))) (omega (arith, met.reached, met.is)) (omega (arith, met.is))
  ]
    where
      here : (i : ℕ) (n : Addr) → slice_get g.nodes i ≡ Some n → at hs i < UNREACHED → a.top - at hs i ≡ 0 → (m : Addr) × Contains rows (m, 0)
      here i n at_i reached none =
          let row : ℕ → Addr × ℕ = λ x. (n, x) in
          (n, subst (Contains rows) (ap row none) (a.potentials.whole i n (record { at_place = at_i; reached = reached })))

  pub solved : IsSolved (asked_of g q s t) (Paths rows first second)
  solved = record {
    holds = paths_hold (asked_of g q s t) rows first second paths links_hold;
    answer = record {
      one = one_links.0;
      other = other_links.0;
      shows_one = first_is;
      shows_other = second_is;
      least = is_least;
      chosen = chosen_pair g q s t from to arcs ds us rs ls p f w both hs u a.one a.other one_links.0 other_links.0 a.goes_one a.goes_other one_links.1 other_links.1;
    };
    rising = a.potentials.rising;
    least = from_zero;
    told = (
      a.potentials.rising,
      λ none. let bad : [] ≡ s ∷ map (λ (l : TeLink). l.far) one_links.0 = sym none ∙ first_is in cc,
      λ none. let bad : [] ≡ s ∷ map (λ (l : TeLink). l.far) other_links.0 = sym none ∙ second_is in cc,
    );
    short = (
      few_shown first a.one one_links.0 first_is one_links.1 (path_few arcs both hs to (falling_both g q s t from to arcs ds us rs ls p f w both hs u) among_hs a.one from a.goes_one from_in),
      few_shown second a.other other_links.0 second_is other_links.1
          (path_few arcs (turned both a.one) hs to (falling_taken g q s t from to arcs ds us rs ls p f w both hs u a.one a.goes_one) among_hs a.other from a.goes_other from_in),
    );
  }

-- paths that are made so are solved
pub form_solved : (g : Rows) (q : Query) (s t : Addr) (from to : ℕ) (arcs : List (Option Arc)) (ds : List ℕ) (us : List Bool) (rs : List (Option Arc)) (ls : List ℕ) → IsPlaced g q s t from to → IsSearched g q to arcs ds →
    IsWalked from to arcs ds us rs ls → (both : List Bool) (hs : List ℕ) → IsTurned from to ds us rs ls both hs → (form : PairForm) → ArePathsIn g s arcs from to both hs form → IsSolved (asked_of g q s t) form
form_solved g q s t from to arcs ds us rs ls p f w both hs u (Paths rows first second) a = solved g q s t from to arcs ds us rs ls p f w both hs u rows first second a
form_solved g q s t from to arcs ds us rs ls p f w both hs u (Cut nodes) a = absurd a
