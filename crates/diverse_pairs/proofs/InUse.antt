-- The arcs in use are those of the links in use, and the paths over them are the chosen pair.
use Rattle.std.proofs.Common.{◌≡◌, inl, inr, ℕ, zero, suc, Bool, true, false, not, List, [], ◌∷◌, map, arith, refl, sym, ◌∙◌, ap, subst, Some}
use Rattle.std.specs.Prelude.{◌↔◌, Contains, slice_get}
use Rattle.std.specs.declared.option.Option.{Option}
use Rattle.dom_base.specs.AddrOrder.{rank}
use Rattle.dom_base.specs.declared.addr.Addr.{Addr}
use Rattle.dom_base.specs.declared.link.Link.{Link}
use Rattle.dom_base.specs.declared.query.Query.{Query}
use Rattle.te_links.specs.Rows.{Rows}
use Rattle.walk_laws.specs.Walks.{AdmitsNode, AdmitsLink, Walk}
use Rattle.path_search.specs.Segments.{AreAt}
use Rattle.path_search.proofs.Places.{same_place}
use Rattle.diverse_pairs.specs.declared.arcs.Arc.{Arc}
use Rattle.diverse_pairs.specs.Arcs.{is_used}
use Rattle.diverse_pairs.specs.Paths.{Goes, turned}
use Rattle.diverse_pairs.specs.Chosen.{Residual, IsInUse, IsLowest, IsChosenPair}
use Rattle.diverse_pairs.specs.Conditions.{LeadsAlong}
use Rattle.diverse_pairs.specs.Solving.{IsPlaced, IsSearched, IsWalked, IsTurned}
use Rattle.diverse_pairs.proofs.Sums.{head_of, behind_head}
use Rattle.diverse_pairs.proofs.Flow.{Among}
use Rattle.diverse_pairs.proofs.Beside.{left}
use Rattle.diverse_pairs.proofs.Linked.{arc_link, admitted_arc, one_link, one_node, rank_le, at_among, among_at}
use Rattle.diverse_pairs.proofs.SecondWalk.{AreBeside, beside, second}
use Rattle.diverse_pairs.proofs.Places.{one_far}
use Rattle.diverse_pairs.proofs.Walked.{decide, walk_links, marked, is_left, are_left, is_walk, lies_second, both_other, both_at, taken_used, taken_other}

-- links by their places, as they stand beside the walk
pub beside_of : (g : Rows) (q : Query) (us : List Bool) (is : List ℕ) → ((j : ℕ) → Among is j → (l : Link) × (slice_get g.links j ≡ Some l)) → (rr : List Residual) × AreBeside g q us is rr
beside_of g q us [] each = ([], tt)
beside_of g q us (i ∷ is) each =
    let here = each i (inl refl) in
    let rest = beside_of g q us is (λ j among. each j (inr among)) in
    (beside q (is_used us i) here.0 ∷ rest.0, ((here.0, here.1, refl), rest.1))

pub record StandsBeside (g : Rows) (q : Query) (us : List Bool) (is : List ℕ) (o : Residual) : Type 0 where
  pub place : ℕ
  pub among : Among is place
  pub link : Link
  pub at_link : slice_get g.links place ≡ Some link
  pub same : o ≡ beside q (is_used us place) link

pub among_beside : (g : Rows) (q : Query) (us : List Bool) (is : List ℕ) (rr : List Residual) (o : Residual) → AreBeside g q us is rr → Contains rr o → StandsBeside g q us is o
among_beside g q us [] [] o all (k, below, is_o) = absurd (omega arith)
among_beside g q us [] (r ∷ rr) o all has = absurd all
among_beside g q us (i ∷ is) [] o all has = absurd all
among_beside g q us (i ∷ is) (r ∷ rr) o all (zero, below, is_o) = record { place = i; among = inl refl; link = all.0.0; at_link = all.0.1; same = sym is_o ∙ all.0.2 }
among_beside g q us (i ∷ is) (r ∷ rr) o all (suc k, below, is_o) =
    let rest = among_beside g q us is rr o all.1 (k, omega arith, is_o) in
    record { place = rest.place; among = inr rest.among; link = rest.link; at_link = rest.at_link; same = rest.same }

pub beside_among : (g : Rows) (q : Query) (us : List Bool) (is : List ℕ) (rr : List Residual) (j : ℕ) (l : Link) → AreBeside g q us is rr → Among is j → slice_get g.links j ≡ Some l →
    Contains rr (beside q (is_used us j) l)
beside_among g q us [] rr j l all among at_l = absurd among
beside_among g q us (i ∷ is) [] j l all among at_l = absurd all
beside_among g q us (i ∷ is) (r ∷ rr) j l all (inl same) at_l =
    let links : all.0.0 ≡ l = one_link g.links j all.0.0 l (ap (slice_get g.links) (sym same) ∙ all.0.1) at_l in
    subst (Contains (r ∷ rr)) (all.0.2 ∙ ap (λ m. beside q (is_used us i) m) links ∙ ap (λ k. beside q (is_used us k) l) same) (head_of r rr)
beside_among g q us (i ∷ is) (r ∷ rr) j l all (inr among) at_l =
    behind_head r (beside q (is_used us j) l) rr (beside_among g q us is rr j l all.1 among at_l)

far_of : (q : Query) (u : Bool) (l : Link) → (beside q u l).far ≡ l.far
far_of q false l = refl
far_of q true l = refl

module _ (g : Rows) (q : Query) (s t : Addr) (from to : ℕ) (arcs : List (Option Arc)) (ds : List ℕ) (us : List Bool) (rs : List (Option Arc)) (ls : List ℕ)
    (p : IsPlaced g q s t from to) (f : IsSearched g q to arcs ds) (w : IsWalked from to arcs ds us rs ls) (both : List Bool) (hs : List ℕ) (u : IsTurned from to ds us rs ls both hs) where
  pub rest_links : (rr : List Residual) × AreBeside g q us u.turns.path rr
  rest_links = beside_of g q us u.turns.path (λ j among.
      let l = lies_second g q s t from to arcs ds us rs ls p f w both hs u j among in
      let b = left arcs rs to ds ls us (is_left g q s t from to arcs ds us rs ls p f w) j l.arc l.is_arc in
      let of = arc_link g q arcs f.are j b.arc b.is_arc in
      (of.link, of.at_place.at_link))

  stands_at : (i : ℕ) (l : Link) (v : Bool) → slice_get g.links i ≡ Some l → Contains rest_links.0 (beside q v l) → Among u.turns.path i
  stands_at i l v at_l has =
      let b = among_beside g q us u.turns.path rest_links.0 (beside q v l) rest_links.1 has in
      let fars : rank l.far ≡ rank b.link.far = ap rank (sym (far_of q v l) ∙ ap (λ (o : Residual). o.far) b.same ∙ far_of q (is_used us b.place) b.link) in
      subst (Among u.turns.path) (sym (one_far g p.order i b.place l b.link at_l b.at_link fars)) b.among

  pub in_use : (i : ℕ) (l : Link) → slice_get g.links i ≡ Some l → AdmitsLink g q l → (is_used both i ≡ true) ↔ IsInUse g q (walk_links g q s t from to arcs ds us rs ls p f w).0 rest_links.0 l
  in_use i l at_l admitted = go (is_used us i) refl
    where
      m : (is_used us i ≡ true) ↔ Contains (walk_links g q s t from to arcs ds us rs ls p f w).0 l
      m = marked g q s t from to arcs ds us rs ls p f w i l at_l

      go : (b : Bool) → is_used us i ≡ b → (is_used both i ≡ true) ↔ IsInUse g q (walk_links g q s t from to arcs ds us rs ls p f w).0 rest_links.0 l
      go true is = (
        λ used. (
          admitted,
          inl (
            m.0 is,
            λ has.
                let among = stands_at i l true at_l has in
                let bad : false ≡ true = sym (both_at g q s t from to arcs ds us rs ls p f w both hs u i among ∙ ap not is) ∙ used in absurd cc,
          ),
        ),
        λ uses. elim uses.1 [
          | inl kept ↦ elim (decide u.turns.path i) [
            | inl among ↦ absurd (kept.1 (subst (λ v. Contains rest_links.0 (beside q v l)) is (beside_among g q us u.turns.path rest_links.0 i l rest_links.1 among at_l)))
            | inr lacks ↦ both_other g q s t from to arcs ds us rs ls p f w both hs u i lacks ∙ is
          ]
          | inr new ↦ absurd (new.0 (m.0 is))
        ],
      )
      go false is =
          let lacks_walk : ¬ Contains (walk_links g q s t from to arcs ds us rs ls p f w).0 l = λ has. let bad : false ≡ true = sym is ∙ m.1 has in absurd cc in (
            λ used. elim (decide u.turns.path i) [
              | inl among ↦ (admitted, inr (lacks_walk, subst (λ v. Contains rest_links.0 (beside q v l)) is (beside_among g q us u.turns.path rest_links.0 i l rest_links.1 among at_l)))
              | inr lacks ↦ let bad : false ≡ true = sym (both_other g q s t from to arcs ds us rs ls p f w both hs u i lacks ∙ is) ∙ used in absurd cc
            ],
            λ uses. elim uses.1 [
              | inl kept ↦ absurd (lacks_walk kept.0)
              | inr new ↦ both_at g q s t from to arcs ds us rs ls p f w both hs u i (stands_at i l false at_l new.1) ∙ ap not is
            ],
          )

  -- the path by the first arcs in use takes the links with the least far addresses
  lowest : (flags : List Bool) (Use : Link → Type 0) → ((i : ℕ) (l : Link) → slice_get g.links i ≡ Some l → AdmitsLink g q l → (is_used flags i ≡ true) ↔ Use l) → ((l : Link) → Use l → AdmitsLink g q l) →
      (is : List ℕ) (v : ℕ) (n : Addr) (ms : List Link) → slice_get g.nodes v ≡ Some n → Goes arcs flags v is to → AreAt g.links is ms → IsLowest Use n t ms
  lowest flags Use told admits [] v n [] at_v goes at_links = one_node g.nodes to n t (ap (slice_get g.nodes) (sym goes) ∙ at_v) p.target.at_place
  lowest flags Use told admits [] v n (m ∷ ms) at_v goes at_links = absurd at_links
  lowest flags Use told admits (i ∷ is) v n [] at_v goes at_links = absurd at_links
  lowest flags Use told admits (i ∷ is) v n (l ∷ ms) at_v goes at_links =
      let step = goes.2 in
      let of = arc_link g q arcs f.are i step.arc step.is_arc in
      let same : of.link ≡ l = one_link g.links i of.link l of.at_place.at_link at_links.0 in
      let tail : slice_get g.nodes v ≡ Some l.from = ap (slice_get g.nodes) (sym step.tail) ∙ of.tail ∙ ap (λ (k : Link). Some k.from) same in
      let head : slice_get g.nodes goes.1 ≡ Some l.to = ap (slice_get g.nodes) (sym step.same_head) ∙ of.head ∙ ap (λ (k : Link). Some k.to) same in (
        λ ends. goes.0 (same_place g.nodes p.valid.nodes_differ v to n at_v (p.target.at_place ∙ ap (λ (a : Addr). Some a) (sym ends))),
        one_node g.nodes v l.from n tail at_v,
        (told i l at_links.0 (subst (AdmitsLink g q) same of.at_place.admitted)).0 step.used,
        λ m from uses.
            let h = admitted_arc g q arcs f.are m (admits m uses) in
            let here : h.arc.tail ≡ v = same_place g.nodes p.valid.nodes_differ h.arc.tail v n (h.tail ∙ ap (λ (k : Addr). Some k) from) at_v in
            rank_le g p.order i h.place l m at_links.0 h.at_link (step.first h.place h.arc h.is_arc ((told h.place m h.at_link (admits m uses)).1 uses) here),
        lowest flags Use told admits is goes.1 l.to ms head goes.3 at_links.1,
      )

  -- and its links are a walk
  pub walked : (flags : List Bool) (is : List ℕ) (v : ℕ) (n : Addr) (ms : List Link) → slice_get g.nodes v ≡ Some n → Goes arcs flags v is to → AreAt g.links is ms → Walk g q n t ms
  walked flags [] v n [] at_v goes at_links =
      let same : n ≡ t = one_node g.nodes to n t (ap (slice_get g.nodes) (sym goes) ∙ at_v) p.target.at_place in
      (same, subst (AdmitsNode g q) (sym same) p.target.admitted)
  walked flags [] v n (m ∷ ms) at_v goes at_links = absurd at_links
  walked flags (i ∷ is) v n [] at_v goes at_links = absurd at_links
  walked flags (i ∷ is) v n (l ∷ ms) at_v goes at_links =
      let step = goes.2 in
      let of = arc_link g q arcs f.are i step.arc step.is_arc in
      let same : of.link ≡ l = one_link g.links i of.link l of.at_place.at_link at_links.0 in
      let tail : slice_get g.nodes v ≡ Some l.from = ap (slice_get g.nodes) (sym step.tail) ∙ of.tail ∙ ap (λ (k : Link). Some k.from) same in
      let head : slice_get g.nodes goes.1 ≡ Some l.to = ap (slice_get g.nodes) (sym step.same_head) ∙ of.head ∙ ap (λ (k : Link). Some k.to) same in
      (one_node g.nodes v l.from n tail at_v, subst (AdmitsLink g q) same of.at_place.admitted, walked flags is goes.1 l.to ms head goes.3 at_links.1)

  leads_along : (n : Addr) (ms : List Link) → Walk g q n t ms → LeadsAlong g q n (map (λ (l : Link). l.far) ms) t
  leads_along n [] walk = walk
  leads_along n (l ∷ ms) walk = (l, refl, walk.0, walk.1, leads_along l.to ms walk.2)

  -- and its far addresses lead on
  pub leads : (flags : List Bool) (is : List ℕ) (v : ℕ) (n : Addr) (ms : List Link) → slice_get g.nodes v ≡ Some n → Goes arcs flags v is to → AreAt g.links is ms → LeadsAlong g q n (map (λ (l : Link). l.far) ms) t
  leads flags is v n ms at_v goes at_links = leads_along n ms (walked flags is v n ms at_v goes at_links)

  pub path_links : (flags : List Bool) (is : List ℕ) (v : ℕ) → Goes arcs flags v is to → (ms : List Link) × AreAt g.links is ms
  path_links flags [] v goes = ([], tt)
  path_links flags (i ∷ is) v goes =
      let of = arc_link g q arcs f.are i goes.2.arc goes.2.is_arc in
      let rest = path_links flags is goes.1 goes.3 in
      (of.link ∷ rest.0, (of.at_place.at_link, rest.1))

  pub chosen_pair : (one other : List ℕ) (ms ns : List Link) → Goes arcs both from one to → Goes arcs (turned both one) from other to → AreAt g.links one ms → AreAt g.links other ns → IsChosenPair g q s t ms ns
  chosen_pair one other ms ns goes_one goes_other at_one at_other = record {
    walk = (walk_links g q s t from to arcs ds us rs ls p f w).0;
    is_walk = is_walk g q s t from to arcs ds us rs ls p f w;
    rest = rest_links.0;
    is_rest = second g q t (walk_links g q s t from to arcs ds us rs ls p f w).0 arcs rs to ds ls hs us (are_left g q s t from to arcs ds us rs ls p f w) u.heights u.turns.marks u.turns.tight u.turns.path from s rest_links.0 p.source.at_place u.reached u.turns.goes rest_links.1;
    lowest = lowest both (IsInUse g q (walk_links g q s t from to arcs ds us rs ls p f w).0 rest_links.0) in_use (λ l uses. uses.0) one from s ms p.source.at_place goes_one at_one;
    left = lowest (turned both one) (λ l. IsInUse g q (walk_links g q s t from to arcs ds us rs ls p f w).0 rest_links.0 l × ¬ Contains ms l) left_told (λ l uses. uses.0.0) other from s ns p.source.at_place goes_other at_other;
  }
    where
      left_told : (i : ℕ) (l : Link) → slice_get g.links i ≡ Some l → AdmitsLink g q l → (is_used (turned both one) i ≡ true) ↔ (IsInUse g q (walk_links g q s t from to arcs ds us rs ls p f w).0 rest_links.0 l × ¬ Contains ms l)
      left_told i l at_l admitted = (
        λ used.
            let t' = taken_used g q s t from to arcs ds us rs ls p f w both hs u one goes_one i used in (
              (in_use i l at_l admitted).0 t'.0,
              λ has.
                  let m = among_at g.links one ms l at_one has in
                  t'.1 (subst (Among one) (one_far g p.order m.0 i l l m.2 at_l refl) m.1),
            ),
        λ uses.
            let lacks : ¬ Among one i = λ among.
            let m = at_among g.links one ms i at_one among in
            uses.1 (subst (Contains ms) (one_link g.links i m.0 l m.1 at_l) m.2) in
            taken_other g q s t from to arcs ds us rs ls p f w both hs u one i lacks ∙ (in_use i l at_l admitted).1 uses.0,
      )
