-- Arcs and the links that they are of.
use Rattle.std.proofs.Common.{◌≡◌, inl, inr, ℕ, zero, suc, ◌<◌, ◌≤◌, List, [], ◌∷◌, length, arith, refl, sym, ◌∙◌, ap, subst, None, Some}
use Rattle.std.specs.Prelude.{Contains, MatchOption, slice_get, slice_index_or}
use Rattle.std.specs.declared.option.Option.{Option}
use Rattle.std.proofs.lemmas.Bool.{cases_lt}
use Rattle.std.proofs.lemmas.List.{get_or_past}
use Rattle.std.proofs.lemmas.List.Elements.{All-contains}
use Rattle.std.proofs.lemmas.Option.{slice_get_within, get_or_from_slice_get}
use Rattle.dom_base.specs.AddrOrder.{rank}
use Rattle.dom_base.specs.declared.addr.Addr.{Addr}
use Rattle.dom_base.specs.declared.link.Link.{Link}
use Rattle.dom_base.specs.declared.query.Query.{Query}
use Rattle.dom_base.specs.Admission.{weight as weight_of}
use Rattle.te_links.specs.Rows.{Rows, IsTopology, IsInOrder, IsInnerLink}
use Rattle.walk_laws.specs.Walks.{AdmitsLink}
use Rattle.path_certificate.specs.Offers.{IsAdmittedAt}
use Rattle.path_search.proofs.Places.{place_of}
use Rattle.path_search.proofs.Certified.{weight_bounds}
use Rattle.path_search.specs.Segments.{AreAt}
use Rattle.diverse_pairs.specs.declared.arcs.Arc.{Arc}
use Rattle.diverse_pairs.specs.Arcs.{IsArc, AreAmong, AreLight}
use Rattle.diverse_pairs.specs.Network.{IsArcOf, AreArcs}
use Rattle.diverse_pairs.proofs.Flow.{Among}
use Rattle.diverse_pairs.proofs.Sums.{head_of, behind_head}

pub arc_link : (g : Rows) (q : Query) (arcs : List (Option Arc)) → AreArcs g q arcs → (i : ℕ) (a : Arc) → IsArc arcs i a → IsArcOf g q i a
arc_link g q arcs are i a is_arc =
    let inside : i < length g.links = elim (cases_lt i (length arcs)) [
      | inl lt ↦ omega (arith, lt, are.long)
      | inr ge ↦ let none : None ≡ Some a = sym (get_or_past arcs i None ge) ∙ is_arc in cc
    ] in
    subst (λ (o : Option Arc). MatchOption o ((l : Link) → ¬ IsAdmittedAt g q i l) (IsArcOf g q i)) is_arc (are.each i inside)

pub link_arc : (g : Rows) (q : Query) (arcs : List (Option Arc)) → AreArcs g q arcs → (i : ℕ) (l : Link) → IsAdmittedAt g q i l → (a : Arc) × IsArc arcs i a
link_arc g q arcs are i l at = go (slice_index_or arcs i None) refl (are.each i (slice_get_within g.links i l at.at_link))
  where
    go : (o : Option Arc) → slice_index_or arcs i None ≡ o → MatchOption o ((k : Link) → ¬ IsAdmittedAt g q i k) (IsArcOf g q i) → (a : Arc) × IsArc arcs i a
    go None is none = absurd (none l at)
    go (Some a) is of = (a, is)

pub one_link : (ls : List Link) (i : ℕ) (l m : Link) → slice_get ls i ≡ Some l → slice_get ls i ≡ Some m → l ≡ m
one_link ls i l m at other = let both : Some l ≡ Some m = sym at ∙ other in cc

pub one_node : (ns : List Addr) (i : ℕ) (n m : Addr) → slice_get ns i ≡ Some n → slice_get ns i ≡ Some m → n ≡ m
one_node ns i n m at other = let both : Some n ≡ Some m = sym at ∙ other in cc

-- an admitted link has a place, and an arc there
pub record HasArc (g : Rows) (q : Query) (arcs : List (Option Arc)) (l : Link) : Type 0 where
  pub place : ℕ
  pub arc : Arc
  pub is_arc : IsArc arcs place arc
  pub at_link : slice_get g.links place ≡ Some l
  pub tail : slice_get g.nodes arc.tail ≡ Some l.from
  pub head : slice_get g.nodes arc.head ≡ Some l.to
  pub weight : arc.weight ≡ weight_of q.metric l

pub has_arc : (g : Rows) (q : Query) (arcs : List (Option Arc)) → AreArcs g q arcs → (i : ℕ) (l : Link) → IsAdmittedAt g q i l → HasArc g q arcs l
has_arc g q arcs are i l at =
    let a = link_arc g q arcs are i l at in
    let of = arc_link g q arcs are i a.0 a.1 in
    let same : of.link ≡ l = one_link g.links i of.link l of.at_place.at_link at.at_link in
    record {
      place = i;
      arc = a.0;
      is_arc = a.1;
      at_link = at.at_link;
      tail = of.tail ∙ ap (λ (k : Link). Some k.from) same;
      head = of.head ∙ ap (λ (k : Link). Some k.to) same;
      weight = of.weight ∙ ap (λ (k : Link). weight_of q.metric k) same;
    }

pub admitted_arc : (g : Rows) (q : Query) (arcs : List (Option Arc)) → AreArcs g q arcs → (l : Link) → AdmitsLink g q l → HasArc g q arcs l
admitted_arc g q arcs are l admitted =
    let p = place_of g.links l admitted.is_link in
    has_arc g q arcs are p.0 l (record { at_link = p.1; admitted = admitted })

pub arcs_among : (g : Rows) (q : Query) (arcs : List (Option Arc)) → IsTopology g → AreArcs g q arcs → AreAmong (length g.nodes) arcs
arcs_among g q arcs valid are i a is_arc =
    let of = arc_link g q arcs are i a is_arc in
    let bounds = weight_bounds g.nodes q.metric of.link (All-contains (IsInnerLink g.nodes) g.links of.link valid.links of.at_place.admitted.is_link) in
    record {
      tail = slice_get_within g.nodes a.tail of.link.from of.tail;
      head = slice_get_within g.nodes a.head of.link.to of.head;
      heavy = omega (arith, of.weight, bounds.0);
    }

pub arcs_light : (g : Rows) (q : Query) (arcs : List (Option Arc)) → IsTopology g → AreArcs g q arcs → AreLight arcs
arcs_light g q arcs valid are i a is_arc =
    let of = arc_link g q arcs are i a is_arc in
    let bounds = weight_bounds g.nodes q.metric of.link (All-contains (IsInnerLink g.nodes) g.links of.link valid.links of.at_place.admitted.is_link) in
    omega (arith, of.weight, bounds.1)

-- links stand in the order of their far addresses
pub rank_le : (g : Rows) → IsInOrder g → (i j : ℕ) (l m : Link) → slice_get g.links i ≡ Some l → slice_get g.links j ≡ Some m → i ≤ j → rank l.far ≤ rank m.far
rank_le g order i j l m at_l at_m up =
    elim (cases_lt i j) [
      | inl lt ↦
          let rises = order.links i j m lt (slice_get_within g.links j m at_m) in
          omega (arith, rises, ap (λ (k : Link). rank k.far) (get_or_from_slice_get g.links i l m at_l), ap (λ (k : Link). rank k.far) (get_or_from_slice_get g.links j m m at_m))
      | inr ge ↦
          let one : j ≡ i = omega arith in
          let same : l ≡ m = one_link g.links i l m at_l (ap (slice_get g.links) (sym one) ∙ at_m) in
          omega (arith, ap (λ (k : Link). rank k.far) same)
    ]

-- links at places
pub at_among : (links : List Link) (is : List ℕ) (ls : List Link) (j : ℕ) → AreAt links is ls → Among is j → (l : Link) × (slice_get links j ≡ Some l) × Contains ls l
at_among links [] ls j at among = absurd among
at_among links (i ∷ is) [] j at among = absurd at
at_among links (i ∷ is) (l ∷ ls) j at (inl same) = (l, ap (slice_get links) (sym same) ∙ at.0, head_of l ls)
at_among links (i ∷ is) (l ∷ ls) j at (inr among) =
    let rest = at_among links is ls j at.1 among in
    let has : Contains ls rest.0 = rest.2 in
    (rest.0, rest.1, behind_head l rest.0 ls has)

-- and a link among them stands at one of the places
pub among_at : (links : List Link) (is : List ℕ) (ls : List Link) (l : Link) → AreAt links is ls → Contains ls l → (j : ℕ) × Among is j × (slice_get links j ≡ Some l)
among_at links [] [] l at (k, below, is_l) = absurd (omega arith)
among_at links [] (m ∷ ls) l at has = absurd at
among_at links (i ∷ is) [] l at has = absurd at
among_at links (i ∷ is) (m ∷ ls) l at (zero, below, is_l) = (i, inl refl, at.0 ∙ ap (λ (k : Link). Some k) is_l)
among_at links (i ∷ is) (m ∷ ls) l at (suc k, below, is_l) = let rest = among_at links is ls l at.1 (k, omega arith, is_l) in (rest.0, inr rest.1, rest.2)
