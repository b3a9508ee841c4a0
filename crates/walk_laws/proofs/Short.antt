-- A chosen segment has no more links than the domain has nodes, since its labels fall.
use Rattle.std.proofs.Common.{◌≡◌, inl, inr, ℕ, ◌<◌, ◌≤◌, List, [], ◌∷◌, length, map, false, nat_eq, arith, sym, ◌∙◌, ap, subst, Some}
use Rattle.std.specs.Prelude.{Contains, All}
use Rattle.std.specs.List.{AllByRecursion, IsDistinct}
use Rattle.std.proofs.lemmas.Bool.Decides.{eqb_tells, Decides-eqb}
use Rattle.std.proofs.lemmas.Cmp.{nat_eq_equiv}
use Rattle.std.proofs.lemmas.List.{length-map, get_or-map}
use Rattle.std.proofs.lemmas.List.Elements.{All-contains, All-cons, All-nil}
use Rattle.std.proofs.lemmas.Map.Made.{is_member-Decides, length-le_from_is_member}
use Rattle.dom_base.specs.AddrOrder.{rank}
use Rattle.dom_base.proofs.Ranks.{same_addr}
use Rattle.dom_base.specs.declared.addr.Addr.{Addr}
use Rattle.dom_base.specs.declared.link.Link.{Link}
use Rattle.dom_base.specs.declared.query.Query.{Query}
use Rattle.dom_base.specs.declared.query.Seed.{Seed}
use Rattle.dom_base.specs.declared.query.Label.{Label}
use Rattle.te_links.specs.Rows.{Rows, IsTopology, IsInnerLink}
use Rattle.walk_laws.specs.Labels.{IsLabel, IsSegment, IsTight}
use Rattle.walk_laws.proofs.Reached.{weight_positive}
use Rattle.walk_laws.proofs.Tight.{label_unique}

abbrev pub froms : List Link → List ℕ
froms ls = map (λ l. rank l.from) ls

abbrev pub numbers : Rows → List ℕ
numbers g = map rank g.nodes

falls : (g : Rows) (q : Query) (seeds : List Seed) (l : Link) (a rest : Label) → IsTopology g → IsTight g q seeds l a rest → rest.cost < a.cost
falls g q seeds l a rest valid tight =
    omega (arith, tight.sum, weight_positive g.nodes q.metric l (All-contains (IsInnerLink g.nodes) g.links l valid.links tight.admitted.is_link))

-- a node with a greater label isn't on the segment
differs : (g : Rows) (q : Query) (seeds : List Seed) → IsTopology g → (x : Addr) (b : Label) → IsLabel g q seeds x (Some b) →
    (ls : List Link) (u : Addr) (a : Label) → IsLabel g q seeds u (Some a) → IsSegment g q seeds u a ls → a.cost < b.cost → AllByRecursion (λ y. nat_eq (rank x) y ≡ false) (froms ls)
differs g q seeds valid x b isb [] u a is segment less = tt
differs g q seeds valid x b isb (l ∷ ls) u a is segment less =
    let rest = segment.1.0 in
    let chosen = segment.1.1 in (
      elim (eqb_tells (rank x) (rank l.from)) [
        | inl t ↦
            let same : x ≡ u = same_addr x l.from t.1 ∙ chosen.from in
            let at_u : IsLabel g q seeds u (Some b) = subst (λ (n : Addr). IsLabel g q seeds n (Some b)) same isb in
            let both : Some b ≡ Some a = label_unique g q seeds u (Some b) a at_u is in
            let one : b ≡ a = cc in
            absurd (omega (arith, ap (λ (c : Label). c.cost) one))
        | inr f ↦ f.0
      ],
      differs g q seeds valid x b isb ls l.to rest chosen.tight.at_end segment.1.2 (let down = falls g q seeds l a rest valid chosen.tight in omega (arith, down)),
    )

distinct : (g : Rows) (q : Query) (seeds : List Seed) → IsTopology g → (ls : List Link) (u : Addr) (a : Label) → IsLabel g q seeds u (Some a) → IsSegment g q seeds u a ls →
    IsDistinct nat_eq (froms ls)
unfolding IsDistinct
distinct g q seeds valid [] u a is segment = tt
distinct g q seeds valid (l ∷ ls) u a is segment =
    let rest = segment.1.0 in
    let chosen = segment.1.1 in
    let at_from : IsLabel g q seeds l.from (Some a) = subst (λ (n : Addr). IsLabel g q seeds n (Some a)) (sym chosen.from) is in (
      differs g q seeds valid l.from a at_from ls l.to rest chosen.tight.at_end segment.1.2 (falls g q seeds l a rest valid chosen.tight),
      distinct g q seeds valid ls l.to rest chosen.tight.at_end segment.1.2,
    )

number_of : (ns : List Addr) (n : Addr) → Contains ns n → Contains (map rank ns) (rank n)
number_of ns n (k, below, is) =
    (k, omega (arith, below, length-map {A = Addr} {B = ℕ} ns rank), get_or-map rank ns k n (rank n) below ∙ ap rank is)

among : (g : Rows) (q : Query) (seeds : List Seed) (ls : List Link) (u : Addr) (a : Label) → IsSegment g q seeds u a ls → All (Contains (numbers g)) (froms ls)
among g q seeds [] u a segment = All-nil (Contains (numbers g))
among g q seeds (l ∷ ls) u a segment =
    All-cons (Contains (numbers g)) (rank l.from) (froms ls) (number_of g.nodes l.from segment.1.1.tight.admitted.from.is_node)
    (among g q seeds ls l.to segment.1.0 segment.1.2)

pub segment_short : (g : Rows) (q : Query) (seeds : List Seed) → IsTopology g → (ls : List Link) (u : Addr) (a : Label) → IsLabel g q seeds u (Some a) → IsSegment g q seeds u a ls →
    length ls ≤ length g.nodes
segment_short g q seeds valid ls u a is segment =
    let few : length (froms ls) ≤ length (numbers g) =
    length-le_from_is_member nat_eq_equiv (froms ls) (numbers g) (distinct g q seeds valid ls u a is segment)
    (λ k found. (is_member-Decides Decides-eqb (numbers g) k).1
    (All-contains (Contains (numbers g)) (froms ls) k (among g q seeds ls u a segment) ((is_member-Decides Decides-eqb (froms ls) k).0 found))) in
    omega (arith, few, length-map {A = Link} {B = ℕ} ls (λ l. rank l.from), length-map {A = Addr} {B = ℕ} g.nodes rank)
