-- Why potentials show that a pair is least: each link's rise beyond its weight is charged to a used link.
use Rattle.std.proofs.Common.{◌≡◌, ◌⊎◌, inl, inr, ℕ, zero, suc, ◌+◌, ◌-◌, ◌≤◌, List, [], ◌∷◌, ◌++◌, map, ap, subst, arith}
use Rattle.std.specs.Prelude.{Contains}
use Rattle.std.proofs.lemmas.List.Elements.{Contains-append_cases}
use Rattle.dom_base.specs.Admission.{weight}
use Rattle.dom_base.specs.declared.addr.Addr.{Addr}
use Rattle.dom_base.specs.declared.link.Link.{Link}
use Rattle.dom_base.specs.declared.query.Query.{Query}
use Rattle.te_links.specs.Rows.{Rows, IsInOrder}
use Rattle.te_links.proofs.Different.{stands}
use Rattle.walk_laws.specs.Walks.{AdmitsLink, Walk, cost}
use Rattle.path_certificate.proofs.Leading.{same_link}
use Rattle.diverse_pairs.specs.Pairs.{IsPair, IsLeastPair, pair_sum}
use Rattle.diverse_pairs.specs.Conditions.{LinkHolds}
use Rattle.diverse_pairs.proofs.Sums.{total, total_append, sum_within, head_of, behind_head}

-- a walk's links are admitted
pub walk_links : (g : Rows) (q : Query) (u v : Addr) (ls : List Link) → Walk g q u v ls → (l : Link) → Contains ls l → AdmitsLink g q l
walk_links g q u v [] walk l (i, below, is) = absurd (omega arith)
walk_links g q u v (m ∷ ls) walk l (zero, below, is) = subst (AdmitsLink g q) is walk.1
walk_links g q u v (m ∷ ls) walk l (suc i, below, is) = walk_links g q m.to v ls walk.2 l (i, omega arith, is)

-- the potentials at the ends of a walk's links, and at their beginnings
abbrev heads : (Addr → ℕ) → List Link → ℕ
heads p ls = total (λ l. p l.to) ls

abbrev tails : (Addr → ℕ) → List Link → ℕ
tails p ls = total (λ l. p l.from) ls

telescope : (g : Rows) (q : Query) (p : Addr → ℕ) (u v : Addr) (ls : List Link) → Walk g q u v ls → p u + heads p ls ≡ p v + tails p ls
telescope g q p u v [] walk = let same : p u ≡ p v = ap p walk.0 in omega (arith, same)
telescope g q p u v (l ∷ ls) walk =
    let rest = telescope g q p l.to v ls walk.2 in
    let begins : p l.from ≡ p u = ap p walk.0 in
    omega (arith, rest, begins)

cost_append : (q : Query) (ls ms : List Link) → cost q (ls ++ ms) ≡ cost q ls + cost q ms
cost_append q [] ms = omega arith
cost_append q (l ∷ ls) ms = let rest = cost_append q ls ms in omega arith

-- how far a link's potential rises beyond its weight
abbrev excess : Query → (Addr → ℕ) → Link → ℕ
excess q p l = p l.to - (p l.from + weight q.metric l)

rises_at_most : (q : Query) (p : Addr → ℕ) (ls : List Link) → heads p ls ≤ tails p ls + cost q ls + total (excess q p) ls
rises_at_most q p [] = omega arith
rises_at_most q p (l ∷ ls) = let rest = rises_at_most q p ls in omega arith

rises_by : (q : Query) (p : Addr → ℕ) (ls : List Link) → ((l : Link) → Contains ls l → p l.from + weight q.metric l ≤ p l.to) →
    heads p ls ≡ tails p ls + cost q ls + total (excess q p) ls
rises_by q p [] used = omega arith
rises_by q p (l ∷ ls) used =
    let rest = rises_by q p ls (λ m has. used m (behind_head l m ls has)) in
    let here = used l (head_of l ls) in
    omega arith

-- the link of a far address
pub link_of : (far : Addr) (ls : List Link) → Contains (map (λ (l : Link). l.far) ls) far → (l : Link) × Contains ls l × (l.far ≡ far)
link_of far [] (i, below, is) = absurd (omega arith)
link_of far (l ∷ ls) (zero, below, is) = (l, head_of l ls, is)
link_of far (l ∷ ls) (suc i, below, is) = let rest = link_of far ls (i, omega arith, is) in (rest.0, behind_head l rest.0 ls rest.1, rest.2)

pub far_among : (l : Link) (ls : List Link) → Contains ls l → Contains (map (λ (k : Link). k.far) ls) l.far
far_among l [] (i, below, is) = absurd (omega arith)
far_among l (m ∷ ls) (zero, below, is) = (0, omega arith, ap (λ (k : Link). k.far) is)
far_among l (m ∷ ls) (suc i, below, is) = behind_head m.far l.far (map (λ (k : Link). k.far) ls) (far_among l ls (i, omega arith, is))

-- the links of a pair are admitted
pair_links : (g : Rows) (q : Query) (s t : Addr) (one other : List Link) → IsPair g q s t one other → (l : Link) → Contains (one ++ other) l → AdmitsLink g q l
pair_links g q s t one other pair l has =
    elim (Contains-append_cases one other l has) [
      | inl first ↦ walk_links g q s t one pair.first_walk l first
      | inr second ↦ walk_links g q s t other pair.second_walk l second
    ]

pub least_pair : (g : Rows) (q : Query) (p : Addr → ℕ) (s t : Addr) (one other : List Link) → IsInOrder g → IsPair g q s t one other →
    ((l : Link) → AdmitsLink g q l → LinkHolds q p (map (λ (k : Link). k.far) (one ++ other)) l) → IsLeastPair g q s t one other
least_pair g q p s t one other order pair holds = record { pair = pair; least = least }
  where
    used : (l : Link) → Contains (one ++ other) l → p l.from + weight q.metric l ≤ p l.to
    used l has = (holds l (pair_links g q s t one other pair l has)).1 (far_among l (one ++ other) has)

    covered : (l : Link) → AdmitsLink g q l → (excess q p l ≡ 0) ⊎ Contains (one ++ other) l
    covered l admitted =
        elim (stands (map (λ (k : Link). k.far) (one ++ other)) l.far) [
          | inl has ↦
              let m = link_of l.far (one ++ other) has in
              let same : m.0 ≡ l = same_link g m.0 l order (pair_links g q s t one other pair m.0 m.1).is_link admitted.is_link m.2 in
              inr (subst (Contains (one ++ other)) same m.1)
          | inr lacks ↦ let rise = (holds l admitted).0 lacks in inl (omega (arith, rise))
        ]

    least : (a b : List Link) → IsPair g q s t a b → pair_sum q one other ≤ pair_sum q a b
    least a b another =
        let charged : total (excess q p) (a ++ b) ≤ total (excess q p) (one ++ other) =
        sum_within (excess q p) (a ++ b) (one ++ other) another.diverse (λ l has. covered l (pair_links g q s t a b another l has)) in
        let first = telescope g q p s t one pair.first_walk in
        let second = telescope g q p s t other pair.second_walk in
        let third = telescope g q p s t a another.first_walk in
        let fourth = telescope g q p s t b another.second_walk in
        let exact = rises_by q p (one ++ other) used in
        let bound = rises_at_most q p (a ++ b) in
        omega (
          arith,
          charged,
          first,
          second,
          third,
          fourth,
          exact,
          bound,
          cost_append q one other,
          cost_append q a b,
          total_append (λ l. p l.to) one other,
          total_append (λ l. p l.from) one other,
          total_append (λ l. p l.to) a b,
          total_append (λ l. p l.from) a b,
        )
