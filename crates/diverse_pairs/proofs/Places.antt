-- Places of links along a path, none of which stands twice, and the far addresses of the links.
use Rattle.std.proofs.Common.{◌≡◌, ◌≢◌, ◌⊎◌, inl, inr, ℕ, zero, suc, ◌<◌, List, [], ◌∷◌, ◌++◌, length, map, arith, refl, sym, ◌∙◌, ap, subst, Some}
use Rattle.std.specs.Prelude.{AllPairs, slice_get, slice_index_or}
use Rattle.std.proofs.lemmas.Bool.{cases_lt}
use Rattle.std.proofs.lemmas.List.{get_or-map, length-map}
use Rattle.std.proofs.lemmas.Option.{slice_get_within, get_or_from_slice_get}
use Rattle.dom_base.specs.AddrOrder.{rank}
use Rattle.dom_base.specs.declared.addr.Addr.{Addr}
use Rattle.dom_base.specs.declared.link.Link.{Link}
use Rattle.te_links.specs.Rows.{Rows, IsInOrder}
use Rattle.path_search.specs.Segments.{AreAt}
use Rattle.path_search.proofs.OpenForm.{same_length}
use Rattle.diverse_pairs.proofs.Flow.{Among, Fresh}

-- links with one far address stand at one place
pub one_far : (g : Rows) → IsInOrder g → (i j : ℕ) (l m : Link) → slice_get g.links i ≡ Some l → slice_get g.links j ≡ Some m → rank l.far ≡ rank m.far → i ≡ j
one_far g order i j l m at_i at_j same = elim (cases_lt i j) [
  | inl lt ↦ absurd (falls i j l m lt at_i at_j same)
  | inr ge ↦ elim (cases_lt j i) [ inl lt ↦ absurd (falls j i m l lt at_j at_i (sym same)) | inr le ↦ omega arith ]
]
  where
    falls : (a b : ℕ) (x y : Link) → a < b → slice_get g.links a ≡ Some x → slice_get g.links b ≡ Some y → rank x.far ≡ rank y.far → ⊥
    falls a b x y lt at_a at_b one =
        let up = order.links a b x lt (slice_get_within g.links b y at_b) in
        omega (arith, up, one, ap (λ (z : Link). rank z.far) (get_or_from_slice_get g.links a x x at_a), ap (λ (z : Link). rank z.far) (get_or_from_slice_get g.links b y x at_b))

pub place_at : (links : List Link) (is : List ℕ) (ls : List Link) (k : ℕ) (d : Link) → AreAt links is ls → k < length ls → slice_get links (slice_index_or is k 0) ≡ Some (slice_index_or ls k d)
place_at links [] [] k d at below = absurd (omega arith)
place_at links [] (l ∷ ls) k d at below = absurd at
place_at links (i ∷ is) [] k d at below = absurd at
place_at links (i ∷ is) (l ∷ ls) zero d at below = at.0
place_at links (i ∷ is) (l ∷ ls) (suc k) d at below = place_at links is ls k d at.1 (omega arith)

among_get : (is : List ℕ) (k : ℕ) → k < length is → Among is (slice_index_or is k 0)
among_get [] k below = absurd (omega arith)
among_get (i ∷ is) zero below = inl refl
among_get (i ∷ is) (suc k) below = inr (among_get is k (omega arith))

pub fresh_differ : (is : List ℕ) (j k : ℕ) → Fresh is → j < k → k < length is → slice_index_or is j 0 ≡ slice_index_or is k 0 → ⊥
fresh_differ [] j k fresh before below same = omega arith
fresh_differ (i ∷ is) j zero fresh before below same = omega arith
fresh_differ (i ∷ is) zero (suc k) fresh before below same = fresh.0 (subst (Among is) (sym same) (among_get is k (omega arith)))
fresh_differ (i ∷ is) (suc j) (suc k) fresh before below same = fresh_differ is j k fresh.1 (omega arith) (omega arith) same

pub fars_differ : (g : Rows) (is : List ℕ) (ls : List Link) → IsInOrder g → AreAt g.links is ls → Fresh is → AllPairs (λ a b. a ≢ b) (map (λ (l : Link). l.far) ls)
fars_differ g is [] order at fresh j k d before below same = absurd (omega arith)
fars_differ g is (m ∷ ls) order at fresh j k d before below same =
    let all : List Link = m ∷ ls in
    let long : length (map (λ (l : Link). l.far) all) ≡ length all = length-map {A = Link} {B = Addr} all (λ l. l.far) in
    let at_j = place_at g.links is all j m at (omega (arith, before, below, long)) in
    let at_k = place_at g.links is all k m at (omega (arith, below, long)) in
    let far_j : slice_index_or (map (λ (l : Link). l.far) all) j d ≡ (slice_index_or all j m).far = get_or-map (λ (l : Link). l.far) all j m d (omega (arith, before, below, long)) in
    let far_k : slice_index_or (map (λ (l : Link). l.far) all) k d ≡ (slice_index_or all k m).far = get_or-map (λ (l : Link). l.far) all k m d (omega (arith, below, long)) in
    let ranks : rank (slice_index_or all j m).far ≡ rank (slice_index_or all k m).far = ap rank (sym far_j ∙ same ∙ far_k) in
    fresh_differ is j k fresh before (omega (arith, below, long, same_length g.links is all at)) (one_far g order (slice_index_or is j 0) (slice_index_or is k 0) (slice_index_or all j m) (slice_index_or all k m) at_j at_k ranks)

pub at_append : (links : List Link) (is js : List ℕ) (ls ms : List Link) → AreAt links is ls → AreAt links js ms → AreAt links (is ++ js) (ls ++ ms)
at_append links [] js [] ms one other = other
at_append links [] js (l ∷ ls) ms one other = absurd one
at_append links (i ∷ is) js [] ms one other = absurd one
at_append links (i ∷ is) js (l ∷ ls) ms one other = (one.0, at_append links is js ls ms one.1 other)

among_append : (is js : List ℕ) (k : ℕ) → Among (is ++ js) k → Among is k ⊎ Among js k
among_append [] js k among = inr among
among_append (i ∷ is) js k (inl same) = inl (inl same)
among_append (i ∷ is) js k (inr among) = elim (among_append is js k among) [ inl left ↦ inl (inr left) | inr right ↦ inr right ]

pub fresh_append : (is js : List ℕ) → Fresh is → Fresh js → ((k : ℕ) → Among is k → Among js k → ⊥) → Fresh (is ++ js)
fresh_append [] js one other apart = other
fresh_append (i ∷ is) js one other apart = (
  λ among. elim (among_append is js i among) [ inl left ↦ one.0 left | inr right ↦ apart i (inl refl) right ],
  fresh_append is js one.1 other (λ k left right. apart k (inr left) right),
)
