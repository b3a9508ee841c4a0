-- Rows for the nodes that have a height, and the nodes that have no distance, one place further.
use Rattle.std.proofs.Common.{◌≡◌, inl, inr, ℕ, ◌+◌, ◌-◌, ◌<◌, ◌≤◌, List, [], ◌∷◌, ◌++◌, length, arith, refl, sym, ◌∙◌, ap, subst, Some}
use Rattle.std.specs.Prelude.{Contains, AllPairs, slice_get, slice_index_or}
use Rattle.std.proofs.lemmas.Bool.{cases_lt}
use Rattle.std.proofs.lemmas.List.{get_or_default, get_or_append_left, get_or_at, length_push}
use Rattle.std.proofs.lemmas.List.Quantifiers.{all_pairs_push}
use Rattle.std.proofs.lemmas.List.Elements.{Contains-append_cases}
use Rattle.std.proofs.lemmas.Option.{slice_get_within, get_or_from_slice_get}
use Rattle.dom_base.specs.AddrOrder.{rank}
use Rattle.dom_base.specs.declared.addr.Addr.{Addr}
use Rattle.te_links.specs.Rows.{Rows, IsInOrder}
use Rattle.diverse_pairs.specs.declared.arcs.TheConstants.{UNREACHED}
use Rattle.diverse_pairs.specs.Arcs.{at}
use Rattle.diverse_pairs.specs.Shown.{IsTop, IsHigh, ArePotentials, IsCutOff, AreCutOff}
use Rattle.diverse_pairs.proofs.Linked.{one_node}

pub rises : (g : Rows) → IsInOrder g → (i j : ℕ) (n m : Addr) → i < j → slice_get g.nodes i ≡ Some n → slice_get g.nodes j ≡ Some m → rank n < rank m
rises g order i j n m before at_i at_j =
    let up = order.nodes i j m before (slice_get_within g.nodes j m at_j) in
    omega (arith, up, ap rank (get_or_from_slice_get g.nodes i n m at_i), ap rank (get_or_from_slice_get g.nodes j m m at_j))

kept_left : {X : Type 0} (xs : List X) (y x : X) → Contains xs x → Contains (xs ++ y ∷ []) x
kept_left xs y x (k, below, is) = (k, omega (arith, below, length_push xs y), get_or_append_left xs (y ∷ []) x k below ∙ is)

put_right : {X : Type 0} (xs : List X) (y : X) → Contains (xs ++ y ∷ []) y
put_right xs y = (length xs, omega (arith, length_push xs y), get_or_at xs y [] y (length xs) refl)

alone : {X : Type 0} (y x : X) → Contains (y ∷ []) x → y ≡ x
alone y x (k, below, is) = elim (cases_lt k 1) [
  | inl lt ↦ let zero_is : 0 ≡ k = omega arith in subst (λ j. slice_index_or (y ∷ []) j x ≡ x) (sym zero_is) is
  | inr ge ↦ absurd (omega arith)
]

-- the nodes before place k
pub record CutSoFar (g : Rows) (distances : List ℕ) (k : ℕ) (nodes : List Addr) : Type 0 where
  pub rising : AllPairs (λ a b. rank a < rank b) nodes
  pub whole : (i : ℕ) (n : Addr) → i < k → IsCutOff g distances i n → Contains nodes n
  pub sound : (n : Addr) → Contains nodes n → (i : ℕ) × (i < k) × IsCutOff g distances i n

pub cut_more : (g : Rows) (distances : List ℕ) (k : ℕ) (nodes : List Addr) (n : Addr) → IsInOrder g → CutSoFar g distances k nodes → slice_get g.nodes k ≡ Some n → at distances k ≡ UNREACHED →
    CutSoFar g distances (k + 1) (nodes ++ n ∷ [])
cut_more g distances k nodes n order c at_k lacks = record {
  rising = all_pairs_push (λ a b. rank a < rank b) nodes n c.rising (λ j d below.
      let s = c.sound (slice_index_or nodes j d) (j, below, get_or_default nodes j (slice_index_or nodes j d) d below) in
      rises g order s.0 k (slice_index_or nodes j d) n s.1 s.2.at_place at_k);
  whole = λ i m before off. elim (cases_lt i k) [
    | inl lt ↦ kept_left nodes n m (c.whole i m lt off)
    | inr ge ↦ let same : i ≡ k = omega arith in subst (Contains (nodes ++ n ∷ [])) (one_node g.nodes k n m at_k (ap (slice_get g.nodes) (sym same) ∙ off.at_place)) (put_right nodes n)
  ];
  sound = λ m has. elim (Contains-append_cases nodes (n ∷ []) m has) [
    | inl old ↦ let s = c.sound m old in (s.0, omega (arith, s.1), s.2)
    | inr new ↦ (k, omega arith, record { at_place = at_k ∙ ap (λ (x : Addr). Some x) (alone n m new); lacks = lacks })
  ];
}

pub cut_same : (g : Rows) (distances : List ℕ) (k : ℕ) (nodes : List Addr) → CutSoFar g distances k nodes → (at distances k ≡ UNREACHED → ⊥) → CutSoFar g distances (k + 1) nodes
cut_same g distances k nodes c has = record {
  rising = c.rising;
  whole = λ i m before off. elim (cases_lt i k) [
    | inl lt ↦ c.whole i m lt off
    | inr ge ↦ let same : i ≡ k = omega arith in absurd (has (ap (at distances) (sym same) ∙ off.lacks))
  ];
  sound = λ m stands. let s = c.sound m stands in (s.0, omega (arith, s.1), s.2);
}

pub cut_done : (g : Rows) (distances : List ℕ) (k : ℕ) (nodes : List Addr) → CutSoFar g distances k nodes → length g.nodes ≤ k → AreCutOff g distances nodes
cut_done g distances k nodes c past = record {
  rising = c.rising;
  whole = λ i n off. c.whole i n (omega (arith, past, slice_get_within g.nodes i n off.at_place)) off;
  sound = λ n has. let s = c.sound n has in (s.0, s.2);
}

-- the rows before place k
pub record RowsSoFar (g : Rows) (heights : List ℕ) (top k : ℕ) (rows : List (Addr × ℕ)) : Type 0 where
  pub rising : AllPairs (λ a b. rank a.0 < rank b.0) rows
  pub whole : (i : ℕ) (n : Addr) → i < k → IsHigh g heights i n → Contains rows (n, top - at heights i)
  pub sound : (n : Addr) (p : ℕ) → Contains rows (n, p) → (i : ℕ) × (i < k) × IsHigh g heights i n

pub no_rows : (g : Rows) (heights : List ℕ) (top : ℕ) → RowsSoFar g heights top 0 []
no_rows g heights top = record {
  rising = λ i j d before below. absurd (omega arith);
  whole = λ i n before. absurd (omega arith);
  sound = λ n p has. absurd (omega (arith, has.1));
}

pub row_more : (g : Rows) (heights : List ℕ) (top k : ℕ) (rows : List (Addr × ℕ)) (n : Addr) → IsInOrder g → RowsSoFar g heights top k rows → slice_get g.nodes k ≡ Some n → at heights k < UNREACHED →
    RowsSoFar g heights top (k + 1) (rows ++ (n, top - at heights k) ∷ [])
row_more g heights top k rows n order c at_k reached = record {
  rising = all_pairs_push (λ (a : Addr × ℕ) b. rank a.0 < rank b.0) rows (n, top - at heights k) c.rising (λ j d below.
      let r = slice_index_or rows j d in
      let s = c.sound r.0 r.1 (j, below, get_or_default rows j r d below) in
      rises g order s.0 k r.0 n s.1 s.2.at_place at_k);
  whole = λ i m before high. elim (cases_lt i k) [
    | inl lt ↦ kept_left rows (n, top - at heights k) (m, top - at heights i) (c.whole i m lt high)
    | inr ge ↦
        let same : k ≡ i = omega arith in
        let node : n ≡ m = one_node g.nodes k n m at_k (ap (slice_get g.nodes) same ∙ high.at_place) in
        let row : Addr → ℕ → Addr × ℕ = λ x y. (x, y) in
        subst (Contains (rows ++ (n, top - at heights k) ∷ [])) (ap (λ x. row x (top - at heights k)) node ∙ ap (λ j. row m (top - at heights j)) same) (put_right rows (n, top - at heights k))
  ];
  sound = λ m p has. elim (Contains-append_cases rows ((n, top - at heights k) ∷ []) (m, p) has) [
    | inl old ↦ let s = c.sound m p old in (s.0, omega (arith, s.1), s.2)
    | inr new ↦ (k, omega arith, record { at_place = at_k ∙ ap (λ (x : Addr × ℕ). Some x.0) (alone (n, top - at heights k) (m, p) new); reached = reached })
  ];
}

pub row_same : (g : Rows) (heights : List ℕ) (top k : ℕ) (rows : List (Addr × ℕ)) → RowsSoFar g heights top k rows → (at heights k < UNREACHED → ⊥) → RowsSoFar g heights top (k + 1) rows
row_same g heights top k rows c lacks = record {
  rising = c.rising;
  whole = λ i m before high. elim (cases_lt i k) [
    | inl lt ↦ c.whole i m lt high
    | inr ge ↦ let same : i ≡ k = omega arith in absurd (lacks (omega (arith, high.reached, ap (at heights) same)))
  ];
  sound = λ m p stands. let s = c.sound m p stands in (s.0, omega (arith, s.1), s.2);
}

pub rows_done : (g : Rows) (heights : List ℕ) (top k : ℕ) (rows : List (Addr × ℕ)) → IsTop heights top → RowsSoFar g heights top k rows → length g.nodes ≤ k → ArePotentials g heights top rows
rows_done g heights top k rows is_top c past = record {
  is_top = is_top;
  rising = c.rising;
  whole = λ i n high. c.whole i n (omega (arith, past, slice_get_within g.nodes i n high.at_place)) high;
  sound = λ n p has. let s = c.sound n p has in (s.0, s.2);
}
