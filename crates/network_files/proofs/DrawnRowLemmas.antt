-- Rows by the numbers of nodes, one after the other.
use Rattle.std.proofs.Common.{◌≡◌, ◌+◌, ◌∙◌, ℕ, zero, suc, Bool, cond, List, [], ◌∷◌, ◌++◌, length, map, refl, sym, ap, arith, append_assoc}
use Rattle.std.specs.List.{filter, flat_map, range_with_len}
use Rattle.std.proofs.lemmas.List.{append-nil}
use Rattle.std.proofs.lemmas.List.FromFn.{filter_of_map_range_with_len_more, map-range_with_len_more}
use Rattle.dom_base.specs.declared.addr.Addr.{Addr}
use Rattle.network_files.specs.declared.drawn_rows.Span.{Span}
use Rattle.network_files.specs.DrawnRows.{are_joined, node, nodes_of, numbers, span, spans, spans_to}

-- ---- nodes

pub one_node_more : (d number n : ℕ) (nodes new : List Addr) (made : Addr) → 1 + n ≡ number → nodes ≡ map (node d) (range_with_len 1 n) → new ≡ nodes ++ made ∷ [] → made ≡ node d number →
    (x : ℕ) × (1 + x ≡ number + 1) × (new ≡ map (node d) (range_with_len 1 x))
one_node_more d number n nodes new made place so_far pushed is = (
  n + 1,
  omega (arith, place),
  pushed
      ∙ (ap (λ (l : List Addr). l ++ made ∷ []) so_far
      ∙ (ap (λ (a : Addr). map (node d) (range_with_len 1 n) ++ a ∷ []) is
      ∙ sym (map-range_with_len_more (node d) 1 n number place))),
)

pub all_nodes : (d n : ℕ) (nodes : List Addr) → n ≡ 50 → nodes ≡ map (node d) (range_with_len 1 n) → nodes ≡ nodes_of d
unfolding numbers
all_nodes d n nodes all so_far = so_far ∙ ap (λ (k : ℕ). map (node d) (range_with_len 1 k)) all

-- ---- spans

abbrev pub joined : Span → Bool
joined s = are_joined s.from s.to

pub one_span_more : (to from n : ℕ) (before items new : List Span) → 1 + n ≡ from → items ≡ before ++ filter joined (map (span to) (range_with_len 1 n)) →
    new ≡ items ++ cond (are_joined from to) (span to from ∷ []) [] → (x : ℕ) × (1 + x ≡ from + 1) × (new ≡ before ++ filter joined (map (span to) (range_with_len 1 x)))
one_span_more to from n before items new place so_far added =
    let last = cond (are_joined from to) (span to from ∷ []) [] in
    let old = filter joined (map (span to) (range_with_len 1 n)) in (
      n + 1,
      omega (arith, place),
      added
          ∙ (ap (λ (l : List Span). l ++ last) so_far
          ∙ (append_assoc before old last
          ∙ ap (λ (l : List Span). before ++ l) (sym (filter_of_map_range_with_len_more joined (span to) 1 n from place)))),
    )

pub all_spans_to : (to n : ℕ) (before items : List Span) → n ≡ 50 → items ≡ before ++ filter joined (map (span to) (range_with_len 1 n)) → items ≡ before ++ spans_to to
unfolding numbers
all_spans_to to n before items all so_far = so_far ∙ ap (λ (k : ℕ). before ++ filter joined (map (span to) (range_with_len 1 k))) all

flat_suc : {X : Type 0} (f : ℕ → List X) (n a : ℕ) → flat_map f (range_with_len a (suc n)) ≡ flat_map f (range_with_len a n) ++ f (a + n)
flat_suc f zero a = let same : a ≡ a + 0 = omega arith in append-nil (f a) ∙ ap f same
flat_suc {X} f (suc n) a =
    let same : (a + 1) + n ≡ a + suc n = omega arith in
    ap (λ (l : List X). f a ++ l) (flat_suc f n (a + 1) ∙ ap (λ (k : ℕ). flat_map f (range_with_len (a + 1) n) ++ f k) same)
    ∙ sym (append_assoc (f a) (flat_map f (range_with_len (a + 1) n)) (f (a + suc n)))

pub one_turn_more : (to n : ℕ) (items new : List Span) → 1 + n ≡ to → items ≡ flat_map spans_to (range_with_len 1 n) → new ≡ items ++ spans_to to →
    (x : ℕ) × (1 + x ≡ to + 1) × (new ≡ flat_map spans_to (range_with_len 1 x))
one_turn_more to n items new place so_far added =
    let next : n + 1 ≡ suc n = omega arith in (
      n + 1,
      omega (arith, place),
      added
          ∙ (ap (λ (l : List Span). l ++ spans_to to) so_far
          ∙ (ap (λ (k : ℕ). flat_map spans_to (range_with_len 1 n) ++ spans_to k) (sym place)
          ∙ (sym (flat_suc spans_to n 1)
          ∙ ap (λ (k : ℕ). flat_map spans_to (range_with_len 1 k)) (sym next)))),
    )

pub all_spans : (n : ℕ) (items : List Span) → n ≡ 50 → items ≡ flat_map spans_to (range_with_len 1 n) → items ≡ spans
unfolding spans numbers
all_spans n items all so_far = so_far ∙ ap (λ (k : ℕ). flat_map spans_to (range_with_len 1 k)) all

pub spans_count : length spans ≡ 106
unfolding spans numbers
spans_count = refl
