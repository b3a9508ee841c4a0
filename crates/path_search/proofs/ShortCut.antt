-- Pairs that are cut are short for labels that are cut.
use Rattle.std.proofs.Common.{◌≡◌, inl, inr, ℕ, ◌+◌, ◌<◌, ◌≤◌, List, [], ◌∷◌, ◌++◌, Bool, true, false, length, map, take, drop, arith, refl, sym, ◌∙◌, ap, subst, None, Some}
use Rattle.std.specs.Prelude.{All, nat_lt, slice_index_or, slice_set}
use Rattle.std.specs.declared.option.Option.{Option}
use Rattle.std.proofs.lemmas.Bool.{cases_lt, lt-ltb, ltb-true, le-ltb}
use Rattle.std.proofs.lemmas.List.{length-map, map-append, take_all, take_more, take_more_set, take-append-le}
use Rattle.std.proofs.lemmas.List.Elements.{All-map}
use Rattle.dom_base.specs.declared.addr.Addr.{Addr}
use Rattle.dom_base.specs.declared.limits.TheConstants.{COST_MAX}
use Rattle.dom_base.specs.declared.query.Label.{Label}
use Rattle.walk_laws.specs.Capped.{cut, cut_if}
use Rattle.path_search.specs.declared.blocks.TheConstants.{NOTHING}
use Rattle.path_search.specs.declared.short.Short.{Short}
use Rattle.path_search.specs.Short.{long_of, label_by, labels_by, IsShort, AreShort, cut_short_if, cut_short}
use Rattle.path_search.proofs.ShortOrder.{label_small, label_none, cost_small}

-- one pair
cut_one : (exits : List Addr) (c : ℕ) (s : Short) → c ≤ COST_MAX → label_by exits (cut_short c s) ≡ cut c (label_by exits s)
cut_one exits c s bound = go (nat_lt c s.cost) refl
  where
    go : (b : Bool) → nat_lt c s.cost ≡ b → label_by exits (cut_short_if b s) ≡ cut c (label_by exits s)
    go true more =
        elim (cases_lt s.cost NOTHING) [
          | inl small ↦ label_none exits (cut_short_if true s) (omega arith) ∙ sym (ap (cut c) (label_small exits s small) ∙ ap (λ b. cut_if b (long_of exits s)) more)
          | inr past ↦ label_none exits (cut_short_if true s) (omega arith) ∙ sym (ap (cut c) (label_none exits s past))
        ]
    go false few =
        let within : s.cost ≤ c = elim (cases_lt c s.cost) [
          | inl lt ↦ absurd (let bad : true ≡ false = sym (lt-ltb c s.cost lt) ∙ few in cc)
          | inr ge ↦ ge
        ] in
        let small : s.cost < NOTHING = (let k = cost_small c bound in omega (arith, k, within)) in
        label_small exits s small ∙ sym (ap (cut c) (label_small exits s small) ∙ ap (λ b. cut_if b (long_of exits s)) few)

-- all of them
pub cut_by : (exits : List Addr) (c : ℕ) (rows : List Short) → c ≤ COST_MAX → labels_by exits (map (cut_short c) rows) ≡ map (cut c) (labels_by exits rows)
cut_by exits c [] bound = refl
cut_by exits c (s ∷ rows) bound = ap (λ (o : Option Label). o ∷ labels_by exits (map (cut_short c) rows)) (cut_one exits c s bound) ∙ ap (λ (os : List (Option Label)). cut c (label_by exits s) ∷ os) (cut_by exits c rows bound)

short_one : (exits : List Addr) (c : ℕ) (s : Short) → IsShort exits s → IsShort exits (cut_short c s)
short_one exits c s h = go (nat_lt c s.cost)
  where
    go : (b : Bool) → IsShort exits (cut_short_if b s)
    go true = record { cost = λ small. absurd (omega (arith, small)); exit = λ small. absurd (omega (arith, small)) }
    go false = h

-- and they are short for labels as before
pub cut_held : (exits : List Addr) (c : ℕ) (rows : List Short) → AreShort exits rows → AreShort exits (map (cut_short c) rows)
cut_held exits c rows h = record {
  rise = h.rise;
  each = All-map (IsShort exits) (cut_short c) rows (λ k d below. short_one exits c (slice_index_or rows k d) (h.each k d below));
}

-- one more of them
pub cut_more : (c : ℕ) (old rows : List Short) (k : ℕ) (x d : Short) → k < length rows → length rows ≡ length old → take k rows ≡ map (cut_short c) (take k old) →
    slice_index_or rows k d ≡ slice_index_or old k d → x ≡ cut_short c (slice_index_or rows k d) → take (k + 1) (slice_set rows k x) ≡ map (cut_short c) (take (k + 1) old)
cut_more c old rows k x d below long part here is =
    let y : Short = cut_short c (slice_index_or old k d) in
    let same : x ≡ y = is ∙ ap (cut_short c) here in
    take_more_set rows k x below ∙ ap (λ (xs : List Short). xs ++ x ∷ []) part ∙ ap (λ (z : Short). map (cut_short c) (take k old) ++ z ∷ []) same
    ∙ sym (ap (map (cut_short c)) (take_more old k d (omega (arith, below, long))) ∙ map-append (cut_short c) (take k old) (slice_index_or old k d ∷ []))

-- what is written through the slice of a vector is the whole of it
pub written_whole : (rows new : List Short) (n c : ℕ) → n ≡ length rows → new ≡ map (cut_short c) rows → take n (new ++ drop (length new) rows) ≡ map (cut_short c) rows
written_whole rows new n c long is =
    let same : length new ≡ length rows = ap (λ (xs : List Short). length xs) is ∙ length-map rows (cut_short c) in
    take-append-le n new (drop (length new) rows) (omega (arith, long, same)) ∙ take_all n new (omega (arith, long, same)) ∙ is
