-- Rows within the limits.
use Rattle.std.proofs.Common.{◌≡◌, ◌⊎◌, inl, inr, ℕ, zero, suc, ◌+◌, ◌*◌, ◌<◌, ◌≤◌, ◌==◌, Bool, true, false, not, cond, List, [], ◌∷◌, length, map, take, Some, refl, sym, ◌∙◌, ap, subst, arith}
use Rattle.std.specs.Prelude.{All, count_by, filter, slice_get}
use Rattle.std.proofs.lemmas.Bool.{cases_lt}
use Rattle.std.proofs.lemmas.Bool.Decides.{Decides-eqb}
use Rattle.std.proofs.lemmas.List.{take-map, length-map, take_all}
use Rattle.std.proofs.lemmas.List.Elements.{All-head, All-tail, All-cons, All-nil}
use Rattle.std.proofs.lemmas.List.Sums.{sum_by-cons, sum_by_more}
use Rattle.std.proofs.lemmas.Option.{slice_get_cases, slice_get_within, get_or_from_slice_get}
use Rattle.dom_base.specs.declared.addr.Addr.TheVariants.{V4}
use Rattle.dom_base.specs.declared.addr.Addr.{Addr}
use Rattle.te_links.specs.declared.rows.OutLink.{OutLink}
use Rattle.te_links.specs.declared.rows.Entry.{Entry}
use Rattle.te_links.specs.declared.fault.TopoFault.TheVariants.{TooMany}
use Rattle.te_links.specs.declared.fault.RowKind.TheVariants.{Entry as EntryRow}
use Rattle.te_links.specs.Rows.{Rows, FewDifferent, FewEntries}
use Rattle.te_links.specs.Faults.{OutBreaks, EntryBreaks}
use Rattle.te_links.specs.Survey.{IsFewUpTo}
use Rattle.te_links.specs.Checks.{NoneBefore}
use Rattle.te_links.proofs.Different.{front_few}
use Rattle.te_links.proofs.Sound.{entries_stable}

-- whether an entry is of a domain
abbrev of_domain : ℕ → Entry → Bool
of_domain a e = e.from_as.0 == a

abbrev others : ℕ → List Entry → List Entry
others a = filter (λ e. not (of_domain a e))

split_by_domain : (a : ℕ) (xs : List Entry) → length xs ≡ count_by (of_domain a) xs + length (others a xs)
split_by_domain a [] = refl
split_by_domain a (e ∷ xs) =
    let tail = split_by_domain a xs in
    let go : (b : Bool) → suc (length xs) ≡ (cond b 1 0 + count_by (of_domain a) xs) + length (cond (not b) (e ∷ others a xs) (others a xs)) =
    λ b. elim b as (λ t. suc (length xs) ≡ (cond t 1 0 + count_by (of_domain a) xs) + length (cond (not t) (e ∷ others a xs) (others a xs))) [
      | true ↦ omega (arith, tail)
      | false ↦ omega (arith, tail)
    ] in
    go (of_domain a e) ∙ ap (λ n. n + length (others a (e ∷ xs))) (sym (sum_by-cons (λ f. cond (of_domain a f) 1 0) e xs))

fewer_others : (a other : ℕ) (xs : List Entry) → count_by (of_domain other) (others a xs) ≤ count_by (of_domain other) xs
fewer_others a other [] = omega arith
fewer_others a other (e ∷ xs) =
    let tail = fewer_others a other xs in
    let here = sum_by-cons (λ f. cond (of_domain other f) 1 0) e xs in
    let go : (b : Bool) → count_by (of_domain other) (cond b (e ∷ others a xs) (others a xs)) ≤ count_by (of_domain other) (e ∷ xs) =
    λ b. elim b as (λ t. count_by (of_domain other) (cond t (e ∷ others a xs) (others a xs)) ≤ count_by (of_domain other) (e ∷ xs)) [
      | true ↦ let kept = sum_by-cons (λ f. cond (of_domain other f) 1 0) e (others a xs) in omega (arith, tail, here, kept)
      | false ↦ omega (arith, tail, here)
    ] in
    go (not (of_domain a e))

below_others : (a : ℕ) (xs : List Entry) → All (λ e. e.from_as.0 < suc a) xs → All (λ e. e.from_as.0 < a) (others a xs)
below_others a [] all = All-nil (λ e. e.from_as.0 < a)
below_others a (e ∷ xs) all =
    let tail = below_others a xs (All-tail (λ f. f.from_as.0 < suc a) e xs all) in
    let head : e.from_as.0 < suc a = All-head (λ f. f.from_as.0 < suc a) e xs all in
    let go : (b : Bool) → of_domain a e ≡ b → All (λ f. f.from_as.0 < a) (cond (not b) (e ∷ others a xs) (others a xs)) =
    λ b. elim b as (λ t. of_domain a e ≡ t → All (λ f. f.from_as.0 < a) (cond (not t) (e ∷ others a xs) (others a xs))) [
      | true ↦ λ is. tail
      | false ↦ λ is.
          let differs : e.from_as.0 ≡ a → ⊥ = λ same. (let t = (Decides-eqb e.from_as.0 a).1 same in let both : true ≡ false = sym t ∙ is in cc) in
          All-cons (λ f. f.from_as.0 < a) e (others a xs) (omega (arith, head, differs)) tail
    ] in
    go (of_domain a e) refl

-- few entries for each of n domains are few in all
pub few_in_all : (n : ℕ) (xs : List Entry) → FewEntries xs → All (λ e. e.from_as.0 < n) xs → length xs ≤ 16 * n
few_in_all zero xs few all =
    let some : Entry = record { from_as = record { 0 = 0 }; node = V4 0 } in
    elim (cases_lt 0 (length xs)) [
      | inl has ↦ absurd (omega (arith, all 0 some has))
      | inr none ↦ omega arith
    ]
few_in_all (suc n) xs few all =
    let rest = few_in_all n (others n xs) (λ other. omega (arith, few other, fewer_others n other.0 xs)) (below_others n xs all) in
    let here = few (record { 0 = n }) in
    omega (arith, rest, here, split_by_domain n xs)

-- the entries before the first breach are few
pub few_so_far : (g : Rows) (n : ℕ) → NoneBefore g EntryRow n → FewEntries (take n g.entries)
few_so_far g zero none = λ other. omega arith
few_so_far g (suc n) none =
    elim (slice_get_cases g.entries n).1 [
      | inl has ↦
          let one_more : n + 1 ≡ suc n = omega arith in
          subst (λ m. FewEntries (take m g.entries)) one_more
          (entries_stable (take (n + 1) g.entries) (λ many. none.none n TooMany (omega arith) (has.0, has.2, inl many)))
      | inr past ↦
          let short = few_so_far g n (record { none = λ i other less. none.none i other (omega arith) }) in
          subst FewEntries (take_all n g.entries past.0 ∙ sym (take_all (suc n) g.entries (omega (arith, past.0)))) short
    ]

-- the limit on different nodes
pub within_different : (most : ℕ) (keys : List Addr) (n i : ℕ) → IsFewUpTo most keys n → i < n → FewDifferent most (take (i + 1) keys)
within_different most keys n i upto less = front_few most keys (i + 1) n (omega arith) upto.within upto.few

pub past_different : (most : ℕ) (keys : List Addr) (n i : ℕ) → IsFewUpTo most keys n → n ≤ i → i < length keys → ¬ FewDifferent most (take (i + 1) keys)
past_different most keys n i upto le inside few = upto.ends (omega arith) (front_few most keys (n + 1) (i + 1) (omega arith) (omega arith) few)

pub out_few : (g : Rows) (i n : ℕ) (o : OutLink) → slice_get g.outs i ≡ Some o → IsFewUpTo 16 (map (λ p. p.link.from) g.outs) n →
    ¬ ((256 ≤ i) ⊎ (8 < length o.link.srlgs) ⊎ (n ≤ i)) → ¬ OutBreaks g i o TooMany
out_few g i n o at upto within breaks =
    elim breaks [
      | inl past ↦ within (inl past)
      | inr other ↦ elim other [
        | inl many ↦ within (inr (inl many))
        | inr many ↦ elim (cases_lt i n) [
          | inl lt ↦ many (subst (FewDifferent 16) (take-map (λ (p : OutLink). p.link.from) (i + 1) g.outs) (within_different 16 (map (λ p. p.link.from) g.outs) n i upto lt))
          | inr ge ↦ within (inr (inr ge))
        ]
      ]
    ]

pub out_many : (g : Rows) (i n : ℕ) (o : OutLink) → slice_get g.outs i ≡ Some o → IsFewUpTo 16 (map (λ p. p.link.from) g.outs) n →
    (256 ≤ i) ⊎ (8 < length o.link.srlgs) ⊎ (n ≤ i) → OutBreaks g i o TooMany
out_many g i n o at upto past =
    elim past [
      | inl great ↦ inl great
      | inr other ↦ elim other [
        | inl many ↦ inr (inl many)
        | inr ge ↦ inr (inr (λ few.
            past_different 16 (map (λ p. p.link.from) g.outs) n i upto ge (omega (arith, slice_get_within g.outs i o at, length-map g.outs (λ (p : OutLink). p.link.from)))
            (subst (FewDifferent 16) (sym (take-map (λ (p : OutLink). p.link.from) (i + 1) g.outs)) few)))
      ]
    ]

-- one entry more for a domain
one_more_entry : (entries : List Entry) (i : ℕ) (e : Entry) (other : ℕ) → slice_get entries i ≡ Some e →
    count_by (of_domain other) (take (i + 1) entries) ≡ count_by (of_domain other) (take i entries) + cond (of_domain other e) 1 0
one_more_entry entries i e other at =
    sum_by_more (λ f. cond (of_domain other f) 1 0) entries i e (slice_get_within entries i e at)
    ∙ ap (λ (f : Entry). count_by (of_domain other) (take i entries) + cond (of_domain other f) 1 0) (get_or_from_slice_get entries i e e at)

pub entry_few : (g : Rows) (i n v : ℕ) (e : Entry) → slice_get g.entries i ≡ Some e → IsFewUpTo 64 (map (λ f. f.node) g.entries) n →
    v ≡ count_by (λ f. f.from_as.0 == e.from_as.0) (take i g.entries) → FewEntries (take i g.entries) → ¬ ((16 ≤ v) ⊎ (n ≤ i)) → ¬ EntryBreaks g i e TooMany
entry_few g i n v e at upto is few within breaks =
    elim breaks [
      | inl many ↦ many (λ other.
          let more = one_more_entry g.entries i e other.0 at in
          let before = few other in
          let go : (b : Bool) → of_domain other.0 e ≡ b → count_by (of_domain other.0) (take i g.entries) + cond b 1 0 ≤ 16 =
          λ b. elim b as (λ t. of_domain other.0 e ≡ t → count_by (of_domain other.0) (take i g.entries) + cond t 1 0 ≤ 16) [
            | true ↦ λ same.
                let number : e.from_as.0 ≡ other.0 = (Decides-eqb e.from_as.0 other.0).0 same in
                let here : v ≡ count_by (of_domain other.0) (take i g.entries) = is ∙ ap (λ a. count_by (of_domain a) (take i g.entries)) number in
                elim (cases_lt v 16) [ inl lt ↦ omega (arith, lt, here) | inr ge ↦ absurd (within (inl ge)) ]
            | false ↦ λ other_one. omega (arith, before)
          ] in
          omega (arith, more, go (of_domain other.0 e) refl))
      | inr many ↦ elim (cases_lt i n) [
        | inl lt ↦ many (subst (FewDifferent 64) (take-map (λ (f : Entry). f.node) (i + 1) g.entries) (within_different 64 (map (λ f. f.node) g.entries) n i upto lt))
        | inr ge ↦ within (inr ge)
      ]
    ]

pub entry_many : (g : Rows) (i n v : ℕ) (e : Entry) → slice_get g.entries i ≡ Some e → IsFewUpTo 64 (map (λ f. f.node) g.entries) n →
    v ≡ count_by (λ f. f.from_as.0 == e.from_as.0) (take i g.entries) → (16 ≤ v) ⊎ (n ≤ i) → EntryBreaks g i e TooMany
entry_many g i n v e at upto is past =
    elim past [
      | inl great ↦ inl (λ few.
          let more = one_more_entry g.entries i e e.from_as.0 at in
          let here : of_domain e.from_as.0 e ≡ true = (Decides-eqb e.from_as.0 e.from_as.0).1 refl in
          let one : ◌≡◌ {A = ℕ} (cond (of_domain e.from_as.0 e) 1 0) 1 = ap (λ (b : Bool). let n : ℕ = cond b 1 0 in n) here in
          omega (arith, great, is, more, one, few e.from_as))
      | inr ge ↦ inr (λ few.
          past_different 64 (map (λ f. f.node) g.entries) n i upto ge (omega (arith, slice_get_within g.entries i e at, length-map g.entries (λ (f : Entry). f.node)))
          (subst (FewDifferent 64) (sym (take-map (λ (f : Entry). f.node) (i + 1) g.entries)) few))
    ]
