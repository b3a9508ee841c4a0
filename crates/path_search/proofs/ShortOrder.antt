-- Pairs are in the order of the labels that they are short for.
use Rattle.std.proofs.Common.{◌≡◌, inl, inr, ℕ, ◌+◌, ◌<◌, ◌≤◌, List, length, replicate, arith, refl, sym, ◌∙◌, ap, subst, None, Some}
use Rattle.std.specs.Prelude.{SomeIff, MatchBool, is_some, slice_get, slice_index_or, slice_set}
use Rattle.std.specs.declared.option.Option.{Option}
use Rattle.std.proofs.Math.ListN.{length-set}
use Rattle.std.proofs.lemmas.Bool.{cases_lt, lt-ltb, le-ltb}
use Rattle.std.proofs.lemmas.Bool.Decides.{eqb_tells}
use Rattle.std.proofs.lemmas.List.{get_or-map, get_or-replicate, get_or_past, length-map, length-replicate, map-set}
use Rattle.std.proofs.lemmas.List.Elements.{All-set}
use Rattle.std.proofs.lemmas.Option.{get_or_from_slice_get, slice_get_within}
use Rattle.dom_base.specs.AddrOrder.{rank}
use Rattle.dom_base.specs.declared.addr.Addr.{Addr}
use Rattle.dom_base.specs.declared.addr.Addr.TheVariants.{V4}
use Rattle.dom_base.specs.declared.limits.TheConstants.{COST_MAX}
use Rattle.dom_base.specs.declared.query.Label.{Label}
use Rattle.walk_laws.specs.Certificate.{AtMost}
use Rattle.path_search.specs.declared.arc.Arc.{Arc}
use Rattle.path_search.specs.declared.blocks.TheConstants.{NOTHING}
use Rattle.path_search.specs.declared.short.Short.{Short}
use Rattle.path_search.specs.Arcs.{label_at, joined, IsBelow, IsRelaxed, Lowers}
use Rattle.path_search.specs.Front.{cost_of}
use Rattle.path_search.specs.Short.{long_of, label_if, label_by, labels_by, put_before, IsLess, IsShort, DoRise, AreShort, no_label}
use Rattle.path_search.specs.Starts.{Offers}
use Rattle.path_search.proofs.Relaxing.{IsWritten, written, below_most, low_not_relaxed, same_le}

pub label_small : (exits : List Addr) (s : Short) → s.cost < NOTHING → label_by exits s ≡ Some (long_of exits s)
label_small exits s small = ap (λ b. label_if b exits s) (lt-ltb s.cost NOTHING small)

pub label_none : (exits : List Addr) (s : Short) → NOTHING ≤ s.cost → label_by exits s ≡ None
label_none exits s past = ap (λ b. label_if b exits s) (le-ltb s.cost NOTHING past)

-- what stands for a label has its cost and its exit
pub label_is : (exits : List Addr) (s : Short) (b : Label) → label_by exits s ≡ Some b → (s.cost < NOTHING) × (long_of exits s ≡ b)
label_is exits s b is =
    elim (cases_lt s.cost NOTHING) [
      | inl small ↦
          let both : Some (long_of exits s) ≡ Some b = sym (label_small exits s small) ∙ is in
          let same : long_of exits s ≡ b = cc in (small, same)
      | inr past ↦ absurd (let no_label_there : Option Label = None in let bad : no_label_there ≡ Some b = sym (label_none exits s past) ∙ is in cc)
    ]

-- a cost, and one more, is less than the number that stands for none
pub cost_small : (n : ℕ) → n ≤ COST_MAX → 1 + n < NOTHING
cost_small n most = omega (arith, most)

-- of exits that rise, one that comes before another has the lower place
place_less : (exits : List Addr) (i j : ℕ) → DoRise exits → i < length exits → rank (slice_index_or exits i (V4 0)) < rank (slice_index_or exits j (V4 0)) → i < j
place_less exits i j rise inside less =
    elim (cases_lt i j) [
      | inl lt ↦ lt
      | inr ge ↦ absurd (
          elim (cases_lt j i) [
            | inl gt ↦ let up = rise j i (V4 0) gt inside in let no : ⊥ = omega (arith, up, less) in no
            | inr le ↦
                let same : i ≡ j = omega (arith, ge, le) in
                let one = ap (λ k. rank (slice_index_or exits k (V4 0))) same in
                let no : ⊥ = omega (arith, one, less) in no
          ]
          )
    ]

pub less_below : (exits : List Addr) (a b : Short) → DoRise exits → IsShort exits b → a.cost < NOTHING → IsLess a b → IsBelow (long_of exits a) (label_by exits b)
less_below exits a b rise held small less =
    elim (cases_lt b.cost NOTHING) [
      | inl also ↦ subst (IsBelow (long_of exits a)) (sym (label_small exits b also)) (by_place also less)
      | inr past ↦ subst (IsBelow (long_of exits a)) (sym (label_none exits b past)) tt
    ]
  where
    by_place : b.cost < NOTHING → IsLess a b → IsBelow (long_of exits a) (Some (long_of exits b))
    by_place also (inl lt) = inl lt
    by_place also (inr le) = inr (le.0, rise a.exit b.exit (V4 0) le.1 (held.exit also))

pub below_less : (exits : List Addr) (a b : Short) → DoRise exits → a.exit < length exits → a.cost < NOTHING → IsBelow (long_of exits a) (label_by exits b) → IsLess a b
below_less exits a b rise inside small below =
    elim (cases_lt b.cost NOTHING) [
      | inl also ↦ by_place (subst (IsBelow (long_of exits a)) (label_small exits b also) below)
      | inr past ↦ inl (omega (arith, small, past))
    ]
  where
    by_place : IsBelow (long_of exits a) (Some (long_of exits b)) → IsLess a b
    by_place (inl lt) = inl lt
    by_place (inr le) = inr (le.0, place_less exits a.exit b.exit rise inside le.1)

-- ---- rows

pub at_row : (exits : List Addr) (rows : List Short) (i : ℕ) (s : Short) → slice_get rows i ≡ Some s → label_at (labels_by exits rows) i ≡ label_by exits s
at_row exits rows i s at = get_or-map (label_by exits) rows i s None (slice_get_within rows i s at) ∙ ap (label_by exits) (get_or_from_slice_get rows i s s at)

pub held_at : (exits : List Addr) (rows : List Short) (i : ℕ) (s : Short) → AreShort exits rows → slice_get rows i ≡ Some s → IsShort exits s
held_at exits rows i s are at = subst (IsShort exits) (get_or_from_slice_get rows i s s at) (are.each i s (slice_get_within rows i s at))

pub label_here : (exits : List Addr) (rows : List Short) (i : ℕ) (s : Short) → slice_get rows i ≡ Some s → s.cost ≤ COST_MAX → label_at (labels_by exits rows) i ≡ Some (long_of exits s)
label_here exits rows i s at most = at_row exits rows i s at ∙ label_small exits s (omega (arith, cost_small s.cost most))

pub no_label_here : (exits : List Addr) (rows : List Short) (i : ℕ) (s : Short) → AreShort exits rows → slice_get rows i ≡ Some s → (s.cost ≤ COST_MAX → ⊥) → label_at (labels_by exits rows) i ≡ None
no_label_here exits rows i s are at never =
    elim (cases_lt s.cost NOTHING) [
      | inl small ↦ absurd (never ((held_at exits rows i s are at).cost small))
      | inr past ↦ at_row exits rows i s at ∙ label_none exits s past
    ]

pub cost_here : (exits : List Addr) (rows : List Short) (i : ℕ) (s : Short) (cost : Option ℕ) → AreShort exits rows → slice_get rows i ≡ Some s → SomeIff cost (s.cost ≤ COST_MAX) s.cost →
    cost ≡ cost_of (label_at (labels_by exits rows) i)
cost_here exits rows i s None are at told = sym (ap cost_of (no_label_here exits rows i s are at told))
cost_here exits rows i s (Some n) are at told = ap (λ k. Some k) told.1 ∙ sym (ap cost_of (label_here exits rows i s at told.0))

-- a label with an arc put before it, where that is less, lowers the label of the arc's tail
pub lowered_short : (exits : List Addr) (rows : List Short) (cap : ℕ) (a : Arc) (t h : Short) → AreShort exits rows → slice_get rows a.tail ≡ Some t → slice_get rows a.head ≡ Some h →
    cap ≤ COST_MAX → a.weight + h.cost ≤ cap → IsLess (put_before a.weight h) t →
    Lowers cap a (labels_by exits rows) (labels_by exits (slice_set rows a.tail (put_before a.weight h)))
lowered_short exits rows cap a t h are at_tail at_head bound within less =
    let found : Short = put_before a.weight h in
    let small : found.cost < NOTHING = omega (arith, cost_small cap bound, within) in
    let h_small : h.cost < NOTHING = omega (arith, cost_small cap bound, within) in
    record {
      rest = long_of exits h;
      at_head = at_row exits rows a.head h at_head ∙ label_small exits h h_small;
      within = within;
      cost_fits = omega (arith, cost_small cap bound, within);
      better = subst (IsBelow (long_of exits found)) (sym (at_row exits rows a.tail t at_tail)) (less_below exits found t are.rise (held_at exits rows a.tail t are at_tail) small less);
      is = map-set (label_by exits) rows a.tail found ∙ ap (λ (o : Option Label). slice_set (labels_by exits rows) a.tail o) (label_small exits found small);
    }

-- what is not above a label is at most that
pub not_below : (b : Label) (o : Option Label) → (IsBelow b o → ⊥) → AtMost o b
not_below b None never = never tt
not_below b (Some a) never =
    elim (cases_lt a.cost b.cost) [
      | inl less ↦ inl less
      | inr ge ↦ elim (cases_lt b.cost a.cost) [
        | inl more ↦ absurd (never (inl more))
        | inr le ↦ elim (cases_lt (rank b.exit) (rank a.exit)) [
          | inl exit ↦ absurd (never (inr (omega (arith, ge, le), exit)))
          | inr exit ↦ inr (omega (arith, ge, le), exit)
        ]
      ]
    ]

-- where no label within the cap is less, the arc is relaxed
pub relaxed_short : (exits : List Addr) (rows : List Short) (cap : ℕ) (a : Arc) (t h : Short) → AreShort exits rows → slice_get rows a.tail ≡ Some t → slice_get rows a.head ≡ Some h →
    cap ≤ COST_MAX → ((a.weight + h.cost ≤ cap) × IsLess (put_before a.weight h) t → ⊥) → IsRelaxed cap (labels_by exits rows) a
relaxed_short exits rows cap a t h are at_tail at_head bound never rest is within =
    let found : Short = put_before a.weight h in
    let has = label_is exits h rest (sym (at_row exits rows a.head h at_head) ∙ is) in
    let fits : a.weight + h.cost ≤ cap = omega (arith, within, ap (λ (b : Label). b.cost) has.1) in
    let small : found.cost < NOTHING = omega (arith, cost_small cap bound, fits) in
    let inside : h.exit < length exits = (held_at exits rows a.head h are at_head).exit has.0 in
    let most : AtMost (label_by exits t) (long_of exits found) =
    not_below (long_of exits found) (label_by exits t) (λ below. never (fits, below_less exits found t are.rise inside small below)) in
    subst (λ (r : Label). AtMost (label_at (labels_by exits rows) a.tail) (joined a r)) has.1
    (subst (λ (o : Option Label). AtMost o (long_of exits found)) (sym (at_row exits rows a.tail t at_tail)) most)

-- what is told of the lowered label tells whether the arc is relaxed
pub told_lowers : (exits : List Addr) (rows : List Short) (cap : ℕ) (a : Arc) (t h : Short) (found : Option Short) → AreShort exits rows → slice_get rows a.tail ≡ Some t → slice_get rows a.head ≡ Some h →
    cap ≤ COST_MAX → SomeIff found ((a.weight + h.cost ≤ cap) × IsLess (put_before a.weight h) t) (put_before a.weight h) →
    MatchBool (is_some found) (¬ IsRelaxed cap (labels_by exits rows) a) (IsRelaxed cap (labels_by exits rows) a)
told_lowers exits rows cap a t h None are at_tail at_head bound never = relaxed_short exits rows cap a t h are at_tail at_head bound never
told_lowers exits rows cap a t h (Some s) are at_tail at_head bound told =
    low_not_relaxed cap (labels_by exits rows) (labels_by exits (slice_set rows a.tail (put_before a.weight h))) a
    (lowered_short exits rows cap a t h are at_tail at_head bound told.0.0 told.0.1)

-- a row that is short for a label is written
pub held_set : (exits : List Addr) (rows : List Short) (i : ℕ) (s : Short) → AreShort exits rows → s.cost ≤ COST_MAX → s.exit < length exits → AreShort exits (slice_set rows i s)
held_set exits rows i s are most inside = record {
  rise = are.rise;
  each = All-set (IsShort exits) rows i s (record { cost = λ _. most; exit = λ _. inside }) are.each;
}

-- ---- seeds

-- the cost and the place of the exit of a label are short for it
pub long_is : (exits : List Addr) (label : Label) (cost exit : ℕ) → cost ≡ label.cost → slice_get exits exit ≡ Some label.exit → long_of exits (record { cost = cost; exit = exit }) ≡ label
long_is exits label cost exit is at =
    ap (λ k. let l : Label = record { cost = k; exit = slice_index_or exits exit (V4 0) } in l) is
    ∙ ap (λ e. let l : Label = record { cost = label.cost; exit = e } in l) (get_or_from_slice_get exits exit label.exit (V4 0) at)

pub offers_less : (exits : List Addr) (rows : List Short) (place : ℕ) (found t : Short) (label : Label) → AreShort exits rows → slice_get rows place ≡ Some t →
    found.cost ≤ COST_MAX → long_of exits found ≡ label → IsLess found t → Offers place label (labels_by exits rows) (labels_by exits (slice_set rows place found))
offers_less exits rows place found t label are at most is_label less =
    let old : List (Option Label) = labels_by exits rows in
    let new : List (Option Label) = labels_by exits (slice_set rows place found) in
    let small : found.cost < NOTHING = omega (arith, cost_small found.cost most) in
    let below_t : IsBelow (long_of exits found) (label_by exits t) = less_below exits found t are.rise (held_at exits rows place t are at) small less in
    let below : IsBelow label (label_at old place) = subst (λ (b : Label). IsBelow b (label_at old place)) is_label (subst (IsBelow (long_of exits found)) (sym (at_row exits rows place t at)) below_t) in
    let is : new ≡ slice_set old place (Some label) =
    map-set (label_by exits) rows place found ∙ ap (λ (o : Option Label). slice_set old place o) (label_small exits found small ∙ ap (λ (b : Label). Some b) is_label) in
    let w : IsWritten old new place label = written old new place label (omega (arith, slice_get_within rows place t at, length-map rows (label_by exits))) is in
    record {
      same_length = ap length is ∙ simp length-set;
      here = subst (λ (o : Option Label). AtMost o label) (sym w.here) (same_le label label refl);
      no_higher = λ i b was. elim (eqb_tells i place) [
        | inl same ↦
            let at_i : label_at new i ≡ Some label = ap (label_at new) same.1 ∙ w.here in
            let was_here : AtMost (label_at old place) b = subst (λ n. AtMost (label_at old n) b) same.1 was in
            subst (λ (o : Option Label). AtMost o b) (sym at_i) (below_most label (label_at old place) b below was_here)
        | inr other ↦ subst (λ (o : Option Label). AtMost o b) (sym (w.others i other.1)) was
      ];
      made = λ i b stands. elim (eqb_tells i place) [
        | inl same ↦
            let both : Some label ≡ Some b = sym (ap (label_at new) same.1 ∙ w.here) ∙ stands in
            let one : b ≡ label = cc in
            inr (same.1, one)
        | inr other ↦ inl (sym (w.others i other.1) ∙ stands)
      ];
    }

pub offers_kept : (exits : List Addr) (rows : List Short) (place : ℕ) (found t : Short) (label : Label) → AreShort exits rows → slice_get rows place ≡ Some t →
    found.cost ≤ COST_MAX → found.exit < length exits → long_of exits found ≡ label → (IsLess found t → ⊥) → Offers place label (labels_by exits rows) (labels_by exits rows)
offers_kept exits rows place found t label are at most inside is_label never =
    let ls : List (Option Label) = labels_by exits rows in
    let small : found.cost < NOTHING = omega (arith, cost_small found.cost most) in
    record {
      same_length = refl;
      here = subst (AtMost (label_at ls place)) is_label
          (not_below (long_of exits found) (label_at ls place)
          (λ below. never (below_less exits found t are.rise inside small (subst (IsBelow (long_of exits found)) (at_row exits rows place t at) below))));
      no_higher = λ i b was. was;
      made = λ i b stands. inl stands;
    }

-- at first there is no label
pub none_at : (exits : List Addr) (n i : ℕ) (b : Label) → label_at (labels_by exits (replicate n no_label)) i ≡ Some b → ⊥
none_at exits n i b stands =
    elim (cases_lt i n) [
      | inl below ↦
          let long : length (replicate n no_label) ≡ n = length-replicate n no_label in
          let here : label_at (labels_by exits (replicate n no_label)) i ≡ None =
          get_or-map (label_by exits) (replicate n no_label) i no_label None (omega (arith, below, long))
          ∙ ap (label_by exits) (get_or-replicate n i no_label no_label below) ∙ label_none exits no_label (omega arith) in
          let bad = sym here ∙ stands in cc
      | inr past ↦
          let long : length (replicate n no_label) ≡ n = length-replicate n no_label in
          let here : label_at (labels_by exits (replicate n no_label)) i ≡ None =
          get_or_past (labels_by exits (replicate n no_label)) i None (omega (arith, past, long, length-map (replicate n no_label) (label_by exits))) in
          let bad = sym here ∙ stands in cc
    ]

pub none_held : (exits : List Addr) (n : ℕ) → DoRise exits → AreShort exits (replicate n no_label)
none_held exits n rise = record {
  rise = rise;
  each = λ i d below.
      let long : length (replicate n no_label) ≡ n = length-replicate n no_label in
      let is : slice_index_or (replicate n no_label) i d ≡ no_label = get_or-replicate n i no_label d (omega (arith, below, long)) in
      subst (IsShort exits) (sym is) (record { cost = λ small. absurd (omega (arith, small)); exit = λ small. absurd (omega (arith, small)) });
}
