-- The arcs that may still lower a distance, as nodes are settled.
use Rattle.std.proofs.Common.{◌≡◌, ◌≢◌, inl, inr, ℕ, ◌+◌, ◌<◌, ◌≤◌, Bool, true, false, List, [], ◌∷◌, ◌++◌, length, arith, refl, sym, ◌∙◌, ap, subst}
use Rattle.std.specs.Prelude.{Contains, slice_set, nat_lt}
use Rattle.std.specs.declared.option.Option.{Option}
use Rattle.std.proofs.lemmas.Bool.{lt-ltb}
use Rattle.std.proofs.lemmas.Bool.Decides.{eqb_tells}
use Rattle.std.proofs.lemmas.List.{get_or-set_same, get_or-set_other, append-nil, append_assoc}
use Rattle.std.proofs.lemmas.List.Elements.{Contains-append_cases, Contains-push_cases}
use Rattle.std.proofs.Math.ListN.{length-set}
use Rattle.std.proofs.lemmas.List.Sums.{sum_by-set}
use Rattle.te_links.specs.Rows.{Rows}
use Rattle.te_links.specs.Index.{IsLinksInto, IsLinksFrom}
use Rattle.diverse_pairs.specs.declared.arcs.Arc.{Arc}
use Rattle.diverse_pairs.specs.declared.arcs.TheConstants.{UNREACHED}
use Rattle.diverse_pairs.specs.Arcs.{IsArc, at, IsAmong, AreAmong}
use Rattle.diverse_pairs.specs.Along.{AreAlong}
use Rattle.diverse_pairs.specs.Distances.{IsLow, AreLow, Lowers}
use Rattle.diverse_pairs.specs.Settling.{one_if, waiting_count, work, IsLeft, IsOpened, IsResting, Spreads, Settles}
use Rattle.diverse_pairs.proofs.Along.{leads_there}
use Rattle.diverse_pairs.proofs.Lowering.{one_arc, here, others, lower, same_length, lowered, falls}

one_more : (b : Bool) → one_if b ≤ 1
one_more true = omega arith
one_more false = omega arith

far : nat_lt UNREACHED UNREACHED ≡ false
far = refl

-- ---- what is left to do

-- a node that waited waits no longer
pub put_off : (ds ws : List ℕ) (node : ℕ) → node < length ws → at ws node < UNREACHED → work ds (slice_set ws node UNREACHED) < work ds ws
put_off ds ws node inside waits =
    let sums = sum_by-set (λ n. one_if (nat_lt n UNREACHED)) ws node UNREACHED 0 inside in
    let before : one_if (nat_lt (at ws node) UNREACHED) ≡ 1 = ap one_if (lt-ltb (at ws node) UNREACHED waits) in
    let after : one_if (nat_lt UNREACHED UNREACHED) ≡ 0 = ap one_if far in
    omega (arith, sums, before, after)

put_on : (ws : List ℕ) (node d : ℕ) → node < length ws → waiting_count (slice_set ws node d) ≤ waiting_count ws + 1
put_on ws node d inside =
    let sums = sum_by-set (λ n. one_if (nat_lt n UNREACHED)) ws node d 0 inside in
    omega (arith, sums, one_more (nat_lt d UNREACHED))

-- ---- arcs into one node

only : (i j : ℕ) → Contains (i ∷ []) j → i ≡ j
only i j has = elim (Contains-push_cases [] i j has) [ inl nothing ↦ absurd (omega (arith, nothing.1)) | inr one ↦ one ]

-- over an arc that lowers a distance the node at its beginning waits
pub one_falls : (arcs : List (Option Arc)) (t v i : ℕ) (a : Arc) (ds new ws : List ℕ) → IsArc arcs i a → IsAmong (length ds) a → length ws ≡ length ds → a.head ≡ v → Lowers a ds new →
    Spreads arcs t v (i ∷ []) ds new ws (slice_set ws a.tail (at new a.tail))
one_falls arcs t v i a ds new ws is_arc among as_long to_v low = record {
  keeps = record {
    long = same_length arcs t i a ds new is_arc among low;
    as_long = length-set ws a.tail (at new a.tail);
    made = lowered arcs t i a ds new is_arc among low;
    less = omega (arith, falls arcs t i a ds new is_arc among low, put_on ws a.tail (at new a.tail) inside);
  };
  left = λ made more left j b is_b.
      elim (eqb_tells b.head a.tail) [
        | inl at_tail ↦ inr (inl (omega (arith, ap (at next) at_tail.1, now, here arcs t i a ds new is_arc among low, low.better, made.within a.tail)))
        | inr elsewhere ↦
            elim (left j b is_b) [
              | inl is_low ↦ inl (stays_low b is_low elsewhere.1)
              | inr rest ↦ elim rest [
                | inl waits ↦ inr (inl (omega (arith, waits, get_or-set_other ws a.tail b.head (at new a.tail) 0 elsewhere.1)))
                | inr last ↦ elim (Contains-append_cases (i ∷ []) more j last.1) [
                  | inl first ↦ inl (subst (IsLow new) (one_arc arcs i a b is_arc (subst (λ k. IsArc arcs k b) (sym (only i j first)) is_b)) itself)
                  | inr later ↦ inr (inr (last.0, later))
                ]
              ]
            ]
      ];
}
  where
    next : List ℕ
    next = slice_set ws a.tail (at new a.tail)

    inside : a.tail < length ws
    inside = omega (arith, among.tail, as_long)

    now : at next a.tail ≡ at new a.tail
    now = get_or-set_same ws a.tail (at new a.tail) 0 inside

    stays_low : (b : Arc) → IsLow ds b → b.head ≢ a.tail → IsLow new b
    stays_low b is_low elsewhere = omega (arith, is_low, lower arcs t i a ds new is_arc among low b.tail, others arcs t i a ds new is_arc among low b.head elsewhere)

    apart : a.head ≢ a.tail
    apart same = omega (arith, low.better, ap (at ds) same)

    itself : IsLow new a
    itself = omega (arith, here arcs t i a ds new is_arc among low, others arcs t i a ds new is_arc among low a.head apart)

-- one place after others
pub spread_more : (arcs : List (Option Arc)) (t v i : ℕ) (places old now new waiting then next : List ℕ) → Spreads arcs t v places old now waiting then → Spreads arcs t v (i ∷ []) now new then next →
    Spreads arcs t v (places ++ i ∷ []) old new waiting next
spread_more arcs t v i places old now new waiting then next one other = record {
  keeps = record {
    long = other.keeps.long ∙ one.keeps.long;
    as_long = other.keeps.as_long ∙ one.keeps.as_long;
    made = λ made. other.keeps.made (one.keeps.made made);
    less = omega (arith, one.keeps.less, other.keeps.less);
  };
  left = λ made more left. other.left (one.keeps.made made) more (one.left made (i ∷ more) (subst (λ ps. IsLeft arcs v ps old waiting) (append_assoc places (i ∷ []) more) left));
}

-- all arcs that lead to a node stand among the links at it
pub node_settled : (g : Rows) (arcs : List (Option Arc)) (t v : ℕ) (into from old now new waiting then next : List ℕ) → AreAlong g arcs → IsLinksInto g.nodes g.links v into → IsLinksFrom g.nodes g.links v from →
    Spreads arcs t v into old now waiting then → Spreads arcs t v from now new then next → Settles arcs t v old new waiting next
node_settled g arcs t v into from old now new waiting then next along are_into are_from one other = record {
  keeps = record {
    long = other.keeps.long ∙ one.keeps.long;
    as_long = other.keeps.as_long ∙ one.keeps.as_long;
    made = λ made. other.keeps.made (one.keeps.made made);
    less = omega (arith, one.keeps.less, other.keeps.less);
  };
  rests = λ made opened.
      let all : IsLeft arcs v (into ++ from) old waiting = λ i a is_arc.
      elim (opened i a is_arc) [
        | inl low ↦ inl low
        | inr rest ↦ elim rest [ inl waits ↦ inr (inl waits) | inr to_v ↦ inr (inr (to_v, leads_there g arcs along v into from are_into are_from i a is_arc to_v)) ]
      ] in
      let first : IsLeft arcs v from now then = one.left made from all in
      let second : IsLeft arcs v [] new next = other.left (one.keeps.made made) [] (subst (λ ps. IsLeft arcs v ps now then) (sym (append-nil from)) first) in
      λ i a is_arc.
      elim (second i a is_arc) [
        | inl low ↦ inl low
        | inr rest ↦ elim rest [ inl waits ↦ inr waits | inr none ↦ absurd (omega (arith, none.1.1)) ]
      ];
}

-- ---- one node after the other

-- the node that waits no longer is the one that is settled
pub taken_out : (arcs : List (Option Arc)) (node : ℕ) (ds ws : List ℕ) → IsResting arcs ds ws → IsOpened arcs node ds (slice_set ws node UNREACHED)
taken_out arcs node ds ws rests i a is_arc =
    elim (rests i a is_arc) [
      | inl low ↦ inl low
      | inr waits ↦ elim (eqb_tells a.head node) [
        | inl same ↦ inr (inr same.1)
        | inr other ↦ inr (inl (omega (arith, waits, get_or-set_other ws node a.head UNREACHED 0 other.1)))
      ]
    ]

-- where none waits no distance can be lowered
pub all_low : (arcs : List (Option Arc)) (n : ℕ) (ds ws : List ℕ) → AreAmong n arcs → length ws ≡ n → IsResting arcs ds ws → ((i : ℕ) → i < length ws → UNREACHED ≤ at ws i) → AreLow arcs ds
all_low arcs n ds ws among long rests none i a is_arc =
    elim (rests i a is_arc) [
      | inl low ↦ low
      | inr waits ↦ absurd (omega (arith, waits, none a.head (omega (arith, long, (among i a is_arc).head))))
    ]
