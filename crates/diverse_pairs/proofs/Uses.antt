-- Arcs in use, by their marks or by distances.
use Rattle.std.proofs.Common.{◌≡◌, inl, inr, ℕ, ◌+◌, ◌==◌, Bool, true, false, List, refl, sym, ◌∙◌, ap, subst, arith, None, Some}
use Rattle.std.specs.Prelude.{nat_lt, slice_index_or, if◌then◌else◌}
use Rattle.std.specs.declared.option.Option.{Option}
use Rattle.std.proofs.lemmas.Bool.{lt-ltb, ltb-true}
use Rattle.std.proofs.lemmas.Bool.Decides.{eqb_tells}
use Rattle.std.proofs.lemmas.List.{get_or-map}
use Rattle.diverse_pairs.specs.declared.arcs.Arc.{Arc}
use Rattle.diverse_pairs.specs.declared.arcs.TheConstants.{UNREACHED}
use Rattle.diverse_pairs.specs.Arcs.{IsArc, at, is_used}
use Rattle.diverse_pairs.specs.Distances.{IsTight, AreTight}
use Rattle.diverse_pairs.specs.Uses.{HasNoneAt, tight_mark, tight_marks}
use Rattle.diverse_pairs.specs.Listed.{BeginsElsewhere}
use Rattle.diverse_pairs.proofs.Lowering.{arc_within}
use Rattle.diverse_pairs.proofs.FirstAmong.{HasNoneBefore}

tight_if : (ds : List ℕ) (a : Arc) → tight_mark ds (Some a) ≡ true → IsTight ds a
tight_if ds a marked = go (nat_lt (at ds a.tail) UNREACHED) refl marked
  where
    go : (b : Bool) → nat_lt (at ds a.tail) UNREACHED ≡ b → (if b then (at ds a.tail == a.weight + at ds a.head) else false) ≡ true → IsTight ds a
    go true lt is = elim (eqb_tells (at ds a.tail) (a.weight + at ds a.head)) [
      | inl same ↦ record { reached = ltb-true (at ds a.tail) UNREACHED lt; sum = same.1 }
      | inr other ↦ let bad : false ≡ true = sym other.0 ∙ is in cc
    ]
    go false past is = let bad : false ≡ true = is in cc

if_tight : (ds : List ℕ) (a : Arc) → IsTight ds a → tight_mark ds (Some a) ≡ true
if_tight ds a t =
    elim (eqb_tells (at ds a.tail) (a.weight + at ds a.head)) [
      | inl same ↦ rw (lt-ltb (at ds a.tail) UNREACHED t.reached, same.0) refl
      | inr other ↦ absurd (other.1 t.sum)
    ]

mark_there : (ds : List ℕ) (arcs : List (Option Arc)) (i : ℕ) (a : Arc) → IsArc arcs i a → is_used (tight_marks ds arcs) i ≡ tight_mark ds (Some a)
mark_there ds arcs i a is_arc = get_or-map (tight_mark ds) arcs i None false (arc_within arcs i a is_arc) ∙ ap (tight_mark ds) is_arc

-- the marks of tight arcs are those of the tight arcs
pub tight_marked : (ds : List ℕ) (arcs : List (Option Arc)) → AreTight arcs ds (tight_marks ds arcs)
tight_marked ds arcs i a is_arc = (
  λ marked. tight_if ds a (sym (mark_there ds arcs i a is_arc) ∙ marked),
  λ t. mark_there ds arcs i a is_arc ∙ if_tight ds a t,
)

-- where none begins at the node, none in use does
pub none_here : (arcs : List (Option Arc)) (marks : List Bool) (from i : ℕ) → BeginsElsewhere arcs i from → HasNoneAt arcs marks from i
none_here arcs marks from i elsewhere a is_a used tail = elsewhere a is_a tail

-- one more place has none that begins at the node
pub none_more : (arcs : List (Option Arc)) (marks : List Bool) (from : ℕ) (places : List ℕ) (k : ℕ) → HasNoneBefore arcs marks from places k →
    HasNoneAt arcs marks from (slice_index_or places k 0) → HasNoneBefore arcs marks from places (k + 1)
none_more arcs marks from places k before here m b up is_b used tail =
    elim (eqb_tells m k) [
      | inl same ↦
          let at : slice_index_or places m 0 ≡ slice_index_or places k 0 = ap (λ n. slice_index_or places n 0) same.1 in
          here b (subst (λ i. IsArc arcs i b) at is_b) (sym (ap (is_used marks) at) ∙ used) tail
      | inr other ↦ before m b (omega (arith, up, other.1)) is_b used tail
    ]
