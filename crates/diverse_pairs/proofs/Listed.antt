-- What a walk leaves, as a list that is worked out place by place.
use Rattle.std.proofs.Common.{◌≡◌, ◌≢◌, inl, inr, ℕ, ◌<◌, Bool, true, false, not, List, length, arith, sym, ◌∙◌, ap, None, Some}
use Rattle.std.specs.Prelude.{MatchOption, slice_index_or}
use Rattle.std.specs.declared.option.Option.{Option}
use Rattle.std.proofs.lemmas.Bool.{cases_lt}
use Rattle.std.proofs.lemmas.Bool.Decides.{eqb_tells}
use Rattle.std.proofs.lemmas.List.{get_or_past}
use Rattle.std.proofs.lemmas.List.FromFn.{length-map-range_with_len, get_or-map-range_with_len}
use Rattle.diverse_pairs.specs.declared.arcs.Arc.{Arc}
use Rattle.diverse_pairs.specs.declared.arcs.TheConstants.{UNREACHED}
use Rattle.diverse_pairs.specs.Arcs.{IsArc, at, is_used}
use Rattle.diverse_pairs.specs.Listed.{LeadsTo, LeadsElsewhere, BeginsAt, BeginsElsewhere}
use Rattle.diverse_pairs.specs.Residual.{residual_arc, residual_of, end_with, left_arcs, AreResidual}

module _ (arcs : List (Option Arc)) (ds : List ℕ) (us : List Bool) where
  abbrev left_one : ℕ → Option Arc
  left_one i = residual_of ds (is_used us i) (slice_index_or arcs i None)

  pub left_long : length (left_arcs ds us arcs) ≡ length arcs
  left_long = length-map-range_with_len left_one 0 (length arcs)

  pub left_inside : (i : ℕ) → i < length (left_arcs ds us arcs) → i < length arcs
  left_inside i inside = omega (arith, inside, left_long)

  pub left_each : (i : ℕ) → slice_index_or (left_arcs ds us arcs) i None ≡ residual_of ds (is_used us i) (slice_index_or arcs i None)
  left_each i =
      elim (cases_lt i (length arcs)) [
        | inl inside ↦ get_or-map-range_with_len left_one 0 (length arcs) i i None inside (omega arith)
        | inr past ↦
            get_or_past (left_arcs ds us arcs) i None (omega (arith, left_long, past))
            ∙ sym (ap (residual_of ds (is_used us i)) (get_or_past arcs i None past))
      ]

  pub left_residual : AreResidual arcs ds us (left_arcs ds us arcs)
  left_residual = record { long = left_long; each = left_each }

  left_here : (i : ℕ) (arc : Arc) → IsArc arcs i arc → slice_index_or (left_arcs ds us arcs) i None ≡ residual_of ds (is_used us i) (Some arc)
  left_here i arc is_arc = left_each i ∙ ap (residual_of ds (is_used us i)) is_arc

  -- there is no arc at the place
  no_arc : (i : ℕ) → slice_index_or arcs i None ≡ None → (a : Arc) → IsArc (left_arcs ds us arcs) i a → ⊥
  no_arc i none a is_arc = let e : None ≡ Some a = sym (left_each i ∙ ap (residual_of ds (is_used us i)) none) ∙ is_arc in cc

  -- what is left of an arc is the arc, one way or the other
  left_is : (used : Bool) (arc a : Arc) → residual_of ds used (Some arc) ≡ Some a → residual_arc ds used arc ≡ a
  left_is used arc a is =
      elim (eqb_tells (at ds arc.head) UNREACHED) [
        | inl far ↦ let none : None ≡ Some a = rw far.0 at is in cc
        | inr reached ↦ let both : Some (residual_arc ds used arc) ≡ Some a = rw reached.0 at is in cc
      ]

  head_there : (used : Bool) (arc a : Arc) → residual_arc ds used arc ≡ a → a.head ≡ end_with used arc
  head_there false arc a is = sym (ap (λ r. r.head) is)
  head_there true arc a is = sym (ap (λ r. r.head) is)

  tail_there : (used : Bool) (arc a : Arc) → residual_arc ds used arc ≡ a → a.tail ≡ end_with (not used) arc
  tail_there false arc a is = sym (ap (λ r. r.tail) is)
  tail_there true arc a is = sym (ap (λ r. r.tail) is)

  ends_there : (i : ℕ) (arc a : Arc) → IsArc arcs i arc → IsArc (left_arcs ds us arcs) i a → a.head ≡ end_with (is_used us i) arc
  ends_there i arc a is_arc is_a = head_there (is_used us i) arc a (left_is (is_used us i) arc a (sym (left_here i arc is_arc) ∙ is_a))

  starts_there : (i : ℕ) (arc a : Arc) → IsArc arcs i arc → IsArc (left_arcs ds us arcs) i a → a.tail ≡ end_with (not (is_used us i)) arc
  starts_there i arc a is_arc is_a = tail_there (is_used us i) arc a (left_is (is_used us i) arc a (sym (left_here i arc is_arc) ∙ is_a))

  module _ (i node : ℕ) where
    pub none_into : slice_index_or arcs i None ≡ None → LeadsElsewhere (left_arcs ds us arcs) i node
    none_into none a is_arc to = no_arc i none a is_arc

    pub none_from : slice_index_or arcs i None ≡ None → BeginsElsewhere (left_arcs ds us arcs) i node
    none_from none a is_arc to = no_arc i none a is_arc

    module _ (arc : Arc) (is_arc : IsArc arcs i arc) where
      -- what is left of an arc that ends elsewhere does not lead to the node
      pub elsewhere_into : end_with (is_used us i) arc ≢ node → LeadsElsewhere (left_arcs ds us arcs) i node
      elsewhere_into apart a is_a to = apart (sym (ends_there i arc a is_arc is_a) ∙ to)

      pub elsewhere_from : end_with (not (is_used us i)) arc ≢ node → BeginsElsewhere (left_arcs ds us arcs) i node
      elsewhere_from apart a is_a to = apart (sym (starts_there i arc a is_arc is_a) ∙ to)

      -- and of one that ends there it does, if anything is left
      pub found_into : end_with (is_used us i) arc ≡ node → (o : Option Arc) → o ≡ residual_of ds (is_used us i) (Some arc) →
          MatchOption o (LeadsElsewhere (left_arcs ds us arcs) i node) (LeadsTo (left_arcs ds us arcs) i node)
      found_into to None none = λ a is_a same. let e : None ≡ Some a = none ∙ sym (left_here i arc is_arc) ∙ is_a in cc
      found_into to (Some r) some = let is_r = left_here i arc is_arc ∙ sym some in (is_r, ends_there i arc r is_arc is_r ∙ to)

      pub found_from : end_with (not (is_used us i)) arc ≡ node → (o : Option Arc) → o ≡ residual_of ds (is_used us i) (Some arc) →
          MatchOption o (BeginsElsewhere (left_arcs ds us arcs) i node) (BeginsAt (left_arcs ds us arcs) i node)
      found_from to None none = λ a is_a same. let e : None ≡ Some a = none ∙ sym (left_here i arc is_arc) ∙ is_a in cc
      found_from to (Some r) some = let is_r = left_here i arc is_arc ∙ sym some in (is_r, starts_there i arc r is_arc is_r ∙ to)
