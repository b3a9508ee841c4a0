-- The first arc in use from a node, of those at places that rise.
use Rattle.std.proofs.Common.{◌≡◌, ◌⊎◌, inl, inr, ℕ, ◌<◌, ◌≤◌, Bool, true, List, ◌++◌, length, arith, refl, sym, ◌∙◌, ap, subst}
use Rattle.std.specs.Prelude.{AllPairs, Contains, MatchOption, Some, None, slice_index_or}
use Rattle.std.specs.declared.option.Option.{Option}
use Rattle.std.proofs.lemmas.Bool.{cases_lt}
use Rattle.std.proofs.lemmas.List.{get_or_default}
use Rattle.std.proofs.lemmas.List.Elements.{Contains-append_cases}
use Rattle.te_links.specs.Rows.{Rows}
use Rattle.te_links.specs.Index.{IsLinksInto, IsLinksFrom}
use Rattle.diverse_pairs.specs.declared.arcs.Arc.{Arc}
use Rattle.diverse_pairs.specs.declared.lowest.Step.{Step}
use Rattle.diverse_pairs.specs.Along.{AreAlong}
use Rattle.diverse_pairs.specs.Arcs.{IsArc, is_used, HasArcFrom}
use Rattle.diverse_pairs.specs.Paths.{IsFirstFrom, IsFirstAmong, HasNoneAmong}
use Rattle.diverse_pairs.proofs.Along.{begins_there}

-- none of the first k places has one
abbrev pub HasNoneBefore : List (Option Arc) → List Bool → ℕ → List ℕ → ℕ → Type 0
HasNoneBefore arcs in_use from places k =
    (m : ℕ) (b : Arc) → m < k → IsArc arcs (slice_index_or places m 0) b → is_used in_use (slice_index_or places m 0) ≡ true → b.tail ≡ from → ⊥

module _ (arcs : List (Option Arc)) (in_use : List Bool) (from : ℕ) (places : List ℕ) where
  pub none_among : (k : ℕ) → length places ≤ k → HasNoneBefore arcs in_use from places k → HasNoneAmong arcs in_use from places
  none_among k all none j b has is_b used tail =
      let at : slice_index_or places has.0 0 ≡ j = get_or_default places has.0 0 j has.1 ∙ has.2 in
      none has.0 b (omega (arith, has.1, all)) (subst (λ i. IsArc arcs i b) (sym at) is_b) (ap (is_used in_use) at ∙ used) tail

  -- the one at place k is the first, where none stands before it
  pub first_here : (k : ℕ) (a : Arc) → AllPairs (λ i j. i < j) places → k < length places → HasNoneBefore arcs in_use from places k → IsArc arcs (slice_index_or places k 0) a →
      is_used in_use (slice_index_or places k 0) ≡ true → a.tail ≡ from → IsFirstAmong arcs in_use from places (slice_index_or places k 0) a.head
  first_here k a rising inside none is_a used tail = record {
    arc = a;
    is_arc = is_a;
    used = used;
    tail = tail;
    same_head = refl;
    first = λ j b has is_b used_b tail_b.
        let at : slice_index_or places has.0 0 ≡ j = get_or_default places has.0 0 j has.1 ∙ has.2 in
        elim (cases_lt has.0 k) [
          | inl before ↦ absurd (none has.0 b before (subst (λ i. IsArc arcs i b) (sym at) is_b) (ap (is_used in_use) at ∙ used_b) tail_b)
          | inr later ↦ elim (cases_lt k has.0) [
            | inl lt ↦ omega (arith, rising k has.0 0 lt has.1, at)
            | inr ge ↦ let same : has.0 ≡ k = omega arith in omega (arith, at, ap (λ n. slice_index_or places n 0) same)
          ]
        ];
  }

-- the first of each of two lists, or that it has none
abbrev Told : List (Option Arc) → List Bool → ℕ → List ℕ → Option Step → Type 0
Told arcs in_use u places found = MatchOption found (HasNoneAmong arcs in_use u places) (λ step. IsFirstAmong arcs in_use u places step.arc step.head)

module _ (g : Rows) (arcs : List (Option Arc)) (in_use : List Bool) (u : ℕ) (into from : List ℕ) (along : AreAlong g arcs) (are_into : IsLinksInto g.nodes g.links u into)
    (are_from : IsLinksFrom g.nodes g.links u from) (onward back : Option Step) (on : Told arcs in_use u from onward) (off : Told arcs in_use u into back) where
  -- the first of one list is the first of all, where none of the other comes before it
  first_of : (mine other : List ℕ) (step : Step) → IsFirstAmong arcs in_use u mine step.arc step.head → ((j : ℕ) → Contains (from ++ into) j → Contains mine j ⊎ Contains other j) →
      ((j : ℕ) (b : Arc) → Contains other j → IsArc arcs j b → is_used in_use j ≡ true → b.tail ≡ u → step.arc ≤ j) → IsFirstFrom arcs in_use u step.arc step.head
  first_of mine other step is cases later = record {
    arc = is.arc;
    is_arc = is.is_arc;
    used = is.used;
    tail = is.tail;
    same_head = is.same_head;
    first = λ j b is_b used tail.
        elim (cases j (begins_there g arcs along u into from are_into are_from j b is_b tail)) [
          | inl here ↦ is.first j b here is_b used tail
          | inr there ↦ later j b there is_b used tail
        ];
  }

  turned : (j : ℕ) → Contains (from ++ into) j → Contains into j ⊎ Contains from j
  turned j has = elim (Contains-append_cases from into j has) [ inl here ↦ inr here | inr there ↦ inl there ]

  found : (places : List ℕ) (o : Option Step) (step : Step) → Told arcs in_use u places o → o ≡ Some step → IsFirstAmong arcs in_use u places step.arc step.head
  found places o step told is = rw is at told

  none : (places : List ℕ) (o : Option Step) → Told arcs in_use u places o → o ≡ None → HasNoneAmong arcs in_use u places
  none places o told is = rw is at told

  pub lower_on : (one other : Step) → onward ≡ Some one → back ≡ Some other → one.arc ≤ other.arc → IsFirstFrom arcs in_use u one.arc one.head
  lower_on one other is_one is_other lower =
      first_of from into one (found from onward one on is_one) (Contains-append_cases from into)
      (λ j b there is_b used tail. omega (arith, lower, (found into back other off is_other).first j b there is_b used tail))

  pub lower_back : (one other : Step) → onward ≡ Some one → back ≡ Some other → other.arc < one.arc → IsFirstFrom arcs in_use u other.arc other.head
  lower_back one other is_one is_other lower =
      first_of into from other (found into back other off is_other) turned
      (λ j b there is_b used tail. omega (arith, lower, (found from onward one on is_one).first j b there is_b used tail))

  pub only_on : (one : Step) → onward ≡ Some one → back ≡ None → IsFirstFrom arcs in_use u one.arc one.head
  only_on one is_one is_none =
      first_of from into one (found from onward one on is_one) (Contains-append_cases from into) (λ j b there is_b used tail. absurd (none into back off is_none j b there is_b used tail))

  pub only_back : (other : Step) → onward ≡ None → back ≡ Some other → IsFirstFrom arcs in_use u other.arc other.head
  only_back other is_none is_other =
      first_of into from other (found into back other off is_other) turned (λ j b there is_b used tail. absurd (none from onward on is_none j b there is_b used tail))

  pub one_of_both : HasArcFrom arcs in_use u → onward ≡ None → back ≡ None → ⊥
  one_of_both some is_none is_none' =
      elim (Contains-append_cases from into some.place (begins_there g arcs along u into from are_into are_from some.place some.arc some.is_arc some.tail)) [
        | inl here ↦ none from onward on is_none some.place some.arc here some.is_arc some.used some.tail
        | inr there ↦ none into back off is_none' some.place some.arc there some.is_arc some.used some.tail
      ]
