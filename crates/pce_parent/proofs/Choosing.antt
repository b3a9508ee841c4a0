-- The first tight edges, one edge after the other.
use Rattle.std.proofs.Common.{◌≡◌, inl, inr, ℕ, zero, suc, ◌+◌, ◌<◌, ◌≤◌, List, [], ◌∷◌, ◌++◌, length, take, get_or, arith, sym, ◌∙◌, ap, subst, None, Some}
use Rattle.std.specs.Prelude.{Contains, slice_index_or, slice_set}
use Rattle.std.specs.declared.option.Option.{Option}
use Rattle.std.proofs.lemmas.Bool.Decides.{eqb_tells}
use Rattle.std.proofs.lemmas.List.{take_more, take_all, get_or-set_same, get_or-set_other}
use Rattle.std.proofs.Math.ListN.{length-set}
use Rattle.std.proofs.lemmas.List.Elements.{Contains-push, Contains-append_left, Contains-push_cases}
use Rattle.pce_parent.specs.declared.arcs.Arc.{Arc}
use Rattle.pce_parent.specs.Costs.{cost_at}
use Rattle.pce_parent.specs.Tight.{AreChosen, GoesFirst, IsTight, IsBefore, IsBetter, IsChosen}

one_cost : (a b : ℕ) → Some a ≡ Some b → a ≡ b
one_cost a b is = cc

pub reached_within : (costs : List (Option ℕ)) (k c : ℕ) → cost_at costs k ≡ Some c → k < length costs
reached_within [] k c at_k = absurd (let no : None ≡ Some c = at_k in cc)
reached_within (x ∷ costs) zero c at_k = omega arith
reached_within (x ∷ costs) (suc k) c at_k = omega (arith, reached_within costs k c at_k)

not_after : (a b c : Arc) → IsBefore a b → (IsBefore c b → ⊥) → IsBefore c a → ⊥
not_after a b c (inl lt) none (inl lt') = none (inl (omega arith))
not_after a b c (inl lt) none (inr le') = none (inl (omega (arith, le'.0)))
not_after a b c (inr le) none (inl lt') = none (inl (omega (arith, le.0)))
not_after a b c (inr le) none (inr le') = none (inr (le'.0 ∙ le.0, omega (arith, le.1, le'.1)))

not_itself : (a : Arc) → IsBefore a a → ⊥
not_itself a (inl lt) = omega (arith, lt)
not_itself a (inr le) = omega (arith, le.1)

module _ (done : List Arc) (a : Arc) (costs : List (Option ℕ)) (place whole : ℕ) where
  pub passed : (best : Option Arc) → IsChosen done costs place whole best → (IsTight costs place whole a → IsBetter a best → ⊥) → IsChosen (done ++ a ∷ []) costs place whole best
  passed None none stays = λ b has tight.
      elim (Contains-push_cases done a b has) [
        | inl old ↦ none b old tight
        | inr one ↦ stays (subst (IsTight costs place whole) (sym one) tight) tt
      ]
  passed (Some best) is stays = (
    Contains-append_left done (a ∷ []) best is.0,
    is.1,
    λ b has tight before.
        elim (Contains-push_cases done a b has) [
          | inl old ↦ is.2 b old tight before
          | inr one ↦ stays (subst (IsTight costs place whole) (sym one) tight) (subst (λ (x : Arc). IsBefore x best) (sym one) before)
        ],
  )

  none_before : (best : Option Arc) → IsChosen done costs place whole best → IsBetter a best → (b : Arc) → Contains done b → IsTight costs place whole b → IsBefore b a → ⊥
  none_before None none better b has tight before = none b has tight
  none_before (Some best) is better b has tight before = not_after a best b better (is.2 b has tight) before

  pub taken : (best : Option Arc) → IsChosen done costs place whole best → IsTight costs place whole a → IsBetter a best → IsChosen (done ++ a ∷ []) costs place whole (Some a)
  taken best is tight better = (
    Contains-push done a,
    tight,
    λ b has tight_b before.
        elim (Contains-push_cases done a b has) [
          | inl old ↦ none_before best is better b old tight_b before
          | inr one ↦ not_itself a (subst (λ (x : Arc). IsBefore x a) (sym one) before)
        ],
  )

pub one_more : (arcs : List Arc) (i : ℕ) (d : Arc) (costs : List (Option ℕ)) (place whole : ℕ) (best : Option Arc) → i < length arcs →
    IsChosen (take i arcs ++ get_or arcs i d ∷ []) costs place whole best → IsChosen (take (i + 1) arcs) costs place whole best
one_more arcs i d costs place whole best below is = subst (λ (as' : List Arc). IsChosen as' costs place whole best) (sym (take_more arcs i d below)) is

-- ---- from each place

none_chosen : (costs : List (Option ℕ)) (k whole : ℕ) → IsChosen [] costs k whole None
none_chosen costs k whole b has tight = omega (arith, has.1)

pub at_first : (costs : List (Option ℕ)) (next : List (Option Arc)) → length next ≡ length costs → ((k : ℕ) → slice_index_or next k None ≡ None) → AreChosen [] costs next
at_first costs next places none = record {
  places = places;
  each = λ k whole at_k. subst (IsChosen [] costs k whole) (sym (none k)) (none_chosen costs k whole);
}

module _ (arcs : List Arc) (i : ℕ) (d : Arc) (costs : List (Option ℕ)) (next : List (Option Arc)) (below : i < length arcs) (before : AreChosen (take i arcs) costs next) where
  abbrev pub a : Arc
  a = get_or arcs i d

  pub next_kept : (GoesFirst costs next a → ⊥) → AreChosen (take (i + 1) arcs) costs next
  next_kept stays = record {
    places = before.places;
    each = λ k whole at_k.
        one_more arcs i d costs k whole (slice_index_or next k None) below (passed (take i arcs) a costs k whole (slice_index_or next k None) (before.each k whole at_k)
        (λ tight better. stays (
          whole,
          ap (cost_at costs) tight.here ∙ at_k,
          subst (λ (m : ℕ). IsTight costs m whole a) (sym tight.here) tight,
          subst (λ (m : ℕ). IsBetter a (slice_index_or next m None)) (sym tight.here) better,
        )));
  }

  abbrev set_at : ℕ → List (Option Arc)
  set_at k = slice_set next k (Some a)

  pub next_set : (new : List (Option Arc)) → new ≡ slice_set next a.from (Some a) → GoesFirst costs next a → AreChosen (take (i + 1) arcs) costs new
  next_set new is goes = subst (AreChosen (take (i + 1) arcs) costs) (sym is) (record {
    places = length-set next a.from (Some a) ∙ before.places;
    each = λ k whole at_k. one_more arcs i d costs k whole (slice_index_or (set_at a.from) k None) below (elim (eqb_tells k a.from) [
      | inl same ↦
          let here : k ≡ a.from = same.1 in
          let within : a.from < length next = omega (arith, before.places, reached_within costs a.from goes.0 goes.1) in
          let sum : goes.0 ≡ whole = one_cost goes.0 whole (sym goes.1 ∙ ap (cost_at costs) (sym here) ∙ at_k) in
          let old : Option Arc = slice_index_or next k None in
          subst (IsChosen (take i arcs ++ a ∷ []) costs k whole) (sym (ap (λ (m : ℕ). slice_index_or (set_at a.from) m None) here ∙ get_or-set_same next a.from (Some a) None within))
          (taken (take i arcs) a costs k whole old (before.each k whole at_k)
          (subst (λ (n : ℕ). IsTight costs k n a) sum (subst (λ (m : ℕ). IsTight costs m goes.0 a) (sym here) goes.2))
          (subst (λ (m : ℕ). IsBetter a (slice_index_or next m None)) (sym here) goes.3))
      | inr other ↦
          subst (IsChosen (take i arcs ++ a ∷ []) costs k whole) (sym (get_or-set_other next a.from k (Some a) None other.1))
          (passed (take i arcs) a costs k whole (slice_index_or next k None) (before.each k whole at_k) (λ tight better. absurd (other.1 (sym tight.here))))
    ]);
  })

pub next_done : (arcs : List Arc) (i : ℕ) (costs : List (Option ℕ)) (next : List (Option Arc)) → length arcs ≤ i → AreChosen (take i arcs) costs next → AreChosen arcs costs next
next_done arcs i costs next past is = subst (λ (as' : List Arc). AreChosen as' costs next) (take_all i arcs past) is
