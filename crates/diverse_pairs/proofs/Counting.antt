-- Places counted through two lists.
use Rattle.std.proofs.Common.{◌≡◌, inl, inr, ℕ, ◌+◌, ◌-◌, ◌<◌, ◌≤◌, List, [], ◌∷◌, ◌++◌, length, take, drop, None, Some, sym, ◌∙◌, ap, subst, arith}
use Rattle.std.specs.Prelude.{MatchOption}
use Rattle.std.specs.declared.option.Option.{Option}
use Rattle.std.proofs.lemmas.Bool.{cases_lt}
use Rattle.std.proofs.lemmas.List.{take_all}
use Rattle.dom_base.specs.declared.addr.Addr.{Addr}
use Rattle.dom_base.specs.declared.query.Query.{Query}
use Rattle.te_links.specs.Rows.{Rows}
use Rattle.diverse_pairs.specs.Conditions.{Traces, TracesOver, ListHolds, PathHolds, fars_of}
use Rattle.diverse_pairs.specs.Steps.{IsFirstNot}

-- what far addresses behind the source tell of the list
pub list_told : (g : Rows) (q : Query) (used : List Addr) (s t start : Addr) (fars : List Addr) (r : Option ℕ) → start ≡ s →
    MatchOption r ((k : ℕ) → TracesOver g q used s t fars k) (IsFirstNot (TracesOver g q used s t fars)) →
    MatchOption r ((k : ℕ) → ListHolds g q used s t (start ∷ fars) k) (IsFirstNot (ListHolds g q used s t (start ∷ fars)))
list_told g q used s t start fars None begins traces = λ k. (begins, traces k)
list_told g q used s t start fars (Some k) begins stops = record { fails = λ holds. stops.fails holds.1; earlier = λ j before. (begins, stops.earlier j before) }

-- behind the end of the far addresses nothing changes
past_end : (g : Rows) (q : Query) (used : List Addr) (s t : Addr) (fars : List Addr) (k : ℕ) → length fars ≤ k → TracesOver g q used s t fars (length fars) → TracesOver g q used s t fars k
past_end g q used s t fars k long over =
    let same : take (length fars) fars ≡ take k fars = take_all (length fars) fars (omega arith) ∙ sym (take_all k fars long) in
    record { node = over.node; traces = subst (λ xs. Traces g q used s xs over.node) same over.traces; ends = λ _. over.ends (omega arith) }

-- so the first false place stands in the list, or is 0
pub first_within : (g : Rows) (q : Query) (used : List Addr) (s t : Addr) (shown : List Addr) (k : ℕ) → IsFirstNot (ListHolds g q used s t shown) k → (j : ℕ) → j < k → j < length shown
first_within g q used s t [] k stops j before = absurd (stops.earlier j before)
first_within g q used s t (start ∷ fars) k stops j before =
    elim (cases_lt (length fars) k) [
      | inl lt ↦
          let last = stops.earlier (length fars) lt in
          absurd (stops.fails (last.0, past_end g q used s t fars k (omega arith) last.1))
      | inr ge ↦ omega arith
    ]

pub some_shown : (g : Rows) (q : Query) (used : List Addr) (s t : Addr) (shown : List Addr) → ((k : ℕ) → ListHolds g q used s t shown k) → 1 ≤ length shown
some_shown g q used s t [] holds = absurd (holds 0)
some_shown g q used s t (start ∷ fars) holds = omega arith

pub first_false : (g : Rows) (q : Query) (s t : Addr) (first second : List Addr) (k : ℕ) → IsFirstNot (ListHolds g q [] s t first) k → IsFirstNot (PathHolds g q s t first second) k
first_false g q s t first second k stops = record {
  fails = λ holds. stops.fails holds.in_first;
  earlier = λ j before. record { in_first = stops.earlier j before; in_second = λ behind. absurd (let within = first_within g q [] s t first k stops j before in omega (arith, within, behind)) };
}

pub both_hold : (g : Rows) (q : Query) (s t : Addr) (first second : List Addr) → ((k : ℕ) → ListHolds g q [] s t first k) → ((k : ℕ) → ListHolds g q (fars_of first) s t second k) →
    (k : ℕ) → PathHolds g q s t first second k
both_hold g q s t first second one other k = record { in_first = one k; in_second = λ behind. other (k - length first) }

-- what is behind the source
pub behind_first : (shown : List Addr) → 1 ≤ length shown → take (length shown - 1) (drop 1 shown) ≡ fars_of shown
behind_first [] some = absurd (omega (arith, some))
behind_first (start ∷ fars) some = take_all (length (start ∷ fars) - 1) fars (omega arith)

pub first_shown : (g : Rows) (q : Query) (s t : Addr) (first second : List Addr) → ((k : ℕ) → PathHolds g q s t first second k) → 1 ≤ length first
first_shown g q s t first second holds = some_shown g q [] s t first (λ k. (holds k).in_first)

pub second_shown : (g : Rows) (q : Query) (s t : Addr) (first second : List Addr) → ((k : ℕ) → PathHolds g q s t first second k) → 1 ≤ length second
second_shown g q s t first second holds =
    some_shown g q (fars_of first) s t second
    (λ k. let same : length first + k - length first ≡ k = omega arith in subst (ListHolds g q (fars_of first) s t second) same ((holds (length first + k)).in_second (omega arith)))

-- and so of both lists, where each of their places holds
pub both_behind : (g : Rows) (q : Query) (s t : Addr) (first second : List Addr) → ((k : ℕ) → PathHolds g q s t first second k) →
    take (length first - 1) (drop 1 first) ++ take (length second - 1) (drop 1 second) ≡ fars_of first ++ fars_of second
both_behind g q s t first second holds =
    ap (λ (xs : List Addr). xs ++ take (length second - 1) (drop 1 second)) (behind_first first (first_shown g q s t first second holds))
    ∙ ap (λ (xs : List Addr). fars_of first ++ xs) (behind_first second (second_shown g q s t first second holds))
