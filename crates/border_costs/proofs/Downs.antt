-- The least row of a node, as rows are added.
use Rattle.std.proofs.Common.{◌≡◌, ◌⊎◌, None, Some, inl, inr, ℕ, ◌+◌, ◌<◌, ◌≤◌, List, [], ◌∷◌, ◌++◌, length, take, get_or, arith, sym, ◌∙◌, ap, subst}
use Rattle.std.specs.Prelude.{Contains, MatchOption}
use Rattle.std.specs.declared.option.Option.{Option}
use Rattle.std.proofs.lemmas.Bool.{cases_lt}
use Rattle.std.proofs.lemmas.List.{take_more, map-append}
use Rattle.std.proofs.lemmas.List.Elements.{Contains-append_left, Contains-push, Contains-push_cases}
use Rattle.dom_base.specs.declared.addr.Addr.{Addr}
use Rattle.walk_laws.specs.Borders.{Beyond, IsDown}
use Rattle.border_costs.specs.declared.job.Down.{Down}
use Rattle.dom_base.specs.Costs.{IsLess}
use Rattle.border_costs.specs.Asks.{beyond, HasNoDown}

abbrev pub row_of : Down → Beyond
row_of d = record { node = d.node; cost = d.cost }

abbrev make : Addr → ℕ → Beyond
make n c = record { node = n; cost = c }

pub one_more : (down : List Down) (i : ℕ) (d : Down) → i < length down → d ≡ get_or down i d → beyond (take (i + 1) down) ≡ beyond (take i down) ++ row_of d ∷ []
one_more down i d below is =
    ap beyond (take_more down i d below) ∙ map-append row_of (take i down) (get_or down i d ∷ []) ∙ ap (λ (x : Down). beyond (take i down) ++ row_of x ∷ []) (sym is)

module _ (rows : List Beyond) (row : Beyond) (n : Addr) where
  pub none_kept : HasNoDown rows n → (row.node ≡ n → ⊥) → HasNoDown (rows ++ row ∷ []) n
  none_kept none other c has =
      elim (Contains-push_cases rows row (make n c) has) [
        | inl before ↦ none c before
        | inr is ↦ other (ap (λ (b : Beyond). b.node) is)
      ]

  pub least_kept : (c : ℕ) → IsDown rows n c → (row.node ≡ n → c ≤ row.cost) → IsDown (rows ++ row ∷ []) n c
  least_kept c is no_less = record {
    is_row = Contains-append_left rows (row ∷ []) (make n c) is.is_row;
    least = λ d has.
        elim (Contains-push_cases rows row (make n d) has) [
          | inl before ↦ is.least d before
          | inr new ↦ omega (arith, no_less (ap (λ (b : Beyond). b.node) new), ap (λ (b : Beyond). b.cost) new)
        ];
  }

  pub least_new : row.node ≡ n → ((c : ℕ) → Contains rows (make n c) → row.cost ≤ c) → IsDown (rows ++ row ∷ []) n row.cost
  least_new here bound = record {
    is_row = subst (λ (m : Addr). Contains (rows ++ row ∷ []) (make m row.cost)) here (Contains-push rows row);
    least = λ d has.
        elim (Contains-push_cases rows row (make n d) has) [
          | inl before ↦ bound d before
          | inr new ↦ omega (arith, ap (λ (b : Beyond). b.cost) new)
        ];
  }

pub down_unique : (rows : List Beyond) (n : Addr) (c d : ℕ) → IsDown rows n c → IsDown rows n d → c ≡ d
down_unique rows n c d one other = omega (arith, one.least d other.is_row, other.least c one.is_row)

module _ (rows : List Beyond) (row : Beyond) (n : Addr) where
  -- the row is the least so far
  pub step_taken : (o : Option ℕ) → MatchOption o (HasNoDown rows n) (IsDown rows n) → row.node ≡ n → IsLess row.cost o → IsDown (rows ++ row ∷ []) n row.cost
  step_taken None none here below = least_new rows row n here (λ c has. absurd (none c has))
  step_taken (Some c) is here below = least_new rows row n here (λ d has. let low = is.least d has in omega arith)

  -- it is of another node, or no less
  pub step_left : (o : Option ℕ) → MatchOption o (HasNoDown rows n) (IsDown rows n) → ((row.node ≡ n → ⊥) ⊎ (IsLess row.cost o → ⊥)) →
      MatchOption o (HasNoDown (rows ++ row ∷ []) n) (IsDown (rows ++ row ∷ []) n)
  step_left None none (inl other) = none_kept rows row n none other
  step_left None none (inr no_less) = absurd (no_less tt)
  step_left (Some c) is (inl other) = least_kept rows row n c is (λ here. absurd (other here))
  step_left (Some c) is (inr no_less) = least_kept rows row n c is (λ here. elim (cases_lt row.cost c) [ inl below ↦ absurd (no_less below) | inr above ↦ omega (arith, above) ])
