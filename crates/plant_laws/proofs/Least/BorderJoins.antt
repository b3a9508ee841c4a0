-- The best rows of an ask are the join of its border table with what lies beyond.
use Rattle.std.proofs.Common.{◌≡◌, ◌⊎◌, ◌<◌, ◌≤◌, ℕ, suc, List, [], ◌∷◌, Option, Some, None, get_or, sym, ◌∙◌, ap, subst, inl, inr, refl, arith}
use Rattle.std.specs.Prelude.{All, AllPairs, Contains}
use Rattle.std.proofs.lemmas.Bool.{cases_lt, cases_eq}
use Rattle.std.proofs.lemmas.List.{get_or_default}
use Rattle.std.proofs.lemmas.List.Elements.{All-head, All-tail, All-nil, All-cons}
use Rattle.std.proofs.lemmas.List.Kept.{AllPairs-cons}
use Rattle.plant_model.specs.Types.{Addr, As, BorderRow, Query, Label, Seed, OutLink, Best, Target, Down, Ask}
use Rattle.te_links.specs.Rows.{Rows, IsInOrder}
use Rattle.walk_laws.specs.Walks.{IsFeasible, IsLeast}
use Rattle.walk_laws.specs.Borders.{IsBorderRow, IsDown, Joins}
use Rattle.border_costs.specs.declared.job.Target.TheVariants.{Node, Next}
use Rattle.border_costs.specs.Asks.{beyond, IsPair, IsPairTo}
use Rattle.border_costs.specs.Solutions.{IsHead, IsBest, AreBest}
use Rattle.border_costs.specs.Tables.{IsRowTo}
use Rattle.plant_model.specs.Jobs.{JoinsBy}
use Rattle.plant_laws.specs.Worlds.{BorderJoins}
use Rattle.border_costs.proofs.Members.{contains_none, contains_head, contains_tail, contains_cases}
use Rattle.dom_base.specs.AddrOrder.{rank}

-- far addresses of out links differ
pub one_out : (outs : List OutLink) → AllPairs (λ o p. (rank o.link.far) < (rank p.link.far)) outs → (o p : OutLink) → Contains outs o → Contains outs p → o.link.far ≡ p.link.far → o ≡ p
one_out outs rising o p (i, i_in, is_o) (j, j_in, is_p) far =
    let at_p : get_or outs j o ≡ p = get_or_default outs j o p j_in ∙ is_p in
    let at_o : get_or outs i p ≡ o = get_or_default outs i p o i_in ∙ is_o in
    let same : (rank o.link.far) ≡ (rank p.link.far) = ap rank far in
    elim (cases_eq i j) [
      | inl one ↦ sym is_o ∙ ap (λ k. get_or outs k o) one ∙ at_p
      | inr apart ↦ elim (cases_lt i j) [
        | inl before ↦
            let less = rising i j o before j_in in
            let f : (rank o.link.far) < (rank p.link.far) = subst (λ (x : OutLink). (rank o.link.far) < (rank x.link.far)) at_p (subst (λ (x : OutLink). (rank x.link.far) < rank (get_or outs j o).link.far) is_o less) in
            absurd (omega arith)
        | inr past ↦
            let later : j < i = omega (arith, past, apart) in
            let less = rising j i p later i_in in
            let f : (rank p.link.far) < (rank o.link.far) = subst (λ (x : OutLink). (rank p.link.far) < (rank x.link.far)) at_o (subst (λ (x : OutLink). (rank x.link.far) < rank (get_or outs i p).link.far) is_p less) in
            absurd (omega arith)
      ]
    ]

module _ (g : Rows) (q : Query) (down : List Down) (border : List BorderRow) (entries : List Addr) (order : IsInOrder g) where
  abbrev Each : Target → Type 0
  Each target = (r : BorderRow) → Contains border r → Contains entries r.entry × IsRowTo g q target r

  abbrev Every : Target → Type 0
  Every target = (r : BorderRow) → Contains entries r.entry → IsRowTo g q target r → Contains border r

  abbrev By : Target → Addr → ℕ → Addr → Option Addr → Type 0
  By target e c exit head = JoinsBy q.cap target border down e c exit head

  entry_of : (target : Target) → Each target → (e : Addr) (c : ℕ) (exit : Addr) (head : Option Addr) → By target e c exit head → Contains entries e
  entry_of (Node t) each e c exit None j = subst (λ (x : Addr). Contains entries x) j.at_entry (each j.row j.is_row).0
  entry_of (Node t) each e c exit (Some head) j = absurd j
  entry_of (Next b) each e c exit None j = absurd j
  entry_of (Next b) each e c exit (Some head) j = subst (λ (x : Addr). Contains entries x) j.0.at_entry (each j.0.row j.0.is_row).0

  to_joins : (b : As) → Each (Next b) → (e : Addr) (c : ℕ) (exit head : Addr) → By (Next b) e c exit (Some head) → Joins g q b (beyond down) e (record { cost = c; exit = exit })
  to_joins b each e c exit head j =
      let over = j.0 in
      let row = (each over.row over.is_row).1 in
      record {
        out = row.out;
        total = over.row.cost;
        row = subst (λ (x : Addr). IsBorderRow g q b x row.out over.row.cost) over.at_entry row.row;
        beyond = over.beyond;
        is_down = subst (λ (n : Addr). IsDown (beyond down) n over.beyond) row.head over.is_down;
        sum = over.sum;
        exit = over.exit ∙ row.far;
        within = over.within;
      }

  none_is : (target : Target) → Each target → (e : Addr) → IsPairTo g q down e target None → (c : ℕ) (exit : Addr) (head : Option Addr) → By target e c exit head → ⊥
  none_is (Node t) each e none c exit None j = let row = (each j.row j.is_row).1 in none row.links (subst (λ (x : Addr). IsFeasible g q x t row.links) j.at_entry row.least.feasible)
  none_is (Node t) each e none c exit (Some head) j = j
  none_is (Next b) each e none c exit None j = j
  none_is (Next b) each e none c exit (Some head) j = none (record { cost = c; exit = exit }) (to_joins b each e c exit head j)

  least_is : (target : Target) → Each target → (e : Addr) (l : Label) → IsPairTo g q down e target (Some l) → (c : ℕ) (exit : Addr) (head : Option Addr) → By target e c exit head →
      (l.cost < c) ⊎ ((l.cost ≡ c) × ((rank l.exit) ≤ (rank exit)))
  least_is (Node t) each e l pair c exit None j =
      let row = (each j.row j.is_row).1 in
      let least = subst (λ (x : Addr). IsLeast g q x t row.links) j.at_entry row.least in
      let le = pair.least.least row.links least.feasible in
      let ge = least.least pair.links pair.least.feasible in
      let same : l.cost ≡ c = omega (arith, le, ge, pair.sum, row.sum, j.sum) in
      let at : (rank l.exit) ≡ (rank exit) = ap rank (pair.exit ∙ sym row.far ∙ sym j.exit) in
      inr (same, omega (arith, at))
  least_is (Node t) each e l pair c exit (Some head) j = absurd j
  least_is (Next b) each e l pair c exit None j = absurd j
  least_is (Next b) each e l pair c exit (Some head) j = pair.1 (record { cost = c; exit = exit }) (to_joins b each e c exit head j)

  pair_joins : (target : Target) → Every target → (e : Addr) (l : Label) (head : Option Addr) → Contains entries e → IsPairTo g q down e target (Some l) → IsHead g q down target l.exit head →
      By target e l.cost l.exit head
  pair_joins (Node t) every e l head is pair at =
      let row : BorderRow = record { entry = e; far = l.exit; head = l.exit; cost = l.cost } in
      subst (λ (o : Option Addr). By (Node t) e l.cost l.exit o) (sym at)
      (record {
        row = row;
        is_row = every row is (record { links = pair.links; least = pair.least; sum = pair.sum; far = pair.exit; head = pair.exit });
        at_entry = refl;
        sum = refl;
        exit = refl;
        within = omega (arith, pair.sum, pair.least.feasible.within);
      })
  pair_joins (Next b) every e l head is pair at =
      let j = pair.0 in
      let row : BorderRow = record { entry = e; far = l.exit; head = j.out.link.to; cost = j.total } in
      let same : at.out ≡ j.out = one_out g.outs order.outs at.out j.out at.least.out.is_out j.row.out.is_out (at.is_exit ∙ j.exit) in
      let head_is : head ≡ Some j.out.link.to = at.is_head ∙ ap (λ (o : OutLink). let x : Option Addr = Some o.link.to in x) same in
      subst (λ (o : Option Addr). By (Next b) e l.cost l.exit o) (sym head_is) (
        record {
          row = row;
          is_row = every row is (record { out = j.out; row = j.row; far = j.exit; head = refl });
          at_entry = refl;
          beyond = j.beyond;
          is_down = j.is_down;
          sum = j.sum;
          exit = refl;
          within = j.within;
        },
        refl,
      )

-- the rows that were found, by their entries
module _ (g : Rows) (a : Ask) (seeds : List Seed) where
  pub record Finds (es : List Addr) (best : List Best) : Type 0 where
    pub each : (b : Best) → Contains best b → Contains es b.entry × IsBest g a seeds b.entry b
    pub every : (e : Addr) → Contains es e → IsPair g a e None ⊎ ((b : Best) × Contains best b × (b.entry ≡ e))

  pub finds : (es : List Addr) (best : List Best) → AreBest g a seeds es best → Finds es best
  finds [] best is = subst (λ (rows : List Best). Finds [] rows) (sym is) (record { each = λ b c. absurd (contains_none b c); every = λ e c. absurd (contains_none e c) })
  finds (e ∷ es) best (inl none) =
      let more = finds es best none.1 in
      record {
        each = λ b c. (let r = more.each b c in (contains_tail e es b.entry r.0, r.1));
        every = λ x c. elim (contains_cases e es x c) [ inl same ↦ inl (subst (λ (y : Addr). IsPair g a y None) same none.0) | inr others ↦ more.every x others ];
      }
  finds (e ∷ es) best (inr found) = subst (λ (rows : List Best). Finds (e ∷ es) rows) (sym found.2) (go found.0 found.1 found.3 (finds es found.1 found.4))
    where
      go : (row : Best) (others : List Best) → IsBest g a seeds e row → Finds es others → Finds (e ∷ es) (row ∷ others)
      go row others is below = record {
        each = λ b c. elim (contains_cases row others b c) [
          | inl same ↦ subst (λ (y : Best). Contains (e ∷ es) y.entry × IsBest g a seeds y.entry y) same
              (subst (λ (n : Addr). Contains (e ∷ es) n × IsBest g a seeds n row) (sym is.is_entry) (contains_head e es, is))
          | inr inside ↦ (let r = below.each b inside in (contains_tail e es b.entry r.0, r.1))
        ];
        every = λ x c. elim (contains_cases e es x c) [
          | inl same ↦ inr (row, contains_head row others, is.is_entry ∙ same)
          | inr inside ↦ elim (below.every x inside) [ inl none ↦ inl none | inr known ↦ inr (known.0, contains_tail row others known.0 known.1, known.2) ]
        ];
      }

  abbrev Over : ℕ → Best → Type 0
  Over x b = x < (rank b.entry)

  above : (x : ℕ) (es : List Addr) (best : List Best) → All (λ (e : Addr). x < rank e) es → AreBest g a seeds es best → All (Over x) best
  above x [] best all is = subst (λ (rows : List Best). All (Over x) rows) (sym is) (All-nil (Over x))
  above x (e ∷ es) best all (inl none) = above x es best (All-tail (λ (y : Addr). x < rank y) e es all) none.1
  above x (e ∷ es) best all (inr found) =
      subst (λ (rows : List Best). All (Over x) rows) (sym found.2)
      (All-cons (Over x) found.0 found.1 (subst (λ (y : Addr). x < rank y) (sym found.3.is_entry) (All-head (λ (y : Addr). x < rank y) e es all)) (above x es found.1 (All-tail (λ (y : Addr). x < rank y) e es all) found.4))

  abbrev Under : Addr → Addr → Type 0
  Under x y = rank x < rank y

  pairs_head : (e : Addr) (es : List Addr) → AllPairs Under (e ∷ es) → All (Under e) es
  pairs_head e es h k d within = h 0 (suc k) d (omega arith) (omega (arith, within))

  pairs_tail : (e : Addr) (es : List Addr) → AllPairs Under (e ∷ es) → AllPairs Under es
  pairs_tail e es h i j d less within = h (suc i) (suc j) d (omega (arith, less)) (omega (arith, within))

  abbrev Before : Best → Best → Type 0
  Before x y = (rank x.entry) < (rank y.entry)

  below_none : (j : ℕ) → j < 0 → ⊥
  below_none j less = omega (arith, less)

  rises : (es : List Addr) (best : List Best) → AllPairs Under es → AreBest g a seeds es best → AllPairs Before best
  rises [] best up is = subst (λ (rows : List Best). AllPairs Before rows) (sym is) (λ i j d less within. absurd (below_none j within))
  rises (e ∷ es) best up (inl none) = rises es best (pairs_tail e es up) none.1
  rises (e ∷ es) best up (inr found) =
      subst (λ (rows : List Best). AllPairs Before rows) (sym found.2)
      (AllPairs-cons Before found.0 found.1
      (subst (λ (x : Addr). All (Over (rank x)) found.1) (sym found.3.is_entry) (above (rank e) es found.1 (pairs_head e es up) found.4))
      (rises es found.1 (pairs_tail e es up) found.4))

pub border_joins : BorderJoins
border_joins g a rows border order rising are table =
    let found = finds g a are.seeds a.entries rows.best are.best in
    let each : (r : BorderRow) → Contains border r → Contains a.entries r.entry × IsRowTo g a.query a.target r = λ r c. (let t = table.each r c in (t.entry, t.row)) in
    let every : (r : BorderRow) → Contains a.entries r.entry → IsRowTo g a.query a.target r → Contains border r = λ r e is. table.every r (record { entry = e; row = is }) in
    record {
      rising = rises g a are.seeds a.entries rows.best rising are.best;
      each = λ b c. (let r = found.each b c in pair_joins g a.query a.down border a.entries order a.target every b.entry (record { cost = b.cost; exit = b.exit }) b.head r.0 r.1.pair r.1.is_head);
      least = λ b c d exit head j. (let r = found.each b c in least_is g a.query a.down border a.entries order a.target each b.entry (record { cost = b.cost; exit = b.exit }) r.1.pair d exit head j);
      all = λ e c exit head j. elim (found.every e (entry_of g a.query a.down border a.entries order a.target each e c exit head j)) [
        | inl none ↦ absurd (none_is g a.query a.down border a.entries order a.target each e none c exit head j)
        | inr known ↦ known
      ];
    }
