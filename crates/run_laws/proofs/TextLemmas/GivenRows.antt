-- The rows of a solve that a line gives are in order, of few entries, and within the greatest cost; a line of a network without topologies asks for no other event than such a network has.
use Rattle.std.proofs.Common.{◌≡◌, ◌≤◌, ◌<◌, ◌+◌, ◌==◌, ◌&&◌, ◌||◌, nat_lt, ℕ, Bool, true, false, not, cond, List, [], ◌∷◌, length, map, All, Option, Some, None, inl, inr, refl, sym, ap, subst, ◌∙◌, arith}
use Rattle.std.specs.Prelude.{AllPairs, Contains}
use Rattle.std.specs.List.{AllByRecursion}
use Rattle.std.proofs.lemmas.Bool.{eqb-true, ltb-true}
use Rattle.std.proofs.lemmas.List.Elements.{All-nil, All-cons, All-weaker, All-from_recursion, Contains-append_right}
use Rattle.std.proofs.lemmas.List.Kept.{AllPairs-cons}
use Rattle.plant_laws.specs.plant_model.Types.{As, Addr, BorderRow, LineEvent, NetworkParts, PeerRow}
use Rattle.dom_base.specs.declared.limits.TheConstants.{COST_MAX}
use Rattle.dom_base.specs.AddrOrder.{rank}
use Rattle.dom_base.specs.AddrText.{addr_in}
use Rattle.dom_base.specs.Steps.{◌>>=◌}
use Rattle.dom_base.proofs.NumeralLaws.{at_most}
use Rattle.dom_base.proofs.Ranks.{same_addr}
use Rattle.line_text.specs.Lines.{is_skipped}
use Rattle.line_text.specs.Words.{words_of}
use Rattle.te_links.proofs.Different.{few_covered}
use Rattle.border_costs.specs.Tables.{IsRowBefore}
use Rattle.plant_text.specs.declared.limits.TheConstants.{ROW_ENTRIES_MAX}
use Rattle.plant_text.specs.declared.line.LineEvent.TheVariants as event
use Rattle.plant_text.specs.Names.{same_as, parent_as}
use Rattle.plant_text.specs.Lines.{are_rising_after, are_rows_at, as_in, behind, behind_blind, blind_event_in, blind_line_in, both, cost_in, first, hex_in, is_before, new_entries_after, number_32, number_64, only, peer_in, row_in, rows_in, solved_in, verb_word, verbs, with_row}
use Rattle.plant_laws.specs.plant_model.Blind.{AreGivenRows}
use Rattle.run_laws.specs.Given.{IsBlindLine}
use Rattle.run_laws.proofs.TextLemmas.AddrRanges.{by_parts}
use Rattle.run_laws.proofs.TextLemmas.FedWords.{ReadsSo, by_verb, is_event, last_event, named_then, no_event, said}

both_true : (a b : Bool) → a && b ≡ true → (a ≡ true) × (b ≡ true)
both_true true true is = (refl, refl)
both_true true false is = absurd (let no : false ≡ true = is in cc)
both_true false b is = absurd (let no : false ≡ true = is in cc)

-- ---- order

before_is : (a b : BorderRow) → is_before a b ≡ true → IsRowBefore a b
before_is a b is = go (nat_lt (rank a.entry) (rank b.entry)) (rank a.entry == rank b.entry) (nat_lt (rank a.far) (rank b.far)) refl refl refl is
  where
    go : (p q r : Bool) → nat_lt (rank a.entry) (rank b.entry) ≡ p → (rank a.entry == rank b.entry) ≡ q → nat_lt (rank a.far) (rank b.far) ≡ r → p || (q && r) ≡ true → IsRowBefore a b
    go true q r e f h i = inl (ltb-true (rank a.entry) (rank b.entry) e)
    go false true true e f h i = inr (same_addr a.entry b.entry (eqb-true (rank a.entry) (rank b.entry) f), ltb-true (rank a.far) (rank b.far) h)
    go false true false e f h i = absurd (let no : false ≡ true = i in cc)
    go false false r e f h i = absurd (let no : false ≡ true = i in cc)

before_before : (a b c : BorderRow) → IsRowBefore a b → IsRowBefore b c → IsRowBefore a c
before_before a b c (inl p) (inl q) = inl (omega (arith, p, q))
before_before a b c (inl p) (inr q) = inl (subst (λ (e : Addr). rank a.entry < rank e) q.0 p)
before_before a b c (inr p) (inl q) = inl (subst (λ (e : Addr). rank e < rank c.entry) (sym p.0) q)
before_before a b c (inr p) (inr q) = inr (p.0 ∙ q.0, omega (arith, p.1, q.1))

-- rows each of which is before the next
rising : (last : BorderRow) (rows : List BorderRow) → are_rising_after last rows ≡ true → All (IsRowBefore last) rows × AllPairs IsRowBefore (last ∷ rows)
rising last [] is = (All-nil (IsRowBefore last), AllPairs-cons IsRowBefore last [] (All-nil (IsRowBefore last)) (λ i j d before within. absurd (omega (arith, within))))
rising last (row ∷ rows) is =
    let each = both_true (is_before last row) (are_rising_after row rows) is in
    let here = before_is last row each.0 in
    let others = rising row rows each.1 in
    let all : All (IsRowBefore last) (row ∷ rows) =
    All-cons (IsRowBefore last) row rows here (All-weaker (IsRowBefore row) (IsRowBefore last) (λ r before. before_before last row r here before) rows others.0) in
    (all, AllPairs-cons IsRowBefore last (row ∷ rows) all others.1)

-- ---- entries

-- the entries that are others than those of the row before
abbrev entries_after : BorderRow → List BorderRow → List Addr
entries_after last [] = []
entries_after last (row ∷ rows) = cond (rank last.entry == rank row.entry) (entries_after row rows) (row.entry ∷ entries_after row rows)

so_many : (last : BorderRow) (rows : List BorderRow) → length (entries_after last rows) ≡ new_entries_after last rows
so_many last [] = refl
so_many last (row ∷ rows) = go (rank last.entry == rank row.entry) (so_many row rows)
  where
    go : (b : Bool) → length (entries_after row rows) ≡ new_entries_after row rows → length (cond b (entries_after row rows) (row.entry ∷ entries_after row rows)) ≡ cond b 0 1 + new_entries_after row rows
    go true is = omega (arith, is)
    go false is = omega (arith, is)

behind_one : (x : Addr) (xs ys : List Addr) → All (Contains xs) ys → All (Contains (x ∷ xs)) ys
behind_one x xs ys all = All-weaker (Contains xs) (Contains (x ∷ xs)) (λ y has. Contains-append_right (x ∷ []) xs y has) ys all

covered : (last : BorderRow) (rows : List BorderRow) → All (Contains (last.entry ∷ entries_after last rows)) (last.entry ∷ map (λ (r : BorderRow). r.entry) rows)
covered last [] = All-cons (Contains (last.entry ∷ [])) last.entry [] (0, omega arith, refl) (All-nil (Contains (last.entry ∷ [])))
covered last (row ∷ rows) = go (rank last.entry == rank row.entry) refl (covered row rows)
  where
    go : (b : Bool) → (rank last.entry == rank row.entry) ≡ b → All (Contains (row.entry ∷ entries_after row rows)) (row.entry ∷ map (λ (r : BorderRow). r.entry) rows) →
        All (Contains (last.entry ∷ cond b (entries_after row rows) (row.entry ∷ entries_after row rows))) (last.entry ∷ row.entry ∷ map (λ (r : BorderRow). r.entry) rows)
    go true e all =
        let same : row.entry ≡ last.entry = sym (same_addr last.entry row.entry (eqb-true (rank last.entry) (rank row.entry) e)) in
        let here : All (Contains (last.entry ∷ entries_after row rows)) (row.entry ∷ map (λ (r : BorderRow). r.entry) rows) =
        subst (λ (a : Addr). All (Contains (a ∷ entries_after row rows)) (row.entry ∷ map (λ (r : BorderRow). r.entry) rows)) same all in
        All-cons (Contains (last.entry ∷ entries_after row rows)) last.entry (row.entry ∷ map (λ (r : BorderRow). r.entry) rows) (0, omega arith, refl) here
    go false e all =
        All-cons (Contains (last.entry ∷ row.entry ∷ entries_after row rows)) last.entry (row.entry ∷ map (λ (r : BorderRow). r.entry) rows) (0, omega arith, refl)
        (behind_one last.entry (row.entry ∷ entries_after row rows) (row.entry ∷ map (λ (r : BorderRow). r.entry) rows) all)

-- ---- costs

abbrev WithinCosts : List BorderRow → Type 0
WithinCosts rows = AllByRecursion (λ (r : BorderRow). r.cost ≤ COST_MAX) rows

row_cost : (entry far head cost : List ℕ) (row : BorderRow) → row_in entry far head cost ≡ Some row → row.cost ≤ COST_MAX
unfolding row_in
row_cost entry far head cost row is =
    let e = by_parts (addr_in entry) _ row is in
    let f = by_parts (addr_in far) _ row e.2 in
    let h = by_parts (addr_in head) _ row f.2 in
    let c = by_parts (cost_in cost) _ row h.2 in
    go e.0 f.0 h.0 c.0 (at_most COST_MAX c.0 cost c.1) c.2
  where
    go : (e f h : Addr) (c : ℕ) → c ≤ COST_MAX → ◌≡◌ {A = Option BorderRow} (Some (record { entry = e; far = f; head = h; cost = c })) (Some row) → row.cost ≤ COST_MAX
    go e f h c most made =
        let same : ◌≡◌ {A = BorderRow} (record { entry = e; far = f; head = h; cost = c }) row = cc in
        subst (λ (r : BorderRow). r.cost ≤ COST_MAX) same most

more_rows : (row : BorderRow) (o : Option (List BorderRow)) (rows : List BorderRow) → row.cost ≤ COST_MAX → ((rest : List BorderRow) → o ≡ Some rest → WithinCosts rest) → with_row row o ≡ Some rows → WithinCosts rows
more_rows row (Some rest) rows least others is =
    let same : row ∷ rest ≡ rows = cc in
    subst WithinCosts same (least, others rest refl)
more_rows row None rows least others is = absurd (cc)

rows_cost : (words : List (List ℕ)) (rows : List BorderRow) → rows_in words ≡ Some rows → WithinCosts rows
rows_cost [] rows is = let same : ◌≡◌ {A = List BorderRow} [] rows = cc in subst WithinCosts same tt
rows_cost (e ∷ []) rows is = absurd (cc)
rows_cost (e ∷ (f ∷ [])) rows is = absurd (cc)
rows_cost (e ∷ (f ∷ (h ∷ []))) rows is = absurd (cc)
rows_cost (e ∷ (f ∷ (h ∷ (c ∷ words)))) rows is =
    let row = by_parts (row_in e f h c) (λ (r : BorderRow). with_row r (rows_in words)) rows is in
    more_rows row.0 (rows_in words) rows (row_cost e f h c row.0 row.1) (λ rest found. rows_cost words rest found) row.2

-- ---- all rows of a solve

pub are_given : (at : As) (rows : List BorderRow) → WithinCosts rows → are_rows_at at rows ≡ true → AreGivenRows rows
are_given at [] costs is = record {
  order = λ i j d before within. absurd (omega (arith, within));
  few = few_covered 65 [] [] (All-nil (Contains [])) (omega arith);
  costs = All-nil (λ (r : BorderRow). r.cost ≤ COST_MAX);
}
are_given at (row ∷ rows) costs is =
    let own = both_true (not (same_as at parent_as)) (are_rising_after row rows && nat_lt (new_entries_after row rows) ROW_ENTRIES_MAX) is in
    let each = both_true (are_rising_after row rows) (nat_lt (new_entries_after row rows) ROW_ENTRIES_MAX) own.1 in
    let few : new_entries_after row rows < 65 = ltb-true (new_entries_after row rows) ROW_ENTRIES_MAX each.1 in
    record {
      order = (rising row rows each.0).1;
      few = few_covered 65 (row.entry ∷ map (λ (r : BorderRow). r.entry) rows) (row.entry ∷ entries_after row rows) (covered row rows) (omega (arith, few, so_many row rows));
      costs = All-from_recursion (λ (r : BorderRow). r.cost ≤ COST_MAX) (row ∷ rows) costs;
    }

solved_given : (words : List (List ℕ)) (e : LineEvent) → solved_in words ≡ Some e → IsBlindLine e
unfolding solved_in
solved_given words e is =
    let at = by_parts (first as_in words) _ e is in
    let number = by_parts (first number_64 at.0.1) _ e at.2 in
    let table = by_parts (rows_in number.0.1) _ e number.2 in
    go at.0.0 number.0.0 table.0 (rows_cost number.0.1 table.0 table.1) (are_rows_at at.0.0 table.0) refl table.2
  where
    go : (at : As) (k : ℕ) (rows : List BorderRow) → WithinCosts rows → (b : Bool) → are_rows_at at rows ≡ b → cond b (Some (event.Solve at k rows)) None ≡ Some e → IsBlindLine e
    go at k rows costs true are h = is_event IsBlindLine (event.Solve at k rows) e h (are_given at rows costs are)
    go at k rows costs false are h = absurd (cc)

-- ---- lines

abbrev Anything : List (List ℕ) → Type 0
Anything words = Unit {0}

each_given : (peers : List PeerRow) → AllByRecursion (ReadsSo Anything IsBlindLine (behind_blind peers)) verbs
unfolding behind behind_blind
each_given peers = (
  λ words e any is. no_event IsBlindLine e is,
  (
    λ words e any is. no_event IsBlindLine e is,
    (
      λ words e any is. named_then IsBlindLine (both (peer_in peers) number_32 words) (λ p. event.Open p.0 p.1) (λ p. tt) e is,
      (
        λ words e any is. named_then IsBlindLine (only (peer_in peers) words) event.Shut (λ p. tt) e is,
        (
          λ words e any is. named_then IsBlindLine (both (peer_in peers) hex_in words) (λ p. event.Feed p.0 p.1) (λ p. tt) e is,
          (
            λ words e any is. named_then IsBlindLine (both (peer_in peers) hex_in words) (λ p. event.Receive p.0 p.1) (λ p. tt) e is,
            (
              λ words e any is. named_then IsBlindLine (only (peer_in peers) words) event.Take (λ p. tt) e is,
              (
                λ words e any is. named_then IsBlindLine (both as_in as_in words) (λ p. event.Carry p.0 p.1) (λ p. tt) e is,
                (
                  λ words e any is. named_then IsBlindLine (both as_in as_in words) (λ p. event.Break p.0 p.1) (λ p. tt) e is,
                  (
                    λ words e any is. solved_given words e is,
                    (
                      λ words e any is. named_then IsBlindLine (only number_64 words) (λ n. event.Tick (record { 0 = n })) (λ p. tt) e is,
                      (
                        λ words e any is. named_then IsBlindLine (both (peer_in peers) number_32 words) (λ p. event.Drain p.0 p.1) (λ p. tt) e is,
                        (
                          λ words e any is. last_event IsBlindLine event.Settle e words is tt,
                          (
                            λ words e any is. no_event IsBlindLine e is,
                            (
                              λ words e any is. no_event IsBlindLine e is,
                              (
                                λ words e any is. no_event IsBlindLine e is,
                                tt,
                              ),
                            ),
                          ),
                        ),
                      ),
                    ),
                  ),
                ),
              ),
            ),
          ),
        ),
      ),
    ),
  ),
)

-- a line of a network without topologies asks for an event that such a network has
pub blind_line_given : (n : NetworkParts) (line : List ℕ) (e : LineEvent) → blind_line_in n line ≡ Some (Some e) → IsBlindLine e
blind_line_given n line e is =
    let words = by_parts (words_of line) (blind_event_in n.peers) e (said (is_skipped line) (words_of line >>= blind_event_in n.peers) e is) in
    by_verb Anything IsBlindLine (λ word rest any. tt) verbs verb_word (behind_blind n.peers) (each_given n.peers) words.0 e tt words.2
