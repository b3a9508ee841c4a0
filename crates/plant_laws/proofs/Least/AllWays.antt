-- Each best row of a solve stands for a least walk, and an entry without a row has none.
use Rattle.std.proofs.Common.{◌≡◌, ◌⊎◌, ◌≤◌, ℕ, List, [], ◌∷◌, sym, ◌∙◌, ap, subst, refl}
use Rattle.std.specs.Prelude.{Contains}
use Rattle.dom_base.specs.declared.limits.TheConstants.{COST_MAX}
use Rattle.plant_model.specs.Types.{Addr, As, Path, Wanted, Best, Branch, Ask, NetworkParts}
use Rattle.te_links.specs.Rows.{Rows, IsInOrder}
use Rattle.walk_laws.specs.Crossing.{query_in, HasNoCrossing}
use Rattle.walk_laws.specs.Composition.{IsEntryFrom, AreBeyond}
use Rattle.border_costs.specs.declared.job.Target.TheVariants.{Node, Next}
use Rattle.border_costs.specs.declared.answer.Answer.{Answer as Answers}
use Rattle.border_costs.specs.Asks.{beyond}
use Rattle.border_costs.specs.Solutions.{AreRows}
use Rattle.plant_model.specs.Wire.{Codec}
use Rattle.plant_model.specs.Branches.{downs, branches_in}
use Rattle.plant_model.specs.Laws.{IsCodec}
use Rattle.plant_model.specs.Element.{Item}
use Rattle.plant_model.specs.Jobs.{ask_of, target_along}
use Rattle.plant_model.specs.Plant.{Pin}
use Rattle.plant_laws.specs.Transcript.{Visit, pinned, domains}
use Rattle.plant_laws.specs.Ends.{End, Inside, Asked, goal_of}
use Rattle.border_costs.proofs.Composing.{rows_compose, rows_end, rows_report}
use Rattle.plant_laws.proofs.Least.BorderJoins.{finds}
use Rattle.plant_laws.proofs.Least.BestParts.{best_ends, best_goes_on}
use Rattle.plant_laws.proofs.Least.Told.{from_path, IsTold, told_beyond}
use Rattle.plant_laws.proofs.Least.Ways.{IsWay, end_way, over_way, on_way}

pub record AreWays (n : NetworkParts) (w : Wanted) (end : End) (one : Visit) (chain : List Visit) (down : List Branch) (entries : List Addr) (best : List Best) : Type 0 where
  pub each : (b : Best) → Contains best b → Contains entries b.entry × IsWay n w.query end w.target one chain down b
  pub every : (e : Addr) → Contains entries e → HasNoCrossing w.query (pinned one.own one.at) (domains chain) e (goal_of end) ⊎ ((b : Best) × Contains best b × (b.entry ≡ e))

module _ (n : NetworkParts) (d : As) (k : ℕ) (item : Item Pin) (one : Visit) (number : ℕ) (rows : Answers)
    (own : item.wanted.query ≡ query_in item.wanted.query one.own) (home : item.wanted.query ≡ query_in item.wanted.query (pinned one.own one.at).own) where
  abbrev g : Rows
  g = pinned one.own one.at

  abbrev w : Wanted
  w = item.wanted

  abbrev asked : List Branch → Ask
  asked down = ask_of d k item down number g

  pub end_ways : (own_as : As) → item.sequence ≡ own_as ∷ [] → AreRows g (asked []) rows → AreWays n w (Inside w.target) one [] [] (asked []).entries rows.best
  end_ways own_as sequence are =
      let a = asked [] in
      let target : a.target ≡ Node w.target = ap (λ (s : List As). target_along s w.target) sequence in
      let tells = rows_end w.query g w.target a rows are home target in
      let found = finds g a are.seeds a.entries rows.best are.best in
      record {
        each = λ b is.
            let row = found.each b is in
            (row.0, end_way n w one own home b (best_ends g a are.seeds w.target b are.are_seeds.are target row.1) (tells.each b is).1);
        every = tells.every;
      }

  -- over what an outside element told
  pub over_ways : (next : As) (rest : List As) (told : List Branch) → item.sequence ≡ one.own ∷ next ∷ rest → IsInOrder g → AreRows g (asked told) rows →
      AreWays n w (Asked next told) one [] told (asked told).entries rows.best
  over_ways next rest told sequence order are =
      let a = asked told in
      let target : a.target ≡ Next next = ap (λ (s : List As). target_along s w.target) sequence in
      let tells = rows_report w.query g next a rows are home target in
      let found = finds g a are.seeds a.entries rows.best are.best in
      record {
        each = λ b is.
            let row = found.each b is in
            let part = best_goes_on g a are.seeds next told b order are.are_seeds.are target refl row.1 in
            (row.0, over_way n w one own home next told b part (tells.each b is).1);
        every = tells.every;
      }

  pub on_ways : (c : Codec) (codec : IsCodec c) (next : Visit) (chain : List Visit) (end : End) (rest : List As) → item.sequence ≡ one.own ∷ next.own ∷ rest → w.query.cap ≤ COST_MAX → IsInOrder g → g.own ≡ one.own →
      (pinned next.own next.at).own ≡ next.own → (paths : List Path) → IsTold c n one.own next chain end w paths →
      AreRows g (asked (branches_in c w.query.metric paths)) rows → AreWays n w end one (next ∷ chain) (branches_in c w.query.metric paths) (asked (branches_in c w.query.metric paths)).entries rows.best
  on_ways c codec next chain end rest sequence small order here at_next paths told are =
      let down = branches_in c w.query.metric paths in
      let a = asked down in
      let h = pinned next.own next.at in
      let to_next : a.target ≡ Next next.own = ap (λ (s : List As). target_along s w.target) sequence in
      let target : a.target ≡ Next h.own = to_next ∙ ap (λ (x : As). Next x) (sym at_next) in
      let right' = told_beyond c codec n one.own next chain end w small paths told in
      let right = subst (λ (x : As). AreBeyond w.query x h (domains chain) (goal_of end) (beyond (downs down))) (sym here) right' in
      let tells = rows_compose w.query g h (domains chain) (goal_of end) a rows are home target right in
      let found = finds g a are.seeds a.entries rows.best are.best in
      record {
        each = λ b is.
            let row = found.each b is in
            let part = best_goes_on g a are.seeds next.own down b order are.are_seeds.are to_next refl row.1 in (
              row.0,
              on_way n w one own home c codec next chain end small here at_next paths b part
                  (from_path c codec n (next ∷ chain) end w small (IsEntryFrom h one.own) paths told.each part.below.branch part.below.is_branch) (tells.each b is).1 right',
            );
        every = tells.every;
      }
