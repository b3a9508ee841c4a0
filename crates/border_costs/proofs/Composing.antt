-- Over right rows of the next domain the rows of a domain are least.
use Rattle.std.proofs.Common.{List, [], ◌∷◌, Option, Some, None, sym, ◌∙◌, subst, inl, inr}
use Rattle.std.specs.Prelude.{Contains}
use Rattle.dom_base.specs.declared.addr.Addr.{Addr}
use Rattle.dom_base.specs.declared.query.Query.{Query}
use Rattle.dom_base.specs.declared.query.Label.{Label}
use Rattle.dom_base.specs.declared.query.Seed.{Seed}
use Rattle.te_links.specs.Rows.{Rows}
use Rattle.walk_laws.specs.Crossing.{Goal, At, Told, IsLeastCost, HasNoCrossing}
use Rattle.walk_laws.specs.Composition.{IsLeastOf}
use Rattle.walk_laws.proofs.Composing as laws
use Rattle.vspt_tree.specs.declared.branch.Best.{Best}
use Rattle.border_costs.specs.declared.job.Target.{Target}
use Rattle.border_costs.specs.declared.job.Target.TheVariants.{Node, Next}
use Rattle.border_costs.specs.declared.job.Ask.{Ask}
use Rattle.border_costs.specs.Asks.{IsPair, IsPairTo, beyond}
use Rattle.border_costs.specs.Solutions.{IsBest, AreBest}
use Rattle.border_costs.specs.Composing.{TellLeast, RowsCompose, RowsEnd, RowsReport}
use Rattle.border_costs.proofs.Members.{contains_head, contains_tail, contains_cases, contains_none}

module _ (g : Rows) (a : Ask) (seeds : List Seed) (q : Query) (rest : List Rows) (goal : Goal) (least : (e : Addr) (o : Option Label) → IsPair g a e o → IsLeastOf q g rest e goal o) where
  tells : (es : List Addr) (best : List Best) → AreBest g a seeds es best → TellLeast q g rest goal es best
  tells [] best is = subst (λ (rows : List Best). TellLeast q g rest goal [] rows) (sym is) (record { each = λ b c. absurd (contains_none b c); every = λ e c. absurd (contains_none e c) })
  tells (e ∷ es) best (inl none) =
      let more = tells es best none.1 in
      record {
        each = λ b c. (let r = more.each b c in (contains_tail e es b.entry r.0, r.1));
        every = λ x c. elim (contains_cases e es x c) [
          | inl same ↦ inl (subst (λ (y : Addr). HasNoCrossing q g rest y goal) same (least e None none.0))
          | inr others ↦ more.every x others
        ];
      }
  tells (e ∷ es) best (inr found) = subst (λ (rows : List Best). TellLeast q g rest goal (e ∷ es) rows) (sym found.2) (go found.0 found.1 found.3 (tells es found.1 found.4))
    where
      go : (row : Best) (others : List Best) → IsBest g a seeds e row → TellLeast q g rest goal es others → TellLeast q g rest goal (e ∷ es) (row ∷ others)
      go row others is below =
          record {
            each = λ b c. elim (contains_cases row others b c) [
              | inl same ↦ subst (λ (y : Best). Contains (e ∷ es) y.entry × IsLeastCost q g rest y.entry goal y.cost) same
                  (subst (λ (n : Addr). Contains (e ∷ es) n × IsLeastCost q g rest n goal row.cost) (sym is.is_entry)
                  (contains_head e es, least e (Some (record { cost = row.cost; exit = row.exit })) is.pair))
              | inr inside ↦ (let r = below.each b inside in (contains_tail e es b.entry r.0, r.1))
            ];
            every = λ x c. elim (contains_cases e es x c) [
              | inl same ↦ inr (row, contains_head row others, is.is_entry ∙ same)
              | inr inside ↦ elim (below.every x inside) [
                | inl none ↦ inl none
                | inr known ↦ inr (known.0, contains_tail row others known.0 known.1, known.2)
              ]
            ];
          }

pub rows_compose : RowsCompose
rows_compose q g h rest goal a rows are query target beyond' =
    tells g a are.seeds q (h ∷ rest) goal
    (λ e o pair. laws.composes q g h rest goal (beyond a.down) beyond' e o
    (subst (λ (k : Query). IsPairTo g k a.down e (Next h.own) o) query (subst (λ (to : Target). IsPairTo g a.query a.down e to o) target pair)))
    a.entries rows.best are.best

pub rows_end : RowsEnd
rows_end q g t a rows are query target =
    tells g a are.seeds q [] (At t)
    (λ e o pair. laws.ends q g e t o (subst (λ (k : Query). IsPairTo g k a.down e (Node t) o) query (subst (λ (to : Target). IsPairTo g a.query a.down e to o) target pair)))
    a.entries rows.best are.best

pub rows_report : RowsReport
rows_report q g next a rows are query target =
    tells g a are.seeds q [] (Told next (beyond a.down))
    (λ e o pair. laws.reports q g next (beyond a.down) e o
    (subst (λ (k : Query). IsPairTo g k a.down e (Next next) o) query (subst (λ (to : Target). IsPairTo g a.query a.down e to o) target pair)))
    a.entries rows.best are.best
