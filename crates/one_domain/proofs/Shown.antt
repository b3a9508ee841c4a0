-- What the rows of an ask with one entry and one target show of the domain.
use Rattle.std.proofs.Common.{◌≡◌, ℕ, [], ◌∷◌, ◌++◌, List, Some, None, inl, inr, sym, ◌∙◌, ap, subst, arith, length, length-append}
use Rattle.std.specs.Prelude.{MatchOption, option_map, Result, Ok, Err, IfOk}
use Rattle.dom_base.specs.declared.names.NoMemory.{NoMemory}
use Rattle.pcep_messages.specs.declared.message.Answer.{Answer as Reply}
use Rattle.one_domain.specs.Replies.{IsAnswer, IsPathAnswer}
use Rattle.std.specs.declared.option.Option.{Option}
use Rattle.dom_base.specs.declared.addr.Addr.{Addr}
use Rattle.dom_base.specs.declared.query.Label.{Label}
use Rattle.dom_base.specs.declared.query.Seed.{Seed}
use Rattle.te_links.specs.Rows.{Rows}
use Rattle.walk_laws.specs.Labels.{IsSegment}
use Rattle.walk_laws.specs.Borders.{JoinsAt}
use Rattle.path_search.specs.Search.{AreLabels}
use Rattle.vspt_tree.specs.declared.branch.Best.{Best}
use Rattle.pcep_messages.specs.declared.message.Wanted.{Wanted}
use Rattle.border_costs.specs.declared.answer.Answer.{Answer}
use Rattle.border_costs.specs.declared.answer.LabelledAnswer.{LabelledAnswer}
use Rattle.border_costs.specs.Solutions.{AreRows, AreBest, AreLabelledRows, IsBest}
use Rattle.one_domain.specs.declared.domain.Chosen.{Chosen}
use Rattle.one_domain.specs.Domain.{target_seeds, ask_of, ShowsLeast, HasNone, IsChosen, HasLabels}
use Rattle.one_domain.proofs.OneSeed.{segment_least, joins_label}

-- the best way is the chosen segment, of least cost
shows : (g : Rows) (w : Wanted) (seeds : List Seed) (row : Best) → seeds ≡ target_seeds w.target → IsBest g (ask_of g.own w) seeds w.source row →
    ShowsLeast g w.query w.source w.target row.segment row.cost
shows g w seeds row are is =
    let a : Label = record { cost = row.cost; exit = row.exit } in
    let joins : JoinsAt g w.query w.target w.source a = is.pair in
    let label = joins_label g w.query w.target w.source a joins in
    let segment : IsSegment g w.query (target_seeds w.target) w.source a is.links = subst (λ (s : List Seed). IsSegment g w.query s w.source a is.links) are is.chosen in
    let least = segment_least g w.query w.target w.source a is.links label segment in
    record {
      links = is.links;
      least = least.0;
      is_cost = least.1;
      chosen = subst (λ (e : Addr). IsSegment g w.query (target_seeds w.target) w.source (record { cost = row.cost; exit = e }) is.links) joins.exit segment;
      shown = is.shown;
    }

one_row : (rest : List Best) (b row : Best) → rest ++ b ∷ [] ≡ row ∷ [] → b ≡ row
one_row [] b row is = cc
one_row (x ∷ rest) b row is = absurd (omega (arith, ap length is, length-append rest (b ∷ [])))

no_row : (rest : List Best) (b : Best) → rest ++ b ∷ [] ≡ [] → ⊥
no_row rest b is = omega (arith, ap length is, length-append rest (b ∷ []))

pub none_chosen : (g : Rows) (w : Wanted) (rows : Answer) → AreRows g (ask_of g.own w) rows → rows.best ≡ [] → HasNone g w.query w.source w.target
none_chosen g w rows are none = go are.best
  where
    go : AreBest g (ask_of g.own w) are.seeds (w.source ∷ []) rows.best → HasNone g w.query w.source w.target
    go (inl none_there) = none_there.0
    go (inr some) = let bad : some.0 ∷ some.1 ≡ [] = sym some.2 ∙ none in absurd (cc)

pub is_chosen : (g : Rows) (w : Wanted) (rows : Answer) (rest : List Best) (b : Best) → AreRows g (ask_of g.own w) rows → rows.best ≡ rest ++ b ∷ [] →
    ShowsLeast g w.query w.source w.target b.segment b.cost
is_chosen g w rows rest b are is = go are.best
  where
    go : AreBest g (ask_of g.own w) are.seeds (w.source ∷ []) rows.best → ShowsLeast g w.query w.source w.target b.segment b.cost
    go (inl none_there) = absurd (no_row rest b (sym is ∙ none_there.1))
    go (inr some) =
        let last : some.1 ≡ [] = some.4 in
        let one : rest ++ b ∷ [] ≡ some.0 ∷ [] = sym is ∙ some.2 ∙ ap (λ (l : List Best). some.0 ∷ l) last in
        let same : b ≡ some.0 = one_row rest b some.0 one in
        subst (λ (row : Best). ShowsLeast g w.query w.source w.target row.segment row.cost) (sym same) (shows g w are.seeds some.0 are.are_seeds.are some.3)

pub labelled : (g : Rows) (w : Wanted) (told : LabelledAnswer) → AreLabelledRows g (ask_of g.own w) told → HasLabels g w told.certificate
labelled g w told are =
    let seeds = are.are_rows.are_seeds.are in
    record {
      own = are.labels.own;
      labels = are.labels.labels;
      are_labels = subst (λ (s : List Seed). AreLabels g w.query s are.labels.labels) seeds are.labels.are_labels;
      rows = are.labels.rows;
    }

-- the one best way, if there is one, is the chosen path
pub chosen_is : (g : Rows) (w : Wanted) (rows : Answer) (o : Option Chosen) → AreRows g (ask_of g.own w) rows →
    MatchOption o (rows.best ≡ []) (λ c. (rest : List Best) × (b : Best) × (rows.best ≡ rest ++ b ∷ []) × (c.hops ≡ b.segment) × (c.cost ≡ b.cost)) → IsChosen g w o
chosen_is g w rows None are none = none_chosen g w rows are none
chosen_is g w rows (Some c) are some = rw (some.3, some.4) (is_chosen g w rows some.0 some.1 are some.2)

pub path_is : (g : Rows) (w : Wanted) (o : Option Chosen) → IsChosen g w o →
    MatchOption (option_map (λ (c : Chosen). c.hops) o) (HasNone g w.query w.source w.target) (λ addrs. (cost : ℕ) × ShowsLeast g w.query w.source w.target addrs cost)
path_is g w None is = is
path_is g w (Some c) is = (c.cost, is)

answered : (g : Rows) (w : Wanted) (c : Chosen) (answer : Reply) → ShowsLeast g w.query w.source w.target c.hops c.cost → IsPathAnswer w.query.metric c answer → IsAnswer g w answer
answered g w c answer shows is = inl (record { addrs = c.hops; cost = c.cost; shows = shows; word = is.word; value = is.value; is = is.is })

pub answered_if : (g : Rows) (w : Wanted) (c : Chosen) (r : Result Reply NoMemory) → ShowsLeast g w.query w.source w.target c.hops c.cost →
    IfOk r (IsPathAnswer w.query.metric c) → IfOk r (IsAnswer g w)
answered_if g w c (Ok answer) shows is = answered g w c answer shows is
answered_if g w c (Err e) shows is = is
