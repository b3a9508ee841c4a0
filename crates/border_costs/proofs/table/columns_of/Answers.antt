use Rattle.std.proofs.Common.{◌≡◌, ◌∙◌, ◌+◌, ◌++◌, ◌∷◌, [], List, map, take, sym, ap, subst, arith}
use Rattle.std.specs.Prelude.{All}
use Rattle.std.proofs.lemmas.List.{map-append, take_more}
use Rattle.std.proofs.lemmas.List.Elements.{All-push}
use Rattle.te_links.specs.Rows.{Rows}
use Rattle.path_search.specs.Search.{AreLabels}
use Rattle.border_costs.specs.declared.table.Column.{Column}
use Rattle.border_costs.specs.declared.ways.Way.{Way}
use Rattle.border_costs.proofs.table.columns_of.Goals as goal

pub loop-way-preserved : goal.loop-way-preserved
loop-way-preserved g c =
    let before = c.loop-way.columns.items in
    let items = c.deref-way-items.result.now in
    let i = c.loop-way.way-index in
    let w = c.way-item.result in
    let query = c.args.ask.now.query in
    let column : Column = record { way = w; labels = c.in_ok-labels.labels } in
    let pushed : c.push.new.self.items ≡ before ++ column ∷ [] = c.in_ok-push.ensures.items in
    let same = c.in_ok-labels.ensures.same in
    let more : take (i + 1) items ≡ take i items ++ w ∷ [] = take_more items i w (omega arith) ∙ ap (λ (v : Way). take i items ++ v ∷ []) (sym c.way-item.is) in
    let way : Column → Way = λ d. d.way in
    record {
      same = same ∙ c.loop-way.invariant.same;
      ways = ap (map way) pushed ∙ map-append way before (column ∷ []) ∙ ap (λ (ws : List Way). ws ++ w ∷ []) c.loop-way.invariant.ways ∙ sym more;
      labels = subst (All (λ (d : Column). AreLabels (g.G.Links.rows c.search.new.links) query (d.way.seed ∷ []) d.labels)) (sym pushed)
          (All-push (λ (d : Column). AreLabels (g.G.Links.rows c.search.new.links) query (d.way.seed ∷ []) d.labels) before column
          (subst (λ (h : Rows). All (λ (d : Column). AreLabels h query (d.way.seed ∷ []) d.labels) before) (sym same) c.loop-way.invariant.labels)
          (subst (λ (h : Rows). AreLabels h query (w.seed ∷ []) c.in_ok-labels.labels) (sym same) c.in_ok-labels.ensures.labels));
    }
