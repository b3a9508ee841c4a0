use Rattle.std.proofs.Common.{◌≡◌, ◌∙◌, Some, sym, ap, true, false}
use Rattle.std.specs.Prelude.{slice_get}
use Rattle.std.proofs.lemmas.Bool.Decides.{Decides-eqb}
use Rattle.dom_base.specs.declared.query.Label.{Label}
use Rattle.dom_base.proofs.Ranks.{Decides-rank}
use Rattle.path_search.specs.Arcs.{label_at}
use Rattle.path_search.proofs.Places.{same_place}
use Rattle.cost_cache.proofs.ends.end_by.Goals as goal
use Rattle.cost_cache.proofs.ends.end_by.Goals.{else-eq-via-then-eq+else-eq-2, else-eq-via-else-eq}

pub returns-then-eq-2 : goal.returns-then-eq-2
returns-then-eq-2 g c =
    let seed = c.args.seed.now in
    let label = c.in-Some-at.label in
    record {
      at_node = c.in-Some.ensures;
      label = label;
      at_label = sym c.in-Some-at.ensures;
      cost = (Decides-eqb label.cost seed.cost).0 (sym c.if-eq.ensures);
      exit = (Decides-rank label.exit seed.exit).0 (sym c.if-eq-2.ensures);
    }

pub returns-else-eq : goal.returns-else-eq
returns-else-eq g c = λ i by.
    let nodes = (g.G.Links.rows c.args.links.now).nodes in
    let seed = c.args.seed.now in
    let label = c.in-Some-at.label in
    let at_node : slice_get nodes c.in-Some.place ≡ Some seed.node = c.in-Some.ensures in
    let one : i ≡ c.in-Some.place = same_place nodes c.requires.rules.nodes_differ i c.in-Some.place seed.node by.at_node at_node in
    let both : Some label ≡ Some by.label = c.in-Some-at.ensures ∙ ap (label_at c.args.labels.now) (sym one) ∙ by.at_label in
    let same : label ≡ by.label = cc in
    let cost : label.cost ≡ seed.cost = ap (λ (b : Label). b.cost) same ∙ by.cost in
    let exit : label.exit ≡ seed.exit = ap (λ (b : Label). b.exit) same ∙ by.exit in
    elim c.else-eq.branch [
      | else-eq-via-then-eq+else-eq-2 w ↦ let bad : false ≡ true = w.if-eq-2.ensures ∙ (Decides-rank label.exit seed.exit).1 exit in cc
      | else-eq-via-else-eq w ↦ let bad : false ≡ true = w.if-eq.ensures ∙ (Decides-eqb label.cost seed.cost).1 cost in cc
    ]
