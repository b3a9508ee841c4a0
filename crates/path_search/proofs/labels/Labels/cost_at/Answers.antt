use Rattle.std.proofs.Common.{◌≡◌, ◌∙◌, List, length, ap, sym, refl, arith}
use Rattle.std.specs.declared.option.Option.{Option}
use Rattle.std.proofs.lemmas.List.{length-map}
use Rattle.std.proofs.lemmas.Option.{slice_get_read}
use Rattle.dom_base.specs.declared.query.Label.{Label}
use Rattle.path_search.specs.Arcs.{label_at}
use Rattle.path_search.specs.Front.{cost_of}
use Rattle.path_search.specs.Short.{label_by}
use Rattle.path_search.proofs.ShortOrder.{cost_here}
use Rattle.path_search.proofs.labels.Labels.cost_at.Goals as goal

pub returns : goal.returns
returns c =
    let exits = c.self.inside.exits.items in
    let rows = c.self.inside.rows.items in
    let long : length c.args.self.now ≡ length rows = ap length (sym c.self.view_is) ∙ length-map rows (label_by exits) in
    cost_here exits rows c.args.node c.index.result.now c.of.result c.self.invariant (slice_get_read rows (length rows) c.args.node c.index.result.now refl (omega (arith, long, c.requires)) c.index.ensures) c.of.ensures
    ∙ ap (λ (ls : List (Option Label)). cost_of (label_at ls c.args.node)) c.self.view_is
