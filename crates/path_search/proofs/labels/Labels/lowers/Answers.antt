use Rattle.std.proofs.Common.{◌≡◌, ◌∙◌, List, Bool, length, ap, sym, refl, subst, arith}
use Rattle.std.specs.Prelude.{MatchBool}
use Rattle.std.specs.declared.option.Option.{Option}
use Rattle.std.proofs.lemmas.List.{length-map}
use Rattle.std.proofs.lemmas.Option.{slice_get_read}
use Rattle.dom_base.specs.declared.query.Label.{Label}
use Rattle.path_search.specs.Arcs.{IsRelaxed}
use Rattle.path_search.specs.Short.{label_by, labels_by}
use Rattle.path_search.proofs.ShortOrder.{told_lowers}
use Rattle.path_search.proofs.labels.Labels.lowers.Goals as goal

pub returns : goal.returns
returns c =
    let exits = c.self.inside.exits.items in
    let rows = c.self.inside.rows.items in
    let cap = c.args.cap in
    let arc = c.args.arc in
    let t = c.index-old.result.now in
    let h = c.index-rest.result.now in
    let long : length c.args.self.now ≡ length rows = ap length (sym c.self.view_is) ∙ length-map rows (label_by exits) in
    let told = told_lowers exits rows cap arc t h c.lowered.result c.self.invariant
    (slice_get_read rows (length rows) arc.tail t refl (omega (arith, long, c.requires.tail)) c.index-old.ensures)
    (slice_get_read rows (length rows) arc.head h refl (omega (arith, long, c.requires.head)) c.index-rest.ensures)
    c.lowered.ensures.bound c.lowered.ensures.sum in
    subst (λ (ls : List (Option Label)). MatchBool c.is_some.result (¬ IsRelaxed cap ls arc) (IsRelaxed cap ls arc)) c.self.view_is
    (subst (λ (b : Bool). MatchBool b (¬ IsRelaxed cap (labels_by exits rows) arc) (IsRelaxed cap (labels_by exits rows) arc)) (sym c.is_some.ensures) told)
