use Rattle.std.proofs.Common.{◌≡◌, ◌∙◌, List, length, ap, sym, refl, subst, arith, Some}
use Rattle.std.specs.Prelude.{slice_get, slice_set}
use Rattle.std.specs.declared.option.Option.{Option}
use Rattle.std.proofs.lemmas.List.{length-map}
use Rattle.std.proofs.lemmas.Option.{slice_get_read}
use Rattle.dom_base.specs.declared.query.Label.{Label}
use Rattle.path_search.specs.Arcs.{IsRelaxed, Lowers}
use Rattle.path_search.specs.declared.short.Short.{Short}
use Rattle.path_search.specs.Short.{label_by, labels_by, put_before}
use Rattle.path_search.proofs.ShortOrder.{lowered_short, relaxed_short}
use Rattle.path_search.proofs.labels.Labels.relax.Goals as goal

pub returns-in_default : goal.returns-in_default
returns-in_default c =
    let exits = c.self.inside.exits.items in
    let rows = c.self.inside.rows.items in
    let cap = c.args.cap in
    let arc = c.args.arc in
    let t = c.index-old.result.now in
    let h = c.index-rest.result.now in
    let long : length c.args.self.now ≡ length rows = ap length (sym c.self.view_is) ∙ length-map rows (label_by exits) in
    let at_tail : slice_get rows arc.tail ≡ Some t = slice_get_read rows (length rows) arc.tail t refl (omega (arith, long, c.requires.tail)) c.index-old.ensures in
    let at_head : slice_get rows arc.head ≡ Some h = slice_get_read rows (length rows) arc.head h refl (omega (arith, long, c.requires.head)) c.index-rest.ensures in (
      refl,
      subst (λ (ls : List (Option Label)). IsRelaxed cap ls arc) c.self.view_is
          (relaxed_short exits rows cap arc t h c.self.invariant at_tail at_head c.in_default.ensures.bound c.in_default.ensures.sum),
    )

pub returns : goal.returns
returns c =
    let exits = c.self.inside.exits.items in
    let rows = c.self.inside.rows.items in
    let cap = c.args.cap in
    let arc = c.args.arc in
    let t = c.index-old.result.now in
    let h = c.index-rest.result.now in
    let long : length c.args.self.now ≡ length rows = ap length (sym c.self.view_is) ∙ length-map rows (label_by exits) in
    let at_tail : slice_get rows arc.tail ≡ Some t = slice_get_read rows (length rows) arc.tail t refl (omega (arith, long, c.requires.tail)) c.index-old.ensures in
    let at_head : slice_get rows arc.head ≡ Some h = slice_get_read rows (length rows) arc.head h refl (omega (arith, long, c.requires.head)) c.index-rest.ensures in
    let told = c.in-Some.ensures.sum in
    let found_is : c.in-Some.found ≡ put_before arc.weight h = told.1 in
    let low : Lowers cap arc (labels_by exits rows) (labels_by exits (slice_set rows arc.tail (put_before arc.weight h))) =
    lowered_short exits rows cap arc t h c.self.invariant at_tail at_head c.in-Some.ensures.bound told.0.0 told.0.1 in
    subst (λ (ls : List (Option Label)). Lowers cap arc ls (labels_by exits (slice_set rows arc.tail c.in-Some.found))) c.self.view_is
    (subst (λ (s : Short). Lowers cap arc (labels_by exits rows) (labels_by exits (slice_set rows arc.tail s))) (sym found_is) low)
