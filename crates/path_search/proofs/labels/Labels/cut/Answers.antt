use Rattle.std.proofs.Common.{◌≡◌, ◌++◌, List, length, map, take, drop, sym, subst, ◌∙◌, ap}
use Rattle.std.specs.declared.option.Option.{Option}
use Rattle.dom_base.specs.declared.query.Label.{Label}
use Rattle.walk_laws.specs.Capped.{cut}
use Rattle.path_search.specs.declared.short.Short.{Short}
use Rattle.path_search.specs.Short.{AreShort, labels_by, cut_short}
use Rattle.path_search.proofs.ShortCut.{cut_by, cut_held, written_whole}
use Rattle.path_search.proofs.labels.Labels.cut.Goals as goal

pub invariant_of-self : goal.invariant_of-self
invariant_of-self c =
    let exits = c.self.inside.exits.items in
    let rows = c.self.inside.rows.items in
    let is = written_whole rows c.cut_rows.new.rows c.self.inside.rows.len c.args.most (sym c.deref_mut.ensures.len ∙ ap length c.deref_mut.ensures.value)
    (c.cut_rows.ensures.rows ∙ ap (map (cut_short c.args.most)) c.deref_mut.ensures.value) in
    subst (AreShort exits) (sym is) (cut_held exits c.args.most rows c.self.invariant)

pub returns : goal.returns
returns c =
    let exits = c.self.inside.exits.items in
    let rows = c.self.inside.rows.items in
    let is = written_whole rows c.cut_rows.new.rows c.self.inside.rows.len c.args.most (sym c.deref_mut.ensures.len ∙ ap length c.deref_mut.ensures.value)
    (c.cut_rows.ensures.rows ∙ ap (map (cut_short c.args.most)) c.deref_mut.ensures.value) in
    ap (labels_by exits) is ∙ cut_by exits c.args.most rows c.cut_rows.ensures.bound ∙ ap (map (cut c.args.most)) c.self.view_is
