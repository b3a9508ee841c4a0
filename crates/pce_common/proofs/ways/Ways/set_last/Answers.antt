use Rattle.std.proofs.Common.{◌∙◌, List, sym, ap, subst}
use Rattle.plant_model.specs.Element.{Way, with_last}
use Rattle.pce_common.specs.Ways.{IsFirstTo, IsNowhere, no_way}
use Rattle.pce_common.proofs.WayLemmas.{first_within, last_nowhere, last_first}
use Rattle.pce_common.proofs.ways.Ways.set_last.Goals as goal

pub set_last_at-requires : goal.set_last_at-requires
set_last_at-requires c = first_within c.args.peer c.in-Some.i c.self.inside.rows.items (subst (λ (ws : List Way). IsFirstTo c.args.peer c.in-Some.i ws) c.deref.ensures.value c.in-Some.ensures)

pub returns-in-Some : goal.returns-in-Some
returns-in-Some c =
    c.set_last_at.ensures
    ∙ sym (last_first c.args.peer c.args.id c.in-Some.i c.self.inside.rows.items no_way (subst (λ (ws : List Way). IsFirstTo c.args.peer c.in-Some.i ws) c.deref.ensures.value c.in-Some.ensures))
    ∙ ap (with_last c.args.peer c.args.id) c.self.view_is

pub returns-in_default : goal.returns-in_default
returns-in_default c =
    sym (last_nowhere c.args.peer c.args.id c.args.self.now (subst (IsNowhere c.args.peer) (c.deref.ensures.value ∙ c.self.view_is) c.in_default.ensures))
