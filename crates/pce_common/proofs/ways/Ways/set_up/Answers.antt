use Rattle.std.proofs.Common.{◌∙◌, List, sym, ap, subst}
use Rattle.plant_model.specs.Element.{Way, with_up}
use Rattle.pce_common.specs.Ways.{IsFirstTo, IsNowhere, no_way}
use Rattle.pce_common.proofs.WayLemmas.{first_within, up_nowhere, up_first}
use Rattle.pce_common.proofs.ways.Ways.set_up.Goals as goal

pub set_up_at-requires : goal.set_up_at-requires
set_up_at-requires c = first_within c.args.peer c.in-Some.i c.self.inside.rows.items (subst (λ (ws : List Way). IsFirstTo c.args.peer c.in-Some.i ws) c.deref.ensures.value c.in-Some.ensures)

pub returns-in-Some : goal.returns-in-Some
returns-in-Some c =
    c.set_up_at.ensures
    ∙ sym (up_first c.args.peer c.args.up c.in-Some.i c.self.inside.rows.items no_way (subst (λ (ws : List Way). IsFirstTo c.args.peer c.in-Some.i ws) c.deref.ensures.value c.in-Some.ensures))
    ∙ ap (with_up c.args.peer c.args.up) c.self.view_is

pub returns-in_default : goal.returns-in_default
returns-in_default c =
    sym (up_nowhere c.args.peer c.args.up c.args.self.now (subst (IsNowhere c.args.peer) (c.deref.ensures.value ∙ c.self.view_is) c.in_default.ensures))
