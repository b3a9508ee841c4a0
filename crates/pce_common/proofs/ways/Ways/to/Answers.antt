use Rattle.std.proofs.Common.{◌∙◌, List, Some, sym, ap, subst, arith}
use Rattle.plant_model.specs.Element.{Way, way_to}
use Rattle.pce_common.specs.Ways.{IsFirstTo, IsNowhere}
use Rattle.pce_common.proofs.WayLemmas.{first_within, way_nowhere, way_first}
use Rattle.pce_common.proofs.ways.Ways.to.Goals as goal

pub index-requires : goal.index-requires
index-requires c = omega (arith, first_within c.args.peer c.in-Some.i c.self.inside.rows.items (subst (λ (ws : List Way). IsFirstTo c.args.peer c.in-Some.i ws) c.deref.ensures.value c.in-Some.ensures), c.self.inside.rows.ok.0)

pub returns-in-Some : goal.returns-in-Some
returns-in-Some c =
    ap (λ (w : Way). Some w) c.index.ensures
    ∙ sym (way_first c.args.peer c.in-Some.i c.self.inside.rows.items c.index.result.now (subst (λ (ws : List Way). IsFirstTo c.args.peer c.in-Some.i ws) c.deref.ensures.value c.in-Some.ensures))
    ∙ ap (way_to c.args.peer) c.self.view_is

pub returns-in-None : goal.returns-in-None
returns-in-None c = sym (way_nowhere c.args.peer c.args.self.now (subst (IsNowhere c.args.peer) (c.deref.ensures.value ∙ c.self.view_is) c.in-None.ensures))
