use Rattle.std.proofs.Common.{◌∙◌, List, ap}
use Rattle.pce_common.specs.plant_model.Types.{ElementRow}
use Rattle.plant_text.specs.Settings.{row_of, deny_at}
use Rattle.pce_common.specs.plant_model.Routes.{routes_from}
use Rattle.network_links.specs.Adjacencies.{others}
use Rattle.network_members.specs.Fresh.{figures_from}
use Rattle.network_members.proofs.FreshLemmas.{new_for, life_least, life_most}
use Rattle.network_members.proofs.fresh.element_of.Goals as goal

pub new-requires-clause-least : goal.new-requires-clause-least
new-requires-clause-least g c = life_least c.args.parts.now c.args.own c.figures_of-figures.result (c.figures_of-figures.ensures ∙ ap (λ (rows : List ElementRow). figures_from (row_of c.args.own rows)) c.as_slice.ensures) c.requires.lives

pub new-requires-clause-most : goal.new-requires-clause-most
new-requires-clause-most g c = life_most c.args.parts.now c.args.own c.figures_of-figures.result (c.figures_of-figures.ensures ∙ ap (λ (rows : List ElementRow). figures_from (row_of c.args.own rows)) c.as_slice.ensures) c.requires.lives

pub returns : goal.returns
returns g c =
    new_for g.W.World.first c.args.parts.now c.args.own c.figures_of-figures.result c.in_ok-deny.deny c.in_ok-routes.routes c.as_slice-4.result.now c.new.result
    (c.figures_of-figures.ensures ∙ ap (λ (rows : List ElementRow). figures_from (row_of c.args.own rows)) c.as_slice.ensures)
    (c.in_ok-deny.ensures ∙ ap (deny_at c.args.own) c.as_slice-2.ensures)
    (c.in_ok-routes.ensures ∙ ap (routes_from c.args.own 0) c.as_slice-3.ensures)
    (c.as_slice-4.ensures ∙ c.in_ok-links.ensures ∙ ap (others c.args.own) c.requires.adjacencies)
    c.new.ensures
