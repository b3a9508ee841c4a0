use Rattle.std.proofs.Common.{◌∙◌, not, List, ap}
use Rattle.pce_common.specs.plant_model.Types.{Deny}
use Rattle.disclosure.specs.Policy.{is_denied}
use Rattle.pce_element.specs.Seen.{Seen}
use Rattle.pce_element.proofs.element.Element.allows.Goals as goal

pub returns : goal.returns
returns g c =
    c.allows.ensures ∙ ap (λ (rows : List Deny). not (is_denied rows c.args.class c.args.next)) c.as_slice.ensures
    ∙ ap (λ (s : Seen _ _). not (is_denied s.place.deny c.args.class c.args.next)) c.self.view_is
