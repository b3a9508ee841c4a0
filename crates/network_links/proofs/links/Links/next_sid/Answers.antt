use Rattle.std.proofs.Common.{◌∙◌, sym, ap}
use Rattle.network_links.specs.Sides.{Side}
use Rattle.network_links.specs.Links.{next_sid}
use Rattle.network_links.proofs.RowLemmas.{read_side}
use Rattle.network_links.proofs.links.Links.next_sid.Goals as goal

pub returns-in-Some : goal.returns-in-Some
returns-in-Some c =
    c.next_sid.ensures ∙ sym (ap (λ (s : Side). next_sid s.kept.session) (read_side c.args.at c.args.to c.in-Some.place.link c.in-Some.place.end c.deref.result.now c.self.inside.links.items c.args.self.now c.deref.ensures.value c.self.view_is c.in-Some.ensures c.index.result.now c.index.ensures))
