use Rattle.std.proofs.Common.{◌∙◌, length, sym, ap}
use Rattle.network_links.specs.Sides.{Side}
use Rattle.network_links.proofs.RowLemmas.{read_side}
use Rattle.network_links.proofs.links.Links.queued.Goals as goal

pub returns-in-Some : goal.returns-in-Some
returns-in-Some c =
    c.queued.ensures ∙ sym (ap (λ (s : Side). length s.kept.out) (read_side c.args.from c.args.to c.in-Some.place.link c.in-Some.place.end c.deref.result.now c.self.inside.links.items c.args.self.now c.deref.ensures.value c.self.view_is c.in-Some.ensures c.index.result.now c.index.ensures))
