use Rattle.std.proofs.Common.{◌≡◌, IfOk, Some, slice_get, sym, subst, List, ℕ}
use Rattle.std.specs.Option.{option_map}
use Rattle.plant_model.specs.RealWire.{wire}
use Rattle.plant_model.specs.Deeds.{input_of}
use Rattle.network_links.specs.Sides.{Side}
use Rattle.network_links.proofs.RowLemmas.{read_side}
use Rattle.network_links.proofs.links.Links.first_input.Goals as goal

pub returns-in-Some : goal.returns-in-Some
returns-in-Some c =
    subst (λ (s : Side). IfOk c.first_input.result (λ input. input ≡ option_map (λ (frame : List ℕ). input_of wire (Some frame)) (slice_get s.kept.out 0)))
    (sym (read_side c.args.from c.args.to c.in-Some.place.link c.in-Some.place.end c.deref.result.now c.self.inside.links.items c.args.self.now c.deref.ensures.value c.self.view_is c.in-Some.ensures c.index.result.now c.index.ensures)) c.first_input.ensures
