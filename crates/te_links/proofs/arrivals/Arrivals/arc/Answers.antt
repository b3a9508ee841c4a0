use Rattle.std.proofs.Common.{◌≡◌, ◌<◌, Some, length, sym, subst}
use Rattle.std.specs.Prelude.{slice_get}
use Rattle.te_links.specs.Arrivals.{Arrived}
use Rattle.te_links.proofs.arrivals.Arrivals.arc.Goals as goal

pub arc_in-requires : goal.arc_in-requires
arc_in-requires c = rw c.self.invariant.0 (subst (λ (a : Arrived). c.args.k < length a.places) (sym c.self.view_is) c.requires)

pub returns : goal.returns
returns c = subst (λ (a : Arrived). slice_get a.arcs c.args.k ≡ Some c.arc_in.result) c.self.view_is c.arc_in.ensures
