use Rattle.std.proofs.Common.{◌≡◌, ◌<◌, Some, length, sym, subst}
use Rattle.std.specs.Prelude.{slice_get}
use Rattle.te_links.specs.Arrivals.{Arrived}
use Rattle.te_links.proofs.arrivals.Arrivals.place.Goals as goal

pub place_in-requires : goal.place_in-requires
place_in-requires c = subst (λ (a : Arrived). c.args.k < length a.places) (sym c.self.view_is) c.requires

pub returns : goal.returns
returns c = subst (λ (a : Arrived). slice_get a.places c.args.k ≡ Some c.place_in.result) c.self.view_is c.place_in.ensures
