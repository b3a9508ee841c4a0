use Rattle.std.proofs.Common.{take}
use Rattle.border_costs.specs.Solutions.{ArePlaces}
use Rattle.border_costs.proofs.places.places_of.Given as goal

abbrev pub invariant-loop-address : goal.invariant-loop-address
invariant-loop-address g l = ArePlaces (g.G.Links.rows l.links) (take l.address-index l.addresses) l.places.items
