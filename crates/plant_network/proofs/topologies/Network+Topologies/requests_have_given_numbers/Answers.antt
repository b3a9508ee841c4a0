use Rattle.std.proofs.Common.{subst}
use Rattle.plant_laws.specs.Lasting.{HaveGiven}
use Rattle.plant_laws.proofs.LastingLemmas.JobsKept.{order_gives}
use Rattle.plant_network.specs.Topologies.{Held, whole, held}
use Rattle.plant_network.proofs.topologies.Network+Topologies.requests_have_given_numbers.Goals as goal

pub returns : goal.returns
returns c = subst (λ (h : Held). HaveGiven (whole h).state) c.self.view_is (order_gives (whole (held c.self.inside.members c.self.inside.traffic)).state c.self.invariant.order)
