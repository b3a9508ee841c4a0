-- A traffic as a value, and the flow that it is.
use Rattle.std.specs.Prelude.{ℕ, List}
use Rattle.plant_model.specs.Types.{Sent}
use Rattle.plant_queues.specs.Messages.{Queued}
use Rattle.network_links.specs.declared.access.Access.{Access}
use Rattle.network_links.specs.Links.{Joined}
use Rattle.network_links.specs.Flow.{Flow}
use Rattle.network_links.specs.Peers.{Guests, guests_of}
use Rattle.network_links.specs.Sides.{Row, row_of}

pub record Carried : Type 0 where
  pub clock : ℕ
  pub peers : List Access
  pub links : List Joined
  pub said : Queued Sent

-- its peers and links as maps
pub record CarriedView : Type 0 where
  pub clock : ℕ
  pub peers : Guests
  pub links : Row
  pub said : Queued Sent

abbrev pub seen : Carried → CarriedView
seen x = record { clock = x.clock; peers = guests_of x.peers; links = row_of x.links; said = x.said }

abbrev pub flow_in : CarriedView → Flow
flow_in a = record {
  adjacencies = a.links.adjacencies;
  peers = a.peers.count;
  clock = a.clock;
  accesses = a.peers.accesses;
  sessions = λ at b. (a.links.sides at b).kept.session;
  queues = λ at b. (a.links.sides at b).kept.out;
  said = a.said.kept;
  room = record { outside = a.peers.room; inner = λ at b. (a.links.sides at b).spare; said = a.said.spare };
}

abbrev pub flow_of : Carried → Flow
flow_of x = flow_in (seen x)
