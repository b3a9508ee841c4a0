-- Members and traffic in the middle of an event, and what a deed makes of them.
use Rattle.std.specs.Prelude.{◌≡◌, List, []}
use Rattle.pce_common.specs.plant_model.Types.{As, NetworkParts}
use Rattle.pce_common.specs.plant_model.declared.output.Lost.{Lost}
use Rattle.pce_common.specs.plant_model.RealWire.{wire}
use Rattle.pce_common.specs.plant_model.State.{State, said}
use Rattle.pce_common.specs.plant_model.Deeds.{Going}
use Rattle.network_links.specs.Flow.{Flow}
use Rattle.network_events.specs.Accounts.{Accounts}
use Rattle.pce_common.specs.Membership.{Membership, Standing}

-- the state of the model
abbrev pub state_of : {P : Type 0} {S : Type 0} → Membership P S → Flow → State P S
state_of ms f = record {
  clock = f.clock;
  elements = ms.elements;
  parent = ms.parent;
  current = ms.current;
  accesses = f.accesses;
  sessions = f.sessions;
  queues = f.queues;
}

pub record IsAt {P : Type 0} {S : Type 0} (g : Going P S) (ms : Membership P S) (f : Flow) : Type 0 where
  pub state : state_of ms f ≡ g.state
  pub said : f.said ≡ said wire g.deeds

-- members and traffic at one moment
pub record Here (P : Type 0) (S : Type 0) : Type 0 where
  pub network : NetworkParts
  pub seen : Membership P S
  pub lost : As → List Lost
  pub flow : Flow

abbrev pub here_of : {P : Type 0} {S : Type 0} → NetworkParts → Membership P S → (As → List Lost) → Flow → Here P S
here_of n ms lost f = record { network = n; seen = ms; lost = lost; flow = f }

abbrev pub here : {P : Type 0} {S : Type 0} → Standing P S → Flow → Here P S
here s f = here_of s.network s.seen s.lost f

-- a deed of the model is done
pub record Goes {P : Type 0} {S : Type 0} (step : NetworkParts → Going P S → Going P S) (old new : Here P S) : Type 0 where
  pub network : new.network ≡ old.network
  pub lost : ((a : As) → old.lost a ≡ []) → (a : As) → new.lost a ≡ []
  pub adjacencies : new.flow.adjacencies ≡ old.flow.adjacencies
  pub peers : new.flow.peers ≡ old.flow.peers
  pub room : Accounts old.flow new.flow
  pub goes : (g : Going P S) → IsAt g old.seen old.flow → IsAt (step old.network g) new.seen new.flow
