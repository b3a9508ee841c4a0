-- A network as its callers see it, for any kind of pins and keys, and what a step of a model leaves of it.
use Rattle.std.specs.Prelude.{◌≡◌, List, OnOk, OnErr}
use Rattle.pce_common.specs.plant_model.Types.{NetworkParts, Sent}
use Rattle.pce_common.specs.plant_model.Events.{Answered, Happened}
use Rattle.pce_common.specs.plant_model.RealWire.{wire}
use Rattle.pce_common.specs.plant_model.State as model
use Rattle.pce_common.specs.plant_model.State.{Deed, State}

-- its settings, its state, and the messages that the last accepted event put into queues
pub record Whole (P : Type 0) (S : Type 0) : Type 0 where
  pub network : NetworkParts
  pub state : State P S
  pub said : List Sent

-- the steps of a network of these settings in this state
abbrev pub Step : Type 0 → Type 0 → Type 1
Step P S = NetworkParts → State P S → Happened P S → Type 0

-- The answer and the new state are those of a step. What was said is what its deeds put into queues; after a refusal it is as before.
pub record Stepped {P : Type 0} {S : Type 0} (step : Step P S) (old : Whole P S) (answer : Answered) (new : Whole P S) : Type 0 where
  pub network : new.network ≡ old.network
  pub deeds : List (Deed S)
  pub steps : step old.network old.state (record { answer = answer; state = new.state; deeds = deeds })
  pub accepted : OnOk answer (new.said ≡ model.said wire deeds)
  pub refused : OnErr answer (new.said ≡ old.said)
