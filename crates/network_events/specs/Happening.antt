-- An event is done as in the model.
use Rattle.std.specs.Prelude.{◌≡◌, ◌⊎◌, OnOk, Err}
use Rattle.pce_common.specs.plant_model.declared.outcome.Refused.TheVariants.{NoMemory}
use Rattle.pce_common.specs.plant_model.Events.{Answered, Happened}
use Rattle.pce_common.specs.plant_model.RealWire.{wire}
use Rattle.pce_common.specs.plant_model.State.{said}
use Rattle.network_links.specs.Flow.{Flow}
use Rattle.pce_common.specs.Membership.{Membership}
use Rattle.network_events.specs.Standing.{state_of}

-- The answer and the state are those of the model, and what was said is what its deeds put into queues.
pub record IsDone {P : Type 0} {S : Type 0} (h : Happened P S) (told : Answered) (ms : Membership P S) (f : Flow) : Type 0 where
  pub answer : told ≡ h.answer
  pub state : state_of ms f ≡ h.state
  pub said : OnOk told (f.said ≡ said wire h.deeds)

-- the same, or memory ran out
abbrev pub IsDoneOrLacks : {P : Type 0} {S : Type 0} → Happened P S → Answered → Membership P S → Flow → Type 0
IsDoneOrLacks h told ms f = IsDone h told ms f ⊎ (told ≡ Err NoMemory)
