-- A member answers a pending request: what it sends, and what is owed after it.
use Rattle.std.specs.Prelude.{◌≡◌, ◌≤◌, List, [], ◌∷◌}
use Rattle.pce_common.specs.plant_model.Types.{As, Peer, Hop, Message, NetworkParts}
use Rattle.plant_text.specs.Settings.{elements_of}
use Rattle.pce_common.specs.plant_model.declared.output.Output.{Output}
use Rattle.pce_common.specs.plant_model.Deeds as deeds
use Rattle.pce_common.specs.plant_model.RealWire.{wire}
use Rattle.pce_common.specs.plant_model.State.{sent_by}
use Rattle.network_links.specs.Flow.{Flow}
use Rattle.pce_common.specs.Membership.{Membership}
use Rattle.pce_common.specs.Owed.{owed, pending_in}
use Rattle.network_events.specs.Standing.{state_of}

-- one message, to a peer whose request is pending; nobody is owed more after it
pub record IsAnswer {P : Type 0} {S : Type 0} (n : NetworkParts) (at : As) (outputs : List Output) (old new : Membership P S) : Type 0 where
  pub to : Peer
  pub message : Message
  pub outputs_are : outputs ≡ record { to = to; message = message } ∷ []
  pub owed_before : 1 ≤ owed at to old
  pub owed_after : (a : As) (q : Peer) → owed a q new ≤ owed a q old
  pub pending_after : pending_in (elements_of n.elements) new ≤ pending_in (elements_of n.elements) old

-- the messages that a member sends are put into queues, and nothing else was said
pub record Sends {P : Type 0} {S : Type 0} (n : NetworkParts) (show : S → List Hop) (at : As) (outputs : List Output) (ms : Membership P S) (old new : Flow) : Type 0 where
  pub state : state_of ms new ≡ deeds.puts P S wire n show at outputs (state_of ms old)
  pub said : new.said ≡ sent_by wire at outputs
