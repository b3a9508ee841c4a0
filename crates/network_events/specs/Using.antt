-- Deeds in which sessions say messages of their own, and so use up the room that is kept for these in an event.
use Rattle.std.specs.Prelude.{◌≡◌, ℕ, ◌+◌, []}
use Rattle.pce_common.specs.plant_model.Types.{As, NetworkParts}
use Rattle.pce_common.specs.plant_model.Deeds.{Going}
use Rattle.network_links.specs.Flow.{Flow}
use Rattle.pce_common.specs.Membership.{Membership}
use Rattle.network_events.specs.Passing.{IsOf}
use Rattle.network_events.specs.Roomy.{KeepsOn}
use Rattle.network_events.specs.Standing.{IsAt, Here, Goes}

-- an event in progress
pub record IsOn {P : Type 0} {S : Type 0} (ms : Membership P S) (f : Flow) : Type 0 where
  pub going : Going P S
  pub at : IsAt going ms f

-- It leaves the links and peers of the settings, no lost request that is not yet told, and room for so many more messages of sessions' own.
pub record IsUnderWay {P : Type 0} {S : Type 0} (own : ℕ) (h : Here P S) : Type 0 where
  pub of : IsOf h.network h.flow
  pub none : (d : As) → h.lost d ≡ []
  pub on : IsOn h.seen h.flow
  pub keeps : KeepsOn own h.network h.seen h.flow

-- A deed of the model is done, in which sessions say so many messages of their own at most: room for others is kept.
pub record Uses {P : Type 0} {S : Type 0} (step : NetworkParts → Going P S → Going P S) (words : ℕ) (old new : Here P S) : Type 0 where
  pub goes : Goes step old new
  pub keeps : (g : Going P S) → IsAt g old.seen old.flow → (own : ℕ) → KeepsOn (words + own) old.network old.seen old.flow → KeepsOn own old.network new.seen new.flow
