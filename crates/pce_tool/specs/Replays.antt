-- How a run ends that plays a record as it comes.
use Rattle.std.specs.Prelude.{◌⊎◌, List, ℕ, Option}
use Rattle.client_laws.specs.plant_model.Types.{NetworkParts}
use Rattle.network_files.specs.Settings.{HasNetwork}
use Rattle.plant_client.specs.plant_play.Replays.{IsReplayed, ReplayStops}
use Rattle.plant_client.specs.plant_play.WholeScripts.{Around}
use Rattle.plant_client.specs.plant_play.declared.replaying.Span.{Span}
use Rattle.plant_client.specs.plant_play.transcript.declared.stop.Stop.TheVariants as stop
use Rattle.pce_tool.specs.declared.status.Status.{Status}
use Rattle.pce_tool.specs.declared.status.Status.TheVariants as status
use Rattle.pce_tool.specs.Around.{IsSettingsStatus, around_of}
use Rattle.pce_tool.specs.Worlds.{World, WroteNothing}

-- all whole lines are played, or those up to where it stops
abbrev pub IsReplayStatus : Option Span → Around → NetworkParts → Option (List ℕ) → ℕ × ℕ → Status → Type 0
IsReplayStatus span a n input faults status.Ok = IsReplayed span a n input
IsReplayStatus span a n input faults status.ReadFault = ReplayStops span a n input faults stop.ReadFault
IsReplayStatus span a n input faults status.WriteFault = ReplayStops span a n input faults stop.WriteFault
IsReplayStatus span a n input faults (status.BadNetwork file line fault) = ReplayStops span a n input faults (stop.BadNetwork file line fault)
IsReplayStatus span a n input faults (status.BadLine line) = ReplayStops span a n input faults (stop.BadLine line)
IsReplayStatus span a n input faults status.NoMemory = ReplayStops span a n input faults stop.NoMemory
IsReplayStatus span a n input faults (status.TooLarge name) = ReplayStops span a n input faults (stop.TooLarge name)
IsReplayStatus span a n input faults s = ⊥

-- the settings are read, and the script is played
pub record IsReplayRun (w : World) (net : List ℕ) (span : Option Span) (s : Status) : Type 0 where
  pub network : NetworkParts
  pub has : HasNetwork w.files net network
  pub ends : IsReplayStatus span (around_of w) network w.input w.input_faults s

-- the settings are not read, or the script is played
abbrev pub ReplayEnds : World → List ℕ → Option Span → Status → Type 0
ReplayEnds w net span s = (WroteNothing w × IsSettingsStatus w net s) ⊎ IsReplayRun w net span s
