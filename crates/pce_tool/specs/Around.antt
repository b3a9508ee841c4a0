-- What a script meets of the world outside a run, and why settings are not read.
use Rattle.std.specs.Prelude.{◌≡◌, ℕ, List}
use Rattle.client_laws.specs.plant_model.Types.{NetFault}
use Rattle.network_files.specs.Settings.{settings_max}
use Rattle.plant_client.specs.plant_play.WholeScripts.{Around, around}
use Rattle.plant_text.specs.Reads.{IsFaulty}
use Rattle.pce_tool.specs.declared.status.Status.{Status}
use Rattle.pce_tool.specs.Parts.{IsFileStatus}
use Rattle.pce_tool.specs.Worlds.{World}

-- the bytes are no settings, for that reason; a fault of settings has no line
abbrev pub IsSettingsFault : List ℕ → ℕ → NetFault → Type 0
IsSettingsFault bytes line fault = (line ≡ 0) × IsFaulty bytes fault

-- why settings were not read
abbrev pub IsSettingsStatus : World → List ℕ → Status → Type 0
IsSettingsStatus w name s = IsFileStatus w.files name settings_max IsSettingsFault w.store_faults w.failed_at s

-- what a script meets of the world outside a run
abbrev pub around_of : World → Around
around_of w = around w.files (w.before, w.after) w.store_faults w.output_faults w.failed_at
