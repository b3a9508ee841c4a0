-- How a run over a network ends: the settings in a file; a script that is played, from the input, with topologies or without; a path that a client asks for; a network that is drawn; or what is told of its files.
use Rattle.std.specs.Prelude.{◌≡◌, ◌⊎◌, ◌<◌, ◌≤◌, ℕ, Bool, true, false, List, length, Option, Some, None, IfSome}
use Rattle.std.specs.Io.KnownBytes.{Appends}
use Rattle.client_laws.specs.plant_model.Types.{As, NetworkParts}
use Rattle.dom_edge.specs.Stores.{Files}
use Rattle.dom_edge.specs.Whole.{AppendsSome}
use Rattle.plant_text.specs.declared.fault.NetFault.TheVariants.{NoElement}
use Rattle.plant_text.specs.Networks.{with_path}
use Rattle.plant_text.specs.Settings.{is_element}
use Rattle.network_check.specs.declared.findings.Report.{Report}
use Rattle.network_check.specs.Findings.{IsReport}
use Rattle.plant_client.specs.plant_play.transcript.declared.stop.Stop.{Stop}
use Rattle.plant_client.specs.plant_play.transcript.declared.stop.Stop.TheVariants as stop
use Rattle.plant_client.specs.plant_play.transcript.Stops.{script_most}
use Rattle.plant_client.specs.plant_play.WholeScripts.{Around, IsWhole, ScriptStops}
use Rattle.plant_client.specs.declared.requests.Demand.TheVariants.{One}
use Rattle.plant_client.specs.declared.tally.Tally.{Tally}
use Rattle.plant_client.specs.Bulk.{IsTallied}
use Rattle.plant_client.specs.TallyText.{tally_text}
use Rattle.blind_play.specs.WholeScripts as blind
use Rattle.pce_tool.specs.declared.status.Status.{Status}
use Rattle.pce_tool.specs.declared.status.Status.TheVariants as status
use Rattle.network_files.specs.Settings.{HasNetwork}
use Rattle.pce_tool.specs.Worlds.{World, HasInput, HasRisen, WroteNothing, input_name}
use Rattle.plant_client.specs.declared.question.Question.{Question}
use Rattle.plant_client.specs.Asking.{AskStops, Asks}
use Rattle.plant_client.specs.Telling.{told_text}
use Rattle.pce_tool.specs.declared.route.Route.{Route}
use Rattle.pce_tool.specs.Run.{Ends}
use Rattle.pce_tool.specs.Tasks.{Task, Blind, Bulk, Check, Domain, Path, Play, Replay}
use Rattle.pce_tool.specs.Around.{IsSettingsStatus, around_of}
use Rattle.pce_tool.specs.Replays.{ReplayEnds}

-- the script in the input
pub record HasScript (input : Option (List ℕ)) (script : List ℕ) : Type 0 where
  pub is_input : HasInput input script
  pub within : length script ≤ script_most

-- why the script was not read
abbrev pub IsScriptStatus : Option (List ℕ) → ℕ × ℕ → Status → Type 0
IsScriptStatus input counts status.ReadFault = HasRisen counts
IsScriptStatus input counts status.NoMemory = Unit {0}
IsScriptStatus input counts (status.TooLarge name) = (name ≡ input_name) × IfSome input (λ left. script_most < length left)
IsScriptStatus input counts s = ⊥

-- the status of a run whose script stopped
abbrev pub status_of : Stop → Status
status_of stop.ReadFault = status.ReadFault
status_of stop.WriteFault = status.WriteFault
status_of (stop.BadNetwork file line fault) = status.BadNetwork file line fault
status_of (stop.BadLine line) = status.BadLine line
status_of (stop.TooLarge name) = status.TooLarge name
status_of stop.NoMemory = status.NoMemory

-- how a script ends that is played: all of it, or up to where it stops
abbrev pub IsPlayStatus : Around → NetworkParts → List ℕ → Status → Type 0
IsPlayStatus a n script status.Ok = IsWhole a n script
IsPlayStatus a n script status.ReadFault = ScriptStops a n script stop.ReadFault
IsPlayStatus a n script status.WriteFault = ScriptStops a n script stop.WriteFault
IsPlayStatus a n script (status.BadNetwork file line fault) = ScriptStops a n script (stop.BadNetwork file line fault)
IsPlayStatus a n script (status.BadLine line) = ScriptStops a n script (stop.BadLine line)
IsPlayStatus a n script status.NoMemory = ScriptStops a n script stop.NoMemory
IsPlayStatus a n script (status.TooLarge name) = ScriptStops a n script (stop.TooLarge name)
IsPlayStatus a n script s = ⊥

-- the settings are read, and the script is not
pub record HasNoScript (w : World) (net : List ℕ) (s : Status) : Type 0 where
  pub network : NetworkParts
  pub has : HasNetwork w.files net network
  pub nothing : WroteNothing w
  pub why : IsScriptStatus w.input w.input_faults s

-- the settings and the script are read, and it is played
pub record IsPlayed (w : World) (net : List ℕ) (s : Status) : Type 0 where
  pub network : NetworkParts
  pub has : HasNetwork w.files net network
  pub script : List ℕ
  pub has_script : HasScript w.input script
  pub ends : IsPlayStatus (around_of w) network script s

-- How a run that plays a script ends: the settings are not read, or the script is not, or it is played.
abbrev pub PlayEnds : World → List ℕ → Status → Type 0
PlayEnds w net s = (WroteNothing w × IsSettingsStatus w net s) ⊎ HasNoScript w net s ⊎ IsPlayed w net s

-- ---- a script on a network without topologies

-- How it ends: all of it is played, or up to where it stops. It names no file. `written` is what was written before it and after,
-- `counts` are the output's faults.
abbrev pub IsBlindStatus : Option (List ℕ) × Option (List ℕ) → ℕ × ℕ → NetworkParts → List ℕ → Status → Type 0
IsBlindStatus written counts n script status.Ok = blind.IsWhole written n script
IsBlindStatus written counts n script status.WriteFault = blind.ScriptStops written counts n script stop.WriteFault
IsBlindStatus written counts n script (status.BadLine line) = blind.ScriptStops written counts n script (stop.BadLine line)
IsBlindStatus written counts n script status.NoMemory = blind.ScriptStops written counts n script stop.NoMemory
IsBlindStatus written counts n script (status.TooLarge name) = blind.ScriptStops written counts n script (stop.TooLarge name)
IsBlindStatus written counts n script s = ⊥

-- the settings and the script are read, and it is played
pub record IsBlindlyPlayed (w : World) (net : List ℕ) (s : Status) : Type 0 where
  pub network : NetworkParts
  pub has : HasNetwork w.files net network
  pub script : List ℕ
  pub has_script : HasScript w.input script
  pub ends : IsBlindStatus (w.before, w.after) w.output_faults network script s

-- How a run that plays such a script ends: the settings are not read, or the script is not, or it is played.
abbrev pub BlindEnds : World → List ℕ → Status → Type 0
BlindEnds w net s = (WroteNothing w × IsSettingsStatus w net s) ⊎ HasNoScript w net s ⊎ IsBlindlyPlayed w net s

-- ---- a path

abbrev pub question_of : Route → Question
question_of r = record { id = 1; source = r.source; target = r.target; bandwidth = None; sequence = r.sequence }

-- why the settings have no element for the client that asks
abbrev pub IsNoClientStatus : List ℕ → NetworkParts → As → Status → Type 0
IsNoClientStatus net n at (status.BadNetwork file line fault) = (file ≡ net) × (line ≡ 0) × (fault ≡ NoElement) × (is_element n at ≡ false)
IsNoClientStatus net n at status.NoMemory = Unit {0}
IsNoClientStatus net n at s = ⊥

-- The client `path` of that domain, which stands behind all peers, asks and receives this.
abbrev pub IsAnswered : World → NetworkParts → Route → List ℕ → Type 0
IsAnswered w n r received = Asks w.files (with_path n r.at) (length n.peers) (question_of r) received

-- a first part of what it is told is written, and the output failed
pub record IsCutAnswer (w : World) (n : NetworkParts) (r : Route) : Type 0 where
  pub received : List ℕ
  pub answered : IsAnswered w n r received
  pub rose : HasRisen w.output_faults
  pub part : AppendsSome w.before w.after (told_text received)

-- why there is no answer: the status of a run whose script stopped so
abbrev pub IsStopStatus : Option Files → NetworkParts → ℕ × ℕ → List ℕ → Status → Type 0
IsStopStatus files n counts failed_at s = (why : Stop) × AskStops files n counts failed_at why × (s ≡ status_of why)

-- nothing is written, since there is no answer
abbrev pub StopsAsking : World → NetworkParts → Route → Stop → Type 0
StopsAsking w n r why = WroteNothing w × AskStops w.files (with_path n r.at) w.store_faults w.failed_at why

-- how a run ends in which a client asks
abbrev pub IsPathStatus : World → NetworkParts → Route → Status → Type 0
IsPathStatus w n r status.Ok = (received : List ℕ) × IsAnswered w n r received × Appends w.before w.after (told_text received)
IsPathStatus w n r status.ReadFault = StopsAsking w n r stop.ReadFault
IsPathStatus w n r status.WriteFault = IsCutAnswer w n r
IsPathStatus w n r (status.BadNetwork file line fault) = StopsAsking w n r (stop.BadNetwork file line fault)
IsPathStatus w n r status.NoMemory = WroteNothing w
IsPathStatus w n r (status.TooLarge name) = StopsAsking w n r (stop.TooLarge name)
IsPathStatus w n r s = ⊥

-- the settings are read, and there is no client
pub record HasNoClient (w : World) (net : List ℕ) (r : Route) (s : Status) : Type 0 where
  pub network : NetworkParts
  pub has : HasNetwork w.files net network
  pub nothing : WroteNothing w
  pub why : IsNoClientStatus net network r.at s

-- the settings are read, and the client of an element asks
pub record IsAsked (w : World) (net : List ℕ) (r : Route) (s : Status) : Type 0 where
  pub network : NetworkParts
  pub has : HasNetwork w.files net network
  pub element : is_element network r.at ≡ true
  pub ends : IsPathStatus w network r s

-- How a run ends that asks for a path: the settings are not read, or there is no client, or it asks.
abbrev pub PathEnds : World → List ℕ → Route → Status → Type 0
PathEnds w net r s = (WroteNothing w × IsSettingsStatus w net s) ⊎ HasNoClient w net r s ⊎ IsAsked w net r s

-- ---- requests over a drawn network

-- the tally of the answers to so many requests
abbrev pub IsCounted : ℕ → Tally → Type 0
IsCounted n tally = IsTallied One n tally

-- a first part of the tally is written, and the output failed
pub record IsCutTally (w : World) (n : ℕ) : Type 0 where
  pub tally : Tally
  pub counted : IsCounted n tally
  pub rose : HasRisen w.output_faults
  pub part : AppendsSome w.before w.after (tally_text n tally)

-- How a run ends that draws a network and puts so many requests. It reads no file.
abbrev pub BulkEnds : World → ℕ → Status → Type 0
BulkEnds w n status.Ok = (tally : Tally) × IsCounted n tally × Appends w.before w.after (tally_text n tally)
BulkEnds w n status.WriteFault = IsCutTally w n
BulkEnds w n status.NoMemory = WroteNothing w
BulkEnds w n s = ⊥

-- ---- what is told of a network's files

-- these are what is to be told of the network in the file of that name
abbrev pub IsChecked : World → List ℕ → Report → Type 0
IsChecked w net r = IsReport w.files net w.store_faults r

-- it is written
abbrev pub IsTold : World → List ℕ → Bool → Type 0
IsTold w net is_faulty = (r : Report) × IsChecked w net r × (r.is_faulty ≡ is_faulty) × Appends w.before w.after r.text

-- a first part of it is written, and the output failed
pub record IsCutReport (w : World) (net : List ℕ) : Type 0 where
  pub report : Report
  pub checked : IsChecked w net report
  pub rose : HasRisen w.output_faults
  pub part : AppendsSome w.before w.after report.text

-- the report was written, or the output failed and a first part of it was; the status says whether a file is at fault
abbrev pub IsReported : Option (List ℕ) → Option (List ℕ) → ℕ × ℕ → Report → Status → Type 0
IsReported before after counts r status.Ok = (r.is_faulty ≡ false) × Appends before after r.text
IsReported before after counts r status.Faulty = (r.is_faulty ≡ true) × Appends before after r.text
IsReported before after counts r status.WriteFault = HasRisen counts × AppendsSome before after r.text
IsReported before after counts r s = ⊥

-- How a run ends that checks a network: the status says whether a file is at fault. It reads no input.
abbrev pub CheckEnds : World → List ℕ → Status → Type 0
CheckEnds w net status.Ok = IsTold w net false
CheckEnds w net status.Faulty = IsTold w net true
CheckEnds w net status.WriteFault = IsCutReport w net
CheckEnds w net status.NoMemory = WroteNothing w
CheckEnds w net s = ⊥

-- ---- all runs

-- A run of words that are not in the table does nothing.
abbrev pub Runs : World → Option Task → Status → Type 0
Runs w None s = (s ≡ status.Usage) × WroteNothing w
Runs w (Some (Domain c)) s = Ends w c s
Runs w (Some (Play net)) s = PlayEnds w net s
Runs w (Some (Replay net span)) s = ReplayEnds w net span s
Runs w (Some (Blind net)) s = BlindEnds w net s
Runs w (Some (Path net route)) s = PathEnds w net route s
Runs w (Some (Bulk n)) s = BulkEnds w n s
Runs w (Some (Check net)) s = CheckEnds w net s
