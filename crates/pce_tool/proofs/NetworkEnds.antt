-- How a run over a network ends, from how its parts ended.
use Rattle.std.proofs.Common.{◌≡◌, ◌≢◌, ◌≤◌, ℕ, true, List, length, Some, None, inr, refl, sym, subst}
use Rattle.std.specs.declared.option.Option.{Option}
use Rattle.std.specs.Io.KnownBytes.{Appends}
use Rattle.client_laws.specs.plant_model.Types.{As, NetFault, NetworkParts}
use Rattle.dom_edge.specs.Stores.{Files, IfFile}
use Rattle.dom_edge.specs.Whole.{AppendsSome}
use Rattle.plant_text.specs.Networks.{with_path}
use Rattle.plant_text.specs.Reads.{IsFaulty}
use Rattle.plant_text.specs.Settings.{is_element}
use Rattle.client_laws.specs.plant_play.Playing.{PlayedNetwork}
use Rattle.plant_client.specs.plant_play.transcript.declared.stop.Stop.{Stop}
use Rattle.plant_client.specs.plant_play.transcript.declared.stop.Stop.TheVariants as stop
use Rattle.plant_client.specs.plant_play.WholeScripts.{around}
use Rattle.plant_client.specs.plant_play.Replays.{IsReplayed, ReplayStops}
use Rattle.plant_client.specs.plant_play.declared.replaying.Span.{Span}
use Rattle.plant_client.proofs.plant_play.ReplayLemmas.{replay_before}
use Rattle.plant_client.proofs.plant_play.ScriptLemmas.{file_before, script_before}
use Rattle.blind_play.specs.WholeScripts.{ScriptStops}
use Rattle.plant_client.specs.Asking.{AskStops, Asks, StopsAtFile, load_line, topologies}
use Rattle.plant_client.specs.Telling.{told_text}
use Rattle.plant_client.specs.declared.tally.Tally.{Tally}
use Rattle.plant_client.specs.TallyText.{tally_text}
use Rattle.pce_tool.specs.declared.route.Route.{Route}
use Rattle.pce_tool.specs.declared.status.Status.{Status}
use Rattle.pce_tool.specs.declared.status.Status.TheVariants as status
use Rattle.network_files.specs.Settings.{HasNetwork, settings_max}
use Rattle.pce_tool.specs.Worlds.{World, WroteNothing}
use Rattle.pce_tool.specs.Parts.{IsBadSettings, IsFileStatus, IsFinished}
use Rattle.network_check.specs.declared.findings.Report.{Report}
use Rattle.pce_tool.specs.Around.{IsSettingsFault, around_of}
use Rattle.pce_tool.specs.Replays.{IsReplayStatus, ReplayEnds}
use Rattle.pce_tool.specs.Networks.{BlindEnds, BulkEnds, CheckEnds, HasScript, IsBlindStatus, IsChecked, IsCounted, IsPathStatus, IsPlayStatus, IsReported, IsStopStatus, PathEnds, PlayEnds, question_of, status_of}

-- ---- settings

in_file : (files : Option Files) (name : List ℕ) (line : ℕ) (fault : NetFault) → line ≡ 0 → IfFile files name (λ b. IsFaulty b fault) → IfFile files name (λ b. IsSettingsFault b line fault)
in_file None name line fault zero is = tt
in_file (Some fs) name line fault zero is = (is.0, is.1, (zero, is.2))

pub settings_status : (files : Option Files) (name : List ℕ) (fault : NetFault) (counts : ℕ × ℕ) (failed : List ℕ) → IfFile files name (λ b. IsFaulty b fault) →
    (s : Status) → IsBadSettings name fault s → IsFileStatus files name settings_max IsSettingsFault counts failed s
settings_status files name fault counts failed is status.Ok bad = absurd bad
settings_status files name fault counts failed is status.Usage bad = absurd bad
settings_status files name fault counts failed is status.ReadFault bad = absurd bad
settings_status files name fault counts failed is status.WriteFault bad = absurd bad
settings_status files name fault counts failed is (status.BadNetwork file line other) bad =
    (bad.0, in_file files name line other bad.1 (subst (λ (f : NetFault). IfFile files name (λ b. IsFaulty b f)) (sym bad.2) is))
settings_status files name fault counts failed is status.Faulty bad = absurd bad
settings_status files name fault counts failed is (status.BadLine line) bad = absurd bad
settings_status files name fault counts failed is status.NoMemory bad = tt
settings_status files name fault counts failed is (status.BadRequest why) bad = absurd bad
settings_status files name fault counts failed is (status.Refuted place) bad = absurd bad
settings_status files name fault counts failed is (status.TooLarge file) bad = absurd bad

-- ---- a script

play_before : (files : Option Files) (n : NetworkParts) (script : List ℕ) (written : Option (List ℕ) × Option (List ℕ)) (f0 f1 f2 : ℕ) (o : ℕ × ℕ) (failed : List ℕ) → f0 ≤ f1 → (s : Status) →
    IsPlayStatus (around files written (f1, f2) o failed) n script s → IsPlayStatus (around files written (f0, f2) o failed) n script s
play_before files n script written f0 f1 f2 o failed le status.Ok is = is
play_before files n script written f0 f1 f2 o failed le status.Usage is = is
play_before files n script written f0 f1 f2 o failed le status.ReadFault is = script_before files n script written f0 f1 f2 o failed le stop.ReadFault is
play_before files n script written f0 f1 f2 o failed le status.WriteFault is = script_before files n script written f0 f1 f2 o failed le stop.WriteFault is
play_before files n script written f0 f1 f2 o failed le (status.BadNetwork file line fault) is =
    script_before files n script written f0 f1 f2 o failed le (stop.BadNetwork file line fault) is
play_before files n script written f0 f1 f2 o failed le status.Faulty is = is
play_before files n script written f0 f1 f2 o failed le (status.BadLine line) is = script_before files n script written f0 f1 f2 o failed le (stop.BadLine line) is
play_before files n script written f0 f1 f2 o failed le status.NoMemory is = script_before files n script written f0 f1 f2 o failed le stop.NoMemory is
play_before files n script written f0 f1 f2 o failed le (status.BadRequest why) is = is
play_before files n script written f0 f1 f2 o failed le (status.Refuted place) is = is
play_before files n script written f0 f1 f2 o failed le (status.TooLarge name) is = script_before files n script written f0 f1 f2 o failed le (stop.TooLarge name) is

pub script_played : (w : World) (net : List ℕ) (n : NetworkParts) → HasNetwork w.files net n → (script : List ℕ) → HasScript w.input script → (f0 f1 f2 : ℕ) → w.store_faults ≡ (f0, f2) → f0 ≤ f1 →
    (s : Status) → IsPlayStatus (around w.files (w.before, w.after) (f1, f2) w.output_faults w.failed_at) n script s → PlayEnds w net s
script_played w net n has script has_script f0 f1 f2 counts le s is =
    inr (inr (record {
      network = n;
      has = has;
      script = script;
      has_script = has_script;
      ends = subst (λ (c : ℕ × ℕ). IsPlayStatus (around w.files (w.before, w.after) c w.output_faults w.failed_at) n script s) (sym counts)
          (play_before w.files n script (w.before, w.after) f0 f1 f2 w.output_faults w.failed_at le s is);
    }))

-- ---- a script that is played as it comes

pub replay_stopped : (span : Option Span) (files : Option Files) (written : Option (List ℕ) × Option (List ℕ)) (counts o : ℕ × ℕ) (failed : List ℕ) (n : NetworkParts) (input : Option (List ℕ)) (faults : ℕ × ℕ) (why : Stop) →
    ReplayStops span (around files written counts o failed) n input faults why → IsReplayStatus span (around files written counts o failed) n input faults (status_of why)
replay_stopped span files written counts o failed n input faults stop.ReadFault is = is
replay_stopped span files written counts o failed n input faults stop.WriteFault is = is
replay_stopped span files written counts o failed n input faults (stop.BadNetwork file line fault) is = is
replay_stopped span files written counts o failed n input faults (stop.BadLine line) is = is
replay_stopped span files written counts o failed n input faults (stop.TooLarge name) is = is
replay_stopped span files written counts o failed n input faults stop.NoMemory is = is

-- all its whole lines are played
pub replayed : (w : World) (net : List ℕ) (span : Option Span) (n : NetworkParts) → HasNetwork w.files net n → IsReplayed span (around_of w) n w.input → ReplayEnds w net span status.Ok
replayed w net span n has is = inr (record { network = n; has = has; ends = is })

-- it stops, and the store failed since an earlier moment
pub replay_cut : (w : World) (net : List ℕ) (span : Option Span) (n : NetworkParts) → HasNetwork w.files net n → (f0 f1 f2 : ℕ) → w.store_faults ≡ (f0, f2) → f0 ≤ f1 → (why : Stop) →
    ReplayStops span (around w.files (w.before, w.after) (f1, f2) w.output_faults w.failed_at) n w.input w.input_faults why → ReplayEnds w net span (status_of why)
replay_cut w net span n has f0 f1 f2 counts le why is =
    inr (record {
      network = n;
      has = has;
      ends = subst (λ (c : ℕ × ℕ). IsReplayStatus span (around w.files (w.before, w.after) c w.output_faults w.failed_at) n w.input w.input_faults (status_of why)) (sym counts)
          (replay_stopped span w.files (w.before, w.after) (f0, f2) w.output_faults w.failed_at n w.input w.input_faults why
          (replay_before w.files span n w.input (w.before, w.after) f0 f1 f2 w.output_faults w.failed_at le w.input_faults why is));
    })

-- ---- a script on a network without topologies

pub blind_stopped : (written : Option (List ℕ) × Option (List ℕ)) (counts : ℕ × ℕ) (n : NetworkParts) (script : List ℕ) (why : Stop) → ScriptStops written counts n script why → IsBlindStatus written counts n script (status_of why)
blind_stopped written counts n script stop.ReadFault is = absurd is.stops
blind_stopped written counts n script stop.WriteFault is = is
blind_stopped written counts n script (stop.BadNetwork file line fault) is = absurd is.stops
blind_stopped written counts n script (stop.BadLine line) is = is
blind_stopped written counts n script (stop.TooLarge name) is = is
blind_stopped written counts n script stop.NoMemory is = is

pub blindly_played : (w : World) (net : List ℕ) (n : NetworkParts) → HasNetwork w.files net n → (script : List ℕ) → HasScript w.input script → (s : Status) →
    IsBlindStatus (w.before, w.after) w.output_faults n script s → BlindEnds w net s
blindly_played w net n has script has_script s is = inr (inr (record { network = n; has = has; script = script; has_script = has_script; ends = is }))

-- ---- a path

-- what is told is written, or a part of it
told : (w : World) (n : NetworkParts) (r : Route) (received text : List ℕ) → Asks w.files (with_path n r.at) (length n.peers) (question_of r) received → text ≡ told_text received →
    (s : Status) → IsFinished w.before w.after w.output_faults text s → IsPathStatus w n r s
told w n r received text asks is status.Ok fin = (received, asks, subst (Appends w.before w.after) is fin)
told w n r received text asks is status.Usage fin = absurd fin
told w n r received text asks is status.ReadFault fin = absurd fin
told w n r received text asks is status.WriteFault fin =
    record { received = received; answered = asks; rose = fin.0; part = subst (AppendsSome w.before w.after) is fin.1 }
told w n r received text asks is (status.BadNetwork file line fault) fin = absurd fin
told w n r received text asks is status.Faulty fin = absurd fin
told w n r received text asks is (status.BadLine line) fin = absurd fin
told w n r received text asks is status.NoMemory fin = absurd fin
told w n r received text asks is (status.BadRequest why) fin = absurd fin
told w n r received text asks is (status.Refuted place) fin = absurd fin
told w n r received text asks is (status.TooLarge name) fin = absurd fin

pub path_told : (w : World) (net : List ℕ) (n : NetworkParts) → HasNetwork w.files net n → (r : Route) → is_element n r.at ≡ true → (received text : List ℕ) →
    Asks w.files (with_path n r.at) (length n.peers) (question_of r) received → text ≡ told_text received → (s : Status) → IsFinished w.before w.after w.output_faults text s → PathEnds w net r s
path_told w net n has r element received text asks is s fin =
    inr (inr (record { network = n; has = has; element = element; ends = told w n r received text asks is s fin }))

loads_before : (files : Option Files) (ts : List (As × List ℕ)) (old : PlayedNetwork) (f0 f1 f2 : ℕ) (failed : List ℕ) → f0 ≤ f1 → (why : Stop) →
    StopsAtFile files ts old (f1, f2) failed why → StopsAtFile files ts old (f0, f2) failed why
loads_before files ts old f0 f1 f2 failed le why is = record {
  before = is.before;
  topology = is.topology;
  behind = is.behind;
  parts = is.parts;
  loaded = is.loaded;
  lines = is.lines;
  end = is.end;
  stops = file_before files is.topology.1 (load_line is.topology) is.loaded is.end f0 f1 f2 failed le why is.stops;
}

stopped : (w : World) (n : NetworkParts) (r : Route) (f0 f1 f2 : ℕ) → w.store_faults ≡ (f0, f2) → f0 ≤ f1 → WroteNothing w → (why : Stop) →
    AskStops w.files (with_path n r.at) (f1, f2) w.failed_at why → IsPathStatus w n r (status_of why)
stopped w n r f0 f1 f2 counts le nothing stop.ReadFault is = (
  nothing,
  subst (λ (c : ℕ × ℕ). AskStops w.files (with_path n r.at) c w.failed_at stop.ReadFault) (sym counts)
      (is.0, is.1, loads_before w.files (topologies (with_path n r.at).elements) is.0 f0 f1 f2 w.failed_at le stop.ReadFault is.2),
)
stopped w n r f0 f1 f2 counts le nothing stop.WriteFault is = absurd is.2.stops
stopped w n r f0 f1 f2 counts le nothing (stop.BadNetwork file line fault) is = (
  nothing,
  subst (λ (c : ℕ × ℕ). AskStops w.files (with_path n r.at) c w.failed_at (stop.BadNetwork file line fault)) (sym counts)
      (is.0, is.1, loads_before w.files (topologies (with_path n r.at).elements) is.0 f0 f1 f2 w.failed_at le (stop.BadNetwork file line fault) is.2),
)
stopped w n r f0 f1 f2 counts le nothing (stop.BadLine line) is = absurd is.2.stops
stopped w n r f0 f1 f2 counts le nothing (stop.TooLarge name) is = (
  nothing,
  subst (λ (c : ℕ × ℕ). AskStops w.files (with_path n r.at) c w.failed_at (stop.TooLarge name)) (sym counts)
      (is.0, is.1, loads_before w.files (topologies (with_path n r.at).elements) is.0 f0 f1 f2 w.failed_at le (stop.TooLarge name) is.2),
)
stopped w n r f0 f1 f2 counts le nothing stop.NoMemory is = nothing

pub path_stopped : (w : World) (net : List ℕ) (n : NetworkParts) → HasNetwork w.files net n → (r : Route) → is_element n r.at ≡ true → (f0 f1 f2 : ℕ) → w.store_faults ≡ (f0, f2) → f0 ≤ f1 → WroteNothing w →
    (s : Status) → IsStopStatus w.files (with_path n r.at) (f1, f2) w.failed_at s → PathEnds w net r s
path_stopped w net n has r element f0 f1 f2 counts le nothing s is =
    inr (inr (record { network = n; has = has; element = element; ends = subst (IsPathStatus w n r) (sym is.2) (stopped w n r f0 f1 f2 counts le nothing is.0 is.1) }))

-- ---- requests over a drawn network

pub bulk_told : (w : World) (n : ℕ) (tally : Tally) (text : List ℕ) → IsCounted n tally → text ≡ tally_text n tally → (s : Status) → IsFinished w.before w.after w.output_faults text s → BulkEnds w n s
bulk_told w n tally text counted is status.Ok fin = (tally, counted, subst (Appends w.before w.after) is fin)
bulk_told w n tally text counted is status.Usage fin = absurd fin
bulk_told w n tally text counted is status.ReadFault fin = absurd fin
bulk_told w n tally text counted is status.WriteFault fin = record { tally = tally; counted = counted; rose = fin.0; part = subst (AppendsSome w.before w.after) is fin.1 }
bulk_told w n tally text counted is (status.BadNetwork file line fault) fin = absurd fin
bulk_told w n tally text counted is status.Faulty fin = absurd fin
bulk_told w n tally text counted is (status.BadLine line) fin = absurd fin
bulk_told w n tally text counted is status.NoMemory fin = absurd fin
bulk_told w n tally text counted is (status.BadRequest why) fin = absurd fin
bulk_told w n tally text counted is (status.Refuted place) fin = absurd fin
bulk_told w n tally text counted is (status.TooLarge name) fin = absurd fin

-- ---- what is told of a network's files

-- the output failed while it was written
pub report_cut : (before after : Option (List ℕ)) (counts : ℕ × ℕ) (r : Report) (s : Status) → s ≢ status.Ok → IsFinished before after counts r.text s → IsReported before after counts r s
report_cut before after counts r status.Ok ended fin = absurd (ended refl)
report_cut before after counts r status.Usage ended fin = absurd fin
report_cut before after counts r status.ReadFault ended fin = absurd fin
report_cut before after counts r status.WriteFault ended fin = fin
report_cut before after counts r (status.BadNetwork file line fault) ended fin = absurd fin
report_cut before after counts r status.Faulty ended fin = absurd fin
report_cut before after counts r (status.BadLine line) ended fin = absurd fin
report_cut before after counts r status.NoMemory ended fin = absurd fin
report_cut before after counts r (status.BadRequest why) ended fin = absurd fin
report_cut before after counts r (status.Refuted place) ended fin = absurd fin
report_cut before after counts r (status.TooLarge name) ended fin = absurd fin

pub check_told : (w : World) (net : List ℕ) (r : Report) → IsChecked w net r → (s : Status) → IsReported w.before w.after w.output_faults r s → CheckEnds w net s
check_told w net r checked status.Ok is = (r, checked, is.0, is.1)
check_told w net r checked status.Usage is = absurd is
check_told w net r checked status.ReadFault is = absurd is
check_told w net r checked status.WriteFault is = record { report = r; checked = checked; rose = is.0; part = is.1 }
check_told w net r checked (status.BadNetwork file line fault) is = absurd is
check_told w net r checked status.Faulty is = (r, checked, is.0, is.1)
check_told w net r checked (status.BadLine line) is = absurd is
check_told w net r checked status.NoMemory is = absurd is
check_told w net r checked (status.BadRequest why) is = absurd is
check_told w net r checked (status.Refuted place) is = absurd is
check_told w net r checked (status.TooLarge name) is = absurd is
