-- An event that is done, as the parts that tell it see it.
use Rattle.std.specs.Prelude.{◌≡◌, ℕ, Bool, true, false, cond, ◌&&◌, ◌||◌, List, [], ◌∷◌, ◌++◌, length, Option, Some, None, Ok, Err, OnOk}
use Rattle.std.specs.Arc.{arc_value}
use Rattle.plant_network.specs.plant_model.Types.{As, Peer, Outside, Inner, BorderRow, Seed, Job, Sent, PeerRow}
use Rattle.path_certificate.specs.declared.certificate.Certificate.{Certificate}
use Rattle.plant_network.specs.plant_model.Element.{is_client}
use Rattle.border_costs.specs.Asks.{AreSeeds}
use Rattle.border_costs.specs.Solutions.{IsLabelled}
use Rattle.border_costs.specs.Tables.{IsBorderTable}
use Rattle.plant_text.specs.Names.{same_as, parent_as}
use Rattle.plant_text.specs.Settings.{class_from, peer_row}
use Rattle.plant_network.specs.plant_model.declared.event.Event.{Event}
use Rattle.plant_network.specs.plant_model.declared.event.Event.TheVariants as event
use Rattle.plant_network.specs.plant_model.declared.outcome.Refused.{Refused}
use Rattle.plant_network.specs.plant_model.declared.outcome.Refused.TheVariants as refused
use Rattle.plant_network.specs.plant_model.Blind.{is_accepted}
use Rattle.plant_network.specs.plant_model.Events.{Answered, is_ready}
use Rattle.plant_network.specs.plant_model.State.{said}
use Rattle.plant_network.specs.plant_model.Plant.{Plant, PlantDeed, Entry, Happened, Happens, IsGiven, Run}
use Rattle.plant_network.specs.plant_model.RealWire.{wire}
use Rattle.plant_network.specs.Whole.{IsOwnLoad, Whole}
use Rattle.plant_network.specs.Jobs.{IsAsked}
use Rattle.transcript.specs.Lines.{rows_text, sents_text}
use Rattle.plant_play.specs.declared.events.Due.{Due as DueEvent}
use Rattle.plant_play.specs.declared.events.Due.TheVariants as due
use Rattle.plant_play.specs.declared.showing.Modes.{Modes}
use Rattle.plant_play.specs.Due.{AreDue}
use Rattle.plant_play.specs.Logs.{Told, behind}
use Rattle.plant_play.specs.Playing.{PlayedNetwork}
use Rattle.plant_play.specs.Turns.{AreGiven, IsTurn, Turn, certificate_text, entries_of, tells_closed, turns_text, turn_text}

-- an event is done, and memory did not run out
pub record Makes (old : Whole) (e : Event) (answer : Answered) (new : Whole) : Type 0 where
  pub network : new.network ≡ old.network
  pub deeds : List PlantDeed
  pub happens : Happens wire old.network old.state e (record { answer = answer; state = new.state; deeds = deeds })
  pub accepted : OnOk answer (new.said ≡ said wire deeds)
  pub goes : IsGiven e → (older : List Entry) → Run wire old.network older old.state → Run wire old.network (record { event = e; answer = answer; deeds = deeds } ∷ older) new.state

-- where the event happens, it is not refused
abbrev pub IsPossible : Whole → Event → Type 0
IsPossible w e = (h : Happened) → Happens wire w.network w.state e h → is_accepted h.answer ≡ true

-- an event that a line names without a file
abbrev pub AreNoLoads : Option Event → Type 0
AreNoLoads None = Unit {0}
AreNoLoads (Some e) = IsOwnLoad e

abbrev pub lacks_memory : Answered → Bool
lacks_memory (Ok o) = false
lacks_memory (Err refused.GenerationsFull) = false
lacks_memory (Err refused.NoSuchPeer) = false
lacks_memory (Err (refused.NotHolder n)) = false
lacks_memory (Err refused.NothingToCarry) = false
lacks_memory (Err refused.NoSuchJob) = false
lacks_memory (Err refused.NoMemory) = true

abbrev pub event_of : DueEvent → Event
event_of (due.Take i) = event.Take i
event_of (due.Carry a b) = event.Carry a b
event_of (due.Solve d k) = event.Solve d k

-- ---- the job to show

abbrev pub shows_any : Modes → Bool
shows_any m = m.certify || m.disclose

-- this job is solved
pub record IsJobAt (w : Whole) (d : As) (k : ℕ) (job : Job) : Type 0 where
  pub below : same_as d parent_as ≡ false
  pub is_asked : IsAsked w d k job.ask (arc_value job.topology)

-- the job that an event solves: none where it is no solve, or one of the parent, or no such job is ready
abbrev pub IsJobOf : Whole → Event → Option Job → Type 0
IsJobOf w (event.Solve d k) None = cond (same_as d parent_as) (Unit {0}) (is_ready d k w.state ≡ false)
IsJobOf w (event.Solve d k) (Some job) = IsJobAt w d k job
IsJobOf w e job = job ≡ None

-- the job that an event is about to solve, where something of it is to be shown
abbrev pub IsToShow : Modes → Whole → Event → Option Job → Type 0
IsToShow m w e job = cond (shows_any m) (IsJobOf w e job) (job ≡ None)

-- ---- its transcript

-- a peer is closed, by the rows of outside peers
abbrev pub closed_among : List PeerRow → Peer → Bool
closed_among peers (Outside i) = cond (is_client (class_from (peer_row i peers))) false true
closed_among peers (Inner a) = true

-- the messages of an answer
abbrev pub told_of : Answered → List Sent → List Sent
told_of (Ok o) sents = sents
told_of (Err why) sents = []

abbrev pub TableOf : Option Job → List BorderRow → Type 0
TableOf None rows = rows ≡ []
TableOf (Some job) rows = IsBorderTable (arc_value job.topology) job.ask rows

pub record LabelsOf (job : Job) (c : Certificate) : Type 0 where
  pub seeds : List Seed
  pub are_seeds : AreSeeds (arc_value job.topology) job.ask seeds
  pub labels : IsLabelled (arc_value job.topology) job.ask seeds c

abbrev pub CertificateOf : Option Job → Option Certificate → Type 0
CertificateOf None c = c ≡ None
CertificateOf (Some job) None = ⊥
CertificateOf (Some job) (Some c) = LabelsOf job c

-- the border table of a job is told
pub record Tables (line : ℕ) (job : Job) (old new : Told) : Type 0 where
  pub rows : List BorderRow
  pub table : TableOf (Some job) rows
  pub tells : new ≡ behind old (rows_text line rows)

-- the same where it is shown, and nothing where it is not
pub record TablesIf (line : ℕ) (shown : Bool) (job : Job) (old new : Told) : Type 0 where
  pub rows : List BorderRow
  pub are_rows : cond shown (TableOf (Some job) rows) (rows ≡ [])
  pub tells : new ≡ behind old (rows_text line rows)

-- the labels of a job are told where they are shown
pub record LabelsIf (line : ℕ) (shown : Bool) (job : Job) (old new : Told) : Type 0 where
  pub certificate : Option Certificate
  pub is_certificate : cond shown (CertificateOf (Some job) certificate) (certificate ≡ None)
  pub tells : new ≡ behind old (certificate_text line certificate)

-- what is to be shown of a job is told
pub record Shown (line : ℕ) (m : Modes) (closed : Bool) (job : Job) (old new : Told) : Type 0 where
  pub rows : List BorderRow
  pub certificate : Option Certificate
  pub are_rows : cond (m.disclose && closed) (TableOf (Some job) rows) (rows ≡ [])
  pub is_certificate : cond m.certify (CertificateOf (Some job) certificate) (certificate ≡ None)
  pub tells : new ≡ behind old (rows_text line rows ++ certificate_text line certificate)

-- the messages of an event, and what is shown of its job, are told; nothing where it is refused
pub record Brings (line : ℕ) (m : Modes) (w : Whole) (answer : Answered) (job : Option Job) (old new : Told) : Type 0 where
  pub rows : List BorderRow
  pub certificate : Option Certificate
  pub are_rows : cond (is_accepted answer && (m.disclose && tells_closed w.network w.said)) (TableOf job rows) (rows ≡ [])
  pub is_certificate : cond (is_accepted answer && m.certify) (CertificateOf job certificate) (certificate ≡ None)
  pub tells : new ≡ behind old (sents_text line w.network.peers (told_of answer w.said) ++ (rows_text line rows ++ certificate_text line certificate))

-- ---- events, one behind the other

-- a network at a line, with what is shown
abbrev pub playing : Modes → Whole → PlayedNetwork
playing m w = record { network = w.network; state = w.state; modes = m }

-- An event that is not the line's own is done and told.
pub record MakesTurn (line : ℕ) (m : Modes) (old : Whole) (e : Event) (new : Whole) (before after : Told) : Type 0 where
  pub network : new.network ≡ old.network
  pub turn : Turn
  pub event : turn.entry.event ≡ e
  pub is_turn : IsTurn m old.network old.state turn
  pub accepted : is_accepted turn.entry.answer ≡ true
  pub ends : new.state ≡ turn.after
  pub goes : IsGiven turn.entry.event → (older : List Entry) → Run wire old.network older old.state → Run wire old.network (turn.entry ∷ older) new.state
  pub tells : after ≡ behind before (turn_text line old.network.peers turn)

-- It is refused, and nothing is told.
pub record Refuses (old : Whole) (e : Event) (new : Whole) (before after : Told) : Type 0 where
  pub why : Refused
  pub makes : Makes old e (Err why) new
  pub silent : after ≡ before

-- Events are done, and their text is appended.
pub record Does (old : Whole) (Line : List Turn → List ℕ → Plant → Type 0) (new : Whole) (before after : Told) : Type 0 where
  pub network : new.network ≡ old.network
  pub turns : List Turn
  pub told : List ℕ
  pub plays : Line turns told new.state
  pub goes : AreGiven turns → (older : List Entry) → Run wire old.network older old.state → Run wire old.network (entries_of turns older) new.state
  pub tells : after ≡ behind before told

-- Events are done for a line with this answer.
abbrev pub DoesLine : Whole → (Answered → List Turn → List ℕ → Plant → Type 0) → Whole → Told → Told → Answered → Type 0
DoesLine old Line new before after answer = Does old (Line answer) new before after

-- so many events that were due, so far
pub record DoesSome (line : ℕ) (m : Modes) (Due : Plant → Option Event → Type 0) (old new : Whole) (before after : Told) (count : ℕ) : Type 0 where
  pub network : new.network ≡ old.network
  pub turns : List Turn
  pub so_many : length turns ≡ count
  pub due : AreDue Due m old.network old.state turns new.state
  pub goes : (older : List Entry) → Run wire old.network older old.state → Run wire old.network (entries_of turns older) new.state
  pub tells : after ≡ behind before (turns_text line old.network.peers turns)

-- all events that are due are done
pub record DoesAll (line : ℕ) (m : Modes) (Due : Plant → Option Event → Type 0) (old new : Whole) (before after : Told) : Type 0 where
  pub count : ℕ
  pub some : DoesSome line m Due old new before after count
  pub over : Due new.state None
