-- What a line of a script does to a network, event by event, and its transcript.
use Rattle.std.specs.Prelude.{◌≡◌, ℕ, true, false, cond, List, [], ◌∷◌, ◌++◌, Option, Some, None, option_map, Ok, Err}
use Rattle.plant_network.specs.plant_model.Types.{As, LineEvent, NetworkParts}
use Rattle.te_links.specs.Rows.{IsInOrder, IsTopology, Rows}
use Rattle.te_text.specs.Reads.{Reads}
use Rattle.te_deltas.specs.Answers.{IsBuiltOf}
use Rattle.te_deltas.specs.ChangeText.{text_in}
use Rattle.te_deltas.specs.declared.changes.Change.{Change}
use Rattle.plant_text.specs.declared.line.LineEvent.TheVariants as line
use Rattle.plant_text.specs.Settings.{is_element}
use Rattle.plant_network.specs.plant_model.declared.event.Event.{Event}
use Rattle.plant_network.specs.plant_model.declared.event.Event.TheVariants as event
use Rattle.plant_network.specs.plant_model.declared.outcome.Outcome.TheVariants.{Done}
use Rattle.plant_network.specs.plant_model.declared.outcome.Refused.TheVariants.{NoSuchPeer}
use Rattle.plant_network.specs.plant_model.Blind.{is_accepted}
use Rattle.plant_network.specs.plant_model.Events.{Answered}
use Rattle.plant_network.specs.plant_model.Plant.{Plant, Entry, Run}
use Rattle.plant_network.specs.plant_model.RealWire.{wire}
use Rattle.plant_network.specs.plant_model.Wire.{Bytes}
use Rattle.plant_network.specs.Topologies.{Held, whole}
use Rattle.transcript.specs.Lines.{answer_line}
use Rattle.network_files.specs.declared.error.FileError.{FileError}
use Rattle.network_files.specs.declared.error.FileError.TheVariants.{NoMemory}
use Rattle.network_files.specs.Reading.{IsWant, IsWhyNoTopology, IsWhyNotChanged}
use Rattle.plant_play.specs.declared.going.Until.TheVariants.{Settled, Finished}
use Rattle.plant_play.specs.declared.showing.Modes.{Modes}
use Rattle.plant_play.specs.Due.{AreAllDue, IsDue, IsDueTake}
use Rattle.plant_play.specs.Logs.{Told, behind}
use Rattle.plant_play.specs.Turns.{AreGiven, IsTurn, Turn, brought_text, entries_of, turns_text}

-- a network and what is shown of it, as the value of its player
pub record Scene : Type 0 where
  pub plant : Held
  pub modes : Modes

-- a network that is played, and what its transcript shows
pub record PlayedNetwork : Type 0 where
  pub network : NetworkParts
  pub state : Plant
  pub modes : Modes

abbrev pub played_network : Scene → PlayedNetwork
played_network x = record { network = (whole x.plant).network; state = (whole x.plant).state; modes = x.modes }

-- a network has just been made, and nothing is shown
pub record IsNewNetwork (n : NetworkParts) (new : PlayedNetwork) : Type 0 where
  pub network : new.network ≡ n
  pub run : Run wire n [] new.state
  pub modes : new.modes ≡ record { certify = false; disclose = false }

-- ---- the kinds of lines: the answer of a line, its events, its transcript, and the state that is left

-- one event: its answer is told first
pub record PlaysOne (number : ℕ) (old : PlayedNetwork) (e : Event) (answer : Answered) (turns : List Turn) (told : List ℕ) (end : Plant) : Type 0 where
  pub turn : Turn
  pub one : turns ≡ turn ∷ []
  pub event : turn.entry.event ≡ e
  pub answered : turn.entry.answer ≡ answer
  pub is_turn : IsTurn old.modes old.network old.state turn
  pub ends : end ≡ turn.after
  pub tells : told ≡ answer_line number answer ++ brought_text number old.network.peers turn

-- no event: the answer is fixed
pub record PlaysNone (number : ℕ) (old : PlayedNetwork) (fixed : Answered) (answer : Answered) (turns : List Turn) (told : List ℕ) (end : Plant) : Type 0 where
  pub answered : answer ≡ fixed
  pub no_turn : turns ≡ []
  pub ends : end ≡ old.state
  pub tells : told ≡ answer_line number answer

-- a feed, and if it is accepted the takes that are due then, each with its line; the answer to the feed is told last
pub record PlaysFeed (number : ℕ) (old : PlayedNetwork) (peer : ℕ) (bytes : Bytes) (answer : Answered) (turns : List Turn) (told : List ℕ) (end : Plant) : Type 0 where
  pub fed : Turn
  pub taken : List Turn
  pub are : turns ≡ fed ∷ taken
  pub event : fed.entry.event ≡ event.Feed peer bytes
  pub answered : fed.entry.answer ≡ answer
  pub is_turn : IsTurn old.modes old.network old.state fed
  pub takes : cond (is_accepted answer) (AreAllDue (IsDueTake peer) old.modes old.network fed.after taken end) ((taken ≡ []) × (end ≡ fed.after))
  pub tells : told ≡ turns_text number old.network.peers taken ++ answer_line number answer

-- all that is due, each with its line
pub record PlaysDue (number : ℕ) (old : PlayedNetwork) (Due : Plant → Option Event → Type 0) (answer : Answered) (turns : List Turn) (told : List ℕ) (end : Plant) : Type 0 where
  pub answered : answer ≡ Ok Done
  pub all : AreAllDue Due old.modes old.network old.state turns end
  pub tells : told ≡ turns_text number old.network.peers turns ++ answer_line number answer

-- the event of a peer that a line names; a name that the settings do not have is no peer
abbrev pub PlaysNamed : ℕ → PlayedNetwork → Option Event → Answered → List Turn → List ℕ → Plant → Type 0
PlaysNamed number old None = PlaysNone number old (Err NoSuchPeer)
PlaysNamed number old (Some e) = PlaysOne number old e

abbrev pub PlaysFeedAt : ℕ → PlayedNetwork → Option ℕ → Bytes → Answered → List Turn → List ℕ → Plant → Type 0
PlaysFeedAt number old None bytes = PlaysNone number old (Err NoSuchPeer)
PlaysFeedAt number old (Some i) bytes = PlaysFeed number old i bytes

-- the topology of the file, which is of this domain
pub record PlaysLoad (number : ℕ) (old : PlayedNetwork) (at : As) (file : List ℕ) (answer : Answered) (turns : List Turn) (told : List ℕ) (end : Plant) : Type 0 where
  pub topology : Rows
  pub reads : Reads file topology
  pub own : topology.own ≡ at
  pub rules : IsTopology topology
  pub order : IsInOrder topology
  pub loads : PlaysOne number old (event.Load at topology) answer turns told end

-- the element's topology with the changes of the file
pub record Changes (number : ℕ) (old : PlayedNetwork) (at : As) (changes : List Change) (answer : Answered) (turns : List Turn) (told : List ℕ) (end : Plant) : Type 0 where
  pub topology : Rows
  pub built : IsBuiltOf (old.state.current at).topology changes topology
  pub rules : IsTopology topology
  pub order : IsInOrder topology
  pub loads : PlaysOne number old (event.Load at topology) answer turns told end

pub record PlaysChange (number : ℕ) (old : PlayedNetwork) (at : As) (file : List ℕ) (answer : Answered) (turns : List Turn) (told : List ℕ) (end : Plant) : Type 0 where
  pub changes : List Change
  pub reads : text_in file ≡ Ok changes
  pub makes : cond (is_element old.network at) (Changes number old at changes answer turns told end) (PlaysNone number old (Err NoSuchPeer) answer turns told end)

abbrev pub Plays : ℕ → PlayedNetwork → LineEvent → List ℕ → Answered → List Turn → List ℕ → Plant → Type 0
Plays number old (line.Load at name) file = PlaysLoad number old at file
Plays number old (line.Change at name) file = PlaysChange number old at file
Plays number old (line.Open peer holder) file = PlaysNamed number old (option_map (λ i. event.Open i holder) peer)
Plays number old (line.Shut peer) file = PlaysNamed number old (option_map event.Shut peer)
Plays number old (line.Feed peer bytes) file = PlaysFeedAt number old peer bytes
Plays number old (line.Receive peer bytes) file = PlaysNamed number old (option_map (λ i. event.Feed i bytes) peer)
Plays number old (line.Take peer) file = PlaysNamed number old (option_map event.Take peer)
Plays number old (line.Carry a b) file = PlaysOne number old (event.Carry a b)
Plays number old (line.Break a b) file = PlaysOne number old (event.Break a b)
Plays number old (line.Solve at k rows) file = PlaysOne number old (event.Solve at k)
Plays number old (line.Tick now) file = PlaysOne number old (event.Tick now)
Plays number old (line.Drain peer holder) file = PlaysNamed number old (option_map (λ i. event.Drain i holder) peer)
Plays number old line.Settle file = PlaysDue number old (IsDue Settled old.network)
Plays number old line.Finish file = PlaysDue number old (IsDue Finished old.network)
Plays number old line.CertifyOn file = PlaysNone number old (Ok Done)
Plays number old line.DiscloseOn file = PlaysNone number old (Ok Done)

-- what is shown from then on
abbrev pub modes_after : LineEvent → Modes → Modes
modes_after line.CertifyOn m = record m { certify = true }
modes_after line.DiscloseOn m = record m { disclose = true }
modes_after e m = m

-- a line, with the text of the file that it names
pub record Cue : Type 0 where
  pub number : ℕ
  pub event : LineEvent
  pub file : List ℕ

-- The line is played: its answer, its events, and their transcript.
pub record PlaysLine (old : PlayedNetwork) (c : Cue) (answer : Answered) (turns : List Turn) (told : List ℕ) (new : PlayedNetwork) : Type 0 where
  pub network : new.network ≡ old.network
  pub modes : new.modes ≡ modes_after c.event old.modes
  pub plays : Plays c.number old c.event c.file answer turns told new.state

-- The same, told at the end of a transcript; and a run goes on by its events.
pub record Played (c : Cue) (old : PlayedNetwork) (answer : Answered) (new : PlayedNetwork) (before after : Told) : Type 0 where
  pub turns : List Turn
  pub told : List ℕ
  pub line : PlaysLine old c answer turns told new
  pub tells : after ≡ behind before told
  pub goes : AreGiven turns → (older : List Entry) → Run wire old.network older old.state → Run wire old.network (entries_of turns older) new.state

abbrev pub cue : ℕ → LineEvent → List ℕ → Cue
cue number e file = record { number = number; event = e; file = file }

-- ---- why a line is not played; "out of memory" says nothing

-- The topology file is refused, and the network is as before.
abbrev pub WhyNotLoaded : As → List ℕ → PlayedNetwork → PlayedNetwork → FileError → Type 0
WhyNotLoaded at file old new NoMemory = Unit {0}
WhyNotLoaded at file old new why = IsWhyNoTopology at file why × (new ≡ old)

-- The change file is refused, or the changes can't be made, and the network is as before.
abbrev pub WhyNotChanged : As → List ℕ → PlayedNetwork → PlayedNetwork → FileError → Type 0
WhyNotChanged at file old new NoMemory = Unit {0}
WhyNotChanged at file old new why = IsWhyNotChanged at (old.state.current at).topology file why × (new ≡ old)

abbrev pub IsWhyNot : LineEvent → List ℕ → PlayedNetwork → PlayedNetwork → FileError → Type 0
IsWhyNot (line.Load at name) file old new why = WhyNotLoaded at file old new why
IsWhyNot (line.Change at name) file old new why = WhyNotChanged at file old new why
IsWhyNot e file old new why = IsWant why
