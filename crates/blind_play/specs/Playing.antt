-- What a line of a script does to a network without topologies, event by event, and its transcript.
use Rattle.std.specs.Prelude.{◌≡◌, ℕ, cond, List, [], ◌∷◌, Option, Some, None, option_map}
use Rattle.plant_network.specs.plant_model.Types.{LineEvent, NetworkParts}
use Rattle.plant_text.specs.declared.line.LineEvent.TheVariants as line
use Rattle.plant_network.specs.plant_model.declared.event.BlindEvent.{BlindEvent}
use Rattle.plant_network.specs.plant_model.declared.event.BlindEvent.TheVariants as blind
use Rattle.plant_network.specs.plant_model.Blind.{BlindState, blind_opened, is_accepted}
use Rattle.plant_network.specs.plant_model.RealWire.{wire}
use Rattle.plant_network.specs.plant_model.Wire.{Bytes}
use Rattle.plant_network.specs.Blind.{Held, whole}
use Rattle.blind_play.specs.Due.{AreAllDue, IsDueCarry, IsDueTake}
use Rattle.blind_play.specs.Turns.{IsTurn, Turn, turns_text}

-- a network without topologies that is played
pub record PlayedNetwork : Type 0 where
  pub network : NetworkParts
  pub state : BlindState

abbrev pub played_network : Held → PlayedNetwork
played_network h = record { network = (whole h).network; state = (whole h).state }

-- it has just been made
pub record IsNewNetwork (n : NetworkParts) (new : PlayedNetwork) : Type 0 where
  pub network : new.network ≡ n
  pub opened : new.state ≡ (blind_opened wire n).state

-- ---- the kinds of lines: from a state the events, and the state that is left

-- one event
pub record PlaysOne (e : BlindEvent) (n : NetworkParts) (old : BlindState) (turns : List Turn) (end : BlindState) : Type 0 where
  pub turn : Turn
  pub one : turns ≡ turn ∷ []
  pub event : turn.event ≡ e
  pub is_turn : IsTurn n old turn
  pub ends : end ≡ turn.after

abbrev pub PlaysNone : NetworkParts → BlindState → List Turn → BlindState → Type 0
PlaysNone n old turns end = (turns ≡ []) × (end ≡ old)

-- a feed, and if it is accepted the takes that are due then
pub record PlaysFeed (peer : ℕ) (bytes : Bytes) (n : NetworkParts) (old : BlindState) (turns : List Turn) (end : BlindState) : Type 0 where
  pub fed : Turn
  pub taken : List Turn
  pub are : turns ≡ fed ∷ taken
  pub event : fed.event ≡ blind.Feed peer bytes
  pub is_turn : IsTurn n old fed
  pub takes : cond (is_accepted fed.answer) (AreAllDue (IsDueTake peer) n fed.after taken end) ((taken ≡ []) × (end ≡ fed.after))

-- the event of a peer that a line names; a name that the settings do not have is no peer
abbrev pub PlaysNamed : Option BlindEvent → NetworkParts → BlindState → List Turn → BlindState → Type 0
PlaysNamed None = PlaysNone
PlaysNamed (Some e) = PlaysOne e

abbrev pub PlaysFeedAt : Option ℕ → Bytes → NetworkParts → BlindState → List Turn → BlindState → Type 0
PlaysFeedAt None bytes = PlaysNone
PlaysFeedAt (Some i) bytes = PlaysFeed i bytes

-- No other line is one of a network without topologies.
abbrev pub Plays : LineEvent → NetworkParts → BlindState → List Turn → BlindState → Type 0
Plays (line.Open peer holder) n old turns end = PlaysNamed (option_map (λ i. blind.Open i holder) peer) n old turns end
Plays (line.Shut peer) n old turns end = PlaysNamed (option_map blind.Shut peer) n old turns end
Plays (line.Feed peer bytes) n old turns end = PlaysFeedAt peer bytes n old turns end
Plays (line.Receive peer bytes) n old turns end = PlaysNamed (option_map (λ i. blind.Feed i bytes) peer) n old turns end
Plays (line.Take peer) n old turns end = PlaysNamed (option_map blind.Take peer) n old turns end
Plays (line.Carry a b) n old turns end = PlaysOne (blind.Carry a b) n old turns end
Plays (line.Break a b) n old turns end = PlaysOne (blind.Break a b) n old turns end
Plays (line.Solve at k rows) n old turns end = PlaysOne (blind.Solve at k rows) n old turns end
Plays (line.Tick now) n old turns end = PlaysOne (blind.Tick now) n old turns end
Plays (line.Drain peer holder) n old turns end = PlaysNamed (option_map (λ i. blind.Drain i holder) peer) n old turns end
Plays line.Settle n old turns end = AreAllDue IsDueCarry n old turns end
Plays e n old turns end = ⊥

-- a line, by its number
pub record Cue : Type 0 where
  pub number : ℕ
  pub event : LineEvent

abbrev pub cue : ℕ → LineEvent → Cue
cue number e = record { number = number; event = e }

-- The line is played: its events, and their transcript.
pub record PlaysLine (old : PlayedNetwork) (c : Cue) (turns : List Turn) (told : List ℕ) (new : PlayedNetwork) : Type 0 where
  pub network : new.network ≡ old.network
  pub plays : Plays c.event old.network old.state turns new.state
  pub tells : told ≡ turns_text c.number old.network turns

-- The same by events of its own.
pub record Played (c : Cue) (old : PlayedNetwork) (told : List ℕ) (new : PlayedNetwork) : Type 0 where
  pub turns : List Turn
  pub line : PlaysLine old c turns told new
