-- What the streams, links, listeners and ports in memory hold.
use Rattle.std.specs.Prelude.{◌≡◌, ◌≢◌, ℕ, List, [], ◌∷◌, ◌++◌, length, map, min, Some, None, ◌⊎◌}
use Rattle.std.specs.List.{concat}
use Rattle.std.specs.declared.option.Option.{Option}
use Rattle.dom_base.specs.declared.addr.Addr.{Addr}
use Rattle.dom_edge.specs.declared.stream.Got.{Got}
use Rattle.dom_edge.specs.declared.stream.Got.TheVariants as got
use Rattle.dom_edge.specs.declared.listener.Accepted.{Accepted}
use Rattle.dom_edge.specs.declared.listener.Accepted.TheVariants as accepted
use Rattle.dom_edge.specs.declared.ports.Opened.{Opened}
use Rattle.dom_edge.specs.declared.ports.Opened.TheVariants as opened
use Rattle.dom_edge.specs.Causes.{IsCounted}
use Rattle.dom_edge.specs.Heeding.{IsHeeded, Sides, sides}
use Rattle.dom_edge.specs.Memory.{Calls, IsPlanned, SinkState}
use Rattle.dom_edge.specs.Streams.{Reading, Writing}

-- the pieces that are left: the rest of the one that is being read, and those behind it; how often a read was quiet, and met the end
pub record PiecesState : Type 0 where
  pub front : List ℕ
  pub later : List (List ℕ)
  pub quiets : ℕ
  pub ends : ℕ

-- no piece was read yet
abbrev pub new_pieces : List (List ℕ) → PiecesState
new_pieces pieces = record { front = []; later = pieces; quiets = 0; ends = 0 }

-- the reading side of pieces, with that many faults
abbrev pub pieces_reading : PiecesState → ℕ → Reading
pieces_reading pieces faults = record { left = Some (pieces.front ++ concat pieces.later); faults = faults; quiets = pieces.quiets; ends = pieces.ends }

-- the read goes on in the piece that was begun, or begins the next
abbrev pub ComesFrom : PiecesState → List (List ℕ) → ℕ → ℕ → Type 0
ComesFrom old later n room =
    ((old.front ≢ []) × (later ≡ old.later) × (n ≡ min (length old.front) room))
    ⊎ ((piece : List ℕ) × (old.front ≡ []) × (old.later ≡ piece ∷ later) × (n ≡ min (length piece) room))

-- What a read into a slice of `room` bytes meets, and the pieces behind the one that it leaves in front. An empty piece is one Quiet.
abbrev pub Meets : PiecesState → List (List ℕ) → Got → ℕ → Type 0
Meets old later (got.Bytes n) room = ComesFrom old later n room
Meets old later got.End room = (old.front ≡ []) × (old.later ≡ []) × (later ≡ [])
Meets old later got.Quiet room = (old.front ≡ []) × (old.later ≡ [] ∷ later)
Meets old later got.Failed room = ⊥

-- a read of pieces that does not fail
pub record IsPieceRead (old new : PiecesState) (answer : Got) (room : ℕ) : Type 0 where
  pub meets : Meets old new.later answer room
  pub quiets : IsCounted old.quiets new.quiets (answer ≡ got.Quiet)
  pub ends : IsCounted old.ends new.ends (answer ≡ got.End)

-- a stream with planned failures
pub record StreamState : Type 0 where
  pub pieces : PiecesState
  pub calls : Calls

abbrev pub stream_reading : StreamState → Reading
stream_reading stream = pieces_reading stream.pieces stream.calls.faults

abbrev pub sink_writing : SinkState → Writing
sink_writing sink = record { written = Some sink.written; faults = sink.calls.faults }

-- a stream and a sink in one value, and the address that it comes from, where it has one
pub record LinkState : Type 0 where
  pub stream : StreamState
  pub sink : SinkState
  pub from : Option Addr

-- the sides of links in memory
abbrev pub sides_of : List LinkState → List Sides
sides_of links = map (λ (link : LinkState). sides (stream_reading link.stream) (sink_writing link.sink)) links

-- the links that a listener has left to hand out and those that it handed out, each as it was then; the port that it was opened at,
-- whom it heeds and whom it dials; and how often it was quiet
pub record ListenerState : Type 0 where
  pub links : List LinkState
  pub handed : List LinkState
  pub port : ℕ
  pub heeds : Option Addr
  pub dialled_to : Option Addr
  pub quiets : ℕ
  pub calls : Calls

-- no link was handed out yet, at no port, for anyone
abbrev pub new_listener : List LinkState → Calls → ListenerState
new_listener links calls = record { links = links; handed = []; port = 0; heeds = None; dialled_to = None; quiets = 0; calls = calls }

-- that listener, opened at a port, for whom it heeds and dials from now on
abbrev pub opened_for : ListenerState → ℕ → Option Addr → Option Addr → ListenerState
opened_for l port heeds dialled_to =
    record { links = l.links; handed = l.handed; port = port; heeds = heeds; dialled_to = dialled_to; quiets = l.quiets; calls = l.calls }

-- An `accept` takes the first of the links. It hands it out where it is of whom is heeded, and is quiet where it is not, or where none is left.
abbrev pub HandsOutLink : Option Addr → List LinkState → List LinkState → Accepted LinkState → Type 0
HandsOutLink heeds old new (accepted.Link link) = (old ≡ link ∷ new) × IsHeeded heeds link.from
HandsOutLink heeds old new accepted.Quiet = ((old ≡ []) × (new ≡ [])) ⊎ ((link : LinkState) × (old ≡ link ∷ new) × ¬ IsHeeded heeds link.from)
HandsOutLink heeds old new accepted.Failed = new ≡ old

-- a listener without failures
pub record SteadyState : Type 0 where
  pub links : List LinkState
  pub handed : List LinkState
  pub quiets : ℕ

-- the listeners that ports have left to hand out, and the port at which a call last failed
pub record PortsState : Type 0 where
  pub listeners : List ListenerState
  pub failed_at : ℕ
  pub calls : Calls

-- What is handed out is the first of the listeners, opened as it was asked for. A call fails where none is left or the failure is planned.
abbrev pub HandsOutListener : PortsState → List ListenerState → ℕ → Option Addr → Option Addr → Opened ListenerState → Type 0
HandsOutListener old later port heeds dialled_to (opened.Port listener) = (first : ListenerState) × (old.listeners ≡ first ∷ later) × (listener ≡ opened_for first port heeds dialled_to)
HandsOutListener old later port heeds dialled_to opened.Failed = (later ≡ old.listeners) × (IsPlanned old.calls ⊎ (old.listeners ≡ []))
