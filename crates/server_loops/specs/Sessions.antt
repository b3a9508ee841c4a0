-- A session: which events it makes, in their order, and what passes over its link meanwhile.
use Rattle.std.specs.Prelude.{◌≡◌, ◌≢◌, ◌⊎◌, ◌<◌, ◌≤◌, ℕ, Bool, true, false, List, [], ◌∷◌, ◌++◌, length, take, None, Some, Ok, Err, IsOk}
use Rattle.std.specs.List.{flat_map, AllByRecursion}
use Rattle.std.specs.Io.KnownBytes.{Appends, Consumes}
use Rattle.std.specs.declared.option.Option.{Option}
use Rattle.dom_edge.specs.Causes.{Rose}
use Rattle.dom_edge.specs.Heeding.{Sides}
use Rattle.dom_edge.specs.Streams.{Reading, Writing, IsRead}
use Rattle.dom_edge.specs.Whole.{AppendsSome}
use Rattle.dom_edge.specs.declared.stream.Got.{Got}
use Rattle.dom_edge.specs.declared.stream.Got.TheVariants as got
use Rattle.network_links.specs.declared.rest.Rest.{Rest}
use Rattle.network_links.specs.declared.rest.Rest.TheVariants.{Messages}
use Rattle.plant_model.specs.declared.event.Event.{Event}
use Rattle.plant_model.specs.declared.event.Event.TheVariants.{Open, Shut, Feed, Take, Drain}
use Rattle.plant_model.specs.declared.outcome.Outcome.{Outcome}
use Rattle.plant_model.specs.declared.outcome.Outcome.TheVariants.{Done, Loaded, Drained}
use Rattle.plant_model.specs.declared.outcome.Refused.{Refused}
use Rattle.plant_model.specs.declared.outcome.Refused.TheVariants.{NoSuchPeer, NoMemory as NoRoom}
use Rattle.server_loops.specs.Desks.{Answer, Call, Desked, call}
use Rattle.server_loops.specs.declared.desks.DeskRefused.TheVariants.{Plant}
use Rattle.server_loops.specs.declared.sessions.Ended.{Ended}
use Rattle.server_loops.specs.declared.sessions.Ended.TheVariants.{Closed, PeerEnd, ReadFault, WriteFault, Turns, NotOpened, Lost, Spent, NoMemory}

-- ---- what was drained and fed

abbrev pub bytes_of : Outcome → List ℕ
bytes_of (Drained bytes ended) = bytes
bytes_of Done = []
bytes_of (Loaded n) = []

abbrev pub says_ended : Outcome → Bool
says_ended (Drained bytes ended) = ended
says_ended Done = false
says_ended (Loaded n) = false

abbrev pub handed : Answer → List ℕ
handed (Ok o) = bytes_of o
handed (Err why) = []

abbrev pub drained_by : Event → Answer → List ℕ
drained_by (Drain peer holder) answer = handed answer
drained_by e answer = []

-- the joined bytes that the Drains handed out
abbrev pub drained : List Call → List ℕ
drained calls = flat_map (λ (c : Call). drained_by c.event c.answer) calls

abbrev pub fed_by : Event → List ℕ
fed_by (Feed peer bytes) = bytes
fed_by e = []

-- the joined pieces of the Feeds
abbrev pub fed : List Call → List ℕ
fed calls = flat_map (λ (c : Call). fed_by c.event) calls

-- lists of calls one behind the other
abbrev pub joined : List (List Call) → List Call
joined parts = flat_map (λ (calls : List Call). calls) parts

-- ---- a turn

-- this event was accepted
pub record IsAccepted (e : Event) (c : Call) : Type 0 where
  pub event : c.event ≡ e
  pub accepted : IsOk c.answer

-- this event was refused so
abbrev pub refused : Event → Refused → Call
refused e why = call e (Err (Plant why))

-- a Drain that was accepted, and all that it handed out was written
pub record IsDrained (peer holder : ℕ) (ended : Bool) (first : Call) (old new : Writing) : Type 0 where
  pub outcome : Outcome
  pub is : first ≡ call (Drain peer holder) (Ok outcome)
  pub says : says_ended outcome ≡ ended
  pub written : Appends old.written new.written (bytes_of outcome)
  pub later : old.faults ≤ new.faults

-- A turn as far as its read: a Drain that does not say ended, all of which is written, and then one read, into room for 65,536 bytes.
pub record HasRead (peer holder : ℕ) (answer : Got) (into : List ℕ) (first : Call) (old new : Sides) : Type 0 where
  pub drained : IsDrained peer holder false first old.writing new.writing
  pub read : IsRead old.reading new.reading answer into
  pub room : length into ≡ 65536

-- the piece that was read is fed, and nothing where none came by now
abbrev pub IsFed : ℕ → Got → List ℕ → List Call → Type 0
IsFed peer (got.Bytes n) into calls = (o : Outcome) × (calls ≡ call (Feed peer (take n into)) (Ok o) ∷ [])
IsFed peer got.Quiet into calls = calls ≡ []
IsFed peer got.End into calls = ⊥
IsFed peer got.Failed into calls = ⊥

-- a Take that was accepted, and told that so much is left to do for its peer
pub record IsTake (peer : ℕ) (rest : Rest) (c : Call) : Type 0 where
  pub accepted : IsAccepted (Take peer) c
  pub told : c.rest ≡ rest

-- it was refused, or it told that no message waits or that what waits for the peer goes first
abbrev pub IsLastTake : ℕ → Call → Type 0
IsLastTake peer c = ((why : Refused) × (c ≡ refused (Take peer) why)) ⊎ ((rest : Rest) × (rest ≢ Messages) × IsTake peer rest c)

abbrev pub EndsTakes : ℕ → ℕ → List Call → Type 0
EndsTakes peer count last = ((count ≡ 65536) × (last ≡ [])) ⊎ ((count < 65536) × ((c : Call) × IsLastTake peer c × (last ≡ c ∷ [])))

-- Takes, each but the last of which told that another message waits; at most 65,536
pub record AreTakes (peer : ℕ) (calls : List Call) : Type 0 where
  pub taken : List Call
  pub each : AllByRecursion (IsTake peer Messages) taken
  pub last : List Call
  pub ends : EndsTakes peer (length taken) last
  pub is : calls ≡ taken ++ last

-- a whole turn: one Drain, one read, one Feed of what it gave, and Takes
pub record IsTurn (peer holder : ℕ) (calls : List Call) (old new : Sides) : Type 0 where
  pub first : Call
  pub answer : Got
  pub into : List ℕ
  pub has_read : HasRead peer holder answer into first old new
  pub feeds : List Call
  pub is_fed : IsFed peer answer into feeds
  pub takes : List Call
  pub are_takes : AreTakes peer takes
  pub is : calls ≡ first ∷ (feeds ++ takes)

-- turns one after the other
abbrev pub AreTurns : ℕ → ℕ → List (List Call) → Sides → Sides → Type 0
AreTurns peer holder [] old new = new ≡ old
AreTurns peer holder (turn ∷ turns) old new = (mid : Sides) × IsTurn peer holder turn old mid × AreTurns peer holder turns mid new

-- ---- the last turn, which its end cuts short

-- it ends with its read
abbrev pub StopsAt : ℕ → ℕ → Got → List Call → Sides → Sides → Type 0
StopsAt peer holder answer calls old new = (first : Call) × (into : List ℕ) × HasRead peer holder answer into first old new × (calls ≡ first ∷ [])

-- its Feed was refused
pub record RefusesFeed (peer holder : ℕ) (why : Refused) (calls : List Call) (old new : Sides) : Type 0 where
  pub first : Call
  pub count : ℕ
  pub into : List ℕ
  pub has_read : HasRead peer holder (got.Bytes count) into first old new
  pub is : calls ≡ first ∷ (refused (Feed peer (take count into)) why ∷ [])

-- its Drain or its Feed was refused
abbrev pub IsRefused : ℕ → ℕ → Refused → List Call → Sides → Sides → Type 0
IsRefused peer holder why calls old new =
    ((calls ≡ refused (Drain peer holder) why ∷ []) × (new ≡ old)) ⊎ RefusesFeed peer holder why calls old new

-- the Drain said ended, and all was written
abbrev pub IsClosed : ℕ → ℕ → List Call → Sides → Sides → Type 0
IsClosed peer holder calls old new = (first : Call) × IsDrained peer holder true first old.writing new.writing × (new.reading ≡ old.reading) × (calls ≡ first ∷ [])

-- a write of what was drained failed
pub record IsUnwritten (peer holder : ℕ) (calls : List Call) (old new : Sides) : Type 0 where
  pub outcome : Outcome
  pub is : calls ≡ call (Drain peer holder) (Ok outcome) ∷ []
  pub written : AppendsSome old.writing.written new.writing.written (bytes_of outcome)
  pub failed : Rose old.writing.faults new.writing.faults
  pub reading : new.reading ≡ old.reading

-- no further turn
abbrev pub IsNone : List Call → Sides → Sides → Type 0
IsNone calls old new = (calls ≡ []) × (new ≡ old)

abbrev pub Last : ℕ → ℕ → Ended → List Call → Sides → Sides → Type 0
Last peer holder Closed calls old new = IsClosed peer holder calls old new
Last peer holder PeerEnd calls old new = StopsAt peer holder got.End calls old new
Last peer holder ReadFault calls old new = StopsAt peer holder got.Failed calls old new
Last peer holder WriteFault calls old new = IsUnwritten peer holder calls old new
Last peer holder Turns calls old new = IsNone calls old new
Last peer holder NotOpened calls old new = ⊥
Last peer holder (Lost why) calls old new = (why ≢ NoRoom) × IsRefused peer holder why calls old new
Last peer holder (Spent t) calls old new = ⊥
Last peer holder NoMemory calls old new =
    IsRefused peer holder NoRoom calls old new ⊎ (((n : ℕ) × StopsAt peer holder (got.Bytes n) calls old new) ⊎ IsNone calls old new)

-- ---- a session

-- so many turns were whole, by the end
abbrev pub IsCount : Ended → ℕ → ℕ → Type 0
IsCount Turns whole turns = whole ≡ turns
IsCount NoMemory whole turns = whole ≤ turns
IsCount end whole turns = whole < turns

-- no Shut where the end is Lost
abbrev pub IsShut : ℕ → Ended → List Call → Type 0
IsShut peer (Lost why) calls = calls ≡ []
IsShut peer end calls = (answer : Answer) × (calls ≡ call (Shut peer) answer ∷ [])

-- Open, whole turns, what the end leaves of one more, and Shut.
pub record Makes (peer holder turns : ℕ) (end : Ended) (made : List Call) (old new : Sides) : Type 0 where
  pub opened : Outcome
  pub whole : List (List Call)
  pub mid : Sides
  pub are_turns : AreTurns peer holder whole old mid
  pub count : IsCount end (length whole) turns
  pub last : List Call
  pub is_last : Last peer holder end last mid new
  pub shut : List Call
  pub is_shut : IsShut peer end shut
  pub is : made ≡ call (Open peer holder) (Ok opened) ∷ (joined whole ++ (last ++ shut))

-- an Open that was refused, and nothing after it
abbrev pub IsUnopened : ℕ → ℕ → Refused → List Call → Sides → Sides → Type 0
IsUnopened peer holder why made old new = (made ≡ refused (Open peer holder) why ∷ []) × (new ≡ old)

-- the events of a session, by its end, where the desk is not spent
abbrev pub Runs : ℕ → ℕ → ℕ → Ended → List Call → Sides → Sides → Type 0
Runs peer holder turns NotOpened made old new = IsUnopened peer holder NoSuchPeer made old new
Runs peer holder turns (Lost why) made old new =
    ((why ≢ NoSuchPeer) × (why ≢ NoRoom) × IsUnopened peer holder why made old new) ⊎ Makes peer holder turns (Lost why) made old new
Runs peer holder turns NoMemory made old new = IsUnopened peer holder NoRoom made old new ⊎ Makes peer holder turns NoMemory made old new
Runs peer holder turns (Spent t) made old new = ⊥
Runs peer holder turns end made old new = Makes peer holder turns end made old new

-- Where the desk was spent, the events are a first part of those of some other end, and the rest would hand out nothing.
pub record IsCutOff (peer holder turns : ℕ) (made : List Call) (old new : Sides) : Type 0 where
  pub end : Ended
  pub rest : List Call
  pub nothing : drained rest ≡ []
  pub runs : Runs peer holder turns end (made ++ rest) old new

abbrev pub IsSession : ℕ → ℕ → ℕ → Ended → List Call → Sides → Sides → Type 0
IsSession peer holder turns (Spent t) made old new = IsCutOff peer holder turns made old new
IsSession peer holder turns end made old new = Runs peer holder turns end made old new

-- what was written of the drained bytes: all, or where a write failed or the desk was spent a first part
abbrev pub Writes : Ended → Writing → Writing → List ℕ → Type 0
Writes WriteFault old new bytes = AppendsSome old.written new.written bytes
Writes (Spent t) old new bytes = AppendsSome old.written new.written bytes
Writes end old new bytes = Appends old.written new.written bytes

-- What was read was fed, each byte once and in order, but for a last piece that there was no memory for, or that the desk was spent for.
abbrev pub Feeds : Ended → Reading → Reading → List ℕ → Type 0
Feeds NoMemory old new bytes = (piece : List ℕ) × Consumes old.left new.left (bytes ++ piece)
Feeds (Spent t) old new bytes = (piece : List ℕ) × Consumes old.left new.left (bytes ++ piece)
Feeds end old new bytes = Consumes old.left new.left bytes

-- where the bytes of a stream are told, none is left
abbrev pub IsReadOut : Option (List ℕ) → Option (List ℕ) → Type 0
IsReadOut None new = Unit {0}
IsReadOut (Some bytes) new = new ≡ Some []

-- why it may end so, by what its link counted
abbrev pub HasCauses : Ended → Sides → Sides → Type 0
HasCauses PeerEnd old new = Rose old.reading.ends new.reading.ends × IsReadOut old.reading.left new.reading.left
HasCauses ReadFault old new = Rose old.reading.faults new.reading.faults
HasCauses WriteFault old new = Rose old.writing.faults new.writing.faults
HasCauses end old new = Unit {0}

-- A session over a link: its events in their order; what they drained was written, what was read was fed, and its end has its cause.
pub record OverLink (peer holder turns : ℕ) (end : Ended) (made : List Call) (before after : Sides) : Type 0 where
  pub order : IsSession peer holder turns end made before after
  pub written : Writes end before.writing after.writing (drained made)
  pub fed : Feeds end before.reading after.reading (fed made)
  pub causes : HasCauses end before after

-- The events of a session over that link stand behind those before.
pub record Serves (peer holder turns : ℕ) (end : Ended) (old new : Desked) (before after : Sides) : Type 0 where
  pub made : List Call
  pub calls : new.calls ≡ old.calls ++ made
  pub over : OverLink peer holder turns end made before after
