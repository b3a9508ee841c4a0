-- The parts of a session.
use Rattle.std.specs.Prelude.{◌≡◌, ◌≢◌, ◌⊎◌, ◌<◌, ◌≤◌, ◌+◌, ◌%◌, ◌^◌, ℕ, false, List, [], ◌∷◌, ◌++◌, length, None, Some, Ok, Err, MatchResult, Bool, true}
use Rattle.std.specs.List.{AllByRecursion}
use Rattle.std.specs.declared.option.Option.{Option}
use Rattle.std.specs.declared.result.Result.{Result}
use Rattle.std.specs.Io.KnownBytes.{Appends}
use Rattle.dom_edge.specs.Causes.{Rose}
use Rattle.dom_edge.specs.Heeding.{Sides, sides}
use Rattle.dom_edge.specs.Streams.{Writing}
use Rattle.dom_edge.specs.Whole.{AppendsSome}
use Rattle.network_links.specs.declared.rest.Rest.TheVariants.{Messages}
use Rattle.plant_model.specs.declared.event.Event.TheVariants.{Shut, Feed, Carry, Tick}
use Rattle.plant_model.specs.declared.outcome.Outcome.{Outcome}
use Rattle.plant_model.specs.declared.outcome.Refused.TheVariants.{NoSuchPeer, NoMemory as NoRoom}
use Rattle.server_loops.specs.Desks.{Answer, Call, Desked, Goes, call}
use Rattle.server_loops.specs.Sessions.{drained, joined, IsNone, refused, IsTake, AreTakes, IsDrained, IsTurn, IsRefused, AreTurns, IsCount, Last}
use Rattle.server_loops.specs.Serving.{BeginsWith, Heard, calls_of, carries, events, links_of, IsCarryOf, IsHost}
use Rattle.dom_base.specs.declared.names.As.{As}
use Rattle.server_loops.specs.declared.desks.DeskRefused.{DeskRefused}
use Rattle.server_loops.specs.declared.desks.DeskRefused.TheVariants as desk
use Rattle.server_loops.specs.declared.sessions.Ended.{Ended}
use Rattle.server_loops.specs.declared.sessions.Ended.TheVariants.{Turns, NotOpened, Lost, Spent, NoMemory, Closed, WriteFault}

-- the number that the desk shows at an end
abbrev pub shown : Ended → Option ℕ
shown (Spent t) = Some t
shown end = None

-- the end that a refusal makes of a session
abbrev pub IsEndOf : DeskRefused → Ended → Type 0
IsEndOf (desk.Plant why) end = ((why ≡ NoRoom) × (end ≡ NoMemory)) ⊎ ((why ≢ NoRoom) × (end ≡ Lost why))
IsEndOf (desk.Spent t) end = end ≡ Spent t

-- what the desk made, and whether it was spent: not where a step went on
pub record IsMade (Whole : List Call → Type 0) (Cut : Ended → List Call → Type 0) (result : Result (Unit {0}) Ended) (old new : Desked) : Type 0 where
  pub made : List Call
  pub calls : new.calls ≡ old.calls ++ made
  pub ends : MatchResult result (λ _. Whole made × (new.spent ≡ None)) (λ end. Cut end made × (new.spent ≡ shown end))

-- the last turn by its end; where the desk was spent, a first part of a turn
abbrev pub IsCut : ℕ → ℕ → Ended → List Call → Sides → Sides → Type 0
IsCut peer holder (Spent t) calls old new =
    (rest : List Call) × (drained rest ≡ []) × (IsRefused peer holder NoSuchPeer (calls ++ rest) old new ⊎ IsTurn peer holder (calls ++ rest) old new)
IsCut peer holder Turns calls old new = ⊥
IsCut peer holder end calls old new = Last peer holder end calls old new

-- what the end leaves of a turn behind the whole ones
abbrev pub Leaves : ℕ → ℕ → Ended → List Call → Sides → Sides → Type 0
Leaves peer holder Turns calls old new = IsNone calls old new
Leaves peer holder end calls old new = IsCut peer holder end calls old new

-- one Drain, which was written whole and does not say ended
abbrev pub IsOneDrain : ℕ → ℕ → Writing → Writing → List Call → Type 0
IsOneDrain peer holder old new made = (first : Call) × IsDrained peer holder false first old new × (made ≡ first ∷ [])

-- the bytes of a Drain were written whole, and it says ended or not; or a write failed
abbrev pub IsHandedOn : List ℕ → Bool → Result (Unit {0}) Ended → Writing → Writing → Type 0
IsHandedOn bytes ended (Ok u) old new = (ended ≡ false) × Appends old.written new.written bytes × (old.faults ≤ new.faults)
IsHandedOn bytes ended (Err Closed) old new = (ended ≡ true) × Appends old.written new.written bytes × (old.faults ≤ new.faults)
IsHandedOn bytes ended (Err WriteFault) old new = AppendsSome old.written new.written bytes × Rose old.faults new.faults
IsHandedOn bytes ended (Err end) old new = ⊥

-- the drain of a turn
abbrev pub Drains : ℕ → ℕ → Result (Unit {0}) Ended → Desked → Desked → Sides → Sides → Type 0
Drains peer holder result old new before after =
    IsMade (IsOneDrain peer holder before.writing after.writing) (λ end made. IsCut peer holder end made before after) result old new

-- a Feed that was accepted
abbrev pub IsOneFeed : ℕ → List ℕ → List Call → Type 0
IsOneFeed peer piece made = (o : Outcome) × (made ≡ call (Feed peer piece) (Ok o) ∷ [])

-- a Feed that was refused, or for which there was no memory
abbrev pub FailsToFeed : ℕ → List ℕ → Ended → List Call → Type 0
FailsToFeed peer piece (Lost why) made = (why ≢ NoRoom) × (made ≡ refused (Feed peer piece) why ∷ [])
FailsToFeed peer piece NoMemory made = (made ≡ []) ⊎ (made ≡ refused (Feed peer piece) NoRoom ∷ [])
FailsToFeed peer piece (Spent t) made = made ≡ []
FailsToFeed peer piece end made = ⊥

abbrev pub IsHanded : ℕ → List ℕ → Result (Unit {0}) Ended → Desked → Desked → Type 0
IsHanded peer piece result old new = IsMade (IsOneFeed peer piece) (FailsToFeed peer piece) result old new

-- Takes that the desk was spent in
abbrev pub AreCutTakes : ℕ → Ended → List Call → Type 0
AreCutTakes peer (Spent t) made = AllByRecursion (IsTake peer Messages) made × (length made < 65536)
AreCutTakes peer end made = ⊥

abbrev pub IsTaken : ℕ → Result (Unit {0}) Ended → Desked → Desked → Type 0
IsTaken peer result old new = IsMade (AreTakes peer) (AreCutTakes peer) result old new

-- the rest of a turn, behind any Drain that was written whole
abbrev pub Completes : ℕ → List Call → Sides → Sides → Type 0
Completes peer made before after =
    (holder : ℕ) (first : Call) (w : Writing) → IsDrained peer holder false first w before.writing → IsTurn peer holder (first ∷ made) (sides before.reading w) after

abbrev pub CutsOff : ℕ → Sides → Sides → Ended → List Call → Type 0
CutsOff peer before after end made =
    (holder : ℕ) (first : Call) (w : Writing) → IsDrained peer holder false first w before.writing → IsCut peer holder end (first ∷ made) (sides before.reading w) after

abbrev pub IsReceived : ℕ → Result (Unit {0}) Ended → Desked → Desked → Sides → Sides → Type 0
IsReceived peer result old new before after = IsMade (λ made. Completes peer made before after) (CutsOff peer before after) result old new

-- a turn
abbrev pub IsTurned : ℕ → ℕ → Result (Unit {0}) Ended → Desked → Desked → Sides → Sides → Type 0
IsTurned peer holder result old new before after =
    IsMade (λ made. IsTurn peer holder made before after) (λ end made. IsCut peer holder end made before after) result old new

-- all turns of a session, and what the end leaves of one more
pub record AreServed (peer holder turns : ℕ) (end : Ended) (old new : Desked) (before after : Sides) : Type 0 where
  pub whole : List (List Call)
  pub mid : Sides
  pub are_turns : AreTurns peer holder whole before mid
  pub last : List Call
  pub leaves : Leaves peer holder end last mid after
  pub count : IsCount end (length whole) turns
  pub calls : new.calls ≡ old.calls ++ (joined whole ++ last)
  pub spent : new.spent ≡ shown end

-- the end that a refused Open makes of a session
abbrev pub IsEndOfOpen : DeskRefused → Ended → Type 0
IsEndOfOpen (desk.Plant why) end =
    ((why ≡ NoSuchPeer) × (end ≡ NotOpened)) ⊎ (((why ≡ NoRoom) × (end ≡ NoMemory)) ⊎ ((why ≢ NoSuchPeer) × (why ≢ NoRoom) × (end ≡ Lost why)))
IsEndOfOpen (desk.Spent t) end = end ≡ Spent t

-- Shut at the end, but not where it is Lost or the desk is spent
abbrev pub Shuts : ℕ → Ended → Ended → List Call → Type 0
Shuts peer (Lost why) result made = (result ≡ Lost why) × (made ≡ [])
Shuts peer (Spent t) result made = (result ≡ Spent t) × (made ≡ [])
Shuts peer end result made =
    ((result ≡ end) × ((answer : Answer) × (made ≡ call (Shut peer) answer ∷ []))) ⊎ ((t : ℕ) × (result ≡ Spent t) × (made ≡ []))

pub record IsClosedBy (peer : ℕ) (end result : Ended) (old new : Desked) : Type 0 where
  pub made : List Call
  pub calls : new.calls ≡ old.calls ++ made
  pub shuts : Shuts peer end result made
  pub spent : new.spent ≡ shown result

-- ---- a carrier

-- one Carry
abbrev pub IsCarried : As → As → Result (Unit {0}) ℕ → Desked → Desked → Type 0
IsCarried from to (Ok u) old new = (answer : Answer) × (new.calls ≡ old.calls ++ call (Carry from to) answer ∷ [])
IsCarried from to (Err t) old new = (new.calls ≡ old.calls) × (new.spent ≡ Some t)

-- one Carry for each pair, or where the desk was spent a first part of them
abbrev pub Rounds : List (As × As) → Result (Unit {0}) ℕ → List Call → Desked → Type 0
Rounds links (Ok u) made new = events made ≡ carries links
Rounds links (Err t) made new = BeginsWith (carries links) (events made) × (new.spent ≡ Some t)

pub record IsRound (links : List (As × As)) (result : Result (Unit {0}) ℕ) (old new : Desked) : Type 0 where
  pub made : List Call
  pub calls : new.calls ≡ old.calls ++ made
  pub rounds : Rounds links result made new

-- the place, unless the desk is spent
abbrev pub carried_at : ℕ → Answer → Result ℕ ℕ
carried_at place (Ok o) = Ok place
carried_at place (Err (desk.Plant why)) = Ok place
carried_at place (Err (desk.Spent t)) = Err t

-- one Carry of one of these pairs
abbrev pub IsCarriedOf : List (As × As) → Result ℕ ℕ → Desked → Desked → Type 0
IsCarriedOf links (Ok place) old new = (c : Call) × IsCarryOf links c × (new.calls ≡ old.calls ++ c ∷ [])
IsCarriedOf links (Err t) old new = (new.calls ≡ old.calls) × (new.spent ≡ Some t)

-- ---- a port

-- one turn, with the number of the next link
pub record IsHosted (peer holder later : ℕ) (old new : Desked) (before after : Heard) : Type 0 where
  pub turn : Option (List Call)
  pub calls : new.calls ≡ old.calls ++ calls_of turn
  pub host : IsHost peer holder turn before after
  pub next : later ≡ (holder + links_of turn) % 2 ^ 32

-- ---- the time

-- a reading is told, or it does not rise
abbrev pub IsTold : ℕ → ℕ → ℕ → Desked → Desked → Type 0
IsTold told now result old new =
    ((told < now) × (result ≡ now) × ((answer : Answer) × Goes old new (Tick (record { 0 = now })) answer)) ⊎ ((now ≤ told) × (result ≡ told) × (new ≡ old))
