-- The events that a port, a carrier and the clock's loop make.
use Rattle.std.specs.Prelude.{◌≡◌, ◌≢◌, ◌⊎◌, ◌<◌, ◌≤◌, ◌+◌, ◌-◌, ◌%◌, ◌^◌, ℕ, List, [], ◌∷◌, ◌++◌, length, map, nat_lt, cond, Contains, None, Some, MatchOption}
use Rattle.std.specs.List.{AllByRecursion}
use Rattle.std.specs.declared.option.Option.{Option}
use Rattle.dom_base.specs.declared.names.As.{As}
use Rattle.dom_edge.specs.Causes.{Rose}
use Rattle.dom_edge.specs.Heeding.{Sides}
use Rattle.plant_model.specs.declared.event.Event.{Event}
use Rattle.plant_model.specs.declared.event.Event.TheVariants.{Carry, Tick}
use Rattle.server_loops.specs.Desks.{Call, Desked}
use Rattle.server_loops.specs.Sessions.{OverLink, joined}
use Rattle.server_loops.specs.declared.sessions.Ended.{Ended}
use Rattle.server_loops.specs.declared.port.Ran.{Ran}
use Rattle.server_loops.specs.declared.port.Ran.TheVariants.{Turns, Spent}

-- these begin with those
abbrev pub BeginsWith : {A : Type 0} → List A → List A → Type 0
BeginsWith {A} whole part = (rest : List A) × (whole ≡ part ++ rest)

abbrev pub events : List Call → List Event
events calls = map (λ (c : Call). c.event) calls

-- ---- a port

-- what is told of a listener: how often it failed, how often nobody came, and the links that it handed out, each as it was then
pub record Heard : Type 0 where
  pub faults : ℕ
  pub quiets : ℕ
  pub handed : List Sides

abbrev pub heard : ℕ → ℕ → List Sides → Heard
heard f q links = record { faults = f; quiets = q; handed = links }

-- no count fell, and these links were handed out meanwhile
pub record IsLater (links : List Sides) (old new : Heard) : Type 0 where
  pub faults : old.faults ≤ new.faults
  pub quiets : old.quiets ≤ new.quiets
  pub handed : new.handed ≡ old.handed ++ links

-- nobody came, or the listener failed
pub record IsIdle (old new : Heard) : Type 0 where
  pub later : IsLater [] old new
  pub rose : Rose old.faults new.faults ⊎ Rose old.quiets new.quiets

-- a session of 2^64 - 1 turns over that link, with any end
pub record IsServed (peer holder : ℕ) (made : List Call) (link : Sides) : Type 0 where
  pub end : Ended
  pub after : Sides
  pub session : OverLink peer holder (2 ^ 64 - 1) end made link after

-- one turn: a link was handed out, and that link was served; or none was
abbrev pub IsHost : ℕ → ℕ → Option (List Call) → Heard → Heard → Type 0
IsHost peer holder None old new = IsIdle old new
IsHost peer holder (Some made) old new = (link : Sides) × IsLater (link ∷ []) old new × IsServed peer holder made link

abbrev pub links_of : Option (List Call) → ℕ
links_of None = 0
links_of (Some made) = 1

-- A listener accepts once in each turn. The k-th link that it hands out is served with the holder k modulo 2^32.
abbrev pub Hosts : ℕ → ℕ → List (Option (List Call)) → Heard → Heard → Type 0
Hosts peer k [] old new = new ≡ old
Hosts peer k (turn ∷ turns) old new = (mid : Heard) × IsHost peer (k % 2 ^ 32) turn old mid × Hosts peer (k + links_of turn) turns mid new

abbrev pub calls_of : Option (List Call) → List Call
calls_of None = []
calls_of (Some made) = made

-- the events of all sessions
abbrev pub sessions_made : List (Option (List Call)) → List Call
sessions_made turns = joined (map calls_of turns)

-- all turns were made, or where the desk was spent no more than these
abbrev pub IsTurnCount : Ran → ℕ → ℕ → Type 0
IsTurnCount Turns made turns = made ≡ turns
IsTurnCount (Spent t) made turns = made ≤ turns

-- the turns of a port
pub record ServesPort (peer turns : ℕ) (end : Ran) (old new : Desked) (before after : Heard) : Type 0 where
  pub made : List (Option (List Call))
  pub calls : new.calls ≡ old.calls ++ sessions_made made
  pub hosts : Hosts peer 0 made before after
  pub count : IsTurnCount end (length made) turns

-- ---- a carrier

abbrev pub carries : List (As × As) → List Event
carries links = map (λ (pair : As × As). Carry pair.0 pair.1) links

-- where the desk was spent, a first part of one more turn
abbrev pub IsCarriedOff : Ran → List (As × As) → ℕ → ℕ → List Call → Type 0
IsCarriedOff Turns links made turns last = (made ≡ turns) × (last ≡ [])
IsCarriedOff (Spent t) links made turns last = (made ≤ turns) × ((last ≢ []) → made < turns) × BeginsWith (carries links) (events last)

-- the turns of a carrier: in each one Carry for each pair, in order
pub record CarriesLinks (links : List (As × As)) (turns : ℕ) (end : Ran) (old new : Desked) : Type 0 where
  pub rounds : List (List Call)
  pub last : List Call
  pub calls : new.calls ≡ old.calls ++ (joined rounds ++ last)
  pub each : AllByRecursion (λ (round : List Call). events round ≡ carries links) rounds
  pub ends : IsCarriedOff end links (length rounds) turns last

-- the Carry of one of these pairs
abbrev pub IsCarryOf : List (As × As) → Call → Type 0
IsCarryOf links c = (pair : As × As) × Contains links pair × (c.event ≡ Carry pair.0 pair.1)

-- no turn is made where there is no pair
abbrev pub IsCarryCount : List (As × As) → Ran → ℕ → ℕ → Type 0
IsCarryCount [] end made turns = made ≡ 0
IsCarryCount (pair ∷ links) end made turns = IsTurnCount end made turns

-- the turns of a carrier that has a guide: in each the Carry of one of the pairs
pub record CarriesGuided (links : List (As × As)) (turns : ℕ) (end : Ran) (old new : Desked) : Type 0 where
  pub made : List Call
  pub calls : new.calls ≡ old.calls ++ made
  pub each : AllByRecursion (IsCarryOf links) made
  pub count : IsCarryCount links end (length made) turns

-- ---- the time

-- readings of a clock, one after the other: none falls
abbrev pub AreReadings : ℕ → List ℕ → ℕ → Type 0
AreReadings last [] now = now ≡ last
AreReadings last (reading ∷ readings) now = (last ≤ reading) × AreReadings reading readings now

-- a Tick of each reading that is above the last one that was told
abbrev pub ticks : ℕ → List ℕ → List Event
ticks told [] = []
ticks told (reading ∷ readings) = cond (nat_lt told reading) (Tick (record { 0 = reading }) ∷ ticks reading readings) (ticks told readings)

-- the last reading that was told
abbrev pub told_last : ℕ → List Event → ℕ
told_last told [] = told
told_last told (Tick tick ∷ es) = told_last tick.0 es
told_last told (e ∷ es) = told_last told es

-- The clock is read once in each turn, and each reading that rises is told. Then the last Tick is the clock's last reading, or that is 0.
pub record TellsTime (turns : ℕ) (old new : Desked) (last now : ℕ) : Type 0 where
  pub readings : List ℕ
  pub count : length readings ≡ turns
  pub are_readings : AreReadings last readings now
  pub made : List Call
  pub calls : new.calls ≡ old.calls ++ made
  pub told : MatchOption new.spent ((events made ≡ ticks 0 readings) × (0 < turns → told_last 0 (events made) ≡ now)) (λ t. BeginsWith (ticks 0 readings) (events made))
