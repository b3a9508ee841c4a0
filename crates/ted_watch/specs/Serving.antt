-- How operators are served over a connection.
use Rattle.std.specs.Prelude.{◌≡◌, ◌≢◌, ℕ, ◌+◌, ◌-◌, ◌^◌, ◌<◌, ◌≤◌, ◌⊎◌, List, [], ◌∷◌, ◌++◌, length, take, min, All, Bool, true, false, Result, Ok, Err, Some, None}
use Rattle.std.specs.List.{flat_map}
use Rattle.std.specs.declared.option.Option.{Option}
use Rattle.std.specs.Io.KnownBytes.{Appends, Consumes}
use Rattle.dom_edge.specs.Causes.{Rose}
use Rattle.dom_edge.specs.Streams.{Writing}
pub use Rattle.dom_edge.specs.Heeding.{Sides, sides}
use Rattle.dom_edge.specs.Whole.{AppendsSome}
use Rattle.ted_watch.specs.declared.shown.Shown.{Shown}
use Rattle.ted_watch.specs.Answers.{AreAnswered}
use Rattle.ted_watch.specs.declared.serving.Watched.{Watched}
use Rattle.ted_watch.specs.declared.serving.Watched.TheVariants.{PeerEnd, ReadFault, WriteFault, LongLine, Silent, Turns, NoMemory}

-- ---- lines

-- no LF is among the bytes
abbrev pub HasNoEnd : List ℕ → Type 0
HasNoEnd bytes = All (λ c. c ≢ 10) bytes

abbrev pub ended : List ℕ → List ℕ
ended line = line ++ 10 ∷ []

-- what may stand without a line end
abbrev pub IsOpen : List ℕ → Type 0
IsOpen rest = HasNoEnd rest × (length rest < 64)

-- The bytes are lines, which are answered in order, and a rest. What was written of the answers is such.
pub record AreTaken (bytes rest : List ℕ) (old new : List Shown) (IsWritten : List ℕ → Type 0) : Type 0 where
  pub lines : List (List ℕ)
  pub each : All HasNoEnd lines
  pub is : bytes ≡ flat_map ended lines ++ rest
  pub text : List ℕ
  pub answered : AreAnswered lines old new text
  pub written : IsWritten text

-- what was written of the answers by an end: all, or a first part
abbrev pub Writes : Watched → Option (List ℕ) → Option (List ℕ) → List ℕ → Type 0
Writes WriteFault old new text = AppendsSome old new text
Writes NoMemory old new text = AppendsSome old new text
Writes end old new text = Appends old new text

-- What stands behind the lines that were answered, by an end: no further line, and fewer than 64 bytes but where that many are too long.
abbrev pub Leaves : Watched → List ℕ → Type 0
Leaves LongLine rest = HasNoEnd (take 64 rest) × (64 ≤ length rest)
Leaves WriteFault rest = Unit {0}
Leaves NoMemory rest = Unit {0}
Leaves end rest = IsOpen rest

-- ---- why it ends

-- the count rose by so many, or stands at its type's last value
abbrev pub RoseBy : ℕ → ℕ → ℕ → Type 0
RoseBy n before now = min (before + n) (2 ^ 64 - 1) ≤ now

-- of so many turns some took at least one byte each, and all others were quiet
pub record AreTurns (turns bytes before now : ℕ) : Type 0 where
  pub reads : ℕ
  pub quiets : ℕ
  pub all : reads + quiets ≡ turns
  pub took : reads ≤ bytes
  pub quiet : RoseBy quiets before now

-- as many reads as this may be quiet one behind the other
abbrev pub quiet_most : ℕ
quiet_most = 6

-- where the bytes of a stream are told, none is left
abbrev pub IsReadOut : Option (List ℕ) → Option (List ℕ) → Type 0
IsReadOut None new = Unit {0}
IsReadOut (Some bytes) new = new ≡ Some []

-- why it may end so, where so many bytes were taken
abbrev pub HasCause : ℕ → ℕ → Watched → Sides → Sides → Type 0
HasCause turns bytes PeerEnd old new = Rose old.reading.ends new.reading.ends × IsReadOut old.reading.left new.reading.left
HasCause turns bytes ReadFault old new = Rose old.reading.faults new.reading.faults
HasCause turns bytes WriteFault old new = Rose old.writing.faults new.writing.faults
HasCause turns bytes Turns old new = AreTurns turns bytes old.reading.quiets new.reading.quiets
HasCause turns bytes LongLine old new = Unit {0}
HasCause turns bytes Silent old new = RoseBy quiet_most old.reading.quiets new.reading.quiets
HasCause turns bytes NoMemory old new = Unit {0}

-- The bytes that were taken from the connection are lines and a rest, and the lines are answered.
pub record Watches (turns : ℕ) (end : Watched) (old new : List Shown) (before after : Sides) : Type 0 where
  pub taken : List ℕ
  pub took : Consumes before.reading.left after.reading.left taken
  pub rest : List ℕ
  pub leaves : Leaves end rest
  pub are_taken : AreTaken taken rest old new (Writes end before.writing.written after.writing.written)
  pub cause : HasCause turns (length taken) end before after

-- ---- parts of it

-- why bytes that came may end it
abbrev pub Cuts : Watched → Writing → Writing → Type 0
Cuts WriteFault old new = Rose old.faults new.faults
Cuts LongLine old new = Unit {0}
Cuts NoMemory old new = Unit {0}
Cuts end old new = ⊥

-- further bytes came behind those of a line that was begun
abbrev pub Feeds : List ℕ → Result (Unit {0}) Watched → List ℕ → List ℕ → List Shown → List Shown → Writing → Writing → Type 0
Feeds piece (Ok u) line left old new w v = AreTaken (line ++ piece) left old new (Appends w.written v.written) × IsOpen left × (w.faults ≤ v.faults)
Feeds piece (Err end) line left old new w v =
    (rest : List ℕ) × Leaves end rest × AreTaken (line ++ piece) rest old new (Writes end w.written v.written) × Cuts end w v

-- a byte that ends no line
abbrev pub GoesOn : ℕ → Result (Unit {0}) Watched → List ℕ → List ℕ → Type 0
GoesOn byte (Ok u) line left = (left ≡ line ++ byte ∷ []) × (length left < 64)
GoesOn byte (Err end) line left = ((end ≡ LongLine) × (length line ≡ 63)) ⊎ (end ≡ NoMemory)

-- how many reads were quiet one behind the other, behind a turn in which something came or not
abbrev pub quiets_behind : Bool → ℕ → ℕ
quiets_behind true quiets = 0
quiets_behind false quiets = quiets + 1

-- what came in a turn
abbrev pub Comes : Bool → List ℕ → Sides → Sides → Type 0
Comes true piece before after = 1 ≤ length piece
Comes false piece before after = (piece ≡ []) × Rose before.reading.quiets after.reading.quiets

-- a turn that took a piece, or was quiet
pub record TakesOn (came : Bool) (line left : List ℕ) (old new : List Shown) (before after : Sides) : Type 0 where
  pub piece : List ℕ
  pub took : Consumes before.reading.left after.reading.left piece
  pub are_taken : AreTaken (line ++ piece) left old new (Appends before.writing.written after.writing.written)
  pub is_open : IsOpen left
  pub comes : Comes came piece before after
  pub faults : before.reading.faults ≤ after.reading.faults
  pub quiets : before.reading.quiets ≤ after.reading.quiets
  pub ends : before.reading.ends ≤ after.reading.ends
  pub failed : before.writing.faults ≤ after.writing.faults

-- a turn that ends it
pub record Stops (end : Watched) (line : List ℕ) (old new : List Shown) (before after : Sides) : Type 0 where
  pub piece : List ℕ
  pub took : Consumes before.reading.left after.reading.left piece
  pub rest : List ℕ
  pub leaves : Leaves end rest
  pub are_taken : AreTaken (line ++ piece) rest old new (Writes end before.writing.written after.writing.written)
  pub ends : end ≢ Turns
  pub heard : end ≢ Silent
  pub cause : HasCause 0 0 end before after

abbrev pub IsTurned : Result Bool Watched → List ℕ → List ℕ → List Shown → List Shown → Sides → Sides → Type 0
IsTurned (Ok came) line left old new before after = TakesOn came line left old new before after
IsTurned (Err end) line left old new before after = Stops end line old new before after
