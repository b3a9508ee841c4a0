-- A source that is read line by line.
use Rattle.std.specs.Prelude.{◌≡◌, ◌<◌, ℕ, List, [], ◌∷◌, ◌++◌, length, Option, Some, None, IfSome}
use Rattle.std.specs.Io.KnownBytes.{Consumes, IsAtEnd, Keeps}
use Rattle.dom_edge.specs.Causes.{Rose}
use Rattle.dom_edge.specs.declared.source.Piece.{Piece}
use Rattle.dom_edge.specs.declared.source.Piece.TheVariants as piece
use Rattle.plant_play.specs.Replays.{HasNoEnd}
use Rattle.plant_play.specs.declared.reel.Cut.{Cut}
use Rattle.plant_play.specs.declared.reel.Cut.TheVariants as cut
use Rattle.transcript.specs.declared.stop.Stop.{Stop}
use Rattle.transcript.specs.declared.stop.Stop.TheVariants as stop
use Rattle.transcript.specs.Stops.{input_name, line_most}

-- a reel as it is seen: the line that was begun, and what was read behind it
pub record Wound : Type 0 where
  pub line : List ℕ
  pub read : List ℕ

-- what is still ahead: what was read, and what is left
abbrev pub ahead : List ℕ → Option (List ℕ) → Option (List ℕ)
ahead read None = None
ahead read (Some left) = Some (read ++ left)

-- bytes are what comes first, where what comes is told
abbrev pub Gives : Option (List ℕ) → List ℕ → Option (List ℕ) → Type 0
Gives None bytes rest = Unit {0}
Gives (Some all) bytes rest = (behind : List ℕ) × (rest ≡ Some behind) × (all ≡ bytes ++ behind)

-- Of what was read a line ends, and it is whole now; or all of it belongs to the line that was begun.
abbrev pub Cuts : Cut → Wound → Wound → Type 0
Cuts cut.Line old new = (more : List ℕ) × (old.read ≡ more ++ 10 ∷ new.read) × (new.line ≡ old.line ++ more) × HasNoEnd more
Cuts cut.More old new = (new.read ≡ []) × (new.line ≡ old.line ++ old.read) × HasNoEnd old.read
Cuts cut.Long old new = (more : List ℕ) × (rest : List ℕ) × (old.read ≡ more ++ rest) × HasNoEnd more × (line_most < length (old.line ++ more))

-- what a read took is what was read, all of it; or nothing was left, or it failed
abbrev pub Fills : Option (List ℕ) → Option (List ℕ) → Piece → List ℕ → Type 0
Fills old new (piece.Bytes n) read = Consumes old new read
Fills old new piece.End read = Keeps old new × IsAtEnd old
Fills old new piece.Failed read = Keeps old new

-- so many bytes come without a line end; where what comes is told, they are what comes first
pub record IsLongAhead (all : Option (List ℕ)) : Type 0 where
  pub begun : List ℕ
  pub no_end : HasNoEnd begun
  pub long : line_most < length begun
  pub begins : IfSome all (λ bytes. (rest : List ℕ) × (bytes ≡ begun ++ rest))

-- why no line came: the input's faults before and after are these
abbrev pub IsReelEnd : Option (List ℕ) → ℕ × ℕ → Stop → Type 0
IsReelEnd all faults stop.ReadFault = Rose faults.0 faults.1
IsReelEnd all faults (stop.TooLarge name) = (name ≡ input_name) × IsLongAhead all
IsReelEnd all faults stop.NoMemory = Unit {0}
IsReelEnd all faults why = ⊥
