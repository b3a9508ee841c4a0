-- A script that is played as it comes, line by line, up to its last line that is whole; some of its lines are told.
use Rattle.std.specs.Prelude.{◌≡◌, ◌≢◌, ◌⊎◌, ◌<◌, ◌&&◌, ◌+◌, ℕ, Bool, true, cond, nat_le, List, [], ◌∷◌, ◌++◌, All, length, Option, Some, None, IfSome}
use Rattle.std.specs.Io.KnownBytes.{Keeps}
use Rattle.std.specs.Str.Lines.{strip_carriage_return}
use Rattle.dom_edge.specs.Causes.{Rose}
use Rattle.dom_edge.specs.Stores.{Files}
use Rattle.plant_network.specs.plant_model.Types.{NetworkParts}
use Rattle.plant_network.specs.plant_model.Events.{Answered}
use Rattle.plant_text.specs.Lines.{line_in}
use Rattle.plant_play.specs.Playing.{Cue, IsNewNetwork, PlaysLine, PlayedNetwork}
use Rattle.plant_play.specs.Turns.{Turn}
use Rattle.plant_play.specs.WholeScripts.{Around, IsCue, StopsAtFile, WroteAll, WroteSome}
use Rattle.plant_play.specs.declared.replaying.Span.{Span}
use Rattle.transcript.specs.declared.stop.Stop.{Stop}
use Rattle.transcript.specs.declared.stop.Stop.TheVariants as stop
use Rattle.transcript.specs.Stops.{input_name, line_most, numbered}

-- ---- lines

-- Lines have the last one first, each without its line end.

-- their octets
abbrev pub octets_of : List (List ℕ) → List ℕ
octets_of [] = []
octets_of (line ∷ lines) = octets_of lines ++ (line ++ 10 ∷ [])

abbrev pub HasNoEnd : List ℕ → Type 0
HasNoEnd bytes = All (λ c. c ≢ 10) bytes

-- the octets begin with these lines, where they are told, and then come those
abbrev pub BeginsWith : Option (List ℕ) → List (List ℕ) → Option (List ℕ) → Type 0
BeginsWith None lines rest = Unit {0}
BeginsWith (Some all) lines rest = (behind : List ℕ) × (rest ≡ Some behind) × (all ≡ octets_of lines ++ behind)

-- all of them, and behind the last one no line ends
abbrev pub AreAllOf : Option (List ℕ) → List (List ℕ) → Type 0
AreAllOf input lines = All HasNoEnd lines × IfSome input (λ all. (rest : List ℕ) × (all ≡ octets_of lines ++ rest) × HasNoEnd rest)

-- some first ones
abbrev pub AreFirstOf : Option (List ℕ) → List (List ℕ) → Type 0
AreFirstOf input lines = All HasNoEnd lines × IfSome input (λ all. (rest : List ℕ) × (all ≡ octets_of lines ++ rest))

-- ---- what is told

-- all lines, or those from the first of these numbers to the last
abbrev pub is_told : Option Span → ℕ → Bool
is_told None k = true
is_told (Some s) k = nat_le s.from k && nat_le k s.to

-- a line is blank or a comment, and nothing is done
pub record IsPassed (n : NetworkParts) (text : List ℕ) (old new : PlayedNetwork) (turns : List Turn) (told : List ℕ) : Type 0 where
  pub says : line_in n text ≡ Some None
  pub state : new ≡ old
  pub no_turns : turns ≡ []
  pub untold : told ≡ []

-- a line is played, and told where it is among those that are
pub record IsPlayedLine (files : Option Files) (span : Option Span) (n : NetworkParts) (number : ℕ) (text : List ℕ) (old new : PlayedNetwork) (turns : List Turn) (told : List ℕ) : Type 0 where
  pub cue : Cue
  pub is_cue : IsCue files n (numbered number text) cue
  pub answer : Answered
  pub said : List ℕ
  pub plays : PlaysLine old cue answer turns said new
  pub told_is : told ≡ cond (is_told span number) said []

abbrev pub PassesLine : Option Files → Option Span → NetworkParts → ℕ → List ℕ → PlayedNetwork → PlayedNetwork → List Turn → List ℕ → Type 0
PassesLine files span n number text old new turns told = IsPassed n text old new turns told ⊎ IsPlayedLine files span n number text old new turns told

-- one line behind others
pub record PlaysLast (files : Option Files) (span : Option Span) (n : NetworkParts) (Others : List Turn → List ℕ → PlayedNetwork → Type 0) (number : ℕ) (line : List ℕ) (turns : List Turn) (told : List ℕ) (end : PlayedNetwork) : Type 0 where
  pub mid : PlayedNetwork
  pub earlier : List Turn
  pub before : List ℕ
  pub others : Others earlier before mid
  pub first : List Turn
  pub more : List ℕ
  pub passes : PassesLine files span n number (strip_carriage_return line) mid end first more
  pub turns_are : turns ≡ earlier ++ first
  pub told_is : told ≡ before ++ more

-- The lines are played one after the other from this network on, and this is told of them.
abbrev pub Replays : Option Files → Option Span → NetworkParts → PlayedNetwork → List (List ℕ) → List Turn → List ℕ → PlayedNetwork → Type 0
Replays files span n start [] turns told end = (turns ≡ []) × (told ≡ []) × (end ≡ start)
Replays files span n start (line ∷ lines) turns told end =
    PlaysLast files span n (λ earlier before mid. Replays files span n start lines earlier before mid) (length lines + 1) line turns told end

-- on a network of these settings that has just been made
pub record Replaying (files : Option Files) (span : Option Span) (n : NetworkParts) (lines : List (List ℕ)) (turns : List Turn) (told : List ℕ) (end : PlayedNetwork) : Type 0 where
  pub start : PlayedNetwork
  pub new : IsNewNetwork n start
  pub played : Replays files span n start lines turns told end

-- and what is told of them is written so
pub record Comes (files : Option Files) (span : Option Span) (n : NetworkParts) (lines : List (List ℕ)) (Wrote : List ℕ → Type 0) (end : PlayedNetwork) : Type 0 where
  pub turns : List Turn
  pub told : List ℕ
  pub replaying : Replaying files span n lines turns told end
  pub wrote : Wrote told

-- ---- how it ends

-- all lines are played that are whole, and what is told of them is written
abbrev pub IsReplayed : Option Span → Around → NetworkParts → Option (List ℕ) → Type 0
IsReplayed span a n input = (lines : List (List ℕ)) × AreAllOf input lines × ((end : PlayedNetwork) × Comes a.files span n lines (WroteAll a) end)

-- some first lines are played, and what is told of them is written so
abbrev pub IsReplayedTo : Option Span → Around → NetworkParts → Option (List ℕ) → (List ℕ → Type 0) → Type 0
IsReplayedTo span a n input Wrote = (lines : List (List ℕ)) × AreFirstOf input lines × ((end : PlayedNetwork) × Comes a.files span n lines Wrote end)

-- Why a line stops it: it is outside the form, or the file that it names stops it.
abbrev pub IsLineEnd : Option Files → NetworkParts → ℕ → List ℕ → PlayedNetwork → PlayedNetwork → ℕ × ℕ → List ℕ → Stop → Type 0
IsLineEnd files n number text old new counts failed_at (stop.BadLine k) = (k ≡ number) × (line_in n text ≡ None)
IsLineEnd files n number text old new counts failed_at why = StopsAtFile files n (numbered number text) old new counts failed_at why

-- the lines before one are played, what is told of them is written, and that line is why it stops
pub record StopsAtLine (span : Option Span) (a : Around) (n : NetworkParts) (input : Option (List ℕ)) (why : Stop) : Type 0 where
  pub lines : List (List ℕ)
  pub line : List ℕ
  pub are_first : AreFirstOf input (line ∷ lines)
  pub end : PlayedNetwork
  pub comes : Comes a.files span n lines (WroteAll a) end
  pub new : PlayedNetwork
  pub stops : IsLineEnd a.files n (length lines + 1) (strip_carriage_return line) end new a.store_faults a.failed_at why

-- the lines before one are played, what is told of them is written, and that one has too many octets, whether it is whole or not
pub record IsTooLong (span : Option Span) (a : Around) (n : NetworkParts) (input : Option (List ℕ)) : Type 0 where
  pub lines : List (List ℕ)
  pub are_first : AreFirstOf input lines
  pub end : PlayedNetwork
  pub comes : Comes a.files span n lines (WroteAll a) end
  pub begun : List ℕ
  pub begins : IfSome input (λ all. (rest : List ℕ) × (all ≡ octets_of lines ++ (begun ++ rest)))
  pub long : (line_most < length begun) × HasNoEnd begun

-- Why it stops before the end of the input, whose faults before and after are these; "out of memory" says nothing.
abbrev pub ReplayStops : Option Span → Around → NetworkParts → Option (List ℕ) → ℕ × ℕ → Stop → Type 0
ReplayStops span a n input faults stop.WriteFault = Rose a.output_faults.0 a.output_faults.1 × IsReplayedTo span a n input (WroteSome a)
ReplayStops span a n input faults stop.NoMemory = IsReplayedTo span a n input (WroteSome a)
ReplayStops span a n input faults stop.ReadFault = (Rose faults.0 faults.1 × IsReplayedTo span a n input (WroteAll a)) ⊎ StopsAtLine span a n input stop.ReadFault
ReplayStops span a n input faults (stop.TooLarge name) = ((name ≡ input_name) × IsTooLong span a n input) ⊎ StopsAtLine span a n input (stop.TooLarge name)
ReplayStops span a n input faults why = StopsAtLine span a n input why

-- ---- one line

-- it is passed or played, and what is told of it is written
abbrev pub DoesLine : Option Span → Around → NetworkParts → ℕ → List ℕ → PlayedNetwork → PlayedNetwork → Type 0
DoesLine span a n number text old new = (turns : List Turn) × (told : List ℕ) × PassesLine a.files span n number text old new turns told × WroteAll a told

-- Why it stops a script. Nothing is written then, except where the output failed.
abbrev pub LineEnds : Option Span → Around → NetworkParts → ℕ → List ℕ → PlayedNetwork → PlayedNetwork → Stop → Type 0
LineEnds span a n number text old new stop.WriteFault = Rose a.output_faults.0 a.output_faults.1 × ((turns : List Turn) × (told : List ℕ) × PassesLine a.files span n number text old new turns told × WroteSome a told)
LineEnds span a n number text old new stop.NoMemory = Keeps a.before a.after
LineEnds span a n number text old new why = Keeps a.before a.after × IsLineEnd a.files n number text old new a.store_faults a.failed_at why
