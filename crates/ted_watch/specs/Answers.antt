-- The answers to operators who ask which topologies are published.
use Rattle.std.specs.Prelude.{◌≡◌, ℕ, ◌==◌, ◌-◌, ◌^◌, List, [], ◌∷◌, ◌++◌, codes, decimal, Option, Some, None, if◌then◌else◌}
use Rattle.std.specs.declared.option.Option.{Option}
use Rattle.std.specs.Str.Lines.{strip_carriage_return}
use mathlib.Core.List.{IsPrefix}
use Rattle.dom_base.specs.declared.names.As.{As}
use Rattle.dom_base.specs.Numerals.{number_in}
use Rattle.ted_watch.specs.declared.shown.Shown.{Shown}
use Rattle.ted_watch.specs.Published.{last_of}

-- 0 is the number of no AS
abbrev pub as_of : Option ℕ → Option As
as_of None = None
as_of (Some n) = if n == 0 then None else Some (record { 0 = n })

-- the AS for which a line asks: its number alone, which a CR may follow
abbrev pub asked_in : List ℕ → Option As
asked_in line = as_of (number_in (2 ^ 16 - 1) (strip_carriage_return line))

-- ` generation G nodes N links L`
abbrev pub counts_text : Shown → List ℕ
counts_text s = codes " generation " ++ decimal s.generation ++ codes " nodes " ++ decimal s.nodes ++ codes " links " ++ decimal s.links

abbrev pub said_text : Option Shown → List ℕ
said_text None = codes " none"
said_text (Some s) = counts_text s

-- `A generation G nodes N links L`, or `A none`
abbrev pub shown_text : As → Option Shown → List ℕ
shown_text at shown = decimal at.0 ++ said_text shown ++ 10 ∷ []

abbrev pub bad_text : List ℕ
bad_text = codes "bad line" ++ 10 ∷ []

-- the answer of a watcher that knows this list
abbrev pub text_of : Option As → List Shown → List ℕ
text_of None list = bad_text
text_of (Some at) list = shown_text at (last_of at.0 list)

-- what a watcher knows before and after an answer: it reads once, where an AS was asked for
abbrev pub Reads : Option As → List Shown → List Shown → Type 0
Reads None old new = new ≡ old
Reads (Some at) old new = IsPrefix old new

-- lines are answered one after the other
abbrev pub AreAnswered : List (List ℕ) → List Shown → List Shown → List ℕ → Type 0
AreAnswered [] old new text = (new ≡ old) × (text ≡ [])
AreAnswered (line ∷ lines) old new text =
    (mid : List Shown) × (later : List ℕ) × Reads (asked_in line) old mid × AreAnswered lines mid new later × (text ≡ text_of (asked_in line) mid ++ later)
