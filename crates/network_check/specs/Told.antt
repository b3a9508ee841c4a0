-- Lines that are told: `FILE LINE WORDS`.
use Rattle.std.specs.Prelude.{ℕ, ◌==◌, ◌||◌, Bool, nat_lt, List, [], ◌∷◌, ◌++◌, map, codes, decimal, if◌then◌else◌}
use Rattle.dom_base.specs.AddrText.{addr_text}
use Rattle.network_check.specs.declared.told.Piece.{Piece}
use Rattle.network_check.specs.declared.told.Piece.TheVariants.{Text, Name, Number, Address}

-- an octet that would end a line or steer a terminal is told as `?`
abbrev pub steady : ℕ → ℕ
steady c = if nat_lt c 32 || (c == 127) then 63 else c

abbrev pub shown : List ℕ → List ℕ
shown name = map steady name

-- one behind the other
abbrev pub joined : List (List ℕ) → List ℕ
joined [] = []
joined (part ∷ parts) = part ++ joined parts

abbrev pub line_head : List ℕ → ℕ → List ℕ
line_head file line = joined (shown file ∷ codes " " ∷ decimal line ∷ codes " " ∷ [])

-- `FILE LINE WORDS`, and a line end
abbrev pub told : List ℕ → ℕ → List ℕ → List ℕ
told file line words = line_head file line ++ (words ++ 10 ∷ [])

-- the same, where something is so
abbrev pub told_if : Bool → List ℕ → ℕ → List ℕ → List ℕ
told_if is file line words = if is then told file line words else []

-- ---- the parts that a line is written of

abbrev pub piece_text : Piece → List ℕ
piece_text (Text text) = text.now
piece_text (Name name) = shown name.now
piece_text (Number n) = decimal n
piece_text (Address a) = addr_text a

abbrev pub pieces_text : List Piece → List ℕ
pieces_text [] = []
pieces_text (p ∷ ps) = piece_text p ++ pieces_text ps
