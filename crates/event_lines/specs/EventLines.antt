-- The lines of told events, as a script has them, and the events that these lines say.
use Rattle.std.specs.Prelude.{◌≡◌, ℕ, ◌^◌, ◌<◌, List, [], ◌∷◌, ◌++◌, length, codes, decimal, slice_get, Option, Some, None}
use Rattle.std.specs.List.{AllByRecursion}
use Rattle.line_text.specs.Hexadecimal.{hex_text}
use Rattle.line_text.specs.Spelling.{joined, line_text, IsLine}
use Rattle.plant_text.specs.declared.line.LineEvent.{LineEvent}
use Rattle.plant_text.specs.declared.line.LineEvent.TheVariants as line
use Rattle.plant_text.specs.declared.settings.NetworkParts.{NetworkParts}
use Rattle.plant_text.specs.declared.settings.PeerRow.{PeerRow}
use Rattle.plant_text.specs.Lines.{line_in}
use Rattle.plant_text.specs.Rules.{rules_of}
use Rattle.plant_text.specs.Faults.{AreObeyed}
use Rattle.event_tape.specs.declared.told.Told.{Told}
use Rattle.event_tape.specs.declared.told.Told.TheVariants.{Load, Open, Shut, Receive, Take, Carry, Break, Solve, Tick, Drain}

-- the file with the topology of a load; loads are counted from 1
abbrev pub load_name : ℕ → List ℕ
load_name k = codes "load-" ++ (decimal k ++ codes ".txt")

abbrev pub name_from : Option PeerRow → List ℕ
name_from None = []
name_from (Some row) = row.name

-- the name of an outside peer by its number
abbrev pub peer_name : List PeerRow → ℕ → List ℕ
peer_name peers i = name_from (slice_get peers i)

-- the words of an event; up to it there are k loads, with it
abbrev pub event_words : List PeerRow → ℕ → Told → List (List ℕ)
event_words peers k (Load d g) = codes "load" ∷ decimal d.0 ∷ load_name k ∷ []
event_words peers k (Open p h) = codes "open" ∷ peer_name peers p ∷ decimal h ∷ []
event_words peers k (Shut p) = codes "shut" ∷ peer_name peers p ∷ []
event_words peers k (Receive p octets) = codes "receive" ∷ peer_name peers p ∷ hex_text octets ∷ []
event_words peers k (Take p) = codes "take" ∷ peer_name peers p ∷ []
event_words peers k (Carry a b) = codes "carry" ∷ decimal a.0 ∷ decimal b.0 ∷ []
event_words peers k (Break a b) = codes "break" ∷ decimal a.0 ∷ decimal b.0 ∷ []
event_words peers k (Solve d n) = codes "solve" ∷ decimal d.0 ∷ decimal n ∷ []
event_words peers k (Tick t) = codes "tick" ∷ decimal t.0 ∷ []
event_words peers k (Drain p h) = codes "drain" ∷ peer_name peers p ∷ decimal h ∷ []

-- its line, with its LF
abbrev pub event_line : List PeerRow → ℕ → Told → List ℕ
event_line peers k e = line_text (event_words peers k e)

-- ---- what a line says

-- what the types of an event say: its numbers are of their kinds, and what came are octets
abbrev pub IsInRange : Told → Type 0
IsInRange (Load d g) = d.0 < 2 ^ 16
IsInRange (Open p h) = h < 2 ^ 32
IsInRange (Shut p) = Unit {0}
IsInRange (Receive p octets) = AllByRecursion (λ b. b < 256) octets
IsInRange (Take p) = Unit {0}
IsInRange (Carry a b) = (a.0 < 2 ^ 16) × (b.0 < 2 ^ 16)
IsInRange (Break a b) = (a.0 < 2 ^ 16) × (b.0 < 2 ^ 16)
IsInRange (Solve d k) = (d.0 < 2 ^ 16) × (k < 2 ^ 64)
IsInRange (Tick t) = t.0 < 2 ^ 64
IsInRange (Drain p h) = h < 2 ^ 32

-- an event of a network: its peer is one of the settings, some octets came, and its numbers are of their types
abbrev pub IsOf : NetworkParts → Told → Type 0
IsOf n (Load d g) = d.0 < 2 ^ 16
IsOf n (Open p h) = (p < length n.peers) × (h < 2 ^ 32)
IsOf n (Shut p) = p < length n.peers
IsOf n (Receive p octets) = (p < length n.peers) × (0 < length octets) × AllByRecursion (λ b. b < 256) octets
IsOf n (Take p) = p < length n.peers
IsOf n (Carry a b) = (a.0 < 2 ^ 16) × (b.0 < 2 ^ 16)
IsOf n (Break a b) = (a.0 < 2 ^ 16) × (b.0 < 2 ^ 16)
IsOf n (Solve d k) = (d.0 < 2 ^ 16) × (k < 2 ^ 64)
IsOf n (Tick t) = t.0 < 2 ^ 64
IsOf n (Drain p h) = (p < length n.peers) × (h < 2 ^ 32)

-- the event as a line of a script says it
abbrev pub line_of : ℕ → Told → LineEvent
line_of k (Load d g) = line.Load d (load_name k)
line_of k (Open p h) = line.Open (Some p) h
line_of k (Shut p) = line.Shut (Some p)
line_of k (Receive p octets) = line.Receive (Some p) octets
line_of k (Take p) = line.Take (Some p)
line_of k (Carry a b) = line.Carry a b
line_of k (Break a b) = line.Break a b
line_of k (Solve d n) = line.Solve d n []
line_of k (Tick t) = line.Tick t
line_of k (Drain p h) = line.Drain (Some p) h

-- the words of an event make a line, and the line says the event
pub record SaysEvent (n : NetworkParts) (k : ℕ) (e : Told) : Type 0 where
  pub line : IsLine (event_words n.peers k e)
  pub says : line_in n (joined (event_words n.peers k e)) ≡ Some (Some (line_of k e))

-- ---- the law

abbrev pub LinesSayEvents : Type 0
LinesSayEvents = (n : NetworkParts) → AreObeyed (rules_of n) → (k : ℕ) → k < 2 ^ 64 → (e : Told) → IsOf n e → SaysEvent n k e
