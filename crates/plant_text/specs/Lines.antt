-- What a line of events says. Words stand between blanks, numbers and addresses are as in topologies.
use Rattle.std.specs.Prelude.{ℕ, ◌+◌, ◌-◌, ◌^◌, ◌==◌, ◌&&◌, ◌||◌, Bool, true, not, nat_lt, codes, length, find, position, List, [], ◌∷◌, Option, Some, None, option_map, if◌then◌else◌}
use Rattle.std.specs.List.{list_any}
use Rattle.std.specs.Str.{bytes_eq, is_utf8}
use Rattle.dom_base.specs.declared.names.As.{As}
use Rattle.dom_base.specs.declared.border.BorderRow.{BorderRow}
use Rattle.dom_base.specs.AddrOrder.{rank}
use Rattle.dom_base.specs.AddrText.{addr_in}
use Rattle.dom_base.specs.declared.limits.TheConstants.{COST_MAX}
use Rattle.dom_base.specs.Numerals.{number_in}
use Rattle.dom_base.specs.Steps.{◌>>=◌}
use Rattle.line_text.specs.Hexadecimal.{hex_bytes, is_blank as is_gap}
use Rattle.line_text.specs.Lines.{is_skipped}
use Rattle.line_text.specs.Words.{words_of}
use Rattle.plant_text.specs.declared.limits.TheConstants.{ROW_ENTRIES_MAX}
use Rattle.plant_text.specs.declared.line.LineEvent.{LineEvent}
use Rattle.plant_text.specs.declared.line.LineEvent.TheVariants as event
use Rattle.plant_text.specs.declared.verb.Verb.{Verb}
use Rattle.plant_text.specs.declared.verb.Verb.TheVariants as verb
use Rattle.plant_text.specs.declared.settings.NetworkParts.{NetworkParts}
use Rattle.plant_text.specs.declared.settings.PeerRow.{PeerRow}
use Rattle.plant_text.specs.Names.{same_as, parent_as}

-- ---- words

-- what the first word says, and the words behind it
abbrev pub first : {X : Type 0} → (List ℕ → Option X) → List (List ℕ) → Option (X × List (List ℕ))
first read [] = None
first read (word ∷ words) = read word >>= λ x. Some (x, words)

-- a value that no word follows
abbrev pub last : {X : Type 0} → X → List (List ℕ) → Option X
last x [] = Some x
last x (word ∷ words) = None

abbrev pub as_in : List ℕ → Option As
as_in word = number_in (2 ^ 16 - 1) word >>= λ n. Some (record { 0 = n })

abbrev pub number_32 : List ℕ → Option ℕ
number_32 word = number_in (2 ^ 32 - 1) word

abbrev pub number_64 : List ℕ → Option ℕ
number_64 word = number_in (2 ^ 64 - 1) word

-- the name of a file
abbrev pub file_in : List ℕ → Option (List ℕ)
file_in word = if is_utf8 word then Some word else None

-- the number of the first peer of this name; a name that none has says that there is no such peer
abbrev pub peer_in : List PeerRow → List ℕ → Option (Option ℕ)
peer_in peers word = Some (position (λ (p : PeerRow). bytes_eq p.name word) peers)

-- one pair of hexadecimal digits or more, of either case
abbrev pub hex_in : List ℕ → Option (List ℕ)
hex_in word = if (length word == 0) || list_any is_gap word then None else hex_bytes word

abbrev pub cost_in : List ℕ → Option ℕ
cost_in word = number_in COST_MAX word

-- ---- the first word

abbrev pub verb_word : Verb → List ℕ
verb_word verb.Load = codes "load"
verb_word verb.Change = codes "change"
verb_word verb.Open = codes "open"
verb_word verb.Shut = codes "shut"
verb_word verb.Feed = codes "feed"
verb_word verb.Receive = codes "receive"
verb_word verb.Take = codes "take"
verb_word verb.Carry = codes "carry"
verb_word verb.Break = codes "break"
verb_word verb.Solve = codes "solve"
verb_word verb.Tick = codes "tick"
verb_word verb.Drain = codes "drain"
verb_word verb.Settle = codes "settle"
verb_word verb.Finish = codes "finish"
verb_word verb.Certify = codes "certify"
verb_word verb.Disclose = codes "disclose"

abbrev pub verbs : List Verb
verbs = verb.Load ∷ verb.Change ∷ verb.Open ∷ verb.Shut ∷ verb.Feed ∷ verb.Receive ∷ verb.Take ∷ verb.Carry ∷ verb.Break ∷ verb.Solve ∷ verb.Tick ∷ verb.Drain ∷ verb.Settle ∷ verb.Finish ∷ verb.Certify ∷ verb.Disclose ∷ []

abbrev pub verb_in : List ℕ → Option Verb
verb_in word = find (λ v. bytes_eq word (verb_word v)) verbs

-- the word `on`
abbrev pub on_in : List ℕ → Option Bool
on_in word = if bytes_eq word (codes "on") then Some true else None

-- ---- the words behind it

abbrev pub only : {X : Type 0} → (List ℕ → Option X) → List (List ℕ) → Option X
only read words = first read words >>= λ x. last x.0 x.1

abbrev pub both : {X Y : Type 0} → (List ℕ → Option X) → (List ℕ → Option Y) → List (List ℕ) → Option (X × Y)
both read_x read_y words = do
  x ← first read_x words
  y ← first read_y x.1
  last (x.0, y.0) y.1

-- what the words behind the first one say
unfoldable pub behind : List PeerRow → Verb → List (List ℕ) → Option LineEvent
behind peers verb.Load words = both as_in file_in words >>= λ p. Some (event.Load p.0 p.1)
behind peers verb.Change words = both as_in file_in words >>= λ p. Some (event.Change p.0 p.1)
behind peers verb.Open words = both (peer_in peers) number_32 words >>= λ p. Some (event.Open p.0 p.1)
behind peers verb.Shut words = only (peer_in peers) words >>= λ p. Some (event.Shut p)
behind peers verb.Feed words = both (peer_in peers) hex_in words >>= λ p. Some (event.Feed p.0 p.1)
behind peers verb.Receive words = both (peer_in peers) hex_in words >>= λ p. Some (event.Receive p.0 p.1)
behind peers verb.Take words = only (peer_in peers) words >>= λ p. Some (event.Take p)
behind peers verb.Carry words = both as_in as_in words >>= λ p. Some (event.Carry p.0 p.1)
behind peers verb.Break words = both as_in as_in words >>= λ p. Some (event.Break p.0 p.1)
behind peers verb.Solve words = both as_in number_64 words >>= λ p. Some (event.Solve p.0 p.1 [])
behind peers verb.Tick words = only number_64 words >>= λ n. Some (event.Tick (record { 0 = n }))
behind peers verb.Drain words = both (peer_in peers) number_32 words >>= λ p. Some (event.Drain p.0 p.1)
behind peers verb.Settle words = last event.Settle words
behind peers verb.Finish words = last event.Finish words
behind peers verb.Certify words = only on_in words >>= λ on. Some event.CertifyOn
behind peers verb.Disclose words = only on_in words >>= λ on. Some event.DiscloseOn

-- the event of the words of a line
abbrev pub event_in : List PeerRow → List (List ℕ) → Option LineEvent
event_in peers words = first verb_in words >>= λ v. behind peers v.0 v.1

-- what a line of `play` says; one that is blank or a comment says nothing
abbrev pub line_in : NetworkParts → List ℕ → Option (Option LineEvent)
line_in n line = if is_skipped line then Some None else (words_of line >>= event_in n.peers >>= λ e. Some (Some e))

-- the octets that come from a peer by an event; only these two events bring any
abbrev pub octets_of : LineEvent → List ℕ
octets_of (event.Feed peer bytes) = bytes
octets_of (event.Receive peer bytes) = bytes
octets_of e = []

-- ---- lines of `blind`

-- ENTRY FAR HEAD COST
unfoldable pub row_in : List ℕ → List ℕ → List ℕ → List ℕ → Option BorderRow
row_in entry far head cost = do
  e ← addr_in entry
  f ← addr_in far
  h ← addr_in head
  c ← cost_in cost
  Some (record { entry = e; far = f; head = h; cost = c })

abbrev pub with_row : BorderRow → Option (List BorderRow) → Option (List BorderRow)
with_row row others = option_map (λ rows. row ∷ rows) others

-- rows to the last word
abbrev pub rows_in : List (List ℕ) → Option (List BorderRow)
rows_in [] = Some []
rows_in (entry ∷ far ∷ head ∷ cost ∷ words) = row_in entry far head cost >>= λ row. with_row row (rows_in words)
rows_in _ = None

-- by entry, then by far address
abbrev pub is_before : BorderRow → BorderRow → Bool
is_before a b = nat_lt (rank a.entry) (rank b.entry) || ((rank a.entry == rank b.entry) && nat_lt (rank a.far) (rank b.far))

-- each row is before the next
abbrev pub are_rising_after : BorderRow → List BorderRow → Bool
are_rising_after last [] = true
are_rising_after last (row ∷ rows) = is_before last row && are_rising_after row rows

-- how many have another entry than the row before; in rising order rows of one entry stand together
abbrev pub new_entries_after : BorderRow → List BorderRow → ℕ
new_entries_after last [] = 0
new_entries_after last (row ∷ rows) = (if rank last.entry == rank row.entry then 0 else 1) + new_entries_after row rows

-- rows in strictly rising order, of few entries; none are of the parent
abbrev pub are_rows_at : As → List BorderRow → Bool
are_rows_at at [] = true
are_rows_at at (row ∷ rows) = not (same_as at parent_as) && (are_rising_after row rows && nat_lt (new_entries_after row rows) ROW_ENTRIES_MAX)

unfoldable pub solved_in : List (List ℕ) → Option LineEvent
solved_in words = do
  at ← first as_in words
  number ← first number_64 at.1
  rows ← rows_in number.1
  (if are_rows_at at.0 rows then Some (event.Solve at.0 number.0 rows) else None)

unfoldable pub behind_blind : List PeerRow → Verb → List (List ℕ) → Option LineEvent
behind_blind peers verb.Load words = None
behind_blind peers verb.Change words = None
behind_blind peers verb.Finish words = None
behind_blind peers verb.Certify words = None
behind_blind peers verb.Disclose words = None
behind_blind peers verb.Solve words = solved_in words
behind_blind peers v words = behind peers v words

abbrev pub blind_event_in : List PeerRow → List (List ℕ) → Option LineEvent
blind_event_in peers words = first verb_in words >>= λ v. behind_blind peers v.0 v.1

-- what a line of `blind` says
abbrev pub blind_line_in : NetworkParts → List ℕ → Option (Option LineEvent)
blind_line_in n line = if is_skipped line then Some None else (words_of line >>= blind_event_in n.peers >>= λ e. Some (Some e))
