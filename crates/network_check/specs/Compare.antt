-- What is told of topologies: each fault; and out links and entries to which the other domain, where its topology was read, has none.
use Rattle.std.specs.Prelude.{ℕ, ◌<◌, ◌^◌, ◌==◌, ◌&&◌, Bool, true, false, not, List, [], ◌∷◌, ◌++◌, length, codes, decimal, Option, Some, None, if◌then◌else◌}
use Rattle.std.specs.List.{list_any}
use Rattle.std.specs.Str.Lines.{lines}
use Rattle.dom_base.specs.declared.names.As.{As}
use Rattle.dom_base.specs.declared.addr.Addr.{Addr}
use Rattle.dom_base.specs.AddrOrder.{rank}
use Rattle.dom_base.specs.AddrText.{addr_text}
use Rattle.line_text.specs.Lines.{NumberedLine, told_lines}
use Rattle.line_text.specs.Words.{all_words}
use Rattle.te_links.specs.Rows.{Rows}
use Rattle.te_links.specs.declared.rows.OutLink.{OutLink}
use Rattle.te_links.specs.declared.rows.Entry.{Entry}
use Rattle.te_text.specs.declared.row.TextRow.{TextRow}
use Rattle.te_text.specs.declared.row.TextRow.TheVariants as rows
use Rattle.te_text.specs.RowText.{row_in}
use Rattle.plant_text.specs.Names.{same_as}
use Rattle.network_check.specs.declared.looks.Look.{Look}
use Rattle.network_check.specs.declared.looks.Look.TheVariants as look
use Rattle.network_check.specs.declared.looks.Seen.{Seen}
use Rattle.network_check.specs.declared.breaches.Breach.{Breach}
use Rattle.network_files.specs.Faults.{fault_text}
use Rattle.network_check.specs.Forms.{form_text}
use Rattle.network_check.specs.Told.{joined, told, told_if}

-- ---- the other side

-- the topology that was read of a file
abbrev pub read_of : Look → Option Rows
read_of (look.Read c) = Some c.topology
read_of other = None

abbrev pub chart_or : Option Rows → Option Rows → Option Rows
chart_or (Some g) other = Some g
chart_or None other = other

-- that of a domain
abbrev pub chart_at : As → List Seen → Option Rows
chart_at at [] = None
chart_at at (s ∷ ss) = if same_as s.at at then chart_or (read_of s.look) (chart_at at ss) else chart_at at ss

abbrev pub is_entry : Addr → As → Entry → Bool
is_entry node from e = (rank e.node == rank node) && same_as e.from_as from

abbrev pub is_out : Addr → As → OutLink → Bool
is_out node to o = (rank o.link.to == rank node) && same_as o.to_as to

abbrev pub without_entry : As → Addr → Option Rows → Bool
without_entry at head None = false
without_entry at head (Some g) = not (list_any (is_entry head at) g.entries)

-- an out link of a domain to that head in another leads to no entry there
abbrev pub lacks_entry : List Seen → As → Addr → As → Bool
lacks_entry seen at head to = without_entry at head (chart_at to seen)

abbrev pub without_out : As → Addr → Option Rows → Bool
without_out at node None = false
without_out at node (Some g) = not (list_any (is_out node at) g.outs)

-- no out link of another domain leads to that entry of a domain
abbrev pub lacks_out : List Seen → As → Addr → As → Bool
lacks_out seen at node from = without_out at node (chart_at from seen)

-- ---- rows

abbrev pub out_warning : List Seen → Seen → ℕ → OutLink → List ℕ
out_warning seen s line o =
    told_if (lacks_entry seen s.at o.link.to o.to_as) s.file line
    (joined (codes "warning " ∷ addr_text o.link.to ∷ codes " is no entry of domain " ∷ decimal o.to_as.0 ∷ codes " from " ∷ decimal s.at.0 ∷ []))

abbrev pub entry_warning : List Seen → Seen → ℕ → Entry → List ℕ
entry_warning seen s line e =
    told_if (lacks_out seen s.at e.node e.from_as) s.file line
    (joined (codes "warning no out link of domain " ∷ decimal e.from_as.0 ∷ codes " leads to the entry " ∷ addr_text e.node ∷ []))

abbrev pub row_warning : List Seen → Seen → ℕ → Option TextRow → List ℕ
row_warning seen s line (Some (rows.Out o)) = out_warning seen s line o
row_warning seen s line (Some (rows.Entry e)) = entry_warning seen s line e
row_warning seen s line (Some (rows.Node n)) = []
row_warning seen s line (Some (rows.Link l)) = []
row_warning seen s line None = []

abbrev pub line_warnings : List Seen → Seen → NumberedLine → List ℕ
line_warnings seen s line = row_warning seen s line.number (row_in (all_words line.text))

abbrev pub lines_warnings : List Seen → Seen → List NumberedLine → List ℕ
lines_warnings seen s [] = []
lines_warnings seen s (line ∷ others) = line_warnings seen s line ++ lines_warnings seen s others

-- ---- files

abbrev pub breach_text : List ℕ → Breach → List ℕ
breach_text file b = told file b.line (joined (fault_text b.fault ∷ []))

abbrev pub breaches_text : List ℕ → List Breach → List ℕ
breaches_text file [] = []
breaches_text file (b ∷ bs) = breach_text file b ++ breaches_text file bs

abbrev pub look_text : List Seen → Seen → Look → List ℕ
look_text seen s (look.Read c) = lines_warnings seen s (told_lines c.text)
look_text seen s (look.Malformed text) = form_text s.file (told_lines text)
look_text seen s (look.Refused breaches) = breaches_text s.file breaches
look_text seen s look.Unread = told s.file 0 (joined (codes "read fault" ∷ []))
look_text seen s look.TooLong = told s.file 0 (joined (codes "too large" ∷ []))

abbrev pub topology_text : List Seen → Seen → List ℕ
topology_text seen s = look_text seen s s.look

abbrev pub topologies_text : List Seen → List Seen → List ℕ
topologies_text seen [] = []
topologies_text seen (s ∷ ss) = topology_text seen s ++ topologies_text seen ss

abbrev pub is_refused : Look → Bool
is_refused (look.Read c) = false
is_refused (look.Malformed text) = true
is_refused (look.Refused breaches) = true
is_refused look.Unread = true
is_refused look.TooLong = true

-- a text that was read has fewer lines than a number of a line can say
abbrev pub IsShort : Look → Type 0
IsShort (look.Read c) = length (lines c.text) < 2 ^ 32
IsShort (look.Malformed text) = length (lines text) < 2 ^ 32
IsShort other = Unit {0}
