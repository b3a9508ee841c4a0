-- An event of a line that is played: what the run has of it, what is shown of the job that it solved, and its transcript.
use Rattle.std.specs.Prelude.{◌≡◌, ℕ, Bool, false, not, cond, ◌&&◌, List, [], ◌∷◌, ◌++◌, Option, Some, None, Ok, Err}
use Rattle.std.specs.List.{flat_map}
use Rattle.plant_network.specs.plant_model.Types.{As, BorderRow, Seed, Ask, Sent, NetworkParts, PeerRow}
use Rattle.path_certificate.specs.declared.certificate.Certificate.{Certificate}
use Rattle.te_links.specs.Rows.{Rows}
use Rattle.border_costs.specs.Asks.{AreSeeds}
use Rattle.border_costs.specs.Solutions.{IsLabelled}
use Rattle.border_costs.specs.Tables.{IsBorderTable}
use Rattle.plant_text.specs.Names.{same_as, parent_as}
use Rattle.plant_text.specs.Settings.{peer_row}
use Rattle.plant_network.specs.plant_model.declared.event.Event.{Event}
use Rattle.plant_network.specs.plant_model.declared.event.Event.TheVariants as event
use Rattle.plant_network.specs.plant_model.Blind.{is_accepted, is_closed}
use Rattle.plant_network.specs.plant_model.Events.{Answered}
use Rattle.plant_network.specs.plant_model.State.{said}
use Rattle.plant_network.specs.plant_model.Plant.{Plant, PlantDeed, Entry, Happens, IsGiven}
use Rattle.plant_network.specs.plant_model.RealWire.{wire}
use Rattle.plant_network.specs.Whole.{Whole}
use Rattle.plant_network.specs.Jobs.{IsAsked}
use Rattle.transcript.specs.Lines.{carry_line, certified_text, name_from, rows_text, sents_text, solve_line, take_line}
use Rattle.plant_play.specs.declared.showing.Modes.{Modes}

-- what the run has of the event, the state that it leaves, and what is shown of the job that it solved
pub record Turn : Type 0 where
  pub entry : Entry
  pub after : Plant
  pub rows : List BorderRow
  pub certificate : Option Certificate

-- the entries of the run, the newest first, in front of older ones
abbrev pub entries_of : List Turn → List Entry → List Entry
entries_of [] older = older
entries_of (t ∷ ts) older = entries_of ts (t.entry ∷ older)

-- what the events are given is what its types say
abbrev pub AreGiven : List Turn → Type 0
AreGiven [] = Unit {0}
AreGiven (t ∷ ts) = IsGiven t.entry.event × AreGiven ts

-- the messages of an event; a refused one has none
abbrev pub messages_of : Answered → List PlantDeed → List Sent
messages_of (Ok o) deeds = said wire deeds
messages_of (Err why) deeds = []

-- ---- what is shown

-- a network whose last event said nothing
abbrev pub unsaid : NetworkParts → Plant → Whole
unsaid n s = record { network = n; state = s; said = [] }

-- the border table of a domain's job, in the topology that its request pinned
pub record HasTable (w : Whole) (d : As) (k : ℕ) (rows : List BorderRow) : Type 0 where
  pub asked : Ask
  pub topology : Rows
  pub is_asked : IsAsked w d k asked topology
  pub table : IsBorderTable topology asked rows

-- the labels of a domain's job, in the topology that its request pinned
pub record HasCertificate (w : Whole) (d : As) (k : ℕ) (c : Certificate) : Type 0 where
  pub asked : Ask
  pub topology : Rows
  pub is_asked : IsAsked w d k asked topology
  pub seeds : List Seed
  pub are_seeds : AreSeeds topology asked seeds
  pub labels : IsLabelled topology asked seeds c

abbrev pub is_domain_solve : Event → Bool
is_domain_solve (event.Solve d k) = not (same_as d parent_as)
is_domain_solve e = false

-- the first message goes to a closed peer
abbrev pub tells_closed : NetworkParts → List Sent → Bool
tells_closed n [] = false
tells_closed n (x ∷ xs) = is_closed n x.to

abbrev pub TableAt : Whole → Event → List BorderRow → Type 0
TableAt w (event.Solve d k) rows = HasTable w d k rows
TableAt w e rows = ⊥

abbrev pub CertificateAt : Whole → Event → Option Certificate → Type 0
CertificateAt w (event.Solve d k) (Some c) = HasCertificate w d k c
CertificateAt w e c = ⊥

-- What is shown of an accepted solve of a domain: its table where that is disclosed to a closed peer, and its certificate. Nothing is
-- shown of other events.
abbrev pub ShowsTurn : Modes → NetworkParts → Plant → Turn → Type 0
ShowsTurn m n s t =
    cond (is_accepted t.entry.answer && is_domain_solve t.entry.event)
    (cond (m.disclose && tells_closed n (said wire t.entry.deeds)) (TableAt (unsaid n s) t.entry.event t.rows) (t.rows ≡ [])
    × cond m.certify (CertificateAt (unsaid n s) t.entry.event t.certificate) (t.certificate ≡ None))
    ((t.rows ≡ []) × (t.certificate ≡ None))

-- the event happens in this state
pub record IsTurn (m : Modes) (n : NetworkParts) (s : Plant) (t : Turn) : Type 0 where
  pub happens : Happens wire n s t.entry.event (record { answer = t.entry.answer; state = t.after; deeds = t.entry.deeds })
  pub shows : ShowsTurn m n s t

-- ---- the transcript

-- the line of an event that is not the line's own
abbrev pub event_line : ℕ → List PeerRow → Event → List ℕ
event_line line peers (event.Take i) = take_line line (name_from (peer_row i peers))
event_line line peers (event.Carry a b) = carry_line line a b
event_line line peers (event.Solve d k) = solve_line line d k
event_line line peers e = []

abbrev pub certificate_text : ℕ → Option Certificate → List ℕ
certificate_text line None = []
certificate_text line (Some c) = certified_text line c

-- the messages of an event, and then what is shown of the job that it solved
abbrev pub brought_text : ℕ → List PeerRow → Turn → List ℕ
brought_text line peers t =
    sents_text line peers (messages_of t.entry.answer t.entry.deeds) ++ (rows_text line t.rows ++ certificate_text line t.certificate)

-- an event that is not the line's own: its line, and what it brought about
abbrev pub turn_text : ℕ → List PeerRow → Turn → List ℕ
turn_text line peers t = event_line line peers t.entry.event ++ brought_text line peers t

abbrev pub turns_text : ℕ → List PeerRow → List Turn → List ℕ
turns_text line peers ts = flat_map (turn_text line peers) ts
