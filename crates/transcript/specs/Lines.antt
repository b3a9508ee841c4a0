-- The events of a run as lines, each of which begins with the number of the line of input that it comes from.
use Rattle.std.specs.Prelude.{ℕ, Bool, true, false, List, [], ◌∷◌, ◌++◌, codes, decimal, Option, Some, None, Ok, Err}
use Rattle.std.specs.List.{flat_map}
use Rattle.network_links.specs.plant_model.Types.{As, Peer, Outside, Inner, Addr, BorderRow, Label, Sent, PeerRow}
use Rattle.path_certificate.specs.declared.certificate.Certificate.{Certificate}
use Rattle.dom_base.specs.AddrText.{addr_text}
use Rattle.line_text.specs.Hexadecimal.{hex_text}
use Rattle.plant_text.specs.Settings.{peer_row}
use Rattle.plant_text.specs.Sents.{sent_line}
use Rattle.network_links.specs.plant_model.declared.outcome.Outcome.{Outcome}
use Rattle.network_links.specs.plant_model.declared.outcome.Outcome.TheVariants.{Done, Loaded, Drained}
use Rattle.network_links.specs.plant_model.declared.outcome.Refused.{Refused}
use Rattle.network_links.specs.plant_model.declared.outcome.Refused.TheVariants.{GenerationsFull, NoSuchPeer, NotHolder, NothingToCarry, NoSuchJob, NoMemory}
use Rattle.network_links.specs.plant_model.Events.{Answered}

-- `LINE TEXT`
abbrev pub numbered : ℕ → List ℕ → List ℕ
numbered line text = decimal line ++ 32 ∷ [] ++ text ++ 10 ∷ []

-- ---- the outcome of an event

abbrev pub refused_text : Refused → List ℕ
refused_text GenerationsFull = codes "refused generations full"
refused_text NoSuchPeer = codes "refused no such peer"
refused_text (NotHolder holder) = codes "refused not holder " ++ decimal holder
refused_text NothingToCarry = codes "refused nothing to carry"
refused_text NoSuchJob = codes "refused no such job"
refused_text NoMemory = codes "refused no memory"

-- bytes in hexadecimal digits, `-` for none
abbrev pub bytes_text : List ℕ → List ℕ
bytes_text [] = codes "-"
bytes_text (b ∷ bs) = hex_text (b ∷ bs)

abbrev pub ended_text : Bool → List ℕ
ended_text true = codes " ended"
ended_text false = []

abbrev pub outcome_text : Outcome → List ℕ
outcome_text Done = codes "ok"
outcome_text (Loaded generation) = codes "ok generation " ++ decimal generation
outcome_text (Drained bytes ended) = codes "ok " ++ bytes_text bytes ++ ended_text ended

abbrev pub answer_text : Answered → List ℕ
answer_text (Ok outcome) = outcome_text outcome
answer_text (Err why) = refused_text why

abbrev pub answer_line : ℕ → Answered → List ℕ
answer_line line answer = numbered line (answer_text answer)

-- ---- events that a line of input makes beside its own

abbrev pub take_line : ℕ → List ℕ → List ℕ
take_line line name = numbered line (codes "take " ++ name)

abbrev pub carry_line : ℕ → As → As → List ℕ
carry_line line from to = numbered line (codes "carry " ++ decimal from.0 ++ 32 ∷ [] ++ decimal to.0)

abbrev pub solve_line : ℕ → As → ℕ → List ℕ
solve_line line at number = numbered line (codes "solve " ++ decimal at.0 ++ 32 ∷ [] ++ decimal number)

-- ---- the messages of an event

abbrev pub name_from : Option PeerRow → List ℕ
name_from None = []
name_from (Some row) = row.name

-- an element by its domain, the parent as 0, an outside peer by its name
abbrev pub name_of : List PeerRow → Peer → List ℕ
name_of peers (Inner at) = decimal at.0
name_of peers (Outside i) = name_from (peer_row i peers)

abbrev pub sents_text : ℕ → List PeerRow → List Sent → List ℕ
sents_text line peers sents = flat_map (λ sent. sent_line line sent.from (name_of peers sent.to) sent.bytes) sents

-- ---- what a solve disclosed, and its certificate

-- ENTRY FAR HEAD COST
abbrev pub row_text : BorderRow → List ℕ
row_text row = codes "row " ++ addr_text row.entry ++ 32 ∷ [] ++ addr_text row.far ++ 32 ∷ [] ++ addr_text row.head ++ 32 ∷ [] ++ decimal row.cost

abbrev pub rows_text : ℕ → List BorderRow → List ℕ
rows_text line rows = flat_map (λ row. numbered line (row_text row)) rows

-- the label of a node, `-` where it has none
abbrev pub label_end : Option Label → List ℕ
label_end None = codes "-"
label_end (Some a) = decimal a.cost ++ 32 ∷ [] ++ addr_text a.exit

abbrev pub label_text : Addr × Option Label → List ℕ
label_text row = codes "label " ++ addr_text row.0 ++ 32 ∷ [] ++ label_end row.1

abbrev pub labels_text : ℕ → List (Addr × Option Label) → List ℕ
labels_text line rows = flat_map (λ row. numbered line (label_text row)) rows

-- the lines of a certificate but its path, as they stand in its text
abbrev pub certified_text : ℕ → Certificate → List ℕ
certified_text line c = numbered line (codes "certificate " ++ decimal c.own.0) ++ labels_text line c.labels
