-- The lines of a script that is recorded, as comments and events, and the texts of parts as such lines.
use Rattle.std.proofs.Common.{◌≡◌, ◌∙◌, ℕ, ◌+◌, codes, decimal, length, List, [], ◌∷◌, ◌++◌, Option, Some, None, refl, sym, ap, ap₂, append_assoc, append-nil}
use Rattle.line_text.specs.Spelling.{joined}
use Rattle.plant_text.specs.declared.settings.PeerRow.{PeerRow}
use Rattle.event_tape.specs.declared.tape.TapeEnd.{TapeEnd}
use Rattle.event_tape.specs.declared.told.Told.{Told}
use Rattle.event_lines.specs.EventLines.{event_line, event_words}
use Rattle.plant_record.specs.Books.{Deed, Script, Topology, next_part, told_in}
use Rattle.plant_record.specs.Parts.{Part, Title, head_line, last_tick, lines_behind, load_count, part_text, reason, tail_by}
use Rattle.client_laws.specs.plant_play.Replays.{octets_of}

-- a comment, or the line of an event
pub data Item : Type 0 where
  Comment : List ℕ → Item
  Line : Told → Item

-- Items have the last one first.

-- their events, the first one first
abbrev pub events_in : List Item → List Told
events_in [] = []
events_in (Comment c ∷ items) = events_in items
events_in (Line e ∷ items) = events_in items ++ e ∷ []

-- these events come behind items
abbrev pub with_events : List Told → List Item → List Item
with_events [] items = items
with_events (e ∷ es) items = with_events es (Line e ∷ items)

pub events_with : (es : List Told) (items : List Item) → events_in (with_events es items) ≡ events_in items ++ es
events_with [] items = sym (append-nil (events_in items))
events_with (e ∷ es) items = events_with es (Line e ∷ items) ∙ append_assoc (events_in items) (e ∷ []) es

-- the last line of a record
abbrev pub end_text : TapeEnd → List ℕ
end_text why = codes "# end of record: " ++ reason why

abbrev pub with_end : Option TapeEnd → List Item → List Item
with_end None items = items
with_end (Some why) items = Comment (end_text why) ∷ items

pub events_end : (ended : Option TapeEnd) (items : List Item) → events_in (with_end ended items) ≡ events_in items
events_end None items = refl
events_end (Some why) items = refl

module _ (t : Title) where
  -- the first line of a part
  abbrev pub head_text : Part → List ℕ
  head_text p =
      codes "# record " ++ t.name
      ++ codes " part " ++ decimal p.number
      ++ codes " tick " ++ decimal (last_tick 0 p.before)
      ++ codes " event " ++ decimal (length p.before + 1)
      ++ codes " at " ++ p.moment
      ++ codes " by " ++ t.version

  head_is : (p : Part) → head_line t p ≡ head_text p ++ 10 ∷ []
  head_is p = simp append_assoc refl

  -- the items of a part, behind others
  abbrev pub page_items : Part → List Item → List Item
  page_items p items = with_events p.events (Comment (head_text p) ∷ items)

  pub page_events : (p : Part) (items : List Item) → events_in (page_items p items) ≡ events_in items ++ p.events
  page_events p items = events_with p.events (Comment (head_text p) ∷ items)

  -- those of the parts of a book
  abbrev pub book_items : List Deed → List Item
  book_items [] = []
  book_items (Topology g ∷ book) = book_items book
  book_items (Script moment events ∷ book) = page_items (next_part book moment events) (book_items book)

  pub book_events : (book : List Deed) → events_in (book_items book) ≡ told_in book
  book_events [] = refl
  book_events (Topology g ∷ book) = book_events book
  book_events (Script moment events ∷ book) = page_events (next_part book moment events) (book_items book) ∙ ap (λ (es : List Told). es ++ events) (book_events book)

-- ---- their lines

module _ (peers : List PeerRow) where
  -- the line of an item behind these events
  abbrev pub line_of : List Told → Item → List ℕ
  line_of before (Comment c) = c
  line_of before (Line e) = joined (event_words peers (load_count (before ++ e ∷ [])) e)

  abbrev pub lines_of : List Item → List (List ℕ)
  lines_of [] = []
  lines_of (i ∷ items) = line_of (events_in items) i ∷ lines_of items

  octets_with : (es : List Told) (items : List Item) → octets_of (lines_of (with_events es items)) ≡ octets_of (lines_of items) ++ lines_behind peers (events_in items) es
  octets_with [] items = sym (append-nil (octets_of (lines_of items)))
  octets_with (e ∷ es) items =
      octets_with es (Line e ∷ items)
      ∙ append_assoc (octets_of (lines_of items)) (event_line peers (load_count (events_in items ++ e ∷ [])) e) (lines_behind peers (events_in items ++ e ∷ []) es)

  pub octets_end : (ended : Option TapeEnd) (items : List Item) → octets_of (lines_of (with_end ended items)) ≡ octets_of (lines_of items) ++ tail_by ended
  octets_end None items = sym (append-nil (octets_of (lines_of items)))
  octets_end (Some why) items = ap (λ (l : List ℕ). octets_of (lines_of items) ++ l) (append_assoc (codes "# end of record: ") (reason why) (10 ∷ []))

  module _ (t : Title) where
    pub octets_page : (p : Part) (items : List Item) → events_in items ≡ p.before → octets_of (lines_of (page_items t p items)) ≡ octets_of (lines_of items) ++ part_text peers t p
    octets_page p items same =
        octets_with p.events (Comment (head_text t p) ∷ items)
        ∙ append_assoc (octets_of (lines_of items)) (head_text t p ++ 10 ∷ []) (lines_behind peers (events_in items) p.events)
        ∙ ap₂ (λ (h : List ℕ) (before : List Told). octets_of (lines_of items) ++ (h ++ lines_behind peers before p.events)) (sym (head_is t p)) same

    -- the texts of the parts of a book
    abbrev pub parts_text : List Deed → List ℕ
    parts_text [] = []
    parts_text (Topology g ∷ book) = parts_text book
    parts_text (Script moment events ∷ book) = parts_text book ++ part_text peers t (next_part book moment events)

    pub book_octets : (book : List Deed) → octets_of (lines_of (book_items t book)) ≡ parts_text book
    book_octets [] = refl
    book_octets (Topology g ∷ book) = book_octets book
    book_octets (Script moment events ∷ book) =
        octets_page (next_part book moment events) (book_items t book) (book_events t book) ∙ ap (λ (text : List ℕ). text ++ part_text peers t (next_part book moment events)) (book_octets book)
