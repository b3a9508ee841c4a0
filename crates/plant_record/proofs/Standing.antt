-- A script goes on, or breaks off.
use Rattle.std.proofs.Common.{◌≡◌, ℕ, ◌+◌, List, [], ◌∷◌, ◌++◌, length, take, drop, append_assoc, append-nil, Option, Some, None, refl, sym, ap, subst, ◌∙◌, length-append}
use Rattle.std.proofs.lemmas.List.{take-append-drop}
use Rattle.std.specs.Io.KnownBytes.{Appends}
use Rattle.std.specs.List.{AllByRecursion}
use Rattle.dom_edge.specs.Folders.{Contents}
use Rattle.te_links.specs.Rows.{Rows}
use Rattle.plant_text.specs.declared.settings.PeerRow.{PeerRow}
use Rattle.event_tape.specs.declared.told.Told.{Told}
use Rattle.event_tape.specs.declared.tape.TapeEnd.{TapeEnd}
use Rattle.event_lines.specs.EventLines.{IsInRange, event_line}
use Rattle.plant_record.specs.Parts.{Title, Part, head_line, lines_behind, load_count, loaded_by, part_text, tail_by, tick_after, topologies}
use Rattle.plant_record.specs.Books.{Adds, AreLoads, BeginsWith, Deed, IsPage, kept, load_files, next_part, part_count, told_in}
use Rattle.plant_record.specs.Standing.{Breaks, HasPart, IsCut, IsCutOff, IsFlushed, IsKept, ScriptState, Stands, written_in}
use Rattle.plant_record.proofs.Events.{lines_more, tick_more, topologies_more}
use Rattle.plant_record.proofs.Books.{count_with, kept_more, kept_with, told_with, with_loads}

-- ---- first parts

pub whole_begins : {A : Type 0} (xs : List A) → BeginsWith xs xs
whole_begins xs = ([], sym (append-nil xs))

pub begins_more : {A : Type 0} (whole more part : List A) → BeginsWith whole part → BeginsWith (whole ++ more) part
begins_more whole more part (rest, is) = (rest ++ more, ap (λ (xs : List _). xs ++ more) is ∙ append_assoc part rest more)

-- ---- a page with one more event

in_range_more : (es : List Told) (e : Told) → AllByRecursion IsInRange es → IsInRange e → AllByRecursion IsInRange (es ++ e ∷ [])
in_range_more [] e all here = (here, tt)
in_range_more (x ∷ es) e all here = (all.0, in_range_more es e all.1 here)

page_more : (moment : List ℕ) (events : List Told) (e : Told) → IsPage moment events → IsInRange e → IsPage moment (events ++ e ∷ [])
page_more moment events e page here = record { seconds = page.seconds; at = page.at; in_range = in_range_more events e page.in_range here }

-- ---- what is written to a file

pub appended : (o p : Option (List ℕ)) (bytes more : List ℕ) → o ≡ Some bytes → Appends o p more → p ≡ Some (bytes ++ more)
appended None p bytes more is adds = absurd (let no : None ≡ Some bytes = is in cc)
appended (Some xs) None bytes more is adds = absurd adds
appended (Some xs) (Some ys) bytes more is adds = let same : xs ≡ bytes = cc in ap (λ (zs : List ℕ). Some zs) (adds ∙ ap (λ (zs : List ℕ). zs ++ more) same)

module _ {F : Type 0} (written : F → Option (List ℕ)) (peers : List PeerRow) (t : Title) where
  abbrev S : Type 0
  S = ScriptState F

  -- the part that is open
  has_part : (told : List Told) (book : List Deed) (file : Option F) (number : ℕ) (bytes : List ℕ) → written_in written file ≡ Some bytes → number ≡ part_count book + 1 → IsCut peers t told book bytes → HasPart written peers t told book file number
  has_part told book None number bytes is count cut = absurd (let no : None ≡ Some bytes = is in cc)
  has_part told book (Some file) number bytes is count cut = (bytes, is, count, cut)

  -- a part of which some bytes were written
  abbrev text_of : List Deed → List ℕ → List Told → List ℕ
  text_of book moment events = part_text peers t (next_part book moment events)

  pub breaks_at : (told more : List Told) (s u : S) (c : Option Contents) (st : Stands written peers t told s c) → u.number ≡ s.number → (bytes : List ℕ) → written_in written u.file ≡ Some bytes
      → (ended : Option TapeEnd) → BeginsWith (text_of st.book st.moment st.events ++ tail_by ended) bytes → Breaks written peers t (told ++ more) u c
  breaks_at told more s u c st number bytes is ended begins = record {
    book = st.book;
    is_kept = st.is_kept;
    has_part =
        has_part (told ++ more) st.book u.file u.number bytes is (number ∙ st.counted.number_is)
        (record {
          moment = st.moment;
          events = st.events;
          page = st.page;
          first = (more, ap (λ (es : List Told). es ++ more) st.is);
          topologies_are = subst (λ (gs : List Rows). BeginsWith gs (topologies (told_in st.book ++ st.events))) (sym (st.topologies_are ∙ ap topologies st.is)) (whole_begins (topologies (told_in st.book ++ st.events)));
          ended = ended;
          begins = begins;
        });
  }

  pub stands_breaks : (told more : List Told) (s u : S) (c : Option Contents) → Stands written peers t told s c → u.file ≡ s.file → u.number ≡ s.number → Breaks written peers t (told ++ more) u c
  stands_breaks told more s u c st file number = breaks_at told more s u c st number st.bytes (ap (written_in written) file ∙ st.written_is) None (begins_more (text_of st.book st.moment st.events) [] st.bytes (s.pending, sym st.text))

  -- ---- what waited is written

  pub flushed : (told : List Told) (s u : S) (c : Option Contents) → IsFlushed written s u → Stands written peers t told s c → Stands written peers t told u c
  flushed told s u c is st = subst (λ (v : S). Stands written peers t told v c) (sym is.others) (record {
    book = st.book;
    moment = st.moment;
    events = st.events;
    is_kept = st.is_kept;
    page = st.page;
    topologies_are = st.topologies_are;
    is = st.is;
    counted = record { number_is = st.counted.number_is; loads_are = st.counted.loads_are; events_are = st.counted.events_are; tick_is = st.counted.tick_is; name_is = st.counted.name_is; version_is = st.counted.version_is };
    bytes = st.bytes ++ s.pending;
    written_is = appended (written_in written s.file) (written_in written u.file) st.bytes s.pending st.written_is is.added;
    text = append-nil (st.bytes ++ s.pending) ∙ st.text;
  })

  pub cut_begins : (text bytes pending : List ℕ) (k : ℕ) → bytes ++ pending ≡ text → BeginsWith text (bytes ++ take k pending)
  cut_begins text bytes pending k is = (drop k pending, sym is ∙ ap (λ (xs : List ℕ). bytes ++ xs) (sym (take-append-drop k pending)) ∙ sym (append_assoc bytes (take k pending) (drop k pending)))

  pub cut_off : (told more : List Told) (s u : S) (c : Option Contents) → IsCutOff written s u → Stands written peers t told s c → Breaks written peers t (told ++ more) u c
  cut_off told more s u c is st =
      breaks_at told more s u c st (ap (λ (v : S). v.number) is.others) (st.bytes ++ take is.some.count s.pending)
      (appended (written_in written s.file) (written_in written u.file) st.bytes (take is.some.count s.pending) st.written_is is.some.added)
      None (begins_more (text_of st.book st.moment st.events) [] (st.bytes ++ take is.some.count s.pending) (cut_begins (text_of st.book st.moment st.events) st.bytes s.pending is.some.count st.text))

  -- ---- one more event

  -- the topologies of an event were kept
  module _ (before : List Told) (e : Told) (s : S) (c d : Option Contents) (gs : List Rows) (st : Stands written peers t before s c) (loaded : AreLoads s.loads gs) (adds : Adds c d (load_files s.loads gs)) where
    abbrev book : List Deed
    book = with_loads gs st.book

    count : s.loads ≡ length (kept st.book)
    count = st.counted.loads_are ∙ ap (λ (xs : List Rows). length xs) (sym st.topologies_are)

    now_kept : IsKept peers t book d
    now_kept = kept_more peers t st.book c d s.loads gs st.is_kept count loaded adds

    kept_now : kept book ≡ topologies before ++ gs
    kept_now = kept_with gs st.book ∙ ap (λ (xs : List Rows). xs ++ gs) st.topologies_are

    same_part : (es : List Told) → next_part book st.moment es ≡ next_part st.book st.moment es
    same_part es = rw (count_with gs st.book, told_with gs st.book) refl

    pub breaks_behind : (u : S) → u.file ≡ s.file → u.number ≡ s.number → Breaks written peers t (before ++ e ∷ []) u d
    breaks_behind u file number = record {
      book = book;
      is_kept = now_kept;
      has_part =
          has_part (before ++ e ∷ []) book u.file u.number st.bytes (ap (written_in written) file ∙ st.written_is) (number ∙ st.counted.number_is ∙ ap (λ (n : ℕ). n + 1) (sym (count_with gs st.book)))
          (record {
            moment = st.moment;
            events = st.events;
            page = st.page;
            first = (e ∷ [], ap (λ (es : List Told). es ++ e ∷ []) (st.is ∙ ap (λ (es : List Told). es ++ st.events) (sym (told_with gs st.book))));
            topologies_are = (gs, kept_now ∙ ap (λ (xs : List Rows). xs ++ gs) (ap topologies (st.is ∙ ap (λ (es : List Told). es ++ st.events) (sym (told_with gs st.book)))));
            ended = None;
            begins = (s.pending ++ [], append-nil (text_of book st.moment st.events) ∙ ap (part_text peers t) (same_part st.events) ∙ sym st.text ∙ ap (λ (xs : List ℕ). st.bytes ++ xs) (sym (append-nil s.pending)));
          });
    }

    text_more : (line : List ℕ) → line ≡ event_line peers (load_count (before ++ e ∷ [])) e → st.bytes ++ (s.pending ++ line) ≡ text_of book st.moment (st.events ++ e ∷ [])
    text_more line is =
        let part : Part = next_part st.book st.moment st.events in
        sym (append_assoc st.bytes s.pending line)
        ∙ ap (λ (xs : List ℕ). xs ++ line) st.text
        ∙ append_assoc (head_line t part) (lines_behind peers (told_in st.book) st.events) line
        ∙ ap (λ (xs : List ℕ). head_line t part ++ (lines_behind peers (told_in st.book) st.events ++ xs)) (is ∙ ap (λ (es : List Told). event_line peers (load_count (es ++ e ∷ [])) e) st.is)
        ∙ ap (λ (xs : List ℕ). head_line t part ++ xs) (sym (lines_more peers (told_in st.book) st.events e))
        ∙ ap (part_text peers t) (sym (same_part (st.events ++ e ∷ [])))

    pub pushed : gs ≡ loaded_by e → IsInRange e → (u : S) → u.file ≡ s.file → u.number ≡ s.number → u.name ≡ s.name → u.version ≡ s.version → u.loads ≡ s.loads + length gs → u.events ≡ s.events + 1 → u.tick ≡ tick_after s.tick e
        → u.pending ≡ s.pending ++ event_line peers u.loads e → Stands written peers t (before ++ e ∷ []) u d
    pushed are in_range u file number name version loads events tick pending =
        let topologies_now : topologies (before ++ e ∷ []) ≡ topologies before ++ gs = topologies_more before e ∙ ap (λ (xs : List Rows). topologies before ++ xs) (sym are) in
        let loads_now : u.loads ≡ load_count (before ++ e ∷ []) = loads ∙ ap (λ (n : ℕ). n + length gs) st.counted.loads_are ∙ sym (length-append (topologies before) gs) ∙ ap (λ (xs : List Rows). length xs) (sym topologies_now) in
        record {
          book = book;
          moment = st.moment;
          events = st.events ++ e ∷ [];
          is_kept = now_kept;
          page = page_more st.moment st.events e st.page in_range;
          topologies_are = kept_now ∙ sym topologies_now;
          is = ap (λ (es : List Told). es ++ e ∷ []) st.is ∙ append_assoc (told_in st.book) st.events (e ∷ []) ∙ ap (λ (es : List Told). es ++ (st.events ++ e ∷ [])) (sym (told_with gs st.book));
          counted = record {
            number_is = number ∙ st.counted.number_is ∙ ap (λ (n : ℕ). n + 1) (sym (count_with gs st.book));
            loads_are = loads_now;
            events_are = events ∙ ap (λ (n : ℕ). n + 1) st.counted.events_are ∙ sym (length-append before (e ∷ []));
            tick_is = tick ∙ ap (λ (n : ℕ). tick_after n e) st.counted.tick_is ∙ sym (tick_more 0 before e);
            name_is = name ∙ st.counted.name_is;
            version_is = version ∙ st.counted.version_is;
          };
          bytes = st.bytes;
          written_is = ap (written_in written) file ∙ st.written_is;
          text = ap (λ (xs : List ℕ). st.bytes ++ xs) pending ∙ text_more (event_line peers u.loads e) (ap (λ (n : ℕ). event_line peers n e) loads_now);
        }
