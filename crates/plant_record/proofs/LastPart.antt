-- The last part is closed.
use Rattle.std.proofs.Common.{◌≡◌, ℕ, ◌+◌, true, false, is_ok, List, [], ◌∷◌, ◌++◌, take, append_assoc, append-nil, Option, Some, None, Result, Ok, Err, refl, sym, ap, subst, ◌∙◌, inl, inr, MatchResult}
use Rattle.dom_edge.specs.Folders.{Contents, Closes}
use Rattle.dom_edge.specs.declared.folder.FolderError.{FolderError}
use Rattle.plant_text.specs.declared.settings.PeerRow.{PeerRow}
use Rattle.event_tape.specs.declared.told.Told.{Told}
use Rattle.event_tape.specs.declared.tape.TapeEnd.{TapeEnd}
use Rattle.plant_record.specs.Parts.{Title, part_name, part_text, tail_by}
use Rattle.plant_record.specs.Books.{BeginsWith, Deed, File, files, next_part, part_count, told_in}
use Rattle.plant_record.specs.Standing.{Breaks, ClosesPart, HasPart, IsCut, IsCutOff, IsFlushed, IsKept, ScriptState, Stands, written_in}
use Rattle.plant_record.specs.Recording.{Concludes, IsPart, IsWhole, Leaves}
use Rattle.plant_record.specs.declared.fault.Fault.{Fault}
use Rattle.plant_record.specs.declared.recorded.Recorded.{Recorded}
use Rattle.plant_record.proofs.Standing.{appended, breaks_at, cut_begins, stands_breaks, whole_begins}
use Rattle.plant_record.proofs.Closing.{IsClosed, file_closed, known_close}

module _ {F : Type 0} (written : F → Option (List ℕ)) (peers : List PeerRow) (t : Title) where
  abbrev S : Type 0
  S = ScriptState F

  no_more : (told : List Told) (u : S) (c : Option Contents) → Breaks written peers t (told ++ []) u c → Breaks written peers t told u c
  no_more told u c b = subst (λ (es : List Told). Breaks written peers t es u c) (append-nil told) b

  abbrev text_of : List Deed → List ℕ → List Told → List ℕ
  text_of book moment events = part_text peers t (next_part book moment events)

  -- ---- behind the last line

  module _ (told : List Told) (s v : S) (c : Option Contents) (ended : Option TapeEnd) (st : Stands written peers t told s c) (file : v.file ≡ s.file) (number : v.number ≡ s.number) where
    -- it had no memory for the last line
    pub not_ended : Breaks written peers t told v c
    not_ended = no_more told v c (stands_breaks written peers t told [] s v c st file number)

    module _ (pending : v.pending ≡ s.pending ++ tail_by ended) where
      known : written_in written v.file ≡ Some st.bytes
      known = ap (written_in written) file ∙ st.written_is

      last_text : st.bytes ++ v.pending ≡ text_of st.book st.moment st.events ++ tail_by ended
      last_text = ap (λ (xs : List ℕ). st.bytes ++ xs) pending ∙ sym (append_assoc st.bytes s.pending (tail_by ended)) ∙ ap (λ (xs : List ℕ). xs ++ tail_by ended) st.text

      -- a write failed
      pub not_flushed : (u : S) → IsCutOff written v u → Breaks written peers t told u c
      not_flushed u is =
          no_more told u c
          (breaks_at written peers t told [] s u c st (ap (λ (w : S). w.number) is.others ∙ number) (st.bytes ++ take is.some.count v.pending)
          (appended (written_in written v.file) (written_in written u.file) st.bytes (take is.some.count v.pending) known is.some.added) ended
          (cut_begins written peers t (text_of st.book st.moment st.events ++ tail_by ended) st.bytes v.pending is.some.count last_text))

      module _ (u w : S) (d : Option Contents) (is : IsFlushed written v u) where
        all : written_in written u.file ≡ Some (st.bytes ++ v.pending)
        all = appended (written_in written v.file) (written_in written u.file) st.bytes v.pending known is.added

        number_is : u.number ≡ part_count st.book + 1
        number_is = ap (λ (x : S). x.number) is.others ∙ number ∙ st.counted.number_is

        whole : IsClosed st.is_kept.contents d (part_name u.number, st.bytes ++ v.pending) → IsWhole peers t told ended d
        whole closed =
            let same : (part_name u.number, st.bytes ++ v.pending) ≡ (part_name (part_count st.book + 1), text_of st.book st.moment st.events ++ tail_by ended) = rw (number_is, last_text) refl in
            record {
              book = st.book;
              sound = st.is_kept.sound;
              moment = st.moment;
              events = st.events;
              page = st.page;
              all = st.is;
              topologies_are = st.topologies_are;
              contents = closed.contents;
              is = closed.is;
              closed = closed.closed ∙ ap (λ (fs : List File). fs ++ (part_name u.number, st.bytes ++ v.pending) ∷ []) st.is_kept.closed ∙ ap (λ (f : File). files peers t st.book ++ f ∷ []) same;
            }

        left : w ≡ record u { file = None } → d ≡ c → Breaks written peers t told w d
        left gone same =
            subst (λ (x : S). Breaks written peers t told x d) (sym gone) (subst (λ (x : Option Contents). Breaks written peers t told (record u { file = None }) x) (sym same) (record {
              book = st.book;
              is_kept = st.is_kept;
              has_part = (st.events, st.is);
            }))

        stays : w ≡ u → d ≡ c → Breaks written peers t told w d
        stays same_script same =
            subst (λ (x : S). Breaks written peers t told x d) (sym same_script) (subst (λ (x : Option Contents). Breaks written peers t told u x) (sym same)
            (no_more told u c
            (breaks_at written peers t told [] s u c st (ap (λ (x : S). x.number) is.others ∙ number) (st.bytes ++ v.pending) all ended
            (subst (λ (xs : List ℕ). BeginsWith (text_of st.book st.moment st.events ++ tail_by ended) xs) (sym last_text) (whole_begins (text_of st.book st.moment st.events ++ tail_by ended))))))

        pub last_closed : (result : Result (Unit {0}) Fault) → ClosesPart written result u w c d → MatchResult result (λ _. IsWhole peers t told ended d) (λ _. Breaks written peers t told w d)
        last_closed (Ok x) (inr (failed, same, gone)) = absurd (let no : true ≡ false = failed in cc)
        last_closed (Err e) (inr (failed, same, gone)) = stays gone same
        last_closed result (inl (answer, alike, closes, gone)) = go answer result alike (file_closed written peers t st.is_kept.contents c d u.file u.number (st.bytes ++ v.pending) answer st.is_kept.is all closes)
          where
            go : (answer : Result (Unit {0}) FolderError) (result : Result (Unit {0}) Fault) → is_ok answer ≡ is_ok result → MatchResult answer (λ _. IsClosed st.is_kept.contents d (part_name u.number, st.bytes ++ v.pending)) (λ _. d ≡ c)
                → MatchResult result (λ _. IsWhole peers t told ended d) (λ _. Breaks written peers t told w d)
            go (Ok x) (Ok y) alike closed = whole closed
            go (Ok x) (Err y) alike closed = absurd (let no : true ≡ false = alike in cc)
            go (Err x) (Ok y) alike same = absurd (let no : false ≡ true = alike in cc)
            go (Err x) (Err y) alike same = left gone same

  -- it had no memory for the last line, so it answers
  pub unended : (told : List Told) (s v : S) (c : Option Contents) (ended : Option TapeEnd) (result : Result (Unit {0}) Fault) (e : Fault) → result ≡ Err e → Stands written peers t told s c → v.file ≡ s.file → v.number ≡ s.number → MatchResult result (λ _. IsWhole peers t told ended c) (λ _. Breaks written peers t told v c)
  unended told s v c ended result e is st file number = subst (λ (r : Result (Unit {0}) Fault). MatchResult r (λ _. IsWhole peers t told ended c) (λ _. Breaks written peers t told v c)) (sym is) (not_ended told s v c ended st file number)

  -- ---- what was begun is left

  first_part : (whole front more : List Told) → BeginsWith whole (front ++ more) → BeginsWith whole front
  first_part whole front more (rest, is) = (more ++ rest, is ∙ append_assoc front more rest)

  told_first : (told : List Told) (book : List Deed) (file : Option F) (number : ℕ) → HasPart written peers t told book file number → BeginsWith told (told_in book)
  told_first told book None number is = is
  told_first told book (Some f) number (bytes, there, count, cut) = first_part told (told_in book) cut.events cut.first

  -- nothing is closed
  pub left_so : (told : List Told) (s : S) (c d : Option Contents) → Breaks written peers t told s c → d ≡ c → IsPart peers t told d
  left_so told s c d b same = record {
    book = b.book;
    sound = b.is_kept.sound;
    last = [];
    is_last = told_first told b.book s.file s.number b.has_part;
    contents = b.is_kept.contents;
    is = same ∙ b.is_kept.is;
    closed = b.is_kept.closed ∙ sym (append-nil (files peers t b.book));
  }

  cut_closed : (told : List Told) (book : List Deed) (c d : Option Contents) (number : ℕ) (bytes : List ℕ) (k : IsKept peers t book c) → number ≡ part_count book + 1 → IsCut peers t told book bytes → IsClosed k.contents d (part_name number, bytes) → IsPart peers t told d
  cut_closed told book c d number bytes k count cut closed = record {
    book = book;
    sound = k.sound;
    last = (part_name number, bytes) ∷ [];
    is_last = (ap part_name count, cut);
    contents = closed.contents;
    is = closed.is;
    closed = closed.closed ∙ ap (λ (fs : List File). fs ++ (part_name number, bytes) ∷ []) k.closed;
  }

  -- the part that is open was closed, or that failed
  pub abandoned : (told : List Told) (s : S) (c d : Option Contents) (f : F) (answer : Result (Unit {0}) FolderError) → Breaks written peers t told s c → s.file ≡ Some f → Closes c d (part_name s.number) (written f) answer → IsPart peers t told d
  abandoned told s c d f answer b file closes =
      let (bytes, known, count, cut) = subst (λ (o : Option F). HasPart written peers t told b.book o s.number) file b.has_part in
      go bytes count cut answer (known_close b.is_kept.contents c d (part_name s.number) bytes (written f) answer b.is_kept.is known closes)
    where
      go : (bytes : List ℕ) → s.number ≡ part_count b.book + 1 → IsCut peers t told b.book bytes → (answer : Result (Unit {0}) FolderError) → MatchResult answer (λ _. IsClosed b.is_kept.contents d (part_name s.number, bytes)) (λ _. d ≡ c) → IsPart peers t told d
      go bytes count cut (Ok x) closed = cut_closed told b.book c d s.number bytes b.is_kept count cut closed
      go bytes count cut (Err e) same = left_so told s c d b same

  -- ---- the end

  -- a last part was closed, or a fault came of it
  pub concluded : (told : List Told) (ended : Option TapeEnd) (end result : Recorded) (d : Option Contents) → (IsWhole peers t told ended d → Leaves peers t told end d) → Concludes peers t told ended end result d → Leaves peers t told result d
  concluded told ended end result d leaves (inl (same, whole)) = subst (λ (r : Recorded). Leaves peers t told r d) (sym same) (leaves whole)
  concluded told ended end result d leaves (inr (why, same, part)) = subst (λ (r : Recorded). Leaves peers t told r d) (sym same) part
