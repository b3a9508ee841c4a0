-- Parts are opened and closed.
use Rattle.std.proofs.Common.{◌≡◌, ℕ, ◌+◌, true, false, is_ok, List, [], ◌∷◌, ◌++◌, append-nil, codes, decimal, Option, Some, None, Result, Ok, Err, refl, sym, ap, subst, ◌∙◌, inl, inr, MatchResult}
use Rattle.dom_edge.specs.Folders.{Contents, Closes, Makes}
use Rattle.dom_edge.specs.Moments.{IsMomentText}
use Rattle.dom_edge.specs.declared.folder.FolderError.{FolderError}
use Rattle.te_links.specs.Rows.{Rows}
use Rattle.plant_text.specs.declared.settings.PeerRow.{PeerRow}
use Rattle.event_tape.specs.declared.told.Told.{Told}
use Rattle.plant_record.specs.Parts.{Title, Part, head_line, part_name, part_text, topologies}
use Rattle.plant_record.specs.Books.{BeginsWith, File, Script, files, next_part, part_count, told_in}
use Rattle.plant_record.specs.Standing.{Breaks, ClosesFile, ClosesPart, HasPart, IsBetween, ScriptState, Stands, written_in}
use Rattle.plant_record.specs.declared.fault.Fault.{Fault}
use Rattle.plant_record.proofs.Standing.{begins_more, stands_breaks, whole_begins}

-- a file was closed behind those before
pub record IsClosed (old : Contents) (d : Option Contents) (file : File) : Type 0 where
  pub contents : Contents
  pub is : d ≡ Some contents
  pub closed : contents.closed ≡ old.closed ++ file ∷ []

-- where the contents and the bytes are known
pub known_close : (contents : Contents) (c d : Option Contents) (name bytes : List ℕ) (o : Option (List ℕ)) (answer : Result (Unit {0}) FolderError) → c ≡ Some contents → o ≡ Some bytes → Closes c d name o answer
    → MatchResult answer (λ _. IsClosed contents d (name, bytes)) (λ _. d ≡ c)
known_close contents c d name bytes o answer is known closes =
    go answer (subst (λ (p : Option (List ℕ)). Closes (Some contents) d name p answer) known (subst (λ (x : Option Contents). Closes x d name o answer) is closes))
  where
    go : (answer : Result (Unit {0}) FolderError) → Closes (Some contents) d name (Some bytes) answer → MatchResult answer (λ _. IsClosed contents d (name, bytes)) (λ _. d ≡ c)
    go (Ok x) adds = record { contents = record { names = contents.names; closed = contents.closed ++ (name, bytes) ∷ [] }; is = adds.1; closed = refl }
    go (Err e) same = same ∙ sym is

-- no file is open any more
pub taken : {F : Type 0} (v s : ScriptState F) (o : Option F) → v ≡ s → o ≡ None → (let u : ScriptState F = record v { file = o } in u) ≡ (let w : ScriptState F = record s { file = None } in w)
taken v s o same none = ap (λ (x : ScriptState _). let u : ScriptState _ = record x { file = o } in u) same ∙ ap (λ (p : Option _). let u : ScriptState _ = record s { file = p } in u) none

-- how a part is closed
module _ {F : Type 0} (written : F → Option (List ℕ)) (s u : ScriptState F) (c d : Option Contents) where
  pub closes_none : s.file ≡ None → d ≡ c → u ≡ record s { file = None } → ClosesPart written (Ok tt) s u c d
  closes_none none same is = inl (Ok tt, refl, subst (λ (o : Option F). ClosesFile written o s.number (Ok tt) c d) (sym none) same, is)

  pub closes_some : (f : F) (name : List ℕ) (answer : Result (Unit {0}) FolderError) (result : Result (Unit {0}) Fault) → s.file ≡ Some f → name ≡ part_name s.number → is_ok answer ≡ is_ok result → Closes c d name (written f) answer → u ≡ record s { file = None } → ClosesPart written result s u c d
  closes_some f name answer result file named alike closes is =
      inl (answer, alike, subst (λ (o : Option F). ClosesFile written o s.number answer c d) (sym file) (subst (λ (n : List ℕ). Closes c d n (written f) answer) named closes), is)

module _ {F : Type 0} (written : F → Option (List ℕ)) (peers : List PeerRow) (t : Title) where
  abbrev S : Type 0
  S = ScriptState F

  -- the file of a part that is open
  pub file_closed : (contents : Contents) (c d : Option Contents) (file : Option F) (number : ℕ) (bytes : List ℕ) (answer : Result (Unit {0}) FolderError) → c ≡ Some contents → written_in written file ≡ Some bytes → ClosesFile written file number answer c d
      → MatchResult answer (λ _. IsClosed contents d (part_name number, bytes)) (λ _. d ≡ c)
  file_closed contents c d None number bytes answer is known closes = absurd (let no : None ≡ Some bytes = known in cc)
  file_closed contents c d (Some f) number bytes answer is known closes = known_close contents c d (part_name number) bytes (written f) answer is known closes

  -- a whole part is closed
  between : (told : List Told) (s u : S) (c d : Option Contents) (st : Stands written peers t told s c) → s.pending ≡ [] → u ≡ record s { file = None } → IsClosed st.is_kept.contents d (part_name s.number, st.bytes) → IsBetween peers t told u d
  between told s u c d st none is closed =
      let whole : st.bytes ≡ part_text peers t (next_part st.book st.moment st.events) = sym (append-nil st.bytes) ∙ ap (λ (xs : List ℕ). st.bytes ++ xs) (sym none) ∙ st.text in
      let file : (part_name s.number, st.bytes) ≡ (part_name (part_count st.book + 1), part_text peers t (next_part st.book st.moment st.events)) = rw (st.counted.number_is, whole) refl in
      subst (λ (v : S). IsBetween peers t told v d) (sym is) (record {
        book = Script st.moment st.events ∷ st.book;
        is_kept = record {
          sound = (st.is_kept.sound, subst (λ (gs : List Rows). BeginsWith gs (topologies (told_in st.book ++ st.events))) (sym (st.topologies_are ∙ ap topologies st.is)) (whole_begins (topologies (told_in st.book ++ st.events))), st.page);
          contents = closed.contents;
          is = closed.is;
          closed = closed.closed ∙ ap (λ (fs : List File). fs ++ (part_name s.number, st.bytes) ∷ []) st.is_kept.closed ∙ ap (λ (f : File). files peers t st.book ++ f ∷ []) file;
        };
        topologies_are = st.topologies_are;
        is = st.is;
        none = refl;
        counted = record { number_is = st.counted.number_is; loads_are = st.counted.loads_are; events_are = st.counted.events_are; tick_is = st.counted.tick_is; name_is = st.counted.name_is; version_is = st.counted.version_is };
      })

  -- it could not be closed
  lost : (told more : List Told) (s u : S) (c d : Option Contents) → Stands written peers t told s c → u ≡ record s { file = None } → d ≡ c → Breaks written peers t (told ++ more) u d
  lost told more s u c d st is same =
      subst (λ (v : S). Breaks written peers t (told ++ more) v d) (sym is) (subst (λ (x : Option Contents). Breaks written peers t (told ++ more) (record s { file = None }) x) (sym same) (record {
        book = st.book;
        is_kept = st.is_kept;
        has_part = begins_more told more (told_in st.book) (st.events, st.is);
      }))

  unmoved : (told more : List Told) (s u : S) (c d : Option Contents) → Stands written peers t told s c → u ≡ s → d ≡ c → Breaks written peers t (told ++ more) u d
  unmoved told more s u c d st is same =
      subst (λ (x : Option Contents). Breaks written peers t (told ++ more) u x) (sym same) (stands_breaks written peers t told more s u c st (ap (λ (v : S). v.file) is) (ap (λ (v : S). v.number) is))

  pub closed_part : (told more : List Told) (s u : S) (c d : Option Contents) (result : Result (Unit {0}) Fault) → Stands written peers t told s c → s.pending ≡ [] → ClosesPart written result s u c d
      → MatchResult result (λ _. IsBetween peers t told u d) (λ _. Breaks written peers t (told ++ more) u d)
  closed_part told more s u c d (Ok x) st none (inr (failed, same, is)) = absurd (let no : true ≡ false = failed in cc)
  closed_part told more s u c d (Err e) st none (inr (failed, same, is)) = unmoved told more s u c d st is same
  closed_part told more s u c d result st none (inl (answer, alike, closes, is)) = go answer result alike (file_closed st.is_kept.contents c d s.file s.number st.bytes answer st.is_kept.is st.written_is closes)
    where
      go : (answer : Result (Unit {0}) FolderError) (result : Result (Unit {0}) Fault) → is_ok answer ≡ is_ok result → MatchResult answer (λ _. IsClosed st.is_kept.contents d (part_name s.number, st.bytes)) (λ _. d ≡ c)
          → MatchResult result (λ _. IsBetween peers t told u d) (λ _. Breaks written peers t (told ++ more) u d)
      go (Ok x) (Ok y) alike closed = between told s u c d st none is closed
      go (Ok x) (Err y) alike closed = absurd (let no : true ≡ false = alike in cc)
      go (Err x) (Ok y) alike same = absurd (let no : false ≡ true = alike in cc)
      go (Err x) (Err y) alike same = lost told more s u c d st is same

  -- ---- a part is opened

  made : (contents : Contents) (c d : Option Contents) (name : List ℕ) (file : F) → c ≡ Some contents → Makes written c d name (Ok file) → (now : Contents) × (d ≡ Some now) × (now.closed ≡ contents.closed) × (written file ≡ Some [])
  made contents c d name file is makes =
      let known : Makes written (Some contents) d name (Ok file) = subst (λ (x : Option Contents). Makes written x d name (Ok file)) is makes in
      (record { names = contents.names ++ name ∷ []; closed = contents.closed }, known.1, refl, known.2)

  pub not_made : (contents : Contents) (c d : Option Contents) (name : List ℕ) (e : FolderError) → c ≡ Some contents → Makes written c d name (Err e) → d ≡ c
  not_made contents c d name e is makes = let known : Makes written (Some contents) d name (Err e) = subst (λ (x : Option Contents). Makes written x d name (Err e)) is makes in known ∙ sym is

  pub opened : (told : List Told) (s u : S) (c d : Option Contents) (name moment : List ℕ) (file : F) (seconds : ℕ) → IsMomentText seconds moment → IsBetween peers t told s c → Makes written c d name (Ok file) → u.file ≡ Some file → u.number ≡ s.number + 1 → u.loads ≡ s.loads → u.events ≡ s.events → u.tick ≡ s.tick → u.name ≡ s.name → u.version ≡ s.version
      → u.pending ≡ codes "# record " ++ s.name ++ codes " part " ++ decimal (s.number + 1) ++ codes " tick " ++ decimal s.tick ++ codes " event " ++ decimal (s.events + 1) ++ codes " at " ++ moment ++ codes " by " ++ s.version ++ 10 ∷ []
      → Stands written peers t told u d
  opened told s u c d name moment file seconds at b makes file_is number loads events tick name_is version pending =
      let (now, here, closed, empty) = made b.is_kept.contents c d name file b.is_kept.is makes in
      let part : Part = next_part b.book moment [] in
      let head : u.pending ≡ head_line t part =
      pending ∙ rw (b.counted.name_is, b.counted.number_is, b.counted.tick_is, b.counted.events_are, b.counted.version_is, b.is) refl in
      record {
        book = b.book;
        moment = moment;
        events = [];
        page = record { seconds = seconds; at = at; in_range = tt };
        is_kept = record { sound = b.is_kept.sound; contents = now; is = here; closed = closed ∙ b.is_kept.closed };
        topologies_are = b.topologies_are;
        is = b.is ∙ sym (append-nil (told_in b.book));
        counted = record {
          number_is = number ∙ ap (λ (n : ℕ). n + 1) b.counted.number_is;
          loads_are = loads ∙ b.counted.loads_are;
          events_are = events ∙ b.counted.events_are;
          tick_is = tick ∙ b.counted.tick_is;
          name_is = name_is ∙ b.counted.name_is;
          version_is = version ∙ b.counted.version_is;
        };
        bytes = [];
        written_is = ap (written_in written) file_is ∙ empty;
        text = head ∙ sym (append-nil (head_line t part));
      }

  pub opened_so : (told : List Told) (s w u : S) (c d : Option Contents) (name moment : List ℕ) (file : F) (number event seconds : ℕ) (start : List ℕ) → IsMomentText seconds moment → s ≡ w → IsBetween peers t told s c → Makes written c d name (Ok file) → u.file ≡ Some file → number ≡ s.number + 1 → event ≡ s.events + 1 → start ≡ []
      → u.number ≡ number → u.loads ≡ s.loads → u.events ≡ s.events → u.tick ≡ s.tick → u.name ≡ s.name → u.version ≡ s.version
      → u.pending ≡ start ++ codes "# record " ++ w.name ++ codes " part " ++ decimal number ++ codes " tick " ++ decimal w.tick ++ codes " event " ++ decimal event ++ codes " at " ++ moment ++ codes " by " ++ w.version ++ 10 ∷ []
      → Stands written peers t told u d
  opened_so told s w u c d name moment file number event seconds start at same b makes file_is next first none number_is loads events tick name_is version pending =
      opened told s u c d name moment file seconds at b makes file_is (number_is ∙ next) loads events tick name_is version (pending ∙ rw (none, next, first, ← same) refl)

  -- no part is open, and none could be opened
  pub between_breaks : (told more : List Told) (s u : S) (c d : Option Contents) → IsBetween peers t told s c → u.file ≡ s.file → d ≡ c → Breaks written peers t (told ++ more) u d
  between_breaks told more s u c d b file same =
      subst (λ (x : Option Contents). Breaks written peers t (told ++ more) u x) (sym same) (record {
        book = b.book;
        is_kept = b.is_kept;
        has_part = subst (λ (f : Option F). HasPart written peers t (told ++ more) b.book f u.number) (sym (file ∙ b.none)) (begins_more told more (told_in b.book) ([], b.is ∙ sym (append-nil (told_in b.book))));
      })

  -- none could be opened
  pub not_opened : (told : List Told) (s u : S) (c d : Option Contents) → IsBetween peers t told s c → u.file ≡ s.file → d ≡ c → Breaks written peers t told u d
  not_opened told s u c d b file same = subst (λ (es : List Told). Breaks written peers t es u d) (append-nil told) (between_breaks told [] s u c d b file same)
