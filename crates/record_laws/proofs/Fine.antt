-- What the files of a record say of its lines: comments are comments, events are within their types, and the topology that a line names
-- stands in the file of that name.
use Rattle.std.proofs.Common.{◌≡◌, ◌≢◌, ◌∙◌, ℕ, ◌+◌, ◌<◌, ◌^◌, ◌/◌, ◌%◌, true, codes, decimal, length, slice_index, List, [], ◌∷◌, ◌++◌, Option, Some, None, refl, sym, ap, subst, append_assoc, append-nil, length-append, arith}
use Rattle.std.specs.Prelude.{unsigned_abs}
use Rattle.std.specs.Arc.{arc_value}
use Rattle.std.specs.List.{AllByRecursion}
use Rattle.std.proofs.lemmas.Bool.{and_from, le-leb}
use Rattle.std.proofs.lemmas.List.Elements.{recursion_from_All}
use Rattle.jiff_core.specs.declared.civil.date.Date.{Date}
use Rattle.jiff_core.specs.declared.civil.time.Time.{Time}
use Rattle.dom_edge.specs.Moments.{IsMomentText, date_text, time_text, two_digits}
use Rattle.dom_edge.specs.Stores.{Files}
use Rattle.te_links.specs.Rows.{Rows}
use Rattle.te_text.specs.TopologyText.{topology_text}
use Rattle.plant_text.specs.declared.settings.NetworkParts.{NetworkParts}
use Rattle.plant_text.specs.declared.settings.PeerRow.{PeerRow}
use Rattle.event_tape.specs.declared.tape.TapeEnd.{TapeEnd}
use Rattle.event_tape.specs.declared.tape.TapeEnd.TheVariants.{Behind, NoMemory, Stopped}
use Rattle.event_tape.specs.declared.told.Told.{Told}
use Rattle.event_tape.specs.declared.told.Told.TheVariants.{Load, Open, Shut, Receive, Take, Carry, Break, Solve, Tick, Drain}
use Rattle.event_lines.specs.EventLines.{IsInRange, load_name}
use Rattle.plant_record.specs.Books.{BeginsWith, Deed, File, IsBook, IsLoad, IsPage, IsReadAgain, Script, Topology, files, kept, next_part, told_in}
use Rattle.plant_record.specs.Parts.{Part, Title, last_tick, load_count, loaded_by, topologies}
use Rattle.record_laws.specs.Records.{HoldsAll, IsTitle}
use Rattle.record_laws.proofs.Items.{Comment, Item, Line, book_events, book_items, end_text, events_in, head_text, page_items, with_end, with_events}
use Rattle.record_laws.proofs.Printed.{Printed, Within, all_within, decimal_printed, is_printed, printed_append, printed_within, within_append}

-- ---- topologies of events

pub topologies_append : (xs ys : List Told) → topologies (xs ++ ys) ≡ topologies xs ++ topologies ys
topologies_append [] ys = refl
topologies_append (e ∷ es) ys = ap (λ (gs : List Rows). loaded_by e ++ gs) (topologies_append es ys) ∙ sym (append_assoc (loaded_by e) (topologies es) (topologies ys))

topologies_more : (xs : List Told) (e : Told) → topologies (xs ++ e ∷ []) ≡ topologies xs ++ loaded_by e
topologies_more xs e = topologies_append xs (e ∷ []) ∙ ap (λ (gs : List Rows). topologies xs ++ gs) (append-nil (loaded_by e))

-- ---- moments

digit_printed : (n : ℕ) → is_printed (48 + n) ≡ true
digit_printed n = le-leb 32 (48 + n) (omega arith)

two_printed : (n : ℕ) → Printed (two_digits n)
two_printed n = and_from (is_printed (48 + n / 10)) _ (digit_printed (n / 10)) (and_from (is_printed (48 + n % 10)) true (digit_printed (n % 10)) refl)

behind_printed : (xs ys zs : List ℕ) → Printed xs → Printed ys → Printed zs → Printed ((xs ++ ys) ++ zs)
behind_printed xs ys zs h k m = printed_append (xs ++ ys) zs (printed_append xs ys h k) m

date_printed : (d : Date) → Printed (date_text d)
date_printed d =
    let high : List ℕ = two_digits (unsigned_abs d.year / 100) in
    let low : List ℕ = two_digits (unsigned_abs d.year % 100) in
    behind_printed (high ++ low) (two_digits d.month) (two_digits d.day) (printed_append high low (two_printed (unsigned_abs d.year / 100)) (two_printed (unsigned_abs d.year % 100))) (two_printed d.month) (two_printed d.day)

time_printed : (t : Time) → Printed (time_text t)
time_printed t = behind_printed (two_digits t.hour) (two_digits t.minute) (two_digits t.second) (two_printed t.hour) (two_printed t.minute) (two_printed t.second)

pub moment_printed : (seconds : ℕ) (text : List ℕ) → IsMomentText seconds text → Printed text
moment_printed seconds text is =
    subst Printed (sym is.written)
    (behind_printed (date_text is.date_time.date ++ codes "T") (time_text is.date_time.time) (codes "Z") (printed_append (date_text is.date_time.date) (codes "T") (date_printed is.date_time.date) refl) (time_printed is.date_time.time) refl)

-- ---- comments

-- a line that begins a comment, and has no end
abbrev pub IsRemark : List ℕ → Type 0
IsRemark text = (slice_index text 0 ≡ 35) × Within text

pub end_is_remark : (why : TapeEnd) → IsRemark (end_text why)
end_is_remark Behind = (refl, refl)
end_is_remark NoMemory = (refl, refl)
end_is_remark Stopped = (refl, refl)

moment_within : (seconds : ℕ) (text : List ℕ) → IsMomentText seconds text → Within text
moment_within seconds text is = printed_within text (moment_printed seconds text is)

number_within : (k : ℕ) → Within (decimal k)
number_within k = printed_within (decimal k) (decimal_printed k)

named_within : (before words text : List ℕ) → Within before → Within words → Within text → Within ((before ++ words) ++ text)
named_within before words text h k m = within_append (before ++ words) text (within_append before words h k) m

pub head_is_remark : (n : NetworkParts) (t : Title) (p : Part) (events : List Told) → IsTitle n t → IsPage p.moment events → IsRemark (head_text t p)
head_is_remark n t p events is page =
    let name : List ℕ = codes "# record " ++ t.name in
    let number : List ℕ = (name ++ codes " part ") ++ decimal p.number in
    let tick : List ℕ = (number ++ codes " tick ") ++ decimal (last_tick 0 p.before) in
    let event : List ℕ = (tick ++ codes " event ") ++ decimal (length p.before + 1) in
    let moment : List ℕ = (event ++ codes " at ") ++ p.moment in
    let name_within : Within name = within_append (codes "# record ") t.name refl (moment_within is.seconds t.name is.name) in
    let number_is : Within number = named_within name (codes " part ") (decimal p.number) name_within refl (number_within p.number) in
    let tick_is : Within tick = named_within number (codes " tick ") (decimal (last_tick 0 p.before)) number_is refl (number_within (last_tick 0 p.before)) in
    let event_is : Within event = named_within tick (codes " event ") (decimal (length p.before + 1)) tick_is refl (number_within (length p.before + 1)) in
    let moment_is : Within moment = named_within event (codes " at ") p.moment event_is refl (moment_within page.seconds p.moment page.at) in
    (refl, named_within moment (codes " by ") t.version moment_is refl (all_within t.version (recursion_from_All (λ (c : ℕ). c ≢ 10) t.version is.version)))

-- ---- topologies that are loaded

module _ (held : Files) where
  -- those behind so many others stand in their files
  abbrev pub AreFiled : ℕ → List Rows → Type 0
  AreFiled k [] = Unit {0}
  AreFiled k (g ∷ gs) = ((held (load_name (k + 1)) ≡ Some (topology_text g)) × IsLoad (k + 1) g) × AreFiled (k + 1) gs

  filed_more : (k : ℕ) (gs : List Rows) (g : Rows) → AreFiled k gs → held (load_name (k + length gs + 1)) ≡ Some (topology_text g) → IsLoad (k + length gs + 1) g → AreFiled k (gs ++ g ∷ [])
  filed_more k [] g all here is =
      let same : k + 0 + 1 ≡ k + 1 = omega arith in
      ((subst (λ (j : ℕ). held (load_name j) ≡ Some (topology_text g)) same here, subst (λ (j : ℕ). IsLoad j g) same is), tt)
  filed_more k (h ∷ gs) g all here is =
      let same : k + length (h ∷ gs) + 1 ≡ k + 1 + length gs + 1 = omega arith in
      (all.0, filed_more (k + 1) gs g all.1 (subst (λ (j : ℕ). held (load_name j) ≡ Some (topology_text g)) same here) (subst (λ (j : ℕ). IsLoad j g) same is))

  filed_back : (k : ℕ) (gs hs : List Rows) → AreFiled k (gs ++ hs) → AreFiled (k + length gs) hs
  filed_back k [] hs all = let same : k ≡ k + 0 = omega arith in subst (λ (j : ℕ). AreFiled j hs) same all
  filed_back k (g ∷ gs) hs all =
      let same : k + 1 + length gs ≡ k + length (g ∷ gs) = omega arith in
      subst (λ (j : ℕ). AreFiled j hs) same (filed_back (k + 1) gs hs all.1)

  filed_few : (k : ℕ) (gs hs : List Rows) → k < 2 ^ 64 → AreFiled k (gs ++ hs) → k + length gs < 2 ^ 64
  filed_few k [] hs small all = omega (arith, small)
  filed_few k (g ∷ gs) hs small all =
      let here : k + 1 < 2 ^ 64 = all.0.1.1 in
      let below : k + 1 + length gs < 2 ^ 64 = filed_few (k + 1) gs hs here all.1 in
      omega (arith, below)

  holds_front : (xs ys : List File) → HoldsAll held (xs ++ ys) → HoldsAll held xs
  holds_front [] ys all = tt
  holds_front (x ∷ xs) ys all = (all.0, holds_front xs ys all.1)

  holds_last : (xs : List File) (x : File) → HoldsAll held (xs ++ x ∷ []) → held x.0 ≡ Some x.1
  holds_last [] x all = all.0
  holds_last (y ∷ xs) x all = holds_last xs x all.1

  -- the topologies of a book
  pub book_filed : (peers : List PeerRow) (t : Title) (book : List Deed) → IsBook book → HoldsAll held (files peers t book) → AreFiled 0 (kept book)
  book_filed peers t [] sound all = tt
  book_filed peers t (Topology g ∷ book) sound all =
      let file : File = (load_name (length (kept book) + 1), topology_text g) in
      let zero_is : length (kept book) + 1 ≡ 0 + length (kept book) + 1 = omega arith in
      filed_more 0 (kept book) g (book_filed peers t book sound.0 (holds_front (files peers t book) (file ∷ []) all))
      (subst (λ (j : ℕ). held (load_name j) ≡ Some (topology_text g)) zero_is (holds_last (files peers t book) file all)) (subst (λ (j : ℕ). IsLoad j g) zero_is sound.1)
  book_filed peers t (Script moment events ∷ book) sound all = book_filed peers t book sound.0 (holds_front (files peers t book) _ all)

  -- ---- items

  -- the topology of a load stands in the file of this number
  abbrev pub IsFiled : ℕ → Told → Type 0
  IsFiled k (Load d g) = (held (load_name k) ≡ Some (topology_text (arc_value g))) × IsReadAgain (arc_value g)
  IsFiled k e = Unit {0}

  pub record IsFineLine (k : ℕ) (e : Told) : Type 0 where
    pub in_range : IsInRange e
    pub few : k < 2 ^ 64
    pub filed : IsFiled k e

  -- an item behind these events
  abbrev pub IsFine : List Told → Item → Type 0
  IsFine before (Comment c) = IsRemark c
  IsFine before (Line e) = IsFineLine (load_count (before ++ e ∷ [])) e

  abbrev pub AllFine : List Item → Type 0
  AllFine [] = Unit {0}
  AllFine (i ∷ items) = IsFine (events_in items) i × AllFine items

  count_more : (before : List Told) (e : Told) → load_count (before ++ e ∷ []) ≡ load_count before + length (loaded_by e)
  count_more before e = ap (λ (gs : List Rows). length gs) (topologies_more before e) ∙ length-append (topologies before) (loaded_by e)

  -- one more event
  one_fine : (before : List Told) (e : Told) (later : List Rows) → IsInRange e → load_count before < 2 ^ 64 → AreFiled (load_count before) (loaded_by e ++ later) → IsFineLine (load_count before + length (loaded_by e)) e
  one_fine before (Load d g) later in_range few filed = record { in_range = in_range; few = filed.0.1.1; filed = (filed.0.0, filed.0.1.0) }
  one_fine before (Open p h) later in_range few filed = record { in_range = in_range; few = omega (arith, few); filed = tt }
  one_fine before (Shut p) later in_range few filed = record { in_range = in_range; few = omega (arith, few); filed = tt }
  one_fine before (Receive p octets) later in_range few filed = record { in_range = in_range; few = omega (arith, few); filed = tt }
  one_fine before (Take p) later in_range few filed = record { in_range = in_range; few = omega (arith, few); filed = tt }
  one_fine before (Carry a b) later in_range few filed = record { in_range = in_range; few = omega (arith, few); filed = tt }
  one_fine before (Break a b) later in_range few filed = record { in_range = in_range; few = omega (arith, few); filed = tt }
  one_fine before (Solve d k) later in_range few filed = record { in_range = in_range; few = omega (arith, few); filed = tt }
  one_fine before (Tick t) later in_range few filed = record { in_range = in_range; few = omega (arith, few); filed = tt }
  one_fine before (Drain p h) later in_range few filed = record { in_range = in_range; few = omega (arith, few); filed = tt }

  -- events behind items
  with_fine : (es : List Told) (items : List Item) (later : List Rows) → AllFine items → AllByRecursion IsInRange es → load_count (events_in items) < 2 ^ 64 → AreFiled (load_count (events_in items)) (topologies es ++ later) → AllFine (with_events es items)
  with_fine [] items later fine in_range few filed = fine
  with_fine (e ∷ es) items later fine in_range few filed =
      let before : List Told = events_in items in
      let split : AreFiled (load_count before) (loaded_by e ++ (topologies es ++ later)) = subst (AreFiled (load_count before)) (append_assoc (loaded_by e) (topologies es) later) filed in
      let count : load_count before + length (loaded_by e) ≡ load_count (before ++ e ∷ []) = sym (count_more before e) in
      let here : IsFineLine (load_count (before ++ e ∷ [])) e = subst (λ (k : ℕ). IsFineLine k e) count (one_fine before e (topologies es ++ later) in_range.0 few split) in
      with_fine es (Line e ∷ items) later (here, fine) in_range.1 here.few (subst (λ (k : ℕ). AreFiled k (topologies es ++ later)) count (filed_back (load_count before) (loaded_by e) (topologies es ++ later) split))

  module _ (n : NetworkParts) (t : Title) (title : IsTitle n t) where
    -- a part behind items
    pub page_fine : (p : Part) (items : List Item) (later : List Rows) → AllFine items → events_in items ≡ p.before → IsPage p.moment p.events → AreFiled 0 (topologies (p.before ++ p.events) ++ later) → AllFine (page_items t p items)
    page_fine p items later fine same page filed =
        let all : AreFiled 0 (topologies p.before ++ (topologies p.events ++ later)) =
        subst (AreFiled 0) (ap (λ (gs : List Rows). gs ++ later) (topologies_append p.before p.events) ∙ append_assoc (topologies p.before) (topologies p.events) later) filed in
        let none : 0 + load_count p.before ≡ load_count p.before = omega arith in
        let few : load_count p.before < 2 ^ 64 = subst (λ (k : ℕ). k < 2 ^ 64) none (filed_few 0 (topologies p.before) (topologies p.events ++ later) (omega arith) all) in
        let behind : AreFiled (load_count p.before) (topologies p.events ++ later) = subst (λ (k : ℕ). AreFiled k (topologies p.events ++ later)) none (filed_back 0 (topologies p.before) (topologies p.events ++ later) all) in
        with_fine p.events (Comment (head_text t p) ∷ items) later (head_is_remark n t p p.events title page, fine) page.in_range (subst (λ (es : List Told). load_count es < 2 ^ 64) (sym same) few)
        (subst (λ (es : List Told). AreFiled (load_count es) (topologies p.events ++ later)) (sym same) behind)

    pub book_fine : (book : List Deed) (later : List Rows) → IsBook book → AreFiled 0 (topologies (told_in book) ++ later) → AllFine (book_items t book)
    book_fine [] later sound filed = tt
    book_fine (Topology g ∷ book) later sound filed = book_fine book later sound.0 filed
    book_fine (Script moment events ∷ book) later sound filed =
        let all : AreFiled 0 (topologies (told_in book) ++ (topologies events ++ later)) =
        subst (AreFiled 0) (ap (λ (gs : List Rows). gs ++ later) (topologies_append (told_in book) events) ∙ append_assoc (topologies (told_in book)) (topologies events) later) filed in
        page_fine (next_part book moment events) (book_items t book) later (book_fine book (topologies events ++ later) sound.0 all) (book_events t book) sound.2 filed

    pub end_fine : (ended : Option TapeEnd) (items : List Item) → AllFine items → AllFine (with_end ended items)
    end_fine None items fine = fine
    end_fine (Some why) items fine = (end_is_remark why, fine)

-- what the lines of a book load was closed in it
pub book_begins : (book : List Deed) → IsBook book → BeginsWith (kept book) (topologies (told_in book))
book_begins [] sound = ([], refl)
book_begins (Topology g ∷ book) sound = let below = book_begins book sound.0 in (below.0 ++ g ∷ [], ap (λ (gs : List Rows). gs ++ g ∷ []) below.1 ∙ append_assoc (topologies (told_in book)) below.0 (g ∷ []))
book_begins (Script moment events ∷ book) sound = sound.1
