-- A record that is played.
use Rattle.std.proofs.Common.{◌≡◌, ◌≢◌, ◌∙◌, ℕ, Bool, true, false, map, List, [], ◌∷◌, ◌++◌, Option, Some, None, refl, sym, ap, subst, append_assoc, append-nil, inl, inr}
use Rattle.std.specs.Arc.{arc_value}
use Rattle.std.specs.List.{AllByRecursion}
use Rattle.std.proofs.lemmas.List.{map-append}
use Rattle.std.proofs.lemmas.List.Elements.{All-nil, All-cons, recursion_from_All}
use Rattle.dom_edge.specs.Stores.{Files}
use Rattle.plant_text.specs.Faults.{AreObeyed, first_of}
use Rattle.line_text.specs.Spelling.{joined}
use Rattle.te_text.specs.TopologyText.{topology_text}
use Rattle.plant_text.specs.Lines.{line_in}
use Rattle.plant_text.specs.declared.line.LineEvent.TheVariants as line
use Rattle.plant_text.specs.Reads.{Reads}
use Rattle.plant_text.specs.Rules.{Rules, rules, rules_of}
use Rattle.plant_text.specs.SettingsText.{sheet_in}
use Rattle.plant_text.specs.declared.fault.NetFault.{NetFault}
use Rattle.plant_text.specs.declared.settings.NetworkParts.{NetworkParts}
use Rattle.plant_text.specs.declared.settings.PeerRow.{PeerRow}
use Rattle.plant_text.proofs.RuleLaws.{none_of}
use Rattle.plant_text.proofs.SheetLaws.{settings_clear}
use Rattle.event_tape.specs.Hands.{told_of}
use Rattle.event_tape.specs.Tapes.{event_of}
use Rattle.event_tape.specs.declared.tape.Handed.{Handed}
use Rattle.event_tape.specs.declared.tape.TapeEnd.{TapeEnd}
use Rattle.event_tape.specs.declared.told.Told.{Told}
use Rattle.event_tape.specs.declared.told.Told.TheVariants.{Load, Open, Shut, Receive, Take, Carry, Break, Solve, Tick, Drain}
use Rattle.event_lines.specs.EventLines.{LinesSayEvents, event_words, line_of as line_event}
use Rattle.plant_record.specs.Books.{BeginsWith}
use Rattle.plant_record.specs.Parts.{Title, load_count}
use Rattle.plant_lock.specs.History.{replay}
use Rattle.plant_network.specs.plant_model.Laws.{IsNetwork}
use Rattle.plant_network.specs.plant_model.declared.event.Event.{Event}
use Rattle.plant_network.specs.plant_model.Plant.{Entry, Plant, Run}
use Rattle.plant_network.specs.plant_model.RealWire.{wire}
use Rattle.run_laws.proofs.TextLemmas.ModelledNetworks.{settings_are_modelled}
use Rattle.told_laws.specs.Playing.{AreAccepted, events_in as newest_events}
use Rattle.told_laws.specs.Telling.{told}
use Rattle.told_laws.proofs.Playing.{parts_are_played}
use Rattle.told_laws.proofs.Telling.{told_is_run}
use Rattle.kept_plant.specs.Handing.{HandTells, end_told}
use Rattle.kept_plant.specs.Turns.{Kept, kept_after}
use Rattle.kept_plant.specs.declared.acts.KeptAct.{KeptAct}
use Rattle.kept_plant.specs.declared.acts.KeptAnswer.{KeptAnswer}
use Rattle.kept_plant.proofs.Handing.{hands_tell}
use Rattle.client_laws.specs.plant_play.Playing.{PlayedNetwork}
use Rattle.client_laws.specs.plant_play.Replays.{HasNoEnd, Replaying, octets_of}
use Rattle.client_laws.specs.plant_play.Turns.{Turn, entries_of}
use Rattle.client_laws.specs.plant_play.declared.replaying.Span.{Span}
use Rattle.record_laws.specs.Days.{AreHandsOf, HasOctets, IsDay, events_by}
use Rattle.record_laws.specs.Records.{AreShowing, HasAll, IsReadable, IsTitle, ShowsMore, script_of}
use Rattle.record_laws.specs.Replayed.{IsReplayed, IsReplayedToEnd, RecordsAreReadable, RecordsAreReplayed, WholeRecordsAreReplayed}
use Rattle.record_laws.proofs.Fine.{AllFine, IsFiled, IsFineLine}
use Rattle.record_laws.proofs.Firsts.{AllWithin, AreLast, first_lines}
use Rattle.record_laws.proofs.Handing.{HandsOfRun, hands_of_run}
use Rattle.record_laws.proofs.Items.{Comment, Item, Line, events_in, line_of, lines_of}
use Rattle.record_laws.proofs.Known.{IsKnown, told_known}
use Rattle.record_laws.proofs.Playing.{Follows, items_follow, known_front, known_last, line_printed, remark_says, said}
use Rattle.record_laws.proofs.Printed.{Within, all_within, printed_stays, printed_within, within_all}
use Rattle.record_laws.proofs.Rightly.{runs_are_right}
use Rattle.record_laws.proofs.Splitting.{IsSplit, RunsTo, newest_append, runs_to, split_accepted, split_at}
use Rattle.record_laws.proofs.Written.{IsScript, IsWholeScript, of_record, of_whole}

-- ---- settings

abbrev IsUnbroken : Bool × NetFault → Type 0
IsUnbroken rule = rule.0 ≡ false

obeyed_of : (rs : Rules NetFault) → first_of rs ≡ None → AreObeyed rs
obeyed_of [] none = All-nil IsUnbroken
obeyed_of ((true, x) ∷ rs) none = absurd (let no : Some x ≡ None = none in cc)
obeyed_of ((false, x) ∷ rs) none = All-cons IsUnbroken (false, x) rs refl (obeyed_of rs none)

pub rules_hold : (bytes : List ℕ) (n : NetworkParts) → Reads bytes n → AreObeyed (rules_of n)
rules_hold bytes n r =
    let s = sheet_in r.root in
    subst (λ (m : NetworkParts). AreObeyed (rules_of m)) (sym r.rows) (obeyed_of (rules_of s.parts) (settings_clear s (none_of (rules s) r.obeyed)))

-- ---- lines have no ends

module _ (says : LinesSayEvents) (n : NetworkParts) (obeyed : AreObeyed (rules_of n)) (held : Files) where
  abbrev Known : Told → Type 0
  Known e = IsKnown n (event_of e)

  lines_within : (items : List Item) → AllFine held items → AllByRecursion Known (events_in items) → AllWithin (lines_of n.peers items)
  lines_within [] fine known = tt
  lines_within (Comment c ∷ items) fine known = (fine.0.1, lines_within items fine.1 known)
  lines_within (Line e ∷ items) fine known = (
    printed_within (line_of n.peers (events_in items) (Line e)) (line_printed says n obeyed (load_count (events_in items ++ e ∷ [])) fine.0.few e (known_last Known (events_in items) e known) fine.0.in_range),
    lines_within items fine.1 (known_front Known (events_in items) e known),
  )

-- ---- some of the items

pub record AreItems (peers : List PeerRow) (held : Files) (items : List Item) (lines : List (List ℕ)) : Type 0 where
  pub later : List Item
  pub firsts : List Item
  pub is : items ≡ later ++ firsts
  pub fine : AllFine held firsts
  pub lines_are : lines ≡ lines_of peers firsts

cons_same : (l m : List ℕ) (ls ms : List (List ℕ)) → (l ∷ ls) ≡ (m ∷ ms) → ls ≡ ms
cons_same l m ls ms e = cc

none_more : {X : Type 0} → (l : List ℕ) (ls : List (List ℕ)) → [] ≡ (l ∷ ls) → X
none_more l ls e = cc

items_of : (peers : List PeerRow) (held : Files) (items : List Item) (more lines : List (List ℕ)) → AllFine held items → lines_of peers items ≡ more ++ lines → AreItems peers held items lines
items_of peers held items [] lines fine is = record { later = []; firsts = items; is = refl; fine = fine; lines_are = sym is }
items_of peers held [] (m ∷ more) lines fine is = none_more m (more ++ lines) is
items_of peers held (i ∷ items) (m ∷ more) lines fine is =
    let below : AreItems peers held items lines = items_of peers held items more lines fine.1 (cons_same (line_of peers (events_in items) i) m (lines_of peers items) (more ++ lines) is) in
    record { later = i ∷ below.later; firsts = below.firsts; is = ap (λ (l : List Item). i ∷ l) below.is; fine = below.fine; lines_are = below.lines_are }

-- the events of the first ones begin those of all
pub events_begin : (later firsts : List Item) → BeginsWith (events_in (later ++ firsts)) (events_in firsts)
events_begin [] firsts = ([], sym (append-nil (events_in firsts)))
events_begin (Comment c ∷ later) firsts = events_begin later firsts
events_begin (Line e ∷ later) firsts =
    let below = events_begin later firsts in (below.0 ++ e ∷ [], ap (λ (l : List Told). l ++ e ∷ []) below.1 ∙ append_assoc (events_in firsts) below.0 (e ∷ []))

begins_on : {A : Type 0} (xs ys zs : List A) → BeginsWith xs ys → BeginsWith ys zs → BeginsWith xs zs
begins_on xs ys zs first second = (second.0 ++ first.0, first.1 ∙ ap (λ (l : List _). l ++ first.0) second.1 ∙ append_assoc zs second.0 first.0)

all_front : (n : NetworkParts) (es : List Told) (rest : List Event) → AllByRecursion (IsKnown n) (map event_of es ++ rest) → AllByRecursion (λ (e : Told). IsKnown n (event_of e)) es
all_front n [] rest known = tt
all_front n (e ∷ es) rest known = (known.0, all_front n es rest known.1)

all_begin : (P : Told → Type 0) (all es : List Told) → BeginsWith all es → AllByRecursion P all → AllByRecursion P es
all_begin P all es begins each = front es begins.0 (subst (AllByRecursion P) begins.1 each)
  where
    front : (xs ys : List Told) → AllByRecursion P (xs ++ ys) → AllByRecursion P xs
    front [] ys each = tt
    front (x ∷ xs) ys each = (each.0, front xs ys each.1)

lines_have_no_end : (lines : List (List ℕ)) → AllByRecursion HasNoEnd lines → AllWithin lines
lines_have_no_end [] all = tt
lines_have_no_end (l ∷ lines) all = (all_within l (recursion_from_All (λ (c : ℕ). c ≢ 10) l all.0), lines_have_no_end lines all.1)

-- ---- the lines that are played

-- the entries of the run that the play is, and what comes of it
pub record IsFollowed (n : NetworkParts) (es : List Entry) (events : List Told) (turns : List Turn) (end : PlayedNetwork) : Type 0 where
  pub later : List Entry
  pub entries : List Entry
  pub is : told es ≡ later ++ entries
  pub events_are : events_by entries ≡ map event_of events
  pub run : Run wire n entries end.state
  pub accepted : AreAccepted entries
  pub played : entries_of turns [] ≡ entries

module _ (says : LinesSayEvents) (n : NetworkParts) (network : IsNetwork n) (obeyed : AreObeyed (rules_of n)) (held : Files) (span : Option Span) where
  followed : (es : List Entry) (s : Plant) → Run wire n (told es) s → (own : List Told) (rest : List Event) → events_by (told es) ≡ map event_of own ++ rest → (items : List Item) → AllFine held items → BeginsWith own (events_in items)
      → AllByRecursion (λ (e : Told). IsKnown n (event_of e)) (events_in items) → (front : List (List ℕ)) → AreShowing n front → (turns : List Turn) (text : List ℕ) (end : PlayedNetwork) → Replaying (Some held) span n (lines_of n.peers items ++ front) turns text end
      → IsFollowed n es (events_in items) turns end
  followed es s run own rest tells items fine begins known front shows turns text end r =
      let apart : events_by (told es) ≡ map event_of (events_in items) ++ (map event_of begins.0 ++ rest) =
      tells ∙ ap (λ (l : List Told). map event_of l ++ rest) begins.1 ∙ ap (λ (l : List Event). l ++ rest) (map-append event_of (events_in items) begins.0)
      ∙ append_assoc (map event_of (events_in items)) (map event_of begins.0) rest in
      let split : IsSplit (told es) (map event_of (events_in items)) = split_at (told es) (map event_of (events_in items)) (map event_of begins.0 ++ rest) apart in
      let to : RunsTo n split.entries = runs_to n split.later split.entries s (subst (λ (l : List Entry). Run wire n l s) split.is run) in
      let accepted : AreAccepted split.entries = split_accepted es split.later split.entries split.is in
      let follows : Follows n split.entries to.state turns end =
      items_follow says n network obeyed held span r.start r.new front shows items fine known split.entries to.state to.run accepted (sym split.events) turns text end r.played in
      record {
        later = split.later;
        entries = split.entries;
        is = split.is;
        events_are = split.events;
        run = subst (λ (t : Plant). Run wire n split.entries t) (sym follows.state) to.run;
        accepted = accepted;
        played = follows.entries;
      }

-- ---- the laws

-- all octets of lines end a line
no_end_last : (xs : List ℕ) → AllByRecursion (λ (c : ℕ). c ≢ 10) (xs ++ 10 ∷ []) → ⊥
no_end_last [] all = all.0 refl
no_end_last (x ∷ xs) all = no_end_last xs all.1

some_end : (ls : List (List ℕ)) (l rest : List ℕ) → Within rest → octets_of ls ++ (l ++ 10 ∷ []) ≡ rest → ⊥
some_end ls l rest within is =
    no_end_last (octets_of ls ++ l) (within_all ((octets_of ls ++ l) ++ 10 ∷ []) (subst Within (sym is ∙ sym (append_assoc (octets_of ls) l (10 ∷ []))) within))

octets_append : (xs ys : List (List ℕ)) → octets_of (xs ++ ys) ≡ octets_of ys ++ octets_of xs
octets_append [] ys = sym (append-nil (octets_of ys))
octets_append (x ∷ xs) ys = ap (λ (l : List ℕ). l ++ (x ++ 10 ∷ [])) (octets_append xs ys) ∙ append_assoc (octets_of ys) (octets_of xs) (x ++ 10 ∷ [])

same_behind : (xs ys zs : List ℕ) → xs ++ ys ≡ xs ++ zs → ys ≡ zs
same_behind [] ys zs is = is
same_behind (x ∷ xs) ys zs is = same_behind xs ys zs (tails x (xs ++ ys) (xs ++ zs) is)
  where
    tails : (c : ℕ) (us vs : List ℕ) → (c ∷ us) ≡ (c ∷ vs) → us ≡ vs
    tails c us vs e = cc

-- behind the last line of all no other comes
none_later : (all firsts later : List (List ℕ)) (rest : List ℕ) → all ≡ later ++ firsts → octets_of all ≡ octets_of firsts ++ rest → Within rest → later ≡ []
none_later all firsts [] rest is text within = refl
none_later all firsts (l ∷ later) rest is text within =
    absurd (some_end later l rest within (same_behind (octets_of firsts) (octets_of (l ∷ later)) rest (sym (octets_append (l ∷ later) firsts) ∙ ap octets_of (sym is) ∙ text)))

module _ (says : LinesSayEvents) (n : NetworkParts) (older : List Entry) (s : Kept) (es : List (KeptAct × KeptAnswer)) (day : IsDay n older s es) (own : List Handed) (hands : AreHandsOf s es own) (held : Files) (t : Title) (title : IsTitle n t) where
  network : IsNetwork n
  network = settings_are_modelled t.settings n title.settings

  obeyed : AreObeyed (rules_of n)
  obeyed = rules_hold t.settings n title.settings

  handed : HandsOfRun n older s es own
  handed = hands_of_run n older s es day own hands

  known : AllByRecursion (λ (e : Told). IsKnown n (event_of e)) (told_of own)
  known =
      all_front n (told_of own) handed.rest
      (subst (AllByRecursion (IsKnown n)) handed.tells (told_known n (handed.day.newer ++ older) (replay kept_after s es).network.state handed.day.run))

  abbrev run_of : List Entry
  run_of = handed.day.newer ++ older

  follows : (items : List Item) → AllFine held items → BeginsWith (told_of own) (events_in items) → (front lines : List (List ℕ)) → AreShowing n front → lines ≡ lines_of n.peers items ++ front
      → (span : Option Span) (turns : List Turn) (text : List ℕ) (end : PlayedNetwork) → Replaying (Some held) span n lines turns text end → IsFollowed n run_of (events_in items) turns end
  follows items fine begins front lines shows are span turns text end r =
      followed says n network obeyed held span run_of (replay kept_after s es).network.state (told_is_run n run_of (replay kept_after s es).network.state handed.day.run) (told_of own) handed.rest handed.tells
      items fine begins (all_begin (Known says n obeyed held) (told_of own) (events_in items) begins known) front shows turns text end (subst (λ (ls : List (List ℕ)). Replaying (Some held) span n ls turns text end) are r)

  replayed : (events : List Told) (turns : List Turn) (end : PlayedNetwork) → IsFollowed n run_of events turns end → IsReplayed n older s es (entries_of turns []) end.state
  replayed events turns end f =
      let run : Run wire n (entries_of turns []) end.state = subst (λ (fs : List Entry). Run wire n fs end.state) (sym f.played) f.run in
      let accepted : AreAccepted (entries_of turns []) = subst AreAccepted (sym f.played) f.accepted in
      record {
        newer = handed.day.newer;
        are_turns = handed.day.are_turns;
        run = handed.day.run;
        accepted = accepted;
        plays =
            parts_are_played n network run_of (entries_of turns []) (replay kept_after s es).network.state end.state handed.day.run run accepted (newest_events f.later)
            (ap newest_events f.is ∙ newest_append f.later f.entries ∙ ap (λ (fs : List Entry). newest_events f.later ++ newest_events fs) (sym f.played));
        right = runs_are_right n network (entries_of turns []) end.state run;
      }

  -- the items of which these are the lines
  record AreFirstItems (recorded : List (List ℕ)) : Type 0 where
    firsts : List Item
    fine : AllFine held firsts
    begins : BeginsWith (told_of own) (events_in firsts)
    lines_are : recorded ≡ lines_of n.peers firsts

  first_items : (script : List ℕ) → IsScript held n.peers (told_of own) script → (recorded : List (List ℕ)) → AllWithin recorded → (rest : List ℕ) → script ≡ octets_of recorded ++ rest → AreFirstItems recorded
  first_items script of recorded within rest is =
      let items : List Item = of.items in
      let last : AreLast (lines_of n.peers items) recorded =
      first_lines (lines_of n.peers items) recorded (rest ++ of.rest) (lines_within says n obeyed held items of.fine (all_begin (Known says n obeyed held) (told_of own) (events_in items) of.firsts known)) within
      (of.text ∙ ap (λ (xs : List ℕ). xs ++ of.rest) is ∙ append_assoc (octets_of recorded) rest of.rest) in
      let these : AreItems n.peers held items recorded = items_of n.peers held items last.later recorded of.fine last.is in
      let begins : BeginsWith (events_in items) (events_in these.firsts) = subst (λ (l : List Item). BeginsWith (events_in l) (events_in these.firsts)) (sym these.is) (events_begin these.later these.firsts) in
      record { firsts = these.firsts; fine = these.fine; begins = begins_on (told_of own) (events_in items) (events_in these.firsts) of.firsts begins; lines_are = these.lines_are }

  first_replayed : (recorded front lines : List (List ℕ)) → AreFirstItems recorded → AreShowing n front → lines ≡ recorded ++ front → (span : Option Span) (turns : List Turn) (text : List ℕ) (end : PlayedNetwork)
      → Replaying (Some held) span n lines turns text end → IsReplayed n older s es (entries_of turns []) end.state
  first_replayed recorded front lines these shows are span turns text end r =
      replayed (events_in these.firsts) turns end
      (follows these.firsts these.fine these.begins front lines shows (are ∙ ap (λ (ls : List (List ℕ)). ls ++ front) these.lines_are) span turns text end r)

  -- ---- lines are read

  file_there : (k : ℕ) (e : Told) → IsFiled held k e → HasAll held (Some (line_event k e))
  file_there k (Load d g) filed = (topology_text (arc_value g), filed.0)
  file_there k (Open p h) filed = tt
  file_there k (Shut p) filed = tt
  file_there k (Receive p octets) filed = tt
  file_there k (Take p) filed = tt
  file_there k (Carry a b) filed = tt
  file_there k (Break a b) filed = tt
  file_there k (Solve d j) filed = tt
  file_there k (Tick t) filed = tt
  file_there k (Drain p h) filed = tt

  event_readable : (k : ℕ) (e : Told) → IsFineLine held k e → IsKnown n (event_of e) → HasOctets e → IsReadable n held (joined (event_words n.peers k e))
  event_readable k e fine here octets = record {
    said = Some (line_event k e);
    says = ap (line_in n) (printed_stays (joined (event_words n.peers k e)) (line_printed says n obeyed k fine.few e here fine.in_range)) ∙ (said says n obeyed k fine.few e here (fine.in_range, octets)).says;
    has = file_there k e fine.filed;
  }

  items_readable : (items : List Item) → AllFine held items → AllByRecursion (Known says n obeyed held) (events_in items) → AllByRecursion HasOctets (events_in items) → AllByRecursion (IsReadable n held) (lines_of n.peers items)
  items_readable [] fine these octets = tt
  items_readable (Comment c ∷ items) fine these octets = (record { said = None; says = remark_says n c fine.0; has = tt }, items_readable items fine.1 these octets)
  items_readable (Line e ∷ items) fine these octets = (
    event_readable (load_count (events_in items ++ e ∷ [])) e fine.0 (known_last (Known says n obeyed held) (events_in items) e these) (known_last HasOctets (events_in items) e octets),
    items_readable items fine.1 (known_front (Known says n obeyed held) (events_in items) e these) (known_front HasOctets (events_in items) e octets),
  )

  shown_readable : (front : List (List ℕ)) → AreShowing n front → AllByRecursion (IsReadable n held) front
  shown_readable [] shows = tt
  shown_readable (text ∷ front) shows = (one shows.0, shown_readable front shows.1)
    where
      one : ShowsMore n text → IsReadable n held text
      one (inl is) = record { said = Some line.CertifyOn; says = is; has = tt }
      one (inr is) = record { said = Some line.DiscloseOn; says = is; has = tt }

  readable_append : (xs ys : List (List ℕ)) → AllByRecursion (IsReadable n held) xs → AllByRecursion (IsReadable n held) ys → AllByRecursion (IsReadable n held) (xs ++ ys)
  readable_append [] ys h k = k
  readable_append (x ∷ xs) ys h k = (h.0, readable_append xs ys h.1 k)

  first_readable : (recorded front lines : List (List ℕ)) → AreFirstItems recorded → AreShowing n front → lines ≡ recorded ++ front → AllByRecursion HasOctets (told_of own) → AllByRecursion (IsReadable n held) lines
  first_readable recorded front lines these shows are octets =
      let items : List Item = these.firsts in
      let events : AllByRecursion (Known says n obeyed held) (events_in items) = all_begin (Known says n obeyed held) (told_of own) (events_in items) these.begins known in
      let said_all : AllByRecursion (IsReadable n held) (lines_of n.peers items) = items_readable items these.fine events (all_begin HasOctets (told_of own) (events_in items) these.begins octets) in
      subst (AllByRecursion (IsReadable n held)) (sym are)
      (readable_append recorded front (subst (AllByRecursion (IsReadable n held)) (sym these.lines_are) said_all) (shown_readable front shows))

  whole_replayed : (why : TapeEnd) → end_told own ≡ Some why → (script : List ℕ) → IsWholeScript held n.peers (told_of own) script → (recorded front lines : List (List ℕ)) → AllWithin recorded → (rest : List ℕ) → script ≡ octets_of recorded ++ rest → Within rest → AreShowing n front
      → lines ≡ recorded ++ front → (span : Option Span) (turns : List Turn) (text : List ℕ) (end : PlayedNetwork) → Replaying (Some held) span n lines turns text end → IsReplayedToEnd older s es (entries_of turns [])
  whole_replayed why ended script of recorded front lines within rest is behind shows are span turns text end r =
      let items : List Item = of.items in
      let all : BeginsWith (told_of own) (events_in items) = ([], sym of.events ∙ sym (append-nil (events_in items))) in
      let octets : octets_of (lines_of n.peers items) ≡ octets_of recorded ++ rest = of.text ∙ is in
      let last : AreLast (lines_of n.peers items) recorded =
      first_lines (lines_of n.peers items) recorded rest (lines_within says n obeyed held items of.fine (all_begin (Known says n obeyed held) (told_of own) (events_in items) all known)) within octets in
      let none : last.later ≡ [] = none_later (lines_of n.peers items) recorded last.later rest last.is octets behind in
      let same : recorded ≡ lines_of n.peers items = sym (last.is ∙ ap (λ (ls : List (List ℕ)). ls ++ recorded) none) in
      let f : IsFollowed n run_of (events_in items) turns end = follows items of.fine all front lines shows (are ∙ ap (λ (ls : List (List ℕ)). ls ++ front) same) span turns text end r in
      let h : HandTells s es own = hands_tell s es own day.unended day.legal hands.0 hands.1 in
      record {
        before = h.before;
        later = h.later;
        is = h.is;
        ends = h.ends;
        events =
            ap events_by f.played ∙ f.events_are ∙ ap (map event_of) of.events ∙ sym (append-nil (map event_of (told_of own)))
            ∙ ap (λ (l : List Event). map event_of (told_of own) ++ l) (sym (h.all why ended).0) ∙ sym h.told;
      }

pub records_are_replayed : LinesSayEvents → RecordsAreReplayed
records_are_replayed says n older s es day own hands c record_of held holds lines first span turns text end r =
    let t : Title = record_of.title in
    let script : IsScript held n.peers (told_of own) (script_of c.closed) = of_record held n t record_of.is_title n.peers (told_of own) c record_of.part holds in
    first_replayed says n older s es day own hands held t record_of.is_title first.recorded first.shown lines
    (first_items says n older s es day own hands held t record_of.is_title (script_of c.closed) script first.recorded (lines_have_no_end first.recorded (recursion_from_All HasNoEnd first.recorded first.of.0)) first.of.1.0 first.of.1.1)
    first.shows first.are span turns text end r

pub records_are_readable : LinesSayEvents → RecordsAreReadable
records_are_readable says n older s es day own hands octets c record_of held holds lines first =
    let t : Title = record_of.title in
    let script : IsScript held n.peers (told_of own) (script_of c.closed) = of_record held n t record_of.is_title n.peers (told_of own) c record_of.part holds in
    first_readable says n older s es day own hands held t record_of.is_title first.recorded first.shown lines
    (first_items says n older s es day own hands held t record_of.is_title (script_of c.closed) script first.recorded (lines_have_no_end first.recorded (recursion_from_All HasNoEnd first.recorded first.of.0)) first.of.1.0 first.of.1.1)
    first.shows first.are octets

pub whole_records_are_replayed : LinesSayEvents → WholeRecordsAreReplayed
whole_records_are_replayed says n older s es day own hands why ended c record_of held holds lines first span turns text end r =
    let t : Title = record_of.title in
    whole_replayed says n older s es day own hands held t record_of.is_title why ended (script_of c.closed) (of_whole held n t record_of.is_title n.peers (told_of own) record_of.ended c record_of.whole holds) first.recorded first.shown lines
    (lines_have_no_end first.recorded (recursion_from_All HasNoEnd first.recorded first.of.0)) first.of.1.0 first.of.1.1 (all_within first.of.1.0 (recursion_from_All (λ (c : ℕ). c ≢ 10) first.of.1.0 first.of.1.2)) first.shows first.are span turns text end r
