-- Lines of a record that are played do what is told of its run, event by event.
use Rattle.std.proofs.Common.{◌≡◌, ◌∙◌, ℕ, suc, ◌+◌, ◌-◌, ◌<◌, ◌^◌, Bool, true, false, cond, not, ◌&&◌, ◌||◌, ◌==◌, codes, length, take, get_or, slice_index, map, List, [], ◌∷◌, ◌++◌, reverse, ◌⊎◌, Option, Some, None, Ok, refl, sym, ap, subst, append_assoc, append-nil, length-append, arith, inl, inr}
use Rattle.std.specs.Arc.{arc_value}
use Rattle.std.specs.List.{AllByRecursion, list_all}
use Rattle.std.specs.Str.Lines.{strip_carriage_return}
use Rattle.std.proofs.Math.Seq.{get_or-append_seam}
use Rattle.std.proofs.lemmas.List.{map-append, reverse-append, reverse-reverse}
use Rattle.dom_edge.specs.Stores.{Files}
use Rattle.line_text.specs.Lines.{is_skipped}
use Rattle.line_text.specs.Spelling.{IsWord, joined}
use Rattle.line_text.specs.Words.{is_blank, is_trimmed}
use Rattle.te_links.specs.Rows.{Rows}
use Rattle.te_text.specs.Reads.{Reads}
use Rattle.te_text.specs.TopologyText.{topology_text}
use Rattle.plant_text.specs.Faults.{AreObeyed}
use Rattle.plant_text.specs.Lines.{line_in}
use Rattle.plant_text.specs.Rules.{rules_of}
use Rattle.plant_text.specs.declared.line.LineEvent.{LineEvent}
use Rattle.plant_text.specs.declared.line.LineEvent.TheVariants as line
use Rattle.plant_text.specs.declared.settings.NetworkParts.{NetworkParts}
use Rattle.event_tape.specs.Tapes.{event_of}
use Rattle.event_tape.specs.declared.told.Told.{Told}
use Rattle.event_tape.specs.declared.told.Told.TheVariants.{Load, Open, Shut, Receive, Take, Carry, Break, Solve, Tick, Drain}
use Rattle.event_lines.specs.EventLines.{IsInRange, LinesSayEvents, SaysEvent, event_words, line_of as line_event, peer_name}
use Rattle.plant_record.specs.Parts.{load_count}
use Rattle.plant_network.specs.plant_model.declared.event.Event.{Event}
use Rattle.plant_network.specs.plant_model.declared.event.Event.TheVariants as event
use Rattle.plant_network.specs.plant_model.declared.outcome.Outcome.TheVariants.{Done}
use Rattle.plant_network.specs.plant_model.Blind.{is_accepted}
use Rattle.plant_network.specs.plant_model.Events.{Answered}
use Rattle.plant_network.specs.plant_model.Laws.{IsNetwork}
use Rattle.plant_network.specs.plant_model.Plant.{Entry, Happened, Happens, Plant, Run, Steps}
use Rattle.plant_network.specs.plant_model.RealWire.{wire}
use Rattle.run_laws.proofs.plant_laws.Blind.OneStep.{steps_are_one}
use Rattle.told_laws.specs.Playing.{AreAccepted}
use Rattle.client_laws.specs.plant_play.Cues.{HasText, file_name}
use Rattle.client_laws.specs.plant_play.Playing.{IsNewNetwork, Plays, PlaysNone, PlaysOne, PlayedNetwork}
use Rattle.client_laws.specs.plant_play.Replays.{IsPassed, PassesLine, Replays}
use Rattle.client_laws.specs.plant_play.Turns.{Turn, entries_of}
use Rattle.client_laws.specs.plant_play.declared.replaying.Span.{Span}
use Rattle.record_laws.specs.Days.{IsSayable, events_by}
use Rattle.record_laws.specs.Records.{AreShowing}
use Rattle.record_laws.proofs.Fine.{AllFine, IsFiled, IsFineLine, IsRemark}
use Rattle.record_laws.proofs.Handing.{is_of}
use Rattle.record_laws.proofs.Items.{Comment, Item, Line, events_in, lines_of}
use Rattle.record_laws.proofs.Known.{IsKnown}
use Rattle.record_laws.proofs.Printed.{Printed, printed_append, printed_stays, words_printed}

-- ---- what a line says

-- the first octet stays where a carriage return at the end is left out
first_stays : (line : List ℕ) → slice_index line 0 ≡ 35 → slice_index (strip_carriage_return line) 0 ≡ 35
first_stays [] is = is
first_stays (c ∷ []) is = go (c == 13) refl
  where
    go : (b : Bool) → (c == 13) ≡ b → slice_index (cond b (take (length (c ∷ []) - 1) (c ∷ [])) (c ∷ [])) 0 ≡ 35
    go false at = is
    go true at = absurd (let no : false ≡ true = ap (λ (k : ℕ). k == 13) (sym is) ∙ at in cc)
first_stays (c ∷ d ∷ line) is = go (get_or (c ∷ d ∷ line) (length (c ∷ d ∷ line) - 1) 0 == 13)
  where
    some : length (c ∷ d ∷ line) - 1 ≡ suc (length line)
    some = omega arith

    front : slice_index (take (length (c ∷ d ∷ line) - 1) (c ∷ d ∷ line)) 0 ≡ 35
    front = ap (λ (k : ℕ). slice_index (take k (c ∷ d ∷ line)) 0) some ∙ is

    go : (b : Bool) → slice_index (cond b (take (length (c ∷ d ∷ line) - 1) (c ∷ d ∷ line)) (c ∷ d ∷ line)) 0 ≡ 35
    go false = is
    go true = front

or_true : (b : Bool) → (b || true) ≡ true
or_true true = refl
or_true false = refl

-- a comment says nothing
skipped : (text : List ℕ) → slice_index text 0 ≡ 35 → is_skipped text ≡ true
skipped text is = ap (λ (c : ℕ). list_all is_blank text || (c == 35)) is ∙ or_true (list_all is_blank text)

pub remark_says : (n : NetworkParts) (text : List ℕ) → IsRemark text → line_in n (strip_carriage_return text) ≡ Some None
remark_says n text is = rw (skipped (strip_carriage_return text) (first_stays text is.0)) refl

-- a line that ends with a blank is outside the form
abbrev blank_behind : List ℕ → List ℕ
blank_behind a = 114 ∷ (a ++ 32 ∷ [])

last_blank : (a : List ℕ) → get_or (blank_behind a) (length (blank_behind a) - 1) 0 ≡ 32
last_blank a =
    let place : length (blank_behind a) - 1 ≡ length (114 ∷ a) = omega (arith, length-append (114 ∷ a) (32 ∷ [])) in
    ap (λ (k : ℕ). get_or (blank_behind a) k 0) place ∙ get_or-append_seam (114 ∷ a) 32 [] 0

not_trimmed : (a : List ℕ) → is_trimmed (blank_behind a) ≡ false
not_trimmed a = ap (λ (c : ℕ). not (is_blank 114) && not (is_blank c)) (last_blank a)

outside : (n : NetworkParts) (a : List ℕ) → line_in n (blank_behind a) ≡ None
outside n a = rw (not_trimmed a) refl

-- so is that of an event whose octets are none
empty_says : (n : NetworkParts) (k p : ℕ) → line_in n (joined (event_words n.peers k (Receive p []))) ≡ None
empty_says n k p =
    let behind : List ℕ = codes "eceive" ++ 32 ∷ peer_name n.peers p in
    ap (λ (text : List ℕ). line_in n (114 ∷ text)) (sym (append_assoc (codes "eceive") (32 ∷ peer_name n.peers p) (32 ∷ []))) ∙ outside n behind

-- ---- what a line plays

-- the event of a line, and the topology that stands in its file
module _ (held : Files) where
  file_is : (name file text : List ℕ) → held name ≡ Some text → HasText (Some held) (Some name) file → file ≡ text
  file_is name file text here has = some_same file text (sym has.0 ∙ here)
    where
      some_same : (a b : List ℕ) → (let p : Option (List ℕ) = Some a in let q : Option (List ℕ) = Some b in p ≡ q) → a ≡ b
      some_same a b e = cc

  module _ (number : ℕ) (old : PlayedNetwork) (answer : Answered) (turns : List Turn) (told file : List ℕ) (end : Plant) where
    abbrev PlaysEvent : Event → Type 0
    PlaysEvent e = PlaysOne number old e answer turns told end

    plays_event : (k : ℕ) (e : Told) → IsFiled held k e → HasText (Some held) (file_name (line_event k e)) file → Plays number old (line_event k e) file answer turns told end → PlaysEvent (event_of e)
    plays_event k (Load d g) filed has p =
        let reads : Reads (topology_text (arc_value g)) p.topology = subst (λ (text : List ℕ). Reads text p.topology) (file_is _ file (topology_text (arc_value g)) filed.0 has) p.reads in
        subst (λ (rows : Rows). PlaysEvent (event.Load d rows)) (filed.1 p.topology p.order reads) p.loads
    plays_event k (Open i h) filed has p = p
    plays_event k (Shut i) filed has p = p
    plays_event k (Receive i octets) filed has p = p
    plays_event k (Take i) filed has p = p
    plays_event k (Carry a b) filed has p = p
    plays_event k (Break a b) filed has p = p
    plays_event k (Solve d j) filed has p = p
    plays_event k (Tick t) filed has p = p
    plays_event k (Drain i h) filed has p = p

-- ---- one event

happens : (n : NetworkParts) (s : Plant) (e : Event) (h : Happened) → Steps wire n s e h → is_accepted h.answer ≡ true → Happens wire n s e h
happens n s e h (inl is) fine = is
happens n s e h (inr none) fine = let no : false ≡ true = ap (λ (k : Happened). is_accepted k.answer) (sym none.1) ∙ fine in cc

entries_more : (ts : List Turn) (t : Turn) (older : List Entry) → entries_of (ts ++ t ∷ []) older ≡ t.entry ∷ entries_of ts older
entries_more [] t older = refl
entries_more (u ∷ ts) t older = entries_more ts t (u.entry ∷ older)

abbrev happened : Entry → Plant → Happened
happened e s = record { answer = e.answer; state = s; deeds = e.deeds }

abbrev entry : Event → Happened → Entry
entry v h = record { event = v; answer = h.answer; deeds = h.deeds }

-- the play is this run, and ends in its state
pub record Follows (n : NetworkParts) (fs : List Entry) (s : Plant) (turns : List Turn) (end : PlayedNetwork) : Type 0 where
  pub network : end.network ≡ n
  pub state : end.state ≡ s
  pub entries : entries_of turns [] ≡ fs

module _ (n : NetworkParts) (network : IsNetwork n) where
  -- an event that happened in the run, where the play had come to
  one_follows : (x : Entry) (fs : List Entry) (s : Plant) (run : Run wire n (x ∷ fs) s) → is_accepted x.answer ≡ true → (e : Event) → x.event ≡ e → (number : ℕ) (mid end : PlayedNetwork) (earlier turns : List Turn) (answer : Answered) (told : List ℕ)
      → Follows n fs run.0 earlier mid → end.network ≡ mid.network → PlaysOne number mid e answer turns told end.state → Follows n (x ∷ fs) s (earlier ++ turns) end
  one_follows x fs s run fine e is number mid end earlier turns answer told below stays p =
      let t : Turn = p.turn in
      let event : t.entry.event ≡ x.event = p.event ∙ sym is in
      let there : Happens wire mid.network mid.state t.entry.event (happened t.entry t.after) = p.is_turn.happens in
      let here : Happens wire n run.0 x.event (happened t.entry t.after) =
      subst (λ (v : Event). Happens wire n run.0 v (happened t.entry t.after)) event
      (subst (λ (u : Plant). Happens wire n u t.entry.event (happened t.entry t.after)) below.state (subst (λ (m : NetworkParts). Happens wire m mid.state t.entry.event (happened t.entry t.after)) below.network there)) in
      let one : happened t.entry t.after ≡ happened x s = steps_are_one wire n network fs run.0 run.1 x.event (happened t.entry t.after) (happened x s) here (happens n run.0 x.event (happened x s) run.3 fine) in
      record {
        network = stays ∙ below.network;
        state = p.ends ∙ ap (λ (h : Happened). h.state) one;
        entries =
            ap (λ (ts : List Turn). entries_of (earlier ++ ts) []) p.one
            ∙ entries_more earlier t []
            ∙ ap (λ (v : Event). entry v (happened t.entry t.after) ∷ entries_of earlier []) event
            ∙ ap (λ (h : Happened). entry x.event h ∷ entries_of earlier []) one
            ∙ ap (λ (l : List Entry). x ∷ l) below.entries;
      }

  -- nothing happened
  none_follows : (fs : List Entry) (s : Plant) (mid end : PlayedNetwork) (earlier turns : List Turn) → Follows n fs s earlier mid → end.network ≡ mid.network → end.state ≡ mid.state → turns ≡ [] → Follows n fs s (earlier ++ turns) end
  none_follows fs s mid end earlier turns below stays state none = record {
    network = stays ∙ below.network;
    state = state ∙ below.state;
    entries = ap (λ (ts : List Turn). entries_of (earlier ++ ts) []) none ∙ ap (λ (ts : List Turn). entries_of ts []) (append-nil earlier) ∙ below.entries;
  }

-- ---- what a line of events says

said_same : (o : Option (Option LineEvent)) (a b : LineEvent) → o ≡ Some (Some a) → o ≡ Some (Some b) → a ≡ b
said_same o a b p q = let same : Some (Some a) ≡ Some (Some b) = sym p ∙ q in cc

said_none : {X : Type 0} → (o : Option (Option LineEvent)) (a : LineEvent) → o ≡ Some (Some a) → o ≡ Some None → X
said_none o a p q = let same : Some (Some a) ≡ Some None = sym p ∙ q in cc

not_said : {X : Type 0} → (o : Option (Option LineEvent)) (a : Option LineEvent) → o ≡ Some a → o ≡ None → X
not_said o a p q = let same : Some a ≡ None = sym p ∙ q in cc

words_join : (words : List (List ℕ)) → AllByRecursion Printed words → Printed (joined words)
words_join [] all = refl
words_join (w ∷ []) all = all.0
words_join (w ∷ v ∷ words) all = printed_append w (32 ∷ joined (v ∷ words)) all.0 (words_join (v ∷ words) all.1)

are_printed : (words : List (List ℕ)) → AllByRecursion IsWord words → AllByRecursion Printed words
are_printed [] all = tt
are_printed (w ∷ words) all = (words_printed w all.0.bytes, are_printed words all.1)

module _ (says : LinesSayEvents) (n : NetworkParts) (obeyed : AreObeyed (rules_of n)) (k : ℕ) (few : k < 2 ^ 64) where
  pub said : (e : Told) → IsKnown n (event_of e) → IsSayable e → SaysEvent n k e
  said e known is = says n obeyed k few e (is_of n e known is)

  said_printed : (e : Told) → IsKnown n (event_of e) → IsSayable e → Printed (joined (event_words n.peers k e))
  said_printed e known is = words_join (event_words n.peers k e) (are_printed (event_words n.peers k e) (said e known is).line.each)

  empty_printed : (p : ℕ) → IsKnown n (event.Feed p []) → Printed (joined (event_words n.peers k (Receive p [])))
  empty_printed p known =
      let one : AllByRecursion Printed (event_words n.peers k (Receive p (0 ∷ []))) = are_printed (event_words n.peers k (Receive p (0 ∷ []))) (said (Receive p (0 ∷ [])) known ((omega arith, tt), omega arith)).line.each in
      words_join (event_words n.peers k (Receive p [])) (one.0, (one.1.0, (refl, tt)))

  pub line_printed : (e : Told) → IsKnown n (event_of e) → IsInRange e → Printed (joined (event_words n.peers k e))
  line_printed (Receive p []) known range = empty_printed p known
  line_printed (Receive p (b ∷ octets)) known range = said_printed (Receive p (b ∷ octets)) known (range, omega arith)
  line_printed (Load d g) known range = said_printed (Load d g) known (range, tt)
  line_printed (Open p h) known range = said_printed (Open p h) known (range, tt)
  line_printed (Shut p) known range = said_printed (Shut p) known (range, tt)
  line_printed (Take p) known range = said_printed (Take p) known (range, tt)
  line_printed (Carry a b) known range = said_printed (Carry a b) known (range, tt)
  line_printed (Break a b) known range = said_printed (Break a b) known (range, tt)
  line_printed (Solve d j) known range = said_printed (Solve d j) known (range, tt)
  line_printed (Tick t) known range = said_printed (Tick t) known (range, tt)
  line_printed (Drain p h) known range = said_printed (Drain p h) known (range, tt)

  one_said : {w : Option (Option LineEvent)} → (o p : Option LineEvent) → w ≡ Some o → w ≡ Some p → o ≡ p
  one_said o p is also = let same : Some o ≡ Some p = sym is ∙ also in cc

  -- where the line says anything, it says the event
  says_it : (e : Told) → IsKnown n (event_of e) → IsInRange e → (o : Option LineEvent) → line_in n (joined (event_words n.peers k e)) ≡ Some o → o ≡ Some (line_event k e)
  says_it (Receive p []) known range o is = not_said (line_in n (joined (event_words n.peers k (Receive p [])))) o is (empty_says n k p)
  says_it (Receive p (b ∷ octets)) known range o is = one_said o (Some (line_event k (Receive p (b ∷ octets)))) is (said (Receive p (b ∷ octets)) known (range, omega arith)).says
  says_it (Load d g) known range o is = one_said o (Some (line_event k (Load d g))) is (said (Load d g) known (range, tt)).says
  says_it (Open p h) known range o is = one_said o (Some (line_event k (Open p h))) is (said (Open p h) known (range, tt)).says
  says_it (Shut p) known range o is = one_said o (Some (line_event k (Shut p))) is (said (Shut p) known (range, tt)).says
  says_it (Take p) known range o is = one_said o (Some (line_event k (Take p))) is (said (Take p) known (range, tt)).says
  says_it (Carry a b) known range o is = one_said o (Some (line_event k (Carry a b))) is (said (Carry a b) known (range, tt)).says
  says_it (Break a b) known range o is = one_said o (Some (line_event k (Break a b))) is (said (Break a b) known (range, tt)).says
  says_it (Solve d j) known range o is = one_said o (Some (line_event k (Solve d j))) is (said (Solve d j) known (range, tt)).says
  says_it (Tick t) known range o is = one_said o (Some (line_event k (Tick t))) is (said (Tick t) known (range, tt)).says
  says_it (Drain p h) known range o is = one_said o (Some (line_event k (Drain p h))) is (said (Drain p h) known (range, tt)).says

-- ---- lines that are played

none_by : {X : Type 0} → (es : List Event) (e : Event) → [] ≡ es ++ e ∷ [] → X
none_by [] e is = cc
none_by (v ∷ es) e is = cc

snoc_same : (xs ys : List Event) (x y : Event) → xs ++ x ∷ [] ≡ ys ++ y ∷ [] → (xs ≡ ys) × (x ≡ y)
snoc_same xs ys x y is =
    let back : x ∷ reverse xs ≡ y ∷ reverse ys = sym (reverse-append xs (x ∷ [])) ∙ ap reverse is ∙ reverse-append ys (y ∷ []) in
    let first : x ≡ y = cc in
    let rest : reverse xs ≡ reverse ys = cc in
    (sym (reverse-reverse xs) ∙ ap reverse rest ∙ reverse-reverse ys, first)

pub known_front : (P : Told → Type 0) (es : List Told) (e : Told) → AllByRecursion P (es ++ e ∷ []) → AllByRecursion P es
known_front P [] e all = tt
known_front P (x ∷ es) e all = (all.0, known_front P es e all.1)

pub known_last : (P : Told → Type 0) (es : List Told) (e : Told) → AllByRecursion P (es ++ e ∷ []) → P e
known_last P [] e all = all.0
known_last P (x ∷ es) e all = known_last P es e all.1

module _ (says : LinesSayEvents) (n : NetworkParts) (network : IsNetwork n) (obeyed : AreObeyed (rules_of n)) (held : Files) (span : Option Span) (start : PlayedNetwork) (new : IsNewNetwork n start) where
  abbrev PlaysLines : List (List ℕ) → List Turn → List ℕ → PlayedNetwork → Type 0
  PlaysLines lines turns told end = Replays (Some held) span n start lines turns told end

  abbrev Passes : ℕ → List ℕ → PlayedNetwork → PlayedNetwork → List Turn → List ℕ → Type 0
  Passes number text mid end turns told = PassesLine (Some held) span n number text mid end turns told

  -- ---- what is shown

  shown_none : (fs : List Entry) (s : Plant) (number : ℕ) (mid end : PlayedNetwork) (earlier turns : List Turn) (answer : Answered) (told : List ℕ) → Follows n fs s earlier mid → end.network ≡ mid.network → PlaysNone number mid (Ok Done) answer turns told end.state
      → Follows n fs s (earlier ++ turns) end
  shown_none fs s number mid end earlier turns answer told below stays p = none_follows n network fs s mid end earlier turns below stays p.ends p.no_turn

  shown_line : (fs : List Entry) (s : Plant) (text : List ℕ) (number : ℕ) (mid end : PlayedNetwork) (earlier turns : List Turn) (told : List ℕ) → (line_in n text ≡ Some (Some line.CertifyOn)) ⊎ (line_in n text ≡ Some (Some line.DiscloseOn)) → Follows n fs s earlier mid
      → Passes number text mid end turns told → Follows n fs s (earlier ++ turns) end
  shown_line fs s text number mid end earlier turns told (inl is) below (inl p) = said_none (line_in n text) line.CertifyOn is p.says
  shown_line fs s text number mid end earlier turns told (inr is) below (inl p) = said_none (line_in n text) line.DiscloseOn is p.says
  shown_line fs s text number mid end earlier turns told (inl is) below (inr p) =
      shown_none fs s p.cue.number mid end earlier turns p.answer p.said below p.plays.network
      (subst (λ (e : LineEvent). Plays p.cue.number mid e p.cue.file p.answer turns p.said end.state) (said_same (line_in n text) p.cue.event line.CertifyOn p.is_cue.says is) p.plays.plays)
  shown_line fs s text number mid end earlier turns told (inr is) below (inr p) =
      shown_none fs s p.cue.number mid end earlier turns p.answer p.said below p.plays.network
      (subst (λ (e : LineEvent). Plays p.cue.number mid e p.cue.file p.answer turns p.said end.state) (said_same (line_in n text) p.cue.event line.DiscloseOn p.is_cue.says is) p.plays.plays)

  front_plays : (front : List (List ℕ)) → AreShowing n front → (turns : List Turn) (told : List ℕ) (end : PlayedNetwork) → PlaysLines front turns told end → Follows n [] start.state turns end
  front_plays [] shows turns told end r = record {
    network = ap (λ (x : PlayedNetwork). x.network) r.2 ∙ new.network;
    state = ap (λ (x : PlayedNetwork). x.state) r.2;
    entries = ap (λ (ts : List Turn). entries_of ts []) r.0;
  }
  front_plays (text ∷ front) shows turns told end r =
      subst (λ (ts : List Turn). Follows n [] start.state ts end) (sym r.turns_are)
      (shown_line [] start.state (strip_carriage_return text) (length front + 1) r.mid end r.earlier r.first r.more shows.0 (front_plays front shows.1 r.earlier r.before r.mid r.others) r.passes)

  -- ---- comments and events

  passed_follows : (fs : List Entry) (s : Plant) (text : List ℕ) (mid end : PlayedNetwork) (earlier turns : List Turn) (told : List ℕ) → Follows n fs s earlier mid → IsPassed n text mid end turns told → Follows n fs s (earlier ++ turns) end
  passed_follows fs s text mid end earlier turns told below p =
      none_follows n network fs s mid end earlier turns below (ap (λ (x : PlayedNetwork). x.network) p.state) (ap (λ (x : PlayedNetwork). x.state) p.state) p.no_turns

  remark_follows : (fs : List Entry) (s : Plant) (text : List ℕ) (number : ℕ) (mid end : PlayedNetwork) (earlier turns : List Turn) (told : List ℕ) → line_in n text ≡ Some None → Follows n fs s earlier mid → Passes number text mid end turns told → Follows n fs s (earlier ++ turns) end
  remark_follows fs s text number mid end earlier turns told is below (inl p) = passed_follows fs s text mid end earlier turns told below p
  remark_follows fs s text number mid end earlier turns told is below (inr p) = said_none (line_in n text) p.cue.event p.is_cue.says is

  module _ (k : ℕ) (e : Told) (fine : IsFineLine held k e) (known : IsKnown n (event_of e)) (x : Entry) (fs : List Entry) (s : Plant) (run : Run wire n (x ∷ fs) s) (accepted : is_accepted x.answer ≡ true) (is : x.event ≡ event_of e) where
    abbrev text : List ℕ
    text = joined (event_words n.peers k e)

    some_same : (a b : LineEvent) → (let p : Option LineEvent = Some a in let q : Option LineEvent = Some b in p ≡ q) → a ≡ b
    some_same a b eq = cc

    said_nothing : {X : Type 0} → (a : LineEvent) → (let p : Option LineEvent = None in let q : Option LineEvent = Some a in p ≡ q) → X
    said_nothing a eq = cc

    event_follows : (number : ℕ) (mid end : PlayedNetwork) (earlier turns : List Turn) (told : List ℕ) → Follows n fs run.0 earlier mid → Passes number text mid end turns told → Follows n (x ∷ fs) s (earlier ++ turns) end
    event_follows number mid end earlier turns told below (inl p) = said_nothing (line_event k e) (says_it says n obeyed k fine.few e known fine.in_range None p.says)
    event_follows number mid end earlier turns told below (inr p) =
        let same : p.cue.event ≡ line_event k e = some_same p.cue.event (line_event k e) (says_it says n obeyed k fine.few e known fine.in_range (Some p.cue.event) p.is_cue.says) in
        let has : HasText (Some held) (file_name (line_event k e)) p.cue.file = subst (λ (v : LineEvent). HasText (Some held) (file_name v) p.cue.file) same p.is_cue.has in
        let plays : Plays p.cue.number mid (line_event k e) p.cue.file p.answer turns p.said end.state = subst (λ (v : LineEvent). Plays p.cue.number mid v p.cue.file p.answer turns p.said end.state) same p.plays.plays in
        one_follows n network x fs s run accepted (event_of e) is p.cue.number mid end earlier turns p.answer p.said below p.plays.network
        (plays_event held p.cue.number mid p.answer turns p.said p.cue.file end.state k e fine.filed has plays)

    stripped : (number : ℕ) (mid end : PlayedNetwork) (earlier turns : List Turn) (told : List ℕ) → Follows n fs run.0 earlier mid → Passes number (strip_carriage_return text) mid end turns told → Follows n (x ∷ fs) s (earlier ++ turns) end
    stripped number mid end earlier turns told below passes =
        event_follows number mid end earlier turns told below
        (subst (λ (l : List ℕ). Passes number l mid end turns told) (printed_stays text (line_printed says n obeyed k fine.few e known fine.in_range)) passes)

  -- ---- the lines of items

  module _ (front : List (List ℕ)) (shows : AreShowing n front) where
    empty_follows : (fs : List Entry) (s : Plant) → Run wire n fs s → [] ≡ events_by fs → (turns : List Turn) (end : PlayedNetwork) → Follows n [] start.state turns end → Follows n fs s turns end
    empty_follows [] s run none turns end below = record { network = below.network; state = below.state ∙ new.run ∙ sym run; entries = below.entries }
    empty_follows (x ∷ fs) s run none turns end below = none_by (events_by fs) x.event none

    pub items_follow : (items : List Item) → AllFine held items → AllByRecursion (λ (e : Told). IsKnown n (event_of e)) (events_in items) → (fs : List Entry) (s : Plant) → Run wire n fs s → AreAccepted fs → map event_of (events_in items) ≡ events_by fs
        → (turns : List Turn) (told : List ℕ) (end : PlayedNetwork) → PlaysLines (lines_of n.peers items ++ front) turns told end → Follows n fs s turns end
    items_follow [] fine known fs s run accepted are turns told end r = empty_follows fs s run are turns end (front_plays front shows turns told end r)
    items_follow (Comment c ∷ items) fine known fs s run accepted are turns told end r =
        subst (λ (ts : List Turn). Follows n fs s ts end) (sym r.turns_are)
        (remark_follows fs s (strip_carriage_return c) _ r.mid end r.earlier r.first r.more (remark_says n c fine.0) (items_follow items fine.1 known fs s run accepted are r.earlier r.before r.mid r.others) r.passes)
    items_follow (Line e ∷ items) fine known [] s run accepted are turns told end r = none_by (map event_of (events_in items)) (event_of e) (sym are ∙ map-append event_of (events_in items) (e ∷ []))
    items_follow (Line e ∷ items) fine known (x ∷ fs) s run accepted are turns told end r =
        let P : Told → Type 0 = λ (v : Told). IsKnown n (event_of v) in
        let apart : (events_by fs ≡ map event_of (events_in items)) × (x.event ≡ event_of e) = snoc_same (events_by fs) (map event_of (events_in items)) x.event (event_of e) (sym are ∙ map-append event_of (events_in items) (e ∷ [])) in
        subst (λ (ts : List Turn). Follows n (x ∷ fs) s ts end) (sym r.turns_are)
        (stripped (load_count (events_in items ++ e ∷ [])) e fine.0 (known_last P (events_in items) e known) x fs s run accepted.0 apart.1 _ r.mid end r.earlier r.first r.more
        (items_follow items fine.1 (known_front P (events_in items) e known) fs run.0 run.1 accepted.1 (sym apart.0) r.earlier r.before r.mid r.others) r.passes)
