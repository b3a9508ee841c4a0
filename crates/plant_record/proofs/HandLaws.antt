-- The hands of a record, one behind the other.
use Rattle.std.proofs.Common.{◌≡◌, ◌≢◌, ℕ, ◌+◌, ◌≤◌, List, [], ◌∷◌, ◌++◌, length, append_assoc, append-nil, Option, Some, Result, Ok, Err, refl, sym, ap, subst, ◌∙◌, arith, inl, inr, length-append}
use Rattle.std.proofs.lemmas.List.Concat.{flat_map-append}
use Rattle.dom_edge.specs.Folders.{Contents}
use Rattle.plant_text.specs.declared.settings.PeerRow.{PeerRow}
use Rattle.event_tape.specs.declared.told.Told.{Told}
use Rattle.event_tape.specs.declared.tape.Handed.{Handed}
use Rattle.event_tape.specs.declared.tape.TapeEnd.{TapeEnd}
use Rattle.plant_record.specs.Parts.{Title}
use Rattle.plant_record.specs.Standing.{After, ScriptState, Stands}
use Rattle.plant_record.specs.Faults.{IsJudged}
use Rattle.event_tape.specs.Hands.{AreWhole, told_of}
use Rattle.plant_record.specs.Hands.{Goes, Hands}
use Rattle.plant_record.specs.Recording.{Had, HasCause, IsEndBy, IsStray, Reaches, Records, TellsEnd}
use Rattle.plant_record.specs.Steps.{Counts, GoesOn, IsHandTaken, end_of}
use Rattle.plant_record.specs.declared.fault.Fault.{Fault as WhyFault}
use Rattle.plant_record.specs.declared.recorded.Recorded.{Recorded}
use Rattle.plant_record.specs.declared.recorded.Recorded.TheVariants.{Ended, Turns, Spent, Lost, Fault}
use Rattle.plant_record.proofs.Reasons.{reason_wider}

-- ---- hands

told_append : (xs ys : List Handed) → told_of (xs ++ ys) ≡ told_of xs ++ told_of ys
told_append xs ys = flat_map-append (λ (h : Handed). h.items) xs ys

told_one : (h : Handed) → told_of (h ∷ []) ≡ h.items
told_one h = append-nil h.items

whole_append : (n : ℕ) (xs ys : List Handed) → AreWhole n xs → AreWhole (n + length (told_of xs)) ys → AreWhole n (xs ++ ys)
whole_append n [] ys first second = let same : n + 0 ≡ n = omega arith in subst (λ (k : ℕ). AreWhole k ys) same second
whole_append n (x ∷ xs) ys first second =
    let same : n + length (told_of (x ∷ xs)) ≡ (n + length x.items) + length (told_of xs) = omega (arith, length-append x.items (told_of xs)) in
    (first.0, whole_append (n + length x.items) xs ys first.1 (subst (λ (k : ℕ). AreWhole k ys) same second))

tells_behind : (xs ys : List Handed) (why : TapeEnd) → TellsEnd ys why → TellsEnd (xs ++ ys) why
tells_behind xs ys why (front, last, is, tells) = (xs ++ front, last, ap (λ (hs : List Handed). xs ++ hs) is ∙ sym (append_assoc xs front (last ∷ [])), tells)

module _ {F : Type 0} (written : F → Option (List ℕ)) (faults : F → ℕ) (peers : List PeerRow) where
  abbrev S : Type 0
  S = ScriptState F

  -- so many hands so far, each of which is written
  pub record IsRunning (before now turns : ℕ) (old new : Hands) (s u : S) (c d : Option Contents) : Type 0 where
    pub hands : List Handed
    pub handed : new.hands ≡ old.hands ++ hands
    pub are_whole : AreWhole s.events hands
    pub count : length hands ≡ turns
    pub events : u.events ≡ s.events + length (told_of hands)
    pub later : before ≤ now
    pub comes : GoesOn written peers Turns s u c d (told_of hands)

  pub none_run : (n : ℕ) (old : Hands) (s : S) (c : Option Contents) → IsRunning n n 0 old old s s c c
  none_run n old s c = record {
    hands = [];
    handed = sym (append-nil old.hands);
    are_whole = tt;
    count = refl;
    events = omega arith;
    later = omega arith;
    comes = λ t before st. subst (λ (es : List Told). Stands written peers t es s c) (sym (append-nil before)) st;
  }

  -- what a turn does
  abbrev pub IsTurn : Result (List Told) Recorded → ℕ → ℕ → Hands → Hands → S → S → Option Contents → Option Contents → Type 0
  IsTurn result before now old new s u c d = Records faults before now 1 s.events (end_of result) old new (λ more. Counts result s.events u.events more × GoesOn written peers (end_of result) s u c d more)

  goes_behind : (end : Recorded) (s u v : S) (c d x : Option Contents) (more last : List Told) → GoesOn written peers Turns s u c d more → GoesOn written peers end u v d x last → GoesOn written peers end s v c x (more ++ last)
  goes_behind end s u v c d x more last first second t before st =
      subst (λ (es : List Told). Reaches written peers t es end v x) (append_assoc before more last) (second t (before ++ more) (first t before st))

  pub one_run : (y : List Told) (before mid now n : ℕ) (old new after : Hands) (s u v : S) (c d x : Option Contents) → IsRunning before mid n old new s u c d → IsTurn (Ok y) mid now new after u v d x → IsRunning before now (n + 1) old after s v c x
  one_run y before mid now n old new after s u v c d x r turn =
      let all : List Handed = turn.hands in
      let here : after.hands ≡ new.hands ++ all = turn.handed ∙ ap (λ (hs : List Handed). new.hands ++ (all ++ hs)) turn.cause.0 ∙ ap (λ (hs : List Handed). new.hands ++ hs) (append-nil all) in
      record {
        hands = r.hands ++ all;
        handed = here ∙ ap (λ (hs : List Handed). hs ++ all) r.handed ∙ append_assoc old.hands r.hands all;
        are_whole = whole_append s.events r.hands all r.are_whole (subst (λ (k : ℕ). AreWhole k all) r.events turn.are_whole);
        count = omega (arith, length-append r.hands all, r.count, turn.cause.1);
        events = omega (arith, turn.comes.0, r.events, length-append (told_of r.hands) (told_of all), ap (λ (es : List Told). length es) (told_append r.hands all));
        later = omega (arith, r.later, turn.later);
        comes = subst (λ (es : List Told). GoesOn written peers Turns s v c x es) (sym (told_append r.hands all)) (goes_behind Turns s u v c d x (told_of r.hands) (told_of all) r.comes turn.comes.1);
      }

  -- why it ends, behind the hands so far
  cause_behind : (before mid now n turns events : ℕ) (end : Recorded) (hands more stray : List Handed) (spent : Option ℕ) → before ≤ mid → end ≢ Turns
      → HasCause faults mid now 1 (record { events = events + length (told_of hands); hands = more; stray = stray; spent = spent }) end
      → HasCause faults before now turns (record { events = events; hands = hands ++ more; stray = stray; spent = spent }) end
  cause_behind before mid now n turns events (Ended why) hands more stray spent low other is = (is.0, tells_behind hands more why is.1)
  cause_behind before mid now n turns events Turns hands more stray spent low other is = absurd (other refl)
  cause_behind before mid now n turns events (Spent t) hands more stray spent low other is = is
  cause_behind before mid now n turns events Lost hands more stray spent low other is =
      let same : (events + length (told_of hands)) + length (told_of more) ≡ events + length (told_of (hands ++ more)) = omega (arith, length-append (told_of hands) (told_of more), ap (λ (es : List Told). length es) (told_append hands more)) in
      subst (λ (k : ℕ). IsStray k stray) same is
  cause_behind before mid now n turns events (Fault fault) hands more stray spent low other is = reason_wider faults before mid now now fault low (omega arith) is

  pub run_ends : (before mid now n turns : ℕ) (end : Recorded) (old new after : Hands) (s u v : S) (c d x : Option Contents) → end ≢ Turns → IsRunning before mid n old new s u c d → IsTurn (Err end) mid now new after u v d x
      → Records faults before now turns s.events end old after (GoesOn written peers end s v c x)
  run_ends before mid now n turns end old new after s u v c d x other r turn =
      let all : List Handed = turn.hands in
      record {
        hands = r.hands ++ all;
        stray = turn.stray;
        handed = turn.handed ∙ ap (λ (hs : List Handed). hs ++ (all ++ turn.stray)) r.handed ∙ append_assoc old.hands r.hands (all ++ turn.stray) ∙ ap (λ (hs : List Handed). old.hands ++ hs) (sym (append_assoc r.hands all turn.stray));
        are_whole = whole_append s.events r.hands all r.are_whole (subst (λ (k : ℕ). AreWhole k all) r.events turn.are_whole);
        later = omega (arith, r.later, turn.later);
        cause = cause_behind before mid now n turns s.events end r.hands all turn.stray after.spent r.later other (subst (λ (k : ℕ). HasCause faults mid now 1 (record { events = k; hands = all; stray = turn.stray; spent = after.spent }) end) r.events turn.cause);
        comes = subst (λ (es : List Told). GoesOn written peers end s v c x es) (sym (told_append r.hands all)) (goes_behind end s u v c d x (told_of r.hands) (told_of all) r.comes turn.comes.1);
      }

  pub run_out : (before now turns : ℕ) (old new : Hands) (s u : S) (c d : Option Contents) → IsRunning before now turns old new s u c d → Records faults before now turns s.events Turns old new (GoesOn written peers Turns s u c d)
  run_out before now turns old new s u c d r = record {
    hands = r.hands;
    stray = [];
    handed = r.handed ∙ ap (λ (hs : List Handed). old.hands ++ hs) (sym (append-nil r.hands));
    are_whole = r.are_whole;
    later = r.later;
    cause = (refl, r.count);
    comes = r.comes;
  }

  -- ---- one turn

  pub spent_turn : (n k : ℕ) (old new : Hands) (s : S) (c : Option Contents) → Goes old new (Err k) → IsTurn (Err (Spent k)) n n old new s s c c
  spent_turn n k old new s c goes = record {
    hands = [];
    stray = [];
    handed = goes.0 ∙ sym (append-nil old.hands);
    are_whole = tt;
    later = omega arith;
    cause = (refl, goes.1);
    comes = (tt, λ t before st. subst (λ (es : List Told). Stands written peers t es s c) (sym (append-nil before)) st);
  }

  -- a hand that is written
  told_turn : (result : Result (List Told) Recorded) (before now : ℕ) (old new : Hands) (s u : S) (c d : Option Contents) (h : Handed) → Goes old new (Ok h) → h.before ≡ s.events → before ≤ now
      → HasCause faults before now 1 (record { events = s.events; hands = h ∷ []; stray = []; spent = new.spent }) (end_of result)
      → Counts result s.events u.events h.items → GoesOn written peers (end_of result) s u c d h.items → IsTurn result before now old new s u c d
  told_turn result before now old new s u c d h goes here later cause counts on = record {
    hands = h ∷ [];
    stray = [];
    handed = goes.0;
    are_whole = (here, tt);
    later = later;
    cause = cause;
    comes = (
      subst (λ (es : List Told). Counts result s.events u.events es) (sym (told_one h)) counts,
      subst (λ (es : List Told). GoesOn written peers (end_of result) s u c d es) (sym (told_one h)) on,
    );
  }

  stray_turn : (before now : ℕ) (old new : Hands) (s u : S) (c d : Option Contents) (h : Handed) → Goes old new (Ok h) → h.before ≢ s.events → before ≤ now → GoesOn written peers Lost s u c d [] → IsTurn (Err Lost) before now old new s u c d
  stray_turn before now old new s u c d h goes other later on = record {
    hands = [];
    stray = h ∷ [];
    handed = goes.0;
    are_whole = tt;
    later = later;
    cause = (h, refl, λ same. other (same ∙ none s.events));
    comes = (tt, on);
  }
    where
      none : (n : ℕ) → n + 0 ≡ n
      none n = omega arith

  pub hand_turn : (result : Result (List Told) Recorded) (before now : ℕ) (old new : Hands) (s u : S) (c d : Option Contents) (h : Handed) → Goes old new (Ok h) → IsHandTaken faults before now h s.events u.events result (λ end. GoesOn written peers end s u c d) → IsTurn result before now old new s u c d
  hand_turn (Ok items) before now old new s u c d h goes (here, later, low, on) = told_turn (Ok items) before now old new s u c d h goes here low (refl, refl) later on
  hand_turn (Err Lost) before now old new s u c d h goes (other, low, on) = stray_turn before now old new s u c d h goes other low on
  hand_turn (Err (Ended why)) before now old new s u c d h goes (here, ended, low, on) = told_turn (Err (Ended why)) before now old new s u c d h goes here low (refl, ([], h, refl, ended)) tt on
  hand_turn (Err (Fault fault)) before now old new s u c d h goes (here, reason, low, on) = told_turn (Err (Fault fault)) before now old new s u c d h goes here low reason tt on
  hand_turn (Err Turns) before now old new s u c d h goes is = absurd is
  hand_turn (Err (Spent k)) before now old new s u c d h goes is = absurd is

  -- ---- a hand

  -- nothing of it is told
  pub lost_hand : (n later : ℕ) (s u : S) (c d : Option Contents) (h : Handed) → h.before ≢ s.events → u ≡ s → d ≡ c → IsHandTaken faults n n h s.events later (Err Lost) (λ end. GoesOn written peers end s u c d)
  lost_hand n later s u c d h other same stays = (
    other,
    omega arith,
    λ t before st. subst (λ (es : List Told). Stands written peers t es u d) (sym (append-nil before)) (subst (λ (x : Option Contents). Stands written peers t before u x) (sym stays) (subst (λ (v : S). Stands written peers t before v c) (sym same) st)),
  )

  -- what its events make of the script
  abbrev pub Writes : Result (Unit {0}) WhyFault → List Told → S → S → Option Contents → Option Contents → Type 0
  Writes result items s u c d = (t : Title) (before : List Told) → Stands written peers t before s c → After written peers t (before ++ items) result u d

  pub hand_faults : (before now later : ℕ) (s u : S) (c d : Option Contents) (h : Handed) (fault : WhyFault) → h.before ≡ s.events → IsJudged {F = F} {X = Unit {0}} faults before now (Err fault) → Writes (Err fault) h.items s u c d
      → IsHandTaken faults before now h s.events later (Err (Fault fault)) (λ end. GoesOn written peers end s u c d)
  hand_faults before now later s u c d h fault here judged writes = (here, judged.1, judged.0, writes)

  pub hand_ends : (before now later : ℕ) (s u : S) (c d : Option Contents) (h : Handed) (why : TapeEnd) → h.before ≡ s.events → h.ended ≡ Some why → before ≤ now → Writes (Ok tt) h.items s u c d
      → IsHandTaken faults before now h s.events later (Err (Ended why)) (λ end. GoesOn written peers end s u c d)
  hand_ends before now later s u c d h why here ended low writes = (here, ended, low, writes)

  pub hand_goes : (before now : ℕ) (s u : S) (c d : Option Contents) (h : Handed) → h.before ≡ s.events → u.events ≡ s.events + length h.items → before ≤ now → Writes (Ok tt) h.items s u c d
      → IsHandTaken faults before now h s.events u.events (Ok h.items) (λ end. GoesOn written peers end s u c d)
  hand_goes before now s u c d h here counted low writes = (here, counted, low, writes)

  pub never_turns : (result : Result (List Told) Recorded) (before now : ℕ) (h : Handed) (events later : ℕ) (Then : Recorded → List Told → Type 0) → IsHandTaken faults before now h events later result Then → result ≢ Err Turns
  never_turns (Ok items) before now h events later Then is same = absurd (let no : Ok items ≡ Err Turns = same in cc)
  never_turns (Err Lost) before now h events later Then is same = absurd (let no : Lost ≡ Turns = cc in cc)
  never_turns (Err (Ended why)) before now h events later Then is same = absurd (let no : Ended why ≡ Turns = cc in cc)
  never_turns (Err (Fault fault)) before now h events later Then is same = absurd (let no : Fault fault ≡ Turns = cc in cc)
  never_turns (Err Turns) before now h events later Then is same = absurd is
  never_turns (Err (Spent k)) before now h events later Then is same = absurd is

  -- ---- the end

  cause_after : (before mid now turns : ℕ) (x : Had) (end result : Recorded) → before ≤ mid → HasCause faults before mid turns x end → IsEndBy faults mid now end result → HasCause faults before now turns x result
  cause_after before mid now turns x end result low is (later, inl same) = subst (λ (r : Recorded). HasCause faults before now turns x r) (sym same) (wider end is)
    where
      wider : (end : Recorded) → HasCause faults before mid turns x end → HasCause faults before now turns x end
      wider (Ended why) is = is
      wider Turns is = is
      wider (Spent t) is = is
      wider Lost is = is
      wider (Fault fault) is = reason_wider faults before before mid now fault (omega arith) later is
  cause_after before mid now turns x end result low is (later, inr (fault, same, reason)) = subst (λ (r : Recorded). HasCause faults before now turns x r) (sym same) (reason_wider faults before mid now now fault low (omega arith) reason)

  pub recorded : (before mid now turns events : ℕ) (end result : Recorded) (old new : Hands) (First Last : List Told → Type 0) → Records faults before mid turns events end old new First → IsEndBy faults mid now end result → ((more : List Told) → First more → Last more)
      → Records faults before now turns events result old new Last
  recorded before mid now turns events end result old new First Last r by after = record {
    hands = r.hands;
    stray = r.stray;
    handed = r.handed;
    are_whole = r.are_whole;
    later = omega (arith, r.later, by.0);
    cause = cause_after before mid now turns (record { events = events; hands = r.hands; stray = r.stray; spent = new.spent }) end result r.later r.cause by;
    comes = after (told_of r.hands) r.comes;
  }
