-- What an event answers: octets where it drains, and else none. So what is told of turns is what is told of their entries.
use Rattle.std.proofs.Common.{◌≡◌, ◌∙◌, ℕ, Bool, true, false, cond, not, ◌==◌, length, List, [], ◌∷◌, ◌++◌, map, Option, Some, None, is_some, Ok, Err, refl, sym, ap, ap₂, subst, inl, inr, append_assoc, append-nil, arith}
use Rattle.std.specs.List.{cons_option}
use Rattle.std.proofs.lemmas.Bool.{ne_eqb}
use Rattle.std.proofs.lemmas.List.{map-append}
use Rattle.disclosure.specs.Shown.{open_of}
use Rattle.te_links.specs.Rows.{Rows}
use Rattle.plant_text.specs.declared.settings.NetworkParts.{NetworkParts}
use Rattle.plant_text.specs.Settings.{is_element, is_linked, peer_row}
use Rattle.plant_network.specs.plant_model.Types.{As}
use Rattle.plant_network.specs.plant_model.declared.event.Event.{Event}
use Rattle.plant_network.specs.plant_model.declared.event.Event.TheVariants as event
use Rattle.plant_network.specs.plant_model.declared.outcome.Outcome.{Outcome}
use Rattle.plant_network.specs.plant_model.declared.outcome.Outcome.TheVariants.{Done, Loaded, Drained}
use Rattle.plant_network.specs.plant_model.declared.outcome.Refused.{Refused}
use Rattle.plant_network.specs.plant_model.Names.{is_empty}
use Rattle.plant_network.specs.plant_model.Wire.{Bytes, Codec}
use Rattle.plant_network.specs.plant_model.State.{Connection}
use Rattle.plant_network.specs.plant_model.Events as events
use Rattle.plant_network.specs.plant_model.Events.{Answered}
use Rattle.plant_network.specs.plant_model.Plant.{Entry, Happened, Happens, Pin, Plant, Run, Segment, Steps, is_full, load, load_new}
use Rattle.plant_network.specs.plant_model.RealWire.{wire}
use Rattle.plant_network.specs.Histories.{done_by, event_of, events_of}
use Rattle.plant_network.specs.declared.acts.Act.{Act}
use Rattle.plant_network.specs.declared.acts.Act.TheVariants.{Do, Look, Ready, Next, Finish, Map}
use Rattle.plant_network.specs.declared.acts.Acted.{Acted}
use Rattle.plant_network.specs.declared.acts.Acted.TheVariants as acted
use Rattle.plant_network.specs.declared.acts.Acted.TheVariants.{Did, Looked, Found, Committed, Mapped}
use Rattle.plant_network.specs.declared.acts.ActAnswer.{ActAnswer}
use Rattle.plant_lock.specs.History.{Legal}
use Rattle.plant_network.specs.Turns.{Admits, Allowed, IsAnswer, left_by, solve_of}
use Rattle.plant_network.specs.Whole.{Whole}
use Rattle.kept_plant.specs.Tellings.{tellings, tells, told_event}
use Rattle.told_laws.specs.Telling.{is_told, told}
use Rattle.record_laws.specs.Days.{events_by}

-- ---- what is answered

-- octets are what drains answer, and they alone
abbrev pub Shape : Event → Answered → Type 0
Shape (event.Drain i holder) (Ok (Drained octets ended)) = Unit {0}
Shape (event.Drain i holder) (Ok o) = ⊥
Shape e (Ok (Drained octets ended)) = ⊥
Shape e r = Unit {0}

refusal : (e : Event) (why : Refused) → Shape e (Err why)
refusal (event.Drain i holder) why = tt
refusal e why = tt

module _ (c : Codec) (n : NetworkParts) where
  abbrev Fits : Event → Happened → Type 0
  Fits e h = Shape e h.answer

  pick : (e : Event) (b : Bool) (h k : Happened) → Fits e h → Fits e k → Fits e (cond b h k)
  pick e true h k x y = x
  pick e false h k x y = y

  load_fits : (d : As) (g : Rows) (s : Plant) → Fits (event.Load d g) (load c n d g s)
  load_fits d g s =
      pick (event.Load d g) (is_element n d) _ _
      (pick (event.Load d g) (is_full (s.current d).number (s.elements d).pending.rows) _ (load_new c n d g s) tt tt) tt

  open_fits : (j holder : ℕ) (s : Plant) → Fits (event.Open j holder) (events.open_peer Pin Segment c n open_of j holder s)
  open_fits j holder s = pick (event.Open j holder) (is_some (peer_row j n.peers)) _ _ (go (s.accesses j).connection) tt
    where
      go : (o : Option Connection) → Fits (event.Open j holder) (events.open_new Pin Segment c n open_of j holder s o)
      go None = tt
      go (Some x) = tt

  shut_fits : (j : ℕ) (s : Plant) → Fits (event.Shut j) (events.shut Pin Segment c n open_of j s)
  shut_fits j s = go (s.accesses j).connection
    where
      go : (o : Option Connection) → Fits (event.Shut j) (events.shut_open Pin Segment c n open_of j s o)
      go None = tt
      go (Some x) = tt

  feed_fits : (j : ℕ) (bytes : Bytes) (s : Plant) → Fits (event.Feed j bytes) (events.feed Pin Segment c n open_of j bytes s)
  feed_fits j bytes s = go (s.accesses j).connection
    where
      go : (o : Option Connection) → Fits (event.Feed j bytes) (events.feed_open Pin Segment c n open_of j bytes s o)
      go None = tt
      go (Some x) = tt

  take_fits : (j : ℕ) (s : Plant) → Fits (event.Take j) (events.take Pin Segment c n open_of j s)
  take_fits j s = go (s.accesses j).connection
    where
      item : (inbox : List (Option Bytes)) → Fits (event.Take j) (events.take_item Pin Segment c n open_of j s inbox)
      item [] = tt
      item (x ∷ rest) = tt

      go : (o : Option Connection) → Fits (event.Take j) (events.take_open Pin Segment c n open_of j s o)
      go None = tt
      go (Some x) = item x.inbox

  carry_fits : (a b : As) (s : Plant) → Fits (event.Carry a b) (events.carry Pin Segment c n open_of a b s)
  carry_fits a b s = pick (event.Carry a b) (is_linked n a b) _ _ (go (s.queues a b)) tt
    where
      go : (q : List Bytes) → Fits (event.Carry a b) (events.carry_first Pin Segment c n open_of a b s q)
      go [] = tt
      go (x ∷ rest) = tt

  break_fits : (a b : As) (s : Plant) → Fits (event.Break a b) (events.break Pin Segment c n open_of a b s)
  break_fits a b s = pick (event.Break a b) (is_linked n a b) _ _ tt tt

  drain_fits : (j holder : ℕ) (s : Plant) → Fits (event.Drain j holder) (events.drain Pin Segment c n open_of j holder s)
  drain_fits j holder s = go (s.accesses j).connection
    where
      go : (o : Option Connection) → Fits (event.Drain j holder) (events.drain_open Pin Segment c n open_of j holder s o)
      go None = tt
      go (Some x) = pick (event.Drain j holder) (x.holder == holder) _ _ tt tt

  happens_fits : (s : Plant) (e : Event) (h : Happened) → Happens c n s e h → Fits e h
  happens_fits s (event.Load d g) h is = subst (Fits (event.Load d g)) (sym is) (load_fits d g s)
  happens_fits s (event.Open j holder) h is = subst (Fits (event.Open j holder)) (sym is) (open_fits j holder s)
  happens_fits s (event.Shut j) h is = subst (Fits (event.Shut j)) (sym is) (shut_fits j s)
  happens_fits s (event.Feed j bytes) h is = subst (Fits (event.Feed j bytes)) (sym is) (feed_fits j bytes s)
  happens_fits s (event.Take j) h is = subst (Fits (event.Take j)) (sym is) (take_fits j s)
  happens_fits s (event.Carry a b) h is = subst (Fits (event.Carry a b)) (sym is) (carry_fits a b s)
  happens_fits s (event.Break a b) h is = subst (Fits (event.Break a b)) (sym is) (break_fits a b s)
  happens_fits s (event.Tick t) h is = subst (Fits (event.Tick t)) (sym is) tt
  happens_fits s (event.Drain j holder) h is = subst (Fits (event.Drain j holder)) (sym is) (drain_fits j holder s)
  happens_fits s (event.Solve d k) h (inl none) = subst (Fits (event.Solve d k)) (sym none.1) tt
  happens_fits s (event.Solve d k) h (inr (inl none)) = subst (Fits (event.Solve d k)) (sym none.2) tt
  happens_fits s (event.Solve d k) h (inr (inr (inl solves))) = subst (Fits (event.Solve d k)) (sym solves.1.is) tt
  happens_fits s (event.Solve d k) h (inr (inr (inr solves))) = subst (Fits (event.Solve d k)) (sym solves.2.is) tt

  steps_fit : (s : Plant) (e : Event) (h : Happened) → Steps c n s e h → Fits e h
  steps_fit s e h (inl is) = happens_fits s e h is
  steps_fit s e h (inr none) = subst (Fits e) (sym none.1) (refusal e _)

-- all events of a list, each with its answer
abbrev pub AllFit : List (Event × Answered) → Type 0
AllFit [] = Unit {0}
AllFit (p ∷ ps) = Shape p.0 p.1 × AllFit ps

pub run_fits : (n : NetworkParts) (es : List Entry) (s : Plant) → Run wire n es s → AllFit (map done_by es)
run_fits n [] s run = tt
run_fits n (e ∷ es) s run = (steps_fit wire n run.0 e.event (record { answer = e.answer; state = s; deeds = e.deeds }) run.3, run_fits n es run.0 run.1)

fit_front : (ps qs : List (Event × Answered)) → AllFit (ps ++ qs) → AllFit ps
fit_front [] qs all = tt
fit_front (p ∷ ps) qs all = (all.0, fit_front ps qs all.1)

fit_back : (ps qs : List (Event × Answered)) → AllFit (ps ++ qs) → AllFit qs
fit_back [] qs all = all
fit_back (p ∷ ps) qs all = fit_back ps qs all.1

-- ---- what is told of it

is_nothing : (octets : List ℕ) → is_empty octets ≡ (length octets == 0)
is_nothing [] = refl
is_nothing (x ∷ octets) = sym (ne_eqb (length (x ∷ octets)) 0 (λ e. absurd (omega arith)))

-- of an answer to an event, and of the answer of a turn
agrees : (e : Event) (r : Answered) → Shape e r → is_told e r ≡ tells (Did r)
agrees (event.Drain i holder) (Ok (Drained octets ended)) is = ap not (is_nothing octets)
agrees (event.Drain i holder) (Ok Done) is = absurd is
agrees (event.Drain i holder) (Ok (Loaded k)) is = absurd is
agrees e (Ok (Drained octets ended)) is = absurd is
agrees e (Ok Done) is = refl
agrees e (Ok (Loaded k)) is = refl
agrees e (Err why) is = refl

abbrev one_if : Bool → Event → List Event
one_if b e = cond b (e ∷ []) []

-- the events that are told, the oldest first
abbrev told_pairs : List (Event × Answered) → List Event
told_pairs [] = []
told_pairs (p ∷ older) = told_pairs older ++ one_if (is_told p.0 p.1) p.0

pairs_append : (ps qs : List (Event × Answered)) → told_pairs (ps ++ qs) ≡ told_pairs qs ++ told_pairs ps
pairs_append [] qs = sym (append-nil (told_pairs qs))
pairs_append (p ∷ ps) qs = ap (λ (l : List Event). l ++ one_if (is_told p.0 p.1) p.0) (pairs_append ps qs) ∙ append_assoc (told_pairs qs) (told_pairs ps) (one_if (is_told p.0 p.1) p.0)

entries_told : (es : List Entry) → events_by (told es) ≡ told_pairs (map done_by es)
entries_told [] = refl
entries_told (e ∷ es) = go (is_told e.event e.answer) (entries_told es)
  where
    go : (b : Bool) → events_by (told es) ≡ told_pairs (map done_by es) → events_by (cond b (e ∷ told es) (told es)) ≡ told_pairs (map done_by es) ++ one_if b e.event
    go true below = ap (λ (l : List Event). l ++ e.event ∷ []) below
    go false below = below ∙ sym (append-nil (told_pairs (map done_by es)))

abbrev list_of : Option Event → List Event
list_of None = []
list_of (Some e) = e ∷ []

one_of : (b : Bool) (e : Event) → one_if b e ≡ list_of (cond b (Some e) None)
one_of true e = refl
one_of false e = refl

cons_of : (o : Option Event) (l : List Event) → list_of o ++ l ≡ cons_option o l
cons_of None l = refl
cons_of (Some e) l = refl

-- of one turn, whatever it left
module _ (w next : Whole) where
  turn_told : (a : Act) (r : Acted) → IsAnswer w a r next → AllFit (event_of a r) → told_pairs (event_of a r) ≡ list_of (told_event a r)
  turn_told (Do e) (Did r) answer fits = ap (λ (b : Bool). one_if b e) (agrees e r fits.0) ∙ one_of (tells (Did r)) e
  turn_told (Finish x) (Committed (Ok o)) answer fits = ap (λ (b : Bool). one_if b (solve_of x)) (agrees (solve_of x) (Ok o) fits.0 ∙ always o fits.0)
    where
      always : (o : Outcome) → Shape (solve_of x) (Ok o) → tells (Did (Ok o)) ≡ true
      always Done is = refl
      always (Loaded k) is = refl
      always (Drained octets ended) is = absurd is
  turn_told (Finish x) (Committed (Err why)) answer fits = refl
  turn_told (Look d k) (Looked r) answer fits = refl
  turn_told (Ready k) (Found r) answer fits = refl
  turn_told (Next d behind) (acted.Next r) answer fits = refl
  turn_told (Map d) (Mapped r) answer fits = refl
  turn_told a r answer fits = absurd answer

turns_told : (w : Whole) (turns : List (Act × ActAnswer)) → Legal Admits Allowed left_by w turns → AllFit (events_of turns) → told_pairs (events_of turns) ≡ tellings turns
turns_told w [] legal fits = refl
turns_told w (t ∷ turns) legal fits =
    let first : List (Event × Answered) = event_of t.0 t.1.acted in
    let later : List (Event × Answered) = events_of turns in
    pairs_append later first
    ∙ ap₂ (λ (xs ys : List Event). xs ++ ys) (turn_told w (left_by w t.0 t.1) t.0 t.1.acted legal.1.answer (fit_back later first fits)) (turns_told (left_by w t.0 t.1) turns legal.2 (fit_front later first fits))
    ∙ cons_of (told_event t.0 t.1.acted) (tellings turns)

-- ---- what is told of a run that goes on

told_append : (xs ys : List Entry) → told (xs ++ ys) ≡ told xs ++ told ys
told_append [] ys = refl
told_append (e ∷ xs) ys = go (is_told e.event e.answer) (told_append xs ys)
  where
    go : (b : Bool) → told (xs ++ ys) ≡ told xs ++ told ys → cond b (e ∷ told (xs ++ ys)) (told (xs ++ ys)) ≡ cond b (e ∷ told xs) (told xs) ++ told ys
    go true below = ap (λ (l : List Entry). e ∷ l) below
    go false below = below

pub events_append : (xs ys : List Entry) → events_by (xs ++ ys) ≡ events_by ys ++ events_by xs
events_append [] ys = sym (append-nil (events_by ys))
events_append (e ∷ xs) ys = ap (λ (l : List Event). l ++ e.event ∷ []) (events_append xs ys) ∙ append_assoc (events_by ys) (events_by xs) (e.event ∷ [])

-- what is told of a run that goes on by these turns: what was told before, and what is told of them
pub day_told : (n : NetworkParts) (w : Whole) (turns : List (Act × ActAnswer)) (newer older : List Entry) (s : Plant) → Run wire n (newer ++ older) s → map done_by newer ≡ events_of turns → Legal Admits Allowed left_by w turns
    → events_by (told (newer ++ older)) ≡ events_by (told older) ++ tellings turns
day_told n w turns newer older s run are legal =
    let fits : AllFit (map done_by newer) = fit_front (map done_by newer) (map done_by older) (subst AllFit (map-append done_by newer older) (run_fits n (newer ++ older) s run)) in
    ap events_by (told_append newer older)
    ∙ events_append (told newer) (told older)
    ∙ ap (λ (l : List Event). events_by (told older) ++ l) (entries_told newer ∙ ap told_pairs are ∙ turns_told w turns legal (subst AllFit are fits))
