-- What became of a request when a network is quiet, from what was said in the deed that ended it.
use Rattle.std.proofs.Common.{◌≡◌, ◌≢◌, ◌≤◌, ◌+◌, ◌==◌, ℕ, zero, suc, Bool, true, false, cond, List, [], ◌∷◌, ◌++◌, map, sym, ◌∙◌, ap, subst, inl, inr, refl, eqb-true, eq-eqb, arith}
use Rattle.std.specs.Prelude.{◌⊎◌, Contains}
use Rattle.plant_model.specs.Types.{As, Peer, Asked, ErrorReport, Message, Answer, Reply, Wish, NetworkParts}
use Rattle.pcep_codes.specs.declared.no_paths.TheConstants as no_paths
use Rattle.pcep_messages.specs.declared.message.Message.TheVariants as messages
use Rattle.pcep_messages.specs.declared.message.Answer.TheVariants.{Paths, NoPath}
use Rattle.pcep_messages.specs.declared.message.Wish.TheVariants.{Path, Expand}
use Rattle.pcep_messages.specs.Spelling.{IsWritten}
use Rattle.request_table.specs.Pending.{same_peer}
use Rattle.disclosure.specs.Shown.{open_of}
use Rattle.plant_text.specs.Names.{same_as, parent_as}
use Rattle.plant_text.specs.Settings.{class_of}
use Rattle.plant_model.specs.declared.output.Output.{Output}
use Rattle.plant_model.specs.Wire.{Codec, Checked, Admitted, Wrong}
use Rattle.plant_model.specs.Laws.{IsCodec, IsNetwork}
use Rattle.plant_model.specs.Writing.{busy}
use Rattle.plant_model.specs.Names.{the_parent}
use Rattle.plant_model.specs.Element.{Element, Row, ElementSettings, is_client}
use Rattle.plant_model.specs.Taking.{take}
use Rattle.plant_model.specs.Settings.{place}
use Rattle.plant_model.specs.State.{Loads, Pops, Takes, Says, Ups, Downs, Clears, Solves, Expires, Hands}
use Rattle.plant_model.specs.Plant.{Pin, Segment, Plant, PlantDeed, Entry, Run, deeds_of}
use Rattle.plant_laws.specs.About.{IsShort}
use Rattle.plant_laws.specs.Answered.{answers_of, IsEnd, Fate}
use Rattle.plant_laws.specs.Answered as once
use Rattle.plant_laws.specs.Broken.{Breaks}
use Rattle.plant_laws.specs.Errors.{chain_failed, Unserved}
use Rattle.plant_laws.specs.Causes.{IsLost, IsLostAbove, AnswersLost, asker_of, asker_above, left_above, OnPassed, by_element, by_parent, OfSolve, of_element, of_parent, left_rows}
use Rattle.plant_laws.specs.Chains.{IsQuiet}
use Rattle.plant_laws.specs.MessageCauses.{Asker, told, replied, WaitsAt, OnRequest, OnMessage, TellsOfPaths, OnReply, unknown, goes_on, is_kept, is_broken, OnNotice, next_is_full, noted_for_nobody, of_other_kind, OnError, failed_for_nobody, of_reply, out_of_profile, other_error, Part, Asks, Replies, Notes, Fails, alone, noted, failed_by, failed, OnParts}
use Rattle.plant_laws.specs.Met.{run_of}
use Rattle.plant_laws.specs.Sending.{AllSent}
use Rattle.plant_laws.specs.Served.{EndsWith, tells, is_full, breaks, is_unserved, CameTo, answered, dropped, waits, RequestsAreServedIn}
use Rattle.plant_laws.specs.Solves.{ElementTells, TellsClient, its_path, no_pair, TellsClosed, branches, no_branch, lacks_keys}
use Rattle.plant_laws.specs.Transcript.{Transcript, Within, Keeps, Ends, Begins, effect, asks_effect, begins_if, begins, take_effect, count_answers, has_id, answers_to, outputs_at, one_if}
use Rattle.plant_laws.proofs.Once.Answering.{requests_are_answered_once}
use Rattle.plant_laws.proofs.Reasons.Broken.{broken_for_reasons}
use Rattle.plant_laws.proofs.Reasons.Failed.{failed_for_reasons}
use Rattle.plant_laws.proofs.Reasons.Full.{full_for_reasons}
use Rattle.plant_laws.proofs.Once.Handing.{In}
use Rattle.plant_laws.proofs.Reasons.MomentCauses.{HasOne, IsOpening, moment_cause, outs, solver, head_of, at_here}
use Rattle.plant_laws.proofs.Reasons.PartCauses.{contains_at, in_at, not_both}
use Rattle.plant_laws.proofs.Once.OpenTables.{pending_row}
use Rattle.plant_laws.proofs.Runs.Queues.{same_as_is}
use Rattle.plant_laws.proofs.Numbering.SentOn.{same_peer_is}
use Rattle.plant_laws.proofs.Settled.UnderWayLaw.{quiet_is_answered}
use Rattle.plant_laws.proofs.WrittenForm.WhereWritten.{WrittenNetIds}

-- ---- what an output is, that answers

-- where what is said of a failed chain is said by a deed that Heard errors
data IsOf (Heard : Type 0) (m : Message) : Type 0 where
  reply : (r : Reply) → m ≡ messages.PcRep (r ∷ []) → IsOf Heard m
  full : (flags id : ℕ) → m ≡ busy flags id → IsOf Heard m
  unserved : Heard → (flags id : ℕ) → m ≡ chain_failed flags id → IsOf Heard m
  other : ((x : ℕ) → count_answers x m ≡ 0) → IsOf Heard m

module _ (Heard : Type 0) where
  abbrev Each : List Output → Type 0
  Each [] = Unit {0}
  Each (o ∷ os) = IsOf Heard o.message × Each os

  each_append : (xs ys : List Output) → Each xs → Each ys → Each (xs ++ ys)
  each_append [] ys h h' = h'
  each_append (x ∷ xs) ys h h' = (h.0, each_append xs ys h.1 h')

  none_each : (os : List Output) → os ≡ [] → Each os
  none_each os is = subst Each (sym is) tt

  replied_each : (a : Asker) (answer : Answer) (os : List Output) → os ≡ replied a answer → Each os
  replied_each a answer os is = subst Each (sym is) (reply (record { flags = a.flags; id = a.id; answer = answer }) refl, tt)

  full_each : (a : Asker) (os : List Output) → os ≡ told a (busy a.flags a.id) → Each os
  full_each a os is = subst Each (sym is) (full a.flags a.id refl, tt)

  lost_each : (p : Peer) (rows : List (Row Pin)) (os : List Output) → AnswersLost (IsLost p) asker_of rows os → Each os
  lost_each p [] os is = none_each os is
  lost_each p (h ∷ hs) os (inl is) = subst Each (sym is.2) (reply _ refl, lost_each p hs is.1 is.3)
  lost_each p (h ∷ hs) os (inr kept) = lost_each p hs os kept.1

  module _ (K : Type 0) (Waiting : K → ℕ → Asker → Type 0) (OnAsked : Asked → K → List Output → Type 0) (left : Message → K → K) (of_parent' : Bool) (q : Peer) where
    reply_each : (k : K) (r : Reply) (os : List Output) → OnReply (Waiting k r.id) of_parent' q r os → Each os
    reply_each k r os (unknown none is) = subst Each (sym is) (other (λ x. refl), tt)
    reply_each k r os (goes_on a w up is) = replied_each a r.answer os is
    reply_each k r os (is_kept a w down tells' is) = none_each os is
    reply_each k r os (is_broken a w down no' is) = replied_each a _ os is

    notice_each : (k : K) (kinds : List (ℕ × ℕ)) (rp : ℕ × ℕ) (os : List Output) → OnNotice (Waiting k rp.1) kinds os → Each os
    notice_each k kinds rp os (next_is_full a busy' w is) = full_each a os is
    notice_each k kinds rp os (noted_for_nobody none is) = none_each os is
    notice_each k kinds rp os (of_other_kind miss is) = none_each os is

    error_each : Heard → (k : K) (error rp : ℕ × ℕ) (os : List Output) → OnError (Waiting k rp.1) error os → Each os
    error_each heard k error rp os (failed_for_nobody none is) = none_each os is
    error_each heard k error rp os (of_reply of is) = none_each os is
    error_each heard k error rp os (out_of_profile a w of is) = subst Each (sym is) (unserved heard a.flags a.id refl, tt)
    error_each heard k error rp os (other_error a w no' no'' is) = replied_each a _ os is

    -- parts that ask nothing
    abbrev NoneAsks : List Part → Type 0
    NoneAsks [] = Unit {0}
    NoneAsks (Asks a ∷ xs) = ⊥
    NoneAsks (Replies r ∷ xs) = NoneAsks xs
    NoneAsks (Notes kinds rp ∷ xs) = NoneAsks xs
    NoneAsks (Fails e rp ∷ xs) = Heard × NoneAsks xs

    parts_each : (xs : List Part) (k : K) (os : List Output) → NoneAsks xs → OnParts K Waiting OnAsked left of_parent' q xs k os → Each os
    parts_each [] k os none on = none_each os on
    parts_each (Asks a ∷ xs) k os none on = absurd none
    parts_each (Replies r ∷ xs) k os none on = subst Each (sym on.2) (each_append on.0 on.1 (reply_each k r on.0 on.3) (parts_each xs (left (alone (Replies r)) k) on.1 none on.4))
    parts_each (Notes kinds rp ∷ xs) k os none on = subst Each (sym on.2) (each_append on.0 on.1 (notice_each k kinds rp on.0 on.3) (parts_each xs (left (alone (Notes kinds rp)) k) on.1 none on.4))
    parts_each (Fails e rp ∷ xs) k os none on = subst Each (sym on.2) (each_append on.0 on.1 (error_each none.0 k e rp on.0 on.3) (parts_each xs (left (alone (Fails e rp)) k) on.1 none.1 on.4))

    replies_ask_none : (rs : List Reply) → NoneAsks (map Replies rs)
    replies_ask_none [] = tt
    replies_ask_none (r ∷ rs) = replies_ask_none rs

    notes_ask_none : (kinds ids : List (ℕ × ℕ)) (more : List Part) → NoneAsks more → NoneAsks (map (Notes kinds) ids ++ more)
    notes_ask_none kinds [] more none = none
    notes_ask_none kinds (rp ∷ ids) more none = notes_ask_none kinds ids more none

    noted_ask_none : (ns : List _) → NoneAsks (noted ns)
    noted_ask_none [] = tt
    noted_ask_none (m ∷ ms) = notes_ask_none m.kinds m.ids (noted ms) (noted_ask_none ms)

    fails_ask_none : Heard → (e : ℕ × ℕ) (ids : List (ℕ × ℕ)) (more : List Part) → NoneAsks more → NoneAsks (map (Fails e) ids ++ more)
    fails_ask_none heard e [] more none = none
    fails_ask_none heard e (rp ∷ ids) more none = (heard, fails_ask_none heard e ids more none)

    failed_ask_none : Heard → (rs : List ErrorReport) → NoneAsks (failed rs)
    failed_ask_none heard [] = tt
    failed_ask_none heard (r ∷ rs) = by r.errors (failed_ask_none heard rs)
      where
        by : (es : List (ℕ × ℕ)) → NoneAsks (failed rs) → NoneAsks (failed_by r.ids es ++ failed rs)
        by [] more = more
        by (e ∷ es) more = fails_ask_none heard e r.ids (failed rs) more

-- ---- which output answers

-- an output that answers the request x of p
record Answers (Heard : Type 0) (p : Peer) (x : ℕ) (os : List Output) : Type 0 where
  pub one : Output
  pub there : In one os
  pub of : IsOf Heard one.message
  pub to : same_peer one.to p ≡ true
  pub counts : 1 ≤ count_answers x one.message

some_answers : (Heard : Type 0) (p : Peer) (x : ℕ) (os : List Output) → Each Heard os → 1 ≤ answers_to p x os → Answers Heard p x os
some_answers Heard p x [] each some = absurd (omega (arith, some))
some_answers Heard p x (o ∷ os) each some = go (same_peer o.to p) refl (count_answers x o.message) refl some (λ more. some_answers Heard p x os each.1 more)
  where
    later : Answers Heard p x os → Answers Heard p x (o ∷ os)
    later a = record { one = a.one; there = inr a.there; of = a.of; to = a.to; counts = a.counts }

    go : (b : Bool) → same_peer o.to p ≡ b → (count : ℕ) → count_answers x o.message ≡ count → 1 ≤ cond b count 0 + answers_to p x os → (1 ≤ answers_to p x os → Answers Heard p x os) → Answers Heard p x (o ∷ os)
    go true is zero none more rec = later (rec (omega (arith, more)))
    go true is (suc count) at more rec = record { one = o; there = inl refl; of = each.0; to = is; counts = omega (arith, at) }
    go false is count at more rec = later (rec (omega (arith, more)))

one_is : (b : Bool) → 1 ≤ one_if b + 0 → b ≡ true
one_is true some = refl
one_is false some = absurd (omega (arith, some))

has_one : (x : ℕ) (rp : ℕ × ℕ) → has_id x (rp ∷ []) ≡ true → rp.1 ≡ x
has_one x rp has = go (rp.1 == x) refl has
  where
    go : (b : Bool) → (rp.1 == x) ≡ b → cond b true false ≡ true → rp.1 ≡ x
    go true hit e = eqb-true rp.1 x hit
    go false miss e = (let clash : false ≡ true = e in cc)

-- ---- the deed that ends a request asks for nothing

no_two : {X : Type 0} (b t : Bool) → cond b (cond t Begins Keeps) Keeps ≡ Ends → X
no_two true true e = (let clash : Begins ≡ Ends = e in cc)
no_two true false e = (let clash : Keeps ≡ Ends = e in cc)
no_two false t e = (let clash : Keeps ≡ Ends = e in cc)

no_one : {X : Type 0} (b : Bool) → cond b Keeps Keeps ≡ Ends → X
no_one true e = (let clash : Keeps ≡ Ends = e in cc)
no_one false e = (let clash : Keeps ≡ Ends = e in cc)

begins_none : {X : Type 0} (c : Codec) (d : As) (x answers flags id : ℕ) (w : Wish) → begins c d x answers (record { flags = flags; id = id; wish = w }) ≡ Ends → X
begins_none c d x answers flags id (Path w) e = no_two (id == x) (answers == 0) e
begins_none c d x answers flags id (Expand key pce) e = no_one (id == x) e

checked_none : {X : Type 0} (c : Codec) (d : As) (x answers : ℕ) (o : Checked) → begins_if c d x answers o ≡ Ends → X
checked_none c d x answers (Wrong rp kind value) e = (let clash : Keeps ≡ Ends = e in cc)
checked_none c d x answers (Admitted r) e = begins_none c d x answers r.flags r.id r.wish e

never_ends : {X : Type 0} (c : Codec) (d : As) (x answers : ℕ) (asks : List Asked) → asks_effect c d x answers asks ≡ Ends → X
never_ends c d x answers [] is = (let clash : Keeps ≡ Ends = is in cc)
never_ends c d x answers (a ∷ []) is = checked_none c d x answers (c.check a d) is
never_ends c d x answers (a ∷ b ∷ rest) is = (let clash : Keeps ≡ Ends = is in cc)

pub asked_never : {X : Type 0} (c : Codec) (d : As) (p q : Peer) (x answers : ℕ) (asks : List Asked) (b : Bool) → cond b (asks_effect c d x answers asks) Keeps ≡ Ends → X
asked_never c d p q x answers asks true e = never_ends c d x answers asks e
asked_never c d p q x answers asks false e = (let clash : Keeps ≡ Ends = e in cc)

module _ (c : Codec) (codec : IsCodec c) (n : NetworkParts) (net : IsNetwork n) (es : List Entry) (s : Plant) (run : Run c n es s) (written : AllSent IsWritten (deeds_of c n es)) (short : IsShort (deeds_of c n es))
    (d : As) (real : d ≢ parent_as) (p : Peer) (x : ℕ) where
  keeps_never : {X : Type 0} → Keeps ≡ Ends → X
  keeps_never e = (let clash : Keeps ≡ Ends = e in cc)

  -- the deed heard errors
  abbrev Hears : PlantDeed → Type 0
  Hears deed = (q : Peer) × (reports : List ErrorReport) × (os : List Output) × (deed ≡ Takes d q (messages.PcErr reports) os)

  element_each : (at : As) → same_as at d ≡ true → (pin : Pin) (q : Peer) (now : ℕ) (m : Message) (k : Element Pin Segment) (os : List Output) → take_effect c d p x q m os ≡ Ends → OnMessage c n at pin q now m k os → Each (Hears (Takes at q m os)) os
  element_each at is pin q now (messages.PcReq asks) k os ends on = asked_never c d p q x (answers_to p x os) asks (same_peer q p) ends
  element_each at is pin q now (messages.PcRep replies) k os ends on =
      parts_each (Hears (Takes at q (messages.PcRep replies) os)) (Element Pin Segment) (λ k'. WaitsAt k' q) (OnRequest c n at q now) (λ m' k'. (take c open_of (place n at) pin q (class_of n q) now m' k').element) (same_peer q the_parent) q (map Replies replies) k os
      (replies_ask_none (Hears (Takes at q (messages.PcRep replies) os)) (Element Pin Segment) (λ k'. WaitsAt k' q) (OnRequest c n at q now) (λ m' k'. (take c open_of (place n at) pin q (class_of n q) now m' k').element) (same_peer q the_parent) q replies) on
  element_each at is pin q now (messages.PcNtf notices) k os ends on =
      parts_each (Hears (Takes at q (messages.PcNtf notices) os)) (Element Pin Segment) (λ k'. WaitsAt k' q) (OnRequest c n at q now) (λ m' k'. (take c open_of (place n at) pin q (class_of n q) now m' k').element) (same_peer q the_parent) q (noted notices) k os
      (noted_ask_none (Hears (Takes at q (messages.PcNtf notices) os)) (Element Pin Segment) (λ k'. WaitsAt k' q) (OnRequest c n at q now) (λ m' k'. (take c open_of (place n at) pin q (class_of n q) now m' k').element) (same_peer q the_parent) q notices) on
  element_each at is pin q now (messages.PcErr reports) k os ends on =
      let here : Hears (Takes at q (messages.PcErr reports) os) = (q, reports, os, ap (λ (z : As). let e : PlantDeed = Takes z q (messages.PcErr reports) os in e) (same_as_is at d is)) in
      parts_each (Hears (Takes at q (messages.PcErr reports) os)) (Element Pin Segment) (λ k'. WaitsAt k' q) (OnRequest c n at q now) (λ m' k'. (take c open_of (place n at) pin q (class_of n q) now m' k').element) (same_peer q the_parent) q (failed reports) k os
      (failed_ask_none (Hears (Takes at q (messages.PcErr reports) os)) (Element Pin Segment) (λ k'. WaitsAt k' q) (OnRequest c n at q now) (λ m' k'. (take c open_of (place n at) pin q (class_of n q) now m' k').element) (same_peer q the_parent) q here reports) on
  element_each at is pin q now (messages.Open body) k os ends on = none_each _ os on
  element_each at is pin q now messages.Keepalive k os ends on = none_each _ os on
  element_each at is pin q now (messages.Close why) k os ends on = none_each _ os on
  element_each at is pin q now (messages.Other kind) k os ends on = none_each _ os on

  below : {X : Type 0} (at : As) → same_as at d ≡ true → same_as at parent_as ≡ true → X
  below at is up = absurd (real (sym (same_as_is at d is) ∙ same_as_is at parent_as up))

  client_each : (F : Type 0) (h : Row Pin) (down : _) (rows : _) (m : Message) → TellsClient c h down rows m → IsOf F m
  client_each F h down rows m (its_path b one at is) = reply _ is
  client_each F h down rows m (no_pair none is) = reply _ is

  closed_each : (F : Type 0) (e : ElementSettings) (h : Row Pin) (down : _) (now : ℕ) (keys : _) (best : _) (m : Message) → TellsClosed c e h down now keys best m → IsOf F m
  closed_each F e h down now keys best m (branches some few is) = reply _ is
  closed_each F e h down now keys best m (no_branch none is) = reply _ is
  closed_each F e h down now keys best m (lacks_keys few is) = full _ _ is

  solved_each : (F : Type 0) (before : Plant) (d' : As) (k' : ℕ) (deeds : Transcript) (t : ElementTells c n before d' k' deeds) → IsOf F t.message
  solved_each F before d' k' deeds t = go (is_client t.held.item.class) refl
    where
      go : (b : Bool) → is_client t.held.item.class ≡ b → IsOf F t.message
      go true is = client_each F (k', t.held) t.down t.rows t.message (t.to_client is)
      go false is = closed_each F (place n d') (k', t.held) t.down before.clock (before.elements d').keys t.rows.best t.message (t.to_closed is)

  -- what the deed that ends the request says
  ends_each : (deed : PlantDeed) (older : Transcript) → Within (deed ∷ older) (deeds_of c n es) → HasOne c n deed older → effect c d p x deed ≡ Ends → Each (Hears deed) (outputs_at d deed)
  ends_each (Takes at q m os) older within one ends = go (same_as at d) refl ends one.cause.1
    where
      go : (b : Bool) → same_as at d ≡ b → cond b (take_effect c d p x q m os) Keeps ≡ Ends → OnPassed c n one.before one.event at q m os → Each (Hears (Takes at q m os)) (cond b os [])
      go false is e on = tt
      go true is e (by_parent up on) = below at is up
      go true is e (by_element down on) = element_each at is (one.before.current at) q one.before.clock m (one.before.elements at) os e on
  ends_each (Downs at q os) older within one ends = go (same_as at d) refl (same_as at parent_as) refl one.cause
    where
      go : (b : Bool) → same_as at d ≡ b → (u : Bool) → same_as at parent_as ≡ u → cond u (AnswersLost (IsLostAbove q) asker_above (left_above one.before.parent.pending.rows one.earlier) os)
          (AnswersLost (IsLost q) asker_of (left_rows at (one.before.elements at).pending.rows one.earlier) os) → Each (Hears (Downs at q os)) (cond b os [])
      go false is u up lost = tt
      go true is true up lost = below at is up
      go true is false down lost = lost_each _ q (left_rows at (one.before.elements at).pending.rows one.earlier) os lost
  ends_each (Solves at k os keys) older within one ends = go (same_as at d) refl one.cause
    where
      go : (b : Bool) → same_as at d ≡ b → OfSolve c n one.before one.event (Solves at k os keys) → Each (Hears (Solves at k os keys)) (cond b os [])
      go false is cause = tt
      go true is (of_element d' k' ev t) =
          let one' : Solves at k os keys ≡ Solves d' k' (record { to = t.held.key.peer; message = t.message } ∷ []) t.keys = ap (head_of (Solves at k os keys)) t.sends_one in
          subst (Each (Hears (Solves at k os keys))) (sym (ap outs one')) (solved_each _ one.before d' k' (Solves at k os keys ∷ []) t, tt)
      go true is (of_parent k' ev t) =
          let one' : Solves at k os keys ≡ Solves parent_as k' (record { to = t.held.key.peer; message = t.message } ∷ []) [] = ap (head_of (Solves at k os keys)) t.sends_one in
          absurd (real (sym (same_as_is at d is) ∙ ap (solver d) one'))
  ends_each (Says at o) older within one ends = keeps_never ends
  ends_each (Loads at g) older within one ends = keeps_never ends
  ends_each (Pops a b) older within one ends = keeps_never ends
  ends_each (Ups at q) older within one ends = keeps_never ends
  ends_each (Clears a b) older within one ends = keeps_never ends
  ends_each (Expires now) older within one ends = keeps_never ends
  ends_each (Hands j bytes) older within one ends = keeps_never ends

  opening_keeps : {X : Type 0} (deed : PlantDeed) → IsOpening deed → effect c d p x deed ≡ Ends → X
  opening_keeps (Says at o) is ends = keeps_never ends
  opening_keeps _ is ends = absurd is

-- tells of paths or does not
told_or_not : (a : Answer) → TellsOfPaths a ⊎ (¬ TellsOfPaths a)
told_or_not (Paths ps) = inl tt
told_or_not (NoPath nature vector) = go (nature == no_paths.NONE_FOUND) refl
  where
    go : (b : Bool) → (nature == no_paths.NONE_FOUND) ≡ b → (nature ≡ no_paths.NONE_FOUND) ⊎ (nature ≡ no_paths.NONE_FOUND → ⊥)
    go true is = inl (eqb-true nature no_paths.NONE_FOUND is)
    go false is = inr (λ same. not_both (nature == no_paths.NONE_FOUND) (eq-eqb nature no_paths.NONE_FOUND same) is)

module _ (c : Codec) (codec : IsCodec c) (n : NetworkParts) (net : IsNetwork n) (es : List Entry) (s : Plant) (run : Run c n es s) (written : AllSent IsWritten (deeds_of c n es)) (short : IsShort (deeds_of c n es))
    (d : As) (real : d ≢ parent_as) (p : Peer) (x : ℕ) (at : Transcript) where
  abbrev now : Transcript
  now = deeds_of c n es

  -- where a deed that heard errors tells of a failed chain, it has a reason
  heard_so : (deed : PlantDeed) (older : Transcript) → Within (deed ∷ older) now → (flags : ℕ) → Hears c codec n net es s run written short d real p x deed → Contains (outputs_at d deed) (record { to = p; message = chain_failed flags x }) → Unserved c d p x deed older
  heard_so deed older within flags heard has =
      let there = subst (λ (z : PlantDeed). Contains (outputs_at d z) (record { to = p; message = chain_failed flags x })) heard.3 has in
      let own = at_here d (record { to = p; message = chain_failed flags x }) d heard.2 (in_at (record { to = p; message = chain_failed flags x }) (cond (same_as d d) heard.2 []) there) in
      subst (λ (z : PlantDeed). Unserved c d p x z older) (sym heard.3)
      (failed_for_reasons c codec n net es s run written short d real p x flags heard.0 heard.1 heard.2 older (subst (λ (z : PlantDeed). Within (z ∷ older) now) heard.3 within) own.1)

  ends_with : (e : IsEnd c now d p x at) → answers_of d p x e.deed ≡ 1 → EndsWith c n (run_of c n es s run) d p x now at e
  ends_with e one' = by (some_answers (Hears c codec n net es s run written short d real p x e.deed) p x (outputs_at d e.deed) each (omega (arith, one')))
    where
      each : Each (Hears c codec n net es s run written short d real p x e.deed) (outputs_at d e.deed)
      each = elim (moment_cause c n es s run short e.deed e.older e.within) [
        | inl one ↦ ends_each c codec n net es s run written short d real p x e.deed e.older e.within one e.ends
        | inr first ↦ opening_keeps c codec n net es s run written short d real p x e.deed first e.ends
      ]

      -- the output is to p, and says this
      at_p : (o : Output) (m : Message) → In o (outputs_at d e.deed) → same_peer o.to p ≡ true → o.message ≡ m → Contains (outputs_at d e.deed) (record { to = p; message = m })
      at_p o m there to is =
          subst (λ (z : Message). Contains (outputs_at d e.deed) (record { to = p; message = z })) is
          (subst (λ (q : Peer). Contains (outputs_at d e.deed) (record { to = q; message = o.message })) (same_peer_is o.to p to) (contains_at o (outputs_at d e.deed) there))

      by : Answers (Hears c codec n net es s run written short d real p x e.deed) p x (outputs_at d e.deed) → EndsWith c n (run_of c n es s run) d p x now at e
      by a = go a.of a.counts
        where
          go : IsOf (Hears c codec n net es s run written short d real p x e.deed) a.one.message → 1 ≤ count_answers x a.one.message → EndsWith c n (run_of c n es s run) d p x now at e
          go (reply r is) counts =
              let id : r.id ≡ x = eqb-true r.id x (one_is (r.id == x) (subst (λ (m : Message). 1 ≤ count_answers x m) is counts)) in
              let has = at_p a.one (messages.PcRep (r ∷ [])) a.there a.to is in
              elim (told_or_not r.answer) [
                | inl told' ↦ tells r has id told'
                | inr broken ↦ breaks r has id broken (subst (λ (y : ℕ). Breaks c n (run_of c n es s run) d p y e.deed e.older) id (broken_for_reasons c codec n net es s run written short run d p r e.deed e.older e.within has broken))
              ]
          go (full flags id is) counts =
              let same : id ≡ x = has_one x (flags, id) (one_is (has_id x ((flags, id) ∷ [])) (subst (λ (m : Message). 1 ≤ count_answers x m) is counts)) in
              let has = subst (λ (y : ℕ). Contains (outputs_at d e.deed) (record { to = p; message = busy flags y })) same (at_p a.one (busy flags id) a.there a.to is) in
              is_full flags has (full_for_reasons c codec n net es s run written short run d p x flags e.deed e.older e.within has)
          go (unserved heard flags id is) counts =
              let same : id ≡ x = has_one x (flags, id) (one_is (has_id x ((flags, id) ∷ [])) (subst (λ (m : Message). 1 ≤ count_answers x m) is counts)) in
              let has = subst (λ (y : ℕ). Contains (outputs_at d e.deed) (record { to = p; message = chain_failed flags y })) same (at_p a.one (chain_failed flags id) a.there a.to is) in
              is_unserved flags has (heard_so e.deed e.older e.within flags heard has)
          go (other none) counts = absurd (let nothing = none x in omega (arith, nothing, counts))

  came_to : IsQuiet s → Fate c now s d p x at → CameTo c n (run_of c n es s run) now d p x at
  came_to quiet (once.pending open' is) = (let row = pending_row s d real p x is in waits open' row.0 row.1 row.2 ((quiet_is_answered c codec n net es s run written short quiet).1 d row.0 row.1))
  came_to quiet (once.answered e one') = answered e one' (ends_with e one')
  came_to quiet (once.dropped e none why) = dropped e none why

pub requests_are_served : WrittenNetIds RequestsAreServedIn
requests_are_served c codec n net es s run written short run' quiet d p x at real within begins' =
    came_to c codec n net es s run' written short d real p x at quiet (requests_are_answered_once c codec n net es s run d p x at within begins').fate
