-- A notice that there is no room has a reason on the way of its request.
use Rattle.std.proofs.Common.{◌≡◌, ◌≢◌, ◌≤◌, ◌+◌, ◌==◌, ℕ, zero, suc, Bool, true, false, cond, List, [], ◌∷◌, ◌++◌, length, map, Option, Some, None, eq-eqb, sym, ◌∙◌, ap, subst, inl, inr, refl, arith}
use Rattle.plant_model.specs.Types.{As, Addr, Peer, Outside, Inner, Asked, ErrorReport, Message, Notice, Reply, Wanted, Own, NetworkParts}
use Rattle.disclosure.specs.Shown.{open_of}
use Rattle.pcep_messages.specs.declared.message.Message.TheVariants as messages
use Rattle.pcep_messages.specs.Spelling.{IsWritten}
use Rattle.pcep_session.specs.declared.actions.Own.TheVariants as own
use Rattle.request_table.specs.Pending.{IsFull, same_peer}
use Rattle.plant_text.specs.Names.{same_as, parent_as}
use Rattle.plant_text.specs.Settings.{class_of}
use Rattle.plant_model.specs.declared.event.Event.{Event}
use Rattle.plant_model.specs.declared.output.Output.{Output}
use Rattle.plant_model.specs.Names.{the_parent}
use Rattle.plant_model.specs.Wire.{Codec}
use Rattle.plant_model.specs.Laws.{IsCodec, IsNetwork}
use Rattle.plant_model.specs.Writing.{request_message, busy, unavailable}
use Rattle.plant_model.specs.Element.{Element, is_client}
use Rattle.plant_model.specs.Taking.{take}
use Rattle.plant_model.specs.Parent as parent
use Rattle.plant_model.specs.Parent.{AskingRow, Parent}
use Rattle.plant_model.specs.BorderGraph.{Found}
use Rattle.plant_model.specs.Settings.{place, family}
use Rattle.plant_model.specs.State.{Loads, Pops, Takes, Says, Ups, Downs, Clears, Solves, Expires, Hands}
use Rattle.plant_model.specs.Deeds.{own_message}
use Rattle.plant_model.specs.Plant.{Pin, Segment, Plant, PlantDeed, Entry, Run, deeds_of}
use Rattle.plant_laws.specs.About.{IsShort}
use Rattle.plant_laws.specs.Causes.{IsLost, IsLostAbove, AnswersLost, asker_of, asker_above, left_rows, left_above, Passes, OnPassed, by_element, by_parent, OfSession, by_table, anew, OfSolve, of_element, of_parent, HaveCauses}
use Rattle.plant_laws.specs.Full.{IsCrowded, HearsFull, Fills, crowded, lacks, outside_full, further_full, FullForReasonsIn}
use Rattle.plant_laws.specs.Matched.{Answering, ends, at_once}
use Rattle.plant_laws.specs.Met.{run_of, Meets}
use Rattle.plant_laws.specs.MessageCauses.{Asker, replied, WaitsAt, WaitsAbove, OnReply, unknown, goes_on, is_kept, is_broken, OnNotice, next_is_full, noted_for_nobody, of_other_kind, OnError, failed_for_nobody, of_reply, out_of_profile, other_error, OnPath, ends_here, no_session, is_refused, sent_on, OnRequest, wrong, again, key_shown, key_refused, no_room, for_path, AreAsked, OnRequestAbove, wrong_above, again_above, key_above, no_room_above, child_down, all_asked, Part, Notes, Fails, alone, noted, failed_by, failed, parts, OnParts, OnMessage}
use Rattle.plant_laws.specs.Sending.{AllSent}
use Rattle.plant_laws.specs.Solves.{ElementTells, TellsClient, its_path, no_pair, TellsClosed, branches, no_branch, lacks_keys, TellsUpper, found as found_walk, no_walk}
use Rattle.plant_laws.specs.Transcript.{Transcript, Within, Standing, SentIn, Handed, opened, one_if, count_answers, answers_to, outputs_at}
use Rattle.plant_laws.specs.Waiting.{WasSentOn}
use Rattle.plant_laws.specs.WentOn.{WentOn}
use Rattle.plant_laws.proofs.WrittenForm.Again.{all_read}
use Rattle.plant_laws.proofs.Once.Alone.{takes_alone}
use Rattle.plant_laws.proofs.Once.AskedRuns.{none_outside}
use Rattle.plant_laws.proofs.Once.Besides.{answers_in}
use Rattle.plant_laws.proofs.Runs.Decompose.{nil_right}
use Rattle.plant_laws.proofs.Reasons.Stood.{put_before}
use Rattle.plant_laws.proofs.Reasons.Heard.{HearsNotice, hears_notice}
use Rattle.plant_laws.proofs.Reasons.Went.{went_on}
use Rattle.plant_laws.proofs.WrittenForm.EveryWritten.{every_written}
use Rattle.plant_laws.proofs.Once.Answering.{IsFairDeed, behaves, run_kept, must_end}
use Rattle.plant_laws.proofs.Numbering.Counted.{low_of, ids_differ}
use Rattle.plant_laws.proofs.Once.Matched.{counts, delivered_by}
use Rattle.plant_laws.proofs.Numbering.NumberRuns.{AreNumbered, run_last}
use Rattle.plant_laws.proofs.Once.Founded.{founded_within, run_founded}
use Rattle.plant_laws.proofs.Least.FromElement.{within_tail}
use Rattle.plant_laws.proofs.Least.GatheredRuns.{run_gathers}
use Rattle.plant_laws.proofs.Least.Gathers.{IsFilled}
use Rattle.plant_laws.proofs.Once.Handing.{In}
use Rattle.plant_laws.proofs.Reasons.MomentCauses.{HasOne, IsOpening, moment_met, outs, solver, head_of, in_two, at_here}
use Rattle.plant_laws.proofs.Runs.Moments.{within_trans, within_length, opened_within}
use Rattle.plant_laws.proofs.Reasons.PartCauses.{contains_at, in_at, not_both}
use Rattle.plant_laws.proofs.Runs.Queues.{same_as_is}
use Rattle.plant_laws.proofs.WrittenForm.ReadBack.{AreRead, run_read, run_single, standing_sent}
use Rattle.plant_laws.proofs.Runs.Readings.{messages_are_read}
use Rattle.plant_laws.proofs.Least.ReadyRows.{sent_within}
use Rattle.plant_laws.proofs.Runs.Rows as table
use Rattle.plant_laws.proofs.Numbering.Sends.{IsAlone, Each-within}
use Rattle.plant_laws.proofs.WrittenForm.Sent.{run_sent}
use Rattle.plant_laws.proofs.Once.StillOpen.{still_open}
use Rattle.plant_laws.proofs.Numbering.Taken.{peer_self}
use Rattle.plant_laws.proofs.Settled.Waits.{waits_are_sent}
use Rattle.plant_laws.proofs.WrittenForm.WhereWritten.{WrittenNetIds}

-- ---- notices among what is said

abbrev is_ntf : Message → Bool
is_ntf (messages.PcNtf notices) = true
is_ntf (messages.Open body) = false
is_ntf messages.Keepalive = false
is_ntf (messages.PcReq asks) = false
is_ntf (messages.PcRep replies) = false
is_ntf (messages.PcErr reports) = false
is_ntf (messages.Close why) = false
is_ntf (messages.Other kind) = false

-- the id of a notice of one id
abbrev first_id : List (ℕ × ℕ) → ℕ
first_id (rp ∷ rest) = rp.1
first_id [] = 0

abbrev noted_id : List Notice → ℕ
noted_id (m ∷ rest) = first_id m.ids
noted_id [] = 0

abbrev id_in : Message → ℕ
id_in (messages.PcNtf notices) = noted_id notices
id_in (messages.Open body) = 0
id_in messages.Keepalive = 0
id_in (messages.PcReq asks) = 0
id_in (messages.PcRep replies) = 0
id_in (messages.PcErr reports) = 0
id_in (messages.Close why) = 0
id_in (messages.Other kind) = 0

own_none : (o : Own) → is_ntf (own_message o) ≡ false
own_none (own.Open offer) = refl
own_none own.Keepalive = refl
own_none (own.Error kind value) = refl
own_none (own.Close why) = refl

-- each notice that is sent says this of one id
abbrev IsBusy : Message → Type 0
IsBusy m = (is_ntf m ≡ true) → (flags : ℕ) × (id : ℕ) × (m ≡ busy flags id)

clash_of : {X : Type 0} → false ≡ true → X
clash_of e = absurd (let clash : false ≡ true = e in cc)

busy_counts : (p : Peer) (x flags : ℕ) (os : List Output) → table.In {A = Output} (record { to = p; message = busy flags x }) os → 1 ≤ answers_to p x os
busy_counts p x flags [] none = absurd none
busy_counts p x flags (o ∷ os) (inl is) = subst (λ (y : Output). 1 ≤ cond (same_peer y.to p) (count_answers x y.message) 0 + answers_to p x os) (sym is) here
  where
    here : 1 ≤ cond (same_peer p p) (one_if (cond (x == x) true false) + 0) 0 + answers_to p x os
    here = rw (peer_self p, eq-eqb x x refl) (omega arith)
busy_counts p x flags (o ∷ os) (inr i) = let rec = busy_counts p x flags os i in omega (arith, rec)

-- the deed that said so is about the request that was sent
module _ (c : Codec) (codec : IsCodec c) (n : NetworkParts) (es : List Entry) (s : Plant) (run : Run c n es s) (written : AllSent IsWritten (deeds_of c n es)) (short : IsShort (deeds_of c n es)) (d : As) (real : d ≢ parent_as) (b : As) where
  abbrev now' : Transcript
  now' = deeds_of c n es

  no_lack : {X : Type 0} (before : Plant) (k : ℕ) (asks : List Asked) (os : List Output) (deed : PlantDeed) → deed ≡ Takes b (Inner d) (messages.PcReq asks) os → (t : ElementTells c n before b k (deed ∷ [])) → X
  no_lack before k asks os deed is t =
      let solves : deed ≡ Solves b k (record { to = t.held.key.peer; message = t.message } ∷ []) t.keys = ap (head_of deed) t.sends_one in
      absurd (let clash : ◌≡◌ {A = PlantDeed} (Takes b (Inner d) (messages.PcReq asks) os) (Solves b k (record { to = t.held.key.peer; message = t.message } ∷ []) t.keys) = sym is ∙ solves in cc)

  -- a message that asks gets this of a full table alone
  crowded_by : (id : ℕ) (deed : PlantDeed) (before : Transcript) → Fills c n (run_of c n es s run) b (Inner d) id deed before → (asks : List Asked) (os : List Output) → deed ≡ Takes b (Inner d) (messages.PcReq asks) os → IsCrowded c n (run_of c n es s run) b (Inner d) id deed before
  crowded_by id deed before (crowded b' q' x' deed' older' k) asks os is = k
  crowded_by id deed before (lacks b' q' x' deed' older' k) asks os is = no_lack k.before k.number asks os deed is k.tells
  crowded_by id deed before (outside_full b' i q' x' older' told kinds rp os' there busy' went) asks os is =
      absurd (let clash : ◌≡◌ {A = PlantDeed} (Takes b' (Outside i) (messages.PcNtf told) os') (Takes b (Inner d) (messages.PcReq asks) os) = is in cc)
  crowded_by id deed before (further_full b' a q' x' older' os' k deeper) asks os is =
      absurd (let clash : ◌≡◌ {A = PlantDeed} (Takes b (Inner a) (busy k.flags k.id) os') (Takes b (Inner d) (messages.PcReq asks) os) = is in cc)

  answered_so : (id flags : ℕ) (deed : PlantDeed) (before : Transcript) → Within (deed ∷ before) now' → table.In {A = Output} (record { to = Inner d; message = busy flags id }) (outputs_at b deed) → Fills c n (run_of c n es s run) b (Inner d) id deed before → (at : Transcript) → Within at now' →
      (w : Wanted) (t : Addr) (rest : List As) → SentIn at d (Inner b) (request_message id w t rest) → Answering c d b id at deed before
  answered_so id flags deed before inside said why at at_now w t rest sent = elim (counts d b id deed (busy_counts (Inner d) id flags (outputs_at b deed) said)) [
    | inl counted ↦ ended counted
    | inr once ↦ asked_once (crowded_by id deed before why once.0 once.1 once.2)
  ]
    where
      numbers : AreNumbered c d now'
      numbers = (run_last c codec n es s run (run_single c n codec es s run written) short d (low_of d real)).1

      read : AreRead now'
      read = run_read c n codec es s run written

      same : (sending : Transcript) → Within sending now' → (w' : Wanted) (t' : Addr) (rest' : List As) → SentIn sending d (Inner b) (request_message id w' t' rest') → sending ≡ at
      same sending within w' t' rest' sent' = (ids_differ c d b now' numbers sending at within at_now id w' w t' t rest' rest sent' sent).0

      ended : 1 ≤ answers_in b (Inner d) id deed → Answering c d b id at deed before
      ended counted =
          let found = (founded_within c now' (run_founded c n es s run (run_single c n codec es s run written)) deed before inside).found b (Inner d) id counted in
          let fair = Each-within IsFairDeed now' (run_kept c n es s run).1 deed before inside in
          let at_in = within_trans found.0 before now' (opened_within c b (Inner d) id before found.0 found.1) (within_tail deed before now' inside) in
          let of = delivered_by c codec d b now' numbers short read id found.0 found.2 at_in found.3 found.4 in
          ends found.0 found.1 (must_end c b (Inner d) id deed (behaves c b (Inner d) id deed fair) counted) (subst (λ (l : Transcript). Handed d b l found.0) (same of.0 of.1 of.3 of.4 of.5 of.6) of.2)

      asked_once : IsCrowded c n (run_of c n es s run) b (Inner d) id deed before → Answering c d b id at deed before
      asked_once k =
          let of = delivered_by c codec d b now' numbers short read id (deed ∷ before) k.taking.request inside (k.taking.asked, k.taking.os, k.taking.takes, k.taking.admitted) k.taking.id in
          at_once (k.taking.asked ∷ []) k.taking.os k.taking.takes (subst (λ (l : Transcript). Handed d b l (deed ∷ before)) (same of.0 of.1 of.3 of.4 of.5 of.6) of.2)

module _ (p : Peer) (x flags : ℕ) where
  abbrev out : Output
  out = record { to = p; message = busy flags x }

  not_said : {X : Type 0} (q : Peer) (m : Message) → is_ntf m ≡ false → In out (record { to = q; message = m } ∷ []) → X
  not_said q m none (inl is) = not_both (is_ntf m) (sym (ap (λ (o : Output). is_ntf o.message) is)) none
  not_said q m none (inr no') = absurd no'

  nothing : {X : Type 0} (os : List Output) → os ≡ [] → In out os → X
  nothing os none i = absurd (let i' : In out [] = subst (In out) none i in i')

  -- the one notice that is said
  this_one : (q : Peer) (flags' y : ℕ) → In out (record { to = q; message = busy flags' y } ∷ []) → (p ≡ q) × (x ≡ y)
  this_one q flags' y (inl is) = (ap (λ (o : Output). o.to) is, ap (λ (o : Output). id_in o.message) is)
  this_one q flags' y (inr no') = absurd no'

  none_lost : {X : Type 0} {Row' : Type 0} (Lost : Row' → Type 0) (asker : Row' → Asker) (rows : List Row') (os : List Output) → AnswersLost Lost asker rows os → In out os → X
  none_lost Lost asker [] os none i = nothing os none i
  none_lost Lost asker (h ∷ hs) os (inr kept) i = none_lost Lost asker hs os kept.1 i
  none_lost {X} {Row'} Lost asker (h ∷ hs) os (inl is) i = go (subst (In out) is.2 i) (λ j. none_lost Lost asker hs is.1 is.3 j)
    where
      go : In out (replied (asker h) unavailable ++ is.1) → (In out is.1 → X) → X
      go (inl same) more = not_said (asker h).peer _ refl (inl same)
      go (inr later) more = more later

  module _ (K : Type 0) (Waiting : K → ℕ → Asker → Type 0) (OnAsked : Asked → K → List Output → Type 0) (left : Message → K → K) (of_parent' : Bool) (q : Peer) where
    abbrev Ons : List Part → K → List Output → Type 0
    Ons xs k os = OnParts K Waiting OnAsked left of_parent' q xs k os

    reply_none : {X : Type 0} (r : Reply) (k : K) (os : List Output) → OnReply (Waiting k r.id) of_parent' q r os → In out os → X
    reply_none r k os (unknown none eq) i = not_said q _ refl (subst (In out) eq i)
    reply_none r k os (goes_on w waits up eq) i = not_said w.peer _ refl (subst (In out) eq i)
    reply_none r k os (is_kept w waits down tells eq) i = nothing os eq i
    reply_none r k os (is_broken w waits down no' eq) i = not_said w.peer _ refl (subst (In out) eq i)

    error_none : {X : Type 0} (e rp : ℕ × ℕ) (k : K) (os : List Output) → OnError (Waiting k rp.1) e os → In out os → X
    error_none e rp k os (failed_for_nobody none is) i = nothing os is i
    error_none e rp k os (of_reply of is) i = nothing os is i
    error_none e rp k os (out_of_profile w waits out' is) i = not_said w.peer _ refl (subst (In out) is i)
    error_none e rp k os (other_error w waits no' no'' is) i = not_said w.peer _ refl (subst (In out) is i)

    fails_none : {X : Type 0} (e : ℕ × ℕ) (ids : List (ℕ × ℕ)) (more : List Part) (k : K) (os : List Output) → ((k' : K) (os' : List Output) → Ons more k' os' → In out os' → X) → Ons (map (Fails e) ids ++ more) k os → In out os → X
    fails_none e [] more k os rest on i = rest k os on i
    fails_none e (rp ∷ ids) more k os rest on i = elim (in_two out on.0 on.1 (subst (In out) on.2 i)) [
      | inl first ↦ error_none e rp k on.0 on.3 first
      | inr second ↦ fails_none e ids more (left (alone (Fails e rp)) k) on.1 rest on.4 second
    ]

    failed_none : {X : Type 0} (rs : List ErrorReport) (k : K) (os : List Output) → Ons (failed rs) k os → In out os → X
    failed_none [] k os on i = nothing os on i
    failed_none {X} (r ∷ rs) k os on i = by r.errors on (λ k' os' on' i'. failed_none rs k' os' on' i')
      where
        by : (errors' : List (ℕ × ℕ)) → Ons (failed_by r.ids errors' ++ failed rs) k os → ((k' : K) (os' : List Output) → Ons (failed rs) k' os' → In out os' → X) → X
        by [] on' more = more k os on' i
        by (e ∷ es') on' more = fails_none e r.ids (failed rs) k os more on' i

    -- a notice of ours has one id
    one_notice : (flags' y : ℕ) (m : Message) (k : K) (os : List Output) → m ≡ busy flags' y → Ons (parts m) k os → OnNotice (Waiting k y) ((1, 2) ∷ []) os
    one_notice flags' y m k os is on = go (subst (λ (z : Message). Ons (parts z) k os) is on)
      where
        go : Ons (parts (busy flags' y)) k os → OnNotice (Waiting k y) ((1, 2) ∷ []) os
        go on' = subst (OnNotice (Waiting k y) ((1, 2) ∷ [])) (sym (on'.2 ∙ ap (λ (l : List Output). on'.0 ++ l) on'.4 ∙ nil_right on'.0)) on'.3

  module _ (c : Codec) (codec : IsCodec c) (n : NetworkParts) (net : IsNetwork n) (es : List Entry) (s : Plant) (run : Run c n es s) (written : AllSent IsWritten (deeds_of c n es)) (short : IsShort (deeds_of c n es)) (d : As) (older : Transcript)
      (rec : (b : As) (x' flags' : ℕ) (deed' : PlantDeed) (older' : Transcript) → Within (deed' ∷ older') older → In {A = Output} (record { to = Inner d; message = busy flags' x' }) (outputs_at b deed') → Fills c n (run_of c n es s run) b (Inner d) x' deed' older') where
    abbrev now : Transcript
    now = deeds_of c n es

    abbrev Full : PlantDeed → Type 0
    Full deed = Fills c n (run_of c n es s run) d p x deed older

    -- ---- what d says is said by its deed

    flipped : (os : List Output) → In out os → table.In out os
    flipped [] i = i
    flipped (o ∷ os) (inl same) = inl (sym same)
    flipped (o ∷ os) (inr more) = inr (flipped os more)

    said_own : (os : List Output) → In out os → 1 ≤ answers_to p x (cond (same_as d d) os [])
    said_own os i = busy_counts p x flags (cond (same_as d d) os []) (subst (λ (b : Bool). table.In out (cond b os [])) (sym (eq-eqb d.0 d.0 refl)) (flipped os i))

    open_then : (q : Peer) (ns : List Notice) (os : List Output) → Within (Takes d q (messages.PcNtf ns) os ∷ older) now → In out os → (at : Transcript) × (opened c d p x older ≡ Some at)
    open_then q ns os within i =
        let f = (founded_within c now (run_founded c n es s run (run_single c n codec es s run written)) (Takes d q (messages.PcNtf ns) os) older within).found d p x (said_own os i) in
        (f.0, f.1)

    -- ---- the notice of an inner peer

    heard : (b : As) (ns : List Notice) (os : List Output) → Within (Takes d (Inner b) (messages.PcNtf ns) os ∷ older) now → (flags' : ℕ) × (id : ℕ) × (messages.PcNtf ns ≡ busy flags' id)
    heard b ns os within =
        let all = run_sent IsBusy (λ y w t rest e. clash_of e) (λ f id a e. clash_of e) (λ f id e. (f, id, refl)) (λ rp kind value e. clash_of e) (λ o e. not_both (is_ntf (own_message o)) e (own_none o)) c n es s run in
        let q = (messages_are_read c codec n es s run written).queues b d (messages.PcNtf ns) os older within in
        let y : Standing = record { message = messages.PcNtf ns; put = q.put } in
        let inside : Within (Pops b d ∷ q.before) now = subst (λ (l : Transcript). Within l now) q.is_popped (within_tail (Takes d (Inner b) (messages.PcNtf ns) os) older now within) in
        standing_sent IsBusy b d q.before y (sent_within IsBusy q.before now (within_tail (Pops b d) q.before now inside) all) (subst (λ (l : List Standing). table.In y l) (sym q.stood) (inl refl)) refl

    hears : (b : As) (flags' id : ℕ) (os : List Output) → Within (Takes d (Inner b) (busy flags' id) os ∷ older) now → (at : Transcript) → opened c d p x older ≡ Some at → (w : Wanted) (t : Addr) (rest : List As) → SentIn at d (Inner b) (request_message id w t rest) →
        Full (Takes d (Inner b) (busy flags' id) os)
    hears b flags' id os within at is_open w t rest sent = go put.0 put.1 put.2
      where
        put : (put : Transcript) × Within put older × SentIn put b (Inner d) (busy flags' id)
        put = put_before c codec n net es s run written short b d (busy flags' id) os older within

        go : (put : Transcript) → Within put older → SentIn put b (Inner d) (busy flags' id) → Full (Takes d (Inner b) (busy flags' id) os)
        go [] inside said = absurd said
        go (deed ∷ before) inside said =
            let older_now = within_tail (Takes d (Inner b) (busy flags' id) os) older now within in
            let why = rec b id flags' deed before inside (in_at _ (outputs_at b deed) said) in
            let h : HearsFull c older d p x b = record {
              at = at;
              is_open = is_open;
              id = id;
              wanted = w;
              target = t;
              rest = rest;
              sent = sent;
              flags = flags';
              deed = deed;
              before = before;
              within = inside;
              said = said;
              answering = λ real. answered_so c codec n es s run written short d real b id flags' deed before (within_trans (deed ∷ before) older now inside older_now) (table.in_of _ (outputs_at b deed) said) why at (within_trans at older now (opened_within c d p x older at is_open) older_now) w t rest sent;
            } in
            further_full d b p x older os h why

    -- ---- a message is taken

    path_none : {X : Type 0} (k : Element Pin Segment) (w : Asker) (wanted : Wanted) (os : List Output) → OnPath n d k w wanted os → In out os → X
    path_none k w wanted os (ends_here own' down along' eq) i = nothing os eq i
    path_none k w wanted os (no_session next rest denied goes down eq) i = not_said w.peer _ refl (subst (In out) eq i)
    path_none k w wanted os (is_refused next rest goes eq) i = not_said w.peer _ refl (subst (In out) eq i)
    path_none k w wanted os (sent_on next rest way goes found' up eq) i = not_said next _ refl (subst (In out) eq i)

    asked_none : {X : Type 0} (w : Wanted) (rs : List parent.Errand) (os : List Output) → AreAsked w rs os → In out os → X
    asked_none w [] os none i = nothing os none i
    asked_none {X} w (r ∷ rs) os on i = go (subst (In out) on.2 i) (asked_none w rs on.1 on.3)
      where
        go : In out (record { to = Inner r.child; message = request_message on.0 w r.target (r.child ∷ []) } ∷ on.1) → (In out on.1 → X) → X
        go (inl same) more = not_said (Inner r.child) _ refl (inl same)
        go (inr later) more = more later

    module _ (q : Peer) (entries : List Entry) (before : Plant) (run' : Run c n entries before) (short' : IsShort (deeds_of c n entries)) (earlier : Transcript) (is_then : older ≡ earlier ++ deeds_of c n entries)
        (event : Event) (causes : HaveCauses c n before event earlier) where
      -- the request that was open then is open
      still : (ns : List Notice) → Passes c n before event d q (messages.PcNtf ns) → (at at' : Transcript) → opened c d p x older ≡ Some at → opened c d p x (deeds_of c n entries) ≡ Some at' → opened c d p x older ≡ Some at'
      still ns passes at at' is_open then = elim (still_open c n before event d q (messages.PcNtf ns) passes (λ no. no) earlier (deeds_of c n entries) causes d p x at' then) [
        | inl same ↦ ap (opened c d p x) is_then ∙ same
        | inr none ↦ absurd (let clash : ◌≡◌ {A = Option Transcript} None (Some at) = sym (ap (opened c d p x) is_then ∙ none) ∙ is_open in cc)
      ]

      opened_as : (a : Asker) (peer : Peer) (f id : ℕ) (at' : Transcript) → (p ≡ a.peer) × (x ≡ a.id) → a ≡ record { peer = peer; flags = f; id = id } → opened c d peer id (deeds_of c n entries) ≡ Some at' → opened c d p x (deeds_of c n entries) ≡ Some at'
      opened_as a peer f id at' this asked is =
          ap (λ (z : Peer). opened c d z x (deeds_of c n entries)) (this.0 ∙ ap (λ (z : Asker). z.peer) asked) ∙ ap (λ (z : ℕ). opened c d peer z (deeds_of c n entries)) (this.1 ∙ ap (λ (z : Asker). z.id) asked) ∙ is

      -- an element
      request_full : (a : Asked) (all os : List Output) → Meets c n es s run (Takes d q (messages.PcReq (a ∷ [])) all) older before → same_as d parent_as ≡ false → OnRequest c n d q before.clock a (before.elements d) os → In out os → Full (Takes d q (messages.PcReq (a ∷ [])) all)
      request_full a all os meets low (wrong rp kind value is eq) i = not_said q _ refl (subst (In out) eq i)
      request_full a all os meets low (again r number is hit eq) i = nothing os eq i
      request_full a all os meets low (key_shown r key pce segment is new wish behind eq) i = not_said q _ refl (subst (In out) eq i)
      request_full a all os meets low (key_refused r key pce is new wish none eq) i = not_said q _ refl (subst (In out) eq i)
      request_full a all os meets low (for_path r w is new wish room on) i = path_none (before.elements d) _ w os on i
      request_full a all os meets low (no_room r w is new wish full eq) i =
          let this = this_one q r.flags r.id (subst (In out) eq i) in
          subst (λ (z : Peer). Fills c n (run_of c n es s run) d z x (Takes d q (messages.PcReq (a ∷ [])) all) older) (sym this.0)
          (crowded d q x (Takes d q (messages.PcReq (a ∷ [])) all) older (record {
            taking = record { before = before; meets = meets; asked = a; os = all; takes = refl; request = r; admitted = is; id = sym this.1; wanted = w; for_path = wish };
            full = subst (λ (b : Bool). cond b (IsFull before.parent.pending) (IsFull (before.elements d).pending)) (sym low) full;
          }))

      -- an outside peer said so
      outer_full : (j : ℕ) → q ≡ Outside j → (pin : Pin) (ns : List Notice) (all : List Output) → Within (Takes d q (messages.PcNtf ns) all ∷ older) now → Passes c n before event d q (messages.PcNtf ns) →
          In out all → HearsNotice c n d pin q before.clock (before.elements d) out ns → Full (Takes d q (messages.PcNtf ns) all)
      outer_full j is pin ns all within passes i h =
          let o = open_then q ns all within i in
          let this = this_one h.asker.peer h.asker.flags h.asker.id h.says in
          let went = went_on c codec n net d older q entries before run' earlier is_then event causes p x (messages.PcNtf ns) passes (λ no. no) o.0 o.1 h.rp.1 h.asker h.waits this.0 this.1 in
          subst (λ (z : Peer). Full (Takes d z (messages.PcNtf ns) all)) (sym is)
          (outside_full d j p x older ns h.kinds h.rp all (contains_at (Notes h.kinds h.rp) (noted ns) h.among) h.busy (subst (λ (z : Peer). WentOn c older d p x z h.rp.1) is went))

      inner_full : (b : As) → q ≡ Inner b → (ns : List Notice) (all : List Output) → Within (Takes d q (messages.PcNtf ns) all ∷ older) now → Passes c n before event d q (messages.PcNtf ns) → (y flags' : ℕ) → messages.PcNtf ns ≡ busy flags' y → OnNotice (WaitsAt (before.elements d) q y) ((1, 2) ∷ []) all →
          In out all → Full (Takes d q (messages.PcNtf ns) all)
      inner_full b is ns all within passes y flags' same (noted_for_nobody none eq) i = nothing all eq i
      inner_full b is ns all within passes y flags' same (of_other_kind miss eq) i = nothing all eq i
      inner_full b is ns all within passes y flags' same (next_is_full a hit w eq) i =
          subst (λ (z : Peer). Full (Takes d z (messages.PcNtf ns) all)) (sym is) (subst (λ (m : Message). Full (Takes d (Inner b) m all)) (sym same)
          (hears b flags' y all (subst (λ (m : Message). Within (Takes d (Inner b) m all ∷ older) now) same (subst (λ (z : Peer). Within (Takes d z (messages.PcNtf ns) all ∷ older) now) is within))
          sent.at (still ns passes o.0 sent.at o.1 (opened_as a w.row.1.key.peer w.row.1.item.flags w.row.1.key.id sent.at (this_one a.peer a.flags a.id (subst (In out) eq i)) w.asked sent.is_open))
          w.row.1.item.wanted w.row.1.item.wanted.target sent.rest (subst (λ (z : Peer). SentIn sent.at d z (request_message y w.row.1.item.wanted w.row.1.item.wanted.target sent.rest)) is sent.sent)))
        where
          o : (at : Transcript) × (opened c d p x older ≡ Some at)
          o = open_then q ns all within i

          sent : WasSentOn c n (deeds_of c n entries) d w.row q y
          sent = waits_are_sent c codec n net entries before run' d w.row w.is_row q y w.waits

      element_full : (low : same_as d parent_as ≡ false) (pin : Pin) (m : Message) (all : List Output) → Meets c n es s run (Takes d q m all) older before → Within (Takes d q m all ∷ older) now → IsAlone m → Passes c n before event d q m → OnMessage c n d pin q before.clock m (before.elements d) all → In out all → Full (Takes d q m all)
      element_full low pin (messages.PcReq []) all meets within alone' passes on i = nothing all on i
      element_full low pin (messages.PcReq (a ∷ [])) all meets within alone' passes on i = request_full a all on.0 meets low on.3 (subst (In out) (on.2 ∙ ap (λ (l : List Output). on.0 ++ l) on.4 ∙ nil_right on.0) i)
      element_full low pin (messages.PcReq (a ∷ b ∷ rest)) all meets within alone' passes on i = absurd (omega (arith, alone'))
      element_full low pin (messages.PcRep []) all meets within alone' passes on i = nothing all on i
      element_full low pin (messages.PcRep (r ∷ [])) all meets within alone' passes on i =
          reply_none (Element Pin Segment) (λ k'. WaitsAt k' q) (OnRequest c n d q before.clock) (λ m' k'. (take c open_of (place n d) pin q (class_of n q) before.clock m' k').element) (same_peer q the_parent) q r (before.elements d) on.0 on.3
          (subst (In out) (on.2 ∙ ap (λ (l : List Output). on.0 ++ l) on.4 ∙ nil_right on.0) i)
      element_full low pin (messages.PcRep (a ∷ b ∷ rest)) all meets within alone' passes on i = absurd (omega (arith, alone'))
      element_full low pin (messages.PcErr reports) all meets within alone' passes on i =
          failed_none (Element Pin Segment) (λ k'. WaitsAt k' q) (OnRequest c n d q before.clock) (λ m' k'. (take c open_of (place n d) pin q (class_of n q) before.clock m' k').element) (same_peer q the_parent) q reports (before.elements d) all on i
      element_full low pin (messages.PcNtf ns) all meets within alone' passes on i = by q refl
        where
          by : (z : Peer) → q ≡ z → Full (Takes d q (messages.PcNtf ns) all)
          by (Outside j) is = outer_full j is pin ns all within passes i (hears_notice c n d pin q before.clock ns (before.elements d) all out on i)
          by (Inner b) is =
              let h = heard b ns all (subst (λ (z : Peer). Within (Takes d z (messages.PcNtf ns) all ∷ older) now) is within) in
              inner_full b is ns all within passes h.1 h.0 h.2
              (one_notice (Element Pin Segment) (λ k'. WaitsAt k' q) (OnRequest c n d q before.clock) (λ m' k'. (take c open_of (place n d) pin q (class_of n q) before.clock m' k').element) (same_peer q the_parent) q h.0 h.1 (messages.PcNtf ns) (before.elements d) all h.2 on) i
      element_full low pin (messages.Open body) all meets within alone' passes on i = nothing all on i
      element_full low pin messages.Keepalive all meets within alone' passes on i = nothing all on i
      element_full low pin (messages.Close why) all meets within alone' passes on i = nothing all on i
      element_full low pin (messages.Other kind) all meets within alone' passes on i = nothing all on i

      -- the parent
      abbrev OnsAbove : List Part → List Output → Type 0
      OnsAbove xs os = OnParts Parent (λ k'. WaitsAbove k' q) (OnRequestAbove c n q) (λ m' k'. (parent.take c (family n) q m' k').parent) false q xs before.parent os

      above_request : (a : Asked) (all os : List Output) → Meets c n es s run (Takes d q (messages.PcReq (a ∷ [])) all) older before → d ≡ parent_as → OnRequestAbove c n q a before.parent os → In out os → Full (Takes d q (messages.PcReq (a ∷ [])) all)
      above_request a all os meets up (wrong_above rp kind value is eq) i = not_said q _ refl (subst (In out) eq i)
      above_request a all os meets up (again_above r number is hit eq) i = nothing os eq i
      above_request a all os meets up (key_above r key pce is new wish eq) i = not_said q _ refl (subst (In out) eq i)
      above_request a all os meets up (child_down r w child is new wish room among down eq) i = not_said q _ refl (subst (In out) eq i)
      above_request a all os meets up (all_asked r w is new wish room all_up on) i = asked_none w _ os on i
      above_request a all os meets up (no_room_above r w is new wish full eq) i =
          let this = this_one q r.flags r.id (subst (In out) eq i) in
          subst (λ (z : Peer). Fills c n (run_of c n es s run) d z x (Takes d q (messages.PcReq (a ∷ [])) all) older) (sym this.0)
          (crowded d q x (Takes d q (messages.PcReq (a ∷ [])) all) older (record {
            taking = record { before = before; meets = meets; asked = a; os = all; takes = refl; request = r; admitted = ap (c.check a) up ∙ is; id = sym this.1; wanted = w; for_path = wish };
            full = subst (λ (b : Bool). cond b (IsFull before.parent.pending) (IsFull (before.elements d).pending)) (sym (ap (λ (z : As). same_as z parent_as) up)) full;
          }))

      above_full : (up : d ≡ parent_as) (b : As) → q ≡ Inner b → (ns : List Notice) (all : List Output) → Within (Takes d q (messages.PcNtf ns) all ∷ older) now → Passes c n before event d q (messages.PcNtf ns) → (y flags' : ℕ) → messages.PcNtf ns ≡ busy flags' y → OnNotice (WaitsAbove before.parent q y) ((1, 2) ∷ []) all →
          In out all → Full (Takes d q (messages.PcNtf ns) all)
      above_full up b is ns all within passes y flags' same (noted_for_nobody none eq) i = nothing all eq i
      above_full up b is ns all within passes y flags' same (of_other_kind miss eq) i = nothing all eq i
      above_full up b is ns all within passes y flags' same (next_is_full a hit w eq) i =
          subst (λ (z : Peer). Full (Takes d z (messages.PcNtf ns) all)) (sym is) (subst (λ (m : Message). Full (Takes d (Inner b) m all)) (sym same)
          (hears b flags' y all (subst (λ (m : Message). Within (Takes d (Inner b) m all ∷ older) now) same (subst (λ (z : Peer). Within (Takes d z (messages.PcNtf ns) all ∷ older) now) is within))
          g.0 (still ns passes o.0 g.0 o.1 (opened_as a w.row.1.key.peer w.row.1.item.flags w.row.1.key.id g.0 (this_one a.peer a.flags a.id (subst (In out) eq i)) w.asked (ap (λ (z : As). opened c z w.row.1.key.peer w.row.1.key.id (deeds_of c n entries)) up ∙ g.1)))
          w.row.1.item.wanted w.wait.target (w.wait.child ∷ []) sent))
        where
          o : (at : Transcript) × (opened c d p x older ≡ Some at)
          o = open_then q ns all within i

          g : (at' : Transcript) × (opened c parent_as w.row.1.key.peer w.row.1.key.id (deeds_of c n entries) ≡ Some at') × IsFilled c (λ (v : Wanted). parent.errands (family n).links v.target (family n).children) (deeds_of c n entries) at' w.row.1.item
          g = run_gathers c n entries before run' (run_single c n codec entries before run' (every_written c codec n net entries before run' short')) w.row (table.in_of w.row before.parent.pending.rows w.is_row)

          waits : (w.wait.peer ≡ Inner w.wait.child) × SentIn g.0 parent_as (Inner w.wait.child) (request_message w.wait.id w.row.1.item.wanted w.wait.target (w.wait.child ∷ []))
          waits = g.2.waits w.wait (table.in_of w.wait w.row.1.item.waits w.is_wait)

          to : Inner w.wait.child ≡ Inner b
          to = sym waits.0 ∙ w.peer ∙ is

          sent : SentIn g.0 d (Inner b) (request_message y w.row.1.item.wanted w.wait.target (w.wait.child ∷ []))
          sent = subst (λ (z : As). SentIn g.0 z (Inner b) (request_message y w.row.1.item.wanted w.wait.target (w.wait.child ∷ []))) (sym up) (subst (λ (z : ℕ). SentIn g.0 parent_as (Inner b) (request_message z w.row.1.item.wanted w.wait.target (w.wait.child ∷ []))) w.id
              (subst (λ (z : Peer). SentIn g.0 parent_as z (request_message w.wait.id w.row.1.item.wanted w.wait.target (w.wait.child ∷ []))) to waits.1))

      parent_full : (up : d ≡ parent_as) (m : Message) (all : List Output) → Meets c n es s run (Takes d q m all) older before → Within (Takes d q m all ∷ older) now → IsAlone m → Passes c n before event d q m → OnsAbove (parts m) all → In out all → Full (Takes d q m all)
      parent_full up (messages.PcReq []) all meets within alone' passes on i = nothing all on i
      parent_full up (messages.PcReq (a ∷ [])) all meets within alone' passes on i = above_request a all on.0 meets up on.3 (subst (In out) (on.2 ∙ ap (λ (l : List Output). on.0 ++ l) on.4 ∙ nil_right on.0) i)
      parent_full up (messages.PcReq (a ∷ b ∷ rest)) all meets within alone' passes on i = absurd (omega (arith, alone'))
      parent_full up (messages.PcRep []) all meets within alone' passes on i = nothing all on i
      parent_full up (messages.PcRep (r ∷ [])) all meets within alone' passes on i =
          reply_none Parent (λ k'. WaitsAbove k' q) (OnRequestAbove c n q) (λ m' k'. (parent.take c (family n) q m' k').parent) false q r before.parent on.0 on.3 (subst (In out) (on.2 ∙ ap (λ (l : List Output). on.0 ++ l) on.4 ∙ nil_right on.0) i)
      parent_full up (messages.PcRep (a ∷ b ∷ rest)) all meets within alone' passes on i = absurd (omega (arith, alone'))
      parent_full up (messages.PcErr reports) all meets within alone' passes on i = failed_none Parent (λ k'. WaitsAbove k' q) (OnRequestAbove c n q) (λ m' k'. (parent.take c (family n) q m' k').parent) false q reports before.parent all on i
      parent_full up (messages.PcNtf ns) all meets within alone' passes on i = by q refl
        where
          by : (z : Peer) → q ≡ z → Full (Takes d q (messages.PcNtf ns) all)
          by (Outside j) is =
              absurd (none_outside n net c codec es s run j (messages.PcNtf ns) all older (subst (λ (z : As). Within (Takes z (Outside j) (messages.PcNtf ns) all ∷ older) now) up (subst (λ (z : Peer). Within (Takes d z (messages.PcNtf ns) all ∷ older) now) is within)))
          by (Inner b) is =
              let h = heard b ns all (subst (λ (z : Peer). Within (Takes d z (messages.PcNtf ns) all ∷ older) now) is within) in
              above_full up b is ns all within passes h.1 h.0 h.2
              (one_notice Parent (λ k'. WaitsAbove k' q) (OnRequestAbove c n q) (λ m' k'. (parent.take c (family n) q m' k').parent) false q h.0 h.1 (messages.PcNtf ns) before.parent all h.2 on) i
      parent_full up (messages.Open body) all meets within alone' passes on i = nothing all on i
      parent_full up messages.Keepalive all meets within alone' passes on i = nothing all on i
      parent_full up (messages.Close why) all meets within alone' passes on i = nothing all on i
      parent_full up (messages.Other kind) all meets within alone' passes on i = nothing all on i

    -- ---- each deed

    solved_full : (before : Plant) (deed : PlantDeed) → Meets c n es s run deed older before → (k' : ℕ) (t : ElementTells c n before d k' (deed ∷ [])) → In out (record { to = t.held.key.peer; message = t.message } ∷ []) → Full deed
    solved_full before deed meets k' t i = go (is_client t.held.item.class) refl
      where
        said : (m : Message) → t.message ≡ m → In out (record { to = t.held.key.peer; message = m } ∷ [])
        said m eq = subst (λ (z : Message). In out (record { to = t.held.key.peer; message = z } ∷ [])) eq i

        client : TellsClient c (k', t.held) t.down t.rows t.message → Full deed
        client (its_path b one at eq) = not_said t.held.key.peer _ refl (said _ eq)
        client (no_pair none eq) = not_said t.held.key.peer _ refl (said _ eq)

        closed : is_client t.held.item.class ≡ false → TellsClosed c (place n d) (k', t.held) t.down before.clock (before.elements d).keys t.rows.best t.message → Full deed
        closed is (branches some few eq) = not_said t.held.key.peer _ refl (said _ eq)
        closed is (no_branch none eq) = not_said t.held.key.peer _ refl (said _ eq)
        closed is (lacks_keys few eq) =
            let this = this_one t.held.key.peer t.held.item.flags t.held.key.id (said _ eq) in
            lacks d p x deed older (record { before = before; meets = meets; number = k'; tells = t; peer = sym this.0; id = sym this.1; closed = is; few = few })

        go : (b : Bool) → is_client t.held.item.class ≡ b → Full deed
        go true is = client (t.to_client is)
        go false is = closed is (t.to_closed is)

    upper_none : {X : Type 0} (h : AskingRow) (answer : Option Found) (q : Peer) (m : Message) → TellsUpper c h answer m → In out (record { to = q; message = m } ∷ []) → X
    upper_none h answer q m (found_walk f some eq) i = not_said q m (ap is_ntf eq) i
    upper_none h answer q m (no_walk none eq) i = not_said q m (ap is_ntf eq) i

    deed_full : (deed : PlantDeed) → Within (deed ∷ older) now → (one : HasOne c n deed older) → Meets c n es s run deed older one.before → In out (outputs_at d deed) → Full deed
    deed_full (Takes at q m os) within one meets i =
        let here = at_here d out at os i in
        let alone' = takes_alone c codec n es s run (all_read c codec now written) at q m os older within in
        subst (λ (z : As). Fills c n (run_of c n es s run) d p x (Takes z q m os) older) (sym here.0)
        (go here.0 (subst (λ (z : As). Meets c n es s run (Takes z q m os) older one.before) here.0 meets) (subst (λ (z : As). Within (Takes z q m os ∷ older) now) here.0 within) alone' (subst (λ (z : As). Passes c n one.before one.event z q m) here.0 one.cause.0) here.1 one.cause.1)
      where
        go : at ≡ d → Meets c n es s run (Takes d q m os) older one.before → Within (Takes d q m os ∷ older) now → IsAlone m → Passes c n one.before one.event d q m → In out os → OnPassed c n one.before one.event at q m os → Full (Takes d q m os)
        go is meets' within' alone' passes i' (by_parent up on) = parent_full q one.entries one.before one.run one.short one.earlier one.is_then one.event one.causes (sym is ∙ same_as_is at parent_as up) m os meets' within' alone' passes on i'
        go is meets' within' alone' passes i' (by_element down on) =
            element_full q one.entries one.before one.run one.short one.earlier one.is_then one.event one.causes (ap (λ (z : As). same_as z parent_as) (sym is) ∙ down) (one.before.current at) m os meets' within' alone' passes
            (subst (λ (z : As). OnMessage c n z (one.before.current at) q one.before.clock m (one.before.elements z) os) is on) i'
    deed_full (Downs at q os) within one meets i = go (same_as at parent_as) one.cause (at_here d out at os i).1
      where
        go : (b : Bool) → cond b (AnswersLost (IsLostAbove q) asker_above (left_above one.before.parent.pending.rows one.earlier) os)
            (AnswersLost (IsLost q) asker_of (left_rows at (one.before.elements at).pending.rows one.earlier) os) → In out os → Full (Downs at q os)
        go true lost' i' = none_lost (IsLostAbove q) asker_above (left_above one.before.parent.pending.rows one.earlier) os lost' i'
        go false lost' i' = none_lost (IsLost q) asker_of (left_rows at (one.before.elements at).pending.rows one.earlier) os lost' i'
    deed_full (Solves at k os keys) within one meets i = go (at_here d out at os i) one.cause
      where
        go : (at ≡ d) × In out os → OfSolve c n one.before one.event (Solves at k os keys) → Full (Solves at k os keys)
        go here (of_element d' k' ev tells) =
            let one' : Solves at k os keys ≡ Solves d' k' (record { to = tells.held.key.peer; message = tells.message } ∷ []) tells.keys = ap (head_of (Solves at k os keys)) tells.sends_one in
            let there : d' ≡ d = sym (ap (solver d) one') ∙ here.0 in
            (subst (λ (z : As). (t : ElementTells c n one.before z k' (Solves at k os keys ∷ [])) → In out (record { to = t.held.key.peer; message = t.message } ∷ []) → Full (Solves at k os keys)) (sym there)
            (λ t i'. solved_full one.before (Solves at k os keys) meets k' t i')) tells (subst (In out) (ap outs one') here.1)
        go here (of_parent k' ev tells) =
            let one' : Solves at k os keys ≡ Solves parent_as k' (record { to = tells.held.key.peer; message = tells.message } ∷ []) [] = ap (head_of (Solves at k os keys)) tells.sends_one in
            upper_none (k', tells.held) tells.answer tells.held.key.peer tells.message tells.tells (subst (In out) (ap outs one') here.1)
    deed_full (Says at o) within one meets i = go (at_here d out at (o ∷ []) i).1 one.cause
      where
        go : In out (o ∷ []) → OfSession c n one.before one.event one.earlier at o → Full (Says at o)
        go i' (by_table x' came o' comes acts eq) = not_said o.to o.message (ap is_ntf eq ∙ own_none o') i'
        go i' (anew a b sid cleared sides eq) = not_said o.to o.message (ap is_ntf eq) i'
    deed_full (Loads at g) within one meets i = absurd i
    deed_full (Pops a b) within one meets i = absurd i
    deed_full (Ups at q) within one meets i = absurd i
    deed_full (Clears a b) within one meets i = absurd i
    deed_full (Expires t) within one meets i = absurd i
    deed_full (Hands j bytes) within one meets i = absurd i

  -- the first messages are no notices
  opening_none : {X : Type 0} (d : As) (deed : PlantDeed) → IsOpening deed → In out (outputs_at d deed) → X
  opening_none d (Says at o) is i = not_said o.to o.message (ap is_ntf is) (at_here d out at (o ∷ []) i).1
  opening_none d _ is i = absurd is

module _ (c : Codec) (codec : IsCodec c) (n : NetworkParts) (net : IsNetwork n) (es : List Entry) (s : Plant) (run : Run c n es s) (written : AllSent IsWritten (deeds_of c n es)) (short : IsShort (deeds_of c n es)) where
  abbrev Before : Transcript → Type 0
  Before older = (d b : As) (x flags : ℕ) (deed : PlantDeed) (older' : Transcript) → Within (deed ∷ older') older → In {A = Output} (record { to = Inner d; message = busy flags x }) (outputs_at b deed) → Fills c n (run_of c n es s run) b (Inner d) x deed older'

  step : (d : As) (p : Peer) (x flags : ℕ) (deed : PlantDeed) (older : Transcript) → Within (deed ∷ older) (deeds_of c n es) → In {A = Output} (record { to = p; message = busy flags x }) (outputs_at d deed) → Before older → Fills c n (run_of c n es s run) d p x deed older
  step d p x flags deed older within i before = elim (moment_met c n es s run short deed older within) [
    | inl got ↦ deed_full p x flags c codec n net es s run written short d older (λ b x' flags' deed' older'. before d b x' flags' deed' older') deed within got.0 got.1 i
    | inr first ↦ opening_none p x flags d deed first i
  ]

  by_length : (most : ℕ) (d : As) (p : Peer) (x flags : ℕ) (deed : PlantDeed) (older : Transcript) → length older ≤ most → Within (deed ∷ older) (deeds_of c n es) → In {A = Output} (record { to = p; message = busy flags x }) (outputs_at d deed) → Fills c n (run_of c n es s run) d p x deed older
  by_length zero d p x flags deed older few within i = step d p x flags deed older within i (λ d' b x' flags' deed' older' within' i'. absurd (let less = within_length (deed' ∷ older') older within' in omega (arith, less, few)))
  by_length (suc most) d p x flags deed older few within i =
      step d p x flags deed older within i
      (λ d' b x' flags' deed' older' within' i'.
      by_length most b (Inner d') x' flags' deed' older' (let less = within_length (deed' ∷ older') older within' in omega (arith, less, few))
      (within_trans (deed' ∷ older') older (deeds_of c n es) within' (within_tail deed older (deeds_of c n es) within)) i')

pub full_for_reasons : WrittenNetIds FullForReasonsIn
full_for_reasons c codec n net es s run written short run' d p x flags deed older within has = by_length c codec n net es s run' written short (length older) d p x flags deed older (omega arith) within (in_at _ (outputs_at d deed) has)
