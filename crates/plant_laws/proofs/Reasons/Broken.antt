-- A reply that the chain is not available has a reason on the way of its request.
use Rattle.std.proofs.Common.{◌≡◌, ◌≢◌, ◌≤◌, ℕ, zero, suc, Bool, true, false, cond, List, [], ◌∷◌, ◌++◌, length, map, eq-eqb, sym, ◌∙◌, ap, subst, inl, inr, refl, arith}
use Rattle.std.specs.Prelude.{◌⊎◌, Option, Some, None}
use Rattle.plant_model.specs.Types.{As, Addr, Peer, Outside, Inner, Object, Asked, ErrorReport, Answer, Message, Notice, Reply, Wanted, Own, NetworkParts}
use Rattle.pcep_codes.specs.declared.errors.TheConstants as errors
use Rattle.pcep_codes.specs.declared.kinds.TheConstants as object_types
use Rattle.pcep_messages.specs.declared.message.Message.TheVariants as messages
use Rattle.pcep_messages.specs.Spelling.{IsWritten}
use Rattle.pcep_session.specs.declared.actions.Own.TheVariants as own
use Rattle.request_table.specs.Pending.{same_peer}
use Rattle.plant_text.specs.Names.{same_as, parent_as}
use Rattle.plant_text.specs.Settings.{class_of, is_linked}
use Rattle.disclosure.specs.Shown.{open_of}
use Rattle.plant_model.specs.declared.event.Event.{Event}
use Rattle.plant_model.specs.declared.output.Output.{Output}
use Rattle.plant_model.specs.Names.{the_parent}
use Rattle.plant_model.specs.Wire.{Codec}
use Rattle.plant_model.specs.Laws.{IsCodec, IsNetwork}
use Rattle.plant_model.specs.Writing.{request_message, no_path, unavailable, ends_kind}
use Rattle.plant_model.specs.Element.{Stage, Waits, Element, Row, way_to, is_client}
use Rattle.plant_model.specs.Taking.{take}
use Rattle.plant_model.specs.Parent as parent
use Rattle.plant_model.specs.Parent.{AskingRow, Parent, is_up}
use Rattle.plant_model.specs.BorderGraph.{Found}
use Rattle.plant_model.specs.Settings.{place, family}
use Rattle.plant_model.specs.State.{Loads, Pops, Takes, Says, Ups, Downs, Clears, Solves, Expires, Hands}
use Rattle.plant_model.specs.Deeds.{own_message}
use Rattle.plant_model.specs.Plant.{Pin, Segment, Plant, PlantDeed, Entry, Run, deeds_of}
use Rattle.plant_laws.specs.About.{IsShort}
use Rattle.plant_laws.specs.Broken.{WentDown, IsRefusedAbove, Breaks, stopped, lost, refused, further, outside, outside_error, stopped_above, lost_above as lost_child, of_child, BrokenForReasonsIn}
use Rattle.plant_laws.specs.WentOn.{WentOn}
use Rattle.plant_laws.specs.Causes.{IsLost, IsLostAbove, AnswersLost, asker_of, asker_above, left_rows, left_above, Passes, from_outside, from_inside, OnPassed, by_element, by_parent, OfSession, by_table, anew, OfSolve, of_element, of_parent as of_upper, HaveCauses}
use Rattle.plant_laws.specs.Matched.{Answering, ends, at_once, IsReplyTo}
use Rattle.plant_laws.specs.Met.{run_of, Meets}
use Rattle.plant_laws.specs.MessageCauses.{Asker, replied, WaitsAt, WaitsAbove, TellsOfPaths, OnReply, unknown, goes_on, is_kept, is_broken, OnNotice, next_is_full, noted_for_nobody, of_other_kind, GoesTo, OnPath, ends_here, no_session, is_refused, sent_on, OnRequest, wrong, again, key_shown, key_refused, no_room, for_path, AreAsked, OnRequestAbove, wrong_above, again_above, key_above, no_room_above, child_down, all_asked, OnError, failed_for_nobody, of_reply, out_of_profile, other_error, Part, Notes, Fails, alone, noted, failed, parts, OnParts, OnMessage}
use Rattle.plant_laws.specs.Sending.{AllSent}
use Rattle.plant_laws.specs.Solves.{ElementTells, TellsClient, its_path, no_pair, TellsClosed, branches, no_branch, lacks_keys, TellsUpper, found as found_walk, no_walk}
use Rattle.plant_laws.specs.Transcript.{Transcript, Within, SentIn, opened, answers_to, outputs_at}
use Rattle.plant_laws.proofs.WrittenForm.Again.{all_read}
use Rattle.plant_laws.proofs.Once.Alone.{takes_alone}
use Rattle.plant_laws.proofs.Once.Besides.{besides_asking, answers_in}
use Rattle.plant_laws.proofs.Numbering.Counted.{element_ids_differ}
use Rattle.plant_laws.proofs.Runs.Decompose.{nil_right}
use Rattle.plant_laws.proofs.Once.AskedRuns.{none_outside}
use Rattle.plant_laws.specs.Errors.{IsInnerError, names_none, answers_reply, refuses_ipv6, fails}
use Rattle.plant_laws.proofs.Reasons.ErrorParts.{unknown_fine, one_error}
use Rattle.plant_laws.proofs.Reasons.Errors.{told_of}
use Rattle.plant_laws.proofs.Reasons.Stood.{put_before}
use Rattle.plant_laws.proofs.Reasons.Went.{went_on}
use Rattle.plant_laws.proofs.Reasons.Heard.{HearsError, hears_error}
use Rattle.plant_laws.proofs.Reasons.ErrorsTaken.{hears_inner}
use Rattle.plant_laws.proofs.WrittenForm.EveryWritten.{every_written}
use Rattle.plant_laws.proofs.Least.FromElement.{within_tail}
use Rattle.plant_laws.proofs.Least.GatheredRuns.{run_gathers}
use Rattle.plant_laws.proofs.Least.Gathers.{IsFilled}
use Rattle.plant_laws.proofs.Runs.NoLoops.{not_to_itself}
use Rattle.plant_laws.proofs.Once.Opened.{AreSingle}
use Rattle.plant_laws.proofs.Once.Founded.{founded_within, run_founded}
use Rattle.plant_laws.proofs.Once.Handing.{In, IsAsk, handed_within}
use Rattle.plant_laws.proofs.Once.Matched.{reply_counts, replies_answer}
use Rattle.plant_laws.proofs.Reasons.MomentCauses.{HasOne, IsOpening, CausedIn, moment_met, outs, solver, head_of, in_two, at_here}
use Rattle.plant_laws.proofs.Runs.Moments.{within_trans, within_length, opened_within}
use Rattle.plant_laws.proofs.Reasons.PartCauses.{contains_at, in_at, not_both}
use Rattle.plant_laws.proofs.Runs.Queues.{same_as_is}
use Rattle.plant_laws.proofs.WrittenForm.ReadBack.{run_single}
use Rattle.plant_laws.proofs.Runs.Rows as table
use Rattle.plant_laws.proofs.Numbering.Sends.{IsAlone}
use Rattle.plant_laws.proofs.Numbering.SentOn.{same_peer_is}
use Rattle.plant_laws.proofs.Once.StillOpen.{still_open}
use Rattle.plant_laws.proofs.Least.Subsides.{in_filtered}
use Rattle.plant_laws.proofs.Settled.Fallen.{IsFallen, run_fallen, fallen_within}
use Rattle.plant_laws.proofs.Settled.Waits.{SentAt, IsSentOn}
use Rattle.plant_laws.proofs.WrittenForm.WhereWritten.{WrittenNetIds}

-- ---- replies among what is said

abbrev pub is_rep : Message → Bool
is_rep (messages.PcRep replies) = true
is_rep (messages.Open body) = false
is_rep messages.Keepalive = false
is_rep (messages.PcReq asks) = false
is_rep (messages.PcNtf notices) = false
is_rep (messages.PcErr reports) = false
is_rep (messages.Close why) = false
is_rep (messages.Other kind) = false

abbrev pub reply_of : Reply → Message → Reply
reply_of r (messages.PcRep []) = r
reply_of r (messages.PcRep (x ∷ rest)) = x
reply_of r (messages.Open body) = r
reply_of r messages.Keepalive = r
reply_of r (messages.PcReq asks) = r
reply_of r (messages.PcNtf notices) = r
reply_of r (messages.PcErr reports) = r
reply_of r (messages.Close why) = r
reply_of r (messages.Other kind) = r

own_none : (o : Own) → is_rep (own_message o) ≡ false
own_none (own.Open offer) = refl
own_none own.Keepalive = refl
own_none (own.Error kind value) = refl
own_none (own.Close why) = refl

none_tells : (a b : Bool) → TellsOfPaths (no_path a b)
none_tells true true = refl
none_tells true false = refl
none_tells false true = refl
none_tells false false = refl

-- the type of END-POINTS of a request
abbrev second_kind : List Object → ℕ
second_kind (x ∷ y ∷ rest) = y.kind
second_kind (x ∷ []) = 0
second_kind [] = 0

abbrev ends_kind_in : Message → ℕ
ends_kind_in (messages.PcReq (a ∷ rest)) = second_kind a.objects
ends_kind_in (messages.PcReq []) = 0
ends_kind_in (messages.PcRep replies) = 0
ends_kind_in (messages.Open body) = 0
ends_kind_in messages.Keepalive = 0
ends_kind_in (messages.PcNtf notices) = 0
ends_kind_in (messages.PcErr reports) = 0
ends_kind_in (messages.Close why) = 0
ends_kind_in (messages.Other kind) = 0

-- what falls leave of rows is among them
above_left : (rows : List AskingRow) (earlier : Transcript) (h : AskingRow) → table.In h (left_above rows earlier) → table.In h rows
above_left rows [] h i = i
above_left rows (Downs at q os ∷ earlier) h i = go (same_as at parent_as) i (above_left rows earlier h)
  where
    go : (b : Bool) → table.In h (cond b (parent.kept q (left_above rows earlier)) (left_above rows earlier)) → (table.In h (left_above rows earlier) → table.In h rows) → table.In h rows
    go true i' rec = rec (in_filtered (parent.stays q) (left_above rows earlier) h i')
    go false i' rec = rec i'
above_left rows (Loads at g ∷ earlier) h i = above_left rows earlier h i
above_left rows (Pops a b ∷ earlier) h i = above_left rows earlier h i
above_left rows (Takes at q m os ∷ earlier) h i = above_left rows earlier h i
above_left rows (Says at o ∷ earlier) h i = above_left rows earlier h i
above_left rows (Ups at q ∷ earlier) h i = above_left rows earlier h i
above_left rows (Clears a b ∷ earlier) h i = above_left rows earlier h i
above_left rows (Solves at k os keys ∷ earlier) h i = above_left rows earlier h i
above_left rows (Expires t ∷ earlier) h i = above_left rows earlier h i
above_left rows (Hands j bytes ∷ earlier) h i = above_left rows earlier h i

-- the moment that sent what is answered was before
answered_within : (c : Codec) (a b : As) (y : ℕ) (sending : Transcript) (deed : PlantDeed) (older now : Transcript) → Within (deed ∷ older) now → Answering c a b y sending deed older → Within sending now
answered_within c a b y sending deed older now within (ends at is_open ends' handed) =
    handed_within a b sending at now handed (within_trans at older now (opened_within c b (Inner a) y older at is_open) (within_tail deed older now within))
answered_within c a b y sending deed older now within (at_once asks os is handed) = handed_within a b sending (deed ∷ older) now handed within

module _ (p : Peer) (r : Reply) (broken : ¬ TellsOfPaths r.answer) where
  abbrev out : Output
  out = record { to = p; message = messages.PcRep (r ∷ []) }

  not_said : {X : Type 0} (q : Peer) (m : Message) → is_rep m ≡ false → In out (record { to = q; message = m } ∷ []) → X
  not_said q m none (inl is) = not_both (is_rep m) (sym (ap (λ (o : Output). is_rep o.message) is)) none
  not_said q m none (inr no') = absurd no'

  -- the one reply that is said
  record IsThis (a : Asker) (answer : Answer) : Type 0 where
    pub peer : p ≡ a.peer
    pub id : r.id ≡ a.id
    pub answer' : r.answer ≡ answer

  this_one : (a : Asker) (answer : Answer) → In out (replied a answer) → IsThis a answer
  this_one a answer (inl is) =
      let same : r ≡ record { flags = a.flags; id = a.id; answer = answer } = ap (λ (o : Output). reply_of r o.message) is in
      record { peer = ap (λ (o : Output). o.to) is; id = ap (λ (x : Reply). x.id) same; answer' = ap (λ (x : Reply). x.answer) same }
  this_one a answer (inr no') = absurd no'

  tells_not : {X : Type 0} (a : Asker) (answer : Answer) → TellsOfPaths answer → In out (replied a answer) → X
  tells_not a answer tells i = absurd (broken (subst TellsOfPaths (sym (this_one a answer i).answer') tells))

  nothing : {X : Type 0} (os : List Output) → os ≡ [] → In out os → X
  nothing os none i = absurd (let i' : In out [] = subst (In out) none i in i')

  -- a request that was lost
  record WasLost (q : Peer) (rows : List (Row Pin)) : Type 0 where
    pub row : Row Pin
    pub there : table.In row rows
    pub lost' : IsLost q row
    pub this : IsThis (asker_of row) unavailable

  lost_one : (q : Peer) (rows : List (Row Pin)) (os : List Output) → AnswersLost (IsLost q) asker_of rows os → In out os → WasLost q rows
  lost_one q [] os none i = nothing os none i
  lost_one q (h ∷ hs) os (inr kept') i = (let more = lost_one q hs os kept'.1 i in record { row = more.row; there = inr more.there; lost' = more.lost'; this = more.this })
  lost_one q (h ∷ hs) os (inl is) i = go (subst (In out) is.2 i) (lost_one q hs is.1 is.3)
    where
      go : In out (replied (asker_of h) unavailable ++ is.1) → (In out is.1 → WasLost q hs) → WasLost q (h ∷ hs)
      go (inl same) more = record { row = h; there = inl refl; lost' = is.0; this = this_one (asker_of h) unavailable (inl same) }
      go (inr later) more = (let next = more later in record { row = next.row; there = inr next.there; lost' = next.lost'; this = next.this })

  -- a notice tells of no paths
  module _ (K : Type 0) (Waiting : K → ℕ → Asker → Type 0) (OnAsked : Asked → K → List Output → Type 0) (left : Message → K → K) (of_parent' : Bool) (q : Peer) where
    note_none : {X : Type 0} (kinds : List (ℕ × ℕ)) (rp : ℕ × ℕ) (k : K) (os : List Output) → OnNotice (Waiting k rp.1) kinds os → In out os → X
    note_none kinds rp k os (next_is_full a busy' w is) i = not_said a.peer _ refl (subst (In out) is i)
    note_none kinds rp k os (noted_for_nobody none is) i = nothing os is i
    note_none kinds rp k os (of_other_kind miss is) i = nothing os is i

    notes_none : {X : Type 0} (kinds : List (ℕ × ℕ)) (ids : List (ℕ × ℕ)) (more : List Part) (k : K) (os : List Output) →
        ((k' : K) (os' : List Output) → OnParts K Waiting OnAsked left of_parent' q more k' os' → In out os' → X) → OnParts K Waiting OnAsked left of_parent' q (map (Notes kinds) ids ++ more) k os → In out os → X
    notes_none kinds [] more k os rest on i = rest k os on i
    notes_none kinds (rp ∷ ids) more k os rest on i = elim (in_two out on.0 on.1 (subst (In out) on.2 i)) [
      | inl first ↦ note_none kinds rp k on.0 on.3 first
      | inr second ↦ notes_none kinds ids more (left (alone (Notes kinds rp)) k) on.1 rest on.4 second
    ]

    noted_none : {X : Type 0} (ns : List Notice) (k : K) (os : List Output) → OnParts K Waiting OnAsked left of_parent' q (noted ns) k os → In out os → X
    noted_none [] k os on i = nothing os on i
    noted_none (m ∷ ms) k os on i = notes_none m.kinds m.ids (noted ms) k os (λ k' os' on' i'. noted_none ms k' os' on' i') on i

  -- ---- what is said by a deed of d

  module _ (c : Codec) (codec : IsCodec c) (n : NetworkParts) (es : List Entry) (s : Plant) (run : Run c n es s) (written : AllSent IsWritten (deeds_of c n es)) (d : As) (older : Transcript) where
    -- what d says is said by its deed
    flipped : (os : List Output) → In out os → table.In out os
    flipped [] i = i
    flipped (o ∷ os) (inl same) = inl (sym same)
    flipped (o ∷ os) (inr more) = inr (flipped os more)

    said_own : (os : List Output) → In out os → table.In out (cond (same_as d d) os [])
    said_own os i = subst (λ (b : Bool). table.In out (cond b os [])) (sym (eq-eqb d.0 d.0 refl)) (flipped os i)

    says_in : (q : Peer) (m : Message) (os : List Output) → (IsAsk m → ⊥) → In out os → 1 ≤ answers_in d p r.id (Takes d q m os)
    says_in q m os asks i = go m asks (reply_counts p r (cond (same_as d d) os []) (said_own os i))
      where
        go : (m : Message) → (IsAsk m → ⊥) → 1 ≤ answers_to p r.id (cond (same_as d d) os []) → 1 ≤ besides_asking p q m (answers_to p r.id (cond (same_as d d) os []))
        go (messages.PcReq asked) asks' some = absurd (asks' tt)
        go (messages.PcRep replies) asks' some = some
        go (messages.PcNtf notices) asks' some = some
        go (messages.PcErr reports) asks' some = some
        go (messages.Open body) asks' some = some
        go messages.Keepalive asks' some = some
        go (messages.Close why) asks' some = some
        go (messages.Other kind) asks' some = some

    -- so the request is open
    open_then : (deed : PlantDeed) → Within (deed ∷ older) (deeds_of c n es) → 1 ≤ answers_in d p r.id deed → (at : Transcript) × (opened c d p r.id older ≡ Some at)
    open_then deed within some =
        let f = (founded_within c (deeds_of c n es) (run_founded c n es s run (run_single c n codec es s run written)) deed older within).found d p r.id some in
        (f.0, f.1)

    solve_broken : (before : Plant) (k : ℕ) (tells : (k' : ℕ) × (deeds : Transcript) × ElementTells c n before d k' deeds) (m : Message) → m ≡ tells.2.message → In out (record { to = tells.2.held.key.peer; message = m } ∷ []) → ⊥
    solve_broken before k tells m is i = go (is_client tells.2.held.item.class) refl
      where
        client : TellsClient c (tells.0, tells.2.held) tells.2.down tells.2.rows tells.2.message → ⊥
        client (its_path b one at eq) = tells_not (record { peer = tells.2.held.key.peer; flags = tells.2.held.item.flags; id = tells.2.held.key.id }) _ tt (subst (λ (z : Message). In out (record { to = tells.2.held.key.peer; message = z } ∷ [])) (is ∙ eq) i)
        client (no_pair none eq) =
            tells_not (record { peer = tells.2.held.key.peer; flags = tells.2.held.item.flags; id = tells.2.held.key.id }) _ (none_tells tells.2.rows.source_known tells.2.rows.target_known)
            (subst (λ (z : Message). In out (record { to = tells.2.held.key.peer; message = z } ∷ [])) (is ∙ eq) i)

        closed : TellsClosed c (place n d) (tells.0, tells.2.held) tells.2.down before.clock (before.elements d).keys tells.2.rows.best tells.2.message → ⊥
        closed (branches some few eq) = tells_not (record { peer = tells.2.held.key.peer; flags = tells.2.held.item.flags; id = tells.2.held.key.id }) _ tt (subst (λ (z : Message). In out (record { to = tells.2.held.key.peer; message = z } ∷ [])) (is ∙ eq) i)
        closed (no_branch none eq) = tells_not (record { peer = tells.2.held.key.peer; flags = tells.2.held.item.flags; id = tells.2.held.key.id }) _ refl (subst (λ (z : Message). In out (record { to = tells.2.held.key.peer; message = z } ∷ [])) (is ∙ eq) i)
        closed (lacks_keys few eq) = not_said tells.2.held.key.peer _ refl (subst (λ (z : Message). In out (record { to = tells.2.held.key.peer; message = z } ∷ [])) (is ∙ eq) i)

        go : (b : Bool) → is_client tells.2.held.item.class ≡ b → ⊥
        go true is' = client (tells.2.to_client is')
        go false is' = closed (tells.2.to_closed is')

  module _ (c : Codec) (codec : IsCodec c) (n : NetworkParts) (net : IsNetwork n) (es : List Entry) (s : Plant) (run : Run c n es s) (written : AllSent IsWritten (deeds_of c n es)) (short : IsShort (deeds_of c n es))
      (d : As) (real : d ≢ parent_as) (older : Transcript)
      (rec : (b : As) (r' : Reply) (deed' : PlantDeed) (older' : Transcript) → Within (deed' ∷ older') older →
      In {A = Output} (record { to = Inner d; message = messages.PcRep (r' ∷ []) }) (outputs_at b deed') → ¬ TellsOfPaths r'.answer → Breaks c n (run_of c n es s run) b (Inner d) r'.id deed' older') where
    abbrev Broke : Peer → ℕ → PlantDeed → Type 0
    Broke q x deed = Breaks c n (run_of c n es s run) d q x deed older

    -- the request that the parent refused is the one that went on
    ipv6_ends : (id : ℕ) (reports : List ErrorReport) → Within older (deeds_of c n es) → (went : WentOn c older d p r.id the_parent id) → IsRefusedAbove older d id reports → ends_kind went.wanted.source went.wanted.target ≡ object_types.END_POINTS_IPV6
    ipv6_ends id reports older_now went why =
        let asks = why.asks in
        let m = request_message id asks.wanted asks.wanted.target [] in
        let inside : Within (Takes parent_as (Inner d) m asks.os ∷ why.before) (deeds_of c n es) = subst (λ (e : PlantDeed). Within (e ∷ why.before) (deeds_of c n es)) asks.takes (within_trans (why.deed ∷ why.before) older (deeds_of c n es) why.within older_now) in
        let put = put_before c codec n net es s run written short d parent_as m asks.os why.before inside in
        let put_now = within_trans put.0 why.before (deeds_of c n es) put.1 (within_tail (Takes parent_as (Inner d) m asks.os) why.before (deeds_of c n es) inside) in
        let at_now = within_trans went.at older (deeds_of c n es) (opened_within c d p r.id older went.at went.is_open) older_now in
        let same = (element_ids_differ c codec n es s run written short put.0 went.at put_now at_now d parent_as real id asks.wanted went.wanted asks.wanted.target went.wanted.target [] went.rest put.2 went.sent).1 in
        sym (ap ends_kind_in same) ∙ asks.ipv6

    -- ---- a message is taken

    module _ (q : Peer) (entries : List Entry) (before : Plant) (run' : Run c n entries before) (short' : IsShort (deeds_of c n entries)) (earlier : Transcript) (is_then : older ≡ earlier ++ deeds_of c n entries)
        (event : Event) (causes : HaveCauses c n before event earlier) where
      abbrev k : Element Pin Segment
      k = before.elements d

      request_broken : (a : Asked) (os all : List Output) → Meets c n es s run (Takes d q (messages.PcReq (a ∷ [])) all) older before → OnRequest c n d q before.clock a k os → In out os → Broke p r.id (Takes d q (messages.PcReq (a ∷ [])) all)
      request_broken a os all meets (wrong rp kind value is eq) i = not_said q _ refl (subst (In out) eq i)
      request_broken a os all meets (again r0 number is hit eq) i = nothing os eq i
      request_broken a os all meets (key_shown r0 key pce segment is new wish behind eq) i = tells_not (record { peer = q; flags = r0.flags; id = r0.id }) _ tt (subst (In out) eq i)
      request_broken a os all meets (key_refused r0 key pce is new wish none eq) i = tells_not (record { peer = q; flags = r0.flags; id = r0.id }) _ refl (subst (In out) eq i)
      request_broken a os all meets (no_room r0 w is new wish full eq) i = not_said q _ refl (subst (In out) eq i)
      request_broken a os all meets (for_path r0 w is new wish room on) i = path on
        where
          asker : Asker
          asker = record { peer = q; flags = r0.flags; id = r0.id }

          stops_here : (next : Peer) (rest : List As) (denied : Bool) → GoesTo n d q w next rest denied → (denied ≡ true) ⊎ (is_up (way_to next k.ways) ≡ false) → In out (replied asker unavailable) →
              Broke p r.id (Takes d q (messages.PcReq (a ∷ [])) all)
          stops_here next rest denied goes stops i' =
              let this = this_one asker unavailable i' in
              subst (λ (z : Peer). Broke z r.id (Takes d q (messages.PcReq (a ∷ [])) all)) (sym this.peer)
              (stopped d q r.id (Takes d q (messages.PcReq (a ∷ [])) all) older (record {
                taking = record { before = before; meets = meets; asked = a; os = all; takes = refl; request = r0; admitted = is; id = sym this.id; wanted = w; for_path = wish };
                next = next;
                rest = rest;
                denied = denied;
                goes = goes;
                stops = stops;
              }))

          path : OnPath n d k asker w os → Broke p r.id (Takes d q (messages.PcReq (a ∷ [])) all)
          path (ends_here own' down along' eq) = nothing os eq i
          path (no_session next rest denied goes down eq) = stops_here next rest denied goes (inr down) (subst (In out) eq i)
          path (is_refused next rest goes eq) = stops_here next rest true goes (inl refl) (subst (In out) eq i)
          path (sent_on next rest way goes found up eq) = not_said next _ refl (subst (In out) eq i)

      -- the request that waits is the one that is open, and went on
      went : (m : Message) → Passes c n before event d q m → (IsAsk m → ⊥) → (at : Transcript) → opened c d p r.id older ≡ Some at → (y : ℕ) (a : Asker) → WaitsAt k q y a → p ≡ a.peer → r.id ≡ a.id → WentOn c older d p r.id q y
      went = went_on c codec n net d older q entries before run' earlier is_then event causes p r.id

      -- the reply is to that request, and its sender had a reason
      further_on : (r0 : Reply) (all : List Output) → Within (Takes d q (messages.PcRep (r0 ∷ [])) all ∷ older) (deeds_of c n es) → (b : As) → q ≡ Inner b → ¬ TellsOfPaths r0.answer → WentOn c older d p r.id q r0.id → Broke p r.id (Takes d q (messages.PcRep (r0 ∷ [])) all)
      further_on r0 all within b is not_told went =
          let went' = subst (λ (z : Peer). WentOn c older d p r.id z r0.id) is went in
          let within' = subst (λ (z : Peer). Within (Takes d z (messages.PcRep (r0 ∷ [])) all ∷ older) (deeds_of c n es)) is within in
          let said : IsReplyTo c older d b r0 = replies_answer c codec n es s run written short d b real r0 all older within' in
          let older_now = within_tail (Takes d (Inner b) (messages.PcRep (r0 ∷ [])) all) older (deeds_of c n es) within' in
          let sending_now = within_trans said.concerns.sending older (deeds_of c n es) (answered_within c d b r0.id said.concerns.sending said.deed said.older older said.within said.concerns.answering) older_now in
          let at_now = within_trans went'.at older (deeds_of c n es) (opened_within c d p r.id older went'.at went'.is_open) older_now in
          let same = (element_ids_differ c codec n es s run written short said.concerns.sending went'.at sending_now at_now d b real r0.id said.concerns.wanted went'.wanted said.concerns.target went'.wanted.target said.concerns.rest went'.rest said.concerns.sent went'.sent).0 in
          subst (λ (z : Peer). Broke p r.id (Takes d z (messages.PcRep (r0 ∷ [])) all)) (sym is)
          (further d b p r.id older r0 all not_told went' said same (rec b r0 said.deed said.older said.within (in_at _ (outputs_at b said.deed) said.said) not_told))

      reply_broken : (r0 : Reply) (os all : List Output) → Within (Takes d q (messages.PcRep (r0 ∷ [])) all ∷ older) (deeds_of c n es) → Passes c n before event d q (messages.PcRep (r0 ∷ [])) → (at : Transcript) → opened c d p r.id older ≡ Some at →
          OnReply (WaitsAt k q r0.id) (same_peer q the_parent) q r0 os → In out os → Broke p r.id (Takes d q (messages.PcRep (r0 ∷ [])) all)
      reply_broken r0 os all within passes at is_open (unknown none eq) i = not_said q _ refl (subst (In out) eq i)
      reply_broken r0 os all within passes at is_open (goes_on a w up eq) i =
          let this = this_one a r0.answer (subst (In out) eq i) in
          let above = same_peer_is q the_parent up in
          further_on r0 all within parent_as above (λ tells. broken (subst TellsOfPaths (sym this.answer') tells)) (went (messages.PcRep (r0 ∷ [])) passes (λ no. no) at is_open r0.id a w this.peer this.id)
      reply_broken r0 os all within passes at is_open (is_kept a w down tells eq) i = nothing os eq i
      reply_broken r0 os all within passes at is_open (is_broken a w down not_told eq) i = by q refl
        where
          on : WentOn c older d p r.id q r0.id
          on = (let this = this_one a unavailable (subst (In out) eq i) in went (messages.PcRep (r0 ∷ [])) passes (λ no. no) at is_open r0.id a w this.peer this.id)

          by : (z : Peer) → q ≡ z → Broke p r.id (Takes d q (messages.PcRep (r0 ∷ [])) all)
          by (Inner b) is = further_on r0 all within b is not_told on
          by (Outside j) is = subst (λ (z : Peer). Broke p r.id (Takes d z (messages.PcRep (r0 ∷ [])) all)) (sym is) (outside d j p r.id older r0 all not_told (subst (λ (z : Peer). WentOn c older d p r.id z r0.id) is on))

      -- an outside peer's error
      outside_broken : (j : ℕ) → q ≡ Outside j → (reports : List ErrorReport) (pin : Pin) (all : List Output) → Passes c n before event d q (messages.PcErr reports) → (at : Transcript) → opened c d p r.id older ≡ Some at →
          HearsError c n d pin q before.clock k out reports → Broke p r.id (Takes d q (messages.PcErr reports) all)
      outside_broken j is reports pin all passes at is_open h = elim h.says [
        | inl o ↦ not_said h.asker.peer _ refl o.1
        | inr o ↦
            let this = this_one h.asker unavailable o.2 in
            let on = went (messages.PcErr reports) passes (λ no. no) at is_open h.rp.1 h.asker h.waits this.peer this.id in
            subst (λ (z : Peer). Broke p r.id (Takes d z (messages.PcErr reports) all)) (sym is)
            (outside_error d j p r.id older reports h.error h.rp all (contains_at (Fails h.error h.rp) (failed reports) h.among) o.0 o.1 (subst (λ (z : Peer). WentOn c older d p r.id z h.rp.1) is on))
      ]

      -- the parent's refusal
      inner_broken : (b : As) → q ≡ Inner b → (reports : List ErrorReport) (pin : Pin) (all : List Output) → Within (Takes d q (messages.PcErr reports) all ∷ older) (deeds_of c n es) → Passes c n before event d q (messages.PcErr reports) → (at : Transcript) → opened c d p r.id older ≡ Some at →
          OnMessage c n d pin q before.clock (messages.PcErr reports) k all → In out all → Broke p r.id (Takes d q (messages.PcErr reports) all)
      inner_broken b is reports pin all within passes at is_open on i = elim
          (hears_inner c codec n net es s run written short d entries before run' short' b pin reports all older (subst (λ (z : Peer). Within (Takes d z (messages.PcErr reports) all ∷ older) (deeds_of c n es)) is within)
          (subst (λ (z : Peer). OnMessage c n d pin z before.clock (messages.PcErr reports) k all) is on)) [
            | inl none ↦ nothing all none i
            | inr (inr f) ↦ not_said f.asker.peer _ refl (subst (In out) f.says i)
            | inr (inl h) ↦
                let this = this_one h.asker unavailable (subst (In out) h.says i) in
                let w = subst (λ (z : Peer). WaitsAt k z h.id h.asker) (sym is) h.waits in
                let above = is ∙ h.above in
                let on' = subst (λ (z : Peer). WentOn c older d p r.id z h.id) above (went (messages.PcErr reports) passes (λ no. no) at is_open h.id h.asker w this.peer this.id) in
                subst (λ (z : Peer). Broke p r.id (Takes d z (messages.PcErr reports) all)) (sym above)
                (refused d p r.id older h.id reports all on' (ipv6_ends h.id reports (within_tail (Takes d q (messages.PcErr reports) all) older (deeds_of c n es) within) on' h.refused) h.refused)
          ]

      errors_broken : (reports : List ErrorReport) (pin : Pin) (all : List Output) → Within (Takes d q (messages.PcErr reports) all ∷ older) (deeds_of c n es) → Passes c n before event d q (messages.PcErr reports) → (at : Transcript) → opened c d p r.id older ≡ Some at →
          OnMessage c n d pin q before.clock (messages.PcErr reports) k all → In out all → Broke p r.id (Takes d q (messages.PcErr reports) all)
      errors_broken reports pin all within passes at is_open on i = by q refl
        where
          by : (z : Peer) → q ≡ z → Broke p r.id (Takes d q (messages.PcErr reports) all)
          by (Outside j) is = outside_broken j is reports pin all passes at is_open (hears_error c n d pin q before.clock reports k all out on i)
          by (Inner b) is = inner_broken b is reports pin all within passes at is_open on i

      message_broken : (m : Message) (pin : Pin) (all : List Output) → Meets c n es s run (Takes d q m all) older before → Within (Takes d q m all ∷ older) (deeds_of c n es) → Passes c n before event d q m → ((IsAsk m → ⊥) → (at : Transcript) × (opened c d p r.id older ≡ Some at)) → IsAlone m → OnMessage c n d pin q before.clock m k all → In out all →
          Broke p r.id (Takes d q m all)
      message_broken (messages.PcReq []) pin all meets within passes found alone' on i = nothing all on i
      message_broken (messages.PcReq (a ∷ [])) pin all meets within passes found alone' on i = request_broken a on.0 all meets on.3 (subst (In out) (on.2 ∙ ap (λ (l : List Output). on.0 ++ l) on.4 ∙ nil_right on.0) i)
      message_broken (messages.PcReq (a ∷ b ∷ rest)) pin all meets within passes found alone' on i = absurd (omega (arith, alone'))
      message_broken (messages.PcRep []) pin all meets within passes found alone' on i = nothing all on i
      message_broken (messages.PcRep (x ∷ [])) pin all meets within passes found alone' on i = reply_broken x on.0 all within passes (found (λ no. no)).0 (found (λ no. no)).1 on.3 (subst (In out) (on.2 ∙ ap (λ (l : List Output). on.0 ++ l) on.4 ∙ nil_right on.0) i)
      message_broken (messages.PcRep (x ∷ y ∷ rest)) pin all meets within passes found alone' on i = absurd (omega (arith, alone'))
      message_broken (messages.PcNtf notices) pin all meets within passes found alone' on i = noted_none (Element Pin Segment) (λ k'. WaitsAt k' q) (OnRequest c n d q before.clock) (λ m' k'. (take c open_of (place n d) pin q (class_of n q) before.clock m' k').element) (same_peer q the_parent) q notices k all on i
      message_broken (messages.PcErr reports) pin all meets within passes found alone' on i = errors_broken reports pin all within passes (found (λ no. no)).0 (found (λ no. no)).1 on i
      message_broken (messages.Open body) pin all meets within passes found alone' on i = nothing all on i
      message_broken messages.Keepalive pin all meets within passes found alone' on i = nothing all on i
      message_broken (messages.Close why) pin all meets within passes found alone' on i = nothing all on i
      message_broken (messages.Other kind) pin all meets within passes found alone' on i = nothing all on i

    -- ---- each deed

    below : (at : As) → at ≡ d → same_as at parent_as ≡ true → ⊥
    below at is up = real (sym is ∙ same_as_is at parent_as up)

    deed_broken : (deed : PlantDeed) → Within (deed ∷ older) (deeds_of c n es) → (one : HasOne c n deed older) → Meets c n es s run deed older one.before → In out (outputs_at d deed) → Broke p r.id deed
    deed_broken (Takes at q m os) within one meets i =
        let here = at_here d out at os i in
        let alone' = takes_alone c codec n es s run (all_read c codec (deeds_of c n es) written) at q m os older within in
        subst (λ (z : As). Breaks c n (run_of c n es s run) d p r.id (Takes z q m os) older) (sym here.0)
        (go here.0 here.1 (subst (λ (z : As). Meets c n es s run (Takes z q m os) older one.before) here.0 meets) (subst (λ (z : As). Within (Takes z q m os ∷ older) (deeds_of c n es)) here.0 within) (subst (λ (z : As). Passes c n one.before one.event z q m) here.0 one.cause.0) alone' one.cause.1)
      where
        go : at ≡ d → In out os → Meets c n es s run (Takes d q m os) older one.before → Within (Takes d q m os ∷ older) (deeds_of c n es) → Passes c n one.before one.event d q m → IsAlone m → OnPassed c n one.before one.event at q m os → Broke p r.id (Takes d q m os)
        go is i' meets' within' passes alone' (by_parent up on) = absurd (below at is up)
        go is i' meets' within' passes alone' (by_element down on) =
            message_broken q one.entries one.before one.run one.short one.earlier one.is_then one.event one.causes m (one.before.current at) os meets' within' passes
            (λ asks. open_then c codec n es s run written d older (Takes d q m os) within' (says_in c codec n es s run written d older q m os asks i')) alone' (subst (λ (z : As). OnMessage c n z (one.before.current at) q one.before.clock m (one.before.elements z) os) is on) i'
    deed_broken (Downs at q os) within one meets i =
        let here = at_here d out at os i in
        let within' = subst (λ (z : As). Within (Downs z q os ∷ older) (deeds_of c n es)) here.0 within in
        subst (λ (z : As). Breaks c n (run_of c n es s run) d p r.id (Downs z q os) older) (sym here.0)
        (go here.1 (fallen_within c n (deeds_of c n es) (run_fallen c n es s run (run_single c n codec es s run written)) (Downs d q os) older within'))
      where
        lost_on : (h : Row Pin) → h.1.key.peer ≢ q → p ≡ h.1.key.peer → r.id ≡ h.1.key.id → (y : ℕ) → h.1.item.stage ≡ Waits q y → IsSentOn c n older d h → Broke p r.id (Downs d q os)
        lost_on h other peer id y waits sent =
            let w : SentAt c n older d h (Waits q y) = subst (λ (z : Stage). SentAt c n older d h z) waits sent in
            lost d p r.id older q y os (λ same. other (sym peer ∙ same)) (record {
              at = w.0;
              is_open = ap (λ (z : Peer). opened c d z r.id older) peer ∙ ap (λ (z : ℕ). opened c d h.1.key.peer z older) id ∙ w.1;
              wanted = h.1.item.wanted;
              rest = w.2.0;
              sent = w.2.1;
            })

        go : In out os → IsFallen c n (Downs d q os) older → Broke p r.id (Downs d q os)
        go i' fallen =
            let low : same_as d parent_as ≡ false = is_low (same_as d parent_as) refl in
            let all = fallen low in
            let l = lost_one q all.0 os all.1 i' in
            lost_on l.row l.lost'.0 l.this.peer l.this.id l.lost'.1 l.lost'.2 (all.2 l.row l.there)
          where
            is_low : (b : Bool) → same_as d parent_as ≡ b → b ≡ false
            is_low true up = absurd (real (same_as_is d parent_as up))
            is_low false down = refl
    deed_broken (Solves at k os keys) within one meets i = go (at_here d out at os i) one.cause
      where
        solved : (d' : As) → d' ≡ d → (k' : ℕ) (tells : ElementTells c n one.before d' k' (Solves at k os keys ∷ [])) → In out (record { to = tells.held.key.peer; message = tells.message } ∷ []) → ⊥
        solved d' there k' tells i' =
            (subst (λ (z : As). (t : ElementTells c n one.before z k' (Solves at k os keys ∷ [])) → In out (record { to = t.held.key.peer; message = t.message } ∷ []) → ⊥) (sym there)
            (λ t i''. solve_broken c codec n es s run written d older one.before k' (k', Solves at k os keys ∷ [], t) t.message refl i'')) tells i'

        go : (at ≡ d) × In out os → OfSolve c n one.before one.event (Solves at k os keys) → Broke p r.id (Solves at k os keys)
        go here (of_element d' k' ev tells) =
            let one' : Solves at k os keys ≡ Solves d' k' (record { to = tells.held.key.peer; message = tells.message } ∷ []) tells.keys = ap (head_of (Solves at k os keys)) tells.sends_one in
            let said : os ≡ record { to = tells.held.key.peer; message = tells.message } ∷ [] = ap outs one' in
            let there : d' ≡ d = sym (ap (solver d) one') ∙ here.0 in
            absurd (solved d' there k' tells (subst (In out) said here.1))
        go here (of_upper k' ev tells) =
            let one' : Solves at k os keys ≡ Solves parent_as k' (record { to = tells.held.key.peer; message = tells.message } ∷ []) [] = ap (head_of (Solves at k os keys)) tells.sends_one in
            absurd (real (sym here.0 ∙ ap (solver d) one'))
    deed_broken (Says at o) within one meets i = go (at_here d out at (o ∷ []) i) one.cause
      where
        go : (at ≡ d) × In out (o ∷ []) → OfSession c n one.before one.event one.earlier at o → Broke p r.id (Says at o)
        go here (by_table x came o' comes acts eq) = not_said o.to o.message (ap is_rep eq ∙ own_none o') here.1
        go here (anew a b sid cleared sides eq) = not_said o.to o.message (ap is_rep eq) here.1
    deed_broken (Loads at g) within one meets i = absurd i
    deed_broken (Pops a b) within one meets i = absurd i
    deed_broken (Ups at q) within one meets i = absurd i
    deed_broken (Clears a b) within one meets i = absurd i
    deed_broken (Expires now) within one meets i = absurd i
    deed_broken (Hands j bytes) within one meets i = absurd i

  -- ---- the parent

  module _ (c : Codec) (codec : IsCodec c) (n : NetworkParts) (net : IsNetwork n) (es : List Entry) (s : Plant) (run : Run c n es s) (written : AllSent IsWritten (deeds_of c n es)) (short : IsShort (deeds_of c n es)) (older : Transcript)
      (rec : (b : As) (r' : Reply) (deed' : PlantDeed) (older' : Transcript) → Within (deed' ∷ older') older →
      In {A = Output} (record { to = the_parent; message = messages.PcRep (r' ∷ []) }) (outputs_at b deed') → ¬ TellsOfPaths r'.answer → Breaks c n (run_of c n es s run) b the_parent r'.id deed' older') where
    abbrev BrokeAbove : Peer → ℕ → PlantDeed → Type 0
    BrokeAbove q x deed = Breaks c n (run_of c n es s run) parent_as q x deed older

    abbrev OnsAbove : Peer → List Part → Parent → List Output → Type 0
    OnsAbove q xs k os = OnParts Parent (λ k'. WaitsAbove k' q) (OnRequestAbove c n q) (λ m' k'. (parent.take c (family n) q m' k').parent) false q xs k os

    asked_none : {X : Type 0} (w : Wanted) (rs : List parent.Errand) (os : List Output) → AreAsked w rs os → In out os → X
    asked_none w [] os none i = nothing os none i
    asked_none {X} w (e ∷ rs) os on i = go (subst (In out) on.2 i) (asked_none w rs on.1 on.3)
      where
        go : In out (record { to = Inner e.child; message = request_message on.0 w e.target (e.child ∷ []) } ∷ on.1) → (In out on.1 → X) → X
        go (inl same) more = not_said (Inner e.child) _ refl (inl same)
        go (inr later) more = more later

    module _ (q : Peer) (entries : List Entry) (before : Plant) (run' : Run c n entries before) (short' : IsShort (deeds_of c n entries)) (earlier : Transcript) (is_then : older ≡ earlier ++ deeds_of c n entries)
        (event : Event) (causes : HaveCauses c n before event earlier) where
      above_request : (a : Asked) (os all : List Output) → Meets c n es s run (Takes parent_as q (messages.PcReq (a ∷ [])) all) older before → OnRequestAbove c n q a before.parent os → In out os → BrokeAbove p r.id (Takes parent_as q (messages.PcReq (a ∷ [])) all)
      above_request a os all meets (wrong_above rp kind value is eq) i = not_said q _ refl (subst (In out) eq i)
      above_request a os all meets (again_above r0 number is hit eq) i = nothing os eq i
      above_request a os all meets (key_above r0 key pce is new wish eq) i = tells_not (record { peer = q; flags = r0.flags; id = r0.id }) _ refl (subst (In out) eq i)
      above_request a os all meets (no_room_above r0 w is new wish full eq) i = not_said q _ refl (subst (In out) eq i)
      above_request a os all meets (child_down r0 w child is new wish room among down eq) i =
          let this = this_one (record { peer = q; flags = r0.flags; id = r0.id }) unavailable (subst (In out) eq i) in
          subst (λ (z : Peer). BrokeAbove z r.id (Takes parent_as q (messages.PcReq (a ∷ [])) all)) (sym this.peer)
          (stopped_above q r.id (Takes parent_as q (messages.PcReq (a ∷ [])) all) older (record {
            taking = record { before = before; meets = meets; asked = a; os = all; takes = refl; request = r0; admitted = is; id = sym this.id; wanted = w; for_path = wish };
            child = child;
            is_child = among;
            down = down;
          }))
      above_request a os all meets (all_asked r0 w is new wish room all_up on) i = asked_none w _ os on i

      single' : AreSingle (deeds_of c n entries)
      single' = run_single c n codec entries before run' (every_written c codec n net entries before run' short')

      -- a child's reply
      child_broken : (r0 : Reply) (all : List Output) (y : ℕ) (child : As) → q ≡ Inner child → y ≡ r0.id → Within (Takes parent_as q (messages.PcRep (r0 ∷ [])) all ∷ older) (deeds_of c n es) → ¬ TellsOfPaths r0.answer → (at : Transcript) → opened c parent_as p r.id older ≡ Some at → (w : Wanted) (t : Addr) →
          SentIn at parent_as (Inner child) (request_message y w t (child ∷ [])) → BrokeAbove p r.id (Takes parent_as q (messages.PcRep (r0 ∷ [])) all)
      child_broken r0 all y child is same within not_told at is_open w t sent = go put.0 put.1 put.2
        where
          within' : Within (Takes parent_as (Inner child) (messages.PcRep (r0 ∷ [])) all ∷ older) (deeds_of c n es)
          within' = subst (λ (z : Peer). Within (Takes parent_as z (messages.PcRep (r0 ∷ [])) all ∷ older) (deeds_of c n es)) is within

          put : (put : Transcript) × Within put older × SentIn put child (Inner parent_as) (messages.PcRep (r0 ∷ []))
          put = put_before c codec n net es s run written short child parent_as (messages.PcRep (r0 ∷ [])) all older within'

          go : (put : Transcript) → Within put older → SentIn put child (Inner parent_as) (messages.PcRep (r0 ∷ [])) → BrokeAbove p r.id (Takes parent_as q (messages.PcRep (r0 ∷ [])) all)
          go [] inside said = absurd said
          go (deed ∷ before') inside said =
              let went : WentDown c older p r.id child r0 = record {
                at = at;
                is_open = is_open;
                wanted = w;
                target = t;
                sent = subst (λ (z : ℕ). SentIn at parent_as (Inner child) (request_message z w t (child ∷ []))) same sent;
                deed = deed;
                before = before';
                within = inside;
                said = said;
              } in
              subst (λ (z : Peer). BrokeAbove p r.id (Takes parent_as z (messages.PcRep (r0 ∷ [])) all)) (sym is)
              (of_child child p r.id older r0 all not_told went (rec child r0 deed before' inside (in_at _ (outputs_at child deed) said) not_told))

      above_reply : (r0 : Reply) (os all : List Output) → Within (Takes parent_as q (messages.PcRep (r0 ∷ [])) all ∷ older) (deeds_of c n es) → Passes c n before event parent_as q (messages.PcRep (r0 ∷ [])) → (at : Transcript) → opened c parent_as p r.id older ≡ Some at →
          OnReply (WaitsAbove before.parent q r0.id) false q r0 os → In out os → BrokeAbove p r.id (Takes parent_as q (messages.PcRep (r0 ∷ [])) all)
      above_reply r0 os all within passes at is_open (unknown none eq) i = not_said q _ refl (subst (In out) eq i)
      above_reply r0 os all within passes at is_open (goes_on a w up eq) i = not_both false up refl
      above_reply r0 os all within passes at is_open (is_kept a w down tells eq) i = nothing os eq i
      above_reply r0 os all within passes at is_open (is_broken a w down not_told eq) i = elim (still_open c n before event parent_as q (messages.PcRep (r0 ∷ [])) passes (λ no. no) earlier (deeds_of c n entries) causes parent_as p r.id g.0 opened_then) [
        | inl same ↦ child_broken r0 all w.wait.id w.wait.child (sym w.peer ∙ waits.0) w.id within not_told g.0 (ap (opened c parent_as p r.id) is_then ∙ same) w.row.1.item.wanted w.wait.target waits.1
        | inr none ↦ absurd (let clash : ◌≡◌ {A = Option Transcript} None (Some at) = sym (ap (opened c parent_as p r.id) is_then ∙ none) ∙ is_open in cc)
      ]
        where
          this : IsThis a unavailable
          this = this_one a unavailable (subst (In out) eq i)

          g : (at' : Transcript) × (opened c parent_as w.row.1.key.peer w.row.1.key.id (deeds_of c n entries) ≡ Some at') × IsFilled c (λ (v : Wanted). parent.errands (family n).links v.target (family n).children) (deeds_of c n entries) at' w.row.1.item
          g = run_gathers c n entries before run' single' w.row (table.in_of w.row before.parent.pending.rows w.is_row)

          waits : (w.wait.peer ≡ Inner w.wait.child) × SentIn g.0 parent_as (Inner w.wait.child) (request_message w.wait.id w.row.1.item.wanted w.wait.target (w.wait.child ∷ []))
          waits = g.2.waits w.wait (table.in_of w.wait w.row.1.item.waits w.is_wait)

          opened_then : opened c parent_as p r.id (deeds_of c n entries) ≡ Some g.0
          opened_then =
              ap (λ (z : Peer). opened c parent_as z r.id (deeds_of c n entries)) (this.peer ∙ ap (λ (z : Asker). z.peer) w.asked)
              ∙ ap (λ (z : ℕ). opened c parent_as w.row.1.key.peer z (deeds_of c n entries)) (this.id ∙ ap (λ (z : Asker). z.id) w.asked) ∙ g.1

      -- nothing is said to errors
      above_errors : (b : As) → q ≡ Inner b → is_linked n b parent_as ≡ true → (reports : List ErrorReport) (os : List Output) → Within (Takes parent_as (Inner b) (messages.PcErr reports) os ∷ older) (deeds_of c n es) → OnsAbove q (parts (messages.PcErr reports)) before.parent os → os ≡ []
      above_errors b is linked reports os within on = by (put_before c codec n net es s run written short b parent_as (messages.PcErr reports) os older within)
        where
          reply_none : (rp : ℕ × ℕ) → OnError (WaitsAbove before.parent q rp.1) errors.UNKNOWN_REQUEST os → os ≡ []
          reply_none rp (failed_for_nobody none eq) = eq
          reply_none rp (of_reply of eq) = eq
          reply_none rp (out_of_profile w waits out' eq) = absurd (unknown_fine out')
          reply_none rp (other_error w waits no' no'' eq) = absurd (no' (refl, refl))

          told : (deed : PlantDeed) (before' : Transcript) → IsInnerError c parent_as b deed before' (messages.PcErr reports) → os ≡ []
          told deed before' (names_none kind value eq) = elim (one_error Parent (λ k'. WaitsAbove k' q) (OnRequestAbove c n q) (λ m' k'. (parent.take c (family n) q m' k').parent) false q None kind value (messages.PcErr reports) before.parent os eq on) [
            | inl none ↦ none
            | inr some ↦ absurd (let clash : ◌≡◌ {A = Option (ℕ × ℕ)} None (Some some.0) = some.1 in cc)
          ]
          told deed before' (answers_reply rp eq) = elim (one_error Parent (λ k'. WaitsAbove k' q) (OnRequestAbove c n q) (λ m' k'. (parent.take c (family n) q m' k').parent) false q (Some rp) errors.UNKNOWN_REQUEST.0 errors.UNKNOWN_REQUEST.1 (messages.PcErr reports) before.parent os eq on) [
            | inl none ↦ none
            | inr some ↦ reply_none some.0 some.2
          ]
          told deed before' (refuses_ipv6 id up asks eq) = absurd (not_to_itself n net (subst (λ (z : As). is_linked n z parent_as ≡ true) up linked))
          told deed before' (fails flags id low asker_low why eq) = absurd (asker_low refl)

          by : (put : Transcript) × Within put older × SentIn put b (Inner parent_as) (messages.PcErr reports) → os ≡ []
          by put = go put.0 put.1 put.2
            where
              go : (put : Transcript) → Within put older → SentIn put b (Inner parent_as) (messages.PcErr reports) → os ≡ []
              go [] inside said = absurd said
              go (deed ∷ before') inside said =
                  told deed before'
                  (told_of c codec n net es s run written short parent_as b reports deed before'
                  (within_trans (deed ∷ before') older (deeds_of c n es) inside (within_tail (Takes parent_as (Inner b) (messages.PcErr reports) os) older (deeds_of c n es) within)) (in_at _ (outputs_at b deed) said))

      peer_errors : (reports : List ErrorReport) (os : List Output) → Within (Takes parent_as q (messages.PcErr reports) os ∷ older) (deeds_of c n es) → Passes c n before event parent_as q (messages.PcErr reports) → OnsAbove q (parts (messages.PcErr reports)) before.parent os → os ≡ []
      peer_errors reports os within (from_outside j x bytes rest raw ev conn first read acts heard at' peer) on =
          absurd (none_outside n net c codec es s run j (messages.PcErr reports) os older (subst (λ (z : Peer). Within (Takes parent_as z (messages.PcErr reports) os ∷ older) (deeds_of c n es)) peer within))
      peer_errors reports os within (from_inside a bytes rest ev linked first read acts peer) on =
          above_errors a peer linked reports os (subst (λ (z : Peer). Within (Takes parent_as z (messages.PcErr reports) os ∷ older) (deeds_of c n es)) peer within) on

      above_message : (m : Message) (all : List Output) → Meets c n es s run (Takes parent_as q m all) older before → Within (Takes parent_as q m all ∷ older) (deeds_of c n es) → Passes c n before event parent_as q m → ((IsAsk m → ⊥) → (at : Transcript) × (opened c parent_as p r.id older ≡ Some at)) → IsAlone m → OnsAbove q (parts m) before.parent all →
          In out all → BrokeAbove p r.id (Takes parent_as q m all)
      above_message (messages.PcReq []) all meets within passes found alone' on i = nothing all on i
      above_message (messages.PcReq (a ∷ [])) all meets within passes found alone' on i = above_request a on.0 all meets on.3 (subst (In out) (on.2 ∙ ap (λ (l : List Output). on.0 ++ l) on.4 ∙ nil_right on.0) i)
      above_message (messages.PcReq (a ∷ b ∷ rest)) all meets within passes found alone' on i = absurd (omega (arith, alone'))
      above_message (messages.PcRep []) all meets within passes found alone' on i = nothing all on i
      above_message (messages.PcRep (x ∷ [])) all meets within passes found alone' on i =
          above_reply x on.0 all within passes (found (λ no. no)).0 (found (λ no. no)).1 on.3 (subst (In out) (on.2 ∙ ap (λ (l : List Output). on.0 ++ l) on.4 ∙ nil_right on.0) i)
      above_message (messages.PcRep (x ∷ y ∷ rest)) all meets within passes found alone' on i = absurd (omega (arith, alone'))
      above_message (messages.PcNtf notices) all meets within passes found alone' on i =
          noted_none Parent (λ k'. WaitsAbove k' q) (OnRequestAbove c n q) (λ m' k'. (parent.take c (family n) q m' k').parent) false q notices before.parent all on i
      above_message (messages.PcErr reports) all meets within passes found alone' on i = nothing all (peer_errors reports all within passes on) i
      above_message (messages.Open body) all meets within passes found alone' on i = nothing all on i
      above_message messages.Keepalive all meets within passes found alone' on i = nothing all on i
      above_message (messages.Close why) all meets within passes found alone' on i = nothing all on i
      above_message (messages.Other kind) all meets within passes found alone' on i = nothing all on i

    lost_above : (q : Peer) (rows : List AskingRow) (os : List Output) → AnswersLost (IsLostAbove q) asker_above rows os → In out os → (h : AskingRow) × table.In h rows × IsLostAbove q h × (p ≢ q)
    lost_above q [] os none i = nothing os none i
    lost_above q (h ∷ hs) os (inr kept') i = (let more = lost_above q hs os kept'.1 i in (more.0, inr more.1, more.2, more.3))
    lost_above q (h ∷ hs) os (inl is) i = go (subst (In out) is.2 i) (lost_above q hs is.1 is.3)
      where
        go : In out (replied (asker_above h) unavailable ++ is.1) → (In out is.1 → (g : AskingRow) × table.In g hs × IsLostAbove q g × (p ≢ q)) → (g : AskingRow) × table.In g (h ∷ hs) × IsLostAbove q g × (p ≢ q)
        go (inl same) more = (h, inl refl, is.0, λ at. is.0.0 (sym (this_one (asker_above h) unavailable (inl same)).peer ∙ at))
        go (inr later) more = (let next = more later in (next.0, inr next.1, next.2, next.3))

    above_broken : (deed : PlantDeed) → Within (deed ∷ older) (deeds_of c n es) → (one : HasOne c n deed older) → Meets c n es s run deed older one.before → In out (outputs_at parent_as deed) → BrokeAbove p r.id deed
    above_broken (Takes at q m os) within one meets i =
        let here = at_here parent_as out at os i in
        let alone' = takes_alone c codec n es s run (all_read c codec (deeds_of c n es) written) at q m os older within in
        subst (λ (z : As). Breaks c n (run_of c n es s run) parent_as p r.id (Takes z q m os) older) (sym here.0)
        (go here.0 here.1 (subst (λ (z : As). Meets c n es s run (Takes z q m os) older one.before) here.0 meets) (subst (λ (z : As). Within (Takes z q m os ∷ older) (deeds_of c n es)) here.0 within) (subst (λ (z : As). Passes c n one.before one.event z q m) here.0 one.cause.0) alone' one.cause.1)
      where
        go : at ≡ parent_as → In out os → Meets c n es s run (Takes parent_as q m os) older one.before → Within (Takes parent_as q m os ∷ older) (deeds_of c n es) → Passes c n one.before one.event parent_as q m → IsAlone m → OnPassed c n one.before one.event at q m os → BrokeAbove p r.id (Takes parent_as q m os)
        go is i' meets' within' passes alone' (by_element down on) = not_both (same_as at parent_as) (ap (λ (z : As). same_as z parent_as) is) down
        go is i' meets' within' passes alone' (by_parent up on) =
            above_message q one.entries one.before one.run one.short one.earlier one.is_then one.event one.causes m os meets' within' passes
            (λ asks. open_then c codec n es s run written parent_as older (Takes parent_as q m os) within' (says_in c codec n es s run written parent_as older q m os asks i')) alone' on i'
    above_broken (Downs at q os) within one meets i =
        let here = at_here parent_as out at os i in
        subst (λ (z : As). Breaks c n (run_of c n es s run) parent_as p r.id (Downs z q os) older) (sym here.0)
        (go (same_as at parent_as) refl one.cause here.0 here.1
        (open_then c codec n es s run written parent_as older (Downs parent_as q os) (subst (λ (z : As). Within (Downs z q os ∷ older) (deeds_of c n es)) here.0 within)
        (reply_counts p r (cond (same_as parent_as parent_as) os []) (said_own c codec n es s run written parent_as older os here.1))))
      where
        go : (b : Bool) → same_as at parent_as ≡ b → cond b (AnswersLost (IsLostAbove q) asker_above (left_above one.before.parent.pending.rows one.earlier) os)
            (AnswersLost (IsLost q) asker_of (left_rows at (one.before.elements at).pending.rows one.earlier) os) → at ≡ parent_as → In out os → (at' : Transcript) × (opened c parent_as p r.id older ≡ Some at') → BrokeAbove p r.id (Downs parent_as q os)
        go false down lost' is i' found' = not_both (same_as at parent_as) (ap (λ (z : As). same_as z parent_as) is) down
        go true up lost' is i' found' =
            let l = lost_above q (left_above one.before.parent.pending.rows one.earlier) os lost' i' in
            let there : table.In l.0 one.before.parent.pending.rows = above_left one.before.parent.pending.rows one.earlier l.0 l.1 in
            let single = run_single c n codec one.entries one.before one.run (every_written c codec n net one.entries one.before one.run one.short) in
            let g = run_gathers c n one.entries one.before one.run single l.0 there in
            let wait = l.2.1 in
            let child : q ≡ Inner wait.child = sym l.2.3 ∙ (g.2.waits wait (table.in_of wait l.0.1.item.waits l.2.2)).0 in
            subst (λ (z : Peer). BrokeAbove p r.id (Downs parent_as z os)) (sym child) (lost_child p r.id older found'.0 wait.child os (λ same. l.3 (same ∙ sym child)) found'.1)
    above_broken (Solves at k os keys) within one meets i = go (at_here parent_as out at os i) one.cause
      where
        upper : (h : AskingRow) (answer : Option Found) (m : Message) → TellsUpper c h answer m → In out (record { to = h.1.key.peer; message = m } ∷ []) → ⊥
        upper h answer m (found_walk a some eq) i' = tells_not (record { peer = h.1.key.peer; flags = h.1.item.flags; id = h.1.key.id }) _ tt (subst (λ (z : Message). In out (record { to = h.1.key.peer; message = z } ∷ [])) eq i')
        upper h answer m (no_walk none eq) i' = tells_not (record { peer = h.1.key.peer; flags = h.1.item.flags; id = h.1.key.id }) _ refl (subst (λ (z : Message). In out (record { to = h.1.key.peer; message = z } ∷ [])) eq i')

        go : (at ≡ parent_as) × In out os → OfSolve c n one.before one.event (Solves at k os keys) → BrokeAbove p r.id (Solves at k os keys)
        go here (of_element d' k' ev tells) =
            let one' : Solves at k os keys ≡ Solves d' k' (record { to = tells.held.key.peer; message = tells.message } ∷ []) tells.keys = ap (head_of (Solves at k os keys)) tells.sends_one in
            not_both (same_as d' parent_as) (ap (λ (z : As). same_as z parent_as) (sym (ap (solver parent_as) one') ∙ here.0)) tells.upper
        go here (of_upper k' ev tells) =
            let one' : Solves at k os keys ≡ Solves parent_as k' (record { to = tells.held.key.peer; message = tells.message } ∷ []) [] = ap (head_of (Solves at k os keys)) tells.sends_one in
            absurd (upper (k', tells.held) tells.answer tells.message tells.tells (subst (In out) (ap outs one') here.1))
    above_broken (Says at o) within one meets i = go (at_here parent_as out at (o ∷ []) i) one.cause
      where
        go : (at ≡ parent_as) × In out (o ∷ []) → OfSession c n one.before one.event one.earlier at o → BrokeAbove p r.id (Says at o)
        go here (by_table x came o' comes acts eq) = not_said o.to o.message (ap is_rep eq ∙ own_none o') here.1
        go here (anew a b sid cleared sides eq) = not_said o.to o.message (ap is_rep eq) here.1
    above_broken (Loads at g) within one meets i = absurd i
    above_broken (Pops a b) within one meets i = absurd i
    above_broken (Ups at q) within one meets i = absurd i
    above_broken (Clears a b) within one meets i = absurd i
    above_broken (Expires t) within one meets i = absurd i
    above_broken (Hands j bytes) within one meets i = absurd i

-- the first messages are no replies
opening_none : {X : Type 0} (d : As) (p : Peer) (r : Reply) (deed : PlantDeed) → IsOpening deed → In {A = Output} (record { to = p; message = messages.PcRep (r ∷ []) }) (outputs_at d deed) → X
opening_none {X} d p r (Says at o) is i = go (same_as at d) i
  where
    go : (b : Bool) → In {A = Output} (record { to = p; message = messages.PcRep (r ∷ []) }) (cond b (o ∷ []) []) → X
    go true (inl same) = not_both (is_rep o.message) (sym (ap (λ (x : Output). is_rep x.message) same)) (ap is_rep is)
    go true (inr none) = absurd none
    go false none = absurd none
opening_none d p r (Loads at g) is i = absurd is
opening_none d p r (Pops a b) is i = absurd is
opening_none d p r (Takes at q m os) is i = absurd is
opening_none d p r (Ups at q) is i = absurd is
opening_none d p r (Downs at q os) is i = absurd is
opening_none d p r (Clears a b) is i = absurd is
opening_none d p r (Solves at k os keys) is i = absurd is
opening_none d p r (Expires now) is i = absurd is
opening_none d p r (Hands j bytes) is i = absurd is

module _ (c : Codec) (codec : IsCodec c) (n : NetworkParts) (net : IsNetwork n) (es : List Entry) (s : Plant) (run : Run c n es s) (written : AllSent IsWritten (deeds_of c n es)) (short : IsShort (deeds_of c n es)) where
  abbrev Before : Transcript → Type 0
  Before older =
      (d b : As) (r : Reply) (deed : PlantDeed) (older' : Transcript) → Within (deed ∷ older') older → In {A = Output} (record { to = Inner d; message = messages.PcRep (r ∷ []) }) (outputs_at b deed) → ¬ TellsOfPaths r.answer → Breaks c n (run_of c n es s run) b (Inner d) r.id deed older'

  step : (d : As) (p : Peer) (r : Reply) (deed : PlantDeed) (older : Transcript) → Within (deed ∷ older) (deeds_of c n es) → In {A = Output} (record { to = p; message = messages.PcRep (r ∷ []) }) (outputs_at d deed) → ¬ TellsOfPaths r.answer → Before older →
      Breaks c n (run_of c n es s run) d p r.id deed older
  step d p r deed older within i broken before = elim (moment_met c n es s run short deed older within) [
    | inl got ↦ go (same_as d parent_as) refl got
    | inr first ↦ opening_none d p r deed first i
  ]
    where
      upper : d ≡ parent_as → CausedIn c n es s run deed older → Breaks c n (run_of c n es s run) d p r.id deed older
      upper is got =
          subst (λ (z : As). Breaks c n (run_of c n es s run) z p r.id deed older) (sym is)
          (above_broken p r broken c codec n net es s run written short older (λ b r' deed' older'. before parent_as b r' deed' older') deed within got.0 got.1
          (subst (λ (z : As). In {A = Output} (record { to = p; message = messages.PcRep (r ∷ []) }) (outputs_at z deed)) is i))

      go : (b : Bool) → same_as d parent_as ≡ b → CausedIn c n es s run deed older → Breaks c n (run_of c n es s run) d p r.id deed older
      go true is got = upper (same_as_is d parent_as is) got
      go false is got =
          deed_broken p r broken c codec n net es s run written short d (λ same. not_both (same_as d parent_as) (ap (λ (z : As). same_as z parent_as) same) is) older (λ b r' deed' older'. before d b r' deed' older') deed within got.0 got.1 i

  by_length : (most : ℕ) (d : As) (p : Peer) (r : Reply) (deed : PlantDeed) (older : Transcript) → length older ≤ most → Within (deed ∷ older) (deeds_of c n es) →
      In {A = Output} (record { to = p; message = messages.PcRep (r ∷ []) }) (outputs_at d deed) → ¬ TellsOfPaths r.answer → Breaks c n (run_of c n es s run) d p r.id deed older
  by_length zero d p r deed older few within i broken =
      step d p r deed older within i broken (λ d' b r' deed' older' within' i' broken'. absurd (let less = within_length (deed' ∷ older') older within' in omega (arith, less, few)))
  by_length (suc most) d p r deed older few within i broken =
      step d p r deed older within i broken
      (λ d' b r' deed' older' within' i' broken'.
      by_length most b (Inner d') r' deed' older' (let less = within_length (deed' ∷ older') older within' in omega (arith, less, few))
      (within_trans (deed' ∷ older') older (deeds_of c n es) within' (within_tail deed older (deeds_of c n es) within)) i' broken')

pub broken_for_reasons : WrittenNetIds BrokenForReasonsIn
broken_for_reasons c codec n net es s run written short run' d p r deed older within has broken =
    by_length c codec n net es s run' written short (length older) d p r deed older (omega arith) within (in_at _ (outputs_at d deed) has) broken
