-- Which errors elements and the parent send one another, by induction over the moments of a run.
use Rattle.std.proofs.Common.{◌≡◌, ◌≢◌, ◌≤◌, ℕ, zero, suc, Bool, true, false, cond, List, [], ◌∷◌, ◌++◌, length, map, Option, Some, None, sym, ◌∙◌, ap, subst, inl, inr, refl, arith}
use Rattle.std.specs.Prelude.{◌⊎◌, Contains}
use Rattle.plant_model.specs.Types.{As, Addr, Peer, Outside, Inner, Asked, ErrorReport, Message, Notice, Reply, Request, Wanted, Own, NetworkParts}
use Rattle.disclosure.specs.Shown.{open_of}
use Rattle.pcep_codes.specs.declared.errors.TheConstants as errors
use Rattle.pcep_codes.specs.declared.kinds.TheConstants as object_types
use Rattle.pcep_messages.specs.declared.message.Message.TheVariants as messages
use Rattle.pcep_messages.specs.Spelling.{IsWritten}
use Rattle.pcep_session.specs.declared.actions.Own.TheVariants as own
use Rattle.plant_text.specs.Names.{same_as, parent_as}
use Rattle.plant_text.specs.Settings.{class_of, is_linked}
use Rattle.request_table.specs.Pending.{same_peer}
use Rattle.plant_model.specs.declared.event.Event.{Event}
use Rattle.plant_model.specs.declared.output.Output.{Output}
use Rattle.plant_model.specs.Names.{the_parent}
use Rattle.plant_model.specs.Wire.{Codec, Checked, Admitted, Wrong}
use Rattle.plant_model.specs.Laws.{IsCodec, IsNetwork}
use Rattle.plant_model.specs.Writing.{asked_of, request_message, error_message, unavailable, ends_kind, vspt_flag}
use Rattle.plant_model.specs.Element.{Element, is_client}
use Rattle.plant_model.specs.Taking.{take}
use Rattle.plant_model.specs.Parent as parent
use Rattle.plant_model.specs.Settings.{place, family}
use Rattle.plant_model.specs.State.{Loads, Pops, Takes, Says, Ups, Downs, Clears, Solves, Expires, Hands}
use Rattle.plant_model.specs.Deeds.{our_offer, own_message}
use Rattle.plant_model.specs.Plant.{Pin, Segment, Plant, PlantDeed, Entry, Run, deeds_of}
use Rattle.plant_laws.specs.About.{IsShort}
use Rattle.plant_laws.specs.Causes.{IsLost, IsLostAbove, AnswersLost, asker_of, asker_above, left_rows, left_above, Passes, from_outside, from_inside, OnPassed, by_element, by_parent, OfSession, by_table, anew, OfSolve, of_element, of_parent, HaveCauses}
use Rattle.plant_laws.specs.Errors.{chain_failed, Unserved, IsInnerError, names_none, answers_reply, refuses_ipv6, fails, InnerErrorsIn}
use Rattle.plant_laws.specs.MessageCauses.{Asker, told as told', replied, WaitsAt, WaitsAbove, OnReply, unknown, goes_on, is_kept, is_broken, OnNotice, next_is_full, noted_for_nobody, of_other_kind, IsOutOfProfile, OnError, failed_for_nobody, of_reply, out_of_profile, other_error, OnPath, ends_here, no_session, is_refused, sent_on, OnRequest, wrong, again, key_shown, key_refused, no_room, for_path, AreAsked, OnRequestAbove, wrong_above, again_above, key_above, no_room_above, child_down, all_asked, Part, Notes, alone, noted, parts, OnParts, OnMessage}
use Rattle.plant_laws.specs.Sending.{AllSent}
use Rattle.plant_laws.specs.Solves.{ElementTells, TellsClient, its_path, no_pair, TellsClosed, branches, no_branch, lacks_keys, TellsUpper, found, no_walk}
use Rattle.plant_laws.specs.Transcript.{Transcript, Within, SentIn, outputs_at}
use Rattle.plant_laws.proofs.WrittenForm.Again.{all_read}
use Rattle.plant_laws.proofs.Settled.Alive.{IsSound}
use Rattle.plant_laws.proofs.Once.Alone.{takes_alone}
use Rattle.plant_laws.proofs.Once.AskedRuns.{asked_of_run, none_outside}
use Rattle.plant_laws.proofs.Once.Asks.{Asks, IsMet, admitted, refused}
use Rattle.plant_laws.proofs.Reasons.MomentCauses.{HasOne, IsOpening, moment_cause, outs, head_of, in_two, at_here}
use Rattle.plant_laws.proofs.Runs.Decompose.{nil_right}
use Rattle.plant_laws.proofs.Reasons.ErrorParts.{unknown_fine, kind_fine, one_error}
use Rattle.plant_laws.proofs.Reasons.Stood.{put_before, sound, in_form}
use Rattle.plant_laws.proofs.Reasons.ChildRests.{child_rests}
use Rattle.plant_laws.proofs.Reasons.Heard.{HearsError, hears_error}
use Rattle.plant_laws.proofs.Reasons.Unserved.{by_outside, by_inner}
use Rattle.plant_laws.proofs.Least.FromElement.{within_tail, later_sequence, along_sequence, same_asked, same_first}
use Rattle.plant_laws.proofs.Least.Given.{IsAsked}
use Rattle.plant_laws.proofs.Once.Handing.{In}
use Rattle.plant_laws.proofs.Numbering.Known.{IsForm}
use Rattle.plant_laws.proofs.Runs.Moments.{within_trans, within_length}
use Rattle.plant_laws.proofs.Reasons.PartCauses.{in_at, not_both}
use Rattle.plant_laws.proofs.Runs.Queues.{same_as_is}
use Rattle.plant_laws.proofs.Runs.NoLoops.{not_to_itself}
use Rattle.plant_laws.proofs.Numbering.Sends.{IsAlone, Each, Each-within}
use Rattle.plant_laws.proofs.Numbering.SentOnAsks.{ends_are}
use Rattle.plant_laws.proofs.WrittenForm.WhereWritten.{WrittenNetIds}

-- ---- errors among what is said

abbrev is_err : Message → Bool
is_err (messages.PcErr reports) = true
is_err (messages.Open body) = false
is_err messages.Keepalive = false
is_err (messages.PcReq asks) = false
is_err (messages.PcRep replies) = false
is_err (messages.PcNtf notices) = false
is_err (messages.Close why) = false
is_err (messages.Other kind) = false

not_wrong : {X : Type 0} (rp : Option (ℕ × ℕ)) (kind value : ℕ) (r : Request) → Wrong rp kind value ≡ Admitted r → X
not_wrong rp kind value r e = absurd (let clash : Wrong rp kind value ≡ Admitted r = e in cc)

-- why a request of an inner peer is refused: the parent serves IPv4 alone
record IsIpv6 (at : As) (x : Asked) (rp : Option (ℕ × ℕ)) (kind value : ℕ) : Type 0 where
  pub above : at ≡ parent_as
  pub id : ℕ
  pub wanted : Wanted
  pub asked : x ≡ asked_of id wanted wanted.target []
  pub ipv6 : ends_kind wanted.source wanted.target ≡ object_types.END_POINTS_IPV6
  pub said : error_message rp kind value ≡ error_message (Some (vspt_flag, id)) errors.KIND_NOT_SERVED.0 errors.KIND_NOT_SERVED.1

wrong_said : (rp rp' : Option (ℕ × ℕ)) (kind kind' value value' : ℕ) → Wrong rp kind value ≡ Wrong rp' kind' value' → error_message rp kind value ≡ error_message rp' kind' value'
wrong_said rp rp' kind kind' value value' same = ap said same
  where
    said : Checked → Message
    said (Wrong rp'' kind'' value'') = error_message rp'' kind'' value''
    said (Admitted r) = messages.Keepalive

above_is : (a : As) → same_as a parent_as ≡ false → a ≢ parent_as
above_is a low same = not_both (same_as a parent_as) (ap (λ (z : As). same_as z parent_as) same) low

-- b said to d before that a chain failed, for a reason of its own
pub record SaysFailed (c : Codec) (d b : As) (reports : List ErrorReport) (older : Transcript) : Type 0 where
  pub flags : ℕ
  pub id : ℕ
  pub names : messages.PcErr reports ≡ chain_failed flags id
  pub deed : PlantDeed
  pub before : Transcript
  pub within : Within (deed ∷ before) older
  pub said : SentIn (deed ∷ before) b (Inner d) (messages.PcErr reports)
  pub low : d ≢ parent_as
  pub why : Unserved c b (Inner d) id deed before

module _ (c : Codec) (codec : IsCodec c) (n : NetworkParts) (net : IsNetwork n) (es : List Entry) (s : Plant) (run : Run c n es s) (written : AllSent IsWritten (deeds_of c n es)) (short : IsShort (deeds_of c n es)) where
  abbrev now : Transcript
  now = deeds_of c n es

  -- ---- why a request that one of them sent is refused

  by_element' : (a at : As) → a ≢ parent_as → (x : Asked) (put : Transcript) → Within put now → SentIn put a (Inner at) (messages.PcReq (x ∷ [])) → (rp : Option (ℕ × ℕ)) (kind value : ℕ) → c.check x at ≡ Wrong rp kind value → IsIpv6 at x rp kind value
  by_element' a at real x put within sent rp kind value is = elim asked.sends [
    | inl on ↦
        let same = same_first x (asked_of asked.id asked.wanted asked.wanted.target (at ∷ on.0)) [] [] on.2 in
        let sequence = later_sequence a at on.0 (along_sequence a at on.0 asked.wanted.sequence (codec.onward.own asked.taken a asked.flags asked.x asked.wanted asked.admits).2 on.1) in
        let admits = codec.onward.admits asked.taken a asked.flags asked.x asked.wanted asked.admits asked.id asked.wanted.target at on.0 asked.some asked.fits sequence in
        not_wrong rp kind value _ (sym is ∙ ap (λ (z : Asked). c.check z at) same ∙ admits)
    | inr up ↦ upward up.0 (same_first x (asked_of asked.id asked.wanted asked.wanted.target []) [] [] up.1)
  ]
    where
      asked : IsAsked c n put a at (x ∷ [])
      asked = asked_of_run c codec n es s run written short put a at (x ∷ []) real within sent

      upward : at ≡ parent_as → x ≡ asked_of asked.id asked.wanted asked.wanted.target [] → IsIpv6 at x rp kind value
      upward up same =
          let there : c.check (asked_of asked.id asked.wanted asked.wanted.target []) parent_as ≡ Wrong rp kind value = ap (λ (z : As). c.check (asked_of asked.id asked.wanted asked.wanted.target []) z) (sym up) ∙ ap (λ (z : Asked). c.check z at) (sym same) ∙ is in
          elim (ends_are asked.wanted.source asked.wanted.target) [
            | inl four ↦ not_wrong rp kind value _ (sym there ∙ codec.onward.admits_upward asked.taken a asked.flags asked.x asked.wanted asked.admits four asked.id asked.some asked.fits)
            | inr six ↦ record {
              above = up;
              id = asked.id;
              wanted = asked.wanted;
              asked = same;
              ipv6 = six;
              said = wrong_said rp (Some (vspt_flag, asked.id)) kind errors.KIND_NOT_SERVED.0 value errors.KIND_NOT_SERVED.1 (sym there ∙ codec.onward.refuses_upward asked.wanted asked.id six);
            }
          ]

  by_parent' : (at : As) → (at ≡ parent_as → ⊥) → (x : Asked) → IsForm (messages.PcReq (x ∷ [])) → (put : Transcript) → Within put now → SentIn put parent_as (Inner at) (messages.PcReq (x ∷ [])) →
      (rp : Option (ℕ × ℕ)) (kind value : ℕ) → c.check x at ≡ Wrong rp kind value → ⊥
  by_parent' at low x formed [] within sent rp kind value is = absurd sent
  by_parent' at low x formed (e ∷ older) within sent rp kind value is = met ask.met
    where
      id : ℕ
      id = (formed tt).0

      wanted : Wanted
      wanted = (formed tt).1

      end : Addr
      end = (formed tt).2

      sequence : List As
      sequence = (formed tt).3

      written_so : messages.PcReq (x ∷ []) ≡ request_message id wanted end sequence
      written_so = (formed tt).4

      ask : Asks c (request_message id wanted end sequence) at id sequence
      ask = Each-within (IsSound c) now (sound c codec n net es s run written short) e older within parent_as at id wanted end sequence (in_at _ (outputs_at parent_as e) (subst (λ (m : Message). Contains (outputs_at parent_as e) (record { to = Inner at; message = m })) written_so sent))

      same : x ≡ asked_of id ask.sent ask.end sequence
      same = same_asked x (asked_of id ask.sent ask.end sequence) (written_so ∙ ask.is)

      met : IsMet c (asked_of id ask.sent ask.end sequence) at id sequence → ⊥
      met (admitted flags w is' along) = not_wrong rp kind value _ (sym is ∙ ap (λ (z : Asked). c.check z at) same ∙ is')
      met (refused flags above is') = low above

  -- both
  refused_for : (a at : As) → is_linked n a at ≡ true → (x : Asked) (os : List Output) (older : Transcript) → Within (Takes at (Inner a) (messages.PcReq (x ∷ [])) os ∷ older) now → (rp : Option (ℕ × ℕ)) (kind value : ℕ) → c.check x at ≡ Wrong rp kind value →
      IsIpv6 at x rp kind value
  refused_for a at linked x os older within rp kind value is = go (same_as a parent_as) refl
    where
      p : (put : Transcript) × Within put older × SentIn put a (Inner at) (messages.PcReq (x ∷ []))
      p = put_before c codec n net es s run written short a at (messages.PcReq (x ∷ [])) os older within

      inside : Within p.0 now
      inside = within_trans p.0 older now p.1 (within_tail (Takes at (Inner a) (messages.PcReq (x ∷ [])) os) older now within)

      upper : a ≡ parent_as → IsIpv6 at x rp kind value
      upper up =
          absurd (by_parent' at (λ above. not_to_itself n net (subst (λ (z : As). is_linked n z parent_as ≡ true) up (subst (λ (z : As). is_linked n a z ≡ true) above linked))) x
          (in_form c codec n net es s run written short a at (messages.PcReq (x ∷ [])) os older within) p.0 inside (subst (λ (z : As). SentIn p.0 z (Inner at) (messages.PcReq (x ∷ []))) up p.2) rp kind value is)

      go : (b : Bool) → same_as a parent_as ≡ b → IsIpv6 at x rp kind value
      go true up = upper (same_as_is a parent_as up)
      go false low = by_element' a at (above_is a low) x p.0 inside p.2 rp kind value is

  -- ---- a deed of d, where what was said before is known

  abbrev Before : Transcript → Type 0
  Before older =
      (a d : As) (reports : List ErrorReport) (deed : PlantDeed) (older' : Transcript) → Within (deed ∷ older') older →
      In {A = Output} (record { to = Inner a; message = messages.PcErr reports }) (outputs_at d deed) → IsInnerError c a d deed older' (messages.PcErr reports)

  module _ (a d : As) (reports : List ErrorReport) (older : Transcript) (rec : Before older) where
    abbrev out : Output
    out = record { to = Inner a; message = messages.PcErr reports }

    abbrev Told : PlantDeed → Type 0
    Told deed = IsInnerError c a d deed older (messages.PcErr reports)

    not_said : {X : Type 0} (q : Peer) (m : Message) → is_err m ≡ false → In out (record { to = q; message = m } ∷ []) → X
    not_said q m none (inl is) = not_both (is_err m) (sym (ap (λ (o : Output). is_err o.message) is)) none
    not_said q m none (inr no') = absurd no'

    nothing : {X : Type 0} (os : List Output) → os ≡ [] → In out os → X
    nothing os none i = absurd (let i' : In out [] = subst (In out) none i in i')

    this_one : (q : Peer) (m : Message) → In out (record { to = q; message = m } ∷ []) → (Inner a ≡ q) × (messages.PcErr reports ≡ m)
    this_one q m (inl is) = (ap (λ (o : Output). o.to) is, ap (λ (o : Output). o.message) is)
    this_one q m (inr no') = absurd no'

    -- what is told of requests that were lost
    none_lost : {X : Type 0} {Row' : Type 0} (Lost : Row' → Type 0) (asker : Row' → Asker) (rows : List Row') (os : List Output) → AnswersLost Lost asker rows os → In out os → X
    none_lost Lost asker [] os none i = nothing os none i
    none_lost Lost asker (h ∷ hs) os (inr kept) i = none_lost Lost asker hs os kept.1 i
    none_lost {X} {Row'} Lost asker (h ∷ hs) os (inl is) i = go (subst (In out) is.2 i) (λ j. none_lost Lost asker hs is.1 is.3 j)
      where
        go : In out (replied (asker h) unavailable ++ is.1) → (In out is.1 → X) → X
        go (inl same) more = not_said (asker h).peer _ refl (inl same)
        go (inr later) more = more later

    -- ---- an element, or the parent, takes a message

    module _ (K : Type 0) (Waiting : K → ℕ → Asker → Type 0) (OnAsked : Asked → K → List Output → Type 0) (left : Message → K → K) (of_parent' : Bool) (q : Peer) where
      abbrev Ons : List Part → K → List Output → Type 0
      Ons xs k os = OnParts K Waiting OnAsked left of_parent' q xs k os

      reply_told : (deed : PlantDeed) (r : Reply) (k : K) (os : List Output) → OnReply (Waiting k r.id) of_parent' q r os → In out os → Told deed
      reply_told deed r k os (unknown none eq) i = answers_reply (r.flags, r.id) (this_one q _ (subst (In out) eq i)).1
      reply_told deed r k os (goes_on w waits up eq) i = not_said w.peer _ refl (subst (In out) eq i)
      reply_told deed r k os (is_kept w waits down tells eq) i = nothing os eq i
      reply_told deed r k os (is_broken w waits down no' eq) i = not_said w.peer _ refl (subst (In out) eq i)

      note_none : {X : Type 0} (kinds : List (ℕ × ℕ)) (rp : ℕ × ℕ) (k : K) (os : List Output) → OnNotice (Waiting k rp.1) kinds os → In out os → X
      note_none kinds rp k os (next_is_full w busy' waits is) i = not_said w.peer _ refl (subst (In out) is i)
      note_none kinds rp k os (noted_for_nobody none is) i = nothing os is i
      note_none kinds rp k os (of_other_kind miss is) i = nothing os is i

      notes_none : {X : Type 0} (kinds : List (ℕ × ℕ)) (ids : List (ℕ × ℕ)) (more : List Part) (k : K) (os : List Output) →
          ((k' : K) (os' : List Output) → Ons more k' os' → In out os' → X) → Ons (map (Notes kinds) ids ++ more) k os → In out os → X
      notes_none kinds [] more k os rest on i = rest k os on i
      notes_none kinds (rp ∷ ids) more k os rest on i = elim (in_two out on.0 on.1 (subst (In out) on.2 i)) [
        | inl first ↦ note_none kinds rp k on.0 on.3 first
        | inr second ↦ notes_none kinds ids more (left (alone (Notes kinds rp)) k) on.1 rest on.4 second
      ]

      noted_none : {X : Type 0} (ns : List Notice) (k : K) (os : List Output) → Ons (noted ns) k os → In out os → X
      noted_none [] k os on i = nothing os on i
      noted_none (m ∷ ms) k os on i = notes_none m.kinds m.ids (noted ms) k os (λ k' os' on' i'. noted_none ms k' os' on' i') on i

      -- an error that is not out of the profile
      error_none : {X : Type 0} (e rp : ℕ × ℕ) (k : K) (os : List Output) → (IsOutOfProfile e → ⊥) → OnError (Waiting k rp.1) e os → In out os → X
      error_none e rp k os fine (failed_for_nobody none is) i = nothing os is i
      error_none e rp k os fine (of_reply of is) i = nothing os is i
      error_none e rp k os fine (out_of_profile w waits out' is) i = absurd (fine out')
      error_none e rp k os fine (other_error w waits no' no'' is) i = not_said w.peer _ refl (subst (In out) is i)

      -- the one error of a message of ours
      own_error_none : {X : Type 0} (rp : Option (ℕ × ℕ)) (kind value : ℕ) (m : Message) (k : K) (os : List Output) → ((rp' : ℕ × ℕ) → rp ≡ Some rp' → IsOutOfProfile (kind, value) → ⊥) → m ≡ error_message rp kind value →
          Ons (parts m) k os → In out os → X
      own_error_none rp kind value m k os fine is on i = elim (one_error K Waiting OnAsked left of_parent' q rp kind value m k os is on) [
        | inl none ↦ nothing os none i
        | inr one ↦ error_none (kind, value) one.0 k os (λ out'. fine one.0 one.1 out') one.2 i
      ]

    -- errors of an inner peer: one that is not out of the profile, or that a chain failed
    abbrev IsFine : List ErrorReport → Type 0
    IsFine reports' = (rp : Option (ℕ × ℕ)) × (kind : ℕ) × (value : ℕ) × (messages.PcErr reports' ≡ error_message rp kind value) × ((rp' : ℕ × ℕ) → rp ≡ Some rp' → IsOutOfProfile (kind, value) → ⊥)

    inner_fine : (b : As) (reports' : List ErrorReport) (os : List Output) → Within (Takes d (Inner b) (messages.PcErr reports') os ∷ older) now → IsFine reports' ⊎ SaysFailed c d b reports' older
    inner_fine b reports' os within = by (put_before c codec n net es s run written short b d (messages.PcErr reports') os older within)
      where
        told : (deed' : PlantDeed) (before : Transcript) → Within (deed' ∷ before) older → SentIn (deed' ∷ before) b (Inner d) (messages.PcErr reports') → IsInnerError c d b deed' before (messages.PcErr reports') → IsFine reports' ⊎ SaysFailed c d b reports' older
        told deed' before w sent (names_none kind value is) = inl (None, kind, value, is, λ rp' none. absurd (let clash : ◌≡◌ {A = Option (ℕ × ℕ)} None (Some rp') = none in cc))
        told deed' before w sent (answers_reply rp is) = inl (Some rp, errors.UNKNOWN_REQUEST.0, errors.UNKNOWN_REQUEST.1, is, λ rp' some out'. unknown_fine out')
        told deed' before w sent (refuses_ipv6 id up asks is) = inl (Some (vspt_flag, id), errors.KIND_NOT_SERVED.0, errors.KIND_NOT_SERVED.1, is, λ rp' some out'. kind_fine out')
        told deed' before w sent (fails flags id low asker_low why is) = inr (record { flags = flags; id = id; names = is; deed = deed'; before = before; within = w; said = sent; low = asker_low; why = why })

        by : (put : Transcript) × Within put older × SentIn put b (Inner d) (messages.PcErr reports') → IsFine reports' ⊎ SaysFailed c d b reports' older
        by p = go p.0 p.1 p.2
          where
            go : (put : Transcript) → Within put older → SentIn put b (Inner d) (messages.PcErr reports') → IsFine reports' ⊎ SaysFailed c d b reports' older
            go [] w sent = absurd sent
            go (e ∷ before) w sent = told e before w sent (rec d b reports' e before w (in_at _ (outputs_at b e) sent))

    -- ---- a request is refused

    wrong_told : (q : Peer) (x : Asked) (all : List Output) → Within (Takes d q (messages.PcReq (x ∷ [])) all ∷ older) now → ((b : As) → q ≡ Inner b → is_linked n b d ≡ true) → (rp : Option (ℕ × ℕ)) (kind value : ℕ) → c.check x d ≡ Wrong rp kind value →
        In out (record { to = q; message = error_message rp kind value } ∷ []) → Told (Takes d q (messages.PcReq (x ∷ [])) all)
    wrong_told q x all within linked rp kind value is i =
        let this = this_one q (error_message rp kind value) i in
        let six = refused_for a d (linked a (sym this.0)) x all older (subst (λ (z : Peer). Within (Takes d z (messages.PcReq (x ∷ [])) all ∷ older) now) (sym this.0) within) rp kind value is in
        refuses_ipv6 six.id six.above
        (record {
          wanted = six.wanted;
          os = all;
          takes = ap (λ (z : As). Takes z q (messages.PcReq (x ∷ [])) all) six.above ∙ ap (λ (z : Peer). Takes parent_as z (messages.PcReq (x ∷ [])) all) (sym this.0) ∙ ap (λ (z : Asked). Takes parent_as (Inner a) (messages.PcReq (z ∷ [])) all) six.asked;
          ipv6 = six.ipv6;
        })
        (this.1 ∙ six.said)

    path_none : {X : Type 0} (k : Element Pin Segment) (w : Asker) (wanted : Wanted) (os : List Output) → OnPath n d k w wanted os → In out os → X
    path_none k w wanted os (ends_here own' down along' eq) i = nothing os eq i
    path_none k w wanted os (no_session next rest denied goes down eq) i = not_said w.peer _ refl (subst (In out) eq i)
    path_none k w wanted os (is_refused next rest goes eq) i = not_said w.peer _ refl (subst (In out) eq i)
    path_none k w wanted os (sent_on next rest way goes found' up eq) i = not_said next _ refl (subst (In out) eq i)

    request_told : (q : Peer) (clock : ℕ) (k : Element Pin Segment) (x : Asked) (all os : List Output) → Within (Takes d q (messages.PcReq (x ∷ [])) all ∷ older) now → ((b : As) → q ≡ Inner b → is_linked n b d ≡ true) → OnRequest c n d q clock x k os →
        In out os → Told (Takes d q (messages.PcReq (x ∷ [])) all)
    request_told q clock k x all os within linked (wrong rp kind value is eq) i = wrong_told q x all within linked rp kind value is (subst (In out) eq i)
    request_told q clock k x all os within linked (again r number is hit eq) i = nothing os eq i
    request_told q clock k x all os within linked (key_shown r key pce segment is new wish behind eq) i = not_said q _ refl (subst (In out) eq i)
    request_told q clock k x all os within linked (key_refused r key pce is new wish none eq) i = not_said q _ refl (subst (In out) eq i)
    request_told q clock k x all os within linked (no_room r w is new wish full eq) i = not_said q _ refl (subst (In out) eq i)
    request_told q clock k x all os within linked (for_path r w is new wish room on) i = path_none k _ w os on i

    asked_none : {X : Type 0} (w : Wanted) (rs : List parent.Errand) (os : List Output) → AreAsked w rs os → In out os → X
    asked_none w [] os none i = nothing os none i
    asked_none {X} w (r ∷ rs) os on i = go (subst (In out) on.2 i) (asked_none w rs on.1 on.3)
      where
        go : In out (record { to = Inner r.child; message = request_message on.0 w r.target (r.child ∷ []) } ∷ on.1) → (In out on.1 → X) → X
        go (inl same) more = not_said (Inner r.child) _ refl (inl same)
        go (inr later) more = more later

    above_told : (up : d ≡ parent_as) (q : Peer) (k : parent.Parent) (x : Asked) (all os : List Output) → Within (Takes d q (messages.PcReq (x ∷ [])) all ∷ older) now → ((b : As) → q ≡ Inner b → is_linked n b d ≡ true) → OnRequestAbove c n q x k os →
        In out os → Told (Takes d q (messages.PcReq (x ∷ [])) all)
    above_told up q k x all os within linked (wrong_above rp kind value is eq) i = wrong_told q x all within linked rp kind value (ap (c.check x) up ∙ is) (subst (In out) eq i)
    above_told up q k x all os within linked (again_above r number is hit eq) i = nothing os eq i
    above_told up q k x all os within linked (key_above r key pce is new wish eq) i = not_said q _ refl (subst (In out) eq i)
    above_told up q k x all os within linked (no_room_above r w is new wish full eq) i = not_said q _ refl (subst (In out) eq i)
    above_told up q k x all os within linked (child_down r w child is new wish room among down eq) i = not_said q _ refl (subst (In out) eq i)
    above_told up q k x all os within linked (all_asked r w is new wish room all_up on) i = asked_none w _ os on i

    -- ---- a message is taken

    module _ (entries : List Entry) (before : Plant) (run' : Run c n entries before) (short' : IsShort (deeds_of c n entries)) (earlier : Transcript) (is_then : older ≡ earlier ++ deeds_of c n entries) (event : Event)
        (causes : HaveCauses c n before event earlier) (low : d ≢ parent_as) where
      -- no request of the parent waits
      no_parent : (q : Peer) (y : ℕ) (w : Asker) → WaitsAt (before.elements d) q y w → Inner a ≡ w.peer → a ≢ parent_as
      no_parent q y w waits peer up =
          child_rests c codec n net entries before run' short' d waits.row waits.is_row (sym (ap (λ (z : Asker). z.peer) waits.asked) ∙ sym peer ∙ ap (λ (z : As). let o : Peer = Inner z in o) up) q y waits.waits

      -- so it is told on
      failed_told : (q : Peer) (reports' : List ErrorReport) (all : List Output) (w : Asker) (y : ℕ) → WaitsAt (before.elements d) q y w → In out (told' w (chain_failed w.flags w.id)) →
          (In {A = Output} (record { to = Inner a; message = chain_failed w.flags w.id }) all → Unserved c d (Inner a) w.id (Takes d q (messages.PcErr reports') all) older) → In out all → Told (Takes d q (messages.PcErr reports') all)
      failed_told q reports' all w y waits says unserved i =
          let this = this_one w.peer (chain_failed w.flags w.id) says in
          fails w.flags w.id low (no_parent q y w waits this.0) (unserved (subst (λ (m : Message). In {A = Output} (record { to = Inner a; message = m }) all) this.1 i)) this.1

      outside_told : (j : ℕ) (pin : Pin) (reports' : List ErrorReport) (all : List Output) → Within (Takes d (Outside j) (messages.PcErr reports') all ∷ older) now → Passes c n before event d (Outside j) (messages.PcErr reports') →
          OnMessage c n d pin (Outside j) before.clock (messages.PcErr reports') (before.elements d) all → In out all → Told (Takes d (Outside j) (messages.PcErr reports') all)
      outside_told j pin reports' all within passes on i = by (hears_error c n d pin (Outside j) before.clock reports' (before.elements d) all out on i)
        where
          by : HearsError c n d pin (Outside j) before.clock (before.elements d) out reports' → Told (Takes d (Outside j) (messages.PcErr reports') all)
          by h = elim h.says [
            | inl o ↦
                failed_told (Outside j) reports' all h.asker h.rp.1 h.waits o.1
                (λ said. by_outside c codec n net es s run written short d low older (Outside j) entries before run' earlier is_then event causes (Inner a) h.asker.id h.asker.flags reports' all within passes said j refl pin on) i
            | inr o ↦ not_said h.asker.peer _ refl o.2
          ]

      inner_told : (b : As) (pin : Pin) (reports' : List ErrorReport) (all : List Output) → Within (Takes d (Inner b) (messages.PcErr reports') all ∷ older) now → Passes c n before event d (Inner b) (messages.PcErr reports') →
          OnMessage c n d pin (Inner b) before.clock (messages.PcErr reports') (before.elements d) all → In out all → IsFine reports' ⊎ SaysFailed c d b reports' older → Told (Takes d (Inner b) (messages.PcErr reports') all)
      inner_told b pin reports' all within passes on i (inl f) =
          own_error_none (Element Pin Segment) (λ k'. WaitsAt k' (Inner b)) (OnRequest c n d (Inner b) before.clock) (λ m' k'. (take c open_of (place n d) pin (Inner b) (class_of n (Inner b)) before.clock m' k').element) (same_peer (Inner b) the_parent) (Inner b)
          f.0 f.1 f.2 (messages.PcErr reports') (before.elements d) all f.4 f.3 on i
      inner_told b pin reports' all within passes on i (inr f) = elim
          (one_error (Element Pin Segment) (λ k'. WaitsAt k' (Inner b)) (OnRequest c n d (Inner b) before.clock) (λ m' k'. (take c open_of (place n d) pin (Inner b) (class_of n (Inner b)) before.clock m' k').element) (same_peer (Inner b) the_parent) (Inner b)
          (Some (f.flags, f.id)) errors.CHAIN_FAILED.0 errors.CHAIN_FAILED.1 (messages.PcErr reports') (before.elements d) all f.names on) [
            | inl none ↦ nothing all none i
            | inr one ↦ by one.0 (let same : (f.flags, f.id) ≡ one.0 = (let eq = one.1 in cc) in ap (λ (z : ℕ × ℕ). z.1) (sym same)) one.2
          ]
        where
          by : (rp : ℕ × ℕ) → rp.1 ≡ f.id → OnError (WaitsAt (before.elements d) (Inner b) rp.1) errors.CHAIN_FAILED all → Told (Takes d (Inner b) (messages.PcErr reports') all)
          by rp same (failed_for_nobody none is) = nothing all is i
          by rp same (of_reply of is) = nothing all is i
          by rp same (other_error w waits no' no'' is) = not_said w.peer _ refl (subst (In out) is i)
          by rp same (out_of_profile w waits out' is) =
              let w' : WaitsAt (before.elements d) (Inner b) f.id w = subst (λ (y : ℕ). WaitsAt (before.elements d) (Inner b) y w) same waits in
              let one = this_one w.peer (chain_failed w.flags w.id) (subst (In out) is i) in
              failed_told (Inner b) reports' all w f.id w' (subst (In out) is i)
              (λ said. by_inner c codec n net es s run written short d low older (Inner b) entries before run' earlier is_then event causes (Inner a) w.id w.flags reports' all within passes said b refl f.id f.flags f.names w w' one.0 refl f.deed f.before f.within f.said f.why) i

      errors_told : (q : Peer) (pin : Pin) (reports' : List ErrorReport) (all : List Output) → Within (Takes d q (messages.PcErr reports') all ∷ older) now → Passes c n before event d q (messages.PcErr reports') →
          OnMessage c n d pin q before.clock (messages.PcErr reports') (before.elements d) all → In out all → Told (Takes d q (messages.PcErr reports') all)
      errors_told (Outside j) pin reports' all within passes on i = outside_told j pin reports' all within passes on i
      errors_told (Inner b) pin reports' all within passes on i = inner_told b pin reports' all within passes on i (inner_fine b reports' all within)

      element_told : (q : Peer) (pin : Pin) (m : Message) (all : List Output) → Within (Takes d q m all ∷ older) now → IsAlone m → ((b : As) → q ≡ Inner b → is_linked n b d ≡ true) → Passes c n before event d q m → OnMessage c n d pin q before.clock m (before.elements d) all → In out all → Told (Takes d q m all)
      element_told q pin (messages.PcReq []) all within alone' linked passes on i = nothing all on i
      element_told q pin (messages.PcReq (x ∷ [])) all within alone' linked passes on i = request_told q before.clock (before.elements d) x all on.0 within linked on.3 (subst (In out) (on.2 ∙ ap (λ (l : List Output). on.0 ++ l) on.4 ∙ nil_right on.0) i)
      element_told q pin (messages.PcReq (x ∷ y ∷ rest)) all within alone' linked passes on i = absurd (omega (arith, alone'))
      element_told q pin (messages.PcRep []) all within alone' linked passes on i = nothing all on i
      element_told q pin (messages.PcRep (r ∷ [])) all within alone' linked passes on i =
          reply_told (Element Pin Segment) (λ k'. WaitsAt k' q) (OnRequest c n d q before.clock) (λ m' k'. (take c open_of (place n d) pin q (class_of n q) before.clock m' k').element) (same_peer q the_parent) q (Takes d q (messages.PcRep (r ∷ [])) all) r (before.elements d) on.0 on.3
          (subst (In out) (on.2 ∙ ap (λ (l : List Output). on.0 ++ l) on.4 ∙ nil_right on.0) i)
      element_told q pin (messages.PcRep (x ∷ y ∷ rest)) all within alone' linked passes on i = absurd (omega (arith, alone'))
      element_told q pin (messages.PcNtf notices) all within alone' linked passes on i =
          noted_none (Element Pin Segment) (λ k'. WaitsAt k' q) (OnRequest c n d q before.clock) (λ m' k'. (take c open_of (place n d) pin q (class_of n q) before.clock m' k').element) (same_peer q the_parent) q notices (before.elements d) all on i
      element_told q pin (messages.PcErr reports') all within alone' linked passes on i = errors_told q pin reports' all within passes on i
      element_told q pin (messages.Open body) all within alone' linked passes on i = nothing all on i
      element_told q pin messages.Keepalive all within alone' linked passes on i = nothing all on i
      element_told q pin (messages.Close why) all within alone' linked passes on i = nothing all on i
      element_told q pin (messages.Other kind) all within alone' linked passes on i = nothing all on i

    parent_told : (up : d ≡ parent_as) (k : parent.Parent) (left : Message → parent.Parent → parent.Parent) (q : Peer) (m : Message) (all : List Output) → Within (Takes d q m all ∷ older) now → IsAlone m → ((b : As) → q ≡ Inner b → is_linked n b d ≡ true) →
        OnParts parent.Parent (λ k'. WaitsAbove k' q) (OnRequestAbove c n q) left false q (parts m) k all → In out all → Told (Takes d q m all)
    parent_told up k left q (messages.PcReq []) all within alone' linked on i = nothing all on i
    parent_told up k left q (messages.PcReq (x ∷ [])) all within alone' linked on i = above_told up q k x all on.0 within linked on.3 (subst (In out) (on.2 ∙ ap (λ (l : List Output). on.0 ++ l) on.4 ∙ nil_right on.0) i)
    parent_told up k left q (messages.PcReq (x ∷ y ∷ rest)) all within alone' linked on i = absurd (omega (arith, alone'))
    parent_told up k left q (messages.PcRep []) all within alone' linked on i = nothing all on i
    parent_told up k left q (messages.PcRep (r ∷ [])) all within alone' linked on i =
        reply_told parent.Parent (λ k'. WaitsAbove k' q) (OnRequestAbove c n q) left false q (Takes d q (messages.PcRep (r ∷ [])) all) r k on.0 on.3 (subst (In out) (on.2 ∙ ap (λ (l : List Output). on.0 ++ l) on.4 ∙ nil_right on.0) i)
    parent_told up k left q (messages.PcRep (x ∷ y ∷ rest)) all within alone' linked on i = absurd (omega (arith, alone'))
    parent_told up k left q (messages.PcNtf notices) all within alone' linked on i = noted_none parent.Parent (λ k'. WaitsAbove k' q) (OnRequestAbove c n q) left false q notices k all on i
    parent_told up k left (Outside j) (messages.PcErr reports') all within alone' linked on i =
        absurd (none_outside n net c codec es s run j (messages.PcErr reports') all older (subst (λ (z : As). Within (Takes z (Outside j) (messages.PcErr reports') all ∷ older) now) up within))
    parent_told up k left (Inner b) (messages.PcErr reports') all within alone' linked on i = elim (inner_fine b reports' all within) [
      | inl f ↦ own_error_none parent.Parent (λ k'. WaitsAbove k' (Inner b)) (OnRequestAbove c n (Inner b)) left false (Inner b) f.0 f.1 f.2 (messages.PcErr reports') k all f.4 f.3 on i
      | inr f ↦ absurd (f.low up)
    ]
    parent_told up k left q (messages.Open body) all within alone' linked on i = nothing all on i
    parent_told up k left q messages.Keepalive all within alone' linked on i = nothing all on i
    parent_told up k left q (messages.Close why) all within alone' linked on i = nothing all on i
    parent_told up k left q (messages.Other kind) all within alone' linked on i = nothing all on i

    -- ---- each deed

    solved_none : {X : Type 0} (before : Plant) (d' : As) (k' : ℕ) (deeds : Transcript) (t : ElementTells c n before d' k' deeds) → In out (record { to = t.held.key.peer; message = t.message } ∷ []) → X
    solved_none before d' k' deeds t i = not_said t.held.key.peer t.message (go (is_client t.held.item.class) refl) i
      where
        client : TellsClient c (k', t.held) t.down t.rows t.message → is_err t.message ≡ false
        client (its_path b one at eq) = ap is_err eq
        client (no_pair none eq) = ap is_err eq

        closed : TellsClosed c (place n d') (k', t.held) t.down before.clock (before.elements d').keys t.rows.best t.message → is_err t.message ≡ false
        closed (branches some few eq) = ap is_err eq
        closed (no_branch none eq) = ap is_err eq
        closed (lacks_keys few eq) = ap is_err eq

        go : (b : Bool) → is_client t.held.item.class ≡ b → is_err t.message ≡ false
        go true is = client (t.to_client is)
        go false is = closed (t.to_closed is)

    upper_none : {X : Type 0} (h : parent.AskingRow) (answer : _) (q : Peer) (m : Message) → TellsUpper c h answer m → In out (record { to = q; message = m } ∷ []) → X
    upper_none h answer q m (found f some eq) i = not_said q m (ap is_err eq) i
    upper_none h answer q m (no_walk none eq) i = not_said q m (ap is_err eq) i

    own_told : (deed : PlantDeed) (o : Own) → messages.PcErr reports ≡ own_message o → Told deed
    own_told deed (own.Open offer) same = not_both true refl (ap is_err same)
    own_told deed own.Keepalive same = not_both true refl (ap is_err same)
    own_told deed (own.Error kind value) same = names_none kind value same
    own_told deed (own.Close why) same = not_both true refl (ap is_err same)

    linked_by : (before : Plant) (e : Event) (at : As) (q : Peer) (m : Message) → Passes c n before e at q m → (b : As) → q ≡ Inner b → is_linked n b at ≡ true
    linked_by before e at q m (from_outside j x bytes rest raw ev conn first read acts heard at' peer) b is = absurd (let clash : Outside j ≡ Inner b = sym peer ∙ is in cc)
    linked_by before e at q m (from_inside a' bytes rest ev linked first read acts peer) b is =
        let same : Inner a' ≡ Inner b = sym peer ∙ is in
        let here : a' ≡ b = cc in
        subst (λ (z : As). is_linked n z at ≡ true) here linked

    deed_told : (deed : PlantDeed) → Within (deed ∷ older) now → HasOne c n deed older → In out (outputs_at d deed) → Told deed
    deed_told (Takes at q m os) within one i =
        let here = at_here d out at os i in
        let alone' = takes_alone c codec n es s run (all_read c codec now written) at q m os older within in
        subst (λ (z : As). IsInnerError c a d (Takes z q m os) older (messages.PcErr reports)) (sym here.0)
        (go here.0 (subst (λ (z : As). Within (Takes z q m os ∷ older) now) here.0 within) alone'
        (λ b is. subst (λ (z : As). is_linked n b z ≡ true) here.0 (linked_by one.before one.event at q m one.cause.0 b is)) (subst (λ (z : As). Passes c n one.before one.event z q m) here.0 one.cause.0) here.1 one.cause.1)
      where
        go : at ≡ d → Within (Takes d q m os ∷ older) now → IsAlone m → ((b : As) → q ≡ Inner b → is_linked n b d ≡ true) → Passes c n one.before one.event d q m → In out os → OnPassed c n one.before one.event at q m os → Told (Takes d q m os)
        go is within' alone' linked passes i' (by_parent up on) = parent_told (sym is ∙ same_as_is at parent_as up) one.before.parent (λ m' k'. (parent.take c (family n) q m' k').parent) q m os within' alone' linked on i'
        go is within' alone' linked passes i' (by_element down on) =
            element_told one.entries one.before one.run one.short one.earlier one.is_then one.event one.causes (λ up. not_both (same_as at parent_as) (ap (λ (z : As). same_as z parent_as) (is ∙ up)) down) q (one.before.current at) m os within' alone' linked passes
            (subst (λ (z : As). OnMessage c n z (one.before.current at) q one.before.clock m (one.before.elements z) os) is on) i'
    deed_told (Downs at q os) within one i = go (same_as at parent_as) one.cause (at_here d out at os i).1
      where
        go : (b : Bool) → cond b (AnswersLost (IsLostAbove q) asker_above (left_above one.before.parent.pending.rows one.earlier) os)
            (AnswersLost (IsLost q) asker_of (left_rows at (one.before.elements at).pending.rows one.earlier) os) → In out os → Told (Downs at q os)
        go true lost' i' = none_lost (IsLostAbove q) asker_above (left_above one.before.parent.pending.rows one.earlier) os lost' i'
        go false lost' i' = none_lost (IsLost q) asker_of (left_rows at (one.before.elements at).pending.rows one.earlier) os lost' i'
    deed_told (Solves at k os keys) within one i = go (at_here d out at os i).1 one.cause
      where
        go : In out os → OfSolve c n one.before one.event (Solves at k os keys) → Told (Solves at k os keys)
        go i' (of_element d' k' ev tells) =
            let one' : Solves at k os keys ≡ Solves d' k' (record { to = tells.held.key.peer; message = tells.message } ∷ []) tells.keys = ap (head_of (Solves at k os keys)) tells.sends_one in
            solved_none one.before d' k' (Solves at k os keys ∷ []) tells (subst (In out) (ap outs one') i')
        go i' (of_parent k' ev tells) =
            let one' : Solves at k os keys ≡ Solves parent_as k' (record { to = tells.held.key.peer; message = tells.message } ∷ []) [] = ap (head_of (Solves at k os keys)) tells.sends_one in
            upper_none (k', tells.held) tells.answer tells.held.key.peer tells.message tells.tells (subst (In out) (ap outs one') i')
    deed_told (Says at o) within one i = go (at_here d out at (o ∷ []) i).1 one.cause
      where
        said : In out (o ∷ []) → messages.PcErr reports ≡ o.message
        said (inl same) = ap (λ (x : Output). x.message) same
        said (inr none) = absurd none

        go : In out (o ∷ []) → OfSession c n one.before one.event one.earlier at o → Told (Says at o)
        go i' (by_table x came o' comes acts eq) = own_told (Says at o) o' (said i' ∙ eq)
        go i' (anew b b' sid cleared sides eq) = own_told (Says at o) (own.Open (our_offer sid)) (said i' ∙ eq)
    deed_told (Loads at g) within one i = absurd i
    deed_told (Pops b b') within one i = absurd i
    deed_told (Ups at q) within one i = absurd i
    deed_told (Clears b b') within one i = absurd i
    deed_told (Expires t) within one i = absurd i
    deed_told (Hands j bytes) within one i = absurd i

    -- the first messages are no errors
    opening_told : (deed : PlantDeed) → IsOpening deed → In out (outputs_at d deed) → Told deed
    opening_told (Says at o) is i = own_told (Says at o) (own.Open (our_offer 0)) (said (at_here d out at (o ∷ []) i).1 ∙ is)
      where
        said : In out (o ∷ []) → messages.PcErr reports ≡ o.message
        said (inl same) = ap (λ (x : Output). x.message) same
        said (inr none) = absurd none
    opening_told (Loads at g) is i = absurd is
    opening_told (Pops b b') is i = absurd is
    opening_told (Takes at q m os) is i = absurd is
    opening_told (Ups at q) is i = absurd is
    opening_told (Downs at q os) is i = absurd is
    opening_told (Clears b b') is i = absurd is
    opening_told (Solves at k os keys) is i = absurd is
    opening_told (Expires t) is i = absurd is
    opening_told (Hands j bytes) is i = absurd is

  step : (a d : As) (reports : List ErrorReport) (deed : PlantDeed) (older : Transcript) → Within (deed ∷ older) now → In {A = Output} (record { to = Inner a; message = messages.PcErr reports }) (outputs_at d deed) → Before older →
      IsInnerError c a d deed older (messages.PcErr reports)
  step a d reports deed older within i rec = elim (moment_cause c n es s run short deed older within) [
    | inl one ↦ deed_told a d reports older rec deed within one i
    | inr first ↦ opening_told a d reports older rec deed first i
  ]

  by_length : (most : ℕ) (a d : As) (reports : List ErrorReport) (deed : PlantDeed) (older : Transcript) → length older ≤ most → Within (deed ∷ older) now → In {A = Output} (record { to = Inner a; message = messages.PcErr reports }) (outputs_at d deed) →
      IsInnerError c a d deed older (messages.PcErr reports)
  by_length zero a d reports deed older few within i =
      step a d reports deed older within i (λ a' d' reports' deed' older' within' i'. absurd (let less = within_length (deed' ∷ older') older within' in omega (arith, less, few)))
  by_length (suc most) a d reports deed older few within i =
      step a d reports deed older within i
      (λ a' d' reports' deed' older' within' i'.
      by_length most a' d' reports' deed' older' (let less = within_length (deed' ∷ older') older within' in omega (arith, less, few))
      (within_trans (deed' ∷ older') older now within' (within_tail deed older now within)) i')

  pub told_of : (a d : As) (reports : List ErrorReport) (deed : PlantDeed) (older : Transcript) → Within (deed ∷ older) now → In {A = Output} (record { to = Inner a; message = messages.PcErr reports }) (outputs_at d deed) → IsInnerError c a d deed older (messages.PcErr reports)
  told_of a d reports deed older within i = by_length (length older) a d reports deed older (omega arith) within i

pub inner_errors : WrittenNetIds InnerErrorsIn
inner_errors c codec n net es s run written short a d reports deed older within has = told_of c codec n net es s run written short a d reports deed older within (in_at _ (outputs_at d deed) has)
