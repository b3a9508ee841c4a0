-- A pending row that is ready has a sequence, and the branches of the reply to what was sent along it.
use Rattle.std.proofs.Common.{◌≡◌, ◌⊎◌, ◌≤◌, length, Bool, true, false, cond, List, [], ◌∷◌, Some, sym, ◌∙◌, ap, subst, inl, inr, refl, arith}
use Rattle.std.specs.Prelude.{Contains}
use Rattle.std.proofs.lemmas.Bool.{cases_Bool, eq-eqb}
use Rattle.plant_model.specs.Types.{As, Peer, Message, Reply, Own, Branch, NetworkParts}
use Rattle.pcep_messages.specs.Spelling.{IsWritten}
use Rattle.pcep_messages.specs.declared.message.Message.TheVariants as messages
use Rattle.pcep_session.specs.declared.actions.Own.TheVariants as own
use Rattle.request_table.specs.Pending.{same_peer}
use Rattle.plant_model.specs.Names.{the_parent}
use Rattle.plant_model.specs.Wire.{Codec}
use Rattle.plant_model.specs.Writing.{request_message}
use Rattle.plant_model.specs.Element.{Row, Stage, Ready}
use Rattle.plant_model.specs.Taking.{sequence_or, goes_up}
use Rattle.plant_text.specs.Settings.{class_of}
use Rattle.plant_model.specs.Routes.{toward}
use Rattle.plant_model.specs.Settings.{place}
use Rattle.plant_model.specs.State.{Takes}
use Rattle.plant_model.specs.Deeds.{own_message}
use Rattle.plant_model.specs.Plant.{Pin, Plant, Entry, Run, deeds_of}
use Rattle.plant_model.specs.Laws.{IsCodec}
use Rattle.plant_laws.specs.Transcript.{Transcript, Within, opened, SentIn}
use Rattle.plant_laws.specs.Sending.{AllSent}
use Rattle.plant_laws.proofs.WrittenForm.Sent.{AreSent, run_sent}
use Rattle.plant_laws.proofs.Runs.Rows.{In, in_of}
use Rattle.plant_laws.proofs.WrittenForm.ReadBack.{run_single}
use Rattle.plant_laws.proofs.Once.OpenTables.{found}
use Rattle.plant_laws.proofs.Numbering.SentOn.{IsRest}
use Rattle.plant_laws.proofs.Least.RowsKept.{IsFresh}
use Rattle.plant_laws.proofs.Least.Readied.{IsBack, ReadyAt, run_ready}
use Rattle.plant_laws.proofs.Least.Given.{IsReadied}
use Rattle.plant_laws.specs.Ends.{IsHeeded}
use Rattle.plant_laws.specs.Certified.{IsServed}
use Rattle.plant_laws.proofs.WrittenForm.Again.{all_read}
use Rattle.plant_laws.proofs.Once.Alone.{takes_alone}

-- a message of replies has one
abbrev pub IsOneReply : Message → Type 0
IsOneReply (messages.PcRep replies) = length replies ≡ 1
IsOneReply (messages.PcReq asks) = Unit {0}
IsOneReply (messages.PcNtf notices) = Unit {0}
IsOneReply (messages.PcErr reports) = Unit {0}
IsOneReply (messages.Open body) = Unit {0}
IsOneReply messages.Keepalive = Unit {0}
IsOneReply (messages.Close why) = Unit {0}
IsOneReply (messages.Other kind) = Unit {0}

own_one : (o : Own) → IsOneReply (own_message o)
own_one (own.Open offer) = tt
own_one own.Keepalive = tt
own_one (own.Error kind value) = tt
own_one (own.Close why) = tt

pub sent_one : (c : Codec) (n : NetworkParts) (es : List Entry) (s : Plant) → Run c n es s → AreSent IsOneReply (deeds_of c n es)
sent_one c n es s run = run_sent IsOneReply (λ y w t rest. tt) (λ flags id a. refl) (λ flags id. tt) (λ rp kind value. tt) own_one c n es s run

pub sent_within : (Q : Message → Type 0) (m now : Transcript) → Within m now → AreSent Q now → AreSent Q m
sent_within Q m [] w h = subst (λ (t : Transcript). AreSent Q t) (sym w) h
sent_within Q m (e ∷ older) (inl same) h = subst (λ (t : Transcript). AreSent Q t) (sym same) h
sent_within Q m (e ∷ older) (inr w) h = sent_within Q m older w h.1

pub the_one : (rs : List Reply) (r : Reply) → length rs ≡ 1 → In r rs → rs ≡ r ∷ []
the_one [] r len i = absurd i
the_one (x ∷ []) r len (inl same) = ap (λ (z : Reply). z ∷ []) same
the_one (x ∷ []) r len (inr none) = absurd none
the_one (x ∷ y ∷ rest) r len i = absurd (omega (arith, len))

only_one : (rs : List Reply) (r : Reply) → length rs ≤ 1 → In r rs → rs ≡ r ∷ []
only_one [] r few i = absurd i
only_one (x ∷ []) r few i = the_one (x ∷ []) r refl i
only_one (x ∷ y ∷ rest) r few i = absurd (omega (arith, few))

pub no_cons : {X : Type 0} (x : X) (xs : List X) → x ∷ xs ≡ [] → ⊥
no_cons x xs e = cc

module _ (c : Codec) (codec : IsCodec c) (n : NetworkParts) (es : List Entry) (s : Plant) (run : Run c n es s) (written : AllSent IsWritten (deeds_of c n es)) (d : As) (h : Row Pin) where
  abbrev now : Transcript
  now = deeds_of c n es

  no_up : (on : Peer) → same_peer on the_parent ≡ false → on ≡ the_parent → ⊥
  no_up on upper is = differ (sym (subst (λ (p : Peer). same_peer p the_parent ≡ false) is upper) ∙ eq-eqb 0 0 refl)
    where
      differ : false ≡ true → ⊥
      differ e = cc

  -- a message of replies that was taken has one at most
  pub taken_alone : (on : Peer) (rs : List Reply) (r : Reply) (os : List _) (before : Transcript) → Within (Takes d on (messages.PcRep rs) os ∷ before) now → In r rs → rs ≡ r ∷ []
  taken_alone on rs r os before w = only_one rs r (takes_alone c codec n es s run (all_read c codec now written) d on (messages.PcRep rs) os before w)

  back_served : (down : List Branch) (b : IsBack c n now d h down) → IsServed c n now d b.at h.1.item.wanted h.1.item.sequence down
  back_served down b = go b.goes
    where
      go : IsRest (place n d).routes h.1.item.sequence b.rest b.on → IsServed c n now d b.at h.1.item.wanted h.1.item.sequence down
      go (inl up) = absurd (no_up b.on b.upper up.2)
      go (inr on) =
          let next = on.1 in
          let more = on.2 in
          let to = toward next (place n d).routes in
          let one = taken_alone b.on b.replies b.reply b.outputs b.before b.within b.is_reply in
          subst (λ (l : List As). IsServed c n now d b.at h.1.item.wanted l down) (sym (on.3 ∙ ap (λ (l : List As). on.0 ∷ l) on.4)) (record {
            id = b.id;
            sent = subst (λ (p : Peer). SentIn b.at d p (request_message b.id h.1.item.wanted h.1.item.wanted.target (next ∷ more))) on.5
                (subst (λ (l : List As). SentIn b.at d b.on (request_message b.id h.1.item.wanted h.1.item.wanted.target l)) on.4 b.sent);
            reply = b.reply;
            outputs = b.outputs;
            before = b.before;
            within = subst (λ (l : List Reply). Within (Takes d to (messages.PcRep l) b.outputs ∷ b.before) now) one
                (subst (λ (p : Peer). Within (Takes d p (messages.PcRep b.replies) b.outputs ∷ b.before) now) on.5 b.within);
            same = b.same;
            heeded = subst (λ (l : List As). IsHeeded c to (length l) b.reply) on.4 (subst (λ (p : Peer). IsHeeded c p (length b.rest) b.reply) on.5 b.heeded);
            paths = b.paths;
            tells = b.tells;
            is = b.is;
          })

  -- it has a sequence
  ready_sequence : (down : List Branch) → IsFresh h.1.item.sequence (Ready down) ⊎ IsBack c n now d h down → h.1.item.sequence ≡ [] → ⊥
  ready_sequence down (inl fresh) none = no_cons fresh.0 [] (sym fresh.1 ∙ none)
  ready_sequence down (inr b) none = go b.goes
    where
      go : IsRest (place n d).routes h.1.item.sequence b.rest b.on → ⊥
      go (inl up) = no_up b.on b.upper up.2
      go (inr on) = no_cons on.0 b.rest (sym on.3 ∙ none)

  pub is_readied : Contains (s.elements d).pending.rows h → (down : List Branch) → h.1.item.stage ≡ Ready down → IsReadied c n now d h down
  is_readied i down stage =
      let all = run_ready c n es s run (run_single c n codec es s run written) in
      let f = found c n now s all.0.0 d h i in
      let ready : IsFresh h.1.item.sequence (Ready down) ⊎ IsBack c n now d h down = subst (λ (x : Stage). ReadyAt c n now d h x) stage (all.1 d h (in_of h (s.elements d).pending.rows i)) in
      let up = goes_up (place n d).parent (class_of n h.1.key.peer) h.1.item.wanted.sequence in
      elim (cases_Bool up) [
        | inl goes ↦ absurd (ready_sequence down ready (f.2.sequence' ∙ ap (λ (b : Bool). cond b [] (sequence_or d h.1.item.wanted.sequence)) goes))
        | inr stays ↦
            let along : h.1.item.sequence ≡ sequence_or d h.1.item.wanted.sequence = f.2.sequence' ∙ ap (λ (b : Bool). cond b [] (sequence_or d h.1.item.wanted.sequence)) stays in
            let here = ap (λ z. goes_up (place n d).parent z h.1.item.wanted.sequence) f.2.class' ∙ stays in
            by_stage ready along here f.0 f.1
      ]
    where
      by_stage : IsFresh h.1.item.sequence (Ready down) ⊎ IsBack c n now d h down → h.1.item.sequence ≡ sequence_or d h.1.item.wanted.sequence → goes_up (place n d).parent h.1.item.class h.1.item.wanted.sequence ≡ false →
          (at : Transcript) → opened c d h.1.key.peer h.1.key.id now ≡ Some at → IsReadied c n now d h down
      by_stage (inl fresh) along here at open' = record { along = along; stays = here; at = at; is_open = open'; served = subst (λ (l : List As). IsServed c n now d at h.1.item.wanted l down) (sym fresh.1) fresh.2 }
      by_stage (inr b) along here at open' = record { along = along; stays = here; at = b.at; is_open = b.is_open; served = back_served down b }
