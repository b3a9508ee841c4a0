-- Nothing is said to a client that asks once behind the answer to its question, and that has lines.
use Rattle.std.proofs.Common.{◌≡◌, ◌≢◌, ◌⊎◌, ◌≤◌, ◌<◌, ◌+◌, ℕ, Bool, true, false, cond, List, [], ◌∷◌, ◌++◌, length, Option, Some, None, option_map, Ok, Err, append_assoc, sym, ap, subst, ◌∙◌, inl, inr, refl, arith}
use Rattle.std.specs.Prelude.{Contains}
use Rattle.std.specs.List.{AllByRecursion}
use Rattle.std.proofs.lemmas.Bool.{cases_Bool}
use Rattle.std.proofs.lemmas.List.{append-nil}
use Rattle.plant_play.specs.plant_model.Types.{As, Peer, Outside, Answer, Message, Path, Reply, Request, NetworkParts}
use Rattle.plant_play.specs.plant_model.Routes.{StaysInside}
use Rattle.dom_base.specs.Words.{is_malformed}
use Rattle.border_costs.proofs.Members.{contains_head, contains_none, contains_tail}
use Rattle.pcep_messages.specs.declared.message.Answer.TheVariants.{NoPath, Paths}
use Rattle.pcep_messages.specs.declared.message.Message.TheVariants as messages
use Rattle.pcep_messages.specs.Spelling.{IsWritten, objects_in}
use Rattle.pcep_objects.specs.Spelling as objects
use Rattle.request_table.proofs.KeyLemmas.{same_peer_self}
use Rattle.request_table.specs.Pending.{same_peer}
use Rattle.plant_text.specs.Names.{parent_as, same_as}
use Rattle.plant_play.specs.plant_model.declared.event.Event.{Event}
use Rattle.plant_play.specs.plant_model.declared.event.Event.TheVariants as event
use Rattle.plant_play.specs.plant_model.declared.output.Output.{Output}
use Rattle.plant_play.specs.plant_model.Blind.{is_accepted}
use Rattle.plant_play.specs.plant_model.Branches.{path_of}
use Rattle.plant_play.specs.plant_model.Deeds.{element_of}
use Rattle.plant_play.specs.plant_model.Element.{Element, Row}
use Rattle.plant_play.specs.plant_model.Events.{Answered}
use Rattle.plant_play.specs.plant_model.Laws.{IsNetwork}
use Rattle.plant_play.specs.plant_model.Plant.{Entry, Happened, Pin, Plant, PlantDeed, Run, Segment, deeds_of}
use Rattle.plant_play.specs.plant_model.RealWire.{check_of, wire}
use Rattle.plant_play.specs.plant_model.State.{Clears, Downs, Expires, Hands, Loads, Pops, Says, Solves, Takes, Ups}
use Rattle.plant_play.specs.plant_model.Wire.{Admitted, Checked, Wrong}
use Rattle.plant_play.specs.plant_model.Writing.{busy, error_message, reply_message}
use Rattle.run_laws.specs.plant_laws.About.{IsPathAnswer, IsShort}
use Rattle.run_laws.specs.plant_laws.Answered.{DropsFor, answers_of}
use Rattle.run_laws.specs.plant_laws.Causes.{HaveCauses, OnPassed, by_element, by_parent}
use Rattle.run_laws.specs.plant_laws.Chains.{IsQuiet}
use Rattle.run_laws.specs.plant_laws.MessageCauses.{OnRequest}
use Rattle.run_laws.specs.plant_laws.MessageCauses as causes
use Rattle.run_laws.specs.plant_laws.Sending.{AllSent}
use Rattle.run_laws.specs.plant_laws.Transcript.{Begins, Delivered, Effect, Ends, Keeps, Transcript, Within, after, answers_to, effect, opened}
use Rattle.plant_play.specs.Turns.{entries_of}
use Rattle.client_laws.proofs.Rightly.{scripts_are_right}
use Rattle.run_laws.proofs.plant_laws.plant_model.WireLaws.{wire_is_codec}
use Rattle.run_laws.proofs.plant_laws.Once.AskedRuns.{none_outside}
use Rattle.run_laws.proofs.plant_laws.Once.OpenTables.{open_is_pending}
use Rattle.run_laws.proofs.plant_laws.Reasons.AllCauses.{messages_have_causes}
use Rattle.run_laws.proofs.plant_laws.Runs.Moments.{opened_within, peer_is, within_length}
use Rattle.run_laws.proofs.plant_laws.Runs.Queues.{same_as_is}
use Rattle.run_laws.proofs.plant_laws.Settled.UnderWayLaw.{quiet_has_none_pending}
use Rattle.run_laws.proofs.plant_laws.WrittenForm.EveryWritten.{every_written}
use Rattle.plant_client.specs.plant_play.transcript.Replies.{message_lines}
use Rattle.plant_client.specs.declared.question.Question.{Question}
use Rattle.plant_client.specs.Asking.{topologies}
use Rattle.plant_client.specs.Questions.{asked_of, question_message}
use Rattle.plant_client.specs.Telling.{told_text}
use Rattle.run_laws.specs.Outlets.{Outlet, Stays, ConnectionChange, handed_in, messages_for, outlet, outputs_of, put_for, turn_for, turned, with_put}
use Rattle.run_laws.proofs.PeerLemmas.Putting.{of_sent, put_is}
use Rattle.run_laws.specs.Received.{IsRight}
use Rattle.client_laws.specs.Asked.{AsksOnly}
use Rattle.client_laws.specs.Ended.{AnswerIsTold, IsAnswerTo, fails, is_busy, replies}
use Rattle.client_laws.specs.Served.{IsServed, at_once, dropped, later}
use Rattle.client_laws.specs.Served as waiting
use Rattle.client_laws.specs.Told.{last_lines}
use Rattle.client_laws.proofs.Answered.{no_flags, question_ends, question_is_taken, read_so}
use Rattle.client_laws.proofs.Asked.{one_is_asked}
use Rattle.client_laws.proofs.Asking.{clients_are_told, lines_feed}
use Rattle.client_laws.proofs.Lasting.{IsFinal, deed_final, denial, its_own, of_reply, refused}
use Rattle.client_laws.proofs.Opening.{IsOfOthers, IsTail}
use Rattle.client_laws.proofs.Resting.{asked_is_quiet}
use Rattle.client_laws.proofs.Serving.{taken_is_served}
use Rattle.client_laws.proofs.Words.{Each, failed, full, none, nothing, on_path, one}

-- ---- lists of messages

abbrev AllFinal : ℕ → List Message → Type 0
AllFinal x [] = Unit {0}
AllFinal x (m ∷ ms) = IsFinal x m × AllFinal x ms

final_append : (x : ℕ) (ms ms' : List Message) → AllFinal x ms → AllFinal x ms' → AllFinal x (ms ++ ms')
final_append x [] ms' h k = k
final_append x (m ∷ ms) ms' h k = (h.0, final_append x ms ms' h.1 k)

put_final : (i x : ℕ) (os : List Output) → Each i (IsFinal x) os → AllFinal x (put_for i os)
put_final i x [] h = tt
put_final i x (o ∷ os) h = elim (cases_Bool (same_peer o.to (Outside i))) [
  | inl hit ↦ rw hit (h.0 (peer_is o.to (Outside i) hit), put_final i x os h.1)
  | inr miss ↦ rw miss (put_final i x os h.1)
]

-- the last of some
pub record HasLast (x : ℕ) (ms : List Message) : Type 0 where
  pub before : List Message
  pub last : Message
  pub is : ms ≡ before ++ last ∷ []
  pub final : IsFinal x last

last_final : (x : ℕ) (ms : List Message) → 1 ≤ length ms → AllFinal x ms → HasLast x ms
last_final x [] some h = absurd (omega (arith, some))
last_final x (m ∷ []) some h = record { before = []; last = m; is = refl; final = h.0 }
last_final x (m ∷ next ∷ ms) some h =
    let rest = last_final x (next ∷ ms) (omega arith) h.1 in
    record { before = m ∷ rest.before; last = rest.last; is = ap (λ (l : List Message). m ∷ l) rest.is; final = rest.final }

last_is : (before : List Message) (m : Message) → last_lines (before ++ m ∷ []) ≡ message_lines m
last_is [] m = refl
last_is (x ∷ []) m = refl
last_is (x ∷ y ∷ before) m = last_is (y ∷ before) m

-- ---- what stands open

module _ (d : As) (p : Peer) (x : ℕ) where
  -- after it ended, what is open began later
  began_later : (now : Transcript) (e : PlantDeed) (older : Transcript) → Within (e ∷ older) now → opened wire d p x (e ∷ older) ≡ None → (at : Transcript) → opened wire d p x now ≡ Some at → length (e ∷ older) < length at
  began_later [] e older w closed at is = cc
  began_later (f ∷ now) e older (inl same) closed at is = (let clash : None ≡ Some at = sym closed ∙ ap (opened wire d p x) same ∙ is in cc)
  began_later (f ∷ now) e older (inr w) closed at is = go (effect wire d p x f) (opened wire d p x now) is (began_later now e older w closed at)
    where
      go : (g : Effect) (o : Option Transcript) → after g o (f ∷ now) ≡ Some at → (o ≡ Some at → length (e ∷ older) < length at) → length (e ∷ older) < length at
      go Keeps o is' rec = rec is'
      go Ends o is' rec = cc
      go Begins None is' rec = (let same : f ∷ now ≡ at = cc in let le = ap length same in let w' = within_length (e ∷ older) now w in omega arith)
      go Begins (Some m) is' rec = rec is'

  -- no deed before a moment ended what is open then
  not_before : (at : Transcript) (e : PlantDeed) (older now : Transcript) → Within (e ∷ older) now → effect wire d p x e ≡ Ends → opened wire d p x older ≡ Some at → opened wire d p x now ≡ Some at → ⊥
  not_before at e older now w ends is is' =
      let closed : opened wire d p x (e ∷ older) ≡ None = ap (λ (g : Effect). after g (opened wire d p x older) (e ∷ older)) ends in
      let less = began_later now e older w closed at is' in
      let le = within_length at older (opened_within wire d p x older at is) in
      absurd (omega (arith, less, le))

-- ---- places in a run

within_before : (xs ys : Transcript) (d : PlantDeed) (ds : Transcript) → Within (d ∷ ds) xs → Within (d ∷ ds ++ ys) (xs ++ ys)
within_before [] ys d ds w = (let no : d ∷ ds ≡ [] = w in cc)
within_before (x ∷ xs) ys d ds (inl same) = inl (ap (λ (l : Transcript). l ++ ys) same)
within_before (x ∷ xs) ys d ds (inr w) = inr (within_before xs ys d ds w)

within_behind : (xs ys m : Transcript) → Within m ys → Within m (xs ++ ys)
within_behind [] ys m w = w
within_behind (x ∷ xs) ys m w = inr (within_behind xs ys m w)

module _ (n : NetworkParts) (i : ℕ) (q : Question) where
  abbrev Tail : List Entry → Type 0
  Tail es = IsTail n i q es

  abbrev d : As
  d = element_of n i

  -- what was before the question
  abbrev early : (es : List Entry) → Tail es → Transcript
  early [] t = absurd t
  early (e ∷ es) (inl x) = deeds_of wire n es
  early (e ∷ es) (inr x) = early es x.2

  abbrev said : (es : List Entry) → Tail es → List Output
  said [] t = absurd t
  said (e ∷ es) (inl x) = x.outputs
  said (e ∷ es) (inr x) = said es x.2

  -- what was put for the client from then on
  abbrev fresh : (es : List Entry) → Tail es → List Message
  fresh [] t = absurd t
  fresh (e ∷ es) (inl x) = put_for i x.outputs
  fresh (e ∷ es) (inr x) = fresh es x.2 ++ messages_for i e.deeds

  abbrev taking : List Output → PlantDeed
  taking os = Takes d (Outside i) (question_message q) os

  moment_within : (es : List Entry) (t : Tail es) → Within (taking (said es t) ∷ early es t) (deeds_of wire n es)
  moment_within [] t = absurd t
  moment_within (e ∷ es) (inl x) = subst (λ (ds : Transcript). Within (taking x.outputs ∷ deeds_of wire n es) (ds ++ deeds_of wire n es)) (sym x.deeds) (inl refl)
  moment_within (e ∷ es) (inr x) = within_behind e.deeds (deeds_of wire n es) (taking (said es x.2) ∷ early es x.2) (moment_within es x.2)

  -- ---- the outlet

  stays_put : (o : Option Outlet) (ms : List Message) (new : Outlet) → option_map (with_put ms) o ≡ Some new → (old : Outlet) × (o ≡ Some old) × (new.put ≡ old.put ++ ms)
  stays_put None ms new is = cc
  stays_put (Some old) ms new is = (old, refl, (let same : with_put ms old ≡ new = cc in ap (λ (z : Outlet). z.put) (sym same)))

  entry_put : (e : Entry) (es : List Entry) → is_accepted e.answer ≡ true → turn_for i e.event ≡ Stays → (new : Outlet) → outlet i (e ∷ es) ≡ Some new → (old : Outlet) × (outlet i es ≡ Some old) × (new.put ≡ old.put ++ messages_for i e.deeds)
  entry_put e es ok stay new is =
      stays_put (outlet i es) (messages_for i e.deeds) new
      (sym (ap (λ (t : ConnectionChange). turned t (messages_for i e.deeds) (handed_in e.answer) (outlet i es)) stay)
      ∙ sym (ap (λ (b : Bool). cond b (turned (turn_for i e.event) (messages_for i e.deeds) (handed_in e.answer) (outlet i es)) (outlet i es)) ok) ∙ is)

  others_stay : (e : Event) → IsOfOthers e → turn_for i e ≡ Stays
  others_stay (event.Carry a b) h = refl
  others_stay (event.Solve a k) h = refl
  others_stay _ h = absurd h

  -- all that was put since the question is the last of it
  put_last : (es : List Entry) (t : Tail es) (o : Outlet) → outlet i es ≡ Some o → (before : List Message) × (o.put ≡ before ++ fresh es t)
  put_last [] t o is = absurd t
  put_last (e ∷ es) (inl x) o is =
      let p = entry_put e es x.accepted (ap (turn_for i) x.takes) o is in
      (p.0.put, p.2 ∙ ap (λ (ds : Transcript). p.0.put ++ messages_for i ds) x.deeds)
  put_last (e ∷ es) (inr x) o is =
      let p = entry_put e es x.0 (others_stay e.event x.1) o is in
      let rest = put_last es x.2 p.0 p.1 in
      (rest.0, p.2 ∙ ap (λ (l : List Message). l ++ messages_for i e.deeds) rest.1 ∙ append_assoc rest.0 (fresh es x.2) (messages_for i e.deeds))

  -- ---- where an answer stands

  answers_put : (x : ℕ) (os : List Output) → 1 ≤ answers_to (Outside i) x os → 1 ≤ length (put_for i os)
  answers_put x [] some = absurd (omega (arith, some))
  answers_put x (o ∷ os) some = elim (cases_Bool (same_peer o.to (Outside i))) [
    | inl hit ↦ rw hit (omega arith)
    | inr miss ↦ rw miss (answers_put x os (let rest : 1 ≤ 0 + answers_to (Outside i) x os = rw miss at some in omega (arith, rest)))
  ]

  here_put : (x : ℕ) (b : Bool) (os : List Output) → 1 ≤ answers_to (Outside i) x (cond b os []) → 1 ≤ length (put_for i os)
  here_put x true os some = answers_put x os some
  here_put x false os some = absurd (omega (arith, some))

  deed_put : (x : ℕ) (e : PlantDeed) → 1 ≤ answers_of d (Outside i) x e → 1 ≤ length (put_for i (outputs_of e))
  deed_put x (Takes at p m os) some = here_put x (same_as at d) os some
  deed_put x (Says at o) some = here_put x (same_as at d) (o ∷ []) some
  deed_put x (Downs at p os) some = here_put x (same_as at d) os some
  deed_put x (Solves at k os keys) some = here_put x (same_as at d) os some
  deed_put x _ some = absurd (omega (arith, some))

  some_more : (ms ms' : List Message) → (1 ≤ length ms) ⊎ (1 ≤ length ms') → 1 ≤ length (ms ++ ms')
  some_more [] ms' (inl empty) = absurd (omega (arith, empty))
  some_more [] ms' (inr some) = some
  some_more (m ∷ ms) ms' h = omega arith

  -- a deed of these, or one before
  among : (xs ys : Transcript) (e : PlantDeed) (older : Transcript) → Within (e ∷ older) (xs ++ ys) → (1 ≤ length (put_for i (outputs_of e)) → 1 ≤ length (messages_for i xs)) ⊎ Within (e ∷ older) ys
  among [] ys e older w = inr w
  among (x ∷ xs) ys e older (inl same) =
      (let is : e ≡ x = cc in inl (λ some. some_more (messages_for i xs) (put_for i (outputs_of x)) (inr (subst (λ (z : PlantDeed). 1 ≤ length (put_for i (outputs_of z))) is some))))
  among (x ∷ xs) ys e older (inr w) = elim (among xs ys e older w) [
    | inl put ↦ inl (λ some. some_more (messages_for i xs) (put_for i (outputs_of x)) (inl (put some)))
    | inr before ↦ inr before
  ]

  placed : (es : List Entry) (t : Tail es) (e : PlantDeed) (older : Transcript) → Within (e ∷ older) (deeds_of wire n es) → (1 ≤ length (put_for i (outputs_of e)) → 1 ≤ length (fresh es t)) ⊎ Within (e ∷ older) (early es t)
  placed [] t e older w = absurd t
  placed (x ∷ es) (inl z) e older w = elim (among x.deeds (deeds_of wire n es) e older w) [
    | inl put ↦ inl (λ some. subst (λ (ds : Transcript). 1 ≤ length (messages_for i ds)) z.deeds (put some))
    | inr before ↦ inr before
  ]
  placed (x ∷ es) (inr z) e older w = elim (among x.deeds (deeds_of wire n es) e older w) [
    | inl put ↦ inl (λ some. some_more (fresh es z.2) (messages_for i x.deeds) (inr (put some)))
    | inr before ↦
        elim (placed es z.2 e older before) [
          | inl put ↦ inl (λ some. some_more (fresh es z.2) (messages_for i x.deeds) (inl (put some)))
          | inr first ↦ inr first
        ]
  ]

-- ---- all that is said from the question on answers it

sent_behind : (xs ys : Transcript) → AllSent IsWritten (xs ++ ys) → AllSent IsWritten ys
sent_behind [] ys all = all
sent_behind (x ∷ xs) ys all = sent_behind xs ys all.1

module _ (n : NetworkParts) (net : IsNetwork n) (i : ℕ) (q : Question) (downs : StaysInside n) where
  entry_causes : (e : Entry) (es : List Entry) (s : Plant) (run : Run wire n (e ∷ es) s) → is_accepted e.answer ≡ true → HaveCauses wire n run.0 e.event e.deeds
  entry_causes e es s run ok = go e.answer refl ok
    where
      h : Happened
      h = record { answer = e.answer; state = s; deeds = e.deeds }

      go : (a : Answered) → e.answer ≡ a → is_accepted a ≡ true → HaveCauses wire n run.0 e.event e.deeds
      go (Ok o) is ok' = (messages_have_causes wire n es run.0 run.1 e.event h run.3 o is).0
      go (Err why) is ok' = cc

  module _ (real : element_of n i ≢ parent_as) where
    -- what is said to the question
    request_final : (now : ℕ) (k : Element Pin Segment) (os : List Output) → OnRequest wire n (element_of n i) (Outside i) now (asked_of q) k os → Each i (IsFinal q.id) os
    request_final now k os on = go on
      where
        Q : Message → Type 0
        Q m = IsFinal q.id m

        replied : (r : Request) (answer : Answer) → check_of (asked_of q) (element_of n i) ≡ Admitted r → Q (reply_message r.flags r.id answer)
        replied r answer e =
            of_reply answer (ap (λ (x : ℕ). reply_message x r.id answer) (no_flags q (element_of n i) real r e) ∙ ap (λ (x : ℕ). reply_message 0 x answer) ((read_so q (element_of n i) real).admitted r e).0)

        go : OnRequest wire n (element_of n i) (Outside i) now (asked_of q) k os → Each i Q os
        go (causes.wrong rp kind value e is) =
            one i Q (Outside i) (error_message rp kind value) os is (λ to. refused 0 kind value (ap (λ (z : Option (ℕ × ℕ)). error_message z kind value) ((read_so q (element_of n i) real).refused rp kind value e)))
        go (causes.again r number e there is) = nothing i Q os is
        go (causes.key_shown r key pce segment e new wish behind is) = one i Q (Outside i) _ os is (λ to. replied r _ e)
        go (causes.key_refused r key pce e new wish behind is) = one i Q (Outside i) _ os is (λ to. replied r _ e)
        go (causes.no_room r w e new wish full' is) =
            one i Q (Outside i) (busy r.flags r.id) os is (λ to. denial (full r.flags (ap (λ (x : ℕ). busy r.flags x) ((read_so q (element_of n i) real).admitted r e).0)))
        go (causes.for_path r w e new wish room on') =
            on_path i wire n downs (element_of n i) (Outside i) Q k (record { peer = Outside i; flags = r.flags; id = r.id }) w os refl (λ to. replied r _ e) on'

    to_question : (before : Plant) (e : Event) (os : List Output) → OnPassed wire n before e (element_of n i) (Outside i) (question_message q) os → Each i (IsFinal q.id) os
    to_question before e os (by_parent up on) = absurd (real (same_as_is (element_of n i) parent_as up))
    to_question before e os (by_element low on) =
        subst (Each i (IsFinal q.id)) (sym (on.2 ∙ ap (λ (l : List Output). on.0 ++ l) on.4 ∙ append-nil on.0)) (request_final before.clock (before.elements (element_of n i)) on.0 on.3)

    -- the deeds of one event of others
    module _ (e : Entry) (es : List Entry) (s : Plant) (run : Run wire n (e ∷ es) s) (only : AsksOnly n (e ∷ es) i q) (written : AllSent IsWritten (deeds_of wire n (e ∷ es))) (others : IsOfOthers e.event) where
      only_before : AsksOnly n es i q
      only_before a m r within delivered = only a m r (within_behind e.deeds (deeds_of wire n es) m within) delivered

      tables : (a : As) (h : Row Pin) → Contains (run.0.elements a).pending.rows h → h.1.key.peer ≡ Outside i → (h.1.key.id ≡ q.id) × (h.1.item.flags ≡ 0)
      tables a h there to =
          let t = (open_is_pending wire wire_is_codec n net es run.0 run.1).taken a h there in
          let own =
          its_own n net i q es run.0 run.1 only_before a t.at t.request (opened_within wire a h.1.key.peer h.1.key.id (deeds_of wire n es) t.at t.is_open)
          (subst (λ (p : Peer). Delivered wire t.at a p t.request) to t.delivered) in
          (sym t.id ∙ own.0, sym t.flags ∙ own.1)

      deeds_final : (ds : Transcript) → ((x : PlantDeed) (xs : Transcript) → Within (x ∷ xs) ds → Within (x ∷ xs ++ deeds_of wire n es) (deeds_of wire n (e ∷ es))) → HaveCauses wire n run.0 e.event ds → AllFinal q.id (messages_for i ds)
      deeds_final [] inside have = tt
      deeds_final (x ∷ xs) inside have =
          final_append q.id (messages_for i xs) (put_for i (outputs_of x)) (deeds_final xs (λ a b w. inside a b (inr w)) have.1)
          (put_final i q.id (outputs_of x) (deed_final n net i q downs (e ∷ es) s run only written run.0 tables e.event others x (xs ++ deeds_of wire n es) (inside x xs (inl refl)) xs have.0))

    fresh_final : (es : List Entry) (s : Plant) → Run wire n es s → AsksOnly n es i q → AllSent IsWritten (deeds_of wire n es) → (t : IsTail n i q es) → AllFinal q.id (fresh n i q es t)
    fresh_final [] s run only written t = absurd t
    fresh_final (e ∷ es) s run only written (inl x) =
        let have = subst (HaveCauses wire n run.0 e.event) x.deeds (entry_causes e es s run x.accepted) in
        put_final i q.id x.outputs (to_question run.0 e.event x.outputs have.0.1)
    fresh_final (e ∷ es) s run only written (inr x) =
        final_append q.id (fresh n i q es x.2) (messages_for i e.deeds)
        (fresh_final es run.0 run.1 (only_before e es s run only written x.1) (sent_behind e.deeds (deeds_of wire n es) written) x.2)
        (deeds_final e es s run only written x.1 e.deeds (λ a b w. within_before e.deeds (deeds_of wire n es) a b w) (entry_causes e es s run x.0))

    -- ---- there is an answer among it

    fresh_said : (es : List Entry) (t : IsTail n i q es) → 1 ≤ length (put_for i (said n i q es t)) → 1 ≤ length (fresh n i q es t)
    fresh_said [] t some = absurd t
    fresh_said (e ∷ es) (inl x) some = some
    fresh_said (e ∷ es) (inr x) some = some_more n i q (fresh n i q es x.2) (messages_for i e.deeds) (inl (fresh_said es x.2 some))

    one_put : (m : Message) (os : List Output) → os ≡ record { to = Outside i; message = m } ∷ [] → 1 ≤ length (put_for i os)
    one_put m os is = subst (λ (l : List Output). 1 ≤ length (put_for i l)) (sym is) (rw (same_peer_self (Outside i)) (omega arith))

    refused_said : (rp : Option (ℕ × ℕ)) (kind value : ℕ) → check_of (asked_of q) (element_of n i) ≡ Wrong rp kind value → (es : List Entry) (s : Plant) → Run wire n es s → (t : IsTail n i q es) → 1 ≤ length (put_for i (said n i q es t))
    refused_said rp kind value is [] s run t = absurd t
    refused_said rp kind value is (e ∷ es) s run (inr x) = refused_said rp kind value is es run.0 run.1 x.2
    refused_said rp kind value is (e ∷ es) s run (inl x) = go (subst (HaveCauses wire n run.0 e.event) x.deeds (entry_causes e es s run x.accepted)).0.1
      where
        clash : {X : Type 0} (r : Request) → check_of (asked_of q) (element_of n i) ≡ Admitted r → X
        clash r e' = absurd (let no : Wrong rp kind value ≡ Admitted r = sym is ∙ e' in cc)

        says : (os : List Output) (now : ℕ) (k : Element Pin Segment) → OnRequest wire n (element_of n i) (Outside i) now (asked_of q) k os → 1 ≤ length (put_for i os)
        says os now k (causes.wrong rp' kind' value' e' said') = one_put _ os said'
        says os now k (causes.again r number e' there said') = clash r e'
        says os now k (causes.key_shown r key pce segment e' new wish behind said') = clash r e'
        says os now k (causes.key_refused r key pce e' new wish behind said') = clash r e'
        says os now k (causes.no_room r w e' new wish full' said') = clash r e'
        says os now k (causes.for_path r w e' new wish room on') = clash r e'

        go : OnPassed wire n run.0 e.event (element_of n i) (Outside i) (question_message q) x.outputs → 1 ≤ length (put_for i x.outputs)
        go (by_parent up on) = absurd (real (same_as_is (element_of n i) parent_as up))
        go (by_element low on) =
            subst (λ (l : List Output). 1 ≤ length (put_for i l)) (sym (on.2 ∙ ap (λ (l : List Output). on.0 ++ l) on.4 ∙ append-nil on.0)) (says on.0 run.0.clock (run.0.elements (element_of n i)) on.3)

    module _ (es : List Entry) (s : Plant) (run : Run wire n es s) (short : IsShort (deeds_of wire n es)) (quiet : IsQuiet s) (t : IsTail n i q es)
        (kept : (deed : PlantDeed) (before : Transcript) → Within (deed ∷ before) (deeds_of wire n es) → (a : As) (x : ℕ) → DropsFor a (Outside i) x deed → ⊥) where
      abbrev moment : Transcript
      moment = taking n i q (said n i q es t) ∷ early n i q es t

      by_served : (r : Request) → IsServed wire s (deeds_of wire n es) (element_of n i) (Outside i) r.id moment → 1 ≤ length (fresh n i q es t)
      by_served r (at_once e older is some) =
          (let same : taking n i q (said n i q es t) ≡ e = cc in
          fresh_said es t (deed_put n i q r.id (taking n i q (said n i q es t)) (subst (λ (z : PlantDeed). 1 ≤ answers_of (element_of n i) (Outside i) r.id z) (sym same) some)))
      by_served r (later at is e one') = elim (placed n i q es t e.deed e.older e.within) [
        | inl put ↦ put (deed_put n i q r.id e.deed (omega (arith, one')))
        | inr before ↦ absurd (not_before (element_of n i) (Outside i) r.id at e.deed e.older moment (inr before) e.ends e.is_open is)
      ]
      by_served r (dropped at is e none' why) = absurd (kept e.deed e.older e.within (element_of n i) r.id why)
      by_served r (waiting.waits at is now' h there key outside) =
          absurd (contains_none h (subst (λ (rows : List (Row Pin)). Contains rows h) ((quiet_has_none_pending wire wire_is_codec n net es s run (every_written wire wire_is_codec n net es s run short) short downs quiet).1 (element_of n i)) there))

      fresh_some : 1 ≤ length (fresh n i q es t)
      fresh_some = go (check_of (asked_of q) (element_of n i)) refl
        where
          go : (k : Checked) → check_of (asked_of q) (element_of n i) ≡ k → 1 ≤ length (fresh n i q es t)
          go (Wrong rp kind value) is = fresh_said es t (refused_said rp kind value is es s run t)
          go (Admitted r) is =
              let wish = (read_so q (element_of n i) real).admitted r is in
              by_served r (taken_is_served wire wire_is_codec n net es s run short quiet (element_of n i) (Outside i) r wish.1 moment real (moment_within n i q es t) (asked_of q, said n i q es t, refl, is) wish.2)

-- ---- an answer has lines

measured_lines : (p : Path) (k word : ℕ) → p.metric ≡ Some (k, word) → is_malformed word ≡ false → 1 ≤ length (message_lines (messages.PcRep (record { flags = 0; id = 0; answer = Paths (p ∷ []) } ∷ [])))
measured_lines p k word metric sound = rw (metric, sound) (omega arith)

sound_word : (x : ℕ) (p : Path) (k word : ℕ) → p.metric ≡ Some (k, word) → IsWritten (reply_message 0 x (Paths (p ∷ []))) → is_malformed word ≡ false
sound_word x p k word metric fits =
    (subst (λ (m : Option (ℕ × ℕ)). AllByRecursion objects.IsWritten (objects_in (reply_message 0 x (Paths (record { hops = p.hops; metric = m } ∷ []))))) metric fits.objects).1.1.0.fits.0

paths_lines : (n : NetworkParts) (now : Transcript) (i x : ℕ) (paths : List Path) → IsWritten (reply_message 0 x (Paths paths)) → IsRight n now i (record { flags = 0; id = x; answer = Paths paths }) → 1 ≤ length (message_lines (reply_message 0 x (Paths paths)))
paths_lines n now i x paths fits right = elim (right.paths paths refl) [
  | inl up ↦ of_one (path_of wire up.via.asks.asked.query.metric up.found.cost up.found.hops) _ _ up.one refl
  | inr chain ↦ of_one chain.path _ _ chain.one chain.least.metric
]
  where
    of_one : (p : Path) (k word : ℕ) → paths ≡ p ∷ [] → p.metric ≡ Some (k, word) → 1 ≤ length (message_lines (reply_message 0 x (Paths paths)))
    of_one p k word is metric =
        subst (λ (l : List Path). 1 ≤ length (message_lines (reply_message 0 x (Paths l)))) (sym is)
        (measured_lines p k word metric (sound_word x p k word metric (subst (λ (l : List Path). IsWritten (reply_message 0 x (Paths l))) is fits)))

final_lines : (n : NetworkParts) (now : Transcript) (i x : ℕ) (m : Message) → IsWritten m →
    ((replies' : List Reply) → m ≡ messages.PcRep replies' → (r : Reply) → Contains replies' r → IsPathAnswer r → IsRight n now i r) → IsFinal x m → 1 ≤ length (message_lines m)
final_lines n now i x m fits right (of_reply (NoPath nature vector) is) = subst (λ (z : Message). 1 ≤ length (message_lines z)) (sym is) (omega arith)
final_lines n now i x m fits right (of_reply (Paths paths) is) =
    let r : Reply = record { flags = 0; id = x; answer = Paths paths } in
    subst (λ (z : Message). 1 ≤ length (message_lines z)) (sym is) (paths_lines n now i x paths (subst IsWritten is fits) (right (r ∷ []) is r (contains_head r []) refl))
final_lines n now i x m fits right (denial (none flags nature vector is)) = subst (λ (z : Message). 1 ≤ length (message_lines z)) (sym is) (omega arith)
final_lines n now i x m fits right (denial (full flags is)) = subst (λ (z : Message). 1 ≤ length (message_lines z)) (sym is) (omega arith)
final_lines n now i x m fits right (denial (failed flags is)) = subst (λ (z : Message). 1 ≤ length (message_lines z)) (sym is) (omega arith)
final_lines n now i x m fits right (refused flags kind value is) = subst (λ (z : Message). 1 ≤ length (message_lines z)) (sym is) (omega arith)

final_answers : (x : ℕ) (m : Message) → IsFinal x m → IsAnswerTo x m
final_answers x m (of_reply answer is) = replies 0 answer is
final_answers x m (denial (none flags nature vector is)) = replies flags (NoPath nature vector) is
final_answers x m (denial (full flags is)) = is_busy flags is
final_answers x m (denial (failed flags is)) = fails flags _ _ is
final_answers x m (refused flags kind value is) = fails flags kind value is

contains_last : (ms : List Message) (m : Message) → Contains (ms ++ m ∷ []) m
contains_last [] m = contains_head m []
contains_last (x ∷ ms) m = contains_tail x (ms ++ m ∷ []) m (contains_last ms m)

joined_last : (put before ms inner : List Message) (m : Message) → put ≡ before ++ ms → ms ≡ inner ++ m ∷ [] → put ≡ (before ++ inner) ++ m ∷ []
joined_last put before ms inner m is last = is ∙ ap (λ (l : List Message). before ++ l) last ∙ sym (append_assoc before inner (m ∷ []))

told_last : (text : List ℕ) (put before : List Message) (m : Message) → text ≡ last_lines put → put ≡ before ++ m ∷ [] → text ≡ message_lines m
told_last text put before m is whole = is ∙ ap last_lines whole ∙ last_is before m

-- ---- the law

pub answer_is_told : AnswerIsTold
answer_is_told files n client q received net is fits downs a short =
    let es = entries_of a.lines.turns [] in
    let now = deeds_of wire n es in
    let s = a.asked.state in
    let octets = lines_feed (topologies n.elements) client q a.octets files a.lines.cues a.lines.are_cues in
    let run : Run wire n es s = (scripts_are_right n net a.start a.asked a.lines.cues a.lines.turns a.lines.told a.new octets a.lines.played).0.run in
    let told = clients_are_told files n client q received net is a short in
    let up = question_is_taken files n client q received net is fits a in
    let tail = (question_ends files n client q received net is fits a).1 in
    let real : element_of n client ≢ parent_as =
    λ above. none_outside n net wire wire_is_codec es s run client (question_message q) up.outputs up.older (subst (λ (d : As). Within (Takes d (Outside client) (question_message q) up.outputs ∷ up.older) now) above up.within) in
    let written = every_written wire wire_is_codec n net es s run short in
    let only = one_is_asked files n client q received net is fits a in
    let all = fresh_final n net client q downs real es s run only written tail in
    let some = fresh_some n net client q downs real es s run short (asked_is_quiet files n client q received net a) tail up.kept in
    let last = last_final q.id (fresh n client q es tail) some all in
    let put = put_last n client q es tail told.connection told.is_open in
    let whole : told.connection.put ≡ (put.0 ++ last.before) ++ last.last ∷ [] = joined_last told.connection.put put.0 (fresh n client q es tail) last.before last.last put.1 last.is in
    let there : Contains told.connection.put last.last = subst (λ (l : List Message). Contains l last.last) (sym whole) (contains_last (put.0 ++ last.before) last.last) in
    let text : told_text received ≡ message_lines last.last = told_last (told_text received) told.connection.put (put.0 ++ last.before) last.last told.told whole in
    let fits' : IsWritten last.last = put_is client IsWritten wire n es (of_sent client IsWritten now written) told.connection told.is_open last.last there in
    let lines = final_lines n now client q.id last.last fits' (λ rs same r among answer. told.right rs (subst (Contains told.connection.put) same there) r among answer) last.final in
    record {
      connection = told.connection;
      is_open = told.is_open;
      before = put.0 ++ last.before;
      last = last.last;
      put = whole;
      answers = final_answers q.id last.last last.final;
      told = text;
      some = subst (λ (l : List ℕ). 1 ≤ length l) (sym text) lines;
    }
