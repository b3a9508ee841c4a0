-- In every run, a reply of paths, or that there are none, comes from a solve, is about a key, or is passed on from the parent.
use Rattle.std.proofs.Common.{◌≡◌, ◌⊎◌, ℕ, length, Bool, true, false, cond, Option, Some, None, List, [], ◌∷◌, ◌++◌, inl, inr, sym, ◌∙◌, ap, subst, refl, arith}
use Rattle.std.proofs.lemmas.Bool.{eqb-true, eq-eqb}
use Rattle.plant_model.specs.Types.{As, Peer, Message, NetworkParts, Asked, Path, Reply, Own}
use Rattle.disclosure.specs.Shown.{open_of}
use Rattle.plant_model.specs.declared.output.Output.{Output}
use Rattle.plant_text.specs.Names.{same_as, parent_as}
use Rattle.plant_model.specs.Names.{the_parent, has_pair}
use Rattle.plant_model.specs.Wire.{Codec, Admitted}
use Rattle.plant_model.specs.Writing.{request_message, busy, error_message, reply_message, unavailable}
use Rattle.plant_model.specs.Element.{Stage, Waits, Ready, Element, Row, downed, each, waits_for, waiting, lost, lost_output, Taken}
use Rattle.plant_model.specs.Taking.{take, goes_up, sequence_or, take_asked, take_busy, take_cancel, told_busy, cancelled, notice_steps, take_notice, take_failure, take_errors, told_error, take_report}
use Rattle.plant_model.specs.Solving.{commit, job_found}
use Rattle.plant_model.specs.Parent as parent
use Rattle.plant_text.specs.Settings.{class_of}
use Rattle.plant_model.specs.Settings.{place, family}
use Rattle.plant_model.specs.State.{State, Takes}
use Rattle.plant_model.specs.Deeds.{own_message, rise}
use Rattle.plant_model.specs.Plant.{Pin, Segment, Plant, PlantDeed, Entry, Run, deeds_of}
use Rattle.plant_laws.specs.Transcript.{Transcript, opened, outputs_at, SentIn}
use Rattle.plant_laws.proofs.Runs.Queues.{same_as_is}
use Rattle.plant_laws.proofs.Runs.Rows.{In}
use Rattle.plant_laws.proofs.Once.Takes.{IsSingle, own_is}
use Rattle.plant_laws.proofs.Once.Opened.{AreSingle, single_deed}
use Rattle.plant_laws.proofs.Once.DeedByDeed.{Does, takes_above, takes_below, downs_above, downs_below, ups_above, ups_below, solves_above, solves_below, pops, hands_out, says_own, clears_link, expires_at, loads_rows, run_singles}
use Rattle.plant_laws.proofs.Numbering.SentOn.{IsRest}
use Rattle.std.specs.Prelude.{Contains, ◌==◌, map}
use Rattle.std.proofs.lemmas.List.Elements.{Contains-append_cases}
use Rattle.pcep_messages.specs.declared.message.Message.TheVariants as messages
use Rattle.pcep_session.specs.declared.actions.Own.TheVariants as own
use Rattle.request_table.specs.Pending.{same_peer, number_of}
use Rattle.plant_model.specs.declared.output.Lost.{Lost}
use Rattle.plant_laws.specs.Pending.{IsTaken}
use Rattle.border_costs.proofs.Members.{contains_none, contains_head, contains_tail, contains_cases}
use Rattle.plant_laws.proofs.Runs.Moments.{peer_is, no_more}
use Rattle.plant_laws.proofs.Once.OpenTables.{taken, found}
use Rattle.plant_laws.proofs.Least.Given.{OfSolve, OfKey}
use Rattle.plant_laws.proofs.Least.Spoken.{is_reply}
use Rattle.plant_laws.proofs.Settled.Waits.{Both, SentAt}
use Rattle.plant_laws.proofs.Least.Readied.{All, all_same, does_all, bare_all, waits_both, numbers, as_old}
use Rattle.plant_laws.proofs.Once.TakeSays.{OneTold, IsPassedOn, asked_says, replies_say, not_known, other_one}
use Rattle.plant_laws.specs.Certified.{Tells}

-- a reply of the parent that is passed on, among those that were taken
pub record OfReplies (c : Codec) (n : NetworkParts) (older : Transcript) (d : As) (p : Peer) (r : Reply) (e : PlantDeed) : Type 0 where
  pub replies : List Reply
  pub outputs : List Output
  pub is : e ≡ Takes d the_parent (messages.PcRep replies) outputs
  pub reply : Reply
  pub is_reply' : In reply replies
  pub row : Row Pin
  pub taken_row : IsTaken c n older d row
  pub sequence : row.1.item.sequence ≡ cond (goes_up (place n d).parent (class_of n row.1.key.peer) row.1.item.wanted.sequence) [] (sequence_or d row.1.item.wanted.sequence)
  pub at : Transcript
  pub is_open : opened c d row.1.key.peer row.1.key.id older ≡ Some at
  pub rest : List As
  pub sent : SentIn at d the_parent (request_message reply.id row.1.item.wanted row.1.item.wanted.target rest)
  pub goes : IsRest (place n d).routes row.1.item.sequence rest the_parent
  pub to : p ≡ row.1.key.peer
  pub id : r.id ≡ row.1.key.id
  pub answer : r.answer ≡ reply.answer

in_contains : {A : Type 0} (x : A) (xs : List A) → In x xs → Contains xs x
in_contains x [] none = absurd none
in_contains x (y ∷ ys) (inl same) = subst (λ (z : _). Contains (y ∷ ys) z) same (contains_head y ys)
in_contains x (y ∷ ys) (inr more) = contains_tail y ys x (in_contains x ys more)

pub own_silent : (o : Own) → is_reply (own_message o) ≡ false
own_silent (own.Open offer) = refl
own_silent own.Keepalive = refl
own_silent (own.Error kind value) = refl
own_silent (own.Close why) = refl

module _ (c : Codec) (n : NetworkParts) where
  abbrev Core : Type 0
  Core = State Pin Segment

  abbrev pub From : As → Peer → Reply → PlantDeed → Transcript → Type 0
  From d p r e older = OfSolve d e ⊎ OfKey c d p r e ⊎ OfReplies c n older d p r e

  abbrev pub IsReplied : PlantDeed → Transcript → Type 0
  IsReplied e older = (d : As) (p : Peer) (r : Reply) (paths : List Path) → (d ≡ parent_as → ⊥) → Contains (outputs_at d e) (record { to = p; message = messages.PcRep (r ∷ []) }) → Tells r.answer paths → From d p r e older

  abbrev pub AllReplied : Transcript → Type 0
  AllReplied [] = Unit {0}
  AllReplied (e ∷ older) = IsReplied e older × AllReplied older

  -- a row that waited for a reply of the parent
  passed_on : (at : As) (q : Peer) (s : Core) (older : Transcript) → Both c n older s → (p : Peer) (r : Reply) (rs : List Reply) (os : List Output) (paths : List Path) (tells : Tells r.answer paths) →
      IsPassedOn p r paths tells c q (s.elements at).pending.rows rs → From at p r (Takes at q (messages.PcRep rs) os) older
  passed_on at q s older both p r rs os paths tells x = by_stage x.row.1.item.stage x.waits (both.1.0 at x.row x.is_row)
    where
      by_stage : (stage : Stage) → waits_for q x.reply.id stage ≡ true → SentAt c n older at x.row stage → From at p r (Takes at q (messages.PcRep rs) os) older
      by_stage (Ready bs) waits sent = absurd (let out : false ≡ true = waits in cc)
      by_stage (Waits on id) waits sent =
          let match = waits_both c n (same_peer on q) (id == x.reply.id) waits in
          let ids : id ≡ x.reply.id = eqb-true id x.reply.id match.1 in
          let up : q ≡ the_parent = peer_is q the_parent x.passed.upper in
          let to_up : on ≡ the_parent = peer_is on q match.0 ∙ up in
          let there = in_contains x.row (s.elements at).pending.rows x.is_row in
          let f = found c n older s both.0 at x.row there in
          inr (inr (record {
            replies = rs;
            outputs = os;
            is = ap (λ (z : Peer). Takes at z (messages.PcRep rs) os) up;
            reply = x.reply;
            is_reply' = x.is_reply';
            row = x.row;
            taken_row = taken c n older s both.0 at x.row there;
            sequence = f.2.sequence';
            at = sent.0;
            is_open = sent.1;
            rest = sent.2.0;
            sent = subst (λ (y : ℕ). SentIn sent.0 at the_parent (request_message y x.row.1.item.wanted x.row.1.item.wanted.target sent.2.0)) ids
                (subst (λ (z : Peer). SentIn sent.0 at z (request_message id x.row.1.item.wanted x.row.1.item.wanted.target sent.2.0)) to_up sent.2.1);
            goes = subst (λ (z : Peer). IsRest (place n at).routes x.row.1.item.sequence sent.2.0 z) to_up sent.2.2;
            to = sym x.passed.is_to;
            id = x.passed.id;
            answer = x.passed.answer;
          }))

  no_output : (at : As) (e : PlantDeed) (p : Peer) (r : Reply) (older : Transcript) → OneTold p r [] → From at p r e older
  no_output at e p r older said = absurd (contains_none _ said)

  -- a request
  asked_replied : (at : As) (q : Peer) (a : Asked) (s : Core) (older : Transcript) (os : List Output) (p : Peer) (r : Reply) (paths : List Path) → Tells r.answer paths →
      OneTold p r (take_asked c open_of (place n at) (s.current at) q (class_of n q) s.clock a (s.elements at)).outputs → From at p r (Takes at q (messages.PcReq (a ∷ [])) os) older
  asked_replied at q a s older os p r paths tells said =
      let x = asked_says p r paths tells c (place n at) (s.current at) q (class_of n q) s.clock a (s.elements at) said in
      inr (inl (record {
        taken = a;
        outputs = os;
        is = ap (λ (z : Peer). Takes at z (messages.PcReq (a ∷ [])) os) x.is_to;
        request = x.request;
        admits = subst (λ (z : As). c.check a z ≡ Admitted x.request) (own_is n at) x.admits;
        key = x.key;
        pce = x.pce;
        wish = x.wish;
        flags = x.flags;
      }))

  module _ (p : Peer) (r : Reply) (paths : List Path) (tells : Tells r.answer paths) where
    abbrev Silent : Taken Pin Segment → Type 0
    Silent t = OneTold p r t.outputs → ⊥

    quiet_cond : (b : Bool) (t u : Taken Pin Segment) → Silent t → Silent u → Silent (cond b t u)
    quiet_cond true t u f g = f
    quiet_cond false t u f g = g

    each_silent : {X : Type 0} (f : X → Element Pin Segment → Taken Pin Segment) → ((x : X) (k : Element Pin Segment) → Silent (f x k)) → (xs : List X) (k : Element Pin Segment) → Silent (each f xs k)
    each_silent f one [] k = λ said. contains_none _ said
    each_silent f one (x ∷ xs) k = λ said. elim (Contains-append_cases (f x k).outputs (each f xs (f x k).element).outputs _ said) [ inl here ↦ one x k here | inr later ↦ each_silent f one xs (f x k).element later ]

    busy_silent : (q : Peer) (rp : ℕ × ℕ) (k : Element Pin Segment) → Silent (take_busy q rp k)
    busy_silent q rp k = go (waiting q rp.1 k.pending.rows)
      where
        go : (o : Option (Row Pin)) → Silent (told_busy k o)
        go None = λ said. contains_none _ said
        go (Some h) = λ said. other_one p r paths tells h.1.key.peer (busy h.1.item.flags h.1.key.id) refl said

    cancel_silent : (q : Peer) (rp : ℕ × ℕ) (k : Element Pin Segment) → Silent (take_cancel q rp k)
    cancel_silent q rp k = go (number_of k.pending q rp.1)
      where
        go : (o : Option ℕ) → Silent (cancelled k o)
        go None = λ said. contains_none _ said
        go (Some number) = λ said. contains_none _ said

    both_silent : (t : Taken Pin Segment) (os : List Output) → Silent t → (OneTold p r os → ⊥) → OneTold p r (t.outputs ++ os) → ⊥
    both_silent t os f g said = elim (Contains-append_cases t.outputs os _ said) [ inl here ↦ f here | inr later ↦ g later ]

    steps_silent : (q : Peer) (rp : ℕ × ℕ) (kinds : List (ℕ × ℕ)) (k : Element Pin Segment) → Silent (each (λ (step : Peer → ℕ × ℕ → Element Pin Segment → Taken Pin Segment). step q rp) (notice_steps kinds) k)
    steps_silent q rp kinds k = go (has_pair 1 2 kinds) (has_pair 1 1 kinds)
      where
        go : (b a : Bool) → Silent (each (λ (step : Peer → ℕ × ℕ → Element Pin Segment → Taken Pin Segment). step q rp) (cond b (cond a (take_busy ∷ take_cancel ∷ []) (take_busy ∷ [])) (cond a (take_cancel ∷ []) [])) k)
        go true true =
            let u = take_busy q rp k in
            both_silent u ((take_cancel q rp u.element).outputs ++ []) (busy_silent q rp k) (both_silent (take_cancel q rp u.element) [] (cancel_silent q rp u.element) (λ none. contains_none _ none))
        go true false = both_silent (take_busy q rp k) [] (busy_silent q rp k) (λ none. contains_none _ none)
        go false true = both_silent (take_cancel q rp k) [] (cancel_silent q rp k) (λ none. contains_none _ none)
        go false false = λ said. contains_none _ said

    failure_silent : (f : ℕ × ℕ) (k : Element Pin Segment) (o : Option (Row Pin)) → Silent (take_failure f k o)
    failure_silent f k None = λ said. contains_none _ said
    failure_silent f k (Some h) = go (has_pair 8 0 (f ∷ [])) (has_pair f.0 f.1 ((4, 4) ∷ (13, 1) ∷ []))
      where
        go : (a b : Bool) → Silent (told_error h k (cond a [] (cond b (error_message (Some (h.1.item.flags, h.1.key.id)) 13 1 ∷ []) (reply_message h.1.item.flags h.1.key.id unavailable ∷ []))))
        go true b = λ said. contains_none _ said
        go false true = λ said. other_one p r paths tells h.1.key.peer (error_message (Some (h.1.item.flags, h.1.key.id)) 13 1) refl said
        go false false = λ said. not_known p r paths tells h.1.key.peer h.1.item.flags h.1.key.id said

    errors_silent : (q : Peer) (ids errors : List (ℕ × ℕ)) (k : Element Pin Segment) → Silent (take_errors q ids errors k)
    errors_silent q ids [] k = λ said. contains_none _ said
    errors_silent q ids (f ∷ fs) k = each_silent (λ rp k'. take_failure f k' (waiting q rp.1 k'.pending.rows)) (λ rp k'. failure_silent f k' (waiting q rp.1 k'.pending.rows)) ids k

    lost_silent : (xs : List Lost) → OneTold p r (map lost_output xs) → ⊥
    lost_silent [] said = contains_none _ said
    lost_silent (x ∷ xs) said = elim (contains_cases (lost_output x) (map lost_output xs) _ said) [
      | inl same ↦ not_known p r paths tells x.to x.flags x.id (subst (λ (o : Output). Contains (lost_output x ∷ []) o) same (contains_head (lost_output x) []))
      | inr more ↦ lost_silent xs more
    ]

  -- a message that an element took
  pub take_replied : (at : As) (q : Peer) (m : Message) (s : Core) (older : Transcript) → IsSingle m → Both c n older s → (p : Peer) (r : Reply) (paths : List Path) → Tells r.answer paths →
      (let t = take c open_of (place n at) (s.current at) q (class_of n q) s.clock m (s.elements at) in OneTold p r t.outputs → From at p r (Takes at q m t.outputs) older)
  take_replied at q (messages.PcReq []) s older one both p r paths tells = λ said. absurd (contains_none _ said)
  take_replied at q (messages.PcReq (a ∷ [])) s older one both p r paths tells = λ said.
      let t = take c open_of (place n at) (s.current at) q (class_of n q) s.clock (messages.PcReq (a ∷ [])) (s.elements at) in
      elim (Contains-append_cases (take_asked c open_of (place n at) (s.current at) q (class_of n q) s.clock a (s.elements at)).outputs [] _ said) [
        | inl here ↦ asked_replied at q a s older t.outputs p r paths tells here
        | inr none ↦ absurd (contains_none _ none)
      ]
  take_replied at q (messages.PcReq (a ∷ b ∷ rest)) s older one both p r paths tells = λ said. absurd (let none : length (a ∷ b ∷ rest) ≡ 1 = one in omega (arith, none))
  take_replied at q (messages.PcRep rs) s older one both p r paths tells = λ said.
      let t = take c open_of (place n at) (s.current at) q (class_of n q) s.clock (messages.PcRep rs) (s.elements at) in
      passed_on at q s older both p r rs t.outputs paths tells
      (replies_say p r paths tells c q (s.elements at).pending.rows rs rs (λ x i. i) (s.elements at)
      (record { rise = numbers c n older s both at; rows = as_old c (s.elements at).pending.rows q rs (s.elements at).pending.rows (λ h i. i) }) said)
  take_replied at q (messages.PcNtf notices) s older one both p r paths tells = λ said.
      absurd (each_silent p r paths tells (take_notice q) (λ x k. each_silent p r paths tells (λ (rp : ℕ × ℕ). each (λ (step : Peer → ℕ × ℕ → Element Pin Segment → Taken Pin Segment). step q rp) (notice_steps x.kinds))
      (λ rp k'. steps_silent p r paths tells q rp x.kinds k') x.ids k) notices (s.elements at) said)
  take_replied at q (messages.PcErr reports) s older one both p r paths tells = λ said.
      absurd (each_silent p r paths tells (take_report q) (λ x k. errors_silent p r paths tells q x.ids x.errors k) reports (s.elements at) said)
  take_replied at q (messages.Open body) s older one both p r paths tells = λ said. absurd (contains_none _ said)
  take_replied at q messages.Keepalive s older one both p r paths tells = λ said. absurd (contains_none _ said)
  take_replied at q (messages.Close why) s older one both p r paths tells = λ said. absurd (contains_none _ said)
  take_replied at q (messages.Other kind) s older one both p r paths tells = λ said. absurd (contains_none _ said)

  -- deeds of an element, of the parent, and those without replies
  by_own : (e : PlantDeed) (older : Transcript) (at : As) (os : List Output) → ((d : As) → outputs_at d e ≡ cond (same_as at d) os []) →
      ((p : Peer) (r : Reply) (paths : List Path) → Tells r.answer paths → OneTold p r os → From at p r e older) → IsReplied e older
  by_own e older at os is one d p r paths real said tells =
      let own = no_more (same_as at d) os _ (subst (λ (l : List Output). Contains l (record { to = p; message = messages.PcRep (r ∷ []) })) (is d) said) in
      subst (λ (z : As). From z p r e older) (same_as_is at d own.0) (one p r paths tells own.1)

  by_parent : (e : PlantDeed) (older : Transcript) (at : As) (os : List Output) → ((d : As) → outputs_at d e ≡ cond (same_as at d) os []) → same_as at parent_as ≡ true → IsReplied e older
  by_parent e older at os is up d p r paths real said tells =
      let own = no_more (same_as at d) os _ (subst (λ (l : List Output). Contains l (record { to = p; message = messages.PcRep (r ∷ []) })) (is d) said) in
      absurd (real (sym (same_as_is at d own.0) ∙ same_as_is at parent_as up))

  by_none : (e : PlantDeed) (older : Transcript) → ((d : As) → outputs_at d e ≡ []) → IsReplied e older
  by_none e older is d p r paths real said tells = absurd (contains_none _ (subst (λ (l : List Output). Contains l (record { to = p; message = messages.PcRep (r ∷ []) })) (is d) said))

  does_replied : (s t : Core) (ds : Transcript) (e : PlantDeed) → Does c n s e t → single_deed e → Both c n ds s → IsReplied e ds
  does_replied s t ds e (takes_above at q m s' up) one both = by_parent e ds at (parent.take c (family n) q m s.parent).outputs (λ d. refl) up
  does_replied s t ds e (takes_below at q m s' low heard) one both =
      let r = take c open_of (place n at) (s.current at) q (class_of n q) s.clock m (s.elements at) in
      by_own e ds at r.outputs (λ d. refl) (λ p r' paths tells said. take_replied at q m s ds one both p r' paths tells said)
  does_replied s t ds e (downs_above at q s' up) one both = by_parent e ds at (parent.downed q s.parent).outputs (λ d. refl) up
  does_replied s t ds e (downs_below at q s' low) one both =
      by_own e ds at (downed q (s.elements at)).outputs (λ d. refl) (λ p r' paths tells said. absurd (lost_silent p r' paths tells (lost q (s.elements at).pending.rows) said))
  does_replied s t ds e (ups_above at q s' up) one both = by_none e ds (λ d. refl)
  does_replied s t ds e (ups_below at q s' low) one both = by_none e ds (λ d. refl)
  does_replied s t ds e (solves_above k h s' x) one both = by_parent e ds parent_as (parent.commit c (k, x.held) x.answer s.parent).outputs (λ d'. refl) (eq-eqb 0 0 refl)
  does_replied s t ds e (solves_below d k h s' x) one both =
      let r = commit c (place n d) (k, x.held) x.down s.clock (λ b. b.segment) (job_found x.rows.source_known x.rows.target_known x.rows.best) (s.elements d) in
      by_own e ds d r.outputs (λ d'. refl) (λ p r' paths tells said. inl (record { number = k; outputs = r.outputs; keys = r.element.keys.issued; is = refl }))
  does_replied s t ds e (pops a b rest s') one both = by_none e ds (λ d. refl)
  does_replied s t ds e (hands_out i bytes s') one both = by_none e ds (λ d. refl)
  does_replied s t ds e (says_own at p o s') one both =
      by_own e ds at (record { to = p; message = own_message o } ∷ []) (λ d. refl) (λ q r paths tells said. absurd (other_one q r paths tells p (own_message o) (own_silent o) said))
  does_replied s t ds e (clears_link x s') one both = by_none e ds (λ d. refl)
  does_replied s t ds e (expires_at now s') one both = by_none e ds (λ d. refl)
  does_replied s t ds e (loads_rows d g s') one both = by_none e ds (λ d'. refl)

  abbrev Full : Transcript → Core → Type 0
  Full ds s = All c n ds s × AllReplied ds

  pub run_replied : (es : List Entry) (s : Plant) → Run c n es s → AreSingle (deeds_of c n es) → AllReplied (deeds_of c n es)
  run_replied es s run single =
      (run_singles c n Full (λ ds s t elements above current full. (all_same c n ds s t elements above current full.0, full.1))
      (λ ds s t e does one full. (does_all c n ds s t e does one full.0, (does_replied s t ds e does one full.0.0, full.1))) (λ z. (bare_all c n z, tt)) es s run single).1
