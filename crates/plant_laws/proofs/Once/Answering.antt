-- Each request is answered once, if what is pending is what the transcript shows open.
use Rattle.std.proofs.Common.{◌≡◌, ◌≢◌, ◌⊎◌, ◌≤◌, ◌<◌, ◌==◌, ℕ, zero, suc, Bool, true, false, cond, List, [], ◌∷◌, length, Option, Some, None, sym, ◌∙◌, ap, subst, inl, inr, refl, arith}
use Rattle.std.proofs.lemmas.Bool.{cases_Bool, eqb-true}
use Rattle.plant_model.specs.Types.{As, Peer, Outside, Inner, Asked, Message, Wish, NetworkParts}
use Rattle.pcep_messages.specs.declared.message.Message.TheVariants as messages
use Rattle.pcep_messages.specs.declared.message.Wish.TheVariants.{Path, Expand}
use Rattle.disclosure.specs.Shown.{open_of}
use Rattle.request_table.specs.Pending.{ArePending, same_peer}
use Rattle.plant_model.specs.declared.output.Output.{Output}
use Rattle.plant_text.specs.Names.{same_as, parent_as}
use Rattle.plant_model.specs.Wire.{Codec, Checked, Admitted, Wrong}
use Rattle.plant_model.specs.Element.{Element, upped, downed}
use Rattle.plant_model.specs.Taking.{take}
use Rattle.plant_model.specs.Solving.{commit, job_found}
use Rattle.plant_model.specs.Parent as parent
use Rattle.plant_text.specs.Settings.{class_of}
use Rattle.plant_model.specs.Settings.{place, family}
use Rattle.plant_model.specs.State.{State, Deed, Loads, Pops, Takes, Says, Ups, Downs, Clears, Solves, Expires, Hands}
use Rattle.plant_model.specs.Deeds.{own_message, with_parent, with_element, puts}
use Rattle.plant_model.specs.Plant.{Pin, Segment, Plant, Entry, Run, deeds_of, PlantDeed}
use Rattle.plant_laws.specs.Transcript.{Transcript, Within, opened, after, effect, Effect, Keeps, Ends, Begins, ends_if, asks_effect, begins_if, begins, take_effect, cancels, answers_to}
use Rattle.plant_laws.proofs.Once.DeedByDeed.{Does, takes_above, takes_below, downs_above, downs_below, ups_above, ups_below, solves_above, solves_below, pops, hands_out, says_own, clears_link, expires_at, loads_rows, run_keeps}
use Rattle.plant_laws.proofs.Once.Opened.{puts_elements, puts_parent}
use Rattle.plant_laws.specs.Chains.{is_pending}
use Rattle.plant_laws.specs.Runs.{InRuns}
use Rattle.plant_laws.specs.Answered.{answers_of, AnswersFor, of_open, DropsFor, cancelled, went_down, IsEnd, pending, answered, dropped, IsAnsweredOnce, RequestsAreAnsweredOnceIn}
use Rattle.plant_laws.proofs.Once.Besides.{besides_asking, answers_in, own_none, no_more}
use Rattle.plant_laws.proofs.Once.Founded.{IsFounded, AreFounded, founded_within, run_founded}
use Rattle.plant_laws.proofs.WrittenForm.RequestsWritten.{requests_are_single}
use Rattle.plant_laws.proofs.Runs.Queues.{same_as_is}
use Rattle.plant_laws.proofs.Once.Handing.{Within-length}
use Rattle.plant_laws.proofs.Numbering.Sends.{Each, Each-within}
use Rattle.plant_laws.proofs.Once.OpenTables.{open_is_pending}
use Rattle.plant_laws.proofs.Once.Counting.{IsFair}
use Rattle.plant_laws.proofs.Once.Counting as counting
use Rattle.plant_laws.proofs.Once.CountingUpper as upper

-- ---- what is said in each deed

abbrev pub AtMostOne : List Output → Type 0
AtMostOne os = (q : Peer) (x : ℕ) → answers_to q x os ≤ 1

abbrev pub IsFairDeed : Deed Segment → Type 0
IsFairDeed (Takes at p m os) = IsFair p m os
IsFairDeed (Says at o) = (q : Peer) (x : ℕ) → answers_to q x (o ∷ []) ≡ 0
IsFairDeed (Downs at p os) = AtMostOne os
IsFairDeed (Solves at k os keys) = AtMostOne os
IsFairDeed _ = Unit {0}

-- ---- pending requests are in order in every state

pub record InOrder (s : State Pin Segment) : Type 0 where
  pub elements : (d : As) → ArePending (s.elements d).pending
  pub parent : ArePending s.parent.pending

module _ (c : Codec) (n : NetworkParts) where
  abbrev Kept : Transcript → State Pin Segment → Type 0
  Kept ds s = InOrder s × Each IsFairDeed ds

  order_same : (s t : State Pin Segment) → t.elements ≡ s.elements → t.parent ≡ s.parent → InOrder s → InOrder t
  order_same s t elements parent' order = record {
    elements = λ d. subst (λ (f : As → Element Pin Segment). ArePending (f d).pending) (sym elements) (order.elements d);
    parent = subst (λ (k : parent.Parent). ArePending k.pending) (sym parent') order.parent;
  }

  -- another element, or another parent, and what is sent
  with_one : (at : As) (k : Element Pin Segment) (s : State Pin Segment) → ArePending k.pending → InOrder s → InOrder (with_element Pin Segment c n open_of at k s)
  with_one at k s are order = record { elements = λ d. go d (same_as at d); parent = order.parent }
    where
      go : (d : As) (b : Bool) → ArePending (cond b k (s.elements d)).pending
      go d true = are
      go d false = order.elements d

  sent_order : (at : As) (os : List Output) (t : State Pin Segment) → InOrder t → InOrder (puts Pin Segment c n open_of at os t)
  sent_order at os t order = order_same t (puts Pin Segment c n open_of at os t) (puts_elements c n at os t) (puts_parent c n at os t) order

  does_keep : (s t : State Pin Segment) (e : PlantDeed) → Does c n s e t → InOrder s → InOrder t × IsFairDeed e
  does_keep s t e (takes_above at p m s' up) order =
      let r = parent.take c (family n) p m s.parent in
      let fair = upper.take_fair c p (family n) m s.parent order.parent in
      (sent_order at r.outputs (with_parent Pin Segment c n open_of r.parent s) (record { elements = order.elements; parent = fair.0 }), fair.1)
  does_keep s t e (takes_below at p m s' low heard) order =
      let r = take c open_of (place n at) (s.current at) p (class_of n p) s.clock m (s.elements at) in
      let fair = counting.take_fair Pin Segment c p open_of (place n at) (s.current at) (class_of n p) s.clock m (s.elements at) (order.elements at) in
      (sent_order at r.outputs (with_element Pin Segment c n open_of at r.element s) (with_one at r.element s fair.0 order), fair.1)
  does_keep s t e (downs_above at p s' up) order =
      let r = parent.downed p s.parent in
      let fair = upper.downed_once p s.parent order.parent in
      (sent_order at r.outputs (with_parent Pin Segment c n open_of r.parent s) (record { elements = order.elements; parent = fair.0 }), fair.1)
  does_keep s t e (downs_below at p s' low) order =
      let r = downed p (s.elements at) in
      let fair = counting.downed_once Pin Segment p (s.elements at) (order.elements at) in
      (sent_order at r.outputs (with_element Pin Segment c n open_of at r.element s) (with_one at r.element s fair.0 order), fair.1)
  does_keep s t e (ups_above at p s' up) order = (record { elements = order.elements; parent = order.parent }, tt)
  does_keep s t e (ups_below at p s' low) order = (with_one at (upped p (s.elements at)) s (order.elements at) order, tt)
  does_keep s t e (solves_above k h s' x) order =
      let r = parent.commit c (k, x.held) x.answer s.parent in
      let once = upper.commit_once c (k, x.held) x.answer s.parent order.parent in
      (sent_order parent_as r.outputs (with_parent Pin Segment c n open_of r.parent s) (record { elements = order.elements; parent = once.0 }), once.1)
  does_keep s t e (solves_below d k h s' x) order =
      let r = commit c (place n d) (k, x.held) x.down s.clock (λ b. b.segment) (job_found x.rows.source_known x.rows.target_known x.rows.best) (s.elements d) in
      let once = counting.commit_once Pin Segment c (place n d) (k, x.held) x.down s.clock (λ b. b.segment) x.rows.source_known x.rows.target_known x.rows.best (s.elements d) (order.elements d) in
      (sent_order d r.outputs (with_element Pin Segment c n open_of d r.element s) (with_one d r.element s once.0 order), once.1)
  does_keep s t e (hands_out i bytes s') order = (order, tt)
  does_keep s t e (says_own at p o s') order = (sent_order at (record { to = p; message = own_message o } ∷ []) s order, own_none p o)
  does_keep s t e _ order = (record { elements = order.elements; parent = order.parent }, tt)

  pub run_kept : (es : List Entry) (s : Plant) → Run c n es s → InOrder s × Each IsFairDeed (deeds_of c n es)
  run_kept =
      run_keeps c n Kept (λ ds s t elements above current kept. (order_same s t elements above kept.0, kept.1))
      (λ ds s t e does kept. let next = does_keep s t e does kept.0 in (next.0, (next.1, kept.1))) (
        record {
          elements = λ d. record { few = omega arith; last = omega arith; numbers = omega arith; names = tt };
          parent = record { few = omega arith; last = omega arith; numbers = omega arith; names = tt };
        },
        tt,
      )

-- ---- what a deed does to an open request

peer_is : (p q : Peer) → same_peer p q ≡ true → p ≡ q
peer_is (Outside a) (Outside b) e = ap (λ (n : ℕ). Outside n) (eqb-true a b e)
peer_is (Outside a) (Inner b) e = cc
peer_is (Inner a) (Outside b) e = cc
peer_is (Inner a) (Inner b) e = ap (λ (n : ℕ). let number : As = record { 0 = n } in Inner number) (eqb-true a.0 b.0 e)

zero_or_one : (n : ℕ) → n ≤ 1 → (n ≡ 0) ⊎ (n ≡ 1)
zero_or_one n le = elim (cases_Bool (n == 0)) [
  | inl hit ↦ inl (eqb-true n 0 hit)
  | inr miss ↦ inr (one n le miss)
]
  where
    one : (n : ℕ) → n ≤ 1 → (n == 0) ≡ false → n ≡ 1
    one zero le miss = let clash : true ≡ false = miss in cc
    one (suc k) le miss = omega arith

ends_one : (n : ℕ) → n ≤ 1 → ends_if n ≡ Ends → n ≡ 1
ends_one n le ends = elim (zero_or_one n le) [
  | inl none ↦ absurd (let keeps : Keeps ≡ Ends = sym (ap ends_if none) ∙ ends in cc)
  | inr one ↦ one
]

keeps_none : (n : ℕ) → ends_if n ≢ Ends → n ≡ 0
keeps_none n keeps = elim (cases_Bool (n == 0)) [
  | inl hit ↦ eqb-true n 0 hit
  | inr miss ↦ absurd (keeps (ap (λ (b : Bool). cond b Keeps Ends) miss))
]

module _ (c : Codec) (d : As) (p : Peer) (x : ℕ) where
  asks_go_on : (n : ℕ) (asks : List Asked) → asks_effect c d x n asks ≡ Ends → ⊥
  asks_go_on n [] e = cc
  asks_go_on n (a ∷ []) e = checked (c.check a d) e
    where
      pick : (b : Bool) (f g : Effect) → (f ≡ Ends → ⊥) → (g ≡ Ends → ⊥) → cond b f g ≡ Ends → ⊥
      pick true f g no' no'' e = no' e
      pick false f g no' no'' e = no'' e

      wished : (flags id : ℕ) (w : Wish) → begins c d x n (record { flags = flags; id = id; wish = w }) ≡ Ends → ⊥
      wished flags id (Path w) e = pick (id == x) (cond (n == 0) Begins Keeps) Keeps (pick (n == 0) Begins Keeps (λ e'. cc) (λ e'. cc)) (λ e'. cc) e
      wished flags id (Expand key pce) e = pick (id == x) Keeps Keeps (λ e'. cc) (λ e'. cc) e

      checked : (o : Checked) → begins_if c d x n o ≡ Ends → ⊥
      checked (Wrong rp kind value) e = cc
      checked (Admitted r) e = wished r.flags r.id r.wish e
  asks_go_on n (a ∷ b ∷ rest) e = cc

  -- what is said to a message that d takes
  abbrev IsTold : Peer → Message → List Output → Effect → Type 0
  IsTold from m os f = let n = besides_asking p from m (answers_to p x os) in
      (f ≡ Ends → (n ≡ 1) ⊎ ((n ≡ 0) × (notices : _) × (m ≡ messages.PcNtf notices) × (from ≡ p) × (cancels x notices ≡ true))) × (f ≢ Ends → n ≡ 0)

  counted : (from : Peer) (m : Message) (os : List Output) (n : ℕ) → n ≡ besides_asking p from m (answers_to p x os) → n ≤ 1 → IsTold from m os (ends_if n)
  counted from m os n is le = (λ ends. inl (sym is ∙ ends_one n le ends), λ keeps. sym is ∙ keeps_none n keeps)

  told : (from : Peer) (m : Message) (os : List Output) → IsFair from m os → IsTold from m os (take_effect c d p x from m os)
  told from (messages.PcReq asks) os fair = go (same_peer from p) refl
    where
      go : (b : Bool) → same_peer from p ≡ b →
          (cond b (asks_effect c d x (answers_to p x os) asks) Keeps ≡ Ends → (cond b 0 (answers_to p x os) ≡ 1) ⊎ ((cond b 0 (answers_to p x os) ≡ 0) × (notices : _) × (messages.PcReq asks ≡ messages.PcNtf notices) × (from ≡ p) × (cancels x notices ≡ true)))
          × (cond b (asks_effect c d x (answers_to p x os) asks) Keeps ≢ Ends → cond b 0 (answers_to p x os) ≡ 0)
      go true is = (λ ends. absurd (asks_go_on (answers_to p x os) asks ends), λ keeps. refl)
      go false is = (λ ends. cc, λ keeps. fair p x is)
  told from (messages.PcRep replies) os fair = counted from (messages.PcRep replies) os (answers_to p x os) refl (fair p x)
  told from (messages.PcErr reports) os fair = counted from (messages.PcErr reports) os (answers_to p x os) refl (fair p x)
  told from (messages.PcNtf notices) os fair = go (same_peer from p) (cancels x notices) refl refl
    where
      go : (b b' : Bool) → same_peer from p ≡ b → cancels x notices ≡ b' → IsTold from (messages.PcNtf notices) os (cond (cond b b' false) Ends (ends_if (answers_to p x os)))
      go true true is is' = (
        λ ends. elim (zero_or_one (answers_to p x os) (fair p x)) [ inl none ↦ inr (none, notices, refl, peer_is from p is, is') | inr one ↦ inl one ],
        λ keeps. absurd (keeps refl),
      )
      go true false is is' = counted from (messages.PcNtf notices) os (answers_to p x os) refl (fair p x)
      go false b' is is' = counted from (messages.PcNtf notices) os (answers_to p x os) refl (fair p x)
  told from (messages.Open body) os fair = (λ ends. cc, λ keeps. ap (answers_to p x) fair)
  told from messages.Keepalive os fair = (λ ends. cc, λ keeps. ap (answers_to p x) fair)
  told from (messages.Close why) os fair = (λ ends. cc, λ keeps. ap (answers_to p x) fair)
  told from (messages.Other kind) os fair = (λ ends. cc, λ keeps. ap (answers_to p x) fair)

  pub record Behaves (e : Deed Segment) : Type 0 where
    pub ends : effect c d p x e ≡ Ends → (answers_in d p x e ≡ 1) ⊎ ((answers_in d p x e ≡ 0) × DropsFor d p x e)
    pub silent : effect c d p x e ≢ Ends → answers_in d p x e ≡ 0

  behaves_takes : (at : As) (from : Peer) (m : Message) (os : List Output) → IsFair from m os → Behaves (Takes at from m os)
  behaves_takes at from m os fair = let g = go (same_as at d) refl in record { ends = g.0; silent = g.1 }
    where
      drops : at ≡ d → (notices : _) → m ≡ messages.PcNtf notices → from ≡ p → cancels x notices ≡ true → DropsFor d p x (Takes at from m os)
      drops is notices is-m is-p cancels' =
          cancelled notices os (ap (λ (a : As). let e : Deed Segment = Takes a from m os in e) is ∙ ap (λ (q : Peer). let e : Deed Segment = Takes d q m os in e) is-p ∙ ap (λ (m' : Message). let e : Deed Segment = Takes d p m' os in e) is-m) cancels'

      go : (b : Bool) → same_as at d ≡ b →
          (cond b (take_effect c d p x from m os) Keeps ≡ Ends → (besides_asking p from m (answers_to p x (cond b os [])) ≡ 1) ⊎ ((besides_asking p from m (answers_to p x (cond b os [])) ≡ 0) × DropsFor d p x (Takes at from m os)))
          × (cond b (take_effect c d p x from m os) Keeps ≢ Ends → besides_asking p from m (answers_to p x (cond b os [])) ≡ 0)
      go true is =
          let t = told from m os fair in
          (λ ends. elim (t.0 ends) [ inl one ↦ inl one | inr none ↦ inr (none.0, drops (same_as_is at d is) none.1 none.2 none.3 none.4) ], t.1)
      go false is = (λ ends. cc, λ keeps. no_more p from m)

  behaves_downs : (at : As) (q : Peer) (os : List Output) → AtMostOne os → Behaves (Downs at q os)
  behaves_downs at q os most = let g = go (same_as at d) (same_peer q p) refl refl in record { ends = g.0; silent = g.1 }
    where
      drops : at ≡ d → q ≡ p → DropsFor d p x (Downs at q os)
      drops is is-p = went_down os (ap (λ (a : As). let e : Deed Segment = Downs a q os in e) is ∙ ap (λ (q' : Peer). let e : Deed Segment = Downs d q' os in e) is-p)

      go : (b b' : Bool) → same_as at d ≡ b → same_peer q p ≡ b' →
          (cond b (cond b' Ends (ends_if (answers_to p x os))) Keeps ≡ Ends → (answers_to p x (cond b os []) ≡ 1) ⊎ ((answers_to p x (cond b os []) ≡ 0) × DropsFor d p x (Downs at q os)))
          × (cond b (cond b' Ends (ends_if (answers_to p x os))) Keeps ≢ Ends → answers_to p x (cond b os []) ≡ 0)
      go true true is is' = (
        λ ends. elim (zero_or_one (answers_to p x os) (most p x)) [ inl none ↦ inr (none, drops (same_as_is at d is) (peer_is q p is')) | inr one ↦ inl one ],
        λ keeps. absurd (keeps refl),
      )
      go true false is is' = (λ ends. inl (ends_one (answers_to p x os) (most p x) ends), λ keeps. keeps_none (answers_to p x os) keeps)
      go false b' is is' = (λ ends. cc, λ keeps. refl)

  behaves_solves : (at : As) (k : ℕ) (os : List Output) (keys : _) → AtMostOne os → Behaves (Solves at k os keys)
  behaves_solves at k os keys most = let g = go (same_as at d) in record { ends = λ ends. inl (g.0 ends); silent = g.1 }
    where
      go : (b : Bool) → (cond b (ends_if (answers_to p x os)) Keeps ≡ Ends → answers_to p x (cond b os []) ≡ 1) × (cond b (ends_if (answers_to p x os)) Keeps ≢ Ends → answers_to p x (cond b os []) ≡ 0)
      go true = (λ ends. ends_one (answers_to p x os) (most p x) ends, λ keeps. keeps_none (answers_to p x os) keeps)
      go false = (λ ends. cc, λ keeps. refl)

  pub behaves : (e : Deed Segment) → IsFairDeed e → Behaves e
  behaves (Takes at from m os) fair = behaves_takes at from m os fair
  behaves (Downs at q os) fair = behaves_downs at q os fair
  behaves (Solves at k os keys) fair = behaves_solves at k os keys fair
  behaves (Says at o) fair = record { ends = λ ends. cc; silent = λ keeps. go (same_as at d) }
    where
      go : (b : Bool) → answers_to p x (cond b (o ∷ []) []) ≡ 0
      go true = fair p x
      go false = refl
  behaves (Loads at g) fair = record { ends = λ ends. cc; silent = λ keeps. refl }
  behaves (Pops a b) fair = record { ends = λ ends. cc; silent = λ keeps. refl }
  behaves (Ups at q) fair = record { ends = λ ends. cc; silent = λ keeps. refl }
  behaves (Clears a b) fair = record { ends = λ ends. cc; silent = λ keeps. refl }
  behaves (Expires now) fair = record { ends = λ ends. cc; silent = λ keeps. refl }
  behaves (Hands i bytes) fair = record { ends = λ ends. cc; silent = λ keeps. refl }

  -- an answer to an open request ends it
  pub must_end : (e : Deed Segment) → Behaves e → 1 ≤ answers_in d p x e → effect c d p x e ≡ Ends
  must_end e behaves some = go (effect c d p x e) refl
    where
      go : (f : Effect) → effect c d p x e ≡ f → f ≡ Ends
      go Ends is = refl
      go Keeps is = absurd (let none = behaves.silent (λ ends. let out : Keeps ≡ Ends = sym is ∙ ends in cc) in omega (arith, none, some))
      go Begins is = absurd (let none = behaves.silent (λ ends. let out : Begins ≡ Ends = sym is ∙ ends in cc) in omega (arith, none, some))

  -- ---- from the acceptance to the end

  goes_on : (e : Deed Segment) (now at : Transcript) (f : Effect) → effect c d p x e ≡ f → opened c d p x now ≡ Some at → (opened c d p x (e ∷ now) ≡ Some at) ⊎ (effect c d p x e ≡ Ends)
  goes_on e now at Keeps is open' = inl (ap (λ (g : Effect). after g (opened c d p x now) (e ∷ now)) is ∙ open')
  goes_on e now at Begins is open' = inl (ap (λ (g : Effect). after g (opened c d p x now) (e ∷ now)) is ∙ ap (λ (o : Option Transcript). after Begins o (e ∷ now)) open')
  goes_on e now at Ends is open' = inr is

  -- it is open, or a deed ended it
  lives : (now at : Transcript) → Within at now → opened c d p x at ≡ Some at → (opened c d p x now ≡ Some at) ⊎ IsEnd c now d p x at
  lives [] at w is = inl (subst (λ (t : Transcript). opened c d p x t ≡ Some at) w is)
  lives (e ∷ now) at (inl same) is = inl (subst (λ (t : Transcript). opened c d p x t ≡ Some at) same is)
  lives (e ∷ now) at (inr w) is = elim (lives now at w is) [
    | inr end ↦ inr (record { deed = end.deed; older = end.older; within = inr end.within; is_open = end.is_open; ends = end.ends })
    | inl open' ↦
        elim (goes_on e now at (effect c d p x e) refl open') [
          | inl still ↦ inl still
          | inr ends ↦ inr (record { deed = e; older = now; within = inl refl; is_open = open'; ends = ends })
        ]
  ]

  opened_length : (now at : Transcript) → opened c d p x now ≡ Some at → length at ≤ length now
  opened_length [] at is = cc
  opened_length (e ∷ now) at is = go (effect c d p x e) (opened c d p x now) is (opened_length now at)
    where
      go : (f : Effect) (o : Option Transcript) → after f o (e ∷ now) ≡ Some at → (o ≡ Some at → length at ≤ length now) → length at ≤ length (e ∷ now)
      go Keeps o is rec = let le = rec is in omega arith
      go Ends o is rec = cc
      go Begins None is rec = let same : e ∷ now ≡ at = cc in let le = ap length same in omega arith
      go Begins (Some m) is rec = let le = rec is in omega arith

  -- after it ended, what is open began later
  began_later : (now : Transcript) (e : Deed Segment) (older : Transcript) → Within (e ∷ older) now → opened c d p x (e ∷ older) ≡ None → (at : Transcript) → opened c d p x now ≡ Some at → length (e ∷ older) < length at
  began_later [] e older w none at is = cc
  began_later (f ∷ now) e older (inl same) none at is = let clash : None ≡ Some at = sym none ∙ ap (opened c d p x) same ∙ is in cc
  began_later (f ∷ now) e older (inr w) none at is = go (effect c d p x f) (opened c d p x now) is (began_later now e older w none at)
    where
      go : (g : Effect) (o : Option Transcript) → after g o (f ∷ now) ≡ Some at → (o ≡ Some at → length (e ∷ older) < length at) → length (e ∷ older) < length at
      go Keeps o is rec = rec is
      go Ends o is rec = cc
      go Begins None is rec = let same : f ∷ now ≡ at = cc in let le = ap length same in let w' = Within-length (e ∷ older) now w in omega arith
      go Begins (Some m) is rec = rec is

  in_order : (now : Transcript) (e e' : Deed Segment) (o o' : Transcript) → Within (e ∷ o) now → Within (e' ∷ o') now → (e ∷ o ≡ e' ∷ o') ⊎ (Within (e ∷ o) o' ⊎ Within (e' ∷ o') o)
  in_order [] e e' o o' w w' = cc
  in_order (f ∷ now) e e' o o' (inl is) (inl is') = inl (is ∙ sym is')
  in_order (f ∷ now) e e' o o' (inl is) (inr w') = let tails : now ≡ o = cc in inr (inr (subst (Within (e' ∷ o')) tails w'))
  in_order (f ∷ now) e e' o o' (inr w) (inl is') = let tails : now ≡ o' = cc in inr (inl (subst (Within (e ∷ o)) tails w))
  in_order (f ∷ now) e e' o o' (inr w) (inr w') = in_order now e e' o o' w w'

  not_twice : (at : Transcript) (e : Deed Segment) (o o' : Transcript) → Within (e ∷ o) o' → effect c d p x e ≡ Ends → opened c d p x o ≡ Some at → opened c d p x o' ≡ Some at → ⊥
  not_twice at e o o' w ends is is' =
      let none : opened c d p x (e ∷ o) ≡ None = ap (λ (g : Effect). after g (opened c d p x o) (e ∷ o)) ends in
      let less = began_later o' e o w none at is' in
      let le = opened_length o at is in
      absurd (omega arith)

  one_end : (now at : Transcript) (e e' : IsEnd c now d p x at) → e.deed ∷ e.older ≡ e'.deed ∷ e'.older
  one_end now at e e' = elim (in_order now e.deed e'.deed e.older e'.older e.within e'.within) [
    | inl same ↦ same
    | inr (inl w) ↦ absurd (not_twice at e.deed e.older e'.older w e.ends e.is_open e'.is_open)
    | inr (inr w) ↦ absurd (not_twice at e'.deed e'.older e.older w e'.ends e'.is_open e.is_open)
  ]

  -- the end of a request is no message that asks
  all_of : (e : Deed Segment) → effect c d p x e ≡ Ends → answers_of d p x e ≡ answers_in d p x e
  all_of (Takes at from (messages.PcReq asks) os) ends = go (same_as at d) (same_peer from p) ends
    where
      go : (t u : Bool) → cond t (cond u (asks_effect c d x (answers_to p x os) asks) Keeps) Keeps ≡ Ends → answers_to p x (cond t os []) ≡ cond u 0 (answers_to p x (cond t os []))
      go true true ends = absurd (asks_go_on (answers_to p x os) asks ends)
      go false true ends = cc
      go t false ends = refl
  all_of (Takes at from (messages.PcRep replies) os) ends = refl
  all_of (Takes at from (messages.PcNtf notices) os) ends = refl
  all_of (Takes at from (messages.PcErr reports) os) ends = refl
  all_of (Takes at from (messages.Open body) os) ends = refl
  all_of (Takes at from messages.Keepalive os) ends = refl
  all_of (Takes at from (messages.Close why) os) ends = refl
  all_of (Takes at from (messages.Other kind) os) ends = refl
  all_of (Says at o) ends = refl
  all_of (Downs at q os) ends = refl
  all_of (Solves at k os keys) ends = refl
  all_of (Loads at g) ends = refl
  all_of (Pops a b) ends = refl
  all_of (Ups at q) ends = refl
  all_of (Clears a b) ends = refl
  all_of (Expires now) ends = refl
  all_of (Hands i bytes) ends = refl

  -- each answer has one request
  each_for : (e : Deed Segment) (older : Transcript) → IsFairDeed e → IsFounded c e older → 1 ≤ answers_of d p x e → (answers_of d p x e ≡ 1) × AnswersFor c d p x older e
  each_for e older fair founded some = elim (founded.asked d p x some) [
    | inr told ↦ (omega (arith, told.0, some), told.1)
    | inl counted ↦
        let at = founded.found d p x counted in
        let ends = must_end e (behaves e fair) counted in
        elim ((behaves e fair).ends ends) [
          | inl one ↦ (all_of e ends ∙ one, of_open at.0 at.1 ends)
          | inr none ↦ absurd (let zero = none.0 in omega (arith, zero, counted))
        ]
  ]

  pub answered_once : (now : Transcript) (s : Plant) → Each IsFairDeed now → AreFounded c now → ((at : Transcript) → opened c d p x now ≡ Some at → is_pending s d p x ≡ true) →
      (at : Transcript) → Within at now → opened c d p x at ≡ Some at → IsAnsweredOnce c now s d p x at
  answered_once now s fair founded held at w is = record {
    fate = elim (lives now at w is) [
      | inl open' ↦ pending open' (held at open')
      | inr end ↦
          elim ((behaves end.deed (Each-within IsFairDeed now fair end.deed end.older end.within)).ends end.ends) [
            | inl one ↦ answered end (all_of end.deed end.ends ∙ one)
            | inr none ↦ dropped end (all_of end.deed end.ends ∙ none.0) none.1
          ]
    ];
    one_end = one_end now at;
    each = λ e older w' some. each_for e older (Each-within IsFairDeed now fair e older w') (founded_within c now founded e older w') some;
  }

pub requests_are_answered_once : InRuns RequestsAreAnsweredOnceIn
requests_are_answered_once c codec n network es s run d p x at w is =
    answered_once c d p x (deeds_of c n es) s (run_kept c n es s run).1 (run_founded c n es s run (requests_are_single c codec n network es s run)) (λ at' open'. (open_is_pending c codec n network es s run).pending d p x at' open') at w is
