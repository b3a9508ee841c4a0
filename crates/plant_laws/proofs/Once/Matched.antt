-- The law of replies: a reply answers the request that was sent under its id.
use Rattle.std.proofs.Common.{◌≡◌, ◌⊎◌, ◌≤◌, ◌<◌, ◌^◌, ◌+◌, ◌==◌, ℕ, suc, Bool, true, false, cond, Option, Some, None, List, [], ◌∷◌, length, inl, inr, sym, ◌∙◌, ap, subst, refl, arith}
use Rattle.std.proofs.lemmas.Grind.{common_steps}
use Rattle.plant_model.specs.Types.{As, Addr, Peer, Inner, Asked, Message, Reply, Request, Wanted}
use Rattle.pcep_messages.specs.declared.message.Message.TheVariants as messages
use Rattle.request_table.specs.Pending.{same_peer}
use Rattle.plant_model.specs.declared.output.Output.{Output}
use Rattle.plant_text.specs.Names.{same_as, parent_as}
use Rattle.plant_model.specs.Names.{the_parent}
use Rattle.plant_model.specs.Wire.{Codec, Checked, Admitted, Wrong}
use Rattle.plant_model.specs.Laws.{IsCodec, IsSequence}
use Rattle.plant_model.specs.Writing.{asked_of, request_message, vspt_flag}
use Rattle.plant_model.specs.State.{Loads, Pops, Takes, Says, Ups, Downs, Clears, Solves, Expires, Hands}
use Rattle.plant_model.specs.Plant.{PlantDeed, deeds_of}
use Rattle.plant_laws.specs.Transcript.{Transcript, Within, opened, Effect, Keeps, Ends, Begins, effect, after, Delivered, outputs_at, put_into, left_of, standing_of, Standing, standing, Handed, SentIn, asks, count_asks, answers_to, count_answers, one_if}
use Rattle.plant_laws.specs.About.{IsShort}
use Rattle.plant_laws.proofs.Once.Besides.{besides_asking, answers_in}
use Rattle.plant_laws.specs.Matched.{ends, at_once, RepliesMatchIn, IsReplyTo, RepliesAnswerIn}
use Rattle.plant_laws.proofs.Runs.Queues.{same_as_is}
use Rattle.plant_laws.proofs.Runs.Rows.{In, in_of, in_append}
use Rattle.plant_laws.proofs.Runs.Inboxes.{contains}
use Rattle.plant_laws.proofs.WrittenForm.ReadBack.{StoodFirst, AreRead, read_deed, run_read, run_single, in_left, in_standing_of}
use Rattle.plant_laws.proofs.Numbering.SentOn.{same_peer_is}
use Rattle.plant_laws.proofs.Settled.Waits.{waits_are_sent}
use Rattle.plant_laws.proofs.Numbering.Sends.{Each-within}
use Rattle.plant_laws.proofs.Once.Answering.{IsFairDeed, behaves, run_kept, must_end}
use Rattle.plant_laws.proofs.Numbering.NumberRuns.{AreNumbered, IsNumbered, IsKnown, peer_self, run_last}
use Rattle.plant_laws.proofs.Once.AtOnce.{EachReply, Tells, DeedTells, run_tells}
use Rattle.plant_laws.proofs.Runs.Readings.{messages_are_read}
use Rattle.plant_laws.proofs.Numbering.Counted.{low_of, numbered_within, asks_within, ids_differ}
use Rattle.plant_laws.proofs.Once.Founded.{founded_within, run_founded}
use Rattle.plant_laws.proofs.Numbering.SentOnAsks.{ends_are}
use Rattle.plant_laws.proofs.WrittenForm.WhereWritten.{WrittenIds, WrittenNetIds}

-- ---- what stands was put there

in_put : (b : As) (os : List Output) (m : Message) → In m (put_into b os) → In {A = Output} (record { to = Inner b; message = m }) os
in_put b [] m none = none
in_put b (o ∷ os) m i = go (same_peer o.to (Inner b)) refl (in_put b os m) i
  where
    go : (t : Bool) → same_peer o.to (Inner b) ≡ t → (In m (put_into b os) → In {A = Output} (record { to = Inner b; message = m }) os) → In m (cond t (o.message ∷ put_into b os) (put_into b os)) →
        In {A = Output} (record { to = Inner b; message = m }) (o ∷ os)
    go true same rec (inl is) = inl (ap (λ (p : Peer). let x : Output = record { to = p; message = o.message } in x) (same_peer_is o.to (Inner b) same) ∙ ap (λ (z : Message). let x : Output = record { to = Inner b; message = z } in x) is)
    go true same rec (inr j) = inr (rec j)
    go false same rec j = inr (rec j)

record WasPut (a b : As) (now : Transcript) (x : Standing) : Type 0 where
  pub deed : PlantDeed
  pub older : Transcript
  pub is_put : x.put ≡ deed ∷ older
  pub within : Within (deed ∷ older) now
  pub sent : In {A = Output} (record { to = Inner b; message = x.message }) (outputs_at a deed)

was_put : (a b : As) (now : Transcript) (x : Standing) → In x (standing a b now) → WasPut a b now x
was_put a b [] x none = absurd none
was_put a b (e ∷ ds) x i =
    elim (in_append x (left_of e a b (standing a b ds)) (standing_of (e ∷ ds) (put_into b (outputs_at a e))) i) [
      | inl old ↦ let r = was_put a b ds x (in_left e a b x (standing a b ds) old) in record { deed = r.deed; older = r.older; is_put = r.is_put; within = inr r.within; sent = r.sent }
      | inr new ↦
          let r = in_standing_of (e ∷ ds) x (put_into b (outputs_at a e)) new in
          record { deed = e; older = ds; is_put = r.0; within = inl refl; sent = in_put b (outputs_at a e) x.message r.1 }
    ]

-- ---- a reply counts

eqb_self : (n : ℕ) → (n == n) ≡ true
eqb_self n = grind (arith, common_steps)

pub reply_counts : (p : Peer) (r : Reply) (os : List Output) → In {A = Output} (record { to = p; message = messages.PcRep (r ∷ []) }) os → 1 ≤ answers_to p r.id os
reply_counts p r [] none = absurd none
reply_counts p r (o ∷ os) (inl is) =
    subst (λ (x : Output). 1 ≤ cond (same_peer x.to p) (count_answers r.id x.message) 0 + answers_to p r.id os) (sym is) here
  where
    here : 1 ≤ cond (same_peer p p) (one_if (r.id == r.id) + 0) 0 + answers_to p r.id os
    here = rw (peer_self p, eqb_self r.id) (omega arith)
reply_counts p r (o ∷ os) (inr i) = let rec = reply_counts p r os i in omega (arith, rec)

-- what b says to a under an id counts, or is said to a request of a
abbrev SaysAtOnce : As → As → PlantDeed → Type 0
SaysAtOnce a b e = (asks : List Asked) × (os : List Output) × (e ≡ Takes b (Inner a) (messages.PcReq asks) os)

pub counts : (a b : As) (y : ℕ) (e : PlantDeed) → 1 ≤ answers_to (Inner a) y (outputs_at b e) → (1 ≤ answers_in b (Inner a) y e) ⊎ SaysAtOnce a b e
counts a b y (Takes at from m os) some = go m some
  where
    asking : (asks : List Asked) (t u : Bool) → same_as at b ≡ t → same_peer from (Inner a) ≡ u → 1 ≤ answers_to (Inner a) y (cond t os []) → (1 ≤ cond u 0 (answers_to (Inner a) y (cond t os []))) ⊎ SaysAtOnce a b (Takes at from (messages.PcReq asks) os)
    asking asks t false is other some = inl some
    asking asks true true is same some =
        inr (
          asks,
          os,
          ap (λ (z : As). let d : PlantDeed = Takes z from (messages.PcReq asks) os in d) (same_as_is at b is)
              ∙ ap (λ (q : Peer). let d : PlantDeed = Takes b q (messages.PcReq asks) os in d) (same_peer_is from (Inner a) same),
        )
    asking asks false true is same some = absurd (omega (arith, some))

    go : (m : Message) → 1 ≤ answers_to (Inner a) y (cond (same_as at b) os []) → (1 ≤ besides_asking (Inner a) from m (answers_to (Inner a) y (cond (same_as at b) os []))) ⊎ SaysAtOnce a b (Takes at from m os)
    go (messages.PcReq asks) some = asking asks (same_as at b) (same_peer from (Inner a)) refl refl some
    go (messages.PcRep replies) some = inl some
    go (messages.PcNtf notices) some = inl some
    go (messages.PcErr reports) some = inl some
    go (messages.Open body) some = inl some
    go messages.Keepalive some = inl some
    go (messages.Close why) some = inl some
    go (messages.Other kind) some = inl some
counts a b y (Says at o) some = inl some
counts a b y (Downs at q os) some = inl some
counts a b y (Solves at k os keys) some = inl some
counts a b y (Loads at g) some = inl some
counts a b y (Pops f t) some = inl some
counts a b y (Ups at q) some = inl some
counts a b y (Clears f t) some = inl some
counts a b y (Expires now) some = inl some
counts a b y (Hands i bytes) some = inl some

-- ---- the moment that delivered it

opened_within : (c : Codec) (d : As) (p : Peer) (x : ℕ) (now at : Transcript) → opened c d p x now ≡ Some at → Within at now
opened_within c d p x [] at is = absurd (let out : None ≡ Some at = is in cc)
opened_within c d p x (e ∷ now) at is = go (effect c d p x e) (opened c d p x now) is (opened_within c d p x now at)
  where
    go : (f : Effect) (o : Option Transcript) → after f o (e ∷ now) ≡ Some at → (o ≡ Some at → Within at now) → Within at (e ∷ now)
    go Keeps o is rec = inr (rec is)
    go Ends o is rec = absurd (let out : None ≡ Some at = is in cc)
    go Begins None is rec = let same : e ∷ now ≡ at = cc in inl (sym same)
    go Begins (Some m) is rec = inr (rec is)

within_then : (m n now : Transcript) → Within m n → Within n now → Within m now
within_then m n [] w v = subst (λ (l : Transcript). Within m l) v w
within_then m n (e ∷ older) w (inl is) = subst (λ (l : Transcript). Within m l) is w
within_then m n (e ∷ older) w (inr v) = inr (within_then m n older w v)

within_tail : (e : PlantDeed) (m now : Transcript) → Within (e ∷ m) now → (at : Transcript) → Within at m → Within at now
within_tail e m now w at v = within_then at (e ∷ m) now (inr v) w

read_within : (now : Transcript) → AreRead now → (e : PlantDeed) (older : Transcript) → Within (e ∷ older) now → read_deed e older
read_within [] all e older w = absurd (let out : e ∷ older ≡ [] = w in cc)
read_within (d ∷ ds) all e older (inl is) =
    let heads : e ≡ d = cc in
    let tails : older ≡ ds = cc in
    subst (λ (x : PlantDeed). read_deed x older) (sym heads) (subst (λ (l : Transcript). read_deed d l) (sym tails) all.0)
read_within (d ∷ ds) all e older (inr w) = read_within ds all.1 e older w

-- a reply among the outputs
reply_in : (Q : Reply → Type 0) (p : Peer) (r : Reply) (os : List Output) → EachReply Q os → In {A = Output} (record { to = p; message = messages.PcRep (r ∷ []) }) os → Q r
reply_in Q p r [] each none = absurd none
reply_in Q p r (o ∷ os) each (inl is) = each.0 r (ap (λ (x : Output). x.message) is)
reply_in Q p r (o ∷ os) each (inr i) = reply_in Q p r os each.1 i

as_self : (a : As) → same_as a a ≡ true
as_self a = grind (arith, common_steps)

-- a request that was sent on is admitted under its own id
abbrev id_in : Checked → ℕ
id_in (Admitted r) = r.id
id_in (Wrong rp kind value) = 0

known_id : (c : Codec) → IsCodec c → (b : As) (id : ℕ) (w : Wanted) (t : Addr) (rest : List As) → IsKnown c w t rest (Inner b) → 1 ≤ id → id < 2 ^ 32 → (r : Request) → c.check (asked_of id w t rest) b ≡ Admitted r → r.id ≡ id
known_id c codec b id w t rest k some fits r admitted = go k.6
  where
    go : ((rest ≡ []) × (Inner b ≡ the_parent)) ⊎ ((b' : As) × (more : List As) × (rest ≡ b' ∷ more) × (Inner b ≡ Inner b') × IsSequence b' more) → r.id ≡ id
    go (inl up) =
        let is : b ≡ parent_as = (let e : Inner b ≡ Inner parent_as = up.1 in cc) in
        let checks : Admitted r ≡ c.check (asked_of id w w.target []) parent_as =
        sym admitted ∙ ap (λ (z : Addr). c.check (asked_of id w z rest) b) k.5 ∙ ap (λ (z : List As). c.check (asked_of id w w.target z) b) up.0 ∙ ap (λ (z : As). c.check (asked_of id w w.target []) z) is in
        elim (ends_are w.source w.target) [
          | inl four ↦ ap (λ (z : Checked). id_in z) (checks ∙ codec.onward.admits_upward k.0 k.1 k.2 k.3 w k.4 four id some fits)
          | inr six ↦ absurd (let clash : Admitted r ≡ Wrong (Some (vspt_flag, id)) 4 2 = checks ∙ codec.onward.refuses_upward w id six in cc)
        ]
    go (inr on) =
        let is : b ≡ on.0 = (let e : Inner b ≡ Inner on.0 = on.3 in cc) in
        let then = codec.onward.admits k.0 k.1 k.2 k.3 w k.4 id t on.0 on.1 some fits on.4 in
        ap (λ (z : Checked). id_in z) (sym admitted ∙ ap (λ (z : List As). c.check (asked_of id w t z) b) on.2 ∙ ap (λ (z : As). c.check (asked_of id w t (on.0 ∷ on.1)) z) is ∙ then)

module _ (c : Codec) (codec : IsCodec c) (a b : As) (now : Transcript) (numbers : AreNumbered c a now) (short : IsShort now) (read : AreRead now) where
  -- the request that was delivered is the one that a sent under its id
  abbrev IsOf : ℕ → Transcript → Type 0
  IsOf y at = (sending : Transcript) × Within sending now × Handed a b sending at × (w : Wanted) × (t : Addr) × (rest : List As) × SentIn sending a (Inner b) (request_message y w t rest)

  asked_by : (y : ℕ) (ask : Asked) (r : Request) → c.check ask b ≡ Admitted r → r.id ≡ y → (e : PlantDeed) (older : Transcript) → Within (e ∷ older) now → IsNumbered c a e older →
      In {A = Output} (record { to = Inner b; message = messages.PcReq (ask ∷ []) }) (outputs_at a e) → (w : Wanted) × (t : Addr) × (rest : List As) × SentIn (e ∷ older) a (Inner b) (request_message y w t rest)
  asked_by y ask r admitted id e older within numbered i = elim (numbered b) [
    | inl none ↦ absurd (none.none (messages.PcReq (ask ∷ [])) i tt)
    | inr x ↦ go x.0 x.1 x.2 x.3 x.4 (subst (λ (l : List Output). In {A = Output} (record { to = Inner b; message = messages.PcReq (ask ∷ []) }) l) x.3 i)
  ]
    where
      go : (w : Wanted) (t : Addr) (rest : List As) → outputs_at a e ≡ record { to = Inner b; message = request_message (suc (asks a b older)) w t rest } ∷ [] → IsKnown c w t rest (Inner b) →
          In {A = Output} (record { to = Inner b; message = messages.PcReq (ask ∷ []) }) (record { to = Inner b; message = request_message (suc (asks a b older)) w t rest } ∷ []) →
          (w : Wanted) × (t : Addr) × (rest : List As) × SentIn (e ∷ older) a (Inner b) (request_message y w t rest)
      go w t rest outs known (inl is) =
          let lists : messages.PcReq (asked_of (suc (asks a b older)) w t rest ∷ []) ≡ messages.PcReq (ask ∷ []) = ap (λ (o : Output). o.message) is in
          let inner : asked_of (suc (asks a b older)) w t rest ∷ [] ≡ ask ∷ [] = cc in
          let same : asked_of (suc (asks a b older)) w t rest ≡ ask = cc in
          let count : count_asks (put_into b (outputs_at a e)) ≡ 1 = ap (λ (l : List Output). count_asks (put_into b l)) outs ∙ rw (peer_self (Inner b)) refl in
          let le = asks_within a b (e ∷ older) now within in
          let most = short a b in
          let fits : suc (asks a b older) < 2 ^ 32 = omega (arith, count, le, most) in
          let number : r.id ≡ suc (asks a b older) = known_id c codec b (suc (asks a b older)) w t rest known (omega arith) fits r (ap (λ (z : Asked). c.check z b) same ∙ admitted) in
          let is_y : suc (asks a b older) ≡ y = sym number ∙ id in (
            w,
            t,
            rest,
            subst (λ (k : ℕ). SentIn (e ∷ older) a (Inner b) (request_message k w t rest)) is_y
                (contains (record { to = Inner b; message = request_message (suc (asks a b older)) w t rest }) (outputs_at a e)
                (subst (λ (o : Output). In o (outputs_at a e)) (sym is) i)),
          )
      go w t rest outs known (inr never) = absurd never

  pub delivered_by : (y : ℕ) (at : Transcript) (r : Request) → Within at now → Delivered c at b (Inner a) r → r.id ≡ y → IsOf y at
  delivered_by y [] r w none id = absurd none
  delivered_by y (e ∷ older) r w d id = first older (subst (λ (x : PlantDeed). read_deed x older) d.2 (read_within now read e older w)) w
    where
      first : (older : Transcript) → StoodFirst a b (messages.PcReq (d.0 ∷ [])) older → Within (e ∷ older) now → IsOf y (e ∷ older)
      first [] stood w = absurd stood
      first (f ∷ before) stood w =
          let x : Standing = record { message = messages.PcReq (d.0 ∷ []); put = stood.1.0 } in
          let put = was_put a b before x (subst (λ (l : List Standing). In x l) (sym stood.1.2) (inl refl)) in
          let within = within_then (put.deed ∷ put.older) before now put.within (within_then before (e ∷ f ∷ before) now (inr (inr (whole before))) w) in
          let sent = asked_by y d.0 r d.3 id put.deed put.older within (numbered_within c a now numbers put.deed put.older within) put.sent in (
            stood.1.0,
            subst (λ (l : Transcript). Within l now) (sym put.is_put) within,
            (d.0 ∷ [], d.1, stood.1.1, d.2, stood.0, stood.1.2),
            sent.0,
            sent.1,
            sent.2,
            subst (λ (l : Transcript). SentIn l a (Inner b) (request_message y sent.0 sent.1 sent.2)) (sym put.is_put) sent.3,
          )
        where
          whole : (l : Transcript) → Within l l
          whole [] = refl
          whole (g ∷ l) = inl refl

  -- a request that is answered at once
  once_by : (r : Reply) (asks : List Asked) (os : List Output) (older : Transcript) → Within (Takes b (Inner a) (messages.PcReq asks) os ∷ older) now → length asks ≡ 1 → DeedTells c (Takes b (Inner a) (messages.PcReq asks) os) →
      In {A = Output} (record { to = Inner a; message = messages.PcRep (r ∷ []) }) os → IsOf r.id (Takes b (Inner a) (messages.PcReq asks) os ∷ older)
  once_by r [] os older w one tells i = absurd (let none : 0 ≡ 1 = one in omega arith)
  once_by r (x ∷ y ∷ rest) os older w one tells i = absurd (let none : length (x ∷ y ∷ rest) ≡ 1 = one in omega (arith, none))
  once_by r (ask ∷ []) os older w one tells i = go (c.check ask b) refl (reply_in (Tells (c.check ask b)) (Inner a) r os tells i)
    where
      go : (o : Checked) → c.check ask b ≡ o → Tells o r → IsOf r.id (Takes b (Inner a) (messages.PcReq (ask ∷ [])) os ∷ older)
      go (Wrong rp kind value) is told = absurd told
      go (Admitted q) is told = delivered_by r.id (Takes b (Inner a) (messages.PcReq (ask ∷ [])) os ∷ older) q w (ask, os, refl, is) (sym told)

  once_deed : (r : Reply) (asks : List Asked) (os : List Output) (deed : PlantDeed) (older : Transcript) → deed ≡ Takes b (Inner a) (messages.PcReq asks) os → Within (deed ∷ older) now →
      ((older : Transcript) → Within (Takes b (Inner a) (messages.PcReq asks) os ∷ older) now → length asks ≡ 1) → DeedTells c deed → In {A = Output} (record { to = Inner a; message = messages.PcRep (r ∷ []) }) (outputs_at b deed) → IsOf r.id (deed ∷ older)
  once_deed r asks os deed older is w single tells i =
      subst (λ (e : PlantDeed). IsOf r.id (e ∷ older)) (sym is)
      (let w' = subst (λ (e : PlantDeed). Within (e ∷ older) now) is w in
      once_by r asks os older w' (single older w') (subst (λ (e : PlantDeed). DeedTells c e) is tells)
      (subst (λ (l : List Output). In {A = Output} (record { to = Inner a; message = messages.PcRep (r ∷ []) }) l) (rw (as_self b) refl) (subst (λ (e : PlantDeed). In {A = Output} (record { to = Inner a; message = messages.PcRep (r ∷ []) }) (outputs_at b e)) is i)))

pub replies_match : WrittenNetIds RepliesMatchIn
replies_match c codec n net es s run written short a b real r put there h i waits =
    let now = deeds_of c n es in
    let single = run_single c n codec es s run written in
    let numbers = (run_last c codec n es s run single short a (low_of a real)).1 in
    let read = run_read c n codec es s run written in
    let x : Standing = record { message = messages.PcRep (r ∷ []); put = put } in
    let was = was_put b a now x (in_of x (standing b a now) there) in
    let sent = waits_are_sent c codec n net es s run a h i (Inner b) r.id waits in
    let some = reply_counts (Inner a) r (outputs_at b was.deed) was.sent in
    record {
      deed = was.deed;
      older = was.older;
      is_put = was.is_put;
      within = subst (λ (l : Transcript). Within l now) (sym was.is_put) was.within;
      sending = sent.at;
      is_open = sent.is_open;
      answering = elim (counts a b r.id was.deed some) [
        | inr once ↦
            let tells = Each-within (DeedTells c) now (run_tells c n es s run) was.deed was.older was.within in
            let of = once_deed c codec a b now numbers short read r once.0 once.1 was.deed was.older once.2 was.within (λ l v. (messages_are_read c codec n es s run written).single b (Inner a) once.0 once.1 l v) tells was.sent in
            let sending_in = opened_within c a h.1.key.peer h.1.key.id now sent.at sent.is_open in
            let same = (ids_differ c a b now numbers of.0 sent.at of.1 sending_in r.id of.3 h.1.item.wanted of.4 h.1.item.wanted.target of.5 sent.rest of.6 sent.sent).0 in
            at_once once.0 once.1 once.2 (subst (λ (l : Transcript). Handed a b l (was.deed ∷ was.older)) same of.2)
        | inl counted ↦
            let found = (founded_within c now (run_founded c n es s run single) was.deed was.older was.within).found b (Inner a) r.id counted in
            let fair = Each-within IsFairDeed now (run_kept c n es s run).1 was.deed was.older was.within in
            let at_in = within_tail was.deed was.older now was.within found.0 (opened_within c b (Inner a) r.id was.older found.0 found.1) in
            let of = delivered_by c codec a b now numbers short read r.id found.0 found.2 at_in found.3 found.4 in
            let sending_in = opened_within c a h.1.key.peer h.1.key.id now sent.at sent.is_open in
            let same = (ids_differ c a b now numbers of.0 sent.at of.1 sending_in r.id of.3 h.1.item.wanted of.4 h.1.item.wanted.target of.5 sent.rest of.6 sent.sent).0 in
            ends found.0 found.1 (must_end c b (Inner a) r.id was.deed (behaves c b (Inner a) r.id was.deed fair) counted) (subst (λ (l : Transcript). Handed a b l found.0) same of.2)
      ];
    }

whole : (l : Transcript) → Within l l
whole [] = refl
whole (g ∷ l) = inl refl

pub replies_answer : WrittenIds RepliesAnswerIn
replies_answer c codec n es s run written short a b real r os older w = first older (read_within (deeds_of c n es) (run_read c n codec es s run written) (Takes a (Inner b) (messages.PcRep (r ∷ [])) os) older w) w
  where
    first : (older : Transcript) → StoodFirst b a (messages.PcRep (r ∷ [])) older → Within (Takes a (Inner b) (messages.PcRep (r ∷ [])) os ∷ older) (deeds_of c n es) → IsReplyTo c older a b r
    first [] stood w = absurd stood
    first (f ∷ before) stood w =
        let now = deeds_of c n es in
        let single = run_single c n codec es s run written in
        let numbers = (run_last c codec n es s run single short a (low_of a real)).1 in
        let read = run_read c n codec es s run written in
        let x : Standing = record { message = messages.PcRep (r ∷ []); put = stood.1.0 } in
        let was = was_put b a before x (subst (λ (l : List Standing). In x l) (sym stood.1.2) (inl refl)) in
        let inside = within_then (was.deed ∷ was.older) before now was.within (within_then before (Takes a (Inner b) (messages.PcRep (r ∷ [])) os ∷ f ∷ before) now (inr (inr (whole before))) w) in
        let some = reply_counts (Inner a) r (outputs_at b was.deed) was.sent in
        record {
          deed = was.deed;
          older = was.older;
          within = inr was.within;
          said = contains (record { to = Inner a; message = messages.PcRep (r ∷ []) }) (outputs_at b was.deed) was.sent;
          concerns = elim (counts a b r.id was.deed some) [
            | inr once ↦
                let tells = Each-within (DeedTells c) now (run_tells c n es s run) was.deed was.older inside in
                let of = once_deed c codec a b now numbers short read r once.0 once.1 was.deed was.older once.2 inside (λ l v. (messages_are_read c codec n es s run written).single b (Inner a) once.0 once.1 l v) tells was.sent in
                record { sending = of.0; wanted = of.3; target = of.4; rest = of.5; sent = of.6; answering = at_once once.0 once.1 once.2 of.2 }
            | inl counted ↦
                let found = (founded_within c now (run_founded c n es s run single) was.deed was.older inside).found b (Inner a) r.id counted in
                let fair = Each-within IsFairDeed now (run_kept c n es s run).1 was.deed was.older inside in
                let at_in = within_tail was.deed was.older now inside found.0 (opened_within c b (Inner a) r.id was.older found.0 found.1) in
                let of = delivered_by c codec a b now numbers short read r.id found.0 found.2 at_in found.3 found.4 in
                record {
                  sending = of.0;
                  wanted = of.3;
                  target = of.4;
                  rest = of.5;
                  sent = of.6;
                  answering = ends found.0 found.1 (must_end c b (Inner a) r.id was.deed (behaves c b (Inner a) r.id was.deed fair) counted) of.2;
                }
          ];
        }
