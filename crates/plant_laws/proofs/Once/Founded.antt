-- What is answered was pending: an answer in a deed, besides what is said to a message that asks, is to a request that is open
-- then, which a moment before delivered. What is said to a message that asks is about that message, and a repeat is told nothing.
use Rattle.std.proofs.Common.{◌≡◌, ◌⊎◌, ◌≤◌, ◌==◌, ℕ, Bool, true, false, cond, nat_eq, nat_lt, length, Option, Some, None, List, [], ◌∷◌, ◌++◌, inl, inr, sym, ◌∙◌, ap, subst, refl, arith}
use Rattle.std.specs.Map.{lookup}
use Rattle.std.proofs.lemmas.Bool.{cases_Bool, eqb-true}
use Rattle.std.proofs.lemmas.Grind.{common_steps}
use Rattle.plant_model.specs.Types.{As, Peer, Asked, Message, Request, Best, Branch, Held, NetworkParts}
use Rattle.pcep_messages.specs.declared.message.Answer.TheVariants.{Paths, NoPath}
use Rattle.pcep_messages.specs.declared.message.Message.TheVariants as messages
use Rattle.disclosure.specs.Shown.{open_of}
use Rattle.request_table.specs.Pending.{Pending, key_of, number_of, same_key, same_peer}
use Rattle.request_table.proofs.KeyLemmas.{same_key_is, same_peer_is}
use Rattle.plant_model.specs.declared.output.Output.{Output}
use Rattle.plant_text.specs.Names.{same_as, parent_as}
use Rattle.plant_model.specs.Wire.{Codec, Checked, Admitted, Wrong}
use Rattle.plant_model.specs.Writing.{reply_message, busy, no_path}
use Rattle.plant_model.specs.Branches.{open_branch, path_of}
use Rattle.plant_model.specs.Element.{Element, Row, ElementSettings, Taken, downed, is_client}
use Rattle.plant_model.specs.Taking.{take}
use Rattle.plant_model.specs.Solving.{commit, client_reply, closed_reply, closed_paths, free, job_found}
use Rattle.plant_model.specs.BorderGraph.{Found}
use Rattle.plant_model.specs.Parent as parent
use Rattle.plant_text.specs.Settings.{class_of}
use Rattle.plant_model.specs.Settings.{place, family}
use Rattle.plant_model.specs.State.{State, Takes}
use Rattle.plant_model.specs.Deeds.{Going, own_message}
use Rattle.plant_model.specs.Plant.{Pin, Segment, Plant, PlantDeed, Entry, Run, deeds_of}
use Rattle.plant_laws.specs.Transcript.{Transcript, Within, opened, Delivered, answers_to, one_if}
use Rattle.plant_laws.specs.Answered.{answers_of, AnswersFor, at_once, refused}
use Rattle.plant_laws.proofs.Once.AskedAnew.{asks_under, IsNew, said_under, said_new, above_under, above_new}
use Rattle.plant_laws.proofs.Once.Besides.{besides_asking, answers_in, own_none, no_more}
use Rattle.plant_laws.proofs.Once.ElementSteps as lower
use Rattle.plant_laws.proofs.Once.ParentSteps as above
use Rattle.plant_laws.proofs.Runs.Seen.{seen, seen_none}
use Rattle.plant_laws.proofs.Once.Takes.{IsSingle, own_is}
use Rattle.plant_laws.proofs.Runs.Acts.{says}
use Rattle.plant_laws.proofs.Runs.Queues.{same_as_is}
use Rattle.plant_laws.proofs.Runs.Rows.{numbered}
use Rattle.plant_laws.proofs.Once.RowCounts.{count, named, none_named, one_if_le}
use Rattle.plant_laws.proofs.Once.Counting as counting
use Rattle.plant_laws.proofs.Once.Counting.{AnswersAt, one_answer, reply_at, busy_at}
use Rattle.plant_laws.proofs.Once.CountingUpper as upper
use Rattle.plant_laws.proofs.Runs.Inboxes.{contains}
use Rattle.plant_laws.proofs.Once.Opened.{AreSingle, Matches, IsRequest, IsUpperRequest, Holds, holds_same, single_deed}
use Rattle.plant_laws.proofs.Once.OpenedRuns.{does_hold, bare_holds}
use Rattle.plant_laws.proofs.Once.DeedByDeed.{Does, takes_above, takes_below, downs_above, downs_below, ups_above, ups_below, solves_above, solves_below, pops, hands_out, says_own, clears_link, expires_at, loads_rows, run_singles}
use Rattle.plant_laws.proofs.Once.OpenTables.{taken, taken_above}

-- an open request with the moment that delivered it
abbrev pub IsFoundAt : Codec → As → Peer → ℕ → Transcript → Type 0
IsFoundAt c d p x older = (at : Transcript) × (opened c d p x older ≡ Some at) × (r : Request) × Delivered c at d p r × (r.id ≡ x)

abbrev pub AreOpen : Codec → PlantDeed → Transcript → Type 0
AreOpen c e older = (d : As) (p : Peer) (x : ℕ) → 1 ≤ answers_in d p x e → IsFoundAt c d p x older

-- or it is said to a message that asks
abbrev pub AreAsked : Codec → PlantDeed → Transcript → Type 0
AreAsked c e older = (d : As) (p : Peer) (x : ℕ) → 1 ≤ answers_of d p x e → (1 ≤ answers_in d p x e) ⊎ ((answers_of d p x e ≤ 1) × AnswersFor c d p x older e)

pub record IsFounded (c : Codec) (e : PlantDeed) (older : Transcript) : Type 0 where
  pub found : AreOpen c e older
  pub asked : AreAsked c e older

abbrev pub AreFounded : Codec → Transcript → Type 0
AreFounded c [] = Unit {0}
AreFounded c (e ∷ ds) = IsFounded c e ds × AreFounded c ds

under : (y x : ℕ) → 1 ≤ one_if (y == x) → y ≡ x
under y x some = elim (cases_Bool (y == x)) [
  | inl hit ↦ eqb-true y x hit
  | inr miss ↦ absurd (let none : one_if (y == x) ≡ 0 = ap one_if miss in omega (arith, none, some))
]

found_some : {T : Type 0} (t : Pending T) (p : Peer) (x : ℕ) → 1 ≤ count p x t.rows → (number : ℕ) × (number_of t p x ≡ Some number)
found_some t p x some = go (number_of t p x) refl
  where
    go : (o : Option ℕ) → number_of t p x ≡ o → (number : ℕ) × (o ≡ Some number)
    go (Some number) e = (number, refl)
    go None e = absurd (let none = none_named (key_of p x) t.rows e in omega (arith, none, some))

row_counts : {T : Type 0} (p : Peer) (x : ℕ) (rows : List (ℕ × Held T)) (k : ℕ) (held : Held T) → lookup (nat_eq k) rows ≡ Some held → named p x (k, held) ≤ count p x rows
row_counts p x [] k held e = absurd (let out : None ≡ Some held = e in cc)
row_counts p x (row ∷ rows) k held e = elim (cases_Bool (nat_eq k row.0)) [
  | inl hit ↦
      let at : Some row.1 ≡ Some held = rw hit at e in
      let is : row.1 ≡ held = cc in
      let same : one_if (same_key row.1.key (key_of p x)) ≡ one_if (same_key held.key (key_of p x)) = ap (λ (h : Held _). one_if (same_key h.key (key_of p x))) is in
      omega (arith, same)
  | inr miss ↦ let rec = row_counts p x rows k held (rw miss at e) in omega (arith, rec)
]

module _ (P : Type 0) (S : Type 0) where
  pick : (q : Peer) (x n : ℕ) (b : Bool) (t u : Taken P S) → answers_to q x t.outputs ≤ n → answers_to q x u.outputs ≤ n → answers_to q x (cond b t u).outputs ≤ n
  pick q x n true t u a b = a
  pick q x n false t u a b = b

  commit_counts : (c : Codec) (e : ElementSettings) (h : Row P) (down : List Branch) (now : ℕ) (stands : Best → S) (source_known target_known : Bool) (best : List Best) (k : Element P S) (q : Peer) (x : ℕ) →
      answers_to q x (commit c e h down now stands (job_found source_known target_known best) k).outputs ≤ named q x h
  commit_counts c e h down now stands source_known target_known best k q x =
      pick q x (named q x h) (is_client h.1.item.class) _ (closed_reply c e h down now stands k best) (one_answer h (client_reply c h down source_known target_known best) (client best) q x) (closed best)
    where
      client : (best : List Best) → AnswersAt h.1.key.id (client_reply c h down source_known target_known best)
      client [] = reply_at h.1.item.flags h.1.key.id (no_path source_known target_known)
      client (b ∷ bs) = reply_at h.1.item.flags h.1.key.id (Paths (path_of c h.1.item.wanted.query.metric b.cost (open_branch b down) ∷ []))

      closed : (best : List Best) → answers_to q x (closed_reply c e h down now stands k best).outputs ≤ named q x h
      closed [] = one_answer h (reply_message h.1.item.flags h.1.key.id (NoPath 0 0)) (reply_at h.1.item.flags h.1.key.id (NoPath 0 0)) q x
      closed (b ∷ bs) =
          let paths = Paths (closed_paths c e.id h.1.item.wanted.query.metric h.1.item.wanted.target down k.keys.next (b ∷ bs)) in
          pick q x (named q x h) (nat_lt (free now k.keys) (length (b ∷ bs))) _ _
          (one_answer h (busy h.1.item.flags h.1.key.id) (busy_at h.1.item.flags h.1.key.id) q x)
          (one_answer h (reply_message h.1.item.flags h.1.key.id paths) (reply_at h.1.item.flags h.1.key.id paths) q x)

upper_commit_counts : (c : Codec) (h : parent.AskingRow) (a : Option Found) (k : parent.Parent) (q : Peer) (x : ℕ) → answers_to q x (parent.commit c h a k).outputs ≤ named q x h
upper_commit_counts c h None k q x = one_answer h (reply_message h.1.item.flags h.1.key.id (no_path true true)) (reply_at h.1.item.flags h.1.key.id (no_path true true)) q x
upper_commit_counts c h (Some a) k q x =
    let paths = Paths (path_of c h.1.item.wanted.query.metric a.cost a.hops ∷ []) in
    one_answer h (reply_message h.1.item.flags h.1.key.id paths) (reply_at h.1.item.flags h.1.key.id paths) q x

module _ (c : Codec) (n : NetworkParts) where
  abbrev Core : Type 0
  Core = State Pin Segment

  -- a row of the transcript's tables
  element_found : (ds : Transcript) (s : Core) → Holds c n ds s → (d : As) (p : Peer) (x : ℕ) → 1 ≤ count p x (s.elements d).pending.rows → IsFoundAt c d p x ds
  element_found ds s held d p x some =
      let f = found_some (s.elements d).pending p x some in
      let r = numbered (key_of p x) (s.elements d).pending.rows f.0 f.1 in
      let key = same_key_is (key_of p x) r.0.1.key r.3 in
      let t = taken c n ds s held d r.0 (contains r.0 (s.elements d).pending.rows r.1) in
      (t.at, subst (λ k. opened c d k.peer k.id ds ≡ Some t.at) (sym key) t.is_open, t.request, subst (λ k. Delivered c t.at d k.peer t.request) (sym key) t.delivered, t.id ∙ ap (λ k. k.id) (sym key))

  parent_found : (ds : Transcript) (s : Core) → Holds c n ds s → (p : Peer) (x : ℕ) → 1 ≤ count p x s.parent.pending.rows → IsFoundAt c parent_as p x ds
  parent_found ds s held p x some =
      let f = found_some s.parent.pending p x some in
      let r = numbered (key_of p x) s.parent.pending.rows f.0 f.1 in
      let key = same_key_is (key_of p x) r.0.1.key r.3 in
      let t = taken_above c n ds s held r.0 (contains r.0 s.parent.pending.rows r.1) in
      (t.at, subst (λ k. opened c parent_as k.peer k.id ds ≡ Some t.at) (sym key) t.is_open, t.request, subst (λ k. Delivered c t.at parent_as k.peer t.request) (sym key) t.delivered, t.id ∙ ap (λ k. k.id) (sym key))

  -- a deed of one
  of_one : (e : PlantDeed) (ds : Transcript) (at : As) → ((d : As) (p : Peer) (x : ℕ) → same_as at d ≡ false → answers_in d p x e ≡ 0) →
      ((p : Peer) (x : ℕ) → 1 ≤ answers_in at p x e → IsFoundAt c at p x ds) → AreOpen c e ds
  of_one e ds at others own d p x some = go (same_as at d) refl
    where
      go : (b : Bool) → same_as at d ≡ b → IsFoundAt c d p x ds
      go true is = let same = same_as_is at d is in subst (λ (z : As). IsFoundAt c z p x ds) same (own p x (subst (λ (z : As). 1 ≤ answers_in z p x e) (sym same) some))
      go false is = absurd (let none = others d p x is in omega (arith, none, some))

  as_self : (a : As) → same_as a a ≡ true
  as_self a = grind (arith, common_steps)

  takes_found : (at : As) (from : Peer) (m : Message) (os : List Output) (ds : Transcript) → ((p : Peer) (x : ℕ) → 1 ≤ besides_asking p from m (answers_to p x os) → IsFoundAt c at p x ds) → AreOpen c (Takes at from m os) ds
  takes_found at from m os ds own = of_one (Takes at from m os) ds at (λ d p x other. rw other (no_more p from m)) (λ p x some. own p x (rw (as_self at) at some))

  -- what is said to the sender of a message that asks
  abbrev IsAnswer : As → Peer → Message → List Output → Transcript → ℕ → Type 0
  IsAnswer at from m os ds x = (answers_to from x os ≤ 1) × AnswersFor c at from x ds (Takes at from m os)

  takes_asked : (at : As) (from : Peer) (m : Message) (os : List Output) (ds : Transcript) →
      ((asks : List Asked) → m ≡ messages.PcReq asks → (x : ℕ) → 1 ≤ answers_to from x os → IsAnswer at from (messages.PcReq asks) os ds x) → AreAsked c (Takes at from m os) ds
  takes_asked at from (messages.PcReq asks) os ds own d p x some = asking (same_as at d) (same_peer from p) refl refl some
    where
      asking : (t u : Bool) → same_as at d ≡ t → same_peer from p ≡ u → 1 ≤ answers_to p x (cond t os []) →
          (1 ≤ cond u 0 (answers_to p x (cond t os []))) ⊎ ((answers_to p x (cond t os []) ≤ 1) × AnswersFor c d p x ds (Takes at from (messages.PcReq asks) os))
      asking false u is same some = absurd (omega (arith, some))
      asking true false is same some = inl some
      asking true true is same some =
          let to = same_peer_is from p same in
          inr (subst (λ (z : As). (answers_to p x os ≤ 1) × AnswersFor c z p x ds (Takes at from (messages.PcReq asks) os)) (same_as_is at d is)
          (subst (λ (r : Peer). (answers_to r x os ≤ 1) × AnswersFor c at r x ds (Takes at from (messages.PcReq asks) os)) to
          (own asks refl x (subst (λ (r : Peer). 1 ≤ answers_to r x os) (sym to) some))))
  takes_asked at from (messages.PcRep replies) os ds own d p x some = inl some
  takes_asked at from (messages.PcNtf notices) os ds own d p x some = inl some
  takes_asked at from (messages.PcErr reports) os ds own d p x some = inl some
  takes_asked at from (messages.Open body) os ds own d p x some = inl some
  takes_asked at from messages.Keepalive os ds own d p x some = inl some
  takes_asked at from (messages.Close why) os ds own d p x some = inl some
  takes_asked at from (messages.Other kind) os ds own d p x some = inl some

  -- by what was asked, where it is new and there is one answer at most
  answers_by : (at : As) (from : Peer) (a : Asked) (os : List Output) (ds : Transcript) (x : ℕ) (o : Checked) → c.check a at ≡ o → answers_to from x os ≤ asks_under x o → 1 ≤ answers_to from x os →
      ((r : Request) → o ≡ Admitted r → opened c at from r.id ds ≡ None) → IsAnswer at from (messages.PcReq (a ∷ [])) os ds x
  answers_by at from a os ds x (Wrong None kind value) is le some new = absurd (omega (arith, le, some))
  answers_by at from a os ds x (Wrong (Some rp) kind value) is le some new =
      (omega (arith, le, one_if_le (rp.1 == x)), refused a os rp kind value refl is (under rp.1 x (omega (arith, le, some))))
  answers_by at from a os ds x (Admitted r) is le some new =
      let id = under r.id x (omega (arith, le, some)) in
      (omega (arith, le, one_if_le (r.id == x)), at_once a os r refl is id (subst (λ (y : ℕ). opened c at from y ds ≡ None) id (new r refl)))

  none_open : {T : Type 0} {U : Type 0} (core : T → U) (Good : U → Transcript → Type 0) (t : Pending T) (p : Peer) (x : ℕ) (o : Option Transcript) → number_of t p x ≡ None → Matches Good (seen core (key_of p x) t.rows) o → o ≡ None
  none_open {T} {U} core Good t p x o none matches = go o (subst (λ (s : Option U). Matches Good s o) (seen_none core (key_of p x) t.rows none) matches)
    where
      go : (o : Option Transcript) → Matches Good None o → o ≡ None
      go None m = refl
      go (Some at) m = absurd m

  outs_found : (e : PlantDeed) (at : As) (os : List Output) (ds : Transcript) → ((d : As) (p : Peer) (x : ℕ) → answers_in d p x e ≡ answers_to p x (cond (same_as at d) os [])) →
      ((d : As) (p : Peer) (x : ℕ) → answers_of d p x e ≡ answers_in d p x e) →
      ((p : Peer) (x : ℕ) → 1 ≤ answers_to p x os → IsFoundAt c at p x ds) → IsFounded c e ds
  outs_found e at os ds are all own = record {
    found = of_one e ds at (λ d p x other. are d p x ∙ ap (λ (b : Bool). answers_to p x (cond b os [])) other)
        (λ p x some. own p x (subst (λ (k : ℕ). 1 ≤ k) (are at p x ∙ ap (λ (b : Bool). answers_to p x (cond b os [])) (as_self at)) some));
    asked = λ d p x some. inl (subst (λ (k : ℕ). 1 ≤ k) (all d p x) some);
  }

  none_found : (e : PlantDeed) (ds : Transcript) → ((d : As) (p : Peer) (x : ℕ) → answers_in d p x e ≡ 0) → ((d : As) (p : Peer) (x : ℕ) → answers_of d p x e ≡ 0) → IsFounded c e ds
  none_found e ds none nothing = record {
    found = λ d p x some. absurd (let z = none d p x in omega (arith, z, some));
    asked = λ d p x some. absurd (let z = nothing d p x in omega (arith, z, some));
  }

  abbrev If : Transcript → Core → Type 0
  If ds s = AreSingle ds → Holds c n ds s × AreFounded c ds

  pick_found : (ds : Transcript) (b : Bool) (g h : Going Pin Segment) → (b ≡ true → AreFounded c (g.deeds ++ ds)) → (b ≡ false → AreFounded c (h.deeds ++ ds)) → AreFounded c ((cond b g h).deeds ++ ds)
  pick_found ds true g h x y = x refl
  pick_found ds false g h x y = y refl

  is_parent : (at : As) → same_as at parent_as ≡ true → parent_as ≡ at
  is_parent at up = sym (same_as_is at parent_as up)

  -- what an element says to a message that asks
  element_asked : (ds : Transcript) (s : Core) → Holds c n ds s → (at : As) (p : Peer) → same_as at parent_as ≡ false → (asks : List Asked) → IsSingle (messages.PcReq asks) →
      (let os = (take c open_of (place n at) (s.current at) p (class_of n p) s.clock (messages.PcReq asks) (s.elements at)).outputs in
      (x : ℕ) → 1 ≤ answers_to p x os → IsAnswer at p (messages.PcReq asks) os ds x)
  element_asked ds s held at p low [] one x some = absurd (let zero : 0 ≡ 1 = one in omega (arith, zero))
  element_asked ds s held at p low (a ∷ b ∷ rest) one x some = absurd (let more : length (a ∷ b ∷ rest) ≡ 1 = one in omega (arith, more))
  element_asked ds s held at p low (a ∷ []) one x some =
      let k = s.elements at in
      let le = said_under Pin Segment open_of (place n at) (s.current at) p (class_of n p) s.clock p x c a k in
      let new = said_new Pin Segment open_of (place n at) (s.current at) p (class_of n p) s.clock p x c a k some in
      let own = own_is n at in
      let os = (take c open_of (place n at) (s.current at) p (class_of n p) s.clock (messages.PcReq (a ∷ [])) k).outputs in
      let is_new = subst (λ (z : As). IsNew k.pending p (c.check a z)) own new in
      answers_by at p a os ds x (c.check a at) refl (subst (λ (z : As). answers_to p x os ≤ asks_under x (c.check a z)) own le) some
      (λ r is. none_open lower.core (IsRequest c n at p r.id) k.pending p r.id (opened c at p r.id ds) (subst (λ (o : Checked). IsNew k.pending p o) is is_new) (held.rows at p r.id low))

  -- and the parent
  parent_asked : (ds : Transcript) (s : Core) → Holds c n ds s → (at : As) (p : Peer) → parent_as ≡ at → (asks : List Asked) → IsSingle (messages.PcReq asks) →
      (let os = (parent.take c (family n) p (messages.PcReq asks) s.parent).outputs in
      (x : ℕ) → 1 ≤ answers_to p x os → IsAnswer at p (messages.PcReq asks) os ds x)
  parent_asked ds s held at p up [] one x some = absurd (let zero : 0 ≡ 1 = one in omega (arith, zero))
  parent_asked ds s held at p up (a ∷ b ∷ rest) one x some = absurd (let more : length (a ∷ b ∷ rest) ≡ 1 = one in omega (arith, more))
  parent_asked ds s held at p up (a ∷ []) one x some =
      let k = s.parent in
      let os = (parent.take c (family n) p (messages.PcReq (a ∷ [])) k).outputs in
      let new = above_new (family n) p p x c a k some in
      subst (λ (z : As). IsAnswer z p (messages.PcReq (a ∷ [])) os ds x) up
      (answers_by parent_as p a os ds x (c.check a parent_as) refl (above_under (family n) p p x c a k) some
      (λ r is. none_open above.core (IsUpperRequest c n p r.id) k.pending p r.id (opened c parent_as p r.id ds) (subst (λ (o : Checked). IsNew k.pending p o) is new) (held.asking p r.id)))

  -- what is said to a message that is this one
  by_message : (outs : Message → List Output) (Q : Message → List Output → Type 0) (q : Peer) (x : ℕ) (m : Message) (asks : List Asked) → m ≡ messages.PcReq asks → 1 ≤ answers_to q x (outs m) →
      (1 ≤ answers_to q x (outs (messages.PcReq asks)) → Q (messages.PcReq asks) (outs (messages.PcReq asks))) → Q (messages.PcReq asks) (outs m)
  by_message outs Q q x m asks is some own =
      subst (λ (z : Message). Q (messages.PcReq asks) (outs z)) (sym is) (own (subst (λ (z : Message). 1 ≤ answers_to q x (outs z)) is some))

  does_found : (s t : Core) (ds : Transcript) (e : PlantDeed) → Does c n s e t → single_deed e → Holds c n ds s → IsFounded c e ds
  does_found s t ds e (takes_above at p m s' up) one held =
      let r = parent.take c (family n) p m s.parent in
      record {
        found = takes_found at p m r.outputs ds (λ q x some.
            subst (λ (z : As). IsFoundAt c z q x ds) (is_parent at up)
            (parent_found ds s held q x (let le = upper.take_counts c p (family n) m s.parent held.parent q x in omega (arith, le, some))));
        asked = takes_asked at p m r.outputs ds (λ asks is x some.
            by_message (λ (z : Message). (parent.take c (family n) p z s.parent).outputs) (λ (z : Message) (os : List Output). IsAnswer at p z os ds x) p x m asks is some
            (parent_asked ds s held at p (is_parent at up) asks (subst IsSingle is one) x));
      }
  does_found s t ds e (takes_below at p m s' low heard) one held =
      let r = take c open_of (place n at) (s.current at) p (class_of n p) s.clock m (s.elements at) in
      record {
        found = takes_found at p m r.outputs ds (λ q x some.
            element_found ds s held at q x
            (let le = counting.take_found Pin Segment c p open_of (place n at) (s.current at) (class_of n p) s.clock m (s.elements at) (held.elements at) q x in omega (arith, le, some)));
        asked = takes_asked at p m r.outputs ds (λ asks is x some.
            by_message (λ (z : Message). (take c open_of (place n at) (s.current at) p (class_of n p) s.clock z (s.elements at)).outputs) (λ (z : Message) (os : List Output). IsAnswer at p z os ds x) p x m asks is some
            (element_asked ds s held at p low asks (subst IsSingle is one) x));
      }
  does_found s t ds e (downs_above at p s' up) one held =
      outs_found e at (parent.downed p s.parent).outputs ds (λ d q x. refl) (λ d q x. refl) (λ q x some.
      subst (λ (z : As). IsFoundAt c z q x ds) (is_parent at up)
      (parent_found ds s held q x (let le = upper.lost_answers p s.parent.pending.rows q x in omega (arith, le, some))))
  does_found s t ds e (downs_below at p s' low) one held =
      outs_found e at (downed p (s.elements at)).outputs ds (λ d q x. refl) (λ d q x. refl) (λ q x some.
      element_found ds s held at q x (let le = counting.lost_answers Pin Segment p (s.elements at).pending.rows q x in omega (arith, le, some)))
  does_found s t ds e (ups_above at p s' up) one held = none_found e ds (λ d q x. refl) (λ d q x. refl)
  does_found s t ds e (ups_below at p s' low) one held = none_found e ds (λ d q x. refl) (λ d q x. refl)
  does_found s t ds e (solves_above k h s' x) one held =
      outs_found e parent_as (parent.commit c (k, x.held) x.answer s.parent).outputs ds (λ d' q y. refl) (λ d' q y. refl) (λ q y some.
      parent_found ds s held q y
      (let le = upper_commit_counts c (k, x.held) x.answer s.parent q y in
      let le' = row_counts q y s.parent.pending.rows k x.held x.is_held in
      omega (arith, le, le', some)))
  does_found s t ds e (solves_below d k h s' x) one held =
      let r = commit c (place n d) (k, x.held) x.down s.clock (λ b. b.segment) (job_found x.rows.source_known x.rows.target_known x.rows.best) (s.elements d) in
      outs_found e d r.outputs ds (λ d' q y. refl) (λ d' q y. refl) (λ q y some.
      element_found ds s held d q y
      (let le = commit_counts Pin Segment c (place n d) (k, x.held) x.down s.clock (λ b. b.segment) x.rows.source_known x.rows.target_known x.rows.best (s.elements d) q y in
      let le' = row_counts q y (s.elements d).pending.rows k x.held x.is_held in
      omega (arith, le, le', some)))
  does_found s t ds e (pops a b rest s') one held = none_found e ds (λ d q x. refl) (λ d q x. refl)
  does_found s t ds e (hands_out i bytes s') one held = none_found e ds (λ d q x. refl) (λ d q x. refl)
  does_found s t ds e (says_own at p o s') one held =
      outs_found e at (record { to = p; message = own_message o } ∷ []) ds (λ d q x. refl) (λ d q x. refl) (λ q x some. absurd (let none = own_none p o q x in omega (arith, none, some)))
  does_found s t ds e (clears_link x s') one held = none_found e ds (λ d q y. refl) (λ d q y. refl)
  does_found s t ds e (expires_at now s') one held = none_found e ds (λ d q x. refl) (λ d q x. refl)
  does_found s t ds e (loads_rows d g s') one held = none_found e ds (λ d' q x. refl) (λ d' q x. refl)

  abbrev Both : Transcript → Core → Type 0
  Both ds s = Holds c n ds s × AreFounded c ds

  pub run_founded : (es : List Entry) (s : Plant) → Run c n es s → AreSingle (deeds_of c n es) → AreFounded c (deeds_of c n es)
  run_founded es s run single =
      (run_singles c n Both (λ ds s t elements above current both. (holds_same c n ds s t elements above current both.0, both.1))
      (λ ds s t e does one both. (does_hold c n ds s t e does one both.0, (does_found s t ds e does one both.0, both.1))) (λ z. (bare_holds c n z, tt)) es s run single).1

pub founded_within : (c : Codec) (now : Transcript) → AreFounded c now → (e : PlantDeed) (older : Transcript) → Within (e ∷ older) now → IsFounded c e older
founded_within c [] all e older w = absurd (let out : e ∷ older ≡ [] = w in cc)
founded_within c (d ∷ ds) all e older (inl is) =
    let heads : e ≡ d = cc in
    let tails : older ≡ ds = cc in
    subst (λ (x : PlantDeed). IsFounded c x older) (sym heads) (subst (λ (l : Transcript). IsFounded c d l) (sym tails) all.0)
founded_within c (d ∷ ds) all e older (inr w) = founded_within c ds all.1 e older w
