-- In every state of a run, each request that is pending at the parent has gathered the replies of its children to what was sent to them
-- in the moment that opened it.
use Rattle.std.proofs.Common.{◌≡◌, ◌⊎◌, ℕ, Bool, true, false, cond, length, Option, Some, None, List, [], ◌∷◌, inl, inr, sym, subst, refl, arith}
use Rattle.std.specs.Prelude.{Contains}
use Rattle.plant_model.specs.Types.{As, Peer, Inner, Message, Reply, Wanted, Wish, Held, NetworkParts}
use Rattle.disclosure.specs.Shown.{open_of}
use Rattle.pcep_messages.specs.Spelling.{IsWritten}
use Rattle.pcep_messages.specs.declared.message.Message.TheVariants as messages
use Rattle.pcep_messages.specs.declared.message.Wish.TheVariants.{Path, Expand}
use Rattle.request_table.specs.Pending.{key_of, number_of, number_among, is_full}
use Rattle.plant_model.specs.declared.output.Output.{Output}
use Rattle.plant_model.specs.declared.upper.ChildRow.{ChildRow}
use Rattle.plant_text.specs.Names.{parent_as}
use Rattle.plant_model.specs.Wire.{Codec, Checked, Admitted, Wrong}
use Rattle.plant_model.specs.Element.{downed}
use Rattle.plant_model.specs.Taking.{take}
use Rattle.plant_model.specs.Solving.{commit, job_found}
use Rattle.plant_model.specs.Parent as parent
use Rattle.plant_model.specs.Parent.{Asking, AskingRow, Parent, ParentTaken, Errand, Wait, errands, all_waits, all_up, is_ready}
use Rattle.plant_text.specs.Settings.{class_of}
use Rattle.plant_model.specs.Settings.{place, family}
use Rattle.plant_model.specs.State.{State, Takes}
use Rattle.plant_model.specs.Deeds.{own_message, with_parent, with_element, rise}
use Rattle.plant_model.specs.Plant.{Pin, Segment, Plant, PlantDeed, Entry, Run, deeds_of}
use Rattle.plant_model.specs.Laws.{IsCodec}
use Rattle.plant_laws.specs.Transcript.{Transcript, Within, Standing, effect, opened}
use Rattle.plant_laws.specs.Sending.{AllSent}
use Rattle.plant_laws.specs.About.{IsGathered, HasReplied, told_in}
use Rattle.plant_laws.proofs.Runs.Decompose.{nil_right}
use Rattle.plant_laws.proofs.Runs.Queues.{same_as_is}
use Rattle.plant_laws.proofs.Runs.Seen.{seen_none}
use Rattle.plant_laws.proofs.Runs.Rows.{In, in_of, seen_in, in_append}
use Rattle.plant_laws.proofs.WrittenForm.ReadBack.{run_single, standing_sent}
use Rattle.plant_laws.proofs.Once.ParentSteps as upper
use Rattle.plant_laws.proofs.Once.Takes.{IsSingle}
use Rattle.plant_laws.proofs.Once.Opened.{Matches, AreSingle, IsUpperRequest, Holds, holds_same, puts_parent, single_deed}
use Rattle.plant_laws.proofs.Once.OpenedRuns.{does_hold, bare_holds}
use Rattle.plant_laws.proofs.Once.DeedByDeed.{Does, takes_above, takes_below, downs_above, downs_below, ups_above, ups_below, solves_above, solves_below, pops, hands_out, says_own, clears_link, expires_at, loads_rows, run_singles}
use Rattle.plant_laws.proofs.Once.OpenTables.{row_matched}
use Rattle.plant_laws.proofs.Settled.Waits.{still, begun}
use Rattle.plant_laws.proofs.Runs.Readings.{messages_are_read}
use Rattle.plant_laws.proofs.Least.ReadyRows.{IsOneReply, sent_one, sent_within, the_one}
use Rattle.plant_laws.proofs.Least.FromElement.{within_tail}
use Rattle.plant_laws.proofs.Least.ParentRows as rows
use Rattle.plant_laws.proofs.Runs.TablesKept.{in_rows, rows_in}
use Rattle.plant_laws.proofs.Least.Gathers.{Took, IsFilled, filled_later, filled_more, filled_new}

-- a request of the parent that is ready
pub record HasGathered (c : Codec) (n : NetworkParts) (older : Transcript) (h : AskingRow) : Type 0 where
  pub at : Transcript
  pub is_open : opened c parent_as h.1.key.peer h.1.key.id older ≡ Some at
  pub each : (row : ChildRow) → Contains h.1.item.rows row → IsGathered c older at h.1.item.wanted row
  pub every : (end : Errand) → Contains (errands n.parent_links h.1.item.wanted.target (family n).children) end → HasReplied c older at h.1.item.wanted h.1.item.rows end

module _ (c : Codec) (n : NetworkParts) where
  abbrev Core : Type 0
  Core = State Pin Segment

  abbrev ends : Wanted → List Errand
  ends w = errands (family n).links w.target (family n).children

  abbrev pub AreGathered : Transcript → Core → Type 0
  AreGathered ds s = (h : AskingRow) → In h s.parent.pending.rows → (at : Transcript) × (opened c parent_as h.1.key.peer h.1.key.id ds ≡ Some at) × IsFilled c ends ds at h.1.item

  -- one row after a deed
  abbrev Comes : PlantDeed → Transcript → Core → Held Asking → Type 0
  Comes e ds s h =
      ((at : Transcript) × (opened c parent_as h.key.peer h.key.id ds ≡ Some at) × IsFilled c ends (e ∷ ds) at h.item)
      ⊎ ((number_among h.key s.parent.pending.rows ≡ None) × IsFilled c ends (e ∷ ds) (e ∷ ds) h.item)

  is_open : (ds : Transcript) (s : Core) → Holds c n ds s → (h : AskingRow) → In h s.parent.pending.rows → (at : Transcript) × (opened c parent_as h.1.key.peer h.1.key.id ds ≡ Some at)
  is_open ds s held h i =
      let r = row_matched (IsUpperRequest c n h.1.key.peer h.1.key.id) (upper.core h.1.item) (opened c parent_as h.1.key.peer h.1.key.id ds)
      (subst (λ o. Matches (IsUpperRequest c n h.1.key.peer h.1.key.id) o (opened c parent_as h.1.key.peer h.1.key.id ds))
      (seen_in upper.core s.parent.pending.rows h held.parent.names i) (held.asking h.1.key.peer h.1.key.id)) in
      (r.0, r.1)

  not_open : (ds : Transcript) (s : Core) → Holds c n ds s → (h : Held Asking) → number_among h.key s.parent.pending.rows ≡ None → opened c parent_as h.key.peer h.key.id ds ≡ None
  not_open ds s held h none =
      go (opened c parent_as h.key.peer h.key.id ds)
      (subst (λ o. Matches (IsUpperRequest c n h.key.peer h.key.id) o (opened c parent_as h.key.peer h.key.id ds)) (seen_none upper.core h.key s.parent.pending.rows none) (held.asking h.key.peer h.key.id))
    where
      go : (o : Option Transcript) → Matches (IsUpperRequest c n h.key.peer h.key.id) None o → o ≡ None
      go None m = refl
      go (Some at) m = absurd m

  after : (e : PlantDeed) (ds : Transcript) (s t : Core) → Holds c n ds s → Holds c n (e ∷ ds) t → ((h : AskingRow) → In h t.parent.pending.rows → Comes e ds s h.1) → AreGathered (e ∷ ds) t
  after e ds s t held next comes h i =
      let o = is_open (e ∷ ds) t next h i in
      let eff = effect c parent_as h.1.key.peer h.1.key.id e in
      elim (comes h i) [
        | inl old ↦ (old.0, still eff (opened c parent_as h.1.key.peer h.1.key.id ds) (e ∷ ds) old.0 o.0 old.1 o.1, old.2)
        | inr new ↦ (e ∷ ds, begun eff (opened c parent_as h.1.key.peer h.1.key.id ds) (e ∷ ds) o.0 (not_open ds s held h.1 new.0) o.1, new.1)
      ]

  -- rows as before
  stays : (e : PlantDeed) (ds : Transcript) (s : Core) → AreGathered ds s → (h : AskingRow) → In h s.parent.pending.rows → Comes e ds s h.1
  stays e ds s old h i = let x = old h i in inl (x.0, x.1, filled_later c ends e ds x.0 h.1.item x.2)

  stay : (e : PlantDeed) (ds : Transcript) (s t : Core) → t.parent ≡ s.parent → AreGathered ds s → (h : AskingRow) → In h t.parent.pending.rows → Comes e ds s h.1
  stay e ds s t same old h i = stays e ds s old h (subst (λ (k : Parent). In h k.pending.rows) same i)

  -- ---- the parent takes a message

  module _ (ds : Transcript) (s : Core) (held : Holds c n ds s) (old : AreGathered ds s) (q : Peer) where
    -- replies
    module _ (rs : List Reply) (os : List Output) where
      abbrev Q : Held Asking → Type 0
      Q = Comes (Takes parent_as q (messages.PcRep rs) os) ds s

      made : (h : Held Asking) (r : Reply) → In r rs → parent.among q h.item.waits r.id ≡ true → Q h → Q (record h { item = parent.gathered q r.id (told_in c h.item.wanted.query.metric r.answer) h.item })
      made h r i waits (inl x) = inl (x.0, x.1, filled_more c ends q rs os ds x.0 h.item r i x.2)
      made h r i waits (inr x) = inr (x.0, filled_more c ends q rs os ds (Takes parent_as q (messages.PcRep rs) os ∷ ds) h.item r i x.1)

      replies_come : (h : AskingRow) → In h (parent.each (parent.take_reply c q) rs s.parent).parent.pending.rows → Q h.1
      replies_come h i =
          in_rows Q h (parent.each (parent.take_reply c q) rs s.parent).parent.pending.rows
          (rows.replies_keep Q c q rs made s.parent
          (record { rise = held.parent.numbers; rows = rows_in Q s.parent.pending.rows (stays (Takes parent_as q (messages.PcRep rs) os) ds s old) })).rows i

    -- all but requests and replies
    module _ (e : PlantDeed) where
      none_made : (h : Held Asking) (r : Reply) → In r [] → parent.among q h.item.waits r.id ≡ true → Comes e ds s h → Comes e ds s (record h { item = parent.gathered q r.id (told_in c h.item.wanted.query.metric r.answer) h.item })
      none_made h r none waits x = absurd none

      begins : rows.Holds (Comes e ds s) c q [] none_made s.parent
      begins = record { rise = held.parent.numbers; rows = rows_in (Comes e ds s) s.parent.pending.rows (stays e ds s old) }

      others : (k : Parent) → rows.Holds (Comes e ds s) c q [] none_made k → (h : AskingRow) → In h k.pending.rows → Comes e ds s h.1
      others k holds h i = in_rows (Comes e ds s) h k.pending.rows holds.rows i

      pub notices_come : (notices : _) (h : AskingRow) → In h (parent.each (parent.take_notice q) notices s.parent).parent.pending.rows → Comes e ds s h.1
      notices_come notices = others (parent.each (parent.take_notice q) notices s.parent).parent (rows.notices_keep (Comes e ds s) c q [] none_made notices s.parent begins)

      pub reports_come : (reports : _) (h : AskingRow) → In h (parent.each (parent.take_report q) reports s.parent).parent.pending.rows → Comes e ds s h.1
      reports_come reports = others (parent.each (parent.take_report q) reports s.parent).parent (rows.reports_keep (Comes e ds s) c q [] none_made reports s.parent begins)

      pub downed_come : (p : Peer) (h : AskingRow) → In h (parent.downed p s.parent).parent.pending.rows → Comes e ds s h.1
      downed_come p = others (parent.downed p s.parent).parent (rows.downed_keeps (Comes e ds s) c q [] none_made p s.parent begins)

      pub commit_come : (row : AskingRow) (a : _) (h : AskingRow) → In h (parent.commit c row a s.parent).parent.pending.rows → Comes e ds s h.1
      commit_come row a = others (parent.commit c row a s.parent).parent (rows.commit_keeps (Comes e ds s) c q [] none_made row a s.parent begins)

    -- a request
    module _ (m : Message) where
      abbrev Fine : ParentTaken → Type 0
      Fine t = (h : AskingRow) → In h t.parent.pending.rows → Comes (Takes parent_as q m t.outputs) ds s h.1

      pick : (b : Bool) (t u : ParentTaken) → Fine t → Fine u → Fine (cond b t u)
      pick true t u f g = f
      pick false t u f g = g

      same : (os : List Output) → Fine (record { parent = s.parent; outputs = os })
      same os h i = stays (Takes parent_as q m os) ds s old h i

      opens : (flags x : ℕ) (w : Wanted) → number_of s.parent.pending q x ≡ None → Fine (parent.take_path (family n) q flags x w s.parent)
      opens flags x w none h i =
          let asks = parent.ask_all w (all_waits s.parent.pending.rows) (ends w) s.parent.ways in
          let e : PlantDeed = Takes parent_as q m asks.outputs in
          let new : Held Asking = record { key = key_of q x; item = record { flags = flags; wanted = w; waits = asks.waits; rows = [] } } in
          elim (in_append h s.parent.pending.rows _ i) [
            | inl before ↦ stays e ds s old h before
            | inr (inl is) ↦
                subst (λ (y : AskingRow). Comes e ds s y.1) is
                (inr (none, filled_new c ends (e ∷ ds) (e ∷ ds) flags w (all_waits s.parent.pending.rows) s.parent.ways (λ o there. there)))
            | inr (inr never) ↦ absurd never
          ]

      wishes : (flags x : ℕ) (wish : Wish) → number_of s.parent.pending q x ≡ None → Fine (parent.take_wish (family n) q flags x s.parent wish)
      wishes flags x (Expand key pce) none = same _
      wishes flags x (Path w) none =
          pick (is_full s.parent.pending) _ _ (same _) (pick (all_up (family n).children s.parent.ways) _ _ (opens flags x w none) (same _))

      checks : (o : Checked) → Fine (parent.take_checked (family n) q s.parent o)
      checks (Wrong rp kind value) = same _
      checks (Admitted r) = go (number_of s.parent.pending q r.id) refl
        where
          go : (o : Option ℕ) → number_of s.parent.pending q r.id ≡ o → Fine (parent.take_new (family n) q r s.parent o)
          go None none = wishes r.flags r.id r.wish none
          go (Some number) is = same []

    take_comes : (m : Message) → IsSingle m → (h : AskingRow) → In h (parent.take c (family n) q m s.parent).parent.pending.rows → Comes (Takes parent_as q m (parent.take c (family n) q m s.parent).outputs) ds s h.1
    take_comes (messages.PcReq []) one = stays _ ds s old
    take_comes (messages.PcReq (a ∷ [])) one =
        let t = parent.take_asked c (family n) q a s.parent in
        subst (λ (os : List Output). (h : AskingRow) → In h t.parent.pending.rows → Comes (Takes parent_as q (messages.PcReq (a ∷ [])) os) ds s h.1) (sym (nil_right t.outputs))
        (checks (messages.PcReq (a ∷ [])) (c.check a parent_as))
    take_comes (messages.PcReq (a ∷ b ∷ rest)) one = absurd (let none : length (a ∷ b ∷ rest) ≡ 1 = one in omega (arith, none))
    take_comes (messages.PcRep replies) one = replies_come replies _
    take_comes (messages.PcNtf notices) one = notices_come _ notices
    take_comes (messages.PcErr reports) one = reports_come _ reports
    take_comes (messages.Open body) one = stays _ ds s old
    take_comes messages.Keepalive one = stays _ ds s old
    take_comes (messages.Close why) one = stays _ ds s old
    take_comes (messages.Other kind) one = stays _ ds s old

  -- ---- acts

  abbrev Both : Transcript → Core → Type 0
  Both ds s = Holds c n ds s × AreGathered ds s

  comes_of : (s t : Core) (ds : Transcript) (e : PlantDeed) → Does c n s e t → single_deed e → Both ds s → (h : AskingRow) → In h t.parent.pending.rows → Comes e ds s h.1
  comes_of s t ds e (takes_above at p m s' up) one both = λ h i.
      let r = parent.take c (family n) p m s.parent in
      subst (λ (z : As). Comes (Takes z p m r.outputs) ds s h.1) (sym (same_as_is at parent_as up))
      (take_comes ds s both.0 both.1 p m one h (subst (λ (k : Parent). In h k.pending.rows) (puts_parent c n at r.outputs (with_parent Pin Segment c n open_of r.parent s)) i))
  comes_of s t ds e (takes_below at p m s' low heard) one both =
      let r = take c open_of (place n at) (s.current at) p (class_of n p) s.clock m (s.elements at) in
      stay e ds s t (puts_parent c n at r.outputs (with_element Pin Segment c n open_of at r.element s)) both.1
  comes_of s t ds e (downs_above at p s' up) one both = λ h i.
      let r = parent.downed p s.parent in
      downed_come ds s both.0 both.1 p e p h (subst (λ (k : Parent). In h k.pending.rows) (puts_parent c n at r.outputs (with_parent Pin Segment c n open_of r.parent s)) i)
  comes_of s t ds e (downs_below at p s' low) one both = let r = downed p (s.elements at) in stay e ds s t (puts_parent c n at r.outputs (with_element Pin Segment c n open_of at r.element s)) both.1
  comes_of s t ds e (ups_above at p s' up) one both = λ h i. stays e ds s both.1 h i
  comes_of s t ds e (ups_below at p s' low) one both = stay e ds s t refl both.1
  comes_of s t ds e (solves_above k h s' x) one both = λ g i.
      let r = parent.commit c (k, x.held) x.answer s.parent in
      commit_come ds s both.0 both.1 x.held.key.peer e (k, x.held) x.answer g (subst (λ (z : Parent). In g z.pending.rows) (puts_parent c n parent_as r.outputs (with_parent Pin Segment c n open_of r.parent s)) i)
  comes_of s t ds e (solves_below d k h s' x) one both =
      let r = commit c (place n d) (k, x.held) x.down s.clock (λ b. b.segment) (job_found x.rows.source_known x.rows.target_known x.rows.best) (s.elements d) in
      stay e ds s t (puts_parent c n d r.outputs (with_element Pin Segment c n open_of d r.element s)) both.1
  comes_of s t ds e (says_own at p o s') one both = stay e ds s t (puts_parent c n at (record { to = p; message = own_message o } ∷ []) s) both.1
  comes_of s t ds e _ one both = stay e ds s t refl both.1

  both_same : (ds : Transcript) (s t : Core) → t.elements ≡ s.elements → t.parent ≡ s.parent → t.current ≡ s.current → Both ds s → Both ds t
  both_same ds s t elements above current both = (holds_same c n ds s t elements above current both.0, λ h i. both.1 h (subst (λ (k : Parent). In h k.pending.rows) above i))

  does_both : (ds : Transcript) (s t : Core) (e : PlantDeed) → Does c n s e t → single_deed e → Both ds s → Both (e ∷ ds) t
  does_both ds s t e does one both =
      let next = does_hold c n ds s t e does one both.0 in
      (next, after e ds s t both.0 next (comes_of s t ds e does one both))

  pub run_gathers : (es : List Entry) (s : Plant) → Run c n es s → AreSingle (deeds_of c n es) → AreGathered (deeds_of c n es) s
  run_gathers es s run single = (run_singles c n Both both_same does_both (λ z. (bare_holds c n z, (λ h none. absurd none))) es s run single).1

-- ---- what is ready

module _ (c : Codec) (codec : IsCodec c) (n : NetworkParts) (es : List Entry) (s : Plant) (run : Run c n es s) (written : AllSent IsWritten (deeds_of c n es)) where
  abbrev now : Transcript
  now = deeds_of c n es

  one_taken : (b : As) (rs : List Reply) (os : List Output) (before : Transcript) → Within (Takes parent_as (Inner b) (messages.PcRep rs) os ∷ before) now → length rs ≡ 1
  one_taken b rs os before w =
      let q = (messages_are_read c codec n es s run written).queues b parent_as (messages.PcRep rs) os before w in
      let x : Standing = record { message = messages.PcRep rs; put = q.put } in
      let before_now : Within before now = within_tail (Takes parent_as (Inner b) (messages.PcRep rs) os) before now w in
      let older_now : Within q.before now = within_tail _ q.before now (subst (λ (t : Transcript). Within t now) q.is_popped before_now) in
      standing_sent IsOneReply b parent_as q.before x (sent_within IsOneReply q.before now older_now (sent_one c n es s run)) (subst (λ (l : List Standing). In x l) (sym q.stood) (inl refl))

  alone : (b : As) (id : ℕ) (r : Reply) (t : Took now b id r) → Within (Takes parent_as (Inner b) (messages.PcRep (r ∷ [])) t.os ∷ t.older) now
  alone b id r t =
      subst (λ (l : List Reply). Within (Takes parent_as (Inner b) (messages.PcRep l) t.os ∷ t.older) now) (the_one t.replies r (one_taken b t.replies t.os t.older t.within) t.is_reply) t.within

  none_waits : (ws : List Wait) → elim ws as (λ w. Bool) [ [] ↦ true | w ∷ rest ↦ false ] ≡ true → (v : Wait) → In v ws → ⊥
  none_waits [] ready v none = none
  none_waits (w ∷ ws) ready v i = let clash : false ≡ true = ready in cc

  pub has_gathered : (h : AskingRow) → Contains s.parent.pending.rows h → is_ready h.1.item ≡ true → HasGathered c n now h
  has_gathered h i ready =
      let x = run_gathers c n es s run (run_single c n codec es s run written) h (in_of h s.parent.pending.rows i) in
      let f = x.2 in
      record {
        at = x.0;
        is_open = x.1;
        each = λ row there. (let g = f.rows row there in record { reply = g.reply; sent = g.sent; os = g.took.os; older = g.took.older; within = alone row.at g.reply.id g.reply g.took; is_row = g.is_row });
        every = λ end there. elim (f.every end there) [
          | inl waits ↦ absurd (none_waits h.1.item.waits ready waits.0 waits.1)
          | inr g ↦ record { reply = g.reply; sent = g.sent; os = g.took.os; older = g.took.older; within = alone end.child g.reply.id g.reply g.took; all = g.all }
        ];
      }
