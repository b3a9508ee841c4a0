-- What holds of the parent holds after it takes a message and after a job is answered, where it does after each change that these
-- make: a request ends, gathers the rows of a reply, or is opened.
use Rattle.std.proofs.Common.{◌≡◌, ℕ, Bool, true, false, cond, ◌==◌, List, [], ◌∷◌, Option, Some, None, subst, inl, inr, refl}
use Rattle.plant_model.specs.Types.{Peer, Message, Asked, Reply, Notice, ErrorReport, Answer, Request, Wanted, Wish}
use Rattle.pcep_messages.specs.declared.message.Message.TheVariants as messages
use Rattle.pcep_messages.specs.declared.message.Answer.TheVariants.{Paths, NoPath}
use Rattle.pcep_messages.specs.declared.message.Wish.TheVariants.{Path, Expand}
use Rattle.request_table.specs.Pending.{number_of, is_full}
use Rattle.request_table.specs.Lends.{written_of}
use Rattle.plant_text.specs.Names.{parent_as}
use Rattle.plant_model.specs.Names.{has_pair}
use Rattle.plant_model.specs.Wire.{Codec, Checked, Admitted, Wrong}
use Rattle.plant_model.specs.Writing.{reply_message, unavailable, busy}
use Rattle.plant_model.specs.Taking.{error_answer}
use Rattle.plant_model.specs.BorderGraph.{Found}
use Rattle.plant_model.specs.Parent.{AskingRow, Parent, Family, ParentTaken, each, among, all_up, waiting, gathered, answered, ended, take_path, take_wish, take_new, take_checked, take_asked, take_answer, take_found, take_reply, told_busy, cancelled, take_busy, take_cancel, notice_steps, take_notice, told_error, take_failure, take_errors, take_report, take, commit}
use Rattle.plant_laws.specs.About.{told_in}
use Rattle.plant_laws.proofs.Runs.Rows.{In}
use Rattle.plant_laws.proofs.Runs.TakesKept.{replies_of}

-- the row that is found waits
pub found_in : (p : Peer) (y : ℕ) (hs : List AskingRow) (h : AskingRow) → waiting p y hs ≡ Some h → In h hs × (among p h.1.item.waits y ≡ true)
found_in p y [] h e = absurd (differ e)
  where
    differ : ◌≡◌ {A = Option AskingRow} None (Some h) → ⊥
    differ e' = cc
found_in p y (x ∷ xs) h e = go (among p x.1.item.waits y) refl (λ e'. found_in p y xs h e') e
  where
    go : (b : Bool) → among p x.1.item.waits y ≡ b → (waiting p y xs ≡ Some h → In h xs × (among p h.1.item.waits y ≡ true)) → cond b (Some x) (waiting p y xs) ≡ Some h →
        In h (x ∷ xs) × (among p h.1.item.waits y ≡ true)
    go true is more e' = let same : x ≡ h = cc in (inl same, subst (λ (z : AskingRow). among p z.1.item.waits y ≡ true) same is)
    go false is more e' = let rest = more e' in (inr rest.0, rest.1)

module _ (Holds : Parent → Type 0) where
  -- a request ends
  abbrev pub KeptAtEnds : Type 0
  KeptAtEnds = (n : ℕ) (k : Parent) → Holds k → Holds (ended n k)

  -- a request gathers the rows of one of these replies
  abbrev pub KeptAtReplies : Codec → Peer → List Reply → Type 0
  KeptAtReplies c p replies = (r : Reply) (h : AskingRow) (k : Parent) → In r replies → waiting p r.id k.pending.rows ≡ Some h → Holds k →
      Holds (record k { pending = written_of k.pending h.0 (gathered p r.id (told_in c h.1.item.wanted.query.metric r.answer) h.1.item) })

  -- a request is opened
  abbrev pub KeptAtNew : Family → Peer → Type 0
  KeptAtNew f p = (flags x : ℕ) (w : Wanted) (k : Parent) → Holds k → Holds (take_path f p flags x w k).parent

  abbrev After : ParentTaken → Type 0
  After t = Holds t.parent

  pick : (b : Bool) (t u : ParentTaken) → After t → After u → After (cond b t u)
  pick true t u h k = h
  pick false t u h k = k

  each_after : {X : Type 0} (f : X → Parent → ParentTaken) → ((x : X) (k : Parent) → Holds k → After (f x k)) → (xs : List X) (k : Parent) → Holds k → After (each f xs k)
  each_after f one [] k h = h
  each_after f one (x ∷ xs) k h = each_after f one xs (f x k).parent (one x k h)

  module _ (ends : KeptAtEnds) where
    answered_after : (h : AskingRow) (m : Message) (k : Parent) → Holds k → After (answered h m k)
    answered_after h m k holds = ends h.0 k holds

    -- ---- replies, notices and errors

    module _ (c : Codec) (p : Peer) (replies : List Reply) (gathers : KeptAtReplies c p replies) where
      answer_after : (h : AskingRow) (r : Reply) → In r replies → (a : Answer) → r.answer ≡ a → (k : Parent) → waiting p r.id k.pending.rows ≡ Some h → Holds k → After (take_answer c p r.id h k a)
      answer_after h r i (Paths ps) at k found holds =
          subst (λ (a : Answer). Holds (record k { pending = written_of k.pending h.0 (gathered p r.id (told_in c h.1.item.wanted.query.metric a) h.1.item) })) at (gathers r h k i found holds)
      answer_after h r i (NoPath nature vector) at k found holds =
          pick (nature == 0) _ _
          (subst (λ (a : Answer). Holds (record k { pending = written_of k.pending h.0 (gathered p r.id (told_in c h.1.item.wanted.query.metric a) h.1.item) })) at (gathers r h k i found holds))
          (answered_after h (reply_message h.1.item.flags h.1.key.id unavailable) k holds)

      reply_after : (r : Reply) → In r replies → (k : Parent) → Holds k → After (take_reply c p r k)
      reply_after r i k holds = go (waiting p r.id k.pending.rows) refl
        where
          go : (o : Option AskingRow) → waiting p r.id k.pending.rows ≡ o → After (take_found c p r k o)
          go None is = holds
          go (Some row) is = answer_after row r i r.answer refl k is holds

      some_after : (rs : List Reply) → ((r : Reply) → In r rs → In r replies) → (k : Parent) → Holds k → After (each (take_reply c p) rs k)
      some_after [] within k holds = holds
      some_after (r ∷ rs) within k holds = some_after rs (λ x i. within x (inr i)) (take_reply c p r k).parent (reply_after r (within r (inl refl)) k holds)

      pub replies_after : (k : Parent) → Holds k → After (each (take_reply c p) replies k)
      replies_after k holds = some_after replies (λ r i. i) k holds

    module _ (p : Peer) where
      busy_after : (rp : ℕ × ℕ) (k : Parent) → Holds k → After (take_busy p rp k)
      busy_after rp k holds = go (waiting p rp.1 k.pending.rows)
        where
          go : (o : Option AskingRow) → After (told_busy k o)
          go None = holds
          go (Some row) = answered_after row (busy row.1.item.flags row.1.key.id) k holds

      cancel_after : (rp : ℕ × ℕ) (k : Parent) → Holds k → After (take_cancel p rp k)
      cancel_after rp k holds = go (number_of k.pending p rp.1)
        where
          go : (o : Option ℕ) → After (cancelled k o)
          go None = holds
          go (Some number) = ends number k holds

      steps_after : (rp : ℕ × ℕ) (kinds : List (ℕ × ℕ)) (k : Parent) → Holds k → After (each (λ (step : Peer → ℕ × ℕ → Parent → ParentTaken). step p rp) (notice_steps kinds) k)
      steps_after rp kinds k holds = go (has_pair 1 2 kinds) (has_pair 1 1 kinds)
        where
          go : (b a : Bool) → After (each (λ (step : Peer → ℕ × ℕ → Parent → ParentTaken). step p rp) (cond b (cond a (take_busy ∷ take_cancel ∷ []) (take_busy ∷ [])) (cond a (take_cancel ∷ []) [])) k)
          go true true = cancel_after rp (take_busy p rp k).parent (busy_after rp k holds)
          go true false = busy_after rp k holds
          go false true = cancel_after rp k holds
          go false false = holds

      pub notices_after : (notices : List Notice) (k : Parent) → Holds k → After (each (take_notice p) notices k)
      notices_after notices k holds =
          each_after (take_notice p) (λ r k' h'. each_after (λ (rp : ℕ × ℕ). each (λ (step : Peer → ℕ × ℕ → Parent → ParentTaken). step p rp) (notice_steps r.kinds)) (λ rp k'' h''. steps_after rp r.kinds k'' h'') r.ids k' h') notices k holds

      failure_after : (e : ℕ × ℕ) (rp : ℕ × ℕ) (k : Parent) → Holds k → After (take_failure e k (waiting p rp.1 k.pending.rows))
      failure_after e rp k holds = go (waiting p rp.1 k.pending.rows)
        where
          told : (row : AskingRow) (ms : List Message) → After (told_error row k ms)
          told row [] = holds
          told row (m ∷ ms) = answered_after row m k holds

          go : (o : Option AskingRow) → After (take_failure e k o)
          go None = holds
          go (Some row) = told row (error_answer e row.1.item.flags row.1.key.id)

      errors_after : (ids errors : List (ℕ × ℕ)) (k : Parent) → Holds k → After (take_errors p ids errors k)
      errors_after ids [] k holds = holds
      errors_after ids (e ∷ es) k holds = each_after (λ (rp : ℕ × ℕ) k'. take_failure e k' (waiting p rp.1 k'.pending.rows)) (failure_after e) ids k holds

      pub reports_after : (reports : List ErrorReport) (k : Parent) → Holds k → After (each (take_report p) reports k)
      reports_after reports k holds = each_after (take_report p) (λ r k' h'. errors_after r.ids r.errors k' h') reports k holds

    -- ---- requests

    module _ (c : Codec) (f : Family) (p : Peer) (new : KeptAtNew f p) where
      wish_after : (flags x : ℕ) (k : Parent) (w : Wish) → Holds k → After (take_wish f p flags x k w)
      wish_after flags x k (Expand key pce) holds = holds
      wish_after flags x k (Path w) holds = pick (is_full k.pending) _ _ holds (pick (all_up f.children k.ways) _ _ (new flags x w k holds) holds)

      asked_after : (a : Asked) (k : Parent) → Holds k → After (take_asked c f p a k)
      asked_after a k holds = go (c.check a parent_as)
        where
          fresh : (r : Request) (o : Option ℕ) → After (take_new f p r k o)
          fresh r None = wish_after r.flags r.id k r.wish holds
          fresh r (Some number) = holds

          go : (o : Checked) → After (take_checked f p k o)
          go (Wrong rp kind value) = holds
          go (Admitted r) = fresh r (number_of k.pending p r.id)

      pub take_after : (m : Message) → KeptAtReplies c p (replies_of m) → (k : Parent) → Holds k → After (take c f p m k)
      take_after (messages.PcReq asks) gathers k holds = each_after (take_asked c f p) asked_after asks k holds
      take_after (messages.PcRep replies) gathers k holds = replies_after c p replies gathers k holds
      take_after (messages.PcNtf notices) gathers k holds = notices_after p notices k holds
      take_after (messages.PcErr reports) gathers k holds = reports_after p reports k holds
      take_after (messages.Open body) gathers k holds = holds
      take_after messages.Keepalive gathers k holds = holds
      take_after (messages.Close why) gathers k holds = holds
      take_after (messages.Other kind) gathers k holds = holds

    pub commit_after : (c : Codec) (h : AskingRow) (a : Option Found) (k : Parent) → Holds k → After (commit c h a k)
    commit_after c h None k holds = ends h.0 k holds
    commit_after c h (Some a) k holds = ends h.0 k holds
