-- What an element's taking of replies, notices and errors, its answer to a job, and the fall of a peer leave of its requests.
use Rattle.std.proofs.Common.{◌≡◌, ℕ, Bool, true, false, cond, ◌==◌, nat_lt, Option, Some, None, List, [], ◌∷◌, length, inl, inr, ◌∙◌, ap, subst, refl}
use Rattle.std.proofs.lemmas.Bool.{cases_Bool}
use Rattle.plant_model.specs.Types.{Peer, Message, Reply, Notice, ErrorReport, Answer, RequestKey, Best, Branch}
use Rattle.pcep_messages.specs.declared.message.Answer.TheVariants.{Paths, NoPath}
use Rattle.request_table.specs.Pending.{ArePending, key_of, same_peer, same_key, number_of}
use Rattle.plant_model.specs.Names.{the_parent, has_pair}
use Rattle.plant_model.specs.Wire.{Codec}
use Rattle.plant_model.specs.Writing.{reply_message, busy, unavailable, no_path}
use Rattle.plant_model.specs.Branches.{open_branch, path_of}
use Rattle.plant_model.specs.Element.{Ready, Item, Row, Element, ElementSettings, Taken, silent, each, at_stage, waits_for, waits_on, waiting, downed, is_client}
use Rattle.plant_model.specs.Taking as taking
use Rattle.plant_model.specs.Solving.{commit, client_reply, closed_reply, closed_paths, issued_all, free, job_found}
use Rattle.plant_laws.specs.Transcript.{answers_to, has_id, cancels}
use Rattle.plant_laws.proofs.Runs.Seen.{seen, ended_if}
use Rattle.plant_laws.proofs.Runs.Rows.{In, seen_kept, filtered_pending}
use Rattle.plant_laws.proofs.Once.TableSteps.{any_by, AnswersOnly, reply_answers, busy_answers, failure_answers, unknown_answers, IsStep, nobody, no_step, say_step, then_step, answer_step, stage_step, cancel_step, cancel_none}

-- the request of an item, whatever its stage
abbrev pub core : {P : Type 0} → Item P → Item P
core i = at_stage (Ready []) i

pub any_none : {X : Type 0} (xs : List X) → any_by (λ (x : X). false) xs ≡ false
any_none [] = refl
any_none (x ∷ xs) = any_none xs

any_if : {X : Type 0} (b : Bool) (t : X → Bool) (xs : List X) → any_by (λ (x : X). cond b (t x) false) xs ≡ cond b (any_by t xs) false
any_if true t xs = refl
any_if false t xs = any_none xs

same_ids : (p : Peer) (key : RequestKey) (ids : List (ℕ × ℕ)) → any_by (λ (rp : ℕ × ℕ). same_key (key_of p rp.1) key) ids ≡ cond (same_peer p key.peer) (has_id key.id ids) false
same_ids p key [] = elim (cases_Bool (same_peer p key.peer)) [ inl own ↦ rw own refl | inr other ↦ rw other refl ]
same_ids p key (rp ∷ ids) =
    rw (same_ids p key ids) (elim (cases_Bool (same_peer p key.peer)) [ inl own ↦ rw own refl | inr other ↦ rw other refl ])

-- what a notice cancels
abbrev pub gone_by : Peer → Notice → RequestKey → Bool
gone_by p n key = any_by (λ (rp : ℕ × ℕ). cond (has_pair 1 1 n.kinds) (same_key (key_of p rp.1) key) false) n.ids

pub gone_is : (p : Peer) (key : RequestKey) (ns : List Notice) → any_by (λ (n : Notice). gone_by p n key) ns ≡ cond (same_peer p key.peer) (cancels key.id ns) false
gone_is p key [] = elim (cases_Bool (same_peer p key.peer)) [ inl own ↦ rw own refl | inr other ↦ rw other refl ]
gone_is p key (n ∷ ns) =
    rw (gone_is p key ns, any_if (has_pair 1 1 n.kinds) (λ (rp : ℕ × ℕ). same_key (key_of p rp.1) key) n.ids, same_ids p key n.ids)
    (go (has_pair 1 1 n.kinds) (same_peer p key.peer) (has_id key.id n.ids) (cancels key.id ns))
  where
    go : (k s i r : Bool) → cond (cond k (cond s i false) false) true (cond s r false) ≡ cond s (cond k (cond i true r) r) false
    go true true true r = refl
    go true true false r = refl
    go true false i r = refl
    go false s i r = refl

module _ (P : Type 0) (S : Type 0) where
  abbrev pub Steps : Element P S → Taken P S → (RequestKey → Bool) → Type 0
  Steps k t gone = IsStep (core {P = P}) k.pending t.element.pending gone t.outputs

  pub each_step : {X : Type 0} (f : X → Element P S → Taken P S) (g : X → RequestKey → Bool) → ((x : X) (k : Element P S) → ArePending k.pending → Steps k (f x k) (g x)) →
      (xs : List X) (k : Element P S) → ArePending k.pending → Steps k (each f xs k) (λ key. any_by (λ x. g x key) xs)
  each_step f g one [] k are = no_step core k.pending are
  each_step f g one (x ∷ xs) k are =
      let first = one x k are in
      let rest = each_step f g one xs (f x k).element first.pending in
      then_step core k.pending (f x k).element.pending (each f xs (f x k).element).element.pending (g x) (λ key. any_by (λ y. g y key) xs) (f x k).outputs (each f xs (f x k).element).outputs first rest

  regone : (k : Element P S) (t : Taken P S) (f g : RequestKey → Bool) → ((key : RequestKey) → f key ≡ g key) → Steps k t f → Steps k t g
  regone k t f g same s = record { pending = s.pending; limit = s.limit; table = λ key. s.table key ∙ ap (λ b. ended_if b (answers_to key.peer key.id t.outputs) (seen core key k.pending.rows)) (same key) }

  pub waiting_in : (p : Peer) (y : ℕ) (rows : List (Row P)) (h : Row P) → waiting p y rows ≡ Some h → In h rows × (waits_for p y h.1.item.stage ≡ true)
  waiting_in p y [] h e = absurd (let no : None ≡ Some h = e in cc)
  waiting_in p y (row ∷ rows) h e =
      elim (cases_Bool (waits_for p y row.1.item.stage)) [
        | inl hit ↦
            let at : Some row ≡ Some h = rw hit at e in
            let is : row ≡ h = cc in
            (inl is, subst (λ (r : Row P). waits_for p y r.1.item.stage ≡ true) is hit)
        | inr miss ↦ let r = waiting_in p y rows h (rw miss at e) in (inr r.0, r.1)
      ]

  abbrev pub IsHeld : Element P S → Option (Row P) → Type 0
  IsHeld k o = (h : Row P) → o ≡ Some h → In h k.pending.rows

  held : (p : Peer) (y : ℕ) (k : Element P S) → IsHeld k (waiting p y k.pending.rows)
  held p y k h e = (waiting_in p y k.pending.rows h e).0

  pub answered_step : (h : Row P) (m : Message) (k : Element P S) → ArePending k.pending → In h k.pending.rows → AnswersOnly h.1.key.id m → Steps k (taking.answered h m k) nobody
  answered_step h m k are there only = answer_step core k.pending h m are there only

  -- replies
  ready_step : (c : Codec) (h : Row P) (a : Answer) (k : Element P S) → ArePending k.pending → In h k.pending.rows → Steps k (taking.made_ready c h a k) nobody
  ready_step c h (Paths ps) k are there = stage_step core k.pending h (at_stage _ h.1.item) are there refl
  ready_step c h (NoPath nature vector) k are there = go (nature == 0)
    where
      go : (b : Bool) → Steps k (cond b (silent (taking.staged h (Ready []) k)) (taking.answered h (reply_message h.1.item.flags h.1.key.id unavailable) k)) nobody
      go true = stage_step core k.pending h (at_stage (Ready []) h.1.item) are there refl
      go false = answered_step h _ k are there (reply_answers h.1.item.flags h.1.key.id unavailable)

  reply_step : (c : Codec) (p : Peer) (r : Reply) (k : Element P S) → ArePending k.pending → Steps k (taking.take_reply c p r k) nobody
  reply_step c p r k are = go (waiting p r.id k.pending.rows) (held p r.id k)
    where
      pick : (b : Bool) (t u : Taken P S) → Steps k t nobody → Steps k u nobody → Steps k (cond b t u) nobody
      pick true t u x y = x
      pick false t u x y = y

      go : (o : Option (Row P)) → IsHeld k o → Steps k (taking.take_answer c p r k o) nobody
      go None there = say_step core k.pending _ are (λ key. unknown_answers p key.peer (r.flags, r.id) key.id)
      go (Some h) there =
          pick (same_peer p the_parent) _ _
          (answered_step h _ k are (there h refl) (reply_answers h.1.item.flags h.1.key.id r.answer))
          (ready_step c h r.answer k are (there h refl))

  pub replies_step : (c : Codec) (p : Peer) (rs : List Reply) (k : Element P S) → ArePending k.pending → Steps k (each (taking.take_reply c p) rs k) nobody
  replies_step c p rs k are = regone k (each (taking.take_reply c p) rs k) (λ key. any_by (λ (r : Reply). false) rs) nobody (λ key. any_none rs) (each_step (taking.take_reply c p) (λ r. nobody) (λ r k are. reply_step c p r k are) rs k are)

  -- notices
  busy_step : (p : Peer) (rp : ℕ × ℕ) (k : Element P S) → ArePending k.pending → Steps k (taking.take_busy p rp k) nobody
  busy_step p rp k are = go (waiting p rp.1 k.pending.rows) (held p rp.1 k)
    where
      go : (o : Option (Row P)) → IsHeld k o → Steps k (taking.told_busy k o) nobody
      go None there = no_step core k.pending are
      go (Some h) there = answered_step h _ k are (there h refl) (busy_answers h.1.item.flags h.1.key.id)

  cancels_step : (p : Peer) (rp : ℕ × ℕ) (k : Element P S) → ArePending k.pending → Steps k (taking.take_cancel p rp k) (same_key (key_of p rp.1))
  cancels_step p rp k are = go (number_of k.pending p rp.1) refl
    where
      go : (o : Option ℕ) → number_of k.pending p rp.1 ≡ o → Steps k (taking.cancelled k o) (same_key (key_of p rp.1))
      go None e = cancel_none core k.pending p rp.1 are e
      go (Some number) e = cancel_step core k.pending p rp.1 number are e

  abbrev Step : Type 0
  Step = Peer → ℕ × ℕ → Element P S → Taken P S

  id_step : (p : Peer) (kinds : List (ℕ × ℕ)) (rp : ℕ × ℕ) (k : Element P S) → ArePending k.pending →
      Steps k (each (λ (step : Step). step p rp) (taking.notice_steps kinds) k) (λ key. cond (has_pair 1 1 kinds) (same_key (key_of p rp.1) key) false)
  id_step p kinds rp k are = go (has_pair 1 2 kinds) (has_pair 1 1 kinds)
    where
      last : (k : Element P S) → ArePending k.pending → Steps k (each (λ (step : Step). step p rp) (taking.take_cancel ∷ []) k) (same_key (key_of p rp.1))
      last k are =
          let one = cancels_step p rp k are in
          let t = taking.take_cancel p rp k in
          regone k (each (λ (step : Step). step p rp) (taking.take_cancel ∷ []) k) (λ key. cond (same_key (key_of p rp.1) key) true false) (same_key (key_of p rp.1))
          (λ key. elim (cases_Bool (same_key (key_of p rp.1) key)) [ inl own ↦ rw own refl | inr other ↦ rw other refl ])
          (then_step core k.pending t.element.pending t.element.pending (same_key (key_of p rp.1)) nobody t.outputs [] one (no_step core t.element.pending one.pending))

      first : (rest : List Step) (g : RequestKey → Bool) → ((k : Element P S) → ArePending k.pending → Steps k (each (λ (step : Step). step p rp) rest k) g) → Steps k (each (λ (step : Step). step p rp) (taking.take_busy ∷ rest) k) g
      first rest g more =
          let one = busy_step p rp k are in
          let t = taking.take_busy p rp k in
          let u = each (λ (step : Step). step p rp) rest t.element in
          then_step core k.pending t.element.pending u.element.pending nobody g t.outputs u.outputs one (more t.element one.pending)

      go : (a b : Bool) → Steps k
          (each (λ (step : Step). step p rp) (cond a (cond b (taking.take_busy ∷ taking.take_cancel ∷ []) (taking.take_busy ∷ [])) (cond b (taking.take_cancel ∷ []) [])) k)
          (λ key. cond b (same_key (key_of p rp.1) key) false)
      go true true = first (taking.take_cancel ∷ []) (same_key (key_of p rp.1)) last
      go true false = first [] nobody (λ k are. no_step core k.pending are)
      go false true = last k are
      go false false = no_step core k.pending are

  pub notices_step : (p : Peer) (ns : List Notice) (k : Element P S) → ArePending k.pending → Steps k (each (taking.take_notice p) ns k) (λ key. any_by (λ (n : Notice). gone_by p n key) ns)
  notices_step p ns k are =
      each_step (taking.take_notice p) (gone_by p)
      (λ n k are. each_step (λ (rp : ℕ × ℕ). each (λ (step : Step). step p rp) (taking.notice_steps n.kinds)) (λ rp key. cond (has_pair 1 1 n.kinds) (same_key (key_of p rp.1) key) false)
      (λ rp k are. id_step p n.kinds rp k are) n.ids k are) ns k are

  -- errors
  failure_step : (p : Peer) (e : ℕ × ℕ) (rp : ℕ × ℕ) (k : Element P S) → ArePending k.pending → Steps k (taking.take_failure e k (waiting p rp.1 k.pending.rows)) nobody
  failure_step p e rp k are = go (waiting p rp.1 k.pending.rows) (held p rp.1 k)
    where
      told : (h : Row P) → In h k.pending.rows → (ms : List Message) → ((m : Message) → In m ms → AnswersOnly h.1.key.id m) → Steps k (taking.told_error h k ms) nobody
      told h there [] only = no_step core k.pending are
      told h there (m ∷ ms) only = answered_step h m k are there (only m (inl refl))

      go : (o : Option (Row P)) → IsHeld k o → Steps k (taking.take_failure e k o) nobody
      go None there = no_step core k.pending are
      go (Some h) there = told h (there h refl) (taking.error_answer e h.1.item.flags h.1.key.id) (failure_answers e h.1.item.flags h.1.key.id)

  report_step : (p : Peer) (r : ErrorReport) (k : Element P S) → ArePending k.pending → Steps k (taking.take_report p r k) nobody
  report_step p r k are = go r.errors
    where
      go : (es : List (ℕ × ℕ)) → Steps k (taking.take_errors p r.ids es k) nobody
      go [] = no_step core k.pending are
      go (e ∷ es) =
          regone k (each (λ (rp : ℕ × ℕ) k. taking.take_failure e k (waiting p rp.1 k.pending.rows)) r.ids k) (λ key. any_by (λ (rp : ℕ × ℕ). false) r.ids) nobody (λ key. any_none r.ids)
          (each_step (λ (rp : ℕ × ℕ) k. taking.take_failure e k (waiting p rp.1 k.pending.rows)) (λ rp. nobody) (λ rp k are. failure_step p e rp k are) r.ids k are)

  pub reports_step : (p : Peer) (rs : List ErrorReport) (k : Element P S) → ArePending k.pending → Steps k (each (taking.take_report p) rs k) nobody
  reports_step p rs k are = regone k (each (taking.take_report p) rs k) (λ key. any_by (λ (r : ErrorReport). false) rs) nobody (λ key. any_none rs) (each_step (taking.take_report p) (λ r. nobody) (λ r k are. report_step p r k are) rs k are)

  -- a job is answered
  pub commit_step : (c : Codec) (e : ElementSettings) (h : Row P) (down : List Branch) (now : ℕ) (stands : Best → S) (s t : Bool) (best : List Best) (k : Element P S) → ArePending k.pending → In h k.pending.rows →
      Steps k (commit c e h down now stands (job_found s t best) k) nobody
  commit_step c e h down now stands s t best k are there = go (is_client h.1.item.class)
    where
      client : (best : List Best) → Steps k (taking.answered h (client_reply c h down s t best) k) nobody
      client [] = answered_step h (client_reply c h down s t []) k are there (reply_answers h.1.item.flags h.1.key.id (no_path s t))
      client (b ∷ bs) =
          answered_step h (client_reply c h down s t (b ∷ bs)) k are there
          (reply_answers h.1.item.flags h.1.key.id (Paths (path_of c h.1.item.wanted.query.metric b.cost (open_branch b down) ∷ [])))

      closed : (best : List Best) → Steps k (closed_reply c e h down now stands k best) nobody
      closed [] = answered_step h (reply_message h.1.item.flags h.1.key.id (NoPath 0 0)) k are there (reply_answers h.1.item.flags h.1.key.id (NoPath 0 0))
      closed (b ∷ bs) = pick (nat_lt (free now k.keys) (length (b ∷ bs)))
        where
          pick : (x : Bool) → Steps k (cond x
              (taking.answered h (busy h.1.item.flags h.1.key.id) k)
              (taking.answered h
              (reply_message h.1.item.flags h.1.key.id (Paths (closed_paths c e.id h.1.item.wanted.query.metric h.1.item.wanted.target down k.keys.next (b ∷ bs))))
              (record k { keys = issued_all now stands (b ∷ bs) k.keys }))) nobody
          pick true = answered_step h (busy h.1.item.flags h.1.key.id) k are there (busy_answers h.1.item.flags h.1.key.id)
          pick false =
              let a : Answer = Paths (closed_paths c e.id h.1.item.wanted.query.metric h.1.item.wanted.target down k.keys.next (b ∷ bs)) in
              answer_step core k.pending h (reply_message h.1.item.flags h.1.key.id a) are there (reply_answers h.1.item.flags h.1.key.id a)

      go : (b : Bool) → Steps k (cond b (taking.answered h (client_reply c h down s t best) k) (closed_reply c e h down now stands k best)) nobody
      go true = client best
      go false = closed best

  -- a peer goes down
  pub downed_step : (p : Peer) (k : Element P S) → ArePending k.pending → Steps k (downed p k) (λ key. same_peer p key.peer)
  downed_step p k are = record {
    pending = filtered_pending _ k.pending are;
    limit = refl;
    table = λ key. seen_kept p (λ (i : Item P). waits_on p i.stage) (λ (i : Item P). i.flags) core key k.pending.rows are.names;
  }
