-- What the parent says to a message has at most one answer to a pending request, which it takes away.
use Rattle.std.proofs.Common.{◌≡◌, ◌+◌, ◌≤◌, ◌==◌, nat_eq, ℕ, Bool, true, false, cond, List, [], ◌∷◌, ◌++◌, map, Option, Some, None, ◌∙◌, ap, inl, inr, refl, arith}
use Rattle.std.proofs.lemmas.Bool.{cases_Bool}
use Rattle.plant_model.specs.Types.{Peer, Inner, Asked, Answer, Message, Request, Reply, Wanted, Wish, Branch}
use Rattle.pcep_messages.specs.declared.message.Answer.TheVariants.{Paths, NoPath}
use Rattle.pcep_messages.specs.declared.message.Message.TheVariants as messages
use Rattle.pcep_messages.specs.declared.message.Wish.TheVariants.{Path, Expand}
use Rattle.request_table.specs.Pending.{ArePending, same_peer, same_key, key_of, number_of, is_full}
use Rattle.plant_model.specs.Names.{has_pair}
use Rattle.plant_model.specs.Wire.{Codec, Checked, Admitted, Wrong}
use Rattle.plant_model.specs.Writing.{error_message, reply_message, unavailable, busy, no_key, no_path}
use Rattle.plant_model.specs.Branches.{branches_in, path_of}
use Rattle.plant_model.specs.Element.{Way, lost_output, with_last}
use Rattle.plant_model.specs.Taking.{error_answer}
use Rattle.plant_model.specs.BorderGraph.{Found}
use Rattle.plant_model.specs.Parent.{Wait, AskingRow, Parent, Family, ParentTaken, Errand, silent, only, each, errands, ask_all, all_waits, next_id, among, waiting, all_up, take, take_asked, take_checked, take_new, take_wish, take_path, answered, gathered, gathers, take_answer, take_found, take_reply, take_busy, take_cancel, told_busy, cancelled, take_notice, notice_steps, take_report, take_errors, take_failure, told_error, commit, downed, lost, is_lost, stays}
use Rattle.plant_laws.proofs.Once.Besides.{besides_asking}
use Rattle.plant_laws.specs.Transcript.{one_if, count_answers, answers_to}
use Rattle.plant_laws.proofs.Once.Handing.{In}
use Rattle.plant_laws.proofs.Runs.Rows.{filtered_pending}
use Rattle.plant_laws.proofs.Once.RowCounts.{count, count_once, one_if_le, removed, removed_less, rewritten, ended_pending, item_pending, begun_pending}
use Rattle.plant_laws.proofs.Once.Counting.{answers_append, AnswersAt, reply_at, busy_at, error_at, one_answer, IsFair, has_room}

pub waiting_in : (p : Peer) (y : ℕ) (hs : List AskingRow) (h : AskingRow) → waiting p y hs ≡ Some h → In h hs
waiting_in p y [] h e = cc
waiting_in p y (g ∷ hs) h e = go (among p g.1.item.waits y) e (waiting_in p y hs h)
  where
    go : (b : Bool) → cond b (Some g) (waiting p y hs) ≡ Some h → (waiting p y hs ≡ Some h → In h hs) → In h (g ∷ hs)
    go true e rec = let same : h ≡ g = cc in inl same
    go false e rec = inr (rec e)

-- the answers of a step were pending before it, and are not after it
pub record Good (k : Parent) (t : ParentTaken) : Type 0 where
  pub pending : ArePending t.parent.pending
  pub counts : (p : Peer) (x : ℕ) → answers_to p x t.outputs + count p x t.parent.pending.rows ≤ count p x k.pending.rows

good_silent : (k : Parent) → ArePending k.pending → Good k (silent k)
good_silent k are = record { pending = are; counts = λ p x. omega arith }

good_pick : (k : Parent) (b : Bool) (t u : ParentTaken) → Good k t → Good k u → Good k (cond b t u)
good_pick k true t u g g' = g
good_pick k false t u g g' = g'

good_each : {X : Type 0} (f : X → Parent → ParentTaken) → ((x : X) (k : Parent) → ArePending k.pending → Good k (f x k)) → (xs : List X) (k : Parent) → ArePending k.pending → Good k (each f xs k)
good_each f good [] k are = good_silent k are
good_each f good (x ∷ xs) k are =
    let one = good x k are in
    let rest = good_each f good xs (f x k).parent one.pending in
    record { pending = rest.pending; counts = λ p x'. omega (arith, answers_append p x' (f x k).outputs (each f xs (f x k).parent).outputs, one.counts p x', rest.counts p x') }

good_answered : (h : AskingRow) (m : Message) (k : Parent) → ArePending k.pending → In h k.pending.rows → AnswersAt h.1.key.id m → Good k (answered h m k)
good_answered h m k are in' at = record {
  pending = ended_pending h.0 k.pending are;
  counts = λ p x. omega (arith, one_answer h m at p x, removed p x 0 k.pending.given k.pending.rows h are.numbers in');
}

good_gathers : (p : Peer) (y : ℕ) (bs : List Branch) (h : AskingRow) (k : Parent) → ArePending k.pending → Good k (gathers p y bs h k)
good_gathers p y bs h k are = record {
  pending = item_pending h.0 (gathered p y bs h.1.item) k.pending are;
  counts = λ q x. omega (arith, rewritten q x h.0 (gathered p y bs h.1.item) k.pending.rows);
}

at_most : (k : Parent) (t : ParentTaken) → ArePending k.pending → Good k t → (p : Peer) (x : ℕ) → answers_to p x t.outputs ≤ 1
at_most k t are good p x = omega (arith, good.counts p x, count_once p x k.pending.rows are.names)

module _ (c : Codec) (p : Peer) where
  good_answer : (y : ℕ) (h : AskingRow) (a : Answer) (k : Parent) → ArePending k.pending → In h k.pending.rows → Good k (take_answer c p y h k a)
  good_answer y h (Paths ps) k are in' = good_gathers p y (branches_in c h.1.item.wanted.query.metric ps) h k are
  good_answer y h (NoPath nature vector) k are in' =
      good_pick k (nature == 0) _ _ (good_gathers p y [] h k are)
      (good_answered h (reply_message h.1.item.flags h.1.key.id unavailable) k are in' (reply_at h.1.item.flags h.1.key.id unavailable))

  no_answer : (b : Bool) → cond b (one_if false + 0) 0 + 0 ≡ 0
  no_answer true = omega arith
  no_answer false = omega arith

  good_reply : (r : Reply) (k : Parent) → ArePending k.pending → Good k (take_reply c p r k)
  good_reply r k are = go (waiting p r.id k.pending.rows) refl
    where
      go : (o : Option AskingRow) → waiting p r.id k.pending.rows ≡ o → Good k (take_found c p r k o)
      go None e = record { pending = are; counts = λ q x. omega (arith, no_answer (same_peer p q)) }
      go (Some h) e = good_answer r.id h r.answer k are (waiting_in p r.id k.pending.rows h e)

  good_busy : (rp : ℕ × ℕ) (k : Parent) → ArePending k.pending → Good k (take_busy p rp k)
  good_busy rp k are = go (waiting p rp.1 k.pending.rows) refl
    where
      go : (o : Option AskingRow) → waiting p rp.1 k.pending.rows ≡ o → Good k (told_busy k o)
      go None e = good_silent k are
      go (Some h) e = good_answered h (busy h.1.item.flags h.1.key.id) k are (waiting_in p rp.1 k.pending.rows h e) (busy_at h.1.item.flags h.1.key.id)

  good_cancel : (rp : ℕ × ℕ) (k : Parent) → ArePending k.pending → Good k (take_cancel p rp k)
  good_cancel rp k are = go (number_of k.pending p rp.1)
    where
      go : (o : Option ℕ) → Good k (cancelled k o)
      go None = good_silent k are
      go (Some number) = record { pending = ended_pending number k.pending are; counts = λ q x. omega (arith, removed_less q x (nat_eq number) k.pending.rows) }

  good_steps : (kinds : List (ℕ × ℕ)) (rp : ℕ × ℕ) (k : Parent) → ArePending k.pending → Good k (each (λ step. step p rp) (notice_steps kinds) k)
  good_steps kinds rp k are = go (has_pair 1 2 kinds) (has_pair 1 1 kinds)
    where
      two : (f g : Peer → ℕ × ℕ → Parent → ParentTaken) → ((j : Parent) → ArePending j.pending → Good j (f p rp j)) → ((j : Parent) → ArePending j.pending → Good j (g p rp j)) →
          Good k (each (λ (step : Peer → ℕ × ℕ → Parent → ParentTaken). step p rp) (f ∷ g ∷ []) k)
      two f g good good' =
          let one = good k are in
          let rest = good' (f p rp k).parent one.pending in
          record {
            pending = rest.pending;
            counts = λ q x. omega (arith, answers_append q x (f p rp k).outputs ((g p rp (f p rp k).parent).outputs ++ []), answers_append q x (g p rp (f p rp k).parent).outputs [], one.counts q x, rest.counts q x);
          }

      one : (f : Peer → ℕ × ℕ → Parent → ParentTaken) → ((j : Parent) → ArePending j.pending → Good j (f p rp j)) → Good k (each (λ (step : Peer → ℕ × ℕ → Parent → ParentTaken). step p rp) (f ∷ []) k)
      one f good =
          let one = good k are in
          record { pending = one.pending; counts = λ q x. omega (arith, answers_append q x (f p rp k).outputs [], one.counts q x) }

      go : (b b' : Bool) → Good k (each (λ (step : Peer → ℕ × ℕ → Parent → ParentTaken). step p rp) (cond b (cond b' (take_busy ∷ take_cancel ∷ []) (take_busy ∷ [])) (cond b' (take_cancel ∷ []) [])) k)
      go true true = two take_busy take_cancel (good_busy rp) (good_cancel rp)
      go true false = one take_busy (good_busy rp)
      go false true = one take_cancel (good_cancel rp)
      go false false = good_silent k are

  good_error : (e : ℕ × ℕ) (h : AskingRow) (k : Parent) → ArePending k.pending → In h k.pending.rows → Good k (told_error h k (error_answer e h.1.item.flags h.1.key.id))
  good_error e h k are in' = go (has_pair 8 0 (e ∷ [])) (has_pair e.0 e.1 ((4, 4) ∷ (13, 1) ∷ []))
    where
      go : (b b' : Bool) →
          Good k (told_error h k (cond b [] (cond b' (error_message (Some (h.1.item.flags, h.1.key.id)) 13 1 ∷ []) (reply_message h.1.item.flags h.1.key.id unavailable ∷ []))))
      go true b' = good_silent k are
      go false true = good_answered h (error_message (Some (h.1.item.flags, h.1.key.id)) 13 1) k are in' (error_at h.1.item.flags h.1.key.id)
      go false false = good_answered h (reply_message h.1.item.flags h.1.key.id unavailable) k are in' (reply_at h.1.item.flags h.1.key.id unavailable)

  good_failure : (e : ℕ × ℕ) (rp : ℕ × ℕ) (k : Parent) → ArePending k.pending → Good k (take_failure e k (waiting p rp.1 k.pending.rows))
  good_failure e rp k are = go (waiting p rp.1 k.pending.rows) refl
    where
      go : (o : Option AskingRow) → waiting p rp.1 k.pending.rows ≡ o → Good k (take_failure e k o)
      go None is = good_silent k are
      go (Some h) is = good_error e h k are (waiting_in p rp.1 k.pending.rows h is)

  good_errors : (ids errors : List (ℕ × ℕ)) (k : Parent) → ArePending k.pending → Good k (take_errors p ids errors k)
  good_errors ids [] k are = good_silent k are
  good_errors ids (e ∷ es) k are = good_each (λ rp j. take_failure e j (waiting p rp.1 j.pending.rows)) (λ rp j are'. good_failure e rp j are') ids k are

  -- a message that asks: what is said goes to its sender
  pub record Asks (t : ParentTaken) : Type 0 where
    pub pending : ArePending t.parent.pending
    pub others : (q : Peer) (x : ℕ) → same_peer p q ≡ false → answers_to q x t.outputs ≡ 0

  asks_pick : (b : Bool) (t u : ParentTaken) → (b ≡ true → Asks t) → (b ≡ false → Asks u) → Asks (cond b t u)
  asks_pick true t u g g' = g refl
  asks_pick false t u g g' = g' refl

  asks_silent : (k : Parent) → ArePending k.pending → Asks (silent k)
  asks_silent k are = record { pending = are; others = λ q x other. refl }

  asks_only : (m : Message) (k : Parent) → ArePending k.pending → Asks (only p m k)
  asks_only m k are = record { pending = are; others = λ q x other. ap (λ (b : Bool). cond b (count_answers x m) 0 + 0) other ∙ nothing }
    where
      nothing : 0 + 0 ≡ 0
      nothing = omega arith

  zero_zero : (b : Bool) (n : ℕ) → n ≡ 0 → cond b 0 0 + n ≡ 0
  zero_zero true n is = omega arith
  zero_zero false n is = omega arith

  -- requests answer nothing
  asked_none : (w : Wanted) (taken : List Wait) (rs : List Errand) (ways : List Way) (q : Peer) (x : ℕ) → answers_to q x (ask_all w taken rs ways).outputs ≡ 0
  asked_none w taken [] ways q x = refl
  asked_none w taken (r ∷ rs) ways q x =
      let y = next_id (Inner r.child) taken ways in
      let one : Wait = record { peer = Inner r.child; id = y; child = r.child; target = r.target } in
      zero_zero (same_peer (Inner r.child) q) _ (asked_none w (one ∷ taken) rs (with_last (Inner r.child) y ways) q x)

  module _ (f : Family) where
    asks_wish : (flags x : ℕ) (k : Parent) → ArePending k.pending → number_of k.pending p x ≡ None → (wish : Wish) → Asks (take_wish f p flags x k wish)
    asks_wish flags x k are none (Path w) =
        asks_pick (is_full k.pending) _ (cond (all_up f.children k.ways) (take_path f p flags x w k) (only p (reply_message flags x unavailable) k))
        (λ is. asks_only (busy flags x) k are)
        (λ is. let r = has_room k.pending are is in
        asks_pick (all_up f.children k.ways) (take_path f p flags x w k) _
        (λ up. record {
          pending = begun_pending p x (record { flags = flags; wanted = w; waits = (ask_all w (all_waits k.pending.rows) (errands f.links w.target f.children) k.ways).waits; rows = [] }) k.pending are r.0 r.1 none;
          others = λ q x' other. asked_none w (all_waits k.pending.rows) (errands f.links w.target f.children) k.ways q x';
        })
        (λ up. asks_only (reply_message flags x unavailable) k are))
    asks_wish flags x k are none (Expand key pce) = asks_only (reply_message flags x no_key) k are

    asks_new : (r : Request) (k : Parent) → ArePending k.pending → (o : Option ℕ) → number_of k.pending p r.id ≡ o → Asks (take_new f p r k o)
    asks_new r k are (Some number) is = asks_silent k are
    asks_new r k are None is = asks_wish r.flags r.id k are is r.wish

    asks_checked : (k : Parent) → ArePending k.pending → (o : Checked) → Asks (take_checked f p k o)
    asks_checked k are (Wrong rp kind value) = asks_only (error_message rp kind value) k are
    asks_checked k are (Admitted r) = asks_new r k are (number_of k.pending p r.id) refl

    asks_all : (asks : List Asked) (k : Parent) → ArePending k.pending → Asks (each (take_asked c f p) asks k)
    asks_all [] k are = asks_silent k are
    asks_all (a ∷ as') k are =
        let one = asks_checked k are (c.check a _) in
        let rest = asks_all as' (take_asked c f p a k).parent one.pending in
        record {
          pending = rest.pending;
          others = λ q x other. omega (
            arith,
            answers_append q x (take_asked c f p a k).outputs (each (take_asked c f p) as' (take_asked c f p a k).parent).outputs,
            one.others q x other,
            rest.others q x other,
          );
        }

    pub take_fair : (m : Message) (k : Parent) → ArePending k.pending → ArePending (take c f p m k).parent.pending × IsFair p m (take c f p m k).outputs
    take_fair (messages.PcReq asks) k are = let t = asks_all asks k are in (t.pending, t.others)
    take_fair (messages.PcRep replies) k are = let t = good_each (take_reply c p) good_reply replies k are in (t.pending, at_most k _ are t)
    take_fair (messages.PcNtf notices) k are =
        let t = good_each (take_notice p) (λ r. good_each (λ rp. each (λ step. step p rp) (notice_steps r.kinds)) (λ rp. good_steps r.kinds rp) r.ids) notices k are in (t.pending, at_most k _ are t)
    take_fair (messages.PcErr reports) k are = let t = good_each (take_report p) (λ r. good_errors r.ids r.errors) reports k are in (t.pending, at_most k _ are t)
    take_fair (messages.Open body) k are = (are, refl)
    take_fair messages.Keepalive k are = (are, refl)
    take_fair (messages.Close why) k are = (are, refl)
    take_fair (messages.Other kind) k are = (are, refl)

    -- what is answered, besides what is said to a message that asks, was pending
    pub take_counts : (m : Message) (k : Parent) → ArePending k.pending → (q : Peer) (x : ℕ) → besides_asking q p m (answers_to q x (take c f p m k).outputs) ≤ count q x k.pending.rows
    take_counts (messages.PcReq asks) k are q x = go (same_peer p q) refl (asks_all asks k are)
      where
        go : (b : Bool) → same_peer p q ≡ b → Asks (each (take_asked c f p) asks k) → cond b 0 (answers_to q x (each (take_asked c f p) asks k).outputs) ≤ count q x k.pending.rows
        go true is t = omega arith
        go false is t = omega (arith, t.others q x is)
    take_counts (messages.PcRep replies) k are q x = let t = good_each (take_reply c p) good_reply replies k are in omega (arith, t.counts q x)
    take_counts (messages.PcNtf notices) k are q x =
        let t = good_each (take_notice p) (λ r. good_each (λ rp. each (λ step. step p rp) (notice_steps r.kinds)) (λ rp. good_steps r.kinds rp) r.ids) notices k are in omega (arith, t.counts q x)
    take_counts (messages.PcErr reports) k are q x = let t = good_each (take_report p) (λ r. good_errors r.ids r.errors) reports k are in omega (arith, t.counts q x)
    take_counts (messages.Open body) k are q x = omega arith
    take_counts messages.Keepalive k are q x = omega arith
    take_counts (messages.Close why) k are q x = omega arith
    take_counts (messages.Other kind) k are q x = omega arith

abbrev pub IsOnce : ParentTaken → Type 0
IsOnce t = ArePending t.parent.pending × ((q : Peer) (x : ℕ) → answers_to q x t.outputs ≤ 1)

once_answered : (h : AskingRow) (m : Message) (k : Parent) → ArePending k.pending → AnswersAt h.1.key.id m → IsOnce (answered h m k)
once_answered h m k are at = (ended_pending h.0 k.pending are, λ q x. omega (arith, one_answer h m at q x, one_if_le (same_key h.1.key (key_of q x))))

pub commit_once : (c : Codec) (h : AskingRow) (a : Option Found) (k : Parent) → ArePending k.pending → IsOnce (commit c h a k)
commit_once c h None k are = once_answered h (reply_message h.1.item.flags h.1.key.id (no_path true true)) k are (reply_at h.1.item.flags h.1.key.id (no_path true true))
commit_once c h (Some a) k are =
    let paths = Paths (path_of c h.1.item.wanted.query.metric a.cost a.hops ∷ []) in
    once_answered h (reply_message h.1.item.flags h.1.key.id paths) k are (reply_at h.1.item.flags h.1.key.id paths)

pub lost_answers : (p : Peer) (rows : List AskingRow) (q : Peer) (x : ℕ) → answers_to q x (map lost_output (lost p rows)) ≤ count q x rows
lost_answers p [] q x = omega arith
lost_answers p (h ∷ rows) q x =
    elim (cases_Bool (is_lost p h)) [
      | inl hit ↦ rw hit (omega (arith, one_answer h (reply_message h.1.item.flags h.1.key.id unavailable) (reply_at h.1.item.flags h.1.key.id unavailable) q x, lost_answers p rows q x))
      | inr miss ↦ rw miss (omega (arith, lost_answers p rows q x))
    ]

pub downed_once : (p : Peer) (k : Parent) → ArePending k.pending → IsOnce (downed p k)
downed_once p k are = (filtered_pending (stays p) k.pending are, λ q x. omega (arith, lost_answers p k.pending.rows q x, count_once q x k.pending.rows are.names))
