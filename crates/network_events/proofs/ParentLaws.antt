-- The parent that takes a message has at most as many more requests of its sender as that asks for, and no more of any other.
use Rattle.std.proofs.Common.{ℕ, ◌+◌, ◌≤◌, Bool, true, false, cond, ◌==◌, nat_eq, List, [], ◌∷◌, Option, Some, None, arith}
use Rattle.pce_common.specs.plant_model.Types.{Peer, Message, Asked, Reply, Notice, ErrorReport, Answer, Request, Wanted, Wish, Branch}
use Rattle.pcep_messages.specs.declared.message.Message.TheVariants as messages
use Rattle.pcep_messages.specs.declared.message.Answer.TheVariants.{Paths, NoPath}
use Rattle.pcep_messages.specs.declared.message.Wish.TheVariants.{Path, Expand}
use Rattle.request_table.specs.Pending.{Pending, number_of, opened_of, key_of, is_full}
use Rattle.plant_text.specs.Names.{parent_as}
use Rattle.pce_common.specs.plant_model.Names.{has_pair}
use Rattle.pce_common.specs.plant_model.Wire.{Codec, Checked, Admitted, Wrong}
use Rattle.pce_common.specs.plant_model.Writing.{reply_message, unavailable, busy}
use Rattle.pce_common.specs.plant_model.Branches.{branches_in}
use Rattle.pce_common.specs.plant_model.Taking.{error_answer}
use Rattle.pce_common.specs.plant_model.Parent.{Asking, AskingRow, ask_all, all_waits, errands, Parent, Family, ParentTaken, each, waiting, gathered, gathers, all_up, take_path, take_wish, take_new, take_checked, take_asked, ended, answered, take_answer, take_found, take_reply, told_busy, cancelled, take_busy, take_cancel, notice_steps, take_notice, told_error, take_failure, take_errors, take_report, take}
use Rattle.pce_common.specs.Owed.{count_by_asker, asked_in}
use Rattle.network_events.proofs.CountLaws.{one_if, for_each, for_each_is, count_push, count_removed, count_written}

module _ (test : Peer → Bool) where
  abbrev pub counted : Parent → ℕ
  counted k = count_by_asker test k.pending.rows

  -- at most so many more than before
  abbrev pub Raises : ℕ → Parent → ParentTaken → Type 0
  Raises w k t = counted t.parent ≤ counted k + w

  pick : (w : ℕ) (k : Parent) (b : Bool) (t u : ParentTaken) → Raises w k t → Raises w k u → Raises w k (cond b t u)
  pick w k true t u left right = left
  pick w k false t u left right = right

  each_raises : {X : Type 0} (w : ℕ) (f : X → Parent → ParentTaken) → ((x : X) (k : Parent) → Raises w k (f x k)) → (xs : List X) (k : Parent) → Raises (for_each w xs) k (each f xs k)
  each_raises w f one [] k = omega arith
  each_raises w f one (x ∷ xs) k = omega (arith, one x k, each_raises w f one xs (f x k).parent)

  each_keeps : {X : Type 0} (f : X → Parent → ParentTaken) → ((x : X) (k : Parent) → Raises 0 k (f x k)) → (xs : List X) (k : Parent) → Raises 0 k (each f xs k)
  each_keeps f one [] k = omega arith
  each_keeps f one (x ∷ xs) k = omega (arith, one x k, each_keeps f one xs (f x k).parent)

  ended_raises : (number : ℕ) (k : Parent) → counted (ended number k) ≤ counted k
  ended_raises number k = count_removed test (nat_eq number) k.pending.rows

  answered_raises : (h : AskingRow) (m : Message) (k : Parent) → Raises 0 k (answered h m k)
  answered_raises h m k = omega (arith, ended_raises h.0 k)

  -- ---- requests

  opened_raises : (p : Peer) (x : ℕ) (i : Asking) (t : Pending Asking) → count_by_asker test (opened_of t p x i).rows ≤ count_by_asker test t.rows + one_if (test p)
  opened_raises p x i t = omega (arith, count_push test t.rows (t.given + 1, record { key = key_of p x; item = i }))

  path_raises : (f : Family) (p : Peer) (flags x : ℕ) (w : Wanted) (k : Parent) → Raises (one_if (test p)) k (take_path f p flags x w k)
  path_raises f p flags x w k = opened_raises p x (record { flags = flags; wanted = w; waits = (ask_all w (all_waits k.pending.rows) (errands f.links w.target f.children) k.ways).waits; rows = [] }) k.pending

  wish_raises : (f : Family) (p : Peer) (flags x : ℕ) (k : Parent) (wish : Wish) → Raises (one_if (test p)) k (take_wish f p flags x k wish)
  wish_raises f p flags x k (Path w) =
      pick (one_if (test p)) k (is_full k.pending) _ _ (omega arith) (pick (one_if (test p)) k (all_up f.children k.ways) _ _ (path_raises f p flags x w k) (omega arith))
  wish_raises f p flags x k (Expand key pce) = omega arith

  new_raises : (f : Family) (p : Peer) (r : Request) (k : Parent) (number : Option ℕ) → Raises (one_if (test p)) k (take_new f p r k number)
  new_raises f p r k (Some number) = omega arith
  new_raises f p r k None = wish_raises f p r.flags r.id k r.wish

  checked_raises : (f : Family) (p : Peer) (k : Parent) (checked : Checked) → Raises (one_if (test p)) k (take_checked f p k checked)
  checked_raises f p k (Wrong rp kind value) = omega arith
  checked_raises f p k (Admitted r) = new_raises f p r k (number_of k.pending p r.id)

  asked_raises : (c : Codec) (f : Family) (p : Peer) (a : Asked) (k : Parent) → Raises (one_if (test p)) k (take_asked c f p a k)
  asked_raises c f p a k = checked_raises f p k (c.check a parent_as)

  -- ---- what answers

  gathers_raise : (p : Peer) (y : ℕ) (bs : List Branch) (h : AskingRow) (k : Parent) → Raises 0 k (gathers p y bs h k)
  gathers_raise p y bs h k = omega (arith, count_written test h.0 (gathered p y bs h.1.item) k.pending.rows)

  answer_raises : (c : Codec) (p : Peer) (y : ℕ) (h : AskingRow) (k : Parent) (answer : Answer) → Raises 0 k (take_answer c p y h k answer)
  answer_raises c p y h k (Paths ps) = gathers_raise p y (branches_in c h.1.item.wanted.query.metric ps) h k
  answer_raises c p y h k (NoPath nature vector) =
      pick 0 k (nature == 0) _ _ (gathers_raise p y [] h k) (answered_raises h (reply_message h.1.item.flags h.1.key.id unavailable) k)

  found_raises : (c : Codec) (p : Peer) (r : Reply) (k : Parent) (row : Option AskingRow) → Raises 0 k (take_found c p r k row)
  found_raises c p r k None = omega arith
  found_raises c p r k (Some h) = answer_raises c p r.id h k r.answer

  reply_raises : (c : Codec) (p : Peer) (r : Reply) (k : Parent) → Raises 0 k (take_reply c p r k)
  reply_raises c p r k = found_raises c p r k (waiting p r.id k.pending.rows)

  told_raises : (k : Parent) (row : Option AskingRow) → Raises 0 k (told_busy k row)
  told_raises k None = omega arith
  told_raises k (Some h) = answered_raises h (busy h.1.item.flags h.1.key.id) k

  cancelled_raises : (k : Parent) (number : Option ℕ) → Raises 0 k (cancelled k number)
  cancelled_raises k None = omega arith
  cancelled_raises k (Some number) = omega (arith, ended_raises number k)

  steps_raise : (p : Peer) (rp : ℕ × ℕ) (one two : Bool) (k : Parent) →
      Raises 0 k (each (λ step. step p rp) (cond one (cond two (take_busy ∷ take_cancel ∷ []) (take_busy ∷ [])) (cond two (take_cancel ∷ []) [])) k)
  steps_raise p rp true true k =
      let first = told_raises k (waiting p rp.1 k.pending.rows) in
      let then = cancelled_raises (take_busy p rp k).parent (number_of (take_busy p rp k).parent.pending p rp.1) in
      omega (arith, first, then)
  steps_raise p rp true false k = omega (arith, told_raises k (waiting p rp.1 k.pending.rows))
  steps_raise p rp false true k = omega (arith, cancelled_raises k (number_of k.pending p rp.1))
  steps_raise p rp false false k = omega arith

  notice_raises : (p : Peer) (n : Notice) (k : Parent) → Raises 0 k (take_notice p n k)
  notice_raises p n k = each_keeps (λ (rp : ℕ × ℕ). each (λ step. step p rp) (notice_steps n.kinds)) (λ rp k'. steps_raise p rp (has_pair 1 2 n.kinds) (has_pair 1 1 n.kinds) k') n.ids k

  error_raises : (h : AskingRow) (k : Parent) (ms : List Message) → Raises 0 k (told_error h k ms)
  error_raises h k [] = omega arith
  error_raises h k (m ∷ ms) = answered_raises h m k

  failure_raises : (e : ℕ × ℕ) (k : Parent) (row : Option AskingRow) → Raises 0 k (take_failure e k row)
  failure_raises e k None = omega arith
  failure_raises e k (Some h) = error_raises h k (error_answer e h.1.item.flags h.1.key.id)

  errors_raise : (p : Peer) (ids errors : List (ℕ × ℕ)) (k : Parent) → Raises 0 k (take_errors p ids errors k)
  errors_raise p ids [] k = omega arith
  errors_raise p ids (e ∷ es) k = each_keeps (λ (rp : ℕ × ℕ) k'. take_failure e k' (waiting p rp.1 k'.pending.rows)) (λ rp k'. failure_raises e k' (waiting p rp.1 k'.pending.rows)) ids k

  pub take_raises : (c : Codec) (f : Family) (p : Peer) (m : Message) (k : Parent) → Raises (cond (test p) (asked_in m) 0) k (take c f p m k)
  take_raises c f p (messages.PcReq asks) k =
      let all = each_raises (one_if (test p)) (take_asked c f p) (asked_raises c f p) asks k in
      omega (arith, all, for_each_is (test p) asks)
  take_raises c f p (messages.PcRep replies) k = omega (arith, each_keeps (take_reply c p) (reply_raises c p) replies k)
  take_raises c f p (messages.PcNtf notices) k = omega (arith, each_keeps (take_notice p) (notice_raises p) notices k)
  take_raises c f p (messages.PcErr reports) k =
      omega (arith, each_keeps (take_report p) (λ (r : ErrorReport) k'. errors_raise p r.ids r.errors k') reports k)
  take_raises c f p (messages.Open body) k = omega arith
  take_raises c f p messages.Keepalive k = omega arith
  take_raises c f p (messages.Close reason) k = omega arith
  take_raises c f p (messages.Other kind) k = omega arith
