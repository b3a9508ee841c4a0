-- An element that takes a message has at most as many more requests of its sender as that asks for, and no more of any other.
use Rattle.std.proofs.Common.{ℕ, ◌+◌, ◌≤◌, Bool, true, false, cond, ◌==◌, nat_eq, List, [], ◌∷◌, Option, Some, None, arith}
use Rattle.pce_common.specs.plant_model.Types.{As, Peer, Hop, Message, Asked, Reply, Notice, ErrorReport, Answer, Request, Wanted, Wish, Class}
use Rattle.pcep_messages.specs.declared.message.Message.TheVariants as messages
use Rattle.pcep_messages.specs.declared.message.Answer.TheVariants.{Paths, NoPath}
use Rattle.pcep_messages.specs.declared.message.Wish.TheVariants.{Path, Expand}
use Rattle.request_table.specs.Pending.{Pending, number_of, opened_of, key_of, is_full, same_peer}
use Rattle.pce_common.specs.plant_model.Names.{has_pair, the_parent}
use Rattle.pce_common.specs.plant_model.Wire.{Codec, Checked, Admitted, Wrong}
use Rattle.pce_common.specs.plant_model.Writing.{reply_message, unavailable, busy}
use Rattle.pce_common.specs.plant_model.Branches.{branches_in}
use Rattle.disclosure.specs.Policy.{is_denied}
use Rattle.pce_common.specs.plant_model.Element.{Stage, Waits, Ready, fresh_id, Item, Row, Way, Element, ElementSettings, Taken, each, ended, at_stage, waiting, way_to}
use Rattle.pce_common.specs.plant_model.Routes.{toward}
use Rattle.pce_common.specs.plant_model.Taking.{item_of, sequence_or, goes_up, sent_on, send_on, take_along, take_path, take_wish, take_new, take_checked, take_asked, staged, answered, made_ready, take_answer, take_reply, told_busy, cancelled, take_busy, take_cancel, notice_steps, take_notice, error_answer, told_error, take_failure, take_errors, take_report, take, sight, wanting}
use Rattle.pce_common.specs.Owed.{count_by_asker, asked_in}
use Rattle.network_events.proofs.CountLaws.{one_if, for_each, for_each_is, count_push, count_removed, count_written}

module _ (P : Type 0) (S : Type 0) (test : Peer → Bool) where
  abbrev pub counted : Element P S → ℕ
  counted k = count_by_asker test k.pending.rows

  -- at most so many more than before
  abbrev pub Raises : ℕ → Element P S → Taken P S → Type 0
  Raises w k t = counted t.element ≤ counted k + w

  pick : (w : ℕ) (k : Element P S) (b : Bool) (t u : Taken P S) → Raises w k t → Raises w k u → Raises w k (cond b t u)
  pick w k true t u left right = left
  pick w k false t u left right = right

  each_raises : {X : Type 0} (w : ℕ) (f : X → Element P S → Taken P S) → ((x : X) (k : Element P S) → Raises w k (f x k)) →
      (xs : List X) (k : Element P S) → Raises (for_each w xs) k (each f xs k)
  each_raises w f one [] k = omega arith
  each_raises w f one (x ∷ xs) k = omega (arith, one x k, each_raises w f one xs (f x k).element)

  each_keeps : {X : Type 0} (f : X → Element P S → Taken P S) → ((x : X) (k : Element P S) → Raises 0 k (f x k)) →
      (xs : List X) (k : Element P S) → Raises 0 k (each f xs k)
  each_keeps f one [] k = omega arith
  each_keeps f one (x ∷ xs) k = omega (arith, one x k, each_keeps f one xs (f x k).element)

  ended_raises : (number : ℕ) (k : Element P S) → counted (ended number k) ≤ counted k
  ended_raises number k = count_removed test (nat_eq number) k.pending.rows

  answered_raises : (h : Row P) (m : Message) (k : Element P S) → Raises 0 k (answered h m k)
  answered_raises h m k = omega (arith, ended_raises h.0 k)

  staged_raises : (h : Row P) (stage : Stage) (k : Element P S) → counted (staged h stage k) ≤ counted k + 0
  staged_raises h stage k = omega (arith, count_written test h.0 (at_stage stage h.1.item) k.pending.rows)

  -- ---- requests

  opened_raises : (p : Peer) (x : ℕ) (i : Item P) (t : Pending (Item P)) → count_by_asker test (opened_of t p x i).rows ≤ count_by_asker test t.rows + one_if (test p)
  opened_raises p x i t = omega (arith, count_push test t.rows (t.given + 1, record { key = key_of p x; item = i }))

  sent_raises : (pin : P) (p : Peer) (class : Class) (flags x : ℕ) (w : Wanted) (sequence rest : List As) (k : Element P S) (way : Way) →
      Raises (one_if (test p)) k (sent_on (sight pin p class) (wanting flags x w) sequence rest k way)
  sent_raises pin p class flags x w sequence rest k way = opened_raises p x (item_of pin class flags w sequence (Waits way.peer (fresh_id way.peer way.last_id k.pending.rows))) k.pending

  send_raises : (pin : P) (p : Peer) (class : Class) (flags x : ℕ) (w : Wanted) (sequence rest : List As) (refused : Bool) (k : Element P S) (way : Option Way) →
      Raises (one_if (test p)) k (send_on (sight pin p class) (wanting flags x w) sequence rest refused k way)
  send_raises pin p class flags x w sequence rest refused k None = omega arith
  send_raises pin p class flags x w sequence rest refused k (Some way) =
      pick (one_if (test p)) k way.up _ _ (pick (one_if (test p)) k refused _ _ (omega arith) (sent_raises pin p class flags x w sequence rest k way)) (omega arith)

  along_raises : (e : ElementSettings) (pin : P) (p : Peer) (class : Class) (flags x : ℕ) (w : Wanted) (k : Element P S) (sequence : List As) →
      Raises (one_if (test p)) k (take_along e (sight pin p class) (wanting flags x w) k sequence)
  along_raises e pin p class flags x w k [] = omega arith
  along_raises e pin p class flags x w k (a ∷ []) = opened_raises p x (item_of pin class flags w (a ∷ []) (Ready [])) k.pending
  along_raises e pin p class flags x w k (a ∷ b ∷ rest) = send_raises pin p class flags x w (a ∷ b ∷ rest) (b ∷ rest) (is_denied e.deny class b) k (way_to (toward b e.routes) k.ways)

  path_raises : (e : ElementSettings) (pin : P) (p : Peer) (class : Class) (flags x : ℕ) (w : Wanted) (k : Element P S) →
      Raises (one_if (test p)) k (take_path e (sight pin p class) (wanting flags x w) k)
  path_raises e pin p class flags x w k =
      pick (one_if (test p)) k (goes_up e.parent class w.sequence) _ _
      (send_raises pin p class flags x w [] [] false k (way_to the_parent k.ways))
      (along_raises e pin p class flags x w k (sequence_or e.own w.sequence))

  wish_raises : (show : S → List Hop) (e : ElementSettings) (pin : P) (p : Peer) (class : Class) (now flags x : ℕ) (k : Element P S) (wish : Wish) →
      Raises (one_if (test p)) k (take_wish show e (sight pin p class) now flags x k wish)
  wish_raises show e pin p class now flags x k (Path w) = pick (one_if (test p)) k (is_full k.pending) _ _ (omega arith) (path_raises e pin p class flags x w k)
  wish_raises show e pin p class now flags x k (Expand key pce) = omega arith

  new_raises : (show : S → List Hop) (e : ElementSettings) (pin : P) (p : Peer) (class : Class) (now : ℕ) (r : Request) (k : Element P S) (number : Option ℕ) →
      Raises (one_if (test p)) k (take_new show e pin p class now r k number)
  new_raises show e pin p class now r k (Some number) = omega arith
  new_raises show e pin p class now r k None = wish_raises show e pin p class now r.flags r.id k r.wish

  checked_raises : (show : S → List Hop) (e : ElementSettings) (pin : P) (p : Peer) (class : Class) (now : ℕ) (k : Element P S) (checked : Checked) →
      Raises (one_if (test p)) k (take_checked show e pin p class now k checked)
  checked_raises show e pin p class now k (Wrong rp kind value) = omega arith
  checked_raises show e pin p class now k (Admitted r) = new_raises show e pin p class now r k (number_of k.pending p r.id)

  asked_raises : (c : Codec) (show : S → List Hop) (e : ElementSettings) (pin : P) (p : Peer) (class : Class) (now : ℕ) (a : Asked) (k : Element P S) →
      Raises (one_if (test p)) k (take_asked c show e pin p class now a k)
  asked_raises c show e pin p class now a k = checked_raises show e pin p class now k (c.check a e.own)

  -- ---- what answers

  ready_raises : (c : Codec) (h : Row P) (answer : Answer) (k : Element P S) → Raises 0 k (made_ready c h answer k)
  ready_raises c h (Paths ps) k = staged_raises h (Ready (branches_in c h.1.item.wanted.query.metric ps)) k
  ready_raises c h (NoPath nature vector) k =
      pick 0 k (nature == 0) _ _ (staged_raises h (Ready []) k) (answered_raises h (reply_message h.1.item.flags h.1.key.id unavailable) k)

  answer_raises : (c : Codec) (p : Peer) (r : Reply) (k : Element P S) (row : Option (Row P)) → Raises 0 k (take_answer c p r k row)
  answer_raises c p r k None = omega arith
  answer_raises c p r k (Some h) =
      pick 0 k (same_peer p the_parent) _ _ (answered_raises h (reply_message h.1.item.flags h.1.key.id r.answer) k) (ready_raises c h r.answer k)

  reply_raises : (c : Codec) (p : Peer) (r : Reply) (k : Element P S) → Raises 0 k (take_reply c p r k)
  reply_raises c p r k = answer_raises c p r k (waiting p r.id k.pending.rows)

  told_raises : (k : Element P S) (row : Option (Row P)) → Raises 0 k (told_busy k row)
  told_raises k None = omega arith
  told_raises k (Some h) = answered_raises h (busy h.1.item.flags h.1.key.id) k

  cancelled_raises : (k : Element P S) (number : Option ℕ) → Raises 0 k (cancelled k number)
  cancelled_raises k None = omega arith
  cancelled_raises k (Some number) = omega (arith, ended_raises number k)

  steps_raise : (p : Peer) (rp : ℕ × ℕ) (one two : Bool) (k : Element P S) →
      Raises 0 k (each (λ step. step p rp) (cond one (cond two (take_busy ∷ take_cancel ∷ []) (take_busy ∷ [])) (cond two (take_cancel ∷ []) [])) k)
  steps_raise p rp true true k =
      let first = told_raises k (waiting p rp.1 k.pending.rows) in
      let then = cancelled_raises (take_busy p rp k).element (number_of (take_busy p rp k).element.pending p rp.1) in
      omega (arith, first, then)
  steps_raise p rp true false k = omega (arith, told_raises k (waiting p rp.1 k.pending.rows))
  steps_raise p rp false true k = omega (arith, cancelled_raises k (number_of k.pending p rp.1))
  steps_raise p rp false false k = omega arith

  notice_raises : (p : Peer) (n : Notice) (k : Element P S) → Raises 0 k (take_notice p n k)
  notice_raises p n k = each_keeps (λ (rp : ℕ × ℕ). each (λ step. step p rp) (notice_steps n.kinds)) (λ rp k'. steps_raise p rp (has_pair 1 2 n.kinds) (has_pair 1 1 n.kinds) k') n.ids k

  error_raises : (h : Row P) (k : Element P S) (ms : List Message) → Raises 0 k (told_error h k ms)
  error_raises h k [] = omega arith
  error_raises h k (m ∷ ms) = answered_raises h m k

  failure_raises : (e : ℕ × ℕ) (k : Element P S) (row : Option (Row P)) → Raises 0 k (take_failure e k row)
  failure_raises e k None = omega arith
  failure_raises e k (Some h) = error_raises h k (error_answer e h.1.item.flags h.1.key.id)

  errors_raise : (p : Peer) (ids errors : List (ℕ × ℕ)) (k : Element P S) → Raises 0 k (take_errors p ids errors k)
  errors_raise p ids [] k = omega arith
  errors_raise p ids (e ∷ es) k = each_keeps (λ (rp : ℕ × ℕ) k'. take_failure e k' (waiting p rp.1 k'.pending.rows)) (λ rp k'. failure_raises e k' (waiting p rp.1 k'.pending.rows)) ids k

  pub take_raises : (c : Codec) (show : S → List Hop) (e : ElementSettings) (pin : P) (p : Peer) (class : Class) (now : ℕ) (m : Message) (k : Element P S) →
      Raises (cond (test p) (asked_in m) 0) k (take c show e pin p class now m k)
  take_raises c show e pin p class now (messages.PcReq asks) k =
      let all = each_raises (one_if (test p)) (take_asked c show e pin p class now) (asked_raises c show e pin p class now) asks k in
      omega (arith, all, for_each_is (test p) asks)
  take_raises c show e pin p class now (messages.PcRep replies) k = omega (arith, each_keeps (take_reply c p) (reply_raises c p) replies k)
  take_raises c show e pin p class now (messages.PcNtf notices) k = omega (arith, each_keeps (take_notice p) (notice_raises p) notices k)
  take_raises c show e pin p class now (messages.PcErr reports) k =
      omega (arith, each_keeps (take_report p) (λ (r : ErrorReport) k'. errors_raise p r.ids r.errors k') reports k)
  take_raises c show e pin p class now (messages.Open body) k = omega arith
  take_raises c show e pin p class now messages.Keepalive k = omega arith
  take_raises c show e pin p class now (messages.Close reason) k = omega arith
  take_raises c show e pin p class now (messages.Other kind) k = omega arith
