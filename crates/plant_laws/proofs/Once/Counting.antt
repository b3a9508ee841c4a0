-- What an element says to a message has at most one answer to a pending request, which it takes away.
use Rattle.std.proofs.Common.{◌≡◌, ◌+◌, ◌-◌, ◌≤◌, ◌<◌, ◌^◌, ◌==◌, ◌||◌, ◌&&◌, nat_eq, nat_le, nat_lt, ℕ, Bool, true, false, cond, List, [], ◌∷◌, ◌++◌, length, map, Option, Some, None, sym, ◌∙◌, ap, inl, inr, refl, arith, eq-or-lt_of_le}
use Rattle.std.proofs.lemmas.Bool.{cases_Bool, eq-eqb, leb-false}
use Rattle.plant_model.specs.Types.{As, Peer, Hop, Asked, Answer, Message, Request, Reply, Wanted, Wish, Class, Held, Best, Branch}
use Rattle.pcep_messages.specs.declared.message.Answer.TheVariants.{Paths, NoPath}
use Rattle.pcep_messages.specs.declared.message.Message.TheVariants as messages
use Rattle.pcep_messages.specs.declared.message.Wish.TheVariants.{Path, Expand}
use Rattle.request_table.proofs.KeyLemmas.{same_peer_self}
use Rattle.request_table.specs.Pending.{Pending, ArePending, same_peer, same_key, key_of, number_of, is_full}
use Rattle.plant_model.specs.declared.output.Output.{Output}
use Rattle.plant_model.specs.Names.{has_pair, the_parent}
use Rattle.plant_model.specs.Wire.{Codec, Checked, Admitted, Wrong}
use Rattle.plant_model.specs.Writing.{error_message, reply_message, unavailable, busy, no_path}
use Rattle.plant_model.specs.Branches.{branches_in, open_branch, path_of}
use Rattle.disclosure.specs.Policy.{is_denied}
use Rattle.plant_model.specs.Element.{Stage, Waits, Ready, Element, Row, Way, ElementSettings, Taken, silent, only, each, way_to, waiting, waits_for, at_stage, is_client, lost, is_lost, lost_output, stays, downed}
use Rattle.plant_model.specs.Routes.{toward}
use Rattle.plant_model.specs.Taking.{take, take_asked, take_checked, take_new, take_wish, take_path, take_along, send_on, item_of, sequence_or, goes_up, expansion, answered, staged, take_reply, take_answer, made_ready, take_notice, notice_steps, take_busy, take_cancel, told_busy, cancelled, take_report, take_errors, take_failure, told_error, error_answer, sight, wanting}
use Rattle.plant_model.specs.Solving.{commit, closed_reply, client_reply, closed_paths, issued_all, free, job_found}
use Rattle.plant_laws.proofs.Once.Besides.{besides_asking}
use Rattle.plant_laws.specs.Transcript.{one_if, count_answers, answers_to}
use Rattle.plant_laws.proofs.Once.Handing.{In}
use Rattle.plant_laws.proofs.Runs.Rows.{filtered_pending}
use Rattle.plant_laws.proofs.Once.RowCounts.{named, count, count_once, one_if_le, removed, removed_less, rewritten, ended_pending, item_pending, begun_pending}

pub answers_append : (p : Peer) (x : ℕ) (os os' : List Output) → answers_to p x (os ++ os') ≡ answers_to p x os + answers_to p x os'
answers_append p x [] os' = omega arith
answers_append p x (o ∷ os) os' = omega (arith, answers_append p x os os')

-- one message, that answers one id
abbrev pub AnswersAt : ℕ → Message → Type 0
AnswersAt y m = (x : ℕ) → count_answers x m ≤ one_if (y == x)

pub reply_at : (flags y : ℕ) (answer : Answer) → AnswersAt y (reply_message flags y answer)
reply_at flags y answer x = omega arith

one_of : (b : Bool) → one_if (cond b true false) ≤ one_if b
one_of true = omega arith
one_of false = omega arith

pub busy_at : (flags y : ℕ) → AnswersAt y (busy flags y)
busy_at flags y x = let h = one_of (y == x) in omega arith

pub error_at : (flags y : ℕ) → AnswersAt y (error_message (Some (flags, y)) 13 1)
error_at flags y x = let h = one_of (y == x) in omega arith

-- an answer to the peer and id of a key
pub one_answer : {T : Type 0} (h : ℕ × Held T) (m : Message) → AnswersAt h.1.key.id m → (p : Peer) (x : ℕ) → answers_to p x (record { to = h.1.key.peer; message = m } ∷ []) ≤ named p x h
one_answer h m at p x = go (same_peer h.1.key.peer p)
  where
    go : (b : Bool) → cond b (count_answers x m) 0 + 0 ≤ one_if (b && nat_eq h.1.key.id x)
    go true = let k = at x in omega arith
    go false = omega arith

-- what is said to each message
abbrev pub IsFair : Peer → Message → List Output → Type 0
IsFair p (messages.PcReq asks) os = (q : Peer) (x : ℕ) → same_peer p q ≡ false → answers_to q x os ≡ 0
IsFair p (messages.PcRep replies) os = (q : Peer) (x : ℕ) → answers_to q x os ≤ 1
IsFair p (messages.PcNtf notices) os = (q : Peer) (x : ℕ) → answers_to q x os ≤ 1
IsFair p (messages.PcErr reports) os = (q : Peer) (x : ℕ) → answers_to q x os ≤ 1
IsFair p (messages.Open body) os = os ≡ []
IsFair p messages.Keepalive os = os ≡ []
IsFair p (messages.Close why) os = os ≡ []
IsFair p (messages.Other kind) os = os ≡ []

pub waiting_in : {P : Type 0} (p : Peer) (y : ℕ) (hs : List (Row P)) (h : Row P) → waiting p y hs ≡ Some h → In h hs
waiting_in p y [] h e = cc
waiting_in {P} p y (g ∷ hs) h e = go (waits_for p y g.1.item.stage) e (waiting_in p y hs h)
  where
    go : (b : Bool) → cond b (Some g) (waiting p y hs) ≡ Some h → (waiting p y hs ≡ Some h → In h hs) → In h (g ∷ hs)
    go true e rec = let same : h ≡ g = cc in inl same
    go false e rec = inr (rec e)

or_parts : (a b : Bool) → a || b ≡ false → (a ≡ false) × (b ≡ false)
or_parts true b e = cc
or_parts false b e = (refl, e)

pub has_room : {T : Type 0} (t : Pending T) → ArePending t → is_full t ≡ false → (length t.rows < t.limit) × (t.given + 1 < 2 ^ 64)
has_room t are full =
    let parts = or_parts (nat_le t.limit (length t.rows)) (t.given == 2 ^ 64 - 1) full in
    (leb-false t.limit (length t.rows) parts.0, below t.given are.last parts.1)
  where
    below : (n : ℕ) → n < 2 ^ 64 → (n == 2 ^ 64 - 1) ≡ false → n + 1 < 2 ^ 64
    below n small other = let le : n ≤ 2 ^ 64 - 1 = omega arith in elim (eq-or-lt_of_le le) [
      | inl is ↦ absurd (let hit = eq-eqb n (2 ^ 64 - 1) is in let clash : true ≡ false = sym hit ∙ other in cc)
      | inr less ↦ omega arith
    ]

module _ (P : Type 0) (S : Type 0) where
  -- the answers of a step were pending before it, and are not after it
  pub record Good (k : Element P S) (t : Taken P S) : Type 0 where
    pub pending : ArePending t.element.pending
    pub counts : (p : Peer) (x : ℕ) → answers_to p x t.outputs + count p x t.element.pending.rows ≤ count p x k.pending.rows

  good_silent : (k : Element P S) → ArePending k.pending → Good k (silent k)
  good_silent k are = record { pending = are; counts = λ p x. omega arith }

  good_pick : (k : Element P S) (b : Bool) (t u : Taken P S) → Good k t → Good k u → Good k (cond b t u)
  good_pick k true t u g g' = g
  good_pick k false t u g g' = g'

  pub good_each : {X : Type 0} (f : X → Element P S → Taken P S) → ((x : X) (k : Element P S) → ArePending k.pending → Good k (f x k)) →
      (xs : List X) (k : Element P S) → ArePending k.pending → Good k (each f xs k)
  good_each f good [] k are = good_silent k are
  good_each f good (x ∷ xs) k are =
      let one = good x k are in
      let rest = good_each f good xs (f x k).element one.pending in
      record { pending = rest.pending; counts = λ p x'. omega (arith, answers_append p x' (f x k).outputs (each f xs (f x k).element).outputs, one.counts p x', rest.counts p x') }

  pub good_answered : (h : Row P) (m : Message) (k : Element P S) → ArePending k.pending → In h k.pending.rows → AnswersAt h.1.key.id m → Good k (answered h m k)
  good_answered h m k are in' at = record {
    pending = ended_pending h.0 k.pending are;
    counts = λ p x. omega (arith, one_answer h m at p x, removed p x 0 k.pending.given k.pending.rows h are.numbers in');
  }

  good_staged : (h : Row P) (stage : Stage) (k : Element P S) → ArePending k.pending → Good k (silent (staged h stage k))
  good_staged h stage k are = record {
    pending = item_pending h.0 (at_stage stage h.1.item) k.pending are;
    counts = λ p x. omega (arith, rewritten p x h.0 (at_stage stage h.1.item) k.pending.rows);
  }

  at_most : (k : Element P S) (t : Taken P S) → ArePending k.pending → Good k t → (p : Peer) (x : ℕ) → answers_to p x t.outputs ≤ 1
  at_most k t are good p x = omega (arith, good.counts p x, count_once p x k.pending.rows are.names)

  module _ (c : Codec) (p : Peer) where
    good_ready : (h : Row P) (a : Answer) (k : Element P S) → ArePending k.pending → In h k.pending.rows → Good k (made_ready c h a k)
    good_ready h (Paths ps) k are in' = good_staged h (Ready (branches_in c h.1.item.wanted.query.metric ps)) k are
    good_ready h (NoPath nature vector) k are in' =
        good_pick k (nature == 0) _ _ (good_staged h (Ready []) k are)
        (good_answered h (reply_message h.1.item.flags h.1.key.id unavailable) k are in' (reply_at h.1.item.flags h.1.key.id unavailable))

    no_answer : (b : Bool) → cond b (one_if false + 0) 0 + 0 ≡ 0
    no_answer true = omega arith
    no_answer false = omega arith

    good_reply : (r : Reply) (k : Element P S) → ArePending k.pending → Good k (take_reply c p r k)
    good_reply r k are = go (waiting p r.id k.pending.rows) refl
      where
        go : (o : Option (Row P)) → waiting p r.id k.pending.rows ≡ o → Good k (take_answer c p r k o)
        go None e = record { pending = are; counts = λ q x. omega (arith, no_answer (same_peer p q)) }
        go (Some h) e =
            let in' = waiting_in p r.id k.pending.rows h e in
            good_pick k (same_peer p the_parent) _ (made_ready c h r.answer k)
            (good_answered h (reply_message h.1.item.flags h.1.key.id r.answer) k are in' (reply_at h.1.item.flags h.1.key.id r.answer))
            (good_ready h r.answer k are in')

    good_busy : (rp : ℕ × ℕ) (k : Element P S) → ArePending k.pending → Good k (take_busy p rp k)
    good_busy rp k are = go (waiting p rp.1 k.pending.rows) refl
      where
        go : (o : Option (Row P)) → waiting p rp.1 k.pending.rows ≡ o → Good k (told_busy k o)
        go None e = good_silent k are
        go (Some h) e = good_answered h (busy h.1.item.flags h.1.key.id) k are (waiting_in p rp.1 k.pending.rows h e) (busy_at h.1.item.flags h.1.key.id)

    good_cancel : (rp : ℕ × ℕ) (k : Element P S) → ArePending k.pending → Good k (take_cancel p rp k)
    good_cancel rp k are = go (number_of k.pending p rp.1)
      where
        go : (o : Option ℕ) → Good k (cancelled k o)
        go None = good_silent k are
        go (Some number) = record { pending = ended_pending number k.pending are; counts = λ q x. omega (arith, removed_less q x (nat_eq number) k.pending.rows) }

    good_steps : (kinds : List (ℕ × ℕ)) (rp : ℕ × ℕ) (k : Element P S) → ArePending k.pending → Good k (each (λ step. step p rp) (notice_steps kinds) k)
    good_steps kinds rp k are = go (has_pair 1 2 kinds) (has_pair 1 1 kinds)
      where
        two : (f g : Peer → ℕ × ℕ → Element P S → Taken P S) → ((j : Element P S) → ArePending j.pending → Good j (f p rp j)) → ((j : Element P S) → ArePending j.pending → Good j (g p rp j)) →
            Good k (each (λ (step : Peer → ℕ × ℕ → Element P S → Taken P S). step p rp) (f ∷ g ∷ []) k)
        two f g good good' =
            let one = good k are in
            let rest = good' (f p rp k).element one.pending in
            record {
              pending = rest.pending;
              counts = λ q x. omega (arith, answers_append q x (f p rp k).outputs ((g p rp (f p rp k).element).outputs ++ []), answers_append q x (g p rp (f p rp k).element).outputs [], one.counts q x, rest.counts q x);
            }

        one : (f : Peer → ℕ × ℕ → Element P S → Taken P S) → ((j : Element P S) → ArePending j.pending → Good j (f p rp j)) → Good k (each (λ (step : Peer → ℕ × ℕ → Element P S → Taken P S). step p rp) (f ∷ []) k)
        one f good =
            let one = good k are in
            record { pending = one.pending; counts = λ q x. omega (arith, answers_append q x (f p rp k).outputs [], one.counts q x) }

        go : (b b' : Bool) → Good k (each (λ (step : Peer → ℕ × ℕ → Element P S → Taken P S). step p rp) (cond b (cond b' (take_busy ∷ take_cancel ∷ []) (take_busy ∷ [])) (cond b' (take_cancel ∷ []) [])) k)
        go true true = two take_busy take_cancel (good_busy rp) (good_cancel rp)
        go true false = one take_busy (good_busy rp)
        go false true = one take_cancel (good_cancel rp)
        go false false = good_silent k are

    good_error : (e : ℕ × ℕ) (h : Row P) (k : Element P S) → ArePending k.pending → In h k.pending.rows → Good k (told_error h k (error_answer e h.1.item.flags h.1.key.id))
    good_error e h k are in' = go (has_pair 8 0 (e ∷ [])) (has_pair e.0 e.1 ((4, 4) ∷ (13, 1) ∷ []))
      where
        go : (b b' : Bool) →
            Good k (told_error h k (cond b [] (cond b' (error_message (Some (h.1.item.flags, h.1.key.id)) 13 1 ∷ []) (reply_message h.1.item.flags h.1.key.id unavailable ∷ []))))
        go true b' = good_silent k are
        go false true = good_answered h (error_message (Some (h.1.item.flags, h.1.key.id)) 13 1) k are in' (error_at h.1.item.flags h.1.key.id)
        go false false = good_answered h (reply_message h.1.item.flags h.1.key.id unavailable) k are in' (reply_at h.1.item.flags h.1.key.id unavailable)

    good_failure : (e : ℕ × ℕ) (rp : ℕ × ℕ) (k : Element P S) → ArePending k.pending → Good k (take_failure e k (waiting p rp.1 k.pending.rows))
    good_failure e rp k are = go (waiting p rp.1 k.pending.rows) refl
      where
        go : (o : Option (Row P)) → waiting p rp.1 k.pending.rows ≡ o → Good k (take_failure e k o)
        go None is = good_silent k are
        go (Some h) is = good_error e h k are (waiting_in p rp.1 k.pending.rows h is)

    good_errors : (ids errors : List (ℕ × ℕ)) (k : Element P S) → ArePending k.pending → Good k (take_errors p ids errors k)
    good_errors ids [] k are = good_silent k are
    good_errors ids (e ∷ es) k are = good_each (λ rp j. take_failure e j (waiting p rp.1 j.pending.rows)) (λ rp j are'. good_failure e rp j are') ids k are

    -- a message that asks: what is said goes to its sender
    pub record Asks (t : Taken P S) : Type 0 where
      pub pending : ArePending t.element.pending
      pub others : (q : Peer) (x : ℕ) → same_peer p q ≡ false → answers_to q x t.outputs ≡ 0

    asks_pick : (b : Bool) (t u : Taken P S) → (b ≡ true → Asks t) → (b ≡ false → Asks u) → Asks (cond b t u)
    asks_pick true t u g g' = g refl
    asks_pick false t u g g' = g' refl

    asks_silent : (k : Element P S) → ArePending k.pending → Asks (silent k)
    asks_silent k are = record { pending = are; others = λ q x other. refl }

    asks_only : (m : Message) (k : Element P S) → ArePending k.pending → Asks (only p m k)
    asks_only m k are = record { pending = are; others = λ q x other. ap (λ (b : Bool). cond b (count_answers x m) 0 + 0) other ∙ nothing }
      where
        nothing : 0 + 0 ≡ 0
        nothing = omega arith

    zero_zero : (b : Bool) → cond b 0 0 + 0 ≡ 0
    zero_zero true = omega arith
    zero_zero false = omega arith

    abbrev HasRoom : Element P S → ℕ → Type 0
    HasRoom k x = (length k.pending.rows < k.pending.limit) × (k.pending.given + 1 < 2 ^ 64) × (number_of k.pending p x ≡ None)

    module _ (show : S → List Hop) (e : ElementSettings) (pin : P) (class : Class) (now : ℕ) where
      asks_send : (flags x : ℕ) (w : Wanted) (sequence rest : List As) (refused : Bool) (k : Element P S) → ArePending k.pending → HasRoom k x → (way : Option Way) →
          Asks (send_on (sight pin p class) (wanting flags x w) sequence rest refused k way)
      asks_send flags x w sequence rest refused k are room None = asks_only (reply_message flags x unavailable) k are
      asks_send flags x w sequence rest refused k are room (Some way) =
          asks_pick way.up _ _
          (λ up. asks_pick refused _ _ (λ is. asks_only (reply_message flags x unavailable) k are)
          (λ is. record {
            pending = begun_pending p x (item_of pin class flags w sequence (Waits way.peer _)) k.pending are room.0 room.1 room.2;
            others = λ q x' other. zero_zero (same_peer way.peer q);
          }))
          (λ up. asks_only (reply_message flags x unavailable) k are)

      asks_along : (flags x : ℕ) (w : Wanted) (k : Element P S) → ArePending k.pending → HasRoom k x → (sequence : List As) → Asks (take_along e (sight pin p class) (wanting flags x w) k sequence)
      asks_along flags x w k are room [] = asks_only (reply_message flags x unavailable) k are
      asks_along flags x w k are room (a ∷ []) = record {
        pending = begun_pending p x (item_of pin class flags w (a ∷ []) (Ready [])) k.pending are room.0 room.1 room.2;
        others = λ q x' other. refl;
      }
      asks_along flags x w k are room (a ∷ b ∷ rest) = asks_send flags x w (a ∷ b ∷ rest) (b ∷ rest) (is_denied e.deny class b) k are room (way_to (toward b e.routes) k.ways)

      asks_path : (flags x : ℕ) (w : Wanted) (k : Element P S) → ArePending k.pending → HasRoom k x → Asks (take_path e (sight pin p class) (wanting flags x w) k)
      asks_path flags x w k are room =
          asks_pick (goes_up e.parent class w.sequence) (send_on (sight pin p class) (wanting flags x w) [] [] false k (way_to the_parent k.ways)) (take_along e (sight pin p class) (wanting flags x w) k (sequence_or e.own w.sequence))
          (λ is. asks_send flags x w [] [] false k are room (way_to the_parent k.ways))
          (λ is. asks_along flags x w k are room (sequence_or e.own w.sequence))

      asks_wish : (flags x : ℕ) (k : Element P S) → ArePending k.pending → number_of k.pending p x ≡ None → (wish : Wish) → Asks (take_wish show e (sight pin p class) now flags x k wish)
      asks_wish flags x k are none (Path w) =
          asks_pick (is_full k.pending) _ (take_path e (sight pin p class) (wanting flags x w) k)
          (λ is. asks_only (busy flags x) k are)
          (λ is. let r = has_room k.pending are is in asks_path flags x w k are (r.0, r.1, none))
      asks_wish flags x k are none (Expand key pce) = asks_only (reply_message flags x (expansion show e class now key pce k)) k are

      asks_new : (r : Request) (k : Element P S) → ArePending k.pending → (o : Option ℕ) → number_of k.pending p r.id ≡ o → Asks (take_new show e pin p class now r k o)
      asks_new r k are (Some number) is = asks_silent k are
      asks_new r k are None is = asks_wish r.flags r.id k are is r.wish

      asks_checked : (k : Element P S) → ArePending k.pending → (o : Checked) → Asks (take_checked show e pin p class now k o)
      asks_checked k are (Wrong rp kind value) = asks_only (error_message rp kind value) k are
      asks_checked k are (Admitted r) = asks_new r k are (number_of k.pending p r.id) refl

      asks_all : (asks : List Asked) (k : Element P S) → ArePending k.pending → Asks (each (take_asked c show e pin p class now) asks k)
      asks_all [] k are = asks_silent k are
      asks_all (a ∷ as') k are =
          let one = asks_checked k are (c.check a e.own) in
          let rest = asks_all as' (take_asked c show e pin p class now a k).element one.pending in
          record {
            pending = rest.pending;
            others = λ q x other. omega (
              arith,
              answers_append q x (take_asked c show e pin p class now a k).outputs (each (take_asked c show e pin p class now) as' (take_asked c show e pin p class now a k).element).outputs,
              one.others q x other,
              rest.others q x other,
            );
          }

      pub take_fair : (m : Message) (k : Element P S) → ArePending k.pending →
          ArePending (take c show e pin p class now m k).element.pending × IsFair p m (take c show e pin p class now m k).outputs
      take_fair (messages.PcReq asks) k are = let t = asks_all asks k are in (t.pending, t.others)
      take_fair (messages.PcRep replies) k are = let t = good_each (take_reply c p) good_reply replies k are in (t.pending, at_most k _ are t)
      take_fair (messages.PcNtf notices) k are =
          let t = good_each (take_notice p) (λ r. good_each (λ rp. each (λ step. step p rp) (notice_steps r.kinds)) (λ rp. good_steps r.kinds rp) r.ids) notices k are in (t.pending, at_most k _ are t)
      take_fair (messages.PcErr reports) k are = let t = good_each (take_report p) (λ r. good_errors r.ids r.errors) reports k are in (t.pending, at_most k _ are t)
      take_fair (messages.Open body) k are = (are, refl)
      take_fair messages.Keepalive k are = (are, refl)
      take_fair (messages.Close why) k are = (are, refl)
      take_fair (messages.Other kind) k are = (are, refl)

      -- what is answered, besides what is said to a message that asks, was pending
      pub take_found : (m : Message) (k : Element P S) → ArePending k.pending → (q : Peer) (x : ℕ) →
          besides_asking q p m (answers_to q x (take c show e pin p class now m k).outputs) ≤ count q x k.pending.rows
      take_found (messages.PcReq asks) k are q x = go (same_peer p q) refl (asks_all asks k are)
        where
          go : (b : Bool) → same_peer p q ≡ b → Asks (each (take_asked c show e pin p class now) asks k) → cond b 0 (answers_to q x (each (take_asked c show e pin p class now) asks k).outputs) ≤ count q x k.pending.rows
          go true is t = omega arith
          go false is t = omega (arith, t.others q x is)
      take_found (messages.PcRep replies) k are q x = let t = good_each (take_reply c p) good_reply replies k are in omega (arith, t.counts q x)
      take_found (messages.PcNtf notices) k are q x =
          let t = good_each (take_notice p) (λ r. good_each (λ rp. each (λ step. step p rp) (notice_steps r.kinds)) (λ rp. good_steps r.kinds rp) r.ids) notices k are in omega (arith, t.counts q x)
      take_found (messages.PcErr reports) k are q x = let t = good_each (take_report p) (λ r. good_errors r.ids r.errors) reports k are in omega (arith, t.counts q x)
      take_found (messages.Open body) k are q x = omega arith
      take_found messages.Keepalive k are q x = omega arith
      take_found (messages.Close why) k are q x = omega arith
      take_found (messages.Other kind) k are q x = omega arith

  -- a solve
  abbrev pub IsOnce : Taken P S → Type 0
  IsOnce t = ArePending t.element.pending × ((q : Peer) (x : ℕ) → answers_to q x t.outputs ≤ 1)

  once_pick : (b : Bool) (t u : Taken P S) → IsOnce t → IsOnce u → IsOnce (cond b t u)
  once_pick true t u g g' = g
  once_pick false t u g g' = g'

  once_answered : (h : Row P) (m : Message) (k : Element P S) → ArePending k.pending → AnswersAt h.1.key.id m → IsOnce (answered h m k)
  once_answered h m k are at = (ended_pending h.0 k.pending are, λ q x. omega (arith, one_answer h m at q x, one_if_le (same_key h.1.key (key_of q x))))

  pub commit_once : (c : Codec) (e : ElementSettings) (h : Row P) (down : List Branch) (now : ℕ) (stands : Best → S) (source_known target_known : Bool) (best : List Best) (k : Element P S) → ArePending k.pending →
      IsOnce (commit c e h down now stands (job_found source_known target_known best) k)
  commit_once c e h down now stands source_known target_known best k are =
      once_pick (is_client h.1.item.class) _ (closed_reply c e h down now stands k best)
      (once_answered h (client_reply c h down source_known target_known best) k are (client best)) (closed best)
    where
      client : (best : List Best) → AnswersAt h.1.key.id (client_reply c h down source_known target_known best)
      client [] = reply_at h.1.item.flags h.1.key.id (no_path source_known target_known)
      client (b ∷ bs) = reply_at h.1.item.flags h.1.key.id (Paths (path_of c h.1.item.wanted.query.metric b.cost (open_branch b down) ∷ []))

      closed : (best : List Best) → IsOnce (closed_reply c e h down now stands k best)
      closed [] = once_answered h (reply_message h.1.item.flags h.1.key.id (NoPath 0 0)) k are (reply_at h.1.item.flags h.1.key.id (NoPath 0 0))
      closed (b ∷ bs) =
          let paths = Paths (closed_paths c e.id h.1.item.wanted.query.metric h.1.item.wanted.target down k.keys.next (b ∷ bs)) in
          once_pick (nat_lt (free now k.keys) (length (b ∷ bs))) _ _
          (once_answered h (busy h.1.item.flags h.1.key.id) k are (busy_at h.1.item.flags h.1.key.id))
          (once_answered h (reply_message h.1.item.flags h.1.key.id paths) (record k { keys = issued_all now stands (b ∷ bs) k.keys }) are (reply_at h.1.item.flags h.1.key.id paths))

  -- which answers the request of its row
  abbrev pub Answers : Row P → Taken P S → Type 0
  Answers h t = answers_to h.1.key.peer h.1.key.id t.outputs ≡ 1

  answers_pick : (h : Row P) (b : Bool) (t u : Taken P S) → Answers h t → Answers h u → Answers h (cond b t u)
  answers_pick h true t u g g' = g
  answers_pick h false t u g g' = g'

  answers_by : (h : Row P) (m : Message) (k : Element P S) → count_answers h.1.key.id m ≡ 1 → Answers h (answered h m k)
  answers_by h m k one = ap (λ (b : Bool). cond b (count_answers h.1.key.id m) 0 + 0) (same_peer_self h.1.key.peer) ∙ omega (arith, one)

  reply_answers : (h : Row P) (answer : Answer) (k : Element P S) → Answers h (answered h (reply_message h.1.item.flags h.1.key.id answer) k)
  reply_answers h answer k = answers_by h (reply_message h.1.item.flags h.1.key.id answer) k (ap (λ (b : Bool). one_if b + 0) (eq-eqb h.1.key.id h.1.key.id refl))

  busy_answers : (h : Row P) (k : Element P S) → Answers h (answered h (busy h.1.item.flags h.1.key.id) k)
  busy_answers h k = answers_by h (busy h.1.item.flags h.1.key.id) k (ap (λ (b : Bool). one_if (cond b true false) + 0) (eq-eqb h.1.key.id h.1.key.id refl))

  pub commit_answers : (c : Codec) (e : ElementSettings) (h : Row P) (down : List Branch) (now : ℕ) (stands : Best → S) (source_known target_known : Bool) (best : List Best) (k : Element P S) →
      Answers h (commit c e h down now stands (job_found source_known target_known best) k)
  commit_answers c e h down now stands source_known target_known best k =
      answers_pick h (is_client h.1.item.class) _ (closed_reply c e h down now stands k best) (client best) (closed best)
    where
      client : (best : List Best) → Answers h (answered h (client_reply c h down source_known target_known best) k)
      client [] = reply_answers h (no_path source_known target_known) k
      client (b ∷ bs) = reply_answers h (Paths (path_of c h.1.item.wanted.query.metric b.cost (open_branch b down) ∷ [])) k

      closed : (best : List Best) → Answers h (closed_reply c e h down now stands k best)
      closed [] = reply_answers h (no_path true true) k
      closed (b ∷ bs) =
          answers_pick h (nat_lt (free now k.keys) (length (b ∷ bs))) _ _ (busy_answers h k)
          (reply_answers h (Paths (closed_paths c e.id h.1.item.wanted.query.metric h.1.item.wanted.target down k.keys.next (b ∷ bs))) (record k { keys = issued_all now stands (b ∷ bs) k.keys }))

  -- a session that goes down
  pub lost_answers : (p : Peer) (rows : List (Row P)) (q : Peer) (x : ℕ) → answers_to q x (map lost_output (lost p rows)) ≤ count q x rows
  lost_answers p [] q x = omega arith
  lost_answers p (h ∷ rows) q x =
      elim (cases_Bool (is_lost p h)) [
        | inl hit ↦ rw hit (omega (arith, one_answer h (reply_message h.1.item.flags h.1.key.id unavailable) (reply_at h.1.item.flags h.1.key.id unavailable) q x, lost_answers p rows q x))
        | inr miss ↦ rw miss (omega (arith, lost_answers p rows q x))
      ]

  pub downed_once : (p : Peer) (k : Element P S) → ArePending k.pending → IsOnce (downed p k)
  downed_once p k are = (filtered_pending (stays p) k.pending are, λ q x. omega (arith, lost_answers p k.pending.rows q x, count_once q x k.pending.rows are.names))
