-- What holds of an element holds after it takes a message and after a job is answered, where it does after each change that these
-- make: a request ends, is made ready by a reply or is opened, or keys are issued.
use Rattle.std.proofs.Common.{◌≡◌, ℕ, Bool, true, false, cond, ◌==◌, List, [], ◌∷◌, length, nat_lt, Option, Some, None, subst, sym, inl, inr, refl}
use Rattle.std.proofs.lemmas.Bool.{eqb-true}
use Rattle.plant_model.specs.Types.{As, Peer, Hop, Message, Asked, Reply, Answer, Path as PathRow, Request, Wanted, Wish, Class, Best, Branch}
use Rattle.pcep_messages.specs.declared.message.Message.TheVariants as messages
use Rattle.pcep_messages.specs.declared.message.Answer.TheVariants.{Paths, NoPath}
use Rattle.pcep_messages.specs.declared.message.Wish.TheVariants.{Path, Expand}
use Rattle.request_table.specs.Pending.{number_of, opened_of, same_peer, is_full}
use Rattle.plant_model.specs.Names.{has_pair, the_parent}
use Rattle.plant_model.specs.Wire.{Codec, Checked, Admitted, Wrong}
use Rattle.plant_model.specs.Writing.{reply_message, unavailable, busy}
use Rattle.disclosure.specs.Policy.{is_denied}
use Rattle.plant_model.specs.Element.{Waits, Ready, Row, Way, Element, ElementSettings, Taken, each, ended, waiting, way_to, with_last, fresh_id, is_client}
use Rattle.plant_model.specs.Routes.{toward}
use Rattle.plant_model.specs.Branches.{branches_in}
use Rattle.plant_model.specs.Taking.{item_of, sequence_or, goes_up, send_on, take_along, take_path, take_wish, take_new, take_checked, take_asked, staged, answered, made_ready, take_answer, take_reply, told_busy, cancelled, take_busy, take_cancel, notice_steps, take_notice, error_answer, told_error, take_failure, take_errors, take_report, take, sight, wanting}
use Rattle.plant_model.specs.Solving.{commit, client_reply, closed_reply, closed_paths, issued_all, free, job_found}
use Rattle.plant_laws.specs.Certified.{Tells}
use Rattle.plant_laws.proofs.Runs.Rows.{In}

-- the replies of a message
abbrev pub replies_of : Message → List Reply
replies_of (messages.PcRep replies) = replies
replies_of (messages.PcReq asks) = []
replies_of (messages.PcNtf notices) = []
replies_of (messages.PcErr reports) = []
replies_of (messages.Open body) = []
replies_of messages.Keepalive = []
replies_of (messages.Close why) = []
replies_of (messages.Other kind) = []

module _ {P : Type 0} {S : Type 0} (Holds : Element P S → Type 0) where
  -- a request ends
  abbrev pub KeptAtEnds : Type 0
  KeptAtEnds = (n : ℕ) (k : Element P S) → Holds k → Holds (ended n k)

  -- a request is made ready by one of these replies
  abbrev pub KeptAtReplies : Codec → Peer → List Reply → Type 0
  KeptAtReplies c p replies = (r : Reply) (paths : List PathRow) (h : Row P) (k : Element P S) → In r replies → same_peer p the_parent ≡ false →
      waiting p r.id k.pending.rows ≡ Some h → Tells r.answer paths → Holds k → Holds (staged h (Ready (branches_in c h.1.item.wanted.query.metric paths)) k)

  -- a request is opened: the element is the last of its sequence, or sends it on
  pub record Opens (pin : P) (p : Peer) (class : Class) (flags x : ℕ) (w : Wanted) : Type 0 where
    pub ready : (own : As) (k : Element P S) → Holds k → Holds (record k { pending = opened_of k.pending p x (item_of pin class flags w (own ∷ []) (Ready [])) })
    pub sent : (sequence : List As) (on : Peer) (y : ℕ) (k : Element P S) → Holds k →
        Holds (record k { pending = opened_of k.pending p x (item_of pin class flags w sequence (Waits on y)); ways = with_last on y k.ways })

  abbrev pub KeptAtNew : Codec → ElementSettings → P → Peer → Class → Type 0
  KeptAtNew c e pin p class = (a : Asked) (r : Request) (w : Wanted) → c.check a e.own ≡ Admitted r → r.wish ≡ Path w → Opens pin p class r.flags r.id w

  -- keys are issued
  abbrev pub KeptAtKeys : ℕ → (Best → S) → Type 0
  KeptAtKeys now stands = (best : List Best) (k : Element P S) → Holds k → Holds (record k { keys = issued_all now stands best k.keys })

  abbrev After : Taken P S → Type 0
  After t = Holds t.element

  pick : (b : Bool) (t u : Taken P S) → After t → After u → After (cond b t u)
  pick true t u h k = h
  pick false t u h k = k

  pick_by : (b : Bool) (t u : Taken P S) → (b ≡ true → After t) → (b ≡ false → After u) → After (cond b t u)
  pick_by true t u h k = h refl
  pick_by false t u h k = k refl

  each_after : {X : Type 0} (f : X → Element P S → Taken P S) → ((x : X) (k : Element P S) → Holds k → After (f x k)) → (xs : List X) (k : Element P S) → Holds k → After (each f xs k)
  each_after f one [] k h = h
  each_after f one (x ∷ xs) k h = each_after f one xs (f x k).element (one x k h)

  -- ---- replies, notices and errors

  module _ (ends : KeptAtEnds) where
    answered_after : (h : Row P) (m : Message) (k : Element P S) → Holds k → After (answered h m k)
    answered_after h m k holds = ends h.0 k holds

    module _ (c : Codec) (p : Peer) (replies : List Reply) (readies : KeptAtReplies c p replies) where
      ready_after : (h : Row P) (r : Reply) → In r replies → same_peer p the_parent ≡ false → (a : Answer) → r.answer ≡ a → (k : Element P S) → waiting p r.id k.pending.rows ≡ Some h → Holds k → After (made_ready c h a k)
      ready_after h r i below (Paths ps) at k waits holds = readies r ps h k i below waits (subst (λ (a : Answer). Tells a ps) (sym at) refl) holds
      ready_after h r i below (NoPath nature vector) at k waits holds =
          pick_by (nature == 0) _ _
          (λ none. readies r [] h k i below waits (subst (λ (a : Answer). Tells a []) (sym at) (eqb-true nature 0 none, refl)) holds)
          (λ other. answered_after h (reply_message h.1.item.flags h.1.key.id unavailable) k holds)

      pub reply_after : (r : Reply) → In r replies → (k : Element P S) → Holds k → After (take_reply c p r k)
      reply_after r i k holds = go (waiting p r.id k.pending.rows) refl
        where
          go : (o : Option (Row P)) → waiting p r.id k.pending.rows ≡ o → After (take_answer c p r k o)
          go None is = holds
          go (Some row) is =
              pick_by (same_peer p the_parent) _ _
              (λ upper. answered_after row (reply_message row.1.item.flags row.1.key.id r.answer) k holds)
              (λ below. ready_after row r i below r.answer refl k is holds)

      replies_after : (rs : List Reply) → ((r : Reply) → In r rs → In r replies) → (k : Element P S) → Holds k → After (each (take_reply c p) rs k)
      replies_after [] within k holds = holds
      replies_after (r ∷ rs) within k holds = replies_after rs (λ x i. within x (inr i)) (take_reply c p r k).element (reply_after r (within r (inl refl)) k holds)

    busy_after : (p : Peer) (rp : ℕ × ℕ) (k : Element P S) → Holds k → After (take_busy p rp k)
    busy_after p rp k holds = go (waiting p rp.1 k.pending.rows)
      where
        go : (o : Option (Row P)) → After (told_busy k o)
        go None = holds
        go (Some row) = answered_after row (busy row.1.item.flags row.1.key.id) k holds

    cancel_after : (p : Peer) (rp : ℕ × ℕ) (k : Element P S) → Holds k → After (take_cancel p rp k)
    cancel_after p rp k holds = go (number_of k.pending p rp.1)
      where
        go : (o : Option ℕ) → After (cancelled k o)
        go None = holds
        go (Some number) = ends number k holds

    steps_after : (p : Peer) (rp : ℕ × ℕ) (kinds : List (ℕ × ℕ)) (k : Element P S) → Holds k → After (each (λ step. step p rp) (notice_steps kinds) k)
    steps_after p rp kinds k holds = go (has_pair 1 2 kinds) (has_pair 1 1 kinds)
      where
        go : (b a : Bool) → After (each (λ step. step p rp) (cond b (cond a (take_busy ∷ take_cancel ∷ []) (take_busy ∷ [])) (cond a (take_cancel ∷ []) [])) k)
        go true true = cancel_after p rp (take_busy p rp k).element (busy_after p rp k holds)
        go true false = busy_after p rp k holds
        go false true = cancel_after p rp k holds
        go false false = holds

    failure_after : (p : Peer) (e : ℕ × ℕ) (rp : ℕ × ℕ) (k : Element P S) → Holds k → After (take_failure e k (waiting p rp.1 k.pending.rows))
    failure_after p e rp k holds = go (waiting p rp.1 k.pending.rows)
      where
        told : (row : Row P) (ms : List Message) → After (told_error row k ms)
        told row [] = holds
        told row (m ∷ ms) = answered_after row m k holds

        go : (o : Option (Row P)) → After (take_failure e k o)
        go None = holds
        go (Some row) = told row (error_answer e row.1.item.flags row.1.key.id)

    errors_after : (p : Peer) (ids errors : List (ℕ × ℕ)) (k : Element P S) → Holds k → After (take_errors p ids errors k)
    errors_after p ids [] k holds = holds
    errors_after p ids (e ∷ es) k holds = each_after (λ rp k'. take_failure e k' (waiting p rp.1 k'.pending.rows)) (failure_after p e) ids k holds

    -- ---- requests

    module _ (c : Codec) (e : ElementSettings) (pin : P) (p : Peer) (class : Class) where
      on_after : (flags x : ℕ) (w : Wanted) (sequence rest : List As) (refused : Bool) (k : Element P S) (o : Option Way) → Opens pin p class flags x w → Holds k → After (send_on (sight pin p class) (wanting flags x w) sequence rest refused k o)
      on_after flags x w sequence rest refused k None opens holds = holds
      on_after flags x w sequence rest refused k (Some way) opens holds =
          pick way.up _ _ (pick refused _ _ holds (opens.sent sequence way.peer (fresh_id way.peer way.last_id k.pending.rows) k holds)) holds

      along_after : (flags x : ℕ) (w : Wanted) (k : Element P S) (path : List As) → Opens pin p class flags x w → Holds k → After (take_along e (sight pin p class) (wanting flags x w) k path)
      along_after flags x w k [] opens holds = holds
      along_after flags x w k (a ∷ []) opens holds = opens.ready a k holds
      along_after flags x w k (a ∷ b ∷ rest) opens holds = on_after flags x w (a ∷ b ∷ rest) (b ∷ rest) (is_denied e.deny class b) k (way_to (toward b e.routes) k.ways) opens holds

      path_after : (flags x : ℕ) (w : Wanted) (k : Element P S) → Opens pin p class flags x w → Holds k → After (take_path e (sight pin p class) (wanting flags x w) k)
      path_after flags x w k opens holds =
          pick (goes_up e.parent class w.sequence) _ _ (on_after flags x w [] [] false k (way_to the_parent k.ways) opens holds)
          (along_after flags x w k (sequence_or e.own w.sequence) opens holds)

      module _ (show : S → List Hop) (now : ℕ) where
        asked_after : KeptAtNew c e pin p class → (a : Asked) (k : Element P S) → Holds k → After (take_asked c show e pin p class now a k)
        asked_after new a k holds = go (c.check a e.own) refl
          where
            wish_after : (r : Request) → c.check a e.own ≡ Admitted r → (w : Wish) → r.wish ≡ w → After (take_wish show e (sight pin p class) now r.flags r.id k w)
            wish_after r is (Path w) wish = pick (is_full k.pending) _ _ holds (path_after r.flags r.id w k (new a r w is wish) holds)
            wish_after r is (Expand key pce) wish = holds

            fresh : (r : Request) → c.check a e.own ≡ Admitted r → (o : Option ℕ) → After (take_new show e pin p class now r k o)
            fresh r is None = wish_after r is r.wish refl
            fresh r is (Some number) = holds

            go : (o : Checked) → c.check a e.own ≡ o → After (take_checked show e pin p class now k o)
            go (Wrong rp kind value) is = holds
            go (Admitted r) is = fresh r is (number_of k.pending p r.id)

        pub take_after : (m : Message) → (replies_of m ≡ [] → KeptAtNew c e pin p class) → KeptAtReplies c p (replies_of m) → (k : Element P S) → Holds k → After (take c show e pin p class now m k)
        take_after (messages.PcReq asks) new readies k holds = each_after (take_asked c show e pin p class now) (asked_after (new refl)) asks k holds
        take_after (messages.PcRep replies) new readies k holds = replies_after c p replies readies replies (λ r i. i) k holds
        take_after (messages.PcNtf notices) new readies k holds =
            each_after (take_notice p) (λ r k' h'. each_after (λ rp. each (λ step. step p rp) (notice_steps r.kinds)) (λ rp k'' h''. steps_after p rp r.kinds k'' h'') r.ids k' h') notices k holds
        take_after (messages.PcErr reports) new readies k holds = each_after (take_report p) (λ r k' h'. errors_after p r.ids r.errors k' h') reports k holds
        take_after (messages.Open body) new readies k holds = holds
        take_after messages.Keepalive new readies k holds = holds
        take_after (messages.Close why) new readies k holds = holds
        take_after (messages.Other kind) new readies k holds = holds

    -- ---- answers

    pub commit_after : (c : Codec) (e : ElementSettings) (h : Row P) (down : List Branch) (now : ℕ) (stands : Best → S) (source_known target_known : Bool) (best : List Best) → KeptAtKeys now stands → (k : Element P S) →
        Holds k → After (commit c e h down now stands (job_found source_known target_known best) k)
    commit_after c e h down now stands source_known target_known best issues k holds =
        pick (is_client h.1.item.class) (answered h (client_reply c h down source_known target_known best) k) (closed_reply c e h down now stands k best)
        (ends h.0 k holds) (go best)
      where
        go : (bs : List Best) → After (closed_reply c e h down now stands k bs)
        go [] = ends h.0 k holds
        go (b ∷ bs) =
            let k2 = record k { keys = issued_all now stands (b ∷ bs) k.keys } in
            pick (nat_lt (free now k.keys) (length (b ∷ bs))) (answered h (busy h.1.item.flags h.1.key.id) k)
            (answered h (reply_message h.1.item.flags h.1.key.id (Paths (closed_paths c e.id h.1.item.wanted.query.metric h.1.item.wanted.target down k.keys.next (b ∷ bs)))) k2)
            (ends h.0 k holds) (ends h.0 k2 (issues (b ∷ bs) k holds))
