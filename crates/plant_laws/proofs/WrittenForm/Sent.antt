-- What is true of every kind of message that is written is true of all that a run sends.
use Rattle.std.proofs.Common.{◌≡◌, ℕ, Bool, true, false, cond, ◌==◌, nat_lt, Option, Some, None, List, [], ◌∷◌, ◌++◌, length, map, subst, refl}
use Rattle.plant_model.specs.Types.{As, Addr, Peer, Inner, Hop, Message, Request, Reply, Answer, Wanted, Wish, Own, Class, Best, Branch, NetworkParts}
use Rattle.pcep_messages.specs.declared.message.Message.TheVariants as messages
use Rattle.pcep_messages.specs.declared.message.Answer.TheVariants.{Paths, NoPath}
use Rattle.pcep_messages.specs.declared.message.Wish.TheVariants.{Path, Expand}
use Rattle.disclosure.specs.Shown.{open_of}
use Rattle.request_table.specs.Pending.{number_of, same_peer, is_full}
use Rattle.plant_model.specs.declared.output.Output.{Output}
use Rattle.plant_model.specs.declared.output.Lost.{Lost}
use Rattle.plant_text.specs.Names.{parent_as}
use Rattle.plant_model.specs.Names.{the_parent, has_pair}
use Rattle.plant_model.specs.Wire.{Codec, Checked, Admitted, Wrong}
use Rattle.plant_model.specs.Writing.{request_message, reply_message, error_message, busy, unavailable, no_key}
use Rattle.disclosure.specs.Policy.{is_denied}
use Rattle.plant_model.specs.Element.{Row, Way, Element, ElementSettings, Taken, each, way_to, with_last, waiting, is_client, lost_output, downed}
use Rattle.plant_model.specs.Routes.{toward}
use Rattle.plant_model.specs.Taking as taking
use Rattle.plant_model.specs.Taking.{take, sequence_or, goes_up, error_answer}
use Rattle.plant_model.specs.Solving.{commit, client_reply, closed_reply, free, job_found}
use Rattle.plant_model.specs.BorderGraph.{Found}
use Rattle.plant_model.specs.Parent as parent
use Rattle.plant_model.specs.Parent.{Parent, ParentTaken, Family, AskingRow, Wait, Errand}
use Rattle.plant_text.specs.Settings.{class_of}
use Rattle.plant_model.specs.Settings.{place, family}
use Rattle.plant_model.specs.State.{State, Deed}
use Rattle.plant_model.specs.Deeds.{own_message}
use Rattle.plant_model.specs.Plant.{Pin, Segment, Plant, Entry, Run, deeds_of}
use Rattle.plant_laws.specs.Sending.{AreAll, DeedSends, AllSent}
use Rattle.plant_laws.proofs.Once.DeedByDeed.{Does, takes_above, takes_below, downs_above, downs_below, ups_above, ups_below, solves_above, solves_below, pops, hands_out, says_own, clears_link, expires_at, loads_rows}
use Rattle.plant_laws.proofs.Once.DeedByDeed.{run_keeps}

module _ (Q : Message → Type 0) where
  abbrev pub Outs : List Output → Type 0
  Outs os = AreAll Q os

  outs_append : (os ps : List Output) → Outs os → Outs ps → Outs (os ++ ps)
  outs_append [] ps h k = k
  outs_append (o ∷ os) ps h k = (h.0, outs_append os ps h.1 k)

  abbrev pub deed_outs : {S : Type 0} → Deed S → Type 0
  deed_outs d = DeedSends Q d

  abbrev pub AreSent : {S : Type 0} → List (Deed S) → Type 0
  AreSent ds = AllSent Q ds

  pick : (b : Bool) (x y : List Output) → Outs x → Outs y → Outs (cond b x y)
  pick true x y h k = h
  pick false x y h k = k

  module _ (asks : (y : ℕ) (w : Wanted) (t : Addr) (rest : List As) → Q (request_message y w t rest)) (replies : (flags id : ℕ) (a : Answer) → Q (reply_message flags id a))
      (busies : (flags id : ℕ) → Q (busy flags id)) (errors : (rp : Option (ℕ × ℕ)) (kind value : ℕ) → Q (error_message rp kind value)) (owns : (o : Own) → Q (own_message o)) where
    failure_outs : (e : ℕ × ℕ) (flags x : ℕ) (p : Peer) → (m : Message) (ms : List Message) → error_answer e flags x ≡ m ∷ ms → Q m
    failure_outs e flags x p m ms = go (has_pair 8 0 (e ∷ [])) (has_pair e.0 e.1 ((4, 4) ∷ (13, 1) ∷ []))
      where
        head_is : (a b : Message) (as' bs : List Message) → a ∷ as' ≡ b ∷ bs → Q a → Q b
        head_is a b as' bs e q = let is : a ≡ b = cc in subst Q is q

        go : (a b : Bool) → cond a [] (cond b (error_message (Some (flags, x)) 13 1 ∷ []) (reply_message flags x unavailable ∷ [])) ≡ m ∷ ms → Q m
        go true b e = absurd (let out : [] ≡ m ∷ ms = e in cc)
        go false true e = head_is (error_message (Some (flags, x)) 13 1) m [] ms e (errors (Some (flags, x)) 13 1)
        go false false e = head_is (reply_message flags x unavailable) m [] ms e (replies flags x unavailable)

    lost_outs : (ls : List Lost) → Outs (map lost_output ls)
    lost_outs [] = tt
    lost_outs (l ∷ ls) = (replies l.flags l.id unavailable, lost_outs ls)

    module _ (P : Type 0) (S : Type 0) where
      abbrev Fine : Taken P S → Type 0
      Fine t = Outs t.outputs

      choose : (b : Bool) (t u : Taken P S) → Fine t → Fine u → Fine (cond b t u)
      choose true t u h k = h
      choose false t u h k = k

      each_outs : {X : Type 0} (f : X → Element P S → Taken P S) → ((x : X) (k : Element P S) → Fine (f x k)) → (xs : List X) (k : Element P S) → Fine (each f xs k)
      each_outs f one [] k = tt
      each_outs f one (x ∷ xs) k = outs_append (f x k).outputs (each f xs (f x k).element).outputs (one x k) (each_outs f one xs (f x k).element)

      module _ (c : Codec) (show : S → List Hop) (e : ElementSettings) (pin : P) (p : Peer) (class : Class) (now : ℕ) where
        sends : (flags x : ℕ) (w : Wanted) (sequence rest : List As) (r : Bool) (k : Element P S) (o : Option Way) → Fine (taking.send_on (taking.sight pin p class) (taking.wanting flags x w) sequence rest r k o)
        sends flags x w sequence rest r k None = (replies flags x unavailable, tt)
        sends flags x w sequence rest r k (Some way) =
            choose way.up _ _ (choose r _ _ (replies flags x unavailable, tt) (asks _ w w.target rest, tt)) (replies flags x unavailable, tt)

        along : (flags x : ℕ) (w : Wanted) (k : Element P S) (sequence : List As) → Fine (taking.take_along e (taking.sight pin p class) (taking.wanting flags x w) k sequence)
        along flags x w k [] = (replies flags x unavailable, tt)
        along flags x w k (a ∷ []) = tt
        along flags x w k (a ∷ b ∷ rest) = sends flags x w (a ∷ b ∷ rest) (b ∷ rest) (is_denied e.deny class b) k (way_to (toward b e.routes) k.ways)

        wishes : (flags x : ℕ) (k : Element P S) (wish : Wish) → Fine (taking.take_wish show e (taking.sight pin p class) now flags x k wish)
        wishes flags x k (Expand key pce) = (replies flags x (taking.expansion show e class now key pce k), tt)
        wishes flags x k (Path w) =
            choose (is_full k.pending) _ _ (busies flags x, tt)
            (choose (goes_up e.parent class w.sequence) _ _ (sends flags x w [] [] false k (way_to the_parent k.ways)) (along flags x w k (sequence_or e.own w.sequence)))

        news : (r : Request) (k : Element P S) (o : Option ℕ) → Fine (taking.take_new show e pin p class now r k o)
        news r k None = wishes r.flags r.id k r.wish
        news r k (Some number) = tt

        checks : (k : Element P S) (r : Checked) → Fine (taking.take_checked show e pin p class now k r)
        checks k (Wrong rp kind value) = (errors rp kind value, tt)
        checks k (Admitted r) = news r k (number_of k.pending p r.id)

        ready : (h : Row P) (a : Answer) (k : Element P S) → Fine (taking.made_ready c h a k)
        ready h (Paths ps) k = tt
        ready h (NoPath nature vector) k = choose (nature == 0) _ _ tt (replies h.1.item.flags h.1.key.id unavailable, tt)

        answers : (r : Reply) (k : Element P S) (o : Option (Row P)) → Fine (taking.take_answer c p r k o)
        answers r k None = (errors (Some (r.flags, r.id)) 8 0, tt)
        answers r k (Some h) = choose (same_peer p the_parent) _ _ (replies h.1.item.flags h.1.key.id r.answer, tt) (ready h r.answer k)

        busy_told : (k : Element P S) (o : Option (Row P)) → Fine (taking.told_busy k o)
        busy_told k None = tt
        busy_told k (Some h) = (busies h.1.item.flags h.1.key.id, tt)

        cancel_told : (k : Element P S) (o : Option ℕ) → Fine (taking.cancelled k o)
        cancel_told k None = tt
        cancel_told k (Some number) = tt

        step_outs : (rp : ℕ × ℕ) (kinds : List (ℕ × ℕ)) (k : Element P S) → Fine (each (λ (step : Peer → ℕ × ℕ → Element P S → Taken P S). step p rp) (taking.notice_steps kinds) k)
        step_outs rp kinds k = go (has_pair 1 2 kinds) (has_pair 1 1 kinds)
          where
            busy_one : (k : Element P S) → Fine (taking.take_busy p rp k)
            busy_one k = busy_told k (waiting p rp.1 k.pending.rows)

            cancel_one : (k : Element P S) → Fine (taking.take_cancel p rp k)
            cancel_one k = cancel_told k (number_of k.pending p rp.1)

            go : (a b : Bool) → Fine (each (λ (step : Peer → ℕ × ℕ → Element P S → Taken P S). step p rp) (cond a (cond b (taking.take_busy ∷ taking.take_cancel ∷ []) (taking.take_busy ∷ [])) (cond b (taking.take_cancel ∷ []) [])) k)
            go true true =
                let t = taking.take_busy p rp k in
                let u = taking.take_cancel p rp t.element in
                outs_append t.outputs (u.outputs ++ []) (busy_one k) (outs_append u.outputs [] (cancel_one t.element) tt)
            go true false = outs_append (taking.take_busy p rp k).outputs [] (busy_one k) tt
            go false true = outs_append (taking.take_cancel p rp k).outputs [] (cancel_one k) tt
            go false false = tt

        told : (h : Row P) (k : Element P S) (ms : List Message) → ((m : Message) (rest : List Message) → ms ≡ m ∷ rest → Q m) → Fine (taking.told_error h k ms)
        told h k [] q = tt
        told h k (m ∷ ms) q = (q m ms refl, tt)

        failures : (f : ℕ × ℕ) (k : Element P S) (o : Option (Row P)) → Fine (taking.take_failure f k o)
        failures f k None = tt
        failures f k (Some h) = told h k (error_answer f h.1.item.flags h.1.key.id) (failure_outs f h.1.item.flags h.1.key.id p)

        report_outs : (ids : List (ℕ × ℕ)) (es : List (ℕ × ℕ)) (k : Element P S) → Fine (taking.take_errors p ids es k)
        report_outs ids [] k = tt
        report_outs ids (f ∷ fs) k = each_outs (λ (rp : ℕ × ℕ) k. taking.take_failure f k (waiting p rp.1 k.pending.rows)) (λ rp k. failures f k (waiting p rp.1 k.pending.rows)) ids k

        pub take_outs : (m : Message) (k : Element P S) → Fine (take c show e pin p class now m k)
        take_outs (messages.PcReq as') k = each_outs (taking.take_asked c show e pin p class now) (λ a k. checks k (c.check a e.own)) as' k
        take_outs (messages.PcRep rs) k = each_outs (taking.take_reply c p) (λ r k. answers r k (waiting p r.id k.pending.rows)) rs k
        take_outs (messages.PcNtf ns) k =
            each_outs (taking.take_notice p) (λ x k. each_outs (λ (rp : ℕ × ℕ). each (λ (step : Peer → ℕ × ℕ → Element P S → Taken P S). step p rp) (taking.notice_steps x.kinds)) (λ rp k. step_outs rp x.kinds k) x.ids k) ns k
        take_outs (messages.PcErr rs) k = each_outs (taking.take_report p) (λ r k. report_outs r.ids r.errors k) rs k
        take_outs (messages.Open body) k = tt
        take_outs messages.Keepalive k = tt
        take_outs (messages.Close why) k = tt
        take_outs (messages.Other kind) k = tt

      pub commit_outs : (c : Codec) (e : ElementSettings) (h : Row P) (down : List Branch) (now : ℕ) (stands : Best → S) (s t : Bool) (best : List Best) (k : Element P S) → Fine (commit c e h down now stands (job_found s t best) k)
      commit_outs c e h down now stands s t best k = choose (is_client h.1.item.class) _ _ (client best) (closed best)
        where
          client : (best : List Best) → Fine (taking.answered h (client_reply c h down s t best) k)
          client [] = (replies h.1.item.flags h.1.key.id _, tt)
          client (b ∷ bs) = (replies h.1.item.flags h.1.key.id _, tt)

          closed : (best : List Best) → Fine (closed_reply c e h down now stands k best)
          closed [] = (replies h.1.item.flags h.1.key.id _, tt)
          closed (b ∷ bs) = choose (nat_lt (free now k.keys) (length (b ∷ bs))) _ _ (busies h.1.item.flags h.1.key.id, tt) (replies h.1.item.flags h.1.key.id _, tt)

      pub downed_outs : (p : Peer) (k : Element P S) → Fine (downed p k)
      downed_outs p k = lost_outs _

    -- the same of the parent
    abbrev Given_fine : ParentTaken → Type 0
    Given_fine t = Outs t.outputs

    given_choose : (b : Bool) (t u : ParentTaken) → Given_fine t → Given_fine u → Given_fine (cond b t u)
    given_choose true t u h k = h
    given_choose false t u h k = k

    given_each : {X : Type 0} (f : X → Parent → ParentTaken) → ((x : X) (k : Parent) → Given_fine (f x k)) → (xs : List X) (k : Parent) → Given_fine (parent.each f xs k)
    given_each f one [] k = tt
    given_each f one (x ∷ xs) k = outs_append (f x k).outputs (parent.each f xs (f x k).parent).outputs (one x k) (given_each f one xs (f x k).parent)

    all_asks : (w : Wanted) (taken : List Wait) (rs : List Errand) (ways : List Way) → Outs (parent.ask_all w taken rs ways).outputs
    all_asks w taken [] ways = tt
    all_asks w taken (r ∷ rs) ways =
        let p = Inner r.child in
        let y = parent.next_id p taken ways in
        let one : Wait = record { peer = p; id = y; child = r.child; target = r.target } in
        (asks y w r.target (r.child ∷ []), all_asks w (one ∷ taken) rs (with_last p y ways))

    module _ (c : Codec) (f : Family) (p : Peer) where
      given_wish : (flags x : ℕ) (k : Parent) (wish : Wish) → Given_fine (parent.take_wish f p flags x k wish)
      given_wish flags x k (Expand key pce) = (replies flags x no_key, tt)
      given_wish flags x k (Path w) =
          given_choose (is_full k.pending) _ _ (busies flags x, tt)
          (given_choose (parent.all_up f.children k.ways) _ _ (all_asks w (parent.all_waits k.pending.rows) (parent.errands f.links w.target f.children) k.ways) (replies flags x unavailable, tt))

      given_new : (r : Request) (k : Parent) (o : Option ℕ) → Given_fine (parent.take_new f p r k o)
      given_new r k None = given_wish r.flags r.id k r.wish
      given_new r k (Some number) = tt

      given_check : (k : Parent) (r : Checked) → Given_fine (parent.take_checked f p k r)
      given_check k (Wrong rp kind value) = (errors rp kind value, tt)
      given_check k (Admitted r) = given_new r k (number_of k.pending p r.id)

      given_answer : (y : ℕ) (h : AskingRow) (k : Parent) (a : Answer) → Given_fine (parent.take_answer c p y h k a)
      given_answer y h k (Paths ps) = tt
      given_answer y h k (NoPath nature vector) = given_choose (nature == 0) _ _ tt (replies h.1.item.flags h.1.key.id unavailable, tt)

      given_found : (r : Reply) (k : Parent) (o : Option AskingRow) → Given_fine (parent.take_found c p r k o)
      given_found r k None = (errors (Some (r.flags, r.id)) 8 0, tt)
      given_found r k (Some h) = given_answer r.id h k r.answer

      given_busy : (k : Parent) (o : Option AskingRow) → Given_fine (parent.told_busy k o)
      given_busy k None = tt
      given_busy k (Some h) = (busies h.1.item.flags h.1.key.id, tt)

      given_cancel : (k : Parent) (o : Option ℕ) → Given_fine (parent.cancelled k o)
      given_cancel k None = tt
      given_cancel k (Some number) = tt

      given_steps : (rp : ℕ × ℕ) (kinds : List (ℕ × ℕ)) (k : Parent) → Given_fine (parent.each (λ (step : Peer → ℕ × ℕ → Parent → ParentTaken). step p rp) (parent.notice_steps kinds) k)
      given_steps rp kinds k = go (has_pair 1 2 kinds) (has_pair 1 1 kinds)
        where
          busy_one : (k : Parent) → Given_fine (parent.take_busy p rp k)
          busy_one k = given_busy k (parent.waiting p rp.1 k.pending.rows)

          cancel_one : (k : Parent) → Given_fine (parent.take_cancel p rp k)
          cancel_one k = given_cancel k (number_of k.pending p rp.1)

          go : (a b : Bool) → Given_fine (parent.each (λ (step : Peer → ℕ × ℕ → Parent → ParentTaken). step p rp) (cond a (cond b (parent.take_busy ∷ parent.take_cancel ∷ []) (parent.take_busy ∷ [])) (cond b (parent.take_cancel ∷ []) [])) k)
          go true true =
              let t = parent.take_busy p rp k in
              let u = parent.take_cancel p rp t.parent in
              outs_append t.outputs (u.outputs ++ []) (busy_one k) (outs_append u.outputs [] (cancel_one t.parent) tt)
          go true false = outs_append (parent.take_busy p rp k).outputs [] (busy_one k) tt
          go false true = outs_append (parent.take_cancel p rp k).outputs [] (cancel_one k) tt
          go false false = tt

      given_told : (h : AskingRow) (k : Parent) (ms : List Message) → ((m : Message) (rest : List Message) → ms ≡ m ∷ rest → Q m) → Given_fine (parent.told_error h k ms)
      given_told h k [] q = tt
      given_told h k (m ∷ ms) q = (q m ms refl, tt)

      given_failure : (e : ℕ × ℕ) (k : Parent) (o : Option AskingRow) → Given_fine (parent.take_failure e k o)
      given_failure e k None = tt
      given_failure e k (Some h) = given_told h k (error_answer e h.1.item.flags h.1.key.id) (failure_outs e h.1.item.flags h.1.key.id p)

      given_report : (ids : List (ℕ × ℕ)) (es : List (ℕ × ℕ)) (k : Parent) → Given_fine (parent.take_errors p ids es k)
      given_report ids [] k = tt
      given_report ids (e ∷ es) k = given_each (λ (rp : ℕ × ℕ) k. parent.take_failure e k (parent.waiting p rp.1 k.pending.rows)) (λ rp k. given_failure e k (parent.waiting p rp.1 k.pending.rows)) ids k

      pub given_take : (m : Message) (k : Parent) → Given_fine (parent.take c f p m k)
      given_take (messages.PcReq as') k = given_each (parent.take_asked c f p) (λ a k. given_check k (c.check a parent_as)) as' k
      given_take (messages.PcRep rs) k = given_each (parent.take_reply c p) (λ r k. given_found r k (parent.waiting p r.id k.pending.rows)) rs k
      given_take (messages.PcNtf ns) k =
          given_each (parent.take_notice p) (λ x k. given_each (λ (rp : ℕ × ℕ). parent.each (λ (step : Peer → ℕ × ℕ → Parent → ParentTaken). step p rp) (parent.notice_steps x.kinds)) (λ rp k. given_steps rp x.kinds k) x.ids k) ns k
      given_take (messages.PcErr rs) k = given_each (parent.take_report p) (λ r k. given_report r.ids r.errors k) rs k
      given_take (messages.Open body) k = tt
      given_take messages.Keepalive k = tt
      given_take (messages.Close why) k = tt
      given_take (messages.Other kind) k = tt

    pub given_commit : (c : Codec) (h : AskingRow) (o : Option Found) (k : Parent) → Given_fine (parent.commit c h o k)
    given_commit c h None k = (replies h.1.item.flags h.1.key.id _, tt)
    given_commit c h (Some a) k = (replies h.1.item.flags h.1.key.id _, tt)

    pub given_downed : (p : Peer) (k : Parent) → Given_fine (parent.downed p k)
    given_downed p k = lost_outs _

    -- all that a run sends
    module _ (c : Codec) (n : NetworkParts) where
      does_send : (s t : State Pin Segment) (e : Deed Segment) → Does c n s e t → DeedSends Q e
      does_send s t e (takes_above at p m s' up) = given_take c (family n) p m s.parent
      does_send s t e (takes_below at p m s' low heard) = take_outs Pin Segment c open_of (place n at) (s.current at) p (class_of n p) s.clock m (s.elements at)
      does_send s t e (downs_above at p s' up) = given_downed p s.parent
      does_send s t e (downs_below at p s' low) = downed_outs Pin Segment p (s.elements at)
      does_send s t e (solves_above k h s' x) = given_commit c (k, x.held) x.answer s.parent
      does_send s t e (solves_below d k h s' x) = commit_outs Pin Segment c (place n d) (k, x.held) x.down s.clock (λ b. b.segment) x.rows.source_known x.rows.target_known x.rows.best (s.elements d)
      does_send s t e (says_own at p o s') = (owns o, tt)
      does_send s t e _ = tt

      pub run_sent : (es : List Entry) (s : Plant) → Run c n es s → AreSent (deeds_of c n es)
      run_sent = run_keeps c n (λ ds s. AreSent ds) (λ ds s t elements above current all. all) (λ ds s t e does all. (does_send s t e does, all)) tt
