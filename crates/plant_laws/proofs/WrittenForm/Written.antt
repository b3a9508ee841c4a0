-- What elements and the parent write: replies, notices of a full table, errors and requests.
use Rattle.std.proofs.Common.{◌==◌, nat_lt, ℕ, Bool, true, false, cond, List, [], ◌∷◌, ◌++◌, length, map, Option, Some, None}
use Rattle.plant_model.specs.Types.{As, Addr, Peer, Inner, Hop, Answer, Message, Reply, Request, Wanted, Wish, Class, Best, Branch}
use Rattle.pcep_messages.specs.declared.message.Answer.TheVariants.{Paths, NoPath}
use Rattle.pcep_messages.specs.declared.message.Message.TheVariants as messages
use Rattle.pcep_messages.specs.declared.message.Wish.TheVariants.{Path, Expand}
use Rattle.request_table.specs.Pending.{same_peer, number_of, is_full}
use Rattle.plant_model.specs.declared.output.Output.{Output}
use Rattle.plant_model.specs.declared.output.Lost.{Lost}
use Rattle.plant_text.specs.Names.{parent_as}
use Rattle.plant_model.specs.Names.{has_pair, the_parent}
use Rattle.plant_model.specs.Wire.{Codec, Checked, Admitted, Wrong}
use Rattle.plant_model.specs.Writing.{request_message, reply_message, error_message, busy, unavailable}
use Rattle.disclosure.specs.Policy.{is_denied}
use Rattle.plant_model.specs.Element.{Element, Row, Way, ElementSettings, Taken, each, way_to, is_client, lost_output, waiting, with_last}
use Rattle.plant_model.specs.Routes.{toward}
use Rattle.plant_model.specs.Taking.{take, take_asked, take_checked, take_new, take_wish, take_path, take_along, send_on, sequence_or, goes_up, take_reply, take_answer, made_ready, take_notice, notice_steps, take_busy, take_cancel, told_busy, cancelled, take_report, take_errors, take_failure, told_error, error_answer, sight, wanting}
use Rattle.plant_model.specs.Solving.{commit, closed_reply, client_reply, free, job_found}
use Rattle.plant_model.specs.BorderGraph.{Found}
use Rattle.plant_model.specs.Parent as parent
use Rattle.plant_model.specs.Parent.{Parent, ParentTaken, Family, AskingRow, Errand, Wait, ask_all, next_id}

-- W holds of each message, and of whom it is for
abbrev pub AllOut : (Peer → Message → Type 0) → List Output → Type 0
AllOut W [] = Unit {0}
AllOut W (o ∷ os) = W o.to o.message × AllOut W os

pub all_append : (W : Peer → Message → Type 0) (xs ys : List Output) → AllOut W xs → AllOut W ys → AllOut W (xs ++ ys)
all_append W [] ys h g = g
all_append W (x ∷ xs) ys h g = (h.0, all_append W xs ys h.1 g)

module _ (W : Peer → Message → Type 0) (w_reply : (p : Peer) (flags id : ℕ) (a : Answer) → W p (reply_message flags id a)) (w_busy : (p : Peer) (flags id : ℕ) → W p (busy flags id))
    (w_error : (p : Peer) (rp : Option (ℕ × ℕ)) (kind value : ℕ) → W p (error_message rp kind value)) (w_request : (p : Peer) (id : ℕ) (w : Wanted) (t : Addr) (rest : List As) → W p (request_message id w t rest)) where
  module _ (P : Type 0) (S : Type 0) where
    pick : (b : Bool) (x y : Taken P S) → AllOut W x.outputs → AllOut W y.outputs → AllOut W (cond b x y).outputs
    pick true x y h g = h
    pick false x y h g = g

    each_all : {X : Type 0} (f : X → Element P S → Taken P S) (xs : List X) (k : Element P S) → ((x : X) (k : Element P S) → AllOut W (f x k).outputs) → AllOut W (each f xs k).outputs
    each_all f [] k h = tt
    each_all f (x ∷ xs) k h = all_append W (f x k).outputs (each f xs (f x k).element).outputs (h x k) (each_all f xs (f x k).element h)

    module _ (c : Codec) (show : S → List Hop) (e : ElementSettings) (pin : P) (p : Peer) (class : Class) (now : ℕ) where
      send_all : (flags x : ℕ) (w : Wanted) (sequence rest : List As) (refused : Bool) (k : Element P S) (way : Option Way) →
          AllOut W (send_on (sight pin p class) (wanting flags x w) sequence rest refused k way).outputs
      send_all flags x w sequence rest refused k None = (w_reply p flags x unavailable, tt)
      send_all flags x w sequence rest refused k (Some way) =
          pick way.up _ _ (pick refused _ _ (w_reply p flags x unavailable, tt) (w_request way.peer _ w w.target rest, tt)) (w_reply p flags x unavailable, tt)

      along_all : (flags x : ℕ) (w : Wanted) (k : Element P S) (sequence : List As) → AllOut W (take_along e (sight pin p class) (wanting flags x w) k sequence).outputs
      along_all flags x w k [] = (w_reply p flags x unavailable, tt)
      along_all flags x w k (a ∷ []) = tt
      along_all flags x w k (a ∷ b ∷ rest) = send_all flags x w (a ∷ b ∷ rest) (b ∷ rest) (is_denied e.deny class b) k (way_to (toward b e.routes) k.ways)

      path_all : (flags x : ℕ) (w : Wanted) (k : Element P S) → AllOut W (take_path e (sight pin p class) (wanting flags x w) k).outputs
      path_all flags x w k =
          pick (goes_up e.parent class w.sequence) (send_on (sight pin p class) (wanting flags x w) [] [] false k (way_to the_parent k.ways)) (take_along e (sight pin p class) (wanting flags x w) k (sequence_or e.own w.sequence))
          (send_all flags x w [] [] false k (way_to the_parent k.ways))
          (along_all flags x w k (sequence_or e.own w.sequence))

      wish_all : (flags x : ℕ) (k : Element P S) (wish : Wish) → AllOut W (take_wish show e (sight pin p class) now flags x k wish).outputs
      wish_all flags x k (Path w) = pick (is_full k.pending) _ (take_path e (sight pin p class) (wanting flags x w) k) (w_busy p flags x, tt) (path_all flags x w k)
      wish_all flags x k (Expand key pce) = (w_reply p flags x _, tt)

      new_all : (r : Request) (k : Element P S) (number : Option ℕ) → AllOut W (take_new show e pin p class now r k number).outputs
      new_all r k (Some number) = tt
      new_all r k None = wish_all r.flags r.id k r.wish

      checked_all : (k : Element P S) (o : Checked) → AllOut W (take_checked show e pin p class now k o).outputs
      checked_all k (Wrong rp kind value) = (w_error p rp kind value, tt)
      checked_all k (Admitted r) = new_all r k (number_of k.pending p r.id)

      ready_all : (h : Row P) (answer : Answer) (k : Element P S) → AllOut W (made_ready c h answer k).outputs
      ready_all h (Paths ps) k = tt
      ready_all h (NoPath nature vector) k = pick (nature == 0) _ _ tt (w_reply h.1.key.peer h.1.item.flags h.1.key.id unavailable, tt)

      answer_all : (r : Reply) (k : Element P S) (o : Option (Row P)) → AllOut W (take_answer c p r k o).outputs
      answer_all r k None = (w_error p (Some (r.flags, r.id)) 8 0, tt)
      answer_all r k (Some h) = pick (same_peer p the_parent) _ (made_ready c h r.answer k) (w_reply h.1.key.peer h.1.item.flags h.1.key.id r.answer, tt) (ready_all h r.answer k)

      busy_all : (k : Element P S) (o : Option (Row P)) → AllOut W (told_busy k o).outputs
      busy_all k None = tt
      busy_all k (Some h) = (w_busy h.1.key.peer h.1.item.flags h.1.key.id, tt)

      cancel_all : (k : Element P S) (o : Option ℕ) → AllOut W (cancelled k o).outputs
      cancel_all k None = tt
      cancel_all k (Some number) = tt

      steps_all : (kinds : List (ℕ × ℕ)) (rp : ℕ × ℕ) (k : Element P S) → AllOut W (each (λ step. step p rp) (notice_steps kinds) k).outputs
      steps_all kinds rp k = go (has_pair 1 2 kinds) (has_pair 1 1 kinds)
        where
          busy' : (j : Element P S) → AllOut W (take_busy p rp j).outputs
          busy' j = busy_all j (waiting p rp.1 j.pending.rows)

          cancel : (j : Element P S) → AllOut W (take_cancel p rp j).outputs
          cancel j = cancel_all j (number_of j.pending p rp.1)

          go : (b b' : Bool) → AllOut W (each (λ (step : Peer → ℕ × ℕ → Element P S → Taken P S). step p rp) (cond b (cond b' (take_busy ∷ take_cancel ∷ []) (take_busy ∷ [])) (cond b' (take_cancel ∷ []) [])) k).outputs
          go true true = all_append W (take_busy p rp k).outputs _ (busy' k) (all_append W (take_cancel p rp (take_busy p rp k).element).outputs [] (cancel (take_busy p rp k).element) tt)
          go true false = all_append W (take_busy p rp k).outputs [] (busy' k) tt
          go false true = all_append W (take_cancel p rp k).outputs [] (cancel k) tt
          go false false = tt

      error_all : (e' : ℕ × ℕ) (h : Row P) (k : Element P S) → AllOut W (told_error h k (error_answer e' h.1.item.flags h.1.key.id)).outputs
      error_all e' h k = go (has_pair 8 0 (e' ∷ [])) (has_pair e'.0 e'.1 ((4, 4) ∷ (13, 1) ∷ []))
        where
          go : (b b' : Bool) →
              AllOut W (told_error h k (cond b [] (cond b' (error_message (Some (h.1.item.flags, h.1.key.id)) 13 1 ∷ []) (reply_message h.1.item.flags h.1.key.id unavailable ∷ [])))).outputs
          go true b' = tt
          go false true = (w_error h.1.key.peer (Some (h.1.item.flags, h.1.key.id)) 13 1, tt)
          go false false = (w_reply h.1.key.peer h.1.item.flags h.1.key.id unavailable, tt)

      failure_all : (e' : ℕ × ℕ) (k : Element P S) (o : Option (Row P)) → AllOut W (take_failure e' k o).outputs
      failure_all e' k None = tt
      failure_all e' k (Some h) = error_all e' h k

      errors_all : (ids errors : List (ℕ × ℕ)) (k : Element P S) → AllOut W (take_errors p ids errors k).outputs
      errors_all ids [] k = tt
      errors_all ids (e' ∷ es) k = each_all (λ rp j. take_failure e' j (waiting p rp.1 j.pending.rows)) ids k (λ rp j. failure_all e' j (waiting p rp.1 j.pending.rows))

      pub take_all : (m : Message) (k : Element P S) → AllOut W (take c show e pin p class now m k).outputs
      take_all (messages.PcReq asks) k = each_all (take_asked c show e pin p class now) asks k (λ a j. checked_all j (c.check a e.own))
      take_all (messages.PcRep replies) k = each_all (take_reply c p) replies k (λ r j. answer_all r j (waiting p r.id j.pending.rows))
      take_all (messages.PcNtf notices) k = each_all (take_notice p) notices k (λ r j. each_all (λ rp. each (λ step. step p rp) (notice_steps r.kinds)) r.ids j (λ rp j'. steps_all r.kinds rp j'))
      take_all (messages.PcErr reports) k = each_all (take_report p) reports k (λ r j. errors_all r.ids r.errors j)
      take_all (messages.Open body) k = tt
      take_all messages.Keepalive k = tt
      take_all (messages.Close why) k = tt
      take_all (messages.Other kind) k = tt

    pub commit_all : (c : Codec) (e : ElementSettings) (h : Row P) (down : List Branch) (now : ℕ) (stands : Best → S) (source_known target_known : Bool) (best : List Best) (k : Element P S) →
        AllOut W (commit c e h down now stands (job_found source_known target_known best) k).outputs
    commit_all c e h down now stands source_known target_known best k = pick (is_client h.1.item.class) _ (closed_reply c e h down now stands k best) (client best, tt) (closed best)
      where
        client : (best : List Best) → W h.1.key.peer (client_reply c h down source_known target_known best)
        client [] = w_reply h.1.key.peer h.1.item.flags h.1.key.id _
        client (b ∷ bs) = w_reply h.1.key.peer h.1.item.flags h.1.key.id _

        closed : (best : List Best) → AllOut W (closed_reply c e h down now stands k best).outputs
        closed [] = (w_reply h.1.key.peer h.1.item.flags h.1.key.id (NoPath 0 0), tt)
        closed (b ∷ bs) = pick (nat_lt (free now k.keys) (length (b ∷ bs))) _ _ (w_busy h.1.key.peer h.1.item.flags h.1.key.id, tt) (w_reply h.1.key.peer h.1.item.flags h.1.key.id _, tt)

  pub lost_all : (ls : List Lost) → AllOut W (map lost_output ls)
  lost_all [] = tt
  lost_all (l ∷ ls) = (w_reply l.to l.flags l.id unavailable, lost_all ls)

  -- the parent
  pick_up : (b : Bool) (x y : ParentTaken) → AllOut W x.outputs → AllOut W y.outputs → AllOut W (cond b x y).outputs
  pick_up true x y h g = h
  pick_up false x y h g = g

  each_up : {X : Type 0} (f : X → Parent → ParentTaken) (xs : List X) (k : Parent) → ((x : X) (k : Parent) → AllOut W (f x k).outputs) → AllOut W (parent.each f xs k).outputs
  each_up f [] k h = tt
  each_up f (x ∷ xs) k h = all_append W (f x k).outputs (parent.each f xs (f x k).parent).outputs (h x k) (each_up f xs (f x k).parent h)

  module _ (c : Codec) (f : Family) (p : Peer) where
    asked_all : (w : Wanted) (taken : List Wait) (rs : List Errand) (ways : List Way) → AllOut W (ask_all w taken rs ways).outputs
    asked_all w taken [] ways = tt
    asked_all w taken (r ∷ rs) ways =
        let y = next_id (Inner r.child) taken ways in
        let one : Wait = record { peer = Inner r.child; id = y; child = r.child; target = r.target } in
        (w_request (Inner r.child) y w r.target (r.child ∷ []), asked_all w (one ∷ taken) rs (with_last (Inner r.child) y ways))

    wish_up : (flags x : ℕ) (k : Parent) (wish : Wish) → AllOut W (parent.take_wish f p flags x k wish).outputs
    wish_up flags x k (Path w) =
        pick_up (is_full k.pending) _ (cond (parent.all_up f.children k.ways) (parent.take_path f p flags x w k) (parent.only p (reply_message flags x unavailable) k)) (w_busy p flags x, tt)
        (pick_up (parent.all_up f.children k.ways) (parent.take_path f p flags x w k) _
        (asked_all w (parent.all_waits k.pending.rows) (parent.errands f.links w.target f.children) k.ways) (w_reply p flags x unavailable, tt))
    wish_up flags x k (Expand key pce) = (w_reply p flags x _, tt)

    new_up : (r : Request) (k : Parent) (number : Option ℕ) → AllOut W (parent.take_new f p r k number).outputs
    new_up r k (Some number) = tt
    new_up r k None = wish_up r.flags r.id k r.wish

    checked_up : (k : Parent) (o : Checked) → AllOut W (parent.take_checked f p k o).outputs
    checked_up k (Wrong rp kind value) = (w_error p rp kind value, tt)
    checked_up k (Admitted r) = new_up r k (number_of k.pending p r.id)

    answer_up : (y : ℕ) (h : AskingRow) (k : Parent) (a : Answer) → AllOut W (parent.take_answer c p y h k a).outputs
    answer_up y h k (Paths ps) = tt
    answer_up y h k (NoPath nature vector) = pick_up (nature == 0) _ _ tt (w_reply h.1.key.peer h.1.item.flags h.1.key.id unavailable, tt)

    found_up : (r : Reply) (k : Parent) (o : Option AskingRow) → AllOut W (parent.take_found c p r k o).outputs
    found_up r k None = (w_error p (Some (r.flags, r.id)) 8 0, tt)
    found_up r k (Some h) = answer_up r.id h k r.answer

    busy_up : (k : Parent) (o : Option AskingRow) → AllOut W (parent.told_busy k o).outputs
    busy_up k None = tt
    busy_up k (Some h) = (w_busy h.1.key.peer h.1.item.flags h.1.key.id, tt)

    cancel_up : (k : Parent) (o : Option ℕ) → AllOut W (parent.cancelled k o).outputs
    cancel_up k None = tt
    cancel_up k (Some number) = tt

    steps_up : (kinds : List (ℕ × ℕ)) (rp : ℕ × ℕ) (k : Parent) → AllOut W (parent.each (λ step. step p rp) (parent.notice_steps kinds) k).outputs
    steps_up kinds rp k = go (has_pair 1 2 kinds) (has_pair 1 1 kinds)
      where
        busy' : (j : Parent) → AllOut W (parent.take_busy p rp j).outputs
        busy' j = busy_up j (parent.waiting p rp.1 j.pending.rows)

        cancel : (j : Parent) → AllOut W (parent.take_cancel p rp j).outputs
        cancel j = cancel_up j (number_of j.pending p rp.1)

        go : (b b' : Bool) → AllOut W (parent.each (λ (step : Peer → ℕ × ℕ → Parent → ParentTaken). step p rp) (cond b (cond b' (parent.take_busy ∷ parent.take_cancel ∷ []) (parent.take_busy ∷ [])) (cond b' (parent.take_cancel ∷ []) [])) k).outputs
        go true true = all_append W (parent.take_busy p rp k).outputs _ (busy' k) (all_append W (parent.take_cancel p rp (parent.take_busy p rp k).parent).outputs [] (cancel (parent.take_busy p rp k).parent) tt)
        go true false = all_append W (parent.take_busy p rp k).outputs [] (busy' k) tt
        go false true = all_append W (parent.take_cancel p rp k).outputs [] (cancel k) tt
        go false false = tt

    error_up : (e' : ℕ × ℕ) (h : AskingRow) (k : Parent) → AllOut W (parent.told_error h k (error_answer e' h.1.item.flags h.1.key.id)).outputs
    error_up e' h k = go (has_pair 8 0 (e' ∷ [])) (has_pair e'.0 e'.1 ((4, 4) ∷ (13, 1) ∷ []))
      where
        go : (b b' : Bool) →
            AllOut W (parent.told_error h k (cond b [] (cond b' (error_message (Some (h.1.item.flags, h.1.key.id)) 13 1 ∷ []) (reply_message h.1.item.flags h.1.key.id unavailable ∷ [])))).outputs
        go true b' = tt
        go false true = (w_error h.1.key.peer (Some (h.1.item.flags, h.1.key.id)) 13 1, tt)
        go false false = (w_reply h.1.key.peer h.1.item.flags h.1.key.id unavailable, tt)

    failure_up : (e' : ℕ × ℕ) (k : Parent) (o : Option AskingRow) → AllOut W (parent.take_failure e' k o).outputs
    failure_up e' k None = tt
    failure_up e' k (Some h) = error_up e' h k

    errors_up : (ids errors : List (ℕ × ℕ)) (k : Parent) → AllOut W (parent.take_errors p ids errors k).outputs
    errors_up ids [] k = tt
    errors_up ids (e' ∷ es) k = each_up (λ rp j. parent.take_failure e' j (parent.waiting p rp.1 j.pending.rows)) ids k (λ rp j. failure_up e' j (parent.waiting p rp.1 j.pending.rows))

    pub take_up : (m : Message) (k : Parent) → AllOut W (parent.take c f p m k).outputs
    take_up (messages.PcReq asks) k = each_up (parent.take_asked c f p) asks k (λ a j. checked_up j (c.check a parent_as))
    take_up (messages.PcRep replies) k = each_up (parent.take_reply c p) replies k (λ r j. found_up r j (parent.waiting p r.id j.pending.rows))
    take_up (messages.PcNtf notices) k =
        each_up (parent.take_notice p) notices k (λ r j. each_up (λ rp. parent.each (λ step. step p rp) (parent.notice_steps r.kinds)) r.ids j (λ rp j'. steps_up r.kinds rp j'))
    take_up (messages.PcErr reports) k = each_up (parent.take_report p) reports k (λ r j. errors_up r.ids r.errors j)
    take_up (messages.Open body) k = tt
    take_up messages.Keepalive k = tt
    take_up (messages.Close why) k = tt
    take_up (messages.Other kind) k = tt

  pub commit_up : (c : Codec) (h : AskingRow) (a : Option Found) (k : Parent) → AllOut W (parent.commit c h a k).outputs
  commit_up c h None k = (w_reply h.1.key.peer h.1.item.flags h.1.key.id _, tt)
  commit_up c h (Some a) k = (w_reply h.1.key.peer h.1.item.flags h.1.key.id _, tt)
