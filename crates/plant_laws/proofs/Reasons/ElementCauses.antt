-- What an element says to a message has its cause.
use Rattle.std.proofs.Common.{◌≡◌, ℕ, Bool, true, false, cond, List, [], ◌∷◌, ◌++◌, map, Option, Some, None, sym, ◌∙◌, ap, subst, refl}
use Rattle.std.specs.Prelude.{◌==◌}
use Rattle.std.proofs.Common.{eqb-true, eq-eqb}
use Rattle.plant_model.specs.Types.{As, Addr, Peer, Message, Asked, Reply, Notice, ErrorReport, Answer, Request, Wanted, Wish, NetworkParts}
use Rattle.pcep_codes.specs.declared.errors.TheConstants as errors
use Rattle.pcep_codes.specs.declared.notices.TheConstants as notices
use Rattle.pcep_codes.specs.declared.no_paths.TheConstants as no_paths
use Rattle.pcep_messages.specs.declared.message.Message.TheVariants as messages
use Rattle.pcep_messages.specs.declared.message.Answer.TheVariants.{Paths, NoPath}
use Rattle.pcep_messages.specs.declared.message.Wish.TheVariants.{Path, Expand}
use Rattle.disclosure.specs.Policy.{can_expand, is_denied}
use Rattle.disclosure.specs.Shown.{open_of}
use Rattle.request_table.specs.Pending.{number_of, is_full, same_peer}
use Rattle.path_keys.specs.Keys.{segment_of}
use Rattle.plant_text.specs.Settings.{class_of}
use Rattle.plant_model.specs.declared.output.Output.{Output}
use Rattle.plant_model.specs.Names.{the_parent, same_addr, has_pair}
use Rattle.plant_model.specs.Wire.{Codec, Checked, Admitted, Wrong}
use Rattle.plant_model.specs.Writing.{request_message, reply_message, busy, unavailable, no_key}
use Rattle.plant_model.specs.Element.{Element, Row, Way, Taken, only, each, waiting, fresh_id, way_to}
use Rattle.plant_model.specs.Routes.{toward}
use Rattle.plant_model.specs.Taking.{sequence_or, goes_up, denied, send_on, sent_on, take_along, take_path, expansion_of, expansion, take_wish, take_new, take_checked, take_asked, answered, made_ready, take_answer, take_reply, told_busy, cancelled, take_busy, take_cancel, notice_steps, take_notice, told_error, take_failure, take_errors, take_report, take, sight, wanting}
use Rattle.plant_model.specs.Parent.{is_up}
use Rattle.plant_model.specs.Settings.{place}
use Rattle.plant_model.specs.Plant.{Pin, Segment}
use Rattle.plant_laws.specs.MessageCauses.{Asker, WaitsAt, TellsOfPaths, OnReply, unknown, goes_on, is_kept, is_broken, OnNotice, next_is_full, noted_for_nobody, of_other_kind, OnError, failed_for_nobody, of_reply, out_of_profile, other_error, GoesTo, upward, along, OnPath, ends_here, no_session, is_refused, IsBehind, OnRequest, wrong, again, key_shown, key_refused, no_room, for_path, Part, Asks, Replies, Notes, Fails, alone, noted, failed_by, failed, OnMessage}
use Rattle.plant_laws.specs.MessageCauses as causes
use Rattle.plant_laws.proofs.Reasons.PartCauses as part
use Rattle.plant_laws.proofs.Reasons.PartCauses.{full_is, has_room, no_pair}
use Rattle.plant_laws.proofs.Once.Counting.{waiting_in}
use Rattle.plant_laws.proofs.Numbering.Taken.{waiting_none, waiting_at}
use Rattle.plant_laws.proofs.Once.Takes.{own_is}
use Rattle.plant_laws.proofs.Numbering.Onward.{way_peer}
use Rattle.plant_laws.proofs.Reasons.PartCauses.{contains_at, in_at, not_both}
use Rattle.plant_laws.proofs.Least.BestParts.{same_addr_is}
use Rattle.plant_laws.proofs.Runs.Decompose.{nil_right}
use Rattle.dom_base.specs.AddrOrder.{rank}

never_empty : (own : As) (s : List As) → sequence_or own s ≡ [] → ⊥
never_empty own [] e = cc
never_empty own (a ∷ rest) e = cc

module _ (c : Codec) (n : NetworkParts) (d : As) (pin : Pin) (p : Peer) (now : ℕ) where
  abbrev Elem : Type 0
  Elem = Element Pin Segment

  abbrev Told : Type 0
  Told = Taken Pin Segment

  abbrev asker : Request → Asker
  asker r = record { peer = p; flags = r.flags; id = r.id }

  abbrev of_row : Row Pin → Asker
  of_row h = record { peer = h.1.key.peer; flags = h.1.item.flags; id = h.1.key.id }

  pick : {T : Type 0} (Q : T → Type 0) (b : Bool) (t u : T) → (b ≡ true → Q t) → (b ≡ false → Q u) → Q (cond b t u)
  pick Q true t u f g = f refl
  pick Q false t u f g = g refl

  -- ---- whoever waits

  nobody_waits : (y : ℕ) (k : Elem) → waiting p y k.pending.rows ≡ None → (a : Asker) → ¬ WaitsAt k p y a
  nobody_waits y k none a w = waiting_none Pin Segment p y k.pending.rows none w.row (in_at w.row k.pending.rows w.is_row) w.waits

  waits_here : (y : ℕ) (k : Elem) (h : Row Pin) → waiting p y k.pending.rows ≡ Some h → WaitsAt k p y (of_row h)
  waits_here y k h is = record {
    row = h;
    is_row = contains_at h k.pending.rows (waiting_in p y k.pending.rows h is);
    waits = waiting_at Pin Segment p y k.pending.rows h is;
    asked = refl;
  }

  -- ---- a request

  module _ (k : Elem) (r : Request) (w : Wanted) where
    abbrev Goes : Told → Type 0
    Goes t = OnPath n d k (asker r) w t.outputs

    send_case : (next : Peer) (sequence rest : List As) (refused : Bool) → GoesTo n d p w next rest refused → (o : Option Way) → way_to next k.ways ≡ o →
        Goes (send_on (sight pin p (class_of n p)) (wanting r.flags r.id w) sequence rest refused k o)
    send_case next sequence rest refused goes None is = no_session next rest refused goes (ap is_up is) refl
    send_case next sequence rest refused goes (Some way) is =
        pick Goes way.up _ (denied p r.flags r.id k)
        (λ up. pick Goes refused (denied p r.flags r.id k) (sent_on (sight pin p (class_of n p)) (wanting r.flags r.id w) sequence rest k way)
        (λ hit. is_refused next rest (subst (λ (b : Bool). GoesTo n d p w next rest b) hit goes) refl)
        (λ miss. causes.sent_on next rest way (subst (λ (b : Bool). GoesTo n d p w next rest b) miss goes) is up
        (ap (λ (z : Peer). let o : Output = record { to = z; message = request_message (fresh_id z way.last_id k.pending.rows) w w.target rest } in o ∷ []) (way_peer next k.ways way is))))
        (λ down. no_session next rest refused goes (ap is_up is ∙ down) refl)

    along_on : goes_up (place n d).parent (class_of n p) w.sequence ≡ false → (s : List As) → sequence_or d w.sequence ≡ s →
        Goes (take_along (place n d) (sight pin p (class_of n p)) (wanting r.flags r.id w) k s)
    along_on down [] is = absurd (never_empty d w.sequence is)
    along_on down (a ∷ []) is = ends_here a down is refl
    along_on down (a ∷ b ∷ rest) is =
        let to = toward b (place n d).routes in
        send_case to (a ∷ b ∷ rest) (b ∷ rest) (is_denied (place n d).deny (class_of n p) b) (along a b rest down is refl refl refl) (way_to to k.ways) refl

    path_on : Goes (take_path (place n d) (sight pin p (class_of n p)) (wanting r.flags r.id w) k)
    path_on =
        pick Goes (goes_up (place n d).parent (class_of n p) w.sequence) _ _
        (λ up. send_case the_parent [] [] false (upward up refl refl refl) (way_to the_parent k.ways) refl)
        (λ down. subst (λ (o : As). Goes (take_along (place n d) (sight pin p (class_of n p)) (wanting r.flags r.id w) k (sequence_or o w.sequence))) (sym (own_is n d)) (along_on down (sequence_or d w.sequence) refl))

  module _ (a : Asked) (k : Elem) where
    abbrev Request_on : List Output → Type 0
    Request_on os = OnRequest c n d p now a k os

    module _ (r : Request) (is : c.check a d ≡ Admitted r) (new : number_of k.pending p r.id ≡ None) where
      module _ (key : ℕ) (pce : Addr) (wish : r.wish ≡ Expand key pce) where
        abbrev Expands : Answer → Type 0
        Expands x = Request_on (causes.replied (asker r) x)

        not_shown : ((segment : Segment) → ¬ IsBehind n d p now k key pce segment) → Expands no_key
        not_shown none = key_refused r key pce is new wish none refl

        live_on : same_addr pce (place n d).id ≡ true → can_expand (class_of n p) ≡ true → (o : Option Segment) → segment_of k.keys now key ≡ o → Expands (expansion_of open_of o)
        live_on own may None none = not_shown (λ s b. (let clash : None ≡ Some s = sym none ∙ b.live in cc))
        live_on own may (Some s) live = key_shown r key pce s is new wish (record { own = same_addr_is pce (place n d).id own; may = may; live = live }) refl

        key_on : Expands (expansion open_of (place n d) (class_of n p) now key pce k)
        key_on =
            pick Expands (same_addr pce (place n d).id) _ no_key
            (λ own. pick Expands (can_expand (class_of n p)) (expansion_of open_of (segment_of k.keys now key)) no_key
            (λ may. live_on own may (segment_of k.keys now key) refl)
            (λ never. not_shown (λ s b. not_both (can_expand (class_of n p)) b.may never)))
            (λ foreign. not_shown (λ s b. not_both (same_addr pce (place n d).id) (eq-eqb (rank pce) (rank (place n d).id) (ap rank b.own)) foreign))

      wish_on : (x : Wish) → r.wish ≡ x → Request_on (take_wish open_of (place n d) (sight pin p (class_of n p)) now r.flags r.id k x).outputs
      wish_on (Path w) wish =
          pick (λ (t : Told). Request_on t.outputs) (is_full k.pending) (only p (busy r.flags r.id) k) (take_path (place n d) (sight pin p (class_of n p)) (wanting r.flags r.id w) k)
          (λ full. no_room r w is new wish (full_is k.pending full) refl)
          (λ room. for_path r w is new wish (has_room k.pending room) (path_on k r w))
      wish_on (Expand key pce) wish = key_on key pce wish

    new_on : (r : Request) → c.check a d ≡ Admitted r → (o : Option ℕ) → number_of k.pending p r.id ≡ o → Request_on (take_new open_of (place n d) pin p (class_of n p) now r k o).outputs
    new_on r is None new = wish_on r is new r.wish refl
    new_on r is (Some number) hit = again r number is hit refl

    checked_on : (o : Checked) → c.check a d ≡ o → Request_on (take_checked open_of (place n d) pin p (class_of n p) now k o).outputs
    checked_on (Wrong rp kind value) is = wrong rp kind value is refl
    checked_on (Admitted r) is = new_on r is (number_of k.pending p r.id) refl

    request_on : Request_on (take_asked c open_of (place n d) pin p (class_of n p) now a k).outputs
    request_on = subst (λ (o : As). Request_on (take_checked open_of (place n d) pin p (class_of n p) now k (c.check a o)).outputs) (sym (own_is n d)) (checked_on (c.check a d) refl)

  -- ---- a reply

  module _ (r : Reply) (k : Elem) where
    abbrev Reply_on : Told → Type 0
    Reply_on t = OnReply (WaitsAt k p r.id) (same_peer p the_parent) p r t.outputs

    ready_on : (h : Row Pin) → waiting p r.id k.pending.rows ≡ Some h → same_peer p the_parent ≡ false → (x : Answer) → r.answer ≡ x → Reply_on (made_ready c h x k)
    ready_on h is down (Paths ps) ans = is_kept (of_row h) (waits_here r.id k h is) down (subst TellsOfPaths (sym ans) tt) refl
    ready_on h is down (NoPath nature vector) ans =
        pick Reply_on (nature == no_paths.NONE_FOUND) _ (answered h (reply_message h.1.item.flags h.1.key.id unavailable) k)
        (λ none. is_kept (of_row h) (waits_here r.id k h is) down (subst TellsOfPaths (sym ans) (eqb-true nature no_paths.NONE_FOUND none)) refl)
        (λ some. is_broken (of_row h) (waits_here r.id k h is) down (λ t. not_both (nature == no_paths.NONE_FOUND) (eq-eqb nature no_paths.NONE_FOUND (subst TellsOfPaths ans t)) some) refl)

    reply_on : Reply_on (take_reply c p r k)
    reply_on = go (waiting p r.id k.pending.rows) refl
      where
        go : (o : Option (Row Pin)) → waiting p r.id k.pending.rows ≡ o → Reply_on (take_answer c p r k o)
        go None is = unknown (nobody_waits r.id k is) refl
        go (Some h) is =
            pick Reply_on (same_peer p the_parent) (answered h (reply_message h.1.item.flags h.1.key.id r.answer) k) (made_ready c h r.answer k)
            (λ up. goes_on (of_row h) (waits_here r.id k h is) up refl) (λ down. ready_on h is down r.answer refl)

  -- ---- an id of a notice, and of a report

  module _ (kinds : List (ℕ × ℕ)) (rp : ℕ × ℕ) (k : Elem) where
    abbrev Notice_on : List Output → Type 0
    Notice_on os = OnNotice (WaitsAt k p rp.1) kinds os

    abbrev Steps_on : List (Peer → ℕ × ℕ → Elem → Told) → Type 0
    Steps_on steps = Notice_on (each (λ step. step p rp) steps k).outputs

    busy_on : has_pair notices.BUSY.0 notices.BUSY.1 kinds ≡ true → Notice_on (take_busy p rp k).outputs
    busy_on busy' = go (waiting p rp.1 k.pending.rows) refl
      where
        go : (o : Option (Row Pin)) → waiting p rp.1 k.pending.rows ≡ o → Notice_on (told_busy k o).outputs
        go None is = noted_for_nobody (nobody_waits rp.1 k is) refl
        go (Some h) is = next_is_full (of_row h) busy' (waits_here rp.1 k h is) refl

    cancel_none : (k' : Elem) (o : Option ℕ) → (cancelled k' o).outputs ≡ []
    cancel_none k' None = refl
    cancel_none k' (Some number) = refl

    abbrev after_busy : Elem
    after_busy = (take_busy p rp k).element

    notice_on : Steps_on (notice_steps kinds)
    notice_on =
        pick Steps_on (has_pair notices.BUSY.0 notices.BUSY.1 kinds) _ _
        (λ busy'. pick Steps_on (has_pair notices.CANCELLED.0 notices.CANCELLED.1 kinds) (take_busy ∷ take_cancel ∷ []) (take_busy ∷ [])
        (λ cancels'. subst Notice_on
        (sym (ap (λ (os : List Output). (take_busy p rp k).outputs ++ (os ++ [])) (cancel_none after_busy (number_of after_busy.pending p rp.1)) ∙ nil_right (take_busy p rp k).outputs)) (busy_on busy'))
        (λ keeps. subst Notice_on (sym (nil_right (take_busy p rp k).outputs)) (busy_on busy')))
        (λ calm. pick Steps_on (has_pair notices.CANCELLED.0 notices.CANCELLED.1 kinds) (take_cancel ∷ []) []
        (λ cancels'. of_other_kind calm (ap (λ (os : List Output). os ++ []) (cancel_none k (number_of k.pending p rp.1))))
        (λ keeps. of_other_kind calm refl))

  module _ (e rp : ℕ × ℕ) (k : Elem) where
    abbrev Error_on : List Output → Type 0
    Error_on os = OnError (WaitsAt k p rp.1) e os

    error_on : Error_on (take_failure e k (waiting p rp.1 k.pending.rows)).outputs
    error_on = go (waiting p rp.1 k.pending.rows) refl
      where
        go : (o : Option (Row Pin)) → waiting p rp.1 k.pending.rows ≡ o → Error_on (take_failure e k o).outputs
        go None is = failed_for_nobody (nobody_waits rp.1 k is) refl
        go (Some h) is =
            pick (λ (ms : List Message). Error_on (told_error h k ms).outputs) (has_pair errors.UNKNOWN_REQUEST.0 errors.UNKNOWN_REQUEST.1 (e ∷ [])) [] _
            (λ hit. of_reply (part.unknown_is e hit) refl)
            (λ miss. pick (λ (ms : List Message). Error_on (told_error h k ms).outputs) (has_pair e.0 e.1 (errors.PARAMETER_NOT_SERVED ∷ errors.CHAIN_FAILED ∷ [])) _ _
            (λ out. out_of_profile (of_row h) (waits_here rp.1 k h is) (part.profile_is e out) refl)
            (λ inside. other_error (of_row h) (waits_here rp.1 k h is) ((no_pair errors.UNKNOWN_REQUEST.0 errors.UNKNOWN_REQUEST.1 e [] miss).0) (part.in_profile e inside) refl))

  -- ---- a message

  abbrev left : Message → Elem → Elem
  left m k = (take c open_of (place n d) pin p (class_of n p) now m k).element

  abbrev Ons : List Part → Elem → List Output → Type 0
  Ons xs k os = part.Ons Elem (λ k'. WaitsAt k' p) (OnRequest c n d p now) left (same_peer p the_parent) p xs k os

  abbrev left_by : List Part → Elem → Elem
  left_by xs k = part.left_by Elem (λ k'. WaitsAt k' p) (OnRequest c n d p now) left (same_peer p the_parent) p xs k

  append_on : (xs ys : List Part) (k : Elem) (os os' : List Output) → Ons xs k os → Ons ys (left_by xs k) os' → Ons (xs ++ ys) k (os ++ os')
  append_on xs ys k os os' h h' = part.on_append Elem (λ k'. WaitsAt k' p) (OnRequest c n d p now) left (same_peer p the_parent) p xs ys k os os' h h'

  module _ {X : Type 0} (part_of : X → Part) (f : X → Elem → Told) (same : (x : X) (k : Elem) → left (alone (part_of x)) k ≡ (f x k).element)
      (says : (x : X) (k : Elem) → part.On Elem (λ k'. WaitsAt k' p) (OnRequest c n d p now) left (same_peer p the_parent) p (part_of x) k (f x k).outputs) where
    each_on : (xs : List X) (k : Elem) → Ons (map part_of xs) k (each f xs k).outputs
    each_on [] k = refl
    each_on (x ∷ xs) k =
        ((f x k).outputs, (each f xs (f x k).element).outputs, refl, says x k, subst (λ (k' : Elem). Ons (map part_of xs) k' (each f xs (f x k).element).outputs) (sym (same x k)) (each_on xs (f x k).element))

    each_left : (xs : List X) (k : Elem) → left_by (map part_of xs) k ≡ (each f xs k).element
    each_left [] k = refl
    each_left (x ∷ xs) k = ap (left_by (map part_of xs)) (same x k) ∙ each_left xs (f x k).element

  noted_on : (ns : List Notice) (k : Elem) → Ons (noted ns) k (each (take_notice p) ns k).outputs
  noted_on [] k = refl
  noted_on (m ∷ ms) k =
      append_on (map (Notes m.kinds) m.ids) (noted ms) k (take_notice p m k).outputs (each (take_notice p) ms (take_notice p m k).element).outputs
      (each_on (Notes m.kinds) (λ rp. each (λ step. step p rp) (notice_steps m.kinds)) (λ rp k'. refl) (notice_on m.kinds) m.ids k)
      (subst (λ (k' : Elem). Ons (noted ms) k' (each (take_notice p) ms (take_notice p m k).element).outputs)
      (sym (each_left (Notes m.kinds) (λ rp. each (λ step. step p rp) (notice_steps m.kinds)) (λ rp k'. refl) (notice_on m.kinds) m.ids k)) (noted_on ms (take_notice p m k).element))

  report_on : (ids es : List (ℕ × ℕ)) (k : Elem) → Ons (failed_by ids es) k (take_errors p ids es k).outputs
  report_on ids [] k = refl
  report_on ids (e ∷ es) k = each_on (Fails e) (λ rp k'. take_failure e k' (waiting p rp.1 k'.pending.rows)) (λ rp k'. refl) (error_on e) ids k

  report_left : (ids es : List (ℕ × ℕ)) (k : Elem) → left_by (failed_by ids es) k ≡ (take_errors p ids es k).element
  report_left ids [] k = refl
  report_left ids (e ∷ es) k = each_left (Fails e) (λ rp k'. take_failure e k' (waiting p rp.1 k'.pending.rows)) (λ rp k'. refl) (error_on e) ids k

  failed_on : (rs : List ErrorReport) (k : Elem) → Ons (failed rs) k (each (take_report p) rs k).outputs
  failed_on [] k = refl
  failed_on (r ∷ rs) k =
      append_on (failed_by r.ids r.errors) (failed rs) k (take_report p r k).outputs (each (take_report p) rs (take_report p r k).element).outputs (report_on r.ids r.errors k)
      (subst (λ (k' : Elem). Ons (failed rs) k' (each (take_report p) rs (take_report p r k).element).outputs) (sym (report_left r.ids r.errors k)) (failed_on rs (take_report p r k).element))

  pub message_on : (m : Message) (k : Elem) → OnMessage c n d pin p now m k (take c open_of (place n d) pin p (class_of n p) now m k).outputs
  message_on (messages.PcReq asks) k = each_on Asks (take_asked c open_of (place n d) pin p (class_of n p) now) (λ a k'. refl) request_on asks k
  message_on (messages.PcRep replies) k = each_on Replies (take_reply c p) (λ r k'. refl) reply_on replies k
  message_on (messages.PcNtf ns) k = noted_on ns k
  message_on (messages.PcErr reports) k = failed_on reports k
  message_on (messages.Open body) k = refl
  message_on messages.Keepalive k = refl
  message_on (messages.Close why) k = refl
  message_on (messages.Other kind) k = refl
