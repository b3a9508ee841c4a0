-- What the parent says to a message has its cause.
use Rattle.std.proofs.Common.{◌≡◌, ℕ, Bool, true, false, cond, List, [], ◌∷◌, ◌++◌, map, Option, Some, None, sym, ◌∙◌, ap, subst, inl, inr, refl, eqb-true, eq-eqb}
use Rattle.std.proofs.lemmas.Bool.{cases_Bool}
use Rattle.std.specs.Prelude.{◌==◌}
use Rattle.plant_model.specs.Types.{As, Peer, Inner, Message, Asked, Reply, Notice, ErrorReport, Answer, Request, Wanted, Wish, NetworkParts}
use Rattle.pcep_codes.specs.declared.errors.TheConstants as errors
use Rattle.pcep_codes.specs.declared.notices.TheConstants as notices
use Rattle.pcep_codes.specs.declared.no_paths.TheConstants as no_paths
use Rattle.pcep_messages.specs.declared.message.Message.TheVariants as messages
use Rattle.pcep_messages.specs.declared.message.Answer.TheVariants.{Paths, NoPath}
use Rattle.pcep_messages.specs.declared.message.Wish.TheVariants.{Path, Expand}
use Rattle.request_table.specs.Pending.{number_of, is_full, same_peer}
use Rattle.plant_text.specs.Names.{parent_as}
use Rattle.plant_text.specs.Settings.{children}
use Rattle.plant_model.specs.declared.output.Output.{Output}
use Rattle.plant_model.specs.Names.{same_id, has_pair}
use Rattle.plant_model.specs.Wire.{Codec, Checked, Admitted, Wrong}
use Rattle.plant_model.specs.Writing.{reply_message, busy, unavailable}
use Rattle.plant_model.specs.Element.{Way, way_to, with_last}
use Rattle.plant_model.specs.Parent.{Wait, AskingRow, Parent, ParentTaken, Errand, only, each, errands, among, waiting, all_waits, next_id, ask_all, is_up, all_up, take_path, take_wish, take_new, take_checked, take_asked, answered, gathers, take_answer, take_found, take_reply, told_busy, cancelled, take_busy, take_cancel, notice_steps, take_notice, told_error, take_failure, take_errors, take_report, take}
use Rattle.plant_model.specs.Settings.{family}
use Rattle.plant_laws.specs.MessageCauses.{Asker, WaitsAbove, TellsOfPaths, OnReply, unknown, is_kept, is_broken, OnNotice, next_is_full, noted_for_nobody, of_other_kind, OnError, failed_for_nobody, of_reply, out_of_profile, other_error, AreAsked, OnRequestAbove, wrong_above, again_above, key_above, no_room_above, child_down, all_asked, Part, Asks, Replies, Notes, Fails, alone, noted, failed_by, failed, OnMessageAbove}
use Rattle.plant_laws.proofs.Reasons.PartCauses as part
use Rattle.plant_laws.proofs.Reasons.PartCauses.{full_is, has_room, no_pair, contains_at, in_at, not_both}
use Rattle.plant_laws.proofs.Once.Handing.{In}
use Rattle.plant_laws.proofs.Once.CountingUpper.{waiting_in}
use Rattle.request_table.proofs.KeyLemmas.{same_peer_self as peer_self}
use Rattle.plant_laws.proofs.Numbering.SentOn.{same_peer_is}
use Rattle.plant_laws.proofs.Runs.Decompose.{nil_right}

pick : {T : Type 0} (Q : T → Type 0) (b : Bool) (t u : T) → (b ≡ true → Q t) → (b ≡ false → Q u) → Q (cond b t u)
pick Q true t u f g = f refl
pick Q false t u f g = g refl

-- ---- whoever waits

same_id_at : (p q : Peer) (x y : ℕ) → same_id p x q y ≡ true → (p ≡ q) × (x ≡ y)
same_id_at p q x y e = elim (cases_Bool (same_peer p q)) [
  | inl hit ↦ (same_peer_is p q hit, eqb-true x y (rw hit at e))
  | inr miss ↦ absurd (let no : false ≡ true = rw miss at e in cc)
]

same_id_self : (p : Peer) (y : ℕ) → same_id p y p y ≡ true
same_id_self p y = ap (λ (b : Bool). cond b (y == y) false) (peer_self p) ∙ eq-eqb y y refl

among_at : (p : Peer) (y : ℕ) (ws : List Wait) → among p ws y ≡ true → (w : Wait) × In w ws × (w.peer ≡ p) × (w.id ≡ y)
among_at p y [] e = cc
among_at p y (w ∷ ws) e = elim (cases_Bool (same_id w.peer w.id p y)) [
  | inl hit ↦ (let is = same_id_at w.peer p w.id y hit in (w, inl refl, is.0, is.1))
  | inr miss ↦ (let more = among_at p y ws (rw miss at e) in (more.0, inr more.1, more.2, more.3))
]

none_among : (p : Peer) (y : ℕ) (ws : List Wait) (w : Wait) → among p ws y ≡ false → In w ws → w.peer ≡ p → w.id ≡ y → ⊥
none_among p y [] w e none peer id = none
none_among p y (v ∷ ws) w e (inl same) peer id =
    let hit : same_id v.peer v.id p y ≡ true =
    ap (λ (z : Wait). same_id z.peer z.id p y) (sym same) ∙ ap (λ (q : Peer). same_id q w.id p y) peer ∙ ap (λ (x : ℕ). same_id p x p y) id ∙ same_id_self p y in
    let clash : true ≡ false = rw hit at e in cc
none_among p y (v ∷ ws) w e (inr more) peer id = elim (cases_Bool (same_id v.peer v.id p y)) [
  | inl hit ↦ absurd (let clash : true ≡ false = rw hit at e in cc)
  | inr miss ↦ none_among p y ws w (rw miss at e) more peer id
]

waiting_among : (p : Peer) (y : ℕ) (rows : List AskingRow) (h : AskingRow) → waiting p y rows ≡ Some h → among p h.1.item.waits y ≡ true
waiting_among p y [] h e = cc
waiting_among p y (g ∷ rows) h e = go (among p g.1.item.waits y) refl e (waiting_among p y rows h)
  where
    go : (b : Bool) → among p g.1.item.waits y ≡ b → cond b (Some g) (waiting p y rows) ≡ Some h → (waiting p y rows ≡ Some h → among p h.1.item.waits y ≡ true) → among p h.1.item.waits y ≡ true
    go true hit e rec = let same : g ≡ h = cc in subst (λ (r : AskingRow). among p r.1.item.waits y ≡ true) same hit
    go false miss e rec = rec e

none_waiting : (p : Peer) (y : ℕ) (rows : List AskingRow) (h : AskingRow) → waiting p y rows ≡ None → In h rows → among p h.1.item.waits y ≡ false
none_waiting p y [] h e none = absurd none
none_waiting p y (g ∷ rows) h e in' = go (among p g.1.item.waits y) refl e in' (none_waiting p y rows h)
  where
    go : (b : Bool) → among p g.1.item.waits y ≡ b → cond b (Some g) (waiting p y rows) ≡ None → In h (g ∷ rows) → (waiting p y rows ≡ None → In h rows → among p h.1.item.waits y ≡ false) → among p h.1.item.waits y ≡ false
    go true hit e in' rec = cc
    go false miss e (inl same) rec = ap (λ (r : AskingRow). among p r.1.item.waits y) same ∙ miss
    go false miss e (inr more) rec = rec e more

-- ---- the children

asked_on : (w : Wanted) (taken : List Wait) (rs : List Errand) (ways : List Way) → AreAsked w rs (ask_all w taken rs ways).outputs
asked_on w taken [] ways = refl
asked_on w taken (r ∷ rs) ways =
    let p = Inner r.child in
    let y = next_id p taken ways in
    let one : Wait = record { peer = p; id = y; child = r.child; target = r.target } in
    (y, (ask_all w (one ∷ taken) rs (with_last p y ways)).outputs, refl, asked_on w (one ∷ taken) rs (with_last p y ways))

up_each : (cs : List As) (ways : List Way) → all_up cs ways ≡ true → (child : As) → In child cs → is_up (way_to (Inner child) ways) ≡ true
up_each [] ways e child none = absurd none
up_each (a ∷ cs) ways e child in' = elim (cases_Bool (is_up (way_to (Inner a) ways))) [
  | inl up ↦ elim in' [ inl same ↦ ap (λ (z : As). is_up (way_to (Inner z) ways)) same ∙ up | inr more ↦ up_each cs ways (rw up at e) child more ]
  | inr down ↦ absurd (let clash : false ≡ true = rw down at e in cc)
]

one_down : (cs : List As) (ways : List Way) → all_up cs ways ≡ false → (child : As) × In child cs × (is_up (way_to (Inner child) ways) ≡ false)
one_down [] ways e = absurd (let clash : true ≡ false = e in cc)
one_down (a ∷ cs) ways e = elim (cases_Bool (is_up (way_to (Inner a) ways))) [
  | inl up ↦ (let more = one_down cs ways (rw up at e) in (more.0, inr more.1, more.2))
  | inr down ↦ (a, inl refl, down)
]

module _ (c : Codec) (n : NetworkParts) (p : Peer) where
  abbrev asker : Request → Asker
  asker r = record { peer = p; flags = r.flags; id = r.id }

  abbrev of_row : AskingRow → Asker
  of_row h = record { peer = h.1.key.peer; flags = h.1.item.flags; id = h.1.key.id }

  nobody_waits : (y : ℕ) (k : Parent) → waiting p y k.pending.rows ≡ None → (a : Asker) → ¬ WaitsAbove k p y a
  nobody_waits y k none a w =
      none_among p y w.row.1.item.waits w.wait (none_waiting p y k.pending.rows w.row none (in_at w.row k.pending.rows w.is_row)) (in_at w.wait w.row.1.item.waits w.is_wait) w.peer w.id

  waits_here : (y : ℕ) (k : Parent) (h : AskingRow) → waiting p y k.pending.rows ≡ Some h → WaitsAbove k p y (of_row h)
  waits_here y k h is =
      let w = among_at p y h.1.item.waits (waiting_among p y k.pending.rows h is) in
      record {
        row = h;
        is_row = contains_at h k.pending.rows (waiting_in p y k.pending.rows h is);
        wait = w.0;
        is_wait = contains_at w.0 h.1.item.waits w.1;
        peer = w.2;
        id = w.3;
        asked = refl;
      }

  -- ---- a request

  module _ (a : Asked) (k : Parent) where
    abbrev Request_on : List Output → Type 0
    Request_on os = OnRequestAbove c n p a k os

    abbrev Given_on : ParentTaken → Type 0
    Given_on t = Request_on t.outputs

    wish_on : (r : Request) → c.check a parent_as ≡ Admitted r → number_of k.pending p r.id ≡ None → (x : Wish) → r.wish ≡ x → Given_on (take_wish (family n) p r.flags r.id k x)
    wish_on r is new (Expand key pce) wish = key_above r key pce is new wish refl
    wish_on r is new (Path w) wish =
        pick Given_on (is_full k.pending) (only p (busy r.flags r.id) k) _
        (λ full. no_room_above r w is new wish (full_is k.pending full) refl)
        (λ room. pick Given_on (all_up (children n) k.ways) (take_path (family n) p r.flags r.id w k) _
        (λ up. all_asked r w is new wish (has_room k.pending room) (λ child in'. up_each (children n) k.ways up child (in_at child (children n) in'))
        (asked_on w (all_waits k.pending.rows) (errands n.parent_links w.target (children n)) k.ways))
        (λ down. (let one = one_down (children n) k.ways down in child_down r w one.0 is new wish (has_room k.pending room) (contains_at one.0 (children n) one.1) one.2 refl)))

    new_on : (r : Request) → c.check a parent_as ≡ Admitted r → (o : Option ℕ) → number_of k.pending p r.id ≡ o → Given_on (take_new (family n) p r k o)
    new_on r is None new = wish_on r is new r.wish refl
    new_on r is (Some number) hit = again_above r number is hit refl

    checked_on : (o : Checked) → c.check a parent_as ≡ o → Given_on (take_checked (family n) p k o)
    checked_on (Wrong rp kind value) is = wrong_above rp kind value is refl
    checked_on (Admitted r) is = new_on r is (number_of k.pending p r.id) refl

    request_on : Given_on (take_asked c (family n) p a k)
    request_on = checked_on (c.check a parent_as) refl

  -- ---- a reply

  module _ (r : Reply) (k : Parent) where
    abbrev Reply_on : ParentTaken → Type 0
    Reply_on t = OnReply (WaitsAbove k p r.id) false p r t.outputs

    answer_on : (h : AskingRow) → waiting p r.id k.pending.rows ≡ Some h → (x : Answer) → r.answer ≡ x → Reply_on (take_answer c p r.id h k x)
    answer_on h is (Paths ps) ans = is_kept (of_row h) (waits_here r.id k h is) refl (subst TellsOfPaths (sym ans) tt) refl
    answer_on h is (NoPath nature vector) ans =
        pick Reply_on (nature == no_paths.NONE_FOUND) (gathers p r.id [] h k) (answered h (reply_message h.1.item.flags h.1.key.id unavailable) k)
        (λ none. is_kept (of_row h) (waits_here r.id k h is) refl (subst TellsOfPaths (sym ans) (eqb-true nature no_paths.NONE_FOUND none)) refl)
        (λ some. is_broken (of_row h) (waits_here r.id k h is) refl (λ t. not_both (nature == no_paths.NONE_FOUND) (eq-eqb nature no_paths.NONE_FOUND (subst TellsOfPaths ans t)) some) refl)

    reply_on : Reply_on (take_reply c p r k)
    reply_on = go (waiting p r.id k.pending.rows) refl
      where
        go : (o : Option AskingRow) → waiting p r.id k.pending.rows ≡ o → Reply_on (take_found c p r k o)
        go None is = unknown (nobody_waits r.id k is) refl
        go (Some h) is = answer_on h is r.answer refl

  -- ---- an id of a notice, and of a report

  module _ (kinds : List (ℕ × ℕ)) (rp : ℕ × ℕ) (k : Parent) where
    abbrev Notice_on : List Output → Type 0
    Notice_on os = OnNotice (WaitsAbove k p rp.1) kinds os

    abbrev Steps_on : List (Peer → ℕ × ℕ → Parent → ParentTaken) → Type 0
    Steps_on steps = Notice_on (each (λ step. step p rp) steps k).outputs

    busy_on : has_pair notices.BUSY.0 notices.BUSY.1 kinds ≡ true → Notice_on (take_busy p rp k).outputs
    busy_on busy' = go (waiting p rp.1 k.pending.rows) refl
      where
        go : (o : Option AskingRow) → waiting p rp.1 k.pending.rows ≡ o → Notice_on (told_busy k o).outputs
        go None is = noted_for_nobody (nobody_waits rp.1 k is) refl
        go (Some h) is = next_is_full (of_row h) busy' (waits_here rp.1 k h is) refl

    cancel_none : (k' : Parent) (o : Option ℕ) → (cancelled k' o).outputs ≡ []
    cancel_none k' None = refl
    cancel_none k' (Some number) = refl

    abbrev after_busy : Parent
    after_busy = (take_busy p rp k).parent

    notice_on : Steps_on (notice_steps kinds)
    notice_on =
        pick Steps_on (has_pair notices.BUSY.0 notices.BUSY.1 kinds) _ _
        (λ busy'. pick Steps_on (has_pair notices.CANCELLED.0 notices.CANCELLED.1 kinds) (take_busy ∷ take_cancel ∷ []) (take_busy ∷ [])
        (λ cancels'. subst Notice_on
        (sym (ap (λ (os : List Output). (take_busy p rp k).outputs ++ (os ++ [])) (cancel_none after_busy (number_of after_busy.pending p rp.1)) ∙ nil_right (take_busy p rp k).outputs)) (busy_on busy'))
        (λ keeps. subst Notice_on (sym (nil_right (take_busy p rp k).outputs)) (busy_on busy')))
        (λ calm. pick Steps_on (has_pair notices.CANCELLED.0 notices.CANCELLED.1 kinds) (take_cancel ∷ []) []
        (λ cancels'. of_other_kind calm (ap (λ (os : List Output). os ++ []) (cancel_none k (number_of k.pending p rp.1))))
        (λ keeps. of_other_kind calm refl))

  module _ (e rp : ℕ × ℕ) (k : Parent) where
    abbrev Error_on : List Output → Type 0
    Error_on os = OnError (WaitsAbove k p rp.1) e os

    error_on : Error_on (take_failure e k (waiting p rp.1 k.pending.rows)).outputs
    error_on = go (waiting p rp.1 k.pending.rows) refl
      where
        go : (o : Option AskingRow) → waiting p rp.1 k.pending.rows ≡ o → Error_on (take_failure e k o).outputs
        go None is = failed_for_nobody (nobody_waits rp.1 k is) refl
        go (Some h) is =
            pick (λ (ms : List Message). Error_on (told_error h k ms).outputs) (has_pair errors.UNKNOWN_REQUEST.0 errors.UNKNOWN_REQUEST.1 (e ∷ [])) [] _
            (λ hit. of_reply (part.unknown_is e hit) refl)
            (λ miss. pick (λ (ms : List Message). Error_on (told_error h k ms).outputs) (has_pair e.0 e.1 (errors.PARAMETER_NOT_SERVED ∷ errors.CHAIN_FAILED ∷ [])) _ _
            (λ out. out_of_profile (of_row h) (waits_here rp.1 k h is) (part.profile_is e out) refl)
            (λ inside. other_error (of_row h) (waits_here rp.1 k h is) ((no_pair errors.UNKNOWN_REQUEST.0 errors.UNKNOWN_REQUEST.1 e [] miss).0) (part.in_profile e inside) refl))

  -- ---- a message

  abbrev left : Message → Parent → Parent
  left m k = (take c (family n) p m k).parent

  abbrev Ons : List Part → Parent → List Output → Type 0
  Ons xs k os = part.Ons Parent (λ k'. WaitsAbove k' p) (OnRequestAbove c n p) left false p xs k os

  abbrev left_by : List Part → Parent → Parent
  left_by xs k = part.left_by Parent (λ k'. WaitsAbove k' p) (OnRequestAbove c n p) left false p xs k

  append_on : (xs ys : List Part) (k : Parent) (os os' : List Output) → Ons xs k os → Ons ys (left_by xs k) os' → Ons (xs ++ ys) k (os ++ os')
  append_on xs ys k os os' h h' = part.on_append Parent (λ k'. WaitsAbove k' p) (OnRequestAbove c n p) left false p xs ys k os os' h h'

  module _ {X : Type 0} (part_of : X → Part) (f : X → Parent → ParentTaken) (same : (x : X) (k : Parent) → left (alone (part_of x)) k ≡ (f x k).parent)
      (says : (x : X) (k : Parent) → part.On Parent (λ k'. WaitsAbove k' p) (OnRequestAbove c n p) left false p (part_of x) k (f x k).outputs) where
    each_on : (xs : List X) (k : Parent) → Ons (map part_of xs) k (each f xs k).outputs
    each_on [] k = refl
    each_on (x ∷ xs) k =
        ((f x k).outputs, (each f xs (f x k).parent).outputs, refl, says x k, subst (λ (k' : Parent). Ons (map part_of xs) k' (each f xs (f x k).parent).outputs) (sym (same x k)) (each_on xs (f x k).parent))

    each_left : (xs : List X) (k : Parent) → left_by (map part_of xs) k ≡ (each f xs k).parent
    each_left [] k = refl
    each_left (x ∷ xs) k = ap (left_by (map part_of xs)) (same x k) ∙ each_left xs (f x k).parent

  noted_on : (ns : List Notice) (k : Parent) → Ons (noted ns) k (each (take_notice p) ns k).outputs
  noted_on [] k = refl
  noted_on (m ∷ ms) k =
      append_on (map (Notes m.kinds) m.ids) (noted ms) k (take_notice p m k).outputs (each (take_notice p) ms (take_notice p m k).parent).outputs
      (each_on (Notes m.kinds) (λ rp. each (λ step. step p rp) (notice_steps m.kinds)) (λ rp k'. refl) (notice_on m.kinds) m.ids k)
      (subst (λ (k' : Parent). Ons (noted ms) k' (each (take_notice p) ms (take_notice p m k).parent).outputs)
      (sym (each_left (Notes m.kinds) (λ rp. each (λ step. step p rp) (notice_steps m.kinds)) (λ rp k'. refl) (notice_on m.kinds) m.ids k)) (noted_on ms (take_notice p m k).parent))

  report_on : (ids es : List (ℕ × ℕ)) (k : Parent) → Ons (failed_by ids es) k (take_errors p ids es k).outputs
  report_on ids [] k = refl
  report_on ids (e ∷ es) k = each_on (Fails e) (λ rp k'. take_failure e k' (waiting p rp.1 k'.pending.rows)) (λ rp k'. refl) (error_on e) ids k

  report_left : (ids es : List (ℕ × ℕ)) (k : Parent) → left_by (failed_by ids es) k ≡ (take_errors p ids es k).parent
  report_left ids [] k = refl
  report_left ids (e ∷ es) k = each_left (Fails e) (λ rp k'. take_failure e k' (waiting p rp.1 k'.pending.rows)) (λ rp k'. refl) (error_on e) ids k

  failed_on : (rs : List ErrorReport) (k : Parent) → Ons (failed rs) k (each (take_report p) rs k).outputs
  failed_on [] k = refl
  failed_on (r ∷ rs) k =
      append_on (failed_by r.ids r.errors) (failed rs) k (take_report p r k).outputs (each (take_report p) rs (take_report p r k).parent).outputs (report_on r.ids r.errors k)
      (subst (λ (k' : Parent). Ons (failed rs) k' (each (take_report p) rs (take_report p r k).parent).outputs) (sym (report_left r.ids r.errors k)) (failed_on rs (take_report p r k).parent))

  pub message_on : (m : Message) (k : Parent) → OnMessageAbove c n p m k (take c (family n) p m k).outputs
  message_on (messages.PcReq asks) k = each_on Asks (take_asked c (family n) p) (λ a k'. refl) request_on asks k
  message_on (messages.PcRep replies) k = each_on Replies (take_reply c p) (λ r k'. refl) reply_on replies k
  message_on (messages.PcNtf ns) k = noted_on ns k
  message_on (messages.PcErr reports) k = failed_on reports k
  message_on (messages.Open body) k = refl
  message_on messages.Keepalive k = refl
  message_on (messages.Close why) k = refl
  message_on (messages.Other kind) k = refl
