-- What deeds send: a solve one message, and an element that takes a message at most one that asks.
use Rattle.std.proofs.Common.{◌≡◌, ◌≢◌, ◌⊎◌, ◌≤◌, ◌==◌, ℕ, Bool, true, false, cond, List, [], ◌∷◌, ◌++◌, length, map, Option, Some, None, sym, subst, inl, inr, refl, arith}
use Rattle.plant_model.specs.Types.{As, Peer, Inner, Hop, Answer, Message, Reply, Wanted, Wish, Class, Best, Branch, NetworkParts}
use Rattle.pcep_messages.specs.declared.message.Answer.TheVariants.{Paths, NoPath}
use Rattle.pcep_messages.specs.declared.message.Message.TheVariants as messages
use Rattle.pcep_messages.specs.declared.message.Wish.TheVariants.{Path, Expand}
use Rattle.disclosure.specs.Shown.{open_of}
use Rattle.request_table.specs.Pending.{same_peer, number_of, is_full}
use Rattle.plant_model.specs.declared.output.Output.{Output}
use Rattle.plant_model.specs.declared.output.Lost.{Lost}
use Rattle.plant_text.specs.Names.{same_as, parent_as}
use Rattle.plant_model.specs.Names.{has_pair, the_parent}
use Rattle.plant_model.specs.Wire.{Codec, Checked, Admitted, Wrong}
use Rattle.disclosure.specs.Policy.{is_denied}
use Rattle.plant_model.specs.Element.{Element, Row, Way, ElementSettings, Taken, each, way_to, is_client, lost, lost_output, waiting}
use Rattle.plant_model.specs.Routes.{toward}
use Rattle.plant_model.specs.Taking.{take, take_asked, take_checked, take_new, take_wish, take_path, take_along, send_on, sequence_or, goes_up, take_reply, take_answer, made_ready, take_notice, notice_steps, take_busy, take_cancel, told_busy, cancelled, take_report, take_errors, take_failure, told_error, error_answer, sight, wanting}
use Rattle.plant_model.specs.Writing.{error_message, reply_message, unavailable}
use Rattle.plant_model.specs.Solving.{commit, closed_reply, job_found}
use Rattle.plant_model.specs.Parent as parent
use Rattle.plant_model.specs.BorderGraph.{Found}
use Rattle.plant_text.specs.Settings.{class_of}
use Rattle.plant_model.specs.Settings.{place}
use Rattle.plant_model.specs.State.{State, Deed, Loads, Pops, Takes, Says, Ups, Downs, Clears, Solves, Expires, Hands}
use Rattle.plant_model.specs.Plant.{Pin, Segment, Plant, Entry, Run, deeds_of, PlantDeed}
use Rattle.plant_laws.specs.Transcript.{Transcript, Within, put_into}
use Rattle.plant_laws.specs.Replies.{SolvesSendOne}
use Rattle.plant_laws.proofs.Runs.Decompose.{nil_right}
use Rattle.plant_laws.proofs.Runs.Queues.{same_as_is}
use Rattle.plant_laws.proofs.Once.DeedByDeed.{Does, takes_above, takes_below, downs_above, downs_below, ups_above, ups_below, solves_above, solves_below, pops, hands_out, says_own, clears_link, expires_at, loads_rows, run_keeps}
use Rattle.plant_laws.proofs.Once.Handing.{IsAsk, AskFree, IsTerse}
use Rattle.plant_laws.proofs.Once.Takes.{IsSingle}

-- none of these outputs asks
abbrev pub NoneAsks : List Output → Type 0
NoneAsks [] = Unit {0}
NoneAsks (o ∷ os) = (IsAsk o.message → ⊥) × NoneAsks os

abbrev pub IsTerseOut : List Output → Type 0
IsTerseOut os = NoneAsks os ⊎ (length os ≤ 1)

none_append : (xs ys : List Output) → NoneAsks xs → NoneAsks ys → NoneAsks (xs ++ ys)
none_append [] ys h g = g
none_append (x ∷ xs) ys h g = (h.0, none_append xs ys h.1 g)

put_free : (b : As) (os : List Output) → NoneAsks os → AskFree (put_into b os)
put_free b [] h = tt
put_free b (o ∷ os) h = go (same_peer o.to (Inner b)) (put_free b os h.1)
  where
    go : (t : Bool) → AskFree (put_into b os) → AskFree (cond t (o.message ∷ put_into b os) (put_into b os))
    go true rec = (h.0, rec)
    go false rec = rec

one_short : (t : Bool) (m : Message) → length (cond t (m ∷ []) []) ≤ 1
one_short true m = omega arith
one_short false m = omega arith

put_short : (b : As) (os : List Output) → length os ≤ 1 → length (put_into b os) ≤ 1
put_short b [] h = omega arith
put_short b (o ∷ []) h = one_short (same_peer o.to (Inner b)) o.message
put_short b (o ∷ o' ∷ os) h = absurd (omega arith)

pub put_terse : (b : As) (os : List Output) → IsTerseOut os → IsTerse (put_into b os)
put_terse b os (inl none) = inl (put_free b os none)
put_terse b os (inr short) = inr (put_short b os short)

-- a message that asks does so once
abbrev pub IsAlone : Message → Type 0
IsAlone (messages.PcReq asks) = length asks ≡ 1
IsAlone (messages.PcRep replies) = length replies ≤ 1
IsAlone (messages.PcNtf notices) = Unit {0}
IsAlone (messages.PcErr reports) = Unit {0}
IsAlone (messages.Open body) = Unit {0}
IsAlone messages.Keepalive = Unit {0}
IsAlone (messages.Close why) = Unit {0}
IsAlone (messages.Other kind) = Unit {0}

module _ (P : Type 0) (S : Type 0) where
  pick_short : (b : Bool) (x y : Taken P S) → length x.outputs ≤ 1 → length y.outputs ≤ 1 → length (cond b x y).outputs ≤ 1
  pick_short true x y h g = h
  pick_short false x y h g = g

  pick_none : (b : Bool) (x y : Taken P S) → NoneAsks x.outputs → NoneAsks y.outputs → NoneAsks (cond b x y).outputs
  pick_none true x y h g = h
  pick_none false x y h g = g

  each_none : {X : Type 0} (f : X → Element P S → Taken P S) (xs : List X) (k : Element P S) → ((x : X) (k : Element P S) → NoneAsks (f x k).outputs) → NoneAsks (each f xs k).outputs
  each_none f [] k h = tt
  each_none f (x ∷ xs) k h = none_append (f x k).outputs (each f xs (f x k).element).outputs (h x k) (each_none f xs (f x k).element h)

  module _ (c : Codec) (show : S → List Hop) (e : ElementSettings) (pin : P) (p : Peer) (class : Class) (now : ℕ) where
    send_short : (flags x : ℕ) (w : Wanted) (sequence rest : List As) (refused : Bool) (k : Element P S) (way : Option Way) →
        length (send_on (sight pin p class) (wanting flags x w) sequence rest refused k way).outputs ≤ 1
    send_short flags x w sequence rest refused k None = omega arith
    send_short flags x w sequence rest refused k (Some way) = pick_short way.up _ _ (pick_short refused _ _ (omega arith) (omega arith)) (omega arith)

    along_short : (flags x : ℕ) (w : Wanted) (k : Element P S) (sequence : List As) → length (take_along e (sight pin p class) (wanting flags x w) k sequence).outputs ≤ 1
    along_short flags x w k [] = omega arith
    along_short flags x w k (a ∷ []) = omega arith
    along_short flags x w k (a ∷ b ∷ rest) = send_short flags x w (a ∷ b ∷ rest) (b ∷ rest) (is_denied e.deny class b) k (way_to (toward b e.routes) k.ways)

    path_short : (flags x : ℕ) (w : Wanted) (k : Element P S) → length (take_path e (sight pin p class) (wanting flags x w) k).outputs ≤ 1
    path_short flags x w k =
        pick_short (goes_up e.parent class w.sequence) (send_on (sight pin p class) (wanting flags x w) [] [] false k (way_to the_parent k.ways)) (take_along e (sight pin p class) (wanting flags x w) k (sequence_or e.own w.sequence))
        (send_short flags x w [] [] false k (way_to the_parent k.ways))
        (along_short flags x w k (sequence_or e.own w.sequence))

    wish_short : (flags x : ℕ) (k : Element P S) (wish : Wish) → length (take_wish show e (sight pin p class) now flags x k wish).outputs ≤ 1
    wish_short flags x k (Path w) = pick_short (is_full k.pending) _ (take_path e (sight pin p class) (wanting flags x w) k) (omega arith) (path_short flags x w k)
    wish_short flags x k (Expand key pce) = omega arith

    new_short : (r : _) (k : Element P S) (number : Option ℕ) → length (take_new show e pin p class now r k number).outputs ≤ 1
    new_short r k (Some number) = omega arith
    new_short r k None = wish_short r.flags r.id k r.wish

    pub checked_short : (k : Element P S) (o : Checked) → length (take_checked show e pin p class now k o).outputs ≤ 1
    checked_short k (Wrong rp kind value) = omega arith
    checked_short k (Admitted r) = new_short r k (number_of k.pending p r.id)

    ready_none : (h : Row P) (answer : Answer) (k : Element P S) → NoneAsks (made_ready c h answer k).outputs
    ready_none h (Paths ps) k = tt
    ready_none h (NoPath nature vector) k = pick_none (nature == 0) _ _ tt ((λ none. none), tt)

    answer_none : (r : Reply) (k : Element P S) (o : Option (Row P)) → NoneAsks (take_answer c p r k o).outputs
    answer_none r k None = ((λ none. none), tt)
    answer_none r k (Some h) = pick_none (same_peer p the_parent) _ (made_ready c h r.answer k) ((λ none. none), tt) (ready_none h r.answer k)

    busy_none : (k : Element P S) (o : Option (Row P)) → NoneAsks (told_busy k o).outputs
    busy_none k None = tt
    busy_none k (Some h) = ((λ none. none), tt)

    cancel_none : (k : Element P S) (o : Option ℕ) → NoneAsks (cancelled k o).outputs
    cancel_none k None = tt
    cancel_none k (Some number) = tt

    steps_none : (kinds : List (ℕ × ℕ)) (rp : ℕ × ℕ) (k : Element P S) → NoneAsks (each (λ step. step p rp) (notice_steps kinds) k).outputs
    steps_none kinds rp k = go (has_pair 1 2 kinds) (has_pair 1 1 kinds)
      where
        busy : (j : Element P S) → NoneAsks (take_busy p rp j).outputs
        busy j = busy_none j (waiting p rp.1 j.pending.rows)

        cancel : (j : Element P S) → NoneAsks (take_cancel p rp j).outputs
        cancel j = cancel_none j (number_of j.pending p rp.1)

        go : (b b' : Bool) → NoneAsks (each (λ (step : Peer → ℕ × ℕ → Element P S → Taken P S). step p rp) (cond b (cond b' (take_busy ∷ take_cancel ∷ []) (take_busy ∷ [])) (cond b' (take_cancel ∷ []) [])) k).outputs
        go true true = none_append (take_busy p rp k).outputs _ (busy k) (none_append (take_cancel p rp (take_busy p rp k).element).outputs [] (cancel (take_busy p rp k).element) tt)
        go true false = none_append (take_busy p rp k).outputs [] (busy k) tt
        go false true = none_append (take_cancel p rp k).outputs [] (cancel k) tt
        go false false = tt

    error_none : (e' : ℕ × ℕ) (h : Row P) (k : Element P S) → NoneAsks (told_error h k (error_answer e' h.1.item.flags h.1.key.id)).outputs
    error_none e' h k = go (has_pair 8 0 (e' ∷ [])) (has_pair e'.0 e'.1 ((4, 4) ∷ (13, 1) ∷ []))
      where
        go : (b b' : Bool) →
            NoneAsks (told_error h k (cond b [] (cond b' (error_message (Some (h.1.item.flags, h.1.key.id)) 13 1 ∷ []) (reply_message h.1.item.flags h.1.key.id unavailable ∷ [])))).outputs
        go true b' = tt
        go false true = ((λ none. none), tt)
        go false false = ((λ none. none), tt)

    failure_none : (e' : ℕ × ℕ) (k : Element P S) (o : Option (Row P)) → NoneAsks (take_failure e' k o).outputs
    failure_none e' k None = tt
    failure_none e' k (Some h) = error_none e' h k

    errors_none : (ids errors : List (ℕ × ℕ)) (k : Element P S) → NoneAsks (take_errors p ids errors k).outputs
    errors_none ids [] k = tt
    errors_none ids (e' ∷ es) k = each_none (λ rp j. take_failure e' j (waiting p rp.1 j.pending.rows)) ids k (λ rp j. failure_none e' j (waiting p rp.1 j.pending.rows))

    -- what an element sends when it takes a message
    pub take_terse : (m : Message) (k : Element P S) → IsSingle m → IsTerseOut (take c show e pin p class now m k).outputs
    take_terse (messages.PcReq []) k one = inl tt
    take_terse (messages.PcReq (a ∷ [])) k one =
        inr (subst (λ (l : List Output). length l ≤ 1) (sym (nil_right (take_asked c show e pin p class now a k).outputs)) (checked_short k (c.check a e.own)))
    take_terse (messages.PcReq (a ∷ b ∷ rest)) k one = absurd (omega arith)
    take_terse (messages.PcRep replies) k one = inl (each_none (take_reply c p) replies k (λ r j. answer_none r j (waiting p r.id j.pending.rows)))
    take_terse (messages.PcNtf notices) k one = inl (each_none (take_notice p) notices k (λ r j. each_none (λ rp. each (λ step. step p rp) (notice_steps r.kinds)) r.ids j (λ rp j'. steps_none r.kinds rp j')))
    take_terse (messages.PcErr reports) k one = inl (each_none (take_report p) reports k (λ r j. errors_none r.ids r.errors j))
    take_terse (messages.Open body) k one = inl tt
    take_terse messages.Keepalive k one = inl tt
    take_terse (messages.Close why) k one = inl tt
    take_terse (messages.Other kind) k one = inl tt

lost_none : (ls : List Lost) → NoneAsks (map lost_output ls)
lost_none [] = tt
lost_none (l ∷ ls) = ((λ none. none), lost_none ls)

abbrev pub IsOne : List Output → Type 0
IsOne os = (o : Output) × (os ≡ o ∷ [])

-- a solve sends one message
pub commit_one : {P S : Type 0} (c : Codec) (e : ElementSettings) (h : Row P) (down : List Branch) (now : ℕ) (stands : Best → S) (source_known target_known : Bool) (best : List Best) (k : Element P S) →
    IsOne (commit c e h down now stands (job_found source_known target_known best) k).outputs
commit_one {P} {S} c e h down now stands source_known target_known best k = pick (is_client h.1.item.class) _ (closed_reply c e h down now stands k best) (_, refl) (closed best)
  where
    pick : (b : Bool) (x y : Taken P S) → IsOne x.outputs → IsOne y.outputs → IsOne (cond b x y).outputs
    pick true x y g g' = g
    pick false x y g g' = g'

    closed : (best : List Best) → IsOne (closed_reply c e h down now stands k best).outputs
    closed [] = (_, refl)
    closed (b ∷ bs) = pick _ _ _ (_, refl) (_, refl)

pub upper_one : (c : Codec) (h : parent.AskingRow) (found : Option Found) (k : parent.Parent) → IsOne (parent.commit c h found k).outputs
upper_one c h None k = (_, refl)
upper_one c h (Some a) k = (_, refl)

-- the deeds of a run
abbrev pub IsSparing : Deed Segment → Type 0
IsSparing (Takes at p m os) = at ≢ parent_as → IsSingle m → IsTerseOut os
IsSparing (Downs at p os) = at ≢ parent_as → NoneAsks os
IsSparing (Solves at k os keys) = IsOne os
IsSparing _ = Unit {0}

abbrev pub Each : (Deed Segment → Type 0) → Transcript → Type 0
Each Q [] = Unit {0}
Each Q (e ∷ older) = Q e × Each Q older

pub Each-within : (Q : Deed Segment → Type 0) (now : Transcript) → Each Q now → (e : Deed Segment) (older : Transcript) → Within (e ∷ older) now → Q e
Each-within Q [] all e older w = cc
Each-within Q (f ∷ now) all e older (inl same) = let is : e ≡ f = cc in subst Q (sym is) all.0
Each-within Q (f ∷ now) all e older (inr w) = Each-within Q now all.1 e older w

module _ (c : Codec) (n : NetworkParts) where
  not_parent : (at : As) → same_as at parent_as ≡ true → at ≢ parent_as → ⊥
  not_parent at is other = other (same_as_is at parent_as is)

  does_spare : (s t : State Pin Segment) (e : PlantDeed) → Does c n s e t → IsSparing e
  does_spare s t e (takes_above at p m s' up) = λ other. absurd (not_parent at up other)
  does_spare s t e (takes_below at p m s' low heard) = λ other one. take_terse Pin Segment c open_of (place n at) (s.current at) p (class_of n p) s.clock m (s.elements at) one
  does_spare s t e (downs_above at p s' up) = λ other. absurd (not_parent at up other)
  does_spare s t e (downs_below at p s' low) = λ other. lost_none (lost p (s.elements at).pending.rows)
  does_spare s t e (solves_above k h s' x) = upper_one c (k, x.held) x.answer s.parent
  does_spare s t e (solves_below d k h s' x) = commit_one c (place n d) (k, x.held) x.down s.clock (λ b. b.segment) x.rows.source_known x.rows.target_known x.rows.best (s.elements d)
  does_spare s t e _ = tt

  pub run_spares : (es : List Entry) (s : Plant) → Run c n es s → Each IsSparing (deeds_of c n es)
  run_spares = run_keeps c n (λ ds s. Each IsSparing ds) (λ ds s t elements above current all. all) (λ ds s t e does all. (does_spare s t e does, all)) tt

pub solves_send_one : SolvesSendOne
solves_send_one c n es s run d k os keys older w = Each-within IsSparing (deeds_of c n es) (run_spares c n es s run) (Solves d k os keys) older w
