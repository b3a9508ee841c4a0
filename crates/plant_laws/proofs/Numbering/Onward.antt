-- What an element sends on when it takes a message: nothing, or one request, by one way, under a fresh id.
use Rattle.std.proofs.Common.{◌≡◌, ◌⊎◌, ℕ, Bool, true, false, cond, ◌==◌, nat_lt, length, map, List, [], ◌∷◌, ◌++◌, Option, Some, None, sym, ◌∙◌, ap, subst, inl, inr, refl, arith}
use Rattle.std.proofs.lemmas.Bool.{cases_Bool}
use Rattle.plant_model.specs.Types.{As, Peer, Hop, Message, Asked, Reply, Notice, ErrorReport, Answer, Wanted, Wish, Class, Best, Branch}
use Rattle.pcep_messages.specs.declared.message.Message.TheVariants as messages
use Rattle.pcep_messages.specs.declared.message.Answer.TheVariants.{Paths, NoPath}
use Rattle.pcep_messages.specs.declared.message.Wish.TheVariants.{Path, Expand}
use Rattle.request_table.specs.Pending.{number_of, same_peer, is_full}
use Rattle.plant_model.specs.declared.output.Output.{Output}
use Rattle.plant_model.specs.declared.output.Lost.{Lost}
use Rattle.plant_model.specs.declared.route.Route.{Route}
use Rattle.plant_model.specs.Names.{the_parent, has_pair}
use Rattle.plant_model.specs.Wire.{Codec, Checked, Admitted, Wrong}
use Rattle.plant_model.specs.Writing.{request_message, reply_message, error_message, busy, unavailable}
use Rattle.disclosure.specs.Policy.{is_denied}
use Rattle.plant_model.specs.Element.{Row, Way, Element, ElementSettings, Taken, silent, only, each, waiting, fresh_id, way_to, with_last, with_up, is_client, lost_output}
use Rattle.plant_model.specs.Routes.{toward}
use Rattle.plant_model.specs.Taking.{take, take_asked, take_checked, take_new, take_wish, take_path, take_along, send_on, sequence_or, goes_up, answered, take_reply, take_answer, made_ready, take_notice, notice_steps, take_busy, take_cancel, told_busy, cancelled, take_report, take_errors, take_failure, told_error, error_answer, sight, wanting}
use Rattle.plant_model.specs.Solving.{commit, client_reply, closed_reply, free, job_found}
use Rattle.plant_model.specs.Parent.{last_to}
use Rattle.plant_laws.proofs.Runs.Decompose.{nil_right}
use Rattle.plant_laws.proofs.Once.Handing.{IsAsk}
use Rattle.plant_laws.proofs.Numbering.Sends.{NoneAsks}
use Rattle.plant_laws.proofs.Numbering.SentOn.{same_peer_is}
use Rattle.plant_laws.proofs.Once.Takes.{IsSingle}

pub none_append : (xs ys : List Output) → NoneAsks xs → NoneAsks ys → NoneAsks (xs ++ ys)
none_append [] ys h g = g
none_append (x ∷ xs) ys h g = (h.0, none_append xs ys h.1 g)

pub none_lost : (ls : List Lost) → NoneAsks (map lost_output ls)
none_lost [] = tt
none_lost (l ∷ ls) = ((λ none. none), none_lost ls)

-- ---- ways

pub way_peer : (p : Peer) (ws : List Way) (w : Way) → way_to p ws ≡ Some w → w.peer ≡ p
way_peer p [] w e = absurd (let out : None ≡ Some w = e in cc)
way_peer p (v ∷ ws) w e =
    elim (cases_Bool (same_peer v.peer p)) [
      | inl hit ↦
          let at : Some v ≡ Some w = rw hit at e in
          let is : v ≡ w = cc in
          subst (λ (z : Way). z.peer ≡ p) is (same_peer_is v.peer p hit)
      | inr miss ↦ way_peer p ws w (rw miss at e)
    ]

pub last_other : (p q : Peer) (y : ℕ) (ws : List Way) → same_peer q p ≡ false → way_to p (with_last q y ws) ≡ way_to p ws
last_other p q y [] apart = refl
last_other p q y (v ∷ ws) apart =
    elim (cases_Bool (same_peer v.peer q)) [
      | inl hit ↦
          let is : v.peer ≡ q = same_peer_is v.peer q hit in
          let miss : same_peer v.peer p ≡ false = ap (λ (z : Peer). same_peer z p) is ∙ apart in
          rw hit (rw miss refl)
      | inr other ↦ rw other (go (same_peer v.peer p) (last_other p q y ws apart))
    ]
  where
    go : (b : Bool) → way_to p (with_last q y ws) ≡ way_to p ws → cond b (Some v) (way_to p (with_last q y ws)) ≡ cond b (Some v) (way_to p ws)
    go true rec = refl
    go false rec = rec

pub last_own : (p : Peer) (y : ℕ) (ws : List Way) (w : Way) → way_to p ws ≡ Some w → last_to (way_to p (with_last p y ws)) ≡ y
last_own p y [] w e = absurd (let out : None ≡ Some w = e in cc)
last_own p y (v ∷ ws) w e =
    elim (cases_Bool (same_peer v.peer p)) [
      | inl hit ↦ rw hit (rw hit refl)
      | inr miss ↦ rw miss (rw miss (last_own p y ws w (rw miss at e)))
    ]

pub last_up : (p q : Peer) (up : Bool) (ws : List Way) → last_to (way_to p (with_up q up ws)) ≡ last_to (way_to p ws)
last_up p q up [] = refl
last_up p q up (v ∷ ws) = go (same_peer v.peer q) (last_up p q up ws)
  where
    here : (b : Bool) (o o' : Option Way) → last_to o ≡ last_to o' → last_to (cond b (Some (record v { up = up })) o) ≡ last_to (cond b (Some v) o')
    here true o o' e = refl
    here false o o' e = e

    same : (b : Bool) (o o' : Option Way) → last_to o ≡ last_to o' → last_to (cond b (Some v) o) ≡ last_to (cond b (Some v) o')
    same true o o' e = refl
    same false o o' e = e

    go : (x : Bool) → last_to (way_to p (with_up q up ws)) ≡ last_to (way_to p ws) → last_to (way_to p (cond x (record v { up = up } ∷ ws) (v ∷ with_up q up ws))) ≡ last_to (way_to p (v ∷ ws))
    go true rec = here (same_peer v.peer p) (way_to p ws) (way_to p ws) refl
    go false rec = same (same_peer v.peer p) (way_to p (with_up q up ws)) (way_to p ws) rec

module _ (P : Type 0) (S : Type 0) where
  pub record IsCalm (k : Element P S) (t : Taken P S) : Type 0 where
    pub none : NoneAsks t.outputs
    pub ways : t.element.ways ≡ k.ways

  calm_pick : (k : Element P S) (b : Bool) (t u : Taken P S) → IsCalm k t → IsCalm k u → IsCalm k (cond b t u)
  calm_pick k true t u x y = x
  calm_pick k false t u x y = y

  calm_silent : (k : Element P S) → IsCalm k (silent k)
  calm_silent k = record { none = tt; ways = refl }

  calm_then : (k : Element P S) (t u : Taken P S) → IsCalm k t → IsCalm t.element u → IsCalm k (record { element = u.element; outputs = t.outputs ++ u.outputs })
  calm_then k t u x y = record { none = none_append t.outputs u.outputs x.none y.none; ways = y.ways ∙ x.ways }

  calm_each : {X : Type 0} (f : X → Element P S → Taken P S) → ((x : X) (k : Element P S) → IsCalm k (f x k)) → (xs : List X) (k : Element P S) → IsCalm k (each f xs k)
  calm_each f one [] k = calm_silent k
  calm_each f one (x ∷ xs) k = calm_then k (f x k) (each f xs (f x k).element) (one x k) (calm_each f one xs (f x k).element)

  module _ (c : Codec) (p : Peer) where
    calm_ready : (h : Row P) (a : Answer) (k : Element P S) → IsCalm k (made_ready c h a k)
    calm_ready h (Paths ps) k = record { none = tt; ways = refl }
    calm_ready h (NoPath nature vector) k = calm_pick k (nature == 0) _ _ (record { none = tt; ways = refl }) (record { none = ((λ none. none), tt); ways = refl })

    calm_answer : (r : Reply) (k : Element P S) (o : Option (Row P)) → IsCalm k (take_answer c p r k o)
    calm_answer r k None = record { none = ((λ none. none), tt); ways = refl }
    calm_answer r k (Some h) = calm_pick k (same_peer p the_parent) _ (made_ready c h r.answer k) (record { none = ((λ none. none), tt); ways = refl }) (calm_ready h r.answer k)

    calm_busy : (k : Element P S) (o : Option (Row P)) → IsCalm k (told_busy k o)
    calm_busy k None = calm_silent k
    calm_busy k (Some h) = record { none = ((λ none. none), tt); ways = refl }

    calm_cancel : (k : Element P S) (o : Option ℕ) → IsCalm k (cancelled k o)
    calm_cancel k None = calm_silent k
    calm_cancel k (Some number) = record { none = tt; ways = refl }

    calm_steps : (kinds : List (ℕ × ℕ)) (rp : ℕ × ℕ) (k : Element P S) → IsCalm k (each (λ step. step p rp) (notice_steps kinds) k)
    calm_steps kinds rp k = go (has_pair 1 2 kinds) (has_pair 1 1 kinds)
      where
        busy' : (j : Element P S) → IsCalm j (take_busy p rp j)
        busy' j = calm_busy j (waiting p rp.1 j.pending.rows)

        cancel : (j : Element P S) → IsCalm j (take_cancel p rp j)
        cancel j = calm_cancel j (number_of j.pending p rp.1)

        one : (f : Peer → ℕ × ℕ → Element P S → Taken P S) → ((j : Element P S) → IsCalm j (f p rp j)) → (j : Element P S) → IsCalm j (each (λ (step : Peer → ℕ × ℕ → Element P S → Taken P S). step p rp) (f ∷ []) j)
        one f calm j = calm_then j (f p rp j) (silent (f p rp j).element) (calm j) (calm_silent (f p rp j).element)

        go : (b b' : Bool) → IsCalm k (each (λ (step : Peer → ℕ × ℕ → Element P S → Taken P S). step p rp) (cond b (cond b' (take_busy ∷ take_cancel ∷ []) (take_busy ∷ [])) (cond b' (take_cancel ∷ []) [])) k)
        go true true =
            calm_then k (take_busy p rp k) (each (λ (step : Peer → ℕ × ℕ → Element P S → Taken P S). step p rp) (take_cancel ∷ []) (take_busy p rp k).element) (busy' k) (one take_cancel cancel (take_busy p rp k).element)
        go true false = one take_busy busy' k
        go false true = one take_cancel cancel k
        go false false = calm_silent k

    calm_error : (e' : ℕ × ℕ) (h : Row P) (k : Element P S) → IsCalm k (told_error h k (error_answer e' h.1.item.flags h.1.key.id))
    calm_error e' h k = go (has_pair 8 0 (e' ∷ [])) (has_pair e'.0 e'.1 ((4, 4) ∷ (13, 1) ∷ []))
      where
        go : (b b' : Bool) →
            IsCalm k (told_error h k (cond b [] (cond b' (error_message (Some (h.1.item.flags, h.1.key.id)) 13 1 ∷ []) (reply_message h.1.item.flags h.1.key.id unavailable ∷ []))))
        go true b' = calm_silent k
        go false true = record { none = ((λ none. none), tt); ways = refl }
        go false false = record { none = ((λ none. none), tt); ways = refl }

    calm_failure : (e' : ℕ × ℕ) (k : Element P S) (o : Option (Row P)) → IsCalm k (take_failure e' k o)
    calm_failure e' k None = calm_silent k
    calm_failure e' k (Some h) = calm_error e' h k

    calm_errors : (ids errors : List (ℕ × ℕ)) (k : Element P S) → IsCalm k (take_errors p ids errors k)
    calm_errors ids [] k = calm_silent k
    calm_errors ids (e' ∷ es) k = calm_each (λ rp j. take_failure e' j (waiting p rp.1 j.pending.rows)) (λ rp j. calm_failure e' j (waiting p rp.1 j.pending.rows)) ids k

    pub calm_replies : (rs : List Reply) (k : Element P S) → IsCalm k (each (take_reply c p) rs k)
    calm_replies rs k = calm_each (take_reply c p) (λ r j. calm_answer r j (waiting p r.id j.pending.rows)) rs k

    pub calm_notices : (ns : List Notice) (k : Element P S) → IsCalm k (each (take_notice p) ns k)
    calm_notices ns k =
        calm_each (take_notice p) (λ r j. calm_each (λ (rp : ℕ × ℕ). each (λ (step : Peer → ℕ × ℕ → Element P S → Taken P S). step p rp) (notice_steps r.kinds)) (λ rp j'. calm_steps r.kinds rp j') r.ids j) ns k

    pub calm_reports : (rs : List ErrorReport) (k : Element P S) → IsCalm k (each (take_report p) rs k)
    calm_reports rs k = calm_each (take_report p) (λ r j. calm_errors r.ids r.errors j) rs k

  pub calm_commit : (c : Codec) (e : ElementSettings) (h : Row P) (down : List Branch) (now : ℕ) (stands : Best → S) (source_known target_known : Bool) (best : List Best) (k : Element P S) →
      IsCalm k (commit c e h down now stands (job_found source_known target_known best) k)
  calm_commit c e h down now stands source_known target_known best k = calm_pick k (is_client h.1.item.class) _ (closed_reply c e h down now stands k best) (client best) (closed best)
    where
      client : (best : List Best) → IsCalm k (answered h (client_reply c h down source_known target_known best) k)
      client [] = record { none = ((λ none. none), tt); ways = refl }
      client (b ∷ bs) = record { none = ((λ none. none), tt); ways = refl }

      closed : (best : List Best) → IsCalm k (closed_reply c e h down now stands k best)
      closed [] = record { none = ((λ none. none), tt); ways = refl }
      closed (b ∷ bs) = calm_pick k (nat_lt (free now k.keys) (length (b ∷ bs))) _ _ (record { none = ((λ none. none), tt); ways = refl }) (record { none = ((λ none. none), tt); ways = refl })

  -- where a request goes on
  abbrev pub GoesTo : List Route → Wanted → Peer → List As → Type 0
  GoesTo routes w to rest = ((to ≡ the_parent) × (rest ≡ [])) ⊎ ((own : As) × (next : As) × (more : List As) × (to ≡ toward next routes) × (rest ≡ next ∷ more) × (w.sequence ≡ own ∷ next ∷ more))

  module _ (c : Codec) (show : S → List Hop) (e : ElementSettings) (pin : P) (p : Peer) (class : Class) (now : ℕ) (k : Element P S) where
    pub record SendsOne (t : Taken P S) : Type 0 where
      pub to : Peer
      pub way : Way
      pub found : way_to to k.ways ≡ Some way
      pub asked : Asked
      pub flags : ℕ
      pub id : ℕ
      pub wanted : Wanted
      pub admitted : c.check asked e.own ≡ Admitted (record { flags = flags; id = id; wish = Path wanted })
      pub rest : List As
      pub goes : GoesTo e.routes wanted to rest
      pub outs : t.outputs ≡ record { to = way.peer; message = request_message (fresh_id way.peer way.last_id k.pending.rows) wanted wanted.target rest } ∷ []
      pub ways : t.element.ways ≡ with_last way.peer (fresh_id way.peer way.last_id k.pending.rows) k.ways

    abbrev pub Sends : Taken P S → Type 0
    Sends t = IsCalm k t ⊎ SendsOne t

    -- nothing is sent on, or one request, of the one that was taken
    abbrev SendsFor : Asked → Taken P S → Type 0
    SendsFor a t = IsCalm k t ⊎ ((x : SendsOne t) × (x.asked ≡ a))

    pick : (a : Asked) (b : Bool) (t u : Taken P S) → SendsFor a t → SendsFor a u → SendsFor a (cond b t u)
    pick a true t u x y = x
    pick a false t u x y = y

    says : (a : Asked) (m : Message) → (IsAsk m → ⊥) → SendsFor a (only p m k)
    says a m never = inl (record { none = (never, tt); ways = refl })

    module _ (a : Asked) where
      send : (flags x : ℕ) (w : Wanted) → c.check a e.own ≡ Admitted (record { flags = flags; id = x; wish = Path w }) → (to : Peer) (sequence rest : List As) → GoesTo e.routes w to rest → (refused : Bool) (o : Option Way) → way_to to k.ways ≡ o →
          SendsFor a (send_on (sight pin p class) (wanting flags x w) sequence rest refused k o)
      send flags x w is to sequence rest goes refused None found = says a (reply_message flags x unavailable) (λ none. none)
      send flags x w is to sequence rest goes refused (Some way) found =
          pick a way.up _ _
          (pick a refused _ _ (says a (reply_message flags x unavailable) (λ none. none))
          (inr (record { to = to; way = way; found = found; asked = a; flags = flags; id = x; wanted = w; admitted = is; rest = rest; goes = goes; outs = refl; ways = refl }, refl)))
          (says a (reply_message flags x unavailable) (λ none. none))

      along : (flags x : ℕ) (w : Wanted) → c.check a e.own ≡ Admitted (record { flags = flags; id = x; wish = Path w }) → (sequence : List As) → w.sequence ≡ sequence → SendsFor a (take_along e (sight pin p class) (wanting flags x w) k (sequence_or e.own sequence))
      along flags x w is [] same = inl (record { none = tt; ways = refl })
      along flags x w is (d ∷ []) same = inl (record { none = tt; ways = refl })
      along flags x w is (d ∷ b ∷ rest) same = send flags x w is (toward b e.routes) (d ∷ b ∷ rest) (b ∷ rest) (inr (d, b, rest, refl, refl, same)) (is_denied e.deny class b) (way_to (toward b e.routes) k.ways) refl

      wishes : (flags x : ℕ) (wish : Wish) → c.check a e.own ≡ Admitted (record { flags = flags; id = x; wish = wish }) → SendsFor a (take_wish show e (sight pin p class) now flags x k wish)
      wishes flags x (Expand key pce) is = says a (reply_message flags x _) (λ none. none)
      wishes flags x (Path w) is =
          pick a (is_full k.pending) _ (take_path e (sight pin p class) (wanting flags x w) k) (says a (busy flags x) (λ none. none))
          (pick a (goes_up e.parent class w.sequence) (send_on (sight pin p class) (wanting flags x w) [] [] false k (way_to the_parent k.ways)) (take_along e (sight pin p class) (wanting flags x w) k (sequence_or e.own w.sequence))
          (send flags x w is the_parent [] [] (inl (refl, refl)) false (way_to the_parent k.ways) refl) (along flags x w is w.sequence refl))

      checks : (o : Checked) → c.check a e.own ≡ o → SendsFor a (take_checked show e pin p class now k o)
      checks (Wrong rp kind value) is = says a (error_message rp kind value) (λ none. none)
      checks (Admitted r) is = go (number_of k.pending p r.id)
        where
          go : (o : Option ℕ) → SendsFor a (take_new show e pin p class now r k o)
          go None = wishes r.flags r.id r.wish is
          go (Some number) = inl (calm_silent k)

      asked_sends : SendsFor a (take_asked c show e pin p class now a k)
      asked_sends = checks (c.check a e.own) refl

    -- a message is calm, or is the request for which one is sent on
    abbrev pub Of : Message → Taken P S → Type 0
    Of m t = IsCalm k t ⊎ ((a : Asked) × (m ≡ messages.PcReq (a ∷ [])) × (x : SendsOne t) × (x.asked ≡ a))

    pub take_of : (m : Message) → IsSingle m → Of m (take c show e pin p class now m k)
    take_of (messages.PcReq []) one = inl (calm_silent k)
    take_of (messages.PcReq (a ∷ [])) one =
        let t = take_asked c show e pin p class now a k in
        subst (λ (os : List Output). Of (messages.PcReq (a ∷ [])) (record { element = t.element; outputs = os })) (sym (nil_right t.outputs))
        (elim (asked_sends a) [ inl calm ↦ inl calm | inr x ↦ inr (a, refl, x.0, x.1) ])
    take_of (messages.PcReq (a ∷ b ∷ rest)) one = absurd (let none : length (a ∷ b ∷ rest) ≡ 1 = one in omega (arith, none))
    take_of (messages.PcRep replies) one = inl (calm_replies c p replies k)
    take_of (messages.PcNtf notices) one = inl (calm_notices c p notices k)
    take_of (messages.PcErr reports) one = inl (calm_reports c p reports k)
    take_of (messages.Open body) one = inl (calm_silent k)
    take_of messages.Keepalive one = inl (calm_silent k)
    take_of (messages.Close why) one = inl (calm_silent k)
    take_of (messages.Other kind) one = inl (calm_silent k)

    pub take_sends : (m : Message) → IsSingle m → Sends (take c show e pin p class now m k)
    take_sends m one = elim (take_of m one) [ inl calm ↦ inl calm | inr x ↦ inr x.2 ]
