-- What an element does with the numbers of its requests: each request that it sends on has the number that follows the last, as
-- long as the last is less than the greatest.
use Rattle.std.proofs.Common.{◌≡◌, ◌⊎◌, ◌≤◌, ◌<◌, ◌==◌, ℕ, suc, ◌+◌, Bool, true, false, cond, Option, Some, None, List, [], ◌∷◌, ◌++◌, length, nat_lt, inl, inr, sym, ◌∙◌, ap, subst, refl, arith}
use Rattle.std.proofs.lemmas.Bool.{cases_Bool}
use Rattle.std.proofs.lemmas.Grind.{common_steps}
use Rattle.plant_model.specs.Types.{As, Addr, Peer, Hop, Asked, Answer, Message, Reply, Request, Wanted, Wish, Class, Best, Branch}
use Rattle.pcep_messages.specs.declared.message.Answer.TheVariants.{Paths, NoPath}
use Rattle.pcep_messages.specs.declared.message.Message.TheVariants as messages
use Rattle.pcep_messages.specs.declared.message.Wish.TheVariants.{Path, Expand}
use Rattle.request_table.specs.Pending.{same_peer, number_of, key_of, opened_of, is_full}
use Rattle.plant_model.specs.declared.output.Output.{Output}
use Rattle.plant_model.specs.Names.{has_pair, the_parent}
use Rattle.plant_model.specs.Wire.{Codec, Checked, Admitted, Wrong}
use Rattle.plant_model.specs.Laws.{Admits}
use Rattle.plant_model.specs.Writing.{request_message, error_message, reply_message, unavailable}
use Rattle.disclosure.specs.Policy.{is_denied}
use Rattle.plant_model.specs.Element.{Stage, Waits, Ready, Item, Row, Way, Element, ElementSettings, Taken, each, is_ready, is_waiting, waits_for, waiting, after_id, pass_over, fresh_id, way_to, with_last, with_up, is_client}
use Rattle.plant_model.specs.declared.route.Route.{Route}
use Rattle.plant_model.specs.Routes.{toward}
use Rattle.plant_model.specs.Taking as taking
use Rattle.plant_model.specs.Taking.{take, sequence_or, goes_up}
use Rattle.plant_model.specs.Solving as solving
use Rattle.plant_model.specs.Solving.{commit, job_found}
use Rattle.plant_laws.proofs.Runs.Decompose.{nil_right}
use Rattle.plant_laws.proofs.Runs.Rows.{In, in_append}
use Rattle.plant_laws.proofs.Once.Takes.{IsSingle}
use Rattle.plant_laws.proofs.Numbering.Sends.{NoneAsks}
use Rattle.plant_laws.proofs.Least.Subsides.{Subsides, replies_subs, notices_subs, reports_subs}
use Rattle.plant_laws.proofs.Numbering.SentOn.{same_peer_is}

-- the last id towards a peer
abbrev pub last : Peer → List Way → ℕ
last p [] = 0
last p (w ∷ ws) = cond (same_peer w.peer p) w.last_id (last p ws)

pub last_up : (q p : Peer) (up : Bool) (ws : List Way) → last p (with_up q up ws) ≡ last p ws
last_up q p up [] = refl
last_up q p up (w ∷ ws) = elim (cases_Bool (same_peer w.peer q)) [
  | inl hit ↦ rw hit refl
  | inr miss ↦ rw (miss, last_up q p up ws) refl
]

pub way_last : (q : Peer) (ws : List Way) (w : Way) → way_to q ws ≡ Some w → (w.last_id ≡ last q ws) × (w.peer ≡ q)
way_last q [] w e = absurd (let out : None ≡ Some w = e in cc)
way_last q (v ∷ ws) w e =
    elim (cases_Bool (same_peer v.peer q)) [
      | inl hit ↦
          let at : Some v ≡ Some w = rw hit at e in
          let is : v ≡ w = cc in
          (rw hit (ap (λ (z : Way). z.last_id) (sym is)), subst (λ (z : Way). z.peer ≡ q) is (same_peer_is v.peer q hit))
      | inr miss ↦ let r = way_last q ws w (rw miss at e) in (rw miss r.0, r.1)
    ]

last_with : (q : Peer) (y : ℕ) (ws : List Way) (w : Way) → way_to q ws ≡ Some w → last q (with_last q y ws) ≡ y
last_with q y [] w e = absurd (let out : None ≡ Some w = e in cc)
last_with q y (v ∷ ws) w e = elim (cases_Bool (same_peer v.peer q)) [
  | inl hit ↦ rw (hit, hit) refl
  | inr miss ↦ rw (miss, miss) (last_with q y ws w (rw miss at e))
]

last_other : (q p : Peer) (y : ℕ) (ws : List Way) → same_peer q p ≡ false → last p (with_last q y ws) ≡ last p ws
last_other q p y [] other = refl
last_other q p y (v ∷ ws) other = elim (cases_Bool (same_peer v.peer q)) [
  | inl hit ↦
      let miss : same_peer v.peer p ≡ false = subst (λ (z : Peer). same_peer z p ≡ false) (sym (same_peer_is v.peer q hit)) other in
      rw (hit, miss) refl
  | inr miss ↦ rw (miss, last_other q p y ws other) refl
]

-- the ids for which rows wait are at most this
module _ (P : Type 0) where
  abbrev pub AtMost : Peer → ℕ → List (Row P) → Type 0
  AtMost p n rows = (h : Row P) → In h rows → (y : ℕ) → h.1.item.stage ≡ Waits p y → y ≤ n

  none_waits : (p : Peer) (n : ℕ) (rows : List (Row P)) → AtMost p n rows → is_waiting p rows (suc n) ≡ false
  none_waits p n [] most = refl
  none_waits p n (h ∷ hs) most = elim (cases_Bool (waits_for p (suc n) h.1.item.stage)) [
    | inl hit ↦ absurd (go h.1.item.stage hit (λ y is. most h (inl refl) y is))
    | inr miss ↦ rw miss (none_waits p n hs (λ g i. most g (inr i)))
  ]
    where
      go : (stage : Stage) → waits_for p (suc n) stage ≡ true → ((y : ℕ) → stage ≡ Waits p y → y ≤ n) → ⊥
      go (Ready branches) hit le = let out : false ≡ true = hit in cc
      go (Waits on id) hit le = two (same_peer on p) refl hit
        where
          two : (b : Bool) → same_peer on p ≡ b → cond b (id == suc n) false ≡ true → ⊥
          two true same e =
              let is : id ≡ suc n = grind (arith, common_steps) in
              let bound = le id (ap (λ (z : Peer). let s : Stage = Waits z id in s) (same_peer_is on p same)) in
              omega (arith, is, bound)
          two false same e = let out : false ≡ true = e in cc

  -- what is fresh is the next
  pub fresh_is_next : (p : Peer) (n : ℕ) (rows : List (Row P)) → n < 4294967295 → AtMost p n rows → fresh_id p n rows ≡ suc n
  fresh_is_next p n rows less most =
      let after : after_id n ≡ suc n = grind (arith, common_steps) in
      rw after (go rows (none_waits p n rows most))
    where
      go : (xs : List (Row P)) → is_waiting p rows (suc n) ≡ false → pass_over xs (is_waiting p rows) (suc n) ≡ suc n
      go [] free = refl
      go (x ∷ xs) free = rw free refl

  -- the rows wait as older ones did, or are ready
  abbrev pub WaitAsBefore : List (Row P) → List (Row P) → Type 0
  WaitAsBefore rows rows' = (h : Row P) → In h rows' → ((g : Row P) × In g rows × (h.1.item.stage ≡ g.1.item.stage)) ⊎ (is_ready h.1.item.stage ≡ true)

  pub wait_subs : (rows rows' : List (Row P)) → Subsides P rows rows' → WaitAsBefore rows rows'
  wait_subs rows rows' subs h i =
      let r = subs h i in
      elim r.3 [ inl same ↦ inl (r.0, r.1, ap (λ (z : Item P). z.stage) same) | inr ready ↦ inr ready ]

  ready_waits : (stage : Stage) (p : Peer) (y : ℕ) → is_ready stage ≡ true → stage ≡ Waits p y → ⊥
  ready_waits (Waits on id) p y ready is = let out : false ≡ true = ready in cc
  ready_waits (Ready branches) p y ready is = let out : Ready branches ≡ Waits p y = is in cc

  pub most_before : (p : Peer) (n : ℕ) (rows rows' : List (Row P)) → WaitAsBefore rows rows' → AtMost p n rows → AtMost p n rows'
  most_before p n rows rows' before most h i y is = elim (before h i) [
    | inl old ↦ most old.0 old.1 y (sym old.2 ∙ is)
    | inr ready ↦ absurd (ready_waits h.1.item.stage p y ready is)
  ]

  -- What is known of what is sent on.
  module _ (S : Type 0) (Known : Wanted → Addr → List As → Peer → Type 0) where
    -- nothing is sent on
    pub record Quiet (k : Element P S) (t : Taken P S) : Type 0 where
      pub lasts : (p : Peer) → last p t.element.ways ≡ last p k.ways
      pub outs : NoneAsks t.outputs
      pub rows : WaitAsBefore k.pending.rows t.element.pending.rows

    -- one request is sent on, under a fresh id
    pub record SendsOn (k : Element P S) (t : Taken P S) : Type 0 where
      pub to : Peer
      pub id : ℕ
      pub wanted : Wanted
      pub target : Addr
      pub rest : List As
      pub known : Known wanted target rest to
      pub fresh : id ≡ fresh_id to (last to k.ways) k.pending.rows
      pub outs : t.outputs ≡ record { to = to; message = request_message id wanted target rest } ∷ []
      pub last_is : last to t.element.ways ≡ id
      pub others : (p : Peer) → same_peer to p ≡ false → last p t.element.ways ≡ last p k.ways
      pub rows : (h : Row P) → In h t.element.pending.rows → ((g : Row P) × In g k.pending.rows × (h.1.item.stage ≡ g.1.item.stage)) ⊎ (h.1.item.stage ≡ Waits to id)

    abbrev pub Numbers : Element P S → Taken P S → Type 0
    Numbers k t = Quiet k t ⊎ SendsOn k t

    choose : (k : Element P S) (b : Bool) (t u : Taken P S) → Numbers k t → Numbers k u → Numbers k (cond b t u)
    choose k true t u x y = x
    choose k false t u x y = y

    same_rows : (k : Element P S) → WaitAsBefore k.pending.rows k.pending.rows
    same_rows k h i = inl (h, i, refl)

    pub stays : (k : Element P S) (os : List Output) → NoneAsks os → Numbers k (record { element = k; outputs = os })
    stays k os none = inl (record { lasts = λ p. refl; outs = none; rows = same_rows k })

    -- the ways stay
    abbrev Stay : Element P S → Taken P S → Type 0
    Stay k t = (t.element.ways ≡ k.ways) × NoneAsks t.outputs

    none_append : (xs ys : List Output) → NoneAsks xs → NoneAsks ys → NoneAsks (xs ++ ys)
    none_append [] ys h g = g
    none_append (x ∷ xs) ys h g = (h.0, none_append xs ys h.1 g)

    pick : (k : Element P S) (b : Bool) (t u : Taken P S) → Stay k t → Stay k u → Stay k (cond b t u)
    pick k true t u x y = x
    pick k false t u x y = y

    each_stay : {X : Type 0} (f : X → Element P S → Taken P S) → ((x : X) (k : Element P S) → Stay k (f x k)) → (xs : List X) (k : Element P S) → Stay k (each f xs k)
    each_stay f one [] k = (refl, tt)
    each_stay f one (x ∷ xs) k =
        let a = one x k in
        let b = each_stay f one xs (f x k).element in
        (b.0 ∙ a.0, none_append (f x k).outputs (each f xs (f x k).element).outputs a.1 b.1)

    from_stay : (k : Element P S) (t : Taken P S) → Stay k t → Subsides P k.pending.rows t.element.pending.rows → Numbers k t
    from_stay k t stay subs = inl (record {
      lasts = λ p. ap (λ (ws : List Way). last p ws) stay.0;
      outs = stay.1;
      rows = wait_subs k.pending.rows t.element.pending.rows subs;
    })

    -- of a request that an element was asked and wants to send on
    abbrev pub Goes : As → List Route → Wanted → Type 0
    Goes own routes w = Known w w.target [] the_parent × ((first b : As) (rest : List As) → sequence_or own w.sequence ≡ first ∷ b ∷ rest → Known w w.target (b ∷ rest) (toward b routes))

    module _ (c : Codec) (show : S → List Hop) (e : ElementSettings) (pin : P) (p : Peer) (class : Class) (now : ℕ) (goes : (a : Asked) (flags x : ℕ) (w : Wanted) → Admits c a e.own flags x w → Goes e.own e.routes w) where
      opened_rows : (k : Element P S) (x : ℕ) (item : Item P) (Q : Stage → Type 0) → Q item.stage → (h : Row P) → In h (opened_of k.pending p x item).rows →
          ((g : Row P) × In g k.pending.rows × (h.1.item.stage ≡ g.1.item.stage)) ⊎ Q h.1.item.stage
      opened_rows k x item Q q h i = go (in_append h k.pending.rows ((k.pending.given + 1, record { key = key_of p x; item = item }) ∷ []) i)
        where
          go : In h k.pending.rows ⊎ In h ((k.pending.given + 1, record { key = key_of p x; item = item }) ∷ []) → ((g : Row P) × In g k.pending.rows × (h.1.item.stage ≡ g.1.item.stage)) ⊎ Q h.1.item.stage
          go (inl old) = inl (h, old, refl)
          go (inr (inl is)) = inr (subst (λ (r : Row P). Q r.1.item.stage) is q)
          go (inr (inr never)) = absurd never

      refused : (k : Element P S) (flags x : ℕ) → Numbers k (taking.denied p flags x k)
      refused k flags x = stays k _ ((λ none. none), tt)

      sends : (k : Element P S) (flags x : ℕ) (w : Wanted) (sequence rest : List As) (r : Bool) (q : Peer) (o : Option Way) → way_to q k.ways ≡ o → Known w w.target rest q → Numbers k (taking.send_on (taking.sight pin p class) (taking.wanting flags x w) sequence rest r k o)
      sends k flags x w sequence rest r q None is known = refused k flags x
      sends k flags x w sequence rest r q (Some way) is known =
          choose k way.up _ _ (choose k r _ _ (refused k flags x) (inr sent)) (refused k flags x)
        where
          y : ℕ
          y = fresh_id way.peer way.last_id k.pending.rows

          about : (way.last_id ≡ last q k.ways) × (way.peer ≡ q)
          about = way_last q k.ways way is

          found : way_to way.peer k.ways ≡ Some way
          found = ap (λ (z : Peer). way_to z k.ways) about.1 ∙ is

          sent : SendsOn k (taking.sent_on (taking.sight pin p class) (taking.wanting flags x w) sequence rest k way)
          sent = record {
            to = way.peer;
            id = fresh_id way.peer way.last_id k.pending.rows;
            wanted = w;
            target = w.target;
            rest = rest;
            known = subst (λ (z : Peer). Known w w.target rest z) (sym about.1) known;
            fresh = ap (λ (n : ℕ). fresh_id way.peer n k.pending.rows) (about.0 ∙ ap (λ (z : Peer). last z k.ways) (sym about.1));
            outs = refl;
            last_is = last_with way.peer (fresh_id way.peer way.last_id k.pending.rows) k.ways way found;
            others = λ p' other. last_other way.peer p' (fresh_id way.peer way.last_id k.pending.rows) k.ways other;
            rows = opened_rows k x (taking.item_of pin class flags w sequence (Waits way.peer (fresh_id way.peer way.last_id k.pending.rows)))
                (λ (stage : Stage). stage ≡ Waits way.peer (fresh_id way.peer way.last_id k.pending.rows)) refl;
          }

      along : (k : Element P S) (flags x : ℕ) (w : Wanted) (sequence : List As) → ((first b : As) (rest : List As) → sequence ≡ first ∷ b ∷ rest → Known w w.target (b ∷ rest) (toward b e.routes)) → Numbers k (taking.take_along e (taking.sight pin p class) (taking.wanting flags x w) k sequence)
      along k flags x w [] on = refused k flags x
      along k flags x w (a ∷ []) on = inl (record {
        lasts = λ q. refl;
        outs = tt;
        rows = opened_rows k x (taking.item_of pin class flags w (a ∷ []) (Ready [])) (λ (stage : Stage). is_ready stage ≡ true) refl;
      })
      along k flags x w (a ∷ b ∷ rest) on = sends k flags x w (a ∷ b ∷ rest) (b ∷ rest) (is_denied e.deny class b) (toward b e.routes) (way_to (toward b e.routes) k.ways) refl (on a b rest refl)

      wishes : (k : Element P S) (flags x : ℕ) (wish : Wish) → ((w : Wanted) → wish ≡ Path w → Goes e.own e.routes w) → Numbers k (taking.take_wish show e (taking.sight pin p class) now flags x k wish)
      wishes k flags x (Expand key pce) on = stays k _ ((λ none. none), tt)
      wishes k flags x (Path w) on =
          choose k (is_full k.pending) _ _ (stays k _ ((λ none. none), tt))
          (choose k (goes_up e.parent class w.sequence) _ _
          (sends k flags x w [] [] false the_parent (way_to the_parent k.ways) refl (on w refl).0)
          (along k flags x w (sequence_or e.own w.sequence) (on w refl).1))

      news : (r : Request) (k : Element P S) (o : Option ℕ) → ((w : Wanted) → r.wish ≡ Path w → Goes e.own e.routes w) → Numbers k (taking.take_new show e pin p class now r k o)
      news r k (Some number) on = stays k [] tt
      news r k None on = wishes k r.flags r.id r.wish on

      checks : (k : Element P S) (r : Checked) → ((q : Request) → r ≡ Admitted q → (w : Wanted) → q.wish ≡ Path w → Goes e.own e.routes w) → Numbers k (taking.take_checked show e pin p class now k r)
      checks k (Wrong rp kind value) on = stays k _ ((λ none. none), tt)
      checks k (Admitted r) on = news r k (number_of k.pending p r.id) (on r refl)

      made_stay : (h : Row P) (a : Answer) (k : Element P S) → Stay k (taking.made_ready c h a k)
      made_stay h (Paths ps) k = (refl, tt)
      made_stay h (NoPath nature vector) k = pick k (nature == 0) _ _ (refl, tt) (refl, ((λ none. none), tt))

      answer_stay : (r : Reply) (k : Element P S) (o : Option (Row P)) → Stay k (taking.take_answer c p r k o)
      answer_stay r k None = (refl, ((λ none. none), tt))
      answer_stay r k (Some h) = pick k (same_peer p the_parent) _ _ (refl, ((λ none. none), tt)) (made_stay h r.answer k)

      busy_stay : (k : Element P S) (o : Option (Row P)) → Stay k (taking.told_busy k o)
      busy_stay k None = (refl, tt)
      busy_stay k (Some h) = (refl, ((λ none. none), tt))

      cancel_stay : (k : Element P S) (o : Option ℕ) → Stay k (taking.cancelled k o)
      cancel_stay k None = (refl, tt)
      cancel_stay k (Some number) = (refl, tt)

      abbrev step_of : ℕ × ℕ → (Peer → ℕ × ℕ → Element P S → Taken P S) → Element P S → Taken P S
      step_of rp step = step p rp

      steps_stay : (rp : ℕ × ℕ) (kinds : List (ℕ × ℕ)) (k : Element P S) → Stay k (each (λ (step : Peer → ℕ × ℕ → Element P S → Taken P S). step p rp) (taking.notice_steps kinds) k)
      steps_stay rp kinds k = go (has_pair 1 2 kinds) (has_pair 1 1 kinds)
        where
          busy_one : (k : Element P S) → Stay k (taking.take_busy p rp k)
          busy_one k = busy_stay k (waiting p rp.1 k.pending.rows)

          cancel_one : (k : Element P S) → Stay k (taking.take_cancel p rp k)
          cancel_one k = cancel_stay k (number_of k.pending p rp.1)

          go : (a b : Bool) → Stay k (each (λ (step : Peer → ℕ × ℕ → Element P S → Taken P S). step p rp) (cond a (cond b (taking.take_busy ∷ taking.take_cancel ∷ []) (taking.take_busy ∷ [])) (cond b (taking.take_cancel ∷ []) [])) k)
          go true true =
              let t = taking.take_busy p rp k in
              let u = taking.take_cancel p rp t.element in
              let a = busy_one k in
              let b = cancel_one t.element in
              (b.0 ∙ a.0, none_append t.outputs _ a.1 (none_append u.outputs [] b.1 tt))
          go true false = let a = busy_one k in (a.0, none_append (taking.take_busy p rp k).outputs [] a.1 tt)
          go false true = let a = cancel_one k in (a.0, none_append (taking.take_cancel p rp k).outputs [] a.1 tt)
          go false false = (refl, tt)

      failure_stay : (f : ℕ × ℕ) (k : Element P S) (o : Option (Row P)) → Stay k (taking.take_failure f k o)
      failure_stay f k None = (refl, tt)
      failure_stay f k (Some h) = go (has_pair 8 0 (f ∷ [])) (has_pair f.0 f.1 ((4, 4) ∷ (13, 1) ∷ []))
        where
          go : (b b' : Bool) →
              Stay k (taking.told_error h k (cond b [] (cond b' (error_message (Some (h.1.item.flags, h.1.key.id)) 13 1 ∷ []) (reply_message h.1.item.flags h.1.key.id unavailable ∷ []))))
          go true b' = (refl, tt)
          go false true = (refl, ((λ none. none), tt))
          go false false = (refl, ((λ none. none), tt))

      report_stay : (ids : List (ℕ × ℕ)) (es : List (ℕ × ℕ)) (k : Element P S) → Stay k (taking.take_errors p ids es k)
      report_stay ids [] k = (refl, tt)
      report_stay ids (f ∷ fs) k = each_stay (λ (rp : ℕ × ℕ) k. taking.take_failure f k (waiting p rp.1 k.pending.rows)) (λ rp k. failure_stay f k (waiting p rp.1 k.pending.rows)) ids k

      pub take_numbers : (m : Message) → IsSingle m → (k : Element P S) → Numbers k (take c show e pin p class now m k)
      take_numbers (messages.PcReq []) one k = absurd (let none : 0 ≡ 1 = one in omega arith)
      take_numbers (messages.PcReq (a ∷ [])) one k =
          let t = taking.take_asked c show e pin p class now a k in
          subst (λ (os : List Output). Numbers k (record { element = t.element; outputs = os })) (sym (nil_right t.outputs)) (checks k (c.check a e.own)
          (λ q is w wish. goes a q.flags q.id w (is ∙ ap (λ (z : Wish). let asked : Request = record { flags = q.flags; id = q.id; wish = z } in Admitted asked) wish)))
      take_numbers (messages.PcReq (a ∷ b ∷ rest)) one k = absurd (let none : length (a ∷ b ∷ rest) ≡ 1 = one in omega (arith, none))
      take_numbers (messages.PcRep rs) one k =
          from_stay k _ (each_stay (taking.take_reply c p) (λ r k. answer_stay r k (waiting p r.id k.pending.rows)) rs k) (replies_subs P S c p rs k)
      take_numbers (messages.PcNtf ns) one k =
          from_stay k _
          (each_stay (taking.take_notice p) (λ x k. each_stay (λ (rp : ℕ × ℕ). each (λ (step : Peer → ℕ × ℕ → Element P S → Taken P S). step p rp) (taking.notice_steps x.kinds)) (λ rp k. steps_stay rp x.kinds k) x.ids k) ns k)
          (notices_subs P S c p ns k)
      take_numbers (messages.PcErr rs) one k =
          from_stay k _ (each_stay (taking.take_report p) (λ r k. report_stay r.ids r.errors k) rs k) (reports_subs P S c p rs k)
      take_numbers (messages.Open body) one k = stays k [] tt
      take_numbers messages.Keepalive one k = stays k [] tt
      take_numbers (messages.Close why) one k = stays k [] tt
      take_numbers (messages.Other kind) one k = stays k [] tt

    -- a solve sends nothing on
    pub commit_stays : (c : Codec) (e : ElementSettings) (h : Row P) (down : List Branch) (now : ℕ) (stands : Best → S) (s t : Bool) (best : List Best) (k : Element P S) →
        ((commit c e h down now stands (job_found s t best) k).element.ways ≡ k.ways) × NoneAsks (commit c e h down now stands (job_found s t best) k).outputs
    commit_stays c e h down now stands s t best k = pick k (is_client h.1.item.class) _ _ (client best) (closed best)
      where
        client : (best : List Best) → Stay k (taking.answered h (solving.client_reply c h down s t best) k)
        client [] = (refl, ((λ none. none), tt))
        client (b ∷ bs) = (refl, ((λ none. none), tt))

        closed : (best : List Best) → Stay k (solving.closed_reply c e h down now stands k best)
        closed [] = (refl, ((λ none. none), tt))
        closed (b ∷ bs) = pick k (nat_lt (solving.free now k.keys) (length (b ∷ bs))) _ _ (refl, ((λ none. none), tt)) (refl, ((λ none. none), tt))
