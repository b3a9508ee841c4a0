-- What the parent does with its rows: a request that was pending stays so or is answered, one that waits did so before or is sent on
-- now, and nothing waits for an answer once it is taken.
use Rattle.std.proofs.Common.{◌≡◌, ◌⊎◌, ◌+◌, ◌<◌, ◌^◌, ◌==◌, nat_eq, ℕ, Bool, true, false, cond, List, [], ◌∷◌, ◌++◌, length, Option, Some, None, sym, ◌∙◌, ap, subst, inl, inr, refl}
use Rattle.std.proofs.lemmas.Bool.{cases_Bool, eqb-true, eq-eqb}
use Rattle.plant_model.specs.Types.{Peer, Outside, Inner, Answer, Message, Request, Reply, Notice, Wanted, Wish, Branch, RequestKey}
use Rattle.pcep_messages.specs.declared.message.Answer.TheVariants.{Paths, NoPath}
use Rattle.pcep_messages.specs.declared.message.Message.TheVariants as messages
use Rattle.pcep_messages.specs.declared.message.Wish.TheVariants.{Path, Expand}
use Rattle.request_table.specs.Pending.{ArePending, same_peer, key_of, number_of, is_full}
use Rattle.plant_model.specs.declared.output.Output.{Output}
use Rattle.plant_text.specs.Names.{parent_as}
use Rattle.plant_model.specs.Names.{has_pair, same_id}
use Rattle.plant_model.specs.Wire.{Codec, Checked, Admitted, Wrong}
use Rattle.plant_model.specs.Writing.{error_message, reply_message, request_message, unavailable, busy, no_key, no_path}
use Rattle.plant_model.specs.Branches.{branches_in, path_of}
use Rattle.plant_model.specs.Element.{Way, with_last}
use Rattle.plant_model.specs.Taking.{error_answer}
use Rattle.plant_model.specs.BorderGraph.{Found}
use Rattle.plant_model.specs.Parent.{Wait, Asking, AskingRow, Parent, Family, ParentTaken, Errand, silent, only, each, errands, ask_all, all_waits, next_id, waiting, without, all_up, take, take_asked, take_checked, take_new, take_wish, take_path, answered, gathered, gathers, take_answer, take_found, take_reply, take_busy, take_cancel, told_busy, cancelled, take_notice, notice_steps, take_report, take_errors, take_failure, told_error, commit}
use Rattle.plant_laws.proofs.Once.Handing.{In, In-append}
use Rattle.plant_laws.proofs.Once.Counting.{has_room}
use Rattle.plant_laws.proofs.Once.CountingUpper.{waiting_in}
use Rattle.plant_laws.proofs.Once.RowCounts.{ended_pending, item_pending, begun_pending}
use Rattle.plant_laws.proofs.Once.Leaving.{In-front, In-back, same_row, kept_in, was_in, rewritten_in, written_in, number_there, not_equal, Answers, CancelNone, Answered, answer_there, reply_answers, busy_answers, error_answers}

peer_self : (p : Peer) → same_peer p p ≡ true
peer_self (Outside a) = eq-eqb a a refl
peer_self (Inner a) = eq-eqb a.0 a.0 refl

-- a request of a peer is pending
abbrev pub Named : Parent → Peer → ℕ → Type 0
Named k p x = (h : AskingRow) × In h k.pending.rows × (h.1.key ≡ key_of p x)

-- a request to a child is not answered yet
abbrev pub WaitsFor : Parent → Wait → Type 0
WaitsFor k w = (h : AskingRow) × In h k.pending.rows × In w h.1.item.waits

abbrev pub IsSent : Wait → List Output → Type 0
IsSent v os = (w : Wanted) × In {A = Output} (record { to = v.peer; message = request_message v.id w v.target (v.child ∷ []) }) os

pub record Moves (p : Peer) (k : Parent) (t : ParentTaken) : Type 0 where
  pub left : (x : ℕ) → Named k p x → Named t.parent p x ⊎ (Answered p x t.outputs)
  pub old : (w : Wait) → WaitsFor t.parent w → WaitsFor k w ⊎ IsSent w t.outputs

moves_silent : (p : Peer) (k : Parent) (os : List Output) → Moves p k (record { parent = k; outputs = os })
moves_silent p k os = record { left = λ x h. inl h; old = λ w h. inl h }

moves_then : (p : Peer) (k : Parent) (t u : ParentTaken) → Moves p k t → Moves p t.parent u → Moves p k (record { parent = u.parent; outputs = t.outputs ++ u.outputs })
moves_then p k t u m m' = record {
  left = λ x h. elim (m.left x h) [
    | inl still ↦
        elim (m'.left x still) [
          | inl stays ↦ inl stays
          | inr answers ↦ inr (answers.0, In-back _ t.outputs u.outputs answers.1, answers.2)
        ]
    | inr answers ↦ inr (answers.0, In-front _ t.outputs u.outputs answers.1, answers.2)
  ];
  old = λ w h. elim (m'.old w h) [
    | inl before ↦
        elim (m.old w before) [
          | inl first ↦ inl first
          | inr sent ↦ inr (sent.0, In-front _ t.outputs u.outputs sent.1)
        ]
    | inr sent ↦ inr (sent.0, In-back _ t.outputs u.outputs sent.1)
  ];
}

moves_each : {X : Type 0} (p : Peer) (f : X → Parent → ParentTaken) → ((x : X) (k : Parent) → ArePending k.pending → Moves p k (f x k) × ArePending (f x k).parent.pending) →
    (xs : List X) (k : Parent) → ArePending k.pending → Moves p k (each f xs k) × ArePending (each f xs k).parent.pending
moves_each p f moves [] k are = (moves_silent p k [], are)
moves_each p f moves (x ∷ xs) k are =
    let one = moves x k are in
    let rest = moves_each p f moves xs (f x k).parent one.1 in
    (moves_then p k (f x k) (each f xs (f x k).parent) one.0 rest.0, rest.1)

pub moves_answered : (p : Peer) (h : AskingRow) (m : Message) (k : Parent) → ArePending k.pending → In h k.pending.rows → Answers h.1.key.id m → Moves p k (answered h m k)
moves_answered p h m k are in' answers = record {
  left = λ x g. elim (cases_Bool (nat_eq h.0 g.0.0)) [
    | inl hit ↦ inr (gone x g.0 g.1 g.2 (eqb-true h.0 g.0.0 hit))
    | inr miss ↦ inl (g.0, kept_in h.0 k.pending.rows g.0 g.1 miss, g.2)
  ];
  old = λ w g. inl (g.0, was_in (nat_eq h.0) k.pending.rows g.0 g.1, g.2);
}
  where
    gone : (x : ℕ) (g : AskingRow) → In g k.pending.rows → g.1.key ≡ key_of p x → h.0 ≡ g.0 → Answered p x (record { to = h.1.key.peer; message = m } ∷ [])
    gone x g in'' key is =
        let same : h ≡ g = same_row 0 k.pending.given k.pending.rows h g are.numbers in' in'' is in
        let at : h.1.key ≡ key_of p x = ap (λ (r : AskingRow). r.1.key) same ∙ key in
        subst (λ (key : RequestKey). Answered key.peer key.id (record { to = h.1.key.peer; message = m } ∷ [])) at (answer_there h.1.key.peer h.1.key.id m answers)

-- the waits that are left were there
without_in : (q : Peer) (y : ℕ) (ws : List Wait) (w : Wait) → In w (without q y ws) → In w ws
without_in q y [] w in' = in'
without_in q y (v ∷ ws) w in' = go (same_id v.peer v.id q y) in' (without_in q y ws w)
  where
    go : (b : Bool) → In w (cond b ws (v ∷ without q y ws)) → (In w (without q y ws) → In w ws) → In w (v ∷ ws)
    go true h rec = inr h
    go false (inl is) rec = inl is
    go false (inr h) rec = inr (rec h)

pub moves_gathers : (p q : Peer) (y : ℕ) (bs : List Branch) (h : AskingRow) (k : Parent) → In h k.pending.rows → Moves p k (gathers q y bs h k)
moves_gathers p q y bs h k in' = record {
  left = λ x g. elim (rewritten_in h.0 (gathered q y bs h.1.item) k.pending.rows g.0 g.1) [
    | inl same ↦ inl (g.0, same, g.2)
    | inr new ↦ inl ((g.0.0, record g.0.1 { item = gathered q y bs h.1.item }), new.1, g.2)
  ];
  old = λ w g. elim (written_in h.0 (gathered q y bs h.1.item) k.pending.rows g.0 g.1) [
    | inl before ↦ inl (g.0, before, g.2)
    | inr new ↦ inl (h, in', without_in q y h.1.item.waits w (subst (λ (i : Asking). In w i.waits) new g.2))
  ];
}

module _ (c : Codec) (q : Peer) (p : Peer) where
  abbrev Good : Parent → ParentTaken → Type 0
  Good k t = Moves p k t × ArePending t.parent.pending

  good_pick : (k : Parent) (b : Bool) (t u : ParentTaken) → (b ≡ true → Good k t) → (b ≡ false → Good k u) → Good k (cond b t u)
  good_pick k true t u g g' = g refl
  good_pick k false t u g g' = g' refl

  good_silent : (k : Parent) → ArePending k.pending → Good k (silent k)
  good_silent k are = (moves_silent p k [], are)

  good_only : (m : Message) (k : Parent) → ArePending k.pending → Good k (only q m k)
  good_only m k are = (moves_silent p k (record { to = q; message = m } ∷ []), are)

  good_answered : (h : AskingRow) (m : Message) (k : Parent) → ArePending k.pending → In h k.pending.rows → Answers h.1.key.id m → Good k (answered h m k)
  good_answered h m k are in' answers = (moves_answered p h m k are in' answers, ended_pending h.0 k.pending are)

  good_gathers : (y : ℕ) (bs : List Branch) (h : AskingRow) (k : Parent) → ArePending k.pending → In h k.pending.rows → Good k (gathers q y bs h k)
  good_gathers y bs h k are in' = (moves_gathers p q y bs h k in', item_pending h.0 (gathered q y bs h.1.item) k.pending are)

  good_answer : (y : ℕ) (h : AskingRow) (a : Answer) (k : Parent) → ArePending k.pending → In h k.pending.rows → Good k (take_answer c q y h k a)
  good_answer y h (Paths ps) k are in' = good_gathers y (branches_in c h.1.item.wanted.query.metric ps) h k are in'
  good_answer y h (NoPath nature vector) k are in' =
      good_pick k (nature == 0) _ _ (λ is. good_gathers y [] h k are in')
      (λ is. good_answered h (reply_message h.1.item.flags h.1.key.id unavailable) k are in' (reply_answers h.1.item.flags h.1.key.id unavailable))

  good_reply : (r : Reply) (k : Parent) → ArePending k.pending → Good k (take_reply c q r k)
  good_reply r k are = go (waiting q r.id k.pending.rows) refl
    where
      go : (o : Option AskingRow) → waiting q r.id k.pending.rows ≡ o → Good k (take_found c q r k o)
      go None e = good_only (error_message (Some (r.flags, r.id)) 8 0) k are
      go (Some h) e = good_answer r.id h r.answer k are (waiting_in q r.id k.pending.rows h e)

  good_busy : (rp : ℕ × ℕ) (k : Parent) → ArePending k.pending → Good k (take_busy q rp k)
  good_busy rp k are = go (waiting q rp.1 k.pending.rows) refl
    where
      go : (o : Option AskingRow) → waiting q rp.1 k.pending.rows ≡ o → Good k (told_busy k o)
      go None e = good_silent k are
      go (Some h) e = good_answered h (busy h.1.item.flags h.1.key.id) k are (waiting_in q rp.1 k.pending.rows h e) (busy_answers h.1.item.flags h.1.key.id)

  good_cancel : same_peer q p ≡ false → (rp : ℕ × ℕ) (k : Parent) → ArePending k.pending → Good k (take_cancel q rp k)
  good_cancel apart rp k are = go (number_of k.pending q rp.1) refl
    where
      go : (o : Option ℕ) → number_of k.pending q rp.1 ≡ o → Good k (cancelled k o)
      go None e = good_silent k are
      go (Some number) e =
          let r = number_there (key_of q rp.1) k.pending.rows number e in (
            record {
              left = λ x g. inl (g.0, kept_in number k.pending.rows g.0 g.1 (not_equal number g.0.0 (λ is. other x r.0 g.0 r.1 g.1 r.3 g.2 (r.2 ∙ is))), g.2);
              old = λ w g. inl (g.0, was_in (nat_eq number) k.pending.rows g.0 g.1, g.2);
            },
            ended_pending number k.pending are,
          )
        where
          other : (x : ℕ) (h g : AskingRow) → In h k.pending.rows → In g k.pending.rows → h.1.key ≡ key_of q rp.1 → g.1.key ≡ key_of p x → h.0 ≡ g.0 → ⊥
          other x h g in' in'' at at' is =
              let same : h ≡ g = same_row 0 k.pending.given k.pending.rows h g are.numbers in' in'' is in
              let keys : key_of q rp.1 ≡ key_of p x = sym at ∙ ap (λ (r : AskingRow). r.1.key) same ∙ at' in
              let hit : same_peer q p ≡ true = ap (λ (key : RequestKey). same_peer q key.peer) (sym keys) ∙ peer_self q in
              let clash : true ≡ false = sym hit ∙ apart in cc

  abbrev IsFree : List (ℕ × ℕ) → Type 0
  IsFree kinds = (same_peer q p ≡ false) ⊎ (has_pair 1 1 kinds ≡ false)

  good_steps : (kinds : List (ℕ × ℕ)) → IsFree kinds → (rp : ℕ × ℕ) (k : Parent) → ArePending k.pending → Good k (each (λ step. step q rp) (notice_steps kinds) k)
  good_steps kinds free rp k are = go (has_pair 1 2 kinds) (has_pair 1 1 kinds) refl
    where
      one : (f : Peer → ℕ × ℕ → Parent → ParentTaken) → ((j : Parent) → ArePending j.pending → Good j (f q rp j)) → (j : Parent) → ArePending j.pending →
          Good j (each (λ (step : Peer → ℕ × ℕ → Parent → ParentTaken). step q rp) (f ∷ []) j)
      one f good j are' = let g = good j are' in (moves_then p j (f q rp j) (silent (f q rp j).parent) g.0 (moves_silent p (f q rp j).parent []), g.1)

      two : (f g : Peer → ℕ × ℕ → Parent → ParentTaken) → ((j : Parent) → ArePending j.pending → Good j (f q rp j)) → ((j : Parent) → ArePending j.pending → Good j (g q rp j)) →
          Good k (each (λ (step : Peer → ℕ × ℕ → Parent → ParentTaken). step q rp) (f ∷ g ∷ []) k)
      two f g good good' =
          let first = good k are in
          let rest = one g good' (f q rp k).parent first.1 in
          (moves_then p k (f q rp k) (each (λ (step : Peer → ℕ × ℕ → Parent → ParentTaken). step q rp) (g ∷ []) (f q rp k).parent) first.0 rest.0, rest.1)

      cancel : (b' : Bool) → has_pair 1 1 kinds ≡ b' → b' ≡ true → (j : Parent) → ArePending j.pending → Good j (take_cancel q rp j)
      cancel b' is hit j are' = elim free [
        | inl apart ↦ good_cancel apart rp j are'
        | inr none ↦ absurd (let clash : true ≡ false = sym hit ∙ sym is ∙ none in cc)
      ]

      go : (b b' : Bool) → has_pair 1 1 kinds ≡ b' →
          Good k (each (λ (step : Peer → ℕ × ℕ → Parent → ParentTaken). step q rp) (cond b (cond b' (take_busy ∷ take_cancel ∷ []) (take_busy ∷ [])) (cond b' (take_cancel ∷ []) [])) k)
      go true true is = two take_busy take_cancel (good_busy rp) (cancel true is refl)
      go true false is = one take_busy (good_busy rp) k are
      go false true is = one take_cancel (cancel true is refl) k are
      go false false is = good_silent k are

  good_error : (e : ℕ × ℕ) (h : AskingRow) (k : Parent) → ArePending k.pending → In h k.pending.rows → Good k (told_error h k (error_answer e h.1.item.flags h.1.key.id))
  good_error e h k are in' = go (has_pair 8 0 (e ∷ [])) (has_pair e.0 e.1 ((4, 4) ∷ (13, 1) ∷ []))
    where
      go : (b b' : Bool) →
          Good k (told_error h k (cond b [] (cond b' (error_message (Some (h.1.item.flags, h.1.key.id)) 13 1 ∷ []) (reply_message h.1.item.flags h.1.key.id unavailable ∷ []))))
      go true b' = good_silent k are
      go false true = good_answered h (error_message (Some (h.1.item.flags, h.1.key.id)) 13 1) k are in' (error_answers h.1.item.flags h.1.key.id)
      go false false = good_answered h (reply_message h.1.item.flags h.1.key.id unavailable) k are in' (reply_answers h.1.item.flags h.1.key.id unavailable)

  good_failure : (e rp : ℕ × ℕ) (k : Parent) → ArePending k.pending → Good k (take_failure e k (waiting q rp.1 k.pending.rows))
  good_failure e rp k are = go (waiting q rp.1 k.pending.rows) refl
    where
      go : (o : Option AskingRow) → waiting q rp.1 k.pending.rows ≡ o → Good k (take_failure e k o)
      go None is = good_silent k are
      go (Some h) is = good_error e h k are (waiting_in q rp.1 k.pending.rows h is)

  good_errors : (ids errors : List (ℕ × ℕ)) (k : Parent) → ArePending k.pending → Good k (take_errors q ids errors k)
  good_errors ids [] k are = good_silent k are
  good_errors ids (e ∷ es) k are = moves_each p (λ rp j. take_failure e j (waiting q rp.1 j.pending.rows)) (λ rp j are'. good_failure e rp j are') ids k are

  -- each request to a child is sent
  asked_sent : (w : Wanted) (before : List Wait) (rs : List Errand) (ways : List Way) (v : Wait) → In v (ask_all w before rs ways).waits → IsSent v (ask_all w before rs ways).outputs
  asked_sent w before [] ways v in' = absurd in'
  asked_sent w before (r ∷ rs) ways v in' =
      let y = next_id (Inner r.child) before ways in
      let one : Wait = record { peer = Inner r.child; id = y; child = r.child; target = r.target } in
      go y one in' (asked_sent w (one ∷ before) rs (with_last (Inner r.child) y ways) v)
    where
      go : (y : ℕ) (one : Wait) →
          (v ≡ record { peer = Inner r.child; id = y; child = r.child; target = r.target }) ⊎ In v (ask_all w (one ∷ before) rs (with_last (Inner r.child) y ways)).waits →
          (In v (ask_all w (one ∷ before) rs (with_last (Inner r.child) y ways)).waits → IsSent v (ask_all w (one ∷ before) rs (with_last (Inner r.child) y ways)).outputs) →
          IsSent v (record { to = Inner r.child; message = request_message y w r.target (r.child ∷ []) } ∷ (ask_all w (one ∷ before) rs (with_last (Inner r.child) y ways)).outputs)
      go y one (inl is) rec = (w, inl (ap (λ (u : Wait). let o : Output = record { to = u.peer; message = request_message u.id w u.target (u.child ∷ []) } in o) is))
      go y one (inr h) rec = let s = rec h in (s.0, inr s.1)

  module _ (f : Family) where
    good_opened : (flags x : ℕ) (w : Wanted) (k : Parent) → ArePending k.pending → (length k.pending.rows < k.pending.limit) × (k.pending.given + 1 < 2 ^ 64) × (number_of k.pending q x ≡ None) → Good k (take_path f q flags x w k)
    good_opened flags x w k are room =
        let asks = ask_all w (all_waits k.pending.rows) (errands f.links w.target f.children) k.ways in
        let i : Asking = record { flags = flags; wanted = w; waits = asks.waits; rows = [] } in
        let new : AskingRow = (k.pending.given + 1, record { key = key_of q x; item = i }) in (
          record {
            left = λ x' g. inl (g.0, In-front g.0 k.pending.rows (new ∷ []) g.1, g.2);
            old = λ v g. elim (In-append g.0 k.pending.rows (new ∷ []) g.1) [
              | inl before ↦ inl (g.0, before, g.2)
              | inr (inl is) ↦ inr (asked_sent w (all_waits k.pending.rows) (errands f.links w.target f.children) k.ways v (subst (λ (r : AskingRow). In v r.1.item.waits) is g.2))
              | inr (inr none) ↦ absurd none
            ];
          },
          begun_pending q x i k.pending are room.0 room.1 room.2,
        )

    good_wish : (flags x : ℕ) (k : Parent) → ArePending k.pending → number_of k.pending q x ≡ None → (wish : Wish) → Good k (take_wish f q flags x k wish)
    good_wish flags x k are none (Path w) =
        good_pick k (is_full k.pending) _ (cond (all_up f.children k.ways) (take_path f q flags x w k) (only q (reply_message flags x unavailable) k))
        (λ is. good_only (busy flags x) k are)
        (λ is.
        let r = has_room k.pending are is in
        good_pick k (all_up f.children k.ways) (take_path f q flags x w k) _ (λ up. good_opened flags x w k are (r.0, r.1, none)) (λ up. good_only (reply_message flags x unavailable) k are))
    good_wish flags x k are none (Expand key pce) = good_only (reply_message flags x no_key) k are

    good_new : (r : Request) (k : Parent) → ArePending k.pending → (o : Option ℕ) → number_of k.pending q r.id ≡ o → Good k (take_new f q r k o)
    good_new r k are (Some number) is = good_silent k are
    good_new r k are None is = good_wish r.flags r.id k are is r.wish

    good_checked : (k : Parent) → ArePending k.pending → (o : Checked) → Good k (take_checked f q k o)
    good_checked k are (Wrong rp kind value) = good_only (error_message rp kind value) k are
    good_checked k are (Admitted r) = good_new r k are (number_of k.pending q r.id) refl

    -- what the parent does with a message: of the requests of p and of those that wait
    pub take_moves : (m : Message) → ((notices : List Notice) → m ≡ messages.PcNtf notices → (same_peer q p ≡ false) ⊎ CancelNone notices) → (k : Parent) → ArePending k.pending →
        Moves p k (take c f q m k) × ArePending (take c f q m k).parent.pending
    take_moves (messages.PcReq asks) free k are = moves_each p (take_asked c f q) (λ a j are'. good_checked j are' (c.check a parent_as)) asks k are
    take_moves (messages.PcRep replies) free k are = moves_each p (take_reply c q) good_reply replies k are
    take_moves (messages.PcNtf notices) free k are = elim (free notices refl) [
      | inl apart ↦ moves_each p (take_notice q) (λ r j are'. moves_each p (λ rp. each (λ step. step q rp) (notice_steps r.kinds)) (λ rp j' are''. good_steps r.kinds (inl apart) rp j' are'') r.ids j are') notices k are
      | inr none ↦ notices_move notices none k are
    ]
      where
        notices_move : (ns : List Notice) → CancelNone ns → (k : Parent) → ArePending k.pending → Moves p k (each (take_notice q) ns k) × ArePending (each (take_notice q) ns k).parent.pending
        notices_move [] none k are = good_silent k are
        notices_move (r ∷ rs) none k are =
            let one = moves_each p (λ rp. each (λ step. step q rp) (notice_steps r.kinds)) (λ rp j' are''. good_steps r.kinds (inr none.0) rp j' are'') r.ids k are in
            let rest = notices_move rs none.1 (take_notice q r k).parent one.1 in
            (moves_then p k (take_notice q r k) (each (take_notice q) rs (take_notice q r k).parent) one.0 rest.0, rest.1)
    take_moves (messages.PcErr reports) free k are = moves_each p (take_report q) (λ r j are'. good_errors r.ids r.errors j are') reports k are
    take_moves (messages.Open body) free k are = good_silent k are
    take_moves messages.Keepalive free k are = good_silent k are
    take_moves (messages.Close why) free k are = good_silent k are
    take_moves (messages.Other kind) free k are = good_silent k are

pub commit_moves : (p : Peer) (c : Codec) (h : AskingRow) (a : Option Found) (k : Parent) → ArePending k.pending → In h k.pending.rows → Moves p k (commit c h a k)
commit_moves p c h None k are in' = moves_answered p h (reply_message h.1.item.flags h.1.key.id (no_path true true)) k are in' (reply_answers h.1.item.flags h.1.key.id (no_path true true))
commit_moves p c h (Some a) k are in' =
    let paths = Paths (path_of c h.1.item.wanted.query.metric a.cost a.hops ∷ []) in
    moves_answered p h (reply_message h.1.item.flags h.1.key.id paths) k are in' (reply_answers h.1.item.flags h.1.key.id paths)
