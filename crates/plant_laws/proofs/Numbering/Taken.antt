-- What an element does with a message of the next element, or of one that asks it: nothing waits for an answer once it is taken,
-- and a request that is taken is pending or answered.
use Rattle.std.proofs.Common.{◌≡◌, ◌⊎◌, ◌+◌, ◌==◌, nat_eq, ℕ, Bool, true, false, cond, List, [], ◌∷◌, Option, Some, None, sym, ◌∙◌, ap, subst, inl, inr, refl, arith}
use Rattle.std.specs.Map.{remove_entry}
use Rattle.std.proofs.lemmas.Bool.{eqb-true, eq-eqb}
use Rattle.plant_model.specs.Types.{As, Peer, Outside, Inner, Hop, Asked, Answer, Message, Wanted, Class, Branch, Held}
use Rattle.pcep_messages.specs.declared.message.Answer.TheVariants.{Paths, NoPath}
use Rattle.pcep_messages.specs.declared.message.Wish.TheVariants.{Path}
use Rattle.request_table.specs.Pending.{ArePending, NumbersRise, same_peer, key_of, number_of, opened_of, is_full}
use Rattle.request_table.specs.Lends.{with_item}
use Rattle.plant_model.specs.declared.output.Output.{Output}
use Rattle.plant_model.specs.Names.{the_parent}
use Rattle.plant_model.specs.Wire.{Codec, Checked, Admitted}
use Rattle.plant_model.specs.Writing.{error_message, reply_message, unavailable, busy, request_message}
use Rattle.plant_model.specs.Branches.{branches_in}
use Rattle.disclosure.specs.Policy.{is_denied}
use Rattle.plant_model.specs.Element.{Stage, Waits, Ready, Element, Item, Row, Way, ElementSettings, Taken, silent, only, is_client, way_to, waiting, waits_for, at_stage, fresh_id, with_last}
use Rattle.plant_model.specs.Routes.{toward}
use Rattle.plant_model.specs.Taking.{take, take_asked, take_checked, take_new, take_path, take_along, send_on, item_of, sequence_or, goes_up, answered, staged, take_answer, made_ready, told_busy, take_failure, sight, wanting}
use Rattle.plant_laws.proofs.Once.RowCounts.{above}
use Rattle.plant_laws.proofs.Once.Handing.{In}
use Rattle.plant_laws.proofs.Once.Counting.{waiting_in}
use Rattle.plant_laws.proofs.Once.Leaving.{In-back, was_in, written_in, Answered, answer_there, reply_answers, busy_answers, Named, WaitsFor}

peer_is : (p q : Peer) → same_peer p q ≡ true → p ≡ q
peer_is (Outside a) (Outside b) e = ap (λ (n : ℕ). Outside n) (eqb-true a b e)
peer_is (Outside a) (Inner b) e = cc
peer_is (Inner a) (Outside b) e = cc
peer_is (Inner a) (Inner b) e = ap (λ (n : ℕ). let number : As = record { 0 = n } in Inner number) (eqb-true a.0 b.0 e)

pub peer_self : (p : Peer) → same_peer p p ≡ true
peer_self (Outside a) = eq-eqb a a refl
peer_self (Inner a) = eq-eqb a.0 a.0 refl

-- a row that was taken away is there no more
pub gone_from : {T : Type 0} (low high number : ℕ) (rows : List (ℕ × Held T)) (g : ℕ × Held T) → NumbersRise low rows high → In g (remove_entry (nat_eq number) rows) → g.0 ≡ number → ⊥
gone_from low high number [] g up in' is = in'
gone_from {T} low high number (row ∷ rows) g up in' is = go (nat_eq number row.0) refl in' (λ h. gone_from row.0 high number rows g up.1 h is)
  where
    go : (b : Bool) → nat_eq number row.0 ≡ b → In g (cond b rows (row ∷ remove_entry (nat_eq number) rows)) → (In g (remove_entry (nat_eq number) rows) → ⊥) → ⊥
    go true hit h rec = let at = eqb-true number row.0 hit in let lt = above row.0 high rows g up.1 h in omega arith
    go false miss (inl same) rec = let at : nat_eq number row.0 ≡ true = eq-eqb number row.0 (sym is ∙ ap (λ (r : ℕ × Held T). r.0) same) in let clash : true ≡ false = sym at ∙ miss in cc
    go false miss (inr h) rec = rec h

-- a row that was written has the item
pub written_at : {T : Type 0} (low high number : ℕ) (item : T) (rows : List (ℕ × Held T)) (g : ℕ × Held T) → NumbersRise low rows high → In g (with_item number item rows) → g.0 ≡ number → g.1.item ≡ item
written_at low high number item [] g up in' is = absurd in'
written_at {T} low high number item (row ∷ rows) g up in' is = go (nat_eq number row.0) refl in' (λ h. written_at row.0 high number item rows g up.1 h is)
  where
    go : (b : Bool) → nat_eq number row.0 ≡ b → In g (cond b ((row.0, record row.1 { item = item }) ∷ rows) (row ∷ with_item number item rows)) → (In g (with_item number item rows) → g.1.item ≡ item) → g.1.item ≡ item
    go true hit (inl same) rec = ap (λ (r : ℕ × Held T). r.1.item) same
    go true hit (inr h) rec = absurd (let at = eqb-true number row.0 hit in let lt = above row.0 high rows g up.1 h in omega arith)
    go false miss (inl same) rec = absurd (let at : nat_eq number row.0 ≡ true = eq-eqb number row.0 (sym is ∙ ap (λ (r : ℕ × Held T). r.0) same) in let clash : true ≡ false = sym at ∙ miss in cc)
    go false miss (inr h) rec = rec h

module _ (P : Type 0) (S : Type 0) where
  waits_at : (g : Stage) (p : Peer) (y : ℕ) → g ≡ Waits p y → waits_for p y g ≡ true
  waits_at g p y e = ap (waits_for p y) e ∙ ap (λ (t : Bool). cond t (y == y) false) (peer_self p) ∙ eq-eqb y y refl

  at_waits : (g : Stage) (p : Peer) (y : ℕ) → waits_for p y g ≡ true → g ≡ Waits p y
  at_waits (Ready bs) p y e = cc
  at_waits (Waits on id) p y e = go (same_peer on p) refl e
    where
      go : (b : Bool) → same_peer on p ≡ b → cond b (id == y) false ≡ true → Waits on id ≡ Waits p y
      go true is hit = ap (λ (q : Peer). Waits q id) (peer_is on p is) ∙ ap (λ (n : ℕ). Waits p n) (eqb-true id y hit)
      go false is hit = cc

  pub waiting_none : (p : Peer) (y : ℕ) (hs : List (Row P)) → waiting p y hs ≡ None → (h : Row P) → In h hs → h.1.item.stage ≡ Waits p y → ⊥
  waiting_none p y [] e h in' w = in'
  waiting_none p y (g ∷ hs) e h in' w = go (waits_for p y g.1.item.stage) refl e in' (λ e' i. waiting_none p y hs e' h i w)
    where
      go : (b : Bool) → waits_for p y g.1.item.stage ≡ b → cond b (Some g) (waiting p y hs) ≡ None → In h (g ∷ hs) → (waiting p y hs ≡ None → In h hs → ⊥) → ⊥
      go true hit e i rec = cc
      go false miss e (inl is) rec =
          let at = waits_at g.1.item.stage p y (ap (λ (r : Row P). r.1.item.stage) (sym is) ∙ w) in
          let clash : true ≡ false = sym at ∙ miss in cc
      go false miss e (inr i) rec = rec e i

  pub waiting_at : (p : Peer) (y : ℕ) (hs : List (Row P)) (h : Row P) → waiting p y hs ≡ Some h → h.1.item.stage ≡ Waits p y
  waiting_at p y [] h e = cc
  waiting_at p y (g ∷ hs) h e = go (waits_for p y g.1.item.stage) refl e (waiting_at p y hs h)
    where
      go : (b : Bool) → waits_for p y g.1.item.stage ≡ b → cond b (Some g) (waiting p y hs) ≡ Some h → (waiting p y hs ≡ Some h → h.1.item.stage ≡ Waits p y) → h.1.item.stage ≡ Waits p y
      go true hit e rec = let same : g ≡ h = cc in subst (λ (r : Row P). r.1.item.stage ≡ Waits p y) same (at_waits g.1.item.stage p y hit)
      go false miss e rec = rec e

  -- ---- an answer to the id y comes from q, and one request waits for it at most

  module _ (c : Codec) (q : Peer) (y : ℕ) (k : Element P S) (are : ArePending k.pending)
      (once : (g h : Row P) → In g k.pending.rows → In h k.pending.rows → g.1.item.stage ≡ Waits q y → h.1.item.stage ≡ Waits q y → g ≡ h) where
    abbrev IsOver : Taken P S → Type 0
    IsOver t = (sequence : List As) → WaitsFor P S t.element q y sequence → ⊥

    over_pick : (b : Bool) (t u : Taken P S) → IsOver t → IsOver u → IsOver (cond b t u)
    over_pick true t u g g' = g
    over_pick false t u g g' = g'

    over_none : waiting q y k.pending.rows ≡ None → IsOver (silent k)
    over_none none sequence w = waiting_none q y k.pending.rows none w.0 w.1 w.2

    over_answered : (h : Row P) (m : Message) → waiting q y k.pending.rows ≡ Some h → IsOver (answered h m k)
    over_answered h m is sequence w =
        let in' = waiting_in q y k.pending.rows h is in
        let old = was_in (nat_eq h.0) k.pending.rows w.0 w.1 in
        let same : w.0 ≡ h = once w.0 h old in' w.2 (waiting_at q y k.pending.rows h is) in
        gone_from 0 k.pending.given h.0 k.pending.rows w.0 are.numbers w.1 (ap (λ (r : Row P). r.0) same)

    over_staged : (h : Row P) (bs : List Branch) → waiting q y k.pending.rows ≡ Some h → IsOver (silent (staged h (Ready bs) k))
    over_staged h bs is sequence w = elim (written_in h.0 (at_stage (Ready bs) h.1.item) k.pending.rows w.0 w.1) [
      | inr new ↦ (let clash : Ready bs ≡ Waits q y = sym (ap (λ (i : Item P). i.stage) new) ∙ w.2 in cc)
      | inl old ↦
          let in' = waiting_in q y k.pending.rows h is in
          let same : w.0 ≡ h = once w.0 h old in' w.2 (waiting_at q y k.pending.rows h is) in
          let new = written_at 0 k.pending.given h.0 (at_stage (Ready bs) h.1.item) k.pending.rows w.0 are.numbers w.1 (ap (λ (r : Row P). r.0) same) in
          (let clash : Ready bs ≡ Waits q y = sym (ap (λ (i : Item P). i.stage) new) ∙ w.2 in cc)
    ]

    over_ready : (h : Row P) (a : Answer) → waiting q y k.pending.rows ≡ Some h → IsOver (made_ready c h a k)
    over_ready h (Paths ps) is = over_staged h (branches_in c h.1.item.wanted.query.metric ps) is
    over_ready h (NoPath nature vector) is = over_pick (nature == 0) _ _ (over_staged h [] is) (over_answered h (reply_message h.1.item.flags h.1.key.id unavailable) is)

    module _ (show : S → List Hop) (e : ElementSettings) (pin : P) (class : Class) (now : ℕ) where
      pub reply_over : (flags : ℕ) (a : Answer) → IsOver (take c show e pin q class now (reply_message flags y a) k)
      reply_over flags a = go (waiting q y k.pending.rows) refl
        where
          go : (o : Option (Row P)) → waiting q y k.pending.rows ≡ o → IsOver (take_answer c q (record { flags = flags; id = y; answer = a }) k o)
          go None is = over_none is
          go (Some h) is = over_pick (same_peer q the_parent) _ (made_ready c h a k) (over_answered h (reply_message h.1.item.flags h.1.key.id a) is) (over_ready h a is)

      pub busy_over : (flags : ℕ) → IsOver (take c show e pin q class now (busy flags y) k)
      busy_over flags = go (waiting q y k.pending.rows) refl
        where
          go : (o : Option (Row P)) → waiting q y k.pending.rows ≡ o → IsOver (told_busy k o)
          go None is = over_none is
          go (Some h) is = over_answered h (busy h.1.item.flags h.1.key.id) is

      pub error_over : (flags : ℕ) → IsOver (take c show e pin q class now (error_message (Some (flags, y)) 13 1) k)
      error_over flags = go (waiting q y k.pending.rows) refl
        where
          go : (o : Option (Row P)) → waiting q y k.pending.rows ≡ o → IsOver (take_failure (13, 1) k o)
          go None is = over_none is
          go (Some h) is = over_answered h (error_message (Some (h.1.item.flags, h.1.key.id)) 13 1) is

      pub refusal_over : (flags : ℕ) → IsOver (take c show e pin q class now (error_message (Some (flags, y)) 4 2) k)
      refusal_over flags = go (waiting q y k.pending.rows) refl
        where
          go : (o : Option (Row P)) → waiting q y k.pending.rows ≡ o → IsOver (take_failure (4, 2) k o)
          go None is = over_none is
          go (Some h) is = over_answered h (reply_message h.1.item.flags h.1.key.id unavailable) is

  -- ---- a request comes from q, which has none of this id pending

  module _ (c : Codec) (q : Peer) (k : Element P S) (show : S → List Hop) (e : ElementSettings) (pin : P) (class : Class) (closed : is_client class ≡ false) (now : ℕ) where
    abbrev IsSeen : ℕ → List As → Taken P S → Type 0
    IsSeen y sequence t = Named P S t.element q y sequence ⊎ (Answered q y t.outputs)

    seen_pick : (y : ℕ) (sequence : List As) (b : Bool) (t u : Taken P S) → IsSeen y sequence t → IsSeen y sequence u → IsSeen y sequence (cond b t u)
    seen_pick y sequence true t u g g' = g
    seen_pick y sequence false t u g g' = g'

    seen_reply : (flags y : ℕ) (sequence : List As) (a : Answer) → IsSeen y sequence (only q (reply_message flags y a) k)
    seen_reply flags y sequence a = inr (answer_there q y (reply_message flags y a) (reply_answers flags y a))

    seen_opened : (y : ℕ) (i : Item P) (ways : List Way) (os : List Output) → IsSeen y i.sequence (record { element = record k { pending = opened_of k.pending q y i; ways = ways }; outputs = os })
    seen_opened y i ways os =
        let new : Row P = (k.pending.given + 1, record { key = key_of q y; item = i }) in
        inl (new, In-back new k.pending.rows (new ∷ []) (inl refl), refl, refl)

    seen_along : (flags y : ℕ) (w : Wanted) (sequence : List As) → IsSeen y sequence (take_along e (sight pin q class) (wanting flags y w) k sequence)
    seen_along flags y w [] = seen_reply flags y [] unavailable
    seen_along flags y w (a ∷ []) = seen_opened y (item_of pin class flags w (a ∷ []) (Ready [])) k.ways []
    seen_along flags y w (a ∷ b ∷ rest) = go (way_to (toward b e.routes) k.ways)
      where
        go : (o : Option Way) → IsSeen y (a ∷ b ∷ rest) (send_on (sight pin q class) (wanting flags y w) (a ∷ b ∷ rest) (b ∷ rest) (is_denied e.deny class b) k o)
        go None = seen_reply flags y (a ∷ b ∷ rest) unavailable
        go (Some way) =
            seen_pick y (a ∷ b ∷ rest) way.up _ _
            (seen_pick y (a ∷ b ∷ rest) (is_denied e.deny class b) _ _ (seen_reply flags y (a ∷ b ∷ rest) unavailable)
            (seen_opened y (item_of pin class flags w (a ∷ b ∷ rest) (Waits way.peer (fresh_id way.peer way.last_id k.pending.rows))) (with_last way.peer (fresh_id way.peer way.last_id k.pending.rows) k.ways)
            (record { to = way.peer; message = request_message (fresh_id way.peer way.last_id k.pending.rows) w w.target (b ∷ rest) } ∷ [])))
            (seen_reply flags y (a ∷ b ∷ rest) unavailable)

    stays_down : (l : List As) → goes_up e.parent class l ≡ false
    stays_down [] = ap (λ (b : Bool). cond b e.parent false) closed
    stays_down (a ∷ l) = refl

    seen_path : (flags y : ℕ) (w : Wanted) (a : As) (rest : List As) → w.sequence ≡ a ∷ rest → IsSeen y (a ∷ rest) (take_path e (sight pin q class) (wanting flags y w) k)
    seen_path flags y w a rest is =
        subst (λ (b : Bool). IsSeen y (a ∷ rest) (cond b (send_on (sight pin q class) (wanting flags y w) [] [] false k (way_to the_parent k.ways)) (take_along e (sight pin q class) (wanting flags y w) k (sequence_or e.own w.sequence)))) (sym (stays_down w.sequence))
        (subst (λ (l : List As). IsSeen y (a ∷ rest) (take_along e (sight pin q class) (wanting flags y w) k (sequence_or e.own l))) (sym is) (seen_along flags y w (a ∷ rest)))

    pub ask_seen : (a : Asked) (flags y : ℕ) (w : Wanted) (b : As) (rest : List As) → c.check a e.own ≡ Admitted (record { flags = flags; id = y; wish = Path w }) → number_of k.pending q y ≡ None →
        w.sequence ≡ b ∷ rest → IsSeen y (b ∷ rest) (take_asked c show e pin q class now a k)
    ask_seen a flags y w b rest admitted fresh is =
        subst (λ (o : Checked). IsSeen y (b ∷ rest) (take_checked show e pin q class now k o)) (sym admitted)
        (subst (λ (o : Option ℕ). IsSeen y (b ∷ rest) (take_new show e pin q class now (record { flags = flags; id = y; wish = Path w }) k o)) (sym fresh)
        (seen_pick y (b ∷ rest) (is_full k.pending) _ (take_path e (sight pin q class) (wanting flags y w) k) (inr (answer_there q y (busy flags y) (busy_answers flags y))) (seen_path flags y w b rest is)))
