-- What the parent does with a message of a child: nothing waits for an answer once it is taken, and a request that is taken is
-- pending or answered.
use Rattle.std.proofs.Common.{◌≡◌, ◌⊎◌, ◌+◌, ◌≤◌, ◌==◌, nat_eq, ℕ, Bool, true, false, cond, List, [], ◌∷◌, ◌++◌, Option, Some, None, sym, ◌∙◌, ap, subst, inl, inr, refl, arith, map, filter, not}
use Rattle.std.specs.Map.{remove_entry}
use Rattle.std.proofs.lemmas.Bool.{cases_Bool, eqb-true, eq-eqb}
use Rattle.plant_model.specs.Types.{Peer, Asked, Answer, Message, Wanted, Branch, RequestKey}
use Rattle.pcep_messages.specs.declared.message.Answer.TheVariants.{Paths, NoPath}
use Rattle.pcep_messages.specs.declared.message.Wish.TheVariants.{Path}
use Rattle.request_table.specs.Pending.{ArePending, NumbersRise, key_of, number_of, same_peer, is_full}
use Rattle.request_table.specs.Lends.{with_item}
use Rattle.plant_text.specs.Names.{parent_as}
use Rattle.plant_model.specs.Names.{same_id}
use Rattle.plant_model.specs.Wire.{Codec, Checked, Admitted, Wrong}
use Rattle.plant_model.specs.Writing.{error_message, reply_message, unavailable, busy}
use Rattle.plant_model.specs.Branches.{branches_in}
use Rattle.plant_model.specs.Element.{lost_output}
use Rattle.plant_model.specs.Parent.{Wait, Asking, AskingRow, Parent, Family, ParentTaken, only, errands, ask_all, all_waits, among, waiting, without, all_up, take, take_asked, take_checked, take_new, take_path, answered, gathered, gathers, take_answer, take_found, told_busy, take_failure, any_on, stays, is_lost, lost, lost_of, downed}
use Rattle.plant_laws.specs.Transcript.{one_if}
use Rattle.plant_laws.proofs.Once.RowCounts.{above}
use Rattle.plant_laws.proofs.Once.Handing.{In}
use Rattle.plant_laws.proofs.Once.CountingUpper.{waiting_in}
use Rattle.plant_laws.proofs.Once.Leaving.{In-back, Answered, answer_there, reply_answers, busy_answers, by_refusal}
use Rattle.plant_laws.proofs.Numbering.Taken.{peer_self}
use Rattle.plant_laws.proofs.Once.LeavingUpper.{Named, WaitsFor, Moves}

-- how many wait for the answer to an id
abbrev pub matches : Peer → ℕ → Wait → ℕ
matches q y w = one_if (same_id w.peer w.id q y)

abbrev pub count_waits : Peer → ℕ → List Wait → ℕ
count_waits q y [] = 0
count_waits q y (w ∷ ws) = matches q y w + count_waits q y ws

counted_append : (q : Peer) (y : ℕ) (xs ys : List Wait) → count_waits q y (xs ++ ys) ≡ count_waits q y xs + count_waits q y ys
counted_append q y [] ys = omega arith
counted_append q y (x ∷ xs) ys = omega (arith, counted_append q y xs ys)

id_self : (q : Peer) (y : ℕ) → same_id q y q y ≡ true
id_self q y = ap (λ (b : Bool). cond b (y == y) false) (peer_self q) ∙ eq-eqb y y refl

-- one that waits is counted
counted : (q : Peer) (y : ℕ) (ws : List Wait) (w : Wait) → In w ws → w.peer ≡ q → w.id ≡ y → 1 ≤ count_waits q y ws
counted q y [] w in' peer id = absurd in'
counted q y (v ∷ ws) w (inl is) peer id =
    let hit : same_id v.peer v.id q y ≡ true =
    ap (λ (u : Wait). same_id u.peer u.id q y) (sym is) ∙ ap (λ (p : Peer). same_id p w.id q y) peer ∙ ap (λ (n : ℕ). same_id q n q y) id ∙ id_self q y in
    rw hit (omega arith)
counted q y (v ∷ ws) w (inr in') peer id = omega (arith, counted q y ws w in' peer id)

counted_row : (q : Peer) (y : ℕ) (rows : List AskingRow) (h : AskingRow) → In h rows → count_waits q y h.1.item.waits ≤ count_waits q y (all_waits rows)
counted_row q y [] h in' = absurd in'
counted_row q y (row ∷ rows) h (inl is) =
    let at : count_waits q y h.1.item.waits ≡ count_waits q y row.1.item.waits = ap (λ (r : AskingRow). count_waits q y r.1.item.waits) is in
    omega (arith, counted_append q y row.1.item.waits (all_waits rows))
counted_row q y (row ∷ rows) h (inr in') = omega (arith, counted_append q y row.1.item.waits (all_waits rows), counted_row q y rows h in')

-- a row that is taken away, and one whose item is written
counted_removed : (q : Peer) (y low high : ℕ) (rows : List AskingRow) (h : AskingRow) → NumbersRise low rows high → In h rows →
    count_waits q y h.1.item.waits + count_waits q y (all_waits (remove_entry (nat_eq h.0) rows)) ≡ count_waits q y (all_waits rows)
counted_removed q y low high [] h up in' = absurd in'
counted_removed q y low high (row ∷ rows) h up (inl is) =
    let hit : nat_eq h.0 row.0 ≡ true = eq-eqb h.0 row.0 (ap (λ (r : AskingRow). r.0) is) in
    let at : count_waits q y h.1.item.waits ≡ count_waits q y row.1.item.waits = ap (λ (r : AskingRow). count_waits q y r.1.item.waits) is in
    rw hit (omega (arith, counted_append q y row.1.item.waits (all_waits rows)))
counted_removed q y low high (row ∷ rows) h up (inr in') =
    let lt = above row.0 high rows h up.1 in' in
    let miss : nat_eq h.0 row.0 ≡ false = elim (cases_Bool (nat_eq h.0 row.0)) [ inl hit ↦ absurd (let is = eqb-true h.0 row.0 hit in omega arith) | inr miss ↦ miss ] in
    rw miss (omega (
      arith,
      counted_append q y row.1.item.waits (all_waits rows),
      counted_append q y row.1.item.waits (all_waits (remove_entry (nat_eq h.0) rows)),
      counted_removed q y row.0 high rows h up.1 in',
    ))

counted_written : (q : Peer) (y low high : ℕ) (i : Asking) (rows : List AskingRow) (h : AskingRow) → NumbersRise low rows high → In h rows →
    count_waits q y h.1.item.waits + count_waits q y (all_waits (with_item h.0 i rows)) ≡ count_waits q y (all_waits rows) + count_waits q y i.waits
counted_written q y low high i [] h up in' = absurd in'
counted_written q y low high i (row ∷ rows) h up (inl is) =
    let hit : nat_eq h.0 row.0 ≡ true = eq-eqb h.0 row.0 (ap (λ (r : AskingRow). r.0) is) in
    let at : count_waits q y h.1.item.waits ≡ count_waits q y row.1.item.waits = ap (λ (r : AskingRow). count_waits q y r.1.item.waits) is in
    rw hit (omega (arith, counted_append q y row.1.item.waits (all_waits rows), counted_append q y i.waits (all_waits rows)))
counted_written q y low high i (row ∷ rows) h up (inr in') =
    let lt = above row.0 high rows h up.1 in' in
    let miss : nat_eq h.0 row.0 ≡ false = elim (cases_Bool (nat_eq h.0 row.0)) [ inl hit ↦ absurd (let is = eqb-true h.0 row.0 hit in omega arith) | inr miss ↦ miss ] in
    rw miss (omega (
      arith,
      counted_append q y row.1.item.waits (all_waits rows),
      counted_append q y row.1.item.waits (all_waits (with_item h.0 i rows)),
      counted_written q y row.0 high i rows h up.1 in',
    ))

-- the one that is found waits
among_counted : (q : Peer) (y : ℕ) (ws : List Wait) → among q ws y ≡ true → count_waits q y (without q y ws) + 1 ≡ count_waits q y ws
among_counted q y [] e = cc
among_counted q y (w ∷ ws) e =
    elim (cases_Bool (same_id w.peer w.id q y)) [
      | inl hit ↦ rw hit (omega arith)
      | inr miss ↦ let rest : among q ws y ≡ true = rw miss at e in rw miss (simp miss (omega (arith, among_counted q y ws rest)))
    ]

waiting_among : (q : Peer) (y : ℕ) (rows : List AskingRow) (h : AskingRow) → waiting q y rows ≡ Some h → among q h.1.item.waits y ≡ true
waiting_among q y [] h e = cc
waiting_among q y (g ∷ rows) h e = go (among q g.1.item.waits y) refl e (waiting_among q y rows h)
  where
    go : (b : Bool) → among q g.1.item.waits y ≡ b → cond b (Some g) (waiting q y rows) ≡ Some h → (waiting q y rows ≡ Some h → among q h.1.item.waits y ≡ true) → among q h.1.item.waits y ≡ true
    go true hit e rec = let same : g ≡ h = cc in subst (λ (r : AskingRow). among q r.1.item.waits y ≡ true) same hit
    go false miss e rec = rec e

among_in : (q : Peer) (y : ℕ) (ws : List Wait) → among q ws y ≡ false → count_waits q y ws ≡ 0
among_in q y [] e = refl
among_in q y (w ∷ ws) e =
    elim (cases_Bool (same_id w.peer w.id q y)) [
      | inl hit ↦ absurd (let clash : true ≡ false = rw hit at e in cc)
      | inr miss ↦ let rest : among q ws y ≡ false = rw miss at e in rw miss (omega (arith, among_in q y ws rest))
    ]

waiting_none : (q : Peer) (y : ℕ) (rows : List AskingRow) → waiting q y rows ≡ None → count_waits q y (all_waits rows) ≡ 0
waiting_none q y [] e = refl
waiting_none q y (g ∷ rows) e = go (among q g.1.item.waits y) refl e (waiting_none q y rows)
  where
    go : (b : Bool) → among q g.1.item.waits y ≡ b → cond b (Some g) (waiting q y rows) ≡ None → (waiting q y rows ≡ None → count_waits q y (all_waits rows) ≡ 0) → count_waits q y (g.1.item.waits ++ all_waits rows) ≡ 0
    go true hit e rec = cc
    go false miss e rec = omega (arith, counted_append q y g.1.item.waits (all_waits rows), among_in q y g.1.item.waits miss, rec e)

-- ---- an answer to the id y comes from q, and one wait is for it at most

module _ (c : Codec) (f : Family) (q : Peer) (y : ℕ) (k : Parent) (are : ArePending k.pending) (once : count_waits q y (all_waits k.pending.rows) ≤ 1) where
  abbrev IsOver : ParentTaken → Type 0
  IsOver t = count_waits q y (all_waits t.parent.pending.rows) ≡ 0

  over_pick : (b : Bool) (t u : ParentTaken) → IsOver t → IsOver u → IsOver (cond b t u)
  over_pick true t u g g' = g
  over_pick false t u g g' = g'

  over_answered : (h : AskingRow) (m : Message) → waiting q y k.pending.rows ≡ Some h → IsOver (answered h m k)
  over_answered h m is =
      omega (
        arith,
        among_counted q y h.1.item.waits (waiting_among q y k.pending.rows h is),
        counted_removed q y 0 k.pending.given k.pending.rows h are.numbers (waiting_in q y k.pending.rows h is),
      )

  over_gathers : (bs : List Branch) (h : AskingRow) → waiting q y k.pending.rows ≡ Some h → IsOver (gathers q y bs h k)
  over_gathers bs h is =
      omega (
        arith,
        among_counted q y h.1.item.waits (waiting_among q y k.pending.rows h is),
        counted_written q y 0 k.pending.given (gathered q y bs h.1.item) k.pending.rows h are.numbers (waiting_in q y k.pending.rows h is),
      )

  over_answer : (h : AskingRow) (a : Answer) → waiting q y k.pending.rows ≡ Some h → IsOver (take_answer c q y h k a)
  over_answer h (Paths ps) is = over_gathers (branches_in c h.1.item.wanted.query.metric ps) h is
  over_answer h (NoPath nature vector) is = over_pick (nature == 0) _ _ (over_gathers [] h is) (over_answered h (reply_message h.1.item.flags h.1.key.id unavailable) is)

  pub reply_over : (flags : ℕ) (a : Answer) → IsOver (take c f q (reply_message flags y a) k)
  reply_over flags a = go (waiting q y k.pending.rows) refl
    where
      go : (o : Option AskingRow) → waiting q y k.pending.rows ≡ o → IsOver (take_found c q (record { flags = flags; id = y; answer = a }) k o)
      go None is = waiting_none q y k.pending.rows is
      go (Some h) is = over_answer h a is

  pub busy_over : (flags : ℕ) → IsOver (take c f q (busy flags y) k)
  busy_over flags = go (waiting q y k.pending.rows) refl
    where
      go : (o : Option AskingRow) → waiting q y k.pending.rows ≡ o → IsOver (told_busy k o)
      go None is = waiting_none q y k.pending.rows is
      go (Some h) is = over_answered h (busy h.1.item.flags h.1.key.id) is

  pub error_over : (flags : ℕ) → IsOver (take c f q (error_message (Some (flags, y)) 13 1) k)
  error_over flags = go (waiting q y k.pending.rows) refl
    where
      go : (o : Option AskingRow) → waiting q y k.pending.rows ≡ o → IsOver (take_failure (13, 1) k o)
      go None is = waiting_none q y k.pending.rows is
      go (Some h) is = over_answered h (error_message (Some (h.1.item.flags, h.1.key.id)) 13 1) is

  pub refusal_over : (flags : ℕ) → IsOver (take c f q (error_message (Some (flags, y)) 4 2) k)
  refusal_over flags = go (waiting q y k.pending.rows) refl
    where
      go : (o : Option AskingRow) → waiting q y k.pending.rows ≡ o → IsOver (take_failure (4, 2) k o)
      go None is = waiting_none q y k.pending.rows is
      go (Some h) is = over_answered h (reply_message h.1.item.flags h.1.key.id unavailable) is

-- nothing waits where nothing is counted
pub none_waits : (q : Peer) (y : ℕ) (k : Parent) → count_waits q y (all_waits k.pending.rows) ≡ 0 → (w : Wait) → WaitsFor k w → w.peer ≡ q → w.id ≡ y → ⊥
none_waits q y k none w h peer id =
    let one = counted q y h.0.1.item.waits w h.2 peer id in
    let row = counted_row q y k.pending.rows h.0 h.1 in
    omega arith

-- ---- a request comes from q, which has none of this id pending

pub ask_seen : (c : Codec) (f : Family) (q : Peer) (k : Parent) (a : Asked) (flags y : ℕ) (w : Wanted) → c.check a parent_as ≡ Admitted (record { flags = flags; id = y; wish = Path w }) → number_of k.pending q y ≡ None →
    Named (take_asked c f q a k).parent q y ⊎ (Answered q y (take_asked c f q a k).outputs)
ask_seen c f q k a flags y w admitted fresh =
    subst (λ (o : Checked). IsSeen (take_checked f q k o)) (sym admitted)
    (subst (λ (o : Option ℕ). IsSeen (take_new f q (record { flags = flags; id = y; wish = Path w }) k o)) (sym fresh)
    (seen_pick (is_full k.pending) _ (cond (all_up f.children k.ways) (take_path f q flags y w k) (only q (reply_message flags y unavailable) k)) (inr (answer_there q y (busy flags y) (busy_answers flags y)))
    (seen_pick (all_up f.children k.ways) (take_path f q flags y w k) _ opened (inr (answer_there q y (reply_message flags y unavailable) (reply_answers flags y unavailable))))))
  where
    IsSeen : ParentTaken → Type 0
    IsSeen t = Named t.parent q y ⊎ (Answered q y t.outputs)

    seen_pick : (b : Bool) (t u : ParentTaken) → IsSeen t → IsSeen u → IsSeen (cond b t u)
    seen_pick true t u g g' = g
    seen_pick false t u g g' = g'

    opened : IsSeen (take_path f q flags y w k)
    opened =
        let asks = ask_all w (all_waits k.pending.rows) (errands f.links w.target f.children) k.ways in
        let new : AskingRow = (k.pending.given + 1, record { key = key_of q y; item = record { flags = flags; wanted = w; waits = asks.waits; rows = [] } }) in
        inl (new, In-back new k.pending.rows (new ∷ []) (inl refl), refl)

-- a request that the parent refuses is answered
pub refused_seen : (c : Codec) (f : Family) (q : Peer) (k : Parent) (a : Asked) (flags y : ℕ) → c.check a parent_as ≡ Wrong (Some (flags, y)) 4 2 → Answered q y (take_asked c f q a k).outputs
refused_seen c f q k a flags y refused =
    subst (λ (o : Checked). Answered q y (take_checked f q k o).outputs) (sym refused) (answer_there q y (error_message (Some (flags, y)) 4 2) (by_refusal flags refl))

-- ---- the session of a child goes down: the requests of others stay or are answered, and nothing waits on it

any_there : (q : Peer) (ws : List Wait) (w : Wait) → In w ws → w.peer ≡ q → any_on q ws ≡ true
any_there q [] w in' peer = absurd in'
any_there q (v ∷ ws) w (inl is) peer =
    let hit : same_peer v.peer q ≡ true = ap (λ (u : Wait). same_peer u.peer q) (sym is) ∙ ap (λ (p : Peer). same_peer p q) peer ∙ peer_self q in
    ap (λ (b : Bool). cond b true (any_on q ws)) hit
any_there q (v ∷ ws) w (inr in') peer = go (same_peer v.peer q) (any_there q ws w in' peer)
  where
    go : (b : Bool) → any_on q ws ≡ true → cond b true (any_on q ws) ≡ true
    go true e = refl
    go false e = e

not_both : (b : Bool) (o : Bool) → cond b false (not o) ≡ true → o ≡ true → ⊥
not_both true o e f = cc
not_both false o e f = let clash : not true ≡ true = ap not (sym f) ∙ e in cc

filter_was' : (test : AskingRow → Bool) (xs : List AskingRow) (x : AskingRow) → In x (filter test xs) → In x xs × (test x ≡ true)
filter_was' test [] x in' = absurd in'
filter_was' test (y ∷ ys) x in' = go (test y) refl in' (filter_was' test ys x)
  where
    go : (b : Bool) → test y ≡ b → In x (cond b (y ∷ filter test ys) (filter test ys)) → (In x (filter test ys) → In x ys × (test x ≡ true)) → In x (y ∷ ys) × (test x ≡ true)
    go true hit (inl is) rec = (inl is, subst (λ (z : AskingRow). test z ≡ true) (sym is) hit)
    go true hit (inr h) rec = let r = rec h in (inr r.0, r.1)
    go false miss h rec = let r = rec h in (inr r.0, r.1)

filter_keeps' : (test : AskingRow → Bool) (xs : List AskingRow) (x : AskingRow) → In x xs → test x ≡ true → In x (filter test xs)
filter_keeps' test [] x in' hit = in'
filter_keeps' test (y ∷ ys) x (inl is) hit =
    let at : test y ≡ true = ap test (sym is) ∙ hit in subst (λ (b : Bool). In x (cond b (y ∷ filter test ys) (filter test ys))) (sym at) (inl is)
filter_keeps' test (y ∷ ys) x (inr in') hit = go (test y) (filter_keeps' test ys x in' hit)
  where
    go : (b : Bool) → In x (filter test ys) → In x (cond b (y ∷ filter test ys) (filter test ys))
    go true h = inr h
    go false h = h

lost_there : (q : Peer) (rows : List AskingRow) (h : AskingRow) → In h rows → is_lost q h ≡ true → Answered h.1.key.peer h.1.key.id (map lost_output (lost q rows))
lost_there q [] h in' hit = absurd in'
lost_there q (row ∷ rows) h (inl is) hit =
    let at : is_lost q row ≡ true = ap (is_lost q) (sym is) ∙ hit in
    subst (λ (b : Bool). Answered h.1.key.peer h.1.key.id (map lost_output (map lost_of (cond b (row ∷ filter (is_lost q) rows) (filter (is_lost q) rows))))) (sym at)
    (reply_message h.1.item.flags h.1.key.id unavailable, inl (ap (λ (r : AskingRow). lost_output (lost_of r)) is), reply_answers h.1.item.flags h.1.key.id unavailable)
lost_there q (row ∷ rows) h (inr in') hit = go (is_lost q row) (lost_there q rows h in' hit)
  where
    go : (b : Bool) → Answered h.1.key.peer h.1.key.id (map lost_output (lost q rows)) → Answered h.1.key.peer h.1.key.id (map lost_output (map lost_of (cond b (row ∷ filter (is_lost q) rows) (filter (is_lost q) rows))))
    go true a = (a.0, inr a.1, a.2)
    go false a = a

pub downed_moves : (p q : Peer) (k : Parent) → same_peer p q ≡ false → Moves p k (downed q k)
downed_moves p q k apart = record {
  left = λ x g. go x g (any_on q g.0.1.item.waits) refl;
  old = λ w g. let r = filter_was' (stays q) k.pending.rows g.0 g.1 in inl (g.0, r.0, g.2);
}
  where
    other : (x : ℕ) (h : AskingRow) → h.1.key ≡ key_of p x → same_peer h.1.key.peer q ≡ false
    other x h key = ap (λ (key : RequestKey). same_peer key.peer q) key ∙ apart

    go : (x : ℕ) (g : Named k p x) (b : Bool) → any_on q g.0.1.item.waits ≡ b → Named (downed q k).parent p x ⊎ Answered p x (downed q k).outputs
    go x g true on =
        let lost' : is_lost q g.0 ≡ true = ap (λ (b : Bool). cond b false (any_on q g.0.1.item.waits)) (other x g.0 g.2) ∙ on in
        inr (subst (λ (key : RequestKey). Answered key.peer key.id (map lost_output (lost q k.pending.rows))) g.2 (lost_there q k.pending.rows g.0 g.1 lost'))
    go x g false off =
        let kept' : stays q g.0 ≡ true = ap (λ (b : Bool). cond b false (not (any_on q g.0.1.item.waits))) (other x g.0 g.2) ∙ ap not off in
        inl (g.0, filter_keeps' (stays q) k.pending.rows g.0 g.1 kept', g.2)

pub downed_over : (q : Peer) (k : Parent) (w : Wait) → WaitsFor (downed q k).parent w → w.peer ≡ q → ⊥
downed_over q k w g peer =
    let r = filter_was' (stays q) k.pending.rows g.0 g.1 in
    not_both (same_peer g.0.1.key.peer q) (any_on q g.0.1.item.waits) r.1 (any_there q g.0.1.item.waits w g.2 peer)
