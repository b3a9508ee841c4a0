-- What an element does with its rows: a request that was pending stays so or is answered, and one that waits did so before or is
-- sent on now.
use Rattle.std.proofs.Common.{◌≡◌, ◌⊎◌, ◌+◌, ◌≤◌, ◌<◌, ◌^◌, ◌==◌, nat_eq, nat_lt, ℕ, Bool, true, false, not, cond, map, filter, List, [], ◌∷◌, ◌++◌, length, Option, Some, None, sym, ◌∙◌, ap, subst, inl, inr, refl, arith}
use Rattle.std.specs.Map.{remove_entry}
use Rattle.std.proofs.lemmas.Bool.{cases_Bool, eqb-true, eq-eqb}
use Rattle.plant_model.specs.Types.{As, Peer, Outside, Inner, Hop, Answer, Message, Request, Reply, Notice, Wanted, Wish, Class, RequestKey, Held, Best, Branch}
use Rattle.pcep_messages.specs.declared.message.Answer.TheVariants.{Paths, NoPath}
use Rattle.pcep_messages.specs.declared.message.Message.TheVariants as messages
use Rattle.pcep_messages.specs.declared.message.Wish.TheVariants.{Path, Expand}
use Rattle.request_table.specs.Pending.{ArePending, NumbersRise, same_peer, same_key, key_of, number_of, number_among, opened_of, is_full}
use Rattle.request_table.specs.Lends.{with_item}
use Rattle.request_table.proofs.KeyLemmas.{same_key_is}
use Rattle.plant_model.specs.declared.output.Output.{Output}
use Rattle.plant_model.specs.Names.{has_pair, the_parent}
use Rattle.plant_model.specs.Wire.{Codec, Checked, Admitted, Wrong}
use Rattle.plant_model.specs.Writing.{error_message, reply_message, unavailable, busy, request_message, no_path}
use Rattle.plant_model.specs.Branches.{branches_in, open_branch, path_of}
use Rattle.disclosure.specs.Policy.{is_denied}
use Rattle.plant_model.specs.Element.{Waits, Ready, Element, Item, Row, Way, ElementSettings, Taken, silent, only, each, way_to, waiting, at_stage, fresh_id, with_last, is_client, lost, lost_of, lost_output, is_lost, stays, waits_on, downed}
use Rattle.plant_model.specs.Routes.{toward}
use Rattle.plant_model.specs.Taking.{take, take_asked, take_checked, take_new, take_wish, take_path, take_along, send_on, item_of, sequence_or, goes_up, expansion, answered, staged, take_reply, take_answer, made_ready, take_notice, notice_steps, take_busy, take_cancel, told_busy, cancelled, take_report, take_errors, take_failure, told_error, error_answer, sight, wanting}
use Rattle.path_keys.specs.Keys.{Keys}
use Rattle.plant_model.specs.Solving.{commit, closed_reply, client_reply, closed_paths, issued_all, free, job_found}
use Rattle.plant_laws.specs.Transcript.{one_if, count_answers, tail_of}
use Rattle.plant_laws.proofs.Once.Handing.{In, In-append}
use Rattle.plant_laws.proofs.Once.Counting.{waiting_in}
use Rattle.plant_laws.proofs.Once.RowCounts.{above, ended_pending, item_pending, begun_pending}
use Rattle.plant_laws.proofs.Once.Counting as counting

-- ---- rows

pub In-front : {A : Type 0} (x : A) (xs ys : List A) → In x xs → In x (xs ++ ys)
In-front x [] ys h = absurd h
In-front x (z ∷ xs) ys (inl e) = inl e
In-front x (z ∷ xs) ys (inr h) = inr (In-front x xs ys h)

pub In-back : {A : Type 0} (x : A) (xs ys : List A) → In x ys → In x (xs ++ ys)
In-back x [] ys h = h
In-back x (z ∷ xs) ys h = inr (In-back x xs ys h)

pub not_equal : (a b : ℕ) → (a ≡ b → ⊥) → nat_eq a b ≡ false
not_equal a b other = elim (cases_Bool (nat_eq a b)) [ inl hit ↦ absurd (other (eqb-true a b hit)) | inr miss ↦ miss ]

-- two rows of one number are the same
pub same_row : {T : Type 0} (low high : ℕ) (rows : List (ℕ × Held T)) (g h : ℕ × Held T) → NumbersRise low rows high → In g rows → In h rows → g.0 ≡ h.0 → g ≡ h
same_row low high [] g h up in' in'' is = absurd in'
same_row low high (row ∷ rows) g h up (inl a) (inl b) is = a ∙ sym b
same_row low high (row ∷ rows) g h up (inl a) (inr b) is = absurd (let lt = above row.0 high rows h up.1 b in let at = ap (λ (r : ℕ × Held _). r.0) a in omega arith)
same_row low high (row ∷ rows) g h up (inr a) (inl b) is = absurd (let lt = above row.0 high rows g up.1 a in let at = ap (λ (r : ℕ × Held _). r.0) b in omega arith)
same_row low high (row ∷ rows) g h up (inr a) (inr b) is = same_row row.0 high rows g h up.1 a b is

-- a row that is not taken away
pub kept_in : {T : Type 0} (number : ℕ) (rows : List (ℕ × Held T)) (g : ℕ × Held T) → In g rows → nat_eq number g.0 ≡ false → In g (remove_entry (nat_eq number) rows)
kept_in number [] g in' other = in'
kept_in {T} number (row ∷ rows) g (inl is) other =
    let miss : nat_eq number row.0 ≡ false = ap (λ (r : ℕ × Held T). nat_eq number r.0) (sym is) ∙ other in
    subst (λ (b : Bool). In g (cond b rows (row ∷ remove_entry (nat_eq number) rows))) (sym miss) (inl is)
kept_in number (row ∷ rows) g (inr in') other = go (nat_eq number row.0) (kept_in number rows g in' other)
  where
    go : (b : Bool) → In g (remove_entry (nat_eq number) rows) → In g (cond b rows (row ∷ remove_entry (nat_eq number) rows))
    go true rec = in'
    go false rec = inr rec

pub was_in : {T : Type 0} (test : ℕ → Bool) (rows : List (ℕ × Held T)) (g : ℕ × Held T) → In g (remove_entry test rows) → In g rows
was_in test [] g in' = in'
was_in test (row ∷ rows) g in' = go (test row.0) in' (was_in test rows g)
  where
    go : (b : Bool) → In g (cond b rows (row ∷ remove_entry test rows)) → (In g (remove_entry test rows) → In g rows) → In g (row ∷ rows)
    go true h rec = inr h
    go false (inl is) rec = inl is
    go false (inr h) rec = inr (rec h)

-- a row that another item is written into
pub rewritten_in : {T : Type 0} (number : ℕ) (item : T) (rows : List (ℕ × Held T)) (g : ℕ × Held T) → In g rows →
    In g (with_item number item rows) ⊎ ((number ≡ g.0) × In {A = ℕ × Held T} (g.0, record g.1 { item = item }) (with_item number item rows))
rewritten_in number item [] g in' = absurd in'
rewritten_in {T} number item (row ∷ rows) g (inl is) = go (nat_eq number row.0) refl
  where
    go : (b : Bool) → nat_eq number row.0 ≡ b →
        In g (cond b ((row.0, record row.1 { item = item }) ∷ rows) (row ∷ with_item number item rows))
        ⊎ ((number ≡ g.0) × In {A = ℕ × Held T} (g.0, record g.1 { item = item }) (cond b ((row.0, record row.1 { item = item }) ∷ rows) (row ∷ with_item number item rows)))
    go true hit = inr (eqb-true number row.0 hit ∙ ap (λ (r : ℕ × Held T). r.0) (sym is), inl (ap (λ (r : ℕ × Held T). let n : ℕ × Held T = (r.0, record r.1 { item = item }) in n) is))
    go false miss = inl (inl is)
rewritten_in {T} number item (row ∷ rows) g (inr in') = go (nat_eq number row.0) (rewritten_in number item rows g in')
  where
    go : (b : Bool) → In g (with_item number item rows) ⊎ ((number ≡ g.0) × In {A = ℕ × Held T} (g.0, record g.1 { item = item }) (with_item number item rows)) →
        In g (cond b ((row.0, record row.1 { item = item }) ∷ rows) (row ∷ with_item number item rows))
        ⊎ ((number ≡ g.0) × In {A = ℕ × Held T} (g.0, record g.1 { item = item }) (cond b ((row.0, record row.1 { item = item }) ∷ rows) (row ∷ with_item number item rows)))
    go true rec = inl (inr in')
    go false (inl h) = inl (inr h)
    go false (inr h) = inr (h.0, inr h.1)

pub written_in : {T : Type 0} (number : ℕ) (item : T) (rows : List (ℕ × Held T)) (g : ℕ × Held T) → In g (with_item number item rows) → In g rows ⊎ (g.1.item ≡ item)
written_in number item [] g in' = absurd in'
written_in {T} number item (row ∷ rows) g in' = go (nat_eq number row.0) in' (written_in number item rows g)
  where
    go : (b : Bool) → In g (cond b ((row.0, record row.1 { item = item }) ∷ rows) (row ∷ with_item number item rows)) → (In g (with_item number item rows) → In g rows ⊎ (g.1.item ≡ item)) → In g (row ∷ rows) ⊎ (g.1.item ≡ item)
    go true (inl is) rec = inr (ap (λ (r : ℕ × Held T). r.1.item) is)
    go true (inr h) rec = inl (inr h)
    go false (inl is) rec = inl (inl is)
    go false (inr h) rec = elim (rec h) [ inl old ↦ inl (inr old) | inr new ↦ inr new ]

-- the number of a key is that of a row
pub number_there : {T : Type 0} (key : RequestKey) (rows : List (ℕ × Held T)) (number : ℕ) → number_among key rows ≡ Some number → (h : ℕ × Held T) × In h rows × (h.0 ≡ number) × (h.1.key ≡ key)
number_there key [] number e = cc
number_there {T} key (row ∷ rows) number e = go (same_key key row.1.key) refl e (number_there key rows number)
  where
    go : (b : Bool) → same_key key row.1.key ≡ b → cond b (Some row.0) (number_among key rows) ≡ Some number →
        (number_among key rows ≡ Some number → (h : ℕ × Held T) × In h rows × (h.0 ≡ number) × (h.1.key ≡ key)) → (h : ℕ × Held T) × In h (row ∷ rows) × (h.0 ≡ number) × (h.1.key ≡ key)
    go true hit e rec = let same : row.0 ≡ number = cc in (row, inl refl, same, sym (same_key_is key row.1.key hit))
    go false miss e rec = let h = rec e in (h.0, inr h.1, h.2, h.3)

-- a message that answers one id: a reply, a notice of a full table, an error of the next, or that the parent does not serve its kind
pub data Answers (y : ℕ) (m : Message) : Type 0 where
  by_reply : (flags : ℕ) (a : Answer) → m ≡ reply_message flags y a → Answers y m
  by_notice : (flags : ℕ) → m ≡ busy flags y → Answers y m
  by_error : (flags : ℕ) → m ≡ error_message (Some (flags, y)) 13 1 → Answers y m
  by_refusal : (flags : ℕ) → m ≡ error_message (Some (flags, y)) 4 2 → Answers y m

one_at : (b : Bool) → b ≡ true → 1 ≤ one_if b + 0
one_at true e = omega arith
one_at false e = cc

one_cond : (b : Bool) → b ≡ true → 1 ≤ one_if (cond b true false) + 0
one_cond true e = omega arith
one_cond false e = cc

id_self : (y : ℕ) → (y == y) ≡ true
id_self y = eq-eqb y y refl

pub answers_count : (y : ℕ) (m : Message) → Answers y m → 1 ≤ count_answers y m
answers_count y m (by_reply flags a is) = subst (λ (m' : Message). 1 ≤ count_answers y m') (sym is) (one_at (y == y) (id_self y))
answers_count y m (by_notice flags is) = subst (λ (m' : Message). 1 ≤ count_answers y m') (sym is) (one_cond (y == y) (id_self y))
answers_count y m (by_error flags is) = subst (λ (m' : Message). 1 ≤ count_answers y m') (sym is) (one_cond (y == y) (id_self y))
answers_count y m (by_refusal flags is) = subst (λ (m' : Message). 1 ≤ count_answers y m') (sym is) (one_cond (y == y) (id_self y))

pub reply_answers : (flags y : ℕ) (a : Answer) → Answers y (reply_message flags y a)
reply_answers flags y a = by_reply flags a refl

pub busy_answers : (flags y : ℕ) → Answers y (busy flags y)
busy_answers flags y = by_notice flags refl

pub error_answers : (flags y : ℕ) → Answers y (error_message (Some (flags, y)) 13 1)
error_answers flags y = by_error flags refl

-- an answer to the request x of p is among these
abbrev pub Answered : Peer → ℕ → List Output → Type 0
Answered p x os = (m : Message) × In {A = Output} (record { to = p; message = m }) os × Answers x m

peer_self : (p : Peer) → same_peer p p ≡ true
peer_self (Outside a) = eq-eqb a a refl
peer_self (Inner a) = eq-eqb a.0 a.0 refl

pub answer_there : (p : Peer) (x : ℕ) (m : Message) → Answers x m → Answered p x (record { to = p; message = m } ∷ [])
answer_there p x m answers = (m, inl refl, answers)

-- the notices cancel nothing
abbrev pub CancelNone : List Notice → Type 0
CancelNone [] = Unit {0}
CancelNone (r ∷ rs) = (has_pair 1 1 r.kinds ≡ false) × CancelNone rs

-- ---- an element

module _ (P : Type 0) (S : Type 0) where
  -- a request of a peer is pending, along a sequence
  abbrev pub Named : Element P S → Peer → ℕ → List As → Type 0
  Named k p x sequence = (h : Row P) × In h k.pending.rows × (h.1.key ≡ key_of p x) × (h.1.item.sequence ≡ sequence)

  -- a request waits for the answer to an id
  abbrev pub WaitsFor : Element P S → Peer → ℕ → List As → Type 0
  WaitsFor k on id sequence = (h : Row P) × In h k.pending.rows × (h.1.item.stage ≡ Waits on id) × (h.1.item.sequence ≡ sequence)

  pub record Moves (p : Peer) (k : Element P S) (t : Taken P S) : Type 0 where
    pub left : (x : ℕ) (sequence : List As) → Named k p x sequence → Named t.element p x sequence ⊎ (Answered p x t.outputs)
    pub old : (on : Peer) (id : ℕ) (sequence : List As) → WaitsFor t.element on id sequence →
        WaitsFor k on id sequence ⊎ ((w : Wanted) × In {A = Output} (record { to = on; message = request_message id w w.target (tail_of sequence) }) t.outputs)

  moves_silent : (p : Peer) (k : Element P S) (os : List Output) → Moves p k (record { element = k; outputs = os })
  moves_silent p k os = record { left = λ x sequence h. inl h; old = λ on id sequence h. inl h }

  moves_pick : (p : Peer) (k : Element P S) (b : Bool) (t u : Taken P S) → Moves p k t → Moves p k u → Moves p k (cond b t u)
  moves_pick p k true t u g g' = g
  moves_pick p k false t u g g' = g'

  abbrev Keeps : (Element P S → Taken P S) → Type 0
  Keeps f = (k : Element P S) → ArePending k.pending → ArePending (f k).element.pending

  pub moves_then : (p : Peer) (k : Element P S) (t u : Taken P S) → Moves p k t → Moves p t.element u → Moves p k (record { element = u.element; outputs = t.outputs ++ u.outputs })
  moves_then p k t u m m' = record {
    left = λ x sequence h. elim (m.left x sequence h) [
      | inl still ↦
          elim (m'.left x sequence still) [
            | inl stays ↦ inl stays
            | inr answers ↦ inr (answers.0, In-back _ t.outputs u.outputs answers.1, answers.2)
          ]
      | inr answers ↦ inr (answers.0, In-front _ t.outputs u.outputs answers.1, answers.2)
    ];
    old = λ on id sequence h. elim (m'.old on id sequence h) [
      | inl before ↦
          elim (m.old on id sequence before) [
            | inl first ↦ inl first
            | inr sent ↦ inr (sent.0, In-front _ t.outputs u.outputs sent.1)
          ]
      | inr sent ↦ inr (sent.0, In-back _ t.outputs u.outputs sent.1)
    ];
  }

  pub moves_each : {X : Type 0} (p : Peer) (f : X → Element P S → Taken P S) → ((x : X) (k : Element P S) → ArePending k.pending → Moves p k (f x k) × ArePending (f x k).element.pending) →
      (xs : List X) (k : Element P S) → ArePending k.pending → Moves p k (each f xs k) × ArePending (each f xs k).element.pending
  moves_each p f moves [] k are = (moves_silent p k [], are)
  moves_each p f moves (x ∷ xs) k are =
      let one = moves x k are in
      let rest = moves_each p f moves xs (f x k).element one.1 in
      (moves_then p k (f x k) (each f xs (f x k).element) one.0 rest.0, rest.1)

  -- a request is answered and ends
  pub moves_answered : (p : Peer) (h : Row P) (m : Message) (k : Element P S) → ArePending k.pending → In h k.pending.rows → Answers h.1.key.id m → Moves p k (answered h m k)
  moves_answered p h m k are in' answers = record {
    left = λ x sequence g. elim (cases_Bool (nat_eq h.0 g.0.0)) [
      | inl hit ↦ inr (gone x g.0 g.1 g.2 (eqb-true h.0 g.0.0 hit))
      | inr miss ↦ inl (g.0, kept_in h.0 k.pending.rows g.0 g.1 miss, g.2, g.3)
    ];
    old = λ on id sequence g. inl (g.0, was_in (nat_eq h.0) k.pending.rows g.0 g.1, g.2, g.3);
  }
    where
      gone : (x : ℕ) (g : Row P) → In g k.pending.rows → g.1.key ≡ key_of p x → h.0 ≡ g.0 → Answered p x (record { to = h.1.key.peer; message = m } ∷ [])
      gone x g in'' key is =
          let same : h ≡ g = same_row 0 k.pending.given k.pending.rows h g are.numbers in' in'' is in
          let at : h.1.key ≡ key_of p x = ap (λ (r : Row P). r.1.key) same ∙ key in
          subst (λ (key : RequestKey). Answered key.peer key.id (record { to = h.1.key.peer; message = m } ∷ [])) at (answer_there h.1.key.peer h.1.key.id m answers)

  -- a request is made ready
  pub moves_staged : (p : Peer) (h : Row P) (bs : _) (k : Element P S) → ArePending k.pending → In h k.pending.rows → Moves p k (silent (staged h (Ready bs) k))
  moves_staged p h bs k are in' = record {
    left = λ x sequence g. elim (rewritten_in h.0 (at_stage (Ready bs) h.1.item) k.pending.rows g.0 g.1) [
      | inl same ↦ inl (g.0, same, g.2, g.3)
      | inr new ↦
          let is : h ≡ g.0 = same_row 0 k.pending.given k.pending.rows h g.0 are.numbers in' g.1 new.0 in
          inl ((g.0.0, record g.0.1 { item = at_stage (Ready bs) h.1.item }), new.1, g.2, ap (λ (r : Row P). r.1.item.sequence) is ∙ g.3)
    ];
    old = λ on id sequence g. elim (written_in h.0 (at_stage (Ready bs) h.1.item) k.pending.rows g.0 g.1) [
      | inl before ↦ inl (g.0, before, g.2, g.3)
      | inr new ↦ let clash : Ready bs ≡ Waits on id = sym (ap (λ (i : Item P). i.stage) new) ∙ g.2 in cc
    ];
  }

  -- ---- what an element takes

  module _ (c : Codec) (q : Peer) (p : Peer) where
    abbrev Good : Element P S → Taken P S → Type 0
    Good k t = Moves p k t × ArePending t.element.pending

    good_pick : (k : Element P S) (b : Bool) (t u : Taken P S) → Good k t → Good k u → Good k (cond b t u)
    good_pick k true t u g g' = g
    good_pick k false t u g g' = g'

    good_silent : (k : Element P S) → ArePending k.pending → Good k (silent k)
    good_silent k are = (moves_silent p k [], are)

    good_answered : (h : Row P) (m : Message) (k : Element P S) → ArePending k.pending → In h k.pending.rows → Answers h.1.key.id m → Good k (answered h m k)
    good_answered h m k are in' answers = (moves_answered p h m k are in' answers, ended_pending h.0 k.pending are)

    good_staged : (h : Row P) (bs : _) (k : Element P S) → ArePending k.pending → In h k.pending.rows → Good k (silent (staged h (Ready bs) k))
    good_staged h bs k are in' = (moves_staged p h bs k are in', item_pending h.0 (at_stage (Ready bs) h.1.item) k.pending are)

    good_ready : (h : Row P) (a : Answer) (k : Element P S) → ArePending k.pending → In h k.pending.rows → Good k (made_ready c h a k)
    good_ready h (Paths ps) k are in' = good_staged h (branches_in c h.1.item.wanted.query.metric ps) k are in'
    good_ready h (NoPath nature vector) k are in' =
        good_pick k (nature == 0) _ _ (good_staged h [] k are in')
        (good_answered h (reply_message h.1.item.flags h.1.key.id unavailable) k are in' (reply_answers h.1.item.flags h.1.key.id unavailable))

    good_reply : (r : Reply) (k : Element P S) → ArePending k.pending → Good k (take_reply c q r k)
    good_reply r k are = go (waiting q r.id k.pending.rows) refl
      where
        go : (o : Option (Row P)) → waiting q r.id k.pending.rows ≡ o → Good k (take_answer c q r k o)
        go None e = (moves_silent p k (record { to = q; message = error_message (Some (r.flags, r.id)) 8 0 } ∷ []), are)
        go (Some h) e =
            let in' = waiting_in q r.id k.pending.rows h e in
            good_pick k (same_peer q the_parent) _ (made_ready c h r.answer k)
            (good_answered h (reply_message h.1.item.flags h.1.key.id r.answer) k are in' (reply_answers h.1.item.flags h.1.key.id r.answer))
            (good_ready h r.answer k are in')

    good_busy : (rp : ℕ × ℕ) (k : Element P S) → ArePending k.pending → Good k (take_busy q rp k)
    good_busy rp k are = go (waiting q rp.1 k.pending.rows) refl
      where
        go : (o : Option (Row P)) → waiting q rp.1 k.pending.rows ≡ o → Good k (told_busy k o)
        go None e = good_silent k are
        go (Some h) e = good_answered h (busy h.1.item.flags h.1.key.id) k are (waiting_in q rp.1 k.pending.rows h e) (busy_answers h.1.item.flags h.1.key.id)

    -- a cancelled request is the sender's
    good_cancel : same_peer q p ≡ false → (rp : ℕ × ℕ) (k : Element P S) → ArePending k.pending → Good k (take_cancel q rp k)
    good_cancel apart rp k are = go (number_of k.pending q rp.1) refl
      where
        go : (o : Option ℕ) → number_of k.pending q rp.1 ≡ o → Good k (cancelled k o)
        go None e = good_silent k are
        go (Some number) e =
            let r = number_there (key_of q rp.1) k.pending.rows number e in (
              record {
                left = λ x sequence g. inl (g.0, kept_in number k.pending.rows g.0 g.1 (not_equal number g.0.0 (λ is. other x r.0 g.0 r.1 g.1 r.3 g.2 (r.2 ∙ is))), g.2, g.3);
                old = λ on id sequence g. inl (g.0, was_in (nat_eq number) k.pending.rows g.0 g.1, g.2, g.3);
              },
              ended_pending number k.pending are,
            )
          where
            other : (x : ℕ) (h g : Row P) → In h k.pending.rows → In g k.pending.rows → h.1.key ≡ key_of q rp.1 → g.1.key ≡ key_of p x → h.0 ≡ g.0 → ⊥
            other x h g in' in'' at at' is =
                let same : h ≡ g = same_row 0 k.pending.given k.pending.rows h g are.numbers in' in'' is in
                let keys : key_of q rp.1 ≡ key_of p x = sym at ∙ ap (λ (r : Row P). r.1.key) same ∙ at' in
                let hit : same_peer q p ≡ true = ap (λ (key : RequestKey). same_peer q key.peer) (sym keys) ∙ peer_self q in
                let clash : true ≡ false = sym hit ∙ apart in cc

    -- a notice cancels nothing, or only what its sender asked
    abbrev pub IsFree : List (ℕ × ℕ) → Type 0
    IsFree kinds = (same_peer q p ≡ false) ⊎ (has_pair 1 1 kinds ≡ false)

    good_steps : (kinds : List (ℕ × ℕ)) → IsFree kinds → (rp : ℕ × ℕ) (k : Element P S) → ArePending k.pending → Good k (each (λ step. step q rp) (notice_steps kinds) k)
    good_steps kinds free rp k are = go (has_pair 1 2 kinds) (has_pair 1 1 kinds) refl
      where
        one : (f : Peer → ℕ × ℕ → Element P S → Taken P S) → ((j : Element P S) → ArePending j.pending → Good j (f q rp j)) → (j : Element P S) → ArePending j.pending →
            Good j (each (λ (step : Peer → ℕ × ℕ → Element P S → Taken P S). step q rp) (f ∷ []) j)
        one f good j are' =
            let g = good j are' in (moves_then p j (f q rp j) (silent (f q rp j).element) g.0 (moves_silent p (f q rp j).element []), g.1)

        two : (f g : Peer → ℕ × ℕ → Element P S → Taken P S) → ((j : Element P S) → ArePending j.pending → Good j (f q rp j)) → ((j : Element P S) → ArePending j.pending → Good j (g q rp j)) →
            Good k (each (λ (step : Peer → ℕ × ℕ → Element P S → Taken P S). step q rp) (f ∷ g ∷ []) k)
        two f g good good' =
            let first = good k are in
            let rest = one g good' (f q rp k).element first.1 in
            (moves_then p k (f q rp k) (each (λ (step : Peer → ℕ × ℕ → Element P S → Taken P S). step q rp) (g ∷ []) (f q rp k).element) first.0 rest.0, rest.1)

        cancel : (b' : Bool) → has_pair 1 1 kinds ≡ b' → b' ≡ true → (j : Element P S) → ArePending j.pending → Good j (take_cancel q rp j)
        cancel b' is hit j are' = elim free [
          | inl apart ↦ good_cancel apart rp j are'
          | inr none ↦ absurd (let clash : true ≡ false = sym hit ∙ sym is ∙ none in cc)
        ]

        go : (b b' : Bool) → has_pair 1 1 kinds ≡ b' →
            Good k (each (λ (step : Peer → ℕ × ℕ → Element P S → Taken P S). step q rp) (cond b (cond b' (take_busy ∷ take_cancel ∷ []) (take_busy ∷ [])) (cond b' (take_cancel ∷ []) [])) k)
        go true true is = two take_busy take_cancel (good_busy rp) (cancel true is refl)
        go true false is = one take_busy (good_busy rp) k are
        go false true is = one take_cancel (cancel true is refl) k are
        go false false is = good_silent k are

    good_error : (e : ℕ × ℕ) (h : Row P) (k : Element P S) → ArePending k.pending → In h k.pending.rows → Good k (told_error h k (error_answer e h.1.item.flags h.1.key.id))
    good_error e h k are in' = go (has_pair 8 0 (e ∷ [])) (has_pair e.0 e.1 ((4, 4) ∷ (13, 1) ∷ []))
      where
        go : (b b' : Bool) →
            Good k (told_error h k (cond b [] (cond b' (error_message (Some (h.1.item.flags, h.1.key.id)) 13 1 ∷ []) (reply_message h.1.item.flags h.1.key.id unavailable ∷ []))))
        go true b' = good_silent k are
        go false true = good_answered h (error_message (Some (h.1.item.flags, h.1.key.id)) 13 1) k are in' (error_answers h.1.item.flags h.1.key.id)
        go false false = good_answered h (reply_message h.1.item.flags h.1.key.id unavailable) k are in' (reply_answers h.1.item.flags h.1.key.id unavailable)

    good_failure : (e rp : ℕ × ℕ) (k : Element P S) → ArePending k.pending → Good k (take_failure e k (waiting q rp.1 k.pending.rows))
    good_failure e rp k are = go (waiting q rp.1 k.pending.rows) refl
      where
        go : (o : Option (Row P)) → waiting q rp.1 k.pending.rows ≡ o → Good k (take_failure e k o)
        go None is = good_silent k are
        go (Some h) is = good_error e h k are (waiting_in q rp.1 k.pending.rows h is)

    good_errors : (ids errors : List (ℕ × ℕ)) (k : Element P S) → ArePending k.pending → Good k (take_errors q ids errors k)
    good_errors ids [] k are = good_silent k are
    good_errors ids (e ∷ es) k are = moves_each p (λ rp j. take_failure e j (waiting q rp.1 j.pending.rows)) (λ rp j are'. good_failure e rp j are') ids k are

    -- a request is opened
    moves_opened : (x : ℕ) (i : Item P) (os : List Output) (ways : List Way) (k : Element P S) →
        ((on : Peer) (id : ℕ) → i.stage ≡ Waits on id → (w : Wanted) × In {A = Output} (record { to = on; message = request_message id w w.target (tail_of i.sequence) }) os) →
        Moves p k (record { element = record k { pending = opened_of k.pending q x i; ways = ways }; outputs = os })
    moves_opened x i os ways k sends = record {
      left = λ x' sequence g. inl (g.0, In-front g.0 k.pending.rows (new ∷ []) g.1, g.2, g.3);
      old = λ on id sequence g. elim (In-append g.0 k.pending.rows (new ∷ []) g.1) [
        | inl before ↦ inl (g.0, before, g.2, g.3)
        | inr (inl is) ↦
            let item : g.0.1.item ≡ i = ap (λ (r : Row P). r.1.item) is in
            let sent = sends on id (ap (λ (j : Item P). j.stage) (sym item) ∙ g.2) in
            let along : i.sequence ≡ sequence = ap (λ (j : Item P). j.sequence) (sym item) ∙ g.3 in
            inr (sent.0, subst (λ (l : List As). In {A = Output} (record { to = on; message = request_message id sent.0 sent.0.target (tail_of l) }) os) along sent.1)
        | inr (inr none) ↦ absurd none
      ];
    }
      where
        new : Row P
        new = (k.pending.given + 1, record { key = key_of q x; item = i })

    abbrev HasRoom : Element P S → ℕ → Type 0
    HasRoom k x = (length k.pending.rows < k.pending.limit) × (k.pending.given + 1 < 2 ^ 64) × (number_of k.pending q x ≡ None)

    pick_room : (k : Element P S) (b : Bool) (t u : Taken P S) → (b ≡ true → Good k t) → (b ≡ false → Good k u) → Good k (cond b t u)
    pick_room k true t u g g' = g refl
    pick_room k false t u g g' = g' refl

    good_only : (m : Message) (k : Element P S) → ArePending k.pending → Good k (only q m k)
    good_only m k are = (moves_silent p k (record { to = q; message = m } ∷ []), are)

    module _ (show : S → List Hop) (e : ElementSettings) (pin : P) (class : Class) (now : ℕ) where
      good_send : (flags x : ℕ) (w : Wanted) (sequence : List As) (refused : Bool) (k : Element P S) → ArePending k.pending → HasRoom k x → (way : Option Way) →
          Good k (send_on (sight pin q class) (wanting flags x w) sequence (tail_of sequence) refused k way)
      good_send flags x w sequence refused k are room None = good_only (reply_message flags x unavailable) k are
      good_send flags x w sequence refused k are room (Some way) =
          good_pick k way.up _ _
          (good_pick k refused _ _ (good_only (reply_message flags x unavailable) k are) (sent (fresh_id way.peer way.last_id k.pending.rows)))
          (good_only (reply_message flags x unavailable) k are)
        where
          sent : (y : ℕ) → Good k (record {
            element = record k { pending = opened_of k.pending q x (item_of pin class flags w sequence (Waits way.peer y)); ways = with_last way.peer y k.ways };
            outputs = record { to = way.peer; message = request_message y w w.target (tail_of sequence) } ∷ [];
          })
          sent y = (
            moves_opened x (item_of pin class flags w sequence (Waits way.peer y)) (record { to = way.peer; message = request_message y w w.target (tail_of sequence) } ∷ []) (with_last way.peer y k.ways) k
                (λ on id is.
                let peers : way.peer ≡ on = cc in
                let ids : y ≡ id = cc in
                (w, inl (λ i. record { to = (sym peers) i; message = request_message ((sym ids) i) w w.target (tail_of sequence) }))),
            begun_pending q x (item_of pin class flags w sequence (Waits way.peer y)) k.pending are room.0 room.1 room.2,
          )

      good_along : (flags x : ℕ) (w : Wanted) (k : Element P S) → ArePending k.pending → HasRoom k x → (sequence : List As) → Good k (take_along e (sight pin q class) (wanting flags x w) k sequence)
      good_along flags x w k are room [] = good_only (reply_message flags x unavailable) k are
      good_along flags x w k are room (a ∷ []) = (
        moves_opened x (item_of pin class flags w (a ∷ []) (Ready [])) [] k.ways k (λ on id is. cc),
        begun_pending q x (item_of pin class flags w (a ∷ []) (Ready [])) k.pending are room.0 room.1 room.2,
      )
      good_along flags x w k are room (a ∷ b ∷ rest) = good_send flags x w (a ∷ b ∷ rest) (is_denied e.deny class b) k are room (way_to (toward b e.routes) k.ways)

      good_path : (flags x : ℕ) (w : Wanted) (k : Element P S) → ArePending k.pending → HasRoom k x → Good k (take_path e (sight pin q class) (wanting flags x w) k)
      good_path flags x w k are room =
          good_pick k (goes_up e.parent class w.sequence) (send_on (sight pin q class) (wanting flags x w) [] [] false k (way_to the_parent k.ways)) (take_along e (sight pin q class) (wanting flags x w) k (sequence_or e.own w.sequence))
          (good_send flags x w [] false k are room (way_to the_parent k.ways))
          (good_along flags x w k are room (sequence_or e.own w.sequence))

      good_wish : (flags x : ℕ) (k : Element P S) → ArePending k.pending → number_of k.pending q x ≡ None → (wish : Wish) → Good k (take_wish show e (sight pin q class) now flags x k wish)
      good_wish flags x k are none (Path w) =
          pick_room k (is_full k.pending) _ (take_path e (sight pin q class) (wanting flags x w) k)
          (λ is. good_only (busy flags x) k are)
          (λ is. let r = counting.has_room k.pending are is in good_path flags x w k are (r.0, r.1, none))
      good_wish flags x k are none (Expand key pce) = good_only (reply_message flags x (expansion show e class now key pce k)) k are

      good_new : (r : Request) (k : Element P S) → ArePending k.pending → (o : Option ℕ) → number_of k.pending q r.id ≡ o → Good k (take_new show e pin q class now r k o)
      good_new r k are (Some number) is = good_silent k are
      good_new r k are None is = good_wish r.flags r.id k are is r.wish

      good_checked : (k : Element P S) → ArePending k.pending → (o : Checked) → Good k (take_checked show e pin q class now k o)
      good_checked k are (Wrong rp kind value) = good_only (error_message rp kind value) k are
      good_checked k are (Admitted r) = good_new r k are (number_of k.pending q r.id) refl

      -- What an element does with a message: of the requests of p and of those that wait. Its sender is another peer, or the
      -- message cancels nothing.
      pub take_moves : (m : Message) → ((notices : List Notice) → m ≡ messages.PcNtf notices → (same_peer q p ≡ false) ⊎ CancelNone notices) → (k : Element P S) → ArePending k.pending →
          Moves p k (take c show e pin q class now m k) × ArePending (take c show e pin q class now m k).element.pending
      take_moves (messages.PcReq asks) free k are = moves_each p (take_asked c show e pin q class now) (λ a j are'. good_checked j are' (c.check a e.own)) asks k are
      take_moves (messages.PcRep replies) free k are = moves_each p (take_reply c q) good_reply replies k are
      take_moves (messages.PcNtf notices) free k are = elim (free notices refl) [
        | inl apart ↦ moves_each p (take_notice q) (λ r j are'. moves_each p (λ rp. each (λ step. step q rp) (notice_steps r.kinds)) (λ rp j' are''. good_steps r.kinds (inl apart) rp j' are'') r.ids j are') notices k are
        | inr none ↦ notices_move notices none k are
      ]
        where
          notices_move : (ns : List Notice) → CancelNone ns → (k : Element P S) → ArePending k.pending → Moves p k (each (take_notice q) ns k) × ArePending (each (take_notice q) ns k).element.pending
          notices_move [] none k are = good_silent k are
          notices_move (r ∷ rs) none k are =
              let one = moves_each p (λ rp. each (λ step. step q rp) (notice_steps r.kinds)) (λ rp j' are''. good_steps r.kinds (inr none.0) rp j' are'') r.ids k are in
              let rest = notices_move rs none.1 (take_notice q r k).element one.1 in
              (moves_then p k (take_notice q r k) (each (take_notice q) rs (take_notice q r k).element) one.0 rest.0, rest.1)
      take_moves (messages.PcErr reports) free k are = moves_each p (take_report q) (λ r j are'. good_errors r.ids r.errors j are') reports k are
      take_moves (messages.Open body) free k are = good_silent k are
      take_moves messages.Keepalive free k are = good_silent k are
      take_moves (messages.Close why) free k are = good_silent k are
      take_moves (messages.Other kind) free k are = good_silent k are

  -- ---- a solve, and a session that goes down

  pub commit_moves : (p : Peer) (c : Codec) (e : ElementSettings) (h : Row P) (down : List Branch) (now : ℕ) (stands : Best → S) (source_known target_known : Bool) (best : List Best) (k : Element P S) →
      ArePending k.pending → In h k.pending.rows → Moves p k (commit c e h down now stands (job_found source_known target_known best) k)
  commit_moves p c e h down now stands source_known target_known best k are in' =
      moves_pick p k (is_client h.1.item.class) _ (closed_reply c e h down now stands k best) (moves_answered p h (client_reply c h down source_known target_known best) k are in' (client best)) (closed best)
    where
      client : (best : List Best) → Answers h.1.key.id (client_reply c h down source_known target_known best)
      client [] = reply_answers h.1.item.flags h.1.key.id (no_path source_known target_known)
      client (b ∷ bs) = reply_answers h.1.item.flags h.1.key.id (Paths (path_of c h.1.item.wanted.query.metric b.cost (open_branch b down) ∷ []))

      with_keys : (keys : Keys S) (m : Message) → Answers h.1.key.id m → Moves p k (answered h m (record k { keys = keys }))
      with_keys keys m answers = let g = moves_answered p h m k are in' answers in record { left = g.left; old = g.old }

      closed : (best : List Best) → Moves p k (closed_reply c e h down now stands k best)
      closed [] = moves_answered p h (reply_message h.1.item.flags h.1.key.id (NoPath 0 0)) k are in' (reply_answers h.1.item.flags h.1.key.id (NoPath 0 0))
      closed (b ∷ bs) =
          let paths = Paths (closed_paths c e.id h.1.item.wanted.query.metric h.1.item.wanted.target down k.keys.next (b ∷ bs)) in
          moves_pick p k (nat_lt (free now k.keys) (length (b ∷ bs))) _ _
          (moves_answered p h (busy h.1.item.flags h.1.key.id) k are in' (busy_answers h.1.item.flags h.1.key.id))
          (with_keys (issued_all now stands (b ∷ bs) k.keys) (reply_message h.1.item.flags h.1.key.id paths) (reply_answers h.1.item.flags h.1.key.id paths))

  -- what is kept of a list was there
  pub filter_was : {A : Type 0} (test : A → Bool) (xs : List A) (x : A) → In x (filter test xs) → In x xs × (test x ≡ true)
  filter_was test [] x in' = absurd in'
  filter_was {A} test (y ∷ ys) x in' = go (test y) refl in' (filter_was test ys x)
    where
      go : (b : Bool) → test y ≡ b → In x (cond b (y ∷ filter test ys) (filter test ys)) → (In x (filter test ys) → In x ys × (test x ≡ true)) → In x (y ∷ ys) × (test x ≡ true)
      go true hit (inl is) rec = (inl is, subst (λ (z : A). test z ≡ true) (sym is) hit)
      go true hit (inr h) rec = let r = rec h in (inr r.0, r.1)
      go false miss h rec = let r = rec h in (inr r.0, r.1)

  pub filter_keeps : {A : Type 0} (test : A → Bool) (xs : List A) (x : A) → In x xs → test x ≡ true → In x (filter test xs)
  filter_keeps test [] x in' hit = in'
  filter_keeps {A} test (y ∷ ys) x (inl is) hit =
      let at : test y ≡ true = ap test (sym is) ∙ hit in subst (λ (b : Bool). In x (cond b (y ∷ filter test ys) (filter test ys))) (sym at) (inl is)
  filter_keeps test (y ∷ ys) x (inr in') hit = go (test y) (filter_keeps test ys x in' hit)
    where
      go : (b : Bool) → In x (filter test ys) → In x (cond b (y ∷ filter test ys) (filter test ys))
      go true h = inr h
      go false h = h

  lost_there : (q : Peer) (rows : List (Row P)) (h : Row P) → In h rows → is_lost q h ≡ true → Answered h.1.key.peer h.1.key.id (map lost_output (lost q rows))
  lost_there q [] h in' hit = absurd in'
  lost_there q (row ∷ rows) h (inl is) hit =
      let at : is_lost q row ≡ true = ap (is_lost q) (sym is) ∙ hit in
      subst (λ (b : Bool). Answered h.1.key.peer h.1.key.id (map lost_output (map lost_of (cond b (row ∷ filter (is_lost q) rows) (filter (is_lost q) rows))))) (sym at)
      (reply_message h.1.item.flags h.1.key.id unavailable, inl (ap (λ (r : Row P). lost_output (lost_of r)) is), reply_answers h.1.item.flags h.1.key.id unavailable)
  lost_there q (row ∷ rows) h (inr in') hit = go (is_lost q row) (lost_there q rows h in' hit)
    where
      go : (b : Bool) → Answered h.1.key.peer h.1.key.id (map lost_output (lost q rows)) → Answered h.1.key.peer h.1.key.id (map lost_output (map lost_of (cond b (row ∷ filter (is_lost q) rows) (filter (is_lost q) rows))))
      go true a = (a.0, inr a.1, a.2)
      go false a = a

  -- The session of q goes down: the requests of others stay or are answered, and nothing waits on q.
  pub downed_moves : (p q : Peer) (k : Element P S) → same_peer p q ≡ false → Moves p k (downed q k)
  downed_moves p q k apart = record {
    left = λ x sequence g. go x sequence g (waits_on q g.0.1.item.stage) refl;
    old = λ on id sequence g. let r = filter_was (stays q) k.pending.rows g.0 g.1 in inl (g.0, r.0, g.2, g.3);
  }
    where
      other : (x : ℕ) (h : Row P) → h.1.key ≡ key_of p x → same_peer h.1.key.peer q ≡ false
      other x h key = ap (λ (key : RequestKey). same_peer key.peer q) key ∙ apart

      go : (x : ℕ) (sequence : List As) (g : Named k p x sequence) (b : Bool) → waits_on q g.0.1.item.stage ≡ b → Named (downed q k).element p x sequence ⊎ (Answered p x (downed q k).outputs)
      go x sequence g true on =
          let lost' : is_lost q g.0 ≡ true = ap (λ (b : Bool). cond b false (waits_on q g.0.1.item.stage)) (other x g.0 g.2) ∙ on in
          inr (subst (λ (key : RequestKey). Answered key.peer key.id (map lost_output (lost q k.pending.rows))) g.2 (lost_there q k.pending.rows g.0 g.1 lost'))
      go x sequence g false off =
          let kept' : stays q g.0 ≡ true = ap (λ (b : Bool). cond b false (not (waits_on q g.0.1.item.stage))) (other x g.0 g.2) ∙ ap not off in
          inl (g.0, filter_keeps (stays q) k.pending.rows g.0 g.1 kept', g.2, g.3)

  not_both : (b : Bool) (o : Bool) → cond b false (not o) ≡ true → o ≡ true → ⊥
  not_both true o e f = cc
  not_both false o e f = let clash : not true ≡ true = ap not (sym f) ∙ e in cc

  pub downed_over : (q : Peer) (k : Element P S) (id : ℕ) (sequence : List As) → WaitsFor (downed q k).element q id sequence → ⊥
  downed_over q k id sequence g =
      let r = filter_was (stays q) k.pending.rows g.0 g.1 in
      not_both (same_peer g.0.1.key.peer q) (waits_on q g.0.1.item.stage) r.1 (ap (waits_on q) g.2 ∙ peer_self q)
