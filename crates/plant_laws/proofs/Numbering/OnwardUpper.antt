-- What the parent sends on when it takes a message: nothing, or its requests to the children; and how many wait for one id.
use Rattle.std.proofs.Common.{◌≡◌, ◌⊎◌, ◌≤◌, ◌+◌, nat_eq, ◌==◌, ℕ, Bool, true, false, cond, filter, length, List, [], ◌∷◌, ◌++◌, Option, Some, None, sym, ◌∙◌, ap, subst, inl, inr, refl, arith}
use Rattle.std.specs.Map.{remove_entry}
use Rattle.std.proofs.lemmas.Bool.{cases_Bool, eqb-true, eq-eqb}
use Rattle.plant_model.specs.Types.{Peer, Message, Asked, Reply, Notice, ErrorReport, Answer, Wanted, Wish, Branch}
use Rattle.pcep_messages.specs.declared.message.Message.TheVariants as messages
use Rattle.pcep_messages.specs.declared.message.Answer.TheVariants.{Paths, NoPath}
use Rattle.pcep_messages.specs.declared.message.Wish.TheVariants.{Path, Expand}
use Rattle.request_table.specs.Pending.{ArePending, NumbersRise, number_of, key_of, is_full}
use Rattle.request_table.specs.Lends.{with_item}
use Rattle.plant_model.specs.declared.output.Output.{Output}
use Rattle.plant_text.specs.Names.{parent_as}
use Rattle.plant_model.specs.Names.{same_id, has_pair}
use Rattle.plant_model.specs.Wire.{Codec, Checked, Admitted, Wrong}
use Rattle.plant_model.specs.Writing.{error_message, reply_message, busy, unavailable}
use Rattle.plant_model.specs.Taking.{error_answer}
use Rattle.plant_model.specs.BorderGraph.{Found}
use Rattle.plant_model.specs.Parent.{Wait, Asking, AskingRow, Parent, Family, ParentTaken, silent, only, each, errands, ask_all, all_waits, waiting, without, all_up, take, take_asked, take_checked, take_new, take_wish, take_path, answered, gathered, gathers, take_answer, take_found, take_reply, take_busy, take_cancel, told_busy, cancelled, take_notice, notice_steps, take_report, take_errors, take_failure, told_error, commit}
use Rattle.plant_laws.proofs.Runs.Decompose.{nil_right}
use Rattle.plant_laws.proofs.Once.Handing.{In, IsAsk}
use Rattle.plant_laws.proofs.Numbering.Sends.{NoneAsks}
use Rattle.plant_laws.proofs.Once.CountingUpper.{waiting_in}
use Rattle.plant_laws.proofs.Once.RowCounts.{above, ended_pending, item_pending}
use Rattle.plant_laws.proofs.Numbering.TakenUpper.{count_waits}
use Rattle.plant_laws.proofs.Once.Takes.{IsSingle}
use Rattle.plant_laws.proofs.Numbering.Onward.{none_append}

pub counted_append : (q : Peer) (y : ℕ) (xs ys : List Wait) → count_waits q y (xs ++ ys) ≡ count_waits q y xs + count_waits q y ys
counted_append q y [] ys = omega arith
counted_append q y (x ∷ xs) ys = omega (arith, counted_append q y xs ys)

pub all_append : (q : Peer) (y : ℕ) (rows more : List AskingRow) → count_waits q y (all_waits (rows ++ more)) ≡ count_waits q y (all_waits rows) + count_waits q y (all_waits more)
all_append q y [] more = omega arith
all_append q y (r ∷ rows) more = omega (arith, counted_append q y r.1.item.waits (all_waits (rows ++ more)), counted_append q y r.1.item.waits (all_waits rows), all_append q y rows more)

fewer_without : (q p : Peer) (y z : ℕ) (ws : List Wait) → count_waits q y (without p z ws) ≤ count_waits q y ws
fewer_without q p y z [] = omega arith
fewer_without q p y z (w ∷ ws) = elim (cases_Bool (same_id w.peer w.id p z)) [ inl hit ↦ rw hit (omega arith) | inr miss ↦ rw miss (omega (arith, fewer_without q p y z ws)) ]

fewer_removed : (q : Peer) (y : ℕ) (t : ℕ → Bool) (rows : List AskingRow) → count_waits q y (all_waits (remove_entry t rows)) ≤ count_waits q y (all_waits rows)
fewer_removed q y t [] = omega arith
fewer_removed q y t (r ∷ rows) = elim (cases_Bool (t r.0)) [
  | inl hit ↦ rw hit (omega (arith, counted_append q y r.1.item.waits (all_waits rows)))
  | inr miss ↦ rw miss (omega (arith, counted_append q y r.1.item.waits (all_waits rows), counted_append q y r.1.item.waits (all_waits (remove_entry t rows)), fewer_removed q y t rows))
]

pub fewer_kept : (q : Peer) (y : ℕ) (t : AskingRow → Bool) (rows : List AskingRow) → count_waits q y (all_waits (filter t rows)) ≤ count_waits q y (all_waits rows)
fewer_kept q y t [] = omega arith
fewer_kept q y t (r ∷ rows) = elim (cases_Bool (t r)) [
  | inl hit ↦ rw hit (omega (arith, counted_append q y r.1.item.waits (all_waits rows), counted_append q y r.1.item.waits (all_waits (filter t rows)), fewer_kept q y t rows))
  | inr miss ↦ rw miss (omega (arith, counted_append q y r.1.item.waits (all_waits rows), fewer_kept q y t rows))
]

fewer_written : (q : Peer) (y low high : ℕ) (i : Asking) (rows : List AskingRow) (h : AskingRow) → NumbersRise low rows high → In h rows → count_waits q y i.waits ≤ count_waits q y h.1.item.waits →
    count_waits q y (all_waits (with_item h.0 i rows)) ≤ count_waits q y (all_waits rows)
fewer_written q y low high i [] h up in' less = absurd in'
fewer_written q y low high i (row ∷ rows) h up (inl is) less =
    let hit : nat_eq h.0 row.0 ≡ true = eq-eqb h.0 row.0 (ap (λ (r : AskingRow). r.0) is) in
    let at : count_waits q y h.1.item.waits ≡ count_waits q y row.1.item.waits = ap (λ (r : AskingRow). count_waits q y r.1.item.waits) is in
    rw hit (omega (arith, counted_append q y row.1.item.waits (all_waits rows), counted_append q y i.waits (all_waits rows)))
fewer_written q y low high i (row ∷ rows) h up (inr in') less =
    let lt = above row.0 high rows h up.1 in' in
    let miss : nat_eq h.0 row.0 ≡ false = elim (cases_Bool (nat_eq h.0 row.0)) [ inl hit ↦ absurd (let is = eqb-true h.0 row.0 hit in omega arith) | inr miss ↦ miss ] in
    rw miss (omega (
      arith,
      counted_append q y row.1.item.waits (all_waits rows),
      counted_append q y row.1.item.waits (all_waits (with_item h.0 i rows)),
      fewer_written q y row.0 high i rows h up.1 in' less,
    ))

-- nothing is sent on, and no more wait than before
pub record IsCalm (k : Parent) (t : ParentTaken) : Type 0 where
  pub none : NoneAsks t.outputs
  pub ways : t.parent.ways ≡ k.ways
  pub fewer : (q : Peer) (y : ℕ) → count_waits q y (all_waits t.parent.pending.rows) ≤ count_waits q y (all_waits k.pending.rows)

abbrev Calm : Parent → ParentTaken → Type 0
Calm k t = IsCalm k t × ArePending t.parent.pending

calm_pick : (k : Parent) (b : Bool) (t u : ParentTaken) → Calm k t → Calm k u → Calm k (cond b t u)
calm_pick k true t u x y = x
calm_pick k false t u x y = y

calm_silent : (k : Parent) → ArePending k.pending → Calm k (silent k)
calm_silent k are = (record { none = tt; ways = refl; fewer = λ q y. omega arith }, are)

calm_only : (p : Peer) (m : Message) (k : Parent) → (IsAsk m → ⊥) → IsCalm k (only p m k)
calm_only p m k never = record { none = (never, tt); ways = refl; fewer = λ q y. omega arith }

calm_then : (k : Parent) (t u : ParentTaken) → IsCalm k t → Calm t.parent u → Calm k (record { parent = u.parent; outputs = t.outputs ++ u.outputs })
calm_then k t u x y = (record { none = none_append t.outputs u.outputs x.none y.0.none; ways = y.0.ways ∙ x.ways; fewer = λ q z. (let a = x.fewer q z in let b = y.0.fewer q z in omega arith) }, y.1)

calm_each : {X : Type 0} (f : X → Parent → ParentTaken) → ((x : X) (k : Parent) → ArePending k.pending → Calm k (f x k)) → (xs : List X) (k : Parent) → ArePending k.pending → Calm k (each f xs k)
calm_each f one [] k are = calm_silent k are
calm_each f one (x ∷ xs) k are = let first = one x k are in calm_then k (f x k) (each f xs (f x k).parent) first.0 (calm_each f one xs (f x k).parent first.1)

pub calm_answered : (h : AskingRow) (m : Message) (k : Parent) → (IsAsk m → ⊥) → ArePending k.pending → Calm k (answered h m k)
calm_answered h m k never are = (record { none = (never, tt); ways = refl; fewer = λ q y. fewer_removed q y (nat_eq h.0) k.pending.rows }, ended_pending h.0 k.pending are)

module _ (c : Codec) (p : Peer) where
  calm_gathers : (y : ℕ) (bs : List Branch) (h : AskingRow) (k : Parent) → ArePending k.pending → In h k.pending.rows → Calm k (gathers p y bs h k)
  calm_gathers y bs h k are in' = (
    record {
      none = tt;
      ways = refl;
      fewer = λ q z. fewer_written q z 0 k.pending.given (gathered p y bs h.1.item) k.pending.rows h are.numbers in' (fewer_without q p z y h.1.item.waits);
    },
    item_pending h.0 (gathered p y bs h.1.item) k.pending are,
  )

  calm_answer : (y : ℕ) (h : AskingRow) (a : Answer) (k : Parent) → ArePending k.pending → In h k.pending.rows → Calm k (take_answer c p y h k a)
  calm_answer y h (Paths ps) k are in' = calm_gathers y _ h k are in'
  calm_answer y h (NoPath nature vector) k are in' = calm_pick k (nature == 0) _ _ (calm_gathers y [] h k are in') (calm_answered h (reply_message h.1.item.flags h.1.key.id unavailable) k (λ none. none) are)

  calm_reply : (r : Reply) (k : Parent) → ArePending k.pending → Calm k (take_reply c p r k)
  calm_reply r k are = go (waiting p r.id k.pending.rows) refl
    where
      go : (o : Option AskingRow) → waiting p r.id k.pending.rows ≡ o → Calm k (take_found c p r k o)
      go None e = (calm_only p (error_message (Some (r.flags, r.id)) 8 0) k (λ none. none), are)
      go (Some h) e = calm_answer r.id h r.answer k are (waiting_in p r.id k.pending.rows h e)

  calm_busy : (k : Parent) → ArePending k.pending → (o : Option AskingRow) → Calm k (told_busy k o)
  calm_busy k are None = calm_silent k are
  calm_busy k are (Some h) = calm_answered h (busy h.1.item.flags h.1.key.id) k (λ none. none) are

  calm_cancel : (k : Parent) → ArePending k.pending → (o : Option ℕ) → Calm k (cancelled k o)
  calm_cancel k are None = calm_silent k are
  calm_cancel k are (Some number) = (record { none = tt; ways = refl; fewer = λ q y. fewer_removed q y (nat_eq number) k.pending.rows }, ended_pending number k.pending are)

  calm_steps : (kinds : List (ℕ × ℕ)) (rp : ℕ × ℕ) (k : Parent) → ArePending k.pending → Calm k (each (λ step. step p rp) (notice_steps kinds) k)
  calm_steps kinds rp k are = go (has_pair 1 2 kinds) (has_pair 1 1 kinds)
    where
      busy' : (j : Parent) → ArePending j.pending → Calm j (take_busy p rp j)
      busy' j are' = calm_busy j are' (waiting p rp.1 j.pending.rows)

      cancel : (j : Parent) → ArePending j.pending → Calm j (take_cancel p rp j)
      cancel j are' = calm_cancel j are' (number_of j.pending p rp.1)

      one : (f : Peer → ℕ × ℕ → Parent → ParentTaken) → ((j : Parent) → ArePending j.pending → Calm j (f p rp j)) → (j : Parent) → ArePending j.pending → Calm j (each (λ (step : Peer → ℕ × ℕ → Parent → ParentTaken). step p rp) (f ∷ []) j)
      one f calm j are' = let first = calm j are' in calm_then j (f p rp j) (silent (f p rp j).parent) first.0 (calm_silent (f p rp j).parent first.1)

      go : (b b' : Bool) → Calm k (each (λ (step : Peer → ℕ × ℕ → Parent → ParentTaken). step p rp) (cond b (cond b' (take_busy ∷ take_cancel ∷ []) (take_busy ∷ [])) (cond b' (take_cancel ∷ []) [])) k)
      go true true =
          let first = busy' k are in
          calm_then k (take_busy p rp k) (each (λ (step : Peer → ℕ × ℕ → Parent → ParentTaken). step p rp) (take_cancel ∷ []) (take_busy p rp k).parent) first.0 (one take_cancel cancel (take_busy p rp k).parent first.1)
      go true false = one take_busy busy' k are
      go false true = one take_cancel cancel k are
      go false false = calm_silent k are

  calm_error : (e' : ℕ × ℕ) (h : AskingRow) (k : Parent) → ArePending k.pending → Calm k (told_error h k (error_answer e' h.1.item.flags h.1.key.id))
  calm_error e' h k are = go (has_pair 8 0 (e' ∷ [])) (has_pair e'.0 e'.1 ((4, 4) ∷ (13, 1) ∷ []))
    where
      go : (b b' : Bool) → Calm k (told_error h k (cond b [] (cond b' (error_message (Some (h.1.item.flags, h.1.key.id)) 13 1 ∷ []) (reply_message h.1.item.flags h.1.key.id unavailable ∷ []))))
      go true b' = calm_silent k are
      go false true = calm_answered h (error_message (Some (h.1.item.flags, h.1.key.id)) 13 1) k (λ none. none) are
      go false false = calm_answered h (reply_message h.1.item.flags h.1.key.id unavailable) k (λ none. none) are

  calm_failure : (e' : ℕ × ℕ) (k : Parent) → ArePending k.pending → (o : Option AskingRow) → Calm k (take_failure e' k o)
  calm_failure e' k are None = calm_silent k are
  calm_failure e' k are (Some h) = calm_error e' h k are

  calm_errors : (ids errors : List (ℕ × ℕ)) (k : Parent) → ArePending k.pending → Calm k (take_errors p ids errors k)
  calm_errors ids [] k are = calm_silent k are
  calm_errors ids (e' ∷ es) k are = calm_each (λ rp j. take_failure e' j (waiting p rp.1 j.pending.rows)) (λ rp j are'. calm_failure e' j are' (waiting p rp.1 j.pending.rows)) ids k are

  pub calm_replies : (rs : List Reply) (k : Parent) → ArePending k.pending → IsCalm k (each (take_reply c p) rs k)
  calm_replies rs k are = (calm_each (take_reply c p) (λ r j are'. calm_reply r j are') rs k are).0

  pub calm_notices : (ns : List Notice) (k : Parent) → ArePending k.pending → IsCalm k (each (take_notice p) ns k)
  calm_notices ns k are =
      (calm_each (take_notice p) (λ r j are'. calm_each (λ (rp : ℕ × ℕ). each (λ (step : Peer → ℕ × ℕ → Parent → ParentTaken). step p rp) (notice_steps r.kinds)) (λ rp j' are''. calm_steps r.kinds rp j' are'') r.ids j are') ns k are).0

  pub calm_reports : (rs : List ErrorReport) (k : Parent) → ArePending k.pending → IsCalm k (each (take_report p) rs k)
  calm_reports rs k are = (calm_each (take_report p) (λ r j are'. calm_errors r.ids r.errors j are') rs k are).0

  module _ (f : Family) where
    -- the requests to the children
    pub record SendsAll (k : Parent) (t : ParentTaken) : Type 0 where
      pub asked : Asked
      pub flags : ℕ
      pub id : ℕ
      pub wanted : Wanted
      pub admitted : c.check asked parent_as ≡ Admitted (record { flags = flags; id = id; wish = Path wanted })
      pub up : all_up f.children k.ways ≡ true
      pub outs : t.outputs ≡ (ask_all wanted (all_waits k.pending.rows) (errands f.links wanted.target f.children) k.ways).outputs
      pub ways : t.parent.ways ≡ (ask_all wanted (all_waits k.pending.rows) (errands f.links wanted.target f.children) k.ways).ways
      pub waits : (q : Peer) (y : ℕ) → count_waits q y (all_waits t.parent.pending.rows)
          ≡ count_waits q y (all_waits k.pending.rows) + count_waits q y (ask_all wanted (all_waits k.pending.rows) (errands f.links wanted.target f.children) k.ways).waits

    abbrev pub Sends : Parent → ParentTaken → Type 0
    Sends k t = IsCalm k t ⊎ SendsAll k t

    pick : (k : Parent) (b : Bool) (t u : ParentTaken) → (b ≡ true → Sends k t) → (b ≡ false → Sends k u) → Sends k (cond b t u)
    pick k true t u x y = x refl
    pick k false t u x y = y refl

    wishes : (k : Parent) (a : Asked) (flags x : ℕ) (wish : Wish) → c.check a parent_as ≡ Admitted (record { flags = flags; id = x; wish = wish }) → Sends k (take_wish f p flags x k wish)
    wishes k a flags x (Expand key pce) is = inl (calm_only p (reply_message flags x _) k (λ none. none))
    wishes k a flags x (Path w) is =
        pick k (is_full k.pending) _ (cond (all_up f.children k.ways) (take_path f p flags x w k) (only p (reply_message flags x unavailable) k)) (λ full. inl (calm_only p (busy flags x) k (λ none. none)))
        (λ room. pick k (all_up f.children k.ways) (take_path f p flags x w k) _
        (λ up. inr (record { asked = a; flags = flags; id = x; wanted = w; admitted = is; up = up; outs = refl; ways = refl; waits = λ q y. counted q y }))
        (λ down. inl (calm_only p (reply_message flags x unavailable) k (λ none. none))))
      where
        counted : (q : Peer) (y : ℕ) → count_waits q y (all_waits (take_path f p flags x w k).parent.pending.rows)
            ≡ count_waits q y (all_waits k.pending.rows) + count_waits q y (ask_all w (all_waits k.pending.rows) (errands f.links w.target f.children) k.ways).waits
        counted q y =
            let asks = ask_all w (all_waits k.pending.rows) (errands f.links w.target f.children) k.ways in
            let new : AskingRow = (k.pending.given + 1, record { key = key_of p x; item = record { flags = flags; wanted = w; waits = asks.waits; rows = [] } }) in
            let one = all_append q y k.pending.rows (new ∷ []) in
            let two = counted_append q y asks.waits [] in
            omega (arith, one, two)

    checks : (k : Parent) (a : Asked) (o : Checked) → c.check a parent_as ≡ o → ArePending k.pending → Sends k (take_checked f p k o)
    checks k a (Wrong rp kind value) is are = inl (calm_only p (error_message rp kind value) k (λ none. none))
    checks k a (Admitted r) is are = go (number_of k.pending p r.id)
      where
        go : (o : Option ℕ) → Sends k (take_new f p r k o)
        go None = wishes k a r.flags r.id r.wish is
        go (Some number) = inl (calm_silent k are).0

    pub take_sends : (m : Message) → IsSingle m → (k : Parent) → ArePending k.pending → Sends k (take c f p m k)
    take_sends (messages.PcReq []) one k are = inl (calm_silent k are).0
    take_sends (messages.PcReq (a ∷ [])) one k are =
        let t = take_asked c f p a k in
        subst (λ (os : List Output). Sends k (record { parent = t.parent; outputs = os })) (sym (nil_right t.outputs)) (checks k a (c.check a parent_as) refl are)
    take_sends (messages.PcReq (a ∷ b ∷ rest)) one k are = absurd (let none : length (a ∷ b ∷ rest) ≡ 1 = one in omega (arith, none))
    take_sends (messages.PcRep replies) one k are = inl (calm_replies replies k are)
    take_sends (messages.PcNtf notices) one k are = inl (calm_notices notices k are)
    take_sends (messages.PcErr reports) one k are = inl (calm_reports reports k are)
    take_sends (messages.Open body) one k are = inl (calm_silent k are).0
    take_sends messages.Keepalive one k are = inl (calm_silent k are).0
    take_sends (messages.Close why) one k are = inl (calm_silent k are).0
    take_sends (messages.Other kind) one k are = inl (calm_silent k are).0

pub calm_commit : (c : Codec) (h : AskingRow) (a : Option Found) (k : Parent) → ArePending k.pending → IsCalm k (commit c h a k)
calm_commit c h None k are = (calm_answered h (reply_message h.1.item.flags h.1.key.id _) k (λ none. none) are).0
calm_commit c h (Some a) k are = (calm_answered h (reply_message h.1.item.flags h.1.key.id _) k (λ none. none) are).0
