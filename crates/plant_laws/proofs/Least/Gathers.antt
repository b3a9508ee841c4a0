-- What a request that is pending at the parent waits for and has gathered: each end of interest of each child was asked for in one
-- moment, and waits, or was answered by a reply whose rows are all there.
use Rattle.std.proofs.Common.{◌≡◌, ◌⊎◌, ℕ, Bool, true, false, cond, ◌==◌, List, [], ◌∷◌, inl, inr, sym, ◌∙◌, ap, subst, refl}
use Rattle.std.specs.Prelude.{Contains}
use Rattle.std.proofs.lemmas.Bool.{eqb-true}
use Rattle.std.proofs.lemmas.List.Elements.{Contains-append_cases, Contains-append_left, Contains-append_right}
use Rattle.plant_model.specs.Types.{As, Addr, Peer, Inner, Reply, Wanted, Branch}
use Rattle.pcep_messages.specs.declared.message.Message.TheVariants as messages
use Rattle.request_table.specs.Pending.{same_peer}
use Rattle.plant_model.specs.declared.output.Output.{Output}
use Rattle.plant_model.specs.declared.upper.ChildRow.{ChildRow}
use Rattle.plant_text.specs.Names.{parent_as}
use Rattle.plant_model.specs.Names.{same_id}
use Rattle.plant_model.specs.Wire.{Codec}
use Rattle.plant_model.specs.Writing.{request_message}
use Rattle.plant_model.specs.Element.{Way, with_last}
use Rattle.plant_model.specs.Parent.{Asking, Wait, Errand, ask_all, next_id, rows_at, rows_for, without, gathered}
use Rattle.plant_model.specs.State.{Takes}
use Rattle.plant_model.specs.Plant.{PlantDeed}
use Rattle.plant_laws.specs.Transcript.{Transcript, Within, SentIn}
use Rattle.plant_laws.specs.About.{told_in}
use Rattle.plant_laws.proofs.Runs.Rows.{In}
use Rattle.border_costs.proofs.Members.{contains_none, contains_head, contains_tail, contains_cases}
use Rattle.plant_laws.proofs.Numbering.SentOn.{same_peer_is}

-- a reply under this id was taken from a child
pub record Took (ds : Transcript) (child : As) (id : ℕ) (reply : Reply) : Type 0 where
  pub replies : List Reply
  pub os : List Output
  pub older : Transcript
  pub within : Within (Takes parent_as (Inner child) (messages.PcRep replies) os ∷ older) ds
  pub is_reply : In reply replies
  pub same : reply.id ≡ id

-- the request for an end of interest
abbrev pub AskedAt : Transcript → Wanted → As → Addr → ℕ → Type 0
AskedAt at w child target id = SentIn at parent_as (Inner child) (request_message id w target (child ∷ []))

-- where a row comes from
pub record CameFrom (c : Codec) (ds at : Transcript) (w : Wanted) (row : ChildRow) : Type 0 where
  pub reply : Reply
  pub sent : AskedAt at w row.at row.target reply.id
  pub took : Took ds row.at reply.id reply
  pub is_row : Contains (rows_at row.at row.target (told_in c w.query.metric reply.answer)) row

-- an end of interest is answered, or waits
pub record Answered (c : Codec) (ds at : Transcript) (i : Asking) (end : Errand) : Type 0 where
  pub reply : Reply
  pub sent : AskedAt at i.wanted end.child end.target reply.id
  pub took : Took ds end.child reply.id reply
  pub all : (row : ChildRow) → Contains (rows_at end.child end.target (told_in c i.wanted.query.metric reply.answer)) row → Contains i.rows row

abbrev pub StillWaits : Asking → Errand → Type 0
StillWaits i end = (v : Wait) × In v i.waits × (v.child ≡ end.child) × (v.target ≡ end.target)

pub record IsFilled (c : Codec) (ends : Wanted → List Errand) (ds at : Transcript) (i : Asking) : Type 0 where
  pub waits : (v : Wait) → In v i.waits → (v.peer ≡ Inner v.child) × AskedAt at i.wanted v.child v.target v.id
  pub rows : (row : ChildRow) → Contains i.rows row → CameFrom c ds at i.wanted row
  pub every : (end : Errand) → Contains (ends i.wanted) end → StillWaits i end ⊎ Answered c ds at i end

-- ---- as the transcript grows

took_later : (e : PlantDeed) (ds : Transcript) (child : As) (id : ℕ) (reply : Reply) → Took ds child id reply → Took (e ∷ ds) child id reply
took_later e ds child id reply t = record { replies = t.replies; os = t.os; older = t.older; within = inr t.within; is_reply = t.is_reply; same = t.same }

pub filled_later : (c : Codec) (ends : Wanted → List Errand) (e : PlantDeed) (ds at : Transcript) (i : Asking) → IsFilled c ends ds at i → IsFilled c ends (e ∷ ds) at i
filled_later c ends e ds at i f = record {
  waits = f.waits;
  rows = λ row h. (let g = f.rows row h in record { reply = g.reply; sent = g.sent; took = took_later e ds row.at g.reply.id g.reply g.took; is_row = g.is_row });
  every = λ end h. elim (f.every end h) [
    | inl waits ↦ inl waits
    | inr g ↦ inr (record { reply = g.reply; sent = g.sent; took = took_later e ds end.child g.reply.id g.reply g.took; all = g.all })
  ];
}

-- ---- a reply is gathered

same_id_is : (p : Peer) (x : ℕ) (q : Peer) (y : ℕ) → same_id p x q y ≡ true → (p ≡ q) × (x ≡ y)
same_id_is p x q y e = go (same_peer p q) refl e
  where
    go : (b : Bool) → same_peer p q ≡ b → cond b (x == y) false ≡ true → (p ≡ q) × (x ≡ y)
    go true is hit = (same_peer_is p q is, eqb-true x y hit)
    go false is hit = absurd (let clash : false ≡ true = hit in cc)

-- a wait is left, or its rows are added
left_or_rows : (q : Peer) (y : ℕ) (bs : List Branch) (ws : List Wait) (v : Wait) → In v ws → In v (without q y ws) ⊎ ((same_id v.peer v.id q y ≡ true) × (rows_for q y bs ws ≡ rows_at v.child v.target bs))
left_or_rows q y bs [] v none = absurd none
left_or_rows q y bs (u ∷ us) v i = go (same_id u.peer u.id q y) refl i (λ j. left_or_rows q y bs us v j)
  where
    go : (b : Bool) → same_id u.peer u.id q y ≡ b → In v (u ∷ us) → (In v us → In v (without q y us) ⊎ ((same_id v.peer v.id q y ≡ true) × (rows_for q y bs us ≡ rows_at v.child v.target bs))) →
        In v (cond b us (u ∷ without q y us)) ⊎ ((same_id v.peer v.id q y ≡ true) × (cond b (rows_at u.child u.target bs) (rows_for q y bs us) ≡ rows_at v.child v.target bs))
    go true is (inl same) rec = inr (subst (λ (x : Wait). same_id x.peer x.id q y ≡ true) same is, ap (λ (x : Wait). rows_at x.child x.target bs) same)
    go true is (inr j) rec = inl j
    go false is (inl same) rec = inl (inl same)
    go false is (inr j) rec = elim (rec j) [ inl left ↦ inl (inr left) | inr rows ↦ inr rows ]

left_was : (q : Peer) (y : ℕ) (ws : List Wait) (v : Wait) → In v (without q y ws) → In v ws
left_was q y [] v i = i
left_was q y (u ∷ us) v i = go (same_id u.peer u.id q y) i (left_was q y us v)
  where
    go : (b : Bool) → In v (cond b us (u ∷ without q y us)) → (In v (without q y us) → In v us) → In v (u ∷ us)
    go true h rec = inr h
    go false (inl same) rec = inl same
    go false (inr h) rec = inr (rec h)

-- the wait of a row that is added
row_waits : (q : Peer) (y : ℕ) (bs : List Branch) (ws : List Wait) (row : ChildRow) → Contains (rows_for q y bs ws) row → (v : Wait) × In v ws × (same_id v.peer v.id q y ≡ true) × Contains (rows_at v.child v.target bs) row
row_waits q y bs [] row h = absurd (contains_none row h)
row_waits q y bs (u ∷ us) row h = go (same_id u.peer u.id q y) refl h (row_waits q y bs us row)
  where
    go : (b : Bool) → same_id u.peer u.id q y ≡ b → Contains (cond b (rows_at u.child u.target bs) (rows_for q y bs us)) row →
        (Contains (rows_for q y bs us) row → (v : Wait) × In v us × (same_id v.peer v.id q y ≡ true) × Contains (rows_at v.child v.target bs) row) →
        (v : Wait) × In v (u ∷ us) × (same_id v.peer v.id q y ≡ true) × Contains (rows_at v.child v.target bs) row
    go true is h' rec = (u, inl refl, is, h')
    go false is h' rec = let r = rec h' in (r.0, inr r.1, r.2, r.3)

row_at : (child : As) (target : Addr) (bs : List Branch) (row : ChildRow) → Contains (rows_at child target bs) row → (row.at ≡ child) × (row.target ≡ target)
row_at child target [] row h = absurd (contains_none row h)
row_at child target (b ∷ bs) row h = elim (contains_cases _ (rows_at child target bs) row h) [
  | inl same ↦ (ap (λ (r : ChildRow). r.at) (sym same), ap (λ (r : ChildRow). r.target) (sym same))
  | inr more ↦ row_at child target bs row more
]

module _ (c : Codec) (ends : Wanted → List Errand) (q : Peer) (rs : List Reply) (os : List Output) (ds at : Transcript) (i : Asking) (r : Reply) (is_reply : In r rs) where
  abbrev e : PlantDeed
  e = Takes parent_as q (messages.PcRep rs) os

  abbrev bs : List Branch
  bs = told_in c i.wanted.query.metric r.answer

  abbrev more : Asking
  more = gathered q r.id bs i

  -- it was taken now
  took_now : (child : As) → q ≡ Inner child → (id : ℕ) → r.id ≡ id → Took (e ∷ ds) child id r
  took_now child from id same = record {
    replies = rs;
    os = os;
    older = ds;
    within = inl (ap (λ (p : Peer). let d : PlantDeed = Takes parent_as p (messages.PcRep rs) os in d ∷ ds) (sym from));
    is_reply = is_reply;
    same = same;
  }

  pub filled_more : IsFilled c ends (e ∷ ds) at i → IsFilled c ends (e ∷ ds) at more
  filled_more f = record {
    waits = λ v h. f.waits v (left_was q r.id i.waits v h);
    rows = λ row h. elim (Contains-append_cases i.rows (rows_for q r.id bs i.waits) row h) [ inl old ↦ f.rows row old | inr new ↦ added row new ];
    every = λ end h. elim (f.every end h) [ inl waits ↦ done end waits | inr a ↦ inr (kept end a) ];
  }
    where
      added : (row : ChildRow) → Contains (rows_for q r.id bs i.waits) row → CameFrom c (e ∷ ds) at i.wanted row
      added row new =
          let x = row_waits q r.id bs i.waits row new in
          let v = x.0 in
          let ids = same_id_is v.peer v.id q r.id x.2 in
          let w = f.waits v x.1 in
          let where' = row_at v.child v.target bs row x.3 in
          let asked : AskedAt at i.wanted v.child v.target r.id = subst (λ (y : ℕ). AskedAt at i.wanted v.child v.target y) ids.1 w.1 in
          record {
            reply = r;
            sent = subst (λ (a : As). AskedAt at i.wanted a row.target r.id) (sym where'.0) (subst (λ (t : Addr). AskedAt at i.wanted v.child t r.id) (sym where'.1) asked);
            took = subst (λ (a : As). Took (e ∷ ds) a r.id r) (sym where'.0) (took_now v.child (sym ids.0 ∙ w.0) r.id refl);
            is_row = subst (λ (a : As). Contains (rows_at a row.target bs) row) (sym where'.0) (subst (λ (t : Addr). Contains (rows_at v.child t bs) row) (sym where'.1) x.3);
          }

      kept : (end : Errand) → Answered c (e ∷ ds) at i end → Answered c (e ∷ ds) at more end
      kept end a = record { reply = a.reply; sent = a.sent; took = a.took; all = λ row h. Contains-append_left i.rows (rows_for q r.id bs i.waits) row (a.all row h) }

      done : (end : Errand) → StillWaits i end → StillWaits more end ⊎ Answered c (e ∷ ds) at more end
      done end waits = elim (left_or_rows q r.id bs i.waits waits.0 waits.1) [
        | inl left ↦ inl (waits.0, left, waits.2, waits.3)
        | inr x ↦
            let v = waits.0 in
            let ids = same_id_is v.peer v.id q r.id x.0 in
            let w = f.waits v waits.1 in
            let asked : AskedAt at i.wanted v.child v.target r.id = subst (λ (y : ℕ). AskedAt at i.wanted v.child v.target y) ids.1 w.1 in
            inr (record {
              reply = r;
              sent = subst (λ (a : As). AskedAt at i.wanted a end.target r.id) waits.2 (subst (λ (t : Addr). AskedAt at i.wanted v.child t r.id) waits.3 asked);
              took = subst (λ (a : As). Took (e ∷ ds) a r.id r) waits.2 (took_now v.child (sym ids.0 ∙ w.0) r.id refl);
              all = λ row h.
                  Contains-append_right i.rows (rows_for q r.id bs i.waits) row
                  (subst (λ (l : List ChildRow). Contains l row) (sym x.1)
                  (subst (λ (a : As). Contains (rows_at a v.target bs) row) (sym waits.2) (subst (λ (t : Addr). Contains (rows_at end.child t bs) row) (sym waits.3) h)));
            })
      ]

-- ---- a new request

asked_waits : (w : Wanted) (taken : List Wait) (rs : List Errand) (ways : List Way) (v : Wait) → In v (ask_all w taken rs ways).waits →
    (v.peer ≡ Inner v.child) × Contains (ask_all w taken rs ways).outputs (record { to = Inner v.child; message = request_message v.id w v.target (v.child ∷ []) })
asked_waits w taken [] ways v none = absurd none
asked_waits w taken (r ∷ rs) ways v (inl same) =
    let p : Peer = Inner r.child in
    let y = next_id p taken ways in
    let one : Wait = record { peer = p; id = y; child = r.child; target = r.target } in
    let rest = ask_all w (one ∷ taken) rs (with_last p y ways) in
    let first : Output = record { to = p; message = request_message y w r.target (r.child ∷ []) } in
    subst (λ (u : Wait). (u.peer ≡ Inner u.child) × Contains (first ∷ rest.outputs) (record { to = Inner u.child; message = request_message u.id w u.target (u.child ∷ []) })) same
    (refl, contains_head first rest.outputs)
asked_waits w taken (r ∷ rs) ways v (inr more) =
    let p : Peer = Inner r.child in
    let y = next_id p taken ways in
    let one : Wait = record { peer = p; id = y; child = r.child; target = r.target } in
    let rest = ask_all w (one ∷ taken) rs (with_last p y ways) in
    let first : Output = record { to = p; message = request_message y w r.target (r.child ∷ []) } in
    let x = asked_waits w (one ∷ taken) rs (with_last p y ways) v more in
    (x.0, contains_tail first rest.outputs _ x.1)

asked_every : (w : Wanted) (taken : List Wait) (rs : List Errand) (ways : List Way) (end : Errand) → Contains rs end → (v : Wait) × In v (ask_all w taken rs ways).waits × (v.child ≡ end.child) × (v.target ≡ end.target)
asked_every w taken [] ways end h = absurd (contains_none end h)
asked_every w taken (r ∷ rs) ways end h =
    let p : Peer = Inner r.child in
    let y = next_id p taken ways in
    let one : Wait = record { peer = p; id = y; child = r.child; target = r.target } in
    elim (contains_cases r rs end h) [
      | inl same ↦ (one, inl refl, ap (λ (x : Errand). x.child) same, ap (λ (x : Errand). x.target) same)
      | inr more ↦ let x = asked_every w (one ∷ taken) rs (with_last p y ways) end more in (x.0, inr x.1, x.2, x.3)
    ]

pub filled_new : (c : Codec) (ends : Wanted → List Errand) (ds at : Transcript) (flags : ℕ) (w : Wanted) (taken : List Wait) (ways : List Way) →
    ((o : Output) → Contains (ask_all w taken (ends w) ways).outputs o → SentIn at parent_as o.to o.message) →
    IsFilled c ends ds at (record { flags = flags; wanted = w; waits = (ask_all w taken (ends w) ways).waits; rows = [] })
filled_new c ends ds at flags w taken ways sent = record {
  waits = λ v h. (let x = asked_waits w taken (ends w) ways v h in (x.0, sent (record { to = Inner v.child; message = request_message v.id w v.target (v.child ∷ []) }) x.1));
  rows = λ row h. absurd (contains_none row h);
  every = λ end h. inl (asked_every w taken (ends w) ways end h);
}
