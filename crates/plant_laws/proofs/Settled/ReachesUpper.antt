-- What the parent says goes to who spoke, to who asked for what is pending, or to its children.
use Rattle.std.proofs.Common.{ℕ, Bool, true, false, cond, ◌==◌, List, [], ◌∷◌, ◌++◌, filter, map, Option, Some, None}
use Rattle.plant_model.specs.Types.{As, Addr, ParentLink, Peer, Inner, Message, Asked, Reply, Answer, Request, Wanted, Wish, Branch}
use Rattle.pcep_messages.specs.declared.message.Message.TheVariants as messages
use Rattle.pcep_messages.specs.declared.message.Answer.TheVariants.{Paths, NoPath}
use Rattle.pcep_messages.specs.declared.message.Wish.TheVariants.{Path, Expand}
use Rattle.request_table.specs.Pending.{number_of, is_full}
use Rattle.plant_model.specs.Names.{has_pair}
use Rattle.plant_model.specs.Wire.{Codec, Checked, Admitted, Wrong}
use Rattle.plant_model.specs.Writing.{reply_message, unavailable, busy}
use Rattle.plant_model.specs.Taking.{error_answer}
use Rattle.plant_model.specs.Element.{Way, with_last, lost_output}
use Rattle.plant_model.specs.BorderGraph.{Found}
use Rattle.plant_model.specs.Parent.{Asking, AskingRow, Parent, ParentTaken, Wait, Errand, Family, each, among, waiting, gathers, gathered, answered, ended, errands, errands_to, tails, with_end, ask_all, all_waits, all_up, next_id, take_path, take_wish, take_new, take_checked, take_asked, take_answer, take_found, take_reply, told_busy, cancelled, take_busy, take_cancel, notice_steps, take_notice, told_error, take_failure, take_errors, take_report, take, stays, is_lost, lost_of, downed, upped, commit}
use Rattle.plant_laws.proofs.Settled.Reaches.{Askers, askers_append, askers_filter, askers_removed, askers_written, Ways, Outs, outs_append, ways_last, ways_up}

-- the children are told
module _ (L : Peer → Type 0) where
  abbrev pub Children : List As → Type 0
  Children [] = Unit {0}
  Children (d ∷ ds) = L (Inner d) × Children ds

  abbrev Errands : List Errand → Type 0
  Errands [] = Unit {0}
  Errands (r ∷ rs) = L (Inner r.child) × Errands rs

  errands_append : (xs ys : List Errand) → Errands xs → Errands ys → Errands (xs ++ ys)
  errands_append [] ys h k = k
  errands_append (x ∷ xs) ys h k = (h.0, errands_append xs ys h.1 k)

  to_child : (child : As) (ends : List Addr) → L (Inner child) → Errands (errands_to child ends)
  to_child child [] l = tt
  to_child child (t ∷ ts) l = (l, to_child child ts l)

  to_children : (links : List ParentLink) (t : Addr) (ds : List As) → Children ds → Errands (errands links t ds)
  to_children links t [] h = tt
  to_children links t (d ∷ ds) h =
      errands_append (errands_to d (with_end t (tails d links))) (errands links t ds) (to_child d (with_end t (tails d links)) h.0) (to_children links t ds h.1)

  all_asked : (w : Wanted) (taken : List Wait) (rs : List Errand) (ways : List Way) → Errands rs → Ways L ways → Ways L (ask_all w taken rs ways).ways × Outs L (ask_all w taken rs ways).outputs
  all_asked w taken [] ways errs lead = (lead, tt)
  all_asked w taken (r ∷ rs) ways errs lead =
      let p = Inner r.child in
      let y = next_id p taken ways in
      let one : Wait = record { peer = p; id = y; child = r.child; target = r.target } in
      let rest = all_asked w (one ∷ taken) rs (with_last p y ways) errs.1 (ways_last L p y ways lead) in
      (rest.0, (errs.0, rest.1))

module _ (R L : Peer → Type 0) (told : (p : Peer) → R p → L p) where
  pub record Reaches (k : Parent) : Type 0 where
    pub rows : Askers R Asking k.pending.rows
    pub ways : Ways L k.ways

  abbrev pub After : ParentTaken → Type 0
  After t = Reaches t.parent × Outs L t.outputs

  after_pick : (b : Bool) (t u : ParentTaken) → After t → After u → After (cond b t u)
  after_pick true t u h k = h
  after_pick false t u h k = k

  each_after : {X : Type 0} (f : X → Parent → ParentTaken) → ((x : X) (k : Parent) → Reaches k → After (f x k)) → (xs : List X) (k : Parent) → Reaches k → After (each f xs k)
  each_after f one [] k h = (h, tt)
  each_after f one (x ∷ xs) k h =
      let first = one x k h in
      let rest = each_after f one xs (f x k).parent first.0 in
      (rest.0, outs_append L (f x k).outputs (each f xs (f x k).parent).outputs first.1 rest.1)

  ended_keeps : (n : ℕ) (k : Parent) → Reaches k → Reaches (ended n k)
  ended_keeps n k r = record { rows = askers_removed R Asking n k.pending.rows r.rows; ways = r.ways }

  answered_after : (h : AskingRow) (m : Message) (k : Parent) → R h.1.key.peer → Reaches k → After (answered h m k)
  answered_after h m k asks r = (ended_keeps h.0 k r, (told h.1.key.peer asks, tt))

  abbrev OfRow : Option AskingRow → Type 0
  OfRow None = Unit {0}
  OfRow (Some h) = R h.1.key.peer

  row_found : (q : Peer) (y : ℕ) (hs : List AskingRow) → Askers R Asking hs → OfRow (waiting q y hs)
  row_found q y [] h = tt
  row_found q y (x ∷ xs) h = go (among q x.1.item.waits y) (row_found q y xs h.1)
    where
      go : (b : Bool) → OfRow (waiting q y xs) → OfRow (cond b (Some x) (waiting q y xs))
      go true k = h.0
      go false k = k

  -- ---- a message of the peer p
  module _ (p : Peer) (asks : R p) where
    gathers_after : (y : ℕ) (bs : List Branch) (h : AskingRow) (k : Parent) → Reaches k → After (gathers p y bs h k)
    gathers_after y bs h k r = (record { rows = askers_written R Asking h.0 (gathered p y bs h.1.item) k.pending.rows r.rows; ways = r.ways }, tt)

    answer_after : (c : Codec) (y : ℕ) (h : AskingRow) (a : Answer) (k : Parent) → R h.1.key.peer → Reaches k → After (take_answer c p y h k a)
    answer_after c y h (Paths ps) k of r = gathers_after y _ h k r
    answer_after c y h (NoPath nature vector) k of r =
        after_pick (nature == 0) _ _ (gathers_after y [] h k r) (answered_after h (reply_message h.1.item.flags h.1.key.id unavailable) k of r)

    reply_after : (c : Codec) (r : Reply) (k : Parent) → Reaches k → After (take_reply c p r k)
    reply_after c r k h = go (waiting p r.id k.pending.rows) (row_found p r.id k.pending.rows h.rows)
      where
        go : (o : Option AskingRow) → OfRow o → After (take_found c p r k o)
        go None of = (h, (told p asks, tt))
        go (Some row) of = answer_after c r.id row r.answer k of h

    busy_after : (rp : ℕ × ℕ) (k : Parent) → Reaches k → After (take_busy p rp k)
    busy_after rp k h = go (waiting p rp.1 k.pending.rows) (row_found p rp.1 k.pending.rows h.rows)
      where
        go : (o : Option AskingRow) → OfRow o → After (told_busy k o)
        go None of = (h, tt)
        go (Some row) of = answered_after row (busy row.1.item.flags row.1.key.id) k of h

    cancel_after : (rp : ℕ × ℕ) (k : Parent) → Reaches k → After (take_cancel p rp k)
    cancel_after rp k h = go (number_of k.pending p rp.1)
      where
        go : (o : Option ℕ) → After (cancelled k o)
        go None = (h, tt)
        go (Some number) = (ended_keeps number k h, tt)

    steps_after : (rp : ℕ × ℕ) (kinds : List (ℕ × ℕ)) (k : Parent) → Reaches k → After (each (λ (step : Peer → ℕ × ℕ → Parent → ParentTaken). step p rp) (notice_steps kinds) k)
    steps_after rp kinds k h = go (has_pair 1 2 kinds) (has_pair 1 1 kinds)
      where
        alone : (t : ParentTaken) → After t → After (record { parent = t.parent; outputs = t.outputs ++ [] })
        alone t a = (a.0, outs_append L t.outputs [] a.1 tt)

        go : (b a : Bool) → After (each (λ (step : Peer → ℕ × ℕ → Parent → ParentTaken). step p rp) (cond b (cond a (take_busy ∷ take_cancel ∷ []) (take_busy ∷ [])) (cond a (take_cancel ∷ []) [])) k)
        go true true =
            let first = busy_after rp k h in
            let t = take_cancel p rp (take_busy p rp k).parent in
            let rest = alone t (cancel_after rp (take_busy p rp k).parent first.0) in
            (rest.0, outs_append L (take_busy p rp k).outputs (t.outputs ++ []) first.1 rest.1)
        go true false = alone (take_busy p rp k) (busy_after rp k h)
        go false true = alone (take_cancel p rp k) (cancel_after rp k h)
        go false false = (h, tt)

    failure_after : (e : ℕ × ℕ) (rp : ℕ × ℕ) (k : Parent) → Reaches k → After (take_failure e k (waiting p rp.1 k.pending.rows))
    failure_after e rp k h = go (waiting p rp.1 k.pending.rows) (row_found p rp.1 k.pending.rows h.rows)
      where
        says : (row : AskingRow) → R row.1.key.peer → (ms : List Message) → After (told_error row k ms)
        says row of [] = (h, tt)
        says row of (m ∷ ms) = answered_after row m k of h

        go : (o : Option AskingRow) → OfRow o → After (take_failure e k o)
        go None of = (h, tt)
        go (Some row) of = says row of (error_answer e row.1.item.flags row.1.key.id)

    errors_after : (ids errors : List (ℕ × ℕ)) (k : Parent) → Reaches k → After (take_errors p ids errors k)
    errors_after ids [] k h = (h, tt)
    errors_after ids (e ∷ es) k h = each_after (λ (rp : ℕ × ℕ) k'. take_failure e k' (waiting p rp.1 k'.pending.rows)) (failure_after e) ids k h

    -- ---- a request
    module _ (c : Codec) (f : Family) (children : Children L f.children) where
      path_after : (flags x : ℕ) (w : Wanted) (k : Parent) → Reaches k → After (take_path f p flags x w k)
      path_after flags x w k h =
          let a = all_asked L w (all_waits k.pending.rows) (errands f.links w.target f.children) k.ways (to_children L f.links w.target f.children children) h.ways in
          (record { rows = askers_append R Asking k.pending.rows _ h.rows (asks, tt); ways = a.0 }, a.1)

      wish_after : (flags x : ℕ) (k : Parent) (w : Wish) → Reaches k → After (take_wish f p flags x k w)
      wish_after flags x k (Path w) h =
          after_pick (is_full k.pending) _ _ (h, (told p asks, tt)) (after_pick (all_up f.children k.ways) _ _ (path_after flags x w k h) (h, (told p asks, tt)))
      wish_after flags x k (Expand key pce) h = (h, (told p asks, tt))

      asked_after : (a : Asked) (k : Parent) → Reaches k → After (take_asked c f p a k)
      asked_after a k h = go (c.check a (record { 0 = 0 }))
        where
          fresh : (r : Request) (o : Option ℕ) → After (take_new f p r k o)
          fresh r None = wish_after r.flags r.id k r.wish h
          fresh r (Some number) = (h, tt)

          go : (o : Checked) → After (take_checked f p k o)
          go (Wrong rp kind value) = (h, (told p asks, tt))
          go (Admitted r) = fresh r (number_of k.pending p r.id)

      pub take_reaches : (m : Message) (k : Parent) → Reaches k → After (take c f p m k)
      take_reaches (messages.PcReq all) k h = each_after (take_asked c f p) asked_after all k h
      take_reaches (messages.PcRep replies) k h = each_after (take_reply c p) (reply_after c) replies k h
      take_reaches (messages.PcNtf notices) k h =
          each_after (take_notice p) (λ r k' h'. each_after (λ (rp : ℕ × ℕ). each (λ (step : Peer → ℕ × ℕ → Parent → ParentTaken). step p rp) (notice_steps r.kinds)) (λ rp k'' h''. steps_after rp r.kinds k'' h'') r.ids k' h') notices k h
      take_reaches (messages.PcErr reports) k h = each_after (take_report p) (λ r k' h'. errors_after r.ids r.errors k' h') reports k h
      take_reaches (messages.Open body) k h = (h, tt)
      take_reaches messages.Keepalive k h = (h, tt)
      take_reaches (messages.Close why) k h = (h, tt)
      take_reaches (messages.Other kind) k h = (h, tt)

  -- ---- sessions and jobs

  lost_outs : (hs : List AskingRow) → Askers R Asking hs → Outs L (map lost_output (map lost_of hs))
  lost_outs [] h = tt
  lost_outs (x ∷ xs) h = (told x.1.key.peer h.0, lost_outs xs h.1)

  pub downed_reaches : (p : Peer) (k : Parent) → Reaches k → After (downed p k)
  downed_reaches p k h = (
    record { rows = askers_filter R Asking (stays p) k.pending.rows h.rows; ways = ways_up L p false k.ways h.ways },
    lost_outs (filter (is_lost p) k.pending.rows) (askers_filter R Asking (is_lost p) k.pending.rows h.rows),
  )

  pub upped_reaches : (p : Peer) (k : Parent) → Reaches k → Reaches (upped p k)
  upped_reaches p k h = record { rows = h.rows; ways = ways_up L p true k.ways h.ways }

  pub commit_reaches : (c : Codec) (h : AskingRow) (a : Option Found) (k : Parent) → R h.1.key.peer → Reaches k → After (commit c h a k)
  commit_reaches c h None k asks r = (ended_keeps h.0 k r, (told h.1.key.peer asks, tt))
  commit_reaches c h (Some a) k asks r = (ended_keeps h.0 k r, (told h.1.key.peer asks, tt))
