-- What an element says goes to who spoke, to who asked for what is pending, or to a peer to which requests are sent.
use Rattle.std.proofs.Common.{◌≡◌, ℕ, Bool, true, false, cond, ◌==◌, nat_eq, nat_lt, List, [], ◌∷◌, ◌++◌, length, filter, map, Option, Some, None, subst}
use Rattle.std.specs.Map.{lookup, remove_entry}
use Rattle.plant_model.specs.Types.{As, Peer, Hop, Message, Asked, Reply, Answer, Request, Wanted, Wish, Class, Held, Best, Branch}
use Rattle.pcep_messages.specs.declared.message.Message.TheVariants as messages
use Rattle.pcep_messages.specs.declared.message.Answer.TheVariants.{Paths, NoPath}
use Rattle.pcep_messages.specs.declared.message.Wish.TheVariants.{Path, Expand}
use Rattle.disclosure.specs.Policy.{is_denied}
use Rattle.request_table.specs.Pending.{number_of, opened_of, same_peer, is_full}
use Rattle.request_table.specs.Lends.{with_item}
use Rattle.plant_model.specs.declared.output.Output.{Output}
use Rattle.plant_model.specs.Names.{the_parent, has_pair}
use Rattle.plant_model.specs.Wire.{Codec, Checked, Admitted, Wrong}
use Rattle.plant_model.specs.Writing.{reply_message, unavailable, busy, none_between}
use Rattle.plant_model.specs.Element.{Stage, Ready, Item, Row, Way, Element, ElementSettings, Taken, each, ended, at_stage, waiting, waits_for, way_to, with_last, with_up, fresh_id, stays, is_lost, lost_of, lost_output, downed, upped, is_client}
use Rattle.plant_model.specs.Routes.{toward}
use Rattle.plant_model.specs.Branches.{branches_in}
use Rattle.plant_model.specs.Taking.{item_of, sequence_or, goes_up, send_on, take_along, take_path, take_wish, take_new, take_checked, take_asked, staged, answered, made_ready, take_answer, take_reply, told_busy, cancelled, take_busy, take_cancel, notice_steps, take_notice, error_answer, told_error, take_failure, take_errors, take_report, take, sight, wanting}
use Rattle.plant_model.specs.Solving.{commit, client_reply, closed_reply, closed_paths, issued_all, free, job_found}

-- who asked for what is pending
module _ (R : Peer → Type 0) (T : Type 0) where
  abbrev pub Askers : List (ℕ × Held T) → Type 0
  Askers [] = Unit {0}
  Askers (h ∷ hs) = R h.1.key.peer × Askers hs

  pub askers_append : (xs ys : List (ℕ × Held T)) → Askers xs → Askers ys → Askers (xs ++ ys)
  askers_append [] ys h k = k
  askers_append (x ∷ xs) ys h k = (h.0, askers_append xs ys h.1 k)

  pub askers_filter : (test : ℕ × Held T → Bool) (xs : List (ℕ × Held T)) → Askers xs → Askers (filter test xs)
  askers_filter test [] h = tt
  askers_filter test (x ∷ xs) h = go (test x) (askers_filter test xs h.1)
    where
      go : (b : Bool) → Askers (filter test xs) → Askers (cond b (x ∷ filter test xs) (filter test xs))
      go true k = (h.0, k)
      go false k = k

  pub askers_removed : (n : ℕ) (xs : List (ℕ × Held T)) → Askers xs → Askers (remove_entry (nat_eq n) xs)
  askers_removed n [] h = tt
  askers_removed n (x ∷ xs) h = go (nat_eq n x.0) (askers_removed n xs h.1)
    where
      go : (b : Bool) → Askers (remove_entry (nat_eq n) xs) → Askers (cond b xs (x ∷ remove_entry (nat_eq n) xs))
      go true k = h.1
      go false k = (h.0, k)

  pub askers_written : (n : ℕ) (i : T) (xs : List (ℕ × Held T)) → Askers xs → Askers (with_item n i xs)
  askers_written n i [] h = tt
  askers_written n i (x ∷ xs) h = go (nat_eq n x.0) (askers_written n i xs h.1)
    where
      go : (b : Bool) → Askers (with_item n i xs) → Askers (cond b ((x.0, record x.1 { item = i }) ∷ xs) (x ∷ with_item n i xs))
      go true k = (h.0, h.1)
      go false k = (h.0, k)

  -- of what is found under a number
  pub askers_under : (n : ℕ) (xs : List (ℕ × Held T)) (h : Held T) → Askers xs → lookup (nat_eq n) xs ≡ Some h → R h.key.peer
  askers_under n [] h r e = absurd (differ e)
    where
      differ : ◌≡◌ {A = Option (Held T)} None (Some h) → ⊥
      differ e' = cc
  askers_under n (x ∷ xs) h r e = go (nat_eq n x.0) (λ e'. askers_under n xs h r.1 e') e
    where
      go : (b : Bool) → (lookup (nat_eq n) xs ≡ Some h → R h.key.peer) → cond b (Some x.1) (lookup (nat_eq n) xs) ≡ Some h → R h.key.peer
      go true more e' = let same : x.1 ≡ h = cc in subst (λ (z : Held T). R z.key.peer) same r.0
      go false more e' = more e'

-- to whom requests are sent, and who is told
module _ (L : Peer → Type 0) where
  abbrev pub Ways : List Way → Type 0
  Ways [] = Unit {0}
  Ways (w ∷ ws) = L w.peer × Ways ws

  abbrev pub Outs : List Output → Type 0
  Outs [] = Unit {0}
  Outs (o ∷ os) = L o.to × Outs os

  pub ways_append : (xs ys : List Way) → Ways xs → Ways ys → Ways (xs ++ ys)
  ways_append [] ys h k = k
  ways_append (x ∷ xs) ys h k = (h.0, ways_append xs ys h.1 k)

  pub outs_append : (xs ys : List Output) → Outs xs → Outs ys → Outs (xs ++ ys)
  outs_append [] ys h k = k
  outs_append (x ∷ xs) ys h k = (h.0, outs_append xs ys h.1 k)

  pub ways_last : (p : Peer) (y : ℕ) (ws : List Way) → Ways ws → Ways (with_last p y ws)
  ways_last p y [] h = tt
  ways_last p y (w ∷ ws) h = go (same_peer w.peer p) (ways_last p y ws h.1)
    where
      go : (b : Bool) → Ways (with_last p y ws) → Ways (cond b (record w { last_id = y } ∷ ws) (w ∷ with_last p y ws))
      go true k = (h.0, h.1)
      go false k = (h.0, k)

  pub ways_up : (p : Peer) (up : Bool) (ws : List Way) → Ways ws → Ways (with_up p up ws)
  ways_up p up [] h = tt
  ways_up p up (w ∷ ws) h = go (same_peer w.peer p) (ways_up p up ws h.1)
    where
      go : (b : Bool) → Ways (with_up p up ws) → Ways (cond b (record w { up = up } ∷ ws) (w ∷ with_up p up ws))
      go true k = (h.0, h.1)
      go false k = (h.0, k)

  abbrev OfWay : Option Way → Type 0
  OfWay None = Unit {0}
  OfWay (Some w) = L w.peer

  way_found : (p : Peer) (ws : List Way) → Ways ws → OfWay (way_to p ws)
  way_found p [] h = tt
  way_found p (w ∷ ws) h = go (same_peer w.peer p) (way_found p ws h.1)
    where
      go : (b : Bool) → OfWay (way_to p ws) → OfWay (cond b (Some w) (way_to p ws))
      go true k = h.0
      go false k = k

-- Who asks is told, too.
module _ (R L : Peer → Type 0) (told : (p : Peer) → R p → L p) (P : Type 0) (S : Type 0) where
  pub record Reaches (k : Element P S) : Type 0 where
    pub rows : Askers R (Item P) k.pending.rows
    pub ways : Ways L k.ways

  abbrev pub After : Taken P S → Type 0
  After t = Reaches t.element × Outs L t.outputs

  after_pick : (b : Bool) (t u : Taken P S) → After t → After u → After (cond b t u)
  after_pick true t u h k = h
  after_pick false t u h k = k

  each_after : {X : Type 0} (f : X → Element P S → Taken P S) → ((x : X) (k : Element P S) → Reaches k → After (f x k)) → (xs : List X) (k : Element P S) → Reaches k → After (each f xs k)
  each_after f one [] k h = (h, tt)
  each_after f one (x ∷ xs) k h =
      let first = one x k h in
      let rest = each_after f one xs (f x k).element first.0 in
      (rest.0, outs_append L (f x k).outputs (each f xs (f x k).element).outputs first.1 rest.1)

  ended_keeps : (n : ℕ) (k : Element P S) → Reaches k → Reaches (ended n k)
  ended_keeps n k r = record { rows = askers_removed R (Item P) n k.pending.rows r.rows; ways = r.ways }

  answered_after : (h : Row P) (m : Message) (k : Element P S) → R h.1.key.peer → Reaches k → After (answered h m k)
  answered_after h m k asks r = (ended_keeps h.0 k r, (told h.1.key.peer asks, tt))

  staged_keeps : (h : Row P) (stage : Stage) (k : Element P S) → Reaches k → Reaches (staged h stage k)
  staged_keeps h stage k r = record { rows = askers_written R (Item P) h.0 (at_stage stage h.1.item) k.pending.rows r.rows; ways = r.ways }

  abbrev OfRow : Option (Row P) → Type 0
  OfRow None = Unit {0}
  OfRow (Some h) = R h.1.key.peer

  row_found : (q : Peer) (y : ℕ) (hs : List (Row P)) → Askers R (Item P) hs → OfRow (waiting q y hs)
  row_found q y [] h = tt
  row_found q y (x ∷ xs) h = go (waits_for q y x.1.item.stage) (row_found q y xs h.1)
    where
      go : (b : Bool) → OfRow (waiting q y xs) → OfRow (cond b (Some x) (waiting q y xs))
      go true k = h.0
      go false k = k

  -- ---- a message of the peer p
  module _ (p : Peer) (asks : R p) where
    ready_after : (c : Codec) (h : Row P) (a : Answer) (k : Element P S) → R h.1.key.peer → Reaches k → After (made_ready c h a k)
    ready_after c h (Paths ps) k of r = (staged_keeps h (Ready (branches_in c h.1.item.wanted.query.metric ps)) k r, tt)
    ready_after c h (NoPath nature vector) k of r =
        after_pick (nature == 0) _ _ (staged_keeps h (Ready []) k r, tt) (answered_after h (reply_message h.1.item.flags h.1.key.id unavailable) k of r)

    reply_after : (c : Codec) (r : Reply) (k : Element P S) → Reaches k → After (take_reply c p r k)
    reply_after c r k h = go (waiting p r.id k.pending.rows) (row_found p r.id k.pending.rows h.rows)
      where
        go : (o : Option (Row P)) → OfRow o → After (take_answer c p r k o)
        go None of = (h, (told p asks, tt))
        go (Some row) of =
            after_pick (same_peer p the_parent) _ _ (answered_after row (reply_message row.1.item.flags row.1.key.id r.answer) k of h) (ready_after c row r.answer k of h)

    busy_after : (rp : ℕ × ℕ) (k : Element P S) → Reaches k → After (take_busy p rp k)
    busy_after rp k h = go (waiting p rp.1 k.pending.rows) (row_found p rp.1 k.pending.rows h.rows)
      where
        go : (o : Option (Row P)) → OfRow o → After (told_busy k o)
        go None of = (h, tt)
        go (Some row) of = answered_after row (busy row.1.item.flags row.1.key.id) k of h

    cancel_after : (rp : ℕ × ℕ) (k : Element P S) → Reaches k → After (take_cancel p rp k)
    cancel_after rp k h = go (number_of k.pending p rp.1)
      where
        go : (o : Option ℕ) → After (cancelled k o)
        go None = (h, tt)
        go (Some number) = (ended_keeps number k h, tt)

    steps_after : (rp : ℕ × ℕ) (kinds : List (ℕ × ℕ)) (k : Element P S) → Reaches k → After (each (λ step. step p rp) (notice_steps kinds) k)
    steps_after rp kinds k h = go (has_pair 1 2 kinds) (has_pair 1 1 kinds)
      where
        alone : (t : Taken P S) → After t → After (record { element = t.element; outputs = t.outputs ++ [] })
        alone t a = (a.0, outs_append L t.outputs [] a.1 tt)

        go : (b a : Bool) → After (each (λ step. step p rp) (cond b (cond a (take_busy ∷ take_cancel ∷ []) (take_busy ∷ [])) (cond a (take_cancel ∷ []) [])) k)
        go true true =
            let first = busy_after rp k h in
            let t = take_cancel p rp (take_busy p rp k).element in
            let rest = alone t (cancel_after rp (take_busy p rp k).element first.0) in
            (rest.0, outs_append L (take_busy p rp k).outputs (t.outputs ++ []) first.1 rest.1)
        go true false = alone (take_busy p rp k) (busy_after rp k h)
        go false true = alone (take_cancel p rp k) (cancel_after rp k h)
        go false false = (h, tt)

    failure_after : (e : ℕ × ℕ) (rp : ℕ × ℕ) (k : Element P S) → Reaches k → After (take_failure e k (waiting p rp.1 k.pending.rows))
    failure_after e rp k h = go (waiting p rp.1 k.pending.rows) (row_found p rp.1 k.pending.rows h.rows)
      where
        says : (row : Row P) → R row.1.key.peer → (ms : List Message) → After (told_error row k ms)
        says row of [] = (h, tt)
        says row of (m ∷ ms) = answered_after row m k of h

        go : (o : Option (Row P)) → OfRow o → After (take_failure e k o)
        go None of = (h, tt)
        go (Some row) of = says row of (error_answer e row.1.item.flags row.1.key.id)

    errors_after : (ids errors : List (ℕ × ℕ)) (k : Element P S) → Reaches k → After (take_errors p ids errors k)
    errors_after ids [] k h = (h, tt)
    errors_after ids (e ∷ es) k h = each_after (λ rp k'. take_failure e k' (waiting p rp.1 k'.pending.rows)) (failure_after e) ids k h

    -- ---- a request
    module _ (c : Codec) (e : ElementSettings) (pin : P) (class : Class) where
      opened_keeps : (flags x : ℕ) (w : Wanted) (sequence : List As) (stage : Stage) (k : Element P S) (ways : List Way) → Ways L ways → Reaches k →
          Reaches (record k { pending = opened_of k.pending p x (item_of pin class flags w sequence stage); ways = ways })
      opened_keeps flags x w sequence stage k ways lead h = record { rows = askers_append R (Item P) k.pending.rows _ h.rows (asks, tt); ways = lead }

      on_after : (flags x : ℕ) (w : Wanted) (sequence rest : List As) (refused : Bool) (k : Element P S) (o : Option Way) → OfWay L o → Reaches k → After (send_on (sight pin p class) (wanting flags x w) sequence rest refused k o)
      on_after flags x w sequence rest refused k None leads h = (h, (told p asks, tt))
      on_after flags x w sequence rest refused k (Some way) leads h =
          after_pick way.up _ _
          (after_pick refused _ _ (h, (told p asks, tt))
          (opened_keeps flags x w sequence _ k (with_last way.peer (fresh_id way.peer way.last_id k.pending.rows) k.ways) (ways_last L way.peer (fresh_id way.peer way.last_id k.pending.rows) k.ways h.ways) h, (leads, tt)))
          (h, (told p asks, tt))

      along_after : (flags x : ℕ) (w : Wanted) (k : Element P S) (path : List As) → Reaches k → After (take_along e (sight pin p class) (wanting flags x w) k path)
      along_after flags x w k [] h = (h, (told p asks, tt))
      along_after flags x w k (a ∷ []) h = (opened_keeps flags x w (a ∷ []) (Ready []) k k.ways h.ways h, tt)
      along_after flags x w k (a ∷ b ∷ rest) h =
          on_after flags x w (a ∷ b ∷ rest) (b ∷ rest) (is_denied e.deny class b) k (way_to (toward b e.routes) k.ways) (way_found L (toward b e.routes) k.ways h.ways) h

      path_after : (flags x : ℕ) (w : Wanted) (k : Element P S) → Reaches k → After (take_path e (sight pin p class) (wanting flags x w) k)
      path_after flags x w k h =
          after_pick (goes_up e.parent class w.sequence) _ _ (on_after flags x w [] [] false k (way_to the_parent k.ways) (way_found L the_parent k.ways h.ways) h)
          (along_after flags x w k (sequence_or e.own w.sequence) h)

      wish_after : (show : S → List Hop) (now flags x : ℕ) (k : Element P S) (w : Wish) → Reaches k → After (take_wish show e (sight pin p class) now flags x k w)
      wish_after show now flags x k (Path w) h = after_pick (is_full k.pending) _ _ (h, (told p asks, tt)) (path_after flags x w k h)
      wish_after show now flags x k (Expand key pce) h = (h, (told p asks, tt))

      asked_after : (show : S → List Hop) (now : ℕ) (a : Asked) (k : Element P S) → Reaches k → After (take_asked c show e pin p class now a k)
      asked_after show now a k h = go (c.check a e.own)
        where
          fresh : (r : Request) (o : Option ℕ) → After (take_new show e pin p class now r k o)
          fresh r None = wish_after show now r.flags r.id k r.wish h
          fresh r (Some number) = (h, tt)

          go : (o : Checked) → After (take_checked show e pin p class now k o)
          go (Wrong rp kind value) = (h, (told p asks, tt))
          go (Admitted r) = fresh r (number_of k.pending p r.id)

      pub take_reaches : (show : S → List Hop) (now : ℕ) (m : Message) (k : Element P S) → Reaches k → After (take c show e pin p class now m k)
      take_reaches show now (messages.PcReq all) k h = each_after (take_asked c show e pin p class now) (asked_after show now) all k h
      take_reaches show now (messages.PcRep replies) k h = each_after (take_reply c p) (reply_after c) replies k h
      take_reaches show now (messages.PcNtf notices) k h =
          each_after (take_notice p) (λ r k' h'. each_after (λ rp. each (λ step. step p rp) (notice_steps r.kinds)) (λ rp k'' h''. steps_after rp r.kinds k'' h'') r.ids k' h') notices k h
      take_reaches show now (messages.PcErr reports) k h = each_after (take_report p) (λ r k' h'. errors_after r.ids r.errors k' h') reports k h
      take_reaches show now (messages.Open body) k h = (h, tt)
      take_reaches show now messages.Keepalive k h = (h, tt)
      take_reaches show now (messages.Close why) k h = (h, tt)
      take_reaches show now (messages.Other kind) k h = (h, tt)

  -- ---- sessions and jobs

  lost_outs : (hs : List (Row P)) → Askers R (Item P) hs → Outs L (map lost_output (map lost_of hs))
  lost_outs [] h = tt
  lost_outs (x ∷ xs) h = (told x.1.key.peer h.0, lost_outs xs h.1)

  pub downed_reaches : (p : Peer) (k : Element P S) → Reaches k → After (downed p k)
  downed_reaches p k h = (
    record { rows = askers_filter R (Item P) (stays p) k.pending.rows h.rows; ways = ways_up L p false k.ways h.ways },
    lost_outs (filter (is_lost p) k.pending.rows) (askers_filter R (Item P) (is_lost p) k.pending.rows h.rows),
  )

  pub upped_reaches : (p : Peer) (k : Element P S) → Reaches k → Reaches (upped p k)
  upped_reaches p k h = record { rows = h.rows; ways = ways_up L p true k.ways h.ways }

  pub commit_reaches : (c : Codec) (e : ElementSettings) (h : Row P) (down : List Branch) (now : ℕ) (stands : Best → S) (source_known target_known : Bool) (best : List Best) (k : Element P S) →
      R h.1.key.peer → Reaches k → After (commit c e h down now stands (job_found source_known target_known best) k)
  commit_reaches c e h down now stands source_known target_known best k asks r =
      after_pick (is_client h.1.item.class) (answered h (client_reply c h down source_known target_known best) k) (closed_reply c e h down now stands k best)
      (answered_after h (client_reply c h down source_known target_known best) k asks r) (go best)
    where
      go : (bs : List Best) → After (closed_reply c e h down now stands k bs)
      go [] = answered_after h (reply_message h.1.item.flags h.1.key.id none_between) k asks r
      go (b ∷ bs) =
          let k2 = record k { keys = issued_all now stands (b ∷ bs) k.keys } in
          let m = reply_message h.1.item.flags h.1.key.id (Paths (closed_paths c e.id h.1.item.wanted.query.metric h.1.item.wanted.target down k.keys.next (b ∷ bs))) in
          after_pick (nat_lt (free now k.keys) (length (b ∷ bs))) (answered h (busy h.1.item.flags h.1.key.id) k) (answered h m k2) (answered_after h (busy h.1.item.flags h.1.key.id) k asks r)
          (answered_after h m k2 asks (record { rows = r.rows; ways = r.ways }))
