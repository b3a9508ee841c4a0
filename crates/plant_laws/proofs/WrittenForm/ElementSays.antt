-- What an element says to a message is in written form, where what is known of the message fits, and what it keeps stays such.
use Rattle.std.proofs.Common.{◌≡◌, ◌⊎◌, ◌≤◌, ℕ, suc, Bool, true, false, cond, ◌==◌, Option, Some, None, List, [], ◌∷◌, ◌++◌, length, map, sym, subst, refl, nat_eq, nat_lt, filter, ◌<◌, ◌^◌, inl, inr, arith}
use Rattle.std.specs.Prelude.{All, ◌&&◌}
use Rattle.std.specs.Map.{lookup, remove_entry}
use Rattle.std.specs.List.{AllByRecursion}
use Rattle.std.proofs.lemmas.Bool.{eqb-false}
use Rattle.std.proofs.lemmas.List.Elements.{All-nil, All-tail}
use Rattle.plant_model.specs.Types.{As, Addr, Peer, Hop, Message, Asked, Request, Reply, Answer, Wanted, Wish, Class, Held, Issued, Best, Branch}
use Rattle.dom_base.specs.declared.limits.TheConstants.{COST_MAX}
use Rattle.pcep_subobjects.specs.Addresses.{IsAddr}
use Rattle.pcep_messages.specs.declared.message.Message.TheVariants as messages
use Rattle.pcep_messages.specs.declared.message.Answer.TheVariants.{Paths, NoPath}
use Rattle.pcep_messages.specs.declared.message.Wish.TheVariants.{Path, Expand}
use Rattle.pcep_messages.specs.Spelling.{IsWritten}
use Rattle.disclosure.specs.Policy.{is_denied, can_expand}
use Rattle.request_table.specs.Pending.{number_of, opened_of, same_peer, is_full}
use Rattle.request_table.specs.Lends.{with_item}
use Rattle.path_keys.specs.Keys.{Keys, segment_of, segment_among, is_live, live_at, issue_of}
use Rattle.plant_model.specs.declared.output.Output.{Output}
use Rattle.plant_model.specs.Names.{same_addr, the_parent, has_pair}
use Rattle.plant_model.specs.Wire.{Codec, Checked, Admitted, Wrong}
use Rattle.plant_model.specs.Laws.{IsCodec, Admits, IsRequestInRange, CanBeSent, IsSequence, AreWords, HasNumbers}
use Rattle.plant_model.specs.Writing.{request_message, reply_message, error_message, busy, unavailable, no_key}
use Rattle.plant_model.specs.Element.{Item, Stage, Ready, Row, Way, Element, ElementSettings, Taken, each, way_to, with_last, with_up, upped, ticked, waiting, waits_for, at_stage, lost_of, is_lost, stays, after_id, pass_over, is_waiting, fresh_id, is_client, lost_output, downed}
use Rattle.plant_model.specs.Routes.{toward}
use Rattle.plant_model.specs.Element as element
use Rattle.plant_model.specs.Taking as taking
use Rattle.plant_model.specs.Taking.{take, sequence_or, goes_up, error_answer}
use Rattle.plant_model.specs.Solving.{commit, closed_reply, issued_all, free, job_found}
use Rattle.plant_laws.specs.Sending.{AreAll}
use Rattle.plant_laws.proofs.WrittenForm.InForm.{busy_written, error_written, no_path_written, passed_written}

-- ---- outputs

abbrev pub Outs : List Output → Type 0
Outs os = AreAll IsWritten os

pub outs_append : (os ps : List Output) → Outs os → Outs ps → Outs (os ++ ps)
outs_append [] ps h k = k
outs_append (o ∷ os) ps h k = (h.0, outs_append os ps h.1 k)

pub unavailable_written : (flags id : ℕ) → AreWords (flags, id) → IsWritten (reply_message flags id unavailable)
unavailable_written flags id w = no_path_written flags id 1 8 w (omega arith) (omega arith)

pub failure_written : (e : ℕ × ℕ) (flags x : ℕ) → AreWords (flags, x) → (m : Message) (ms : List Message) → error_answer e flags x ≡ m ∷ ms → IsWritten m
failure_written e flags x w m ms = go (has_pair 8 0 (e ∷ [])) (has_pair e.0 e.1 ((4, 4) ∷ (13, 1) ∷ []))
  where
    head_is : (a b : Message) (as' bs : List Message) → a ∷ as' ≡ b ∷ bs → IsWritten a → IsWritten b
    head_is a b as' bs e q = let is : a ≡ b = cc in subst IsWritten is q

    go : (a b : Bool) → cond a [] (cond b (error_message (Some (flags, x)) 13 1 ∷ []) (reply_message flags x unavailable ∷ [])) ≡ m ∷ ms → IsWritten m
    go true b e = absurd (let out : [] ≡ m ∷ ms = e in cc)
    go false true e = head_is (error_message (Some (flags, x)) 13 1) m [] ms e (error_written (Some (flags, x)) 13 1 w (omega arith) (omega arith))
    go false false e = head_is (reply_message flags x unavailable) m [] ms e (unavailable_written flags x w)

-- ---- ids

abbrev pub IsId : ℕ → Type 0
IsId n = n < 2 ^ 32

after_fits : (n : ℕ) → IsId n → IsId (after_id n)
after_fits n h = go (n == 4294967295) refl
  where
    go : (b : Bool) → (n == 4294967295) ≡ b → IsId (cond b 1 (suc n))
    go true is = omega arith
    go false is = let other = eqb-false n 4294967295 is in omega (arith, h, other)

pub pass_fits : {A : Type 0} (xs : List A) (waits : ℕ → Bool) (y : ℕ) → IsId y → IsId (pass_over xs waits y)
pass_fits [] waits y h = h
pass_fits (x ∷ xs) waits y h = go (waits y) (pass_fits xs waits (after_id y) (after_fits y h))
  where
    go : (b : Bool) → IsId (pass_over xs waits (after_id y)) → IsId (cond b (pass_over xs waits (after_id y)) y)
    go true more = more
    go false more = h

pub next_fits : {A : Type 0} (xs : List A) (waits : ℕ → Bool) (last : ℕ) → IsId last → IsId (pass_over xs waits (after_id last))
next_fits xs waits last h = pass_fits xs waits (after_id last) (after_fits last h)

-- and is at least 1
pub next_some : {A : Type 0} (xs : List A) (waits : ℕ → Bool) (last : ℕ) → 1 ≤ pass_over xs waits (after_id last)
next_some xs waits last = pass xs (after_id last) (one last)
  where
    one : (n : ℕ) → 1 ≤ after_id n
    one n = go (n == 4294967295)
      where
        go : (b : Bool) → 1 ≤ cond b 1 (suc n)
        go true = omega arith
        go false = omega arith

    pass : {A : Type 0} (xs : List A) (y : ℕ) → 1 ≤ y → 1 ≤ pass_over xs waits y
    pass [] y h = h
    pass (x ∷ xs) y h = pick (waits y) (pass xs (after_id y) (one y))
      where
        pick : (b : Bool) → 1 ≤ pass_over xs waits (after_id y) → 1 ≤ cond b (pass_over xs waits (after_id y)) y
        pick true more = more
        pick false more = h

abbrev pub WaysOk : List Way → Type 0
WaysOk ws = AllByRecursion (λ (w : Way). IsId w.last_id) ws

pub ways_last : (p : Peer) (y : ℕ) (ws : List Way) → IsId y → WaysOk ws → WaysOk (with_last p y ws)
ways_last p y [] fits h = tt
ways_last p y (w ∷ ws) fits h = go (same_peer w.peer p) (ways_last p y ws fits h.1)
  where
    go : (b : Bool) → WaysOk (with_last p y ws) → WaysOk (cond b (record w { last_id = y } ∷ ws) (w ∷ with_last p y ws))
    go true more = (fits, h.1)
    go false more = (h.0, more)

pub ways_up : (p : Peer) (up : Bool) (ws : List Way) → WaysOk ws → WaysOk (with_up p up ws)
ways_up p up [] h = tt
ways_up p up (w ∷ ws) h = go (same_peer w.peer p) (ways_up p up ws h.1)
  where
    go : (b : Bool) → WaysOk (with_up p up ws) → WaysOk (cond b (record w { up = up } ∷ ws) (w ∷ with_up p up ws))
    go true more = (h.0, h.1)
    go false more = (h.0, more)

abbrev pub WayOk : Option Way → Type 0
WayOk None = Unit {0}
WayOk (Some w) = IsId w.last_id

pub way_fits : (p : Peer) (ws : List Way) → WaysOk ws → WayOk (way_to p ws)
way_fits p [] h = tt
way_fits p (w ∷ ws) h = go (same_peer w.peer p) (way_fits p ws h.1)
  where
    go : (b : Bool) → WayOk (way_to p ws) → WayOk (cond b (Some w) (way_to p ws))
    go true more = h.0
    go false more = more

-- ---- requests that are sent on

-- written under any id
abbrev pub Goes : Wanted → Addr → List As → Type 0
Goes w t rest = (id : ℕ) → IsId id → IsWritten (request_message id w t rest)

pub goes_up_written : (flags x : ℕ) (w : Wanted) → IsRequestInRange flags x w → CanBeSent w → Goes w w.target []
goes_up_written flags x w range can id fits = can id w.target [] fits range.target range.kinds (omega arith) (All-nil (λ (a : As). a.0 < 2 ^ 16))

pub goes_along : (own : As) (flags x : ℕ) (w : Wanted) → IsRequestInRange flags x w → CanBeSent w → length w.sequence ≤ 16 → (a b : As) (rest : List As) → sequence_or own w.sequence ≡ a ∷ b ∷ rest → Goes w w.target (b ∷ rest)
goes_along own flags x w range can few a b rest is id fits = go w.sequence few range.sequence is
  where
    go : (s : List As) → length s ≤ 16 → All (λ (a : As). a.0 < 2 ^ 16) s → sequence_or own s ≡ a ∷ b ∷ rest → IsWritten (request_message id w w.target (b ∷ rest))
    go [] few all e = absurd (let out : own ∷ [] ≡ a ∷ b ∷ rest = e in cc)
    go (z ∷ zs) few all e =
        let tail : zs ≡ b ∷ rest = cc in
        can id w.target (b ∷ rest) fits range.target range.kinds
        (subst (λ (l : List As). length l ≤ 16) tail (omega (arith, few)))
        (subst (λ (l : List As). All (λ (a : As). a.0 < 2 ^ 16) l) tail (All-tail (λ (a : As). a.0 < 2 ^ 16) z zs all))

-- what is known of a request that was read
pub record IsKnown (c : Codec) (own : As) (a : Asked) : Type 0 where
  pub numbers : HasNumbers (c.check a own)
  pub sends : (flags x : ℕ) (w : Wanted) → Admits c a own flags x w → IsRequestInRange flags x w × CanBeSent w

-- and of a message from a peer: what the parent answers is passed on
abbrev pub ReplyKnown : Peer → Reply → Type 0
ReplyKnown p r = AreWords (r.flags, r.id) × (same_peer p the_parent ≡ true → IsWritten (reply_message r.flags r.id r.answer))

abbrev pub Known : Codec → As → Peer → Message → Type 0
Known c own p (messages.PcReq asks) = AllByRecursion (IsKnown c own) asks
Known c own p (messages.PcRep replies) = AllByRecursion (ReplyKnown p) replies
Known c own p m = Unit {0}

-- ---- rows whose numbers are words

-- what was asked for, where it came as octets
abbrev pub WantedFits : Wanted → Type 0
WantedFits w = IsAddr w.source × IsAddr w.target × (w.query.cap ≤ COST_MAX)

module _ (T : Type 0) (flags_of : T → ℕ) (wanted_of : T → Wanted) where
  abbrev pub Ok : Held T → Type 0
  Ok h = AreWords (flags_of h.item, h.key.id) × WantedFits (wanted_of h.item)

  abbrev pub Rows : List (ℕ × Held T) → Type 0
  Rows [] = Unit {0}
  Rows (h ∷ hs) = Ok h.1 × Rows hs

  pub rows_append : (xs ys : List (ℕ × Held T)) → Rows xs → Rows ys → Rows (xs ++ ys)
  rows_append [] ys h k = k
  rows_append (x ∷ xs) ys h k = (h.0, rows_append xs ys h.1 k)

  pub rows_filter : (test : ℕ × Held T → Bool) (xs : List (ℕ × Held T)) → Rows xs → Rows (filter test xs)
  rows_filter test [] h = tt
  rows_filter test (x ∷ xs) h = go (test x) (rows_filter test xs h.1)
    where
      go : (b : Bool) → Rows (filter test xs) → Rows (cond b (x ∷ filter test xs) (filter test xs))
      go true k = (h.0, k)
      go false k = k

  pub rows_removed : (n : ℕ) (xs : List (ℕ × Held T)) → Rows xs → Rows (remove_entry (nat_eq n) xs)
  rows_removed n [] h = tt
  rows_removed n (x ∷ xs) h = go (nat_eq n x.0) (rows_removed n xs h.1)
    where
      go : (b : Bool) → Rows (remove_entry (nat_eq n) xs) → Rows (cond b xs (x ∷ remove_entry (nat_eq n) xs))
      go true k = h.1
      go false k = (h.0, k)

  pub rows_written : (n : ℕ) (i : T) (xs : List (ℕ × Held T)) → flags_of i < 2 ^ 32 → WantedFits (wanted_of i) → Rows xs → Rows (with_item n i xs)
  rows_written n i [] f w h = tt
  rows_written n i (x ∷ xs) f w h = go (nat_eq n x.0) (rows_written n i xs f w h.1)
    where
      go : (b : Bool) → Rows (with_item n i xs) → Rows (cond b ((x.0, record x.1 { item = i }) ∷ xs) (x ∷ with_item n i xs))
      go true k = (((f, h.0.0.1), w), h.1)
      go false k = (h.0, k)

  -- what is found under a number
  pub under : (k : ℕ) (xs : List (ℕ × Held T)) (h : Held T) → Rows xs → lookup (nat_eq k) xs ≡ Some h → Ok h
  under k [] h r e = absurd (differ e)
    where
      differ : ◌≡◌ {A = Option (Held T)} None (Some h) → ⊥
      differ e' = cc
  under k (x ∷ xs) h r e = go (nat_eq k x.0) (λ e'. under k xs h r.1 e') e
    where
      go : (b : Bool) → (lookup (nat_eq k) xs ≡ Some h → Ok h) → cond b (Some x.1) (lookup (nat_eq k) xs) ≡ Some h → Ok h
      go true more e' = let same : x.1 ≡ h = cc in subst Ok same r.0
      go false more e' = more e'

-- ---- an element

module _ (P : Type 0) (S : Type 0) (show : S → List Hop) (Seg : S → Type 0)
    (seg_written : (t : S) (flags id : ℕ) → AreWords (flags, id) → Seg t → IsWritten (reply_message flags id (Paths (record { hops = show t; metric = None } ∷ [])))) where
  abbrev pub flags_in : Item P → ℕ
  flags_in i = i.flags

  abbrev pub wanted_in : Item P → Wanted
  wanted_in i = i.wanted

  abbrev pub AreOk : List (Row P) → Type 0
  AreOk rows = Rows (Item P) flags_in wanted_in rows

  abbrev pub KeysOk : List (Issued S) → Type 0
  KeysOk xs = AllByRecursion (λ (x : Issued S). Seg x.segment) xs

  abbrev pub Holds : Element P S → Type 0
  Holds k = AreOk k.pending.rows × WaysOk k.ways × KeysOk k.keys.issued

  abbrev pub Fine : Taken P S → Type 0
  Fine t = Outs t.outputs × Holds t.element

  choose : (b : Bool) (t u : Taken P S) → Fine t → Fine u → Fine (cond b t u)
  choose true t u h k = h
  choose false t u h k = k

  each_fine : {X : Type 0} (Good : X → Type 0) (f : X → Element P S → Taken P S) → ((x : X) (k : Element P S) → Good x → Holds k → Fine (f x k)) → (xs : List X) (k : Element P S) → AllByRecursion Good xs → Holds k → Fine (each f xs k)
  each_fine Good f one [] k g h = (tt, h)
  each_fine Good f one (x ∷ xs) k g h =
      let first = one x k g.0 h in
      let rest = each_fine Good f one xs (f x k).element g.1 first.1 in
      (outs_append (f x k).outputs (each f xs (f x k).element).outputs first.0 rest.0, rest.1)

  each_any : {X : Type 0} (f : X → Element P S → Taken P S) → ((x : X) (k : Element P S) → Holds k → Fine (f x k)) → (xs : List X) (k : Element P S) → Holds k → Fine (each f xs k)
  each_any f one [] k h = (tt, h)
  each_any f one (x ∷ xs) k h =
      let first = one x k h in
      let rest = each_any f one xs (f x k).element first.1 in
      (outs_append (f x k).outputs (each f xs (f x k).element).outputs first.0 rest.0, rest.1)

  answered_fine : (h : Row P) (m : Message) (k : Element P S) → IsWritten m → Holds k → Fine (taking.answered h m k)
  answered_fine h m k o r = ((o, tt), (rows_removed (Item P) flags_in wanted_in h.0 k.pending.rows r.0, r.1, r.2))

  abbrev IsFound : Option (Row P) → Type 0
  IsFound None = Unit {0}
  IsFound (Some h) = Ok (Item P) flags_in wanted_in h.1

  found : (p : Peer) (y : ℕ) (xs : List (Row P)) → AreOk xs → IsFound (waiting p y xs)
  found p y [] h = tt
  found p y (x ∷ xs) h = go (waits_for p y x.1.item.stage) (found p y xs h.1)
    where
      go : (b : Bool) → IsFound (waiting p y xs) → IsFound (cond b (Some x) (waiting p y xs))
      go true more = h.0
      go false more = more

  staged_fine : (h : Row P) (stage : Stage) (k : Element P S) → Ok (Item P) flags_in wanted_in h.1 → Holds k → Fine (element.silent (taking.staged h stage k))
  staged_fine h stage k w r = (tt, (rows_written (Item P) flags_in wanted_in h.0 (at_stage stage h.1.item) k.pending.rows w.0.0 w.1 r.0, r.1, r.2))

  ready_fine : (c : Codec) (h : Row P) (a : Answer) (k : Element P S) → Ok (Item P) flags_in wanted_in h.1 → Holds k → Fine (taking.made_ready c h a k)
  ready_fine c h (Paths ps) k w r = staged_fine h _ k w r
  ready_fine c h (NoPath nature vector) k w r = choose (nature == 0) _ _ (staged_fine h (Ready []) k w r) (answered_fine h (reply_message h.1.item.flags h.1.key.id unavailable) k (unavailable_written h.1.item.flags h.1.key.id w.0) r)

  reply_fine : (c : Codec) (p : Peer) (r : Reply) (k : Element P S) → ReplyKnown p r → Holds k → Fine (taking.take_reply c p r k)
  reply_fine c p r k g h = go (waiting p r.id k.pending.rows) (found p r.id k.pending.rows h.0)
    where
      passed : (row : Row P) (b : Bool) → same_peer p the_parent ≡ b → Ok (Item P) flags_in wanted_in row.1 →
          Fine (cond b (taking.answered row (reply_message row.1.item.flags row.1.key.id r.answer) k) (taking.made_ready c row r.answer k))
      passed row true is f = answered_fine row (reply_message row.1.item.flags row.1.key.id r.answer) k (passed_written r.flags r.id row.1.item.flags row.1.key.id r.answer f.0 (g.1 is)) h
      passed row false is f = ready_fine c row r.answer k f h

      go : (o : Option (Row P)) → IsFound o → Fine (taking.take_answer c p r k o)
      go None f = ((error_written (Some (r.flags, r.id)) 8 0 g.0 (omega arith) (omega arith), tt), h)
      go (Some row) f = passed row (same_peer p the_parent) refl f

  busy_fine : (p : Peer) (rp : ℕ × ℕ) (k : Element P S) → Holds k → Fine (taking.take_busy p rp k)
  busy_fine p rp k h = go (waiting p rp.1 k.pending.rows) (found p rp.1 k.pending.rows h.0)
    where
      go : (o : Option (Row P)) → IsFound o → Fine (taking.told_busy k o)
      go None f = (tt, h)
      go (Some row) f = answered_fine row (busy row.1.item.flags row.1.key.id) k (busy_written row.1.item.flags row.1.key.id f.0) h

  cancel_fine : (p : Peer) (rp : ℕ × ℕ) (k : Element P S) → Holds k → Fine (taking.take_cancel p rp k)
  cancel_fine p rp k h = go (number_of k.pending p rp.1)
    where
      go : (o : Option ℕ) → Fine (taking.cancelled k o)
      go None = (tt, h)
      go (Some number) = (tt, (rows_removed (Item P) flags_in wanted_in number k.pending.rows h.0, h.1, h.2))

  steps_fine : (p : Peer) (rp : ℕ × ℕ) (kinds : List (ℕ × ℕ)) (k : Element P S) → Holds k → Fine (each (λ (step : Peer → ℕ × ℕ → Element P S → Taken P S). step p rp) (taking.notice_steps kinds) k)
  steps_fine p rp kinds k h = go (has_pair 1 2 kinds) (has_pair 1 1 kinds)
    where
      run : (steps : List (Peer → ℕ × ℕ → Element P S → Taken P S)) → AllByRecursion (λ (step : Peer → ℕ × ℕ → Element P S → Taken P S). (k : Element P S) → Holds k → Fine (step p rp k)) steps → Fine (each (λ (step : Peer → ℕ × ℕ → Element P S → Taken P S). step p rp) steps k)
      run steps good = each_fine (λ (step : Peer → ℕ × ℕ → Element P S → Taken P S). (k : Element P S) → Holds k → Fine (step p rp k)) (λ (step : Peer → ℕ × ℕ → Element P S → Taken P S). step p rp) (λ step k g h. g k h) steps k good h

      go : (b a : Bool) → Fine (each (λ (step : Peer → ℕ × ℕ → Element P S → Taken P S). step p rp) (cond b (cond a (taking.take_busy ∷ taking.take_cancel ∷ []) (taking.take_busy ∷ [])) (cond a (taking.take_cancel ∷ []) [])) k)
      go true true = run (taking.take_busy ∷ taking.take_cancel ∷ []) (busy_fine p rp, (cancel_fine p rp, tt))
      go true false = run (taking.take_busy ∷ []) (busy_fine p rp, tt)
      go false true = run (taking.take_cancel ∷ []) (cancel_fine p rp, tt)
      go false false = (tt, h)

  failure_fine : (p : Peer) (e : ℕ × ℕ) (rp : ℕ × ℕ) (k : Element P S) → Holds k → Fine (taking.take_failure e k (waiting p rp.1 k.pending.rows))
  failure_fine p e rp k h = go (waiting p rp.1 k.pending.rows) (found p rp.1 k.pending.rows h.0)
    where
      told : (row : Row P) (ms : List Message) → ((m : Message) (rest : List Message) → ms ≡ m ∷ rest → IsWritten m) → Fine (taking.told_error row k ms)
      told row [] q = (tt, h)
      told row (m ∷ ms) q = answered_fine row m k (q m ms refl) h

      go : (o : Option (Row P)) → IsFound o → Fine (taking.take_failure e k o)
      go None f = (tt, h)
      go (Some row) f = told row (error_answer e row.1.item.flags row.1.key.id) (failure_written e row.1.item.flags row.1.key.id f.0)

  errors_fine : (p : Peer) (ids errors : List (ℕ × ℕ)) (k : Element P S) → Holds k → Fine (taking.take_errors p ids errors k)
  errors_fine p ids [] k h = (tt, h)
  errors_fine p ids (e ∷ es) k h = each_any (λ (rp : ℕ × ℕ) k'. taking.take_failure e k' (waiting p rp.1 k'.pending.rows)) (failure_fine p e) ids k h

  -- what a key stands for
  abbrev SegMaybe : Option S → Type 0
  SegMaybe None = Unit {0}
  SegMaybe (Some t) = Seg t

  stands_fine : (life now number : ℕ) (xs : List (Issued S)) → KeysOk xs → SegMaybe (segment_among life now number xs)
  stands_fine life now number [] h = tt
  stands_fine life now number (x ∷ xs) h = go ((x.number == number) && is_live life now x) (stands_fine life now number xs h.1)
    where
      go : (b : Bool) → SegMaybe (segment_among life now number xs) → SegMaybe (cond b (Some x.segment) (segment_among life now number xs))
      go true more = h.0
      go false more = more

  pub keys_filter : (test : Issued S → Bool) (xs : List (Issued S)) → KeysOk xs → KeysOk (filter test xs)
  keys_filter test [] h = tt
  keys_filter test (x ∷ xs) h = go (test x) (keys_filter test xs h.1)
    where
      go : (b : Bool) → KeysOk (filter test xs) → KeysOk (cond b (x ∷ filter test xs) (filter test xs))
      go true k = (h.0, k)
      go false k = k

  -- a request that was checked
  module _ (c : Codec) (codec : IsCodec c) (e : ElementSettings) (pin : P) (p : Peer) (class : Class) (now : ℕ) where
    opened_fine : (flags x : ℕ) (i : Item P) (k : Element P S) → i.flags ≡ flags → WantedFits i.wanted → AreWords (flags, x) → Holds k → AreOk (opened_of k.pending p x i).rows
    opened_fine flags x i k same v w h = rows_append (Item P) flags_in wanted_in k.pending.rows _ h.0 (((subst (λ (z : ℕ). z < 2 ^ 32) (sym same) w.0, w.1), v), tt)

    denied_fine : (flags x : ℕ) (k : Element P S) → AreWords (flags, x) → Holds k → Fine (taking.denied p flags x k)
    denied_fine flags x k w h = ((unavailable_written flags x w, tt), h)

    on_fine : (flags x : ℕ) (v : Wanted) (sequence rest : List As) (r : Bool) (k : Element P S) (o : Option Way) → WayOk o → WantedFits v → Goes v v.target rest → AreWords (flags, x) → Holds k → Fine (taking.send_on (taking.sight pin p class) (taking.wanting flags x v) sequence rest r k o)
    on_fine flags x v sequence rest r k None way fit goes w h = denied_fine flags x k w h
    on_fine flags x v sequence rest r k (Some way) is fit goes w h =
        let y = fresh_id way.peer way.last_id k.pending.rows in
        let fits : IsId y = next_fits k.pending.rows (is_waiting way.peer k.pending.rows) way.last_id is in
        choose way.up _ _
        (choose r _ _ (denied_fine flags x k w h) ((goes y fits, tt), (opened_fine flags x _ k refl fit w h, ways_last way.peer y k.ways fits h.1, h.2)))
        (denied_fine flags x k w h)

    along_fine : (flags x : ℕ) (v : Wanted) (k : Element P S) (sequence : List As) → WantedFits v → ((a b : As) (rest : List As) → sequence ≡ a ∷ b ∷ rest → Goes v v.target (b ∷ rest)) → AreWords (flags, x) → Holds k → Fine (taking.take_along e (taking.sight pin p class) (taking.wanting flags x v) k sequence)
    along_fine flags x v k [] fit goes w h = denied_fine flags x k w h
    along_fine flags x v k (a ∷ []) fit goes w h = (tt, (opened_fine flags x _ k refl fit w h, h.1, h.2))
    along_fine flags x v k (a ∷ b ∷ rest) fit goes w h =
        on_fine flags x v (a ∷ b ∷ rest) (b ∷ rest) (is_denied e.deny class b) k (way_to (toward b e.routes) k.ways) (way_fits (toward b e.routes) k.ways h.1) fit (goes a b rest refl) w h

    expansion_written : (flags x key : ℕ) (pce : Addr) (k : Element P S) → AreWords (flags, x) → Holds k → IsWritten (reply_message flags x (taking.expansion show e class now key pce k))
    expansion_written flags x key pce k w h = go (same_addr pce e.id) (can_expand class) (segment_of k.keys now key) (stands_fine k.keys.life now key k.keys.issued h.2)
      where
        none : IsWritten (reply_message flags x no_key)
        none = no_path_written flags x 0 16 w (omega arith) (omega arith)

        go : (a b : Bool) (o : Option S) → SegMaybe o → IsWritten (reply_message flags x (cond a (cond b (taking.expansion_of show o) no_key) no_key))
        go false b o is = none
        go true false o is = none
        go true true None is = none
        go true true (Some t) is = seg_written t flags x w is

    wish_fine : (flags x : ℕ) (k : Element P S) (wish : Wish) → ((v : Wanted) → wish ≡ Path v → WantedFits v × Goes v v.target [] × ((a b : As) (rest : List As) → sequence_or e.own v.sequence ≡ a ∷ b ∷ rest → Goes v v.target (b ∷ rest))) →
        AreWords (flags, x) → Holds k → Fine (taking.take_wish show e (taking.sight pin p class) now flags x k wish)
    wish_fine flags x k (Expand key pce) goes w h = ((expansion_written flags x key pce k w h, tt), h)
    wish_fine flags x k (Path v) goes w h =
        let g = goes v refl in
        choose (is_full k.pending) _ _ ((busy_written flags x w, tt), h)
        (choose (goes_up e.parent class v.sequence) _ _
        (on_fine flags x v [] [] false k (way_to the_parent k.ways) (way_fits the_parent k.ways h.1) g.0 g.1 w h)
        (along_fine flags x v k (sequence_or e.own v.sequence) g.0 g.2 w h))

    asked_fine : (a : Asked) (k : Element P S) → IsKnown c e.own a → Holds k → Fine (taking.take_asked c show e pin p class now a k)
    asked_fine a k g h = go (c.check a e.own) refl g.numbers
      where
        few : (w : Wanted) → (w.sequence ≡ []) ⊎ ((rest : List As) × (w.sequence ≡ e.own ∷ rest) × IsSequence e.own rest) → length w.sequence ≤ 16
        few w (inl none) = subst (λ (l : List As). length l ≤ 16) (sym none) (omega arith)
        few w (inr some) = subst (λ (l : List As). length l ≤ 16) (sym some.1) some.2.few

        goes : (r : Request) → c.check a e.own ≡ Admitted r → (v : Wanted) → r.wish ≡ Path v → WantedFits v × Goes v v.target [] × ((a b : As) (rest : List As) → sequence_or e.own v.sequence ≡ a ∷ b ∷ rest → Goes v v.target (b ∷ rest))
        goes r is v wish =
            let admits : Admits c a e.own r.flags r.id v = subst (λ (z : Wish). c.check a e.own ≡ Admitted (record { flags = r.flags; id = r.id; wish = z })) wish is in
            let known = g.sends r.flags r.id v admits in
            let own = codec.onward.own a e.own r.flags r.id v admits in
            ((known.0.source, known.0.target, own.1), goes_up_written r.flags r.id v known.0 known.1, goes_along e.own r.flags r.id v known.0 known.1 (few v own.2))

        new : (r : Request) → c.check a e.own ≡ Admitted r → (o : Option ℕ) → AreWords (r.flags, r.id) → Fine (taking.take_new show e pin p class now r k o)
        new r is None w = wish_fine r.flags r.id k r.wish (goes r is) w h
        new r is (Some number) w = (tt, h)

        go : (o : Checked) → c.check a e.own ≡ o → HasNumbers o → Fine (taking.take_checked show e pin p class now k o)
        go (Wrong rp kind value) is numbers = ((error_written rp kind value numbers.0 numbers.1 numbers.2, tt), h)
        go (Admitted r) is numbers = new r is (number_of k.pending p r.id) numbers

    pub take_fine : (m : Message) (k : Element P S) → Known c e.own p m → Holds k → Fine (take c show e pin p class now m k)
    take_fine (messages.PcReq asks) k g h = each_fine (IsKnown c e.own) (taking.take_asked c show e pin p class now) asked_fine asks k g h
    take_fine (messages.PcRep replies) k g h = each_fine (ReplyKnown p) (taking.take_reply c p) (reply_fine c p) replies k g h
    take_fine (messages.PcNtf notices) k g h =
        each_any (taking.take_notice p) (λ r k' h'. each_any (λ (rp : ℕ × ℕ). each (λ (step : Peer → ℕ × ℕ → Element P S → Taken P S). step p rp) (taking.notice_steps r.kinds)) (λ rp k'' h''. steps_fine p rp r.kinds k'' h'') r.ids k' h') notices k h
    take_fine (messages.PcErr reports) k g h = each_any (taking.take_report p) (λ r k' h'. errors_fine p r.ids r.errors k' h') reports k h
    take_fine (messages.Open body) k g h = (tt, h)
    take_fine messages.Keepalive k g h = (tt, h)
    take_fine (messages.Close why) k g h = (tt, h)
    take_fine (messages.Other kind) k g h = (tt, h)

  lost_fine : (p : Peer) (xs : List (Row P)) → AreOk xs → Outs (map lost_output (map lost_of (filter (is_lost p) xs)))
  lost_fine p [] h = tt
  lost_fine p (x ∷ xs) h = go (is_lost p x) (lost_fine p xs h.1)
    where
      go : (b : Bool) → Outs (map lost_output (map lost_of (filter (is_lost p) xs))) → Outs (map lost_output (map lost_of (cond b (x ∷ filter (is_lost p) xs) (filter (is_lost p) xs))))
      go true more = (unavailable_written x.1.item.flags x.1.key.id h.0.0, more)
      go false more = more

  pub downed_fine : (p : Peer) (k : Element P S) → Holds k → Fine (downed p k)
  downed_fine p k h = (lost_fine p k.pending.rows h.0, (rows_filter (Item P) flags_in wanted_in (stays p) k.pending.rows h.0, ways_up p false k.ways h.1, h.2))

  pub upped_fine : (p : Peer) (k : Element P S) → Holds k → Holds (upped p k)
  upped_fine p k h = (h.0, ways_up p true k.ways h.1, h.2)

  pub ticked_fine : (now : ℕ) (k : Element P S) → Holds k → Holds (ticked now k)
  ticked_fine now k h = (h.0, h.1, keys_filter (is_live k.keys.life now) k.keys.issued h.2)

  -- what a solve leaves, where each segment that it chose fits
  keys_append : (xs ys : List (Issued S)) → KeysOk xs → KeysOk ys → KeysOk (xs ++ ys)
  keys_append [] ys h k = k
  keys_append (x ∷ xs) ys h k = (h.0, keys_append xs ys h.1 k)

  issued_fine : (now : ℕ) (stands : Best → S) (bs : List Best) (keys : Keys S) → AllByRecursion (λ (b : Best). Seg (stands b)) bs → KeysOk keys.issued → KeysOk (issued_all now stands bs keys).issued
  issued_fine now stands [] keys all h = h
  issued_fine now stands (b ∷ bs) keys all h =
      issued_fine now stands bs (issue_of keys now (stands b)) all.1 (keys_append (live_at keys now) _ (keys_filter (is_live keys.life now) keys.issued h) (all.0, tt))

  pub commit_keeps : (c : Codec) (e : ElementSettings) (h : Row P) (down : List Branch) (now : ℕ) (stands : Best → S) (s t : Bool) (best : List Best) (k : Element P S) → AllByRecursion (λ (b : Best). Seg (stands b)) best → Holds k →
      Holds (commit c e h down now stands (job_found s t best) k).element
  commit_keeps c e h down now stands s t best k all r = pick (is_client h.1.item.class) _ _ (gone k r) (closed best all)
    where
      pick : (b : Bool) (t u : Taken P S) → Holds t.element → Holds u.element → Holds (cond b t u).element
      pick true t u x y = x
      pick false t u x y = y

      gone : (k : Element P S) → Holds k → Holds (element.ended h.0 k)
      gone k r = (rows_removed (Item P) flags_in wanted_in h.0 k.pending.rows r.0, r.1, r.2)

      closed : (best : List Best) → AllByRecursion (λ (b : Best). Seg (stands b)) best → Holds (closed_reply c e h down now stands k best).element
      closed [] all = gone k r
      closed (b ∷ bs) all =
          pick (nat_lt (free now k.keys) (length (b ∷ bs))) _ _ (gone k r)
          (gone (record k { keys = issued_all now stands (b ∷ bs) k.keys }) (r.0, r.1, issued_fine now stands (b ∷ bs) k.keys all r.2))
