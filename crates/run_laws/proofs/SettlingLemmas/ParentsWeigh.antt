-- What the parent sends for a message weighs, with its requests, no more than the message.
use Rattle.std.proofs.Common.{◌≡◌, ◌∙◌, ◌≤◌, ◌<◌, ◌+◌, ◌*◌, ℕ, suc, Bool, true, false, cond, ◌==◌, nat_eq, List, [], ◌∷◌, ◌++◌, Option, Some, None, length, refl, ap, subst, arith, length-append}
use Rattle.std.specs.Map.{remove_entry}
use Rattle.std.proofs.lemmas.Bool.{ne_eqb}
use Rattle.std.proofs.lemmas.List.Elements.{All-nil, All-cons}
use Rattle.plant_laws.specs.plant_model.Types.{As, Addr, ParentLink, Peer, Inner, Message, Asked, ErrorReport, Notice, Reply, Answer, Request, Wanted, Wish, Branch, NetworkParts}
use Rattle.pcep_codes.specs.declared.errors.TheConstants as errors
use Rattle.pcep_codes.specs.declared.notices.TheConstants as notices
use Rattle.pcep_codes.specs.declared.no_paths.TheConstants as no_paths
use Rattle.pcep_messages.specs.declared.message.Message.TheVariants as messages
use Rattle.pcep_messages.specs.declared.message.Answer.TheVariants.{Paths, NoPath}
use Rattle.pcep_messages.specs.declared.message.Wish.TheVariants.{Path, Expand}
use Rattle.request_table.specs.Pending.{number_of, is_full}
use Rattle.plant_text.specs.Names.{parent_as}
use Rattle.plant_text.specs.Settings.{children}
use Rattle.plant_laws.specs.plant_model.Names.{has_pair}
use Rattle.plant_laws.specs.plant_model.Rising.{has_addr}
use Rattle.plant_laws.specs.plant_model.Settings.{family}
use Rattle.plant_laws.specs.plant_model.Wire.{Codec, Checked, Admitted, Wrong}
use Rattle.plant_laws.specs.plant_model.Laws.{IsCodec, IsNetwork, IsSequence, Admits}
use Rattle.plant_laws.specs.plant_model.Writing.{asked_of, request_message, reply_message, error_message, unavailable, busy, no_key, none_between}
use Rattle.plant_laws.specs.plant_model.Branches.{branches_in, path_of}
use Rattle.plant_laws.specs.plant_model.Element.{Way, way_to, with_last}
use Rattle.plant_laws.specs.plant_model.Taking.{error_answer}
use Rattle.plant_laws.specs.plant_model.BorderGraph.{Found}
use Rattle.plant_laws.specs.plant_model.Parent.{Parent, ParentTaken, AskingRow, Wait, Errand, silent, only, each, among, waiting, all_waits, next_id, ask_all, errands, errands_to, with_end, tails, last_to, all_up, take_path, take_wish, take_new, take_checked, take_asked, answered, gathered, gathers, take_answer, take_found, take_reply, told_busy, cancelled, take_busy, take_cancel, notice_steps, take_notice, told_error, take_failure, take_errors, take_report, take, commit}
use Rattle.plant_laws.proofs.Least.FromElement.{admits_path}
use Rattle.plant_laws.proofs.WrittenForm.ElementSays.{WaysOk, ways_last, WayOk, way_fits, next_fits, next_some}
use Rattle.run_laws.specs.Settling.{total, cost, errands_most, above_weight, asked_weight, checked_weight}
use Rattle.run_laws.proofs.SettlingLemmas.Adjacencies.{Rises, children_rise}
use Rattle.run_laws.proofs.SettlingLemmas.Sums.{total_all, opened_length, removed_less, written_length, first_closes, later_closes}
use Rattle.run_laws.proofs.SettlingLemmas.Weighing.{asked_count, peer_weight, sent_weight, IsAtMost, reply_light, busy_light, error_light, light_more, Weighs, rests_weigh, then_weigh, more_weigh, only_weigh, ended_weigh, same_weigh, fewer_weigh, IsLighter, ended_lighter}

-- how many ends of interest a child has, and so how many requests are sent
end_length : (t : Addr) (ns : List Addr) → length (with_end t ns) ≤ length ns + 1
end_length t ns = go (has_addr t ns)
  where
    go : (b : Bool) → length (cond b ns (ns ++ t ∷ [])) ≤ length ns + 1
    go true = omega arith
    go false = let l = length-append ns (t ∷ []) in omega (arith, l)

to_length : (child : As) (ns : List Addr) → length (errands_to child ns) ≡ length ns
to_length child [] = refl
to_length child (x ∷ xs) = ap suc (to_length child xs)

errands_length : (links : List ParentLink) (t : Addr) (kids : List As) → length (errands links t kids) ≤ errands_most links kids
errands_length links t [] = omega arith
errands_length links t (child ∷ rest) =
    let more = errands_length links t rest in
    let both = length-append (errands_to child (with_end t (tails child links))) (errands links t rest) in
    let to = to_length child (with_end t (tails child links)) in
    let end = end_length t (tails child links) in
    omega (arith, more, both, to, end)

module _ (c : Codec) (n : NetworkParts) where
  -- the ids of the ways fit, and all weighs at most so much more
  pub record Less (w : ℕ) (k : Parent) (t : ParentTaken) : Type 0 where
    pub ways : WaysOk t.parent.ways
    pub weighs : Weighs c n (length k.pending.rows) (length t.parent.pending.rows) w t.outputs

  pick : (w : ℕ) (k : Parent) (b : Bool) (t u : ParentTaken) → Less w k t → Less w k u → Less w k (cond b t u)
  pick w k true t u h i = h
  pick w k false t u h i = i

  more : (v w : ℕ) (k : Parent) (t : ParentTaken) → v ≤ w → Less v k t → Less w k t
  more v w k t le h = record { ways = h.ways; weighs = more_weigh c n (length k.pending.rows) (length t.parent.pending.rows) v w t.outputs le h.weighs }

  quiet : (w : ℕ) (k : Parent) → WaysOk k.ways → Less w k (silent k)
  quiet w k ok = record { ways = ok; weighs = rests_weigh c n (length k.pending.rows) w }

  one : (w v : ℕ) (to : Peer) (m : Message) (k : Parent) → IsAtMost c n v m → 1 + v ≤ w → WaysOk k.ways → Less w k (only to m k)
  one w v to m k light le ok = record { ways = ok; weighs = only_weigh c n (length k.pending.rows) w v to m light le }

  -- each of a list in turn
  each_less : {X : Type 0} (g : X → ℕ) (f : X → Parent → ParentTaken) → ((x : X) (k : Parent) → WaysOk k.ways → Less (g x) k (f x k)) → (xs : List X) (k : Parent) → WaysOk k.ways → Less (total g xs) k (each f xs k)
  each_less g f each_one [] k ok = quiet 0 k ok
  each_less g f each_one (x ∷ xs) k ok =
      let first = each_one x k ok in
      let t = each f xs (f x k).parent in
      let rest = each_less g f each_one xs (f x k).parent first.ways in
      record {
        ways = rest.ways;
        weighs = then_weigh c n (length k.pending.rows) (length (f x k).parent.pending.rows) (length t.parent.pending.rows) (g x) (total g xs) (f x k).outputs t.outputs first.weighs rest.weighs;
      }

  -- each for nothing
  each_free : {X : Type 0} (f : X → Parent → ParentTaken) → ((x : X) (k : Parent) → WaysOk k.ways → Less 0 k (f x k)) → (xs : List X) (k : Parent) → WaysOk k.ways → Less 0 k (each f xs k)
  each_free {X} f each_one xs k ok = more (total (λ (x : X). 0) xs) 0 k (each f xs k) (let none = total_all {X = X} 0 xs in omega (arith, none)) (each_less (λ (x : X). 0) f each_one xs k ok)

  answered_less : (h : AskingRow) (m : Message) (k : Parent) → IsAtMost c n 2 m → suc (length (remove_entry (nat_eq h.0) k.pending.rows)) ≤ length k.pending.rows → WaysOk k.ways → Less 0 k (answered h m k)
  answered_less h m k light closes ok = record { ways = ok; weighs = ended_weigh c n (length k.pending.rows) (length (remove_entry (nat_eq h.0) k.pending.rows)) h.1.key.peer m light (omega (arith, closes)) }

  gathers_less : (p : Peer) (y : ℕ) (bs : List Branch) (h : AskingRow) (k : Parent) → WaysOk k.ways → Less 0 k (gathers p y bs h k)
  gathers_less p y bs h k ok = record {
    ways = ok;
    weighs = same_weigh c n (length k.pending.rows) (length (gathers p y bs h k).parent.pending.rows) 0 (written_length h.0 (gathered p y bs h.1.item) k.pending.rows);
  }

  -- the request that waits ends
  abbrev IsFound : List AskingRow → Option AskingRow → Type 0
  IsFound rows None = Unit {0}
  IsFound rows (Some h) = suc (length (remove_entry (nat_eq h.0) rows)) ≤ length rows

  found : (p : Peer) (y : ℕ) (rows : List AskingRow) → IsFound rows (waiting p y rows)
  found p y [] = tt
  found p y (x ∷ xs) = go (among p x.1.item.waits y) (waiting p y xs) (found p y xs)
    where
      on : (o : Option AskingRow) → IsFound xs o → IsFound (x ∷ xs) o
      on None later = tt
      on (Some h) later = later_closes h.0 x xs later

      go : (b : Bool) (o : Option AskingRow) → IsFound xs o → IsFound (x ∷ xs) (cond b (Some x) o)
      go true o later = first_closes x xs
      go false o later = on o later

  -- ---- replies, notices and errors

  answer_less : (p : Peer) (y : ℕ) (h : AskingRow) (k : Parent) (a : Answer) → suc (length (remove_entry (nat_eq h.0) k.pending.rows)) ≤ length k.pending.rows → WaysOk k.ways → Less 0 k (take_answer c p y h k a)
  answer_less p y h k (Paths ps) closes ok = gathers_less p y (branches_in c h.1.item.wanted.query.metric ps) h k ok
  answer_less p y h k (NoPath nature vector) closes ok =
      pick 0 k (nature == no_paths.NONE_FOUND) _ _ (gathers_less p y [] h k ok)
      (answered_less h (reply_message h.1.item.flags h.1.key.id unavailable) k (reply_light c n h.1.item.flags h.1.key.id unavailable) closes ok)

  reply_less : (p : Peer) (r : Reply) (k : Parent) → WaysOk k.ways → Less 2 k (take_reply c p r k)
  reply_less p r k ok = go (waiting p r.id k.pending.rows) (found p r.id k.pending.rows)
    where
      go : (o : Option AskingRow) → IsFound k.pending.rows o → Less 2 k (take_found c p r k o)
      go None is =
          one 2 1 p (error_message (Some (r.flags, r.id)) errors.UNKNOWN_REQUEST.0 errors.UNKNOWN_REQUEST.1) k (error_light c n (Some (r.flags, r.id)) errors.UNKNOWN_REQUEST.0 errors.UNKNOWN_REQUEST.1) (omega arith) ok
      go (Some row) is = more 0 2 k (take_answer c p r.id row k r.answer) (omega arith) (answer_less p r.id row k r.answer is ok)

  busy_less : (p : Peer) (rp : ℕ × ℕ) (k : Parent) → WaysOk k.ways → Less 0 k (take_busy p rp k)
  busy_less p rp k ok = go (waiting p rp.1 k.pending.rows) (found p rp.1 k.pending.rows)
    where
      go : (o : Option AskingRow) → IsFound k.pending.rows o → Less 0 k (told_busy k o)
      go None is = quiet 0 k ok
      go (Some row) is = answered_less row (busy row.1.item.flags row.1.key.id) k (light_more c n 1 2 (busy row.1.item.flags row.1.key.id) (omega arith) (busy_light c n row.1.item.flags row.1.key.id)) is ok

  cancel_less : (p : Peer) (rp : ℕ × ℕ) (k : Parent) → WaysOk k.ways → Less 0 k (take_cancel p rp k)
  cancel_less p rp k ok = go (number_of k.pending p rp.1)
    where
      go : (o : Option ℕ) → Less 0 k (cancelled k o)
      go None = quiet 0 k ok
      go (Some number) = record { ways = ok; weighs = fewer_weigh c n (length k.pending.rows) (length (remove_entry (nat_eq number) k.pending.rows)) 0 (removed_less number k.pending.rows) }

  -- several steps in turn
  abbrev Step : Type 0
  Step = Peer → ℕ × ℕ → Parent → ParentTaken

  abbrev AllFree : Peer → ℕ × ℕ → List Step → Type 0
  AllFree p rp [] = Unit {0}
  AllFree p rp (f ∷ fs) = ((k : Parent) → WaysOk k.ways → Less 0 k (f p rp k)) × AllFree p rp fs

  in_turn : (p : Peer) (rp : ℕ × ℕ) (fs : List Step) → AllFree p rp fs → (k : Parent) → WaysOk k.ways → Less 0 k (each (λ (step : Step). step p rp) fs k)
  in_turn p rp [] all k ok = quiet 0 k ok
  in_turn p rp (f ∷ fs) all k ok =
      let first = all.0 k ok in
      let t = each (λ (step : Step). step p rp) fs (f p rp k).parent in
      let rest = in_turn p rp fs all.1 (f p rp k).parent first.ways in
      record {
        ways = rest.ways;
        weighs = then_weigh c n (length k.pending.rows) (length (f p rp k).parent.pending.rows) (length t.parent.pending.rows) 0 0 (f p rp k).outputs t.outputs first.weighs rest.weighs;
      }

  all_free : (p : Peer) (rp : ℕ × ℕ) (kinds : List (ℕ × ℕ)) → AllFree p rp (notice_steps kinds)
  all_free p rp kinds = go (has_pair notices.BUSY.0 notices.BUSY.1 kinds) (has_pair notices.CANCELLED.0 notices.CANCELLED.1 kinds)
    where
      go : (b a : Bool) → AllFree p rp (cond b (cond a (take_busy ∷ take_cancel ∷ []) (take_busy ∷ [])) (cond a (take_cancel ∷ []) []))
      go true true = (busy_less p rp, (cancel_less p rp, tt))
      go true false = (busy_less p rp, tt)
      go false true = (cancel_less p rp, tt)
      go false false = tt

  failure_less : (p : Peer) (e : ℕ × ℕ) (rp : ℕ × ℕ) (k : Parent) → WaysOk k.ways → Less 0 k (take_failure e k (waiting p rp.1 k.pending.rows))
  failure_less p e rp k ok = go (waiting p rp.1 k.pending.rows) (found p rp.1 k.pending.rows)
    where
      told : (row : AskingRow) → IsFound k.pending.rows (Some row) → Less 0 k (told_error row k (error_answer e row.1.item.flags row.1.key.id))
      told row is = by (has_pair errors.UNKNOWN_REQUEST.0 errors.UNKNOWN_REQUEST.1 (e ∷ [])) (has_pair e.0 e.1 (errors.PARAMETER_NOT_SERVED ∷ errors.CHAIN_FAILED ∷ []))
        where
          failed : Message
          failed = error_message (Some (row.1.item.flags, row.1.key.id)) errors.CHAIN_FAILED.0 errors.CHAIN_FAILED.1

          by : (b a : Bool) → Less 0 k (told_error row k (cond b [] (cond a
              (error_message (Some (row.1.item.flags, row.1.key.id)) errors.CHAIN_FAILED.0 errors.CHAIN_FAILED.1 ∷ [])
              (reply_message row.1.item.flags row.1.key.id unavailable ∷ []))))
          by true a = quiet 0 k ok
          by false true = answered_less row failed k (light_more c n 1 2 failed (omega arith) (error_light c n (Some (row.1.item.flags, row.1.key.id)) errors.CHAIN_FAILED.0 errors.CHAIN_FAILED.1)) is ok
          by false false = answered_less row (reply_message row.1.item.flags row.1.key.id unavailable) k (reply_light c n row.1.item.flags row.1.key.id unavailable) is ok

      go : (o : Option AskingRow) → IsFound k.pending.rows o → Less 0 k (take_failure e k o)
      go None is = quiet 0 k ok
      go (Some row) is = told row is

  errors_less : (p : Peer) (ids reported : List (ℕ × ℕ)) (k : Parent) → WaysOk k.ways → Less 0 k (take_errors p ids reported k)
  errors_less p ids [] k ok = quiet 0 k ok
  errors_less p ids (e ∷ es) k ok = each_free (λ (rp : ℕ × ℕ) (k' : Parent). take_failure e k' (waiting p rp.1 k'.pending.rows)) (failure_less p e) ids k ok

  -- ---- requests

  -- the children are elements
  abbrev AreReal : List Errand → Type 0
  AreReal [] = Unit {0}
  AreReal (r ∷ rs) = (1 ≤ r.child.0) × AreReal rs

  real_append : (xs ys : List Errand) → AreReal xs → AreReal ys → AreReal (xs ++ ys)
  real_append [] ys h k = k
  real_append (x ∷ xs) ys h k = (h.0, real_append xs ys h.1 k)

  real_to : (child : As) (ns : List Addr) → 1 ≤ child.0 → AreReal (errands_to child ns)
  real_to child [] real = tt
  real_to child (x ∷ xs) real = (real, real_to child xs real)

  errands_real : (links : List ParentLink) (t : Addr) (low : ℕ) (kids : List As) → 1 ≤ low → Rises low kids → AreReal (errands links t kids)
  errands_real links t low [] some rises = tt
  errands_real links t low (child ∷ rest) some rises =
      real_append (errands_to child (with_end t (tails child links))) (errands links t rest) (real_to child (with_end t (tails child links)) (omega (arith, some, rises.0)))
      (errands_real links t (suc child.0) rest (omega arith) rises.1)

  alone : (child : As) → 1 ≤ child.0 → IsSequence child []
  alone child real = record {
    few = omega arith;
    differ = λ i j d less below. absurd (omega (arith, less, below));
    real = All-cons (λ (z : As). 1 ≤ z.0) child [] real (All-nil (λ (z : As). 1 ≤ z.0));
  }

  last_fits : (o : Option Way) → WayOk o → last_to o < 4294967296
  last_fits None h = omega arith
  last_fits (Some w) h = h

  module _ (codec : IsCodec c) (net : IsNetwork n) (a : Asked) (flags x : ℕ) (w : Wanted) (admits : Admits c a parent_as flags x w) where
    -- a request to a child is for its own domain alone
    child_weighs : (child : As) (t : Addr) (y : ℕ) → 1 ≤ child.0 → 1 ≤ y → y < 4294967296 → peer_weight c n (Inner child) (request_message y w t (child ∷ [])) ≡ 11
    child_weighs child t y real some fits =
        let ask = asked_of y w t (child ∷ []) in
        let check = codec.onward.admits a parent_as flags x w admits y t child [] some fits (alone child real) in
        let weight : asked_weight c n child ask ≡ 10 =
        ap (λ (u : Bool). cond u (above_weight c n) (checked_weight c n child (c.check ask child))) (ne_eqb child.0 0 (λ e. omega (arith, real, e))) ∙ ap (λ (o : Checked). checked_weight c n child o) check in
        omega (arith, weight)

    asks_weigh : (taken : List Wait) (rs : List Errand) (ways : List Way) → AreReal rs → WaysOk ways →
        (sent_weight c n (ask_all w taken rs ways).outputs + asked_count (ask_all w taken rs ways).outputs ≤ 12 * length rs) × WaysOk (ask_all w taken rs ways).ways
    asks_weigh taken [] ways real ok = (omega arith, ok)
    asks_weigh taken (r ∷ rs) ways real ok =
        let p : Peer = Inner r.child in
        let y = next_id p taken ways in
        let next : Wait = record { peer = p; id = y; child = r.child; target = r.target } in
        let y_fits = next_fits taken (among p taken) (last_to (way_to p ways)) (last_fits (way_to p ways) (way_fits p ways ok)) in
        let y_some = next_some taken (among p taken) (last_to (way_to p ways)) in
        let first = child_weighs r.child r.target y real.0 y_some y_fits in
        let rest = asks_weigh (next ∷ taken) rs (with_last p y ways) real.1 (ways_last p y ways y_fits ok) in
        let more = rest.0 in
        (omega (arith, first, more), rest.1)

    path_less : (p : Peer) (k : Parent) → WaysOk k.ways → Less (above_weight c n) k (take_path (family n) p flags x w k)
    path_less p k ok =
        let rs = errands n.parent_links w.target (children n) in
        let all = asks_weigh (all_waits k.pending.rows) rs k.ways (errands_real n.parent_links w.target 1 (children n) (omega arith) (children_rise n.elements net.elements)) ok in
        let sent = all.0 in
        let many = errands_length n.parent_links w.target (children n) in
        let l = opened_length k.pending p x (record { flags = flags; wanted = w; waits = (ask_all w (all_waits k.pending.rows) rs k.ways).waits; rows = [] }) in
        record { ways = all.1; weighs = record { least = omega (arith, sent, many, l) } }

  module _ (codec : IsCodec c) (net : IsNetwork n) (p : Peer) where
    asked_less : (a : Asked) (k : Parent) → WaysOk k.ways → Less (above_weight c n) k (take_asked c (family n) p a k)
    asked_less a k ok = go (c.check a parent_as) refl
      where
        wish : (r : Request) → c.check a parent_as ≡ Admitted r → (v : Wish) → r.wish ≡ v → Less (above_weight c n) k (take_wish (family n) p r.flags r.id k v)
        wish r is (Expand key pce) asks = one (above_weight c n) 2 p (reply_message r.flags r.id no_key) k (reply_light c n r.flags r.id no_key) (omega arith) ok
        wish r is (Path w) asks =
            pick (above_weight c n) k (is_full k.pending) _ _ (one (above_weight c n) 1 p (busy r.flags r.id) k (busy_light c n r.flags r.id) (omega arith) ok)
            (pick (above_weight c n) k (all_up (children n) k.ways) _ _ (path_less codec net a r.flags r.id w (admits_path c a parent_as r w is asks) p k ok)
            (one (above_weight c n) 2 p (reply_message r.flags r.id unavailable) k (reply_light c n r.flags r.id unavailable) (omega arith) ok))

        fresh : (r : Request) → c.check a parent_as ≡ Admitted r → (o : Option ℕ) → Less (above_weight c n) k (take_new (family n) p r k o)
        fresh r is None = wish r is r.wish refl
        fresh r is (Some number) = quiet (above_weight c n) k ok

        go : (o : Checked) → c.check a parent_as ≡ o → Less (above_weight c n) k (take_checked (family n) p k o)
        go (Wrong rp kind value) is = one (above_weight c n) 1 p (error_message rp kind value) k (error_light c n rp kind value) (omega arith) ok
        go (Admitted r) is = fresh r is (number_of k.pending p r.id)

    -- ---- what the parent does

    pub take_less : (m : Message) (k : Parent) → WaysOk k.ways → Less (cost c n parent_as m) k (take c (family n) p m k)
    take_less (messages.PcReq asks) k ok = each_less (asked_weight c n parent_as) (take_asked c (family n) p) asked_less asks k ok
    take_less (messages.PcRep replies) k ok =
        subst (λ (w : ℕ). Less w k (each (take_reply c p) replies k)) (total_all {X = Reply} 2 replies) (each_less (λ (r : Reply). 2) (take_reply c p) (reply_less p) replies k ok)
    take_less (messages.PcNtf notices') k ok =
        more 0 1 k (each (take_notice p) notices' k) (omega arith)
        (each_free (take_notice p) (λ (r : Notice) k' ok'. each_free (λ (rp : ℕ × ℕ). each (λ (step : Step). step p rp) (notice_steps r.kinds)) (λ rp k'' ok''. in_turn p rp (notice_steps r.kinds) (all_free p rp r.kinds) k'' ok'') r.ids k' ok') notices' k ok)
    take_less (messages.PcErr reports) k ok = more 0 1 k (each (take_report p) reports k) (omega arith) (each_free (take_report p) (λ (r : ErrorReport) k' ok'. errors_less p r.ids r.errors k' ok') reports k ok)
    take_less (messages.Open body) k ok = quiet 2 k ok
    take_less messages.Keepalive k ok = quiet 0 k ok
    take_less (messages.Close why) k ok = quiet 0 k ok
    take_less (messages.Other kind) k ok = quiet 0 k ok

  -- ---- an answered job

  pub commit_lighter : (h : AskingRow) (a : Option Found) (k : Parent) → suc (length (remove_entry (nat_eq h.0) k.pending.rows)) ≤ length k.pending.rows →
      (let t = commit c h a k in IsLighter c n (length k.pending.rows) (length t.parent.pending.rows) t.outputs)
  commit_lighter h None k closes =
      ended_lighter c n (length k.pending.rows) (length (remove_entry (nat_eq h.0) k.pending.rows)) h.1.key.peer (reply_message h.1.item.flags h.1.key.id none_between)
      (reply_light c n h.1.item.flags h.1.key.id none_between) (omega (arith, closes))
  commit_lighter h (Some a) k closes =
      let paths = Paths (path_of c h.1.item.wanted.query.metric a.cost a.hops ∷ []) in
      ended_lighter c n (length k.pending.rows) (length (remove_entry (nat_eq h.0) k.pending.rows)) h.1.key.peer (reply_message h.1.item.flags h.1.key.id paths) (reply_light c n h.1.item.flags h.1.key.id paths) (omega (arith, closes))
