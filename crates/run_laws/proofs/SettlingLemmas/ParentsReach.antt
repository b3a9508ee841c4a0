-- The parent sends to those that can be reached alone, ordinary messages, and has requests of those alone.
use Rattle.std.proofs.Common.{◌≡◌, ◌∙◌, ℕ, Bool, true, false, not, cond, ◌==◌, List, [], ◌∷◌, ◌++◌, Option, Some, None, refl, sym}
use Rattle.std.specs.Prelude.{map, filter}
use Rattle.plant_laws.specs.plant_model.Types.{As, Addr, ParentLink, Peer, Inner, Message, Asked, Reply, Answer, Request, Wanted, Wish, Branch}
use Rattle.pcep_codes.specs.declared.errors.TheConstants as errors
use Rattle.pcep_codes.specs.declared.notices.TheConstants as notices
use Rattle.pcep_codes.specs.declared.no_paths.TheConstants as no_paths
use Rattle.pcep_messages.specs.declared.message.Message.TheVariants as messages
use Rattle.pcep_messages.specs.declared.message.Answer.TheVariants.{Paths, NoPath}
use Rattle.pcep_messages.specs.declared.message.Wish.TheVariants.{Path, Expand}
use Rattle.request_table.specs.Pending.{number_of, same_peer, is_full}
use Rattle.plant_text.specs.Names.{parent_as}
use Rattle.plant_laws.specs.plant_model.Names.{has_pair}
use Rattle.plant_laws.specs.plant_model.Wire.{Codec, Checked, Admitted, Wrong}
use Rattle.plant_laws.specs.plant_model.Writing.{reply_message, error_message, unavailable, busy, no_key, none_between}
use Rattle.plant_laws.specs.plant_model.Branches.{branches_in, path_of}
use Rattle.plant_laws.specs.plant_model.Element.{Way, way_to, with_last, lost_output}
use Rattle.plant_laws.specs.plant_model.Taking.{error_answer}
use Rattle.plant_laws.specs.plant_model.BorderGraph.{Found}
use Rattle.plant_laws.specs.plant_model.Parent.{Parent, ParentTaken, Family, AskingRow, Wait, Errand, silent, only, each, among, waiting, all_waits, next_id, ask_all, errands, errands_to, with_end, tails, is_up, all_up, take_path, take_wish, take_new, take_checked, take_asked, ended, answered, gathered, gathers, take_answer, take_found, take_reply, told_busy, cancelled, take_busy, take_cancel, notice_steps, take_notice, told_error, take_failure, take_errors, take_report, take, upped, any_on, stays, is_lost, lost_of, lost, downed, commit}
use Rattle.run_laws.specs.Settling.{Reaches, AllReach, KeepsTo, is_ordinary}
use Rattle.run_laws.proofs.SettlingLemmas.Reaching.{AreSound, sound_append, all_append, all_removed, all_written, last_up, upped_keeps, downed_keeps}

module _ (Up : As → Type 0) where
  abbrev pub Keeps : Parent → Type 0
  Keeps k = KeepsTo Up k.pending.rows k.ways

  -- the parent that keeps to those that can be reached, and what it sends
  pub record Tells (t : ParentTaken) : Type 0 where
    pub keeps : Keeps t.parent
    pub sends : AreSound Up t.outputs

  pick : (b : Bool) (t u : ParentTaken) → Tells t → Tells u → Tells (cond b t u)
  pick true t u h i = h
  pick false t u h i = i

  quiet : (k : Parent) → Keeps k → Tells (silent k)
  quiet k keeps = record { keeps = keeps; sends = tt }

  one : (to : Peer) (m : Message) (k : Parent) → Reaches Up to → is_ordinary m ≡ true → Keeps k → Tells (only to m k)
  one to m k reached ordinary keeps = record { keeps = keeps; sends = ((reached, ordinary), tt) }

  -- each of a list in turn
  each_tells : {X : Type 0} (f : X → Parent → ParentTaken) → ((x : X) (k : Parent) → Keeps k → Tells (f x k)) → (xs : List X) (k : Parent) → Keeps k → Tells (each f xs k)
  each_tells f each_one [] k keeps = quiet k keeps
  each_tells f each_one (x ∷ xs) k keeps =
      let first = each_one x k keeps in
      let rest = each_tells f each_one xs (f x k).parent first.keeps in
      record { keeps = rest.keeps; sends = sound_append Up (f x k).outputs (each f xs (f x k).parent).outputs first.sends rest.sends }

  ended_keeps : (number : ℕ) (k : Parent) → Keeps k → Keeps (ended number k)
  ended_keeps number k keeps = record { asked = all_removed Up number k.pending.rows keeps.asked; asks = keeps.asks }

  answered_tells : (h : AskingRow) (m : Message) (k : Parent) → Reaches Up h.1.key.peer → is_ordinary m ≡ true → Keeps k → Tells (answered h m k)
  answered_tells h m k reached ordinary keeps = one h.1.key.peer m (ended h.0 k) reached ordinary (ended_keeps h.0 k keeps)

  gathers_tells : (p : Peer) (y : ℕ) (bs : List Branch) (h : AskingRow) (k : Parent) → Keeps k → Tells (gathers p y bs h k)
  gathers_tells p y bs h k keeps = record { keeps = record { asked = all_written Up h.0 (gathered p y bs h.1.item) k.pending.rows keeps.asked; asks = keeps.asks }; sends = tt }

  -- the peer of a request that waits
  abbrev IsFound : Option AskingRow → Type 0
  IsFound None = Unit {0}
  IsFound (Some h) = Reaches Up h.1.key.peer

  found : (p : Peer) (y : ℕ) (rows : List AskingRow) → AllReach Up rows → IsFound (waiting p y rows)
  found p y [] all = tt
  found p y (x ∷ xs) all = go (among p x.1.item.waits y) (found p y xs all.1)
    where
      go : (b : Bool) → IsFound (waiting p y xs) → IsFound (cond b (Some x) (waiting p y xs))
      go true rest = all.0
      go false rest = rest

  -- ---- replies, notices and errors

  answer_tells : (c : Codec) (p : Peer) (y : ℕ) (h : AskingRow) (k : Parent) (a : Answer) → Reaches Up h.1.key.peer → Keeps k → Tells (take_answer c p y h k a)
  answer_tells c p y h k (Paths ps) reached keeps = gathers_tells p y (branches_in c h.1.item.wanted.query.metric ps) h k keeps
  answer_tells c p y h k (NoPath nature vector) reached keeps =
      pick (nature == no_paths.NONE_FOUND) _ _ (gathers_tells p y [] h k keeps) (answered_tells h (reply_message h.1.item.flags h.1.key.id unavailable) k reached refl keeps)

  reply_tells : (c : Codec) (p : Peer) (r : Reply) (k : Parent) → Reaches Up p → Keeps k → Tells (take_reply c p r k)
  reply_tells c p r k reached keeps = go (waiting p r.id k.pending.rows) (found p r.id k.pending.rows keeps.asked)
    where
      go : (o : Option AskingRow) → IsFound o → Tells (take_found c p r k o)
      go None is = one p (error_message (Some (r.flags, r.id)) errors.UNKNOWN_REQUEST.0 errors.UNKNOWN_REQUEST.1) k reached refl keeps
      go (Some row) is = answer_tells c p r.id row k r.answer is keeps

  busy_tells : (p : Peer) (rp : ℕ × ℕ) (k : Parent) → Keeps k → Tells (take_busy p rp k)
  busy_tells p rp k keeps = go (waiting p rp.1 k.pending.rows) (found p rp.1 k.pending.rows keeps.asked)
    where
      go : (o : Option AskingRow) → IsFound o → Tells (told_busy k o)
      go None is = quiet k keeps
      go (Some row) is = answered_tells row (busy row.1.item.flags row.1.key.id) k is refl keeps

  cancel_tells : (p : Peer) (rp : ℕ × ℕ) (k : Parent) → Keeps k → Tells (take_cancel p rp k)
  cancel_tells p rp k keeps = go (number_of k.pending p rp.1)
    where
      go : (o : Option ℕ) → Tells (cancelled k o)
      go None = quiet k keeps
      go (Some number) = quiet (ended number k) (ended_keeps number k keeps)

  -- several steps in turn
  abbrev Step : Type 0
  Step = Peer → ℕ × ℕ → Parent → ParentTaken

  abbrev AllTell : Peer → ℕ × ℕ → List Step → Type 0
  AllTell p rp [] = Unit {0}
  AllTell p rp (f ∷ fs) = ((k : Parent) → Keeps k → Tells (f p rp k)) × AllTell p rp fs

  in_turn : (p : Peer) (rp : ℕ × ℕ) (fs : List Step) → AllTell p rp fs → (k : Parent) → Keeps k → Tells (each (λ (step : Step). step p rp) fs k)
  in_turn p rp [] all k keeps = quiet k keeps
  in_turn p rp (f ∷ fs) all k keeps =
      let first = all.0 k keeps in
      let rest = in_turn p rp fs all.1 (f p rp k).parent first.keeps in
      record { keeps = rest.keeps; sends = sound_append Up (f p rp k).outputs (each (λ (step : Step). step p rp) fs (f p rp k).parent).outputs first.sends rest.sends }

  all_tell : (p : Peer) (rp : ℕ × ℕ) (kinds : List (ℕ × ℕ)) → AllTell p rp (notice_steps kinds)
  all_tell p rp kinds = go (has_pair notices.BUSY.0 notices.BUSY.1 kinds) (has_pair notices.CANCELLED.0 notices.CANCELLED.1 kinds)
    where
      go : (b a : Bool) → AllTell p rp (cond b (cond a (take_busy ∷ take_cancel ∷ []) (take_busy ∷ [])) (cond a (take_cancel ∷ []) []))
      go true true = (busy_tells p rp, (cancel_tells p rp, tt))
      go true false = (busy_tells p rp, tt)
      go false true = (cancel_tells p rp, tt)
      go false false = tt

  failure_tells : (p : Peer) (e : ℕ × ℕ) (rp : ℕ × ℕ) (k : Parent) → Keeps k → Tells (take_failure e k (waiting p rp.1 k.pending.rows))
  failure_tells p e rp k keeps = go (waiting p rp.1 k.pending.rows) (found p rp.1 k.pending.rows keeps.asked)
    where
      told : (row : AskingRow) → Reaches Up row.1.key.peer → Tells (told_error row k (error_answer e row.1.item.flags row.1.key.id))
      told row reached = by (has_pair errors.UNKNOWN_REQUEST.0 errors.UNKNOWN_REQUEST.1 (e ∷ [])) (has_pair e.0 e.1 (errors.PARAMETER_NOT_SERVED ∷ errors.CHAIN_FAILED ∷ []))
        where
          by : (b a : Bool) → Tells (told_error row k (cond b [] (cond a
              (error_message (Some (row.1.item.flags, row.1.key.id)) errors.CHAIN_FAILED.0 errors.CHAIN_FAILED.1 ∷ [])
              (reply_message row.1.item.flags row.1.key.id unavailable ∷ []))))
          by true a = quiet k keeps
          by false true = answered_tells row (error_message (Some (row.1.item.flags, row.1.key.id)) errors.CHAIN_FAILED.0 errors.CHAIN_FAILED.1) k reached refl keeps
          by false false = answered_tells row (reply_message row.1.item.flags row.1.key.id unavailable) k reached refl keeps

      go : (o : Option AskingRow) → IsFound o → Tells (take_failure e k o)
      go None is = quiet k keeps
      go (Some row) is = told row is

  errors_tell : (p : Peer) (ids reported : List (ℕ × ℕ)) (k : Parent) → Keeps k → Tells (take_errors p ids reported k)
  errors_tell p ids [] k keeps = quiet k keeps
  errors_tell p ids (e ∷ es) k keeps = each_tells (λ (rp : ℕ × ℕ) (k' : Parent). take_failure e k' (waiting p rp.1 k'.pending.rows)) (failure_tells p e) ids k keeps

  -- ---- requests: the parent asks all its children, whose sessions are all up

  abbrev AsksUp : List Way → Type 0
  AsksUp ways = (b : As) → is_up (way_to (Inner b) ways) ≡ true → Up b

  -- the end of each errand is a child
  abbrev EachUp : List Errand → Type 0
  EachUp [] = Unit {0}
  EachUp (r ∷ rs) = Up r.child × EachUp rs

  each_to : (child : As) (ns : List Addr) → Up child → EachUp (errands_to child ns)
  each_to child [] up = tt
  each_to child (n ∷ ns) up = (up, each_to child ns up)

  each_both : (xs ys : List Errand) → EachUp xs → EachUp ys → EachUp (xs ++ ys)
  each_both [] ys h k = k
  each_both (x ∷ xs) ys h k = (h.0, each_both xs ys h.1 k)

  errands_up : (links : List ParentLink) (t : Addr) (children : List As) (ways : List Way) → AsksUp ways → all_up children ways ≡ true → EachUp (errands links t children)
  errands_up links t [] ways asks all = tt
  errands_up links t (child ∷ rest) ways asks all = go (errands_up links t rest ways asks) (is_up (way_to (Inner child) ways)) refl all
    where
      go : (all_up rest ways ≡ true → EachUp (errands links t rest)) → (b : Bool) → is_up (way_to (Inner child) ways) ≡ b → cond b (all_up rest ways) false ≡ true → EachUp (errands_to child (with_end t (tails child links)) ++ errands links t rest)
      go others true is more = each_both (errands_to child (with_end t (tails child links))) (errands links t rest) (each_to child (with_end t (tails child links)) (asks child is)) (others more)
      go others false is more = absurd (let no : false ≡ true = more in cc)

  asks_sound : (w : Wanted) (taken : List Wait) (rs : List Errand) (ways : List Way) → EachUp rs → AreSound Up (ask_all w taken rs ways).outputs
  asks_sound w taken [] ways up = tt
  asks_sound w taken (r ∷ rs) ways up =
      let p : Peer = Inner r.child in
      let y = next_id p taken ways in
      let next : Wait = record { peer = p; id = y; child = r.child; target = r.target } in
      ((up.0, refl), asks_sound w (next ∷ taken) rs (with_last p y ways) up.1)

  asks_keep : (w : Wanted) (taken : List Wait) (rs : List Errand) (ways : List Way) → AsksUp ways → AsksUp (ask_all w taken rs ways).ways
  asks_keep w taken [] ways asks = asks
  asks_keep w taken (r ∷ rs) ways asks =
      let p : Peer = Inner r.child in
      let y = next_id p taken ways in
      let next : Wait = record { peer = p; id = y; child = r.child; target = r.target } in
      asks_keep w (next ∷ taken) rs (with_last p y ways) (λ b up. asks b (sym (last_up (Inner b) p y ways) ∙ up))

  module _ (p : Peer) (reached : Reaches Up p) where
    path_tells : (f : Family) (flags x : ℕ) (w : Wanted) (k : Parent) → all_up f.children k.ways ≡ true → Keeps k → Tells (take_path f p flags x w k)
    path_tells f flags x w k all keeps =
        let rs = errands f.links w.target f.children in
        record {
          keeps = record { asked = all_append Up k.pending.rows _ keeps.asked reached; asks = asks_keep w (all_waits k.pending.rows) rs k.ways keeps.asks };
          sends = asks_sound w (all_waits k.pending.rows) rs k.ways (errands_up f.links w.target f.children k.ways keeps.asks all);
        }

    wish_tells : (f : Family) (flags x : ℕ) (k : Parent) (w : Wish) → Keeps k → Tells (take_wish f p flags x k w)
    wish_tells f flags x k (Expand key pce) keeps = one p (reply_message flags x no_key) k reached refl keeps
    wish_tells f flags x k (Path w) keeps = pick (is_full k.pending) _ _ (one p (busy flags x) k reached refl keeps) (by (all_up f.children k.ways) refl)
      where
        by : (b : Bool) → all_up f.children k.ways ≡ b → Tells (cond b (take_path f p flags x w k) (only p (reply_message flags x unavailable) k))
        by true all = path_tells f flags x w k all keeps
        by false some = one p (reply_message flags x unavailable) k reached refl keeps

    asked_tells : (c : Codec) (f : Family) (a : Asked) (k : Parent) → Keeps k → Tells (take_asked c f p a k)
    asked_tells c f a k keeps = go (c.check a parent_as)
      where
        fresh : (r : Request) (o : Option ℕ) → Tells (take_new f p r k o)
        fresh r None = wish_tells f r.flags r.id k r.wish keeps
        fresh r (Some number) = quiet k keeps

        go : (o : Checked) → Tells (take_checked f p k o)
        go (Wrong rp kind value) = one p (error_message rp kind value) k reached refl keeps
        go (Admitted r) = fresh r (number_of k.pending p r.id)

    -- ---- what the parent does

    pub take_tells : (c : Codec) (f : Family) (m : Message) (k : Parent) → Keeps k → Tells (take c f p m k)
    take_tells c f (messages.PcReq asks) k keeps = each_tells (take_asked c f p) (asked_tells c f) asks k keeps
    take_tells c f (messages.PcRep replies) k keeps = each_tells (take_reply c p) (λ r k' keeps'. reply_tells c p r k' reached keeps') replies k keeps
    take_tells c f (messages.PcNtf notices') k keeps =
        each_tells (take_notice p) (λ r k' keeps'. each_tells (λ (rp : ℕ × ℕ). each (λ (step : Step). step p rp) (notice_steps r.kinds)) (λ rp k'' keeps''. in_turn p rp (notice_steps r.kinds) (all_tell p rp r.kinds) k'' keeps'') r.ids k' keeps') notices' k keeps
    take_tells c f (messages.PcErr reports) k keeps = each_tells (take_report p) (λ r k' keeps'. errors_tell p r.ids r.errors k' keeps') reports k keeps
    take_tells c f (messages.Open body) k keeps = quiet k keeps
    take_tells c f messages.Keepalive k keeps = quiet k keeps
    take_tells c f (messages.Close why) k keeps = quiet k keeps
    take_tells c f (messages.Other kind) k keeps = quiet k keeps

  pub commit_tells : (c : Codec) (h : AskingRow) (a : Option Found) (k : Parent) → Reaches Up h.1.key.peer → Keeps k → Tells (commit c h a k)
  commit_tells c h None k reached keeps = answered_tells h (reply_message h.1.item.flags h.1.key.id none_between) k reached refl keeps
  commit_tells c h (Some a) k reached keeps = answered_tells h (reply_message h.1.item.flags h.1.key.id (Paths (path_of c h.1.item.wanted.query.metric a.cost a.hops ∷ []))) k reached refl keeps

  pub upped_tells : (p : Peer) (k : Parent) → Reaches Up p → Keeps k → Keeps (upped p k)
  upped_tells p k reached keeps = upped_keeps Up p k.pending.rows k.ways keeps reached

  lost_sound : (p : Peer) (rows : List AskingRow) → AllReach Up rows → AreSound Up (map lost_output (lost p rows))
  lost_sound p [] all = tt
  lost_sound p (x ∷ xs) all = go (is_lost p x) (lost_sound p xs all.1)
    where
      go : (b : Bool) → AreSound Up (map lost_output (lost p xs)) → AreSound Up (map lost_output (map lost_of (cond b (x ∷ filter (is_lost p) xs) (filter (is_lost p) xs))))
      go true rest = ((all.0, refl), rest)
      go false rest = rest

  pub downed_sends : (p : Peer) (k : Parent) → Keeps k → AreSound Up (downed p k).outputs
  downed_sends p k keeps = lost_sound p k.pending.rows keeps.asked

  apart_stays : (p : Peer) (h : AskingRow) → stays p h ≡ true → same_peer h.1.key.peer p ≡ false
  apart_stays p h is = go (same_peer h.1.key.peer p) refl is
    where
      go : (b : Bool) → same_peer h.1.key.peer p ≡ b → cond b false (not (any_on p h.1.item.waits)) ≡ true → same_peer h.1.key.peer p ≡ false
      go true hit stays' = absurd (let no : false ≡ true = stays' in cc)
      go false miss stays' = miss

  module _ (Other : As → Type 0) where
    pub downed_tells : (p : Peer) (k : Parent) → ((b : As) → same_peer p (Inner b) ≡ false → Up b → Other b) → Keeps k → KeepsTo Other (downed p k).parent.pending.rows (downed p k).parent.ways
    downed_tells p k on keeps = downed_keeps Up p k.pending.rows k.ways keeps Other on (stays p) (apart_stays p)
