-- An element sends to those that can be reached alone, ordinary messages, and has requests of those alone.
use Rattle.std.proofs.Common.{◌≡◌, ◌∙◌, ℕ, Bool, true, false, not, cond, ◌==◌, List, [], ◌∷◌, Option, Some, None, length, nat_lt, refl, sym, ap, subst}
use Rattle.std.specs.Prelude.{map, filter}
use Rattle.plant_laws.specs.plant_model.Types.{As, Peer, Outside, Inner, Hop, Message, Asked, Reply, Answer, Request, Wanted, Wish, Class, Best, Branch}
use Rattle.pcep_codes.specs.declared.errors.TheConstants as errors
use Rattle.pcep_codes.specs.declared.notices.TheConstants as notices
use Rattle.pcep_codes.specs.declared.no_paths.TheConstants as no_paths
use Rattle.pcep_messages.specs.declared.message.Message.TheVariants as messages
use Rattle.pcep_messages.specs.declared.message.Answer.TheVariants.{Paths, NoPath}
use Rattle.pcep_messages.specs.declared.message.Wish.TheVariants.{Path, Expand}
use Rattle.request_table.specs.Pending.{number_of, same_peer, is_full}
use Rattle.plant_text.specs.Names.{parent_as}
use Rattle.plant_laws.specs.plant_model.Names.{has_pair, the_parent}
use Rattle.plant_laws.specs.plant_model.Wire.{Codec, Checked, Admitted, Wrong}
use Rattle.plant_laws.specs.plant_model.Writing.{reply_message, error_message, unavailable, busy, no_path, none_between}
use Rattle.plant_laws.specs.plant_model.Branches.{branches_in}
use Rattle.disclosure.specs.Policy.{is_denied}
use Rattle.plant_laws.specs.plant_model.Element.{Stage, Ready, Row, Way, Element, ElementSettings, Taken, silent, only, each, ended, waiting, waits_for, waits_on, way_to, fresh_id, at_stage, stays, is_lost, lost_of, lost_output, lost, upped, downed, is_client}
use Rattle.plant_laws.specs.plant_model.Routes.{toward}
use Rattle.plant_laws.specs.plant_model.Taking.{sequence_or, goes_up, send_on, sent_on, take_along, take_path, take_wish, take_new, take_checked, take_asked, staged, answered, made_ready, take_answer, take_reply, told_busy, cancelled, take_busy, take_cancel, notice_steps, take_notice, error_answer, told_error, take_failure, take_errors, take_report, take, denied, expansion, sight, wanting}
use Rattle.plant_laws.specs.plant_model.Solving.{commit, client_reply, closed_reply, closed_paths, issued_all, free, job_found}
use Rattle.plant_laws.specs.plant_model.Parent as parent
use Rattle.plant_laws.proofs.Numbering.Onward.{way_peer}
use Rattle.run_laws.specs.Settling.{Reaches, AllReach, KeepsTo, is_ordinary}
use Rattle.run_laws.proofs.SettlingLemmas.Reaching.{AreSound, sound_append, all_append, all_removed, all_written, last_up, upped_keeps, downed_keeps}

module _ (P : Type 0) (S : Type 0) (Up : As → Type 0) where
  abbrev pub Keeps : Element P S → Type 0
  Keeps k = KeepsTo Up k.pending.rows k.ways

  -- an element that keeps to those that can be reached, and what it sends
  pub record Tells (t : Taken P S) : Type 0 where
    pub keeps : Keeps t.element
    pub sends : AreSound Up t.outputs

  pick : (b : Bool) (t u : Taken P S) → Tells t → Tells u → Tells (cond b t u)
  pick true t u h i = h
  pick false t u h i = i

  quiet : (k : Element P S) → Keeps k → Tells (silent k)
  quiet k keeps = record { keeps = keeps; sends = tt }

  one : (to : Peer) (m : Message) (k : Element P S) → Reaches Up to → is_ordinary m ≡ true → Keeps k → Tells (only to m k)
  one to m k reached ordinary keeps = record { keeps = keeps; sends = ((reached, ordinary), tt) }

  -- each of a list in turn
  each_tells : {X : Type 0} (f : X → Element P S → Taken P S) → ((x : X) (k : Element P S) → Keeps k → Tells (f x k)) → (xs : List X) (k : Element P S) → Keeps k → Tells (each f xs k)
  each_tells f each_one [] k keeps = quiet k keeps
  each_tells f each_one (x ∷ xs) k keeps =
      let first = each_one x k keeps in
      let rest = each_tells f each_one xs (f x k).element first.keeps in
      record { keeps = rest.keeps; sends = sound_append Up (f x k).outputs (each f xs (f x k).element).outputs first.sends rest.sends }

  ended_keeps : (number : ℕ) (k : Element P S) → Keeps k → Keeps (ended number k)
  ended_keeps number k keeps = record { asked = all_removed Up number k.pending.rows keeps.asked; asks = keeps.asks }

  answered_tells : (h : Row P) (m : Message) (k : Element P S) → Reaches Up h.1.key.peer → is_ordinary m ≡ true → Keeps k → Tells (answered h m k)
  answered_tells h m k reached ordinary keeps = one h.1.key.peer m (ended h.0 k) reached ordinary (ended_keeps h.0 k keeps)

  staged_keeps : (h : Row P) (stage : Stage) (k : Element P S) → Keeps k → Keeps (staged h stage k)
  staged_keeps h stage k keeps = record { asked = all_written Up h.0 (at_stage stage h.1.item) k.pending.rows keeps.asked; asks = keeps.asks }

  -- the peer of a request that waits
  abbrev IsFound : Option (Row P) → Type 0
  IsFound None = Unit {0}
  IsFound (Some h) = Reaches Up h.1.key.peer

  found : (p : Peer) (y : ℕ) (rows : List (Row P)) → AllReach Up rows → IsFound (waiting p y rows)
  found p y [] all = tt
  found p y (x ∷ xs) all = go (waits_for p y x.1.item.stage) (found p y xs all.1)
    where
      go : (b : Bool) → IsFound (waiting p y xs) → IsFound (cond b (Some x) (waiting p y xs))
      go true rest = all.0
      go false rest = rest

  -- ---- replies, notices and errors

  ready_tells : (c : Codec) (h : Row P) (a : Answer) (k : Element P S) → Reaches Up h.1.key.peer → Keeps k → Tells (made_ready c h a k)
  ready_tells c h (Paths ps) k reached keeps = quiet (staged h (Ready (branches_in c h.1.item.wanted.query.metric ps)) k) (staged_keeps h (Ready (branches_in c h.1.item.wanted.query.metric ps)) k keeps)
  ready_tells c h (NoPath nature vector) k reached keeps =
      pick (nature == no_paths.NONE_FOUND) _ _ (quiet (staged h (Ready []) k) (staged_keeps h (Ready []) k keeps))
      (answered_tells h (reply_message h.1.item.flags h.1.key.id unavailable) k reached refl keeps)

  reply_tells : (c : Codec) (p : Peer) (r : Reply) (k : Element P S) → Reaches Up p → Keeps k → Tells (take_reply c p r k)
  reply_tells c p r k reached keeps = go (waiting p r.id k.pending.rows) (found p r.id k.pending.rows keeps.asked)
    where
      go : (o : Option (Row P)) → IsFound o → Tells (take_answer c p r k o)
      go None is = one p (error_message (Some (r.flags, r.id)) errors.UNKNOWN_REQUEST.0 errors.UNKNOWN_REQUEST.1) k reached refl keeps
      go (Some row) is =
          pick (same_peer p the_parent) _ _ (answered_tells row (reply_message row.1.item.flags row.1.key.id r.answer) k is refl keeps) (ready_tells c row r.answer k is keeps)

  busy_tells : (p : Peer) (rp : ℕ × ℕ) (k : Element P S) → Keeps k → Tells (take_busy p rp k)
  busy_tells p rp k keeps = go (waiting p rp.1 k.pending.rows) (found p rp.1 k.pending.rows keeps.asked)
    where
      go : (o : Option (Row P)) → IsFound o → Tells (told_busy k o)
      go None is = quiet k keeps
      go (Some row) is = answered_tells row (busy row.1.item.flags row.1.key.id) k is refl keeps

  cancel_tells : (p : Peer) (rp : ℕ × ℕ) (k : Element P S) → Keeps k → Tells (take_cancel p rp k)
  cancel_tells p rp k keeps = go (number_of k.pending p rp.1)
    where
      go : (o : Option ℕ) → Tells (cancelled k o)
      go None = quiet k keeps
      go (Some number) = quiet (ended number k) (ended_keeps number k keeps)

  -- several steps in turn
  abbrev Step : Type 0
  Step = Peer → ℕ × ℕ → Element P S → Taken P S

  abbrev AllTell : Peer → ℕ × ℕ → List Step → Type 0
  AllTell p rp [] = Unit {0}
  AllTell p rp (f ∷ fs) = ((k : Element P S) → Keeps k → Tells (f p rp k)) × AllTell p rp fs

  in_turn : (p : Peer) (rp : ℕ × ℕ) (fs : List Step) → AllTell p rp fs → (k : Element P S) → Keeps k → Tells (each (λ (step : Step). step p rp) fs k)
  in_turn p rp [] all k keeps = quiet k keeps
  in_turn p rp (f ∷ fs) all k keeps =
      let first = all.0 k keeps in
      let rest = in_turn p rp fs all.1 (f p rp k).element first.keeps in
      record { keeps = rest.keeps; sends = sound_append Up (f p rp k).outputs (each (λ (step : Step). step p rp) fs (f p rp k).element).outputs first.sends rest.sends }

  all_tell : (p : Peer) (rp : ℕ × ℕ) (kinds : List (ℕ × ℕ)) → AllTell p rp (notice_steps kinds)
  all_tell p rp kinds = go (has_pair notices.BUSY.0 notices.BUSY.1 kinds) (has_pair notices.CANCELLED.0 notices.CANCELLED.1 kinds)
    where
      go : (b a : Bool) → AllTell p rp (cond b (cond a (take_busy ∷ take_cancel ∷ []) (take_busy ∷ [])) (cond a (take_cancel ∷ []) []))
      go true true = (busy_tells p rp, (cancel_tells p rp, tt))
      go true false = (busy_tells p rp, tt)
      go false true = (cancel_tells p rp, tt)
      go false false = tt

  failure_tells : (p : Peer) (e : ℕ × ℕ) (rp : ℕ × ℕ) (k : Element P S) → Keeps k → Tells (take_failure e k (waiting p rp.1 k.pending.rows))
  failure_tells p e rp k keeps = go (waiting p rp.1 k.pending.rows) (found p rp.1 k.pending.rows keeps.asked)
    where
      told : (row : Row P) → Reaches Up row.1.key.peer → Tells (told_error row k (error_answer e row.1.item.flags row.1.key.id))
      told row reached = by (has_pair errors.UNKNOWN_REQUEST.0 errors.UNKNOWN_REQUEST.1 (e ∷ [])) (has_pair e.0 e.1 (errors.PARAMETER_NOT_SERVED ∷ errors.CHAIN_FAILED ∷ []))
        where
          by : (b a : Bool) → Tells (told_error row k (cond b [] (cond a
              (error_message (Some (row.1.item.flags, row.1.key.id)) errors.CHAIN_FAILED.0 errors.CHAIN_FAILED.1 ∷ [])
              (reply_message row.1.item.flags row.1.key.id unavailable ∷ []))))
          by true a = quiet k keeps
          by false true = answered_tells row (error_message (Some (row.1.item.flags, row.1.key.id)) errors.CHAIN_FAILED.0 errors.CHAIN_FAILED.1) k reached refl keeps
          by false false = answered_tells row (reply_message row.1.item.flags row.1.key.id unavailable) k reached refl keeps

      go : (o : Option (Row P)) → IsFound o → Tells (take_failure e k o)
      go None is = quiet k keeps
      go (Some row) is = told row is

  errors_tell : (p : Peer) (ids reported : List (ℕ × ℕ)) (k : Element P S) → Keeps k → Tells (take_errors p ids reported k)
  errors_tell p ids [] k keeps = quiet k keeps
  errors_tell p ids (e ∷ es) k keeps = each_tells (λ (rp : ℕ × ℕ) (k' : Element P S). take_failure e k' (waiting p rp.1 k'.pending.rows)) (failure_tells p e) ids k keeps

  -- ---- requests

  module _ (p : Peer) (reached : Reaches Up p) where
    denied_tells : (flags x : ℕ) (k : Element P S) → Keeps k → Tells (denied p flags x k)
    denied_tells flags x k keeps = one p (reply_message flags x unavailable) k reached refl keeps

    on_tells : (pin : P) (class : Class) (flags x : ℕ) (w : Wanted) (sequence rest : List As) (refused : Bool) (k : Element P S) (to : Peer) → Keeps k →
        Tells (send_on (sight pin p class) (wanting flags x w) sequence rest refused k (way_to to k.ways))
    on_tells pin class flags x w sequence rest refused k to keeps = go (way_to to k.ways) refl
      where
        reach : (q : Peer) → parent.is_up (way_to q k.ways) ≡ true → Reaches Up q
        reach (Inner b) up = keeps.asks b up
        reach (Outside i) up = tt

        by : (way : Way) → way_to to k.ways ≡ Some way → (up : Bool) → way.up ≡ up →
            Tells (cond up (cond refused (denied p flags x k) (sent_on (sight pin p class) (wanting flags x w) sequence rest k way)) (denied p flags x k))
        by way is false down = denied_tells flags x k keeps
        by way is true up =
            pick refused (denied p flags x k) (sent_on (sight pin p class) (wanting flags x w) sequence rest k way) (denied_tells flags x k keeps)
            (let y = fresh_id way.peer way.last_id k.pending.rows in
            let reaches : Reaches Up way.peer = subst (Reaches Up) (sym (way_peer to k.ways way is)) (reach to (ap (λ (o : Option Way). parent.is_up o) is ∙ up)) in
            record {
              keeps = record {
                asked = all_append Up k.pending.rows _ keeps.asked reached;
                asks = λ b' up'. keeps.asks b' (sym (last_up (Inner b') way.peer y k.ways) ∙ up');
              };
              sends = ((reaches, refl), tt);
            })

        go : (o : Option Way) → way_to to k.ways ≡ o → Tells (send_on (sight pin p class) (wanting flags x w) sequence rest refused k o)
        go None is = denied_tells flags x k keeps
        go (Some way) is = by way is way.up refl

    along_tells : (e : ElementSettings) (pin : P) (class : Class) (flags x : ℕ) (w : Wanted) (k : Element P S) (path : List As) → Keeps k → Tells (take_along e (sight pin p class) (wanting flags x w) k path)
    along_tells e pin class flags x w k [] keeps = denied_tells flags x k keeps
    along_tells e pin class flags x w k (a ∷ []) keeps = record { keeps = record { asked = all_append Up k.pending.rows _ keeps.asked reached; asks = keeps.asks }; sends = tt }
    along_tells e pin class flags x w k (a ∷ b ∷ rest) keeps = on_tells pin class flags x w (a ∷ b ∷ rest) (b ∷ rest) (is_denied e.deny class b) k (toward b e.routes) keeps

    path_tells : (e : ElementSettings) (pin : P) (class : Class) (flags x : ℕ) (w : Wanted) (k : Element P S) → Keeps k → Tells (take_path e (sight pin p class) (wanting flags x w) k)
    path_tells e pin class flags x w k keeps =
        pick (goes_up e.parent class w.sequence) _ _ (on_tells pin class flags x w [] [] false k (Inner parent_as) keeps)
        (along_tells e pin class flags x w k (sequence_or e.own w.sequence) keeps)

    wish_tells : (show : S → List Hop) (e : ElementSettings) (pin : P) (class : Class) (now flags x : ℕ) (k : Element P S) (w : Wish) → Keeps k → Tells (take_wish show e (sight pin p class) now flags x k w)
    wish_tells show e pin class now flags x k (Path w) keeps = pick (is_full k.pending) _ _ (one p (busy flags x) k reached refl keeps) (path_tells e pin class flags x w k keeps)
    wish_tells show e pin class now flags x k (Expand key pce) keeps = one p (reply_message flags x (expansion show e class now key pce k)) k reached refl keeps

    asked_tells : (c : Codec) (show : S → List Hop) (e : ElementSettings) (pin : P) (class : Class) (now : ℕ) (a : Asked) (k : Element P S) → Keeps k → Tells (take_asked c show e pin p class now a k)
    asked_tells c show e pin class now a k keeps = go (c.check a e.own)
      where
        fresh : (r : Request) (o : Option ℕ) → Tells (take_new show e pin p class now r k o)
        fresh r None = wish_tells show e pin class now r.flags r.id k r.wish keeps
        fresh r (Some number) = quiet k keeps

        go : (o : Checked) → Tells (take_checked show e pin p class now k o)
        go (Wrong rp kind value) = one p (error_message rp kind value) k reached refl keeps
        go (Admitted r) = fresh r (number_of k.pending p r.id)

    -- ---- what an element does

    pub take_tells : (c : Codec) (show : S → List Hop) (e : ElementSettings) (pin : P) (class : Class) (now : ℕ) (m : Message) (k : Element P S) → Keeps k → Tells (take c show e pin p class now m k)
    take_tells c show e pin class now (messages.PcReq asks) k keeps = each_tells (take_asked c show e pin p class now) (asked_tells c show e pin class now) asks k keeps
    take_tells c show e pin class now (messages.PcRep replies) k keeps = each_tells (take_reply c p) (λ r k' keeps'. reply_tells c p r k' reached keeps') replies k keeps
    take_tells c show e pin class now (messages.PcNtf notices') k keeps =
        each_tells (take_notice p) (λ r k' keeps'. each_tells (λ (rp : ℕ × ℕ). each (λ (step : Step). step p rp) (notice_steps r.kinds)) (λ rp k'' keeps''. in_turn p rp (notice_steps r.kinds) (all_tell p rp r.kinds) k'' keeps'') r.ids k' keeps') notices' k keeps
    take_tells c show e pin class now (messages.PcErr reports) k keeps = each_tells (take_report p) (λ r k' keeps'. errors_tell p r.ids r.errors k' keeps') reports k keeps
    take_tells c show e pin class now (messages.Open body) k keeps = quiet k keeps
    take_tells c show e pin class now messages.Keepalive k keeps = quiet k keeps
    take_tells c show e pin class now (messages.Close why) k keeps = quiet k keeps
    take_tells c show e pin class now (messages.Other kind) k keeps = quiet k keeps

  pub commit_tells : (c : Codec) (e : ElementSettings) (h : Row P) (down : List Branch) (now : ℕ) (means : Best → S) (source_known target_known : Bool) (best : List Best) (k : Element P S) → Reaches Up h.1.key.peer → Keeps k →
      Tells (commit c e h down now means (job_found source_known target_known best) k)
  commit_tells c e h down now means source_known target_known best k reached keeps =
      pick (is_client h.1.item.class) (answered h (client_reply c h down source_known target_known best) k) (closed_reply c e h down now means k best)
      (client best) (closed best)
    where
      client : (bs : List Best) → Tells (answered h (client_reply c h down source_known target_known bs) k)
      client [] = answered_tells h (reply_message h.1.item.flags h.1.key.id (no_path source_known target_known)) k reached refl keeps
      client (b ∷ bs) = answered_tells h (client_reply c h down source_known target_known (b ∷ bs)) k reached refl keeps

      closed : (bs : List Best) → Tells (closed_reply c e h down now means k bs)
      closed [] = answered_tells h (reply_message h.1.item.flags h.1.key.id none_between) k reached refl keeps
      closed (b ∷ bs) =
          let more = record k { keys = issued_all now means (b ∷ bs) k.keys } in
          pick (nat_lt (free now k.keys) (length (b ∷ bs))) (answered h (busy h.1.item.flags h.1.key.id) k)
          (answered h (reply_message h.1.item.flags h.1.key.id (Paths (closed_paths c e.id h.1.item.wanted.query.metric h.1.item.wanted.target down k.keys.next (b ∷ bs)))) more)
          (answered_tells h (busy h.1.item.flags h.1.key.id) k reached refl keeps)
          (answered_tells h (reply_message h.1.item.flags h.1.key.id (Paths (closed_paths c e.id h.1.item.wanted.query.metric h.1.item.wanted.target down k.keys.next (b ∷ bs)))) more reached refl
          (record { asked = keeps.asked; asks = keeps.asks }))

  pub upped_tells : (p : Peer) (k : Element P S) → Reaches Up p → Keeps k → Keeps (upped p k)
  upped_tells p k reached keeps = upped_keeps Up p k.pending.rows k.ways keeps reached

  lost_sound : (p : Peer) (rows : List (Row P)) → AllReach Up rows → AreSound Up (map lost_output (lost p rows))
  lost_sound p [] all = tt
  lost_sound p (x ∷ xs) all = go (is_lost p x) (lost_sound p xs all.1)
    where
      go : (b : Bool) → AreSound Up (map lost_output (lost p xs)) → AreSound Up (map lost_output (map lost_of (cond b (x ∷ filter (is_lost p) xs) (filter (is_lost p) xs))))
      go true rest = ((all.0, refl), rest)
      go false rest = rest

  pub downed_sends : (p : Peer) (k : Element P S) → Keeps k → AreSound Up (downed p k).outputs
  downed_sends p k keeps = lost_sound p k.pending.rows keeps.asked

  apart_stays : (p : Peer) (h : Row P) → stays p h ≡ true → same_peer h.1.key.peer p ≡ false
  apart_stays p h is = go (same_peer h.1.key.peer p) refl is
    where
      go : (b : Bool) → same_peer h.1.key.peer p ≡ b → cond b false (not (waits_on p h.1.item.stage)) ≡ true → same_peer h.1.key.peer p ≡ false
      go true hit kept = absurd (let clash : false ≡ true = kept in cc)
      go false miss kept = miss

  module _ (Other : As → Type 0) where
    pub downed_tells : (p : Peer) (k : Element P S) → ((b : As) → same_peer p (Inner b) ≡ false → Up b → Other b) → Keeps k → KeepsTo Other (downed p k).element.pending.rows (downed p k).element.ways
    downed_tells p k on keeps = downed_keeps Up p k.pending.rows k.ways keeps Other on (stays p) (apart_stays p)
