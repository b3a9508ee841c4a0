-- What an element sends for a message of a neighbour weighs, with its requests, no more than the message.
use Rattle.std.proofs.Common.{◌≡◌, ◌∙◌, ◌≤◌, ◌<◌, ◌+◌, ◌*◌, ℕ, suc, Bool, true, false, cond, ◌==◌, nat_eq, List, [], ◌∷◌, Option, Some, None, length, nat_lt, refl, sym, ap, subst, inl, inr, arith}
use Rattle.std.specs.Map.{remove_entry}
use Rattle.std.proofs.lemmas.Bool.{ne_eqb}
use Rattle.std.proofs.lemmas.List.Elements.{All-head}
use Rattle.plant_laws.specs.plant_model.Types.{As, Peer, Outside, Inner, Hop, Message, Asked, ErrorReport, Notice, Reply, Answer, Request, Wanted, Wish, Class, Best, Branch, NetworkParts}
use Rattle.pcep_codes.specs.declared.errors.TheConstants as errors
use Rattle.pcep_codes.specs.declared.notices.TheConstants as notices
use Rattle.pcep_codes.specs.declared.no_paths.TheConstants as no_paths
use Rattle.pcep_messages.specs.declared.message.Message.TheVariants as messages
use Rattle.pcep_messages.specs.declared.message.Answer.TheVariants.{Paths, NoPath}
use Rattle.pcep_messages.specs.declared.message.Wish.TheVariants.{Path, Expand}
use Rattle.request_table.specs.Pending.{number_of, same_peer, is_full}
use Rattle.plant_text.specs.Names.{same_as, parent_as}
use Rattle.plant_laws.specs.plant_model.Names.{has_pair, the_parent}
use Rattle.plant_laws.specs.plant_model.Wire.{Codec, Checked, Admitted, Wrong}
use Rattle.plant_laws.specs.plant_model.Laws.{IsCodec, IsSequence, Admits}
use Rattle.plant_laws.specs.plant_model.Writing.{asked_of, request_message, reply_message, error_message, unavailable, busy, no_path, none_between}
use Rattle.plant_laws.specs.plant_model.Branches.{branches_in}
use Rattle.disclosure.specs.Policy.{is_denied}
use Rattle.plant_laws.specs.plant_model.Element.{Stage, Waits, Ready, Row, Way, Element, ElementSettings, Taken, silent, only, each, waiting, waits_for, is_waiting, way_to, fresh_id, at_stage, is_client}
use Rattle.plant_laws.specs.plant_model.declared.route.Route.{Route}
use Rattle.plant_laws.specs.plant_model.Routes.{toward}
use Rattle.plant_laws.specs.plant_model.Taking.{item_of, sequence_or, goes_up, send_on, sent_on, take_along, take_path, take_wish, take_new, take_checked, take_asked, staged, answered, made_ready, take_answer, take_reply, told_busy, cancelled, take_busy, take_cancel, notice_steps, take_notice, error_answer, told_error, take_failure, take_errors, take_report, take, denied, expansion, sight, wanting}
use Rattle.plant_laws.specs.plant_model.Solving.{commit, client_reply, closed_reply, closed_paths, issued_all, free, job_found}
use Rattle.plant_laws.proofs.Numbering.Onward.{way_peer}
use Rattle.plant_laws.proofs.Least.FromElement.{own_sequence, later_sequence, admits_path}
use Rattle.plant_laws.proofs.WrittenForm.ElementSays.{WaysOk, ways_last, WayOk, way_fits, next_fits, next_some}
use Rattle.run_laws.specs.Settling.{total, cost, asked_weight, checked_weight, above_weight}
use Rattle.run_laws.proofs.SettlingLemmas.Sums.{total_all, opened_length, removed_less, written_length, first_closes, later_closes}
use Rattle.run_laws.proofs.SettlingLemmas.Weighing.{peer_weight, IsAtMost, reply_light, busy_light, error_light, light_more, Weighs, rests_weigh, then_weigh, more_weigh, only_weigh, ended_weigh, same_weigh, fewer_weigh, IsLighter, ended_lighter}

module _ (P : Type 0) (S : Type 0) (c : Codec) (n : NetworkParts) where
  -- the ids of the ways fit, and all weighs at most so much more
  pub record Less (w : ℕ) (k : Element P S) (t : Taken P S) : Type 0 where
    pub ways : WaysOk t.element.ways
    pub weighs : Weighs c n (length k.pending.rows) (length t.element.pending.rows) w t.outputs

  pick : (w : ℕ) (k : Element P S) (b : Bool) (t u : Taken P S) → Less w k t → Less w k u → Less w k (cond b t u)
  pick w k true t u h i = h
  pick w k false t u h i = i

  more : (v w : ℕ) (k : Element P S) (t : Taken P S) → v ≤ w → Less v k t → Less w k t
  more v w k t le h = record { ways = h.ways; weighs = more_weigh c n (length k.pending.rows) (length t.element.pending.rows) v w t.outputs le h.weighs }

  quiet : (w : ℕ) (k : Element P S) → WaysOk k.ways → Less w k (silent k)
  quiet w k ok = record { ways = ok; weighs = rests_weigh c n (length k.pending.rows) w }

  one : (w v : ℕ) (to : Peer) (m : Message) (k : Element P S) → IsAtMost c n v m → 1 + v ≤ w → WaysOk k.ways → Less w k (only to m k)
  one w v to m k light le ok = record { ways = ok; weighs = only_weigh c n (length k.pending.rows) w v to m light le }

  -- each of a list in turn
  each_less : {X : Type 0} (g : X → ℕ) (f : X → Element P S → Taken P S) → ((x : X) (k : Element P S) → WaysOk k.ways → Less (g x) k (f x k)) → (xs : List X) (k : Element P S) → WaysOk k.ways → Less (total g xs) k (each f xs k)
  each_less g f each_one [] k ok = quiet 0 k ok
  each_less g f each_one (x ∷ xs) k ok =
      let first = each_one x k ok in
      let rest = each_less g f each_one xs (f x k).element first.ways in
      record {
        ways = rest.ways;
        weighs = then_weigh c n (length k.pending.rows) (length (f x k).element.pending.rows) (length (each f xs (f x k).element).element.pending.rows) (g x) (total g xs) (f x k).outputs (each f xs (f x k).element).outputs first.weighs rest.weighs;
      }

  -- each for nothing
  each_free : {X : Type 0} (f : X → Element P S → Taken P S) → ((x : X) (k : Element P S) → WaysOk k.ways → Less 0 k (f x k)) → (xs : List X) (k : Element P S) → WaysOk k.ways → Less 0 k (each f xs k)
  each_free {X} f each_one xs k ok = more (total (λ (x : X). 0) xs) 0 k (each f xs k) (let none = total_all {X = X} 0 xs in omega (arith, none)) (each_less (λ (x : X). 0) f each_one xs k ok)

  answered_less : (h : Row P) (m : Message) (k : Element P S) → IsAtMost c n 2 m → suc (length (remove_entry (nat_eq h.0) k.pending.rows)) ≤ length k.pending.rows → WaysOk k.ways → Less 0 k (answered h m k)
  answered_less h m k light closes ok = record { ways = ok; weighs = ended_weigh c n (length k.pending.rows) (length (remove_entry (nat_eq h.0) k.pending.rows)) h.1.key.peer m light (omega (arith, closes)) }

  staged_less : (w : ℕ) (h : Row P) (stage : Stage) (k : Element P S) → WaysOk k.ways → Less w k (silent (staged h stage k))
  staged_less w h stage k ok = record {
    ways = ok;
    weighs = same_weigh c n (length k.pending.rows) (length (staged h stage k).pending.rows) w (written_length h.0 (at_stage stage h.1.item) k.pending.rows);
  }

  -- the request that waits ends
  abbrev IsFound : List (Row P) → Option (Row P) → Type 0
  IsFound rows None = Unit {0}
  IsFound rows (Some h) = suc (length (remove_entry (nat_eq h.0) rows)) ≤ length rows

  found : (p : Peer) (y : ℕ) (rows : List (Row P)) → IsFound rows (waiting p y rows)
  found p y [] = tt
  found p y (x ∷ xs) = go (waits_for p y x.1.item.stage) (waiting p y xs) (found p y xs)
    where
      on : (o : Option (Row P)) → IsFound xs o → IsFound (x ∷ xs) o
      on None later = tt
      on (Some h) later = later_closes h.0 x xs later

      go : (b : Bool) (o : Option (Row P)) → IsFound xs o → IsFound (x ∷ xs) (cond b (Some x) o)
      go true o later = first_closes x xs
      go false o later = on o later

  -- ---- replies, notices and errors

  ready_less : (h : Row P) (a : Answer) (k : Element P S) → suc (length (remove_entry (nat_eq h.0) k.pending.rows)) ≤ length k.pending.rows → WaysOk k.ways → Less 0 k (made_ready c h a k)
  ready_less h (Paths ps) k closes ok = staged_less 0 h (Ready (branches_in c h.1.item.wanted.query.metric ps)) k ok
  ready_less h (NoPath nature vector) k closes ok =
      pick 0 k (nature == no_paths.NONE_FOUND) _ _ (staged_less 0 h (Ready []) k ok)
      (answered_less h (reply_message h.1.item.flags h.1.key.id unavailable) k (reply_light c n h.1.item.flags h.1.key.id unavailable) closes ok)

  reply_less : (p : Peer) (r : Reply) (k : Element P S) → WaysOk k.ways → Less 2 k (take_reply c p r k)
  reply_less p r k ok = go (waiting p r.id k.pending.rows) (found p r.id k.pending.rows)
    where
      go : (o : Option (Row P)) → IsFound k.pending.rows o → Less 2 k (take_answer c p r k o)
      go None is =
          one 2 1 p (error_message (Some (r.flags, r.id)) errors.UNKNOWN_REQUEST.0 errors.UNKNOWN_REQUEST.1) k (error_light c n (Some (r.flags, r.id)) errors.UNKNOWN_REQUEST.0 errors.UNKNOWN_REQUEST.1) (omega arith) ok
      go (Some row) is =
          more 0 2 k (take_answer c p r k (Some row)) (omega arith)
          (pick 0 k (same_peer p the_parent) _ _ (answered_less row (reply_message row.1.item.flags row.1.key.id r.answer) k (reply_light c n row.1.item.flags row.1.key.id r.answer) is ok) (ready_less row r.answer k is ok))

  busy_less : (p : Peer) (rp : ℕ × ℕ) (k : Element P S) → WaysOk k.ways → Less 0 k (take_busy p rp k)
  busy_less p rp k ok = go (waiting p rp.1 k.pending.rows) (found p rp.1 k.pending.rows)
    where
      go : (o : Option (Row P)) → IsFound k.pending.rows o → Less 0 k (told_busy k o)
      go None is = quiet 0 k ok
      go (Some row) is =
          answered_less row (busy row.1.item.flags row.1.key.id) k (light_more c n 1 2 (busy row.1.item.flags row.1.key.id) (omega arith) (busy_light c n row.1.item.flags row.1.key.id)) is ok

  cancel_less : (p : Peer) (rp : ℕ × ℕ) (k : Element P S) → WaysOk k.ways → Less 0 k (take_cancel p rp k)
  cancel_less p rp k ok = go (number_of k.pending p rp.1)
    where
      go : (o : Option ℕ) → Less 0 k (cancelled k o)
      go None = quiet 0 k ok
      go (Some number) = record { ways = ok; weighs = fewer_weigh c n (length k.pending.rows) (length (remove_entry (nat_eq number) k.pending.rows)) 0 (removed_less number k.pending.rows) }

  -- several steps in turn
  abbrev Step : Type 0
  Step = Peer → ℕ × ℕ → Element P S → Taken P S

  abbrev AllFree : Peer → ℕ × ℕ → List Step → Type 0
  AllFree p rp [] = Unit {0}
  AllFree p rp (f ∷ fs) = ((k : Element P S) → WaysOk k.ways → Less 0 k (f p rp k)) × AllFree p rp fs

  in_turn : (p : Peer) (rp : ℕ × ℕ) (fs : List Step) → AllFree p rp fs → (k : Element P S) → WaysOk k.ways → Less 0 k (each (λ (step : Step). step p rp) fs k)
  in_turn p rp [] all k ok = quiet 0 k ok
  in_turn p rp (f ∷ fs) all k ok =
      let first = all.0 k ok in
      let t = each (λ (step : Step). step p rp) fs (f p rp k).element in
      let rest = in_turn p rp fs all.1 (f p rp k).element first.ways in
      record {
        ways = rest.ways;
        weighs = then_weigh c n (length k.pending.rows) (length (f p rp k).element.pending.rows) (length t.element.pending.rows) 0 0 (f p rp k).outputs t.outputs first.weighs rest.weighs;
      }

  all_free : (p : Peer) (rp : ℕ × ℕ) (kinds : List (ℕ × ℕ)) → AllFree p rp (notice_steps kinds)
  all_free p rp kinds = go (has_pair notices.BUSY.0 notices.BUSY.1 kinds) (has_pair notices.CANCELLED.0 notices.CANCELLED.1 kinds)
    where
      go : (b a : Bool) → AllFree p rp (cond b (cond a (take_busy ∷ take_cancel ∷ []) (take_busy ∷ [])) (cond a (take_cancel ∷ []) []))
      go true true = (busy_less p rp, (cancel_less p rp, tt))
      go true false = (busy_less p rp, tt)
      go false true = (cancel_less p rp, tt)
      go false false = tt

  failure_less : (p : Peer) (e : ℕ × ℕ) (rp : ℕ × ℕ) (k : Element P S) → WaysOk k.ways → Less 0 k (take_failure e k (waiting p rp.1 k.pending.rows))
  failure_less p e rp k ok = go (waiting p rp.1 k.pending.rows) (found p rp.1 k.pending.rows)
    where
      told : (row : Row P) → IsFound k.pending.rows (Some row) → Less 0 k (told_error row k (error_answer e row.1.item.flags row.1.key.id))
      told row is = by (has_pair errors.UNKNOWN_REQUEST.0 errors.UNKNOWN_REQUEST.1 (e ∷ [])) (has_pair e.0 e.1 (errors.PARAMETER_NOT_SERVED ∷ errors.CHAIN_FAILED ∷ []))
        where
          failed : Message
          failed = error_message (Some (row.1.item.flags, row.1.key.id)) errors.CHAIN_FAILED.0 errors.CHAIN_FAILED.1

          by : (b a : Bool) → Less 0 k (told_error row k (cond b [] (cond a
              (error_message (Some (row.1.item.flags, row.1.key.id)) errors.CHAIN_FAILED.0 errors.CHAIN_FAILED.1 ∷ [])
              (reply_message row.1.item.flags row.1.key.id unavailable ∷ []))))
          by true a = quiet 0 k ok
          by false true =
              answered_less row failed k (light_more c n 1 2 failed (omega arith) (error_light c n (Some (row.1.item.flags, row.1.key.id)) errors.CHAIN_FAILED.0 errors.CHAIN_FAILED.1)) is ok
          by false false = answered_less row (reply_message row.1.item.flags row.1.key.id unavailable) k (reply_light c n row.1.item.flags row.1.key.id unavailable) is ok

      go : (o : Option (Row P)) → IsFound k.pending.rows o → Less 0 k (take_failure e k o)
      go None is = quiet 0 k ok
      go (Some row) is = told row is

  errors_less : (p : Peer) (ids reported : List (ℕ × ℕ)) (k : Element P S) → WaysOk k.ways → Less 0 k (take_errors p ids reported k)
  errors_less p ids [] k ok = quiet 0 k ok
  errors_less p ids (e ∷ es) k ok = each_free (λ (rp : ℕ × ℕ) (k' : Element P S). take_failure e k' (waiting p rp.1 k'.pending.rows)) (failure_less p e) ids k ok

  -- ---- requests

  module _ (codec : IsCodec c) (p : Peer) (class : Class) (neighbour : is_client class ≡ false) where
    denied_less : (w : ℕ) (flags x : ℕ) (k : Element P S) → 3 ≤ w → WaysOk k.ways → Less w k (denied p flags x k)
    denied_less w flags x k le ok = one w 2 p (reply_message flags x unavailable) k (reply_light c n flags x unavailable) (omega (arith, le)) ok

    -- a request that is sent on has one AS less
    sent_is : (a : Asked) (own : As) (flags x : ℕ) (w : Wanted) → Admits c a own flags x w → (b : As) (rest : List As) → IsSequence own (b ∷ rest) → (y : ℕ) → 1 ≤ y → y < 4294967296 →
        peer_weight c n (Inner b) (request_message y w w.target (b ∷ rest)) ≡ 11 + 10 * length rest
    sent_is a own flags x w admits b rest sequence y some fits =
        let ask = asked_of y w w.target (b ∷ rest) in
        let here : IsSequence b rest = later_sequence own b rest sequence in
        let real : 1 ≤ b.0 = All-head (λ (z : As). 1 ≤ z.0) b rest here.real in
        let check = codec.onward.admits a own flags x w admits y w.target b rest some fits here in
        let weight : asked_weight c n b ask ≡ 10 * length (b ∷ rest) =
        ap (λ (t : Bool). cond t (above_weight c n) (checked_weight c n b (c.check ask b))) (ne_eqb b.0 0 (λ e. omega (arith, real, e))) ∙ ap (λ (o : Checked). checked_weight c n b o) check in
        omega (arith, weight)

    -- one that goes to an outside peer weighs nothing
    weight_toward : (a : Asked) (own : As) (flags x : ℕ) (w : Wanted) → Admits c a own flags x w → (b : As) (rest : List As) → IsSequence own (b ∷ rest) → (y : ℕ) → 1 ≤ y → y < 4294967296 → (routes : List Route) →
        peer_weight c n (toward b routes) (request_message y w w.target (b ∷ rest)) ≤ 11 + 10 * length rest
    weight_toward a own flags x w admits b rest sequence y some fits [] = let inner = sent_is a own flags x w admits b rest sequence y some fits in omega (arith, inner)
    weight_toward a own flags x w admits b rest sequence y some fits (r ∷ rs) = go (same_as r.next b) (weight_toward a own flags x w admits b rest sequence y some fits rs)
      where
        go : (t : Bool) → peer_weight c n (toward b rs) (request_message y w w.target (b ∷ rest)) ≤ 11 + 10 * length rest →
            peer_weight c n (cond t (Outside r.peer) (toward b rs)) (request_message y w w.target (b ∷ rest)) ≤ 11 + 10 * length rest
        go true more = omega arith
        go false more = more

    on_less : (pin : P) (a : Asked) (own : As) (flags x : ℕ) (w : Wanted) → Admits c a own flags x w → (b : As) (rest : List As) → IsSequence own (b ∷ rest) → (routes : List Route) (refused : Bool) (k : Element P S) → WaysOk k.ways →
        Less (10 * length (own ∷ b ∷ rest)) k (send_on (sight pin p class) (wanting flags x w) (own ∷ b ∷ rest) (b ∷ rest) refused k (way_to (toward b routes) k.ways))
    on_less pin a own flags x w admits b rest sequence routes refused k ok = go (way_to (toward b routes) k.ways) refl (way_fits (toward b routes) k.ways ok)
      where
        go : (o : Option Way) → way_to (toward b routes) k.ways ≡ o → WayOk o → Less (10 * length (own ∷ b ∷ rest)) k (send_on (sight pin p class) (wanting flags x w) (own ∷ b ∷ rest) (b ∷ rest) refused k o)
        go None is fits = denied_less (10 * length (own ∷ b ∷ rest)) flags x k (omega arith) ok
        go (Some way) is fits =
            pick (10 * length (own ∷ b ∷ rest)) k way.up _ _
            (pick (10 * length (own ∷ b ∷ rest)) k refused _ _ (denied_less (10 * length (own ∷ b ∷ rest)) flags x k (omega arith) ok) sent)
            (denied_less (10 * length (own ∷ b ∷ rest)) flags x k (omega arith) ok)
          where
            sent : Less (10 * length (own ∷ b ∷ rest)) k (sent_on (sight pin p class) (wanting flags x w) (own ∷ b ∷ rest) (b ∷ rest) k way)
            sent =
                let y = fresh_id way.peer way.last_id k.pending.rows in
                let y_fits = next_fits k.pending.rows (is_waiting way.peer k.pending.rows) way.last_id fits in
                let y_some = next_some k.pending.rows (is_waiting way.peer k.pending.rows) way.last_id in
                let to : peer_weight c n way.peer (request_message y w w.target (b ∷ rest)) ≤ 11 + 10 * length rest =
                subst (λ (q : Peer). peer_weight c n q (request_message y w w.target (b ∷ rest)) ≤ 11 + 10 * length rest) (sym (way_peer (toward b routes) k.ways way is)) (weight_toward a own flags x w admits b rest sequence y y_some y_fits routes) in
                record {
                  ways = ways_last way.peer y k.ways y_fits ok;
                  weighs = record { least = (let l = opened_length k.pending p x (item_of pin class flags w (own ∷ b ∷ rest) (Waits way.peer y)) in omega (arith, to, l)) };
                }

    not_up : (up : Bool) (l : List As) → goes_up up class l ≡ false
    not_up up [] = ap (λ (t : Bool). cond t up false) neighbour
    not_up up (a ∷ rest) = refl

    path_less : (e : ElementSettings) (pin : P) (a : Asked) (flags x : ℕ) (w : Wanted) → Admits c a e.own flags x w → (k : Element P S) → WaysOk k.ways → Less (10 * length (sequence_or e.own w.sequence)) k (take_path e (sight pin p class) (wanting flags x w) k)
    path_less e pin a flags x w admits k ok =
        subst (λ (t : Bool). Less (10 * length (sequence_or e.own w.sequence)) k (cond t (send_on (sight pin p class) (wanting flags x w) [] [] false k (way_to the_parent k.ways)) (take_along e (sight pin p class) (wanting flags x w) k (sequence_or e.own w.sequence))))
        (sym (not_up e.parent w.sequence))
        (elim (own_sequence e.own w.sequence (codec.onward.own a e.own flags x w admits).2) [
          | inl short ↦ subst (λ (l : List As). Less (10 * length l) k (take_along e (sight pin p class) (wanting flags x w) k l)) (sym short) alone
          | inr long ↦
              subst (λ (l : List As). Less (10 * length l) k (take_along e (sight pin p class) (wanting flags x w) k l)) (sym long.2)
              (on_less pin a e.own flags x w admits long.0 long.1 long.3 e.routes (is_denied e.deny class long.0) k ok)
        ])
      where
        alone : Less (10 * length (e.own ∷ [])) k (take_along e (sight pin p class) (wanting flags x w) k (e.own ∷ []))
        alone = record { ways = ok; weighs = record { least = (let l = opened_length k.pending p x (item_of pin class flags w (e.own ∷ []) (Ready [])) in omega (arith, l)) } }

    long_enough : (own : As) (l : List As) → 10 ≤ 10 * length (sequence_or own l)
    long_enough own [] = omega arith
    long_enough own (a ∷ rest) = omega arith

    asked_less : (show : S → List Hop) (e : ElementSettings) (pin : P) (now : ℕ) (a : Asked) (k : Element P S) → WaysOk k.ways → Less (checked_weight c n e.own (c.check a e.own)) k (take_asked c show e pin p class now a k)
    asked_less show e pin now a k ok = go (c.check a e.own) refl
      where
        wish : (r : Request) → c.check a e.own ≡ Admitted r → (v : Wish) → r.wish ≡ v → Less (checked_weight c n e.own (Admitted (record r { wish = v }))) k (take_wish show e (sight pin p class) now r.flags r.id k v)
        wish r is (Path w) asks =
            pick (10 * length (sequence_or e.own w.sequence)) k (is_full k.pending) _ _
            (one (10 * length (sequence_or e.own w.sequence)) 1 p (busy r.flags r.id) k (busy_light c n r.flags r.id) (let l = long_enough e.own w.sequence in omega (arith, l)) ok)
            (path_less e pin a r.flags r.id w (admits_path c a e.own r w is asks) k ok)
        wish r is (Expand key pce) asks = one 10 2 p (reply_message r.flags r.id (expansion show e class now key pce k)) k (reply_light c n r.flags r.id (expansion show e class now key pce k)) (omega arith) ok

        fresh : (r : Request) → c.check a e.own ≡ Admitted r → (o : Option ℕ) → Less (checked_weight c n e.own (Admitted r)) k (take_new show e pin p class now r k o)
        fresh r is None = wish r is r.wish refl
        fresh r is (Some number) = quiet (checked_weight c n e.own (Admitted r)) k ok

        go : (o : Checked) → c.check a e.own ≡ o → Less (checked_weight c n e.own o) k (take_checked show e pin p class now k o)
        go (Wrong rp kind value) is = one 10 1 p (error_message rp kind value) k (error_light c n rp kind value) (omega arith) ok
        go (Admitted r) is = fresh r is (number_of k.pending p r.id)

    -- ---- what an element does

    module _ (show : S → List Hop) (e : ElementSettings) (own : As) (is_own : e.own ≡ own) (real : same_as own parent_as ≡ false) (pin : P) (now : ℕ) where
      asked_is : (a : Asked) → checked_weight c n e.own (c.check a e.own) ≡ asked_weight c n own a
      asked_is a =
          ap (λ (z : As). checked_weight c n z (c.check a z)) is_own
          ∙ sym (ap (λ (t : Bool). cond t (above_weight c n) (checked_weight c n own (c.check a own))) real)

      pub take_less : (m : Message) (k : Element P S) → WaysOk k.ways → Less (cost c n own m) k (take c show e pin p class now m k)
      take_less (messages.PcReq asks) k ok =
          each_less (asked_weight c n own) (take_asked c show e pin p class now)
          (λ a k' ok'. subst (λ (w : ℕ). Less w k' (take_asked c show e pin p class now a k')) (asked_is a) (asked_less show e pin now a k' ok')) asks k ok
      take_less (messages.PcRep replies) k ok =
          subst (λ (w : ℕ). Less w k (each (take_reply c p) replies k)) (total_all {X = Reply} 2 replies) (each_less (λ (r : Reply). 2) (take_reply c p) (reply_less p) replies k ok)
      take_less (messages.PcNtf notices') k ok =
          more 0 1 k (each (take_notice p) notices' k) (omega arith)
          (each_free (take_notice p) (λ (r : Notice) k' ok'. each_free (λ (rp : ℕ × ℕ). each (λ (step : Step). step p rp) (notice_steps r.kinds)) (λ rp k'' ok''. in_turn p rp (notice_steps r.kinds) (all_free p rp r.kinds) k'' ok'') r.ids k' ok') notices' k ok)
      take_less (messages.PcErr reports) k ok = more 0 1 k (each (take_report p) reports k) (omega arith) (each_free (take_report p) (λ (r : ErrorReport) k' ok'. errors_less p r.ids r.errors k' ok') reports k ok)
      take_less (messages.Open body) k ok = quiet 2 k ok
      take_less messages.Keepalive k ok = quiet 0 k ok
      take_less (messages.Close why) k ok = quiet 0 k ok
      take_less (messages.Other kind) k ok = quiet 0 k ok

  -- ---- an answered job

  pub commit_lighter : (e : ElementSettings) (h : Row P) (down : List Branch) (now : ℕ) (means : Best → S) (source_known target_known : Bool) (best : List Best) (k : Element P S) → suc (length (remove_entry (nat_eq h.0) k.pending.rows)) ≤ length k.pending.rows →
      (let t = commit c e h down now means (job_found source_known target_known best) k in IsLighter c n (length k.pending.rows) (length t.element.pending.rows) t.outputs)
  commit_lighter e h down now means source_known target_known best k closes =
      choose (is_client h.1.item.class) (answered h (client_reply c h down source_known target_known best) k) (closed_reply c e h down now means k best) (client best) (closed best)
    where
      choose : (b : Bool) (t u : Taken P S) → IsLighter c n (length k.pending.rows) (length t.element.pending.rows) t.outputs → IsLighter c n (length k.pending.rows) (length u.element.pending.rows) u.outputs →
          IsLighter c n (length k.pending.rows) (length (cond b t u).element.pending.rows) (cond b t u).outputs
      choose true t u x y = x
      choose false t u x y = y

      ends : (m : Message) → IsAtMost c n 2 m → IsLighter c n (length k.pending.rows) (length (remove_entry (nat_eq h.0) k.pending.rows)) ((record { to = h.1.key.peer; message = m }) ∷ [])
      ends m light = ended_lighter c n (length k.pending.rows) (length (remove_entry (nat_eq h.0) k.pending.rows)) h.1.key.peer m light (omega (arith, closes))

      client : (bs : List Best) → (let t = answered h (client_reply c h down source_known target_known bs) k in IsLighter c n (length k.pending.rows) (length t.element.pending.rows) t.outputs)
      client [] = ends (reply_message h.1.item.flags h.1.key.id (no_path source_known target_known)) (reply_light c n h.1.item.flags h.1.key.id (no_path source_known target_known))
      client (b ∷ bs) = ends (client_reply c h down source_known target_known (b ∷ bs)) (record { asks = refl; costs = λ z. omega arith })

      closed : (bs : List Best) → (let t = closed_reply c e h down now means k bs in IsLighter c n (length k.pending.rows) (length t.element.pending.rows) t.outputs)
      closed [] = ends (reply_message h.1.item.flags h.1.key.id none_between) (reply_light c n h.1.item.flags h.1.key.id none_between)
      closed (b ∷ bs) =
          let paths = Paths (closed_paths c e.id h.1.item.wanted.query.metric h.1.item.wanted.target down k.keys.next (b ∷ bs)) in
          choose (nat_lt (free now k.keys) (length (b ∷ bs))) (answered h (busy h.1.item.flags h.1.key.id) k)
          (answered h (reply_message h.1.item.flags h.1.key.id paths) (record k { keys = issued_all now means (b ∷ bs) k.keys }))
          (ends (busy h.1.item.flags h.1.key.id) (light_more c n 1 2 (busy h.1.item.flags h.1.key.id) (omega arith) (busy_light c n h.1.item.flags h.1.key.id)))
          (ends (reply_message h.1.item.flags h.1.key.id paths) (reply_light c n h.1.item.flags h.1.key.id paths))
