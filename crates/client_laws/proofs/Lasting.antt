-- What others make an element say to a client that asks once is about its question.
use Rattle.std.proofs.Common.{◌≡◌, ◌≢◌, ◌⊎◌, ◌≤◌, ◌+◌, nat_eq, ℕ, Bool, true, false, cond, List, [], ◌∷◌, ◌++◌, Some, None, sym, ap, subst, ◌∙◌, inl, inr, refl, arith}
use Rattle.std.specs.Prelude.{Contains}
use Rattle.std.specs.Map.{lookup}
use Rattle.std.proofs.lemmas.Bool.{cases_Bool, eq-eqb, eqb-true}
use Rattle.std.proofs.lemmas.List.{append-nil}
use Rattle.plant_play.specs.plant_model.Types.{As, Peer, Inner, Outside, Answer, Asked, Message, Reply, Request, Held, NetworkParts}
use Rattle.plant_play.specs.plant_model.Routes.{StaysInside}
use Rattle.border_costs.proofs.Members.{contains_head, contains_tail}
use Rattle.pcep_codes.specs.declared.no_paths.TheConstants as no_paths
use Rattle.pcep_messages.specs.declared.message.Answer.TheVariants.{NoPath, Paths}
use Rattle.pcep_messages.specs.declared.message.Message.TheVariants as messages
use Rattle.pcep_messages.specs.Spelling.{IsWritten}
use Rattle.disclosure.specs.Shown.{open_of}
use Rattle.request_table.specs.Pending.{same_peer}
use Rattle.plant_text.specs.Names.{parent_as, same_as}
use Rattle.plant_play.specs.plant_model.declared.event.Event.{Event}
use Rattle.plant_play.specs.plant_model.declared.event.Event.TheVariants as event
use Rattle.plant_play.specs.plant_model.declared.output.Output.{Output}
use Rattle.plant_play.specs.plant_model.Branches.{path_of}
use Rattle.plant_play.specs.plant_model.Element.{Element, Item, Row, is_client}
use Rattle.plant_play.specs.plant_model.Laws.{IsNetwork}
use Rattle.plant_play.specs.plant_model.Names.{the_parent}
use Rattle.plant_play.specs.plant_model.Parent.{Parent}
use Rattle.plant_play.specs.plant_model.Plant.{Entry, Pin, Plant, PlantDeed, Run, Segment, deeds_of}
use Rattle.plant_play.specs.plant_model.RealWire.{wire}
use Rattle.plant_play.specs.plant_model.Settings.{family, place}
use Rattle.plant_text.specs.Settings.{class_of}
use Rattle.plant_play.specs.plant_model.Parent as parent
use Rattle.plant_play.specs.plant_model.Taking as taking
use Rattle.plant_play.specs.plant_model.State.{Clears, Downs, Expires, Hands, Loads, Pops, Says, Solves, Takes, Ups}
use Rattle.plant_play.specs.plant_model.Writing.{busy, error_message, reply_message}
use Rattle.run_laws.specs.plant_laws.Causes.{AnswersLost, Comes, HasCause, IsLost, IsLostAbove, OfSession, OfSolve, OnPassed, Passes as Passed, anew, asker_above, asker_of, begins, by_element, by_parent, by_table, came_along, came_first, from_inside, from_outside, left_above, left_rows, of_element, of_parent, ticks}
use Rattle.run_laws.specs.plant_laws.MessageCauses.{Asker, OnMessage, OnRequest, OnRequestAbove, WaitsAbove, WaitsAt, parts}
use Rattle.run_laws.specs.plant_laws.Solves as solves
use Rattle.run_laws.specs.plant_laws.Sending.{AllSent}
use Rattle.run_laws.specs.plant_laws.Transcript.{Delivered, Transcript, Within, answers_to, count_answers, opened}
use Rattle.run_laws.proofs.plant_laws.plant_model.WireLaws.{wire_is_codec}
use Rattle.run_laws.proofs.plant_laws.Numbering.Sends.{IsAlone}
use Rattle.run_laws.proofs.plant_laws.Once.Alone.{takes_alone}
use Rattle.run_laws.proofs.plant_laws.Once.AskedRuns.{none_outside}
use Rattle.run_laws.proofs.plant_laws.Once.Besides.{answers_in, besides_asking}
use Rattle.run_laws.proofs.plant_laws.Once.Founded.{founded_within, run_founded}
use Rattle.run_laws.proofs.plant_laws.Once.Handing.{In}
use Rattle.run_laws.proofs.plant_laws.Runs.Moments.{opened_within, peer_is, within_here, within_trans}
use Rattle.run_laws.proofs.plant_laws.WrittenForm.Again.{all_read}
use Rattle.run_laws.proofs.plant_laws.WrittenForm.RequestsWritten.{requests_are_single}
use Rattle.plant_client.specs.declared.question.Question.{Question}
use Rattle.run_laws.specs.Outlets.{outputs_of}
use Rattle.client_laws.specs.Asked.{AsksOnly}
use Rattle.client_laws.proofs.Answered.{no_flags, read_so}
use Rattle.client_laws.proofs.Opening.{IsOfOthers}
use Rattle.client_laws.proofs.Words.{AreNoReplies, Denies, Each, IsDenial, Passes, asks_plain, failed, full, none, notes_plain, on_lost, on_parts, on_reply, on_request, on_request_above, replies_plain, reports_plain}

-- what answers the question is one of these
pub data IsFinal (x : ℕ) (m : Message) : Type 0 where
  of_reply : (answer : Answer) → m ≡ reply_message 0 x answer → IsFinal x m
  denial : IsDenial x m → IsFinal x m
  refused : (flags kind value : ℕ) → m ≡ error_message (Some (flags, x)) kind value → IsFinal x m

counts : (y : ℕ) (m : Message) → IsDenial y m → 1 ≤ count_answers y m
counts y m (none flags nature vector is) = subst (λ (z : Message). 1 ≤ count_answers y z) (sym is) (rw (eq-eqb y y refl) (omega arith))
counts y m (full flags is) = subst (λ (z : Message). 1 ≤ count_answers y z) (sym is) (rw (eq-eqb y y refl) (omega arith))
counts y m (failed flags is) = subst (λ (z : Message). 1 ≤ count_answers y z) (sym is) (rw (eq-eqb y y refl) (omega arith))

reply_counts : (flags y : ℕ) (answer : Answer) → 1 ≤ count_answers y (reply_message flags y answer)
reply_counts flags y answer = rw (eq-eqb y y refl) (omega arith)

same_row : {T : Type 0} (row : ℕ × Held T) (k : ℕ) (held : Held T) → row.0 ≡ k → row.1 ≡ held → row ≡ (k, held)
same_row {T} row k held number is = ap (λ (x : ℕ). (x, row.1)) number ∙ ap (λ (h : Held T). (k, h)) is

-- a row that is found is one of the rows
found_row : {T : Type 0} (k : ℕ) (rows : List (ℕ × Held T)) (held : Held T) → lookup (nat_eq k) rows ≡ Some held → Contains rows (k, held)
found_row k [] held e = (let out : None ≡ Some held = e in cc)
found_row {T} k (row ∷ rows) held e = elim (cases_Bool (nat_eq k row.0)) [
  | inl hit ↦
      let at : Some row.1 ≡ Some held = rw hit at e in
      let is : row.1 ≡ held = cc in
      subst (λ (z : ℕ × Held T). Contains (row ∷ rows) z) (same_row row k held (sym (eqb-true k row.0 hit)) is) (contains_head row rows)
  | inr miss ↦ contains_tail row rows (k, held) (found_row k rows held (rw miss at e))
]

later_within : (e : PlantDeed) (older now : Transcript) → Within (e ∷ older) now → Within older now
later_within e older [] h = (let no : e ∷ older ≡ [] = h in cc)
later_within e older (d ∷ ds) (inl same) = let tails : older ≡ ds = cc in inr (subst (λ (t : Transcript). Within t ds) (sym tails) (within_here ds))
later_within e older (d ∷ ds) (inr h) = inr (later_within e older ds h)

module _ (n : NetworkParts) (net : IsNetwork n) (i : ℕ) (q : Question) (es : List Entry) (s : Plant) (run : Run wire n es s) (only : AsksOnly n es i q) where
  abbrev now : Transcript
  now = deeds_of wire n es

  pub not_above : (m : Transcript) (r : Request) → Within m now → Delivered wire m parent_as (Outside i) r → ⊥
  not_above [] r within delivered = delivered
  not_above (e ∷ older) r within delivered =
      none_outside n net wire wire_is_codec es s run i (messages.PcReq (delivered.0 ∷ [])) delivered.1 older (subst (λ (x : PlantDeed). Within (x ∷ older) now) delivered.2 within)

  -- a request of the client that was delivered is the question
  pub its_own : (at : As) (m : Transcript) (r : Request) → Within m now → Delivered wire m at (Outside i) r → (r.id ≡ q.id) × (r.flags ≡ 0)
  its_own at m r within delivered =
      let real : at ≢ parent_as = λ up. not_above m r within (subst (λ (d : As). Delivered wire m d (Outside i) r) up delivered) in
      let check = only at m r within delivered in
      (((read_so q at real).admitted r check).0, no_flags q at real r check)

  -- what is answered was open
  module _ (e : PlantDeed) (older : Transcript) (within : Within (e ∷ older) now) (at : As) (y : ℕ) (some : 1 ≤ answers_in at (Outside i) y e) where
    abbrev was_open : (m : Transcript) × (opened wire at (Outside i) y older ≡ Some m) × (r : Request) × Delivered wire m at (Outside i) r × (r.id ≡ y)
    was_open = (founded_within wire now (run_founded wire n es s run (requests_are_single wire wire_is_codec n net es s run)) e older within).found at (Outside i) y some

    named : y ≡ q.id
    named =
        let f = was_open in
        sym f.4 ∙ (its_own at f.0 f.2 (within_trans f.0 older now (opened_within wire at (Outside i) y older f.0 f.1) (later_within e older now within)) f.3).0

    low : at ≢ parent_as
    low up =
        let f = was_open in
        not_above f.0 f.2 (within_trans f.0 older now (opened_within wire at (Outside i) y older f.0 f.1) (later_within e older now within)) (subst (λ (d : As). Delivered wire f.0 d (Outside i) f.2) up f.3)

  pub some_answers : (y : ℕ) (os : List Output) (o : Output) → In o os → o.to ≡ Outside i → 1 ≤ count_answers y o.message → 1 ≤ answers_to (Outside i) y os
  some_answers y [] o there to one = absurd there
  some_answers y (x ∷ os) o (inl is) to one =
      subst (λ (z : Output). 1 ≤ cond (same_peer z.to (Outside i)) (count_answers y z.message) 0 + answers_to (Outside i) y os) is
      (subst (λ (p : Peer). 1 ≤ cond (same_peer p (Outside i)) (count_answers y o.message) 0 + answers_to (Outside i) y os) (sym to) (rw (eq-eqb i i refl) (omega (arith, one))))
  some_answers y (x ∷ os) o (inr there) to one = let rest = some_answers y os o there to one in omega (arith, rest)

  -- where each denial of these is of the question
  finals : (all : List Output) → ((y : ℕ) → 1 ≤ answers_to (Outside i) y all → y ≡ q.id) → (os : List Output) → ((o : Output) → In o os → In o all) → Each i Denies os → Each i (IsFinal q.id) os
  finals all own [] among h = tt
  finals all own (o ∷ os) among h = (
    λ to. (let w = h.0 to in denial (subst (λ (y : ℕ). IsDenial y o.message) (own w.0 (some_answers w.0 all o (among o (inl refl)) to (counts w.0 o.message w.1))) w.1)),
    finals all own os (λ x is. among x (inr is)) h.1,
  )

  pub all_final : (os : List Output) → ((y : ℕ) → 1 ≤ answers_to (Outside i) y os → y ≡ q.id) → Each i Denies os → Each i (IsFinal q.id) os
  all_final os own h = finals os own os (λ o is. is) h

-- ---- the deeds of an event of others

module _ (n : NetworkParts) (net : IsNetwork n) (i : ℕ) (q : Question) (downs : StaysInside n) (es : List Entry) (s : Plant) (run : Run wire n es s) (only : AsksOnly n es i q)
    (written : AllSent IsWritten (deeds_of wire n es)) (before : Plant) (tables : (d : As) (h : Row Pin) → Contains (before.elements d).pending.rows h → (h.1.key.peer ≡ Outside i) → (h.1.key.id ≡ q.id) × (h.1.item.flags ≡ 0)) (e : Event) (others : IsOfOthers e) where
  abbrev Final : List Output → Type 0
  Final os = Each i (IsFinal q.id) os

  no_take : (j : ℕ) (x : Event) → x ≡ event.Take j → IsOfOthers x → ⊥
  no_take j x is of = subst IsOfOthers is of

  -- whoever speaks is no outside peer
  speaker : (at : As) (p : Peer) (m : Message) → Passed wire n before e at p m → p ≡ Outside i → ⊥
  speaker at p m (from_outside j x bytes rest raw is there inbox read acts heeds own peer) to = no_take j e is others
  speaker at p m (from_inside a bytes rest is linked queue read acts peer) to = (let clash : Inner a ≡ Outside i = sym peer ∙ to in cc)

  -- what the parent told is passed on to who asked
  passed : (at : As) (p : Peer) (y : ℕ) (m : Message) → (a : Asker) × (answer : Answer) × WaitsAt (before.elements at) p y a × (a.peer ≡ Outside i) × (m ≡ reply_message a.flags a.id answer) → IsFinal q.id m
  passed at p y m h =
      let w = h.2 in
      let asked : h.0 ≡ record { peer = w.row.1.key.peer; flags = w.row.1.item.flags; id = w.row.1.key.id } = w.asked in
      let own = tables at w.row w.is_row (sym (ap (λ (a : Asker). a.peer) asked) ∙ h.3) in
      of_reply h.1 (h.4 ∙ ap (λ (x : ℕ). reply_message x h.0.id h.1) (ap (λ (a : Asker). a.flags) asked ∙ own.1) ∙ ap (λ (x : ℕ). reply_message 0 x h.1) (ap (λ (a : Asker). a.id) asked ∙ own.0))

  module _ (at : As) (p : Peer) (os : List Output) (other : p ≡ Outside i → ⊥) (own : (y : ℕ) → 1 ≤ answers_to (Outside i) y os → y ≡ q.id) where
    asked_here : (a : Asked) (k : Element Pin Segment) (os' : List Output) → OnRequest wire n at p before.clock a k os' → Each i Denies os'
    asked_here a k os' on = on_request i wire n downs at p other before.clock a k os' on

    plain_here : (m : Message) → AreNoReplies i (same_peer p the_parent) (parts m) → OnMessage wire n at (before.current at) p before.clock m (before.elements at) os → Final os
    plain_here m plain on =
        all_final n net i q es s run only os own
        (on_parts i (Element Pin Segment) (λ k'. WaitsAt k' p) (OnRequest wire n at p before.clock) (λ m' k'. (taking.take wire open_of (place n at) (before.current at) p (class_of n p) before.clock m' k').element)
        (same_peer p the_parent) p other asked_here (parts m) plain (before.elements at) os on)

    abbrev Told : Reply → Message → Type 0
    Told r m = Denies m ⊎ Passes (WaitsAt (before.elements at) p r.id) (Outside i) m

    replied_here : (r : Reply) (all : List Output) → ((y : ℕ) → 1 ≤ answers_to (Outside i) y all → y ≡ q.id) → (os' : List Output) → ((o : Output) → In o os' → In o all) → Each i (Told r) os' → Final os'
    replied_here r all own' [] among h = tt
    replied_here r all own' (o ∷ os') among h = (λ to. by (h.0 to) to, replied_here r all own' os' (λ x is. among x (inr is)) h.1)
      where
        by : Told r o.message → o.to ≡ Outside i → IsFinal q.id o.message
        by (inl w) to = denial (subst (λ (y : ℕ). IsDenial y o.message) (own' w.0 (some_answers n net i q es s run only w.0 all o (among o (inl refl)) to (counts w.0 o.message w.1))) w.1)
        by (inr w) to = passed at p r.id o.message w

    by_message : (m : Message) → IsAlone m → OnMessage wire n at (before.current at) p before.clock m (before.elements at) os → Final os
    by_message (messages.PcReq asks) alone on = plain_here (messages.PcReq asks) (asks_plain i (same_peer p the_parent) asks) on
    by_message (messages.PcRep []) alone on = plain_here (messages.PcRep []) tt on
    by_message (messages.PcRep (r ∷ [])) alone on =
        let first : os ≡ on.0 = on.2 ∙ ap (λ (l : List Output). on.0 ++ l) on.4 ∙ append-nil on.0 in
        subst Final (sym first)
        (replied_here r on.0 (λ y some. own y (subst (λ (l : List Output). 1 ≤ answers_to (Outside i) y l) (sym first) some)) on.0 (λ o is. is) (on_reply i (WaitsAt (before.elements at) p r.id) (same_peer p the_parent) p r on.0 other on.3))
    by_message (messages.PcRep (r ∷ r' ∷ rs)) alone on = absurd (omega (arith, alone))
    by_message (messages.PcNtf notices) alone on = plain_here (messages.PcNtf notices) (notes_plain i (same_peer p the_parent) notices) on
    by_message (messages.PcErr reports) alone on = plain_here (messages.PcErr reports) (reports_plain i (same_peer p the_parent) reports) on
    by_message (messages.Open body) alone on = plain_here (messages.Open body) tt on
    by_message messages.Keepalive alone on = plain_here messages.Keepalive tt on
    by_message (messages.Close why) alone on = plain_here (messages.Close why) tt on
    by_message (messages.Other kind) alone on = plain_here (messages.Other kind) tt on

  -- what is said in this deed, but to a message of the client that asks
  in_take : (at : As) (p : Peer) (m : Message) (os : List Output) (y : ℕ) → (p ≡ Outside i → ⊥) → 1 ≤ answers_to (Outside i) y os → 1 ≤ answers_in at (Outside i) y (Takes at p m os)
  in_take at p m os y other some = rw (eq-eqb at.0 at.0 refl) (by m)
    where
      by : (m' : Message) → 1 ≤ besides_asking (Outside i) p m' (answers_to (Outside i) y os)
      by (messages.PcReq asks) = elim (cases_Bool (same_peer p (Outside i))) [ inl hit ↦ absurd (other (peer_is p (Outside i) hit)) | inr miss ↦ rw miss some ]
      by (messages.PcRep replies) = some
      by (messages.PcNtf notices) = some
      by (messages.PcErr reports) = some
      by (messages.Open body) = some
      by messages.Keepalive = some
      by (messages.Close why) = some
      by (messages.Other kind) = some

  above_plain : (m : Message) → AreNoReplies i false (parts m)
  above_plain (messages.PcReq asks) = asks_plain i false asks
  above_plain (messages.PcRep replies) = replies_plain i false refl replies
  above_plain (messages.PcNtf notices) = notes_plain i false notices
  above_plain (messages.PcErr reports) = reports_plain i false reports
  above_plain (messages.Open body) = tt
  above_plain messages.Keepalive = tt
  above_plain (messages.Close why) = tt
  above_plain (messages.Other kind) = tt

  -- no session of the client speaks
  not_said : (earlier : Transcript) (at : As) (o : Output) → OfSession wire n before e earlier at o → o.to ≡ Outside i → ⊥
  not_said earlier at o (by_table x came o' comes there is) to = go comes
    where
      go : Comes wire n before e at o.to x came → ⊥
      go (begins j holder is' own peer session input) = subst IsOfOthers is' others
      go (came_first j k item rest is' own peer connection inbox session input) = no_take j e is' others
      go (came_along a bytes rest is' peer linked queue session input) = (let clash : Inner a ≡ Outside i = sym peer ∙ to in cc)
      go (ticks t is' input) = subst IsOfOthers is' others
  not_said earlier at o (anew a b sid cleared (inl here) is) to = (let clash : Inner b ≡ Outside i = sym here.1 ∙ to in cc)
  not_said earlier at o (anew a b sid cleared (inr here) is) to = (let clash : Inner a ≡ Outside i = sym here.1 ∙ to in cc)

  -- a job is solved for the client
  module _ (d : As) (k : ℕ) (held : Held (Item Pin)) (there : lookup (nat_eq k) (before.elements d).pending.rows ≡ Some held) where
    abbrev mine : held.key.peer ≡ Outside i → (held.key.id ≡ q.id) × (held.item.flags ≡ 0)
    mine to = tables d (k, held) (found_row k (before.elements d).pending.rows held there) to

    solved_reply : (answer : Answer) (m : Message) → m ≡ reply_message held.item.flags held.key.id answer → held.key.peer ≡ Outside i → IsFinal q.id m
    solved_reply answer m is to =
        of_reply answer (is ∙ ap (λ (x : ℕ). reply_message x held.key.id answer) (mine to).1 ∙ ap (λ (x : ℕ). reply_message 0 x answer) (mine to).0)

    solved_busy : (m : Message) → m ≡ busy held.item.flags held.key.id → held.key.peer ≡ Outside i → IsFinal q.id m
    solved_busy m is to = denial (full held.item.flags (is ∙ ap (λ (x : ℕ). busy held.item.flags x) (mine to).0))

  solved_final : (at : As) (k : ℕ) (os : List Output) (keys : _) (older : Transcript) → Within (Solves at k os keys ∷ older) (deeds_of wire n es) → OfSolve wire n before e (Solves at k os keys) → Final os
  solved_final at k os keys older within (of_element d k' is tells) =
      let same : os ≡ record { to = tells.held.key.peer; message = tells.message } ∷ [] = outs_are tells.sends_one in
      subst Final (sym same) (λ to. go (is_client tells.held.item.class) refl to, tt)
    where
      outs_are : {to : Peer} {m : Message} {keys' : _} → Solves at k os keys ∷ [] ≡ Solves d k' (record { to = to; message = m } ∷ []) keys' ∷ [] → os ≡ record { to = to; message = m } ∷ []
      outs_are e' = cc

      client : solves.TellsClient wire (k', tells.held) tells.down tells.rows tells.message → tells.held.key.peer ≡ Outside i → IsFinal q.id tells.message
      client (solves.its_path b best entry said) to = solved_reply d k' tells.held tells.is_held _ tells.message said to
      client (solves.no_pair none' said) to = solved_reply d k' tells.held tells.is_held _ tells.message said to

      closed : solves.TellsClosed wire (place n d) (k', tells.held) tells.down before.clock (before.elements d).keys tells.rows.best tells.message → tells.held.key.peer ≡ Outside i → IsFinal q.id tells.message
      closed (solves.branches some few said) to = solved_reply d k' tells.held tells.is_held _ tells.message said to
      closed (solves.no_branch none' said) to = solved_reply d k' tells.held tells.is_held _ tells.message said to
      closed (solves.lacks_keys few said) to = solved_busy d k' tells.held tells.is_held tells.message said to

      go : (b : Bool) → is_client tells.held.item.class ≡ b → tells.held.key.peer ≡ Outside i → IsFinal q.id tells.message
      go true is' to = client (tells.to_client is') to
      go false is' to = closed (tells.to_closed is') to
  solved_final at k os keys older within (of_parent k' is tells) = subst Final (sym same) (λ to. absurd (none_above to), tt)
    where
      held : Held parent.Asking
      held = tells.held

      same : os ≡ record { to = held.key.peer; message = tells.message } ∷ []
      same = (let e' : Solves at k os keys ∷ [] ≡ Solves parent_as k' (record { to = held.key.peer; message = tells.message } ∷ []) [] ∷ [] = tells.sends_one in cc)

      up : at ≡ parent_as
      up = (let e' : Solves at k os keys ∷ [] ≡ Solves parent_as k' (record { to = held.key.peer; message = tells.message } ∷ []) [] ∷ [] = tells.sends_one in cc)

      replied : solves.TellsUpper wire (k', held) tells.answer tells.message → 1 ≤ count_answers held.key.id tells.message
      replied (solves.found a is' said) = subst (λ (m : Message). 1 ≤ count_answers held.key.id m) (sym said) (reply_counts held.item.flags held.key.id (Paths (path_of wire held.item.wanted.query.metric a.cost a.hops ∷ [])))
      replied (solves.no_walk is' said) = subst (λ (m : Message). 1 ≤ count_answers held.key.id m) (sym said) (reply_counts held.item.flags held.key.id (NoPath no_paths.NONE_FOUND 0))

      none_above : held.key.peer ≡ Outside i → ⊥
      none_above to =
          let o : Output = record { to = held.key.peer; message = tells.message } in
          let one : 1 ≤ answers_to (Outside i) held.key.id (o ∷ []) = some_answers n net i q es s run only held.key.id (o ∷ []) o (inl refl) to (replied tells.tells) in
          let some : 1 ≤ answers_in at (Outside i) held.key.id (Solves at k os keys) = rw (eq-eqb at.0 at.0 refl) (subst (λ (l : List Output). 1 ≤ answers_to (Outside i) held.key.id l) (sym same) one) in
          low n net i q es s run only (Solves at k os keys) older within at held.key.id some up

  pub deed_final : (deed : PlantDeed) (older : Transcript) → Within (deed ∷ older) (deeds_of wire n es) → (earlier : Transcript) → HasCause wire n before e earlier deed → Final (outputs_of deed)
  deed_final (Takes at p m os) older within earlier cause = go cause.1
    where
      other : p ≡ Outside i → ⊥
      other = speaker at p m cause.0

      own : (y : ℕ) → 1 ≤ answers_to (Outside i) y os → y ≡ q.id
      own y some = named n net i q es s run only (Takes at p m os) older within at y (in_take at p m os y other some)

      go : OnPassed wire n before e at p m os → Final os
      go (by_element upper on) = by_message at p os other own m (takes_alone wire wire_is_codec n es s run (all_read wire wire_is_codec (deeds_of wire n es) written) at p m os older within) on
      go (by_parent upper on) =
          all_final n net i q es s run only os own
          (on_parts i Parent (λ k'. WaitsAbove k' p) (OnRequestAbove wire n p) (λ m' k'. (parent.take wire (family n) p m' k').parent) false p other
          (λ a k os' on'. on_request_above i wire n p other a k os' on') (parts m) (above_plain m) before.parent os on)
  deed_final (Says at o) older within earlier cause = (λ to. absurd (not_said earlier at o cause to), tt)
  deed_final (Downs at p os) older within earlier cause = all_final n net i q es s run only os own (go (same_as at parent_as) cause)
    where
      own : (y : ℕ) → 1 ≤ answers_to (Outside i) y os → y ≡ q.id
      own y some = named n net i q es s run only (Downs at p os) older within at y (rw (eq-eqb at.0 at.0 refl) some)

      go : (b : Bool) → cond b (AnswersLost (IsLostAbove p) asker_above (left_above before.parent.pending.rows earlier) os) (AnswersLost (IsLost p) asker_of (left_rows at (before.elements at).pending.rows earlier) os) → Each i Denies os
      go true lost = on_lost i (IsLostAbove p) asker_above (left_above before.parent.pending.rows earlier) os lost
      go false lost = on_lost i (IsLost p) asker_of (left_rows at (before.elements at).pending.rows earlier) os lost
  deed_final (Solves at k os keys) older within earlier cause = solved_final at k os keys older within cause
  deed_final _ older within earlier cause = tt
