-- What closed peers hear of an event, by its answer and its messages.
use Rattle.std.proofs.Common.{◌≡◌, ℕ, zero, suc, Bool, true, false, cond, ◌==◌, drop, option_map, List, [], ◌∷◌, ◌++◌, Option, Some, None, Ok, inl, inr, sym, ◌∙◌, subst, ap, refl}
use Rattle.std.specs.Prelude.{is_some, slice_get}
use Rattle.std.specs.List.{flat_map}
use Rattle.plant_network.specs.plant_model.Types.{As, BorderRow, Peer, Outside, Sent, NetworkParts}
use Rattle.pcep_framing.specs.Frames.{joined}
use Rattle.plant_text.specs.Sents.{sent_line}
use Rattle.plant_text.specs.Settings.{is_linked, peer_row}
use Rattle.plant_text.specs.Settings.{adjacency}
use Rattle.plant_network.specs.plant_model.declared.event.BlindEvent.{BlindEvent}
use Rattle.plant_network.specs.plant_model.declared.event.BlindEvent.TheVariants as blind
use Rattle.plant_network.specs.plant_model.declared.outcome.Outcome.TheVariants as outcome
use Rattle.plant_network.specs.plant_model.declared.outcome.Refused.TheVariants as refused
use Rattle.plant_network.specs.plant_model.Blind.{BlindHappened, BlindHappens, BlindState, Drained, Heard, Message, Nothing, SolveHappens, done as blind_done, happened, heard, heard_in, heard_of, is_accepted, is_closed, show_nothing}
use Rattle.plant_network.specs.plant_model.Solving.{job_found}
use Rattle.plant_network.specs.plant_model.Deeds as deeds
use Rattle.plant_network.specs.plant_model.Deeds.{Going}
use Rattle.plant_network.specs.plant_model.Events as events
use Rattle.plant_network.specs.plant_model.RealWire.{wire}
use Rattle.plant_network.specs.plant_model.State.{Connection, Deed, Loads, Pops, Takes, Says, Ups, Downs, Clears, Solves, Expires, Hands, said, sent_in}
use Rattle.plant_network.specs.plant_model.Wire.{Bytes}
use Rattle.transcript.specs.Lines.{answer_line, name_of}
use Rattle.blind_play.specs.Making.{closed_text, drain_text, drainer_of}
use Rattle.blind_play.specs.Turns.{heard_text, is_ended}
use Rattle.blind_play.proofs.MuteLemmas.{IsMute, IsMuteDeed, break_mute, carry_mute, feed_mute, open_mute, shut_mute, take_mute, tick_mute}

-- ---- messages

module _ (n : NetworkParts) where
  heard_append : (xs ys : List Sent) → heard_of n (xs ++ ys) ≡ heard_of n xs ++ heard_of n ys
  heard_append [] ys = refl
  heard_append (x ∷ xs) ys = go (is_closed n x.to) (heard_append xs ys)
    where
      go : (b : Bool) → heard_of n (xs ++ ys) ≡ heard_of n xs ++ heard_of n ys →
          cond b (Message x ∷ heard_of n (xs ++ ys)) (heard_of n (xs ++ ys)) ≡ cond b (Message x ∷ heard_of n xs) (heard_of n xs) ++ heard_of n ys
      go true is = ap (λ (hs : List Heard). Message x ∷ hs) is
      go false is = is

  mute_deed : {S : Type 0} (d : Deed S) → IsMuteDeed d → heard_in wire n d ≡ heard_of n (sent_in wire d)
  mute_deed (Hands i bytes) mute = absurd mute
  mute_deed _ mute = refl

  -- where nothing is handed out messages are all that is heard
  mute_heard : {S : Type 0} (ds : List (Deed S)) → IsMute ds → heard wire n ds ≡ heard_of n (said wire ds)
  mute_heard [] mute = refl
  mute_heard (d ∷ ds) mute =
      ap (λ (hs : List Heard). hs ++ heard_in wire n d) (mute_heard ds mute.1)
      ∙ ap (λ (hs : List Heard). heard_of n (said wire ds) ++ hs) (mute_deed d mute.0)
      ∙ sym (heard_append (said wire ds) (sent_in wire d))

  -- messages are told in one way, whether or not a session is over
  alike : (line : ℕ) (ended : Bool) (sents : List Sent) → flat_map (heard_text line n.peers ended) (heard_of n sents) ≡ closed_text line n sents
  alike line ended [] = refl
  alike line ended (x ∷ xs) = go (is_closed n x.to) (alike line ended xs)
    where
      go : (b : Bool) → flat_map (heard_text line n.peers ended) (heard_of n xs) ≡ closed_text line n xs →
          flat_map (heard_text line n.peers ended) (cond b (Message x ∷ heard_of n xs) (heard_of n xs)) ≡ flat_map (heard_text line n.peers false) (cond b (Message x ∷ heard_of n xs) (heard_of n xs))
      go true is = ap (λ (t : List ℕ). sent_line line x.from (name_of n.peers x.to) x.bytes ++ t) is
      go false is = is

-- ---- one event

module _ (line : ℕ) (n : NetworkParts) where
  -- of an accepted event is told what a closed peer drained, and messages
  abbrev pub IsTold : Option ℕ → BlindHappened → Type 0
  IsTold drainer h =
      is_accepted h.answer ≡ true →
      flat_map (heard_text line n.peers (is_ended h.answer)) (heard wire n h.deeds) ≡ drain_text line n drainer h.answer ++ closed_text line n (said wire h.deeds)

  -- a refused event has no deeds
  abbrev pub IsSilent : BlindHappened → Type 0
  IsSilent h = is_accepted h.answer ≡ false → h.deeds ≡ []

  mute_told : (h : BlindHappened) → IsMute h.deeds → IsTold None h
  mute_told h mute = λ yes.
      ap (λ (hs : List Heard). flat_map (heard_text line n.peers (is_ended h.answer)) hs) (mute_heard n h.deeds mute) ∙ alike n line (is_ended h.answer) (said wire h.deeds)

  drain_told : (i holder : ℕ) (s : BlindState) → IsTold (Some i) (events.drain Nothing Nothing wire n show_nothing i holder s)
  drain_told i holder s = go (s.accesses i).connection
    where
      handed : (bytes : Bytes) (ended b : Bool) →
          flat_map (heard_text line n.peers ended) (cond b (Drained i bytes ∷ []) []) ≡ cond b (answer_line line (Ok (outcome.Drained bytes ended))) [] ++ []
      handed bytes ended true = refl
      handed bytes ended false = refl

      of_holder : (x : Connection) (b : Bool) →
          IsTold (Some i) (cond b
          (record {
            answer = Ok (outcome.Drained (joined x.out) (events.is_down x.session.phase));
            state = deeds.with_access Nothing Nothing wire n show_nothing i events.drained s;
            deeds = Hands i (joined x.out) ∷ [];
          })
          (events.refused Nothing Nothing wire n show_nothing (refused.NotHolder x.holder) s))
      of_holder x true = λ yes. handed (joined x.out) (events.is_down x.session.phase) (is_closed n (Outside i))
      of_holder x false = λ yes. absurd (let no : false ≡ true = yes in cc)

      go : (o : Option Connection) → IsTold (Some i) (events.drain_open Nothing Nothing wire n show_nothing i holder s o)
      go None = λ yes. absurd (let no : false ≡ true = yes in cc)
      go (Some x) = of_holder x (x.holder == holder)

  -- ---- which events are refused

  answered : (h : BlindHappened) → is_accepted h.answer ≡ true → IsSilent h
  answered h ok = λ other. absurd (let both : true ≡ false = sym ok ∙ other in cc)

  choose : (b : Bool) (g h : BlindHappened) → IsSilent g → IsSilent h → IsSilent (cond b g h)
  choose true g h x y = x
  choose false g h x y = y

  open_silent : (i holder : ℕ) (s : BlindState) → IsSilent (events.open_peer Nothing Nothing wire n show_nothing i holder s)
  open_silent i holder s =
      choose (is_some (peer_row i n.peers)) (events.open_new Nothing Nothing wire n show_nothing i holder s (s.accesses i).connection)
      (events.refused Nothing Nothing wire n show_nothing refused.NoSuchPeer s) (go (s.accesses i).connection) (λ no. refl)
    where
      go : (o : Option Connection) → IsSilent (events.open_new Nothing Nothing wire n show_nothing i holder s o)
      go None = λ no. absurd (let both : true ≡ false = no in cc)
      go (Some x) = λ no. refl

  shut_silent : (i : ℕ) (s : BlindState) → IsSilent (events.shut Nothing Nothing wire n show_nothing i s)
  shut_silent i s = go (s.accesses i).connection
    where
      go : (o : Option Connection) → IsSilent (events.shut_open Nothing Nothing wire n show_nothing i s o)
      go None = λ no. refl
      go (Some x) = λ no. absurd (let both : true ≡ false = no in cc)

  feed_silent : (i : ℕ) (bytes : Bytes) (s : BlindState) → IsSilent (events.feed Nothing Nothing wire n show_nothing i bytes s)
  feed_silent i bytes s = go (s.accesses i).connection
    where
      go : (o : Option Connection) → IsSilent (events.feed_open Nothing Nothing wire n show_nothing i bytes s o)
      go None = λ no. refl
      go (Some x) = λ no. refl

  take_silent : (i : ℕ) (s : BlindState) → IsSilent (events.take Nothing Nothing wire n show_nothing i s)
  take_silent i s = go (s.accesses i).connection
    where
      item : (inbox : List (Option Bytes)) → IsSilent (events.take_item Nothing Nothing wire n show_nothing i s inbox)
      item [] = λ no. refl
      item (x ∷ rest) = λ no. absurd (let both : true ≡ false = no in cc)

      go : (o : Option Connection) → IsSilent (events.take_open Nothing Nothing wire n show_nothing i s o)
      go None = λ no. refl
      go (Some x) = item x.inbox

  carry_silent : (a b : As) (s : BlindState) → IsSilent (events.carry Nothing Nothing wire n show_nothing a b s)
  carry_silent a b s =
      choose (is_linked n a b) (events.carry_first Nothing Nothing wire n show_nothing a b s (s.queues a b)) (events.refused Nothing Nothing wire n show_nothing refused.NoSuchPeer s)
      (go (s.queues a b)) (λ no. refl)
    where
      go : (queue : List Bytes) → IsSilent (events.carry_first Nothing Nothing wire n show_nothing a b s queue)
      go [] = λ no. refl
      go (x ∷ rest) = λ no. absurd (let both : true ≡ false = no in cc)

  break_silent : (a b : As) (s : BlindState) → IsSilent (events.break Nothing Nothing wire n show_nothing a b s)
  break_silent a b s = go (is_linked n a b)
    where
      go : (linked : Bool) → IsSilent (cond linked (events.answered Nothing Nothing wire n show_nothing outcome.Done (deeds.break_adjacency Nothing Nothing wire n show_nothing (adjacency a b) (record { state = s; deeds = [] }))) (events.refused Nothing Nothing wire n show_nothing refused.NoSuchPeer s))
      go true = λ no. absurd (let both : true ≡ false = no in cc)
      go false = λ no. refl

  drain_silent : (i holder : ℕ) (s : BlindState) → IsSilent (events.drain Nothing Nothing wire n show_nothing i holder s)
  drain_silent i holder s = go (s.accesses i).connection
    where
      of_holder : (x : Connection) (b : Bool) →
          IsSilent (cond b
          (record {
            answer = Ok (outcome.Drained (joined x.out) (events.is_down x.session.phase));
            state = deeds.with_access Nothing Nothing wire n show_nothing i events.drained s;
            deeds = Hands i (joined x.out) ∷ [];
          })
          (events.refused Nothing Nothing wire n show_nothing (refused.NotHolder x.holder) s))
      of_holder x true = λ no. absurd (let both : true ≡ false = no in cc)
      of_holder x false = λ no. refl

      go : (o : Option Connection) → IsSilent (events.drain_open Nothing Nothing wire n show_nothing i holder s o)
      go None = λ no. refl
      go (Some x) = of_holder x (x.holder == holder)

  -- ---- all events

  abbrev IsFair : Option ℕ → BlindHappened → Type 0
  IsFair drainer h = IsTold drainer h × IsSilent h

  -- a job that is answered
  solved_fair : (g : Going Nothing Nothing) (h : BlindHappened) → IsMute g.deeds → h ≡ blind_done wire n g → IsFair None h
  solved_fair g h mute is =
      let ok : is_accepted h.answer ≡ true = ap (λ (y : BlindHappened). is_accepted y.answer) is in
      (mute_told h (subst (λ (y : BlindHappened). IsMute y.deeds) (sym is) mute), answered h ok)

  solve_fair : (d : As) (k : ℕ) (rows : List BorderRow) (s : BlindState) (h : BlindHappened) → SolveHappens wire n d k rows s h → IsFair None h
  solve_fair d k rows s h (inl x) = subst (IsFair None) (sym x.1) (mute_told (events.refused Nothing Nothing wire n show_nothing refused.NoSuchPeer s) tt, λ no. refl)
  solve_fair d k rows s h (inr (inl x)) = subst (IsFair None) (sym x.2) (mute_told (events.refused Nothing Nothing wire n show_nothing refused.NoSuchJob s) tt, λ no. refl)
  solve_fair d k rows s h (inr (inr (inl x))) =
      let p = x.1 in
      solved_fair (deeds.solve Nothing Nothing wire n show_nothing d (k, p.held) p.down (λ b. tt) (job_found true true p.best) s) h (tt, tt) p.is
  solve_fair d k rows s h (inr (inr (inr x))) = let p = x.2 in solved_fair (deeds.solve_upper Nothing Nothing wire n show_nothing (k, p.held) p.answer s) h (tt, tt) p.is

  one_fair : (e : BlindEvent) (s : BlindState) (h : BlindHappened) → h ≡ happened wire n s e → IsFair (drainer_of e) (happened wire n s e) → IsFair (drainer_of e) h
  one_fair e s h is fair = subst (IsFair (drainer_of e)) (sym is) fair

  all_fair : (e : BlindEvent) (s : BlindState) (h : BlindHappened) → BlindHappens wire n s e h → IsFair (drainer_of e) h
  all_fair (blind.Open i holder) s h is = one_fair (blind.Open i holder) s h is (mute_told (happened wire n s (blind.Open i holder)) (open_mute Nothing Nothing wire n show_nothing i holder s), open_silent i holder s)
  all_fair (blind.Shut i) s h is = one_fair (blind.Shut i) s h is (mute_told (happened wire n s (blind.Shut i)) (shut_mute Nothing Nothing wire n show_nothing i s), shut_silent i s)
  all_fair (blind.Feed i bytes) s h is = one_fair (blind.Feed i bytes) s h is (mute_told (happened wire n s (blind.Feed i bytes)) (feed_mute Nothing Nothing wire n show_nothing i bytes s), feed_silent i bytes s)
  all_fair (blind.Take i) s h is = one_fair (blind.Take i) s h is (mute_told (happened wire n s (blind.Take i)) (take_mute Nothing Nothing wire n show_nothing i s), take_silent i s)
  all_fair (blind.Carry a b) s h is = one_fair (blind.Carry a b) s h is (mute_told (happened wire n s (blind.Carry a b)) (carry_mute Nothing Nothing wire n show_nothing a b s), carry_silent a b s)
  all_fair (blind.Break a b) s h is = one_fair (blind.Break a b) s h is (mute_told (happened wire n s (blind.Break a b)) (break_mute Nothing Nothing wire n show_nothing a b s), break_silent a b s)
  all_fair (blind.Tick t) s h is =
      one_fair (blind.Tick t) s h is (mute_told (happened wire n s (blind.Tick t)) (tick_mute Nothing Nothing wire n show_nothing t.0 s), answered (happened wire n s (blind.Tick t)) refl)
  all_fair (blind.Drain i holder) s h is = one_fair (blind.Drain i holder) s h is (drain_told i holder s, drain_silent i holder s)
  all_fair (blind.Solve d k rows) s h is = solve_fair d k rows s h is

  pub is_told : (e : BlindEvent) (s : BlindState) (h : BlindHappened) → BlindHappens wire n s e h → IsTold (drainer_of e) h
  is_told e s h is = (all_fair e s h is).0

  pub is_silent : (e : BlindEvent) (s : BlindState) (h : BlindHappened) → BlindHappens wire n s e h → IsSilent h
  is_silent e s h is = (all_fair e s h is).1

-- ---- the k-th message

abbrev way_of : Sent → As × Peer
way_of s = (s.from, s.to)

-- it is the first of those from there on, and is told where it goes to a closed peer
pub closed_next : (line : ℕ) (n : NetworkParts) (k : ℕ) (ss : List Sent) (way : As × Peer) (bytes : List ℕ) →
    option_map {U = As × Peer} (λ (s : Sent). (s.from, s.to)) (slice_get ss k) ≡ Some way → option_map (λ (s : Sent). s.bytes) (slice_get ss k) ≡ Some bytes →
    closed_text line n (drop k ss) ≡ cond (is_closed n way.1) (sent_line line way.0 (name_of n.peers way.1) bytes) [] ++ closed_text line n (drop (suc k) ss)
closed_next line n zero [] way bytes is told = absurd (let no : None ≡ Some bytes = told in cc)
closed_next line n (suc k) [] way bytes is told = absurd (let no : None ≡ Some bytes = told in cc)
closed_next line n zero (s ∷ ss) way bytes is told =
    let one : Some (way_of s) ≡ Some way = is in
    let two : Some s.bytes ≡ Some bytes = told in
    let w : way_of s ≡ way = cc in
    let b : s.bytes ≡ bytes = cc in
    first (is_closed n s.to)
    ∙ ap (λ (a : As × Peer). cond (is_closed n a.1) (sent_line line a.0 (name_of n.peers a.1) s.bytes) [] ++ closed_text line n ss) w
    ∙ ap (λ (x : List ℕ). cond (is_closed n way.1) (sent_line line way.0 (name_of n.peers way.1) x) [] ++ closed_text line n ss) b
  where
    first : (closed : Bool) →
        flat_map (heard_text line n.peers false) (cond closed (Message s ∷ heard_of n ss) (heard_of n ss)) ≡ cond closed (sent_line line s.from (name_of n.peers s.to) s.bytes) [] ++ closed_text line n ss
    first true = refl
    first false = refl
closed_next line n (suc k) (s ∷ ss) way bytes is told = closed_next line n k ss way bytes is told
