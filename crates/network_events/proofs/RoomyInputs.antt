-- The room that is kept is enough for an input that passes nothing on, and stays so: where room was made for one more message, and where a session says
-- one only if nothing waits before it.
use Rattle.std.proofs.Common.{◌≡◌, ◌≤◌, ◌⊎◌, ℕ, ◌+◌, ◌*◌, Bool, true, false, not, cond, Option, Some, None, List, [], ◌∷◌, length, refl, ap, sym, subst, ◌∙◌, arith, inl, inr}
use Rattle.std.specs.Option.{option_map}
use Rattle.std.proofs.lemmas.Bool.{cases_Bool}
use Rattle.pce_common.specs.plant_model.Types.{As, Peer, Outside, Inner, Tick, Hop, Action, Own, Input, State as Session, NetworkParts}
use Rattle.pcep_session.specs.declared.actions.Action.TheVariants as action
use Rattle.pcep_session.specs.declared.actions.Own.TheVariants as saying
use Rattle.pcep_session.specs.declared.session.Input.TheVariants as input
use Rattle.pcep_session.specs.Table.{SessionStep, turn_of}
use Rattle.plant_queues.specs.Sents.{sent_of}
use Rattle.plant_text.specs.Settings.{adjacency, elements_of}
use Rattle.pce_common.specs.plant_model.declared.output.Lost.{Lost}
use Rattle.pce_common.specs.plant_model.Names.{is_empty}
use Rattle.pce_common.specs.plant_model.RealWire.{wire}
use Rattle.pce_common.specs.plant_model.State.{Connection}
use Rattle.pce_common.specs.plant_model.Deeds as deeds
use Rattle.pce_common.specs.plant_model.Deeds.{Going, any_fall, element_of, is_due, is_tick}
use Rattle.pce_common.specs.plant_model.Events.{is_down}
use Rattle.network_links.specs.Ends.{is_left_out, own_bytes, said_in}
use Rattle.network_links.specs.Flow.{Flow, KeepsRoomAt, queue_at, session_at}
use Rattle.network_events.specs.Accounts.{Accounts}
use Rattle.network_events.specs.Acting.{IsOwnTurn, Fits, FitsInput, FitsTurn, RoomToAct, RoomToBreakAt, size_in}
use Rattle.network_events.specs.Passing.{IsOf}
use Rattle.network_events.specs.Peers.{IsEnd, acts_at, breaks_by, input_at, is_out_empty_at}
use Rattle.pce_common.specs.Membership.{Membership, is_member, raised, fallen, lost_at}
use Rattle.pce_common.specs.Owed.{is_peer, owed, pending_in}
use Rattle.network_events.specs.Rooms.{is_live, is_talking}
use Rattle.network_events.specs.Roomy.{KeepsOn}
use Rattle.network_events.specs.Standing.{IsAt, here_of, Goes}
use Rattle.network_events.specs.Turns.{IsPass, IsTickTurn}
use Rattle.network_events.proofs.ActLaws.{act_none, out_empty}
use Rattle.network_events.proofs.InputLaws.{acts_is, breaks_is, closed_is, session_in, session_of, set_at, some_is}
use Rattle.network_events.proofs.OwedLaws.{fallen_none}
use Rattle.network_events.proofs.RoomyNeeds.{breaks_end, down_quiet, link_of, linked_in, live_outside, lost_pending, tells_room}
use Rattle.network_events.proofs.RoomySteps.{pays_on}
use Rattle.network_events.proofs.RoomyDeeds.{Leaves, closes_by, members_of, leaves_then, out_set, rise_leaves, said_alone, same_leaves, say_leaves, session_set, stays_leaves}
use Rattle.network_events.proofs.RoomyPays.{live_like, raise_pays, reserved_pays, word_pays}
use Rattle.network_events.proofs.RoomyEvents.{break_at, carried, closes_keeps, still_keeps}
use Rattle.network_events.proofs.RoomyWords.{Lives, Dies, EndsBy, IsStep, StaysBy, steps_live_or_die, word_length}
use Rattle.network_events.proofs.TurnLaws.{ticks_are_turns}

-- what is passed on is no turn of its own
no_pass : (as' : List Action) → IsOwnTurn as' → IsPass as' → ⊥
no_pass as' turn (m, is) = subst IsOwnTurn is turn

-- the queue of a session that is not over is used
pub live_at : (n : NetworkParts) (f : Flow) (at : As) (to : Peer) (s : Session) → IsEnd n f at to → IsOf n f → session_at at to f ≡ Some s → is_down s.phase ≡ false → is_live n f at to ≡ true
live_at n f at (Inner b) s end of there up = linked_in n f at b of end.linked
live_at n f at (Outside i) s end of there up = live_outside n f i at end (talks (f.accesses i).connection there)
  where
    talks : (c : Option Connection) → option_map (λ (k : Connection). k.session) c ≡ Some s → is_talking c ≡ true
    talks None e = cc
    talks (Some k) e = ap (λ (q : Session). not (is_down q.phase)) (some_is k.session s e) ∙ ap not up

-- the queue has room for one more message of a session's own
abbrev pub KeepsWord : {P : Type 0} {S : Type 0} → As → Peer → Membership P S → Flow → Type 0
KeepsWord at to ms f = KeepsRoomAt at to (1 + owed at to ms) (20 + 32 * owed at to ms) f

-- a tick passes nothing on, and what is said at one by a session that stays is a Keepalive
pub tick_own : (s : Session) (now : Tick) → IsOwnTurn (turn_of s (input.Tick now)).actions
tick_own s now = go (turn_of s (input.Tick now)).actions (ticks_are_turns s now)
  where
    go : (as' : List Action) → IsTickTurn as' → IsOwnTurn as'
    go as' (inl is) = subst IsOwnTurn (sym is) tt
    go as' (inr (inl is)) = subst IsOwnTurn (sym is) tt
    go as' (inr (inr (o, why, short, is))) = subst IsOwnTurn (sym is) refl

tick_word : (as' : List Action) (o : Own) → IsTickTurn as' → as' ≡ action.Send o ∷ [] → o ≡ saying.Keepalive
tick_word as' o (inl is) one = cc
tick_word as' o (inr (inl is)) one = cc
tick_word as' o (inr (inr (o', why, short, is))) one = cc

falls : (t : SessionStep) → Dies t → any_fall t.actions ≡ true
falls t die = go die.says
  where
    go : EndsBy die.why t.actions → any_fall t.actions ≡ true
    go (inl is) = ap any_fall is
    go (inr (inl (o, short, is))) = ap any_fall is
    go (inr (inr (o, o', short, short', is))) = ap any_fall is

-- two words at most
abbrev AreFew : List Action → Type 0
AreFew as' = (length (said_in as') ≤ 2) × (size_in (said_in as') ≤ 24)

few_words : (was : Bool) (t : SessionStep) → IsStep was t → IsOwnTurn t.actions → AreFew t.actions
few_words was t (inl live) turn = go live.says
  where
    go : StaysBy t.actions → AreFew t.actions
    go (inl is) = subst AreFew (sym is) (omega arith, omega arith)
    go (inr (inl (o, is))) = subst AreFew (sym is) (omega arith, omega (arith, word_length o))
    go (inr (inr is)) = subst AreFew (sym is) (omega arith, omega arith)
few_words was t (inr (inl die)) turn = go die.says
  where
    go : EndsBy die.why t.actions → AreFew t.actions
    go (inl is) = subst AreFew (sym is) (omega arith, omega arith)
    go (inr (inl (o, short, is))) = subst AreFew (sym is) (omega arith, omega (arith, short))
    go (inr (inr (o, o', short, short', is))) = subst AreFew (sym is) (omega arith, omega (arith, short, short'))
few_words was t (inr (inr pass)) turn = absurd (no_pass t.actions turn pass)

module _ {P : Type 0} {S : Type 0} (n : NetworkParts) where
  -- ---- what an input asks for

  acts_room : (own : ℕ) (at : As) (to : Peer) (as' : List Action) (ms : Membership P S) (f : Flow) → is_member n at ≡ true → is_live n f at to ≡ true → 2 ≤ own → KeepsOn own n ms f → IsOwnTurn as' → AreFew as' → Fits at to as' ms f
  acts_room own at to as' ms f member live some keeps turn few = record { turn = turn; room = go (any_fall as') }
    where
      ls : List Lost
      ls = lost_at at to ms

      lost : pending_in (elements_of n.elements) (fallen at to ms) + length ls ≤ pending_in (elements_of n.elements) ms
      lost = lost_pending n at to ms member

      go : (b : Bool) → RoomToAct at to as' (cond b ls []) f
      go false =
          let last = (keeps.answers.live at to live).last_words in
          record {
            there = record { messages = omega (arith, few.0, last.messages); bytes = omega (arith, few.1, last.bytes) };
            none = refl;
            elsewhere = λ q miss. record { messages = omega arith; bytes = omega arith };
            said = record { messages = omega (arith, some, few.0, keeps.said.messages); bytes = omega (arith, some, few.1, keeps.said.bytes) };
          }
      go true =
          let last = (keeps.answers.live at to live).last_words in
          record {
            there = record { messages = omega (arith, few.0, last.messages); bytes = omega (arith, few.1, last.bytes) };
            none = (fallen_none (is_peer to) at to ms (λ q miss. miss)).1;
            elsewhere = λ q miss. (tells_room n own at to ms f member keeps).there q;
            said = record { messages = omega (arith, some, lost, few.0, keeps.said.messages); bytes = omega (arith, some, lost, few.1, keeps.said.bytes) };
          }

  -- of a session that passes nothing on
  pub fits_at : (own : ℕ) (at : As) (to : Peer) (x : Input) (s : Session) (ms : Membership P S) (f : Flow) → IsEnd n f at to → is_member n at ≡ true → IsOf n f → session_at at to f ≡ Some s → 2 ≤ own → KeepsOn own n ms f → IsOwnTurn (turn_of s x).actions →
      FitsTurn at to (turn_of s x).actions ms f
  fits_at own at to x s ms f end member of there some keeps turn = record {
    stays = λ e. elim (cases_Bool (is_down s.phase)) [
      | inl over ↦ subst (λ (as' : List Action). Fits at to as' ms f) (sym (ap (λ (t : SessionStep). t.actions) (down_quiet s x over))) (record { turn = tt; room = act_none at to f })
      | inr up ↦ acts_room own at to (turn_of s x).actions ms f member (live_at n f at to s end of there up) some keeps turn (few_words (is_down s.phase) (turn_of s x) (steps_live_or_die s x) turn)
    ];
    breaks = breaks to end;
  }
    where
      breaks : (p : Peer) → IsEnd n f at p → breaks_by p (turn_of s x).actions ≡ true → RoomToBreakAt at p ms f
      breaks (Outside i) end' e = tt
      breaks (Inner b) end' e = breaks_end n own at b ms f end' member of some keeps

  -- of one that may be closed
  pub fits_input : (own : ℕ) (at : As) (to : Peer) (x : Input) (ms : Membership P S) (f : Flow) → IsEnd n f at to → is_member n at ≡ true → IsOf n f → 2 ≤ own → KeepsOn own n ms f → ((s : Session) → IsOwnTurn (turn_of s x).actions) →
      FitsInput at to x (session_at at to f) ms f
  fits_input own at to x ms f end member of some keeps turns = go (session_at at to f) refl
    where
      go : (c : Option Session) → session_at at to f ≡ c → FitsInput at to x c ms f
      go None there = tt
      go (Some s) there = fits_at own at to x s ms f end member of there some keeps (turns s)

-- the room for a word that a session says and stays: it was made before, or the word is short and said only if nothing waits before it
abbrev pub HasWord : {P : Type 0} {S : Type 0} → As → Peer → Bool → Own → Membership P S → Flow → Type 0
HasWord at to ticks o ms f = KeepsWord at to ms f ⊎ ((length (own_bytes o) ≤ 12) × (is_left_out ticks o (queue_at at to f) ≡ false → is_empty (queue_at at to f) ≡ true))

-- a Keepalive at a tick
tick_alone : {P : Type 0} {S : Type 0} (at : As) (to : Peer) (o : Own) (ms : Membership P S) (f : Flow) → o ≡ saying.Keepalive → HasWord at to true o ms f
tick_alone at to o ms f is = subst (λ (y : Own). HasWord at to true y ms f) (sym is) (inr (omega arith, go (is_empty (queue_at at to f))))
  where
    go : (b : Bool) → cond b false true ≡ false → b ≡ true
    go true e = refl
    go false e = cc

module _ {P : Type 0} {S : Type 0} (show : S → List Hop) (n : NetworkParts) where
  -- ---- what it leaves

  word_keeps : (own all : ℕ) (d : As) (p : Peer) (o : Own) (g g' : Going P S) (ms ms' : Membership P S) (f f' : Flow) → 2 + own ≤ all → is_live n f d p ≡ true → KeepsWord d p ms f ⊎ ((length (own_bytes o) ≤ 12) × (queue_at d p f' ≡ own_bytes o ∷ [])) →
      Accounts f f' → Leaves (members_of g.state) (sent_of d p (own_bytes o) ∷ []) g g' → IsAt g ms f → IsAt g' ms' f' → KeepsOn all n ms f → KeepsOn own n ms' f'
  word_keeps own all d p o g g' ms ms' f f' some live (inl word) room leaves is is' keeps =
      let c = carried show n (λ y. y) (λ y. sent_of d p (own_bytes o) ∷ []) g g' ms ms' f f' leaves is is' in
      subst (λ (y : Membership P S). KeepsOn own n y f') (sym c.0)
      (pays_on n 2 own all ms ms f f' (sent_of d p (own_bytes o) ∷ []) (reserved_pays n d p (own_bytes o) ms f f' room c.1 (live_like n f f' c.2) keeps.answers.dead live (word_length o) word) some keeps)
  word_keeps own all d p o g g' ms ms' f f' some live (inr (short, alone)) room leaves is is' keeps =
      let c = carried show n (λ y. y) (λ y. sent_of d p (own_bytes o) ∷ []) g g' ms ms' f f' leaves is is' in
      subst (λ (y : Membership P S). KeepsOn own n y f') (sym c.0)
      (pays_on n 1 own all ms ms f f' (sent_of d p (own_bytes o) ∷ []) (word_pays n d p (own_bytes o) ms f f' room c.1 (live_like n f f' c.2) keeps.answers.dead alone short) (omega (arith, some)) keeps)

  rise_keeps : (own all : ℕ) (d : As) (p : Peer) (g g' : Going P S) (ms ms' : Membership P S) (f f' : Flow) → own ≤ all → Accounts f f' → Leaves (raised d p (members_of g.state)) [] g g' → IsAt g ms f → IsAt g' ms' f' →
      KeepsOn all n ms f → KeepsOn own n ms' f'
  rise_keeps own all d p g g' ms ms' f f' some room leaves is is' keeps =
      let c = carried show n (raised d p) (λ y. []) g g' ms ms' f f' leaves is is' in
      subst (λ (y : Membership P S). KeepsOn own n y f') (sym c.0)
      (pays_on n 0 own all ms (raised d p ms) f f' [] (raise_pays n d p ms f f' room c.1 (live_like n f f' c.2) keeps.answers.dead) (omega (arith, some)) keeps)

  -- a session that goes down: an outside peer's is over, and a link breaks
  dies_keep : (own all : ℕ) (at : As) (to : Peer) (x : Input) (s : Session) (g : Going P S) (ms ms' : Membership P S) (f f' : Flow) → 2 + own ≤ all → IsEnd n f at to → is_member n at ≡ true → IsOf n f → session_in at to g.state ≡ Some s →
      IsOwnTurn (turn_of s x).actions → AreFew (turn_of s x).actions → Dies (turn_of s x) → Accounts f f' → IsAt g ms f → IsAt (input_at P S n show at to x g) ms' f' → KeepsOn all n ms f → KeepsOn own n ms' f'
  dies_keep own all at (Outside i) x s g ms ms' f f' some end member of there turn few die room is is' keeps =
      let t = turn_of s x in
      let e = element_of n i in
      let g0 = set_at show n e (Outside i) t.next g in
      closes_keeps show n own all i 2 g (acts_at P S n show e (Outside i) (is_tick x) t.actions g0) ms ms' f f' some (subst (λ (a : As). is_member n a ≡ true) end member) room is
      (subst (λ (h : Going P S). IsAt h ms' f') (sym (acts_is show n x g e (Outside i) s f refl there refl)) is')
      (closes_by show n i 2 (is_tick x) t.actions [] t.next g g0 turn (falls t die) die.over (omega (arith, few.0)) (omega (arith, few.1)) (same_leaves show n g0)) keeps
  dies_keep own all at (Inner b) x s g ms ms' f f' some end member of there turn few die room is is' keeps =
      let link = link_of n f at b end member of in
      break_at show n own all (adjacency b at).lower (adjacency b at).upper g ms ms' f f' some link.apart link.lower link.upper room is
      (subst (λ (h : Going P S). IsAt h ms' f') (sym (breaks_is show n x g at (Inner b) s there (falls (turn_of s x) die))) is') keeps

  pub input_keeps : (own all : ℕ) (at : As) (to : Peer) (x : Input) (s : Session) (g : Going P S) (n' : NetworkParts) (ms ms' : Membership P S) (lost lost' : As → List Lost) (f f' : Flow) → 2 + own ≤ all → IsEnd n f at to → is_member n at ≡ true → IsOf n f →
      session_at at to f ≡ Some s → IsOwnTurn (turn_of s x).actions → ((o : Own) → (turn_of s x).actions ≡ action.Send o ∷ [] → HasWord at to (is_tick x) o ms f) →
      Goes (λ k. input_at P S k show at to x) (here_of n ms lost f) (here_of n' ms' lost' f') → IsAt g ms f → KeepsOn all n ms f → KeepsOn own n ms' f'
  input_keeps own all at to x s g n' ms ms' lost lost' f f' some end member of there turn word goes is keeps = elim (cases_Bool (is_down s.phase)) [
    | inl over ↦ still (ap (λ (y : SessionStep). y.actions) (down_quiet s x over)) (ap (λ (y : SessionStep). is_down y.next.phase) (down_quiet s x over))
    | inr up ↦ step up (steps_live_or_die s x)
  ]
    where
      t : SessionStep
      t = turn_of s x

      g0 : Going P S
      g0 = set_at show n at to t.next g

      found : session_in at to g.state ≡ Some s
      found = session_of at to g ms f is ∙ there

      calm : (p : Peer) (as' : List Action) → any_fall as' ≡ false → breaks_by p as' ≡ false
      calm (Outside i) as' e = refl
      calm (Inner b) as' e = e

      acted : (as' : List Action) → t.actions ≡ as' → any_fall as' ≡ false → IsAt (acts_at P S n show at to (is_tick x) as' g0) ms' f'
      acted as' acts none =
          subst (λ (ys : List Action). IsAt (acts_at P S n show at to (is_tick x) ys g0) ms' f') acts
          (subst (λ (h : Going P S). IsAt h ms' f') (sym (acts_is show n x g at to s f end found (calm to t.actions (ap any_fall acts ∙ none)))) (goes.goes g is))

      still : t.actions ≡ [] → is_down t.next.phase ≡ is_down s.phase → KeepsOn own n ms' f'
      still none same = still_keeps show n own all g g0 ms ms' f f' (omega (arith, some)) goes.room (stays_leaves show n at to s t.next g found same) is (acted [] none refl) keeps

      empty_there : is_out_empty_at P S n show at to g0.state ≡ is_empty (queue_at at to f)
      empty_there = out_set show n at to t.next g ∙ ap (is_out_empty_at P S n show at to) (sym is.state) ∙ out_empty show n ms lost at to f

      -- a word, if it is not left out
      says : (o : Own) → is_live n f at to ≡ true → is_down t.next.phase ≡ is_down s.phase → HasWord at to (is_tick x) o ms f → (b : Bool) → is_left_out (is_tick x) o (queue_at at to f) ≡ b →
          IsAt (cond b g0 (deeds.say P S wire n show at to o g0)) ms' f' → KeepsOn own n ms' f'
      says o live same has true left is' = still_keeps show n own all g g0 ms ms' f f' (omega (arith, some)) goes.room (stays_leaves show n at to s t.next g found same) is is' keeps
      says o live same has false left is' =
          let g1 = deeds.say P S wire n show at to o g0 in
          word_keeps own all at to o g g1 ms ms' f f' some live (room has) goes.room
          (leaves_then show n (members_of g.state) (members_of g.state) [] (sent_of at to (own_bytes o) ∷ []) g g0 g1 (stays_leaves show n at to s t.next g found same)
          (subst (λ (y : Membership P S). Leaves y (sent_of at to (own_bytes o) ∷ []) g0 g1) (stays_leaves show n at to s t.next g found same).members (say_leaves show n at to o g0))) is is' keeps
        where
          room : HasWord at to (is_tick x) o ms f → KeepsWord at to ms f ⊎ ((length (own_bytes o) ≤ 12) × (queue_at at to f' ≡ own_bytes o ∷ []))
          room (inl made) = inl made
          room (inr (short, alone)) = inr (short, said_alone show n at to t.next o g0 ms' f' (session_set show n at to s t.next g found) (empty_there ∙ alone left) is')

      lives : is_down s.phase ≡ false → Lives (is_down s.phase) t → KeepsOn own n ms' f'
      lives up live = go live.says
        where
          used : is_live n f at to ≡ true
          used = live_at n f at to s end of there up

          go : StaysBy t.actions → KeepsOn own n ms' f'
          go (inl none) = still none live.after
          go (inr (inl (o, one))) =
              says o used live.after (word o one) (is_left_out (is_tick x) o (queue_at at to f)) refl
              (subst (λ (b : Bool). IsAt (cond (cond (is_tick x) (cond (is_due o) (cond b false true) false) false) g0 (deeds.say P S wire n show at to o g0)) ms' f') empty_there (acted (action.Send o ∷ []) one refl))
          go (inr (inr up')) =
              let g1 = deeds.rise P S wire n show at to g0 in
              rise_keeps own all at to g g1 ms ms' f f' (omega (arith, some)) goes.room
              (leaves_then show n (members_of g.state) (raised at to (members_of g.state)) [] [] g g0 g1 (stays_leaves show n at to s t.next g found live.after)
              (subst (λ (y : Membership P S). Leaves (raised at to y) [] g0 g1) (stays_leaves show n at to s t.next g found live.after).members (rise_leaves show n at to g0))) is (acted (action.Up ∷ []) up' refl) keeps

      step : is_down s.phase ≡ false → IsStep (is_down s.phase) t → KeepsOn own n ms' f'
      step up (inl live) = lives up live
      step up (inr (inl die)) = dies_keep own all at to x s g ms ms' f f' some end member of found turn (few_words (is_down s.phase) t (steps_live_or_die s x) turn) die goes.room is (goes.goes g is) keeps
      step up (inr (inr pass)) = absurd (no_pass t.actions turn pass)

  -- a tick, also to a peer that may be closed
  pub tick_keeps : (own all : ℕ) (at : As) (to : Peer) (now : Tick) (g : Going P S) (n' : NetworkParts) (ms ms' : Membership P S) (lost lost' : As → List Lost) (f f' : Flow) → 2 + own ≤ all → IsEnd n f at to → is_member n at ≡ true → IsOf n f →
      Goes (λ k. input_at P S k show at to (input.Tick now)) (here_of n ms lost f) (here_of n' ms' lost' f') → IsAt g ms f → KeepsOn all n ms f → KeepsOn own n ms' f'
  tick_keeps own all at to now g n' ms ms' lost lost' f f' some end member of goes is keeps = go (session_at at to f) refl
    where
      go : (c : Option Session) → session_at at to f ≡ c → KeepsOn own n ms' f'
      go None none =
          still_keeps show n own all g g ms ms' f f' (omega (arith, some)) goes.room (same_leaves show n g) is
          (subst (λ (h : Going P S). IsAt h ms' f') (sym (closed_is show n (input.Tick now) g at to (session_of at to g ms f is ∙ none))) (goes.goes g is)) keeps
      go (Some s) there =
          input_keeps own all at to (input.Tick now) s g n' ms ms' lost lost' f f' some end member of there (tick_own s now)
          (λ o one. tick_alone at to o ms f (tick_word (turn_of s (input.Tick now)).actions o (ticks_are_turns s now) one)) goes is keeps
