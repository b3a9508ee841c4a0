-- Each event is done in acts.
use Rattle.std.proofs.Common.{◌≡◌, ℕ, ◌+◌, ◌%◌, Bool, true, false, cond, ◌==◌, List, [], ◌∷◌, ◌++◌, Option, Some, None, is_some, sym, ap, subst, inl, inr, refl}
use Rattle.plant_model.specs.Types.{As, Tick, Peer, Outside, Inner, Hop, Message, Input, Action, Own, NetworkParts, PeerRow, State as Session}
use Rattle.pcep_session.specs.declared.session.Input.TheVariants as input
use Rattle.pcep_session.specs.declared.actions.Action.TheVariants as action
use Rattle.plant_text.specs.Names.{same_as, parent_as}
use Rattle.plant_model.specs.Names.{is_empty}
use Rattle.plant_model.specs.Wire.{Bytes, Codec}
use Rattle.pcep_session.specs.Table.{turn_of, new_state}
use Rattle.plant_text.specs.Settings.{Adjacency, adjacency, adjacencies, is_linked, peer_row}
use Rattle.plant_model.specs.State.{State, Deed, Connection, Pops}
use Rattle.plant_model.specs.Deeds.{Going, element_of, is_due, is_tick, is_out_empty, any_fall, our_offer, with_session, with_inbox, read_as, input_of, give, rise, fall, say, clear, expire, outside_act, outside_acts, outside_step, outside_input, inner_act, inner_acts, inner_input, begin_end, begin_adjacency, break_adjacency, tick_outside, tick_adjacencies, with_access, with_inner}
use Rattle.plant_model.specs.Outside.{heeded}
use Rattle.pcep_framing.specs.Frames.{joined}
use Rattle.plant_model.specs.Events as events
use Rattle.plant_model.specs.Events.{is_down}
use Rattle.plant_laws.proofs.Runs.Acts.{IsSameCore, IsHeard, popped, Acts, rests, hears, carries, nods, hands, rises, falls, says, clears, expires, Goes, stands, goes_on}
use Rattle.plant_laws.proofs.Runs.Shape.{has_pass, shape}

pub nil_right : {A : Type 0} (xs : List A) → xs ++ [] ≡ xs
nil_right [] = refl
nil_right (x ∷ xs) = ap (λ ys. x ∷ ys) (nil_right xs)

pub append_assoc : {A : Type 0} (xs ys zs : List A) → (xs ++ ys) ++ zs ≡ xs ++ (ys ++ zs)
append_assoc [] ys zs = refl
append_assoc (x ∷ xs) ys zs = ap (λ l. x ∷ l) (append_assoc xs ys zs)

-- the same with older deeds below
abbrev pub framed : {P : Type 0} {S : Type 0} → List (Deed S) → Going P S → Going P S
framed ds h = record { state = h.state; deeds = h.deeds ++ ds }

pub cond_framed : {P : Type 0} {S : Type 0} (b : Bool) (x y x' y' : Going P S) (ds : List (Deed S)) → x ≡ framed ds x' → y ≡ framed ds y' → cond b x y ≡ framed ds (cond b x' y')
cond_framed true x y x' y' ds e f = e
cond_framed false x y x' y' ds e f = f

module _ (P : Type 0) (S : Type 0) (c : Codec) (n : NetworkParts) (show : S → List Hop) where
  pub give_framed : (at : As) (p : Peer) (m : Message) (s : State P S) (ds : List (Deed S)) →
      give P S c n show at p m (record { state = s; deeds = ds }) ≡ framed ds (give P S c n show at p m (record { state = s; deeds = [] }))
  give_framed at p m s ds = cond_framed (same_as at parent_as) _ _ _ _ ds refl refl

  pub rise_framed : (at : As) (p : Peer) (s : State P S) (ds : List (Deed S)) →
      rise P S c n show at p (record { state = s; deeds = ds }) ≡ framed ds (rise P S c n show at p (record { state = s; deeds = [] }))
  rise_framed at p s ds = cond_framed (same_as at parent_as) _ _ _ _ ds refl refl

  pub fall_framed : (at : As) (p : Peer) (s : State P S) (ds : List (Deed S)) →
      fall P S c n show at p (record { state = s; deeds = ds }) ≡ framed ds (fall P S c n show at p (record { state = s; deeds = [] }))
  fall_framed at p s ds = cond_framed (same_as at parent_as) _ _ _ _ ds refl refl

  module _ (s0 : State P S) where
    abbrev pub Reached : Going P S → Type 0
    Reached g = Goes P S c n show s0 g.deeds g.state

    pick : (b : Bool) (g h : Going P S) → Reached g → Reached h → Reached (cond b g h)
    pick true g h r r' = r
    pick false g h r r' = r'

    -- a change of sessions, framers and inboxes alone
    rest_on : (g : Going P S) (t : State P S) → IsSameCore P S g.state t → Reached g → Reached (record { state = t; deeds = g.deeds })
    rest_on g t same r = goes_on s0 g.state t g.deeds [] r (rests g.state t same)

    hear_on : (i : ℕ) (bytes : Bytes) (m : Message) (g : Going P S) → IsHeard P S c n show i g.state bytes m → Reached g → Reached (give P S c n show (element_of n i) (Outside i) m g)
    hear_on i bytes m g read r =
        let h = give P S c n show (element_of n i) (Outside i) m (record { state = g.state; deeds = [] }) in
        subst Reached (sym (give_framed (element_of n i) (Outside i) m g.state g.deeds)) (goes_on s0 g.state h.state g.deeds h.deeds r (hears i bytes m g.state read))

    rise_on : (at : As) (p : Peer) (g : Going P S) → Reached g → Reached (rise P S c n show at p g)
    rise_on at p g r =
        let h = rise P S c n show at p (record { state = g.state; deeds = [] }) in
        subst Reached (sym (rise_framed at p g.state g.deeds)) (goes_on s0 g.state h.state g.deeds h.deeds r (rises at p g.state))

    fall_on : (at : As) (p : Peer) (g : Going P S) → Reached g → Reached (fall P S c n show at p g)
    fall_on at p g r =
        let h = fall P S c n show at p (record { state = g.state; deeds = [] }) in
        subst Reached (sym (fall_framed at p g.state g.deeds)) (goes_on s0 g.state h.state g.deeds h.deeds r (falls at p g.state))

    say_on : (at : As) (p : Peer) (o : Own) (g : Going P S) → Reached g → Reached (say P S c n show at p o g)
    say_on at p o g r =
        let h = say P S c n show at p o (record { state = g.state; deeds = [] }) in
        goes_on s0 g.state h.state g.deeds h.deeds r (says at p o g.state)

    clear_on : (x : Adjacency) (g : Going P S) → Reached g → Reached (clear P S c n show x g)
    clear_on x g r =
        let h = clear P S c n show x (record { state = g.state; deeds = [] }) in
        goes_on s0 g.state h.state g.deeds h.deeds r (clears x g.state)

    expire_on : (now : ℕ) (g : Going P S) → Reached g → Reached (expire P S c n show now g)
    expire_on now g r =
        let h = expire P S c n show now (record { state = g.state; deeds = [] }) in
        goes_on s0 g.state h.state g.deeds h.deeds r (expires now g.state)

    -- what a session does without passing a message on
    quiet_inner : (at b : As) (ticks : Bool) (as' : List Action) (g : Going P S) → has_pass as' ≡ false → Reached g → Reached (inner_acts P S c n show at b ticks as' g)
    quiet_inner at b ticks [] g none r = r
    quiet_inner at b ticks (action.Send o ∷ as') g none r =
        quiet_inner at b ticks as' (inner_act P S c n show at b ticks (action.Send o) g) none
        (pick (cond ticks (cond (is_due o) (cond (is_empty (g.state.queues at b)) false true) false) false) g (say P S c n show at (Inner b) o g) r (say_on at (Inner b) o g r))
    quiet_inner at b ticks (action.Up ∷ as') g none r = quiet_inner at b ticks as' (rise P S c n show at (Inner b) g) none (rise_on at (Inner b) g r)
    quiet_inner at b ticks (action.Down why ∷ as') g none r = quiet_inner at b ticks as' g none r
    quiet_inner at b ticks (action.Pass m ∷ as') g none r = let no : true ≡ false = none in cc

    -- an outside session, with what it read
    abbrev IsRead : Input → Type 0
    IsRead x = (m : Message) → x ≡ input.Got m → (bytes : Bytes) × (c.read bytes ≡ Some m)

    quiet_outside : (i : ℕ) (ticks : Bool) (as' : List Action) (g : Going P S) → has_pass as' ≡ false → Reached g → Reached (outside_acts P S c n show i ticks as' g)
    quiet_outside i ticks [] g none r = r
    quiet_outside i ticks (action.Send o ∷ as') g none r =
        quiet_outside i ticks as' (outside_act P S c n show i ticks (action.Send o) g) none
        (pick (cond ticks (cond (is_due o) (cond (is_out_empty (g.state.accesses i).connection) false true) false) false) g (say P S c n show (element_of n i) (Outside i) o g) r (say_on (element_of n i) (Outside i) o g r))
    quiet_outside i ticks (action.Up ∷ as') g none r = quiet_outside i ticks as' (rise P S c n show (element_of n i) (Outside i) g) none (rise_on (element_of n i) (Outside i) g r)
    quiet_outside i ticks (action.Down why ∷ as') g none r =
        let h : Going P S = record { state = with_access P S c n show i (with_inbox []) g.state; deeds = g.deeds } in
        quiet_outside i ticks as' (fall P S c n show (element_of n i) (Outside i) h) none
        (fall_on (element_of n i) (Outside i) h (rest_on g h.state (record { elements = refl; parent = refl; current = refl; queues = refl }) r))
    quiet_outside i ticks (action.Pass m ∷ as') g none r = let no : true ≡ false = none in cc

    outside_step_on : (i : ℕ) (x : Input) (g : Going P S) (o : Option Connection) → IsRead x → Reached g → Reached (outside_step P S c n show i x g o)
    outside_step_on i x g None read r = r
    outside_step_on i x g (Some k) read r =
        let t = turn_of k.session x in
        let h : Going P S = record { state = with_access P S c n show i (with_session t.next) g.state; deeds = g.deeds } in
        let r' : Reached h = rest_on g h.state (record { elements = refl; parent = refl; current = refl; queues = refl }) r in
        elim (shape k.session x) [
          | inl none ↦ quiet_outside i (is_tick x) t.actions h none r'
          | inr pass ↦
              let b = read pass.0 pass.1 in
              subst (λ (as' : List Action). Reached (outside_acts P S c n show i (is_tick x) as' h)) (sym pass.2)
              (hear_on i b.0 (heeded c (Outside i) (h.state.elements (element_of n i)).pending.rows pass.0) h (pass.0, b.1, refl) r')
        ]

    outside_input_on : (i : ℕ) (x : Input) (g : Going P S) → IsRead x → Reached g → Reached (outside_input P S c n show i x g)
    outside_input_on i x g read r = outside_step_on i x g (g.state.accesses i).connection read r

    begin_end_on : (sid : ℕ) (at b : As) (g : Going P S) → Reached g → Reached (begin_end P S c n show sid at b g)
    begin_end_on sid at b g r =
        let s = new_state (our_offer sid) (record { 0 = g.state.clock }) in
        let t = turn_of s input.Begin in
        let h : Going P S = record { state = with_inner P S c n show at b t.next g.state; deeds = g.deeds } in
        quiet_inner at b false t.actions h refl (rest_on g h.state (record { elements = refl; parent = refl; current = refl; queues = refl }) r)

    pub begin_adjacency_on : (sid : ℕ) (x : Adjacency) (g : Going P S) → Reached g → Reached (begin_adjacency P S c n show sid x g)
    begin_adjacency_on sid x g r = begin_end_on sid x.upper x.lower (begin_end P S c n show sid x.lower x.upper g) (begin_end_on sid x.lower x.upper g r)

    break_adjacency_on : (x : Adjacency) (g : Going P S) → Reached g → Reached (break_adjacency P S c n show x g)
    break_adjacency_on x g r =
        let f = fall P S c n show x.lower (Inner x.upper) g in
        let h = fall P S c n show x.upper (Inner x.lower) f in
        begin_adjacency_on (((g.state.sessions x.lower x.upper).offer.sid + 1) % 256) x (clear P S c n show x h)
        (clear_on x h (fall_on x.upper (Inner x.lower) f (fall_on x.lower (Inner x.upper) g r)))

    -- an input that passes nothing on
    quiet_input_on : (x : Adjacency) (at b : As) (y : Input) (g : Going P S) → has_pass (turn_of (g.state.sessions at b) y).actions ≡ false → Reached g → Reached (inner_input P S c n show x at b y g)
    quiet_input_on x at b y g none r =
        let t = turn_of (g.state.sessions at b) y in
        let h : Going P S = record { state = with_inner P S c n show at b t.next g.state; deeds = g.deeds } in
        pick (any_fall t.actions) (break_adjacency P S c n show x g) (inner_acts P S c n show at b (is_tick y) t.actions h) (break_adjacency_on x g r)
        (quiet_inner at b (is_tick y) t.actions h none (rest_on g h.state (record { elements = refl; parent = refl; current = refl; queues = refl }) r))

    no_pass : (s : Session) (y : Input) → ((m : Message) → y ≡ input.Got m → ⊥) → has_pass (turn_of s y).actions ≡ false
    no_pass s y other = elim (shape s y) [ inl none ↦ none | inr pass ↦ absurd (other pass.0 pass.1) ]

    tick_is_other : (now : Tick) (m : Message) → input.Tick now ≡ input.Got m → ⊥
    tick_is_other now m e = cc

    tick_outside_on : (i : ℕ) (rs : List PeerRow) (now : Tick) (g : Going P S) → Reached g → Reached (tick_outside P S c n show i rs now g)
    tick_outside_on i [] now g r = r
    tick_outside_on i (row ∷ rs) now g r =
        tick_outside_on (i + 1) rs now (outside_input P S c n show i (input.Tick now) g)
        (outside_input_on i (input.Tick now) g (λ m e. absurd (tick_is_other now m e)) r)

    tick_adjacencies_on : (xs : List Adjacency) (now : Tick) (g : Going P S) → Reached g → Reached (tick_adjacencies P S c n show xs now g)
    tick_adjacencies_on [] now g r = r
    tick_adjacencies_on (x ∷ xs) now g r =
        let h = inner_input P S c n show x x.lower x.upper (input.Tick now) g in
        let r' : Reached h = quiet_input_on x x.lower x.upper (input.Tick now) g (no_pass (g.state.sessions x.lower x.upper) (input.Tick now) (tick_is_other now)) r in
        tick_adjacencies_on xs now (inner_input P S c n show x x.upper x.lower (input.Tick now) h)
        (quiet_input_on x x.upper x.lower (input.Tick now) h (no_pass (h.state.sessions x.upper x.lower) (input.Tick now) (tick_is_other now)) r')

  -- an event, from the state before it
  abbrev pub Did : State P S → events.Happened P S → Type 0
  Did s h = Goes P S c n show s h.deeds h.state

  did_pick : (s : State P S) (b : Bool) (h k : events.Happened P S) → Did s h → Did s k → Did s (cond b h k)
  did_pick s true h k d e = d
  did_pick s false h k d e = e

  -- a change of sessions, framers and inboxes
  rest_first : (s t : State P S) → IsSameCore P S s t → Goes P S c n show s [] t
  rest_first s t same = goes_on s s t [] [] (stands s) (rests s t same)

  read_back : (o : Option Message) (m : Message) → read_as o ≡ input.Got m → o ≡ Some m
  read_back None m e = cc
  read_back (Some x) m e = cc

  input_read : (x : Option Bytes) (m : Message) → input_of c x ≡ input.Got m → (bytes : Bytes) × (c.read bytes ≡ Some m)
  input_read None m e = cc
  input_read (Some bytes) m e = (bytes, read_back (c.read bytes) m e)

  begin_is_other : (m : Message) → input.Begin ≡ input.Got m → ⊥
  begin_is_other m e = cc

  pub open_did : (i holder : ℕ) (s : State P S) → Did s (events.open_peer P S c n show i holder s)
  open_did i holder s =
      did_pick s (is_some (peer_row i n.peers)) (events.open_new P S c n show i holder s (s.accesses i).connection) (events.refused P S c n show _ s)
      (go (s.accesses i).connection) (stands s)
    where
      go : (o : Option Connection) → Did s (events.open_new P S c n show i holder s o)
      go None =
          let t = events.connect P S c n show i holder s in
          outside_input_on s i input.Begin (record { state = t; deeds = [] }) (λ m e. absurd (begin_is_other m e))
          (rest_first s t (record { elements = refl; parent = refl; current = refl; queues = refl }))
      go (Some x) = stands s

  pub shut_did : (i : ℕ) (s : State P S) → Did s (events.shut P S c n show i s)
  shut_did i s = go (s.accesses i).connection
    where
      go : (o : Option Connection) → Did s (events.shut_open P S c n show i s o)
      go None = stands s
      go (Some x) =
          let g = fall P S c n show (element_of n i) (Outside i) (record { state = s; deeds = [] }) in
          rest_on s g (events.set_access P S c n show i (record { opened = (s.accesses i).opened; connection = None }) g.state)
          (record { elements = refl; parent = refl; current = refl; queues = refl })
          (fall_on s (element_of n i) (Outside i) (record { state = s; deeds = [] }) (stands s))

  pub feed_did : (i : ℕ) (bytes : Bytes) (s : State P S) → Did s (events.feed P S c n show i bytes s)
  feed_did i bytes s = go (s.accesses i).connection
    where
      same : (b : Bool) (t : State P S) → IsSameCore P S s t → Goes P S c n show s [] (cond b s t)
      same true t h = stands s
      same false t h = rest_first s t h

      go : (o : Option Connection) → Did s (events.feed_open P S c n show i bytes s o)
      go None = stands s
      go (Some x) = same (is_down x.session.phase) (with_access P S c n show i (events.fed c bytes) s) (record { elements = refl; parent = refl; current = refl; queues = refl })

  pub take_did : (i : ℕ) (s : State P S) → Did s (events.take P S c n show i s)
  take_did i s = go (s.accesses i).connection
    where
      item : (inbox : List (Option Bytes)) → Did s (events.take_item P S c n show i s inbox)
      item [] = stands s
      item (x ∷ rest) =
          let t = with_access P S c n show i (with_inbox rest) s in
          outside_input_on s i (input_of c x) (record { state = t; deeds = [] }) (input_read x)
          (rest_first s t (record { elements = refl; parent = refl; current = refl; queues = refl }))

      go : (o : Option Connection) → Did s (events.take_open P S c n show i s o)
      go None = stands s
      go (Some x) = item x.inbox

  pub carry_did : (a b : As) (s : State P S) → Did s (events.carry P S c n show a b s)
  carry_did a b s = did_pick s (is_linked n a b) (events.carry_first P S c n show a b s (s.queues a b)) (events.refused P S c n show _ s) (go (s.queues a b) refl) (stands s)
    where
      go : (q : List Bytes) → s.queues a b ≡ q → Did s (events.carry_first P S c n show a b s q)
      go [] is = stands s
      go (x ∷ rest) is =
          let y = input_of c (Some x) in
          let g : Going P S = record { state = popped P S c n show a b rest s; deeds = Pops a b ∷ [] } in
          let t = turn_of (g.state.sessions b a) y in
          let u = with_inner P S c n show b a t.next g.state in
          elim (shape (g.state.sessions b a) y) [
            | inl none ↦ quiet_input_on s (adjacency a b) b a y g none (goes_on s s g.state [] (Pops a b ∷ []) (stands s) (nods a b x rest s is))
            | inr pass ↦
                let h = give P S c n show b (Inner a) pass.0 (record { state = u; deeds = Pops a b ∷ [] }) in
                let act : Acts P S c n show s h.deeds h.state = carries a b x rest pass.0 s u is (read_back (c.read x) pass.0 pass.1) (record { elements = refl; parent = refl; current = refl; queues = refl }) in
                subst (λ (as' : List Action). Goes P S c n show s
                (cond (any_fall as') (break_adjacency P S c n show (adjacency a b) g) (inner_acts P S c n show b a (is_tick y) as' (record { state = u; deeds = g.deeds }))).deeds
                (cond (any_fall as') (break_adjacency P S c n show (adjacency a b) g) (inner_acts P S c n show b a (is_tick y) as' (record { state = u; deeds = g.deeds }))).state)
                (sym pass.2)
                (subst (λ (ds : List (Deed S)). Goes P S c n show s ds h.state) (nil_right h.deeds) (goes_on s s h.state [] h.deeds (stands s) act))
          ]

  pub break_did : (a b : As) (s : State P S) → Did s (events.break P S c n show a b s)
  break_did a b s =
      let g = break_adjacency P S c n show (adjacency a b) (record { state = s; deeds = [] }) in
      did_pick s (is_linked n a b) (events.answered P S c n show _ g) (events.refused P S c n show _ s)
      (break_adjacency_on s (adjacency a b) (record { state = s; deeds = [] }) (stands s)) (stands s)

  pub tick_did : (t : ℕ) (s : State P S) → Did s (events.tick P S c n show t s)
  tick_did t s =
      let now = events.later s.clock t in
      let u : State P S = record s { clock = now } in
      let g : Going P S = record { state = u; deeds = [] } in
      let h = tick_outside P S c n show 0 n.peers (record { 0 = now }) g in
      expire_on s now (tick_adjacencies P S c n show (adjacencies n) (record { 0 = now }) h)
      (tick_adjacencies_on s (adjacencies n) (record { 0 = now }) h
      (tick_outside_on s 0 n.peers (record { 0 = now }) g (rest_first s u (record { elements = refl; parent = refl; current = refl; queues = refl }))))

  pub drain_did : (i holder : ℕ) (s : State P S) → Did s (events.drain P S c n show i holder s)
  drain_did i holder s = go (s.accesses i).connection
    where
      go : (o : Option Connection) → Did s (events.drain_open P S c n show i holder s o)
      go None = stands s
      go (Some x) =
          let t = with_access P S c n show i events.drained s in
          did_pick s (x.holder == holder) _ _
          (goes_on s s t [] _ (stands s) (hands i (joined x.out) s t (record { elements = refl; parent = refl; current = refl; queues = refl })))
          (stands s)
