-- No deed but a drain hands anything out, whatever a pin is and a key stands for.
use Rattle.std.proofs.Common.{◌≡◌, ℕ, ◌+◌, ◌%◌, Bool, true, false, cond, List, [], ◌∷◌, Option, Some, None, subst}
use Rattle.std.specs.Prelude.{is_some}
use Rattle.plant_network.specs.plant_model.Types.{As, Tick, Peer, Outside, Inner, Hop, Message, Input, Action, Own, NetworkParts, PeerRow}
use Rattle.pcep_session.specs.declared.session.Input.TheVariants as input
use Rattle.pcep_session.specs.declared.actions.Action.TheVariants as action
use Rattle.pcep_session.specs.Table.{new_state, turn_of}
use Rattle.plant_text.specs.Names.{same_as, parent_as}
use Rattle.plant_text.specs.Settings.{Adjacency, class_of, is_linked, adjacency, adjacencies, peer_row}
use Rattle.plant_network.specs.plant_model.declared.outcome.Outcome.TheVariants.{Done}
use Rattle.plant_network.specs.plant_model.declared.outcome.Refused.TheVariants.{NoSuchPeer}
use Rattle.plant_network.specs.plant_model.Settings.{place, family}
use Rattle.plant_network.specs.plant_model.Wire.{Bytes, Codec}
use Rattle.plant_network.specs.plant_model.Element.{upped, downed}
use Rattle.plant_network.specs.plant_model.Names.{is_empty, set_pair}
use Rattle.plant_network.specs.plant_model.Taking.{take}
use Rattle.plant_network.specs.plant_model.Parent as parent
use Rattle.plant_network.specs.plant_model.State.{State, Connection, Deed, Hands, Takes, Ups, Downs, Pops}
use Rattle.plant_network.specs.plant_model.Deeds.{Going, any_fall, begin_end, begin_adjacency, break_adjacency, clear, element_of, fall, give, inner_act, inner_acts, inner_input, input_of, is_due, is_out_empty, is_tick, our_offer, outside_act, outside_acts, outside_input, outside_step, puts, rise, say, tick_adjacencies, tick_outside, with_access, with_element, with_inbox, with_inner, with_parent, with_session}
use Rattle.plant_network.specs.plant_model.Outside.{heeded}
use Rattle.plant_network.specs.plant_model.Events as events
use Rattle.plant_network.specs.plant_model.Events.{Happened}

-- it hands nothing out
abbrev pub IsMuteDeed : {S : Type 0} → Deed S → Type 0
IsMuteDeed (Hands i bytes) = ⊥
IsMuteDeed d = Unit {0}

abbrev pub IsMute : {S : Type 0} → List (Deed S) → Type 0
IsMute [] = Unit {0}
IsMute (d ∷ ds) = IsMuteDeed d × IsMute ds

module _ (P : Type 0) (S : Type 0) (c : Codec) (n : NetworkParts) (show : S → List Hop) where
  abbrev Mute : Going P S → Type 0
  Mute g = IsMute g.deeds

  pick : (b : Bool) (g h : Going P S) → Mute g → Mute h → Mute (cond b g h)
  pick true g h x y = x
  pick false g h x y = y

  give_mute : (at : As) (p : Peer) (m : Message) (g : Going P S) → Mute g → Mute (give P S c n show at p m g)
  give_mute at p m g mute =
      let r = parent.take c (family n) p m g.state.parent in
      let t = take c show (place n at) (g.state.current at) p (class_of n p) g.state.clock m (g.state.elements at) in
      pick (same_as at parent_as)
      (record { state = puts P S c n show at r.outputs (with_parent P S c n show r.parent g.state); deeds = Takes at p m r.outputs ∷ g.deeds })
      (record { state = puts P S c n show at t.outputs (with_element P S c n show at t.element g.state); deeds = Takes at p m t.outputs ∷ g.deeds })
      (tt, mute) (tt, mute)

  rise_mute : (at : As) (p : Peer) (g : Going P S) → Mute g → Mute (rise P S c n show at p g)
  rise_mute at p g mute =
      pick (same_as at parent_as)
      (record { state = with_parent P S c n show (parent.upped p g.state.parent) g.state; deeds = Ups at p ∷ g.deeds })
      (record { state = with_element P S c n show at (upped p (g.state.elements at)) g.state; deeds = Ups at p ∷ g.deeds })
      (tt, mute) (tt, mute)

  fall_mute : (at : As) (p : Peer) (g : Going P S) → Mute g → Mute (fall P S c n show at p g)
  fall_mute at p g mute =
      let r = parent.downed p g.state.parent in
      let t = downed p (g.state.elements at) in
      pick (same_as at parent_as)
      (record { state = puts P S c n show at r.outputs (with_parent P S c n show r.parent g.state); deeds = Downs at p r.outputs ∷ g.deeds })
      (record { state = puts P S c n show at t.outputs (with_element P S c n show at t.element g.state); deeds = Downs at p t.outputs ∷ g.deeds })
      (tt, mute) (tt, mute)

  say_mute : (at : As) (p : Peer) (o : Own) (g : Going P S) → Mute g → Mute (say P S c n show at p o g)
  say_mute at p o g mute = (tt, mute)

  -- ---- outside peers

  outside_acts_mute : (i : ℕ) (ticks : Bool) (as' : List Action) (g : Going P S) → Mute g → Mute (outside_acts P S c n show i ticks as' g)
  outside_acts_mute i ticks [] g mute = mute
  outside_acts_mute i ticks (action.Send o ∷ as') g mute =
      outside_acts_mute i ticks as' (outside_act P S c n show i ticks (action.Send o) g)
      (pick (cond ticks (cond (is_due o) (cond (is_out_empty (g.state.accesses i).connection) false true) false) false) g (say P S c n show (element_of n i) (Outside i) o g) mute (say_mute (element_of n i) (Outside i) o g mute))
  outside_acts_mute i ticks (action.Up ∷ as') g mute = outside_acts_mute i ticks as' (rise P S c n show (element_of n i) (Outside i) g) (rise_mute (element_of n i) (Outside i) g mute)
  outside_acts_mute i ticks (action.Down why ∷ as') g mute =
      let h : Going P S = record { state = with_access P S c n show i (with_inbox []) g.state; deeds = g.deeds } in
      outside_acts_mute i ticks as' (fall P S c n show (element_of n i) (Outside i) h) (fall_mute (element_of n i) (Outside i) h mute)
  outside_acts_mute i ticks (action.Pass m ∷ as') g mute =
      let heard = heeded c (Outside i) (g.state.elements (element_of n i)).pending.rows m in
      outside_acts_mute i ticks as' (give P S c n show (element_of n i) (Outside i) heard g) (give_mute (element_of n i) (Outside i) heard g mute)

  outside_step_mute : (i : ℕ) (x : Input) (g : Going P S) (o : Option Connection) → Mute g → Mute (outside_step P S c n show i x g o)
  outside_step_mute i x g None mute = mute
  outside_step_mute i x g (Some y) mute =
      let t = turn_of y.session x in
      outside_acts_mute i (is_tick x) t.actions (record { state = with_access P S c n show i (with_session t.next) g.state; deeds = g.deeds }) mute

  outside_input_mute : (i : ℕ) (x : Input) (g : Going P S) → Mute g → Mute (outside_input P S c n show i x g)
  outside_input_mute i x g mute = outside_step_mute i x g (g.state.accesses i).connection mute

  -- ---- inner links

  inner_acts_mute : (at b : As) (ticks : Bool) (as' : List Action) (g : Going P S) → Mute g → Mute (inner_acts P S c n show at b ticks as' g)
  inner_acts_mute at b ticks [] g mute = mute
  inner_acts_mute at b ticks (action.Send o ∷ as') g mute =
      inner_acts_mute at b ticks as' (inner_act P S c n show at b ticks (action.Send o) g)
      (pick (cond ticks (cond (is_due o) (cond (is_empty (g.state.queues at b)) false true) false) false) g (say P S c n show at (Inner b) o g) mute (say_mute at (Inner b) o g mute))
  inner_acts_mute at b ticks (action.Up ∷ as') g mute = inner_acts_mute at b ticks as' (rise P S c n show at (Inner b) g) (rise_mute at (Inner b) g mute)
  inner_acts_mute at b ticks (action.Down why ∷ as') g mute = inner_acts_mute at b ticks as' g mute
  inner_acts_mute at b ticks (action.Pass m ∷ as') g mute = inner_acts_mute at b ticks as' (give P S c n show at (Inner b) m g) (give_mute at (Inner b) m g mute)

  begin_end_mute : (sid : ℕ) (at b : As) (g : Going P S) → Mute g → Mute (begin_end P S c n show sid at b g)
  begin_end_mute sid at b g mute =
      let r = turn_of (new_state (our_offer sid) (record { 0 = g.state.clock })) input.Begin in
      inner_acts_mute at b false r.actions (record { state = with_inner P S c n show at b r.next g.state; deeds = g.deeds }) mute

  begin_adjacency_mute : (sid : ℕ) (x : Adjacency) (g : Going P S) → Mute g → Mute (begin_adjacency P S c n show sid x g)
  begin_adjacency_mute sid x g mute = begin_end_mute sid x.upper x.lower (begin_end P S c n show sid x.lower x.upper g) (begin_end_mute sid x.lower x.upper g mute)

  break_adjacency_mute : (x : Adjacency) (g : Going P S) → Mute g → Mute (break_adjacency P S c n show x g)
  break_adjacency_mute x g mute =
      let sid = ((g.state.sessions x.lower x.upper).offer.sid + 1) % 256 in
      let one = fall P S c n show x.lower (Inner x.upper) g in
      let both = fall P S c n show x.upper (Inner x.lower) one in
      begin_adjacency_mute sid x (clear P S c n show x both) (tt, fall_mute x.upper (Inner x.lower) one (fall_mute x.lower (Inner x.upper) g mute))

  inner_input_mute : (x : Adjacency) (at b : As) (i : Input) (g : Going P S) → Mute g → Mute (inner_input P S c n show x at b i g)
  inner_input_mute x at b i g mute =
      let r = turn_of (g.state.sessions at b) i in
      let h : Going P S = record { state = with_inner P S c n show at b r.next g.state; deeds = g.deeds } in
      pick (any_fall r.actions) (break_adjacency P S c n show x g) (inner_acts P S c n show at b (is_tick i) r.actions h) (break_adjacency_mute x g mute)
      (inner_acts_mute at b (is_tick i) r.actions h mute)

  tick_outside_mute : (i : ℕ) (rows : List PeerRow) (now : Tick) (g : Going P S) → Mute g → Mute (tick_outside P S c n show i rows now g)
  tick_outside_mute i [] now g mute = mute
  tick_outside_mute i (r ∷ rows) now g mute =
      tick_outside_mute (i + 1) rows now (outside_input P S c n show i (input.Tick now) g) (outside_input_mute i (input.Tick now) g mute)

  tick_adjacencies_mute : (xs : List Adjacency) (now : Tick) (g : Going P S) → Mute g → Mute (tick_adjacencies P S c n show xs now g)
  tick_adjacencies_mute [] now g mute = mute
  tick_adjacencies_mute (x ∷ xs) now g mute =
      let one = inner_input P S c n show x x.lower x.upper (input.Tick now) g in
      tick_adjacencies_mute xs now (inner_input P S c n show x x.upper x.lower (input.Tick now) one)
      (inner_input_mute x x.upper x.lower (input.Tick now) one (inner_input_mute x x.lower x.upper (input.Tick now) g mute))

  -- ---- events

  abbrev pub MuteHappened : Happened P S → Type 0
  MuteHappened h = IsMute h.deeds

  pick_happened : (b : Bool) (g h : Happened P S) → MuteHappened g → MuteHappened h → MuteHappened (cond b g h)
  pick_happened true g h x y = x
  pick_happened false g h x y = y

  pub open_mute : (i holder : ℕ) (s : State P S) → MuteHappened (events.open_peer P S c n show i holder s)
  open_mute i holder s =
      pick_happened (is_some (peer_row i n.peers)) (events.open_new P S c n show i holder s (s.accesses i).connection) (events.refused P S c n show NoSuchPeer s) (go (s.accesses i).connection) tt
    where
      go : (o : Option Connection) → MuteHappened (events.open_new P S c n show i holder s o)
      go None = outside_input_mute i input.Begin (record { state = events.connect P S c n show i holder s; deeds = [] }) tt
      go (Some x) = tt

  pub shut_mute : (i : ℕ) (s : State P S) → MuteHappened (events.shut P S c n show i s)
  shut_mute i s = go (s.accesses i).connection
    where
      go : (o : Option Connection) → MuteHappened (events.shut_open P S c n show i s o)
      go None = tt
      go (Some x) = fall_mute (element_of n i) (Outside i) (record { state = s; deeds = [] }) tt

  pub feed_mute : (i : ℕ) (bytes : Bytes) (s : State P S) → MuteHappened (events.feed P S c n show i bytes s)
  feed_mute i bytes s = go (s.accesses i).connection
    where
      go : (o : Option Connection) → MuteHappened (events.feed_open P S c n show i bytes s o)
      go None = tt
      go (Some x) = tt

  pub take_mute : (i : ℕ) (s : State P S) → MuteHappened (events.take P S c n show i s)
  take_mute i s = go (s.accesses i).connection
    where
      item : (inbox : List (Option Bytes)) → MuteHappened (events.take_item P S c n show i s inbox)
      item [] = tt
      item (x ∷ rest) = outside_input_mute i (input_of c x) (record { state = with_access P S c n show i (with_inbox rest) s; deeds = [] }) tt

      go : (o : Option Connection) → MuteHappened (events.take_open P S c n show i s o)
      go None = tt
      go (Some x) = item x.inbox

  pub carry_mute : (a b : As) (s : State P S) → MuteHappened (events.carry P S c n show a b s)
  carry_mute a b s = pick_happened (is_linked n a b) (events.carry_first P S c n show a b s (s.queues a b)) (events.refused P S c n show NoSuchPeer s) (go (s.queues a b)) tt
    where
      go : (queue : List Bytes) → MuteHappened (events.carry_first P S c n show a b s queue)
      go [] = tt
      go (x ∷ rest) = inner_input_mute (adjacency a b) b a (input_of c (Some x)) (record { state = record s { queues = set_pair a b rest s.queues }; deeds = Pops a b ∷ [] }) (tt, tt)

  pub break_mute : (a b : As) (s : State P S) → MuteHappened (events.break P S c n show a b s)
  break_mute a b s =
      let g : Going P S = record { state = s; deeds = [] } in
      pick_happened (is_linked n a b) (events.answered P S c n show Done (break_adjacency P S c n show (adjacency a b) g)) (events.refused P S c n show NoSuchPeer s) (break_adjacency_mute (adjacency a b) g tt) tt

  pub tick_mute : (t : ℕ) (s : State P S) → MuteHappened (events.tick P S c n show t s)
  tick_mute t s =
      let now = events.later s.clock t in
      let g : Going P S = record { state = record s { clock = now }; deeds = [] } in
      let outside = tick_outside P S c n show 0 n.peers (record { 0 = now }) g in
      (tt, tick_adjacencies_mute (adjacencies n) (record { 0 = now }) outside (tick_outside_mute 0 n.peers (record { 0 = now }) g tt))
