-- What sessions say of their own is in written form: the timers and numbers that they offer are octets.
use Rattle.std.proofs.Common.{◌≡◌, ◌<◌, ◌+◌, ◌%◌, ℕ, Bool, true, false, not, cond, ◌==◌, ◌&&◌, Option, Some, None, List, [], ◌∷◌, is_some, sym, subst, refl, arith}
use Rattle.plant_model.specs.Types.{As, Tick, Peer, Outside, Inner, Hop, OpenBody, Message, Own, Action, Input, Phase, State as Session, NetworkParts, PeerRow}
use Rattle.pcep_subobjects.specs.Subobjects.{AreOctets}
use Rattle.pcep_messages.specs.declared.message.Message.TheVariants as messages
use Rattle.pcep_messages.specs.Spelling.{IsWritten}
use Rattle.pcep_session.specs.declared.actions.Action.TheVariants as action
use Rattle.pcep_session.specs.declared.session.Input.TheVariants as input
use Rattle.pcep_session.specs.declared.state.Phase.TheVariants as phase
use Rattle.pcep_session.specs.Reports.{first_error_of, first_opening_of}
use Rattle.pcep_session.specs.Table.{SessionStep, turn_of, turn_in, new_state, open_wait, keep_wait, refused, refused_terms, in_up, up_tick, unknown_type, fails, heard, at_tick, has_passed, is_recent}
use Rattle.plant_text.specs.Names.{same_as, parent_as}
use Rattle.plant_text.specs.Settings.{Adjacency, adjacency, adjacencies, is_linked, peer_row, class_of}
use Rattle.plant_model.specs.declared.output.Output.{Output}
use Rattle.plant_model.specs.Names.{is_empty, set_pair}
use Rattle.plant_model.specs.Wire.{Bytes, Codec}
use Rattle.plant_model.specs.Laws.{IsCodec, HasTimers}
use Rattle.plant_model.specs.Element.{upped, downed}
use Rattle.plant_model.specs.Taking.{take}
use Rattle.plant_model.specs.Parent as parent
use Rattle.plant_model.specs.Settings.{place, family}
use Rattle.plant_model.specs.State.{State, Connection, Access, Deed, Loads, Pops, Takes, Says, Ups, Downs, Clears, Solves, Expires, Hands}
use Rattle.plant_model.specs.Deeds.{Going, element_of, on_connection, is_due, is_tick, is_out_empty, any_fall, our_offer, with_more, with_session, with_inbox, read_as, input_of, own_message, put, put_to, puts, with_element, with_parent, give, rise, fall, say, clear, outside_act, outside_acts, outside_step, outside_input, inner_act, inner_acts, inner_input, begin_end, begin_adjacency, break_adjacency, tick_outside, tick_adjacencies, with_access, with_inner}
use Rattle.plant_model.specs.Outside.{heeded}
use Rattle.plant_model.specs.Events as events
use Rattle.plant_model.specs.Events.{is_down}
use Rattle.plant_laws.proofs.WrittenForm.InForm.{OfferFits, OwnFits, own_written}
use Rattle.plant_laws.proofs.Runs.Reading.{AreItems, HoldsBytes}

-- ---- a session

abbrev pub MessageTimes : Message → Type 0
MessageTimes (messages.PcErr reports) = HasTimers (first_opening_of reports)
MessageTimes m = Unit {0}

-- what comes to a session
abbrev pub Timely : Input → Type 0
Timely (input.Got m) = MessageTimes m
Timely x = Unit {0}

abbrev pub ActionFits : Action → Type 0
ActionFits (action.Send o) = OwnFits o
ActionFits a = Unit {0}

abbrev pub ActionsFit : List Action → Type 0
ActionsFit [] = Unit {0}
ActionsFit (a ∷ as') = ActionFits a × ActionsFit as'

abbrev pub TurnFits : SessionStep → Type 0
TurnFits t = OfferFits t.next.offer × ActionsFit t.actions

pick : (b : Bool) (r r' : SessionStep) → TurnFits r → TurnFits r' → TurnFits (cond b r r')
pick true r r' h h' = h
pick false r r' h h' = h'

fails_fit : (s : Session) (error : ℕ) → error < 256 → OfferFits s.offer → TurnFits (fails s error)
fails_fit s error less f = (f, ((omega arith, less), (tt, tt)))

open_wait_fits : (s : Session) (m : Message) → OfferFits s.offer → TurnFits (open_wait s m)
open_wait_fits s (messages.Open body) f = pick (body.version == 1) _ _ (f, (tt, tt)) (fails_fit s 8 (omega arith) f)
open_wait_fits s (messages.Close why) f = (f, (tt, tt))
open_wait_fits s messages.Keepalive f = fails_fit s 1 (omega arith) f
open_wait_fits s (messages.PcReq asks) f = fails_fit s 1 (omega arith) f
open_wait_fits s (messages.PcRep replies) f = fails_fit s 1 (omega arith) f
open_wait_fits s (messages.PcNtf notices) f = fails_fit s 1 (omega arith) f
open_wait_fits s (messages.PcErr reports) f = fails_fit s 1 (omega arith) f
open_wait_fits s (messages.Other kind) f = fails_fit s 1 (omega arith) f

terms_fit : (s : Session) (o : Option OpenBody) → HasTimers o → OfferFits s.offer → TurnFits (refused_terms s o)
terms_fit s None times f = fails_fit s 6 (omega arith) f
terms_fit s (Some body) times f = pick s.retried _ _ (fails_fit s 6 (omega arith) f) ((times.0, times.1, f.2), ((times.0, times.1, f.2), tt))

refused_fits : (s : Session) (e : Option (ℕ × ℕ)) (o : Option OpenBody) → HasTimers o → OfferFits s.offer → TurnFits (refused s e o)
refused_fits s None o times f = (f, (tt, tt))
refused_fits s (Some e) o times f = pick ((e.0 == 1) && (e.1 == 4)) _ _ (terms_fit s o times f) (f, (tt, tt))

keep_wait_fits : (s : Session) (m : Message) → MessageTimes m → OfferFits s.offer → TurnFits (keep_wait s m)
keep_wait_fits s messages.Keepalive times f = (f, (tt, tt))
keep_wait_fits s (messages.Close why) times f = (f, (tt, tt))
keep_wait_fits s (messages.PcErr reports) times f = refused_fits s (first_error_of reports) (first_opening_of reports) times f
keep_wait_fits s (messages.Open body) times f = fails_fit s 1 (omega arith) f
keep_wait_fits s (messages.PcReq asks) times f = fails_fit s 1 (omega arith) f
keep_wait_fits s (messages.PcRep replies) times f = fails_fit s 1 (omega arith) f
keep_wait_fits s (messages.PcNtf notices) times f = fails_fit s 1 (omega arith) f
keep_wait_fits s (messages.Other kind) times f = fails_fit s 1 (omega arith) f

unknown_fits : (s : Session) → OfferFits s.offer → TurnFits (unknown_type s)
unknown_fits s f = pick (is_recent s s.unknown.oldest) _ _ (f, ((omega arith, omega arith), (omega arith, (tt, tt)))) (f, ((omega arith, omega arith), tt))

up_fits : (s : Session) (m : Message) → OfferFits s.offer → TurnFits (in_up s m)
up_fits s messages.Keepalive f = (f, tt)
up_fits s (messages.Open body) f = (f, ((omega arith, omega arith), tt))
up_fits s (messages.PcReq asks) f = (f, (tt, tt))
up_fits s (messages.PcRep replies) f = (f, (tt, tt))
up_fits s (messages.PcNtf notices) f = (f, (tt, tt))
up_fits s (messages.PcErr reports) f = (f, (tt, tt))
up_fits s (messages.Close why) f = (f, (tt, tt))
up_fits s (messages.Other kind) f =
    pick (kind == 10) _ _ (f, ((omega arith, omega arith), (omega arith, (tt, tt))))
    (pick (kind == 11) _ _ (f, ((omega arith, omega arith), (omega arith, (tt, tt)))) (unknown_fits s f))

tick_fits : (s : Session) → OfferFits s.offer → TurnFits (up_tick s)
tick_fits s f =
    pick (not (s.agreed.dead == 0) && has_passed s s.heard s.agreed.dead) _ _ (f, (omega arith, (tt, tt)))
    (pick (not (s.agreed.keepalive == 0) && has_passed s s.sent s.agreed.keepalive) _ _ (f, (tt, tt)) (f, tt))

in_fits : (p : Phase) (s : Session) (x : Input) → Timely x → OfferFits s.offer → TurnFits (turn_in p s x)
in_fits phase.Idle s input.Begin times f = (f, (f, tt))
in_fits phase.Idle s (input.Tick now) times f = (f, tt)
in_fits phase.Idle s (input.Got m) times f = (f, tt)
in_fits phase.Idle s input.Bad times f = (f, tt)
in_fits phase.OpenWait s input.Begin times f = (f, tt)
in_fits phase.OpenWait s (input.Got m) times f = open_wait_fits (heard s) m f
in_fits phase.OpenWait s input.Bad times f = fails_fit s 1 (omega arith) f
in_fits phase.OpenWait s (input.Tick now) times f = let t = at_tick s now in pick (has_passed t t.since 60) _ _ (fails_fit t 2 (omega arith) f) (f, tt)
in_fits phase.KeepWait s input.Begin times f = (f, tt)
in_fits phase.KeepWait s (input.Got m) times f = keep_wait_fits (heard s) m times f
in_fits phase.KeepWait s input.Bad times f = fails_fit s 1 (omega arith) f
in_fits phase.KeepWait s (input.Tick now) times f = let t = at_tick s now in pick (has_passed t t.since 60) _ _ (fails_fit t 7 (omega arith) f) (f, tt)
in_fits phase.Up s input.Begin times f = (f, tt)
in_fits phase.Up s (input.Got m) times f = up_fits (heard s) m f
in_fits phase.Up s input.Bad times f = (f, (omega arith, (tt, tt)))
in_fits phase.Up s (input.Tick now) times f = tick_fits (at_tick s now) f
in_fits phase.Down s x times f = (f, tt)

pub turn_fits : (s : Session) (x : Input) → Timely x → OfferFits s.offer → TurnFits (turn_of s x)
turn_fits s x times f = in_fits s.phase s x times f

our_fits : (sid : ℕ) → sid < 256 → OfferFits (our_offer sid)
our_fits sid less = (omega arith, omega arith, less)

-- ---- a network

-- what sessions send is written
abbrev pub SaysSend : {S : Type 0} → List (Deed S) → Type 0
SaysSend [] = Unit {0}
SaysSend (Says at o ∷ ds) = IsWritten o.message × SaysSend ds
SaysSend (Takes at p m os ∷ ds) = SaysSend ds
SaysSend (Downs at p os ∷ ds) = SaysSend ds
SaysSend (Solves at k os keys ∷ ds) = SaysSend ds
SaysSend (Loads at g ∷ ds) = SaysSend ds
SaysSend (Pops a b ∷ ds) = SaysSend ds
SaysSend (Ups at p ∷ ds) = SaysSend ds
SaysSend (Clears a b ∷ ds) = SaysSend ds
SaysSend (Expires now ∷ ds) = SaysSend ds
SaysSend (Hands i bytes ∷ ds) = SaysSend ds

abbrev pub ConnFits : Option Connection → Type 0
ConnFits None = Unit {0}
ConnFits (Some x) = OfferFits x.session.offer

module _ (P : Type 0) (S : Type 0) (c : Codec) (codec : IsCodec c) (n : NetworkParts) (show : S → List Hop) where
  pub record SessionsFit (s : State P S) : Type 0 where
    pub inner : (a b : As) → OfferFits (s.sessions a b).offer
    pub outer : (i : ℕ) → ConnFits (s.accesses i).connection

  abbrev pub Fine : Going P S → Type 0
  Fine g = SessionsFit g.state × SaysSend g.deeds

  choose : (b : Bool) (g h : Going P S) → Fine g → Fine h → Fine (cond b g h)
  choose true g h x y = x
  choose false g h x y = y

  access_fit : (i : ℕ) (f : Connection → Connection) (s : State P S) → ((x : Connection) → OfferFits x.session.offer → OfferFits (f x).session.offer) → SessionsFit s → SessionsFit (with_access P S c n show i f s)
  access_fit i f s keeps h = record { inner = h.inner; outer = λ j. go j (i == j) }
    where
      at : (o : Option Connection) → ConnFits o → ConnFits (on_connection f (record { opened = (s.accesses i).opened; connection = o })).connection
      at None fits = tt
      at (Some x) fits = keeps x fits

      go : (j : ℕ) (b : Bool) → ConnFits (cond b (on_connection f (s.accesses i)) (s.accesses j)).connection
      go j true = at (s.accesses i).connection (h.outer i)
      go j false = h.outer j

  put_fit : (at : As) (bytes : Bytes) (s : State P S) (to : Peer) → SessionsFit s → SessionsFit (put_to P S c n show at bytes s to)
  put_fit at bytes s (Outside i) h = access_fit i (with_more bytes) s (λ x fits. fits) h
  put_fit at bytes s (Inner b) h = record { inner = h.inner; outer = h.outer }

  pub puts_fit : (at : As) (os : List Output) (s : State P S) → SessionsFit s → SessionsFit (puts P S c n show at os s)
  puts_fit at [] s h = h
  puts_fit at (o ∷ os) s h = puts_fit at os (put P S c n show at o s) (put_fit at (c.text o.message) s o.to h)

  give_fine : (at : As) (p : Peer) (m : Message) (g : Going P S) → Fine g → Fine (give P S c n show at p m g)
  give_fine at p m g h =
      let r = parent.take c (family n) p m g.state.parent in
      let t = take c show (place n at) (g.state.current at) p (class_of n p) g.state.clock m (g.state.elements at) in
      let u = with_parent P S c n show r.parent g.state in
      let v = with_element P S c n show at t.element g.state in
      choose (same_as at parent_as)
      (record { state = puts P S c n show at r.outputs u; deeds = Takes at p m r.outputs ∷ g.deeds })
      (record { state = puts P S c n show at t.outputs v; deeds = Takes at p m t.outputs ∷ g.deeds })
      (puts_fit at r.outputs u (record { inner = h.0.inner; outer = h.0.outer }), h.1)
      (puts_fit at t.outputs v (record { inner = h.0.inner; outer = h.0.outer }), h.1)

  rise_fine : (at : As) (p : Peer) (g : Going P S) → Fine g → Fine (rise P S c n show at p g)
  rise_fine at p g h =
      choose (same_as at parent_as)
      (record { state = with_parent P S c n show (parent.upped p g.state.parent) g.state; deeds = Ups at p ∷ g.deeds })
      (record { state = with_element P S c n show at (upped p (g.state.elements at)) g.state; deeds = Ups at p ∷ g.deeds })
      (record { inner = h.0.inner; outer = h.0.outer }, h.1) (record { inner = h.0.inner; outer = h.0.outer }, h.1)

  fall_fine : (at : As) (p : Peer) (g : Going P S) → Fine g → Fine (fall P S c n show at p g)
  fall_fine at p g h =
      let r = parent.downed p g.state.parent in
      let t = downed p (g.state.elements at) in
      let u = with_parent P S c n show r.parent g.state in
      let v = with_element P S c n show at t.element g.state in
      choose (same_as at parent_as)
      (record { state = puts P S c n show at r.outputs u; deeds = Downs at p r.outputs ∷ g.deeds })
      (record { state = puts P S c n show at t.outputs v; deeds = Downs at p t.outputs ∷ g.deeds })
      (puts_fit at r.outputs u (record { inner = h.0.inner; outer = h.0.outer }), h.1)
      (puts_fit at t.outputs v (record { inner = h.0.inner; outer = h.0.outer }), h.1)

  say_fine : (at : As) (p : Peer) (o : Own) (g : Going P S) → OwnFits o → Fine g → Fine (say P S c n show at p o g)
  say_fine at p o g fits h = let out : Output = record { to = p; message = own_message o } in (put_fit at (c.text out.message) g.state p h.0, (own_written o fits, h.1))

  outside_acts_fine : (i : ℕ) (ticks : Bool) (as' : List Action) (g : Going P S) → ActionsFit as' → Fine g → Fine (outside_acts P S c n show i ticks as' g)
  outside_acts_fine i ticks [] g fit h = h
  outside_acts_fine i ticks (action.Send o ∷ as') g fit h =
      outside_acts_fine i ticks as' (outside_act P S c n show i ticks (action.Send o) g) fit.1
      (choose (cond ticks (cond (is_due o) (cond (is_out_empty (g.state.accesses i).connection) false true) false) false) g (say P S c n show (element_of n i) (Outside i) o g) h (say_fine (element_of n i) (Outside i) o g fit.0 h))
  outside_acts_fine i ticks (action.Up ∷ as') g fit h = outside_acts_fine i ticks as' (rise P S c n show (element_of n i) (Outside i) g) fit.1 (rise_fine (element_of n i) (Outside i) g h)
  outside_acts_fine i ticks (action.Down why ∷ as') g fit h =
      let k : Going P S = record { state = with_access P S c n show i (with_inbox []) g.state; deeds = g.deeds } in
      outside_acts_fine i ticks as' (fall P S c n show (element_of n i) (Outside i) k) fit.1
      (fall_fine (element_of n i) (Outside i) k (access_fit i (with_inbox []) g.state (λ x fits. fits) h.0, h.1))
  outside_acts_fine i ticks (action.Pass m ∷ as') g fit h =
      let given = heeded c (Outside i) (g.state.elements (element_of n i)).pending.rows m in
      outside_acts_fine i ticks as' (give P S c n show (element_of n i) (Outside i) given g) fit.1 (give_fine (element_of n i) (Outside i) given g h)

  outside_fine : (i : ℕ) (x : Input) (g : Going P S) → Timely x → Fine g → Fine (outside_input P S c n show i x g)
  outside_fine i x g times h = go (g.state.accesses i).connection (h.0.outer i)
    where
      go : (o : Option Connection) → ConnFits o → Fine (outside_step P S c n show i x g o)
      go None fits = h
      go (Some k) fits =
          let t = turn_of k.session x in
          let f = turn_fits k.session x times fits in
          outside_acts_fine i (is_tick x) t.actions (record { state = with_access P S c n show i (with_session t.next) g.state; deeds = g.deeds }) f.1
          (access_fit i (with_session t.next) g.state (λ y was. f.0) h.0, h.1)

  inner_acts_fine : (at b : As) (ticks : Bool) (as' : List Action) (g : Going P S) → ActionsFit as' → Fine g → Fine (inner_acts P S c n show at b ticks as' g)
  inner_acts_fine at b ticks [] g fit h = h
  inner_acts_fine at b ticks (action.Send o ∷ as') g fit h =
      inner_acts_fine at b ticks as' (inner_act P S c n show at b ticks (action.Send o) g) fit.1
      (choose (cond ticks (cond (is_due o) (cond (is_empty (g.state.queues at b)) false true) false) false) g (say P S c n show at (Inner b) o g) h (say_fine at (Inner b) o g fit.0 h))
  inner_acts_fine at b ticks (action.Up ∷ as') g fit h = inner_acts_fine at b ticks as' (rise P S c n show at (Inner b) g) fit.1 (rise_fine at (Inner b) g h)
  inner_acts_fine at b ticks (action.Down why ∷ as') g fit h = inner_acts_fine at b ticks as' g fit.1 h
  inner_acts_fine at b ticks (action.Pass m ∷ as') g fit h = inner_acts_fine at b ticks as' (give P S c n show at (Inner b) m g) fit.1 (give_fine at (Inner b) m g h)

  inner_fit : (at b : As) (x : Session) (s : State P S) → OfferFits x.offer → SessionsFit s → SessionsFit (with_inner P S c n show at b x s)
  inner_fit at b x s fits h = record { inner = λ a' b'. go a' b' (same_as at a') (same_as b b'); outer = h.outer }
    where
      go : (a' b' : As) (t u : Bool) → OfferFits (cond t (cond u x (s.sessions a' b')) (s.sessions a' b')).offer
      go a' b' true true = fits
      go a' b' true false = h.inner a' b'
      go a' b' false u = h.inner a' b'

  begin_end_fine : (sid : ℕ) (at b : As) (g : Going P S) → sid < 256 → Fine g → Fine (begin_end P S c n show sid at b g)
  begin_end_fine sid at b g less h =
      let s = new_state (our_offer sid) (record { 0 = g.state.clock }) in
      let t = turn_of s input.Begin in
      let f = turn_fits s input.Begin tt (our_fits sid less) in
      inner_acts_fine at b false t.actions (record { state = with_inner P S c n show at b t.next g.state; deeds = g.deeds }) f.1 (inner_fit at b t.next g.state f.0 h.0, h.1)

  pub begin_adjacency_fine : (sid : ℕ) (x : Adjacency) (g : Going P S) → sid < 256 → Fine g → Fine (begin_adjacency P S c n show sid x g)
  begin_adjacency_fine sid x g less h = begin_end_fine sid x.upper x.lower (begin_end P S c n show sid x.lower x.upper g) less (begin_end_fine sid x.lower x.upper g less h)

  rest_less : (k : ℕ) → k % 256 < 256
  rest_less k = omega arith

  break_fine : (x : Adjacency) (g : Going P S) → Fine g → Fine (break_adjacency P S c n show x g)
  break_fine x g h =
      let f = fall P S c n show x.lower (Inner x.upper) g in
      let k = fall P S c n show x.upper (Inner x.lower) f in
      let two = fall_fine x.upper (Inner x.lower) f (fall_fine x.lower (Inner x.upper) g h) in
      begin_adjacency_fine (((g.state.sessions x.lower x.upper).offer.sid + 1) % 256) x (clear P S c n show x k) (rest_less ((g.state.sessions x.lower x.upper).offer.sid + 1))
      (record { inner = two.0.inner; outer = two.0.outer }, two.1)

  inner_fine : (x : Adjacency) (at b : As) (y : Input) (g : Going P S) → Timely y → Fine g → Fine (inner_input P S c n show x at b y g)
  inner_fine x at b y g times h =
      let t = turn_of (g.state.sessions at b) y in
      let f = turn_fits (g.state.sessions at b) y times (h.0.inner at b) in
      let k : Going P S = record { state = with_inner P S c n show at b t.next g.state; deeds = g.deeds } in
      choose (any_fall t.actions) (break_adjacency P S c n show x g) (inner_acts P S c n show at b (is_tick y) t.actions k) (break_fine x g h)
      (inner_acts_fine at b (is_tick y) t.actions k f.1 (inner_fit at b t.next g.state f.0 h.0, h.1))

  tick_outside_fine : (i : ℕ) (rs : List PeerRow) (now : Tick) (g : Going P S) → Fine g → Fine (tick_outside P S c n show i rs now g)
  tick_outside_fine i [] now g h = h
  tick_outside_fine i (row ∷ rs) now g h = tick_outside_fine (i + 1) rs now (outside_input P S c n show i (input.Tick now) g) (outside_fine i (input.Tick now) g tt h)

  tick_adjacencies_fine : (xs : List Adjacency) (now : Tick) (g : Going P S) → Fine g → Fine (tick_adjacencies P S c n show xs now g)
  tick_adjacencies_fine [] now g h = h
  tick_adjacencies_fine (x ∷ xs) now g h =
      let k = inner_input P S c n show x x.lower x.upper (input.Tick now) g in
      tick_adjacencies_fine xs now (inner_input P S c n show x x.upper x.lower (input.Tick now) k)
      (inner_fine x x.upper x.lower (input.Tick now) k tt (inner_fine x x.lower x.upper (input.Tick now) g tt h))

  -- ---- events

  abbrev pub Did : events.Happened P S → Type 0
  Did h = SessionsFit h.state × SaysSend h.deeds

  did_pick : (b : Bool) (h k : events.Happened P S) → Did h → Did k → Did (cond b h k)
  did_pick true h k d e = d
  did_pick false h k d e = e

  -- a message of octets has timers of octets
  message_times : (bytes : Bytes) (m : Message) → AreOctets bytes → c.read bytes ≡ Some m → MessageTimes m
  message_times bytes (messages.PcErr reports) octets read = codec.numbers.openings bytes reports octets read
  message_times bytes (messages.PcReq asks) octets read = tt
  message_times bytes (messages.PcRep replies) octets read = tt
  message_times bytes (messages.PcNtf notices) octets read = tt
  message_times bytes (messages.Open body) octets read = tt
  message_times bytes messages.Keepalive octets read = tt
  message_times bytes (messages.Close why) octets read = tt
  message_times bytes (messages.Other kind) octets read = tt

  pub bytes_times : (bytes : Bytes) → AreOctets bytes → Timely (input_of c (Some bytes))
  bytes_times bytes octets = go (c.read bytes) refl
    where
      go : (o : Option Message) → c.read bytes ≡ o → Timely (read_as o)
      go None is = tt
      go (Some m) is = message_times bytes m octets is

  module _ (s : State P S) (fit : SessionsFit s) where
    set_fit : (i : ℕ) (a : Access) → ConnFits a.connection → SessionsFit (events.set_access P S c n show i a s)
    set_fit i a new = record { inner = fit.inner; outer = λ j. go j (i == j) }
      where
        go : (j : ℕ) (b : Bool) → ConnFits (cond b a (s.accesses j)).connection
        go j true = new
        go j false = fit.outer j

    pub open_fits : (i holder : ℕ) → Did (events.open_peer P S c n show i holder s)
    open_fits i holder =
        did_pick (is_some (peer_row i n.peers)) (events.open_new P S c n show i holder s (s.accesses i).connection) (events.refused P S c n show _ s) (go (s.accesses i).connection) (fit, tt)
      where
        go : (o : Option Connection) → Did (events.open_new P S c n show i holder s o)
        go (Some x) = (fit, tt)
        go None =
            outside_fine i input.Begin (record { state = events.connect P S c n show i holder s; deeds = [] }) tt
            (set_fit i _ (our_fits ((s.accesses i).opened % 256) (rest_less (s.accesses i).opened)), tt)

    pub shut_fits : (i : ℕ) → Did (events.shut P S c n show i s)
    shut_fits i = go (s.accesses i).connection
      where
        closed : (t : State P S) → SessionsFit t → SessionsFit (events.set_access P S c n show i (record { opened = (s.accesses i).opened; connection = None }) t)
        closed t h = record { inner = h.inner; outer = λ j. at j (i == j) }
          where
            at : (j : ℕ) (b : Bool) → ConnFits (let none : Access = record { opened = (s.accesses i).opened; connection = None } in cond b none (t.accesses j)).connection
            at j true = tt
            at j false = h.outer j

        go : (o : Option Connection) → Did (events.shut_open P S c n show i s o)
        go None = (fit, tt)
        go (Some x) =
            let g = fall P S c n show (element_of n i) (Outside i) (record { state = s; deeds = [] }) in
            let h = fall_fine (element_of n i) (Outside i) (record { state = s; deeds = [] }) (fit, tt) in
            (closed g.state h.0, h.1)

    pub feed_fits : (i : ℕ) (bytes : Bytes) → Did (events.feed P S c n show i bytes s)
    feed_fits i bytes = go (s.accesses i).connection
      where
        same : (b : Bool) (t : State P S) → SessionsFit t → SessionsFit (cond b s t)
        same true t h = fit
        same false t h = h

        go : (o : Option Connection) → Did (events.feed_open P S c n show i bytes s o)
        go None = (fit, tt)
        go (Some x) = (same (is_down x.session.phase) (with_access P S c n show i (events.fed c bytes) s) (access_fit i (events.fed c bytes) s (λ y fits. fits) fit), tt)

    pub take_fits : (i : ℕ) → HoldsBytes n i (s.accesses i).connection → Did (events.take P S c n show i s)
    take_fits i holds = go (s.accesses i).connection holds
      where
        item : (inbox : List (Option Bytes)) → AreItems inbox → Did (events.take_item P S c n show i s inbox)
        item [] items = (fit, tt)
        item (None ∷ rest) items = outside_fine i input.Bad (record { state = with_access P S c n show i (with_inbox rest) s; deeds = [] }) tt (access_fit i (with_inbox rest) s (λ y fits. fits) fit, tt)
        item (Some bytes ∷ rest) items =
            outside_fine i (input_of c (Some bytes)) (record { state = with_access P S c n show i (with_inbox rest) s; deeds = [] }) (bytes_times bytes items.0) (access_fit i (with_inbox rest) s (λ y fits. fits) fit, tt)

        go : (o : Option Connection) → HoldsBytes n i o → Did (events.take_open P S c n show i s o)
        go None holds = (fit, tt)
        go (Some x) holds = item x.inbox holds.1

    pub carry_fits : (a b : As) → ((bytes : Bytes) (rest : List Bytes) → s.queues a b ≡ bytes ∷ rest → AreOctets bytes) → Did (events.carry P S c n show a b s)
    carry_fits a b octets = did_pick (is_linked n a b) (events.carry_first P S c n show a b s (s.queues a b)) (events.refused P S c n show _ s) (go (s.queues a b) refl) (fit, tt)
      where
        go : (q : List Bytes) → s.queues a b ≡ q → Did (events.carry_first P S c n show a b s q)
        go [] is = (fit, tt)
        go (x ∷ rest) is =
            inner_fine (adjacency a b) b a (input_of c (Some x)) (record { state = record s { queues = set_pair a b rest s.queues }; deeds = Pops a b ∷ [] }) (bytes_times x (octets x rest is))
            (record { inner = fit.inner; outer = fit.outer }, tt)

    pub break_fits : (a b : As) → Did (events.break P S c n show a b s)
    break_fits a b = did_pick (is_linked n a b) (events.answered P S c n show _ (break_adjacency P S c n show (adjacency a b) (record { state = s; deeds = [] }))) (events.refused P S c n show _ s) (break_fine (adjacency a b) (record { state = s; deeds = [] }) (fit, tt)) (fit, tt)

    pub clock_fits : (t : ℕ) → Did (events.tick P S c n show t s)
    clock_fits t =
        let now = events.later s.clock t in
        let u : State P S = record s { clock = now } in
        let g : Going P S = record { state = u; deeds = [] } in
        let h = tick_outside P S c n show 0 n.peers (record { 0 = now }) g in
        let k = tick_adjacencies_fine (adjacencies n) (record { 0 = now }) h (tick_outside_fine 0 n.peers (record { 0 = now }) g (record { inner = fit.inner; outer = fit.outer }, tt)) in
        (record { inner = k.0.inner; outer = k.0.outer }, k.1)

    pub drain_fits : (i holder : ℕ) → Did (events.drain P S c n show i holder s)
    drain_fits i holder = go (s.accesses i).connection
      where
        go : (o : Option Connection) → Did (events.drain_open P S c n show i holder s o)
        go None = (fit, tt)
        go (Some x) = did_pick (x.holder == holder) _ _ (access_fit i events.drained s (λ y fits. fits) fit, tt) (fit, tt)

  begin_adjacencies_fine : (xs : List Adjacency) (g : Going P S) → Fine g → Fine (events.begin_adjacencies P S c n show xs g)
  begin_adjacencies_fine [] g h = h
  begin_adjacencies_fine (x ∷ xs) g h = begin_adjacencies_fine xs (begin_adjacency P S c n show 0 x g) (begin_adjacency_fine 0 x g (omega arith) h)

  pub opening_fits : (pins : As → P) → Fine (events.opening P S c n show pins)
  opening_fits pins = begin_adjacencies_fine (adjacencies n) (record { state = events.bare P S c n show pins; deeds = [] }) (record { inner = λ a b. our_fits 0 (omega arith); outer = λ i. tt }, tt)
