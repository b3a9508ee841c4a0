-- The connection of an outside peer stays as it is through what others do, but for what is sent to it, and its session goes on by what
-- the peer feeds. Nothing of that drops a request of the peer, as long as it cancels none and its session does not end.
use Rattle.std.proofs.Common.{◌≡◌, ℕ, ◌+◌, ◌%◌, Bool, true, false, cond, ◌==◌, nat_eq, List, [], ◌∷◌, ◌++◌, Option, Some, None, is_some, sym, ◌∙◌, ap, subst, inl, inr, refl}
use Rattle.std.proofs.lemmas.Bool.{eqb-true, eq-eqb}
use Rattle.plant_play.specs.plant_model.Types.{As, Peer, Outside, Inner, Asked, Message, Input, Action, Own, State as Session, Phase, Offer, NetworkParts}
use Rattle.te_links.specs.Rows.{Rows}
use Rattle.pcep_messages.specs.declared.message.Message.TheVariants as messages
use Rattle.pcep_session.specs.declared.session.Input.TheVariants as input
use Rattle.pcep_session.specs.declared.actions.Action.TheVariants as action
use Rattle.pcep_session.specs.declared.state.Phase.TheVariants as phase
use Rattle.pcep_session.specs.Table.{turn_of, turn_in, new_state}
use Rattle.pcep_codes.specs.declared.TheConstants.{VERSION}
use Rattle.pcep_framing.specs.Frames.{Framing}
use Rattle.disclosure.specs.Shown.{open_of}
use Rattle.request_table.specs.Pending.{same_peer}
use Rattle.plant_text.specs.Names.{same_as, parent_as}
use Rattle.plant_text.specs.Settings.{Adjacency, adjacency, adjacencies, is_linked, is_element, peer_row, class_of}
use Rattle.plant_play.specs.plant_model.declared.event.Event.TheVariants as event
use Rattle.plant_play.specs.plant_model.declared.output.Output.{Output}
use Rattle.plant_play.specs.plant_model.declared.outcome.Refused.TheVariants.{NoSuchPeer}
use Rattle.plant_play.specs.plant_model.Names.{is_empty, set_pair}
use Rattle.plant_play.specs.plant_model.Wire.{Bytes, Codec}
use Rattle.plant_play.specs.plant_model.Element.{Taken, upped, downed}
use Rattle.plant_play.specs.plant_model.Taking.{take}
use Rattle.plant_play.specs.plant_model.Solving.{commit, job_found}
use Rattle.plant_play.specs.plant_model.Parent as parent
use Rattle.plant_play.specs.plant_model.Settings.{place, family}
use Rattle.plant_play.specs.plant_model.State.{Connection, Access, Loads, Pops, Takes, Says, Ups, Downs, Clears, Solves, Expires, Hands}
use Rattle.plant_play.specs.plant_model.Deeds.{Going, element_of, is_due, is_tick, is_out_empty, any_fall, our_offer, as_sid, on_connection, with_more, with_session, with_inbox, read_as, input_of, with_parent, with_element, own_message, put, put_to, puts, give, rise, fall, say, clear, outside_act, outside_acts, outside_step, outside_input, inner_act, inner_acts, inner_input, begin_end, begin_adjacency, break_adjacency, with_access, with_inner}
use Rattle.plant_play.specs.plant_model.Events as events
use Rattle.plant_play.specs.plant_model.Events.{split_all, bad_item, is_down}
use Rattle.plant_play.specs.plant_model.Plant.{Pin, Segment, Plant, PlantDeed, Happened, Happens, SolveHappens, is_full, load_new, opened}
use Rattle.run_laws.specs.plant_laws.Answered.{DropsFor, cancelled, went_down}
use Rattle.run_laws.specs.plant_laws.Causes.{an_open, opens_of}
use Rattle.run_laws.specs.plant_laws.Transcript.{Transcript, Within}
use Rattle.run_laws.proofs.plant_laws.Reasons.AllCauses.{networks_begin}

-- ---- deeds that drop nothing of the peer

-- the peer's message is no notice
abbrev IsNoNotice : ℕ → ℕ → Message → Type 0
IsNoNotice i j (messages.PcNtf notices) = (j == i) ≡ false
IsNoNotice i j m = Unit {0}

abbrev IsCalm : ℕ → Peer → Message → Type 0
IsCalm i (Outside j) m = IsNoNotice i j m
IsCalm i (Inner a) m = Unit {0}

abbrev pub IsHarmless : ℕ → PlantDeed → Type 0
IsHarmless i (Takes at p m os) = IsCalm i p m
IsHarmless i (Downs at p os) = same_peer p (Outside i) ≡ false
IsHarmless i _ = Unit {0}

abbrev pub AreHarmless : ℕ → Transcript → Type 0
AreHarmless i [] = Unit {0}
AreHarmless i (e ∷ ds) = IsHarmless i e × AreHarmless i ds

pub harmless_append : (i : ℕ) (ds es : Transcript) → AreHarmless i ds → AreHarmless i es → AreHarmless i (ds ++ es)
harmless_append i [] es h k = k
harmless_append i (e ∷ ds) es h k = (h.0, harmless_append i ds es h.1 k)

harmless_within : (i : ℕ) (e : PlantDeed) (older now : Transcript) → AreHarmless i now → Within (e ∷ older) now → IsHarmless i e
harmless_within i e older [] all within = absurd (let out : e ∷ older ≡ [] = within in cc)
harmless_within i e older (d ∷ ds) all (inl is) = (let same : e ≡ d = cc in subst (IsHarmless i) (sym same) all.0)
harmless_within i e older (d ∷ ds) all (inr within) = harmless_within i e older ds all.1 within

-- so no request of the peer was dropped
pub none_dropped : (i : ℕ) (now : Transcript) → AreHarmless i now → (e : PlantDeed) (older : Transcript) → Within (e ∷ older) now → (d : As) (x : ℕ) → DropsFor d (Outside i) x e → ⊥
none_dropped i now all e older within d x why = go why
  where
    one : IsHarmless i e
    one = harmless_within i e older now all within

    go : DropsFor d (Outside i) x e → ⊥
    go (cancelled notices os is why') =
        (let calm : (i == i) ≡ false = subst (IsHarmless i) is one in
        let clash : true ≡ false = sym (eq-eqb i i refl) ∙ calm in cc)
    go (went_down os is) =
        (let other : nat_eq i i ≡ false = subst (IsHarmless i) is one in
        let clash : true ≡ false = sym (eq-eqb i i refl) ∙ other in cc)

opens_harmless : (i : ℕ) (xs : List Adjacency) (ds : Transcript) → AreHarmless i ds → AreHarmless i (opens_of xs ds)
opens_harmless i [] ds h = h
opens_harmless i (x ∷ xs) ds h = opens_harmless i xs (an_open x.upper x.lower ∷ an_open x.lower x.upper ∷ ds) (tt, (tt, h))

pub opening_harmless : (c : Codec) (n : NetworkParts) (i : ℕ) → AreHarmless i (opened c n).deeds
opening_harmless c n i = subst (AreHarmless i) (sym (networks_begin c n)) (opens_harmless i (adjacencies n) [] tt)

-- what a session does that goes on, and passes requests alone
abbrev pub AreKept : List Action → Type 0
AreKept [] = Unit {0}
AreKept (action.Send o ∷ as') = AreKept as'
AreKept (action.Up ∷ as') = AreKept as'
AreKept (action.Down why ∷ as') = ⊥
AreKept (action.Pass (messages.PcReq asks) ∷ as') = AreKept as'
AreKept (action.Pass m ∷ as') = ⊥

-- ---- what others do

-- P is what is known of the peer's connection, and stays as more is sent to it.
module _ (c : Codec) (n : NetworkParts) (i : ℕ) (P : Option Connection → Type 0) (none : P None → P None) (more : (k : Connection) (bytes : Bytes) → P (Some k) → P (Some (with_more bytes k))) where
  abbrev Move : Type 0
  Move = Going Pin Segment

  abbrev At : Plant → Type 0
  At s = P (s.accesses i).connection

  abbrev pub Good : Move → Type 0
  Good g = At g.state × AreHarmless i g.deeds

  on_more : (bytes : Bytes) (a : Access) → P a.connection → P (on_connection (with_more bytes) a).connection
  on_more bytes a h = go a.connection h
    where
      go : (o : Option Connection) → P o → P (on_connection (with_more bytes) (record { opened = a.opened; connection = o })).connection
      go None h' = none h'
      go (Some k) h' = more k bytes h'

  put_good : (at : As) (bytes : Bytes) (s : Plant) (to : Peer) → At s → At (put_to Pin Segment c n open_of at bytes s to)
  put_good at bytes s (Inner b) h = h
  put_good at bytes s (Outside j) h = go (j == i) refl
    where
      go : (b : Bool) → (j == i) ≡ b → P (cond b (on_connection (with_more bytes) (s.accesses j)) (s.accesses i)).connection
      go true is = on_more bytes (s.accesses j) (subst (λ (z : ℕ). P (s.accesses z).connection) (sym (eqb-true j i is)) h)
      go false is = h

  puts_good : (at : As) (os : List Output) (s : Plant) → At s → At (puts Pin Segment c n open_of at os s)
  puts_good at [] s h = h
  puts_good at (o ∷ os) s h = puts_good at os (put Pin Segment c n open_of at o s) (put_good at (c.text o.message) s o.to h)

  pick : (b : Bool) (g h : Move) → Good g → Good h → Good (cond b g h)
  pick true g h x y = x
  pick false g h x y = y

  give_good : (at : As) (p : Peer) (m : Message) (g : Move) → IsCalm i p m → Good g → Good (give Pin Segment c n open_of at p m g)
  give_good at p m g calm h =
      let r = parent.take c (family n) p m g.state.parent in
      let t = take c open_of (place n at) (g.state.current at) p (class_of n p) g.state.clock m (g.state.elements at) in
      pick (same_as at parent_as)
      (record { state = puts Pin Segment c n open_of at r.outputs (with_parent Pin Segment c n open_of r.parent g.state); deeds = Takes at p m r.outputs ∷ g.deeds })
      (record { state = puts Pin Segment c n open_of at t.outputs (with_element Pin Segment c n open_of at t.element g.state); deeds = Takes at p m t.outputs ∷ g.deeds })
      (puts_good at r.outputs (with_parent Pin Segment c n open_of r.parent g.state) h.0, (calm, h.1)) (puts_good at t.outputs (with_element Pin Segment c n open_of at t.element g.state) h.0, (calm, h.1))

  rise_good : (at : As) (p : Peer) (g : Move) → Good g → Good (rise Pin Segment c n open_of at p g)
  rise_good at p g h =
      pick (same_as at parent_as)
      (record { state = with_parent Pin Segment c n open_of (parent.upped p g.state.parent) g.state; deeds = Ups at p ∷ g.deeds })
      (record { state = with_element Pin Segment c n open_of at (upped p (g.state.elements at)) g.state; deeds = Ups at p ∷ g.deeds })
      (h.0, (tt, h.1)) (h.0, (tt, h.1))

  fall_good : (at : As) (p : Peer) (g : Move) → same_peer p (Outside i) ≡ false → Good g → Good (fall Pin Segment c n open_of at p g)
  fall_good at p g other h =
      let r = parent.downed p g.state.parent in
      let t = downed p (g.state.elements at) in
      pick (same_as at parent_as)
      (record { state = puts Pin Segment c n open_of at r.outputs (with_parent Pin Segment c n open_of r.parent g.state); deeds = Downs at p r.outputs ∷ g.deeds })
      (record { state = puts Pin Segment c n open_of at t.outputs (with_element Pin Segment c n open_of at t.element g.state); deeds = Downs at p t.outputs ∷ g.deeds })
      (puts_good at r.outputs (with_parent Pin Segment c n open_of r.parent g.state) h.0, (other, h.1)) (puts_good at t.outputs (with_element Pin Segment c n open_of at t.element g.state) h.0, (other, h.1))

  say_good : (at : As) (p : Peer) (o : Own) (g : Move) → Good g → Good (say Pin Segment c n open_of at p o g)
  say_good at p o g h = (put_good at (c.text (own_message o)) g.state p h.0, (tt, h.1))

  inner_good : (at b : As) (ticks : Bool) (as' : List Action) (g : Move) → Good g → Good (inner_acts Pin Segment c n open_of at b ticks as' g)
  inner_good at b ticks [] g h = h
  inner_good at b ticks (action.Send o ∷ as') g h =
      inner_good at b ticks as' (inner_act Pin Segment c n open_of at b ticks (action.Send o) g)
      (pick (cond ticks (cond (is_due o) (cond (is_empty (g.state.queues at b)) false true) false) false) g (say Pin Segment c n open_of at (Inner b) o g) h (say_good at (Inner b) o g h))
  inner_good at b ticks (action.Up ∷ as') g h = inner_good at b ticks as' (rise Pin Segment c n open_of at (Inner b) g) (rise_good at (Inner b) g h)
  inner_good at b ticks (action.Down why ∷ as') g h = inner_good at b ticks as' g h
  inner_good at b ticks (action.Pass m ∷ as') g h = inner_good at b ticks as' (give Pin Segment c n open_of at (Inner b) m g) (give_good at (Inner b) m g tt h)

  begin_end_good : (sid : ℕ) (at b : As) (g : Move) → Good g → Good (begin_end Pin Segment c n open_of sid at b g)
  begin_end_good sid at b g h =
      let t = turn_of (new_state (our_offer sid) (record { 0 = g.state.clock })) input.Begin in
      inner_good at b false t.actions (record { state = with_inner Pin Segment c n open_of at b t.next g.state; deeds = g.deeds }) h

  begin_adjacency_good : (sid : ℕ) (x : Adjacency) (g : Move) → Good g → Good (begin_adjacency Pin Segment c n open_of sid x g)
  begin_adjacency_good sid x g h = begin_end_good sid x.upper x.lower (begin_end Pin Segment c n open_of sid x.lower x.upper g) (begin_end_good sid x.lower x.upper g h)

  break_adjacency_good : (x : Adjacency) (g : Move) → Good g → Good (break_adjacency Pin Segment c n open_of x g)
  break_adjacency_good x g h =
      let f = fall Pin Segment c n open_of x.lower (Inner x.upper) g in
      let k = fall Pin Segment c n open_of x.upper (Inner x.lower) f in
      let h' = fall_good x.upper (Inner x.lower) f refl (fall_good x.lower (Inner x.upper) g refl h) in
      begin_adjacency_good (((g.state.sessions x.lower x.upper).offer.sid + 1) % 256) x (clear Pin Segment c n open_of x k) (h'.0, (tt, h'.1))

  inner_input_good : (x : Adjacency) (at b : As) (y : Input) (g : Move) → Good g → Good (inner_input Pin Segment c n open_of x at b y g)
  inner_input_good x at b y g h =
      let t = turn_of (g.state.sessions at b) y in
      let e : Move = record { state = with_inner Pin Segment c n open_of at b t.next g.state; deeds = g.deeds } in
      pick (any_fall t.actions) (break_adjacency Pin Segment c n open_of x g) (inner_acts Pin Segment c n open_of at b (is_tick y) t.actions e) (break_adjacency_good x g h) (inner_good at b (is_tick y) t.actions e h)

  -- ---- events of others

  abbrev pub Did : Happened → Type 0
  Did h = At h.state × AreHarmless i h.deeds

  did_pick : (b : Bool) (h k : Happened) → Did h → Did k → Did (cond b h k)
  did_pick true h k x y = x
  did_pick false h k x y = y

  pub carry_stays : (a b : As) (s : Plant) (h : Happened) → Happens c n s (event.Carry a b) h → At s → Did h
  carry_stays a b s h is at =
      subst Did (sym is) (did_pick (is_linked n a b) (events.carry_first Pin Segment c n open_of a b s (s.queues a b)) (events.refused Pin Segment c n open_of NoSuchPeer s) (go (s.queues a b)) (at, tt))
    where
      go : (q : List Bytes) → Did (events.carry_first Pin Segment c n open_of a b s q)
      go [] = (at, tt)
      go (x ∷ rest) = inner_input_good (adjacency a b) b a (input_of c (Some x)) (record { state = record s { queues = set_pair a b rest s.queues }; deeds = Pops a b ∷ [] }) (at, (tt, tt))

  pub load_stays : (d : As) (g : Rows) (s : Plant) (h : Happened) → Happens c n s (event.Load d g) h → At s → Did h
  load_stays d g s h is at =
      subst Did (sym is)
      (did_pick (is_element n d) _ _ (did_pick (is_full (s.current d).number (s.elements d).pending.rows) _ (load_new c n d g s) (at, tt) (at, (tt, tt))) (at, tt))

  pub solve_stays : (d : As) (k : ℕ) (s : Plant) (h : Happened) → SolveHappens c n d k s h → At s → Did h
  solve_stays d k s h (inl none') at = subst Did (sym none'.1) (at, tt)
  solve_stays d k s h (inr (inl none')) at = subst Did (sym none'.2) (at, tt)
  solve_stays d k s h (inr (inr (inl solves))) at =
      let x = solves.1 in
      let t = commit c (place n d) (k, x.held) x.down s.clock (λ b. b.segment) (job_found x.rows.source_known x.rows.target_known x.rows.best) (s.elements d) in
      subst Did (sym x.is) (puts_good d t.outputs (with_element Pin Segment c n open_of d t.element s) at, (tt, tt))
  solve_stays d k s h (inr (inr (inr solves))) at =
      let x = solves.2 in
      let t = parent.commit c (k, x.held) x.answer s.parent in
      subst Did (sym x.is) (puts_good parent_as t.outputs (with_parent Pin Segment c n open_of t.parent s) at, (tt, tt))

  -- ---- the peer's own session, which does not end

  pub acts_good : (ticks : Bool) (as' : List Action) (g : Move) → AreKept as' → Good g → Good (outside_acts Pin Segment c n open_of i ticks as' g)
  acts_good ticks [] g kept h = h
  acts_good ticks (action.Send o ∷ as') g kept h =
      acts_good ticks as' (outside_act Pin Segment c n open_of i ticks (action.Send o) g) kept
      (pick (cond ticks (cond (is_due o) (cond (is_out_empty (g.state.accesses i).connection) false true) false) false) g (say Pin Segment c n open_of (element_of n i) (Outside i) o g) h (say_good (element_of n i) (Outside i) o g h))
  acts_good ticks (action.Up ∷ as') g kept h = acts_good ticks as' (rise Pin Segment c n open_of (element_of n i) (Outside i) g) kept (rise_good (element_of n i) (Outside i) g h)
  acts_good ticks (action.Down why ∷ as') g kept h = absurd kept
  acts_good ticks (action.Pass (messages.PcReq asks) ∷ as') g kept h =
      acts_good ticks as' (give Pin Segment c n open_of (element_of n i) (Outside i) (messages.PcReq asks) g) kept (give_good (element_of n i) (Outside i) (messages.PcReq asks) g tt h)
  acts_good ticks (action.Pass (messages.PcRep replies) ∷ as') g kept h = absurd kept
  acts_good ticks (action.Pass (messages.PcNtf notices) ∷ as') g kept h = absurd kept
  acts_good ticks (action.Pass (messages.PcErr reports) ∷ as') g kept h = absurd kept
  acts_good ticks (action.Pass (messages.Open body) ∷ as') g kept h = absurd kept
  acts_good ticks (action.Pass messages.Keepalive ∷ as') g kept h = absurd kept
  acts_good ticks (action.Pass (messages.Close why) ∷ as') g kept h = absurd kept
  acts_good ticks (action.Pass (messages.Other kind) ∷ as') g kept h = absurd kept

-- ---- the peer's own session

-- The connection has a session of this phase, this framer and this inbox.
abbrev pub Has : Phase → Framing → List (Option Bytes) → Option Connection → Type 0
Has p f items None = ⊥
Has p f items (Some k) = (k.session.phase ≡ p) × (k.framing ≡ f) × (k.inbox ≡ items)

-- In one phase the input leads to another, and to nothing that ends the session.
abbrev pub Leads : Phase → Input → Phase → Type 0
Leads p x p' = (y : Session) → y.phase ≡ p → AreKept (turn_of y x).actions × ((turn_of y x).next.phase ≡ p')

leads_by : (p : Phase) (x : Input) (p' : Phase) → ((y : Session) → y.phase ≡ p → AreKept (turn_in p y x).actions × ((turn_in p y x).next.phase ≡ p')) → Leads p x p'
leads_by p x p' each y is = subst (λ (q : Phase). AreKept (turn_in q y x).actions × ((turn_in q y x).next.phase ≡ p')) (sym is) (each y is)

pub begin_leads : Leads phase.Idle input.Begin phase.OpenWait
begin_leads = leads_by phase.Idle input.Begin phase.OpenWait (λ y is. (tt, refl))

pub open_leads : (o : Offer) → Leads phase.OpenWait (input.Got (messages.Open (record { version = VERSION; offer = o }))) phase.KeepWait
open_leads o = leads_by phase.OpenWait (input.Got (messages.Open (record { version = VERSION; offer = o }))) phase.KeepWait (λ y is. (tt, refl))

pub keepalive_leads : Leads phase.KeepWait (input.Got messages.Keepalive) phase.Up
keepalive_leads = leads_by phase.KeepWait (input.Got messages.Keepalive) phase.Up (λ y is. (tt, refl))

pub request_leads : (asks : List Asked) → Leads phase.Up (input.Got (messages.PcReq asks)) phase.Up
request_leads asks = leads_by phase.Up (input.Got (messages.PcReq asks)) phase.Up (λ y is. (tt, is))

module _ (c : Codec) (n : NetworkParts) (i : ℕ) where
  abbrev OnConnection : (Option Connection → Type 0) → Plant → Type 0
  OnConnection Q s = Q (s.accesses i).connection

  mapped : (Q Q' : Option Connection → Type 0) (g : Connection → Connection) → (Q None → Q' None) → ((k : Connection) → Q (Some k) → Q' (Some (g k))) → (s : Plant) → OnConnection Q s → OnConnection Q' (with_access Pin Segment c n open_of i g s)
  mapped Q Q' g none some s h =
      subst (λ (b : Bool). Q' (cond b (on_connection g (s.accesses i)) (s.accesses i)).connection) (sym (eq-eqb i i refl)) (go (s.accesses i).connection h)
    where
      go : (o : Option Connection) → Q o → Q' (on_connection g (record { opened = (s.accesses i).opened; connection = o })).connection
      go None h' = none h'
      go (Some k) h' = some k h'

  abbrev pub KeepsHarmless : (Option Connection → Type 0) → Going Pin Segment → Type 0
  KeepsHarmless Q g = Q (g.state.accesses i).connection × AreHarmless i g.deeds

  has_more : (p : Phase) (f : Framing) (items : List (Option Bytes)) (k : Connection) (bytes : Bytes) → Has p f items (Some k) → Has p f items (Some (with_more bytes k))
  has_more p f items k bytes h = h

  -- an input
  steps : (p p' : Phase) (x : Input) (f : Framing) (items : List (Option Bytes)) → Leads p x p' → (g : Going Pin Segment) → KeepsHarmless (Has p f items) g → KeepsHarmless (Has p' f items) (outside_input Pin Segment c n open_of i x g)
  steps p p' x f items leads g h = go (g.state.accesses i).connection h.0
    where
      go : (o : Option Connection) → Has p f items o → KeepsHarmless (Has p' f items) (outside_step Pin Segment c n open_of i x g o)
      go None has = absurd has
      go (Some k) has =
          let l = leads k.session has.0 in
          let t = turn_of k.session x in
          acts_good c n i (Has p' f items) (λ z. z) (has_more p' f items) (is_tick x) t.actions (record { state = with_access Pin Segment c n open_of i (with_session t.next) g.state; deeds = g.deeds }) l.0
          (mapped (Has p f items) (Has p' f items) (with_session t.next) (λ z. z) (λ k' has'. (l.1, has'.1, has'.2)) g.state h.0, h.1)

  -- ---- its events

  abbrev Did' : (Option Connection → Type 0) → Happened → Type 0
  Did' Q h = Q (h.state.accesses i).connection × AreHarmless i h.deeds

  abbrev Empty : Framing
  Empty = record { held = []; bad = false }

  pub open_stays : (holder : ℕ) (s : Plant) (h : Happened) → Happens c n s (event.Open i holder) h → is_some (peer_row i n.peers) ≡ true → (s.accesses i).connection ≡ None → Did' (Has phase.OpenWait Empty []) h
  open_stays holder s h is known none =
      subst (Did' (Has phase.OpenWait Empty [])) (sym is)
      (subst (λ (b : Bool). Did' (Has phase.OpenWait Empty []) (cond b (events.open_new Pin Segment c n open_of i holder s (s.accesses i).connection) (events.refused Pin Segment c n open_of NoSuchPeer s))) (sym known)
      (subst (λ (o : Option Connection). Did' (Has phase.OpenWait Empty []) (events.open_new Pin Segment c n open_of i holder s o)) (sym none)
      (steps phase.Idle phase.OpenWait input.Begin Empty [] begin_leads (record { state = events.connect Pin Segment c n open_of i holder s; deeds = [] }) (connected, tt))))
    where
      connected : OnConnection (Has phase.Idle Empty []) (events.connect Pin Segment c n open_of i holder s)
      connected =
          subst (λ (b : Bool). Has phase.Idle Empty [] (cond b (record {
            opened = (s.accesses i).opened + 1;
            connection = Some (record { holder = holder; session = new_state (our_offer (as_sid (s.accesses i).opened)) (record { 0 = s.clock }); framing = record { held = []; bad = false }; inbox = []; out = [] });
          }) (s.accesses i)).connection) (sym (eq-eqb i i refl)) (refl, refl, refl)

  -- what is fed stands behind what stands there
  pub feed_stays : (bytes : Bytes) (s : Plant) (h : Happened) (p : Phase) (f : Framing) (items : List (Option Bytes)) → Happens c n s (event.Feed i bytes) h → is_down p ≡ false → OnConnection (Has p f items) s →
      Did' (Has p (c.feed f bytes).framing (items ++ split_all c (c.feed f bytes).frames ++ bad_item (c.feed f bytes).framing.bad)) h
  feed_stays bytes s h p f items is up has = subst (Did' New) (sym is) (go (s.accesses i).connection has)
    where
      New : Option Connection → Type 0
      New o = Has p (c.feed f bytes).framing (items ++ split_all c (c.feed f bytes).frames ++ bad_item (c.feed f bytes).framing.bad) o

      fed : (k : Connection) → Has p f items (Some k) → New (Some (events.fed c bytes k))
      fed k has' = (
        has'.0,
        ap (λ (z : Framing). (c.feed z bytes).framing) has'.1,
        ap (λ (z : Framing). k.inbox ++ split_all c (c.feed z bytes).frames ++ bad_item (c.feed z bytes).framing.bad) has'.1
            ∙ ap (λ (z : List (Option Bytes)). z ++ split_all c (c.feed f bytes).frames ++ bad_item (c.feed f bytes).framing.bad) has'.2,
      )

      go : (o : Option Connection) → Has p f items o → Did' New (events.feed_open Pin Segment c n open_of i bytes s o)
      go None has' = absurd has'
      go (Some k) has' =
          subst (λ (b : Bool). OnConnection New (cond b s (with_access Pin Segment c n open_of i (events.fed c bytes) s)) × Unit {0}) (sym (ap is_down has'.0 ∙ up)) (mapped (Has p f items) New (events.fed c bytes) (λ z. absurd z) fed s has, tt)

  -- the first item is taken
  pub take_stays : (s : Plant) (h : Happened) (p p' : Phase) (f : Framing) (item : Option Bytes) (rest : List (Option Bytes)) → Happens c n s (event.Take i) h → Leads p (input_of c item) p' → OnConnection (Has p f (item ∷ rest)) s → Did' (Has p' f rest) h
  take_stays s h p p' f item rest is leads has = subst (Did' (Has p' f rest)) (sym is) (go (s.accesses i).connection has)
    where
      by : (inbox : List (Option Bytes)) → inbox ≡ item ∷ rest → Did' (Has p' f rest) (events.take_item Pin Segment c n open_of i s inbox)
      by inbox same =
          subst (λ (z : List (Option Bytes)). Did' (Has p' f rest) (events.take_item Pin Segment c n open_of i s z)) (sym same)
          (steps p p' (input_of c item) f rest leads (record { state = with_access Pin Segment c n open_of i (with_inbox rest) s; deeds = [] })
          (mapped (Has p f (item ∷ rest)) (Has p f rest) (with_inbox rest) (λ z. z) (λ k has'. (has'.0, has'.1, refl)) s has, tt))

      go : (o : Option Connection) → Has p f (item ∷ rest) o → Did' (Has p' f rest) (events.take_open Pin Segment c n open_of i s o)
      go None has' = absurd has'
      go (Some k) has' = by k.inbox has'.2

  -- ---- where the session is up, a request is taken by the element

  abbrev Tells : List Asked → Transcript → Type 0
  Tells asks ds = (os : List Output) × (ds ≡ Takes (element_of n i) (Outside i) (messages.PcReq asks) os ∷ [])

  give_tells : (asks : List Asked) (g : Going Pin Segment) → g.deeds ≡ [] → Tells asks (give Pin Segment c n open_of (element_of n i) (Outside i) (messages.PcReq asks) g).deeds
  give_tells asks g none = go (same_as (element_of n i) parent_as)
    where
      r : parent.ParentTaken
      r = parent.take c (family n) (Outside i) (messages.PcReq asks) g.state.parent

      t : Taken Pin Segment
      t = take c open_of (place n (element_of n i)) (g.state.current (element_of n i)) (Outside i) (class_of n (Outside i)) g.state.clock (messages.PcReq asks) (g.state.elements (element_of n i))

      go : (b : Bool) → Tells asks (cond {A = Going Pin Segment} b
          (record { state = puts Pin Segment c n open_of (element_of n i) r.outputs (with_parent Pin Segment c n open_of r.parent g.state); deeds = Takes (element_of n i) (Outside i) (messages.PcReq asks) r.outputs ∷ g.deeds })
          (record { state = puts Pin Segment c n open_of (element_of n i) t.outputs (with_element Pin Segment c n open_of (element_of n i) t.element g.state); deeds = Takes (element_of n i) (Outside i) (messages.PcReq asks) t.outputs ∷ g.deeds })).deeds
      go true = (r.outputs, ap (λ (l : Transcript). Takes (element_of n i) (Outside i) (messages.PcReq asks) r.outputs ∷ l) none)
      go false = (t.outputs, ap (λ (l : Transcript). Takes (element_of n i) (Outside i) (messages.PcReq asks) t.outputs ∷ l) none)

  step_tells : (asks : List Asked) (f : Framing) (items : List (Option Bytes)) (g : Going Pin Segment) → g.deeds ≡ [] → (o : Option Connection) → Has phase.Up f items o → Tells asks (outside_step Pin Segment c n open_of i (input.Got (messages.PcReq asks)) g o).deeds
  step_tells asks f items g none None has = absurd has
  step_tells asks f items g none (Some k) has =
      let x = input.Got (messages.PcReq asks) in
      subst (λ (q : Phase).
      Tells asks (outside_acts Pin Segment c n open_of i false (turn_in q k.session x).actions (record { state = with_access Pin Segment c n open_of i (with_session (turn_in q k.session x).next) g.state; deeds = g.deeds })).deeds) (sym has.0)
      (give_tells asks (record { state = with_access Pin Segment c n open_of i (with_session (turn_in phase.Up k.session x).next) g.state; deeds = g.deeds }) none)

  pub request_taken : (s : Plant) (h : Happened) (f : Framing) (bytes : Bytes) (asks : List Asked) (rest : List (Option Bytes)) → Happens c n s (event.Take i) h → c.read bytes ≡ Some (messages.PcReq asks) → OnConnection (Has phase.Up f (Some bytes ∷ rest)) s →
      Tells asks h.deeds
  request_taken s h f bytes asks rest is read has = subst (λ (z : Happened). Tells asks z.deeds) (sym is) (go (s.accesses i).connection has)
    where
      by : (inbox : List (Option Bytes)) → inbox ≡ Some bytes ∷ rest → Tells asks (events.take_item Pin Segment c n open_of i s inbox).deeds
      by inbox same =
          subst (λ (z : List (Option Bytes)). Tells asks (events.take_item Pin Segment c n open_of i s z).deeds) (sym same)
          (let g : Going Pin Segment = record { state = with_access Pin Segment c n open_of i (with_inbox rest) s; deeds = [] } in
          subst (λ (x : Input). Tells asks (outside_input Pin Segment c n open_of i x g).deeds) (sym (ap read_as read))
          (step_tells asks f rest g refl (g.state.accesses i).connection
          (mapped (Has phase.Up f (Some bytes ∷ rest)) (Has phase.Up f rest) (with_inbox rest) (λ z. z) (λ k has'. (has'.0, has'.1, refl)) s has)))

      go : (o : Option Connection) → Has phase.Up f (Some bytes ∷ rest) o → Tells asks (events.take_open Pin Segment c n open_of i s o).deeds
      go None has' = absurd has'
      go (Some k) has' = by k.inbox has'.2
