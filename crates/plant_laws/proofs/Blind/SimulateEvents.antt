-- Each event that takes no topology does alike over what is seen of the pins.
use Rattle.std.proofs.Common.{◌≡◌, ℕ, ◌+◌, ◌%◌, Bool, true, false, cond, ◌==◌, List, [], ◌∷◌, ◌++◌, Option, Some, None, is_some, sym, ◌∙◌, ap, subst, refl, Ok}
use Rattle.std.proofs.lemmas.Bool.{eqb-true}
use Rattle.plant_model.specs.Types.{As, Tick, Message, Input, Action, NetworkParts, PeerRow, State as Session, Outside}
use Rattle.pcep_session.specs.declared.session.Input.TheVariants as input
use Rattle.pcep_session.specs.declared.actions.Action.TheVariants as action
use Rattle.plant_model.specs.declared.outcome.Outcome.TheVariants.{Done}
use Rattle.plant_model.specs.declared.outcome.Outcome.TheVariants as Outcome
use Rattle.plant_model.specs.declared.outcome.Refused.TheVariants.{NoSuchPeer, NotHolder}
use Rattle.plant_model.specs.Names.{set_pair}
use Rattle.plant_model.specs.Wire.{Bytes, Codec}
use Rattle.disclosure.specs.Shown.{open_of}
use Rattle.pcep_framing.specs.Frames.{Framing, joined}
use Rattle.plant_model.specs.Plant.{Pin, Segment}
use Rattle.pcep_session.specs.Table.{turn_of, new_state}
use Rattle.plant_text.specs.Settings.{adjacency, adjacencies, is_linked, peer_row}
use Rattle.plant_model.specs.State.{Connection, Access, Pops, Hands}
use Rattle.plant_model.specs.Element.{Element}
use Rattle.plant_model.specs.Outside.{heeded}
use Rattle.plant_model.specs.Deeds.{Going, element_of, on_connection, with_session, with_inbox, with_access, is_out_empty, is_due, is_tick, input_of, give, fall, say, expire, outside_act, outside_acts, outside_step, outside_input, break_adjacency, tick_outside, tick_adjacencies, our_offer}
use Rattle.plant_model.specs.Events as events
use Rattle.plant_model.specs.Events.{is_down}
use Rattle.plant_model.specs.Blind.{Drained, is_closed, heard, is_accepted}
use Rattle.plant_laws.proofs.Runs.Heeding.{heeded_bare}
use Rattle.plant_laws.proofs.Blind.Simulate.{IsConnectionAlike, AreConnectionsAlike, IsAccessAlike, Blank, Full, Sim, access_cond, Both, both_cond, set_pair_same, give_both, rise_both, fall_both, say_both, expire_both, inner_input_both, break_adjacency_both, tick_adjacencies_both}

module _ (Q : Type 0) (view : As → Pin → Q) (c : Codec) (n : NetworkParts) where
  abbrev U : Type 0
  U = Unit {0}

  on_alike : (closed : Bool) (f f' : Connection → Connection) (x y : Access) → ((k k' : Connection) → IsConnectionAlike closed k k' → IsConnectionAlike closed (f k) (f' k')) →
      IsAccessAlike closed x y → IsAccessAlike closed (on_connection f x) (on_connection f' y)
  on_alike closed f f' x y both h = record { opened = h.opened; connection = go x.connection y.connection h.connection }
    where
      go : (p q : Option Connection) → AreConnectionsAlike closed p q →
          AreConnectionsAlike closed (on_connection f (record { opened = x.opened; connection = p })).connection (on_connection f' (record { opened = y.opened; connection = q })).connection
      go None None k = tt
      go None (Some z) k = absurd k
      go (Some w) None k = absurd k
      go (Some w) (Some z) k = both w z k

  -- a change of one outside peer
  set_sim : (i : ℕ) (x y : Access) (s : Full) (b : Blank Q) → IsAccessAlike (is_closed n (Outside i)) x y → Sim Q view n s b →
      Sim Q view n (events.set_access Pin Segment c n open_of i x s) (events.set_access Q U c n (λ u. []) i y b)
  set_sim i x y s b alike h = record {
    clock = h.clock;
    elements = h.elements;
    parent = h.parent;
    current = h.current;
    sessions = h.sessions;
    queues = h.queues;
    accesses = λ j. access_cond Q view c n i j (is_closed n (Outside j)) (i == j) x y (s.accesses j) (b.accesses j)
        (λ is. subst (λ (k : ℕ). IsAccessAlike (is_closed n (Outside k)) x y) (eqb-true i j is) alike) (h.accesses j);
  }

  access_sim : (i : ℕ) (f f' : Connection → Connection) (s : Full) (b : Blank Q) → ((k k' : Connection) → IsConnectionAlike (is_closed n (Outside i)) k k' → IsConnectionAlike (is_closed n (Outside i)) (f k) (f' k')) → Sim Q view n s b →
      Sim Q view n (with_access Pin Segment c n open_of i f s) (with_access Q U c n (λ u. []) i f' b)
  access_sim i f f' s b both h =
      set_sim i (on_connection f (s.accesses i)) (on_connection f' (b.accesses i)) s b (on_alike (is_closed n (Outside i)) f f' (s.accesses i) (b.accesses i) both (h.accesses i)) h

  out_empty_same : (closed : Bool) (p q : Option Connection) → AreConnectionsAlike closed p q → is_out_empty p ≡ is_out_empty q
  out_empty_same closed None None k = refl
  out_empty_same closed None (Some z) k = absurd k
  out_empty_same closed (Some w) None k = absurd k
  out_empty_same closed (Some w) (Some z) k = k.out.full

  act_both : (i : ℕ) (ticks : Bool) (a : Action) (g : Going Pin Segment) (h : Going Q U) → Both Q view c n g h → Both Q view c n (outside_act Pin Segment c n open_of i ticks a g) (outside_act Q U c n (λ u. []) i ticks a h)
  act_both i ticks (action.Send o) g h both =
      subst (λ (e : Bool). Both Q view c n (outside_act Pin Segment c n open_of i ticks (action.Send o) g)
      (cond (cond ticks (cond (is_due o) (cond e false true) false) false) h (say Q U c n (λ u. []) (element_of n i) (Outside i) o h)))
      (out_empty_same (is_closed n (Outside i)) (g.state.accesses i).connection (h.state.accesses i).connection (both.sim.accesses i).connection)
      (both_cond Q view c n (cond ticks (cond (is_due o) (cond (is_out_empty (g.state.accesses i).connection) false true) false) false) g (say Pin Segment c n open_of (element_of n i) (Outside i) o g) h (say Q U c n (λ u. []) (element_of n i) (Outside i) o h)
      both (say_both Q view c n (element_of n i) (Outside i) o g h both))
  act_both i ticks action.Up g h both = rise_both Q view c n (element_of n i) (Outside i) g h both
  act_both i ticks (action.Down why) g h both =
      fall_both Q view c n (element_of n i) (Outside i) (record { state = with_access Pin Segment c n open_of i (with_inbox []) g.state; deeds = g.deeds }) (record { state = with_access Q U c n (λ u. []) i (with_inbox []) h.state; deeds = h.deeds })
      (record {
        sim = access_sim i (with_inbox []) (with_inbox []) g.state h.state (λ k k' x. record { holder = x.holder; session = x.session; framing = x.framing; inbox = refl; out = x.out }) both.sim;
        heard' = both.heard';
      })
  act_both i ticks (action.Pass m) g h both =
      let at = element_of n i in
      let given = heeded c (Outside i) (g.state.elements at).pending.rows m in
      let same : heeded c (Outside i) (h.state.elements at).pending.rows m ≡ given =
      ap (λ (e : Element Q U). heeded c (Outside i) e.pending.rows m) (both.sim.elements at) ∙ heeded_bare (view at) c (Outside i) (g.state.elements at).pending.rows m in
      subst (λ (z : Message). Both Q view c n (give Pin Segment c n open_of at (Outside i) given g) (give Q U c n (λ u. []) at (Outside i) z h)) (sym same)
      (give_both Q view c n at (Outside i) given g h both)

  acts_both : (i : ℕ) (ticks : Bool) (as' : List Action) (g : Going Pin Segment) (h : Going Q U) → Both Q view c n g h → Both Q view c n (outside_acts Pin Segment c n open_of i ticks as' g) (outside_acts Q U c n (λ u. []) i ticks as' h)
  acts_both i ticks [] g h both = both
  acts_both i ticks (a ∷ as') g h both =
      acts_both i ticks as' (outside_act Pin Segment c n open_of i ticks a g) (outside_act Q U c n (λ u. []) i ticks a h) (act_both i ticks a g h both)

  input_both : (i : ℕ) (x : Input) (g : Going Pin Segment) (h : Going Q U) → Both Q view c n g h → Both Q view c n (outside_input Pin Segment c n open_of i x g) (outside_input Q U c n (λ u. []) i x h)
  input_both i x g h both = go (g.state.accesses i).connection (h.state.accesses i).connection (both.sim.accesses i).connection
    where
      go : (p q : Option Connection) → AreConnectionsAlike (is_closed n (Outside i)) p q → Both Q view c n (outside_step Pin Segment c n open_of i x g p) (outside_step Q U c n (λ u. []) i x h q)
      go None None k = both
      go None (Some z) k = absurd k
      go (Some w) None k = absurd k
      go (Some w) (Some z) k =
          let r = turn_of w.session x in
          subst (λ (s : Session). Both Q view c n (outside_step Pin Segment c n open_of i x g (Some w))
          (outside_acts Q U c n (λ u. []) i (is_tick x) (turn_of s x).actions (record { state = with_access Q U c n (λ u. []) i (with_session (turn_of s x).next) h.state; deeds = h.deeds }))) k.session
          (acts_both i (is_tick x) r.actions (record { state = with_access Pin Segment c n open_of i (with_session r.next) g.state; deeds = g.deeds })
          (record { state = with_access Q U c n (λ u. []) i (with_session r.next) h.state; deeds = h.deeds })
          (record {
            sim = access_sim i (with_session r.next) (with_session r.next) g.state h.state (λ k k' x. record { holder = x.holder; session = refl; framing = x.framing; inbox = x.inbox; out = x.out }) both.sim;
            heard' = both.heard';
          }))

  tick_outside_both : (i : ℕ) (rs : List PeerRow) (now : Tick) (g : Going Pin Segment) (h : Going Q U) → Both Q view c n g h → Both Q view c n (tick_outside Pin Segment c n open_of i rs now g) (tick_outside Q U c n (λ u. []) i rs now h)
  tick_outside_both i [] now g h both = both
  tick_outside_both i (r ∷ rs) now g h both =
      tick_outside_both (i + 1) rs now (outside_input Pin Segment c n open_of i (input.Tick now) g) (outside_input Q U c n (λ u. []) i (input.Tick now) h) (input_both i (input.Tick now) g h both)

  -- events: they are accepted alike, the states are alike, and closed peers hear the same
  pub record Happen (h : events.Happened Pin Segment) (k : events.Happened Q U) : Type 0 where
    pub sim : Sim Q view n h.state k.state
    pub heard' : heard c n h.deeds ≡ heard c n k.deeds
    pub accepted : is_accepted h.answer ≡ is_accepted k.answer

  happen_cond : (b : Bool) (h h' : events.Happened Pin Segment) (k k' : events.Happened Q U) → Happen h k → Happen h' k' → Happen (cond b h h') (cond b k k')
  happen_cond true h h' k k' x y = x
  happen_cond false h h' k k' x y = y

  idle_both : (s : Full) (b : Blank Q) → Sim Q view n s b → Both Q view c n (record { state = s; deeds = [] }) (record { state = b; deeds = [] })
  idle_both s b sim = record { sim = sim; heard' = refl }

  pub open_happens : (i holder : ℕ) (s : Full) (b : Blank Q) → Sim Q view n s b → Happen (events.open_peer Pin Segment c n open_of i holder s) (events.open_peer Q U c n (λ u. []) i holder b)
  open_happens i holder s b sim =
      happen_cond (is_some (peer_row i n.peers)) (events.open_new Pin Segment c n open_of i holder s (s.accesses i).connection) (events.refused Pin Segment c n open_of NoSuchPeer s)
      (events.open_new Q U c n (λ u. []) i holder b (b.accesses i).connection) (events.refused Q U c n (λ u. []) NoSuchPeer b)
      (go (s.accesses i).connection (b.accesses i).connection (sim.accesses i).connection) (record { sim = sim; heard' = refl; accepted = refl })
    where
      connected : Sim Q view n (events.connect Pin Segment c n open_of i holder s) (events.connect Q U c n (λ u. []) i holder b)
      connected =
          let a = sim.accesses i in
          set_sim i (record { opened = (s.accesses i).opened + 1; connection = Some (record { holder = holder; session = new_state (our_offer ((s.accesses i).opened % 256)) (record { 0 = s.clock }); framing = record { held = []; bad = false }; inbox = []; out = [] }) })
          (record { opened = (b.accesses i).opened + 1; connection = Some (record { holder = holder; session = new_state (our_offer ((b.accesses i).opened % 256)) (record { 0 = b.clock }); framing = record { held = []; bad = false }; inbox = []; out = [] }) }) s b
          (record {
            opened = ap (λ (k : ℕ). k + 1) a.opened;
            connection = record {
              holder = refl;
              session = ap (λ (k : ℕ). new_state (our_offer (k % 256)) (record { 0 = s.clock })) a.opened ∙ ap (λ (t : ℕ). new_state (our_offer ((b.accesses i).opened % 256)) (record { 0 = t })) (sym sim.clock);
              framing = refl;
              inbox = refl;
              out = record { same = λ is. refl; full = refl };
            };
          }) sim

      go : (p q : Option Connection) → AreConnectionsAlike (is_closed n (Outside i)) p q → Happen (events.open_new Pin Segment c n open_of i holder s p) (events.open_new Q U c n (λ u. []) i holder b q)
      go None None k =
          let both = input_both i input.Begin (record { state = events.connect Pin Segment c n open_of i holder s; deeds = [] }) (record { state = events.connect Q U c n (λ u. []) i holder b; deeds = [] }) (idle_both (events.connect Pin Segment c n open_of i holder s) (events.connect Q U c n (λ u. []) i holder b) connected) in
          record { sim = both.sim; heard' = both.heard'; accepted = refl }
      go None (Some z) k = absurd k
      go (Some w) None k = absurd k
      go (Some w) (Some z) k = record { sim = sim; heard' = refl; accepted = refl }

  pub shut_happens : (i : ℕ) (s : Full) (b : Blank Q) → Sim Q view n s b → Happen (events.shut Pin Segment c n open_of i s) (events.shut Q U c n (λ u. []) i b)
  shut_happens i s b sim = go (s.accesses i).connection (b.accesses i).connection (sim.accesses i).connection
    where
      go : (p q : Option Connection) → AreConnectionsAlike (is_closed n (Outside i)) p q → Happen (events.shut_open Pin Segment c n open_of i s p) (events.shut_open Q U c n (λ u. []) i b q)
      go None None k = record { sim = sim; heard' = refl; accepted = refl }
      go None (Some z) k = absurd k
      go (Some w) None k = absurd k
      go (Some w) (Some z) k =
          let g = fall Pin Segment c n open_of (element_of n i) (Outside i) (record { state = s; deeds = [] }) in
          let h = fall Q U c n (λ u. []) (element_of n i) (Outside i) (record { state = b; deeds = [] }) in
          let both = fall_both Q view c n (element_of n i) (Outside i) (record { state = s; deeds = [] }) (record { state = b; deeds = [] }) (idle_both s b sim) in
          record {
            sim = set_sim i (record { opened = (s.accesses i).opened; connection = None }) (record { opened = (b.accesses i).opened; connection = None }) g.state h.state (record { opened = (sim.accesses i).opened; connection = tt }) both.sim;
            heard' = both.heard';
            accepted = refl;
          }

  pub feed_happens : (i : ℕ) (bytes : Bytes) (s : Full) (b : Blank Q) → Sim Q view n s b → Happen (events.feed Pin Segment c n open_of i bytes s) (events.feed Q U c n (λ u. []) i bytes b)
  feed_happens i bytes s b sim = go (s.accesses i).connection (b.accesses i).connection (sim.accesses i).connection
    where
      fed_alike : (k k' : Connection) → IsConnectionAlike (is_closed n (Outside i)) k k' → IsConnectionAlike (is_closed n (Outside i)) (events.fed c bytes k) (events.fed c bytes k')
      fed_alike k k' x = record {
        holder = x.holder;
        session = x.session;
        framing = ap (λ (f : Framing). (c.feed f bytes).framing) x.framing;
        inbox = ap (λ (f : Framing). k.inbox ++ events.split_all c (c.feed f bytes).frames ++ events.bad_item (c.feed f bytes).framing.bad) x.framing
            ∙ ap (λ (l : List (Option Bytes)). l ++ events.split_all c (c.feed k'.framing bytes).frames ++ events.bad_item (c.feed k'.framing bytes).framing.bad) x.inbox;
        out = x.out;
      }

      pick : (t : Bool) → Sim Q view n (cond t s (with_access Pin Segment c n open_of i (events.fed c bytes) s)) (cond t b (with_access Q U c n (λ u. []) i (events.fed c bytes) b))
      pick true = sim
      pick false = access_sim i (events.fed c bytes) (events.fed c bytes) s b fed_alike sim

      go : (p q : Option Connection) → AreConnectionsAlike (is_closed n (Outside i)) p q → Happen (events.feed_open Pin Segment c n open_of i bytes s p) (events.feed_open Q U c n (λ u. []) i bytes b q)
      go None None k = record { sim = sim; heard' = refl; accepted = refl }
      go None (Some z) k = absurd k
      go (Some w) None k = absurd k
      go (Some w) (Some z) k =
          subst (λ (x : Session). Happen (events.feed_open Pin Segment c n open_of i bytes s (Some w))
          (events.answered Q U c n (λ u. []) Done (events.idle Q U c n (λ u. []) (cond (is_down x.phase) b (with_access Q U c n (λ u. []) i (events.fed c bytes) b))))) k.session
          (record { sim = pick (is_down w.session.phase); heard' = refl; accepted = refl })

  pub take_happens : (i : ℕ) (s : Full) (b : Blank Q) → Sim Q view n s b → Happen (events.take Pin Segment c n open_of i s) (events.take Q U c n (λ u. []) i b)
  take_happens i s b sim = go (s.accesses i).connection (b.accesses i).connection (sim.accesses i).connection
    where
      item : (inbox : List (Option Bytes)) → Happen (events.take_item Pin Segment c n open_of i s inbox) (events.take_item Q U c n (λ u. []) i b inbox)
      item [] = record { sim = sim; heard' = refl; accepted = refl }
      item (x ∷ rest) =
          let both = input_both i (input_of c x) (record { state = with_access Pin Segment c n open_of i (with_inbox rest) s; deeds = [] }) (record { state = with_access Q U c n (λ u. []) i (with_inbox rest) b; deeds = [] })
          (idle_both (with_access Pin Segment c n open_of i (with_inbox rest) s) (with_access Q U c n (λ u. []) i (with_inbox rest) b) (access_sim i (with_inbox rest) (with_inbox rest) s b (λ k k' y. record { holder = y.holder; session = y.session; framing = y.framing; inbox = refl; out = y.out }) sim)) in
          record { sim = both.sim; heard' = both.heard'; accepted = refl }

      go : (p q : Option Connection) → AreConnectionsAlike (is_closed n (Outside i)) p q → Happen (events.take_open Pin Segment c n open_of i s p) (events.take_open Q U c n (λ u. []) i b q)
      go None None k = record { sim = sim; heard' = refl; accepted = refl }
      go None (Some z) k = absurd k
      go (Some w) None k = absurd k
      go (Some w) (Some z) k = subst (λ (l : List (Option Bytes)). Happen (events.take_item Pin Segment c n open_of i s w.inbox) (events.take_item Q U c n (λ u. []) i b l)) k.inbox (item w.inbox)

  pub carry_happens : (a d : As) (s : Full) (b : Blank Q) → Sim Q view n s b → Happen (events.carry Pin Segment c n open_of a d s) (events.carry Q U c n (λ u. []) a d b)
  carry_happens a d s b sim =
      happen_cond (is_linked n a d) (events.carry_first Pin Segment c n open_of a d s (s.queues a d)) (events.refused Pin Segment c n open_of NoSuchPeer s)
      (events.carry_first Q U c n (λ u. []) a d b (b.queues a d)) (events.refused Q U c n (λ u. []) NoSuchPeer b)
      (subst (λ (q : List Bytes). Happen (events.carry_first Pin Segment c n open_of a d s (s.queues a d)) (events.carry_first Q U c n (λ u. []) a d b q)) (sym (sim.queues a d)) (go (s.queues a d)))
      (record { sim = sim; heard' = refl; accepted = refl })
    where
      go : (q : List Bytes) → Happen (events.carry_first Pin Segment c n open_of a d s q) (events.carry_first Q U c n (λ u. []) a d b q)
      go [] = record { sim = sim; heard' = refl; accepted = refl }
      go (x ∷ rest) =
          let u : Full = record s { queues = set_pair a d rest s.queues } in
          let v : Blank Q = record b { queues = set_pair a d rest b.queues } in
          let both = inner_input_both Q view c n (adjacency a d) d a (input_of c (Some x)) (record { state = u; deeds = Pops a d ∷ [] }) (record { state = v; deeds = Pops a d ∷ [] })
          (record {
            sim = record { clock = sim.clock; elements = sim.elements; parent = sim.parent; current = sim.current; sessions = sim.sessions; queues = set_pair_same Q view c n a d rest rest b.queues s.queues refl sim.queues; accesses = sim.accesses };
            heard' = refl;
          }) in
          record { sim = both.sim; heard' = both.heard'; accepted = refl }

  pub break_happens : (a d : As) (s : Full) (b : Blank Q) → Sim Q view n s b → Happen (events.break Pin Segment c n open_of a d s) (events.break Q U c n (λ u. []) a d b)
  break_happens a d s b sim =
      let both = break_adjacency_both Q view c n (adjacency a d) (record { state = s; deeds = [] }) (record { state = b; deeds = [] }) (idle_both s b sim) in
      happen_cond (is_linked n a d) (events.answered Pin Segment c n open_of Done (break_adjacency Pin Segment c n open_of (adjacency a d) (record { state = s; deeds = [] }))) (events.refused Pin Segment c n open_of NoSuchPeer s)
      (events.answered Q U c n (λ u. []) Done (break_adjacency Q U c n (λ u. []) (adjacency a d) (record { state = b; deeds = [] }))) (events.refused Q U c n (λ u. []) NoSuchPeer b) (record { sim = both.sim; heard' = both.heard'; accepted = refl }) (record { sim = sim; heard' = refl; accepted = refl })

  ticked_both : (now : ℕ) (s : Full) (b : Blank Q) → Sim Q view n s b →
      Both Q view c n
      (expire Pin Segment c n open_of now (tick_adjacencies Pin Segment c n open_of (adjacencies n) (record { 0 = now }) (tick_outside Pin Segment c n open_of 0 n.peers (record { 0 = now }) (record { state = record s { clock = now }; deeds = [] }))))
      (expire Q U c n (λ u. []) now (tick_adjacencies Q U c n (λ u. []) (adjacencies n) (record { 0 = now }) (tick_outside Q U c n (λ u. []) 0 n.peers (record { 0 = now }) (record { state = record b { clock = now }; deeds = [] }))))
  ticked_both now s b sim =
      let g : Going Pin Segment = record { state = record s { clock = now }; deeds = [] } in
      let h : Going Q U = record { state = record b { clock = now }; deeds = [] } in
      let both : Both Q view c n g h = record {
        sim = record { clock = refl; elements = sim.elements; parent = sim.parent; current = sim.current; sessions = sim.sessions; queues = sim.queues; accesses = sim.accesses };
        heard' = refl;
      } in
      let g1 = tick_outside Pin Segment c n open_of 0 n.peers (record { 0 = now }) g in
      let h1 = tick_outside Q U c n (λ u. []) 0 n.peers (record { 0 = now }) h in
      expire_both Q view c n now (tick_adjacencies Pin Segment c n open_of (adjacencies n) (record { 0 = now }) g1) (tick_adjacencies Q U c n (λ u. []) (adjacencies n) (record { 0 = now }) h1)
      (tick_adjacencies_both Q view c n (adjacencies n) (record { 0 = now }) g1 h1 (tick_outside_both 0 n.peers (record { 0 = now }) g h both))

  pub tick_happens : (t : ℕ) (s : Full) (b : Blank Q) → Sim Q view n s b → Happen (events.tick Pin Segment c n open_of t s) (events.tick Q U c n (λ u. []) t b)
  tick_happens t s b sim =
      let both = ticked_both (events.later s.clock t) s b sim in
      subst (λ (now : ℕ). Happen (events.tick Pin Segment c n open_of t s)
      (events.answered Q U c n (λ u. []) Done
      (expire Q U c n (λ u. []) now (tick_adjacencies Q U c n (λ u. []) (adjacencies n) (record { 0 = now }) (tick_outside Q U c n (λ u. []) 0 n.peers (record { 0 = now }) (record { state = record b { clock = now }; deeds = [] }))))))
      (ap (λ (clock : ℕ). events.later clock t) (sym sim.clock))
      (record { sim = both.sim; heard' = both.heard'; accepted = refl })

  pub drain_happens : (i holder : ℕ) (s : Full) (b : Blank Q) → Sim Q view n s b → Happen (events.drain Pin Segment c n open_of i holder s) (events.drain Q U c n (λ u. []) i holder b)
  drain_happens i holder s b sim = go (s.accesses i).connection (b.accesses i).connection (sim.accesses i).connection
    where
      drained_alike : (k k' : Connection) → IsConnectionAlike (is_closed n (Outside i)) k k' → IsConnectionAlike (is_closed n (Outside i)) (events.drained k) (events.drained k')
      drained_alike k k' x = record { holder = x.holder; session = x.session; framing = x.framing; inbox = x.inbox; out = record { same = λ is. refl; full = refl } }

      handed : (closed : Bool) (xs ys : List Bytes) → (closed ≡ true → xs ≡ ys) →
          cond closed (Drained i (joined xs) ∷ []) [] ≡ cond closed (Drained i (joined ys) ∷ []) []
      handed true xs ys same = ap (λ (l : List Bytes). Drained i (joined l) ∷ []) (same refl)
      handed false xs ys same = refl

      go : (p q : Option Connection) → AreConnectionsAlike (is_closed n (Outside i)) p q → Happen (events.drain_open Pin Segment c n open_of i holder s p) (events.drain_open Q U c n (λ u. []) i holder b q)
      go None None k = record { sim = sim; heard' = refl; accepted = refl }
      go None (Some z) k = absurd k
      go (Some w) None k = absurd k
      go (Some w) (Some z) k =
          subst (λ (held : ℕ). Happen (events.drain_open Pin Segment c n open_of i holder s (Some w))
          (cond (held == holder)
          (record { answer = Ok (Outcome.Drained (joined z.out) (is_down z.session.phase)); state = with_access Q U c n (λ u. []) i events.drained b; deeds = Hands i (joined z.out) ∷ [] })
          (events.refused Q U c n (λ u. []) (NotHolder held) b))) k.holder
          (happen_cond (w.holder == holder)
          (record { answer = Ok (Outcome.Drained (joined w.out) (is_down w.session.phase)); state = with_access Pin Segment c n open_of i events.drained s; deeds = Hands i (joined w.out) ∷ [] })
          (events.refused Pin Segment c n open_of (NotHolder w.holder) s)
          (record { answer = Ok (Outcome.Drained (joined z.out) (is_down z.session.phase)); state = with_access Q U c n (λ u. []) i events.drained b; deeds = Hands i (joined z.out) ∷ [] })
          (events.refused Q U c n (λ u. []) (NotHolder w.holder) b)
          (record { sim = access_sim i events.drained events.drained s b drained_alike sim; heard' = handed (is_closed n (Outside i)) w.out z.out k.out.same; accepted = refl })
          (record { sim = sim; heard' = refl; accepted = refl }))
