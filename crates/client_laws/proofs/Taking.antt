-- No event but a feed puts anything into an inbox, and the takes that follow a feed empty it.
use Rattle.std.proofs.Common.{◌≡◌, ℕ, ◌+◌, ◌%◌, Bool, true, false, cond, ◌==◌, List, [], ◌∷◌, Option, Some, None, is_some, inl, inr, sym, ap, subst, ◌∙◌, refl}
use Rattle.plant_play.specs.plant_model.Types.{As, Tick, Message, NetworkParts, Outside}
use Rattle.te_links.specs.Rows.{Rows}
use Rattle.disclosure.specs.Shown.{open_of}
use Rattle.pcep_session.specs.declared.session.Input.TheVariants as input
use Rattle.pcep_session.specs.Table.{new_state}
use Rattle.plant_text.specs.Names.{parent_as}
use Rattle.plant_text.specs.Settings.{is_element, is_linked, adjacency, adjacencies, peer_row}
use Rattle.plant_play.specs.plant_model.declared.event.Event.{Event}
use Rattle.plant_play.specs.plant_model.declared.event.Event.TheVariants as event
use Rattle.plant_play.specs.plant_model.declared.outcome.Refused.TheVariants.{NoSuchPeer}
use Rattle.plant_play.specs.plant_model.Blind.{is_accepted}
use Rattle.plant_play.specs.plant_model.Deeds.{Going, element_of, fall, input_of, on_connection, our_offer, outside_input, read_as, tick_adjacencies, tick_outside, with_access, with_element, with_inbox, with_parent}
use Rattle.plant_play.specs.plant_model.Events as events
use Rattle.plant_play.specs.plant_model.Events.{is_down}
use Rattle.plant_play.specs.plant_model.Names.{set_pair}
use Rattle.plant_play.specs.plant_model.Parent as parent
use Rattle.plant_play.specs.plant_model.Plant.{ElementSolves, Happened, Happens, ParentSolves, Pin, Plant, Segment, is_full}
use Rattle.plant_play.specs.plant_model.RealWire.{wire}
use Rattle.plant_play.specs.plant_model.Settings.{place}
use Rattle.plant_play.specs.plant_model.Solving.{commit, job_found}
use Rattle.plant_play.specs.plant_model.State.{Access, Connection, Pops, Solves}
use Rattle.plant_play.specs.plant_model.Wire.{Bytes}
use Rattle.run_laws.specs.plant_laws.Chains.{HasEmptyInbox}
use Rattle.run_laws.proofs.PeerLemmas.Fading as fading
use Rattle.run_laws.proofs.PeerLemmas.Fading.{AllFade, CameFrom}
use Rattle.client_laws.specs.Resting.{AreTaken}

faded : (o p : Option Connection) → AllFade o p → HasEmptyInbox o → HasEmptyInbox p
faded None None f h = tt
faded None (Some l) f h = absurd f
faded (Some k) None f h = tt
faded (Some k) (Some l) f h = elim f.inbox [ inl same ↦ same ∙ h | inr none ↦ none ]

-- from anywhere
abbrev Anything : ℕ → Bytes → Type 0
Anything i part = Unit {0}

-- but at this peer all that was fed was taken
abbrev pub AreTakenBut : ℕ → Plant → Type 0
AreTakenBut j s = (i : ℕ) → (j == i) ≡ false → HasEmptyInbox (s.accesses i).connection

module _ (n : NetworkParts) where
  abbrev at : ℕ → Plant → Option Connection
  at i s = (s.accesses i).connection

  abbrev Grown : Plant → Going Pin Segment → Type 0
  Grown s g = fading.Grown Pin Segment wire n open_of Anything s g

  abbrev start : Plant → Going Pin Segment
  start s = record { state = s; deeds = [] }

  begin : (s : Plant) → Grown s (start s)
  begin s = fading.at_start Pin Segment wire n open_of Anything s

  -- inboxes are as they were, or emptied
  abbrev Fade : Plant → Happened → Type 0
  Fade s h = (i : ℕ) → AllFade (at i s) (at i h.state)

  here : (s : Plant) → (i : ℕ) → AllFade (at i s) (at i s)
  here s i = fading.fades_here (at i s)

  pick : (s : Plant) (b : Bool) (h k : Happened) → Fade s h → Fade s k → Fade s (cond b h k)
  pick s true h k x y = x
  pick s false h k x y = y

  carry_fades : (a b : As) (s : Plant) → Fade s (events.carry Pin Segment wire n open_of a b s)
  carry_fades a b s = pick s (is_linked n a b) _ _ (go (s.queues a b)) (here s)
    where
      go : (q : List Bytes) → Fade s (events.carry_first Pin Segment wire n open_of a b s q)
      go [] = here s
      go (x ∷ rest) =
          let g : Going Pin Segment = record { state = record s { queues = set_pair a b rest s.queues }; deeds = Pops a b ∷ [] } in
          let r : Grown s g = fading.sends Pin Segment wire n open_of Anything s a [] (start s) g.state (Pops a b) refl tt (begin s) in
          (fading.inner_input_on Pin Segment wire n open_of Anything s (adjacency a b) b a (input_of wire (Some x)) g r).fades

  break_fades : (a b : As) (s : Plant) → Fade s (events.break Pin Segment wire n open_of a b s)
  break_fades a b s = pick s (is_linked n a b) _ _ (fading.break_adjacency_on Pin Segment wire n open_of Anything s (adjacency a b) (start s) (begin s)).fades (here s)

  tick_fades : (t : Tick) (s : Plant) → Fade s (events.tick Pin Segment wire n open_of t.0 s)
  tick_fades t s =
      let now = events.later s.clock t.0 in
      let g : Going Pin Segment = record { state = record s { clock = now }; deeds = [] } in
      let h = tick_outside Pin Segment wire n open_of 0 n.peers (record { 0 = now }) g in
      let k = tick_adjacencies Pin Segment wire n open_of (adjacencies n) (record { 0 = now }) h in
      let first : Grown s g = fading.rests Pin Segment wire n open_of Anything s (start s) g.state (here s) (begin s) in
      (fading.expire_on Pin Segment wire n open_of Anything s now k
      (fading.tick_adjacencies_on Pin Segment wire n open_of Anything s (adjacencies n) (record { 0 = now }) h
      (fading.tick_outside_on Pin Segment wire n open_of Anything s 0 n.peers (record { 0 = now }) g first))).fades

  drain_fades : (j holder : ℕ) (s : Plant) → Fade s (events.drain Pin Segment wire n open_of j holder s)
  drain_fades j holder s = go (s.accesses j).connection
    where
      still : (i : ℕ) → AllFade (at i s) (at i (with_access Pin Segment wire n open_of j events.drained s))
      still i = fading.access_fades Pin Segment wire n open_of Anything j events.drained s (λ k is. record { framing = refl; over = λ h. h; inbox = inl refl }) i

      go : (o : Option Connection) → Fade s (events.drain_open Pin Segment wire n open_of j holder s o)
      go None = here s
      go (Some x) = pick s (x.holder == holder) _ _ still (here s)

  solve_fades : (d : As) (k : ℕ) (s : Plant) (h : Happened) → ElementSolves wire n d k s h → Fade s h
  solve_fades d k s h x =
      let r = commit wire (place n d) (k, x.held) x.down s.clock (λ b. b.segment) (job_found x.rows.source_known x.rows.target_known x.rows.best) (s.elements d) in
      let u = with_element Pin Segment wire n open_of d r.element s in
      subst (Fade s) (sym x.is) (fading.sends Pin Segment wire n open_of Anything s d r.outputs (start s) u (Solves d k r.outputs r.element.keys.issued) refl tt (begin s)).fades

  upper_fades : (k : ℕ) (s : Plant) (h : Happened) → ParentSolves wire n k s h → Fade s h
  upper_fades k s h x =
      let r = parent.commit wire (k, x.held) x.answer s.parent in
      let u = with_parent Pin Segment wire n open_of r.parent s in
      subst (Fade s) (sym x.is) (fading.sends Pin Segment wire n open_of Anything s parent_as r.outputs (start s) u (Solves parent_as k r.outputs []) refl tt (begin s)).fades

  load_fades : (d : As) (g : Rows) (s : Plant) (h : Happened) → Happens wire n s (event.Load d g) h → Fade s h
  load_fades d g s h is = subst (Fade s) (sym is) (pick s (is_element n d) _ _ (pick s (is_full (s.current d).number (s.elements d).pending.rows) _ _ (here s) (here s)) (here s))

  -- ---- what stays taken

  all_faded : (s : Plant) (h : Happened) → Fade s h → AreTaken s → AreTaken h.state
  all_faded s h f taken i = faded (at i s) (at i h.state) (f i) (taken i)

  abbrev Kept : Happened → Type 0
  Kept h = AreTaken h.state

  open_keeps : (j holder : ℕ) (s : Plant) → AreTaken s → AreTaken (events.open_peer Pin Segment wire n open_of j holder s).state
  open_keeps j holder s taken = by (is_some (peer_row j n.peers)) (s.accesses j).connection
    where
      t : Plant
      t = events.connect Pin Segment wire n open_of j holder s

      access : Access
      access = record {
        opened = (s.accesses j).opened + 1;
        connection = Some (record { holder = holder; session = new_state (our_offer ((s.accesses j).opened % 256)) (record { 0 = s.clock }); framing = record { held = []; bad = false }; inbox = []; out = [] });
      }

      connected : AreTaken t
      connected i = one (j == i)
        where
          one : (b : Bool) → HasEmptyInbox (cond b access (s.accesses i)).connection
          one true = refl
          one false = taken i

      never : (m : Message) → input.Begin ≡ input.Got m → ⊥
      never m e = cc

      began : AreTaken (outside_input Pin Segment wire n open_of j input.Begin (start t)).state
      began i =
          faded (at i t) (at i (outside_input Pin Segment wire n open_of j input.Begin (start t)).state)
          ((fading.outside_input_on Pin Segment wire n open_of Anything t j input.Begin (start t) (λ m e. absurd (never m e)) (begin t)).fades i) (connected i)

      by : (b : Bool) (o : Option Connection) → AreTaken (cond b (events.open_new Pin Segment wire n open_of j holder s o) (events.refused Pin Segment wire n open_of NoSuchPeer s)).state
      by true None = began
      by true (Some x) = taken
      by false o = taken

  shut_keeps : (j : ℕ) (s : Plant) → AreTaken s → AreTaken (events.shut Pin Segment wire n open_of j s).state
  shut_keeps j s taken = go (s.accesses j).connection
    where
      g : Going Pin Segment
      g = fall Pin Segment wire n open_of (element_of n j) (Outside j) (start s)

      fallen : AreTaken g.state
      fallen i = faded (at i s) (at i g.state) ((fading.fall_on Pin Segment wire n open_of Anything s (element_of n j) (Outside j) (start s) (begin s)).fades i) (taken i)

      shut : (i : ℕ) (b : Bool) → HasEmptyInbox (cond b (record { opened = (s.accesses j).opened; connection = None }) (g.state.accesses i)).connection
      shut i true = tt
      shut i false = fallen i

      go : (o : Option Connection) → AreTaken (events.shut_open Pin Segment wire n open_of j s o).state
      go None = taken
      go (Some x) = λ i. shut i (j == i)

  -- ---- a feed, and what is taken of it

  access_but : (j : ℕ) (f : Connection → Connection) (s : Plant) → AreTakenBut j s → AreTakenBut j (with_access Pin Segment wire n open_of j f s)
  access_but j f s taken i other = subst (λ (b : Bool). HasEmptyInbox (cond b (on_connection f (s.accesses j)) (s.accesses i)).connection) (sym other) (taken i other)

  feed_leaves : (j : ℕ) (bytes : Bytes) (s : Plant) → AreTaken s → AreTakenBut j (events.feed Pin Segment wire n open_of j bytes s).state
  feed_leaves j bytes s taken = go (s.accesses j).connection
    where
      still : AreTakenBut j s
      still i other = taken i

      by : (b : Bool) → AreTakenBut j (cond b s (with_access Pin Segment wire n open_of j (events.fed wire bytes) s))
      by true = still
      by false = access_but j (events.fed wire bytes) s still

      go : (o : Option Connection) → AreTakenBut j (events.feed_open Pin Segment wire n open_of j bytes s o).state
      go None = still
      go (Some x) = by (is_down x.session.phase)

  take_leaves : (j : ℕ) (s : Plant) → AreTakenBut j s → AreTakenBut j (events.take Pin Segment wire n open_of j s).state
  take_leaves j s taken = go (s.accesses j).connection
    where
      read_back : (o : Option Message) (m : Message) → read_as o ≡ input.Got m → o ≡ Some m
      read_back None m e = cc
      read_back (Some x) m e = cc

      bad_other : (m : Message) → input.Bad ≡ input.Got m → ⊥
      bad_other m e = cc

      came : (x : Option Bytes) (m : Message) → input_of wire x ≡ input.Got m → CameFrom wire Anything j m
      came None m e = absurd (bad_other m e)
      came (Some part) m e = (part, tt, read_back (wire.read part) m e)

      item : (inbox : List (Option Bytes)) → AreTakenBut j (events.take_item Pin Segment wire n open_of j s inbox).state
      item [] = taken
      item (x ∷ rest) = later
        where
          t : Plant
          t = with_access Pin Segment wire n open_of j (with_inbox rest) s

          later : AreTakenBut j (outside_input Pin Segment wire n open_of j (input_of wire x) (start t)).state
          later i other =
              faded (at i t) (at i (outside_input Pin Segment wire n open_of j (input_of wire x) (start t)).state)
              ((fading.outside_input_on Pin Segment wire n open_of Anything t j (input_of wire x) (start t) (came x) (begin t)).fades i)
              (access_but j (with_inbox rest) s taken i other)

      go : (o : Option Connection) → AreTakenBut j (events.take_open Pin Segment wire n open_of j s o).state
      go None = taken
      go (Some k) = item k.inbox

  -- where nothing stands in an inbox, nothing is taken from it
  take_keeps : (j : ℕ) (s : Plant) → AreTaken s → AreTaken (events.take Pin Segment wire n open_of j s).state
  take_keeps j s taken = go (s.accesses j).connection (taken j)
    where
      item : (inbox : List (Option Bytes)) → inbox ≡ [] → AreTaken (events.take_item Pin Segment wire n open_of j s inbox).state
      item [] none = taken
      item (x ∷ rest) none = absurd (let clash : x ∷ rest ≡ [] = none in cc)

      go : (o : Option Connection) → HasEmptyInbox o → AreTaken (events.take_open Pin Segment wire n open_of j s o).state
      go None none = taken
      go (Some k) none = item k.inbox none

  feed_refused : (j : ℕ) (bytes : Bytes) (s : Plant) → is_accepted (events.feed Pin Segment wire n open_of j bytes s).answer ≡ false → AreTaken s → AreTaken (events.feed Pin Segment wire n open_of j bytes s).state
  feed_refused j bytes s fails taken = go (s.accesses j).connection fails
    where
      go : (o : Option Connection) → is_accepted (events.feed_open Pin Segment wire n open_of j bytes s o).answer ≡ false → AreTaken (events.feed_open Pin Segment wire n open_of j bytes s o).state
      go None e = taken
      go (Some x) e = (let clash : true ≡ false = e in cc)

  -- ---- all events but a feed

  abbrev pub Keeps : Event → Type 0
  Keeps e = (s : Plant) (h : Happened) → Happens wire n s e h → AreTaken s → AreTaken h.state

  pub keeps_load : (d : As) (g : Rows) → Keeps (event.Load d g)
  keeps_load d g s h is taken = all_faded s h (load_fades d g s h is) taken

  pub keeps_open : (j holder : ℕ) → Keeps (event.Open j holder)
  keeps_open j holder s h is taken = subst Kept (sym is) (open_keeps j holder s taken)

  pub keeps_shut : (j : ℕ) → Keeps (event.Shut j)
  keeps_shut j s h is taken = subst Kept (sym is) (shut_keeps j s taken)

  pub keeps_take : (j : ℕ) → Keeps (event.Take j)
  keeps_take j s h is taken = subst Kept (sym is) (take_keeps j s taken)

  pub keeps_carry : (a b : As) → Keeps (event.Carry a b)
  keeps_carry a b s h is taken = all_faded s h (subst (Fade s) (sym is) (carry_fades a b s)) taken

  pub keeps_break : (a b : As) → Keeps (event.Break a b)
  keeps_break a b s h is taken = all_faded s h (subst (Fade s) (sym is) (break_fades a b s)) taken

  pub keeps_tick : (t : Tick) → Keeps (event.Tick t)
  keeps_tick t s h is taken = all_faded s h (subst (Fade s) (sym is) (tick_fades t s)) taken

  pub keeps_drain : (j holder : ℕ) → Keeps (event.Drain j holder)
  keeps_drain j holder s h is taken = all_faded s h (subst (Fade s) (sym is) (drain_fades j holder s)) taken

  pub keeps_solve : (d : As) (k : ℕ) → Keeps (event.Solve d k)
  keeps_solve d k s h (inl none) taken = subst Kept (sym none.1) taken
  keeps_solve d k s h (inr (inl none)) taken = subst Kept (sym none.2) taken
  keeps_solve d k s h (inr (inr (inl x))) taken = all_faded s h (solve_fades d k s h x.1) taken
  keeps_solve d k s h (inr (inr (inr x))) taken = all_faded s h (upper_fades k s h x.2) taken

  pub leaves_feed : (j : ℕ) (bytes : Bytes) (s : Plant) (h : Happened) → Happens wire n s (event.Feed j bytes) h → AreTaken s → AreTakenBut j h.state
  leaves_feed j bytes s h is taken = subst (λ (x : Happened). AreTakenBut j x.state) (sym is) (feed_leaves j bytes s taken)

  pub keeps_refused_feed : (j : ℕ) (bytes : Bytes) (s : Plant) (h : Happened) → Happens wire n s (event.Feed j bytes) h → is_accepted h.answer ≡ false → AreTaken s → AreTaken h.state
  keeps_refused_feed j bytes s h is fails taken = subst Kept (sym is) (feed_refused j bytes s (ap (λ (x : Happened). is_accepted x.answer) (sym is) ∙ fails) taken)

  pub leaves_take : (j : ℕ) (s : Plant) (h : Happened) → Happens wire n s (event.Take j) h → AreTakenBut j s → AreTakenBut j h.state
  leaves_take j s h is taken = subst (λ (x : Happened). AreTakenBut j x.state) (sym is) (take_leaves j s taken)
