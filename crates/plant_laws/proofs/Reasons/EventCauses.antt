-- Each deed of an event has its cause.
use Rattle.std.proofs.Common.{◌≡◌, ℕ, ◌+◌, ◌%◌, Bool, true, false, cond, ◌==◌, List, [], ◌∷◌, Option, Some, None, is_some, sym, ◌∙◌, ap, subst, inl, inr, refl, eq-eqb}
use Rattle.std.specs.Prelude.{◌⊎◌, Contains}
use Rattle.plant_model.specs.Types.{As, Tick, Peer, Outside, Inner, Message, Input, Action, Own, State as Session, NetworkParts, PeerRow}
use Rattle.disclosure.specs.Shown.{open_of}
use Rattle.pcep_session.specs.declared.session.Input.TheVariants as input
use Rattle.pcep_session.specs.declared.actions.Action.TheVariants as action
use Rattle.pcep_session.specs.declared.actions.Own.TheVariants as own
use Rattle.pcep_session.specs.Table.{new_state, turn_of}
use Rattle.plant_text.specs.Names.{same_as, parent_as}
use Rattle.plant_text.specs.Settings.{Adjacency, adjacency, adjacencies, is_linked, peer_row, class_of}
use Rattle.plant_model.specs.declared.event.Event.{Event}
use Rattle.plant_model.specs.declared.event.Event.TheVariants as event
use Rattle.plant_model.specs.declared.output.Output.{Output}
use Rattle.plant_model.specs.Names.{is_empty, set_pair, set_number}
use Rattle.plant_model.specs.Wire.{Bytes, Codec}
use Rattle.plant_model.specs.Element.{Element, Row, upped, downed, kept}
use Rattle.plant_model.specs.Taking.{take}
use Rattle.plant_model.specs.Parent.{AskingRow}
use Rattle.plant_model.specs.Parent as parent
use Rattle.plant_model.specs.Settings.{place, family}
use Rattle.plant_model.specs.State.{Connection, Access, Pops, Takes, Ups, Downs, Clears}
use Rattle.plant_model.specs.Deeds.{Going, our_offer, own_message, element_of, is_due, is_tick, is_out_empty, any_fall, on_connection, with_session, with_inbox, read_as, input_of, with_access, with_element, with_parent, with_inner, put, puts, give, rise, fall, say, clear, expire, outside_act, outside_acts, outside_step, outside_input, inner_act, inner_acts, inner_input, begin_end, break_adjacency, tick_outside, tick_adjacencies}
use Rattle.plant_model.specs.Outside.{heeded}
use Rattle.plant_model.specs.Events as events
use Rattle.plant_model.specs.Events.{later}
use Rattle.plant_model.specs.Plant.{Pin, Segment, Plant}
use Rattle.plant_laws.specs.Transcript.{Transcript}
use Rattle.plant_laws.specs.Causes.{left_rows, left_above, IsLost, IsLostAbove, AnswersLost, asker_of, asker_above, Passes, from_outside, from_inside, by_element, by_parent, begins, came_first, came_along, ticks, OfSession, by_table, anew, HasCause, HaveCauses}
use Rattle.plant_laws.proofs.Once.Handing.{In}
use Rattle.plant_laws.proofs.Reasons.PartCauses.{contains_at, not_both}
use Rattle.plant_laws.proofs.Reasons.ElementCauses as element_causes
use Rattle.plant_laws.proofs.Reasons.ParentCauses as parent_causes
use Rattle.plant_laws.proofs.Runs.Lists.{first_in, later_in}
use Rattle.plant_laws.proofs.Runs.Queues.{same_as_is}
use Rattle.plant_laws.proofs.Runs.Shape.{has_pass, shape}
use Rattle.plant_laws.proofs.Runs.Calm.{puts_elements}
use Rattle.plant_laws.proofs.Reasons.LostCauses.{lost_on, lost_above}

pub number_self : {A : Type 0} (i : ℕ) (v : A) (f : ℕ → A) → set_number i v f i ≡ v
number_self i v f = ap (λ (b : Bool). cond b v (f i)) (eq-eqb i i refl)

-- what could be read
pub got_read : (c : Codec) (item : Option Bytes) (m : Message) → input_of c item ≡ input.Got m → (bytes : Bytes) × (item ≡ Some bytes) × (c.read bytes ≡ Some m)
got_read c None m is = (let no : input.Bad ≡ input.Got m = is in cc)
got_read c (Some bytes) m is = (bytes, refl, go (c.read bytes) is)
  where
    go : (o : Option Message) → read_as o ≡ input.Got m → o ≡ Some m
    go None other = (let clash : input.Bad ≡ input.Got m = other in cc)
    go (Some m') same = (let is' : input.Got m' ≡ input.Got m = same in cc)

module _ (c : Codec) (n : NetworkParts) (before : Plant) (e : Event) where
  abbrev Move : Type 0
  Move = Going Pin Segment

  abbrev Have : Transcript → Type 0
  Have ds = HaveCauses c n before e ds

  -- The deeds so far have causes, and have left the pending requests that they leave.
  pub record Caused (g : Move) : Type 0 where
    pub causes : Have g.deeds
    pub rows : (d : As) → same_as d parent_as ≡ false → (g.state.elements d).pending.rows ≡ left_rows d (before.elements d).pending.rows g.deeds
    pub above : g.state.parent.pending.rows ≡ left_above before.parent.pending.rows g.deeds

  pick : {T : Type 0} (Q : T → Type 0) (b : Bool) (t u : T) → (b ≡ true → Q t) → (b ≡ false → Q u) → Q (cond b t u)
  pick Q true t u f g = f refl
  pick Q false t u f g = g refl

  -- a change of all else
  rest_on : (g : Move) (t : Plant) → t.elements ≡ g.state.elements → t.parent ≡ g.state.parent → Caused g → Caused (record { state = t; deeds = g.deeds })
  rest_on g t elements parent' r = record {
    causes = r.causes;
    rows = λ d down. ap (λ (f : As → Element Pin Segment). (f d).pending.rows) elements ∙ r.rows d down;
    above = ap (λ (k : parent.Parent). k.pending.rows) parent' ∙ r.above;
  }

  -- the queues, as what is put there changes no table
  put_parent : (at : As) (os : List Output) (s : Plant) → (puts Pin Segment c n open_of at os s).parent ≡ s.parent
  put_parent at [] s = refl
  put_parent at (o ∷ os) s = put_parent at os (put Pin Segment c n open_of at o s) ∙ one o.to
    where
      one : (to : Peer) → (put Pin Segment c n open_of at (record { to = to; message = o.message }) s).parent ≡ s.parent
      one (Outside i) = refl
      one (Inner b) = refl

  -- the table of one element in place of the old one
  rows_set : (at d : As) (k : Element Pin Segment) (s : Plant) → k.pending.rows ≡ (s.elements at).pending.rows → (b : Bool) → same_as at d ≡ b → (cond b k (s.elements d)).pending.rows ≡ (s.elements d).pending.rows
  rows_set at d k s same true is = same ∙ ap (λ (z : As). (s.elements z).pending.rows) (same_as_is at d is)
  rows_set at d k s same false is = refl

  say_on : (at : As) (p : Peer) (o : Own) (g : Move) → OfSession c n before e g.deeds at (record { to = p; message = own_message o }) → Caused g → Caused (say Pin Segment c n open_of at p o g)
  say_on at p o g of r =
      let out : Output = record { to = p; message = own_message o } in
      let s = puts Pin Segment c n open_of at (out ∷ []) g.state in
      record {
        causes = (of, r.causes);
        rows = λ d down. ap (λ (f : As → Element Pin Segment). (f d).pending.rows) (puts_elements c n at (out ∷ []) g.state) ∙ r.rows d down;
        above = ap (λ (k : parent.Parent). k.pending.rows) (put_parent at (out ∷ []) g.state) ∙ r.above;
      }

  rise_on : (at : As) (p : Peer) (g : Move) → Caused g → Caused (rise Pin Segment c n open_of at p g)
  rise_on at p g r =
      pick Caused (same_as at parent_as)
      (record { state = with_parent Pin Segment c n open_of (parent.upped p g.state.parent) g.state; deeds = Ups at p ∷ g.deeds })
      (record { state = with_element Pin Segment c n open_of at (upped p (g.state.elements at)) g.state; deeds = Ups at p ∷ g.deeds })
      (λ up. record { causes = (tt, r.causes); rows = r.rows; above = r.above })
      (λ down. record {
        causes = (tt, r.causes);
        rows = λ d down'. rows_set at d (upped p (g.state.elements at)) g.state refl (same_as at d) refl ∙ r.rows d down';
        above = r.above;
      })

  fall_on : (at : As) (p : Peer) (g : Move) → Caused g → Caused (fall Pin Segment c n open_of at p g)
  fall_on at p g r =
      let q = parent.downed p g.state.parent in
      let t = downed p (g.state.elements at) in
      let u = with_parent Pin Segment c n open_of q.parent g.state in
      let v = with_element Pin Segment c n open_of at t.element g.state in
      pick Caused (same_as at parent_as)
      (record { state = puts Pin Segment c n open_of at q.outputs u; deeds = Downs at p q.outputs ∷ g.deeds })
      (record { state = puts Pin Segment c n open_of at t.outputs v; deeds = Downs at p t.outputs ∷ g.deeds })
      (λ up. record {
        causes = (lost_above_at up, r.causes);
        rows = λ d down. ap (λ (f : As → Element Pin Segment). (f d).pending.rows) (puts_elements c n at q.outputs u) ∙ r.rows d down ∙ sym (other at d up down);
        above = ap (λ (k : parent.Parent). k.pending.rows) (put_parent at q.outputs u) ∙ ap (parent.kept p) r.above ∙ ap (λ (b : Bool). cond b (parent.kept p (left_above before.parent.pending.rows g.deeds)) (left_above before.parent.pending.rows g.deeds)) (sym up);
      })
      (λ down. record {
        causes = (lost_at down, r.causes);
        rows = λ d down'. ap (λ (f : As → Element Pin Segment). (f d).pending.rows) (puts_elements c n at t.outputs v) ∙ own_rows d down' (same_as at d) refl;
        above = ap (λ (k : parent.Parent). k.pending.rows) (put_parent at t.outputs v) ∙ r.above ∙ ap (λ (b : Bool). cond b (parent.kept p (left_above before.parent.pending.rows g.deeds)) (left_above before.parent.pending.rows g.deeds)) (sym down);
      })
    where
      mine : As → List (Row Pin)
      mine d = left_rows d (before.elements d).pending.rows g.deeds

      theirs : List AskingRow
      theirs = left_above before.parent.pending.rows g.deeds

      other : (at d : As) → same_as at parent_as ≡ true → same_as d parent_as ≡ false → cond (same_as at d) (kept p (mine d)) (mine d) ≡ mine d
      other at d up down = go (same_as at d) refl
        where
          go : (b : Bool) → same_as at d ≡ b → cond b (kept p (mine d)) (mine d) ≡ mine d
          go true is = not_both (same_as d parent_as) (ap (λ (z : As). same_as z parent_as) (sym (same_as_is at d is)) ∙ up) down
          go false is = refl

      own_rows : (d : As) → same_as d parent_as ≡ false → (b : Bool) → same_as at d ≡ b →
          (cond b (downed p (g.state.elements at)).element (g.state.elements d)).pending.rows ≡ cond b (kept p (mine d)) (mine d)
      own_rows d down true is = ap (λ (z : As). kept p (g.state.elements z).pending.rows) (same_as_is at d is) ∙ ap (kept p) (r.rows d down)
      own_rows d down false is = r.rows d down

      lost_at : (down : same_as at parent_as ≡ false) → HasCause c n before e g.deeds (Downs at p (downed p (g.state.elements at)).outputs)
      lost_at down =
          subst (λ (b : Bool). cond b (AnswersLost (IsLostAbove p) asker_above theirs (downed p (g.state.elements at)).outputs) (AnswersLost (IsLost p) asker_of (mine at) (downed p (g.state.elements at)).outputs)) (sym down)
          (subst (λ (rows : List (Row Pin)). AnswersLost (IsLost p) asker_of rows (downed p (g.state.elements at)).outputs) (r.rows at down) (lost_on p (g.state.elements at).pending.rows))

      lost_above_at : (up : same_as at parent_as ≡ true) → HasCause c n before e g.deeds (Downs at p (parent.downed p g.state.parent).outputs)
      lost_above_at up =
          subst (λ (b : Bool). cond b (AnswersLost (IsLostAbove p) asker_above theirs (parent.downed p g.state.parent).outputs) (AnswersLost (IsLost p) asker_of (mine at) (parent.downed p g.state.parent).outputs)) (sym up)
          (subst (λ (rows : List AskingRow). AnswersLost (IsLostAbove p) asker_above rows (parent.downed p g.state.parent).outputs) r.above (lost_above p g.state.parent.pending.rows))

  clear_on : (x : Adjacency) (g : Move) → Caused g → Caused (clear Pin Segment c n open_of x g)
  clear_on x g r = record { causes = (tt, r.causes); rows = r.rows; above = r.above }

  expire_on : (now : ℕ) (g : Move) → Caused g → Caused (expire Pin Segment c n open_of now g)
  expire_on now g r = record { causes = (tt, r.causes); rows = r.rows; above = r.above }

  -- ---- sessions

  -- each message of its own has a cause, whatever was done before
  abbrev Sent : As → Peer → List Action → Type 0
  Sent at p as' = (o : Own) → In (action.Send o) as' → (earlier : Transcript) → OfSession c n before e earlier at (record { to = p; message = own_message o })

  later_sent : (at : As) (p : Peer) (a : Action) (as' : List Action) → Sent at p (a ∷ as') → Sent at p as'
  later_sent at p a as' sent o in' earlier = sent o (inr in') earlier

  quiet_inner : (at b : As) (ticks' : Bool) (as' : List Action) (g : Move) → has_pass as' ≡ false → Sent at (Inner b) as' → Caused g → Caused (inner_acts Pin Segment c n open_of at b ticks' as' g)
  quiet_inner at b ticks' [] g none sent r = r
  quiet_inner at b ticks' (action.Send o ∷ as') g none sent r =
      quiet_inner at b ticks' as' (inner_act Pin Segment c n open_of at b ticks' (action.Send o) g) none (later_sent at (Inner b) (action.Send o) as' sent)
      (pick Caused (cond ticks' (cond (is_due o) (cond (is_empty (g.state.queues at b)) false true) false) false) g (say Pin Segment c n open_of at (Inner b) o g)
      (λ is. r) (λ is. say_on at (Inner b) o g (sent o (inl refl) g.deeds) r))
  quiet_inner at b ticks' (action.Up ∷ as') g none sent r = quiet_inner at b ticks' as' (rise Pin Segment c n open_of at (Inner b) g) none (later_sent at (Inner b) action.Up as' sent) (rise_on at (Inner b) g r)
  quiet_inner at b ticks' (action.Down why ∷ as') g none sent r = quiet_inner at b ticks' as' g none (later_sent at (Inner b) (action.Down why) as' sent) r
  quiet_inner at b ticks' (action.Pass m ∷ as') g none sent r = let no : true ≡ false = none in cc

  quiet_outside : (i : ℕ) (ticks' : Bool) (as' : List Action) (g : Move) → has_pass as' ≡ false → Sent (element_of n i) (Outside i) as' → Caused g → Caused (outside_acts Pin Segment c n open_of i ticks' as' g)
  quiet_outside i ticks' [] g none sent r = r
  quiet_outside i ticks' (action.Send o ∷ as') g none sent r =
      quiet_outside i ticks' as' (outside_act Pin Segment c n open_of i ticks' (action.Send o) g) none (later_sent (element_of n i) (Outside i) (action.Send o) as' sent)
      (pick Caused (cond ticks' (cond (is_due o) (cond (is_out_empty (g.state.accesses i).connection) false true) false) false) g (say Pin Segment c n open_of (element_of n i) (Outside i) o g)
      (λ is. r) (λ is. say_on (element_of n i) (Outside i) o g (sent o (inl refl) g.deeds) r))
  quiet_outside i ticks' (action.Up ∷ as') g none sent r =
      quiet_outside i ticks' as' (rise Pin Segment c n open_of (element_of n i) (Outside i) g) none (later_sent (element_of n i) (Outside i) action.Up as' sent) (rise_on (element_of n i) (Outside i) g r)
  quiet_outside i ticks' (action.Down why ∷ as') g none sent r =
      let h : Move = record { state = with_access Pin Segment c n open_of i (with_inbox []) g.state; deeds = g.deeds } in
      quiet_outside i ticks' as' (fall Pin Segment c n open_of (element_of n i) (Outside i) h) none (later_sent (element_of n i) (Outside i) (action.Down why) as' sent)
      (fall_on (element_of n i) (Outside i) h (rest_on g h.state refl refl r))
  quiet_outside i ticks' (action.Pass m ∷ as') g none sent r = let no : true ≡ false = none in cc

  -- a session that is begun anew
  begin_end_on : (sid : ℕ) (at b lower upper : As) (g : Move) → ((at ≡ lower) × (Inner b ≡ Inner upper)) ⊎ ((at ≡ upper) × (Inner b ≡ Inner lower)) → Contains g.deeds (Clears lower upper) → Caused g → Caused (begin_end Pin Segment c n open_of sid at b g)
  begin_end_on sid at b lower upper g sides cleared r =
      let s = new_state (our_offer sid) (record { 0 = g.state.clock }) in
      let t = turn_of s input.Begin in
      let h : Move = record { state = with_inner Pin Segment c n open_of at b t.next g.state; deeds = g.deeds } in
      say_on at (Inner b) (own.Open (our_offer sid)) h (anew lower upper sid cleared sides refl) (rest_on g h.state refl refl r)

  break_adjacency_on : (x : Adjacency) (g : Move) → Caused g → Caused (break_adjacency Pin Segment c n open_of x g)
  break_adjacency_on x g r =
      let sid = ((g.state.sessions x.lower x.upper).offer.sid + 1) % 256 in
      let f = fall Pin Segment c n open_of x.lower (Inner x.upper) g in
      let h = fall Pin Segment c n open_of x.upper (Inner x.lower) f in
      let k = clear Pin Segment c n open_of x h in
      let k' = begin_end Pin Segment c n open_of sid x.lower x.upper k in
      let cleared = first_in (Clears x.lower x.upper) h.deeds in
      begin_end_on sid x.upper x.lower x.lower x.upper k' (inr (refl, refl)) (later_in _ k.deeds (Clears x.lower x.upper) cleared)
      (begin_end_on sid x.lower x.upper x.lower x.upper k (inl (refl, refl)) cleared (clear_on x h (fall_on x.upper (Inner x.lower) f (fall_on x.lower (Inner x.upper) g r))))

  -- an input that passes nothing on
  pub quiet_input_on : (x : Adjacency) (at b : As) (y : Input) (g : Move) → has_pass (turn_of (g.state.sessions at b) y).actions ≡ false → Sent at (Inner b) (turn_of (g.state.sessions at b) y).actions → Caused g →
      Caused (inner_input Pin Segment c n open_of x at b y g)
  quiet_input_on x at b y g none sent r =
      let t = turn_of (g.state.sessions at b) y in
      let h : Move = record { state = with_inner Pin Segment c n open_of at b t.next g.state; deeds = g.deeds } in
      pick Caused (any_fall t.actions) (break_adjacency Pin Segment c n open_of x g) (inner_acts Pin Segment c n open_of at b (is_tick y) t.actions h) (λ is. break_adjacency_on x g r)
      (λ is. quiet_inner at b (is_tick y) t.actions h none sent (rest_on g h.state refl refl r))

  pub quiet_step_on : (i : ℕ) (y : Input) (g : Move) (k : Connection) → has_pass (turn_of k.session y).actions ≡ false → Sent (element_of n i) (Outside i) (turn_of k.session y).actions → Caused g →
      Caused (outside_step Pin Segment c n open_of i y g (Some k))
  quiet_step_on i y g k none sent r =
      let t = turn_of k.session y in
      let h : Move = record { state = with_access Pin Segment c n open_of i (with_session t.next) g.state; deeds = g.deeds } in
      quiet_outside i (is_tick y) t.actions h none sent (rest_on g h.state refl refl r)

  no_pass : (s : Session) (y : Input) → ((m : Message) → y ≡ input.Got m → ⊥) → has_pass (turn_of s y).actions ≡ false
  no_pass s y other = elim (shape s y) [ inl none ↦ none | inr pass ↦ absurd (other pass.0 pass.1) ]

  -- ---- what is passed on

  -- the tables and the clock are as they were before
  abbrev At : (ℕ → Access) → (As → As → Session) → (As → As → List Bytes) → Plant
  At accesses sessions queues = record {
    clock = before.clock;
    elements = before.elements;
    parent = before.parent;
    current = before.current;
    accesses = accesses;
    sessions = sessions;
    queues = queues;
  }

  pub give_on : (at : As) (p : Peer) (m : Message) (accesses : ℕ → Access) (sessions : As → As → Session) (queues : As → As → List Bytes) (ds : Transcript) → Passes c n before e at p m → Have ds →
      Have (give Pin Segment c n open_of at p m (record { state = At accesses sessions queues; deeds = ds })).deeds
  give_on at p m accesses sessions queues ds passes have =
      let g : Move = record { state = At accesses sessions queues; deeds = ds } in
      let u = parent.take c (family n) p m before.parent in
      let v = take c open_of (place n at) (before.current at) p (class_of n p) before.clock m (before.elements at) in
      pick (λ (h : Move). Have h.deeds) (same_as at parent_as)
      (record { state = puts Pin Segment c n open_of at u.outputs (with_parent Pin Segment c n open_of u.parent g.state); deeds = Takes at p m u.outputs ∷ ds })
      (record { state = puts Pin Segment c n open_of at v.outputs (with_element Pin Segment c n open_of at v.element g.state); deeds = Takes at p m v.outputs ∷ ds })
      (λ up. ((passes, by_parent up (parent_causes.message_on c n p m before.parent)), have))
      (λ down. ((passes, by_element down (element_causes.message_on c n at (before.current at) p before.clock m (before.elements at))), have))

  -- ---- each event

  begin_is_other : (m : Message) → input.Begin ≡ input.Got m → ⊥
  begin_is_other m is = cc

  tick_is_other : (now : Tick) (m : Message) → input.Tick now ≡ input.Got m → ⊥
  tick_is_other now m is = cc

  at_start : Caused (record { state = before; deeds = [] })
  at_start = record { causes = tt; rows = λ d down. refl; above = refl }

  pub open_have : (i holder : ℕ) → e ≡ event.Open i holder → Have (events.open_peer Pin Segment c n open_of i holder before).deeds
  open_have i holder is =
      pick (λ (h : events.Happened Pin Segment). Have h.deeds) (is_some (peer_row i n.peers)) (events.open_new Pin Segment c n open_of i holder before (before.accesses i).connection) (events.refused Pin Segment c n open_of _ before)
      (λ known. go (before.accesses i).connection) (λ unknown. tt)
    where
      session : Session
      session = new_state (our_offer ((before.accesses i).opened % 256)) (record { 0 = before.clock })

      fresh : Connection
      fresh = record { holder = holder; session = session; framing = record { held = []; bad = false }; inbox = []; out = [] }

      connected : Plant
      connected = events.connect Pin Segment c n open_of i holder before

      go : (o : Option Connection) → Have (events.open_new Pin Segment c n open_of i holder before o).deeds
      go (Some x) = tt
      go None =
          subst (λ (o : Option Connection). Have (outside_step Pin Segment c n open_of i input.Begin (record { state = connected; deeds = [] }) o).deeds)
          (sym (ap (λ (a : Access). a.connection) (number_self i (record { opened = (before.accesses i).opened + 1; connection = Some fresh }) before.accesses)))
          (quiet_step_on i input.Begin (record { state = connected; deeds = [] }) fresh refl
          (λ o in' earlier. by_table session input.Begin o (begins i holder is refl refl refl refl) (contains_at (action.Send o) (turn_of session input.Begin).actions in') refl)
          (rest_on (record { state = before; deeds = [] }) connected refl refl at_start)).causes

  pub shut_have : (i : ℕ) → Have (events.shut Pin Segment c n open_of i before).deeds
  shut_have i = go (before.accesses i).connection
    where
      go : (o : Option Connection) → Have (events.shut_open Pin Segment c n open_of i before o).deeds
      go None = tt
      go (Some x) = (fall_on (element_of n i) (Outside i) (record { state = before; deeds = [] }) at_start).causes

  pub feed_have : (i : ℕ) (bytes : Bytes) → Have (events.feed Pin Segment c n open_of i bytes before).deeds
  feed_have i bytes = go (before.accesses i).connection
    where
      go : (o : Option Connection) → Have (events.feed_open Pin Segment c n open_of i bytes before o).deeds
      go None = tt
      go (Some x) = tt

  pub drain_have : (i holder : ℕ) → Have (events.drain Pin Segment c n open_of i holder before).deeds
  drain_have i holder = go (before.accesses i).connection
    where
      go : (o : Option Connection) → Have (events.drain_open Pin Segment c n open_of i holder before o).deeds
      go None = tt
      go (Some x) = pick (λ (h : events.Happened Pin Segment). Have h.deeds) (x.holder == holder) _ (events.refused Pin Segment c n open_of _ before) (λ is. (tt, tt)) (λ is. tt)

  -- what comes first to a session of an outside peer
  module _ (i : ℕ) (is : e ≡ event.Take i) (x : Connection) (open' : (before.accesses i).connection ≡ Some x) (item : Option Bytes) (rest : List (Option Bytes)) (first : x.inbox ≡ item ∷ rest) where
    abbrev taken : Plant
    taken = with_access Pin Segment c n open_of i (with_inbox rest) before

    abbrev left : Connection
    left = with_inbox rest x

    pub left_is : (taken.accesses i).connection ≡ Some left
    left_is = ap (λ (a : Access). a.connection) (number_self i (on_connection (with_inbox rest) (before.accesses i)) before.accesses) ∙ ap (λ (o : Option Connection). (on_connection (with_inbox rest) (record { opened = 0; connection = o })).connection) open'

    abbrev came : Input
    came = input_of c item

    step_have : Have (outside_step Pin Segment c n open_of i came (record { state = taken; deeds = [] }) (Some left)).deeds
    step_have = elim (shape x.session came) [
      | inl none ↦
          (quiet_step_on i came (record { state = taken; deeds = [] }) left none
          (λ o in' earlier. by_table x.session came o (came_first i x item rest is refl refl open' first refl refl) (contains_at (action.Send o) (turn_of x.session came).actions in') refl)
          (rest_on (record { state = before; deeds = [] }) taken refl refl at_start)).causes
      | inr pass ↦
          let read = got_read c item pass.0 pass.1 in
          let acts : (turn_of x.session (input.Got pass.0)).actions ≡ action.Pass pass.0 ∷ [] = subst (λ (y : Input). (turn_of x.session y).actions ≡ action.Pass pass.0 ∷ []) pass.1 pass.2 in
          let passes = from_outside i x read.0 rest pass.0 is open' (first ∙ ap (λ (z : Option Bytes). z ∷ rest) read.1) read.2 acts refl refl refl in
          let after = with_access Pin Segment c n open_of i (with_session (turn_of x.session came).next) taken in
          subst (λ (as' : List Action). Have (outside_acts Pin Segment c n open_of i (is_tick came) as' (record { state = after; deeds = [] })).deeds) (sym pass.2)
          (give_on (element_of n i) (Outside i) (heeded c (Outside i) (before.elements (element_of n i)).pending.rows pass.0) after.accesses after.sessions after.queues [] passes tt)
    ]

    pub item_have : Have (outside_input Pin Segment c n open_of i came (record { state = taken; deeds = [] })).deeds
    item_have = subst (λ (o : Option Connection). Have (outside_step Pin Segment c n open_of i came (record { state = taken; deeds = [] }) o).deeds) (sym left_is) step_have

  pub take_have : (i : ℕ) → e ≡ event.Take i → Have (events.take Pin Segment c n open_of i before).deeds
  take_have i is = go (before.accesses i).connection refl
    where
      go : (o : Option Connection) → (before.accesses i).connection ≡ o → Have (events.take_open Pin Segment c n open_of i before o).deeds
      go None open' = tt
      go (Some x) open' = items x.inbox refl
        where
          items : (xs : List (Option Bytes)) → x.inbox ≡ xs → Have (events.take_item Pin Segment c n open_of i before xs).deeds
          items [] first = tt
          items (item ∷ rest) first = item_have i is x open' item rest first

  -- what comes first along a link
  module _ (a b : As) (is : e ≡ event.Carry a b) (linked : is_linked n a b ≡ true) (bytes : Bytes) (rest : List Bytes) (first : before.queues a b ≡ bytes ∷ rest) where
    abbrev popped : Move
    popped = record { state = record before { queues = set_pair a b rest before.queues }; deeds = Pops a b ∷ [] }

    abbrev heard : Input
    heard = input_of c (Some bytes)

    after_pop : Caused popped
    after_pop = record { causes = (tt, tt); rows = λ d down. refl; above = refl }

    pub first_have : Have (inner_input Pin Segment c n open_of (adjacency a b) b a heard popped).deeds
    first_have = elim (shape (before.sessions b a) heard) [
      | inl none ↦
          (quiet_input_on (adjacency a b) b a heard popped none
          (λ o in' earlier. by_table (before.sessions b a) heard o (came_along a bytes rest is refl linked first refl refl) (contains_at (action.Send o) (turn_of (before.sessions b a) heard).actions in') refl)
          after_pop).causes
      | inr pass ↦
          let read = got_read c (Some bytes) pass.0 pass.1 in
          let acts : (turn_of (before.sessions b a) (input.Got pass.0)).actions ≡ action.Pass pass.0 ∷ [] = subst (λ (y : Input). (turn_of (before.sessions b a) y).actions ≡ action.Pass pass.0 ∷ []) pass.1 pass.2 in
          let known : c.read bytes ≡ Some pass.0 = (let same : bytes ≡ read.0 = cc in subst (λ (z : Bytes). c.read z ≡ Some pass.0) (sym same) read.2) in
          let passes = from_inside a bytes rest is linked first known acts refl in
          let after = with_inner Pin Segment c n open_of b a (turn_of (before.sessions b a) heard).next popped.state in
          subst (λ (as' : List Action). Have (cond (any_fall as') (break_adjacency Pin Segment c n open_of (adjacency a b) popped) (inner_acts Pin Segment c n open_of b a (is_tick heard) as' (record { state = after; deeds = popped.deeds }))).deeds) (sym pass.2)
          (give_on b (Inner a) pass.0 after.accesses after.sessions after.queues popped.deeds passes (tt, tt))
    ]

  pub carry_have : (a b : As) → e ≡ event.Carry a b → Have (events.carry Pin Segment c n open_of a b before).deeds
  carry_have a b is =
      pick (λ (h : events.Happened Pin Segment). Have h.deeds) (is_linked n a b) (events.carry_first Pin Segment c n open_of a b before (before.queues a b)) (events.refused Pin Segment c n open_of _ before)
      (λ linked. go linked (before.queues a b) refl) (λ none. tt)
    where
      go : is_linked n a b ≡ true → (q : List Bytes) → before.queues a b ≡ q → Have (events.carry_first Pin Segment c n open_of a b before q).deeds
      go linked [] first = tt
      go linked (bytes ∷ rest) first = first_have a b is linked bytes rest first

  pub break_have : (a b : As) → Have (events.break Pin Segment c n open_of a b before).deeds
  break_have a b =
      pick (λ (h : events.Happened Pin Segment). Have h.deeds) (is_linked n a b) _ (events.refused Pin Segment c n open_of _ before)
      (λ linked. (break_adjacency_on (adjacency a b) (record { state = before; deeds = [] }) at_start).causes) (λ none. tt)

  -- a tick
  module _ (t : Tick) (is : e ≡ event.Tick t) where
    abbrev now : Tick
    now = record { 0 = later before.clock t.0 }

    ticked_sent : (at : As) (p : Peer) (s : Session) → Sent at p (turn_of s (input.Tick now)).actions
    ticked_sent at p s o in' earlier = by_table s (input.Tick now) o (ticks t is refl) (contains_at (action.Send o) (turn_of s (input.Tick now)).actions in') refl

    tick_outside_on : (i : ℕ) (rs : List PeerRow) (g : Move) → Caused g → Caused (tick_outside Pin Segment c n open_of i rs now g)
    tick_outside_on i [] g r = r
    tick_outside_on i (row ∷ rs) g r = tick_outside_on (i + 1) rs (outside_input Pin Segment c n open_of i (input.Tick now) g) (go (g.state.accesses i).connection)
      where
        go : (o : Option Connection) → Caused (outside_step Pin Segment c n open_of i (input.Tick now) g o)
        go None = r
        go (Some k) = quiet_step_on i (input.Tick now) g k (no_pass k.session (input.Tick now) (tick_is_other now)) (ticked_sent (element_of n i) (Outside i) k.session) r

    tick_adjacencies_on : (xs : List Adjacency) (g : Move) → Caused g → Caused (tick_adjacencies Pin Segment c n open_of xs now g)
    tick_adjacencies_on [] g r = r
    tick_adjacencies_on (x ∷ xs) g r =
        let h = inner_input Pin Segment c n open_of x x.lower x.upper (input.Tick now) g in
        let r' : Caused h =
        quiet_input_on x x.lower x.upper (input.Tick now) g (no_pass (g.state.sessions x.lower x.upper) (input.Tick now) (tick_is_other now)) (ticked_sent x.lower (Inner x.upper) (g.state.sessions x.lower x.upper)) r in
        tick_adjacencies_on xs (inner_input Pin Segment c n open_of x x.upper x.lower (input.Tick now) h)
        (quiet_input_on x x.upper x.lower (input.Tick now) h (no_pass (h.state.sessions x.upper x.lower) (input.Tick now) (tick_is_other now)) (ticked_sent x.upper (Inner x.lower) (h.state.sessions x.upper x.lower)) r')

    pub tick_have : Have (events.tick Pin Segment c n open_of t.0 before).deeds
    tick_have =
        let g : Move = record { state = record before { clock = now.0 }; deeds = [] } in
        let h = tick_outside Pin Segment c n open_of 0 n.peers now g in
        let k = tick_adjacencies Pin Segment c n open_of (adjacencies n) now h in
        (expire_on now.0 k (tick_adjacencies_on (adjacencies n) h (tick_outside_on 0 n.peers g (rest_on (record { state = before; deeds = [] }) g.state refl refl at_start)))).causes
