-- What sessions do without passing a message on leaves the clock and the keys, and takes and solves nothing.
use Rattle.std.proofs.Common.{◌≡◌, ℕ, ◌+◌, ◌%◌, Bool, true, false, cond, List, [], ◌∷◌, ◌++◌, Option, Some, None, ◌∙◌, ap, inl, inr, refl}
use Rattle.plant_model.specs.Types.{As, Tick, Peer, Outside, Inner, Message, Input, Action, Own, State as Session, NetworkParts, PeerRow}
use Rattle.disclosure.specs.Shown.{open_of}
use Rattle.pcep_session.specs.declared.session.Input.TheVariants as input
use Rattle.pcep_session.specs.declared.actions.Action.TheVariants as action
use Rattle.pcep_session.specs.Table.{turn_of, new_state}
use Rattle.plant_model.specs.declared.output.Output.{Output}
use Rattle.plant_text.specs.Names.{same_as, parent_as}
use Rattle.plant_model.specs.Names.{is_empty}
use Rattle.plant_model.specs.Wire.{Bytes, Codec}
use Rattle.plant_model.specs.Element.{Element, upped, downed}
use Rattle.plant_model.specs.Parent as parent
use Rattle.plant_text.specs.Settings.{Adjacency}
use Rattle.plant_model.specs.State.{State, Connection, Loads, Pops, Takes, Says, Ups, Downs, Clears, Solves, Expires, Hands}
use Rattle.plant_model.specs.Deeds.{Going, element_of, own_message, is_due, is_tick, is_out_empty, any_fall, our_offer, with_session, with_inbox, with_element, with_parent, put, put_to, puts, rise, fall, say, clear, outside_act, outside_acts, outside_step, outside_input, inner_act, inner_acts, inner_input, begin_end, begin_adjacency, break_adjacency, tick_outside, tick_adjacencies, with_access, with_inner}
use Rattle.plant_model.specs.Plant.{Pin, Segment, PlantDeed}
use Rattle.plant_laws.proofs.Runs.Queues.{same_as_is}
use Rattle.plant_laws.proofs.Runs.Shape.{has_pass, shape}

-- a deed that is no message taken, no solve and no tick
abbrev pub is_plain : PlantDeed → Bool
is_plain (Takes at from m os) = false
is_plain (Solves at k os keys) = false
is_plain (Expires now) = false
is_plain _ = true

abbrev pub Plain : List PlantDeed → Type 0
Plain [] = Unit {0}
Plain (e ∷ es) = (is_plain e ≡ true) × Plain es

module _ (c : Codec) (n : NetworkParts) where
  abbrev Core : Type 0
  Core = State Pin Segment

  pub put_elements : (at : As) (bytes : Bytes) (s : Core) (to : Peer) → (put_to Pin Segment c n open_of at bytes s to).elements ≡ s.elements
  put_elements at bytes s (Outside i) = refl
  put_elements at bytes s (Inner b) = refl

  pub puts_elements : (at : As) (os : List Output) (s : Core) → (puts Pin Segment c n open_of at os s).elements ≡ s.elements
  puts_elements at [] s = refl
  puts_elements at (o ∷ os) s = puts_elements at os (put Pin Segment c n open_of at o s) ∙ put_elements at (c.text o.message) s o.to

  put_clock : (at : As) (bytes : Bytes) (s : Core) (to : Peer) → (put_to Pin Segment c n open_of at bytes s to).clock ≡ s.clock
  put_clock at bytes s (Outside i) = refl
  put_clock at bytes s (Inner b) = refl

  pub puts_clock : (at : As) (os : List Output) (s : Core) → (puts Pin Segment c n open_of at os s).clock ≡ s.clock
  puts_clock at [] s = refl
  puts_clock at (o ∷ os) s = puts_clock at os (put Pin Segment c n open_of at o s) ∙ put_clock at (c.text o.message) s o.to

  -- the keys of an element in place of those at one place
  pub keys_set : (at d : As) (k : Element Pin Segment) (s : Core) → k.keys ≡ (s.elements at).keys → (b : Bool) → same_as at d ≡ b → (cond b k (s.elements d)).keys ≡ (s.elements d).keys
  keys_set at d k s same true is = same ∙ ap (λ (z : As). (s.elements z).keys) (same_as_is at d is)
  keys_set at d k s same false is = refl

  -- from one state to a later one
  pub record Calm (s : Core) (ds : List PlantDeed) (g : Going Pin Segment) : Type 0 where
    pub more : List PlantDeed
    pub is : g.deeds ≡ more ++ ds
    pub plain : Plain more
    pub clock : g.state.clock ≡ s.clock
    pub keys : (d : As) → (g.state.elements d).keys ≡ (s.elements d).keys

  module _ (s0 : Core) (ds0 : List PlantDeed) where
    abbrev Reached : Going Pin Segment → Type 0
    Reached g = Calm s0 ds0 g

    pick : (b : Bool) (g h : Going Pin Segment) → Reached g → Reached h → Reached (cond b g h)
    pick true g h r r' = r
    pick false g h r r' = r'

    pub still : Reached (record { state = s0; deeds = ds0 })
    still = record { more = []; is = refl; plain = tt; clock = refl; keys = λ d. refl }

    -- a change of sessions, framers and inboxes alone
    pub rest_on : (g : Going Pin Segment) (t : Core) → t.clock ≡ g.state.clock → t.elements ≡ g.state.elements → Reached g → Reached (record { state = t; deeds = g.deeds })
    rest_on g t clock elements r = record {
      more = r.more;
      is = r.is;
      plain = r.plain;
      clock = clock ∙ r.clock;
      keys = λ d. ap (λ (f : As → Element Pin Segment). (f d).keys) elements ∙ r.keys d;
    }

    -- one plain deed more
    pub one_on : (g : Going Pin Segment) (e : PlantDeed) (t : Core) → is_plain e ≡ true → t.clock ≡ g.state.clock → ((d : As) → (t.elements d).keys ≡ (g.state.elements d).keys) → Reached g → Reached (record { state = t; deeds = e ∷ g.deeds })
    one_on g e t plain clock keys r = record {
      more = e ∷ r.more;
      is = ap (λ (l : List PlantDeed). e ∷ l) r.is;
      plain = (plain, r.plain);
      clock = clock ∙ r.clock;
      keys = λ d. keys d ∙ r.keys d;
    }

    rise_on : (at : As) (p : Peer) (g : Going Pin Segment) → Reached g → Reached (rise Pin Segment c n open_of at p g)
    rise_on at p g r =
        let v = with_element Pin Segment c n open_of at (upped p (g.state.elements at)) g.state in
        pick (same_as at parent_as)
        (record { state = with_parent Pin Segment c n open_of (parent.upped p g.state.parent) g.state; deeds = Ups at p ∷ g.deeds })
        (record { state = v; deeds = Ups at p ∷ g.deeds })
        (one_on g (Ups at p) (with_parent Pin Segment c n open_of (parent.upped p g.state.parent) g.state) refl refl (λ d. refl) r)
        (one_on g (Ups at p) v refl refl (λ d. keys_set at d (upped p (g.state.elements at)) g.state refl (same_as at d) refl) r)

    pub fall_on : (at : As) (p : Peer) (g : Going Pin Segment) → Reached g → Reached (fall Pin Segment c n open_of at p g)
    fall_on at p g r =
        let q = parent.downed p g.state.parent in
        let t = downed p (g.state.elements at) in
        let u = with_parent Pin Segment c n open_of q.parent g.state in
        let v = with_element Pin Segment c n open_of at t.element g.state in
        pick (same_as at parent_as)
        (record { state = puts Pin Segment c n open_of at q.outputs u; deeds = Downs at p q.outputs ∷ g.deeds })
        (record { state = puts Pin Segment c n open_of at t.outputs v; deeds = Downs at p t.outputs ∷ g.deeds })
        (one_on g (Downs at p q.outputs) (puts Pin Segment c n open_of at q.outputs u) refl (puts_clock at q.outputs u)
        (λ d. ap (λ (f : As → Element Pin Segment). (f d).keys) (puts_elements at q.outputs u)) r)
        (one_on g (Downs at p t.outputs) (puts Pin Segment c n open_of at t.outputs v) refl (puts_clock at t.outputs v)
        (λ d. ap (λ (f : As → Element Pin Segment). (f d).keys) (puts_elements at t.outputs v) ∙ keys_set at d t.element g.state refl (same_as at d) refl) r)

    say_on : (at : As) (p : Peer) (o : Own) (g : Going Pin Segment) → Reached g → Reached (say Pin Segment c n open_of at p o g)
    say_on at p o g r =
        let out : Output = record { to = p; message = own_message o } in
        one_on g (Says at out) (put Pin Segment c n open_of at out g.state) refl (put_clock at (c.text (own_message o)) g.state p)
        (λ d. ap (λ (f : As → Element Pin Segment). (f d).keys) (put_elements at (c.text (own_message o)) g.state p)) r

    clear_on : (x : Adjacency) (g : Going Pin Segment) → Reached g → Reached (clear Pin Segment c n open_of x g)
    clear_on x g r = one_on g (Clears x.lower x.upper) (clear Pin Segment c n open_of x g).state refl refl (λ d. refl) r

    pub quiet_inner : (at b : As) (ticks : Bool) (as' : List Action) (g : Going Pin Segment) → has_pass as' ≡ false → Reached g → Reached (inner_acts Pin Segment c n open_of at b ticks as' g)
    quiet_inner at b ticks [] g none r = r
    quiet_inner at b ticks (action.Send o ∷ as') g none r =
        quiet_inner at b ticks as' (inner_act Pin Segment c n open_of at b ticks (action.Send o) g) none
        (pick (cond ticks (cond (is_due o) (cond (is_empty (g.state.queues at b)) false true) false) false) g (say Pin Segment c n open_of at (Inner b) o g) r (say_on at (Inner b) o g r))
    quiet_inner at b ticks (action.Up ∷ as') g none r = quiet_inner at b ticks as' (rise Pin Segment c n open_of at (Inner b) g) none (rise_on at (Inner b) g r)
    quiet_inner at b ticks (action.Down why ∷ as') g none r = quiet_inner at b ticks as' g none r
    quiet_inner at b ticks (action.Pass m ∷ as') g none r = let no : true ≡ false = none in cc

    pub quiet_outside : (i : ℕ) (ticks : Bool) (as' : List Action) (g : Going Pin Segment) → has_pass as' ≡ false → Reached g → Reached (outside_acts Pin Segment c n open_of i ticks as' g)
    quiet_outside i ticks [] g none r = r
    quiet_outside i ticks (action.Send o ∷ as') g none r =
        quiet_outside i ticks as' (outside_act Pin Segment c n open_of i ticks (action.Send o) g) none
        (pick (cond ticks (cond (is_due o) (cond (is_out_empty (g.state.accesses i).connection) false true) false) false) g (say Pin Segment c n open_of (element_of n i) (Outside i) o g) r (say_on (element_of n i) (Outside i) o g r))
    quiet_outside i ticks (action.Up ∷ as') g none r = quiet_outside i ticks as' (rise Pin Segment c n open_of (element_of n i) (Outside i) g) none (rise_on (element_of n i) (Outside i) g r)
    quiet_outside i ticks (action.Down why ∷ as') g none r =
        let h : Going Pin Segment = record { state = with_access Pin Segment c n open_of i (with_inbox []) g.state; deeds = g.deeds } in
        quiet_outside i ticks as' (fall Pin Segment c n open_of (element_of n i) (Outside i) h) none
        (fall_on (element_of n i) (Outside i) h (rest_on g h.state refl refl r))
    quiet_outside i ticks (action.Pass m ∷ as') g none r = let no : true ≡ false = none in cc

    begin_end_on : (sid : ℕ) (at b : As) (g : Going Pin Segment) → Reached g → Reached (begin_end Pin Segment c n open_of sid at b g)
    begin_end_on sid at b g r =
        let s = new_state (our_offer sid) (record { 0 = g.state.clock }) in
        let t = turn_of s input.Begin in
        let h : Going Pin Segment = record { state = with_inner Pin Segment c n open_of at b t.next g.state; deeds = g.deeds } in
        quiet_inner at b false t.actions h refl (rest_on g h.state refl refl r)

    pub begin_adjacency_on : (sid : ℕ) (x : Adjacency) (g : Going Pin Segment) → Reached g → Reached (begin_adjacency Pin Segment c n open_of sid x g)
    begin_adjacency_on sid x g r = begin_end_on sid x.upper x.lower (begin_end Pin Segment c n open_of sid x.lower x.upper g) (begin_end_on sid x.lower x.upper g r)

    pub break_adjacency_on : (x : Adjacency) (g : Going Pin Segment) → Reached g → Reached (break_adjacency Pin Segment c n open_of x g)
    break_adjacency_on x g r =
        let f = fall Pin Segment c n open_of x.lower (Inner x.upper) g in
        let h = fall Pin Segment c n open_of x.upper (Inner x.lower) f in
        begin_adjacency_on (((g.state.sessions x.lower x.upper).offer.sid + 1) % 256) x (clear Pin Segment c n open_of x h)
        (clear_on x h (fall_on x.upper (Inner x.lower) f (fall_on x.lower (Inner x.upper) g r)))

    -- an input that passes nothing on
    pub quiet_input_on : (x : Adjacency) (at b : As) (y : Input) (g : Going Pin Segment) → has_pass (turn_of (g.state.sessions at b) y).actions ≡ false → Reached g → Reached (inner_input Pin Segment c n open_of x at b y g)
    quiet_input_on x at b y g none r =
        let t = turn_of (g.state.sessions at b) y in
        let h : Going Pin Segment = record { state = with_inner Pin Segment c n open_of at b t.next g.state; deeds = g.deeds } in
        pick (any_fall t.actions) (break_adjacency Pin Segment c n open_of x g) (inner_acts Pin Segment c n open_of at b (is_tick y) t.actions h) (break_adjacency_on x g r)
        (quiet_inner at b (is_tick y) t.actions h none (rest_on g h.state refl refl r))

    no_pass : (s : Session) (y : Input) → ((m : Message) → y ≡ input.Got m → ⊥) → has_pass (turn_of s y).actions ≡ false
    no_pass s y other = elim (shape s y) [ inl none ↦ none | inr pass ↦ absurd (other pass.0 pass.1) ]

    tick_is_other : (now : Tick) (m : Message) → input.Tick now ≡ input.Got m → ⊥
    tick_is_other now m e = cc

    -- an input to an outside session that is no message
    pub other_input_on : (i : ℕ) (y : Input) (g : Going Pin Segment) → ((m : Message) → y ≡ input.Got m → ⊥) → Reached g → Reached (outside_input Pin Segment c n open_of i y g)
    other_input_on i y g other r = go (g.state.accesses i).connection
      where
        go : (o : Option Connection) → Reached (outside_step Pin Segment c n open_of i y g o)
        go None = r
        go (Some k) =
            let t = turn_of k.session y in
            let h : Going Pin Segment = record { state = with_access Pin Segment c n open_of i (with_session t.next) g.state; deeds = g.deeds } in
            quiet_outside i (is_tick y) t.actions h (no_pass k.session y other) (rest_on g h.state refl refl r)

    pub tick_outside_on : (i : ℕ) (rs : List PeerRow) (now : Tick) (g : Going Pin Segment) → Reached g → Reached (tick_outside Pin Segment c n open_of i rs now g)
    tick_outside_on i [] now g r = r
    tick_outside_on i (row ∷ rs) now g r =
        tick_outside_on (i + 1) rs now (outside_input Pin Segment c n open_of i (input.Tick now) g) (other_input_on i (input.Tick now) g (tick_is_other now) r)

    pub tick_adjacencies_on : (xs : List Adjacency) (now : Tick) (g : Going Pin Segment) → Reached g → Reached (tick_adjacencies Pin Segment c n open_of xs now g)
    tick_adjacencies_on [] now g r = r
    tick_adjacencies_on (x ∷ xs) now g r =
        let h = inner_input Pin Segment c n open_of x x.lower x.upper (input.Tick now) g in
        let r' : Reached h = quiet_input_on x x.lower x.upper (input.Tick now) g (no_pass (g.state.sessions x.lower x.upper) (input.Tick now) (tick_is_other now)) r in
        tick_adjacencies_on xs now (inner_input Pin Segment c n open_of x x.upper x.lower (input.Tick now) h)
        (quiet_input_on x x.upper x.lower (input.Tick now) h (no_pass (h.state.sessions x.upper x.lower) (input.Tick now) (tick_is_other now)) r')
