-- What is done leaves framers as they are and sessions that are over over, and takes nothing but what is at hand.
use Rattle.std.proofs.Common.{◌≡◌, ◌⊎◌, ℕ, ◌+◌, ◌%◌, Bool, true, false, cond, ◌==◌, List, [], ◌∷◌, Option, Some, None, inl, inr, sym, ◌∙◌, ap, subst, refl}
use Rattle.std.proofs.lemmas.Bool.{eqb-true}
use Rattle.plant_laws.specs.plant_model.Types.{As, Tick, Peer, Outside, Inner, Hop, Message, Input, Action, Own, Phase, State as Session, NetworkParts, PeerRow}
use Rattle.pcep_session.specs.declared.session.Input.TheVariants as input
use Rattle.pcep_session.specs.declared.actions.Action.TheVariants as action
use Rattle.pcep_session.specs.declared.state.Phase.TheVariants as phase
use Rattle.pcep_session.specs.Table.{new_state, turn_in, turn_of}
use Rattle.plant_text.specs.Names.{same_as, parent_as}
use Rattle.plant_text.specs.Settings.{Adjacency, class_of}
use Rattle.plant_laws.specs.plant_model.declared.output.Output.{Output}
use Rattle.plant_laws.specs.plant_model.Names.{is_empty}
use Rattle.plant_laws.specs.plant_model.Settings.{family, place}
use Rattle.plant_laws.specs.plant_model.Wire.{Bytes, Codec}
use Rattle.plant_laws.specs.plant_model.Element.{downed, sent_through, upped}
use Rattle.plant_laws.specs.plant_model.Taking.{take}
use Rattle.plant_laws.specs.plant_model.Parent as parent
use Rattle.plant_laws.specs.plant_model.State.{Access, Clears, Connection, Deed, Downs, Expires, Hands, Loads, Pops, Says, Solves, State, Takes, Ups}
use Rattle.plant_laws.specs.plant_model.Deeds.{Going, any_fall, begin_end, begin_adjacency, break_adjacency, clear, element_of, expire, fall, give, inner_act, inner_acts, inner_input, is_due, is_out_empty, is_tick, on_connection, our_offer, outside_act, outside_acts, outside_input, outside_step, own_message, put, put_to, puts, rise, say, tick_adjacencies, tick_outside, with_access, with_element, with_inbox, with_inner, with_more, with_parent, with_session}
use Rattle.plant_laws.specs.plant_model.Outside.{heeded, heeded_in}
use Rattle.plant_laws.specs.plant_model.Events.{is_down}
use Rattle.plant_laws.proofs.Runs.Shape.{has_pass, shape}

-- ---- connections

-- A connection later: its framer is as before, a session that is over stays over, and the inbox is as before or emptied.
pub record Fades (k l : Connection) : Type 0 where
  pub framing : l.framing ≡ k.framing
  pub over : is_down k.session.phase ≡ true → is_down l.session.phase ≡ true
  pub inbox : (l.inbox ≡ k.inbox) ⊎ (l.inbox ≡ [])

abbrev pub AllFade : Option Connection → Option Connection → Type 0
AllFade None None = Unit {0}
AllFade None (Some l) = ⊥
AllFade (Some k) None = ⊥
AllFade (Some k) (Some l) = Fades k l

pub fades_here : (o : Option Connection) → AllFade o o
fades_here None = tt
fades_here (Some k) = record { framing = refl; over = λ h. h; inbox = inl refl }

fades_on : (o p q : Option Connection) → AllFade o p → AllFade p q → AllFade o q
fades_on None None None h g = tt
fades_on None None (Some l) h g = g
fades_on None (Some k) q h g = absurd h
fades_on (Some k) None q h g = absurd h
fades_on (Some k) (Some l) None h g = g
fades_on (Some k) (Some l) (Some m) h g = record {
  framing = g.framing ∙ h.framing;
  over = λ d. g.over (h.over d);
  inbox = elim g.inbox [ inr none ↦ inr none | inl same ↦ elim h.inbox [ inl before ↦ inl (same ∙ before) | inr none ↦ inr (same ∙ none) ] ];
}

-- a session that is over stays so
pub over_stays : (s : Session) (x : Input) → is_down s.phase ≡ true → is_down (turn_of s x).next.phase ≡ true
over_stays s x down = go s.phase refl down
  where
    go : (p : Phase) → s.phase ≡ p → is_down p ≡ true → is_down (turn_in p s x).next.phase ≡ true
    go phase.Down is d = ap is_down is
    go phase.Idle is d = absurd (cc)
    go phase.OpenWait is d = absurd (cc)
    go phase.KeepWait is d = absurd (cc)
    go phase.Up is d = absurd (cc)

some_is : (k l : Connection) → (let a : Option Connection = Some k in let b : Option Connection = Some l in a ≡ b) → k ≡ l
some_is k l e = cc

-- a session that took an input
stepped : (k l : Connection) → k ≡ l → (x : Input) → Fades l (with_session (turn_of k.session x).next l)
stepped k l same x = record {
  framing = refl;
  over = λ d. over_stays k.session x (subst (λ (m : Connection). is_down m.session.phase ≡ true) (sym same) d);
  inbox = inl refl;
}

-- ---- what is taken from outside

module _ (c : Codec) (R : ℕ → Bytes → Type 0) where
  -- a message that came from these bytes of the peer
  abbrev pub CameFrom : ℕ → Message → Type 0
  CameFrom i m = (part : Bytes) × R i part × (c.read part ≡ Some m)

  abbrev pub FromPeer : Peer → Message → Type 0
  FromPeer (Outside i) m = (raw : Message) × CameFrom i raw × ((sent : ℕ → Option ℕ) × (m ≡ heeded_in c sent raw))
  FromPeer (Inner a) m = Unit {0}

  abbrev pub deed_taken : {S : Type 0} → Deed S → Type 0
  deed_taken (Takes at p m os) = FromPeer p m
  deed_taken _ = Unit {0}

  abbrev pub AllTaken : {S : Type 0} → List (Deed S) → Type 0
  AllTaken [] = Unit {0}
  AllTaken (d ∷ ds) = deed_taken d × AllTaken ds

module _ (P : Type 0) (S : Type 0) (c : Codec) (n : NetworkParts) (show : S → List Hop) (R : ℕ → Bytes → Type 0) where
  abbrev pub at : ℕ → State P S → Option Connection
  at i s = (s.accesses i).connection

  -- a change at one connection
  abbrev pub AreFaded : (Connection → Connection) → Type 0
  AreFaded f = (k : Connection) → Fades k (f k)

  changed : (f : Connection → Connection) (a : Access) → ((k : Connection) → a.connection ≡ Some k → Fades k (f k)) → AllFade a.connection (on_connection f a).connection
  changed f a fades = go a.connection refl
    where
      go : (o : Option Connection) → a.connection ≡ o → AllFade o (on_connection f (record { opened = a.opened; connection = o })).connection
      go None is = tt
      go (Some k) is = fades k is

  pub access_fades : (j : ℕ) (f : Connection → Connection) (s : State P S) → ((k : Connection) → at j s ≡ Some k → Fades k (f k)) → (i : ℕ) → AllFade (at i s) (at i (with_access P S c n show j f s))
  access_fades j f s fades i = go (j == i) refl
    where
      go : (x : Bool) → (j == i) ≡ x → AllFade (at i s) (cond x (on_connection f (s.accesses j)) (s.accesses i)).connection
      go true e = subst (λ (k : ℕ). AllFade (at k s) (on_connection f (s.accesses j)).connection) (eqb-true j i e) (changed f (s.accesses j) fades)
      go false e = fades_here (at i s)

  put_fades : (own : As) (bytes : Bytes) (s : State P S) (to : Peer) (i : ℕ) → AllFade (at i s) (at i (put_to P S c n show own bytes s to))
  put_fades own bytes s (Inner b) i = fades_here (at i s)
  put_fades own bytes s (Outside j) i = access_fades j (with_more bytes) s (λ k is. record { framing = refl; over = λ h. h; inbox = inl refl }) i

  puts_fade : (own : As) (os : List Output) (s : State P S) (i : ℕ) → AllFade (at i s) (at i (puts P S c n show own os s))
  puts_fade own [] s i = fades_here (at i s)
  puts_fade own (o ∷ os) s i =
      fades_on (at i s) (at i (put P S c n show own o s)) (at i (puts P S c n show own os (put P S c n show own o s)))
      (put_fades own (c.text o.message) s o.to i) (puts_fade own os (put P S c n show own o s) i)

  module _ (start : State P S) where
    pub record Grown (g : Going P S) : Type 0 where
      pub fades : (i : ℕ) → AllFade (at i start) (at i g.state)
      pub taken : AllTaken c R g.deeds

    pick : (b : Bool) (g h : Going P S) → Grown g → Grown h → Grown (cond b g h)
    pick true g h r r' = r
    pick false g h r r' = r'

    pub rests : (g : Going P S) (t : State P S) → ((i : ℕ) → AllFade (at i g.state) (at i t)) → Grown g → Grown (record { state = t; deeds = g.deeds })
    rests g t fades r = record { fades = λ i. fades_on (at i start) (at i g.state) (at i t) (r.fades i) (fades i); taken = r.taken }

    pub sends : (own : As) (os : List Output) (g : Going P S) (t : State P S) (d : Deed S) → t.accesses ≡ g.state.accesses → deed_taken c R d → Grown g →
        Grown (record { state = puts P S c n show own os t; deeds = d ∷ g.deeds })
    sends own os g t d same taken r = record {
      fades = λ i.
          fades_on (at i start) (at i t) (at i (puts P S c n show own os t))
          (subst (λ (f : ℕ → Access). AllFade (at i start) (f i).connection) (sym same) (r.fades i)) (puts_fade own os t i);
      taken = (taken, r.taken);
    }

    give_on : (own : As) (p : Peer) (m : Message) (g : Going P S) → FromPeer c R p m → Grown g → Grown (give P S c n show own p m g)
    give_on own p m g from r =
        let x = parent.take c (family n) p m g.state.parent in
        let y = take c show (place n own) (g.state.current own) p (class_of n p) g.state.clock m (g.state.elements own) in
        pick (same_as own parent_as) _ _
        (sends own x.outputs g (with_parent P S c n show x.parent g.state) (Takes own p m x.outputs) refl from r)
        (sends own y.outputs g (with_element P S c n show own y.element g.state) (Takes own p m y.outputs) refl from r)

    rise_on : (own : As) (p : Peer) (g : Going P S) → Grown g → Grown (rise P S c n show own p g)
    rise_on own p g r =
        pick (same_as own parent_as) _ _
        (sends own [] g (with_parent P S c n show (parent.upped p g.state.parent) g.state) (Ups own p) refl tt r)
        (sends own [] g (with_element P S c n show own (upped p (g.state.elements own)) g.state) (Ups own p) refl tt r)

    pub fall_on : (own : As) (p : Peer) (g : Going P S) → Grown g → Grown (fall P S c n show own p g)
    fall_on own p g r =
        let x = parent.downed p g.state.parent in
        let y = downed p (g.state.elements own) in
        pick (same_as own parent_as) _ _
        (sends own x.outputs g (with_parent P S c n show x.parent g.state) (Downs own p x.outputs) refl tt r)
        (sends own y.outputs g (with_element P S c n show own y.element g.state) (Downs own p y.outputs) refl tt r)

    say_on : (own : As) (p : Peer) (o : Own) (g : Going P S) → Grown g → Grown (say P S c n show own p o g)
    say_on own p o g r =
        let out : Output = record { to = p; message = own_message o } in
        sends own (out ∷ []) g g.state (Says own out) refl tt r

    -- ---- an outside peer's session

    emptied : (i : ℕ) (g : Going P S) → Grown g → Grown (record { state = with_access P S c n show i (with_inbox []) g.state; deeds = g.deeds })
    emptied i g r =
        rests g (with_access P S c n show i (with_inbox []) g.state)
        (access_fades i (with_inbox []) g.state (λ k is. record { framing = refl; over = λ h. h; inbox = inr refl })) r

    -- one that passes nothing on
    quiet_outside : (i : ℕ) (ticks : Bool) (as' : List Action) (g : Going P S) → has_pass as' ≡ false → Grown g → Grown (outside_acts P S c n show i ticks as' g)
    quiet_outside i ticks [] g none r = r
    quiet_outside i ticks (action.Send o ∷ as') g none r =
        quiet_outside i ticks as' (outside_act P S c n show i ticks (action.Send o) g) none
        (pick (cond ticks (cond (is_due o) (cond (is_out_empty (g.state.accesses i).connection) false true) false) false) g (say P S c n show (element_of n i) (Outside i) o g) r (say_on (element_of n i) (Outside i) o g r))
    quiet_outside i ticks (action.Up ∷ as') g none r = quiet_outside i ticks as' (rise P S c n show (element_of n i) (Outside i) g) none (rise_on (element_of n i) (Outside i) g r)
    quiet_outside i ticks (action.Down why ∷ as') g none r =
        let h : Going P S = record { state = with_access P S c n show i (with_inbox []) g.state; deeds = g.deeds } in
        quiet_outside i ticks as' (fall P S c n show (element_of n i) (Outside i) h) none (fall_on (element_of n i) (Outside i) h (emptied i g r))
    quiet_outside i ticks (action.Pass m ∷ as') g none r = let no : true ≡ false = none in cc

    abbrev pub IsFrom : ℕ → Input → Type 0
    IsFrom i x = (m : Message) → x ≡ input.Got m → CameFrom c R i m

    outside_step_on : (i : ℕ) (x : Input) (g : Going P S) (o : Option Connection) → at i g.state ≡ o → IsFrom i x → Grown g → Grown (outside_step P S c n show i x g o)
    outside_step_on i x g None is from r = r
    outside_step_on i x g (Some k) is from r =
        let t = turn_of k.session x in
        let h : Going P S = record { state = with_access P S c n show i (with_session t.next) g.state; deeds = g.deeds } in
        let r' : Grown h = rests g h.state (access_fades i (with_session t.next) g.state (λ l is'. stepped k l (some_is k l (sym is ∙ is')) x)) r in
        elim (shape k.session x) [
          | inl none ↦ quiet_outside i (is_tick x) t.actions h none r'
          | inr pass ↦
              subst (λ (as' : List Action). Grown (outside_acts P S c n show i (is_tick x) as' h)) (sym pass.2)
              (give_on (element_of n i) (Outside i) (heeded c (Outside i) (h.state.elements (element_of n i)).pending.rows pass.0) h
              (pass.0, from pass.0 pass.1, ((λ (id : ℕ). sent_through (Outside i) id (h.state.elements (element_of n i)).pending.rows), refl)) r')
        ]

    pub outside_input_on : (i : ℕ) (x : Input) (g : Going P S) → IsFrom i x → Grown g → Grown (outside_input P S c n show i x g)
    outside_input_on i x g from r = outside_step_on i x g (at i g.state) refl from r

    -- ---- sessions between elements

    inner_act_on : (own b : As) (ticks : Bool) (a : Action) (g : Going P S) → Grown g → Grown (inner_act P S c n show own b ticks a g)
    inner_act_on own b ticks (action.Send o) g r =
        pick (cond ticks (cond (is_due o) (cond (is_empty (g.state.queues own b)) false true) false) false) g _ r (say_on own (Inner b) o g r)
    inner_act_on own b ticks action.Up g r = rise_on own (Inner b) g r
    inner_act_on own b ticks (action.Down why) g r = r
    inner_act_on own b ticks (action.Pass m) g r = give_on own (Inner b) m g tt r

    inner_acts_on : (own b : As) (ticks : Bool) (as' : List Action) (g : Going P S) → Grown g → Grown (inner_acts P S c n show own b ticks as' g)
    inner_acts_on own b ticks [] g r = r
    inner_acts_on own b ticks (a ∷ as') g r = inner_acts_on own b ticks as' (inner_act P S c n show own b ticks a g) (inner_act_on own b ticks a g r)

    begin_end_on : (sid : ℕ) (own b : As) (g : Going P S) → Grown g → Grown (begin_end P S c n show sid own b g)
    begin_end_on sid own b g r =
        let t = turn_of (new_state (our_offer sid) (record { 0 = g.state.clock })) input.Begin in
        let h : Going P S = record { state = with_inner P S c n show own b t.next g.state; deeds = g.deeds } in
        inner_acts_on own b false t.actions h (rests g h.state (λ i. fades_here (at i g.state)) r)

    pub begin_adjacency_on : (sid : ℕ) (x : Adjacency) (g : Going P S) → Grown g → Grown (begin_adjacency P S c n show sid x g)
    begin_adjacency_on sid x g r = begin_end_on sid x.upper x.lower (begin_end P S c n show sid x.lower x.upper g) (begin_end_on sid x.lower x.upper g r)

    clear_on : (x : Adjacency) (g : Going P S) → Grown g → Grown (clear P S c n show x g)
    clear_on x g r = sends x.lower [] g (clear P S c n show x g).state (Clears x.lower x.upper) refl tt r

    pub break_adjacency_on : (x : Adjacency) (g : Going P S) → Grown g → Grown (break_adjacency P S c n show x g)
    break_adjacency_on x g r =
        let f = fall P S c n show x.lower (Inner x.upper) g in
        let h = fall P S c n show x.upper (Inner x.lower) f in
        begin_adjacency_on (((g.state.sessions x.lower x.upper).offer.sid + 1) % 256) x (clear P S c n show x h)
        (clear_on x h (fall_on x.upper (Inner x.lower) f (fall_on x.lower (Inner x.upper) g r)))

    pub inner_input_on : (x : Adjacency) (own b : As) (y : Input) (g : Going P S) → Grown g → Grown (inner_input P S c n show x own b y g)
    inner_input_on x own b y g r =
        let t = turn_of (g.state.sessions own b) y in
        let h : Going P S = record { state = with_inner P S c n show own b t.next g.state; deeds = g.deeds } in
        pick (any_fall t.actions) _ _ (break_adjacency_on x g r) (inner_acts_on own b (is_tick y) t.actions h (rests g h.state (λ i. fades_here (at i g.state)) r))

    -- ---- a tick

    tick_is_other : (now : Tick) (m : Message) → input.Tick now ≡ input.Got m → ⊥
    tick_is_other now m e = cc

    pub tick_outside_on : (i : ℕ) (rs : List PeerRow) (now : Tick) (g : Going P S) → Grown g → Grown (tick_outside P S c n show i rs now g)
    tick_outside_on i [] now g r = r
    tick_outside_on i (row ∷ rs) now g r = tick_outside_on (i + 1) rs now (outside_input P S c n show i (input.Tick now) g) (outside_input_on i (input.Tick now) g (λ m e. absurd (tick_is_other now m e)) r)

    pub tick_adjacencies_on : (xs : List Adjacency) (now : Tick) (g : Going P S) → Grown g → Grown (tick_adjacencies P S c n show xs now g)
    tick_adjacencies_on [] now g r = r
    tick_adjacencies_on (x ∷ xs) now g r =
        let h = inner_input P S c n show x x.lower x.upper (input.Tick now) g in
        tick_adjacencies_on xs now (inner_input P S c n show x x.upper x.lower (input.Tick now) h)
        (inner_input_on x x.upper x.lower (input.Tick now) h (inner_input_on x x.lower x.upper (input.Tick now) g r))

    pub expire_on : (now : ℕ) (g : Going P S) → Grown g → Grown (expire P S c n show now g)
    expire_on now g r = sends parent_as [] g (expire P S c n show now g).state (Expires now) refl tt r

  -- before anything is done
  pub at_start : (s : State P S) → Grown s (record { state = s; deeds = [] })
  at_start s = record { fades = λ i. fades_here (at i s); taken = tt }
