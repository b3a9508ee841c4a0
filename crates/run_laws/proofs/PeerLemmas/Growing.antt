-- What is done adds to the queues of outside peers what its deeds say, and nothing else.
use Rattle.std.proofs.Common.{◌≡◌, ℕ, ◌+◌, ◌%◌, Bool, true, false, cond, ◌==◌, List, [], ◌∷◌, ◌++◌, map, Option, Some, None, sym, ◌∙◌, ap, refl}
use Rattle.std.proofs.lemmas.Bool.{eqb-true}
use Rattle.plant_laws.specs.plant_model.Types.{As, Tick, Peer, Outside, Inner, Hop, Message, Input, Action, Own, NetworkParts, PeerRow}
use Rattle.pcep_session.specs.declared.session.Input.TheVariants as input
use Rattle.pcep_session.specs.declared.actions.Action.TheVariants as action
use Rattle.pcep_session.specs.Table.{new_state, turn_of}
use Rattle.plant_text.specs.Names.{same_as, parent_as}
use Rattle.plant_text.specs.Settings.{Adjacency, class_of}
use Rattle.request_table.specs.Pending.{same_peer}
use Rattle.plant_laws.specs.plant_model.declared.output.Output.{Output}
use Rattle.plant_laws.specs.plant_model.Names.{is_empty}
use Rattle.plant_laws.specs.plant_model.Settings.{family, place}
use Rattle.plant_laws.specs.plant_model.Wire.{Bytes, Codec}
use Rattle.plant_laws.specs.plant_model.Element.{downed, upped}
use Rattle.plant_laws.specs.plant_model.Taking.{take}
use Rattle.plant_laws.specs.plant_model.Parent as parent
use Rattle.plant_laws.specs.plant_model.State.{Access, Connection, Deed, Downs, Clears, Expires, Says, State, Takes, Ups}
use Rattle.plant_laws.specs.plant_model.Deeds.{Going, any_fall, begin_end, begin_adjacency, break_adjacency, clear, element_of, expire, fall, give, inner_act, inner_acts, inner_input, is_due, is_out_empty, is_tick, on_connection, our_offer, outside_act, outside_acts, outside_input, outside_step, own_message, put, put_to, puts, rise, say, tick_adjacencies, tick_outside, with_access, with_element, with_inbox, with_inner, with_more, with_parent, with_session}
use Rattle.plant_laws.specs.plant_model.Outside.{heeded}
use Rattle.run_laws.specs.Outlets.{messages_for, outputs_of, put_for}

pub nil_right : {A : Type 0} (xs : List A) → xs ++ [] ≡ xs
nil_right [] = refl
nil_right (x ∷ xs) = ap (λ ys. x ∷ ys) (nil_right xs)

pub append_assoc : {A : Type 0} (xs ys zs : List A) → (xs ++ ys) ++ zs ≡ xs ++ (ys ++ zs)
append_assoc [] ys zs = refl
append_assoc (x ∷ xs) ys zs = ap (λ l. x ∷ l) (append_assoc xs ys zs)

-- who holds a connection, and what waits for it
abbrev pub View : Type 0
View = Option (ℕ × List Bytes)

abbrev pub view_of : Option Connection → View
view_of None = None
view_of (Some k) = Some (k.holder, k.out)

abbrev pub more : List Bytes → View → View
more bs None = None
more bs (Some x) = Some (x.0, x.1 ++ bs)

pub more_nil : (v : View) → more [] v ≡ v
more_nil None = refl
more_nil (Some x) = ap (λ (q : List Bytes). let r : View = Some (x.0, q) in r) (nil_right x.1)

pub more_more : (bs cs : List Bytes) (v : View) → more cs (more bs v) ≡ more (bs ++ cs) v
more_more bs cs None = refl
more_more bs cs (Some x) = ap (λ (q : List Bytes). let r : View = Some (x.0, q) in r) (append_assoc x.1 bs cs)

abbrev pub texts : Codec → List Message → List Bytes
texts c ms = map (λ m. c.text m) ms

pub texts_append : (c : Codec) (xs ys : List Message) → texts c (xs ++ ys) ≡ texts c xs ++ texts c ys
texts_append c [] ys = refl
texts_append c (x ∷ xs) ys = ap (λ l. c.text x ∷ l) (texts_append c xs ys)

-- a change of a connection that leaves the holder and what waits
abbrev pub Keeps : (Connection → Connection) → Type 0
Keeps f = (k : Connection) → view_of (Some (f k)) ≡ view_of (Some k)

kept_at : (f : Connection → Connection) (a : Access) → Keeps f → view_of (on_connection f a).connection ≡ view_of a.connection
kept_at f a keeps = go a.connection
  where
    go : (o : Option Connection) → view_of (on_connection f (record { opened = a.opened; connection = o })).connection ≡ view_of o
    go None = refl
    go (Some k) = keeps k

more_at : (bytes : Bytes) (a : Access) → view_of (on_connection (with_more bytes) a).connection ≡ more (bytes ∷ []) (view_of a.connection)
more_at bytes a = go a.connection
  where
    go : (o : Option Connection) → view_of (on_connection (with_more bytes) (record { opened = a.opened; connection = o })).connection ≡ more (bytes ∷ []) (view_of o)
    go None = refl
    go (Some k) = refl

module _ (P : Type 0) (S : Type 0) (c : Codec) (n : NetworkParts) (show : S → List Hop) where
  abbrev pub view : ℕ → State P S → View
  view i s = view_of (s.accesses i).connection

  -- a change at one connection
  pub access_keeps : (j : ℕ) (f : Connection → Connection) (s : State P S) → Keeps f → (i : ℕ) → view i (with_access P S c n show j f s) ≡ view i s
  access_keeps j f s keeps i = go (j == i) refl
    where
      go : (x : Bool) → (j == i) ≡ x → view_of (cond x (on_connection f (s.accesses j)) (s.accesses i)).connection ≡ view i s
      go true e = kept_at f (s.accesses j) keeps ∙ ap (λ (k : ℕ). view k s) (eqb-true j i e)
      go false e = refl

  -- ---- messages are put

  put_view : (at : As) (m : Message) (s : State P S) (to : Peer) (i : ℕ) → view i (put_to P S c n show at (c.text m) s to) ≡ more (texts c (cond (same_peer to (Outside i)) (m ∷ []) [])) (view i s)
  put_view at m s (Inner b) i = sym (more_nil (view i s))
  put_view at m s (Outside j) i = go (j == i) refl
    where
      go : (x : Bool) → (j == i) ≡ x → view_of (cond x (on_connection (with_more (c.text m)) (s.accesses j)) (s.accesses i)).connection ≡ more (texts c (cond x (m ∷ []) [])) (view i s)
      go true e = more_at (c.text m) (s.accesses j) ∙ ap (λ (k : ℕ). more (c.text m ∷ []) (view k s)) (eqb-true j i e)
      go false e = sym (more_nil (view i s))

  one_more : (x : Bool) (m : Message) (ms : List Message) → texts c (cond x (m ∷ []) []) ++ texts c ms ≡ texts c (cond x (m ∷ ms) ms)
  one_more true m ms = refl
  one_more false m ms = refl

  pub puts_view : (at : As) (os : List Output) (s : State P S) (i : ℕ) → view i (puts P S c n show at os s) ≡ more (texts c (put_for i os)) (view i s)
  puts_view at [] s i = sym (more_nil (view i s))
  puts_view at (o ∷ os) s i =
      puts_view at os (put P S c n show at o s) i
      ∙ ap (λ (v : View). more (texts c (put_for i os)) v) (put_view at o.message s o.to i)
      ∙ more_more (texts c (cond (same_peer o.to (Outside i)) (o.message ∷ []) [])) (texts c (put_for i os)) (view i s)
      ∙ ap (λ (bs : List Bytes). more bs (view i s)) (one_more (same_peer o.to (Outside i)) o.message (put_for i os))

  -- ---- all that is done

  module _ (start : State P S) where
    -- each connection has more of what the deeds say for its peer
    abbrev pub Grown : Going P S → Type 0
    Grown g = (i : ℕ) → view i g.state ≡ more (texts c (messages_for i g.deeds)) (view i start)

    pick : (b : Bool) (g h : Going P S) → Grown g → Grown h → Grown (cond b g h)
    pick true g h r r' = r
    pick false g h r r' = r'

    -- connections are as they were
    pub rests : (g : Going P S) (t : State P S) → ((i : ℕ) → view i t ≡ view i g.state) → Grown g → Grown (record { state = t; deeds = g.deeds })
    rests g t same r i = same i ∙ r i

    -- a deed that says this
    pub sends : (at : As) (os : List Output) (g : Going P S) (t : State P S) (d : Deed S) → t.accesses ≡ g.state.accesses → outputs_of d ≡ os → Grown g →
        Grown (record { state = puts P S c n show at os t; deeds = d ∷ g.deeds })
    sends at os g t d same is r i =
        puts_view at os t i
        ∙ ap (λ (v : View). more (texts c (put_for i os)) v) (ap (λ (f : ℕ → Access). view_of (f i).connection) same ∙ r i)
        ∙ more_more (texts c (messages_for i g.deeds)) (texts c (put_for i os)) (view i start)
        ∙ ap (λ (bs : List Bytes). more bs (view i start)) (sym (texts_append c (messages_for i g.deeds) (put_for i os)))
        ∙ ap (λ (l : List Output). more (texts c (messages_for i g.deeds ++ put_for i l)) (view i start)) (sym is)

    give_on : (at : As) (p : Peer) (m : Message) (g : Going P S) → Grown g → Grown (give P S c n show at p m g)
    give_on at p m g r =
        let x = parent.take c (family n) p m g.state.parent in
        let y = take c show (place n at) (g.state.current at) p (class_of n p) g.state.clock m (g.state.elements at) in
        pick (same_as at parent_as) _ _
        (sends at x.outputs g (with_parent P S c n show x.parent g.state) (Takes at p m x.outputs) refl refl r)
        (sends at y.outputs g (with_element P S c n show at y.element g.state) (Takes at p m y.outputs) refl refl r)

    rise_on : (at : As) (p : Peer) (g : Going P S) → Grown g → Grown (rise P S c n show at p g)
    rise_on at p g r =
        pick (same_as at parent_as) _ _
        (sends at [] g (with_parent P S c n show (parent.upped p g.state.parent) g.state) (Ups at p) refl refl r)
        (sends at [] g (with_element P S c n show at (upped p (g.state.elements at)) g.state) (Ups at p) refl refl r)

    pub fall_on : (at : As) (p : Peer) (g : Going P S) → Grown g → Grown (fall P S c n show at p g)
    fall_on at p g r =
        let x = parent.downed p g.state.parent in
        let y = downed p (g.state.elements at) in
        pick (same_as at parent_as) _ _
        (sends at x.outputs g (with_parent P S c n show x.parent g.state) (Downs at p x.outputs) refl refl r)
        (sends at y.outputs g (with_element P S c n show at y.element g.state) (Downs at p y.outputs) refl refl r)

    say_on : (at : As) (p : Peer) (o : Own) (g : Going P S) → Grown g → Grown (say P S c n show at p o g)
    say_on at p o g r =
        let out : Output = record { to = p; message = own_message o } in
        sends at (out ∷ []) g g.state (Says at out) refl refl r

    -- ---- an outside peer's session

    outside_act_on : (i : ℕ) (ticks : Bool) (a : Action) (g : Going P S) → Grown g → Grown (outside_act P S c n show i ticks a g)
    outside_act_on i ticks (action.Send o) g r =
        pick (cond ticks (cond (is_due o) (cond (is_out_empty (g.state.accesses i).connection) false true) false) false) g _ r (say_on (element_of n i) (Outside i) o g r)
    outside_act_on i ticks action.Up g r = rise_on (element_of n i) (Outside i) g r
    outside_act_on i ticks (action.Down why) g r =
        let h : Going P S = record { state = with_access P S c n show i (with_inbox []) g.state; deeds = g.deeds } in
        fall_on (element_of n i) (Outside i) h (rests g h.state (access_keeps i (with_inbox []) g.state (λ k. refl)) r)
    outside_act_on i ticks (action.Pass m) g r = give_on (element_of n i) (Outside i) (heeded c (Outside i) (g.state.elements (element_of n i)).pending.rows m) g r

    outside_acts_on : (i : ℕ) (ticks : Bool) (as' : List Action) (g : Going P S) → Grown g → Grown (outside_acts P S c n show i ticks as' g)
    outside_acts_on i ticks [] g r = r
    outside_acts_on i ticks (a ∷ as') g r = outside_acts_on i ticks as' (outside_act P S c n show i ticks a g) (outside_act_on i ticks a g r)

    outside_step_on : (i : ℕ) (x : Input) (g : Going P S) (o : Option Connection) → Grown g → Grown (outside_step P S c n show i x g o)
    outside_step_on i x g None r = r
    outside_step_on i x g (Some k) r =
        let t = turn_of k.session x in
        let h : Going P S = record { state = with_access P S c n show i (with_session t.next) g.state; deeds = g.deeds } in
        outside_acts_on i (is_tick x) t.actions h (rests g h.state (access_keeps i (with_session t.next) g.state (λ k'. refl)) r)

    pub outside_input_on : (i : ℕ) (x : Input) (g : Going P S) → Grown g → Grown (outside_input P S c n show i x g)
    outside_input_on i x g r = outside_step_on i x g (g.state.accesses i).connection r

    -- ---- sessions between elements

    inner_act_on : (at b : As) (ticks : Bool) (a : Action) (g : Going P S) → Grown g → Grown (inner_act P S c n show at b ticks a g)
    inner_act_on at b ticks (action.Send o) g r =
        pick (cond ticks (cond (is_due o) (cond (is_empty (g.state.queues at b)) false true) false) false) g _ r (say_on at (Inner b) o g r)
    inner_act_on at b ticks action.Up g r = rise_on at (Inner b) g r
    inner_act_on at b ticks (action.Down why) g r = r
    inner_act_on at b ticks (action.Pass m) g r = give_on at (Inner b) m g r

    inner_acts_on : (at b : As) (ticks : Bool) (as' : List Action) (g : Going P S) → Grown g → Grown (inner_acts P S c n show at b ticks as' g)
    inner_acts_on at b ticks [] g r = r
    inner_acts_on at b ticks (a ∷ as') g r = inner_acts_on at b ticks as' (inner_act P S c n show at b ticks a g) (inner_act_on at b ticks a g r)

    begin_end_on : (sid : ℕ) (at b : As) (g : Going P S) → Grown g → Grown (begin_end P S c n show sid at b g)
    begin_end_on sid at b g r =
        let t = turn_of (new_state (our_offer sid) (record { 0 = g.state.clock })) input.Begin in
        let h : Going P S = record { state = with_inner P S c n show at b t.next g.state; deeds = g.deeds } in
        inner_acts_on at b false t.actions h (rests g h.state (λ i. refl) r)

    pub begin_adjacency_on : (sid : ℕ) (x : Adjacency) (g : Going P S) → Grown g → Grown (begin_adjacency P S c n show sid x g)
    begin_adjacency_on sid x g r = begin_end_on sid x.upper x.lower (begin_end P S c n show sid x.lower x.upper g) (begin_end_on sid x.lower x.upper g r)

    clear_on : (x : Adjacency) (g : Going P S) → Grown g → Grown (clear P S c n show x g)
    clear_on x g r = sends x.lower [] g (clear P S c n show x g).state (Clears x.lower x.upper) refl refl r

    pub break_adjacency_on : (x : Adjacency) (g : Going P S) → Grown g → Grown (break_adjacency P S c n show x g)
    break_adjacency_on x g r =
        let f = fall P S c n show x.lower (Inner x.upper) g in
        let h = fall P S c n show x.upper (Inner x.lower) f in
        begin_adjacency_on (((g.state.sessions x.lower x.upper).offer.sid + 1) % 256) x (clear P S c n show x h)
        (clear_on x h (fall_on x.upper (Inner x.lower) f (fall_on x.lower (Inner x.upper) g r)))

    pub inner_input_on : (x : Adjacency) (at b : As) (y : Input) (g : Going P S) → Grown g → Grown (inner_input P S c n show x at b y g)
    inner_input_on x at b y g r =
        let t = turn_of (g.state.sessions at b) y in
        let h : Going P S = record { state = with_inner P S c n show at b t.next g.state; deeds = g.deeds } in
        pick (any_fall t.actions) _ _ (break_adjacency_on x g r) (inner_acts_on at b (is_tick y) t.actions h (rests g h.state (λ i. refl) r))

    -- ---- a tick

    pub tick_outside_on : (i : ℕ) (rs : List PeerRow) (now : Tick) (g : Going P S) → Grown g → Grown (tick_outside P S c n show i rs now g)
    tick_outside_on i [] now g r = r
    tick_outside_on i (row ∷ rs) now g r = tick_outside_on (i + 1) rs now (outside_input P S c n show i (input.Tick now) g) (outside_input_on i (input.Tick now) g r)

    pub tick_adjacencies_on : (xs : List Adjacency) (now : Tick) (g : Going P S) → Grown g → Grown (tick_adjacencies P S c n show xs now g)
    tick_adjacencies_on [] now g r = r
    tick_adjacencies_on (x ∷ xs) now g r =
        let h = inner_input P S c n show x x.lower x.upper (input.Tick now) g in
        tick_adjacencies_on xs now (inner_input P S c n show x x.upper x.lower (input.Tick now) h)
        (inner_input_on x x.upper x.lower (input.Tick now) h (inner_input_on x x.lower x.upper (input.Tick now) g r))

    pub expire_on : (now : ℕ) (g : Going P S) → Grown g → Grown (expire P S c n show now g)
    expire_on now g r = sends parent_as [] g (expire P S c n show now g).state (Expires now) refl refl r

  -- before anything is done
  pub at_start : (s : State P S) → Grown s (record { state = s; deeds = [] })
  at_start s i = sym (more_nil (view i s))
