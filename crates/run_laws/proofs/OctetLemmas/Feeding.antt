-- What outside peers fed and was not taken yet: no event makes it more but a feed, and each message that is taken from outside makes it less.
use Rattle.std.proofs.Common.{◌≡◌, ◌≤◌, ◌+◌, ◌%◌, ℕ, suc, Bool, true, false, cond, ◌==◌, List, [], ◌∷◌, ◌++◌, Option, Some, None, length, inl, inr, refl, sym, subst, arith}
use Rattle.std.proofs.lemmas.Bool.{eqb-true}
use Rattle.plant_laws.specs.plant_model.Types.{As, Tick, Peer, Outside, Inner, Message, Input, Action, Own, NetworkParts, PeerRow}
use Rattle.disclosure.specs.Shown.{open_of}
use Rattle.pcep_session.specs.declared.session.Input.TheVariants as input
use Rattle.pcep_session.specs.declared.actions.Action.TheVariants as action
use Rattle.pcep_session.specs.Table.{turn_of, new_state}
use Rattle.plant_text.specs.Names.{same_as, parent_as}
use Rattle.plant_text.specs.Settings.{Adjacency, class_of}
use Rattle.plant_laws.specs.plant_model.declared.output.Output.{Output}
use Rattle.plant_laws.specs.plant_model.Names.{is_empty, set_number}
use Rattle.plant_laws.specs.plant_model.Wire.{Bytes, Codec}
use Rattle.plant_laws.specs.plant_model.Element.{upped, downed}
use Rattle.plant_laws.specs.plant_model.Taking.{take}
use Rattle.plant_laws.specs.plant_model.Parent as parent
use Rattle.plant_laws.specs.plant_model.Settings.{place, family}
use Rattle.plant_laws.specs.plant_model.State.{Connection, Access, Takes, Ups, Downs}
use Rattle.plant_laws.specs.plant_model.Deeds.{Going, element_of, is_due, is_tick, is_out_empty, any_fall, our_offer, on_connection, with_more, with_session, with_inbox, with_parent, with_element, put, put_to, puts, give, rise, fall, say, clear, outside_act, outside_acts, outside_step, outside_input, inner_act, inner_acts, inner_input, begin_end, begin_adjacency, break_adjacency, tick_outside, tick_adjacencies, with_access, with_inner}
use Rattle.plant_laws.specs.plant_model.Outside.{heeded}
use Rattle.plant_laws.specs.plant_model.Events as events
use Rattle.plant_laws.specs.plant_model.Plant.{Pin, Segment, PlantDeed}
use Rattle.plant_laws.proofs.Runs.Shape.{has_pass, shape}
use Rattle.run_laws.specs.Counting.{heard}
use Rattle.run_laws.proofs.OctetLemmas.Putting.{Core}

abbrev Move : Type 0
Move = Going Pin Segment

-- the messages of an inbox
abbrev pub some_count : List (Option Bytes) → ℕ
some_count [] = 0
some_count (None ∷ xs) = some_count xs
some_count (Some bytes ∷ xs) = suc (some_count xs)

-- what a peer fed and was not taken yet
abbrev pub unread : Option Connection → ℕ
unread None = 0
unread (Some x) = some_count x.inbox + length x.framing.held

abbrev pub unread_at : Core → ℕ → ℕ
unread_at s i = unread (s.accesses i).connection

pub heard_append : (es ds : List PlantDeed) → heard (es ++ ds) ≡ heard es + heard ds
heard_append [] ds = omega arith
heard_append (e ∷ es) ds = let more = heard_append es ds in omega (arith, more)

-- ---- one peer

-- one access is at most so much more
on_more : (f : Connection → Connection) (w : ℕ) → ((x : Connection) → unread (Some (f x)) ≤ unread (Some x) + w) → (a : Access) → unread (on_connection f a).connection ≤ unread a.connection + w
on_more f w more a = go a.connection
  where
    go : (o : Option Connection) → unread (on_connection f (record { opened = a.opened; connection = o })).connection ≤ unread o + w
    go None = omega arith
    go (Some x) = more x

module _ (c : Codec) (n : NetworkParts) where
  -- ---- what makes nothing more

  module _ (f : ℕ → ℕ) where
    abbrev pub Under : Core → Type 0
    Under s = (i : ℕ) → unread_at s i ≤ f i

    abbrev pub Fine : ℕ → Move → Type 0
    Fine h g = Under g.state × (heard g.deeds ≤ h)

    -- a deed that takes nothing from outside
    nothing : (h d : ℕ) → d ≤ h → 0 + d ≤ h
    nothing h d le = omega (arith, le)

    same_fine : (h : ℕ) (g : Move) → Fine (0 + h) g → Fine h g
    same_fine h g fine = (fine.0, plain (heard g.deeds) fine.1)
      where
        plain : (d : ℕ) → d ≤ 0 + h → d ≤ h
        plain d le = omega (arith, le)

    pub set_kept : (i : ℕ) (a : Access) (s : Core) → unread a.connection ≤ f i → Under s → (j : ℕ) → unread (set_number i a s.accesses j).connection ≤ f j
    set_kept i a s small under j = go (i == j) refl
      where
        go : (b : Bool) → (i == j) ≡ b → unread (cond b a (s.accesses j)).connection ≤ f j
        go true is = subst (λ (z : ℕ). unread a.connection ≤ f z) (same is) small
          where
            same : (i == j) ≡ true → i ≡ j
            same e = eqb-true i j e
        go false is = under j

    pub access_kept : (i : ℕ) (g : Connection → Connection) (s : Core) → ((x : Connection) → unread (Some (g x)) ≤ unread (Some x) + 0) → Under s → Under (with_access Pin Segment c n open_of i g s)
    access_kept i g s less under = set_kept i (on_connection g (s.accesses i)) s (plain (on_more g 0 less (s.accesses i)) (under i)) under
      where
        plain : unread (on_connection g (s.accesses i)).connection ≤ unread_at s i + 0 → unread_at s i ≤ f i → unread (on_connection g (s.accesses i)).connection ≤ f i
        plain one two = omega (arith, one, two)

    put_kept : (at : As) (bytes : Bytes) (s : Core) (to : Peer) → Under s → Under (put_to Pin Segment c n open_of at bytes s to)
    put_kept at bytes s (Outside i) under = access_kept i (with_more bytes) s (λ x. omega arith) under
    put_kept at bytes s (Inner b) under = under

    pub puts_kept : (at : As) (os : List Output) (s : Core) → Under s → Under (puts Pin Segment c n open_of at os s)
    puts_kept at [] s under = under
    puts_kept at (o ∷ os) s under = puts_kept at os (put Pin Segment c n open_of at o s) (put_kept at (c.text o.message) s o.to under)

    pick : (h : ℕ) (b : Bool) (g g' : Move) → Fine h g → Fine h g' → Fine h (cond b g g')
    pick h true g g' x y = x
    pick h false g g' x y = y

    -- a message from outside counts one
    abbrev one_from : Peer → ℕ
    one_from (Outside i) = 1
    one_from (Inner a) = 0

    heard_is : (at : As) (p : Peer) (m : Message) (os : List Output) (ds : List PlantDeed) → heard (Takes at p m os ∷ ds) ≡ one_from p + heard ds
    heard_is at (Outside i) m os ds = refl
    heard_is at (Inner a) m os ds = refl

    give_fine : (h : ℕ) (at : As) (p : Peer) (m : Message) (g : Move) → Fine h g → Fine (one_from p + h) (give Pin Segment c n open_of at p m g)
    give_fine h at p m g fine =
        let r = parent.take c (family n) p m g.state.parent in
        let t = take c open_of (place n at) (g.state.current at) p (class_of n p) g.state.clock m (g.state.elements at) in
        pick (one_from p + h) (same_as at parent_as)
        (record { state = puts Pin Segment c n open_of at r.outputs (with_parent Pin Segment c n open_of r.parent g.state); deeds = Takes at p m r.outputs ∷ g.deeds })
        (record { state = puts Pin Segment c n open_of at t.outputs (with_element Pin Segment c n open_of at t.element g.state); deeds = Takes at p m t.outputs ∷ g.deeds })
        (puts_kept at r.outputs (with_parent Pin Segment c n open_of r.parent g.state) fine.0, plain (one_from p) (heard g.deeds) (heard (Takes at p m r.outputs ∷ g.deeds)) (heard_is at p m r.outputs g.deeds) fine.1)
        (puts_kept at t.outputs (with_element Pin Segment c n open_of at t.element g.state) fine.0, plain (one_from p) (heard g.deeds) (heard (Takes at p m t.outputs ∷ g.deeds)) (heard_is at p m t.outputs g.deeds) fine.1)
      where
        plain : (o d d' : ℕ) → d' ≡ o + d → d ≤ h → d' ≤ o + h
        plain o d d' one two = omega (arith, one, two)

    rise_fine : (h : ℕ) (at : As) (p : Peer) (g : Move) → Fine h g → Fine h (rise Pin Segment c n open_of at p g)
    rise_fine h at p g fine =
        pick h (same_as at parent_as)
        (record { state = with_parent Pin Segment c n open_of (parent.upped p g.state.parent) g.state; deeds = Ups at p ∷ g.deeds })
        (record { state = with_element Pin Segment c n open_of at (upped p (g.state.elements at)) g.state; deeds = Ups at p ∷ g.deeds })
        (fine.0, nothing h (heard g.deeds) fine.1) (fine.0, nothing h (heard g.deeds) fine.1)

    pub fall_fine : (h : ℕ) (at : As) (p : Peer) (g : Move) → Fine h g → Fine h (fall Pin Segment c n open_of at p g)
    fall_fine h at p g fine =
        let r = parent.downed p g.state.parent in
        let t = downed p (g.state.elements at) in
        pick h (same_as at parent_as)
        (record { state = puts Pin Segment c n open_of at r.outputs (with_parent Pin Segment c n open_of r.parent g.state); deeds = Downs at p r.outputs ∷ g.deeds })
        (record { state = puts Pin Segment c n open_of at t.outputs (with_element Pin Segment c n open_of at t.element g.state); deeds = Downs at p t.outputs ∷ g.deeds })
        (puts_kept at r.outputs (with_parent Pin Segment c n open_of r.parent g.state) fine.0, nothing h (heard g.deeds) fine.1)
        (puts_kept at t.outputs (with_element Pin Segment c n open_of at t.element g.state) fine.0, nothing h (heard g.deeds) fine.1)

    say_fine : (h : ℕ) (at : As) (p : Peer) (o : Own) (g : Move) → Fine h g → Fine h (say Pin Segment c n open_of at p o g)
    say_fine h at p o g fine = (puts_kept at (_ ∷ []) g.state fine.0, nothing h (heard g.deeds) fine.1)

    -- ---- an outside session

    no_inbox : (x : Connection) → unread (Some (with_inbox [] x)) ≤ unread (Some x) + 0
    no_inbox x = omega arith

    quiet_outside : (h i : ℕ) (ticks : Bool) (as' : List Action) (g : Move) → has_pass as' ≡ false → Fine h g → Fine h (outside_acts Pin Segment c n open_of i ticks as' g)
    quiet_outside h i ticks [] g none fine = fine
    quiet_outside h i ticks (action.Send o ∷ as') g none fine =
        quiet_outside h i ticks as' (outside_act Pin Segment c n open_of i ticks (action.Send o) g) none
        (pick h (cond ticks (cond (is_due o) (cond (is_out_empty (g.state.accesses i).connection) false true) false) false) g (say Pin Segment c n open_of (element_of n i) (Outside i) o g) fine (say_fine h (element_of n i) (Outside i) o g fine))
    quiet_outside h i ticks (action.Up ∷ as') g none fine = quiet_outside h i ticks as' (rise Pin Segment c n open_of (element_of n i) (Outside i) g) none (rise_fine h (element_of n i) (Outside i) g fine)
    quiet_outside h i ticks (action.Down why ∷ as') g none fine =
        let g' : Move = record { state = with_access Pin Segment c n open_of i (with_inbox []) g.state; deeds = g.deeds } in
        quiet_outside h i ticks as' (fall Pin Segment c n open_of (element_of n i) (Outside i) g') none (fall_fine h (element_of n i) (Outside i) g' (access_kept i (with_inbox []) g.state no_inbox fine.0, fine.1))
    quiet_outside h i ticks (action.Pass m ∷ as') g none fine = absurd (let clash : true ≡ false = none in cc)

    more_fine : (h v : ℕ) (g : Move) → Fine h g → Fine (v + h) g
    more_fine h v g fine = (fine.0, plain (heard g.deeds) fine.1)
      where
        plain : (d : ℕ) → d ≤ h → d ≤ v + h
        plain d one = omega (arith, one)

    -- an input that may pass so many messages on
    outside_step_fine : (h v i : ℕ) (x : Input) (g : Move) (o : Option Connection) → ((m : Message) → x ≡ input.Got m → 1 ≤ v) → Fine h g → Fine (v + h) (outside_step Pin Segment c n open_of i x g o)
    outside_step_fine h v i x g None once fine = more_fine h v g fine
    outside_step_fine h v i x g (Some k) once fine =
        let t = turn_of k.session x in
        let g' : Move = record { state = with_access Pin Segment c n open_of i (with_session t.next) g.state; deeds = g.deeds } in
        let fine' : Fine h g' = (access_kept i (with_session t.next) g.state (λ y. omega arith) fine.0, fine.1) in
        elim (shape k.session x) [
          | inl none ↦ more_fine h v (outside_acts Pin Segment c n open_of i (is_tick x) t.actions g') (quiet_outside h i (is_tick x) t.actions g' none fine')
          | inr pass ↦
              let heard' = heeded c (Outside i) (g'.state.elements (element_of n i)).pending.rows pass.0 in
              subst (λ (as' : List Action). Fine (v + h) (outside_acts Pin Segment c n open_of i (is_tick x) as' g')) (sym pass.2)
              (at_most (once pass.0 pass.1) (give Pin Segment c n open_of (element_of n i) (Outside i) heard' g') (give_fine h (element_of n i) (Outside i) heard' g' fine'))
        ]
      where
        at_most : 1 ≤ v → (g' : Move) → Fine (1 + h) g' → Fine (v + h) g'
        at_most le g' z = (z.0, plain (heard g'.deeds) z.1)
          where
            plain : (d : ℕ) → d ≤ 1 + h → d ≤ v + h
            plain d one = omega (arith, le, one)

    pub outside_input_fine : (h v i : ℕ) (x : Input) (g : Move) → ((m : Message) → x ≡ input.Got m → 1 ≤ v) → Fine h g → Fine (v + h) (outside_input Pin Segment c n open_of i x g)
    outside_input_fine h v i x g once fine = outside_step_fine h v i x g (g.state.accesses i).connection once fine

    -- ---- inner sessions

    inner_fine : (h : ℕ) (at b : As) (ticks : Bool) (as' : List Action) (g : Move) → Fine h g → Fine h (inner_acts Pin Segment c n open_of at b ticks as' g)
    inner_fine h at b ticks [] g fine = fine
    inner_fine h at b ticks (action.Send o ∷ as') g fine =
        inner_fine h at b ticks as' (inner_act Pin Segment c n open_of at b ticks (action.Send o) g)
        (pick h (cond ticks (cond (is_due o) (cond (is_empty (g.state.queues at b)) false true) false) false) g (say Pin Segment c n open_of at (Inner b) o g) fine (say_fine h at (Inner b) o g fine))
    inner_fine h at b ticks (action.Up ∷ as') g fine = inner_fine h at b ticks as' (rise Pin Segment c n open_of at (Inner b) g) (rise_fine h at (Inner b) g fine)
    inner_fine h at b ticks (action.Down why ∷ as') g fine = inner_fine h at b ticks as' g fine
    inner_fine h at b ticks (action.Pass m ∷ as') g fine = inner_fine h at b ticks as' (give Pin Segment c n open_of at (Inner b) m g) (same_fine h (give Pin Segment c n open_of at (Inner b) m g) (give_fine h at (Inner b) m g fine))

    begin_end_fine : (h sid : ℕ) (at b : As) (g : Move) → Fine h g → Fine h (begin_end Pin Segment c n open_of sid at b g)
    begin_end_fine h sid at b g fine =
        let t = turn_of (new_state (our_offer sid) (record { 0 = g.state.clock })) input.Begin in
        inner_fine h at b false t.actions (record { state = with_inner Pin Segment c n open_of at b t.next g.state; deeds = g.deeds }) fine

    begin_adjacency_fine : (h sid : ℕ) (x : Adjacency) (g : Move) → Fine h g → Fine h (begin_adjacency Pin Segment c n open_of sid x g)
    begin_adjacency_fine h sid x g fine = begin_end_fine h sid x.upper x.lower (begin_end Pin Segment c n open_of sid x.lower x.upper g) (begin_end_fine h sid x.lower x.upper g fine)

    pub break_adjacency_fine : (h : ℕ) (x : Adjacency) (g : Move) → Fine h g → Fine h (break_adjacency Pin Segment c n open_of x g)
    break_adjacency_fine h x g fine =
        let one = fall Pin Segment c n open_of x.lower (Inner x.upper) g in
        let two = fall Pin Segment c n open_of x.upper (Inner x.lower) one in
        let fine' : Fine h two = fall_fine h x.upper (Inner x.lower) one (fall_fine h x.lower (Inner x.upper) g fine) in
        begin_adjacency_fine h (((g.state.sessions x.lower x.upper).offer.sid + 1) % 256) x (clear Pin Segment c n open_of x two) (fine'.0, nothing h (heard two.deeds) fine'.1)

    pub inner_input_fine : (h : ℕ) (x : Adjacency) (at b : As) (y : Input) (g : Move) → Fine h g → Fine h (inner_input Pin Segment c n open_of x at b y g)
    inner_input_fine h x at b y g fine =
        let t = turn_of (g.state.sessions at b) y in
        let g' : Move = record { state = with_inner Pin Segment c n open_of at b t.next g.state; deeds = g.deeds } in
        pick h (any_fall t.actions) (break_adjacency Pin Segment c n open_of x g) (inner_acts Pin Segment c n open_of at b (is_tick y) t.actions g') (break_adjacency_fine h x g fine) (inner_fine h at b (is_tick y) t.actions g' fine)

    pub tick_outside_fine : (h i : ℕ) (rs : List PeerRow) (now : Tick) (g : Move) → Fine h g → Fine h (tick_outside Pin Segment c n open_of i rs now g)
    tick_outside_fine h i [] now g fine = fine
    tick_outside_fine h i (row ∷ rs) now g fine =
        tick_outside_fine h (i + 1) rs now (outside_input Pin Segment c n open_of i (input.Tick now) g)
        (same_fine h (outside_input Pin Segment c n open_of i (input.Tick now) g) (outside_input_fine h 0 i (input.Tick now) g (λ m e. absurd (let other : input.Tick now ≡ input.Got m = e in cc)) fine))

    pub tick_adjacencies_fine : (h : ℕ) (xs : List Adjacency) (now : Tick) (g : Move) → Fine h g → Fine h (tick_adjacencies Pin Segment c n open_of xs now g)
    tick_adjacencies_fine h [] now g fine = fine
    tick_adjacencies_fine h (x ∷ xs) now g fine =
        let g' = inner_input Pin Segment c n open_of x x.lower x.upper (input.Tick now) g in
        tick_adjacencies_fine h xs now (inner_input Pin Segment c n open_of x x.upper x.lower (input.Tick now) g')
        (inner_input_fine h x x.upper x.lower (input.Tick now) g' (inner_input_fine h x x.lower x.upper (input.Tick now) g fine))

    pub begin_adjacencies_fine : (h : ℕ) (xs : List Adjacency) (g : Move) → Fine h g → Fine h (events.begin_adjacencies Pin Segment c n open_of xs g)
    begin_adjacencies_fine h [] g fine = fine
    begin_adjacencies_fine h (x ∷ xs) g fine = begin_adjacencies_fine h xs (begin_adjacency Pin Segment c n open_of 0 x g) (begin_adjacency_fine h 0 x g fine)
