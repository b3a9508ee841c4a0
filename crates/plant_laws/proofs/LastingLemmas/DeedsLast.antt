-- In each deed of a network all jobs last.
use Rattle.std.proofs.Common.{◌≡◌, ◌≤◌, ℕ, ◌+◌, ◌%◌, Bool, true, false, cond, List, [], ◌∷◌, Option, Some, None, refl, sym, ap, subst, eqb-true, arith}
use Rattle.std.proofs.Math.Nat.{le_refl}
use Rattle.plant_model.specs.Types.{As, Tick, Peer, Outside, Inner, Hop, Message, Input, Action, Own, Best, Branch, NetworkParts, PeerRow}
use Rattle.pcep_session.specs.declared.session.Input.TheVariants as input
use Rattle.pcep_session.specs.declared.actions.Action.TheVariants as action
use Rattle.pcep_session.specs.Table.{turn_of, new_state}
use Rattle.path_keys.specs.Keys.{Keys}
use Rattle.plant_text.specs.Names.{same_as, parent_as}
use Rattle.plant_text.specs.Settings.{Adjacency, class_of}
use Rattle.plant_model.specs.declared.output.Output.{Output}
use Rattle.plant_model.specs.Names.{is_empty}
use Rattle.plant_model.specs.Settings.{place, family}
use Rattle.plant_model.specs.Wire.{Bytes, Codec}
use Rattle.plant_model.specs.Element as element
use Rattle.plant_model.specs.Element.{Element, Row}
use Rattle.plant_model.specs.Taking as taking
use Rattle.plant_model.specs.Solving as solving
use Rattle.plant_model.specs.Parent as parent
use Rattle.plant_model.specs.BorderGraph.{Found}
use Rattle.plant_model.specs.State.{State, Connection}
use Rattle.plant_model.specs.Deeds.{Going, element_of, is_due, is_tick, is_out_empty, any_fall, our_offer, with_session, with_inbox, own_message, put_to, put, puts, with_element, with_parent, with_access, with_inner, give, rise, fall, say, clear, expire, solve, solve_upper, outside_act, outside_acts, outside_step, outside_input, inner_act, inner_acts, inner_input, begin_end, begin_adjacency, break_adjacency, tick_outside, tick_adjacencies}
use Rattle.plant_model.specs.Outside.{heeded}
use Rattle.plant_laws.specs.Lasting.{KeysInTime, can_solve}
use Rattle.plant_laws.proofs.LastingLemmas.Tables.{Becomes, still, and_then}
use Rattle.plant_laws.proofs.LastingLemmas.ElementsLast as elements
use Rattle.plant_laws.proofs.LastingLemmas.ParentsLast as parents

module _ {P : Type 0} {S : Type 0} where
  -- the tables of a network keep their order, and all jobs last
  pub record Lasts (s t : State P S) : Type 0 where
    pub elements : (d : As) → Becomes can_solve (s.elements d).pending (t.elements d).pending
    pub parent : Becomes parent.is_ready s.parent.pending t.parent.pending
    pub clock : s.clock ≤ t.clock
    pub keys : KeysInTime s → KeysInTime t

  pub stands : (s : State P S) → Lasts s s
  stands s = record { elements = λ d. still can_solve (s.elements d).pending; parent = still parent.is_ready s.parent.pending; clock = le_refl s.clock; keys = λ before. before }

  pub then_lasts : (s t u : State P S) → Lasts s t → Lasts t u → Lasts s u
  then_lasts s t u first second = record {
    elements = λ d. and_then can_solve (s.elements d).pending (t.elements d).pending (u.elements d).pending (first.elements d) (second.elements d);
    parent = and_then parent.is_ready s.parent.pending t.parent.pending u.parent.pending first.parent second.parent;
    clock = omega (arith, first.clock, second.clock);
    keys = λ before. second.keys (first.keys before);
  }

module _ (P : Type 0) (S : Type 0) (c : Codec) (n : NetworkParts) (show : S → List Hop) where
  same_as_is : (a b : As) → same_as a b ≡ true → a ≡ b
  same_as_is a b e = ap (λ (x : ℕ). let y : As = record { 0 = x } in y) (eqb-true a.0 b.0 e)

  -- ---- queues

  put_to_lasts : (at : As) (bytes : Bytes) (s : State P S) (to : Peer) → Lasts s (put_to P S c n show at bytes s to)
  put_to_lasts at bytes s (Outside i) = record { elements = λ d. still can_solve (s.elements d).pending; parent = still parent.is_ready s.parent.pending; clock = le_refl s.clock; keys = λ before. before }
  put_to_lasts at bytes s (Inner b) = record { elements = λ d. still can_solve (s.elements d).pending; parent = still parent.is_ready s.parent.pending; clock = le_refl s.clock; keys = λ before. before }

  puts_last : (at : As) (os : List Output) (s t : State P S) → Lasts s t → Lasts s (puts P S c n show at os t)
  puts_last at [] s t h = h
  puts_last at (o ∷ os) s t h =
      let u = put P S c n show at o t in
      puts_last at os s u (then_lasts s t u h (put_to_lasts at (c.text o.message) t o.to))

  -- ---- an element or the parent becomes another

  element_lasts : (at : As) (k : Element P S) (s : State P S) → elements.Answers s.clock (s.elements at) k → Lasts s (with_element P S c n show at k s)
  element_lasts at k s h = record {
    elements = λ d. go d (same_as at d) refl;
    parent = still parent.is_ready s.parent.pending;
    clock = le_refl s.clock;
    keys = λ before d. go_keys before d (same_as at d);
  }
    where
      go : (d : As) (b : Bool) → same_as at d ≡ b → Becomes can_solve (s.elements d).pending (cond b k (s.elements d)).pending
      go d true is = subst (λ (a : As). Becomes can_solve (s.elements a).pending k.pending) (same_as_is at d is) h.lasts
      go d false is = still can_solve (s.elements d).pending

      go_keys : KeysInTime s → (d : As) (b : Bool) → (cond b k (s.elements d)).keys.clock ≤ s.clock
      go_keys before d true = h.keys (before at)
      go_keys before d false = before d

  -- the keys stay
  answers : (now : ℕ) (k t : Element P S) → elements.Lasts k t → elements.Answers now k t
  answers now k t h = record { lasts = h.0; keys = λ before. subst (λ (x : Keys S). x.clock ≤ now) (sym h.1) before }

  parent_lasts : (k : parent.Parent) (s : State P S) → parents.Lasts s.parent k → Lasts s (with_parent P S c n show k s)
  parent_lasts k s h = record { elements = λ d. still can_solve (s.elements d).pending; parent = h; clock = le_refl s.clock; keys = λ before. before }

  -- ---- deeds; s is the state at the beginning of an event

  module _ (s : State P S) where
    abbrev pub Kept : Going P S → Type 0
    Kept g = Lasts s g.state

    pick : (b : Bool) (g h : Going P S) → Kept g → Kept h → Kept (cond b g h)
    pick true g h r r' = r
    pick false g h r r' = r'

    with_element_lasts : (at : As) (k : Element P S) (t : State P S) → Lasts s t → elements.Lasts (t.elements at) k → Lasts s (with_element P S c n show at k t)
    with_element_lasts at k t h becomes = then_lasts s t (with_element P S c n show at k t) h (element_lasts at k t (answers t.clock (t.elements at) k becomes))

    with_parent_lasts : (k : parent.Parent) (t : State P S) → Lasts s t → parents.Lasts t.parent k → Lasts s (with_parent P S c n show k t)
    with_parent_lasts k t h becomes = then_lasts s t (with_parent P S c n show k t) h (parent_lasts k t becomes)

    -- sessions, framers, inboxes and queues change alone
    pub rest_lasts : (t u : State P S) → u.elements ≡ t.elements → u.parent ≡ t.parent → t.clock ≤ u.clock → Lasts s t → Lasts s u
    rest_lasts t u same_elements same_parent later h = record {
      elements = λ d. subst (λ (f : As → Element P S). Becomes can_solve (s.elements d).pending (f d).pending) (sym same_elements) (h.elements d);
      parent = subst (λ (k : parent.Parent). Becomes parent.is_ready s.parent.pending k.pending) (sym same_parent) h.parent;
      clock = omega (arith, h.clock, later);
      keys = λ before d. subst (λ (f : As → Element P S). (f d).keys.clock ≤ u.clock) (sym same_elements) (let at : (t.elements d).keys.clock ≤ t.clock = h.keys before d in omega (arith, at, later));
    }

    give_lasts : (at : As) (p : Peer) (m : Message) (g : Going P S) → Kept g → Kept (give P S c n show at p m g)
    give_lasts at p m g h =
        let r = parent.take c (family n) p m g.state.parent in
        let e = taking.take c show (place n at) (g.state.current at) p (class_of n p) g.state.clock m (g.state.elements at) in
        pick (same_as at parent_as) _ _
        (puts_last at r.outputs s (with_parent P S c n show r.parent g.state) (with_parent_lasts r.parent g.state h (parents.take_lasts c (family n) p m g.state.parent)))
        (puts_last at e.outputs s (with_element P S c n show at e.element g.state)
        (with_element_lasts at e.element g.state h (elements.take_lasts c show (place n at) (g.state.current at) p (class_of n p) g.state.clock m (g.state.elements at))))

    rise_lasts : (at : As) (p : Peer) (g : Going P S) → Kept g → Kept (rise P S c n show at p g)
    rise_lasts at p g h =
        pick (same_as at parent_as) _ _
        (with_parent_lasts (parent.upped p g.state.parent) g.state h (parents.upped_lasts p g.state.parent))
        (with_element_lasts at (element.upped p (g.state.elements at)) g.state h (elements.upped_lasts p (g.state.elements at)))

    pub fall_lasts : (at : As) (p : Peer) (g : Going P S) → Kept g → Kept (fall P S c n show at p g)
    fall_lasts at p g h =
        let r = parent.downed p g.state.parent in
        let e = element.downed p (g.state.elements at) in
        pick (same_as at parent_as) _ _
        (puts_last at r.outputs s (with_parent P S c n show r.parent g.state) (with_parent_lasts r.parent g.state h (parents.downed_lasts p g.state.parent)))
        (puts_last at e.outputs s (with_element P S c n show at e.element g.state) (with_element_lasts at e.element g.state h (elements.downed_lasts p (g.state.elements at))))

    say_lasts : (at : As) (p : Peer) (o : Own) (g : Going P S) → Kept g → Kept (say P S c n show at p o g)
    say_lasts at p o g h = then_lasts s g.state (say P S c n show at p o g).state h (put_to_lasts at (c.text (own_message o)) g.state p)

    pub expire_lasts : (now : ℕ) (g : Going P S) → now ≤ g.state.clock → Kept g → Kept (expire P S c n show now g)
    expire_lasts now g before h = record { elements = λ d. h.elements d; parent = h.parent; clock = h.clock; keys = λ start d. before }

    -- ---- sessions

    outside_act_lasts : (i : ℕ) (ticks : Bool) (a : Action) (g : Going P S) → Kept g → Kept (outside_act P S c n show i ticks a g)
    outside_act_lasts i ticks (action.Send o) g h =
        pick (cond ticks (cond (is_due o) (cond (is_out_empty (g.state.accesses i).connection) false true) false) false) g (say P S c n show (element_of n i) (Outside i) o g) h (say_lasts (element_of n i) (Outside i) o g h)
    outside_act_lasts i ticks action.Up g h = rise_lasts (element_of n i) (Outside i) g h
    outside_act_lasts i ticks (action.Down why) g h =
        let k : Going P S = record { state = with_access P S c n show i (with_inbox []) g.state; deeds = g.deeds } in
        fall_lasts (element_of n i) (Outside i) k (rest_lasts g.state k.state refl refl (le_refl g.state.clock) h)
    outside_act_lasts i ticks (action.Pass m) g h = give_lasts (element_of n i) (Outside i) (heeded c (Outside i) (g.state.elements (element_of n i)).pending.rows m) g h

    outside_acts_last : (i : ℕ) (ticks : Bool) (as' : List Action) (g : Going P S) → Kept g → Kept (outside_acts P S c n show i ticks as' g)
    outside_acts_last i ticks [] g h = h
    outside_acts_last i ticks (a ∷ as') g h = outside_acts_last i ticks as' (outside_act P S c n show i ticks a g) (outside_act_lasts i ticks a g h)

    outside_step_lasts : (i : ℕ) (x : Input) (g : Going P S) (o : Option Connection) → Kept g → Kept (outside_step P S c n show i x g o)
    outside_step_lasts i x g None h = h
    outside_step_lasts i x g (Some k) h =
        let r = turn_of k.session x in
        let t = with_access P S c n show i (with_session r.next) g.state in
        outside_acts_last i (is_tick x) r.actions (record { state = t; deeds = g.deeds }) (rest_lasts g.state t refl refl (le_refl g.state.clock) h)

    pub outside_input_lasts : (i : ℕ) (x : Input) (g : Going P S) → Kept g → Kept (outside_input P S c n show i x g)
    outside_input_lasts i x g h = outside_step_lasts i x g (g.state.accesses i).connection h

    inner_act_lasts : (at b : As) (ticks : Bool) (a : Action) (g : Going P S) → Kept g → Kept (inner_act P S c n show at b ticks a g)
    inner_act_lasts at b ticks (action.Send o) g h =
        pick (cond ticks (cond (is_due o) (cond (is_empty (g.state.queues at b)) false true) false) false) g (say P S c n show at (Inner b) o g) h (say_lasts at (Inner b) o g h)
    inner_act_lasts at b ticks action.Up g h = rise_lasts at (Inner b) g h
    inner_act_lasts at b ticks (action.Down why) g h = h
    inner_act_lasts at b ticks (action.Pass m) g h = give_lasts at (Inner b) m g h

    inner_acts_last : (at b : As) (ticks : Bool) (as' : List Action) (g : Going P S) → Kept g → Kept (inner_acts P S c n show at b ticks as' g)
    inner_acts_last at b ticks [] g h = h
    inner_acts_last at b ticks (a ∷ as') g h = inner_acts_last at b ticks as' (inner_act P S c n show at b ticks a g) (inner_act_lasts at b ticks a g h)

    begin_end_lasts : (sid : ℕ) (at b : As) (g : Going P S) → Kept g → Kept (begin_end P S c n show sid at b g)
    begin_end_lasts sid at b g h =
        let r = turn_of (new_state (our_offer sid) (record { 0 = g.state.clock })) input.Begin in
        let t = with_inner P S c n show at b r.next g.state in
        inner_acts_last at b false r.actions (record { state = t; deeds = g.deeds }) (rest_lasts g.state t refl refl (le_refl g.state.clock) h)

    pub begin_adjacency_lasts : (sid : ℕ) (x : Adjacency) (g : Going P S) → Kept g → Kept (begin_adjacency P S c n show sid x g)
    begin_adjacency_lasts sid x g h = begin_end_lasts sid x.upper x.lower (begin_end P S c n show sid x.lower x.upper g) (begin_end_lasts sid x.lower x.upper g h)

    pub break_adjacency_lasts : (x : Adjacency) (g : Going P S) → Kept g → Kept (break_adjacency P S c n show x g)
    break_adjacency_lasts x g h =
        let sid = ((g.state.sessions x.lower x.upper).offer.sid + 1) % 256 in
        let f = fall P S c n show x.lower (Inner x.upper) g in
        let k = fall P S c n show x.upper (Inner x.lower) f in
        let e = clear P S c n show x k in
        begin_adjacency_lasts sid x e (rest_lasts k.state e.state refl refl (le_refl k.state.clock) (fall_lasts x.upper (Inner x.lower) f (fall_lasts x.lower (Inner x.upper) g h)))

    pub inner_input_lasts : (x : Adjacency) (at b : As) (y : Input) (g : Going P S) → Kept g → Kept (inner_input P S c n show x at b y g)
    inner_input_lasts x at b y g h =
        let r = turn_of (g.state.sessions at b) y in
        let t = with_inner P S c n show at b r.next g.state in
        pick (any_fall r.actions) (break_adjacency P S c n show x g) (inner_acts P S c n show at b (is_tick y) r.actions (record { state = t; deeds = g.deeds }))
        (break_adjacency_lasts x g h) (inner_acts_last at b (is_tick y) r.actions (record { state = t; deeds = g.deeds }) (rest_lasts g.state t refl refl (le_refl g.state.clock) h))

    pub tick_outside_lasts : (i : ℕ) (rs : List PeerRow) (now : Tick) (g : Going P S) → Kept g → Kept (tick_outside P S c n show i rs now g)
    tick_outside_lasts i [] now g h = h
    tick_outside_lasts i (r ∷ rs) now g h = tick_outside_lasts (i + 1) rs now (outside_input P S c n show i (input.Tick now) g) (outside_input_lasts i (input.Tick now) g h)

    pub tick_adjacencies_last : (xs : List Adjacency) (now : Tick) (g : Going P S) → Kept g → Kept (tick_adjacencies P S c n show xs now g)
    tick_adjacencies_last [] now g h = h
    tick_adjacencies_last (x ∷ xs) now g h =
        let k = inner_input P S c n show x x.lower x.upper (input.Tick now) g in
        tick_adjacencies_last xs now (inner_input P S c n show x x.upper x.lower (input.Tick now) k)
        (inner_input_lasts x x.upper x.lower (input.Tick now) k (inner_input_lasts x x.lower x.upper (input.Tick now) g h))

  -- ---- solves

  pub solve_lasts : (d : As) (h : Row P) (down : List Branch) (means : Best → S) (source_known target_known : Bool) (best : List Best) (s : State P S) →
      Lasts s (solve P S c n show d h down means (solving.job_found source_known target_known best) s).state
  solve_lasts d h down means source_known target_known best s =
      let r = solving.commit c (place n d) h down s.clock means (solving.job_found source_known target_known best) (s.elements d) in
      puts_last d r.outputs s (with_element P S c n show d r.element s)
      (element_lasts d r.element s (elements.commit_lasts c (place n d) h down s.clock means source_known target_known best (s.elements d)))

  pub solve_upper_lasts : (h : parent.AskingRow) (a : Option Found) (s : State P S) → Lasts s (solve_upper P S c n show h a s).state
  solve_upper_lasts h a s =
      let r = parent.commit c h a s.parent in
      puts_last parent_as r.outputs s (with_parent P S c n show r.parent s) (parent_lasts r.parent s (parents.commit_lasts c h a s.parent))
