-- In every state of a run all stands along links, at elements and the parent, and at outside peers of the settings.
use Rattle.std.proofs.Common.{◌≡◌, ℕ, ◌+◌, ◌%◌, Bool, true, false, cond, ◌==◌, nat_lt, List, [], ◌∷◌, ◌++◌, map, Option, Some, None, is_some, sym, ◌∙◌, ap, subst, inl, inr, refl}
use Rattle.std.proofs.lemmas.Bool.{eqb-true, eq-eqb}
use Rattle.plant_model.specs.Types.{As, Tick, Peer, Outside, Inner, Message, Input, Action, Own, State as Session, NetworkParts, PeerRow}
use Rattle.pcep_session.specs.declared.session.Input.TheVariants as input
use Rattle.pcep_session.specs.declared.actions.Action.TheVariants as action
use Rattle.pcep_session.specs.Table.{turn_of, new_state}
use Rattle.disclosure.specs.Shown.{open_of}
use Rattle.plant_text.specs.Names.{same_as, same_link, parent_as}
use Rattle.plant_text.specs.Settings.{Adjacency, adjacency, adjacencies, has_adjacency, is_linked, upward, children, sorted, is_element, peer_row, class_of}
use Rattle.plant_model.specs.declared.event.Event.{Event}
use Rattle.plant_model.specs.declared.event.Event.TheVariants as event
use Rattle.plant_model.specs.declared.output.Output.{Output}
use Rattle.plant_model.specs.declared.outcome.Refused.TheVariants.{NoSuchPeer}
use Rattle.plant_model.specs.declared.route.Route.{Route}
use Rattle.plant_model.specs.Names.{is_empty, set_as, set_number, set_pair}
use Rattle.plant_model.specs.Wire.{Bytes, Codec}
use Rattle.plant_model.specs.Element.{Item, Element, upped, downed}
use Rattle.plant_model.specs.Taking.{take}
use Rattle.plant_model.specs.Solving.{commit, job_found}
use Rattle.plant_model.specs.Parent as parent
use Rattle.plant_model.specs.Parent.{Asking}
use Rattle.plant_model.specs.Settings.{place, family, way, ways_along, inner_ways, outer_way}
use Rattle.plant_model.specs.Routes.{routes}
use Rattle.plant_model.specs.State.{Connection, Access, Pops, Takes, Ups, Downs}
use Rattle.plant_model.specs.Deeds.{Going, element_of, is_due, is_tick, is_out_empty, any_fall, our_offer, on_connection, with_more, with_session, with_inbox, input_of, with_parent, with_element, own_message, put, put_to, puts, give, rise, fall, say, clear, outside_act, outside_acts, outside_step, outside_input, inner_act, inner_acts, inner_input, begin_end, begin_adjacency, break_adjacency, tick_outside, tick_adjacencies, with_access, with_inner}
use Rattle.plant_model.specs.Outside.{heeded}
use Rattle.plant_model.specs.Events as events
use Rattle.plant_model.specs.Events.{is_down}
use Rattle.plant_model.specs.Plant.{Pin, Segment, Plant, first_pin, Happened, Entry, Run, is_full, Happens, load_new}
use Rattle.plant_laws.proofs.Runs.Queues.{same_as_is}
use Rattle.plant_laws.proofs.Settled.Reaches as lower
use Rattle.plant_laws.proofs.Settled.Reaches.{Ways, Outs, ways_append, askers_under}
use Rattle.plant_laws.proofs.Settled.ReachesUpper as upper
use Rattle.plant_laws.proofs.Settled.ReachesUpper.{Children}

-- ---- links

as_self : (d : As) → same_as d d ≡ true
as_self d = eq-eqb d.0 d.0 refl

swapped : (l u a b : As) → same_link l u a b ≡ true → same_link l u b a ≡ true
swapped l u a b e = go (same_as l a) refl (same_as l b) refl e
  where
    go : (x : Bool) → same_as l a ≡ x → (y : Bool) → same_as l b ≡ y → cond x (same_as u b) (cond y (same_as u a) false) ≡ true → cond y (same_as u a) (cond x (same_as u b) false) ≡ true
    go true is true is' e' = ap (λ (z : As). same_as u z) (sym (same_as_is l a is) ∙ same_as_is l b is') ∙ e'
    go true is false is' e' = e'
    go false is true is' e' = e'
    go false is false is' e' = e'

has_swapped : (a b : As) (xs : List Adjacency) → has_adjacency a b xs ≡ true → has_adjacency b a xs ≡ true
has_swapped a b [] e = e
has_swapped a b (x ∷ xs) e = go (same_link x.lower x.upper a b) refl (same_link x.lower x.upper b a) refl e (has_swapped a b xs)
  where
    go : (t : Bool) → same_link x.lower x.upper a b ≡ t → (u : Bool) → same_link x.lower x.upper b a ≡ u → cond t true (has_adjacency a b xs) ≡ true → (has_adjacency a b xs ≡ true → has_adjacency b a xs ≡ true) →
        cond u true (has_adjacency b a xs) ≡ true
    go t is true is' e' rec = refl
    go true is false is' e' rec = absurd (let clash : true ≡ false = sym (swapped x.lower x.upper a b is) ∙ is' in cc)
    go false is false is' e' rec = rec e'

pub linked_swapped : (n : NetworkParts) (a b : As) → is_linked n a b ≡ true → is_linked n b a ≡ true
linked_swapped n a b e = has_swapped a b (adjacencies n) e

-- both directions of a link
abbrev IsJoined : NetworkParts → Adjacency → Type 0
IsJoined n x = (is_linked n x.lower x.upper ≡ true) × (is_linked n x.upper x.lower ≡ true)

joined_adjacency : (n : NetworkParts) (a b : As) → is_linked n a b ≡ true → IsJoined n (adjacency a b)
joined_adjacency n a b e = go (nat_lt b.0 a.0)
  where
    go : (t : Bool) → IsJoined n (cond t (record { lower = b; upper = a }) (record { lower = a; upper = b }))
    go true = (linked_swapped n a b e, e)
    go false = (e, linked_swapped n a b e)

abbrev AreJoined : NetworkParts → List Adjacency → Type 0
AreJoined n [] = Unit {0}
AreJoined n (x ∷ xs) = IsJoined n x × AreJoined n xs

joined_among : (n : NetworkParts) (xs : List Adjacency) → ((a b : As) → has_adjacency a b xs ≡ true → is_linked n a b ≡ true) → AreJoined n xs
joined_among n [] known = tt
joined_among n (x ∷ xs) known =
    let first = known x.lower x.upper (ap (λ (t : Bool). cond t true (has_adjacency x.lower x.upper xs)) here) in
    ((first, linked_swapped n x.lower x.upper first), joined_among n xs (λ a b e. known a b (later (same_link x.lower x.upper a b) (has_adjacency a b xs) e)))
  where
    here : same_link x.lower x.upper x.lower x.upper ≡ true
    here = ap (λ (t : Bool). cond t (same_as x.upper x.upper) (cond (same_as x.lower x.upper) (same_as x.upper x.lower) false)) (as_self x.lower) ∙ as_self x.upper

    later : (t u : Bool) → u ≡ true → cond t true u ≡ true
    later true u e = refl
    later false u e = e

joined_adjacencies : (n : NetworkParts) → AreJoined n (adjacencies n)
joined_adjacencies n = joined_among n (adjacencies n) (λ a b e. e)

-- ---- whom a domain hears, and whom it tells

abbrev pub IsHeard : NetworkParts → As → Peer → Type 0
IsHeard n d (Outside i) = (is_some (peer_row i n.peers) ≡ true) × (d ≡ element_of n i)
IsHeard n d (Inner b) = is_linked n b d ≡ true

abbrev pub IsTold : NetworkParts → As → Peer → Type 0
IsTold n d (Outside i) = Unit {0}
IsTold n d (Inner b) = is_linked n d b ≡ true

pub is_told : (n : NetworkParts) (d : As) (p : Peer) → IsHeard n d p → IsTold n d p
is_told n d (Outside i) h = tt
is_told n d (Inner b) h = linked_swapped n b d h

outer_told : (n : NetworkParts) (d : As) (rs : List Route) → Ways (IsTold n d) (map outer_way rs)
outer_told n d [] = tt
outer_told n d (r ∷ rs) = (tt, outer_told n d rs)

along_told : (n : NetworkParts) (d : As) (xs : List Adjacency) → AreJoined n xs → Ways (IsTold n d) (ways_along d xs)
along_told n d [] all = tt
along_told n d (x ∷ xs) all = go (same_as x.lower d) refl (same_as x.upper d) refl (along_told n d xs all.1)
  where
    go : (t : Bool) → same_as x.lower d ≡ t → (u : Bool) → same_as x.upper d ≡ u → Ways (IsTold n d) (ways_along d xs) →
        Ways (IsTold n d) (cond t (way x.upper ∷ ways_along d xs) (cond u (way x.lower ∷ ways_along d xs) (ways_along d xs)))
    go true is u is' rest = (subst (λ (z : As). is_linked n z x.upper ≡ true) (same_as_is x.lower d is) all.0.0, rest)
    go false is true is' rest = (subst (λ (z : As). is_linked n z x.lower ≡ true) (same_as_is x.upper d is') all.0.1, rest)
    go false is false is' rest = rest

children_told : (n : NetworkParts) (cs : List As) (rest : List Adjacency) → AreJoined n (upward cs ++ rest) → Children (IsTold n parent_as) cs
children_told n [] rest all = tt
children_told n (a ∷ cs) rest all = (all.0.0, children_told n cs rest all.1)

-- a connection is that of a peer of the settings
abbrev pub IsKnown : NetworkParts → ℕ → Option Connection → Type 0
IsKnown n i None = Unit {0}
IsKnown n i (Some x) = is_some (peer_row i n.peers) ≡ true

-- ---- a state

module _ (c : Codec) (n : NetworkParts) where
  abbrev Low : As → Element Pin Segment → Type 0
  Low d k = lower.Reaches (IsHeard n d) (IsTold n d) (is_told n d) Pin Segment k

  abbrev High : parent.Parent → Type 0
  High k = upper.Reaches (IsHeard n parent_as) (IsTold n parent_as) (is_told n parent_as) k

  abbrev AreAlong : (As → As → List Bytes) → Type 0
  AreAlong q = (a b : As) → is_linked n a b ≡ false → q a b ≡ []

  pub record Keeps (s : Plant) : Type 0 where
    pub queues : AreAlong s.queues
    pub elements : (d : As) → Low d (s.elements d)
    pub above : High s.parent
    pub peers : (i : ℕ) → IsKnown n i (s.accesses i).connection

  abbrev Move : Type 0
  Move = Going Pin Segment

  queue_set : (a b : As) (v : List Bytes) (q : As → As → List Bytes) → is_linked n a b ≡ true → AreAlong q → AreAlong (set_pair a b v q)
  queue_set a b v q linked along a' b' apart = go (same_as a a') refl (same_as b b') refl
    where
      go : (t : Bool) → same_as a a' ≡ t → (u : Bool) → same_as b b' ≡ u → cond t (cond u v (q a' b')) (q a' b') ≡ []
      go true is true is' =
          let there : is_linked n a' b' ≡ true = ap (λ (z : As). is_linked n z b') (sym (same_as_is a a' is)) ∙ ap (λ (z : As). is_linked n a z) (sym (same_as_is b b' is')) ∙ linked in
          absurd (let clash : true ≡ false = sym there ∙ apart in cc)
      go true is false is' = along a' b' apart
      go false is u is' = along a' b' apart

  element_set : (at : As) (k : Element Pin Segment) (s : Plant) → Low at k → ((d : As) → Low d (s.elements d)) → (d : As) → Low d (set_as at k s.elements d)
  element_set at k s new old d = go (same_as at d) refl
    where
      go : (b : Bool) → same_as at d ≡ b → Low d (cond b k (s.elements d))
      go true is = subst (λ (z : As). Low z k) (same_as_is at d is) new
      go false is = old d

  access_set : (i : ℕ) (a : Access) (s : Plant) → IsKnown n i a.connection → ((j : ℕ) → IsKnown n j (s.accesses j).connection) → (j : ℕ) → IsKnown n j (set_number i a s.accesses j).connection
  access_set i a s new old j = go (i == j) refl
    where
      go : (b : Bool) → (i == j) ≡ b → IsKnown n j (cond b a (s.accesses j)).connection
      go true is = subst (λ (z : ℕ). IsKnown n z a.connection) (eqb-true i j is) new
      go false is = old j

  on_known : (i : ℕ) (f : Connection → Connection) (a : Access) → IsKnown n i a.connection → IsKnown n i (on_connection f a).connection
  on_known i f a h = go a.connection h
    where
      go : (o : Option Connection) → IsKnown n i o → IsKnown n i (on_connection f (record { opened = a.opened; connection = o })).connection
      go None h' = tt
      go (Some x) h' = h'

  access_keeps : (i : ℕ) (f : Connection → Connection) (s : Plant) → Keeps s → Keeps (with_access Pin Segment c n open_of i f s)
  access_keeps i f s h = record { queues = h.queues; elements = h.elements; above = h.above; peers = access_set i (on_connection f (s.accesses i)) s (on_known i f (s.accesses i) (h.peers i)) h.peers }

  put_keeps : (at : As) (bytes : Bytes) (s : Plant) (to : Peer) → IsTold n at to → Keeps s → Keeps (put_to Pin Segment c n open_of at bytes s to)
  put_keeps at bytes s (Outside i) told h = access_keeps i (with_more bytes) s h
  put_keeps at bytes s (Inner b) told h = record { queues = queue_set at b (s.queues at b ++ bytes ∷ []) s.queues told h.queues; elements = h.elements; above = h.above; peers = h.peers }

  puts_keep : (at : As) (os : List Output) (s : Plant) → Outs (IsTold n at) os → Keeps s → Keeps (puts Pin Segment c n open_of at os s)
  puts_keep at [] s outs h = h
  puts_keep at (o ∷ os) s outs h = puts_keep at os (put Pin Segment c n open_of at o s) outs.1 (put_keeps at (c.text o.message) s o.to outs.0 h)

  -- an element, or the parent, is another, and says something
  element_moves : (at : As) (k : Element Pin Segment) (os : List Output) (s : Plant) → Low at k × Outs (IsTold n at) os → Keeps s → Keeps (puts Pin Segment c n open_of at os (with_element Pin Segment c n open_of at k s))
  element_moves at k os s new h = puts_keep at os _ new.1 (record { queues = h.queues; elements = element_set at k s new.0 h.elements; above = h.above; peers = h.peers })

  parent_moves : (at : As) (k : parent.Parent) (os : List Output) (s : Plant) → at ≡ parent_as → High k × Outs (IsTold n parent_as) os → Keeps s →
      Keeps (puts Pin Segment c n open_of at os (with_parent Pin Segment c n open_of k s))
  parent_moves at k os s up new h =
      puts_keep at os _ (subst (λ (z : As). Outs (IsTold n z) os) (sym up) new.1) (record { queues = h.queues; elements = h.elements; above = new.0; peers = h.peers })

  pick : (b : Bool) (g h : Move) → (b ≡ true → Keeps g.state) → (b ≡ false → Keeps h.state) → Keeps (cond b g h).state
  pick true g h x y = x refl
  pick false g h x y = y refl

  -- ---- deeds

  give_keeps : (at : As) (p : Peer) (m : Message) (g : Move) → IsHeard n at p → Keeps g.state → Keeps (give Pin Segment c n open_of at p m g).state
  give_keeps at p m g heard h =
      let r = parent.take c (family n) p m g.state.parent in
      let t = take c open_of (place n at) (g.state.current at) p (class_of n p) g.state.clock m (g.state.elements at) in
      pick (same_as at parent_as)
      (record { state = puts Pin Segment c n open_of at r.outputs (with_parent Pin Segment c n open_of r.parent g.state); deeds = Takes at p m r.outputs ∷ g.deeds })
      (record { state = puts Pin Segment c n open_of at t.outputs (with_element Pin Segment c n open_of at t.element g.state); deeds = Takes at p m t.outputs ∷ g.deeds })
      (λ up. let is = same_as_is at parent_as up in
      parent_moves at r.parent r.outputs g.state is
      (upper.take_reaches (IsHeard n parent_as) (IsTold n parent_as) (is_told n parent_as) p (subst (λ (z : As). IsHeard n z p) is heard) c (family n)
      (children_told n (children n) (sorted n.links) (joined_adjacencies n)) m g.state.parent h.above) h)
      (λ low.
      element_moves at t.element t.outputs g.state
      (lower.take_reaches (IsHeard n at) (IsTold n at) (is_told n at) Pin Segment p heard c (place n at) (g.state.current at) (class_of n p) open_of g.state.clock m (g.state.elements at) (h.elements at)) h)

  rise_keeps : (at : As) (p : Peer) (g : Move) → Keeps g.state → Keeps (rise Pin Segment c n open_of at p g).state
  rise_keeps at p g h =
      pick (same_as at parent_as)
      (record { state = with_parent Pin Segment c n open_of (parent.upped p g.state.parent) g.state; deeds = Ups at p ∷ g.deeds })
      (record { state = with_element Pin Segment c n open_of at (upped p (g.state.elements at)) g.state; deeds = Ups at p ∷ g.deeds })
      (λ up. parent_moves at (parent.upped p g.state.parent) [] g.state (same_as_is at parent_as up) (upper.upped_reaches (IsHeard n parent_as) (IsTold n parent_as) (is_told n parent_as) p g.state.parent h.above, tt) h)
      (λ low. element_moves at (upped p (g.state.elements at)) [] g.state (lower.upped_reaches (IsHeard n at) (IsTold n at) (is_told n at) Pin Segment p (g.state.elements at) (h.elements at), tt) h)

  fall_keeps : (at : As) (p : Peer) (g : Move) → Keeps g.state → Keeps (fall Pin Segment c n open_of at p g).state
  fall_keeps at p g h =
      let r = parent.downed p g.state.parent in
      let t = downed p (g.state.elements at) in
      pick (same_as at parent_as)
      (record { state = puts Pin Segment c n open_of at r.outputs (with_parent Pin Segment c n open_of r.parent g.state); deeds = Downs at p r.outputs ∷ g.deeds })
      (record { state = puts Pin Segment c n open_of at t.outputs (with_element Pin Segment c n open_of at t.element g.state); deeds = Downs at p t.outputs ∷ g.deeds })
      (λ up. parent_moves at r.parent r.outputs g.state (same_as_is at parent_as up) (upper.downed_reaches (IsHeard n parent_as) (IsTold n parent_as) (is_told n parent_as) p g.state.parent h.above) h)
      (λ low. element_moves at t.element t.outputs g.state (lower.downed_reaches (IsHeard n at) (IsTold n at) (is_told n at) Pin Segment p (g.state.elements at) (h.elements at)) h)

  say_keeps : (at : As) (p : Peer) (o : Own) (g : Move) → IsTold n at p → Keeps g.state → Keeps (say Pin Segment c n open_of at p o g).state
  say_keeps at p o g told h = put_keeps at (c.text (own_message o)) g.state p told h

  -- ---- outside sessions

  outside_keeps : (i : ℕ) (ticks : Bool) (as' : List Action) (g : Move) → is_some (peer_row i n.peers) ≡ true → Keeps g.state → Keeps (outside_acts Pin Segment c n open_of i ticks as' g).state
  outside_keeps i ticks [] g known h = h
  outside_keeps i ticks (action.Send o ∷ as') g known h =
      outside_keeps i ticks as' (outside_act Pin Segment c n open_of i ticks (action.Send o) g) known
      (pick (cond ticks (cond (is_due o) (cond (is_out_empty (g.state.accesses i).connection) false true) false) false) g (say Pin Segment c n open_of (element_of n i) (Outside i) o g) (λ is. h)
      (λ is. say_keeps (element_of n i) (Outside i) o g tt h))
  outside_keeps i ticks (action.Up ∷ as') g known h = outside_keeps i ticks as' (rise Pin Segment c n open_of (element_of n i) (Outside i) g) known (rise_keeps (element_of n i) (Outside i) g h)
  outside_keeps i ticks (action.Down why ∷ as') g known h =
      let e : Move = record { state = with_access Pin Segment c n open_of i (with_inbox []) g.state; deeds = g.deeds } in
      outside_keeps i ticks as' (fall Pin Segment c n open_of (element_of n i) (Outside i) e) known (fall_keeps (element_of n i) (Outside i) e (access_keeps i (with_inbox []) g.state h))
  outside_keeps i ticks (action.Pass m ∷ as') g known h =
      let heard = heeded c (Outside i) (g.state.elements (element_of n i)).pending.rows m in
      outside_keeps i ticks as' (give Pin Segment c n open_of (element_of n i) (Outside i) heard g) known (give_keeps (element_of n i) (Outside i) heard g (known, refl) h)

  outside_step_keeps : (i : ℕ) (x : Input) (g : Move) (o : Option Connection) → IsKnown n i o → Keeps g.state → Keeps (outside_step Pin Segment c n open_of i x g o).state
  outside_step_keeps i x g None known h = h
  outside_step_keeps i x g (Some k) known h =
      let t = turn_of k.session x in
      outside_keeps i (is_tick x) t.actions (record { state = with_access Pin Segment c n open_of i (with_session t.next) g.state; deeds = g.deeds }) known (access_keeps i (with_session t.next) g.state h)

  outside_input_keeps : (i : ℕ) (x : Input) (g : Move) → Keeps g.state → Keeps (outside_input Pin Segment c n open_of i x g).state
  outside_input_keeps i x g h = outside_step_keeps i x g (g.state.accesses i).connection (h.peers i) h

  -- ---- links

  inner_keeps : (at b : As) (ticks : Bool) (as' : List Action) (g : Move) → is_linked n at b ≡ true → Keeps g.state → Keeps (inner_acts Pin Segment c n open_of at b ticks as' g).state
  inner_keeps at b ticks [] g linked h = h
  inner_keeps at b ticks (action.Send o ∷ as') g linked h =
      inner_keeps at b ticks as' (inner_act Pin Segment c n open_of at b ticks (action.Send o) g) linked
      (pick (cond ticks (cond (is_due o) (cond (is_empty (g.state.queues at b)) false true) false) false) g (say Pin Segment c n open_of at (Inner b) o g) (λ is. h)
      (λ is. say_keeps at (Inner b) o g linked h))
  inner_keeps at b ticks (action.Up ∷ as') g linked h = inner_keeps at b ticks as' (rise Pin Segment c n open_of at (Inner b) g) linked (rise_keeps at (Inner b) g h)
  inner_keeps at b ticks (action.Down why ∷ as') g linked h = inner_keeps at b ticks as' g linked h
  inner_keeps at b ticks (action.Pass m ∷ as') g linked h =
      inner_keeps at b ticks as' (give Pin Segment c n open_of at (Inner b) m g) linked (give_keeps at (Inner b) m g (linked_swapped n at b linked) h)

  session_keeps : (at b : As) (x : Session) (s : Plant) → Keeps s → Keeps (with_inner Pin Segment c n open_of at b x s)
  session_keeps at b x s h = record { queues = h.queues; elements = h.elements; above = h.above; peers = h.peers }

  begin_end_keeps : (sid : ℕ) (at b : As) (g : Move) → is_linked n at b ≡ true → Keeps g.state → Keeps (begin_end Pin Segment c n open_of sid at b g).state
  begin_end_keeps sid at b g linked h =
      let t = turn_of (new_state (our_offer sid) (record { 0 = g.state.clock })) input.Begin in
      inner_keeps at b false t.actions (record { state = with_inner Pin Segment c n open_of at b t.next g.state; deeds = g.deeds }) linked (session_keeps at b t.next g.state h)

  begin_adjacency_keeps : (sid : ℕ) (x : Adjacency) (g : Move) → IsJoined n x → Keeps g.state → Keeps (begin_adjacency Pin Segment c n open_of sid x g).state
  begin_adjacency_keeps sid x g joined h =
      begin_end_keeps sid x.upper x.lower (begin_end Pin Segment c n open_of sid x.lower x.upper g) joined.1 (begin_end_keeps sid x.lower x.upper g joined.0 h)

  clear_keeps : (x : Adjacency) (g : Move) → IsJoined n x → Keeps g.state → Keeps (clear Pin Segment c n open_of x g).state
  clear_keeps x g joined h = record {
    queues = queue_set x.lower x.upper [] (set_pair x.upper x.lower [] g.state.queues) joined.0 (queue_set x.upper x.lower [] g.state.queues joined.1 h.queues);
    elements = h.elements;
    above = h.above;
    peers = h.peers;
  }

  break_adjacency_keeps : (x : Adjacency) (g : Move) → IsJoined n x → Keeps g.state → Keeps (break_adjacency Pin Segment c n open_of x g).state
  break_adjacency_keeps x g joined h =
      let f = fall Pin Segment c n open_of x.lower (Inner x.upper) g in
      let k = fall Pin Segment c n open_of x.upper (Inner x.lower) f in
      begin_adjacency_keeps (((g.state.sessions x.lower x.upper).offer.sid + 1) % 256) x (clear Pin Segment c n open_of x k) joined
      (clear_keeps x k joined (fall_keeps x.upper (Inner x.lower) f (fall_keeps x.lower (Inner x.upper) g h)))

  inner_input_keeps : (x : Adjacency) (at b : As) (y : Input) (g : Move) → IsJoined n x → is_linked n at b ≡ true → Keeps g.state → Keeps (inner_input Pin Segment c n open_of x at b y g).state
  inner_input_keeps x at b y g joined linked h =
      let t = turn_of (g.state.sessions at b) y in
      let e : Move = record { state = with_inner Pin Segment c n open_of at b t.next g.state; deeds = g.deeds } in
      pick (any_fall t.actions) (break_adjacency Pin Segment c n open_of x g) (inner_acts Pin Segment c n open_of at b (is_tick y) t.actions e)
      (λ is. break_adjacency_keeps x g joined h) (λ is. inner_keeps at b (is_tick y) t.actions e linked (session_keeps at b t.next g.state h))

  tick_outside_keeps : (i : ℕ) (rs : List PeerRow) (now : Tick) (g : Move) → Keeps g.state → Keeps (tick_outside Pin Segment c n open_of i rs now g).state
  tick_outside_keeps i [] now g h = h
  tick_outside_keeps i (row ∷ rs) now g h =
      tick_outside_keeps (i + 1) rs now (outside_input Pin Segment c n open_of i (input.Tick now) g) (outside_input_keeps i (input.Tick now) g h)

  tick_adjacencies_keeps : (xs : List Adjacency) (now : Tick) (g : Move) → AreJoined n xs → Keeps g.state → Keeps (tick_adjacencies Pin Segment c n open_of xs now g).state
  tick_adjacencies_keeps [] now g joined h = h
  tick_adjacencies_keeps (x ∷ xs) now g joined h =
      let e = inner_input Pin Segment c n open_of x x.lower x.upper (input.Tick now) g in
      tick_adjacencies_keeps xs now (inner_input Pin Segment c n open_of x x.upper x.lower (input.Tick now) e) joined.1
      (inner_input_keeps x x.upper x.lower (input.Tick now) e joined.0 joined.0.1 (inner_input_keeps x x.lower x.upper (input.Tick now) g joined.0 joined.0.0 h))

  begin_adjacencies_keep : (xs : List Adjacency) (g : Move) → AreJoined n xs → Keeps g.state → Keeps (events.begin_adjacencies Pin Segment c n open_of xs g).state
  begin_adjacencies_keep [] g joined h = h
  begin_adjacencies_keep (x ∷ xs) g joined h = begin_adjacencies_keep xs (begin_adjacency Pin Segment c n open_of 0 x g) joined.1 (begin_adjacency_keeps 0 x g joined.0 h)

  -- ---- events

  did_pick : (b : Bool) (h k : Happened) → (b ≡ true → Keeps h.state) → (b ≡ false → Keeps k.state) → Keeps (cond b h k).state
  did_pick true h k x y = x refl
  did_pick false h k x y = y refl

  module _ (s : Plant) (h : Keeps s) where
    open_did : (i holder : ℕ) → Keeps (events.open_peer Pin Segment c n open_of i holder s).state
    open_did i holder =
        did_pick (is_some (peer_row i n.peers)) (events.open_new Pin Segment c n open_of i holder s (s.accesses i).connection) (events.refused Pin Segment c n open_of NoSuchPeer s) (λ known. go known (s.accesses i).connection) (λ unknown. h)
      where
        go : is_some (peer_row i n.peers) ≡ true → (o : Option Connection) → Keeps (events.open_new Pin Segment c n open_of i holder s o).state
        go known None =
            outside_input_keeps i input.Begin (record { state = events.connect Pin Segment c n open_of i holder s; deeds = [] })
            (record { queues = h.queues; elements = h.elements; above = h.above; peers = access_set i _ s known h.peers })
        go known (Some x) = h

    shut_did : (i : ℕ) → Keeps (events.shut Pin Segment c n open_of i s).state
    shut_did i = go (s.accesses i).connection
      where
        go : (o : Option Connection) → Keeps (events.shut_open Pin Segment c n open_of i s o).state
        go None = h
        go (Some x) =
            let g = fall Pin Segment c n open_of (element_of n i) (Outside i) (record { state = s; deeds = [] }) in
            let h' = fall_keeps (element_of n i) (Outside i) (record { state = s; deeds = [] }) h in
            record { queues = h'.queues; elements = h'.elements; above = h'.above; peers = access_set i (record { opened = (s.accesses i).opened; connection = None }) g.state tt h'.peers }

    feed_did : (i : ℕ) (bytes : Bytes) → Keeps (events.feed Pin Segment c n open_of i bytes s).state
    feed_did i bytes = go (s.accesses i).connection
      where
        same : (b : Bool) (t : Plant) → Keeps t → Keeps (cond b s t)
        same true t k = h
        same false t k = k

        go : (o : Option Connection) → Keeps (events.feed_open Pin Segment c n open_of i bytes s o).state
        go None = h
        go (Some x) = same (is_down x.session.phase) (with_access Pin Segment c n open_of i (events.fed c bytes) s) (access_keeps i (events.fed c bytes) s h)

    take_did : (i : ℕ) → Keeps (events.take Pin Segment c n open_of i s).state
    take_did i = go (s.accesses i).connection
      where
        item : (inbox : List (Option Bytes)) → Keeps (events.take_item Pin Segment c n open_of i s inbox).state
        item [] = h
        item (x ∷ rest) =
            outside_input_keeps i (input_of c x) (record { state = with_access Pin Segment c n open_of i (with_inbox rest) s; deeds = [] }) (access_keeps i (with_inbox rest) s h)

        go : (o : Option Connection) → Keeps (events.take_open Pin Segment c n open_of i s o).state
        go None = h
        go (Some x) = item x.inbox

    carry_did : (a b : As) → Keeps (events.carry Pin Segment c n open_of a b s).state
    carry_did a b = did_pick (is_linked n a b) (events.carry_first Pin Segment c n open_of a b s (s.queues a b)) (events.refused Pin Segment c n open_of _ s) (λ linked. go linked (s.queues a b)) (λ apart. h)
      where
        go : is_linked n a b ≡ true → (q : List Bytes) → Keeps (events.carry_first Pin Segment c n open_of a b s q).state
        go linked [] = h
        go linked (x ∷ rest) =
            inner_input_keeps (adjacency a b) b a (input_of c (Some x)) (record { state = record s { queues = set_pair a b rest s.queues }; deeds = Pops a b ∷ [] }) (joined_adjacency n a b linked) (linked_swapped n a b linked)
            (record { queues = queue_set a b rest s.queues linked h.queues; elements = h.elements; above = h.above; peers = h.peers })

    break_did : (a b : As) → Keeps (events.break Pin Segment c n open_of a b s).state
    break_did a b =
        did_pick (is_linked n a b) (events.answered Pin Segment c n open_of _ (break_adjacency Pin Segment c n open_of (adjacency a b) (record { state = s; deeds = [] }))) (events.refused Pin Segment c n open_of _ s)
        (λ linked. break_adjacency_keeps (adjacency a b) (record { state = s; deeds = [] }) (joined_adjacency n a b linked) h) (λ apart. h)

    tick_did : (t : ℕ) → Keeps (events.tick Pin Segment c n open_of t s).state
    tick_did t =
        let now = events.later s.clock t in
        let g : Move = record { state = record s { clock = now }; deeds = [] } in
        let k = tick_adjacencies_keeps (adjacencies n) (record { 0 = now }) (tick_outside Pin Segment c n open_of 0 n.peers (record { 0 = now }) g) (joined_adjacencies n)
        (tick_outside_keeps 0 n.peers (record { 0 = now }) g (record { queues = h.queues; elements = h.elements; above = h.above; peers = h.peers })) in
        record { queues = k.queues; elements = λ d. record { rows = (k.elements d).rows; ways = (k.elements d).ways }; above = k.above; peers = k.peers }

    drain_did : (i holder : ℕ) → Keeps (events.drain Pin Segment c n open_of i holder s).state
    drain_did i holder = go (s.accesses i).connection
      where
        go : (o : Option Connection) → Keeps (events.drain_open Pin Segment c n open_of i holder s o).state
        go None = h
        go (Some x) = did_pick (x.holder == holder) _ (events.refused Pin Segment c n open_of _ s) (λ is. access_keeps i events.drained s h) (λ is. h)

    happens_keeps : (e : Event) (r : Happened) → Happens c n s e r → Keeps r.state
    happens_keeps (event.Load d g) r is =
        subst (λ (z : Happened). Keeps z.state) (sym is)
        (did_pick (is_element n d) _ _
        (λ yes. did_pick (is_full (s.current d).number (s.elements d).pending.rows) _ (load_new c n d g s) (λ full. h) (λ room. record { queues = h.queues; elements = h.elements; above = h.above; peers = h.peers })) (λ no'. h))
    happens_keeps (event.Open i holder) r is = subst (λ (z : Happened). Keeps z.state) (sym is) (open_did i holder)
    happens_keeps (event.Shut i) r is = subst (λ (z : Happened). Keeps z.state) (sym is) (shut_did i)
    happens_keeps (event.Feed i bytes) r is = subst (λ (z : Happened). Keeps z.state) (sym is) (feed_did i bytes)
    happens_keeps (event.Take i) r is = subst (λ (z : Happened). Keeps z.state) (sym is) (take_did i)
    happens_keeps (event.Carry a b) r is = subst (λ (z : Happened). Keeps z.state) (sym is) (carry_did a b)
    happens_keeps (event.Break a b) r is = subst (λ (z : Happened). Keeps z.state) (sym is) (break_did a b)
    happens_keeps (event.Tick t) r is = subst (λ (z : Happened). Keeps z.state) (sym is) (tick_did t.0)
    happens_keeps (event.Drain i holder) r is = subst (λ (z : Happened). Keeps z.state) (sym is) (drain_did i holder)
    happens_keeps (event.Solve d k) r (inl none) = subst (λ (z : Happened). Keeps z.state) (sym none.1) h
    happens_keeps (event.Solve d k) r (inr (inl none)) = subst (λ (z : Happened). Keeps z.state) (sym none.2) h
    happens_keeps (event.Solve d k) r (inr (inr (inl solves))) =
        let x = solves.1 in
        let t = commit c (place n d) (k, x.held) x.down s.clock (λ b. b.segment) (job_found x.rows.source_known x.rows.target_known x.rows.best) (s.elements d) in
        subst (λ (z : Happened). Keeps z.state) (sym x.is)
        (element_moves d t.element t.outputs s
        (lower.commit_reaches (IsHeard n d) (IsTold n d) (is_told n d) Pin Segment c (place n d) (k, x.held) x.down s.clock (λ b. b.segment) x.rows.source_known x.rows.target_known x.rows.best (s.elements d)
        (askers_under (IsHeard n d) (Item Pin) k (s.elements d).pending.rows x.held (h.elements d).rows x.is_held) (h.elements d)) h)
    happens_keeps (event.Solve d k) r (inr (inr (inr solves))) =
        let x = solves.2 in
        let t = parent.commit c (k, x.held) x.answer s.parent in
        subst (λ (z : Happened). Keeps z.state) (sym x.is)
        (parent_moves parent_as t.parent t.outputs s refl
        (upper.commit_reaches (IsHeard n parent_as) (IsTold n parent_as) (is_told n parent_as) c (k, x.held) x.answer s.parent
        (askers_under (IsHeard n parent_as) Asking k s.parent.pending.rows x.held h.above.rows x.is_held) h.above) h)

  -- ---- runs

  bare_keeps : Keeps (events.bare Pin Segment c n open_of first_pin)
  bare_keeps = record {
    queues = λ a b apart. refl;
    elements = λ d. record { rows = tt; ways = ways_append (IsTold n d) (inner_ways n d) (map outer_way (routes n d)) (along_told n d (adjacencies n) (joined_adjacencies n)) (outer_told n d (routes n d)) };
    above = record { rows = tt; ways = along_told n parent_as (adjacencies n) (joined_adjacencies n) };
    peers = λ i. tt;
  }

  pub run_keeps : (es : List Entry) (s : Plant) → Run c n es s → Keeps s
  run_keeps [] s is =
      subst Keeps (sym is) (begin_adjacencies_keep (adjacencies n) (record { state = events.bare Pin Segment c n open_of first_pin; deeds = [] }) (joined_adjacencies n) bare_keeps)
  run_keeps (e ∷ older) s run =
      let held = run_keeps older run.0 run.1 in
      elim run.3 [
        | inl is ↦ happens_keeps run.0 held e.event (record { answer = e.answer; state = s; deeds = e.deeds }) is
        | inr none ↦ subst (λ (z : Happened). Keeps z.state) (sym none.1) held
      ]
